use Rattle.std.proofs.Common.{◌≡◌, Some, sym, ap, ◌∙◌}
use Rattle.qn_polls.specs.Arbiter.{is_allowed_by, remembered_of}
use Rattle.qn_polls.proofs.Remembering.{gives_decides}
use Rattle.qn_polls.proofs.arbiter.Arbiter.would_agree.Goals as goal

pub returns : goal.returns
returns c = λ memory h.
    let poll = c.args.poll.now in
    let found : Some c.rank.result ≡ Some (remembered_of poll.from.0 memory.heard) = sym c.rank.ensures ∙ h.ranks poll.from.0 c.requires in
    let kept : c.rank.result ≡ remembered_of poll.from.0 memory.heard = cc in
    c.all_hold.ensures
    ∙ gives_decides c.args.self.now memory c.args.tick poll c.has_waited-has_waited.result c.allows-is_newest.result c.is_vote_left.result h
    c.has_waited-has_waited.ensures (c.allows-is_newest.ensures ∙ ap (λ k. is_allowed_by k poll) kept) c.is_vote_left.ensures

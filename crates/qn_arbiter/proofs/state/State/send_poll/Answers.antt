use Rattle.std.proofs.Common.{◌≡◌, ◌<◌, ◌+◌, ◌∷◌, ◌∙◌, Some, [], ap, arith, length, length-append, subst, sym}
use Rattle.std.specs.Prelude.{slice_get}
use Rattle.qn_base.specs.lemmas.Results.{ok_holds}
use Rattle.qn_safety.specs.Poller.{Poller}
use Rattle.qn_arbiter.specs.Whole.{Kept}
use Rattle.qn_arbiter.proofs.Quiet.{poll_few}
use Rattle.qn_arbiter.proofs.StepForms.{some_same}
use Rattle.qn_arbiter.proofs.state.State.send_poll.Goals as goal

pub next-poll-requires : goal.next-poll-requires
next-poll-requires c = poll_few c.args.self.now c.args.i c.requires.standing c.requires.formed

pub send-requires-clause-within : goal.send-requires-clause-within
send-requires-clause-within c = poll_few c.args.self.now c.args.i c.requires.standing c.requires.formed

pub send-requires-clause-few : goal.send-requires-clause-few
send-requires-clause-few c = λ poller there.
    let d = c.requires.standing.0 in
    let is = c.requires.standing.1 in
    let i = c.args.i.0 in
    let found : d.pollers i ≡ poller =
    some_same (d.pollers i) poller (sym (is.pollers.each i (poll_few c.args.self.now c.args.i c.requires.standing c.requires.formed))
    ∙ subst (λ (k : Kept). slice_get k.pollers i ≡ Some poller) c.self.view_is there) in
    let most = is.counts i in
    let same : length c.self.inside.polls.items ≡ length d.polls = ap length (ap (λ (k : Kept). k.polls) c.self.view_is ∙ is.polls) in
    let grown : length c.append.new.items.items ≡ length c.self.inside.polls.items + 1 =
    ap length (ok_holds c.append.result (sym c.is_err.ensures.value ∙ c.if-is_err.false) c.append.ensures.ok) ∙ length-append c.self.inside.polls.items (c.next-poll.result ∷ []) in
    let counted = c.len.ensures in
    let bound = c.len.type_inv in
    subst (λ (p : Poller). p.count < 18446744073709551615) found (omega arith)

use Rattle.std.proofs.Common.{◌≡◌, sym, ◌∙◌, arith}
use Rattle.qn_base.specs.lemmas.Ranges.{all_after_first, all_fails_at_first}
use Rattle.qn_polls.specs.Arbiter.{leaves_vote_at}
use Rattle.qn_polls.proofs.Places.{all_at_end}
use Rattle.qn_polls.proofs.arbiter.Arbiter.is_vote_left.Goals as goal

pub loop-rank-preserved : goal.loop-rank-preserved
loop-rank-preserved c =
    all_after_first (leaves_vote_at c.args.self.now c.args.tick c.args.poll.now) c.loop-rank.rank 32 _ (omega arith)
    (sym c.leaves_vote.ensures ∙ c.if-not-leaves_vote.false) c.loop-rank.invariant

pub returns-then-not-leaves_vote : goal.returns-then-not-leaves_vote
returns-then-not-leaves_vote c =
    sym (all_fails_at_first (leaves_vote_at c.args.self.now c.args.tick c.args.poll.now) c.loop-rank.rank 32 _ (omega arith)
    (sym c.leaves_vote.ensures ∙ c.if-not-leaves_vote.true) c.loop-rank.invariant)

pub returns : goal.returns
returns c =
    let ended : c.loop-rank.rank ≡ 32 = let past = c.loop-rank-test.false in let within = c.loop-rank.auto.rank-end in omega arith in
    sym (all_at_end (leaves_vote_at c.args.self.now c.args.tick c.args.poll.now) c.loop-rank.rank _ ended c.loop-rank.invariant)

use Rattle.qn_replay.proofs.Forced.{next_is}
use Rattle.qn_replay.proofs.generator.Gen.next_into.Goals as goal

pub returns-clause-drawn : goal.returns-clause-drawn
returns-clause-drawn c =
    λ d stands. next_is d c.args.self.now _ _ _ (c.candidate.ensures.drawn d stands) (c.keep_or_replace.ensures.drawn d stands)

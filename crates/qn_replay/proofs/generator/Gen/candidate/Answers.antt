use Rattle.qn_replay.proofs.Forced.{candidate_is}
use Rattle.qn_replay.proofs.generator.Gen.candidate.Goals as goal

pub returns-clause-drawn : goal.returns-clause-drawn
returns-clause-drawn c =
    λ d stands.
    candidate_is d c.args.self.now c.draw.new.self c.draw-2.new.self c.draw.result c.draw-2.result _ _ c.of-choice.result c.draw.ensures.state c.draw.ensures.value
    c.draw-2.ensures.state c.draw-2.ensures.value c.of-choice.ensures (c.chosen_event.ensures.drawn d stands)

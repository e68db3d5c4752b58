use Rattle.qn_replay.specs.declared.choice.Choice.TheVariants as kind
use Rattle.qn_replay.proofs.Choices.{pass_drawn}
use Rattle.qn_replay.proofs.generator.Gen.pass_of.Goals as goal

pub returns-clause-drawn : goal.returns-clause-drawn
returns-clause-drawn c =
    λ d stands.
    pass_drawn d kind.Pass (record { 0 = 0 }) c.args.self.now _ c.pending-first.result c.pending-second.result c.pending-third.result c.requires
    (c.pending-first.ensures d stands) (c.pending-second.ensures d stands) (c.pending-third.ensures d stands) c.set_pass.ensures.drawn

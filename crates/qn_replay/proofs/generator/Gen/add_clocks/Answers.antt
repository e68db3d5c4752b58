use Rattle.qn_replay.proofs.Clocks.{clocks_are}
use Rattle.qn_replay.proofs.generator.Gen.add_clocks.Goals as goal

pub returns : goal.returns
returns c =
    clocks_are c.args.first c.args.second c.args.third c.args.dt c.args.self.now c.args.clocks.now _ _ _ c.requires.none c.add_clock.ensures.drawn
    c.add_clock-2.ensures.drawn c.add_clock-3.ensures.drawn

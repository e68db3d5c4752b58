use Rattle.std.proofs.Common.{refl, ap, ◌∙◌, ◌+◌, ◌%◌}
use Rattle.qn_model.specs.Rules.{is_well_formed}
use Rattle.qn_replay.specs.Draws.{next_state}
use Rattle.qn_replay.specs.Generator.{soak_settings}
use Rattle.qn_replay.proofs.Clocks.{pass_formed, pass_is}
use Rattle.qn_replay.proofs.generator.Gen.pass.Goals as goal

pub returns-in-Pass-clause-drawn : goal.returns-in-Pass-clause-drawn
returns-in-Pass-clause-drawn c =
    pass_is c.args.first c.args.second c.args.third c.args.self.now c.draw.new.self c.draw.result (1 + c.draw.result % 400) _ c.draw.ensures.state
    c.draw.ensures.value refl c.add_clocks.ensures

pub returns-in-Pass-clause-formed : goal.returns-in-Pass-clause-formed
returns-in-Pass-clause-formed c =
    ap (λ d. is_well_formed soak_settings d.event) (returns-in-Pass-clause-drawn c)
    ∙ pass_formed c.args.first c.args.second c.args.third (next_state c.args.self.now)

pub returns-in_default : goal.returns-in_default
returns-in_default c =
    let drawn = pass_is c.args.first c.args.second c.args.third c.args.self.now c.draw.new.self c.draw.result (1 + c.draw.result % 400) _ c.draw.ensures.state
    c.draw.ensures.value refl c.add_clocks-in_default.ensures in
    record {
      drawn = drawn;
      formed = ap (λ d. is_well_formed soak_settings d.event) drawn ∙ pass_formed c.args.first c.args.second c.args.third (next_state c.args.self.now);
    }

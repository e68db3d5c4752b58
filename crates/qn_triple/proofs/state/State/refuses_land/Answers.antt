use Rattle.std.proofs.Common.{◌∙◌, ◌&&◌, ap}
use Rattle.std.specs.Prelude.{is_some}
use Rattle.qn_model.specs.Rules.{unless}
use Rattle.qn_safety.specs.TripleRules.{may_land_on}
use Rattle.qn_safety.specs.TripleWorld.{is_pending, op_of}
use Rattle.qn_triple.proofs.state.State.refuses_land.Goals as goal

pub returns : goal.returns
returns c = λ d is.
    c.unless_off.ensures d (unless (may_land_on c.args.self.now.settings c.args.i.0 c.args.image d) 4) is (λ on.
    c.unless.ensures ∙ ap (λ b. unless b 4) (c.may_land-may.ensures
    ∙ (ap (λ op. is_some op && is_pending c.part.result) (c.op.ensures.exact d is on) ∙ ap (λ part. is_some (op_of c.args.self.now.settings c.args.i.0 d) && is_pending part) (c.part.ensures d is))))

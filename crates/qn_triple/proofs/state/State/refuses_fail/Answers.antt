use Rattle.std.proofs.Common.{◌∙◌, ◌&&◌, not, ap}
use Rattle.std.specs.Prelude.{is_some}
use Rattle.qn_model.specs.Rules.{unless}
use Rattle.qn_safety.specs.TripleRules.{may_fail_on}
use Rattle.qn_safety.specs.TripleWorld.{has_failed, op_of}
use Rattle.qn_triple.proofs.state.State.refuses_fail.Goals as goal

pub returns : goal.returns
returns c = λ d is.
    c.unless_off.ensures d (unless (may_fail_on c.args.self.now.settings c.args.i.0 c.args.image d) 5) is (λ on.
    c.unless.ensures ∙ ap (λ b. unless b 5) (c.may_fail-may.ensures
    ∙ (ap (λ op. is_some op && not (has_failed c.part.result)) (c.op.ensures.exact d is on) ∙ ap (λ part. is_some (op_of c.args.self.now.settings c.args.i.0 d) && not (has_failed part)) (c.part.ensures d is))))

use Rattle.std.proofs.Common.{◌∙◌, ◌&&◌, ap}
use Rattle.std.specs.Prelude.{is_some}
use Rattle.qn_model.specs.Rules.{unless}
use Rattle.qn_safety.specs.TripleRules.{may_be_done_triple}
use Rattle.qn_safety.specs.TripleWorld.{op_of}
use Rattle.qn_triple.proofs.state.State.refuses_done.Goals as goal

pub returns : goal.returns
returns c = λ d is.
    c.unless_off.ensures d (unless (may_be_done_triple c.args.self.now.settings c.args.i.0 d) 5) is (λ on.
    c.unless.ensures ∙ ap (λ b. unless b 5) (c.may_be_done-may.ensures
    ∙ (ap (λ op. is_some op && c.none_pending.result) (c.op.ensures.exact d is on) ∙ ap (λ settled. is_some (op_of c.args.self.now.settings c.args.i.0 d) && settled) (c.none_pending.ensures d is))))

use Rattle.std.proofs.Common.{◌∙◌, ◌&&◌, ap}
use Rattle.std.specs.Prelude.{is_some}
use Rattle.qn_model.specs.World.{op_at}
use Rattle.qn_world.proofs.EventSteps.{took_same}
use Rattle.qn_world.proofs.state.State.may_be_done.Goals as goal

pub returns : goal.returns
returns c d is on =
    let took_is = took_same c.args.self.now c.args.i.0 c.took-took.result c.requires.few c.took-took.ensures d is in
    c.has_landed.ensures
    ∙ (ap (λ op. is_some op && is_some c.took-took.result) (c.op-op.ensures.exact d is on)
    ∙ ap (λ took. is_some (op_at c.args.self.now.settings c.args.i.0 d) && is_some took) took_is)

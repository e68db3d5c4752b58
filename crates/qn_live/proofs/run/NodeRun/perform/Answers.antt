use Rattle.std.proofs.Common.{◌≡◌, ap, subst, ◌∙◌}
use Rattle.qn_model.specs.declared.outputs.Out.TheVariants as out
use Rattle.qn_live.specs.declared.place.Place.{Place}
use Rattle.qn_live.specs.declared.place.Place.TheVariants as place
use Rattle.qn_live.specs.Machine.{HasMore, acting, left_at, state_of}
use Rattle.qn_live.proofs.Joining.{acting_more, left_call, stands_too}
use Rattle.qn_live.proofs.OperationCalls.{acted, op_found}
use Rattle.qn_live.proofs.run.NodeRun.perform.Goals as goal

pub returns-in-Act-clause-runs : goal.returns-in-Act-clause-runs
returns-in-Act-clause-runs c = λ plan op call h is answers.
    let run = c.args.self.now in
    let at = c.in-Act.at in
    let P : Place → Type 0 = λ p. HasMore run.settings run.me.0 run.outs p in
    let more : HasMore run.settings run.me.0 run.outs (place.Act at) = subst P c.in-Act.is h.more in
    let found = op_found run at op c.in-Act.is is in
    let left_now : plan ≡ acting run (state_of run h.log) at = h.is_left ∙ ap (λ p. left_at run h.log p) c.in-Act.is in
    stands_too (left_call call (left_now ∙ acting_more run (state_of run h.log) at (out.Disk op) found) ∙ acted run h.log at op call _ answers)
    (c.act.ensures.runs h.log h.stands more.2)

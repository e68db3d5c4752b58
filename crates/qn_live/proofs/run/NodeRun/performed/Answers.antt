use Rattle.std.proofs.Common.{◌≡◌, sym, ap, ◌∙◌, ◌+◌}
use Rattle.qn_base.specs.Calls.{blank}
use Rattle.qn_model.specs.declared.outputs.Out.{Out}
use Rattle.qn_live.specs.declared.place.Waits.{Waits}
use Rattle.qn_live.specs.Decoding.{decoded_out}
use Rattle.qn_live.specs.Machine.{acting, state_of}
use Rattle.qn_live.specs.Performing.{out_call, own_number, waits_after}
use Rattle.qn_live.proofs.Joining.{stands_too}
use Rattle.qn_live.proofs.run.NodeRun.performed.Goals as goal

pub returns-clause-runs : goal.returns-clause-runs
returns-clause-runs c = λ log out call stands ranks found tells asked.
    let run = c.args.self.now in
    let same : c.get-out.result ≡ out = cc in
    let number = own_number log in
    let same_call : blank call ≡ out_call run.settings run.me.0 number c.get-out.result =
    asked ∙ ap (λ o. out_call run.settings run.me.0 number o) (sym same) in
    let waits : c.waits_after-after.result.0 ≡ waits_after run.settings out call run.waits =
    c.waits_after-after.ensures.waits call run.me.0 number tells same_call ∙ ap (λ o. waits_after run.settings o call run.waits) same in
    stands_too
    (ap (λ (w : Waits). acting run (record (state_of run log) { waits = w }) (c.args.at + 1)) (sym waits))
    (c.act.ensures.runs log stands ranks)

pub returns-clause-decoded : goal.returns-clause-decoded
returns-clause-decoded c = λ out found.
    let same : c.get-out.result ≡ out = cc in
    c.waits_after-after.ensures.decoded ∙ ap (λ (o : Out). decoded_out o c.args.given c.args.room.now) same

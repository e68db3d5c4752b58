use Rattle.std.proofs.Common.{Err, ap, sym}
use Rattle.qn_commands.specs.Commands.Message.{message_end, message_work}
use Rattle.qn_commands.specs.Faults.{fault_line, status_of}
use Rattle.qn_commands.specs.Works.{Last, refusal}
use Rattle.qn_commands.proofs.ImageEnds.{message_refused, message_said}
use Rattle.qn_commands.specs.WorkSteps.{plan_then_last}
use Rattle.qn_commands.proofs.commands.message.send.Goals as goal

pub returns-in-Ok : goal.returns-in-Ok
unfolding message_work
returns-in-Ok g c = λ input.
    let ends = message_said input _ _ _ _ _ c.say.ensures.sink_faults c.in-Ok.ensures.env_faults c.say.ensures.write_fault c.say.ensures.own in
    record {
      works = plan_then_last (message_end c.args.id c.args.kind) input _ _ _ _ c.sent_text.result 0 _ c.in-Ok.ensures.did (ap (λ t. Last t 0) (sym c.sent_text.ensures)) c.say.ensures.says;
      complete = ends.complete;
      statuses = ends.statuses;
      causes = ends.causes;
    }

pub returns-in-Err : goal.returns-in-Err
unfolding message_work
returns-in-Err g c = λ input.
    let ends = message_refused input _ _ _ _ _ c.refuse.ensures.sink_faults c.in-Err.ensures.env_faults c.refuse.ensures.write_fault
    c.args.id c.in-Err.fault c.message_fault.result c.message_fault.ensures c.in-Err.ensures.faults (λ disk. c.in-Err.ensures.disk (ap Err disk)) c.refuse.ensures.own in
    record {
      works = plan_then_last (message_end c.args.id c.args.kind) input _ _ _ _ (fault_line c.message_fault.result) (status_of c.message_fault.result) _ c.in-Err.ensures.did (ap refusal (sym c.message_fault.ensures)) c.refuse.ensures.refuses;
      complete = ends.complete;
      statuses = ends.statuses;
      causes = ends.causes;
    }

use Rattle.std.proofs.Common.{Err, ap, sym}
use Rattle.qn_commands.specs.Commands.Dump.{dump_end, dump_work}
use Rattle.qn_commands.specs.Faults.{fault_line, status_of}
use Rattle.qn_commands.specs.Works.{Last, refusal}
use Rattle.qn_commands.proofs.ImageEnds.{image_refused, image_said}
use Rattle.qn_commands.specs.WorkSteps.{plan_then_last}
use Rattle.qn_commands.proofs.commands.dump.dump.Goals as goal

pub returns-in-Ok : goal.returns-in-Ok
unfolding dump_work
returns-in-Ok g c = λ input.
    let ends = image_said input _ _ _ _ _ c.say.ensures.sink_faults c.in-Ok.ensures.env_faults c.say.ensures.write_fault c.say.ensures.own in
    record {
      works = plan_then_last dump_end input _ _ _ _ c.dump_text.result 0 _ c.in-Ok.ensures.did (ap (λ t. Last t 0) (sym c.dump_text.ensures)) c.say.ensures.says;
      complete = ends.complete;
      statuses = ends.statuses;
      causes = ends.causes;
    }

pub returns-in-Err : goal.returns-in-Err
unfolding dump_work
returns-in-Err g c = λ input.
    let ends = image_refused input _ _ _ _ _ c.refuse.ensures.sink_faults c.in-Err.ensures.env_faults c.refuse.ensures.write_fault
    c.in-Err.fault c.of_disk.result c.of_disk.ensures c.in-Err.ensures.faults (λ disk. c.in-Err.ensures.disk (ap Err disk)) c.refuse.ensures.own in
    record {
      works = plan_then_last dump_end input _ _ _ _ (fault_line c.of_disk.result) (status_of c.of_disk.result) _ c.in-Err.ensures.did (ap refusal (sym c.of_disk.ensures)) c.refuse.ensures.refuses;
      complete = ends.complete;
      statuses = ends.statuses;
      causes = ends.causes;
    }

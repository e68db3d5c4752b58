use Rattle.std.proofs.Common.{Err, ap, sym, arith}
use Rattle.qn_base.specs.Rising.{HasRisen-within}
use Rattle.qn_commands.specs.Commands.List.{list_end, list_work}
use Rattle.qn_commands.specs.Faults.{fault_line, status_of}
use Rattle.qn_commands.specs.Works.{refusal}
use Rattle.qn_commands.proofs.ImageEnds.{image_ends, image_refused}
use Rattle.qn_commands.specs.WorkSteps.{plan_then_last, plan_then_work}
use Rattle.qn_commands.proofs.commands.list.list.Goals as goal

pub returns-in-Ok : goal.returns-in-Ok
unfolding list_work
returns-in-Ok g c = λ input.
    let ends = image_ends input _ _ _ _ _ c.list_ranks.ensures.sink_faults (omega arith) c.list_ranks.ensures.write_fault c.list_ranks.ensures.outcomes
    (λ eight. HasRisen-within _ _ _ _ c.in-Ok.ensures.env_faults c.list_ranks.ensures.env_faults (omega arith) (c.list_ranks.ensures.env_fault eight)) in
    record {
      works = plan_then_work list_end input _ _ _ _ _ _ c.in-Ok.ensures.did (c.list_ranks.ensures.works input);
      complete = ends.complete;
      statuses = ends.statuses;
      causes = ends.causes;
    }

pub returns-in-Err : goal.returns-in-Err
unfolding list_work
returns-in-Err g c = λ input.
    let ends = image_refused input _ _ _ _ _ c.refuse.ensures.sink_faults c.in-Err.ensures.env_faults c.refuse.ensures.write_fault
    c.in-Err.fault c.of_disk.result c.of_disk.ensures c.in-Err.ensures.faults (λ disk. c.in-Err.ensures.disk (ap Err disk)) c.refuse.ensures.own in
    record {
      works = plan_then_last list_end input _ _ _ _ (fault_line c.of_disk.result) (status_of c.of_disk.result) _ c.in-Err.ensures.did (ap refusal (sym c.of_disk.ensures)) c.refuse.ensures.refuses;
      complete = ends.complete;
      statuses = ends.statuses;
      causes = ends.causes;
    }

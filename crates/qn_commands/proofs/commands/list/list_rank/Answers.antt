use Rattle.std.proofs.Common.{ap, sym, ◌∙◌, refl, subst, ℕ, List}
use Rattle.std.specs.Io.KnownBytes.{append_known}
use Rattle.qn_commands.specs.Faults.{fault_line, status_of}
use Rattle.qn_commands.specs.ImageTexts.{list_line}
use Rattle.qn_commands.specs.Commands.List.{after_line}
use Rattle.qn_commands.specs.Works.{refusal}
use Rattle.qn_io.specs.Writes.{AppendsFront}
use Rattle.qn_commands.specs.WorkSteps.{plan_then_cut, plan_then_last}
use Rattle.qn_commands.proofs.commands.list.list_rank.Goals as goal

pub returns-in-Ok-put_all-clause-listed : goal.returns-in-Ok-put_all-clause-listed
returns-in-Ok-put_all-clause-listed g c = λ input. record {
  line = (c.in-Ok.id, c.in-Ok.slot, c.in-Ok.mail);
  carries = c.in-Ok.ensures.did;
  wrote = c.in-Ok-put_all.ensures.whole ∙ ap (append_known (g.O.Sink.written c.args.out.now)) (c.as_slice.ensures ∙ c.list_line-text.ensures);
}

pub returns-in-Err-put_all-clause-stopped : goal.returns-in-Err-put_all-clause-stopped
returns-in-Err-put_all-clause-stopped g c = λ input. record {
  stops = λ others.
      plan_then_cut (after_line others) input _ _ _ _ (list_line (c.in-Ok.id, c.in-Ok.slot, c.in-Ok.mail)) others c.in-Ok.ensures.did refl c.in-Err-put_all.ensures.cause
      (subst (λ (t : List ℕ). AppendsFront (g.O.Sink.written c.args.out.now) (g.O.Sink.written c.put_all.new.out) t) (c.as_slice.ensures ∙ c.list_line-text.ensures) c.in-Err-put_all.ensures.front);
}

pub returns-in-Err-clause-stopped : goal.returns-in-Err-clause-stopped
returns-in-Err-clause-stopped g c = λ input. record {
  stops = λ others.
      plan_then_last (after_line others) input _ _ _ _ (fault_line c.of_disk.result) (status_of c.of_disk.result) _ c.in-Err.ensures.did (ap refusal (sym c.of_disk.ensures)) c.refuse.ensures.refuses;
}

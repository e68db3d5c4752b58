-- The record of a run of `audit`.
use Rattle.std.proofs.Common.{◌≡◌, ◌≢◌, ◌⊎◌, inl, inr, ℕ, List, [], ◌∷◌, Option, None, Some, IfSome, refl, sym, ap, ◌∙◌, subst, arith}
use Rattle.std.specs.Io.KnownBytes.{append_known}
use Rattle.qn_audit.specs.declared.audit_end.AuditEnd.{AuditEnd}
use Rattle.qn_audit.specs.declared.audit_end.AuditEnd.TheVariants as ended
use Rattle.qn_audit.specs.Deciding.{input_of}
use Rattle.qn_audit.specs.InputLaws.{IsGood, good_read, of_all_bytes, unread}
use Rattle.qn_audit.specs.Inputs.{AuditEnds}
use Rattle.qn_base.specs.declared.ids.NodeId.{NodeId}
use Rattle.qn_conf.specs.declared.faults.ConfFault.{ConfFault}
use Rattle.qn_conf.specs.declared.faults.ConfFault.TheVariants as conf
use Rattle.qn_model.specs.Lines.{Ended}
use Rattle.qn_running.specs.declared.commands.audit.AuditWords.{AuditWords}
use Rattle.qn_commands.specs.declared.status.Status.TheVariants.{Done, BadConf, BadSchedule, ReadFault, WriteFault, NoMemory, UnknownNode, NotARun}
use Rattle.qn_running.specs.Commands.Audit.{AnswersAll, Audits, AuditsLog, ReadsLog, audit_outcome, audited_run}
use Rattle.qn_commands.specs.Endings.{Cut, Says, Whole}
use Rattle.qn_commands.specs.Faults.{conf_status}
use Rattle.qn_commands.specs.Seen.{NeverFall, ReadFails, Seen, WriteFails}
use Rattle.qn_commands.specs.Statuses.{IsOneOf}

-- ## The status of an end

-- how an audit ends whose line could be written
abbrev OwnStatus : ℕ → Type 0
OwnStatus own = IsOneOf (Done ∷ BadConf ∷ BadSchedule ∷ UnknownNode ∷ NotARun ∷ []) own ⊎ ((own ≡ 6) ⊎ (own ≡ 11))

conf_own : (why : ConfFault) → OwnStatus (conf_status why)
conf_own (conf.BadLine line) = inl (inr (inl refl))
conf_own conf.Unclosed = inl (inr (inl refl))
conf_own (conf.ExtraClose line) = inl (inr (inl refl))
conf_own (conf.TooDeep line) = inl (inr (inl refl))
conf_own conf.NotText = inl (inr (inl refl))
conf_own conf.TooLong = inl (inr (inl refl))
conf_own conf.NoMemory = inr (inr refl)

own_of : (id : NodeId) (end : AuditEnd) → OwnStatus (audit_outcome id end).status
own_of id (ended.Whole turns) = inl (inl refl)
own_of id (ended.Prefix turns) = inl (inl refl)
own_of id (ended.NotARun line) = inl (inr (inr (inr (inr refl))))
own_of id ended.UnknownNode = inl (inr (inr (inr (inl refl))))
own_of id (ended.BadConf why) = conf_own why
own_of id (ended.BadSettings why) = inl (inr (inl refl))
own_of id (ended.BadSchedule line why) = inl (inr (inr (inl refl)))
own_of id ended.ReadFault = inr (inl refl)
own_of id ended.NoMemory = inr (inr refl)

not_six : (why : ConfFault) → conf_status why ≡ 6 → ⊥
not_six (conf.BadLine line) six = omega arith
not_six conf.Unclosed six = omega arith
not_six (conf.ExtraClose line) six = omega arith
not_six (conf.TooDeep line) six = omega arith
not_six conf.NotText six = omega arith
not_six conf.TooLong six = omega arith
not_six conf.NoMemory six = omega arith

-- status 6 is that of a failed read
six_reads : (id : NodeId) (end : AuditEnd) → (audit_outcome id end).status ≡ 6 → end ≡ ended.ReadFault
six_reads id (ended.Whole turns) six = absurd (omega arith)
six_reads id (ended.Prefix turns) six = absurd (omega arith)
six_reads id (ended.NotARun line) six = absurd (omega arith)
six_reads id ended.UnknownNode six = absurd (omega arith)
six_reads id (ended.BadConf why) six = absurd (not_six why six)
six_reads id (ended.BadSettings why) six = absurd (omega arith)
six_reads id (ended.BadSchedule line why) six = absurd (omega arith)
six_reads id ended.ReadFault six = refl
six_reads id ended.NoMemory six = absurd (omega arith)

not_zero : (why : ConfFault) → conf_status why ≡ 0 → ⊥
not_zero (conf.BadLine line) zero = omega arith
not_zero conf.Unclosed zero = omega arith
not_zero (conf.ExtraClose line) zero = omega arith
not_zero (conf.TooDeep line) zero = omega arith
not_zero conf.NotText zero = omega arith
not_zero conf.TooLong zero = omega arith
not_zero conf.NoMemory zero = omega arith

-- status 0 is that of a whole run and of the beginning of one
zero_good : (id : NodeId) (end : AuditEnd) → (audit_outcome id end).status ≡ 0 → IsGood end
zero_good id (ended.Whole turns) zero = tt
zero_good id (ended.Prefix turns) zero = tt
zero_good id (ended.NotARun line) zero = absurd (omega arith)
zero_good id ended.UnknownNode zero = absurd (omega arith)
zero_good id (ended.BadConf why) zero = absurd (not_zero why zero)
zero_good id (ended.BadSettings why) zero = absurd (omega arith)
zero_good id (ended.BadSchedule line why) zero = absurd (omega arith)
zero_good id ended.ReadFault zero = absurd (omega arith)
zero_good id ended.NoMemory zero = absurd (omega arith)

-- ## The record

module _ (words : AuditWords) (before after : Seen) (code : ℕ) where
  module _ (run : AuditsLog words before after code) (never_fall : NeverFall before after) where
    own_fails : OwnStatus code ⊎ ((code ≡ 7) × WriteFails before.output after.output)
    own_fails = of_says run.says
      where
        of_says : Says (audit_outcome words.id run.end).text (audit_outcome words.id run.end).status before.output after.output code
            → OwnStatus code ⊎ ((code ≡ 7) × WriteFails before.output after.output)
        of_says (Whole is whole) = inl (subst OwnStatus (sym is) (own_of words.id run.end))
        of_says (Cut is fails front) = inr (is, fails)

    is_own : code ≢ 7 → code ≡ (audit_outcome words.id run.end).status
    is_own other = of_says run.says
      where
        of_says : Says (audit_outcome words.id run.end).text (audit_outcome words.id run.end).status before.output after.output code
            → code ≡ (audit_outcome words.id run.end).status
        of_says (Whole is whole) = is
        of_says (Cut is fails front) = absurd (other is)

    read_fails : code ≡ 6 → ReadFails before.input after.input
    read_fails six = unread (audited_run words) run.judges (six_reads words.id run.end (sym (is_own (λ seven. omega arith)) ∙ six))

    reads_log : code ≡ 0 → ReadsLog words before.input after.input code
    reads_log zero =
        let own = is_own (λ seven. omega arith) in
        let all = good_read (audited_run words) run.judges (zero_good words.id run.end (sym own ∙ zero)) in
        record { read = all.read; takes = all.takes; at_end = all.at_end; end = run.end; ends = all.ends; is = own }

    answers_all : code ≢ 11 → ¬ ReadFails before.input after.input → ¬ WriteFails before.output after.output
        → IfSome before.input.left (λ bytes. AnswersAll words bytes before.output after.output code)
    answers_all memory no_read no_write = of_says run.says
      where
        of_bytes : (left : Option (List ℕ)) → IfSome left (λ bytes. AuditEnds (audited_run words) run.end (input_of Ended bytes)) → code ≡ (audit_outcome words.id run.end).status
            → after.output.written ≡ append_known before.output.written (audit_outcome words.id run.end).text
            → IfSome left (λ bytes. AnswersAll words bytes before.output after.output code)
        of_bytes None ends is whole = tt
        of_bytes (Some bytes) ends is whole = record { end = run.end; ends = ends; is = is; writes = whole }

        of_says : Says (audit_outcome words.id run.end).text (audit_outcome words.id run.end).status before.output after.output code
            → IfSome before.input.left (λ bytes. AnswersAll words bytes before.output after.output code)
        of_says (Whole is whole) =
            of_bytes before.input.left
            (of_all_bytes (audited_run words) run.judges no_read (λ wanted. memory (is ∙ ap (λ (e : AuditEnd). (audit_outcome words.id e).status) wanted))) is whole
        of_says (Cut is fails front) = absurd (no_write fails)

    done_of : OwnStatus code ⊎ ((code ≡ 7) × WriteFails before.output after.output) → code ≢ 11 → ¬ ReadFails before.input after.input
        → ¬ WriteFails before.output after.output → IsOneOf (Done ∷ BadConf ∷ BadSchedule ∷ UnknownNode ∷ NotARun ∷ []) code
    done_of (inl (inl own)) memory no_read no_write = own
    done_of (inl (inr (inl six))) memory no_read no_write = absurd (no_read (read_fails six))
    done_of (inl (inr (inr eleven))) memory no_read no_write = absurd (memory eleven)
    done_of (inr failed) memory no_read no_write = absurd (no_write failed.1)

    one_of : OwnStatus code ⊎ ((code ≡ 7) × WriteFails before.output after.output)
        → IsOneOf (Done ∷ BadConf ∷ BadSchedule ∷ ReadFault ∷ WriteFault ∷ NoMemory ∷ UnknownNode ∷ NotARun ∷ []) code
    one_of (inl (inl (inl zero))) = inl zero
    one_of (inl (inl (inr (inl three)))) = inr (inl three)
    one_of (inl (inl (inr (inr (inl four))))) = inr (inr (inl four))
    one_of (inl (inl (inr (inr (inr (inl unknown)))))) = inr (inr (inr (inr (inr (inr (inl unknown))))))
    one_of (inl (inl (inr (inr (inr (inr no_run)))))) = inr (inr (inr (inr (inr (inr (inr no_run))))))
    one_of (inl (inr (inl six))) = inr (inr (inr (inl six)))
    one_of (inl (inr (inr eleven))) = inr (inr (inr (inr (inr (inl eleven)))))
    one_of (inr failed) = inr (inr (inr (inr (inl failed.0))))

    fails_of : OwnStatus code ⊎ ((code ≡ 7) × WriteFails before.output after.output) → code ≡ 7 → WriteFails before.output after.output
    fails_of (inl own) seven = absurd (grind arith)
    fails_of (inr failed) seven = failed.1

    no_call : OwnStatus code ⊎ ((code ≡ 7) × WriteFails before.output after.output) → code ≢ 8
    no_call (inl own) eight = grind arith
    no_call (inr failed) eight = let seven = failed.0 in omega arith

    -- all that a run of `audit` promises
    pub audits : Audits words before after code
    audits = record {
      ran = run;
      read = reads_log;
      answers = answers_all;
      complete = done_of own_fails;
      statuses = one_of own_fails;
      causes = record {
        never_fall = never_fall;
        read_fault = read_fails;
        write_fault = fails_of own_fails;
        env_fault = λ eight. absurd (no_call own_fails eight);
      };
    }

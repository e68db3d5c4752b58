-- The work of `arbiter`, and the record of its runs.
use Rattle.std.proofs.Common.{◌≡◌, ◌⊎◌, inl, inr, ℕ, true, false, List, [], ◌∷◌, Option, None, Some, Ok, Err, refl, sym, ap, ◌∙◌, arith}
use Rattle.std.specs.Option.{option_map_or}
use Rattle.qn_base.specs.Plans.{Made}
use Rattle.qn_base.specs.PlanSteps.{made_then}
use Rattle.qn_leases.specs.declared.arbiter_end.ArbiterEnd.{ArbiterEnd}
use Rattle.qn_leases.specs.Serving.{arbiter_plan}
use Rattle.qn_model.specs.declared.configuration.Device.{Device}
use Rattle.qn_model.specs.declared.configuration.Settings.{Settings}
use Rattle.qn_polls.specs.Times.{times_of}
use Rattle.qn_safety.specs.Arbiter.{Memory}
use Rattle.qn_arbitrating.specs.declared.command.ArbiterWords.{ArbiterWords}
use Rattle.qn_commands.specs.declared.fault.Fault.{Fault}
use Rattle.qn_commands.specs.declared.fault.Fault.TheVariants.{EnvFault, NoArbiter}
use Rattle.qn_commands.specs.declared.status.Status.TheVariants as status
use Rattle.qn_commands.specs.Endings.{Refuses, Says}
use Rattle.qn_commands.specs.Faults.{fault_line, status_of}
use Rattle.qn_commands.specs.InputSettings.{Judges, input_settings}
use Rattle.qn_commands.specs.Seen.{Input, NeverFall, Output, Outside, ReadFails, Seen, WriteFails, seen}
use Rattle.qn_commands.specs.SettingsLaws.{IsSettingsStatus, own_status, wanted_of}
use Rattle.qn_commands.specs.Statuses.{IsOneOf}
use Rattle.qn_commands.specs.WorkSteps.{last_alone, plan_then_last, recast}
use Rattle.qn_commands.specs.Works.{Carries, Works, refusal}
use Rattle.qn_arbitrating.specs.Arbitrating.{FailsToListen, RunsArbiter, arbiter_end, arbiter_opening, arbiter_outcome, arbiter_work, listening_work, serving_work}

-- how it ends once the settings are read
abbrev pub RanStatus : ℕ → Type 0
RanStatus code = IsOneOf (status.Done ∷ status.BadConf ∷ status.WriteFault ∷ status.EnvFault ∷ status.ClockBack ∷ []) code

abbrev ArbiterStatus : ℕ → Type 0
ArbiterStatus code = IsOneOf (status.Done ∷ status.BadConf ∷ status.ReadFault ∷ status.WriteFault ∷ status.EnvFault ∷ status.NoMemory ∷ status.ClockBack ∷ []) code

ran_status : (code : ℕ) → RanStatus code → ArbiterStatus code
ran_status code (inl done) = inl done
ran_status code (inr (inl three)) = inr (inl three)
ran_status code (inr (inr (inl seven))) = inr (inr (inr (inl seven)))
ran_status code (inr (inr (inr (inl eight)))) = inr (inr (inr (inr (inl eight))))
ran_status code (inr (inr (inr (inr back)))) = inr (inr (inr (inr (inr (inr back)))))

not_ran : (code : ℕ) → RanStatus code → (code ≡ 6) ⊎ (code ≡ 11) → ⊥
not_ran code one_of (inl six) = grind arith
not_ran code one_of (inr eleven) = grind arith

refused_status : (code own : ℕ) → IsSettingsStatus own → (code ≡ own) ⊎ (code ≡ 7) → ArbiterStatus code
refused_status code own (inl three) (inl same) = inr (inl (same ∙ three))
refused_status code own (inr (inl six)) (inl same) = inr (inr (inl (same ∙ six)))
refused_status code own (inr (inr eleven)) (inl same) = inr (inr (inr (inr (inr (inl (same ∙ eleven))))))
refused_status code own which (inr seven) = inr (inr (inr (inl seven)))

no_opening : (own : ℕ) → IsSettingsStatus own → {P : Type 0} → own ≡ 8 → P
no_opening own (inl three) eight = absurd (omega arith)
no_opening own (inr (inl six)) eight = absurd (omega arith)
no_opening own (inr (inr eleven)) eight = absurd (omega arith)

module _ (words : ArbiterWords) (settings : Settings) where
  work_at : (device : Option Device) → settings.device ≡ device
      → arbiter_work words settings ≡ option_map_or (listening_work words) device (refusal NoArbiter)
  unfolding arbiter_work
  work_at device is = ap (λ own. option_map_or (listening_work words) own (refusal NoArbiter)) is

  -- the settings have no device
  pub works_deviceless : (input : Input) (before after : Output) (env : Outside) (code : ℕ) → settings.device ≡ None
      → Refuses NoArbiter before after code
      → Works (arbiter_work words settings) (seen input before env) (seen input after env) code
  works_deviceless input before after env code none refuses =
      recast (sym (work_at None none))
      (last_alone (seen input before env) (seen input after env) (fault_line NoArbiter) 3 code refl refuses)

  -- they have one
  pub works_with : (device : Device) (before after : Seen) (code : ℕ) → settings.device ≡ Some device
      → Works (listening_work words device) before after code → Works (arbiter_work words settings) before after code
  works_with device before after code some works = recast (sym (work_at (Some device) some)) works

module _ (words : ArbiterWords) (device : Device) (input : Input) (before after : Output) (env_before : Outside) where
  -- the opening failed
  pub works_unopened : (env_after : Outside) (code : ℕ)
      → Made env_before.faults env_after.faults env_before.calls env_after.calls (arbiter_opening words false ∷ [])
      → Refuses EnvFault before after code
      → Works (listening_work words device) (seen input before env_before) (seen input after env_after) code
  unfolding listening_work
  works_unopened env_after code made refuses =
      record { calls = arbiter_opening words false ∷ []; made = made; performs = (refl, (refl, refuses)) }

  -- the port was opened, and the arbiter ran
  pub works_served : (env_middle env_after : Outside) (code lease : ℕ) (end : ArbiterEnd) (memory : Memory) → lease ≡ (times_of device).lease
      → Made env_before.faults env_middle.faults env_before.calls env_middle.calls (arbiter_opening words true ∷ [])
      → Carries (arbiter_plan lease words.turns) env_middle env_after (record { end = end; memory = memory })
      → Says (arbiter_outcome words.turns end).text (arbiter_outcome words.turns end).status before after code
      → Works (listening_work words device) (seen input before env_before) (seen input after env_after) code
  unfolding listening_work serving_work
  works_served env_middle env_after code lease end memory least made did says =
      let ran : Carries (arbiter_plan (times_of device).lease words.turns) env_middle env_after (record { end = end; memory = memory })
      = rw (sym least) did in
      let left = plan_then_last (arbiter_end words.turns) input before after env_middle env_after (arbiter_outcome words.turns end).text
      (arbiter_outcome words.turns end).status code ran refl says in
      record { calls = arbiter_opening words true ∷ left.calls; made = made_then made left.made; performs = (refl, left.performs) }

module _ (words : ArbiterWords) (before after : Seen) (code : ℕ) (never_fall : NeverFall before after)
    (write : code ≡ 7 → WriteFails before.output after.output) where
  -- the settings are good
  pub runs_arbiter : (settings : Settings) → Judges input_settings before.input after.input (Ok settings)
      → Works (arbiter_work words settings) before after code → RanStatus code → (code ≡ 8 → FailsToListen words before.env after.env)
      → RunsArbiter words before after code
  runs_arbiter settings judges works outcomes unopened = record {
    ran = record {
      settings = Ok settings;
      judges = judges;
      works = works;
      memory = λ eleven. absurd (not_ran code outcomes (inr eleven));
    };
    unopened = unopened;
    statuses = ran_status code outcomes;
    causes = record {
      never_fall = never_fall;
      read_fault = λ six. absurd (not_ran code outcomes (inl six));
      write_fault = write;
      env_fault = λ eight. (unopened eight).cause refl;
    };
  }

  -- the settings have a fault, or could not be read
  pub refuses_settings : (why : Fault) → Judges input_settings before.input after.input (Err why) → after.env ≡ before.env
      → Refuses why before.output after.output code → (code ≡ status_of why) ⊎ (code ≡ 7) → IsSettingsStatus (status_of why)
      → (status_of why ≡ 6 → ReadFails before.input after.input) → RunsArbiter words before after code
  refuses_settings why judges same refuses own which read = record {
    ran = record {
      settings = Err why;
      judges = judges;
      works = last_alone before after (fault_line why) (status_of why) code same refuses;
      memory = λ eleven. wanted_of why (own_status code (status_of why) 11 (λ seven. omega arith) own eleven);
    };
    unopened = λ eight. no_opening (status_of why) which (own_status code (status_of why) 8 (λ seven. omega arith) own eight);
    statuses = refused_status code (status_of why) which own;
    causes = record {
      never_fall = never_fall;
      read_fault = λ six. read (own_status code (status_of why) 6 (λ seven. omega arith) own six);
      write_fault = write;
      env_fault = λ eight. no_opening (status_of why) which (own_status code (status_of why) 8 (λ seven. omega arith) own eight);
    };
  }

-- The work of `node` and `node3`, and the record of their runs.
use Rattle.std.proofs.Common.{◌≡◌, ◌==◌, ◌⊎◌, inl, inr, ℕ, true, false, List, [], ◌∷◌, Option, None, Some, position, Ok, Err, refl, sym, ap, ◌∙◌, arith}
use Rattle.qn_base.specs.Plans.{Made}
use Rattle.qn_base.specs.PlanSteps.{made_then}
use Rattle.qn_base.specs.declared.ids.NodeId.{NodeId}
use Rattle.qn_live.specs.declared.live_end.LiveEnd.{LiveEnd}
use Rattle.qn_model.specs.declared.configuration.Settings.{Settings}
use Rattle.qn_model.specs.Log.{Line}
use Rattle.qn_running.specs.declared.commands.node.NodeWords.{NodeWords}
use Rattle.qn_live.specs.declared.node_images.NodeImages.{NodeImages}
use Rattle.qn_commands.specs.declared.fault.Fault.{Fault}
use Rattle.qn_commands.specs.declared.fault.Fault.TheVariants.{EnvFault, UnknownNode}
use Rattle.qn_commands.specs.declared.status.Status.TheVariants as status
use Rattle.qn_running.specs.Commands.Node.{EndsUndisturbed, EndsWithCause, FailsToOpen, RunsNode, node_plan, node_work, opened_work, opening, rank_with, run_end, run_work}
use Rattle.qn_commands.specs.Endings.{Refuses, Says}
use Rattle.qn_commands.specs.Faults.{fault_line, status_of}
use Rattle.qn_commands.specs.InputSettings.{Judges, input_settings}
use Rattle.qn_running.specs.NodeTexts.{end_outcome}
use Rattle.qn_running.specs.Polls.{ReadsNode}
use Rattle.qn_commands.specs.Seen.{Input, NeverFall, Output, Outside, ReadFails, Seen, WriteFails, seen}
use Rattle.qn_commands.specs.Statuses.{IsOneOf}
use Rattle.qn_commands.specs.Works.{Carries, Works}
use Rattle.qn_commands.specs.SettingsLaws.{IsSettingsStatus, own_status, wanted_of}
use Rattle.qn_running.proofs.NodeCauses.{boot_halted, clock_went_back}
use Rattle.qn_running.proofs.NodeEnds.{bad_settings, good_settings, known_work, undisturbed_node, unknown_work}
use Rattle.qn_commands.specs.WorkSteps.{last_alone, plan_then_last, recast}

-- how a run ends once the settings are read
abbrev pub RanStatus : ℕ → Type 0
RanStatus code = IsOneOf (status.Done ∷ status.WriteFault ∷ status.EnvFault ∷ status.ClockBack ∷ status.SelfReset
    ∷ status.BootHalted ∷ status.UnknownNode ∷ []) code

abbrev NodeStatus : ℕ → Type 0
NodeStatus code = IsOneOf (status.Done ∷ status.BadConf ∷ status.ReadFault ∷ status.WriteFault ∷ status.EnvFault ∷ status.NoMemory
    ∷ status.ClockBack ∷ status.SelfReset ∷ status.BootHalted ∷ status.UnknownNode ∷ []) code

pub ran_status : (code : ℕ) → RanStatus code → NodeStatus code
ran_status code (inl done) = inl done
ran_status code (inr (inl seven)) = inr (inr (inr (inl seven)))
ran_status code (inr (inr (inl eight))) = inr (inr (inr (inr (inl eight))))
ran_status code (inr (inr (inr (inl back)))) = inr (inr (inr (inr (inr (inr (inl back))))))
ran_status code (inr (inr (inr (inr (inl reset))))) = inr (inr (inr (inr (inr (inr (inr (inl reset)))))))
ran_status code (inr (inr (inr (inr (inr (inl halted)))))) = inr (inr (inr (inr (inr (inr (inr (inr (inl halted))))))))
ran_status code (inr (inr (inr (inr (inr (inr unknown)))))) = inr (inr (inr (inr (inr (inr (inr (inr (inr unknown))))))))

pub not_ran : (code : ℕ) → RanStatus code → (code ≡ 6) ⊎ (code ≡ 11) → ⊥
not_ran code one_of (inl six) = grind arith
not_ran code one_of (inr eleven) = grind arith

pub refused_status : (code own : ℕ) → IsSettingsStatus own → (code ≡ own) ⊎ (code ≡ 7) → NodeStatus code
refused_status code own (inl three) (inl same) = inr (inl (same ∙ three))
refused_status code own (inr (inl six)) (inl same) = inr (inr (inl (same ∙ six)))
refused_status code own (inr (inr eleven)) (inl same) = inr (inr (inr (inr (inr (inl (same ∙ eleven))))))
refused_status code own which (inr seven) = inr (inr (inr (inl seven)))

pub not_eight : (own : ℕ) → IsSettingsStatus own → own ≡ 8 → ⊥
not_eight own (inl three) eight = omega arith
not_eight own (inr (inl six)) eight = omega arith
not_eight own (inr (inr eleven)) eight = omega arith

pub not_ended : (own : ℕ) → IsSettingsStatus own → (own ≡ 12) ⊎ (own ≡ 14) → ⊥
not_ended own (inl three) (inl twelve) = omega arith
not_ended own (inl three) (inr fourteen) = omega arith
not_ended own (inr (inl six)) (inl twelve) = omega arith
not_ended own (inr (inl six)) (inr fourteen) = omega arith
not_ended own (inr (inr eleven)) (inl twelve) = omega arith
not_ended own (inr (inr eleven)) (inr fourteen) = omega arith

-- the place that is found by the number of an id is the rank of the id
pub ranked : (settings : Settings) (id : NodeId) (number : ℕ) (place : Option ℕ) → number ≡ id.0
    → position (λ node. node.id.0 == number) settings.nodes ≡ place → place ≡ rank_with settings id
ranked settings id number place same is = sym is ∙ ap (λ (n : ℕ). position (λ node. node.id.0 == n) settings.nodes) same

module _ (images : NodeImages) (words : NodeWords) (polls : Option ℕ) (settings : Settings) where
  module _ (input : Input) (before after : Output) where
    -- no node of the settings has the id
    unfoldable pub works_unknown : (env : Outside) (code : ℕ) → None ≡ rank_with settings words.id → Refuses (UnknownNode words.id) before after code
        → Works (node_work images words polls settings) (seen input before env) (seen input after env) code
    works_unknown env code none refuses =
        recast (sym (unknown_work images words polls settings none))
        (last_alone (seen input before env) (seen input after env) (fault_line (UnknownNode words.id)) 16 code refl refuses)

    module _ (rank : ℕ) (some : Some rank ≡ rank_with settings words.id) (env_before : Outside) where
      -- the opening failed
      unfoldable pub works_unopened : (env_after : Outside) (code : ℕ)
          → Made env_before.faults env_after.faults env_before.calls env_after.calls (opening images words rank false ∷ [])
          → Refuses EnvFault before after code
          → Works (node_work images words polls settings) (seen input before env_before) (seen input after env_after) code
      unfolding opened_work
      works_unopened env_after code made refuses =
          recast (sym (known_work images words polls settings rank some))
          record { calls = opening images words rank false ∷ []; made = made; performs = (refl, (refl, refuses)) }

      -- the node was opened, and ran
      unfoldable pub works_ran : (env_middle env_after : Outside) (code : ℕ) (end : LiveEnd) (log : List Line)
          → Made env_before.faults env_middle.faults env_before.calls env_middle.calls (opening images words rank true ∷ [])
          → Carries (node_plan images words polls settings rank) env_middle env_after (record { end = end; log = log })
          → Says (end_outcome words.turns end).text (end_outcome words.turns end).status before after code
          → Works (node_work images words polls settings) (seen input before env_before) (seen input after env_after) code
      unfolding opened_work run_work
      works_ran env_middle env_after code end log made did says =
          let left = plan_then_last (run_end words.turns) input before after env_middle env_after (end_outcome words.turns end).text
          (end_outcome words.turns end).status code did refl says in
          recast (sym (known_work images words polls settings rank some))
          record { calls = opening images words rank true ∷ left.calls; made = made_then made left.made; performs = (refl, left.performs) }

module _ (images : NodeImages) (words : NodeWords) (before after : Seen) (code : ℕ) (never_fall : NeverFall before after)
    (write : code ≡ 7 → WriteFails before.output after.output) where
  -- the settings are good
  unfoldable pub runs_node : (polls : Option ℕ) (settings : Settings) → ((rank : ℕ) → EndsWithCause images words polls settings rank)
      → ReadsNode before.input after.input settings polls
      → Works (node_work images words polls settings) before after code → RanStatus code → (code ≡ 8 → FailsToOpen images words before.env after.env)
      → RunsNode images words before after code
  runs_node polls settings law reads works outcomes unopened = record {
    polls = polls;
    ran = record {
      settings = Ok settings;
      judges = reads.judges;
      works = works;
      memory = λ eleven. absurd (not_ran code outcomes (inr eleven));
    };
    polled = reads.polled;
    unopened = unopened;
    clock_back = λ twelve rises. clock_went_back images words polls settings law works twelve rises;
    halted = λ fourteen. boot_halted images words polls settings law works fourteen;
    complete = λ memory no_read no_write no_call rises.
        good_settings (EndsUndisturbed words.turns before.output after.output code) words before.input after.input settings reads.judges no_read
        (λ rank some. undisturbed_node images words polls settings rank (law rank) some works no_write no_call rises);
    statuses = ran_status code outcomes;
    causes = record {
      never_fall = never_fall;
      read_fault = λ six. absurd (not_ran code outcomes (inl six));
      write_fault = write;
      env_fault = λ eight. (unopened eight).made.cause refl;
    };
  }

  -- the settings have a fault, or could not be read
  unfoldable pub refuses_settings : (why : Fault) → Judges input_settings before.input after.input (Err why) → after.env ≡ before.env
      → Refuses why before.output after.output code → (code ≡ status_of why) ⊎ (code ≡ 7) → IsSettingsStatus (status_of why)
      → (status_of why ≡ 6 → ReadFails before.input after.input) → RunsNode images words before after code
  refuses_settings why judges same refuses own which read = record {
    polls = None;
    ran = record {
      settings = Err why;
      judges = judges;
      works = last_alone before after (fault_line why) (status_of why) code same refuses;
      memory = λ eleven. wanted_of why (own_status code (status_of why) 11 (λ seven. omega arith) own eleven);
    };
    polled = tt;
    unopened = λ eight. absurd (not_eight (status_of why) which (own_status code (status_of why) 8 (λ seven. omega arith) own eight));
    clock_back = λ twelve rises. not_ended (status_of why) which (inl (own_status code (status_of why) 12 (λ seven. omega arith) own twelve));
    halted = λ fourteen. absurd (not_ended (status_of why) which (inr (own_status code (status_of why) 14 (λ seven. omega arith) own fourteen)));
    complete = λ memory no_read no_write no_call rises.
        bad_settings (EndsUndisturbed words.turns before.output after.output code) words before.input after.input why judges (λ eleven. memory (of_own own eleven no_write)) no_read;
    statuses = refused_status code (status_of why) which own;
    causes = record {
      never_fall = never_fall;
      read_fault = λ six. read (own_status code (status_of why) 6 (λ seven. omega arith) own six);
      write_fault = write;
      env_fault = λ eight. absurd (not_eight (status_of why) which (own_status code (status_of why) 8 (λ seven. omega arith) own eight));
    };
  }
    where
      of_own : (code ≡ status_of why) ⊎ (code ≡ 7) → status_of why ≡ 11 → ¬ WriteFails before.output after.output → code ≡ 11
      of_own (inl same_code) eleven no_write = same_code ∙ eleven
      of_own (inr seven) eleven no_write = absurd (no_write (write seven))

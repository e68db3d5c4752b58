-- The work of `node-logged` and `node3-logged`, and the record of its run.
use Rattle.std.proofs.Common.{◌≡◌, ◌≤◌, ◌⊎◌, inl, inr, ℕ, Bool, true, false, List, [], ◌∷◌, Option, None, Some, Ok, Err, refl, sym, ap, ◌∙◌, subst, append-nil, arith}
use Rattle.std.specs.Io.KnownBytes.{append_known}
use Rattle.qn_audit.specs.Logs.{log_text}
use Rattle.qn_audit.specs.Recording.{DidLogged, LogSink, Logs, LogsWhen, recorded}
use Rattle.qn_base.specs.declared.calls.Call.{Call}
use Rattle.qn_base.specs.Plans.{Made}
use Rattle.qn_base.specs.Rising.{HasRisen-within}
use Rattle.qn_io.specs.Outside.{append_known-nil}
use Rattle.qn_io.specs.Writes.{AppendsFront}
use Rattle.qn_live.specs.declared.live_end.LiveEnd.{LiveEnd}
use Rattle.qn_live.specs.declared.live_end.LiveEnd.TheVariants as ended
use Rattle.qn_model.specs.Log.{Line}
use Rattle.qn_model.specs.declared.configuration.Settings.{Settings}
use Rattle.qn_running.specs.declared.commands.node.NodeWords.{NodeWords}
use Rattle.qn_live.specs.declared.node_images.NodeImages.{NodeImages}
use Rattle.qn_live.specs.Images.{plan_on}
use Rattle.qn_commands.specs.declared.fault.Fault.{Fault}
use Rattle.qn_commands.specs.declared.fault.Fault.TheVariants.{EnvFault, UnknownNode}
use Rattle.qn_commands.specs.declared.status.Status.TheVariants as status
use Rattle.qn_running.specs.Commands.Node.{EndsWithCause, FailsToOpen, node_work, opening, rank_with}
use Rattle.qn_running.specs.Commands.NodeLogged.{CutLog, LogsNode, LogsWhole, Opens, RunsLogged, WholeLog, WorkedCut, WorkedWhole, WorksLogged, WritesLog, after_log, logged, recorded_calls, with_output}
use Rattle.qn_commands.specs.Endings.{Cut, Refuses, Says, Whole}
use Rattle.qn_commands.specs.Faults.{status_of}
use Rattle.qn_commands.specs.InputSettings.{Judges, input_settings}
use Rattle.qn_running.specs.NodeTexts.{end_outcome}
use Rattle.qn_running.specs.Polls.{ReadsNode}
use Rattle.qn_commands.specs.Seen.{Input, NeverFall, Outside, Output, ReadFails, Seen, WriteFails, seen}
use Rattle.qn_commands.specs.Statuses.{IsOneOf}
use Rattle.qn_commands.specs.Works.{Performs, Works}
use Rattle.qn_commands.specs.SettingsLaws.{IsSettingsStatus}
use Rattle.qn_running.proofs.NodeRuns.{RanStatus, refuses_settings, runs_node, works_ran, works_unknown, works_unopened}

-- no call was recorded
logged_none : (output : Output) → logged output [] ≡ output
logged_none output = ap (λ (w : Option (List ℕ)). record { written = w; faults = output.faults }) (append_known-nil output.written)

-- ## Once the settings are read

module _ (images : NodeImages) (words : NodeWords) (polls : Option ℕ) (settings : Settings) where
  -- a work without a call after the opening
  pub unlogged : {before after : Seen} {code : ℕ} (works : Works (node_work images words polls settings) before after code)
      → recorded_calls works.calls ≡ [] → WorksLogged images words polls settings before after code
  unlogged {before} {after} {code} works none = WorkedWhole (record {
    calls = [];
    works = record {
      calls = works.calls;
      made = works.made;
      performs = subst (λ (o : Output). Performs (node_work images words polls settings) works.calls o after.output code) (sym (logged_none before.output)) works.performs;
    };
    same = none;
  })

  -- the input plays no part
  pub with_input : {before after : Seen} {code : ℕ} (input : Input) → WorksLogged images words polls settings before after code
      → WorksLogged images words polls settings before (seen input after.output after.env) code
  with_input input (WorkedWhole whole) = WorkedWhole (record {
    calls = whole.calls;
    works = record { calls = whole.works.calls; made = whole.works.made; performs = whole.works.performs };
    same = whole.same;
  })
  with_input input (WorkedCut cut) = WorkedCut (record {
    last = cut.last;
    own = cut.own;
    works = record { calls = cut.works.calls; made = cut.works.made; performs = cut.works.performs };
    ended = cut.ended;
    front = cut.front;
    fails = cut.fails;
    never_falls = cut.never_falls;
    is = cut.is;
  })

  -- nothing was called but the opening, or nothing at all
  module _ (input : Input) (before after : Output) where
    pub logs_unknown : (env : Outside) (code : ℕ) → None ≡ rank_with settings words.id → Refuses (UnknownNode words.id) before after code
        → WorksLogged images words polls settings (seen input before env) (seen input after env) code
    unfolding works_unknown
    logs_unknown env code none refuses = unlogged (works_unknown images words polls settings input before after env code none refuses) refl

    pub logs_unopened : (rank : ℕ) (some : Some rank ≡ rank_with settings words.id) (env_before env_after : Outside) (code : ℕ)
        → Made env_before.faults env_after.faults env_before.calls env_after.calls (opening images words rank false ∷ [])
        → Refuses EnvFault before after code → WorksLogged images words polls settings (seen input before env_before) (seen input after env_after) code
    unfolding works_unopened
    logs_unopened rank some env_before env_after code made refuses =
        unlogged (works_unopened images words polls settings input before after rank some env_before env_after code made refuses) refl

-- ## The run

abbrev output_of : LogSink → Output
output_of log = record { written = log.written; faults = log.faults }

-- what a log was given, where it was whole before
logs_writes : (calls : List Call) (before after : LogSink) → before.whole ≡ true → Logs before after (log_text calls)
    → WritesLog after.whole calls (output_of before) (output_of after)
logs_writes calls before after whole logs = of_logs before.whole after.whole whole logs
  where
    of_logs : (first last : Bool) → first ≡ true → LogsWhen first last before after (log_text calls) → WritesLog last calls (output_of before) (output_of after)
    of_logs true true is logs = logs
    of_logs true false is logs = logs
    of_logs false last is logs = absurd cc

-- what an outside and an output show after a recorded run
pub runs_logged : (images : NodeImages) (words : NodeWords) (polls : Option ℕ) (settings : Settings) (rank : ℕ) (env_before env_after : Outside) (before after : LogSink) (end : LiveEnd) (whole : Bool)
    → before.whole ≡ true → whole ≡ after.whole → (log : List Line)
    → DidLogged (plan_on images settings rank words.clean words.leave polls words.turns) (record { end = end; log = log })
    (recorded env_before.faults env_before.calls before) (recorded env_after.faults env_after.calls after)
    → RunsLogged images words polls settings rank (output_of before) (output_of after) env_before env_after end whole
runs_logged images words polls settings rank env_before env_after before after end whole begun is log did = record {
  log = log;
  did = record { calls = did.calls; made = did.made; follows = did.follows };
  writes = subst (λ (w : Bool). WritesLog w did.calls (output_of before) (output_of after)) (sym is)
      (logs_writes did.calls before after begun did.logs);
}

-- the same of equal values
pub of_equals : {E O : Type 0} (P : E → E → O → O → Type 0) (first own_first last own_last : E) (start own_start stop own_stop : O)
    → first ≡ own_first → last ≡ own_last → start ≡ own_start → stop ≡ own_stop → P first last start stop → P own_first own_last own_start own_stop
of_equals P first own_first last own_last start own_start stop own_stop is_first is_last is_start is_stop holds =
    subst (λ e. P e own_last own_start own_stop) is_first (subst (λ e. P first e own_start own_stop) is_last
    (subst (λ o. P first last o own_stop) is_start (subst (λ o. P first last start o) is_stop holds)))

-- a text that was written after a log
said_after : {text : List ℕ} {wanted code : ℕ} (before middle after : Output) (calls : List Call) → middle.written ≡ append_known before.written (log_text calls)
    → before.faults ≤ middle.faults → middle.faults ≤ after.faults → Says text wanted middle after code → Says text wanted (logged before calls) after code
said_after {text} before middle after calls log low high (Whole is whole) = Whole is (whole ∙ ap (λ (w : Option (List ℕ)). append_known w text) log)
said_after {text} before middle after calls log low high (Cut is fails front) =
    Cut is (HasRisen-within before.faults middle.faults after.faults after.faults low high (omega arith) fails)
    (subst (λ (w : Option (List ℕ)). AppendsFront w after.written text) log front)

-- the status of a run that ended
ended_status : (turns : ℕ) (end : LiveEnd) → IsOneOf (status.Done ∷ status.ClockBack ∷ status.SelfReset ∷ status.BootHalted ∷ []) (end_outcome turns end).status
ended_status turns (ended.Turns phase holds answer why) = inl refl
ended_status turns (ended.Left clean) = inl refl
ended_status turns (ended.ClockBack before now) = inr (inl refl)
ended_status turns (ended.SelfReset message) = inr (inr (inl refl))
ended_status turns (ended.BootHalted cause) = inr (inr (inr refl))

module _ (images : NodeImages) (words : NodeWords) (polls : Option ℕ) (settings : Settings) (rank : ℕ) (input : Input) (before middle after : Output) (first opened last : Outside) (end : LiveEnd)
    (some : Some rank ≡ rank_with settings words.id) (opens : Opens images words rank first opened) where
  -- the log is whole, and the last line was written after it
  pub works_logged : (whole : Bool) → whole ≡ true → (ran : RunsLogged images words polls settings rank before middle opened last end whole) (code : ℕ)
      → before.faults ≤ middle.faults → middle.faults ≤ after.faults
      → Says (end_outcome words.turns end).text (end_outcome words.turns end).status middle after code
      → WorksLogged images words polls settings (seen input before first) (seen input after last) code
  unfolding works_ran
  works_logged whole is ran code low high says =
      let writes : WritesLog true ran.did.calls before middle = subst (λ (w : Bool). WritesLog w ran.did.calls before middle) is ran.writes in
      WorkedWhole (record {
        calls = ran.did.calls;
        works = works_ran images words polls settings input (logged before ran.did.calls) after rank some first opened last code end ran.log opens ran.did
            (said_after before middle after ran.did.calls writes low high says);
        same = append-nil ran.did.calls;
      })

  -- a line of the log could not be written
  pub works_cut : (whole : Bool) → whole ≡ false → (ran : RunsLogged images words polls settings rank before after opened last end whole)
      → WorksLogged images words polls settings (seen input before first) (seen input after last) 7
  unfolding works_ran
  works_cut whole is ran =
      let writes : WritesLog false ran.did.calls before after = subst (λ (w : Bool). WritesLog w ran.did.calls before after) is ran.writes in
      let own = end_outcome words.turns end in
      let due : Output = record { written = append_known before.written own.text; faults = before.faults } in
      WorkedCut (record {
        last = due;
        own = own.status;
        works = works_ran images words polls settings input before due rank some first opened last own.status end ran.log opens ran.did (Whole refl refl);
        ended = ended_status words.turns end;
        front = subst (λ (calls : List Call). AppendsFront before.written after.written (log_text calls)) (sym (append-nil ran.did.calls)) writes.0;
        fails = writes.1;
        never_falls = omega arith;
        is = refl;
      })

-- ## The record

module _ (images : NodeImages) (words : NodeWords) (before after : Seen) (code : ℕ) (never_fall : NeverFall before after)
    (write : code ≡ 7 → WriteFails before.output after.output) where
  ended_ran : (own : ℕ) → IsOneOf (status.Done ∷ status.ClockBack ∷ status.SelfReset ∷ status.BootHalted ∷ []) own → RanStatus own
  ended_ran own (inl done) = inl done
  ended_ran own (inr (inl back)) = inr (inr (inr (inl back)))
  ended_ran own (inr (inr (inl reset))) = inr (inr (inr (inr (inl reset))))
  ended_ran own (inr (inr (inr halted))) = inr (inr (inr (inr (inr (inl halted)))))

  not_ended : (own : ℕ) → IsOneOf (status.Done ∷ status.ClockBack ∷ status.SelfReset ∷ status.BootHalted ∷ []) own → (own ≡ 7) ⊎ (own ≡ 8) → ⊥
  not_ended own one_of other = grind arith

  of_whole : LogsWhole images words before after code → LogsNode images words before after code
  of_whole whole = record {
    ran = WholeLog whole;
    whole = λ other. whole;
    complete = λ no_write. whole;
    statuses = whole.runs.statuses;
    causes = record {
      never_fall = never_fall;
      read_fault = whole.runs.causes.read_fault;
      write_fault = write;
      env_fault = whole.runs.causes.env_fault;
    };
  }

  -- the settings are good
  pub logs_node : (polls : Option ℕ) (settings : Settings) → ((rank : ℕ) → EndsWithCause images words polls settings rank)
      → ReadsNode before.input after.input settings polls
      → WorksLogged images words polls settings before after code → RanStatus code → (code ≡ 8 → FailsToOpen images words before.env after.env)
      → LogsNode images words before after code
  unfolding runs_node
  logs_node polls settings causes reads (WorkedWhole whole) outcomes unopened = of_whole (record {
    calls = whole.calls;
    runs = runs_node images words (after_log before whole.calls) after code
        (record { source = never_fall.source; sink = never_fall.sink; env = never_fall.env }) write
        polls settings causes reads whole.works outcomes unopened;
    same = whole.same;
  })
  logs_node polls settings causes reads (WorkedCut cut) outcomes unopened = record {
    ran = CutLog (record {
      last = cut.last;
      own = cut.own;
      runs = runs_node images words before (with_output after cut.last) cut.own
          (record { source = never_fall.source; sink = cut.never_falls; env = never_fall.env })
          (λ seven. absurd (not_ended cut.own cut.ended (inl seven)))
          polls settings causes reads cut.works (ended_ran cut.own cut.ended) (λ eight. absurd (not_ended cut.own cut.ended (inr eight)));
      front = cut.front;
      fails = cut.fails;
      is = cut.is;
    });
    whole = λ other. absurd (other cut.is);
    complete = λ no_write. absurd (no_write cut.fails);
    statuses = inr (inr (inr (inl cut.is)));
    causes = record {
      never_fall = never_fall;
      read_fault = λ six. let seven = cut.is in absurd (omega arith);
      write_fault = write;
      env_fault = λ eight. let seven = cut.is in absurd (omega arith);
    };
  }

  -- the settings have a fault, or could not be read
  pub logs_no_settings : (why : Fault) → Judges input_settings before.input after.input (Err why) → after.env ≡ before.env
      → Refuses why before.output after.output code → (code ≡ status_of why) ⊎ (code ≡ 7) → IsSettingsStatus (status_of why)
      → (status_of why ≡ 6 → ReadFails before.input after.input) → LogsNode images words before after code
  unfolding refuses_settings
  logs_no_settings why judges same refuses own which read = of_whole (record {
    calls = [];
    runs = refuses_settings images words (after_log before []) after code
        (record { source = never_fall.source; sink = never_fall.sink; env = never_fall.env }) write
        why judges same (subst (λ (o : Output). Refuses why o after.output code) (sym (logged_none before.output)) refuses) own which read;
    same = refl;
  })

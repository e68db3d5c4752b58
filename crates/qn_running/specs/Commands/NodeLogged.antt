-- `node-logged` and `node3-logged`: a running node whose calls are recorded; this project's profile. A call is recorded as one line with its
-- answer, before the next call; the opening is not recorded.
use Rattle.std.specs.Prelude.{◌≡◌, ◌≢◌, ◌≤◌, ◌⊎◌, ℕ, Bool, true, false, List, [], ◌∷◌, Option}
use Rattle.std.specs.Io.KnownBytes.{append_known}
use Rattle.qn_audit.specs.Logs.{log_text}
use Rattle.qn_base.specs.declared.calls.Call.{Call}
use Rattle.qn_base.specs.Plans.{Made}
use Rattle.qn_io.specs.Writes.{AppendsFront}
use Rattle.qn_live.specs.declared.live_end.LiveEnd.{LiveEnd}
use Rattle.qn_live.specs.Images.{plan_on}
use Rattle.qn_model.specs.declared.configuration.Settings.{Settings}
use Rattle.qn_model.specs.Log.{Line}
use Rattle.qn_running.specs.declared.commands.node.NodeWords.{NodeWords}
use Rattle.qn_live.specs.declared.node_images.NodeImages.{NodeImages}
use Rattle.qn_commands.specs.declared.status.Status.TheVariants as status
use Rattle.qn_running.specs.Commands.Node.{RunsNode, node_work, opening}
use Rattle.qn_commands.specs.Seen.{Outside, Output, Seen, WriteFails}
use Rattle.qn_commands.specs.Statuses.{HasCauses, IsOneOf}
use Rattle.qn_commands.specs.Works.{Carries, Works}

-- the calls after the opening, which are recorded
abbrev pub recorded_calls : List Call → List Call
recorded_calls [] = []
recorded_calls (opening ∷ calls) = calls

-- the output once the log of calls was written
abbrev pub logged : Output → List Call → Output
logged output calls =
    record { written = append_known output.written (log_text calls); faults = output.faults }

-- the same before a command
abbrev pub after_log : Seen → List Call → Seen
after_log before calls =
    record { input = before.input; output = logged before.output calls; env = before.env }

-- the same after a command, with another output
abbrev pub with_output : Seen → Output → Seen
with_output after output = record { input = after.input; output = output; env = after.env }

-- Each line of the log was written: all is as `node` does it, which writes its last line after the log of its calls.
pub record LogsWhole (images : NodeImages) (words : NodeWords) (before after : Seen) (code : ℕ) : Type 0 where
  pub calls : List Call
  pub runs : RunsNode images words (after_log before calls) after code
  pub same : recorded_calls runs.ran.works.calls ≡ calls

-- A line of the log could not be written: the node ran on as `node` does, `last` and `own` being what that would have written
-- and its status; of its log a prefix was written, and then nothing more.
pub record CutsLog (images : NodeImages) (words : NodeWords) (before after : Seen) (code : ℕ) : Type 0 where
  pub last : Output
  pub own : ℕ
  pub runs : RunsNode images words before (with_output after last) own
  pub front : AppendsFront before.output.written after.output.written
      (log_text (recorded_calls runs.ran.works.calls))
  pub fails : WriteFails before.output after.output
  pub is : code ≡ 7

pub data LogsRun (images : NodeImages) (words : NodeWords) (before after : Seen) (code : ℕ) : Type 0 where
  WholeLog : LogsWhole images words before after code → LogsRun images words before after code
  CutLog : CutsLog images words before after code → LogsRun images words before after code

-- What `node` does, with a log. The log is whole where no write failed, and at each status but 7. Memory is taken for the
-- settings text alone.
pub record LogsNode (images : NodeImages) (words : NodeWords) (before after : Seen) (code : ℕ) : Type 0 where
  pub ran : LogsRun images words before after code
  pub whole : code ≢ 7 → LogsWhole images words before after code
  pub complete : ¬ WriteFails before.output after.output → LogsWhole images words before after code
  pub statuses : IsOneOf (status.Done ∷ status.BadConf ∷ status.ReadFault ∷ status.WriteFault ∷ status.EnvFault
      ∷ status.NoMemory ∷ status.ClockBack ∷ status.SelfReset ∷ status.BootHalted ∷ status.UnknownNode ∷ []) code
  pub causes : HasCauses before after code

-- ## Once the settings are read

-- the node of that rank was opened
abbrev pub Opens : NodeImages → NodeWords → ℕ → Outside → Outside → Type 0
Opens images words rank before after = Made before.faults after.faults before.calls after.calls (opening images words rank true ∷ [])

-- its log is whole, or a prefix of it was written
abbrev pub WritesLog : Bool → List Call → Output → Output → Type 0
WritesLog true calls before after = after.written ≡ append_known before.written (log_text calls)
WritesLog false calls before after =
    AppendsFront before.written after.written (log_text calls) × WriteFails before after

-- the opened node of that rank ran and ended so, and its calls were recorded
pub record RunsLogged (images : NodeImages) (words : NodeWords) (polls : Option ℕ) (settings : Settings) (rank : ℕ) (before after : Output)
    (env_before env_after : Outside) (end : LiveEnd) (whole : Bool) : Type 0 where
  pub log : List Line
  pub did : Carries (plan_on images settings rank words.clean words.leave polls words.turns) env_before env_after (record { end = end; log = log })
  pub writes : WritesLog whole did.calls before after

-- the work of `node` was done, and its last line follows the log of its calls
pub record WorksWhole (images : NodeImages) (words : NodeWords) (polls : Option ℕ) (settings : Settings) (before after : Seen) (code : ℕ) : Type 0 where
  pub calls : List Call
  pub works : Works (node_work images words polls settings) (after_log before calls) after code
  pub same : recorded_calls works.calls ≡ calls

-- the work of `node` was done but for its last line, and of the log of its calls a prefix was written
pub record WorksCut (images : NodeImages) (words : NodeWords) (polls : Option ℕ) (settings : Settings) (before after : Seen) (code : ℕ) : Type 0 where
  pub last : Output
  pub own : ℕ
  pub works : Works (node_work images words polls settings) before (with_output after last) own
  pub ended : IsOneOf (status.Done ∷ status.ClockBack ∷ status.SelfReset ∷ status.BootHalted ∷ []) own
  pub front : AppendsFront before.output.written after.output.written (log_text (recorded_calls works.calls))
  pub fails : WriteFails before.output after.output
  pub never_falls : before.output.faults ≤ last.faults
  pub is : code ≡ 7

pub data WorksLogged (images : NodeImages) (words : NodeWords) (polls : Option ℕ) (settings : Settings) (before after : Seen) (code : ℕ) : Type 0 where
  WorkedWhole : WorksWhole images words polls settings before after code → WorksLogged images words polls settings before after code
  WorkedCut : WorksCut images words polls settings before after code → WorksLogged images words polls settings before after code

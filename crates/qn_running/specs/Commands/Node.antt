-- `node` and `node3`: the member itself, a running node over its own outside, on one image or on three. votequorum(5), sbd(8),
-- and this project's profile for its words.
use Rattle.std.specs.Prelude.{◌≡◌, ◌≢◌, ℕ, Bool, true, false, List, [], ◌∷◌, Option, if◌then◌else◌, position, ◌==◌, Result, IfOk, IfSome, IsOkAnd, IsSomeAnd}
use Rattle.std.specs.Option.{option_map_or}
use Rattle.qn_base.specs.declared.calls.Call.{Call}
use Rattle.qn_base.specs.declared.calls.Call.TheVariants.{OpenNode}
use Rattle.qn_base.specs.declared.ids.NodeId.{NodeId}
use Rattle.qn_base.specs.Calls.{is_failed, some_failed}
use Rattle.qn_base.specs.Plans.{Follows, Made, Plan}
use Rattle.qn_live.specs.declared.live_end.LiveEnd.{LiveEnd}
use Rattle.qn_live.specs.declared.live_end.LiveEnd.TheVariants as end
use Rattle.qn_live.specs.Halts.{HaltedBy, one_call}
use Rattle.qn_live.specs.Running.{Ran}
use Rattle.qn_live.specs.Laws.{NeverFalls, is_by_call, is_by_clock, is_no_failure}
use Rattle.qn_live.specs.TripleHalts.{HaltedOnThree}
use Rattle.qn_live.specs.ImageCounts.{image_count}
use Rattle.qn_live.specs.Images.{plan_on}
use Rattle.qn_model.specs.declared.configuration.Settings.{Settings}
use Rattle.qn_model.specs.declared.outputs.BootCause.{BootCause}
use Rattle.qn_model.specs.Lines.{Ended}
use Rattle.qn_running.specs.declared.commands.node.NodeWords.{NodeWords}
use Rattle.qn_live.specs.declared.node_images.NodeImages.{NodeImages}
use Rattle.qn_live.specs.declared.node_images.NodeImages.TheVariants.{One, Three}
use Rattle.qn_commands.specs.declared.fault.Fault.{Fault}
use Rattle.qn_commands.specs.declared.fault.Fault.TheVariants.{BootHalted, EnvFault, UnknownNode}
use Rattle.qn_commands.specs.declared.status.Status.TheVariants as status
use Rattle.qn_commands.specs.Endings.{AnswersWhole, refused}
use Rattle.qn_commands.specs.InputSettings.{WorksOnSettings, input_settings}
use Rattle.qn_running.specs.NodeTexts.{end_outcome}
use Rattle.qn_running.specs.Polls.{PollsBy}
use Rattle.qn_commands.specs.Seen.{CallFails, Outside, Output, ReadFails, Seen, WriteFails}
use Rattle.qn_commands.specs.Statuses.{HasCauses, IsOneOf}
use Rattle.qn_commands.specs.Works.{Last, Makes, Work, after_plan, refusal}

-- the rank of the node with that id, where the settings have one
abbrev pub rank_with : Settings → NodeId → Option ℕ
rank_with settings id = position (λ node. node.id.0 == id.0) settings.nodes

-- the one call that opens all that the node of that rank uses, with its answer
abbrev pub opening : NodeImages → NodeWords → ℕ → Bool → Call
opening images words rank ok = OpenNode (image_count images) words.image words.watchdog words.resource words.port (record { 0 = rank }) ok

-- the end of a run of so many turns
abbrev pub run_end : ℕ → Ran → Work
run_end turns ran = Last (end_outcome turns ran.end).text (end_outcome turns ran.end).status

-- the run of the node of that rank, which polls its arbiter within that limit, where it has one
abbrev pub node_plan : NodeImages → NodeWords → Option ℕ → Settings → ℕ → Plan Ran
node_plan images words polls settings rank = plan_on images settings rank words.clean words.leave polls words.turns

-- the boot of the node of that rank was halted for this cause by a disk operation that failed, the last of these calls
abbrev pub HaltedOn : NodeImages → Settings → ℕ → BootCause → List Call → Type 0
HaltedOn One settings rank cause calls = HaltedBy one_call settings rank cause calls
HaltedOn Three settings rank cause calls = HaltedOnThree settings rank cause calls

-- where no call fails, no failed call ends a run of the node, and where no tick falls, no clock does; a boot that a failed call
-- halted was halted by the operation that the call was made for
pub record EndsWithCause (images : NodeImages) (words : NodeWords) (polls : Option ℕ) (settings : Settings) (rank : ℕ) : Type 0 where
  pub call : (calls : List Call) (ran : Ran) → Follows (node_plan images words polls settings rank) calls ran
      → some_failed calls ≡ false → is_by_call ran.end ≡ false
  pub clock : (calls : List Call) (ran : Ran) → Follows (node_plan images words polls settings rank) calls ran
      → NeverFalls 0 calls → is_by_clock ran.end ≡ false
  pub halted : (calls : List Call) (ran : Ran) (cause : BootCause)
      → Follows (node_plan images words polls settings rank) calls ran → ran.end ≡ end.BootHalted cause
      → is_no_failure cause ≡ false → HaltedOn images settings rank cause calls

-- the run, and its last line
unfoldable pub run_work : NodeImages → NodeWords → Option ℕ → Settings → ℕ → Work
run_work images words polls settings rank = after_plan (node_plan images words polls settings rank) (run_end words.turns)

-- once it is opened
abbrev pub after_opening : Work → Call → Work
after_opening run call = if is_failed call then refusal EnvFault else run

-- the opening of the node of that rank, and its run
unfoldable pub opened_work : NodeImages → NodeWords → Option ℕ → Settings → ℕ → Work
opened_work images words polls settings rank =
    Makes (opening images words rank true) (after_opening (run_work images words polls settings rank))

-- once the settings are read: the id is looked for before anything is opened
unfoldable pub node_work : NodeImages → NodeWords → Option ℕ → Settings → Work
node_work images words polls settings =
    option_map_or (opened_work images words polls settings) (rank_with settings words.id) (refusal (UnknownNode words.id))

-- the opening failed, and no other call was made
pub record FailsToOpen (images : NodeImages) (words : NodeWords) (before after : Outside) : Type 0 where
  pub rank : ℕ
  pub made : Made before.faults after.faults before.calls after.calls (opening images words rank false ∷ [])

-- the boot was halted, which was written whole; a cause that a failed call gives comes only where the count of faults rose, and
-- where a call of the very disk operation that halted it failed, the last of all these calls
pub record HaltsBoot (images : NodeImages) (words : NodeWords) (settings : Result Settings Fault)
    (calls : List Call) (before after : Seen) (code : ℕ) : Type 0 where
  pub cause : BootCause
  pub answers : AnswersWhole (refused (BootHalted cause)) before.output after.output code
  pub fails : is_no_failure cause ≡ false → CallFails before.env after.env
  pub operation : is_no_failure cause ≡ false → IsOkAnd settings (λ own.
      IsSomeAnd (rank_with own words.id) (λ rank. HaltedOn images own rank cause calls))

-- the line of an end was written whole, and neither a failed call nor the clock made that end
pub record EndsUndisturbed (turns : ℕ) (before after : Output) (code : ℕ) : Type 0 where
  pub end : LiveEnd
  pub no_call : is_by_call end ≡ false
  pub no_clock : is_by_clock end ≡ false
  pub answers : AnswersWhole (end_outcome turns end) before after code

-- The whole input is read and judged, and then the id, before anything is called. Then the node is opened and runs, and polls
-- where its text names an arbiter: exactly these calls are made, and the last line is that of the end of the run. Nothing is written before. Memory is taken for
-- the settings text alone. Where nothing failed, no tick fell and memory sufficed, and the id is in good settings, the node
-- handled its last turn, left, read a deadly message, or was halted in its boot by what stands in the image.
pub record RunsNode (images : NodeImages) (words : NodeWords) (before after : Seen) (code : ℕ) : Type 0 where
  pub polls : Option ℕ
  pub ran : WorksOnSettings (node_work images words polls) before after code
  pub polled : IfOk ran.settings (λ settings. PollsBy ran.judges.read settings polls)
  pub unopened : code ≡ 8 → FailsToOpen images words before.env after.env
  pub clock_back : code ≡ 12 → ¬ NeverFalls 0 ran.works.calls
  pub halted : code ≡ 14 → HaltsBoot images words ran.settings ran.works.calls before after code
  pub complete : code ≢ 11 → ¬ ReadFails before.input after.input
      → ¬ WriteFails before.output after.output → ¬ CallFails before.env after.env → NeverFalls 0 ran.works.calls
      → IfSome before.input.left (λ bytes. IfOk (input_settings Ended bytes) (λ settings.
      IfSome (rank_with settings words.id) (λ rank. EndsUndisturbed words.turns before.output after.output code)))
  pub statuses : IsOneOf (status.Done ∷ status.BadConf ∷ status.ReadFault ∷ status.WriteFault ∷ status.EnvFault
      ∷ status.NoMemory ∷ status.ClockBack ∷ status.SelfReset ∷ status.BootHalted ∷ status.UnknownNode ∷ []) code
  pub causes : HasCauses before after code

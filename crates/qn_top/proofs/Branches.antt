-- What the record of a command says of the exit status, whatever the command is.
use Rattle.std.proofs.Common.{◌≡◌, ◌≢◌, ◌⊎◌, ℕ, false, true, List, [], ◌∷◌, Option, None, Some, refl, sym, subst, arith}
use Rattle.std.proofs.lemmas.Bool.{false≢true}
use Rattle.qn_commands.specs.Endings.{Cut, Says, Whole}
use Rattle.qn_commands.specs.Seen.{Output, Seen}
use Rattle.qn_commands.specs.declared.status.Status.{Status}
use Rattle.qn_commands.specs.declared.status.Status.TheVariants.{Done, Usage, BadConf, BadSchedule, NotAllowed, ReadFault, WriteFault, EnvFault, BadImage, UnsafeTiming, UnsafeLease, NoMemory, ClockBack, SelfReset, BootHalted, DeadlyThere, UnknownNode, NotARun}
use Rattle.qn_commands.specs.Statuses.{HasCauses}
use Rattle.qn_top.specs.declared.command.Command.{Command}
use Rattle.qn_top.specs.declared.command.Command.TheVariants as command
use Rattle.qn_top.specs.Does.{Does, takes_memory}
use Rattle.qn_top.specs.Runs.{Runs, ShowsOneHolder}
use Rattle.qn_top.proofs.StatusLists.{lacks}

says_other : {text : List ℕ} {first last : Output} {status : ℕ} → Says text 10 first last status → status ≢ 11
says_other (Whole is whole) eleven = omega arith
says_other (Cut is fails prefix) eleven = omega arith

-- the statuses of the commands, and of words that are none
abbrev statuses_of : Option Command → List Status
statuses_of None = Usage ∷ WriteFault ∷ []
statuses_of (Some command.Count) = Done ∷ BadSchedule ∷ ReadFault ∷ WriteFault ∷ []
statuses_of (Some command.Replay) = Done ∷ BadConf ∷ BadSchedule ∷ NotAllowed ∷ ReadFault ∷ WriteFault ∷ UnsafeTiming ∷ NoMemory ∷ []
statuses_of (Some (command.Status form)) = Done ∷ BadConf ∷ BadSchedule ∷ NotAllowed ∷ ReadFault ∷ WriteFault ∷ UnsafeTiming ∷ NoMemory ∷ []
statuses_of (Some (command.Soak seed events)) = Done ∷ WriteFault ∷ NoMemory ∷ []
statuses_of (Some (command.Create image timing)) = Done ∷ BadConf ∷ ReadFault ∷ WriteFault ∷ EnvFault ∷ UnsafeTiming ∷ NoMemory ∷ []
statuses_of (Some (command.Dump image)) = Done ∷ BadImage ∷ WriteFault ∷ EnvFault ∷ []
statuses_of (Some (command.List image)) = Done ∷ BadImage ∷ WriteFault ∷ EnvFault ∷ []
statuses_of (Some (command.Message image id kind)) = Done ∷ BadImage ∷ DeadlyThere ∷ UnknownNode ∷ WriteFault ∷ EnvFault ∷ []
statuses_of (Some (command.Node words)) = Done ∷ BadConf ∷ ReadFault ∷ WriteFault ∷ EnvFault ∷ NoMemory ∷ ClockBack ∷ SelfReset ∷ BootHalted ∷ UnknownNode ∷ []
statuses_of (Some (command.Migrate image)) = Done ∷ BadImage ∷ WriteFault ∷ EnvFault ∷ []
statuses_of (Some command.Replay3) = Done ∷ BadConf ∷ BadSchedule ∷ NotAllowed ∷ ReadFault ∷ WriteFault ∷ UnsafeTiming ∷ NoMemory ∷ []
statuses_of (Some (command.Node3 words)) = Done ∷ BadConf ∷ ReadFault ∷ WriteFault ∷ EnvFault ∷ NoMemory ∷ ClockBack ∷ SelfReset ∷ BootHalted ∷ UnknownNode ∷ []
statuses_of (Some command.ReplayArbiter) = Done ∷ BadConf ∷ BadSchedule ∷ NotAllowed ∷ ReadFault ∷ WriteFault ∷ UnsafeTiming ∷ NoMemory ∷ UnsafeLease ∷ []
statuses_of (Some (command.NodeLogged words)) = Done ∷ BadConf ∷ ReadFault ∷ WriteFault ∷ EnvFault ∷ NoMemory ∷ ClockBack ∷ SelfReset ∷ BootHalted ∷ UnknownNode ∷ []
statuses_of (Some (command.Node3Logged words)) = Done ∷ BadConf ∷ ReadFault ∷ WriteFault ∷ EnvFault ∷ NoMemory ∷ ClockBack ∷ SelfReset ∷ BootHalted ∷ UnknownNode ∷ []
statuses_of (Some (command.Audit words)) = Done ∷ BadConf ∷ BadSchedule ∷ ReadFault ∷ WriteFault ∷ NoMemory ∷ UnknownNode ∷ NotARun ∷ []
statuses_of (Some (command.Arbiter words)) = Done ∷ BadConf ∷ ReadFault ∷ WriteFault ∷ EnvFault ∷ NoMemory ∷ ClockBack ∷ []
statuses_of (Some command.Help) = Done ∷ WriteFault ∷ []

module _ (before later : Seen) (status : ℕ) where
  -- each fault has its cause
  causes : (words : Option Command) → Does words before later status → HasCauses before later status
  causes None does = does.causes
  causes (Some command.Count) does = does.causes
  causes (Some command.Replay) does = does.causes
  causes (Some (command.Status form)) does = does.causes
  causes (Some (command.Soak seed events)) does = does.causes
  causes (Some (command.Create image timing)) does = does.causes
  causes (Some (command.Dump image)) does = does.causes
  causes (Some (command.List image)) does = does.causes
  causes (Some (command.Message image id kind)) does = does.causes
  causes (Some (command.Node words)) does = does.causes
  causes (Some (command.Migrate image)) does = does.causes
  causes (Some command.Replay3) does = does.causes
  causes (Some (command.Node3 words)) does = does.causes
  causes (Some command.ReplayArbiter) does = does.causes
  causes (Some (command.NodeLogged words)) does = does.causes
  causes (Some (command.Node3Logged words)) does = does.causes
  causes (Some (command.Audit words)) does = does.causes
  causes (Some (command.Arbiter words)) does = does.causes
  causes (Some command.Help) does = does.causes

  -- no command ends with status 2
  no_usage : (does_what : Command) → Does (Some does_what) before later status → status ≢ 2
  no_usage command.Count does = lacks 2 (statuses_of (Some command.Count)) status refl does.statuses
  no_usage command.Replay does = lacks 2 (statuses_of (Some command.Replay)) status refl does.statuses
  no_usage (command.Status form) does = lacks 2 (statuses_of (Some (command.Status form))) status refl does.statuses
  no_usage (command.Soak seed events) does = lacks 2 (statuses_of (Some (command.Soak seed events))) status refl does.statuses
  no_usage (command.Create image timing) does = lacks 2 (statuses_of (Some (command.Create image timing))) status refl does.statuses
  no_usage (command.Dump image) does = lacks 2 (statuses_of (Some (command.Dump image))) status refl does.statuses
  no_usage (command.List image) does = lacks 2 (statuses_of (Some (command.List image))) status refl does.statuses
  no_usage (command.Message image id kind) does = lacks 2 (statuses_of (Some (command.Message image id kind))) status refl does.statuses
  no_usage (command.Node words) does = lacks 2 (statuses_of (Some (command.Node words))) status refl does.statuses
  no_usage (command.Migrate image) does = lacks 2 (statuses_of (Some (command.Migrate image))) status refl does.statuses
  no_usage command.Replay3 does = lacks 2 (statuses_of (Some command.Replay3)) status refl does.statuses
  no_usage (command.Node3 words) does = lacks 2 (statuses_of (Some (command.Node3 words))) status refl does.statuses
  no_usage command.ReplayArbiter does = lacks 2 (statuses_of (Some command.ReplayArbiter)) status refl does.statuses
  no_usage (command.NodeLogged words) does = lacks 2 (statuses_of (Some (command.NodeLogged words))) status refl does.statuses
  no_usage (command.Node3Logged words) does = lacks 2 (statuses_of (Some (command.Node3Logged words))) status refl does.statuses
  no_usage (command.Audit words) does = lacks 2 (statuses_of (Some (command.Audit words))) status refl does.statuses
  no_usage (command.Arbiter words) does = lacks 2 (statuses_of (Some (command.Arbiter words))) status refl does.statuses
  no_usage command.Help does = lacks 2 (statuses_of (Some command.Help)) status refl does.statuses

  -- out of memory comes only to a command that takes memory
  enough : (words : Option Command) → Does words before later status → takes_memory words ≡ false → status ≢ 11
  enough None does takes = lacks 11 (statuses_of None) status refl does.statuses
  enough (Some command.Count) does takes = lacks 11 (statuses_of (Some command.Count)) status refl does.statuses
  enough (Some command.Replay) does takes = absurd (false≢true (sym takes))
  enough (Some (command.Status form)) does takes = absurd (false≢true (sym takes))
  enough (Some (command.Soak seed events)) does takes = absurd (false≢true (sym takes))
  enough (Some (command.Create image timing)) does takes = says_other (does.unsafe_times takes).performs.1
  enough (Some (command.Dump image)) does takes = lacks 11 (statuses_of (Some (command.Dump image))) status refl does.statuses
  enough (Some (command.List image)) does takes = lacks 11 (statuses_of (Some (command.List image))) status refl does.statuses
  enough (Some (command.Message image id kind)) does takes = lacks 11 (statuses_of (Some (command.Message image id kind))) status refl does.statuses
  enough (Some (command.Node words)) does takes = absurd (false≢true (sym takes))
  enough (Some (command.Migrate image)) does takes = lacks 11 (statuses_of (Some (command.Migrate image))) status refl does.statuses
  enough (Some command.Replay3) does takes = absurd (false≢true (sym takes))
  enough (Some (command.Node3 words)) does takes = absurd (false≢true (sym takes))
  enough (Some command.ReplayArbiter) does takes = absurd (false≢true (sym takes))
  enough (Some (command.NodeLogged words)) does takes = absurd (false≢true (sym takes))
  enough (Some (command.Node3Logged words)) does takes = absurd (false≢true (sym takes))
  enough (Some (command.Audit words)) does takes = absurd (false≢true (sym takes))
  enough (Some (command.Arbiter words)) does takes = absurd (false≢true (sym takes))
  enough (Some command.Help) does takes = lacks 11 (statuses_of (Some command.Help)) status refl does.statuses

  usage : (words : Option Command) → Does words before later status → words ≡ None → (status ≡ 2) ⊎ (status ≡ 7)
  usage None does none = does.statuses
  usage (Some does_what) does none = cc

  usage_only : (words : Option Command) → Does words before later status → status ≡ 2 → words ≡ None
  usage_only None does two = refl
  usage_only (Some does_what) does two = absurd (no_usage does_what does two)

-- what holds of every command
pub record Ends (words : Option Command) (before later : Seen) (code : ℕ) (same_input same_env : Type 0) : Type 0 where
  pub runs : Runs words before later code same_input same_env
  pub usage : words ≡ None → (code ≡ 2) ⊎ (code ≡ 7)
  pub usage_only : code ≡ 2 → words ≡ None
  pub memory : takes_memory words ≡ false → code ≢ 11
  pub causes : HasCauses before later code
  pub one_holder : (own : Command) → words ≡ Some own → ShowsOneHolder (Some own) before.output later.output code

of_run : {same_input same_env : Type 0} (words : Option Command) (before later : Seen) (code : ℕ) → Runs words before later code same_input same_env
    → Ends words before later code same_input same_env
of_run words before later code runs = record {
  runs = runs;
  usage = usage before later code words runs.does;
  usage_only = usage_only before later code words runs.does;
  memory = enough before later code words runs.does;
  causes = causes before later code words runs.does;
  one_holder = λ own is. subst (λ (w : Option Command). ShowsOneHolder w before.output later.output code) is runs.one_holder;
}

-- the run of the words ended with this status, and the program with its code
pub ends : {same_input same_env : Type 0} {words : Option Command} {before later : Seen} (code : ℕ) {status : ℕ} → code ≡ status → Runs words before later status same_input same_env
    → Ends words before later code same_input same_env
ends {same_input} {same_env} {words} {before} {later} code same runs =
    of_run words before later code (subst (λ (s : ℕ). Runs words before later s same_input same_env) (sym same) runs)

-- the words are this command, or none
pub of_words : {same_input same_env : Type 0} {before later : Seen} {status : ℕ} (words own : Option Command) → words ≡ own
    → Runs own before later status same_input same_env → Runs words before later status same_input same_env
of_words {same_input} {same_env} {before} {later} {status} words own is runs =
    subst (λ (w : Option Command). Runs w before later status same_input same_env) (sym is) runs

-- a command that uses what it is
pub used : {P : Type 0} → true ≡ false → P
used never = absurd (false≢true (sym never))

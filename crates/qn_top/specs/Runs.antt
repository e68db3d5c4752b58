-- A run of the program, for words that are a command or none.
use Rattle.std.specs.Prelude.{◌≡◌, ◌≤◌, ℕ, false, Option, None, Some}
use Rattle.qn_commands.specs.Seen.{Output, Seen}
use Rattle.qn_replay.specs.Soak.{soaked}
use Rattle.qn_top.specs.declared.command.Command.{Command}
use Rattle.qn_top.specs.declared.command.Command.TheVariants as command
use Rattle.qn_top.specs.Commands.Replay.{ShowsRun}
use Rattle.qn_top.specs.Commands.Replay3.{ShowsTripleRun}
use Rattle.qn_top.specs.Commands.ReplayArbiter.{ShowsRunBeside}
use Rattle.qn_top.specs.Does.{Does, calls_outside, reads_input}

-- one holder at most: on each line of a replay, and after each event of a soak
abbrev pub ShowsOneHolder : Option Command → Output → Output → ℕ → Type 0
ShowsOneHolder None before later status = Unit {0}
ShowsOneHolder (Some command.Count) before later status = Unit {0}
ShowsOneHolder (Some command.Replay) before later status = ShowsRun before.written later.written
ShowsOneHolder (Some (command.Status form)) before later status = Unit {0}
ShowsOneHolder (Some (command.Soak seed events)) before later status = status ≡ 0 → (soaked seed events).tally.most_holders ≤ 1
ShowsOneHolder (Some (command.Create image timing)) before later status = Unit {0}
ShowsOneHolder (Some (command.Dump image)) before later status = Unit {0}
ShowsOneHolder (Some (command.List image)) before later status = Unit {0}
ShowsOneHolder (Some (command.Message image id kind)) before later status = Unit {0}
ShowsOneHolder (Some (command.Node words)) before later status = Unit {0}
ShowsOneHolder (Some (command.Migrate image)) before later status = Unit {0}
ShowsOneHolder (Some command.Replay3) before later status = ShowsTripleRun before.written later.written
ShowsOneHolder (Some (command.Node3 words)) before later status = Unit {0}
ShowsOneHolder (Some command.ReplayArbiter) before later status = ShowsRunBeside before.written later.written
ShowsOneHolder (Some (command.NodeLogged words)) before later status = Unit {0}
ShowsOneHolder (Some (command.Node3Logged words)) before later status = Unit {0}
ShowsOneHolder (Some (command.Audit words)) before later status = Unit {0}
ShowsOneHolder (Some (command.Arbiter words)) before later status = Unit {0}
ShowsOneHolder (Some command.Help) before later status = Unit {0}

-- What the words say was done. A command that does not use the input, or the outside of a node, left it as it was: these are the
-- two facts `same_input` and `same_env`.
pub record Runs (words : Option Command) (before later : Seen) (status : ℕ) (same_input same_env : Type 0) : Type 0 where
  pub does : Does words before later status
  pub unread : reads_input words ≡ false → same_input
  pub uncalled : calls_outside words ≡ false → same_env
  pub one_holder : ShowsOneHolder words before.output later.output status

-- What the program does for a command: this project's profile. Each command has a record of its own.
use Rattle.std.specs.Prelude.{ℕ, Bool, true, false, Option, None, Some}
use Rattle.qn_model.specs.Timing.{is_safe}
use Rattle.qn_arbitrating.specs.Arbitrating.{RunsArbiter}
use Rattle.qn_running.specs.Commands.Audit.{Audits}
use Rattle.qn_commands.specs.Commands.Count.{Counts}
use Rattle.qn_commands.specs.Commands.Create.{Creates}
use Rattle.qn_commands.specs.Commands.Dump.{Dumps}
use Rattle.qn_commands.specs.Commands.List.{Lists}
use Rattle.qn_commands.specs.Commands.Message.{Sends}
use Rattle.qn_commands.specs.Commands.Migrate.{Migrates}
use Rattle.qn_running.specs.Commands.Node.{RunsNode}
use Rattle.qn_running.specs.Commands.NodeLogged.{LogsNode}
use Rattle.qn_live.specs.declared.node_images.NodeImages.TheVariants.{One, Three}
use Rattle.qn_commands.specs.Seen.{Seen}
use Rattle.qn_top.specs.declared.command.Command.{Command}
use Rattle.qn_top.specs.declared.command.Command.TheVariants as command
use Rattle.qn_top.specs.Commands.Help.{Helps}
use Rattle.qn_top.specs.Commands.Replay.{Replays}
use Rattle.qn_top.specs.Commands.Replay3.{Replays3}
use Rattle.qn_top.specs.Commands.ReplayArbiter.{ReplaysBeside}
use Rattle.qn_top.specs.Commands.Soak.{Soaks}
use Rattle.qn_top.specs.Commands.Status.{States}
use Rattle.qn_top.specs.Commands.Usage.{RefusesWords}

-- what the outsides show before and after, and the exit status
abbrev pub Does : Option Command → Seen → Seen → ℕ → Type 0
Does None = RefusesWords
Does (Some command.Count) = Counts
Does (Some command.Replay) = Replays
Does (Some (command.Status form)) = States form
Does (Some (command.Soak seed events)) = Soaks seed events
Does (Some (command.Create image timing)) = Creates image timing
Does (Some (command.Dump image)) = Dumps image
Does (Some (command.List image)) = Lists image
Does (Some (command.Message image id kind)) = Sends image id kind
Does (Some (command.Node words)) = RunsNode One words
Does (Some (command.Migrate image)) = Migrates image
Does (Some command.Replay3) = Replays3
Does (Some (command.Node3 words)) = RunsNode Three words
Does (Some command.ReplayArbiter) = ReplaysBeside
Does (Some (command.NodeLogged words)) = LogsNode One words
Does (Some (command.Audit words)) = Audits words
Does (Some (command.Node3Logged words)) = LogsNode Three words
Does (Some (command.Arbiter words)) = RunsArbiter words
Does (Some command.Help) = Helps

-- whether a command reads the input; `create` does not where its times are not safe
abbrev pub reads_input : Option Command → Bool
reads_input None = false
reads_input (Some command.Count) = true
reads_input (Some command.Replay) = true
reads_input (Some (command.Status form)) = true
reads_input (Some (command.Soak seed events)) = false
reads_input (Some (command.Create image timing)) = is_safe timing
reads_input (Some (command.Dump image)) = false
reads_input (Some (command.List image)) = false
reads_input (Some (command.Message image id kind)) = false
reads_input (Some (command.Node words)) = true
reads_input (Some (command.Migrate image)) = false
reads_input (Some command.Replay3) = true
reads_input (Some (command.Node3 words)) = true
reads_input (Some command.ReplayArbiter) = true
reads_input (Some (command.NodeLogged words)) = true
reads_input (Some (command.Audit words)) = true
reads_input (Some (command.Node3Logged words)) = true
reads_input (Some (command.Arbiter words)) = true
reads_input (Some command.Help) = false

-- whether a command calls the outside of a node
abbrev pub calls_outside : Option Command → Bool
calls_outside None = false
calls_outside (Some command.Count) = false
calls_outside (Some command.Replay) = false
calls_outside (Some (command.Status form)) = false
calls_outside (Some (command.Soak seed events)) = false
calls_outside (Some (command.Create image timing)) = is_safe timing
calls_outside (Some (command.Dump image)) = true
calls_outside (Some (command.List image)) = true
calls_outside (Some (command.Message image id kind)) = true
calls_outside (Some (command.Node words)) = true
calls_outside (Some (command.Migrate image)) = true
calls_outside (Some command.Replay3) = false
calls_outside (Some (command.Node3 words)) = true
calls_outside (Some command.ReplayArbiter) = false
calls_outside (Some (command.NodeLogged words)) = true
calls_outside (Some (command.Audit words)) = false
calls_outside (Some (command.Node3Logged words)) = true
calls_outside (Some (command.Arbiter words)) = true
calls_outside (Some command.Help) = false

-- whether a command takes memory
abbrev pub takes_memory : Option Command → Bool
takes_memory None = false
takes_memory (Some command.Count) = false
takes_memory (Some command.Replay) = true
takes_memory (Some (command.Status form)) = true
takes_memory (Some (command.Soak seed events)) = true
takes_memory (Some (command.Create image timing)) = is_safe timing
takes_memory (Some (command.Dump image)) = false
takes_memory (Some (command.List image)) = false
takes_memory (Some (command.Message image id kind)) = false
takes_memory (Some (command.Node words)) = true
takes_memory (Some (command.Migrate image)) = false
takes_memory (Some command.Replay3) = true
takes_memory (Some (command.Node3 words)) = true
takes_memory (Some command.ReplayArbiter) = true
takes_memory (Some (command.NodeLogged words)) = true
takes_memory (Some (command.Audit words)) = true
takes_memory (Some (command.Node3Logged words)) = true
takes_memory (Some (command.Arbiter words)) = true
takes_memory (Some command.Help) = false

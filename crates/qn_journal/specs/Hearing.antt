-- The lines of a journal are those of what it hears (this project's profile, LIVE.md "The journal").
use Rattle.std.specs.Prelude.{◌≡◌, ℕ, ◌%◌, ◌^◌, Bool, true, false, List, Option, Some, None}
use Rattle.std.specs.Option.{option_map_or}
use Rattle.qn_base.specs.declared.ids.View.{View}
use Rattle.qn_event.specs.declared.moment.Moment.{Moment}
use Rattle.qn_live.specs.declared.asked.Asked.{Asked}
use Rattle.qn_live.specs.declared.asked.Asked.TheVariants as asked
use Rattle.qn_live.specs.declared.asked.Given.{Given}
use Rattle.qn_live.specs.declared.decoded.Decoded.{Decoded}
use Rattle.qn_live.specs.declared.live_end.LiveEnd.{LiveEnd}
use Rattle.qn_live.specs.declared.run.NodeRun.{NodeRun}
use Rattle.qn_live.specs.Machine.{Stands}
use Rattle.qn_live.specs.Standings.{standing}
use Rattle.qn_model.specs.Log.{Line}
use Rattle.qn_model.specs.declared.configuration.Settings.{Settings}
use Rattle.qn_journal.specs.Endings.{end_text, is_fault}
use Rattle.qn_told.specs.Remarks.{ended}
use Rattle.qn_told.specs.Telling.{IsTold, Told, taken, with_line}
use Rattle.qn_told.specs.declared.around.Around.{Around}

-- lines are told of a call at once: of a look at the clock, and of what the agent and the watchdog answer
abbrev pub is_told : Asked → Bool
is_told asked.Now = true
is_told asked.Start = true
is_told asked.Stop = true
is_told asked.Disarm = true
is_told asked.Receive = false
is_told (asked.Read sector) = false
is_told (asked.Write sector) = false
is_told asked.Feed = false
is_told (asked.Send to) = false
is_told (asked.Halt code) = false

-- the number of a view, without whom it names; 0 where there is none
abbrev pub view_number : Option (ℕ × View) → ℕ
view_number None = 0
view_number (Some installed) = installed.1.id % 2 ^ 56

abbrev pub timeout_of : Settings → ℕ
timeout_of s = option_map_or (λ device. device.timeout) s.device 0

-- what surrounds a call of the run
pub record IsAround (around : Around) (run : NodeRun) : Type 0 where
  pub tick : around.tick ≡ run.tick
  pub nodes : around.nodes.now ≡ run.settings.nodes
  pub me : around.me ≡ run.me
  pub loop_ms : around.loop_ms ≡ run.loop_ms
  pub timeout : around.timeout ≡ timeout_of run.settings
  pub view : (log : List Line) → Stands run log → around.view ≡ view_number (standing run.settings run.me.0 log).view

-- the lines of a call of the run, where any are told of it
abbrev pub IsToldWhere : Bool → Asked → Given → NodeRun → Told → Told → Type 0
IsToldWhere true asked given run before after = (around : Around) × IsAround around run × IsTold around asked given run before after
IsToldWhere false asked given run before after = after ≡ before

-- A call of the run is heard, with its answer and what the bytes of that are: after it the lines are those before and the defined ones of the call.
pub record HearsCall (run : NodeRun) (bytes : Decoded) (before after : Told) (asked : Asked) (given : Given) : Type 0 where
  pub between : Told
  pub told : IsToldWhere (is_told asked) asked given run before between
  pub is : after ≡ taken asked given bytes run.tick between

abbrev pub Hears : Told → Told → Asked → Given → Type 0
Hears before after asked given = (run : NodeRun) × (bytes : Decoded) × HearsCall run bytes before after asked given

-- The end is heard: one more line says it.
pub record HearsEnd (before after : Told) (end : LiveEnd) : Type 0 where
  pub at : Moment
  pub turns : ℕ
  pub is : after ≡ with_line (ended at (end_text end turns) (is_fault end)) before

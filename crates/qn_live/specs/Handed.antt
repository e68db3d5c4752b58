-- What a node is handed in a run is a history: this project's profile.
use Rattle.std.specs.Prelude.{◌≡◌, ◌≤◌, ℕ, Bool, false, List, [], ◌∷◌, ◌++◌, map}
use Rattle.std.specs.List.{list_any}
use Rattle.qn_base.specs.declared.calls.Call.{Call}
use Rattle.qn_base.specs.declared.calls.Call.TheVariants as call
use Rattle.qn_model.specs.declared.configuration.Settings.{Settings}
use Rattle.qn_model.specs.declared.entries.Entry.{Entry}
use Rattle.qn_model.specs.Moments.{begin_of}
use Rattle.qn_model.specs.NodeOutputs.{is_begin, log_of}
use Rattle.qn_live.specs.declared.live_end.LiveEnd.{LiveEnd}
use Rattle.qn_live.specs.declared.live_end.LiveEnd.TheVariants as end
use Rattle.qn_live.specs.Running.{Ran}

-- the ticks of some entries
abbrev pub ticks_of : List Entry → List ℕ
ticks_of history = map (λ entry. entry.tick) history

-- an entry begins a boot
abbrev pub begins_boot : Entry → Bool
begins_boot entry = is_begin entry.what

-- no entry has a tick below that of the one before it, nor the first one a tick below this
abbrev pub RisesFrom : ℕ → List Entry → Type 0
RisesFrom last [] = Unit {0}
RisesFrom last (entry ∷ later) = (last ≤ entry.tick) × RisesFrom entry.tick later

-- The entries are a history: the first begins the boot, cleanly or not as the node was told, no other begins one, and the
-- ticks never fall.
pub record BeginsOnce (clean : Bool) (history : List Entry) : Type 0 where
  pub first : Entry
  pub later : List Entry
  pub parts : history ≡ first ∷ later
  pub begins : first.what ≡ begin_of clean
  pub once : list_any begins_boot later ≡ false
  pub rises : RisesFrom 0 history

-- what a call told of the clock
abbrev pub look_in : Call → List ℕ
look_in (call.Now tick) = tick ∷ []
look_in (call.OpenImage path ok) = []
look_in (call.OpenNode images image watchdog resource port rank ok) = []
look_in (call.Receive got) = []
look_in (call.Read sector bytes ok) = []
look_in (call.Write sector bytes ok) = []
look_in (call.Feed ok) = []
look_in (call.Start ok) = []
look_in (call.Stop ok) = []
look_in (call.Send to bytes ok) = []
look_in (call.Disarm ok) = []
look_in (call.Halt code) = []

-- all that the clock told, in order
abbrev pub looks_in : List Call → List ℕ
looks_in [] = []
looks_in (made ∷ calls) = look_in made ++ looks_in calls

-- what the clock told that is the tick of no entry: that it went back, which ends the run
abbrev pub went_back : LiveEnd → List ℕ
went_back (end.ClockBack before now) = now ∷ []
went_back (end.Turns phase holds answer why) = []
went_back (end.Left clean) = []
went_back (end.SelfReset message) = []
went_back (end.BootHalted stopped) = []

-- What a node was handed in a run is a history: it begins once, and its ticks are what the clock told, each in its turn.
pub record HandsHistory (s : Settings) (me : ℕ) (clean : Bool) (calls : List Call) (ran : Ran) : Type 0 where
  pub history : List Entry
  pub log : ran.log ≡ log_of s me history
  pub begins : BeginsOnce clean history
  pub looks : looks_in calls ≡ ticks_of history ++ went_back ran.end

-- What one event of the world is to the log of one node: this project's profile.
use Rattle.std.specs.Prelude.{◌≡◌, ℕ, suc, Bool, true, false, List, [], ◌∷◌, ◌==◌}
use Rattle.qn_model.specs.declared.configuration.Settings.{Settings}
use Rattle.qn_model.specs.declared.entries.What.{What}
use Rattle.qn_model.specs.declared.entries.What.TheVariants as what
use Rattle.qn_model.specs.declared.events.Event.{Event}
use Rattle.qn_model.specs.declared.events.Event.TheVariants as event
use Rattle.qn_model.specs.Log.{Line}
use Rattle.qn_model.specs.Moments.{Moment, node, tick_of}
use Rattle.qn_model.specs.NodeOutputs.{is_begin}
use Rattle.qn_safety.specs.Timed.{IsSameBoot}

-- the node of a rank boots at an event
abbrev pub is_boot_of : ℕ → Event → Bool
is_boot_of rank (event.Boot other base) = other.0 == rank
is_boot_of rank (event.BootClean other base) = other.0 == rank
is_boot_of rank (event.Pass dt clocks) = false
is_boot_of rank (event.Crash other) = false
is_boot_of rank (event.Land other) = false
is_boot_of rank (event.Done other) = false
is_boot_of rank (event.Fail other) = false
is_boot_of rank (event.Late other number) = false
is_boot_of rank (event.View other view) = false
is_boot_of rank (event.Deliver other number) = false
is_boot_of rank (event.Device other agrees) = false
is_boot_of rank (event.Tick other) = false
is_boot_of rank (event.Stopped other) = false
is_boot_of rank (event.Unstopped other) = false
is_boot_of rank (event.Leave other) = false
is_boot_of rank (event.Feed other) = false
is_boot_of rank (event.Operator other message) = false

-- an entry of a rank as it was read comes of an event: a view, and an answer of the device, of no event but the one that hands
-- it to that rank
abbrev pub ComesOf : Event → ℕ → What → Type 0
ComesOf of rank (what.View view) = of ≡ event.View (record { 0 = rank }) view
ComesOf of rank (what.Device agrees) = of ≡ event.Device (record { 0 = rank }) agrees
ComesOf of rank what.Begin = Unit {0}
ComesOf of rank what.BeginClean = Unit {0}
ComesOf of rank (what.Header seen) = Unit {0}
ComesOf of rank (what.SlotRead other seen) = Unit {0}
ComesOf of rank (what.MailChecked seen) = Unit {0}
ComesOf of rank (what.Claimed ok) = Unit {0}
ComesOf of rank (what.Cleared ok) = Unit {0}
ComesOf of rank (what.MailRead seen) = Unit {0}
ComesOf of rank (what.MailWritten other ok) = Unit {0}
ComesOf of rank (what.Ask ask) = Unit {0}
ComesOf of rank (what.Tell tell) = Unit {0}
ComesOf of rank what.Tick = Unit {0}
ComesOf of rank (what.Stopped ok) = Unit {0}
ComesOf of rank what.Leave = Unit {0}
ComesOf of rank (what.Closed ok) = Unit {0}

-- what an event is to the log of a rank, which it takes from old moments to new ones
pub data LogMove (s : Settings) (rank : ℕ) (of : Event) (old new : List Moment) : Type 0 where
  -- the log stays as it is
  Rests : is_boot_of rank of ≡ false → IsSameBoot s rank old new → (node s rank new).log ≡ (node s rank old).log → LogMove s rank of old new
  -- the log has one line more, at the present tick
  Enters : (line : Line) → is_boot_of rank of ≡ false → IsSameBoot s rank old new → (node s rank new).log ≡ line ∷ (node s rank old).log
      → ComesOf of rank line.what → line.tick ≡ tick_of (node s rank old).clock → LogMove s rank of old new
  -- a boot begins: the log is its first line
  Begins : (line : Line) → is_boot_of rank of ≡ true → (node s rank new).boots ≡ suc (node s rank old).boots → (node s rank new).log ≡ line ∷ []
      → is_begin line.what ≡ true → LogMove s rank of old new

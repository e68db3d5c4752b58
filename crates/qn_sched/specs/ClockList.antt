-- The clocks of a pass while its words are judged one by one.
use Rattle.std.specs.Prelude.{ℕ, ◌+◌, true, false, ◌&&◌, nat_le, List, [], ◌∷◌, ◌++◌, Result, Ok, Err, if◌then◌else◌}
use Rattle.qn_base.specs.declared.ids.Rank.{Rank}
use Rattle.qn_model.specs.declared.line_fault.LineFault.{LineFault}
use Rattle.qn_model.specs.declared.line_fault.LineFault.TheVariants.{BadCount}
use Rattle.qn_model.specs.Lines.{◌>>=◌}
use Rattle.qn_sched.specs.declared.clocks.ClockList.{ClockList}
use Rattle.qn_sched.specs.EventReading.{clock_of}

-- nothing judged yet
abbrev pub no_clocks : ClockList
no_clocks = record { clocks = []; next = 0; is_sound = true }

-- one more clock
abbrev pub with_clock : ClockList → Rank × ℕ → ClockList
with_clock list clock =
    if list.is_sound && nat_le list.next clock.0.0
    then record { clocks = list.clocks ++ clock ∷ []; next = clock.0.0 + 1; is_sound = true }
    else record { clocks = list.clocks; next = list.next; is_sound = false }

-- no word is left
unfoldable pub finished : ClockList → Result (List (Rank × ℕ)) LineFault
finished list = if list.is_sound then Ok list.clocks else Err BadCount

-- what comes of the words, once they were judged to their end or to their first fault
abbrev pub clocks_read : Result (Unit {0}) LineFault → ClockList → Result (List (Rank × ℕ)) LineFault
clocks_read (Ok done) list = finished list
clocks_read (Err fault) list = Err fault

-- the words that are left, and then the end
abbrev pub with_clocks : List ℕ → ClockList → List (List ℕ) → Result (List (Rank × ℕ)) LineFault
with_clocks ids list [] = finished list
with_clocks ids list (word ∷ words) = clock_of ids word >>= (λ clock. with_clocks ids (with_clock list clock) words)

-- What is played of an input: the trace, the end, and where it stood.
use Rattle.std.specs.Prelude.{ℕ, List, [], ◌++◌, Result, Ok, Err}
use Rattle.qn_sched.specs.declared.replay_end.ReplayEnd.{ReplayEnd}

-- the trace that is written, how it ends, and where it stood after its last good line
pub record Played (Last : Type 0) : Type 0 where
  pub trace : List ℕ
  pub end : ReplayEnd
  pub last : Last

-- nothing more is written
abbrev pub ended : {Last : Type 0} → Last → ReplayEnd → Played Last
ended last end = record { trace = []; end = end; last = last }

-- a text, and then what is played after it
abbrev pub traced : {Last : Type 0} → List ℕ → Played Last → Played Last
traced text rest = record { trace = text ++ rest.trace; end = rest.end; last = rest.last }

-- go on with the value, or end
abbrev pub go_on : {A Last : Type 0} → Last → Result A ReplayEnd → (A → Played Last) → Played Last
go_on last (Ok value) next = next value
go_on last (Err end) next = ended last end

-- the same, with another account of where it stood
abbrev pub standing_at : {A B : Type 0} → (A → B) → Played A → Played B
standing_at place played = record { trace = played.trace; end = played.end; last = place played.last }

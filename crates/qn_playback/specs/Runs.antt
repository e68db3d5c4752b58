-- A whole run of a world: what it took from its input, what it wrote, how it ended, and where the world stands.
use Rattle.std.specs.Prelude.{◌≡◌, ◌≤◌, ℕ, true, List, [], ◌∷◌, ◌++◌, length, Option, Ok}
use Rattle.std.specs.Io.KnownBytes.{IsAtEnd, prepend_known, append_known}
use Rattle.qn_io.specs.declared.buffered.TheConstants.{PIECE}
use Rattle.qn_io.specs.Writes.{AppendsFront}
use Rattle.qn_model.specs.Inputs.{BeginsWith, Tells}
use Rattle.qn_model.specs.Lines.{Ended}
use Rattle.qn_sched.specs.declared.replay_end.ReplayEnd.{ReplayEnd}
use Rattle.qn_sched.specs.declared.replay_end.ReplayEnd.TheVariants.{Done, NoMemory, WriteFault}
use Rattle.qn_playback.specs.Lines.{Play, Taken, Wants, line_of, rest_of}
use Rattle.qn_playback.specs.Played.{Played}
use Rattle.qn_playback.specs.Reading.{IsNeeded, Rest}

-- out of memory for the last line that was taken, which is good; the trace is that of the lines before it, after which the
-- world stands
pub record WantsAtLine (play : Play) (wants : Wants) (standing : Taken → Type 0) (head : ℕ) (taken trace : List ℕ) : Type 0 where
  pub earlier : Taken
  pub stands : standing earlier
  pub front : List ℕ
  pub line : List ℕ
  pub text : List ℕ
  pub parts : taken ≡ front ++ line ++ 10 ∷ []
  pub stood : rest_of play head [] Ended front ≡ record { trace = trace; end = Done (length earlier); last = earlier }
  pub good : line_of play head earlier line ≡ Ok text
  pub wants_more : wants earlier line ≡ true

-- The trace that the taken bytes tell of was written whole, the end is the one that they tell of, and so is where the run
-- stood; or a prefix of it was written, because the sink failed or it ran out of memory.
pub data EndsAs {Last : Type 0} (played_of : Rest Last) (standing : Last → Type 0) (wanted : List ℕ → List ℕ → Type 0) (taken : List ℕ)
    (at_end read_failed : Type 0) (old new : Option (List ℕ)) (write_failed : Type 0) (end : ReplayEnd) : Type 0 where
  WroteAll : (played : Played Last) → Tells played_of taken at_end read_failed (λ p. p ≡ played) → end ≡ played.end
      → new ≡ append_known old played.trace → standing played.last
      → EndsAs played_of standing wanted taken at_end read_failed old new write_failed end
  Unwritten : (trace : List ℕ) → Tells played_of taken at_end read_failed (λ p. BeginsWith p.trace trace) → end ≡ WriteFault → write_failed
      → AppendsFront old new trace → EndsAs played_of standing wanted taken at_end read_failed old new write_failed end
  Wanted : (trace : List ℕ) → Tells played_of taken at_end read_failed (λ p. BeginsWith p.trace trace) → end ≡ NoMemory
      → new ≡ append_known old trace → wanted taken trace → EndsAs played_of standing wanted taken at_end read_failed old new write_failed end

-- Bytes were taken, none more than the end needs. What was read after them is of one piece, waits, and was not looked at.
pub record Runs {Last : Type 0} (played_of : Rest Last) (standing : Last → Type 0) (wanted : List ℕ → List ℕ → Type 0)
    (left_old left_new : Option (List ℕ)) (read_failed : Type 0) (old new : Option (List ℕ)) (write_failed : Type 0) (end : ReplayEnd) : Type 0 where
  pub taken : List ℕ
  pub waiting : List ℕ
  pub takes : left_old ≡ prepend_known (taken ++ waiting) left_new
  pub needed : IsNeeded played_of taken
  pub within : length waiting ≤ PIECE
  pub ends : EndsAs played_of standing wanted taken ((waiting ≡ []) × IsAtEnd left_new) ((waiting ≡ []) × read_failed) old new write_failed end

-- what waited was written, and then the run ended so; or the sink failed, and a prefix of it was written
pub data Finishes (end : ReplayEnd) (waiting : List ℕ) (old new : Option (List ℕ)) (write_failed : Type 0) (result : ReplayEnd) : Type 0 where
  Written : result ≡ end → new ≡ append_known old waiting → Finishes end waiting old new write_failed result
  Cut : result ≡ WriteFault → write_failed → AppendsFront old new waiting → Finishes end waiting old new write_failed result

-- the trace and the end are those of the whole input
abbrev pub AnswersWhole : {Last : Type 0} → Played Last → Option (List ℕ) → Option (List ℕ) → ReplayEnd → Type 0
AnswersWhole played old new end = (end ≡ played.end) × (new ≡ append_known old played.trace)

-- out of memory after this trace, which is all that was written
pub record OutOfMemory {Last : Type 0} (played_of : Rest Last) (wanted : List ℕ → List ℕ → Type 0) (left_old left_new old new : Option (List ℕ)) : Type 0 where
  pub taken : List ℕ
  pub waiting : List ℕ
  pub trace : List ℕ
  pub takes : left_old ≡ prepend_known (taken ++ waiting) left_new
  pub needed : IsNeeded played_of taken
  pub within : length waiting ≤ PIECE
  pub writes : new ≡ append_known old trace
  pub why : wanted taken trace

-- the whole input was read, and all of its trace was written
pub record ReadsWhole {Last : Type 0} (played_of : Rest Last) (left_old left_new old new : Option (List ℕ)) (end : ReplayEnd) : Type 0 where
  pub read : List ℕ
  pub takes : left_old ≡ prepend_known read left_new
  pub at_end : IsAtEnd left_new
  pub ends : end ≡ (played_of Ended read).end
  pub writes : new ≡ append_known old (played_of Ended read).trace

-- a fact for an end that is good
abbrev pub IfDone : ReplayEnd → Type 0 → Type 0
IfDone (Done events) P = P
IfDone _ P = Unit {0}

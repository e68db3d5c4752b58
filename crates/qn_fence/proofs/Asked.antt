-- Where the answers of a log were asked for.
use Rattle.std.proofs.Common.{◌≡◌, ℕ, ◌≤◌, Bool, false, List, [], ◌∷◌, length, Some, refl, ◌&&◌, ◌||◌, if◌then◌else◌, ◌∙◌, ap, arith}
use Rattle.std.specs.Prelude.{nat_lt}
use Rattle.std.proofs.Math.Bool.{and-false}
use Rattle.std.proofs.lemmas.Bool.{le-ltb}
use Rattle.qn_base.specs.lemmas.Numbers.{either_within}
use Rattle.qn_model.specs.declared.configuration.Settings.{Settings}
use Rattle.qn_model.specs.declared.entries.Entry.{Entry}
use Rattle.qn_model.specs.declared.entries.What.{What}
use Rattle.qn_model.specs.declared.seen.SlotSeen.{SlotSeen}
use Rattle.qn_model.specs.lemmas.Logs.{ask_place-within}
use Rattle.qn_model.specs.Fitting.{read_as}
use Rattle.qn_model.specs.Log.{Line, ask_place, is_answer}
use Rattle.qn_model.specs.Licences.{reads_slot, reset_since, slot_read_since, writes_reset}
use Rattle.qn_model.specs.NodeOutputs.{log_from, log_of, with_entry, with_read}
use Rattle.qn_fence.specs.Fence.{IsAskedInside}

-- a line that is no read of that kind
pub slot_read_since-other : (place rank : ℕ) (test : SlotSeen → Bool) (log : List Line) (line : Line)
    → reads_slot test rank line.what ≡ false → slot_read_since place test rank (line ∷ log) ≡ slot_read_since place test rank log
unfolding slot_read_since
slot_read_since-other place rank test log line e =
    ap (λ b. (nat_lt place line.asked && b) || slot_read_since place test rank log) e
    ∙ ap (λ b. b || slot_read_since place test rank log) (and-false (nat_lt place line.asked))

-- a line that is no reset of that rank
pub reset_since-other : (place rank : ℕ) (log : List Line) (line : Line)
    → writes_reset rank line.what ≡ false → reset_since place rank (line ∷ log) ≡ reset_since place rank log
unfolding reset_since
reset_since-other place rank log line e =
    ap (λ b. if nat_lt place line.asked && b then Some line.tick else reset_since place rank log) e
    ∙ ap (λ b. if b then Some line.tick else reset_since place rank log) (and-false (nat_lt place line.asked))

-- nothing is asked for after the end of the empty log
pub inside-none : IsAskedInside []
unfolding slot_read_since reset_since
inside-none = record { reads = λ place rank test beyond. refl; resets = λ place rank beyond. refl }

-- a line that was asked for up to its place
pub inside-more : (log : List Line) (line : Line) → IsAskedInside log → line.asked ≤ length log → IsAskedInside (line ∷ log)
unfolding slot_read_since reset_since
inside-more log line h within = record {
  reads = λ place rank test beyond.
      let old : length log ≤ place = omega arith in
      let none = le-ltb place line.asked (omega arith) in
      ap (λ b. (b && reads_slot test rank line.what) || slot_read_since place test rank log) none ∙ h.reads place rank test old;
  resets = λ place rank beyond.
      let old : length log ≤ place = omega arith in
      let none = le-ltb place line.asked (omega arith) in
      ap (λ b. if b && writes_reset rank line.what then Some line.tick else reset_since place rank log) none ∙ h.resets place rank old;
}

-- a line that is no answer of the fencing
pub inside-other : (log : List Line) (line : Line) → IsAskedInside log
    → ((rank : ℕ) (test : SlotSeen → Bool) → reads_slot test rank line.what ≡ false)
    → ((rank : ℕ) → writes_reset rank line.what ≡ false) → IsAskedInside (line ∷ log)
inside-other log line h no_read no_reset = record {
  reads = λ place rank test beyond. slot_read_since-other place rank test log line (no_read rank test) ∙ h.reads place rank test (omega arith);
  resets = λ place rank beyond. reset_since-other place rank log line (no_reset rank) ∙ h.resets place rank (omega arith);
}

pub inside-read : (s : Settings) (me : ℕ) (log : List Line) (tick : ℕ) (entry : What) → IsAskedInside log → IsAskedInside (with_read s me log tick entry)
inside-read s me log tick entry h =
    inside-more log _ h (either_within (is_answer entry) (ask_place log) 0 (length log) (ask_place-within log) (omega arith))

inside-from : (s : Settings) (me : ℕ) (log : List Line) (history : List Entry) → IsAskedInside log → IsAskedInside (log_from s me log history)
unfolding log_from with_entry
inside-from s me log [] h = h
inside-from s me log (entry ∷ history) h =
    inside-from s me (with_entry s me log entry) history (inside-read s me log entry.tick (read_as s me log entry.what) h)

pub inside-all : (s : Settings) (me : ℕ) (history : List Entry) → IsAskedInside (log_of s me history)
inside-all s me history = inside-from s me [] history inside-none

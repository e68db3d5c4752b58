-- The words of a pass in which the arbiter's clock advances, judged from left to right.
use Rattle.std.proofs.Common.{◌≡◌, ◌<◌, ℕ, List, [], ◌∷◌, length, Result, Ok, refl, arith}
use Rattle.qn_safety.specs.declared.arbiter_event.ArbiterEvent.{ArbiterEvent}
use Rattle.qn_safety.specs.declared.arbiter_event.ArbiterEvent.TheVariants.{PassWith}
use Rattle.qn_model.specs.declared.line_fault.LineFault.{LineFault}
use Rattle.qn_model.specs.Lines.{◌>>=◌, number_between, parts}
use Rattle.qn_sched.specs.EventReading.{pass_of}
use Rattle.qn_arbiter.specs.EventReading.{pass_with_of}
use Rattle.qn_arbiter.proofs.WordsOfLines.{some_word}

-- the advance, and then the pass
abbrev pub advance_and_pass : List ℕ → List ℕ → List (List ℕ) → Result ArbiterEvent LineFault
advance_and_pass ids first words = number_between 0 1000000000000 first >>= (λ advance. pass_of ids words >>= (λ one. Ok (PassWith advance one)))

by_words : (ids first : List ℕ) (words : List (List ℕ)) → 0 < length words → pass_with_of ids (first ∷ words) ≡ advance_and_pass ids first words
unfolding pass_with_of
by_words ids first [] some = absurd (omega arith)
by_words ids first (second ∷ words) some = refl

pub pass_with_judged : (ids first text : List ℕ) → pass_with_of ids (first ∷ parts 32 text) ≡ advance_and_pass ids first (parts 32 text)
pass_with_judged ids first text = by_words ids first (parts 32 text) (some_word text)

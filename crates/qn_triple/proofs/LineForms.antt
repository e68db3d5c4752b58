-- The event that a line of three images says is well formed.
use Rattle.std.proofs.Common.{◌≡◌, ◌-◌, ◌^◌, ◌==◌, ◌↔◌, ◌&&◌, ◌||◌, ℕ, Bool, true, false, cond, List, [], ◌∷◌, Option, Some, None, Result, Ok, Err, length, nat_lt, position, refl, ap, ◌∙◌, subst, arith, lt-ltb}
use Rattle.std.specs.Prelude.{IsTrue, codes}
use Rattle.std.specs.Option.{ok_or}
use Rattle.std.specs.Str.{bytes_eq}
use Rattle.std.proofs.lemmas.Bool.Decides.{nat_tests}
use Rattle.std.proofs.lemmas.List.{length-map}
use Rattle.std.proofs.lemmas.List.Quantifiers.{position-Some}
use Rattle.qn_base.specs.declared.ids.Rank.{Rank}
use Rattle.qn_base.specs.declared.limits.TheConstants.{MOST_LINE_BYTES}
use Rattle.qn_model.specs.declared.configuration.Settings.{Settings}
use Rattle.qn_model.specs.declared.events.Event.{Event}
use Rattle.qn_model.specs.declared.line_fault.LineFault.{LineFault}
use Rattle.qn_model.specs.declared.line_fault.LineFault.TheVariants.{BadNumber, UnknownNode, UnknownWord}
use Rattle.qn_model.specs.declared.nodelist.NodeEntry.{NodeEntry}
use Rattle.qn_base.specs.Decimal.{number_of}
use Rattle.qn_model.specs.Lines.{◌>>=◌, has_leading_zero, known_rank, number_between, two_words, words_of}
use Rattle.qn_model.specs.Rules.{is_between, is_configured, is_well_formed}
use Rattle.qn_model.specs.Settings.{IsValid, ids}
use Rattle.qn_safety.specs.declared.triple_event.TripleEvent.{TripleEvent}
use Rattle.qn_safety.specs.TripleRules.{is_image, is_well_formed_triple}
use Rattle.qn_sched.specs.EventLines.{event_line}
use Rattle.qn_sched.specs.EventReading.{event_of, message_worded, rank_of}
use Rattle.qn_sched.specs.Words.{three_words}
use Rattle.qn_triple.specs.TripleReading.{fail_on_of, image_between, land_on_of, late_on_of, one_of, operator_on_of, triple_event_of, triple_event_of_words}

-- a fact of the value, where there is one
abbrev IfGood : {A : Type 0} → Result A LineFault → (A → Type 0) → Type 0
IfGood (Ok value) P = P value
IfGood (Err fault) P = Unit {0}

good_then : {A B : Type 0} (P : A → Type 0) (Q : B → Type 0) (first : Result A LineFault) (next : A → Result B LineFault) → IfGood first P
    → ((value : A) → P value → IfGood (next value) Q) → IfGood (first >>= next) Q
good_then P Q (Ok value) next holds goes = goes value holds
good_then P Q (Err fault) next holds goes = tt

any_good : {A : Type 0} (first : Result A LineFault) → IfGood first (λ value. Unit {0})
any_good (Ok value) = tt
any_good (Err fault) = tt

either_good : {A : Type 0} (P : A → Type 0) (test : Bool) (first second : Result A LineFault) → IfGood first P → IfGood second P → IfGood (cond test first second) P
either_good P true first second holds others = holds
either_good P false first second holds others = others

good_value : {A : Type 0} (P : A → Type 0) (judged : Result A LineFault) (value : A) → IfGood judged P → judged ≡ Ok value → P value
good_value P judged value holds is = subst (λ (j : Result _ LineFault). IfGood j P) is holds

-- ---- numbers and ranks

in_range : (low high number : ℕ) (zero below above : Bool) → nat_lt number low ≡ below → nat_lt high number ≡ above
    → IfGood (cond (zero || below || above) (Err BadNumber) (Ok number)) (λ n. is_between low high n ≡ true)
in_range low high number true below above low_is high_is = tt
in_range low high number false true above low_is high_is = tt
in_range low high number false false true low_is high_is = tt
in_range low high number false false false low_is high_is = grind (arith, nat_tests, low_is, high_is)

number_good : (low high : ℕ) (word : List ℕ) → IfGood (number_between low high word) (λ n. is_between low high n ≡ true)
unfolding number_between
number_good low high word =
    good_then (λ n. Unit {0}) (λ n. is_between low high n ≡ true) (ok_or (number_of word) BadNumber) _ (any_good (ok_or (number_of word) BadNumber))
    (λ number any. in_range low high number (has_leading_zero word) (nat_lt number low) (nat_lt high number) refl refl)

place_good : (all : List ℕ) (id : ℕ) (place : Option ℕ) → position (λ k. k == id) all ≡ place → IfGood (ok_or place UnknownNode) (λ rank. nat_lt rank (length all) ≡ true)
place_good all id None is = tt
place_good all id (Some rank) is = lt-ltb rank (length all) (position-Some (λ k. k == id) all rank 0 is).0

known_good : (all word : List ℕ) → IfGood (known_rank all word) (λ rank. nat_lt rank (length all) ≡ true)
unfolding known_rank
known_good all word =
    good_then (λ n. Unit {0}) (λ rank. nat_lt rank (length all) ≡ true) (number_between 0 (2 ^ 64 - 1) word) _ (any_good (number_between 0 (2 ^ 64 - 1) word))
    (λ id any. place_good all id (position (λ k. k == id) all) refl)

module _ (s : Settings) where
  abbrev IsPlace : Rank → Type 0
  IsPlace rank = is_configured s rank.0 ≡ true

  same_length : length (ids s.nodes) ≡ length s.nodes
  same_length = length-map s.nodes (λ (node : NodeEntry). node.id.0)

  rank_good : (word : List ℕ) → IfGood (rank_of (ids s.nodes) word) IsPlace
  unfolding rank_of
  rank_good word =
      good_then (λ rank. nat_lt rank (length (ids s.nodes)) ≡ true) IsPlace (known_rank (ids s.nodes) word) _ (known_good (ids s.nodes) word)
      (λ rank inside. subst (λ (n : ℕ). nat_lt rank n ≡ true) same_length inside)

  image_good : (word : List ℕ) → IfGood (image_between word) (λ image. is_image image ≡ true)
  unfolding image_between
  image_good word = number_good 1 3 word

  -- ---- events

  abbrev Formed : TripleEvent → Type 0
  Formed event = is_well_formed_triple s event ≡ true

  both : (one other : Bool) → one ≡ true → other ≡ true → (one && other) ≡ true
  both one other is holds = ap (λ b. b && other) is ∙ holds

  land_good : (words : List (List ℕ)) → IfGood (land_on_of (ids s.nodes) words) Formed
  unfolding land_on_of is_well_formed_triple
  land_good words =
      good_then (λ p. Unit {0}) Formed (two_words words) _ (any_good (two_words words))
      (λ pair any.
      good_then IsPlace Formed (rank_of (ids s.nodes) pair.0) _ (rank_good pair.0)
      (λ rank placed.
      good_then (λ image. is_image image ≡ true) Formed (image_between pair.1) _ (image_good pair.1)
      (λ image known. both (is_configured s rank.0) (is_image image) placed known)))

  fail_good : (words : List (List ℕ)) → IfGood (fail_on_of (ids s.nodes) words) Formed
  unfolding fail_on_of is_well_formed_triple
  fail_good words =
      good_then (λ p. Unit {0}) Formed (two_words words) _ (any_good (two_words words))
      (λ pair any.
      good_then IsPlace Formed (rank_of (ids s.nodes) pair.0) _ (rank_good pair.0)
      (λ rank placed.
      good_then (λ image. is_image image ≡ true) Formed (image_between pair.1) _ (image_good pair.1)
      (λ image known. both (is_configured s rank.0) (is_image image) placed known)))

  late_good : (words : List (List ℕ)) → IfGood (late_on_of (ids s.nodes) words) Formed
  unfolding late_on_of is_well_formed_triple
  late_good words =
      good_then (λ p. Unit {0}) Formed (three_words words) _ (any_good (three_words words))
      (λ three any.
      good_then IsPlace Formed (rank_of (ids s.nodes) three.0) _ (rank_good three.0)
      (λ rank placed.
      good_then (λ image. is_image image ≡ true) Formed (image_between three.1) _ (image_good three.1)
      (λ image known.
      good_then (λ n. is_between 1 200000 n ≡ true) Formed (number_between 1 200000 three.2) _ (number_good 1 200000 three.2)
      (λ number within. both (is_configured s rank.0 && is_image image) (is_between 1 200000 number) (both (is_configured s rank.0) (is_image image) placed known) within))))

  operator_good : (words : List (List ℕ)) → IfGood (operator_on_of (ids s.nodes) words) Formed
  unfolding operator_on_of is_well_formed_triple
  operator_good words =
      good_then (λ p. Unit {0}) Formed (three_words words) _ (any_good (three_words words))
      (λ three any.
      good_then IsPlace Formed (rank_of (ids s.nodes) three.0) _ (rank_good three.0)
      (λ rank placed.
      good_then (λ image. is_image image ≡ true) Formed (image_between three.1) _ (image_good three.1)
      (λ image known.
      good_then (λ m. Unit {0}) Formed (ok_or (message_worded three.2) UnknownWord) _ (any_good (ok_or (message_worded three.2) UnknownWord))
      (λ message found. both (is_configured s rank.0) (is_image image) placed known))))

-- what the crate below says of the line of an event
abbrev pub LinesAreSpelled : Type 0
LinesAreSpelled = (s : Settings) (line : List ℕ) (event : Event) → IsValid s
    → (event_of (ids s.nodes) line ≡ Ok event) ↔ (IsTrue (is_well_formed s event) × (line ≡ event_line (ids s.nodes) event))

module _ (spelled : LinesAreSpelled) (s : Settings) (valid : IsValid s) where
  event_good : (line : List ℕ) (read : Result Event LineFault) → event_of (ids s.nodes) line ≡ read → IfGood read (λ event. is_well_formed s event ≡ true)
  event_good line (Ok event) is = ((spelled s line event valid).0 is).0
  event_good line (Err fault) is = tt

  one_good : (line : List ℕ) → IfGood (one_of (ids s.nodes) line) (Formed s)
  unfolding one_of is_well_formed_triple
  one_good line =
      good_then (λ event. is_well_formed s event ≡ true) (Formed s) (event_of (ids s.nodes) line) _ (event_good line (event_of (ids s.nodes) line) refl)
      (λ event formed. formed)

  words_good : (line : List ℕ) (words : List (List ℕ)) → IfGood (triple_event_of_words (ids s.nodes) line words) (Formed s)
  unfolding triple_event_of_words
  words_good line [] = tt
  words_good line (first ∷ words) =
      either_good (Formed s) (bytes_eq first (codes "land")) _ _ (land_good s words)
      (either_good (Formed s) (bytes_eq first (codes "fail")) _ _ (fail_good s words)
      (either_good (Formed s) (bytes_eq first (codes "late")) _ _ (late_good s words)
      (either_good (Formed s) (bytes_eq first (codes "operator")) _ _ (operator_good s words) (one_good line))))

  line_good : (line : List ℕ) → IfGood (triple_event_of (ids s.nodes) line) (Formed s)
  unfolding triple_event_of
  line_good line = either_good (Formed s) (nat_lt MOST_LINE_BYTES (length line)) _ _ tt (words_good line (words_of line))

-- the event that a line says
pub line_formed : LinesAreSpelled → (s : Settings) (line : List ℕ) (event : TripleEvent) → IsValid s → triple_event_of (ids s.nodes) line ≡ Ok event
    → IsTrue (is_well_formed_triple s event)
line_formed spelled s line event valid is = good_value (Formed s) (triple_event_of (ids s.nodes) line) event (line_good spelled s valid line) is

-- A line beside an arbiter is accepted exactly where it is the line of a well formed event.
use Rattle.std.proofs.Common.{◌≡◌, ◌-◌, ◌^◌, ◌<◌, ◌≤◌, ◌↔◌, ◌==◌, ℕ, Bool, true, false, cond, List, [], ◌∷◌, ◌++◌, Option, Some, None, Ok, Err, find, map, length, nat_le, nat_lt, refl, sym, ap, ◌∙◌, subst, arith, lt-ltb, le-ltb}
use Rattle.std.specs.Prelude.{IsTrue, codes, decimal}
use Rattle.std.specs.List.{join_with_byte}
use Rattle.std.specs.Option.{option_map_or, ok_or}
use Rattle.std.specs.Str.{bytes_eq}
use Rattle.std.proofs.lemmas.Bool.{and_parts, leb-true, ltb-true, ltb-false, cond-false}
use Rattle.std.proofs.lemmas.Bool.Decides.{nat_tests}
use Rattle.std.proofs.lemmas.List.{length-append}
use Rattle.std.proofs.lemmas.List.Splits.{join_with_byte-slice_split, slice_split_at, slice_split_none}
use Rattle.std.proofs.lemmas.Slice.Eq.{bytes_eq-Decides}
use Rattle.qn_sched.specs.lemmas.Words.{one_word-ok}
use Rattle.qn_base.specs.declared.ids.Rank.{Rank}
use Rattle.qn_base.specs.lemmas.Decimals.{length-decimal}
use Rattle.qn_model.specs.declared.configuration.Settings.{Settings}
use Rattle.qn_model.specs.declared.events.Event.{Event}
use Rattle.qn_model.specs.declared.events.Event.TheVariants as event
use Rattle.qn_model.specs.declared.line_fault.LineFault.TheVariants.{TooLong, UnknownWord}
use Rattle.qn_model.specs.lemmas.Lines.{bind_ok, same_ok}
use Rattle.qn_model.specs.Lines.{◌>>=◌, number_between, words_of}
use Rattle.qn_model.specs.Rules.{is_configured, is_well_formed}
use Rattle.qn_model.specs.Settings.{IsValid, ids}
use Rattle.qn_safety.specs.declared.arbiter_event.ArbiterEvent.{ArbiterEvent}
use Rattle.qn_safety.specs.declared.arbiter_event.ArbiterEvent.TheVariants as beside
use Rattle.qn_safety.specs.ArbiterRules.{is_well_formed_beside}
use Rattle.qn_sched.specs.EventLines.{clock_word, event_line, id_word}
use Rattle.qn_sched.specs.EventNames.{event_name}
use Rattle.qn_sched.specs.EventReading.{clocks_of, event_named, event_of, event_of_words, node_event_of, pass_of, rank_of}
use Rattle.qn_sched.specs.Words.{one_word}
use Rattle.qn_arbiter.specs.declared.event_name.ArbiterName.{ArbiterName}
use Rattle.qn_arbiter.specs.declared.event_name.ArbiterName.TheVariants.{PassWith, ArbiterBoot, ArbiterCrash, Poll, Hear, Reply}
use Rattle.qn_arbiter.specs.EventLines.{arbiter_line}
use Rattle.qn_arbiter.specs.EventNames.{arbiter_name, arbiter_names, arbiter_word}
use Rattle.qn_arbiter.specs.EventReading.{arbiter_boot_of, arbiter_event_named, arbiter_event_of, arbiter_event_of_words, event_alone_of, hear_of, pass_with_of, poll_of, reply_of}
use Rattle.qn_sched.specs.WrittenNumbers.{decimal_blankless, number_between-decimal, number_between-ok}
use Rattle.qn_arbiter.proofs.PassLength.{length_pass}
use Rattle.qn_arbiter.proofs.WordsOfLines.{AreBlankless, some_word, words_blankless, words_joined}

-- what the crate below says of the line of an event
abbrev pub LinesAreSpelled : Type 0
LinesAreSpelled = (s : Settings) (line : List ℕ) (event : Event) → IsValid s
    → (event_of (ids s.nodes) line ≡ Ok event) ↔ (IsTrue (is_well_formed s event) × (line ≡ event_line (ids s.nodes) event))

-- ---- the first word

first_or_later : (test : ArbiterName → Bool) (first : ArbiterName) (later : Option ArbiterName) (name : ArbiterName) (b : Bool) → test first ≡ b
    → (later ≡ Some name → test name ≡ true) → cond b (Some first) later ≡ Some name → test name ≡ true
first_or_later test first later name true passes others is = let same : first ≡ name = cc in subst (λ n. test n ≡ true) same passes
first_or_later test first later name false fails others is = others is

found : (test : ArbiterName → Bool) (names : List ArbiterName) (name : ArbiterName) → find test names ≡ Some name → test name ≡ true
found test [] name is = cc
found test (first ∷ names) name is = first_or_later test first (find test names) name (test first) refl (found test names name) is

named : (word : List ℕ) (name : ArbiterName) → arbiter_name word ≡ Some name → word ≡ arbiter_word name
unfolding arbiter_name
named word name is = sym ((bytes_eq-Decides (arbiter_word name) word).0 (found (λ n. bytes_eq (arbiter_word n) word) arbiter_names name is))

-- no line of the world without an arbiter begins with one of these words
other_name : (name : ArbiterName) → event_name (arbiter_word name) ≡ None
unfolding event_name
other_name PassWith = refl
other_name ArbiterBoot = refl
other_name ArbiterCrash = refl
other_name Poll = refl
other_name Hear = refl
other_name Reply = refl

not_alone : (all_ids first : List ℕ) (words : List (List ℕ)) (name : ArbiterName) (e : Event) → first ≡ arbiter_word name → event_of_words all_ids (first ∷ words) ≡ Ok e → ⊥
unfolding event_of_words
not_alone all_ids first words name e is accepted =
    let none = ap (λ o. ok_or o UnknownWord >>= (λ n. event_named all_ids n words)) (ap event_name is ∙ other_name name) in
    cc

-- ---- lines that are not too long

short_event : (all_ids line : List ℕ) (e : Event) (b : Bool) → nat_lt 4096 (length line) ≡ b → cond b (Err TooLong) (event_of_words all_ids (words_of line)) ≡ Ok e
    → (length line ≤ 4096) × (event_of_words all_ids (words_of line) ≡ Ok e)
short_event all_ids line e true long is = cc
short_event all_ids line e false short is = (ltb-false 4096 (length line) short, is)

short_arbiter : (all_ids line : List ℕ) (e : ArbiterEvent) (b : Bool) → nat_lt 4096 (length line) ≡ b
    → cond b (Err TooLong) (arbiter_event_of_words all_ids line (words_of line)) ≡ Ok e
    → (length line ≤ 4096) × (arbiter_event_of_words all_ids line (words_of line) ≡ Ok e)
short_arbiter all_ids line e true long is = cc
short_arbiter all_ids line e false short is = (ltb-false 4096 (length line) short, is)

-- a line of the world without an arbiter by its words
event_words_read : (all_ids line : List ℕ) (e : Event) → event_of all_ids line ≡ Ok e → (length line ≤ 4096) × (event_of_words all_ids (words_of line) ≡ Ok e)
unfolding event_of
event_words_read all_ids line e is = short_event all_ids line e (nat_lt 4096 (length line)) refl is

event_line_read : (all_ids line : List ℕ) (e : Event) → length line ≤ 4096 → event_of_words all_ids (words_of line) ≡ Ok e → event_of all_ids line ≡ Ok e
unfolding event_of
event_line_read all_ids line e short is =
    cond-false (nat_lt 4096 (length line)) (Err TooLong) (event_of_words all_ids (words_of line)) (le-ltb 4096 (length line) short) ∙ is

-- a line by its words
line_read : (all_ids line : List ℕ) (e : ArbiterEvent) → length line ≤ 4096 → arbiter_event_of_words all_ids line (words_of line) ≡ Ok e → arbiter_event_of all_ids line ≡ Ok e
unfolding arbiter_event_of
line_read all_ids line e short is =
    cond-false (nat_lt 4096 (length line)) (Err TooLong) (arbiter_event_of_words all_ids line (words_of line)) (le-ltb 4096 (length line) short) ∙ is

words_read : (all_ids line : List ℕ) (e : ArbiterEvent) → arbiter_event_of all_ids line ≡ Ok e → (length line ≤ 4096) × (arbiter_event_of_words all_ids line (words_of line) ≡ Ok e)
unfolding arbiter_event_of
words_read all_ids line e is = short_arbiter all_ids line e (nat_lt 4096 (length line)) refl is

-- ---- passes and ticks of the world without an arbiter, by what stands after their first word

pass_rest : (all_ids rest : List ℕ) (e : Event) → event_of all_ids (codes "pass" ++ 32 ∷ rest) ≡ Ok e → pass_of all_ids (words_of rest) ≡ Ok e
unfolding event_of_words event_name event_named
pass_rest all_ids rest e is = (event_words_read all_ids (codes "pass" ++ 32 ∷ rest) e is).1

pass_whole : (all_ids rest : List ℕ) (e : Event) → length rest ≤ 4091 → pass_of all_ids (words_of rest) ≡ Ok e → event_of all_ids (codes "pass" ++ 32 ∷ rest) ≡ Ok e
unfolding event_of_words event_name event_named
pass_whole all_ids rest e short is = event_line_read all_ids (codes "pass" ++ 32 ∷ rest) e (omega (arith, short)) is

-- the node of a tick
tick_rest : (all_ids rest : List ℕ) (e : Event) → event_of all_ids (codes "tick" ++ 32 ∷ rest) ≡ Ok e
    → (length rest ≤ 4091) × ((one_word (words_of rest) >>= (λ word. rank_of all_ids word >>= (λ rank. Ok (event.Tick rank)))) ≡ Ok e)
unfolding event_of_words event_name event_named node_event_of
tick_rest all_ids rest e is =
    let it = event_words_read all_ids (codes "tick" ++ 32 ∷ rest) e is in
    let short = it.0 in
    (omega (arith, short), it.1)

tick_whole : (all_ids rest : List ℕ) (rank : Rank) → length rest ≤ 4091 → words_of rest ≡ rest ∷ [] → rank_of all_ids rest ≡ Ok rank
    → event_of all_ids (codes "tick" ++ 32 ∷ rest) ≡ Ok (event.Tick rank)
unfolding event_of_words event_name event_named node_event_of
tick_whole all_ids rest rank short alone is =
    event_line_read all_ids (codes "tick" ++ 32 ∷ rest) (event.Tick rank) (omega (arith, short)) (rw (alone, is) refl)

-- a pass is read as a pass
record IsPass (e : Event) : Type 0 where
  pub dt : ℕ
  pub clocks : List (Rank × ℕ)
  pub is : event.Pass dt clocks ≡ e

pass_is : (all_ids : List ℕ) (words : List (List ℕ)) (e : Event) → pass_of all_ids words ≡ Ok e → IsPass e
unfolding pass_of
pass_is all_ids [] e is = cc
pass_is all_ids (first ∷ words) e is =
    let dt = bind_ok (number_between 1 1000000000 first) _ e is in
    let clocks = bind_ok (clocks_of all_ids words) _ e dt.2 in
    record { dt = dt.0; clocks = clocks.0; is = same_ok (event.Pass dt.0 clocks.0) e clocks.2 }

abbrev some_line : List ℕ → Option (List ℕ)
some_line line = Some line

module _ (spelled : LinesAreSpelled) (s : Settings) (valid : IsValid s) where
  abbrev all_ids : List ℕ
  all_ids = ids s.nodes

  -- what the words of a line say
  record Says (words : List (List ℕ)) (e : ArbiterEvent) : Type 0 where
    pub line_is : arbiter_line all_ids e ≡ Some (join_with_byte 32 words)
    pub formed : is_well_formed_beside s e ≡ true

  -- ---- what is accepted is spelled so

  -- a pass whose line is this one
  pass_said : (advance : ℕ) (rest : List ℕ) (e : Event) → IsPass e → advance ≤ 1000000000000 → is_well_formed s e ≡ true → codes "pass" ++ 32 ∷ rest ≡ event_line all_ids e
      → (arbiter_line all_ids (beside.PassWith advance e) ≡ Some (codes "pass-with" ++ 32 ∷ (decimal advance ++ 32 ∷ rest))) × (is_well_formed_beside s (beside.PassWith advance e) ≡ true)
  unfolding arbiter_line event_line is_well_formed_beside
  pass_said advance rest e pass below formed same =
      let line = same ∙ ap (event_line all_ids) (sym pass.is) in
      let rest_is : rest ≡ join_with_byte 32 (decimal pass.dt ∷ map (clock_word all_ids) pass.clocks) = cc in
      let few : nat_le advance 1000000000000 ≡ true = grind (arith, nat_tests, below) in (
        ap (λ one. arbiter_line all_ids (beside.PassWith advance one)) (sym pass.is)
            ∙ ap (λ text. Some (codes "pass-with" ++ 32 ∷ (decimal advance ++ 32 ∷ text))) (sym rest_is),
        rw (few, formed) refl,
      )

  pass_with_ok : (first second : List ℕ) (words : List (List ℕ)) (e : ArbiterEvent) → words_of (join_with_byte 32 (second ∷ words)) ≡ second ∷ words
      → length (join_with_byte 32 (codes "pass-with" ∷ first ∷ second ∷ words)) ≤ 4096 → pass_with_of all_ids (first ∷ second ∷ words) ≡ Ok e → Says (codes "pass-with" ∷ first ∷ second ∷ words) e
  unfolding pass_with_of
  pass_with_ok first second words e parted short is =
      let rest = join_with_byte 32 (second ∷ words) in
      let advance = bind_ok (number_between 0 1000000000000 first) _ e is in
      let pass = bind_ok (pass_of all_ids (second ∷ words)) _ e advance.2 in
      let number = number_between-ok 0 1000000000000 first advance.0 advance.1 in
      let length_rest = length-append first (32 ∷ rest) in
      let whole = pass_whole all_ids rest pass.0 (omega (arith, short, length_rest)) (ap (pass_of all_ids) parted ∙ pass.1) in
      let both = (spelled s (codes "pass" ++ 32 ∷ rest) pass.0 valid).0 whole in
      let said = pass_said advance.0 rest pass.0 (pass_is all_ids (second ∷ words) pass.0 pass.1) number.below both.0 both.1 in
      subst (λ (x : ArbiterEvent). Says (codes "pass-with" ∷ first ∷ second ∷ words) x) (same_ok (beside.PassWith advance.0 pass.0) e pass.2)
      (record {
        line_is = said.0 ∙ ap (λ word. Some (codes "pass-with" ++ 32 ∷ (word ++ 32 ∷ rest))) (sym number.word_is);
        formed = said.1;
      })

  boot_ok : (words : List (List ℕ)) (e : ArbiterEvent) → arbiter_boot_of words ≡ Ok e → Says (codes "arbiter-boot" ∷ words) e
  unfolding arbiter_boot_of arbiter_line is_well_formed_beside
  boot_ok words e is =
      let word = bind_ok (one_word words) _ e is in
      let base = bind_ok (number_between 0 1000000000000000 word.0) _ e word.2 in
      let number = number_between-ok 0 1000000000000000 word.0 base.0 base.1 in
      let below = number.below in
      let words_are = one_word-ok words word.0 word.1 ∙ ap (λ w. w ∷ []) number.word_is in
      subst (λ (x : ArbiterEvent). Says (codes "arbiter-boot" ∷ words) x) (same_ok (beside.ArbiterBoot base.0) e base.2)
      (record {
        line_is = ap (λ ws. Some (join_with_byte 32 (codes "arbiter-boot" ∷ ws))) (sym words_are);
        formed = grind (arith, nat_tests, below);
      })

  crash_ok : (words : List (List ℕ)) (e : ArbiterEvent) → arbiter_event_named all_ids ArbiterCrash words ≡ Ok e → Says (codes "arbiter-crash" ∷ words) e
  unfolding arbiter_event_named arbiter_line is_well_formed_beside
  crash_ok [] e is = subst (λ (x : ArbiterEvent). Says (codes "arbiter-crash" ∷ []) x) (same_ok beside.ArbiterCrash e is) (record { line_is = refl; formed = refl })
  crash_ok (word ∷ words) e is = cc

  poll_said : (word : List ℕ) (rank : Rank) → is_well_formed s (event.Tick rank) ≡ true → codes "tick" ++ 32 ∷ word ≡ event_line all_ids (event.Tick rank)
      → Says (codes "poll" ∷ word ∷ []) (beside.Poll rank)
  unfolding arbiter_line event_line is_well_formed is_well_formed_beside
  poll_said word rank formed same =
      let word_is : word ≡ id_word all_ids rank = cc in
      record { line_is = ap (λ w. Some (codes "poll" ++ 32 ∷ w)) (sym word_is); formed = formed }

  poll_ok : (words : List (List ℕ)) (e : ArbiterEvent) → AreBlankless words → length (join_with_byte 32 (codes "poll" ∷ words)) ≤ 4096 → poll_of all_ids words ≡ Ok e
      → Says (codes "poll" ∷ words) e
  unfolding poll_of
  poll_ok words e blankless short is =
      let word = bind_ok (one_word words) _ e is in
      let rank = bind_ok (rank_of all_ids word.0) _ e word.2 in
      let words_are = one_word-ok words word.0 word.1 in
      let plain = subst AreBlankless words_are blankless in
      let fits = subst (λ (ws : List (List ℕ)). length (join_with_byte 32 (codes "poll" ∷ ws)) ≤ 4096) words_are short in
      let read = tick_whole all_ids word.0 rank.0 (omega (arith, fits)) (words_joined word.0 [] plain) rank.1 in
      let both = (spelled s (codes "tick" ++ 32 ∷ word.0) (event.Tick rank.0) valid).0 read in
      subst (λ (x : ArbiterEvent). Says (codes "poll" ∷ words) x) (same_ok (beside.Poll rank.0) e rank.2)
      (subst (λ (ws : List (List ℕ)). Says (codes "poll" ∷ ws) (beside.Poll rank.0)) (sym words_are) (poll_said word.0 rank.0 both.0 both.1))

  hear_ok : (words : List (List ℕ)) (e : ArbiterEvent) → hear_of words ≡ Ok e → Says (codes "hear" ∷ words) e
  unfolding hear_of arbiter_line is_well_formed_beside
  hear_ok words e is =
      let word = bind_ok (one_word words) _ e is in
      let read = bind_ok (number_between 0 (2 ^ 64 - 1) word.0) _ e word.2 in
      let number = number_between-ok 0 (2 ^ 64 - 1) word.0 read.0 read.1 in
      let below = number.below in
      let words_are = one_word-ok words word.0 word.1 ∙ ap (λ w. w ∷ []) number.word_is in
      subst (λ (x : ArbiterEvent). Says (codes "hear" ∷ words) x) (same_ok (beside.Hear read.0) e read.2)
      (record {
        line_is = ap (λ ws. Some (join_with_byte 32 (codes "hear" ∷ ws))) (sym words_are);
        formed = lt-ltb read.0 (2 ^ 64) (omega (arith, below));
      })

  reply_ok : (words : List (List ℕ)) (e : ArbiterEvent) → reply_of words ≡ Ok e → Says (codes "reply" ∷ words) e
  unfolding reply_of arbiter_line is_well_formed_beside
  reply_ok words e is =
      let word = bind_ok (one_word words) _ e is in
      let read = bind_ok (number_between 0 (2 ^ 64 - 1) word.0) _ e word.2 in
      let number = number_between-ok 0 (2 ^ 64 - 1) word.0 read.0 read.1 in
      let below = number.below in
      let words_are = one_word-ok words word.0 word.1 ∙ ap (λ w. w ∷ []) number.word_is in
      subst (λ (x : ArbiterEvent). Says (codes "reply" ∷ words) x) (same_ok (beside.Reply read.0) e read.2)
      (record {
        line_is = ap (λ ws. Some (join_with_byte 32 (codes "reply" ∷ ws))) (sym words_are);
        formed = lt-ltb read.0 (2 ^ 64) (omega (arith, below));
      })

  pass_ok : (words : List (List ℕ)) (e : ArbiterEvent) → AreBlankless words → length (join_with_byte 32 (codes "pass-with" ∷ words)) ≤ 4096 → pass_with_of all_ids words ≡ Ok e
      → Says (codes "pass-with" ∷ words) e
  unfolding pass_with_of
  pass_ok [] e blankless short is = cc
  pass_ok (first ∷ []) e blankless short is = cc
  pass_ok (first ∷ second ∷ words) e blankless short is = pass_with_ok first second words e (words_joined second words blankless.1) short is

  named_ok : (name : ArbiterName) (words : List (List ℕ)) (e : ArbiterEvent) → AreBlankless words → length (join_with_byte 32 (arbiter_word name ∷ words)) ≤ 4096
      → arbiter_event_named all_ids name words ≡ Ok e → Says (arbiter_word name ∷ words) e
  unfolding arbiter_event_named
  named_ok PassWith words e blankless short is = pass_ok words e blankless short is
  named_ok ArbiterBoot words e blankless short is = boot_ok words e is
  named_ok ArbiterCrash words e blankless short is = crash_ok words e is
  named_ok Poll words e blankless short is = poll_ok words e blankless short is
  named_ok Hear words e blankless short is = hear_ok words e is
  named_ok Reply words e blankless short is = reply_ok words e is

  alone_ok : (line : List ℕ) (e : ArbiterEvent) → event_alone_of all_ids line ≡ Ok e → IsTrue (is_well_formed_beside s e) × (arbiter_line all_ids e ≡ Some line)
  unfolding event_alone_of arbiter_line event_line is_well_formed_beside
  alone_ok line e is =
      let one = bind_ok (event_of all_ids line) _ e is in
      let both = (spelled s line one.0 valid).0 one.1 in
      subst (λ (x : ArbiterEvent). IsTrue (is_well_formed_beside s x) × (arbiter_line all_ids x ≡ Some line)) (same_ok (beside.One one.0) e one.2)
      (both.0, ap Some (sym both.1))

  by_name : (line first : List ℕ) (words : List (List ℕ)) (e : ArbiterEvent) → words_of line ≡ first ∷ words → length line ≤ 4096 → (name : Option ArbiterName) → arbiter_name first ≡ name
      → option_map_or (λ n. arbiter_event_named all_ids n words) name (event_alone_of all_ids line) ≡ Ok e
      → IsTrue (is_well_formed_beside s e) × (arbiter_line all_ids e ≡ Some line)
  by_name line first words e parted short None is accepted = alone_ok line e accepted
  by_name line first words e parted short (Some name) is accepted =
      let words_are = parted ∙ ap (λ w. w ∷ words) (named first name is) in
      let joined = sym (ap (join_with_byte 32) words_are) ∙ join_with_byte-slice_split 32 line in
      let blankless = subst AreBlankless parted (words_blankless line) in
      let fits = subst (λ (text : List ℕ). length text ≤ 4096) (sym joined) short in
      let says = named_ok name words e blankless.1 fits accepted in
      (says.formed, says.line_is ∙ ap Some joined)

  words_ok : (line : List ℕ) (words : List (List ℕ)) (e : ArbiterEvent) → words_of line ≡ words → length line ≤ 4096 → arbiter_event_of_words all_ids line words ≡ Ok e
      → IsTrue (is_well_formed_beside s e) × (arbiter_line all_ids e ≡ Some line)
  unfolding arbiter_event_of_words
  words_ok line [] e parted short is = cc
  words_ok line (first ∷ words) e parted short is = by_name line first words e parted short (arbiter_name first) refl is

  -- ---- what is spelled so is accepted

  alone_by_name : (line first : List ℕ) (words : List (List ℕ)) (e : Event) → event_of all_ids line ≡ Ok e → event_of_words all_ids (first ∷ words) ≡ Ok e
      → (name : Option ArbiterName) → arbiter_name first ≡ name
      → option_map_or (λ n. arbiter_event_named all_ids n words) name (event_alone_of all_ids line) ≡ Ok (beside.One e)
  unfolding event_alone_of
  alone_by_name line first words e whole accepted None is = rw whole refl
  alone_by_name line first words e whole accepted (Some name) is = absurd (not_alone all_ids first words name e (named first name is) accepted)

  alone_words : (line : List ℕ) (words : List (List ℕ)) (e : Event) → event_of all_ids line ≡ Ok e → event_of_words all_ids words ≡ Ok e
      → arbiter_event_of_words all_ids line words ≡ Ok (beside.One e)
  unfolding arbiter_event_of_words event_of_words
  alone_words line [] e whole accepted = cc
  alone_words line (first ∷ words) e whole accepted = alone_by_name line first words e whole accepted (arbiter_name first) refl

  accepted_alone : (e : Event) → is_well_formed s e ≡ true → arbiter_event_of all_ids (event_line all_ids e) ≡ Ok (beside.One e)
  accepted_alone e formed =
      let line = event_line all_ids e in
      let whole = (spelled s line e valid).1 (formed, refl) in
      let read = event_words_read all_ids line e whole in
      line_read all_ids line (beside.One e) read.0 (alone_words line (words_of line) e whole read.1)

  number_words : (n : ℕ) → n < 2 ^ 64 → words_of (decimal n) ≡ decimal n ∷ []
  number_words n fits = slice_split_none (λ b. b == 32) (decimal n) (decimal_blankless n fits)

  accepted_boot : (base : ℕ) → nat_le base 1000000000000000 ≡ true → arbiter_event_of all_ids (codes "arbiter-boot" ++ 32 ∷ decimal base) ≡ Ok (beside.ArbiterBoot base)
  unfolding arbiter_event_of_words arbiter_name arbiter_event_named arbiter_boot_of
  accepted_boot base formed =
      let below = leb-true base 1000000000000000 formed in
      let digits = length-decimal base (omega (arith, below)) in
      line_read all_ids (codes "arbiter-boot" ++ 32 ∷ decimal base) (beside.ArbiterBoot base) (omega (arith, digits))
      (rw (number_words base (omega (arith, below)), number_between-decimal 0 1000000000000000 base (omega arith) below (omega (arith, below))) refl)

  accepted_hear : (number : ℕ) → nat_lt number (2 ^ 64) ≡ true → arbiter_event_of all_ids (codes "hear" ++ 32 ∷ decimal number) ≡ Ok (beside.Hear number)
  unfolding arbiter_event_of_words arbiter_name arbiter_event_named hear_of
  accepted_hear number formed =
      let fits = ltb-true number (2 ^ 64) formed in
      let digits = length-decimal number fits in
      line_read all_ids (codes "hear" ++ 32 ∷ decimal number) (beside.Hear number) (omega (arith, digits))
      (rw (number_words number fits, number_between-decimal 0 (2 ^ 64 - 1) number (omega arith) (omega (arith, fits)) fits) refl)

  accepted_reply : (number : ℕ) → nat_lt number (2 ^ 64) ≡ true → arbiter_event_of all_ids (codes "reply" ++ 32 ∷ decimal number) ≡ Ok (beside.Reply number)
  unfolding arbiter_event_of_words arbiter_name arbiter_event_named reply_of
  accepted_reply number formed =
      let fits = ltb-true number (2 ^ 64) formed in
      let digits = length-decimal number fits in
      line_read all_ids (codes "reply" ++ 32 ∷ decimal number) (beside.Reply number) (omega (arith, digits))
      (rw (number_words number fits, number_between-decimal 0 (2 ^ 64 - 1) number (omega arith) (omega (arith, fits)) fits) refl)

  accepted_crash : arbiter_event_of all_ids (codes "arbiter-crash") ≡ Ok beside.ArbiterCrash
  unfolding arbiter_event_of_words arbiter_name arbiter_event_named
  accepted_crash = line_read all_ids (codes "arbiter-crash") beside.ArbiterCrash (omega arith) refl

  -- the node of a poll, by the line of its tick
  poll_words : (rank : Rank) (rest : List ℕ) → (one_word (words_of rest) >>= (λ word. rank_of all_ids word >>= (λ r. Ok (event.Tick r)))) ≡ Ok (event.Tick rank) → poll_of all_ids (words_of rest) ≡ Ok (beside.Poll rank)
  unfolding poll_of
  poll_words rank rest is =
      let word = bind_ok (one_word (words_of rest)) _ (event.Tick rank) is in
      let read = bind_ok (rank_of all_ids word.0) _ (event.Tick rank) word.2 in
      let same : read.0 ≡ rank = let ticks = same_ok (event.Tick read.0) (event.Tick rank) read.2 in cc in
      rw (word.1, read.1, same) refl

  accepted_poll : (rank : Rank) → is_configured s rank.0 ≡ true → arbiter_event_of all_ids (codes "poll" ++ 32 ∷ id_word all_ids rank) ≡ Ok (beside.Poll rank)
  unfolding is_well_formed event_line arbiter_event_of_words arbiter_name arbiter_event_named
  accepted_poll rank formed =
      let id = id_word all_ids rank in
      let tick = tick_rest all_ids id (event.Tick rank) ((spelled s (codes "tick" ++ 32 ∷ id) (event.Tick rank) valid).1 (formed, refl)) in
      let short = tick.0 in
      line_read all_ids (codes "poll" ++ 32 ∷ id) (beside.Poll rank) (omega (arith, short)) (poll_words rank id tick.1)

  -- a pass in which the arbiter's clock advances
  pass_with_behind : (advance : ℕ) (words : List (List ℕ)) (e : Event) → 0 < length words → advance ≤ 1000000000000 → pass_of all_ids words ≡ Ok e
      → pass_with_of all_ids (decimal advance ∷ words) ≡ Ok (beside.PassWith advance e)
  unfolding pass_with_of
  pass_with_behind advance [] e some below is = absurd (omega arith)
  pass_with_behind advance (second ∷ words) e some below is = rw (number_between-decimal 0 1000000000000 advance (omega arith) below (omega (arith, below)), is) refl

  pass_with_words : (advance : ℕ) (rest : List ℕ) → advance < 2 ^ 64 → words_of (decimal advance ++ 32 ∷ rest) ≡ decimal advance ∷ words_of rest
  pass_with_words advance rest fits = slice_split_at (λ b. b == 32) (decimal advance) 32 rest (decimal_blankless advance fits) refl

  accepted_pass : (advance dt : ℕ) (clocks : List (Rank × ℕ)) → nat_le advance 1000000000000 ≡ true → is_well_formed s (event.Pass dt clocks) ≡ true
      → arbiter_event_of all_ids (codes "pass-with" ++ 32 ∷ (decimal advance ++ 32 ∷ join_with_byte 32 (decimal dt ∷ map (clock_word all_ids) clocks))) ≡ Ok (beside.PassWith advance (event.Pass dt clocks))
  unfolding event_line arbiter_event_of_words arbiter_name arbiter_event_named
  accepted_pass advance dt clocks few formed =
      let one = event.Pass dt clocks in
      let rest = join_with_byte 32 (decimal dt ∷ map (clock_word all_ids) clocks) in
      let below = leb-true advance 1000000000000 few in
      let fits : advance < 2 ^ 64 = omega (arith, below) in
      let digits = length-decimal advance fits in
      let length_rest = length_pass s valid dt clocks formed in
      let whole = length-append (decimal advance) (32 ∷ rest) in
      let read = pass_rest all_ids rest one ((spelled s (codes "pass" ++ 32 ∷ rest) one valid).1 (formed, refl)) in
      line_read all_ids (codes "pass-with" ++ 32 ∷ (decimal advance ++ 32 ∷ rest)) (beside.PassWith advance one) (omega (arith, digits, length_rest, whole))
      (ap (pass_with_of all_ids) (pass_with_words advance rest fits) ∙ pass_with_behind advance (words_of rest) one (some_word rest) below read)

  abbrev IsAccepted : ArbiterEvent → List ℕ → Type 0
  IsAccepted e line = arbiter_event_of all_ids line ≡ Ok e

  same_line : (e : ArbiterEvent) (written line : List ℕ) → some_line written ≡ Some line → IsAccepted e written → IsAccepted e line
  same_line e written line same accepted = let is : written ≡ line = cc in subst (λ (text : List ℕ). IsAccepted e text) is accepted

  -- no other event than a pass has such a line
  accepted_with : (advance : ℕ) (one : Event) (line : List ℕ) → is_well_formed_beside s (beside.PassWith advance one) ≡ true → arbiter_line all_ids (beside.PassWith advance one) ≡ Some line
      → IsAccepted (beside.PassWith advance one) line
  unfolding arbiter_line is_well_formed_beside
  accepted_with advance (event.Pass dt clocks) line formed is =
      let both = and_parts (nat_le advance 1000000000000) (is_well_formed s (event.Pass dt clocks)) formed in
      same_line (beside.PassWith advance (event.Pass dt clocks)) _ line is (accepted_pass advance dt clocks both.0 both.1)
  accepted_with advance (event.Boot rank base) line formed is = cc
  accepted_with advance (event.BootClean rank base) line formed is = cc
  accepted_with advance (event.Crash rank) line formed is = cc
  accepted_with advance (event.Land rank) line formed is = cc
  accepted_with advance (event.Done rank) line formed is = cc
  accepted_with advance (event.Fail rank) line formed is = cc
  accepted_with advance (event.Late rank number) line formed is = cc
  accepted_with advance (event.View rank view) line formed is = cc
  accepted_with advance (event.Deliver rank number) line formed is = cc
  accepted_with advance (event.Device rank agrees) line formed is = cc
  accepted_with advance (event.Tick rank) line formed is = cc
  accepted_with advance (event.Stopped rank) line formed is = cc
  accepted_with advance (event.Unstopped rank) line formed is = cc
  accepted_with advance (event.Leave rank) line formed is = cc
  accepted_with advance (event.Feed rank) line formed is = cc
  accepted_with advance (event.Operator rank message) line formed is = cc

  accepted : (e : ArbiterEvent) (line : List ℕ) → is_well_formed_beside s e ≡ true → arbiter_line all_ids e ≡ Some line → IsAccepted e line
  unfolding arbiter_line event_line is_well_formed_beside
  accepted (beside.One e) line formed is = same_line (beside.One e) (event_line all_ids e) line is (accepted_alone e formed)
  accepted (beside.PassWith advance one) line formed is = accepted_with advance one line formed is
  accepted (beside.ArbiterBoot base) line formed is = same_line (beside.ArbiterBoot base) _ line is (accepted_boot base formed)
  accepted beside.ArbiterCrash line formed is = same_line beside.ArbiterCrash _ line is accepted_crash
  accepted (beside.Poll rank) line formed is = same_line (beside.Poll rank) _ line is (accepted_poll rank formed)
  accepted (beside.Hear number) line formed is = same_line (beside.Hear number) _ line is (accepted_hear number formed)
  accepted (beside.Reply number) line formed is = same_line (beside.Reply number) _ line is (accepted_reply number formed)

-- a line is accepted exactly where it is the line of a well formed event
pub arbiter_spelled : LinesAreSpelled → (s : Settings) (line : List ℕ) (e : ArbiterEvent) → IsValid s
    → (arbiter_event_of (ids s.nodes) line ≡ Ok e) ↔ (IsTrue (is_well_formed_beside s e) × (arbiter_line (ids s.nodes) e ≡ Some line))
arbiter_spelled spelled s line e valid = (
  λ is. let it = words_read (ids s.nodes) line e is in words_ok spelled s valid line (words_of line) e refl it.0 it.1,
  λ both. accepted spelled s valid e line both.0 both.1,
)

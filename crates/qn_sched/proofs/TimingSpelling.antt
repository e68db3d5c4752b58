-- A timing line is accepted exactly where it is the spelling of five times.
use Rattle.std.proofs.Common.{◌≡◌, ℕ, ◌+◌, ◌<◌, ◌≤◌, ◌==◌, Bool, true, false, ◌&&◌, ◌↔◌, IsTrue, List, [], ◌∷◌, ◌++◌, length, Result, Ok, Err, refl, sym, ap, ◌∙◌, arith, nat_lt, nat_le, cond, lit<}
use Rattle.std.specs.Prelude.{decimal, codes}
use Rattle.std.specs.List.{join_with_byte}
use Rattle.std.specs.Str.{bytes_eq}
use Rattle.std.proofs.lemmas.Bool.{leb-true, le-ltb, and_parts, cond-false}
use Rattle.std.proofs.lemmas.Bool.Decides.{nat_tests}
use Rattle.std.proofs.lemmas.List.{length-append}
use Rattle.std.proofs.lemmas.List.Splits.{slice_split_at, slice_split_none, join_with_byte-slice_split}
use Rattle.std.proofs.lemmas.Fmt.{length-decimal-le}
use Rattle.std.proofs.lemmas.Slice.Eq.{bytes_eq-Decides}
use Rattle.qn_model.specs.declared.line_fault.LineFault.{LineFault}
use Rattle.qn_model.specs.declared.line_fault.LineFault.TheVariants.{UnknownWord, BadCount, TooLong}
use Rattle.qn_model.specs.declared.times.Timing.{Timing}
use Rattle.qn_model.specs.lemmas.Lines.{bind_ok}
use Rattle.qn_model.specs.Lines.{words_of}
use Rattle.qn_model.specs.Timing.{is_period, has_periods}
use Rattle.qn_sched.specs.TimingLine.{time_of, times_of, times_of_words, timing_line, timing_of, timing_of_words}
use Rattle.qn_sched.specs.WrittenNumbers.{number_between-ok, number_between-decimal, decimal_blankless}

ok_same : {A : Type 0} (a b : A) (x y : Result A LineFault) → x ≡ Ok a → y ≡ Ok b → x ≡ y → a ≡ b
ok_same a b x y is_a is_b same = cc

-- a time that was accepted is written so, and within an hour
pub record IsTime (word : List ℕ) (time : ℕ) : Type 0 where
  pub word_is : word ≡ decimal time
  pub in_range : is_period time ≡ true

time_of-ok : (word : List ℕ) (time : ℕ) → time_of word ≡ Ok time → IsTime word time
unfolding time_of
time_of-ok word time is =
    let it = number_between-ok 1 3600000 word time is in
    let above = it.above in
    let below = it.below in
    record { word_is = it.word_is; in_range = grind (arith, nat_tests) }

time_of-decimal : (time : ℕ) → is_period time ≡ true → time_of (decimal time) ≡ Ok time
unfolding time_of
time_of-decimal time is =
    let both = and_parts (nat_le 1 time) (nat_le time 3600000) is in
    let above : 1 ≤ time = grind (arith, nat_tests) in
    let below : time ≤ 3600000 = grind (arith, nat_tests) in
    number_between-decimal 1 3600000 time above below (omega arith)

-- five times that were accepted
pub record AreTimes (first second third fourth fifth : List ℕ) (t : Timing) : Type 0 where
  pub watchdog : IsTime first t.watchdog
  pub msgwait : IsTime second t.msgwait
  pub loop_ms : IsTime third t.loop_ms
  pub read_limit : IsTime fourth t.read_limit
  pub feed_delay : IsTime fifth t.feed_delay

times_of-ok : (first second third fourth fifth : List ℕ) (t : Timing) → times_of first second third fourth fifth ≡ Ok t → AreTimes first second third fourth fifth t
unfolding times_of
times_of-ok first second third fourth fifth t is =
    let a = bind_ok (time_of first) _ t is in
    let b = bind_ok (time_of second) _ t a.2 in
    let c = bind_ok (time_of third) _ t b.2 in
    let d = bind_ok (time_of fourth) _ t c.2 in
    let e = bind_ok (time_of fifth) _ t d.2 in
    let same : record { watchdog = a.0; msgwait = b.0; loop_ms = c.0; read_limit = d.0; feed_delay = e.0 } ≡ t = ok_same _ t _ _ refl refl e.2 in
    record {
      watchdog = time_of-ok first t.watchdog (a.1 ∙ ap (λ x. Ok x.watchdog) same);
      msgwait = time_of-ok second t.msgwait (b.1 ∙ ap (λ x. Ok x.msgwait) same);
      loop_ms = time_of-ok third t.loop_ms (c.1 ∙ ap (λ x. Ok x.loop_ms) same);
      read_limit = time_of-ok fourth t.read_limit (d.1 ∙ ap (λ x. Ok x.read_limit) same);
      feed_delay = time_of-ok fifth t.feed_delay (e.1 ∙ ap (λ x. Ok x.feed_delay) same);
    }

-- the words of a timing line
abbrev timing_words : Timing → List (List ℕ)
timing_words t =
    decimal t.watchdog ∷ decimal t.msgwait ∷ decimal t.loop_ms ∷ decimal t.read_limit ∷ decimal t.feed_delay ∷ []

-- the words that were accepted are those of these times, which are in range
times_of_words-ok : (words : List (List ℕ)) (t : Timing) → times_of_words words ≡ Ok t → (words ≡ timing_words t) × IsTrue (has_periods t)
unfolding times_of_words
times_of_words-ok [] t is = cc
times_of_words-ok (a ∷ []) t is = cc
times_of_words-ok (a ∷ b ∷ []) t is = cc
times_of_words-ok (a ∷ b ∷ c ∷ []) t is = cc
times_of_words-ok (a ∷ b ∷ c ∷ d ∷ []) t is = cc
times_of_words-ok (a ∷ b ∷ c ∷ d ∷ e ∷ []) t is =
    let times = times_of-ok a b c d e t is in
    let first = times.watchdog.word_is in
    let second = times.msgwait.word_is in
    let third = times.loop_ms.word_is in
    let fourth = times.read_limit.word_is in
    let fifth = times.feed_delay.word_is in
    (cc, rw (times.watchdog.in_range, times.msgwait.in_range, times.loop_ms.in_range, times.read_limit.in_range, times.feed_delay.in_range) refl)
times_of_words-ok (a ∷ b ∷ c ∷ d ∷ e ∷ f ∷ words) t is = cc

times_of_words-decimal : (t : Timing) → IsTrue (has_periods t) → times_of_words (timing_words t) ≡ Ok t
unfolding times_of_words times_of
times_of_words-decimal t all =
    let fifth = and_parts (is_period t.watchdog && is_period t.msgwait && is_period t.loop_ms && is_period t.read_limit) (is_period t.feed_delay) all in
    let fourth = and_parts (is_period t.watchdog && is_period t.msgwait && is_period t.loop_ms) (is_period t.read_limit) fifth.0 in
    let third = and_parts (is_period t.watchdog && is_period t.msgwait) (is_period t.loop_ms) fourth.0 in
    let second = and_parts (is_period t.watchdog) (is_period t.msgwait) third.0 in
    rw (time_of-decimal t.watchdog second.0, time_of-decimal t.msgwait second.1, time_of-decimal t.loop_ms third.1, time_of-decimal t.read_limit fourth.1, time_of-decimal t.feed_delay fifth.1) refl

-- the words of a line, by its first
timing_of_words-ok : (words : List (List ℕ)) (t : Timing) → timing_of_words words ≡ Ok t → (words ≡ codes "timing" ∷ timing_words t) × IsTrue (has_periods t)
unfolding timing_of_words
timing_of_words-ok [] t is = cc
timing_of_words-ok (first ∷ words) t is = by_first first words t (bytes_eq first (codes "timing")) refl is
  where
    by_first : (first : List ℕ) (words : List (List ℕ)) (t : Timing) (b : Bool) → bytes_eq first (codes "timing") ≡ b
        → cond b (times_of_words words) (Err UnknownWord) ≡ Ok t → (first ∷ words ≡ codes "timing" ∷ timing_words t) × IsTrue (has_periods t)
    by_first first words t true same is =
        let rest = times_of_words-ok words t is in
        let name = (bytes_eq-Decides first (codes "timing")).0 same in
        (ap (λ x. x ∷ words) name ∙ ap (λ xs. codes "timing" ∷ xs) rest.0, rest.1)
    by_first first words t false same is = cc

-- a time in range is small
period_small : (time : ℕ) → is_period time ≡ true → time ≤ 3600000
period_small time is = leb-true time 3600000 (and_parts (nat_le 1 time) (nat_le time 3600000) is).1

-- the first of the words of a line is a time
words_of-decimal : (time : ℕ) (rest : List ℕ) (words : List (List ℕ)) → time ≤ 3600000 → words_of rest ≡ words → words_of (decimal time ++ 32 ∷ rest) ≡ decimal time ∷ words
words_of-decimal time rest words small is =
    slice_split_at (λ b. b == 32) (decimal time) 32 rest (decimal_blankless time (omega arith)) refl ∙ ap (λ xs. decimal time ∷ xs) is

words_of-last : (time : ℕ) → time ≤ 3600000 → words_of (decimal time) ≡ decimal time ∷ []
words_of-last time small = slice_split_none (λ b. b == 32) (decimal time) (decimal_blankless time (omega arith))

-- five times in range
pub record AreSmall (t : Timing) : Type 0 where
  pub watchdog : t.watchdog ≤ 3600000
  pub msgwait : t.msgwait ≤ 3600000
  pub loop_ms : t.loop_ms ≤ 3600000
  pub read_limit : t.read_limit ≤ 3600000
  pub feed_delay : t.feed_delay ≤ 3600000

are_small : (t : Timing) → IsTrue (has_periods t) → AreSmall t
are_small t all =
    let fifth = and_parts (is_period t.watchdog && is_period t.msgwait && is_period t.loop_ms && is_period t.read_limit) (is_period t.feed_delay) all in
    let fourth = and_parts (is_period t.watchdog && is_period t.msgwait && is_period t.loop_ms) (is_period t.read_limit) fifth.0 in
    let third = and_parts (is_period t.watchdog && is_period t.msgwait) (is_period t.loop_ms) fourth.0 in
    let second = and_parts (is_period t.watchdog) (is_period t.msgwait) third.0 in
    record {
      watchdog = period_small t.watchdog second.0;
      msgwait = period_small t.msgwait second.1;
      loop_ms = period_small t.loop_ms third.1;
      read_limit = period_small t.read_limit fourth.1;
      feed_delay = period_small t.feed_delay fifth.1;
    }

-- the words of the spelling
words_of-timing_line : (t : Timing) → AreSmall t → words_of (timing_line t) ≡ codes "timing" ∷ timing_words t
words_of-timing_line t small =
    ap (λ words. codes "timing" ∷ words)
    (words_of-decimal t.watchdog _ _ small.watchdog
    (words_of-decimal t.msgwait _ _ small.msgwait
    (words_of-decimal t.loop_ms _ _ small.loop_ms
    (words_of-decimal t.read_limit _ _ small.read_limit
    (words_of-last t.feed_delay small.feed_delay)))))

-- a word and what follows it
length-word : (time : ℕ) (rest : List ℕ) (k : ℕ) → time ≤ 3600000 → length rest ≤ k → length (decimal time ++ 32 ∷ rest) ≤ k + 8
length-word time rest k small fits =
    let own : length (decimal time) ≤ 7 = length-decimal-le 7 time (lit< tt) (omega arith) (omega arith) in
    simp length-append (omega arith)

length-timing_line : (t : Timing) → AreSmall t → length (timing_line t) ≤ 4096
length-timing_line t small =
    let last : length (decimal t.feed_delay) ≤ 7 = length-decimal-le 7 t.feed_delay (lit< tt) (let s = small.feed_delay in omega arith) (let s = small.feed_delay in omega arith) in
    let all = length-word t.watchdog _ 31 small.watchdog (length-word t.msgwait _ 23 small.msgwait (length-word t.loop_ms _ 15 small.loop_ms (length-word t.read_limit _ 7 small.read_limit last))) in
    omega arith

-- a line that was accepted is the spelling of its times
timing_of-ok : (line : List ℕ) (t : Timing) → timing_of line ≡ Ok t → IsTrue (has_periods t) × (line ≡ timing_line t)
unfolding timing_of
timing_of-ok line t is = by_length line t (nat_lt 4096 (length line)) is
  where
    by_length : (line : List ℕ) (t : Timing) (b : Bool) → cond b (Err TooLong) (timing_of_words (words_of line)) ≡ Ok t → IsTrue (has_periods t) × (line ≡ timing_line t)
    by_length line t true is = cc
    by_length line t false is =
        let words = timing_of_words-ok (words_of line) t is in
        (words.1, sym (join_with_byte-slice_split 32 line) ∙ ap (join_with_byte 32) words.0)

timing_of-timing_line : (t : Timing) → IsTrue (has_periods t) → timing_of (timing_line t) ≡ Ok t
unfolding timing_of timing_of_words
timing_of-timing_line t all =
    let small = are_small t all in
    let short : nat_lt 4096 (length (timing_line t)) ≡ false = le-ltb 4096 (length (timing_line t)) (length-timing_line t small) in
    cond-false (nat_lt 4096 (length (timing_line t))) (Err TooLong) (timing_of_words (words_of (timing_line t))) short
    ∙ ap timing_of_words (words_of-timing_line t small) ∙ times_of_words-decimal t all

-- a line is accepted exactly where it is the spelling of times in range
pub timing_spelled : (line : List ℕ) (t : Timing) → (timing_of line ≡ Ok t) ↔ (IsTrue (has_periods t) × (line ≡ timing_line t))
timing_spelled line t =
    (timing_of-ok line t, λ h. ap timing_of h.1 ∙ timing_of-timing_line t h.0)

-- more than five words after the first
pub times_of_words-more : (a b c d e : List ℕ) (words : List (List ℕ)) → 0 < length words → times_of_words (a ∷ b ∷ c ∷ d ∷ e ∷ words) ≡ Err BadCount
unfolding times_of_words
times_of_words-more a b c d e [] some = absurd (omega arith)
times_of_words-more a b c d e (f ∷ words) some = refl

-- The words of an event's line: none has a blank, and together they fit a line.
use Rattle.std.proofs.Common.{◌≡◌, ◌+◌, ◌-◌, ◌*◌, ◌^◌, ◌<◌, ◌≤◌, ◌==◌, ℕ, zero, suc, Bool, true, false, ◌&&◌, not, cond, List, [], ◌∷◌, map, length, nat_le, nat_lt, slice_index, refl, sym, ap, ◌∙◌, subst, arith, inl}
use Rattle.std.specs.Prelude.{All, codes, decimal}
use Rattle.std.specs.List.{join_with_byte, list_all}
use Rattle.std.proofs.lemmas.Bool.{and_parts, leb-true, ltb-true}
use Rattle.std.proofs.lemmas.List.{length-append, length-map}
use Rattle.std.proofs.lemmas.List.Elements.{All-append, All-cons}
use Rattle.qn_base.specs.declared.ids.Mask.{Mask}
use Rattle.qn_base.specs.declared.ids.Rank.{Rank}
use Rattle.qn_base.specs.Members.{is_member}
use Rattle.qn_base.specs.Text.{yes_no}
use Rattle.qn_base.specs.lemmas.Decimals.{length-decimal}
use Rattle.qn_model.specs.declared.configuration.Settings.{Settings}
use Rattle.qn_model.specs.declared.events.Event.{Event}
use Rattle.qn_model.specs.declared.events.Event.TheVariants as event
use Rattle.qn_model.specs.declared.disk.Message.{Message}
use Rattle.qn_model.specs.declared.disk.Message.TheVariants.{Empty, Test, Reset, Off, Exit, Crashdump}
use Rattle.qn_model.specs.Lines.{is_ascending, words_of}
use Rattle.qn_model.specs.Messages.{operator_word}
use Rattle.qn_model.specs.Rules.{is_between, is_configured, is_well_formed}
use Rattle.qn_model.specs.Settings.{ids}
use Rattle.qn_names.specs.MemberWords.{joined, member_word}
use Rattle.qn_sched.specs.EventLines.{clock_word, event_words, id_word}
use Rattle.qn_sched.proofs.ClocksListed.{ascends_from, ascends_whole}
use Rattle.qn_sched.proofs.ClockSpelling.{is_clock, ranks_of}
use Rattle.qn_sched.proofs.Joining.{behind, join-behind}
use Rattle.qn_sched.proofs.MemberSpelling.{all_ranks, ranks_from, words_at, words_without}
use Rattle.qn_sched.proofs.PartsLemmas.{AreWithout, parts-joined}
use Rattle.qn_sched.proofs.RankSpelling.{AreIds}
use Rattle.qn_sched.specs.WrittenNumbers.{decimal_without}

-- no blank in a word
abbrev pub IsBlankless : List ℕ → Type 0
IsBlankless word = All (λ b. (b == 32) ≡ false) word

is_other : (b : ℕ) → not (b == 32) ≡ true → (b == 32) ≡ false
is_other b is = by_test (b == 32) is
  where
    by_test : (t : Bool) → not t ≡ true → t ≡ false
    by_test true is = cc
    by_test false is = refl

-- a word of which each byte was tested
blankless : (word : List ℕ) → list_all (λ b. not (b == 32)) word ≡ true → IsBlankless word
blankless [] all = λ k d inside. absurd (omega arith)
blankless (byte ∷ word) all =
    let both = and_parts (not (byte == 32)) (list_all (λ b. not (b == 32)) word) all in
    All-cons (λ b. (b == 32) ≡ false) byte word (is_other byte both.0) (blankless word both.1)

-- words that are joined by another byte
joined_blankless : (byte : ℕ) → (byte == 32) ≡ false → (words : List (List ℕ)) → AreWithout 32 words → IsBlankless (join_with_byte byte words)
joined_blankless byte other [] without = λ k d inside. absurd (omega arith)
joined_blankless byte other (word ∷ []) without = without.0
joined_blankless byte other (word ∷ next ∷ words) without =
    All-append (λ b. (b == 32) ≡ false) word (byte ∷ join_with_byte byte (next ∷ words)) without.0
    (All-cons (λ b. (b == 32) ≡ false) byte (join_with_byte byte (next ∷ words)) other (joined_blankless byte other (next ∷ words) without.1))

message_blankless : (message : Message) → IsBlankless (operator_word message)
message_blankless Empty = blankless (codes "clear") refl
message_blankless Test = blankless (codes "test") refl
message_blankless Reset = blankless (codes "reset") refl
message_blankless Off = blankless (codes "off") refl
message_blankless Exit = blankless (codes "exit") refl
message_blankless Crashdump = blankless (codes "crashdump") refl

short_message : (message : Message) → length (operator_word message) ≤ 20
short_message Empty = omega arith
short_message Test = omega arith
short_message Reset = omega arith
short_message Off = omega arith
short_message Exit = omega arith
short_message Crashdump = omega arith

-- words of so many bytes at most
abbrev pub AreShort : ℕ → List (List ℕ) → Type 0
AreShort most [] = Unit {0}
AreShort most (word ∷ words) = (length word ≤ most) × AreShort most words

length-behind : (byte most : ℕ) (words : List (List ℕ)) → AreShort most words → length (behind byte words) ≤ (most + 1) * length words
length-behind byte most [] short = omega arith
length-behind byte most (word ∷ words) short =
    let later = length-behind byte most words short.1 in
    let one = short.0 in
    let whole = length-append (byte ∷ word) (behind byte words) in
    grind (arith, whole, later, one)

length-join : (byte most : ℕ) (word : List ℕ) (words : List (List ℕ)) → AreShort most words → length (join_with_byte byte (word ∷ words)) ≤ length word + (most + 1) * length words
length-join byte most word words short =
    let whole = ap length (join-behind byte word words) ∙ length-append word (behind byte words) in
    let rest = length-behind byte most words short in
    omega (arith, whole, rest)

words_short : (ids : List ℕ) → AreIds ids → (ranks : List ℕ) → AreShort 20 (words_at ids ranks)
words_short ids known [] = tt
words_short ids known (rank ∷ ranks) = (length-decimal (slice_index ids rank) (known.fit rank), words_short ids known ranks)

length-joined : (ids : List ℕ) → AreIds ids → (ranks : List ℕ) → length (join_with_byte 44 (words_at ids ranks)) ≤ 21 * length ranks
length-joined ids known [] = omega arith
length-joined ids known (rank ∷ ranks) =
    let whole = length-join 44 20 (decimal (slice_index ids rank)) (words_at ids ranks) (words_short ids known ranks) in
    let first = length-decimal (slice_index ids rank) (known.fit rank) in
    let count = length-map (map (slice_index ids) ranks) decimal ∙ length-map ranks (slice_index ids) in
    omega (arith, whole, first, count)

length-ranks_from : (count rank : ℕ) (members : Mask) → length (ranks_from rank count members) ≤ count
length-ranks_from zero rank members = omega arith
length-ranks_from (suc count) rank members = by_member (is_member members rank) (ranks_from (rank + 1) count members) (length-ranks_from count (rank + 1) members)
  where
    by_member : (b : Bool) (ranks : List ℕ) → length ranks ≤ count → length (cond b (rank ∷ ranks) ranks) ≤ suc count
    by_member true ranks later = omega arith
    by_member false ranks later = omega arith

module _ (ids : List ℕ) (known : AreIds ids) (few : length ids ≤ 32) where
  member_word-is : (members : Mask) → member_word ids members ≡ join_with_byte 44 (words_at ids (ranks_from 0 (length ids) members))
  member_word-is members = ap (joined 44) (all_ranks ids members)

  member_word-blankless : (members : Mask) → IsBlankless (member_word ids members)
  member_word-blankless members =
      subst IsBlankless (sym (member_word-is members))
      (joined_blankless 44 refl _ (words_without ids known 32 (inl (omega arith)) (ranks_from 0 (length ids) members)))

  length-member_word : (members : Mask) → length (member_word ids members) ≤ 672
  length-member_word members =
      let whole = length-joined ids known (ranks_from 0 (length ids) members) in
      let count = length-ranks_from (length ids) 0 members in
      let same = ap length (member_word-is members) in
      omega (arith, whole, count, same)

  id_blankless : (rank : Rank) → IsBlankless (id_word ids rank)
  id_blankless rank = decimal_without 32 (inl (omega arith)) _ (known.fit rank.0)

  number_blankless : (n : ℕ) → n < 2 ^ 64 → IsBlankless (decimal n)
  number_blankless n fits = decimal_without 32 (inl (omega arith)) n fits

  length-id_word : (rank : Rank) → length (id_word ids rank) ≤ 20
  length-id_word rank = length-decimal (slice_index ids rank.0) (known.fit rank.0)

  -- the clocks of a pass
  clocks_blankless : (clocks : List (Rank × ℕ)) → list_all (is_clock (length ids)) clocks ≡ true → AreWithout 32 (map (clock_word ids) clocks)
  clocks_blankless [] all = tt
  clocks_blankless (clock ∷ clocks) all =
      let both = and_parts (is_clock (length ids) clock) (list_all (is_clock (length ids)) clocks) all in
      let range = and_parts (nat_lt clock.0.0 (length ids)) (nat_le clock.1 1000000000000) both.0 in
      let below = leb-true clock.1 1000000000000 range.1 in (
        All-append (λ b. (b == 32) ≡ false) (id_word ids clock.0) (61 ∷ decimal clock.1) (id_blankless clock.0)
            (All-cons (λ b. (b == 32) ≡ false) 61 (decimal clock.1) refl (number_blankless clock.1 (omega arith))),
        clocks_blankless clocks both.1,
      )

  clocks_short : (clocks : List (Rank × ℕ)) → list_all (is_clock (length ids)) clocks ≡ true → AreShort 41 (map (clock_word ids) clocks)
  clocks_short [] all = tt
  clocks_short (clock ∷ clocks) all =
      let both = and_parts (is_clock (length ids) clock) (list_all (is_clock (length ids)) clocks) all in
      let range = and_parts (nat_lt clock.0.0 (length ids)) (nat_le clock.1 1000000000000) both.0 in
      let below = leb-true clock.1 1000000000000 range.1 in
      let first = length-id_word clock.0 in
      let second = length-decimal clock.1 (omega arith) in
      let whole = length-append (id_word ids clock.0) (61 ∷ decimal clock.1) in
      (omega (arith, whole, first, second), clocks_short clocks both.1)

  few_clocks : (next : ℕ) (clocks : List (Rank × ℕ)) → ascends_from next (ranks_of clocks) ≡ true → list_all (is_clock (length ids)) clocks ≡ true → next ≤ length ids
      → length clocks + next ≤ length ids
  few_clocks next [] ascends all fits = omega arith
  few_clocks next (clock ∷ clocks) ascends all fits =
      let both = and_parts (is_clock (length ids) clock) (list_all (is_clock (length ids)) clocks) all in
      let range = and_parts (nat_lt clock.0.0 (length ids)) (nat_le clock.1 1000000000000) both.0 in
      let inside = ltb-true clock.0.0 (length ids) range.0 in
      let order = and_parts (nat_le next clock.0.0) (ascends_from (clock.0.0 + 1) (ranks_of clocks)) ascends in
      let above = leb-true next clock.0.0 order.0 in
      let later = few_clocks (clock.0.0 + 1) clocks order.1 both.1 (omega arith) in
      omega (arith, later, above)

  -- a line whose words after the first are few and short
  pub record IsPlain (words : List (List ℕ)) : Type 0 where
    pub parted : words_of (join_with_byte 32 words) ≡ words
    pub short : length (join_with_byte 32 words) ≤ 4096

  plain : (most : ℕ) (word : List ℕ) (words : List (List ℕ)) → list_all (λ b. not (b == 32)) word ≡ true → length word ≤ 10 → AreWithout 32 words → AreShort most words
      → (most + 1) * length words ≤ 4000 → IsPlain (word ∷ words)
  plain most word words tested small without short room = record {
    parted = parts-joined 32 refl word words (blankless word tested, without);
    short = let whole = length-join 32 most word words short in omega (arith, whole);
  }

  node_plain : (word : List ℕ) (rank : Rank) → list_all (λ b. not (b == 32)) word ≡ true → length word ≤ 10 → IsPlain (word ∷ id_word ids rank ∷ [])
  node_plain word rank tested small = plain 20 word (id_word ids rank ∷ []) tested small (id_blankless rank, tt) (length-id_word rank, tt) (omega arith)

  numbered_plain : (word : List ℕ) (rank : Rank) (n : ℕ) → list_all (λ b. not (b == 32)) word ≡ true → length word ≤ 10 → n < 2 ^ 64 → IsPlain (word ∷ id_word ids rank ∷ decimal n ∷ [])
  numbered_plain word rank n tested small fits =
      plain 20 word (id_word ids rank ∷ decimal n ∷ []) tested small (id_blankless rank, (number_blankless n fits, tt)) (length-id_word rank, (length-decimal n fits, tt)) (omega arith)

  device_plain : (rank : Rank) (agrees : Bool) → IsPlain (codes "device" ∷ id_word ids rank ∷ yes_no agrees ∷ [])
  device_plain rank true = plain 20 (codes "device") (id_word ids rank ∷ codes "yes" ∷ []) refl (omega arith) (id_blankless rank, (blankless (codes "yes") refl, tt)) (length-id_word rank, (omega arith, tt)) (omega arith)
  device_plain rank false = plain 20 (codes "device") (id_word ids rank ∷ codes "no" ∷ []) refl (omega arith) (id_blankless rank, (blankless (codes "no") refl, tt)) (length-id_word rank, (omega arith, tt)) (omega arith)

  message_plain : (rank : Rank) (message : Message) → IsPlain (codes "operator" ∷ id_word ids rank ∷ operator_word message ∷ [])
  message_plain rank message =
      plain 20 (codes "operator") (id_word ids rank ∷ operator_word message ∷ []) refl (omega arith)
      (id_blankless rank, (message_blankless message, tt)) (length-id_word rank, (short_message message, tt)) (omega arith)

-- the line of a well formed event
pub line_plain : (s : Settings) (known : AreIds (ids s.nodes)) (few : length (ids s.nodes) ≤ 32) → length (ids s.nodes) ≡ length s.nodes → (e : Event) → is_well_formed s e ≡ true
    → IsPlain (ids s.nodes) known few (event_words (ids s.nodes) e)
unfolding is_well_formed
line_plain s known few count (event.Pass dt clocks) formed =
    let all_ids = ids s.nodes in
    let all = and_parts (is_between 1 1000000000 dt && list_all (is_clock (length s.nodes)) clocks) (is_ascending (ranks_of clocks)) formed in
    let first = and_parts (is_between 1 1000000000 dt) (list_all (is_clock (length s.nodes)) clocks) all.0 in
    let range = and_parts (nat_le 1 dt) (nat_le dt 1000000000) first.0 in
    let below = leb-true dt 1000000000 range.1 in
    let in_range = subst (λ n. list_all (is_clock n) clocks ≡ true) (sym count) first.1 in
    let fits : dt < 2 ^ 64 = omega arith in
    let some = few_clocks all_ids known few 0 clocks (sym (ascends_whole (ranks_of clocks)) ∙ all.1) in_range (omega arith) in
    let words = length-map clocks (clock_word all_ids) in
    let digits = length-decimal dt fits in
    plain all_ids known few 41 (codes "pass") (decimal dt ∷ map (clock_word all_ids) clocks) refl (omega arith)
    (number_blankless all_ids known few dt fits, clocks_blankless all_ids known few clocks in_range) (omega arith, clocks_short all_ids known few clocks in_range) (omega (arith, some, words))
line_plain s known few count (event.Boot rank base) formed =
    let both = and_parts (is_configured s rank.0) (nat_le base 1000000000000000) formed in
    let below = leb-true base 1000000000000000 both.1 in
    numbered_plain (ids s.nodes) known few (codes "boot") rank base refl (omega arith) (omega arith)
line_plain s known few count (event.BootClean rank base) formed =
    let both = and_parts (is_configured s rank.0) (nat_le base 1000000000000000) formed in
    let below = leb-true base 1000000000000000 both.1 in
    numbered_plain (ids s.nodes) known few (codes "boot-clean") rank base refl (omega arith) (omega arith)
line_plain s known few count (event.Crash rank) formed = node_plain (ids s.nodes) known few (codes "crash") rank refl (omega arith)
line_plain s known few count (event.Land rank) formed = node_plain (ids s.nodes) known few (codes "land") rank refl (omega arith)
line_plain s known few count (event.Done rank) formed = node_plain (ids s.nodes) known few (codes "done") rank refl (omega arith)
line_plain s known few count (event.Fail rank) formed = node_plain (ids s.nodes) known few (codes "fail") rank refl (omega arith)
line_plain s known few count (event.Late rank number) formed =
    let both = and_parts (is_configured s rank.0) (is_between 1 200000 number) formed in
    let range = and_parts (nat_le 1 number) (nat_le number 200000) both.1 in
    let below = leb-true number 200000 range.1 in
    numbered_plain (ids s.nodes) known few (codes "late") rank number refl (omega arith) (omega arith)
line_plain s known few count (event.View rank view) formed =
    let all_ids = ids s.nodes in
    let all = and_parts (is_configured s rank.0 && nat_lt view.id (2 ^ 64)) (is_between 1 (2 ^ length s.nodes - 1) view.members.0) formed in
    let fits = ltb-true view.id (2 ^ 64) (and_parts (is_configured s rank.0) (nat_lt view.id (2 ^ 64)) all.0).1 in
    let id = length-id_word all_ids known few rank in
    let number = length-decimal view.id fits in
    plain all_ids known few 672 (codes "view") (id_word all_ids rank ∷ decimal view.id ∷ member_word all_ids view.members ∷ []) refl (omega arith)
    (id_blankless all_ids known few rank, (number_blankless all_ids known few view.id fits, (member_word-blankless all_ids known few view.members, tt)))
    (omega arith, (omega arith, (length-member_word all_ids known few view.members, tt))) (omega arith)
line_plain s known few count (event.Deliver rank number) formed =
    let both = and_parts (is_configured s rank.0) (nat_lt number (2 ^ 64)) formed in
    numbered_plain (ids s.nodes) known few (codes "deliver") rank number refl (omega arith) (ltb-true number (2 ^ 64) both.1)
line_plain s known few count (event.Device rank agrees) formed = device_plain (ids s.nodes) known few rank agrees
line_plain s known few count (event.Tick rank) formed = node_plain (ids s.nodes) known few (codes "tick") rank refl (omega arith)
line_plain s known few count (event.Stopped rank) formed = node_plain (ids s.nodes) known few (codes "stopped") rank refl (omega arith)
line_plain s known few count (event.Unstopped rank) formed = node_plain (ids s.nodes) known few (codes "unstopped") rank refl (omega arith)
line_plain s known few count (event.Leave rank) formed = node_plain (ids s.nodes) known few (codes "leave") rank refl (omega arith)
line_plain s known few count (event.Feed rank) formed = node_plain (ids s.nodes) known few (codes "feed") rank refl (omega arith)
line_plain s known few count (event.Operator rank message) formed = message_plain (ids s.nodes) known few rank message

-- A clock by its parts, and the clocks of a pass that are judged word by word, are judged as the definition says.
use Rattle.std.proofs.Common.{◌≡◌, ◌+◌, ◌<◌, ℕ, Bool, true, false, ◌&&◌, cond, List, [], ◌∷◌, ◌++◌, Result, Ok, Err, map, length, nat_le, nat_lt, refl, sym, ap, ◌∙◌, arith, append_assoc, append-nil}
use Rattle.std.proofs.lemmas.Bool.Decides.{nat_tests}
use Rattle.std.proofs.lemmas.List.Splits.{join_with_byte-slice_split}
use Rattle.std.specs.List.{join_with_byte}
use Rattle.std.proofs.Math.Bool.{and-true}
use Rattle.qn_base.specs.declared.ids.Rank.{Rank}
use Rattle.qn_model.specs.declared.line_fault.LineFault.{LineFault}
use Rattle.qn_model.specs.declared.line_fault.LineFault.TheVariants.{BadCount, BadNumber}
use Rattle.qn_model.specs.Lines.{◌>>=◌, is_ascending, parts}
use Rattle.qn_sched.specs.declared.clocks.ClockList.{ClockList}
use Rattle.qn_sched.specs.ClockList.{finished, no_clocks, with_clock, with_clocks}
use Rattle.qn_sched.specs.EventReading.{clock_at, clock_of, clock_of_parts, clocks_of, each_clock}
use Rattle.qn_sched.proofs.Binds.{bind-same, bind-ok}
use Rattle.qn_sched.proofs.PartsLemmas.{parts-some}

-- the byte between the two is not there
pub clock_of-none : (ids word id : List ℕ) → parts 61 word ≡ id ∷ [] → clock_of ids word ≡ Err BadNumber
unfolding clock_of_parts
clock_of-none ids word id cut = ap (clock_of_parts ids) cut

behind : (ids id : List ℕ) (others : List (List ℕ)) → 0 < length others → clock_of_parts ids (id ∷ others) ≡ clock_at ids id (join_with_byte 61 others)
unfolding clock_of_parts
behind ids id [] some = absurd (omega arith)
behind ids id (next ∷ others) some = refl

-- cut at the first of these bytes
pub clock_of-cut : (ids word id rest : List ℕ) → parts 61 word ≡ id ∷ parts 61 rest → clock_of ids word ≡ clock_at ids id rest
clock_of-cut ids word id rest cut =
    ap (clock_of_parts ids) cut ∙ behind ids id (parts 61 rest) (parts-some 61 rest) ∙ ap (clock_at ids id) (join_with_byte-slice_split 61 rest)

-- ranks that ascend, from this one on
abbrev pub ascends_from : ℕ → List ℕ → Bool
ascends_from next [] = true
ascends_from next (rank ∷ ranks) = nat_le next rank && ascends_from (rank + 1) ranks

above : (n m : ℕ) → nat_lt n m ≡ nat_le (n + 1) m
above n m = grind (arith, nat_tests)

from_zero : (n : ℕ) → nat_le 0 n ≡ true
from_zero n = grind (arith, nat_tests)

ascends_behind : (rank : ℕ) (ranks : List ℕ) → is_ascending (rank ∷ ranks) ≡ ascends_from (rank + 1) ranks
ascends_behind rank [] = refl
ascends_behind rank (next ∷ ranks) =
    ap (λ b. b && is_ascending (next ∷ ranks)) (above rank next) ∙ ap (λ b. nat_le (rank + 1) next && b) (ascends_behind next ranks)

-- the same of all ranks
pub ascends_whole : (ranks : List ℕ) → is_ascending ranks ≡ ascends_from 0 ranks
ascends_whole [] = refl
ascends_whole (rank ∷ ranks) = ascends_behind rank ranks ∙ ap (λ b. b && ascends_from (rank + 1) ranks) (sym (from_zero rank))

abbrev ranks_of : List (Rank × ℕ) → List ℕ
ranks_of clocks = map (λ (clock : Rank × ℕ). clock.0.0) clocks

-- the clocks, where those that are left are these
abbrev listed : ClockList → List (Rank × ℕ) → Result (List (Rank × ℕ)) LineFault
listed list clocks =
    cond (list.is_sound && ascends_from list.next (ranks_of clocks)) (Ok (list.clocks ++ clocks)) (Err BadCount)

by_tests : (sound above : Bool) (list : ClockList) (clock : Rank × ℕ) (clocks : List (Rank × ℕ))
    → listed
    (cond (sound && above)
    (record { clocks = list.clocks ++ clock ∷ []; next = clock.0.0 + 1; is_sound = true })
    (record { clocks = list.clocks; next = list.next; is_sound = false }))
    clocks
    ≡ cond (sound && (above && ascends_from (clock.0.0 + 1) (ranks_of clocks))) (Ok (list.clocks ++ clock ∷ clocks)) (Err BadCount)
by_tests true true list clock clocks =
    ap (λ all. cond (ascends_from (clock.0.0 + 1) (ranks_of clocks)) (Ok all) (Err BadCount)) (append_assoc list.clocks (clock ∷ []) clocks)
by_tests true false list clock clocks = refl
by_tests false above list clock clocks = refl

listed-more : (list : ClockList) (clock : Rank × ℕ) (clocks : List (Rank × ℕ)) → listed (with_clock list clock) clocks ≡ listed list (clock ∷ clocks)
listed-more list clock clocks = by_tests list.is_sound (nat_le list.next clock.0.0) list clock clocks

-- the words that are left, judged one by one
with_clocks-is : (ids : List ℕ) (list : ClockList) (words : List (List ℕ)) → with_clocks ids list words ≡ (each_clock ids words >>= (λ clocks. listed list clocks))
unfolding each_clock finished
with_clocks-is ids list [] =
    ap (λ b. cond b (Ok list.clocks) (Err BadCount)) (sym (and-true list.is_sound))
    ∙ ap (λ clocks. cond (list.is_sound && true) (Ok clocks) (Err BadCount)) (sym (append-nil list.clocks))
with_clocks-is ids list (word ∷ words) =
    elim (clock_of ids word) as (λ found. (found >>= (λ clock. with_clocks ids (with_clock list clock) words))
    ≡ ((found >>= (λ clock. each_clock ids words >>= (λ clocks. Ok (clock ∷ clocks)))) >>= (λ clocks. listed list clocks))) [
      | Ok clock ↦
          with_clocks-is ids (with_clock list clock) words
          ∙ bind-same (each_clock ids words) _ _ (listed-more list clock)
          ∙ sym (bind-ok (each_clock ids words) (λ clocks. clock ∷ clocks) (λ clocks. listed list clocks))
      | Err fault ↦ refl
    ]

-- all the words, judged one by one
pub clocks_of-is : (ids : List ℕ) (words : List (List ℕ)) → with_clocks ids no_clocks words ≡ clocks_of ids words
unfolding clocks_of
clocks_of-is ids words =
    with_clocks-is ids no_clocks words
    ∙ bind-same (each_clock ids words) _ _ (λ clocks. ap (λ b. cond b (Ok clocks) (Err BadCount)) (sym (ascends_whole (ranks_of clocks))))

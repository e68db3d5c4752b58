-- Whom a view chooses, by the high byte of its number.
use Rattle.std.proofs.Common.{◌≡◌, ℕ, ◌+◌, ◌/◌, ◌^◌, ◌<◌, ◌≤◌, Bool, true, false, Some, None, Option, List, length, refl, sym, ap, ◌∙◌, arith}
use Rattle.std.specs.Prelude.{◌&&◌, ◌||◌, ◌==◌, nat_lt, if◌then◌else◌}
use Rattle.std.specs.Option.{option_map_or, option_or}
use Rattle.std.proofs.lemmas.Bool.{and_from, and_right, eq-eqb, ne_eqb, lt-ltb, true≢false}
use Rattle.qn_base.specs.Candidates.{is_barred, is_named}
use Rattle.qn_base.specs.Members.{is_member}
use Rattle.qn_base.specs.declared.ids.Mask.{Mask}
use Rattle.qn_base.specs.declared.ids.View.{View}
use Rattle.qn_base.specs.lemmas.Bools.{first_of_neither, second_of_neither}
use Rattle.qn_model.specs.declared.configuration.Settings.{Settings}
use Rattle.qn_model.specs.LeastMembers.{least_from-none, least_from-some}
use Rattle.qn_model.specs.Log.{Line}
use Rattle.qn_model.specs.NodeVotes.{is_in_view, view}
use Rattle.qn_model.specs.Unmet.{chosen, least_from, least_rank}

-- whom a view of these members chooses whose number has this high byte
abbrev pub choose : ℕ → ℕ → Mask → Option ℕ
choose count high members =
    if high == 254 then None
    else option_or (least_from count 0 (λ rank. is_member members rank && (high == rank + 1))) (least_from count 0 (λ rank. is_member members rank))

pub chosen_by : (s : Settings) (log : List Line) (seen : View) → view log ≡ Some seen
    → chosen s log ≡ choose (length s.nodes) (seen.id / 2 ^ 56) seen.members
chosen_by s log seen there =
    ap (λ (v : Option View).
    if option_map_or (λ view. is_barred view) v false then None
    else option_or (least_from (length s.nodes) 0 (λ rank. option_map_or (λ view. is_member view.members rank) v false && option_map_or (λ view. is_named view rank) v false))
    (least_from (length s.nodes) 0 (λ rank. option_map_or (λ view. is_member view.members rank) v false)))
    there

open_by : (b : Bool) (named least : Option ℕ) → b ≡ false → (if b then None else option_or named least) ≡ option_or named least
open_by true named least e = absurd (true≢false e)
open_by false named least e = refl

closed_by : (b : Bool) (named least : Option ℕ) → b ≡ true → (if b then None else option_or named least) ≡ None
closed_by true named least e = refl
closed_by false named least e = absurd (true≢false (sym e))

-- nobody, at 254
pub choose_none : (count high : ℕ) (members : Mask) → high ≡ 254 → choose count high members ≡ None
choose_none count high members is =
    closed_by (high == 254) (least_from count 0 (λ rank. is_member members rank && (high == rank + 1))) (least_from count 0 (λ rank. is_member members rank))
    (eq-eqb high 254 is)

-- the rank that is named, where it is a configured member, is found
pub named_rank : (count high rank : ℕ) (members : Mask) → high ≡ rank + 1 → rank < count → is_member members rank ≡ true
    → least_from count 0 (λ r. is_member members r && (high == r + 1)) ≡ Some rank
named_rank count high rank members is within member =
    least_from-some count 0 rank (λ r. is_member members r && (high == r + 1)) (omega arith) (omega arith)
    (and_from (is_member members rank) (high == rank + 1) member (eq-eqb high (rank + 1) is))
    (λ j above below. and_right (is_member members j) (high == j + 1) (ne_eqb high (j + 1) (λ e. omega arith)))

pub choose_rank : (count high rank : ℕ) (members : Mask) → high ≡ rank + 1 → rank < count → count ≤ 32 → is_member members rank ≡ true
    → choose count high members ≡ Some rank
choose_rank count high rank members is within few member =
    open_by (high == 254) (least_from count 0 (λ r. is_member members r && (high == r + 1))) (least_from count 0 (λ r. is_member members r))
    (ne_eqb high 254 (λ e. omega arith))
    ∙ ap (λ o. option_or o (least_from count 0 (λ r. is_member members r))) (named_rank count high rank members is within member)

name_found : (high rank : ℕ) → rank < 32 → (nat_lt 0 high && nat_lt high 33) ≡ false → high ≡ rank + 1 → false ≡ true
name_found high rank below none e =
    sym none ∙ and_from (nat_lt 0 high) (nat_lt high 33) (lt-ltb 0 high (omega arith)) (lt-ltb high 33 (omega arith))

-- where the number is no name, no rank is found
pub named_none : (count high : ℕ) (members : Mask) → count ≤ 32 → (nat_lt 0 high && nat_lt high 33) ≡ false
    → least_from count 0 (λ r. is_member members r && (high == r + 1)) ≡ None
named_none count high members few ranks =
    least_from-none count 0 (λ r. is_member members r && (high == r + 1))
    (λ j above below. and_right (is_member members j) (high == j + 1) (ne_eqb high (j + 1) (λ e. true≢false (sym (name_found high j (omega arith) ranks e)))))

-- the least member, where nobody is named
pub choose_least : (count high : ℕ) (members : Mask) → count ≤ 32 → (nat_lt 0 high && nat_lt high 33 || high == 254) ≡ false
    → choose count high members ≡ least_from count 0 (λ rank. is_member members rank)
choose_least count high members few none =
    open_by (high == 254) (least_from count 0 (λ r. is_member members r && (high == r + 1))) (least_from count 0 (λ r. is_member members r))
    (second_of_neither (nat_lt 0 high && nat_lt high 33) (high == 254) none)
    ∙ ap (λ o. option_or o (least_from count 0 (λ r. is_member members r)))
    (named_none count high members few (first_of_neither (nat_lt 0 high && nat_lt high 33) (high == 254) none))

-- the least member of the present view
pub least_of : (s : Settings) (log : List Line) (seen : View) → view log ≡ Some seen
    → least_from (length s.nodes) 0 (λ rank. is_member seen.members rank) ≡ least_rank s (λ rank. is_in_view log rank)
least_of s log seen there =
    ap (λ (v : Option View). least_from (length s.nodes) 0 (λ rank. option_map_or (λ view. is_member view.members rank) v false)) (sym there)

-- Whom a leader names. This project's profile; a node's weight and bar are after Pacemaker's location scores and standby.
use Rattle.std.specs.Prelude.{ℕ, suc, zero, Bool, true, Option, None, Some, false, ◌==◌, ◌&&◌, ◌||◌, not, is_none, is_some, nat_lt, slice_index, slice_index_or, if◌then◌else◌}
use Rattle.std.specs.Option.{option_map, option_map_or, option_or}
use Rattle.qn_base.specs.declared.ids.Mask.{Mask}
use Rattle.qn_base.specs.declared.ids.Rank.{Rank}
use Rattle.qn_base.specs.Members.{is_member}
use Rattle.qn_model.specs.Unmet.{least_from}
use Rattle.qn_candidate.specs.declared.candidate.Facts.{Facts}
use Rattle.qn_candidate.specs.declared.candidate.Name.{Name}
use Rattle.qn_candidate.specs.declared.candidate.Name.TheVariants as name

-- whom a rank hears, as its last Hello says
abbrev pub hears : Facts → ℕ → ℕ → Bool
hears f rank other = is_member (slice_index_or f.hears rank (record { 0 = 0 })) other

-- each of two ranks hears the other; each meets itself
abbrev pub meets : Facts → ℕ → ℕ → Bool
meets f one other = one == other || hears f one other && hears f other one

-- a member that the leader sees, and that a rank does not meet
abbrev pub is_unmet : Facts → Mask → ℕ → ℕ → Bool
is_unmet f members rank other = is_member members other && is_member f.sees other && not (meets f rank other)

-- a rank meets each member that the leader sees
abbrev pub hears_all : Facts → Mask → ℕ → Bool
hears_all f members rank = is_none (least_from 32 0 (is_unmet f members rank))

-- a member that may hold, may hold now, and hears the others
abbrev pub can : Facts → Mask → ℕ → Bool
can f members rank =
    is_member members rank && not (is_member f.barred rank) && not (is_member f.unfit rank) && hears_all f members rank

-- whether a number weighs more than the best so far, if there is one
abbrev pub outweighs : (ℕ → ℕ) → Option ℕ → ℕ → Bool
outweighs weight best count = option_map_or (λ found. nat_lt (weight found) (weight count)) best true

-- the best so far, or a number in its place that passes a test and weighs more
abbrev pub heavier : (ℕ → Bool) → (ℕ → ℕ) → Option ℕ → ℕ → Option ℕ
heavier test weight best count = if test count && outweighs weight best count then Some count else best

-- of the first so many numbers that pass a test the one of the greatest weight, the least of several
unfoldable pub heaviest : (ℕ → Bool) → (ℕ → ℕ) → ℕ → Option ℕ
heaviest test weight zero = None
heaviest test weight (suc count) = heavier test weight (heaviest test weight count) count

-- the member of the greatest weight that can
abbrev pub best_of : Facts → Mask → Option ℕ
best_of f members = heaviest (λ rank. can f members rank) (λ rank. slice_index f.weights rank) 32

-- the least member that asks for the resource and can
abbrev pub puller : Facts → Mask → Option ℕ
puller f members = least_from 32 0 (λ rank. can f members rank && is_member f.pulls rank)

-- the least member that does not read named views
abbrev pub unknowing : Facts → Mask → Option ℕ
unknowing f members = least_from 32 0 (λ rank. is_member members rank && not (is_member f.knows rank))

-- a holder is named again: it is a member and not barred, and fit, or nobody else can
abbrev pub holder_stays : Facts → Mask → ℕ → Bool
holder_stays f members rank =
    is_member members rank && not (is_member f.barred rank) && (not (is_member f.unfit rank) || is_none (best_of f members))

-- a member that says that it holds
abbrev pub is_holding : Facts → Mask → ℕ → Bool
is_holding f members rank = is_member members rank && is_member f.holds rank

-- the holder: of several whom the present view names, else the least
abbrev pub holder_of : Facts → Mask → Option Rank → Option ℕ
holder_of f members named =
    if option_map_or (λ rank. is_holding f members rank.0) named false then option_map (λ rank. rank.0) named
    else least_from 32 0 (is_holding f members)

-- whom the present view names, where it can
abbrev pub named_again : Facts → Mask → Option Rank → Option ℕ
named_again f members None = None
named_again f members (Some rank) = if nat_lt rank.0 32 && can f members rank.0 then Some rank.0 else None

-- the holder where it stays; where no member says that it holds, whom the present view names, where it can
abbrev pub kept_beside : Facts → Mask → Option Rank → Option ℕ → Option ℕ
kept_beside f members named None = named_again f members named
kept_beside f members named (Some rank) = if holder_stays f members rank then Some rank else None

abbrev pub kept : Facts → Mask → Option Rank → Option ℕ
kept f members named = kept_beside f members named (holder_of f members named)

abbrev pub name_of : Option ℕ → Name
name_of None = name.Nobody
name_of (Some rank) = name.One (record { 0 = rank })

-- no name where a member does not read one; else who asks for the resource and can, else who is kept, else the best
abbrev pub named_by : Facts → Mask → Option Rank → Name
named_by f members named =
    if is_some (unknowing f members) then name.Least
    else name_of (option_or (puller f members) (option_or (kept f members named) (best_of f members)))

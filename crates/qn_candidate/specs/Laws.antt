-- What is promised of whom a leader names, and of what a view with that name chooses. This project's profile.
use Rattle.std.specs.Prelude.{◌≡◌, ◌≤◌, ◌<◌, ℕ, true, false, Option, None, Some, List, length, ◌&&◌, ◌⊎◌, not, slice_index}
use Rattle.qn_base.specs.declared.ids.Mask.{Mask}
use Rattle.qn_base.specs.declared.ids.Rank.{Rank}
use Rattle.qn_base.specs.Members.{is_member}
use Rattle.qn_model.specs.declared.configuration.Settings.{Settings}
use Rattle.qn_model.specs.Log.{Line}
use Rattle.qn_model.specs.NodeVotes.{is_in_view}
use Rattle.qn_model.specs.Unmet.{chosen, least_rank}
use Rattle.qn_candidate.specs.declared.candidate.Facts.{Facts}
use Rattle.qn_candidate.specs.declared.candidate.Name.{Name}
use Rattle.qn_candidate.specs.declared.candidate.Name.TheVariants as name
use Rattle.qn_candidate.specs.Candidate.{can, holder_of}

-- a rank is the holder, and it is fit or no member can
abbrev pub IsHolder : Facts → Mask → Option Rank → ℕ → Type 0
IsHolder f members named rank =
    (holder_of f members named ≡ Some rank)
    × ((is_member f.unfit rank ≡ false) ⊎ ((j : ℕ) → j < 32 → can f members j ≡ false))

-- nobody is named in particular only where some member does not read names; nobody may start only where no member can; and who
-- is named is a member that is not barred, and can, or is the holder that is fit or while no member can
abbrev pub IsRight : Facts → Mask → Option Rank → Name → Type 0
IsRight f members named name.Least = (rank : ℕ) × (rank < 32) × ((is_member members rank && not (is_member f.knows rank)) ≡ true)
IsRight f members named name.Nobody = (rank : ℕ) → rank < 32 → can f members rank ≡ false
IsRight f members named (name.One rank) =
    ((is_member members rank.0 && not (is_member f.barred rank.0)) ≡ true)
    × ((can f members rank.0 ≡ true) ⊎ IsHolder f members named rank.0)

-- a rank can, and no member that can weighs more
abbrev pub IsHeaviest : Facts → Mask → ℕ → Type 0
IsHeaviest f members rank =
    (can f members rank ≡ true) × ((j : ℕ) → j < 32 → can f members j ≡ true → slice_index f.weights j ≤ slice_index f.weights rank)

-- a view of these members with a name chooses whom the name names, where it is a configured member
abbrev pub Chooses : Settings → List Line → Mask → Name → Type 0
Chooses s log members name.Least = chosen s log ≡ least_rank s (λ rank. is_in_view log rank)
Chooses s log members name.Nobody = chosen s log ≡ None
Chooses s log members (name.One rank) = rank.0 < length s.nodes → is_member members rank.0 ≡ true → chosen s log ≡ Some rank.0

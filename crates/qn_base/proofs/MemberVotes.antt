use Rattle.std.proofs.Common.{◌≡◌, ℕ, ◌+◌, ◌<◌, List, ◌∷◌, length, get_or, drop, drop-cons, add-one, ap, if◌then◌else◌}
use Rattle.qn_base.specs.declared.ids.Mask.{Mask}
use Rattle.qn_base.specs.Members.{is_member, votes_from}

-- the votes from one rank on are its own and those from the next on
pub votes_from-drop : (members : Mask) (counts : List ℕ) (rank : ℕ) → rank < length counts
    → votes_from rank (drop rank counts) members
    ≡ (if is_member members rank then get_or counts rank 0 else 0) + votes_from (rank + 1) (drop (rank + 1) counts) members
votes_from-drop members counts rank here =
    let split : drop rank counts ≡ get_or counts rank 0 ∷ drop (rank + 1) counts = rw add-one (drop-cons counts rank 0 here) in
    ap (λ rest. votes_from rank rest members) split

-- The chosen node: it is a configured member, and equal views have the same one. Lemmas for the
-- proofs of this crate and of those above. This project's profile.
use Rattle.std.proofs.Common.{◌≡◌, ℕ, ◌+◌, ◌<◌, ◌≤◌, Bool, true, false, List, length, Some, None, Option, ap, arith, ◌&&◌, if◌then◌else◌, ◌⊎◌, inl, inr}
use Rattle.std.specs.Option.{option_or, option_map_or}
use Rattle.std.proofs.lemmas.Option.{none-some}
use Rattle.qn_base.specs.Candidates.{is_barred, is_named}
use Rattle.qn_base.specs.Members.{is_member}
use Rattle.qn_base.specs.declared.ids.View.{View}
use Rattle.qn_base.specs.lemmas.Bools.{first_of_both}
use Rattle.qn_model.specs.declared.configuration.Settings.{Settings}
use Rattle.qn_model.specs.Log.{Line}
use Rattle.qn_model.specs.NodeVotes.{view, is_in_view}
use Rattle.qn_model.specs.Unmet.{chosen, is_candidate, is_none_chosen, least_rank}
use Rattle.qn_model.specs.lemmas.LeastRanks.{least_bound, least_passes}

from_either : (b : Bool) (named least : Option ℕ) (found : ℕ) → (if b then None else option_or named least) ≡ Some found
    → (named ≡ Some found) ⊎ (least ≡ Some found)
from_either true named least found e = absurd (none-some found e)
from_either false None least found e = inr e
from_either false (Some name) least found e = inl e

named_or_least : (s : Settings) (log : List Line) (rank : ℕ) → chosen s log ≡ Some rank
    → (least_rank s (λ r. is_in_view log r && is_candidate log r) ≡ Some rank) ⊎ (least_rank s (λ r. is_in_view log r) ≡ Some rank)
named_or_least s log rank e =
    from_either (is_none_chosen log) (least_rank s (λ r. is_in_view log r && is_candidate log r)) (least_rank s (λ r. is_in_view log r)) rank e

-- it is a member
pub chosen_inside : (s : Settings) (log : List Line) (rank : ℕ) → chosen s log ≡ Some rank → is_in_view log rank ≡ true
chosen_inside s log rank e = by_either (named_or_least s log rank e)
  where
    by_either : (least_rank s (λ r. is_in_view log r && is_candidate log r) ≡ Some rank) ⊎ (least_rank s (λ r. is_in_view log r) ≡ Some rank)
        → is_in_view log rank ≡ true
    by_either (inl named) = first_of_both (is_in_view log rank) (is_candidate log rank) (least_passes (length s.nodes) 0 (λ r. is_in_view log r && is_candidate log r) rank named)
    by_either (inr least) = least_passes (length s.nodes) 0 (λ r. is_in_view log r) rank least

-- it is configured
pub chosen_known : (s : Settings) (log : List Line) (rank : ℕ) → chosen s log ≡ Some rank → rank < length s.nodes
chosen_known s log rank e = by_either (named_or_least s log rank e)
  where
    by_either : (least_rank s (λ r. is_in_view log r && is_candidate log r) ≡ Some rank) ⊎ (least_rank s (λ r. is_in_view log r) ≡ Some rank)
        → rank < length s.nodes
    by_either (inl named) = let under = least_bound (length s.nodes) 0 (λ r. is_in_view log r && is_candidate log r) rank named in omega arith
    by_either (inr least) = let under = least_bound (length s.nodes) 0 (λ r. is_in_view log r) rank least in omega arith

-- it rests on the view alone
pub same_chosen : (s : Settings) (first second : List Line) → view first ≡ view second → chosen s first ≡ chosen s second
same_chosen s first second same =
    ap (λ (seen : Option View).
    if option_map_or (λ view. is_barred view) seen false then None
    else option_or (least_rank s (λ rank. option_map_or (λ view. is_member view.members rank) seen false && option_map_or (λ view. is_named view rank) seen false))
    (least_rank s (λ rank. option_map_or (λ view. is_member view.members rank) seen false)))
    same

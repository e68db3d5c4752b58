-- Members that are configured.
use Rattle.std.proofs.Common.{◌≡◌, ℕ, ◌<◌, ◌≤◌, true, List, None, Some, length, replicate, get_or, ap, ◌⊎◌, inl, inr}
use Rattle.std.specs.Prelude.{Option, IfSome}
use Rattle.std.specs.Option.{option_map_or}
use Rattle.std.proofs.lemmas.Bool.{cases_lt}
use Rattle.std.proofs.lemmas.List.{get_or-replicate, get_or_past, length-replicate}
use Rattle.qn_base.specs.declared.ids.View.{View}
use Rattle.qn_base.specs.Members.{is_member}
use Rattle.qn_model.specs.declared.nodelist.NodeEntry.{NodeEntry}
use Rattle.qn_member.specs.Maker.{KeepsConfigured, has_configured}
use Rattle.qn_member.proofs.Ranks.{member-lt}

pub nothing_at : {A : Type 0} (count rank : ℕ) (none : A) → (rank < count) ⊎ (count ≤ rank) → get_or (replicate count none) rank none ≡ none
nothing_at count rank none (inl under) = get_or-replicate count rank none none under
nothing_at count rank none (inr past) = get_or_past (replicate count none) rank none (rw length-replicate past)

-- where nothing is kept
pub none_kept : (nodes : List NodeEntry) → KeepsConfigured nodes (replicate 32 None)
none_kept nodes rank =
    ap (λ kept. option_map_or (λ view. has_configured nodes view.members) kept true) (nothing_at 32 rank None (cases_lt rank 32))

-- a view with configured members
pub members_configured : (nodes : List NodeEntry) (next : Option View) → IfSome next (λ view. has_configured nodes view.members ≡ true)
    → IfSome next (λ view. (rank : ℕ) → is_member view.members rank ≡ true → rank < length nodes)
members_configured nodes None few = tt
members_configured nodes (Some view) few = λ rank member. member-lt view.members.0 (length nodes) rank few member

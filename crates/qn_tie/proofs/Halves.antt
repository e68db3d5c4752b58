-- Of two parts of a cluster that went into a split alike at most one is quorate.
use Rattle.std.proofs.Common.{◌≡◌, ℕ, ◌+◌, ◌*◌, ◌/◌, ◌<◌, ◌≤◌, Bool, true, false, List, [], ◌∷◌, Some, None, Option, IsTrue, if◌then◌else◌, cond, refl, sym, ap, subst, ◌∙◌, arith, is_some, ◌&&◌, ◌||◌, ◌==◌, add-zero, ◌⊎◌, inl, inr}
use Rattle.std.specs.Prelude.{find, option_and_then}
use Rattle.std.specs.Option.{option_map_or}
use Rattle.std.proofs.lemmas.Bool.{leb-true, eqb-true, false≢true, true≢false}
use Rattle.qn_base.specs.declared.ids.Rank.{Rank}
use Rattle.qn_base.specs.declared.ids.View.{View}
use Rattle.qn_base.specs.Members.{is_member}
use Rattle.qn_base.specs.lemmas.Bools.{last_of_three}
use Rattle.qn_model.specs.declared.configuration.Device.{Device}
use Rattle.qn_model.specs.declared.configuration.Settings.{Settings}
use Rattle.qn_model.specs.declared.votes.VoteEntry.{VoteEntry}
use Rattle.qn_model.specs.Laws.{AreDisjoint}
use Rattle.qn_model.specs.Settings.{all_votes}
use Rattle.qn_model.specs.Tie.{breaks_tie, is_quorate_with_tie, is_seen, tie_node, was_in_majority}
use Rattle.qn_model.specs.Votes.{counted_votes, device_votes, expected_votes, is_quorate, is_released, present_view, quorum_of, view_votes, votes_among}

-- the votes of a present view
votes_seen : (present : Option View) (counts : View → ℕ) (view : View) → present ≡ Some view → option_map_or counts present 0 ≡ counts view
votes_seen present counts view seen = rw seen refl

-- no device has no votes
no_device : (last_man : Bool) (device : Option Device) (counts : Device → ℕ) → is_some device ≡ false
    → (if last_man then 0 else option_map_or counts device 0) ≡ 0
no_device true device counts none = refl
no_device false None counts none = refl
no_device false (Some device) counts none = absurd (true≢false none)

counted_seen : (present : Option View) (seen_votes more votes : ℕ) (view : View) → present ≡ Some view → seen_votes ≡ votes → more ≡ 0
    → (if is_some present then seen_votes + more else 0) ≡ votes
counted_seen present seen_votes more votes view seen same none = rw (seen, same, none) (add-zero votes)

-- a half is quorate by its votes, or by the breaker
by_either : (counted free breaks : Bool) → IsTrue (counted || (free && breaks)) → IsTrue counted ⊎ IsTrue breaks
by_either true free breaks e = inl refl
by_either false true breaks e = inr e
by_either false false breaks e = absurd (false≢true e)

both_of : (a b : Bool) → IsTrue (a && b) → IsTrue a × IsTrue b
both_of true b e = (refl, e)
both_of false b e = absurd (false≢true e)

-- two tests that are the same at each rank find the same one
find-same : (p q : Rank → Bool) → ((rank : Rank) → p rank ≡ q rank) → (ranks : List Rank) → find p ranks ≡ find q ranks
find-same p q same [] = refl
find-same p q same (rank ∷ ranks) =
    ap (λ b. cond b (Some rank) (find p ranks)) (same rank) ∙ ap (cond (q rank) (Some rank)) (find-same p q same ranks)

preferred-same : (order : Option (List Rank)) (p q : Rank → Bool) → ((rank : Rank) → p rank ≡ q rank)
    → option_and_then (λ ranks. find p ranks) order ≡ option_and_then (λ ranks. find q ranks) order
preferred-same None p q same = refl
preferred-same (Some ranks) p q same = find-same p q same ranks

-- one node passes both tests
shared : (first second : Option Rank) (p q : Rank → Bool) → first ≡ second → IsTrue (option_map_or p first false) → IsTrue (option_map_or q second false)
    → (rank : Rank) × IsTrue (p rank) × IsTrue (q rank)
shared None second p q same passes also = absurd (false≢true passes)
shared (Some rank) second p q same passes also =
    let here : Option Rank → Type 0 = λ o. IsTrue (option_map_or q o false) in
    (rank, passes, subst here (sym same) also)

module _ (s : Settings) (one_vote_apart : s.two_node ≡ false) (no_device_votes : is_some s.device ≡ false) where
  -- more than half of the expected votes, or half of them and the tie node
  abbrev Side : List VoteEntry → View → Type 0
  Side past view = (expected_votes s past < 2 * votes_among s.nodes view.members) ⊎ IsTrue (breaks_tie s past)

  view_votes-seen : (past : List VoteEntry) (view : View) → present_view past ≡ Some view → view_votes s past ≡ votes_among s.nodes view.members
  view_votes-seen past view seen = votes_seen (present_view past) (λ v. votes_among s.nodes v.members) view seen

  majority_side : (past : List VoteEntry) (now : ℕ) (view : View) → present_view past ≡ Some view → IsTrue (is_quorate s past now)
      → expected_votes s past < 2 * votes_among s.nodes view.members
  majority_side past now view seen quorate =
      let enough : quorum_of s (expected_votes s past) ≤ counted_votes s past now = leb-true _ _ (last_of_three (is_some (present_view past)) (is_released s past) _ quorate) in
      let needed : quorum_of s (expected_votes s past) ≡ expected_votes s past / 2 + 1 = ap (λ (b : Bool). if b then 1 else expected_votes s past / 2 + 1) one_vote_apart in
      let counted : counted_votes s past now ≡ votes_among s.nodes view.members =
      counted_seen (present_view past) (view_votes s past) (device_votes s past now) (votes_among s.nodes view.members) view seen
      (view_votes-seen past view seen) (no_device s.last_man_standing s.device _ no_device_votes) in
      omega arith

  side : (past : List VoteEntry) (now : ℕ) (view : View) → present_view past ≡ Some view → IsTrue (is_quorate_with_tie s past now) → Side past view
  side past now view seen quorate = by_case (by_either (is_quorate s past now) (is_released s past) (breaks_tie s past) quorate)
    where
      by_case : IsTrue (is_quorate s past now) ⊎ IsTrue (breaks_tie s past) → Side past view
      by_case (inl counted) = inl (majority_side past now view seen counted)
      by_case (inr breaks) = inr breaks

  half_votes : (past : List VoteEntry) (view : View) → present_view past ≡ Some view → IsTrue (breaks_tie s past)
      → 2 * votes_among s.nodes view.members ≡ expected_votes s past
  half_votes past view seen breaks =
      let half : 2 * view_votes s past ≡ expected_votes s past = eqb-true _ _ ((both_of (2 * view_votes s past == expected_votes s past) _ breaks).0) in
      let same = view_votes-seen past view seen in
      omega arith

  tie_node_seen : (past : List VoteEntry) → IsTrue (breaks_tie s past) → IsTrue (option_map_or (λ rank. is_seen past rank.0) (tie_node s past) false)
  tie_node_seen past breaks = (both_of (2 * view_votes s past == expected_votes s past) _ breaks).1

  member_of : (past : List VoteEntry) (view : View) (rank : ℕ) → present_view past ≡ Some view → IsTrue (is_seen past rank) → IsTrue (is_member view.members rank)
  member_of past view rank seen inside =
      let test : Option View → Type 0 = λ present. IsTrue (option_map_or (λ v. is_member v.members rank) present false) in
      subst test seen inside

  -- two disjoint views have not both the one tie node
  one_tie_node : (first second : List VoteEntry) (left right : View)
      → ((rank : ℕ) → was_in_majority s first rank ≡ was_in_majority s second rank)
      → present_view first ≡ Some left → present_view second ≡ Some right → AreDisjoint left right
      → IsTrue (breaks_tie s first) → ¬ IsTrue (breaks_tie s second)
  one_tie_node first second left right same seen also_seen apart breaks also_breaks =
      let one = shared (tie_node s first) (tie_node s second) (λ rank. is_seen first rank.0) (λ rank. is_seen second rank.0)
      (preferred-same s.tie (λ rank. was_in_majority s first rank.0) (λ rank. was_in_majority s second rank.0) (λ rank. same rank.0))
      (tie_node_seen first breaks) (tie_node_seen second also_breaks) in
      apart one.0.0 (member_of first left one.0.0 seen one.1) (member_of second right one.0.0 also_seen one.2)

  -- two parts of the cluster are never both quorate
  pub halves : (first second : List VoteEntry) (tick later : ℕ) (left right : View)
      → ((rank : ℕ) → was_in_majority s first rank ≡ was_in_majority s second rank)
      → expected_votes s first ≡ expected_votes s second → all_votes s.nodes ≤ expected_votes s first
      → votes_among s.nodes left.members + votes_among s.nodes right.members ≤ all_votes s.nodes
      → present_view first ≡ Some left → present_view second ≡ Some right → AreDisjoint left right
      → IsTrue (is_quorate_with_tie s first tick) → ¬ IsTrue (is_quorate_with_tie s second later)
  halves first second tick later left right same equal whole together seen also_seen apart quorate also_quorate =
      by_sides (side first tick left seen quorate) (side second later right also_seen also_quorate)
    where
      by_sides : Side first left → Side second right → ⊥
      by_sides (inl more) (inl also_more) = absurd (omega arith)
      by_sides (inl more) (inr breaks) = let half = half_votes second right also_seen breaks in absurd (omega arith)
      by_sides (inr breaks) (inl more) = let half = half_votes first left seen breaks in absurd (omega arith)
      by_sides (inr breaks) (inr also_breaks) = one_tie_node first second left right same seen also_seen apart breaks also_breaks

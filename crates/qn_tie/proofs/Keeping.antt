-- What a breaker keeps is the last view of a majority.
use Rattle.std.proofs.Common.{◌≡◌, ℕ, ◌*◌, ◌<◌, ◌≤◌, Bool, true, false, List, ◌∷◌, Some, None, Option, if◌then◌else◌, refl, sym, ap, ◌∙◌, nat_lt}
use Rattle.std.specs.Option.{option_or}
use Rattle.std.proofs.lemmas.Bool.{le-ltb, lt-ltb}
use Rattle.qn_base.specs.declared.ids.View.{View}
use Rattle.qn_model.specs.declared.configuration.Settings.{Settings}
use Rattle.qn_model.specs.declared.votes.VoteEntry.{VoteEntry}
use Rattle.qn_model.specs.declared.votes.VoteWhat.{VoteWhat}
use Rattle.qn_model.specs.declared.votes.VoteWhat.TheVariants as what
use Rattle.qn_model.specs.Tie.{majority_of, majority_view}
use Rattle.qn_model.specs.Votes.{expected_votes, newer_view, votes_among}
use Rattle.qn_tie.specs.declared.breaker.Tie.{Tie}
use Rattle.qn_tie.specs.Tie.{TieFor, installs, with_view}

-- the view where it has a majority, else the one before
either_view : (more : Bool) (view : View) (before : Option View) → (if more then Some view else before) ≡ option_or (if more then Some view else None) before
either_view true view before = refl
either_view false view before = refl

-- a view with more than half of the expected votes is kept, and another one is not
pub with_view-more : (tie : Tie) (view : View) (votes expected : ℕ) → expected < 2 * votes → with_view view votes expected tie ≡ record tie { majority = Some view }
with_view-more tie view votes expected more =
    ap (λ (b : Bool). record tie { majority = if b then Some view else tie.majority }) (lt-ltb expected (2 * votes) more)

pub with_view-less : (tie : Tie) (view : View) (votes expected : ℕ) → 2 * votes ≤ expected → with_view view votes expected tie ≡ tie
with_view-less tie view votes expected less =
    ap (λ (b : Bool). record tie { majority = if b then Some view else tie.majority }) (le-ltb expected (2 * votes) less)

pub view_stands : (tie : Tie) (s : Settings) (past : List VoteEntry) (tick : ℕ) (view : View) (votes expected : ℕ) → TieFor tie s past
    → votes ≡ votes_among s.nodes view.members → expected ≡ expected_votes s (installs tick view ∷ past)
    → TieFor (with_view view votes expected tie) s (installs tick view ∷ past)
unfolding majority_view
view_stands tie s past tick view votes expected stands counted awaited = record {
  has_order = stands.has_order;
  has_nodes = stands.has_nodes;
  has_majority =
      either_view (nat_lt expected (2 * votes)) view tie.majority
      ∙ ap (λ n. option_or (if nat_lt n (2 * votes) then Some view else None) tie.majority) awaited
      ∙ ap (λ n. option_or (if nat_lt (expected_votes s (installs tick view ∷ past)) (2 * n) then Some view else None) tie.majority) counted
      ∙ ap (option_or (if nat_lt (expected_votes s (installs tick view ∷ past)) (2 * votes_among s.nodes view.members) then Some view else None)) stands.has_majority;
}

-- what installs no view has no majority
no_majority : (s : Settings) (expected : ℕ) (entry : VoteWhat) → newer_view entry None ≡ None → majority_of s expected entry ≡ None
no_majority s expected (what.View view) none = absurd (some_none none)
  where
    some_none : {view : View} → Some view ≡ None → ⊥
    some_none e = cc
no_majority s expected (what.Device agrees) none = refl
no_majority s expected what.Released none = refl
no_majority s expected what.Tick none = refl

pub other_stands : (tie : Tie) (s : Settings) (entry : VoteEntry) (past : List VoteEntry) → newer_view entry.what None ≡ None
    → TieFor tie s past → TieFor tie s (entry ∷ past)
unfolding majority_view
other_stands tie s entry past none stands = record {
  has_order = stands.has_order;
  has_nodes = stands.has_nodes;
  has_majority = stands.has_majority ∙ sym (ap (λ o. option_or o (majority_view s past)) (no_majority s (expected_votes s (entry ∷ past)) entry.what none));
}

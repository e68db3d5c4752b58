-- The vote list of a log has the log's own view.
use Rattle.std.proofs.Common.{◌≡◌, ℕ, Bool, true, false, List, Some, None, IsTrue, refl, sym, ap, ◌∙◌, ◌&&◌, ◌||◌, ◌==◌, ◌*◌}
use Rattle.std.specs.Prelude.{Option, find, option_and_then}
use Rattle.std.specs.Option.{option_map_or}
use Rattle.qn_base.specs.declared.ids.Rank.{Rank}
use Rattle.qn_base.specs.declared.ids.View.{View}
use Rattle.qn_model.specs.declared.configuration.Settings.{Settings}
use Rattle.qn_model.specs.declared.entries.Entry.{Entry}
use Rattle.qn_model.specs.declared.entries.What.TheVariants as what
use Rattle.qn_model.specs.declared.votes.VoteEntry.{VoteEntry}
use Rattle.qn_model.specs.declared.votes.VoteWhat.TheVariants as vote
use Rattle.qn_model.specs.lemmas.VoteLists.{present_view-votes}
use Rattle.qn_model.specs.Laws.{AreDisjoint, IsPlainMajority}
use Rattle.qn_model.specs.Votes.{expected_votes, is_quorate, is_released, view_votes}
use Rattle.qn_model.specs.Tie.{is_quorate_with_tie, is_seen, was_in_majority}
use Rattle.qn_model.specs.NodeVotes.{view, votes, quorate_with_tie}
use Rattle.qn_model.specs.NodeOutputs.{log_of}
use Rattle.qn_model.proofs.Majority.{disjoint_views}

-- no order names no node
no_tie_node : (order : Option (List Rank)) (test seen : Rank → Bool) → order ≡ None
    → option_map_or seen (option_and_then (λ ranks. find test ranks) order) false ≡ false
no_tie_node order test seen none = rw none refl

or_nothing : (counted free half : Bool) → (counted || (free && (half && false))) ≡ counted
or_nothing true free half = refl
or_nothing false true true = refl
or_nothing false true false = refl
or_nothing false false half = refl

-- without a tie order the breaker adds nothing
is_quorate_with_tie-none : (s : Settings) (past : List VoteEntry) (now : ℕ) → s.tie ≡ None → is_quorate_with_tie s past now ≡ is_quorate s past now
is_quorate_with_tie-none s past now off =
    let half = 2 * view_votes s past == expected_votes s past in
    ap (λ breaks. is_quorate s past now || (is_released s past && (half && breaks)))
    (no_tie_node s.tie (λ rank. was_in_majority s past rank.0) (λ rank. is_seen past rank.0) off)
    ∙ or_nothing (is_quorate s past now) (is_released s past) half

-- two nodes with disjoint present views are never both quorate
pub disjoint_histories : (s : Settings) (me other : ℕ) (first second : List Entry) (tick later : ℕ) (left right : View) → IsPlainMajority s → s.tie ≡ None
    → view (log_of s me first) ≡ Some left → view (log_of s other second) ≡ Some right → AreDisjoint left right
    → IsTrue (quorate_with_tie s (log_of s me first) tick) → ¬ IsTrue (quorate_with_tie s (log_of s other second) later)
disjoint_histories s me other first second tick later left right plain off seen also_seen apart quorate also_quorate =
    let counts = votes (log_of s me first) in
    let also_counts = votes (log_of s other second) in
    disjoint_views s counts also_counts tick later left right plain
    (present_view-votes (log_of s me first) ∙ seen) (present_view-votes (log_of s other second) ∙ also_seen) apart
    (sym (is_quorate_with_tie-none s counts tick off) ∙ quorate)
    (sym (is_quorate_with_tie-none s also_counts later off) ∙ also_quorate)

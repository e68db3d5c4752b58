use Rattle.std.proofs.Common.{◌≡◌, ◌*◌, Bool, true, false, List, Option, None, Some, ◌&&◌, refl, sym, ap, ◌∙◌}
use Rattle.std.specs.Prelude.{◌==◌}
use Rattle.std.specs.Option.{option_map_or}
use Rattle.qn_base.specs.declared.ids.Rank.{Rank}
use Rattle.qn_base.specs.declared.ids.View.{View}
use Rattle.qn_base.specs.Members.{is_member}
use Rattle.qn_model.specs.declared.configuration.Settings.{Settings}
use Rattle.qn_model.specs.declared.votes.VoteEntry.{VoteEntry}
use Rattle.qn_model.specs.Tie.{breaks_tie, tie_node}
use Rattle.qn_model.specs.Votes.{expected_votes, present_view, votes_among}
use Rattle.qn_node.proofs.tally.Tally.breaks_tie.Goals as goal

-- without a view there is no tie
not_both : (half : Bool) (found : Option Rank) → (half && option_map_or (λ rank. false) found false) ≡ false
not_both true None = refl
not_both true (Some rank) = refl
not_both false found = refl

viewless : (s : Settings) (past : List VoteEntry) → present_view past ≡ None → breaks_tie s past ≡ false
viewless s past none =
    ap (λ (shown : Option View). 2 * option_map_or (λ view. votes_among s.nodes view.members) shown 0 == expected_votes s past
    && option_map_or (λ (rank : Rank). option_map_or (λ view. is_member view.members rank.0) shown false) (tie_node s past) false) none
    ∙ not_both _ (tie_node s past)

pub returns-in-Some : goal.returns-in-Some
returns-in-Some c = λ past h many.
    let s = c.args.own.now.settings in
    let shown = sym h.views ∙ c.in-Some.is in
    let sum = c.votes_among-votes.ensures.sum ∙ ap (λ (v : Option View). option_map_or (λ view. votes_among s.nodes view.members) v 0) (sym shown) in
    c.breaks.ensures.stands s past h.breaks shown sum many

pub returns-in-None : goal.returns-in-None
returns-in-None c = λ past h many. sym (viewless c.args.own.now.settings past (sym h.views ∙ c.in-None.is))

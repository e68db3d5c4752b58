use Rattle.std.proofs.Common.{◌≡◌, ◌∙◌, ◌*◌, ◌==◌, Bool, true, false, ◌&&◌, not, [], Option, None, Some, refl, sym, ap}
use Rattle.std.specs.Option.{option_map_or}
use Rattle.qn_base.specs.declared.ids.Rank.{Rank}
use Rattle.qn_model.specs.declared.configuration.Settings.{Settings}
use Rattle.qn_model.specs.NodeVotes.{votes}
use Rattle.qn_model.specs.Tie.{breaks_tie, tie_node}
use Rattle.qn_model.specs.Votes.{answer_at, expected_votes, is_released, present_view, quorum_of, view_votes}
use Rattle.qn_cluster.proofs.looking.answer_off.Goals as goal

none_is_seen : (rank : Option Rank) → option_map_or (λ (r : Rank). false) rank false ≡ false
none_is_seen None = refl
none_is_seen (Some rank) = refl

both_false : (b : Bool) → (b && false) ≡ false
both_false true = refl
both_false false = refl

-- without a view there is no tie to break
no_tie : (s : Settings) → (is_released s [] && breaks_tie s []) ≡ false
unfolding present_view
no_tie s =
    ap (λ seen. is_released s [] && (2 * view_votes s [] == expected_votes s [] && seen)) (none_is_seen (tie_node s []))
    ∙ ap (λ breaks. is_released s [] && breaks) (both_false (2 * view_votes s [] == expected_votes s []))
    ∙ both_false (is_released s [])

pub returns : goal.returns
unfolding answer_at expected_votes is_released present_view votes
returns c =
    ap (λ quorum. record {
      quorate = false;
      votes = 0;
      quorum = quorum;
      expected = c.args.settings.now.expected;
      released = not c.args.settings.now.wait_for_all;
    }) c.quorum.ensures
    ∙ ap (λ quorate. record {
      quorate = quorate;
      votes = 0;
      quorum = quorum_of c.args.settings.now c.args.settings.now.expected;
      expected = c.args.settings.now.expected;
      released = not c.args.settings.now.wait_for_all;
    }) (sym (no_tie c.args.settings.now))

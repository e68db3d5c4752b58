-- What a count in fixed memory stands for. Vote lists stand newest entry first.
use Rattle.std.specs.Prelude.{◌≡◌, List, Option, ◌+◌}
use Rattle.std.specs.Option.{option_map}
use Rattle.qn_model.specs.declared.configuration.Settings.{Settings}
use Rattle.qn_model.specs.declared.votes.VoteEntry.{VoteEntry}
use Rattle.qn_model.specs.Votes.{device_yes, expected_votes, is_released, present_view, view_tick, votes_among}
use Rattle.qn_quorum.specs.declared.counting.Present.{Present}
use Rattle.qn_quorum.specs.declared.counting.Quorum.{Quorum}
use Rattle.qn_quorum.specs.Agreed.{agreed_until}
use Rattle.qn_quorum.specs.Counting.{votes_of_device}
use Rattle.qn_quorum.specs.Deadline.{deadline_at}

-- what is kept of the present view of a vote list
abbrev pub present_of : Settings → List VoteEntry → Option Present
present_of s votes =
    option_map (λ view. record {
      votes = votes_among s.nodes view.members;
      votes_with_device = votes_among s.nodes view.members + votes_of_device s;
      window_end = deadline_at (view_tick votes + s.window);
      agreed_until = agreed_until s.device (device_yes votes);
    }) (present_view votes)

-- a count stands for the vote list of a node with these settings
pub record QuorumFor (q : Quorum) (s : Settings) (votes : List VoteEntry) : Type 0 where
  pub has_settings : q.settings ≡ s
  pub has_present : q.present ≡ present_of s votes
  pub has_expected : q.expected ≡ expected_votes s votes
  pub has_released : q.released ≡ is_released s votes

-- When the breaker decides between two nodes.
use Rattle.std.specs.Prelude.{◌≡◌, ◌≤◌, ℕ, List, IsSome}
use Rattle.qn_model.specs.declared.configuration.Settings.{Settings}
use Rattle.qn_model.specs.Log.{Line}
use Rattle.qn_model.specs.NodeVotes.{votes}
use Rattle.qn_model.specs.Settings.{IsValid, all_votes}
use Rattle.qn_model.specs.Tie.{was_in_majority}
use Rattle.qn_model.specs.Votes.{expected_votes}

-- Two nodes of a cluster with the breaker on, by their logs: their last views of a majority have the same members, and
-- they expect equally many votes, at least those of all nodes together.
pub record SplitAlike (s : Settings) (first second : List Line) : Type 0 where
  pub valid : IsValid s
  pub breaker_on : IsSome s.tie
  pub same_majority : (rank : ℕ) → was_in_majority s (votes first) rank ≡ was_in_majority s (votes second) rank
  pub same_expected : expected_votes s (votes first) ≡ expected_votes s (votes second)
  pub whole : all_votes s.nodes ≤ expected_votes s (votes first)

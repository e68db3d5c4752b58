-- The votes of a node, and the vote list that they stand for: this project's profile. Vote lists stand newest entry
-- first.
use Rattle.std.specs.Prelude.{◌≡◌, ℕ, suc, List, [], ◌∷◌, is_some, if◌then◌else◌, None}
use Rattle.qn_model.specs.declared.configuration.Settings.{Settings}
use Rattle.qn_model.specs.declared.votes.VoteEntry.{VoteEntry}
use Rattle.qn_model.specs.Votes.{newer_view, present_view, view_tick}
use Rattle.qn_quorum.specs.Quorum.{QuorumFor}
use Rattle.qn_tie.specs.Tie.{TieFor}
use Rattle.qn_node.specs.declared.tally.Tally.{Tally}

-- how many views a vote list has
unfoldable pub view_count : List VoteEntry → ℕ
view_count [] = 0
view_count (entry ∷ past) = if is_some (newer_view entry.what None) then suc (view_count past) else view_count past

-- the count, the tie breaker and the present view stand for the vote list of a node with these settings
pub record TallyFor (tally : Tally) (s : Settings) (past : List VoteEntry) : Type 0 where
  pub counts : QuorumFor tally.quorum s past
  pub breaks : TieFor tally.tie s past
  pub views : tally.view ≡ present_view past
  pub since : tally.view_tick ≡ view_tick past
  pub installed : tally.installs ≡ view_count past

-- What a tie breaker in fixed memory stands for, and what it answers by what it keeps. Vote lists stand newest entry
-- first.
use Rattle.std.specs.Prelude.{◌≡◌, ◌*◌, ◌==◌, ◌&&◌, ℕ, Bool, false, List, Option, Some, find, length, nat_lt, option_and_then, if◌then◌else◌}
use Rattle.std.specs.Option.{option_map_or}
use Rattle.qn_base.specs.declared.ids.Rank.{Rank}
use Rattle.qn_base.specs.declared.ids.View.{View}
use Rattle.qn_base.specs.Members.{is_member}
use Rattle.qn_model.specs.declared.configuration.Settings.{Settings}
use Rattle.qn_model.specs.declared.votes.VoteEntry.{VoteEntry}
use Rattle.qn_model.specs.declared.votes.VoteWhat.TheVariants as what
use Rattle.qn_model.specs.Tie.{majority_view}
use Rattle.qn_tie.specs.declared.breaker.Tie.{Tie}

-- a breaker stands for the vote list of a node with these settings
pub record TieFor (tie : Tie) (s : Settings) (past : List VoteEntry) : Type 0 where
  pub has_order : tie.order ≡ s.tie
  pub has_nodes : tie.nodes ≡ length s.nodes
  pub has_majority : tie.majority ≡ majority_view s past

-- the entry that installs a view at a tick
abbrev pub installs : ℕ → View → VoteEntry
installs tick view = record { tick = tick; what = what.View view }

-- a breaker after a view with these votes, of so many that are expected
abbrev pub with_view : View → ℕ → ℕ → Tie → Tie
with_view view votes expected tie =
    record tie { majority = if nat_lt expected (2 * votes) then Some view else tie.majority }

-- whether a rank was in the last view of a majority; where there was none, each configured node is
abbrev pub is_before : Tie → Rank → Bool
is_before tie rank =
    option_map_or (λ view. is_member view.members rank.0) tie.majority (nat_lt rank.0 tie.nodes)

-- votequorum(5), `auto_tie_breaker_node`: the tie node
abbrev pub preferred : Tie → Option Rank
preferred tie = option_and_then (λ order. find (is_before tie) order) tie.order

-- whether there is a tie node, and it is in that view
abbrev pub has_preferred : Tie → View → Bool
has_preferred tie view = option_map_or (λ rank. is_member view.members rank.0) (preferred tie) false

-- votequorum(5), `auto_tie_breaker`: a view with exactly half of the expected votes, and the tie node
abbrev pub breaks : Tie → View → ℕ → ℕ → Bool
breaks tie view votes expected = 2 * votes == expected && has_preferred tie view

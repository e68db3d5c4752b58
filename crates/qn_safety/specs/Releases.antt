-- How a cluster with wait_for_all is released: some node was handed a view of all nodes. votequorum(5), `wait_for_all`.
use Rattle.std.specs.Prelude.{◌≡◌, true, List, ◌∷◌}
use Rattle.qn_base.specs.declared.ids.Rank.{Rank}
use Rattle.qn_base.specs.declared.ids.View.{View}
use Rattle.qn_model.specs.declared.configuration.Settings.{Settings}
use Rattle.qn_model.specs.declared.times.Timing.{Timing}
use Rattle.qn_model.specs.declared.entries.What.TheVariants as what
use Rattle.qn_model.specs.declared.events.Event.{Event}
use Rattle.qn_model.specs.declared.events.Event.TheVariants as event
use Rattle.qn_model.specs.Votes.{are_all_in}
use Rattle.qn_model.specs.Fitting.{fits}
use Rattle.qn_model.specs.Moments.{Before}
use Rattle.qn_model.specs.World.{node_at}
use Rattle.qn_model.specs.Steps.{run}

-- one of the events, of which the newest stands first, handed a node a view of all nodes, and it fitted the node
pub record AllInView (s : Settings) (t : Timing) (events : List Event) : Type 0 where
  pub rank : Rank
  pub seen : View
  pub earlier : List Event
  pub back : Before (event.View rank seen ∷ earlier) events
  pub fit : fits s rank.0 (node_at s rank.0 (run s t earlier)).log (what.View seen) ≡ true
  pub all : are_all_in s.nodes seen.members ≡ true

-- What a world keeps.
use Rattle.std.specs.Prelude.{ℕ, List, Option}
use Rattle.qn_cluster.specs.Nodes.{Nodes}
use Rattle.qn_cluster.specs.declared.seat.Seat.{Seat}
use Rattle.qn_cluster.specs.declared.leftovers.Leftover.{Leftover}
use Rattle.qn_cluster.specs.declared.sectors.Sectors.{Sectors}
use Rattle.qn_model.specs.declared.configuration.Settings.{Settings}
use Rattle.qn_model.specs.declared.times.Timing.{Timing}
use Rattle.qn_model.specs.declared.entries.What.{What}
use Rattle.qn_model.specs.declared.packets.Sent.{Sent}

pub record Whole : Type 0 where
  pub settings : Settings
  pub timing : Timing
  pub time : ℕ
  pub seats : List Seat
  pub took : List (Option What)
  pub sectors : Sectors
  pub packets : List Sent
  pub left : List Leftover
  pub steps : ℕ

-- the nodes of a world
abbrev pub cluster_of : Whole → Nodes
cluster_of w =
    record { settings = w.settings; time = w.time; seats = w.seats; packets = w.packets; steps = w.steps }

-- a world with other nodes
abbrev pub with_nodes : Whole → Nodes → Whole
with_nodes w c =
    record w { settings = c.settings; time = c.time; seats = c.seats; packets = c.packets; steps = c.steps }

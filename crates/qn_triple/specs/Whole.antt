-- What a world of three images keeps.
use Rattle.std.specs.Prelude.{◌≡◌, ℕ, Bool, List, length}
use Rattle.qn_cluster.specs.Nodes.{Nodes}
use Rattle.qn_cluster.specs.declared.seat.Seat.{Seat}
use Rattle.qn_cluster.specs.declared.sectors.Sectors.{Sectors}
use Rattle.qn_cluster.specs.declared.leftovers.Leftover.{Leftover}
use Rattle.qn_model.specs.declared.configuration.Settings.{Settings}
use Rattle.qn_model.specs.declared.packets.Sent.{Sent}
use Rattle.qn_model.specs.declared.times.Timing.{Timing}
use Rattle.qn_safety.specs.declared.part.Part.{Part}

-- the parts and the good images are by rank, the sectors by image
pub record Whole : Type 0 where
  pub settings : Settings
  pub timing : Timing
  pub time : ℕ
  pub seats : List Seat
  pub packets : List Sent
  pub steps : ℕ
  pub parts : List (List Part)
  pub good : List (List Bool)
  pub sectors : List Sectors
  pub left : List Leftover

-- the nodes of a world
abbrev pub cluster_of : Whole → Nodes
cluster_of w =
    record { settings = w.settings; time = w.time; seats = w.seats; packets = w.packets; steps = w.steps }

-- a world with other nodes
abbrev pub with_nodes : Whole → Nodes → Whole
with_nodes w c =
    record w { settings = c.settings; time = c.time; seats = c.seats; packets = c.packets; steps = c.steps }

-- there are parts and good images of 32 ranks, and three images
pub record HasSizes (parts : List (List Part)) (good : List (List Bool)) (sectors : List Sectors) : Type 0 where
  pub parts_count : length parts ≡ 32
  pub good_count : length good ≡ 32
  pub images : length sectors ≡ 3

-- What a cluster keeps.
use Rattle.std.specs.Prelude.{ℕ, List}
use Rattle.qn_model.specs.declared.configuration.Settings.{Settings}
use Rattle.qn_model.specs.declared.packets.Sent.{Sent}
use Rattle.qn_cluster.specs.declared.seat.Seat.{Seat}

pub record Nodes : Type 0 where
  pub settings : Settings
  pub time : ℕ
  pub seats : List Seat
  pub packets : List Sent
  pub steps : ℕ

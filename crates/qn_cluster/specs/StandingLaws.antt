-- Laws of what a cluster stands for, for this crate and those above.
use Rattle.std.proofs.Common.{◌-◌, ◌<◌, List, arith}
use Rattle.qn_model.specs.Moments.{Moment}
use Rattle.qn_cluster.specs.Nodes.{Nodes}
use Rattle.qn_cluster.specs.Standing.{ClusterFor, HasRoom, IsStanding}

-- a step is taken from those that are left
abbrev pub spent : Nodes → Nodes
spent c = record c { steps = c.steps - 1 }

pub spent_stands : (c : Nodes) (moments : List Moment) → ClusterFor c moments → ClusterFor (spent c) moments
spent_stands c moments is =
    record {
      valid = is.valid;
      count = is.count;
      times = is.times;
      nodes = is.nodes;
      sent = is.sent;
      clocks = is.clocks;
      receivers = is.receivers;
      targets = is.targets;
      rooms = λ rank seat here. let r = is.rooms rank seat here in omega arith;
    }

pub spent_room : (c : Nodes) → IsStanding c → 0 < c.steps → HasRoom (spent c)
spent_room c standing some = λ rank seat here. let r = standing.1.rooms rank seat here in omega arith

-- The world of a cluster beside its arbiter: the nodes with their image, the arbiter with a clock of its own, a poller at
-- each node, and what was sent between them. This project's profile, after corosync-qdevice(8).
use Rattle.std.specs.Prelude.{ℕ, List, [], Option, None, ◌&&◌, slice_get, unwrap_or, if◌then◌else◌}
use Rattle.std.specs.Option.{option_map}
use Rattle.qn_base.specs.declared.ids.View.{View}
use Rattle.qn_model.specs.declared.configuration.Settings.{Settings}
use Rattle.qn_model.specs.Log.{incarnation}
use Rattle.qn_model.specs.Moments.{Running, tick_of}
use Rattle.qn_model.specs.NodeVotes.{install, view}
use Rattle.qn_model.specs.Phases.{is_up, phase}
use Rattle.qn_model.specs.World.{World, first_world, node_at}
use Rattle.qn_safety.specs.declared.lease.Lease.{Lease}
use Rattle.qn_safety.specs.declared.polls.Poll.{Poll}
use Rattle.qn_safety.specs.declared.polls.Reply.{Reply}
use Rattle.qn_safety.specs.Arbiter.{Memory}
use Rattle.qn_safety.specs.Poller.{Poller, Standing, fresh_poller}

-- an arbiter that runs: its clock, in hundredths of a millisecond, and what it remembers
pub record Arbiter : Type 0 where
  pub clock : ℕ
  pub memory : Memory

-- The world after some events: the nodes and their image, the arbiter where it runs, the pollers by rank, and the polls
-- and the replies ever sent, in order. The number of a poll or a reply is its place, from 0.
pub record ArbiterWorld : Type 0 where
  pub world : World
  pub arbiter : Option Arbiter
  pub pollers : ℕ → Poller
  pub polls : List Poll
  pub replies : List Reply

-- at the beginning all nodes and the arbiter are off, and nothing was sent
abbrev pub first_arbiter_world : Lease → ArbiterWorld
first_arbiter_world times =
    record {
      world = first_world;
      arbiter = None;
      pollers = λ rank. fresh_poller times.limit;
      polls = [];
      replies = [];
    }

-- what a node shows in a poll, with this view
abbrev pub standing_in : Running → View → Standing
standing_in node seen =
    record {
      tick = tick_of node.clock;
      incarnation = unwrap_or (incarnation node.log) 0;
      install = install node.log;
      view = seen;
    }

-- what a node shows in a poll: None where it is not running, not up, or has no view
abbrev pub standing_of : Settings → Running → Option Standing
standing_of s node =
    if node.on && is_up (phase s node.log) then option_map (standing_in node) (view node.log) else None

-- what the node of a rank shows in a poll
abbrev pub standing_at : Settings → ℕ → ArbiterWorld → Option Standing
standing_at s rank w = standing_of s (node_at s rank w.world)

-- the poll, and the reply, of a number
abbrev pub poll_at : ℕ → ArbiterWorld → Option Poll
poll_at number w = slice_get w.polls number

abbrev pub reply_at : ℕ → ArbiterWorld → Option Reply
reply_at number w = slice_get w.replies number

-- the tick of a running arbiter's clock
abbrev pub arbiter_tick : Arbiter → ℕ
arbiter_tick arbiter = tick_of arbiter.clock

-- What a world beside an arbiter keeps.
use Rattle.std.specs.Prelude.{ℕ, List, Option}
use Rattle.qn_safety.specs.declared.lease.Lease.{Lease}
use Rattle.qn_safety.specs.declared.polls.Poll.{Poll}
use Rattle.qn_safety.specs.declared.polls.Reply.{Reply}
use Rattle.qn_safety.specs.Poller.{Poller}
use Rattle.qn_model.specs.declared.configuration.Settings.{Settings}
use Rattle.qn_model.specs.declared.times.Timing.{Timing}
use Rattle.qn_world.specs.Whole.{Whole as World}
use Rattle.qn_arbiter.specs.declared.running.RunningArbiter.{RunningArbiter}

-- the nodes with their image, the two times of the leased vote, the arbiter where it runs, the pollers by rank, all polls and
-- replies ever sent, in order, and how many events can still be applied
pub record Kept : Type 0 where
  pub world : World
  pub lease : Lease
  pub arbiter : Option RunningArbiter
  pub pollers : List Poller
  pub polls : List Poll
  pub replies : List Reply
  pub steps : ℕ

-- what is seen of a world, beside all that it keeps
pub record Whole : Type 0 where
  pub settings : Settings
  pub timing : Timing
  pub lease : Lease
  pub time : ℕ
  pub steps : ℕ
  pub kept : Kept

abbrev pub whole_of : Kept → Whole
whole_of kept =
    record {
      settings = kept.world.settings;
      timing = kept.world.timing;
      lease = kept.lease;
      time = kept.world.time;
      steps = kept.steps;
      kept = kept;
    }

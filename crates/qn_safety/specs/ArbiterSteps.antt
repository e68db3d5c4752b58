-- The step of the world beside an arbiter at each event, its runs, and what an event reports: this project's profile.
use Rattle.std.specs.Prelude.{◌≡◌, ℕ, Bool, true, List, [], ◌∷◌, ◌++◌, Option, None, Some, ◌+◌, ◌*◌, length, unwrap_or}
use Rattle.std.specs.Option.{option_map, option_map_or, option_to_list}
use Rattle.qn_base.specs.declared.ids.Rank.{Rank}
use Rattle.qn_model.specs.declared.configuration.Settings.{Settings}
use Rattle.qn_model.specs.declared.events.Event.{Event}
use Rattle.qn_model.specs.declared.events.Event.TheVariants as event
use Rattle.qn_model.specs.declared.life.Why.TheVariants.{Down}
use Rattle.qn_model.specs.declared.reports.Report.{Report}
use Rattle.qn_model.specs.declared.times.Timing.{Timing}
use Rattle.qn_model.specs.Moments.{tick_of, time}
use Rattle.qn_model.specs.Steps.{answer_now, answer_off, holders, report, step, why_now}
use Rattle.qn_model.specs.World.{World, node_at, put}
use Rattle.qn_safety.specs.declared.arbiter_event.ArbiterEvent.{ArbiterEvent}
use Rattle.qn_safety.specs.declared.arbiter_event.ArbiterEvent.TheVariants as beside
use Rattle.qn_safety.specs.declared.lease.Lease.{Lease}
use Rattle.qn_safety.specs.declared.polls.Poll.{Poll}
use Rattle.qn_safety.specs.declared.polls.Reply.{Reply}
use Rattle.qn_safety.specs.declared.arbiter_reports.ArbiterReport.{ArbiterReport}
use Rattle.qn_safety.specs.declared.arbiter_reports.Said.{Said}
use Rattle.qn_safety.specs.declared.arbiter_reports.Said.TheVariants.{Nothing, Polled, Answered}
use Rattle.qn_safety.specs.Arbiter.{fresh_memory, gives_yes, with_poll}
use Rattle.qn_safety.specs.Poller.{Poller, answer_taken, fresh_poller, next_poll, with_sent, without_last}
use Rattle.qn_safety.specs.ArbiterWorld.{Arbiter, ArbiterWorld, arbiter_tick, first_arbiter_world, poll_at, reply_at, standing_at}
use Rattle.qn_safety.specs.ArbiterRules.{is_well_formed_beside, pass_of, refusal_beside}

-- a node takes an answer as the device's, and no answer as a tick
abbrev pub device_event : Rank → Option Bool → Event
device_event rank answer = option_map_or (λ agrees. event.Device rank agrees) answer (event.Tick rank)

-- the event of the nodes that a reply is
abbrev pub reply_event : Settings → ArbiterWorld → Reply → Event
reply_event s w reply =
    device_event reply.to (answer_taken (tick_of (node_at s reply.to.0 w.world).clock) reply (w.pollers reply.to.0))

-- the event that the nodes meet, None where they meet nothing
unfoldable pub played : Settings → ArbiterEvent → ArbiterWorld → Option Event
played s (beside.One one) w = Some one
played s (beside.PassWith advance one) w = Some one
played s (beside.ArbiterBoot base) w = None
played s beside.ArbiterCrash w = None
played s (beside.Poll rank) w = None
played s (beside.Hear number) w = None
played s (beside.Reply number) w = option_map (reply_event s w) (reply_at number w)

-- the nodes after an event
abbrev pub world_after : Settings → Timing → ArbiterEvent → ArbiterWorld → World
world_after s t event w = option_map_or (λ one. step s t one w.world) (played s event w) w.world

-- an arbiter whose clock advances
abbrev pub advanced_arbiter : ℕ → Arbiter → Arbiter
advanced_arbiter advance arbiter = record arbiter { clock = arbiter.clock + advance }

-- an arbiter that boots
abbrev pub booted_arbiter : ℕ → ℕ → Arbiter
booted_arbiter lease base = record { clock = base; memory = fresh_memory lease (tick_of base) }

-- an arbiter that heard a poll
abbrev pub hearing : Poll → Arbiter → Arbiter
hearing poll arbiter = record arbiter { memory = with_poll (arbiter_tick arbiter) poll arbiter.memory }

-- the arbiter after an event
unfoldable pub arbiter_after : Lease → ArbiterEvent → ArbiterWorld → Option Arbiter
arbiter_after times (beside.One one) w = option_map (advanced_arbiter (100 * unwrap_or (pass_of one) 0)) w.arbiter
arbiter_after times (beside.PassWith advance one) w = option_map (advanced_arbiter advance) w.arbiter
arbiter_after times (beside.ArbiterBoot base) w = Some (booted_arbiter times.lease base)
arbiter_after times beside.ArbiterCrash w = None
arbiter_after times (beside.Poll rank) w = w.arbiter
arbiter_after times (beside.Hear number) w = option_map_or (λ poll. option_map (hearing poll) w.arbiter) (poll_at number w) w.arbiter
arbiter_after times (beside.Reply number) w = w.arbiter

-- the pollers after an event of the nodes: that of a node that boots is new, and that of a node that is handed a view forgets
-- its last poll
abbrev pub pollers_with : Lease → Event → (ℕ → Poller) → ℕ → Poller
pollers_with times (event.Boot rank base) pollers = put pollers rank.0 (fresh_poller times.limit)
pollers_with times (event.BootClean rank base) pollers = put pollers rank.0 (fresh_poller times.limit)
pollers_with times (event.View rank view) pollers = put pollers rank.0 (without_last (pollers rank.0))
pollers_with times (event.Pass dt clocks) pollers = pollers
pollers_with times (event.Crash rank) pollers = pollers
pollers_with times (event.Land rank) pollers = pollers
pollers_with times (event.Done rank) pollers = pollers
pollers_with times (event.Fail rank) pollers = pollers
pollers_with times (event.Late rank number) pollers = pollers
pollers_with times (event.Deliver rank number) pollers = pollers
pollers_with times (event.Device rank agrees) pollers = pollers
pollers_with times (event.Tick rank) pollers = pollers
pollers_with times (event.Stopped rank) pollers = pollers
pollers_with times (event.Unstopped rank) pollers = pollers
pollers_with times (event.Leave rank) pollers = pollers
pollers_with times (event.Feed rank) pollers = pollers
pollers_with times (event.Operator rank message) pollers = pollers

-- the pollers after an event
unfoldable pub pollers_after : Settings → Lease → ArbiterEvent → ArbiterWorld → ℕ → Poller
pollers_after s times (beside.One one) w = pollers_with times one w.pollers
pollers_after s times (beside.PassWith advance one) w = w.pollers
pollers_after s times (beside.ArbiterBoot base) w = w.pollers
pollers_after s times beside.ArbiterCrash w = w.pollers
pollers_after s times (beside.Poll rank) w =
    option_map_or (λ at. put w.pollers rank.0 (with_sent rank at (w.pollers rank.0))) (standing_at s rank.0 w) w.pollers
pollers_after s times (beside.Hear number) w = w.pollers
pollers_after s times (beside.Reply number) w = w.pollers

-- the poll that is sent at an event
unfoldable pub poll_sent : Settings → ArbiterEvent → ArbiterWorld → Option Poll
poll_sent s (beside.One one) w = None
poll_sent s (beside.PassWith advance one) w = None
poll_sent s (beside.ArbiterBoot base) w = None
poll_sent s beside.ArbiterCrash w = None
poll_sent s (beside.Poll rank) w = option_map (λ at. next_poll rank at (w.pollers rank.0)) (standing_at s rank.0 w)
poll_sent s (beside.Hear number) w = None
poll_sent s (beside.Reply number) w = None

-- the reply of an arbiter to a poll
abbrev pub reply_to : Arbiter → Poll → Reply
reply_to arbiter poll =
    record {
      to = poll.from;
      number = poll.number;
      incarnation = poll.incarnation;
      install = poll.install;
      agrees = gives_yes arbiter.memory (arbiter_tick arbiter) poll;
    }

-- the reply that is sent at an event
unfoldable pub reply_sent : ArbiterEvent → ArbiterWorld → Option Reply
reply_sent (beside.One one) w = None
reply_sent (beside.PassWith advance one) w = None
reply_sent (beside.ArbiterBoot base) w = None
reply_sent beside.ArbiterCrash w = None
reply_sent (beside.Poll rank) w = None
reply_sent (beside.Hear number) w = option_map_or (λ arbiter. option_map (reply_to arbiter) (poll_at number w)) w.arbiter None
reply_sent (beside.Reply number) w = None

-- the world after an event that is allowed
unfoldable pub step_beside : Settings → Timing → Lease → ArbiterEvent → ArbiterWorld → ArbiterWorld
step_beside s t times event w =
    record {
      world = world_after s t event w;
      arbiter = arbiter_after times event w;
      pollers = pollers_after s times event w;
      polls = w.polls ++ option_to_list (poll_sent s event w);
      replies = w.replies ++ option_to_list (reply_sent event w);
    }

-- the world after events, of which the newest stands first
unfoldable pub run_beside : Settings → Timing → Lease → List ArbiterEvent → ArbiterWorld
run_beside s t times [] = first_arbiter_world times
run_beside s t times (event ∷ earlier) = step_beside s t times event (run_beside s t times earlier)

-- the world after further events, in order
unfoldable pub run_beside_from : Settings → Timing → Lease → ArbiterWorld → List ArbiterEvent → ArbiterWorld
run_beside_from s t times w [] = w
run_beside_from s t times w (event ∷ later) = run_beside_from s t times (step_beside s t times event w) later

-- each of the events, of which the newest stands first, is well formed and allowed in its turn
unfoldable pub AllAllowedBeside : Settings → Timing → Lease → List ArbiterEvent → Type 0
AllAllowedBeside s t times [] = Unit {0}
AllAllowedBeside s t times (event ∷ earlier) =
    (is_well_formed_beside s event ≡ true) × (refusal_beside s t event (run_beside s t times earlier) ≡ None) × AllAllowedBeside s t times earlier

-- the events that the nodes met, newest first
unfoldable pub plays : Settings → Timing → Lease → List ArbiterEvent → List Event
plays s t times [] = []
plays s t times (event ∷ earlier) = option_to_list (played s event (run_beside s t times earlier)) ++ plays s t times earlier

-- what is sent at an event, by the world before it
unfoldable pub said_at : Settings → ArbiterEvent → ArbiterWorld → Said
said_at s (beside.One one) w = Nothing
said_at s (beside.PassWith advance one) w = Nothing
said_at s (beside.ArbiterBoot base) w = Nothing
said_at s beside.ArbiterCrash w = Nothing
said_at s (beside.Poll rank) w = Polled (length w.polls)
said_at s (beside.Hear number) w = option_map_or (λ reply. Answered (length w.replies) reply.agrees) (reply_sent (beside.Hear number) w) Nothing
said_at s (beside.Reply number) w = Nothing

-- the rank that an event touches which the nodes do not meet: that of a node that polls
abbrev pub polling : ArbiterEvent → Option Rank
polling (beside.Poll rank) = Some rank
polling (beside.One one) = None
polling (beside.PassWith advance one) = None
polling (beside.ArbiterBoot base) = None
polling beside.ArbiterCrash = None
polling (beside.Hear number) = None
polling (beside.Reply number) = None

-- what is reported where the nodes meet nothing, of the rank that polls, if one does
abbrev pub quiet_report : Settings → Option Rank → World → Report
quiet_report s rank w =
    record {
      time = time w.moments;
      touched = rank;
      outs = [];
      holders = holders s w;
      answer = option_map_or (λ polled. answer_now s (node_at s polled.0 w)) rank (answer_off s);
      why = option_map_or (λ polled. why_now s polled.0 (node_at s polled.0 w)) rank Down;
    }

-- what an event reports, by the worlds before and after it
unfoldable pub report_beside : Settings → ArbiterEvent → ArbiterWorld → ArbiterWorld → ArbiterReport
report_beside s event before after =
    record {
      report = option_map_or (λ one. report s one after.world) (played s event before) (quiet_report s (polling event) after.world);
      said = said_at s event before;
    }

-- What a call that steps the world beside an arbiter promises.
use Rattle.std.specs.Prelude.{◌≡◌, ◌<◌, ◌≤◌, ◌+◌, ◌++◌, ◌∷◌, [], ℕ, true, Option, None, All, IsTrue}
use Rattle.std.specs.Option.{option_map, option_map_or}
use Rattle.qn_base.specs.declared.ids.Rank.{Rank}
use Rattle.qn_base.specs.declared.ids.View.{View}
use Rattle.qn_base.specs.declared.limits.TheConstants.{LATEST_TIME}
use Rattle.qn_base.specs.Members.{is_member}
use Rattle.qn_safety.specs.declared.arbiter_event.ArbiterEvent.{ArbiterEvent}
use Rattle.qn_safety.specs.declared.lease.Lease.{Lease}
use Rattle.qn_safety.specs.declared.polls.Poll.{Poll}
use Rattle.qn_safety.specs.declared.polls.Reply.{Reply}
use Rattle.qn_safety.specs.declared.arbiter_reports.ArbiterReport.{ArbiterReport}
use Rattle.qn_safety.specs.declared.arbiter_reports.Said.TheVariants.{Nothing}
use Rattle.qn_safety.specs.ArbiterRules.{is_well_formed_beside, refusal_beside}
use Rattle.qn_safety.specs.ArbiterSteps.{hearing, reply_to, report_beside, step_beside}
use Rattle.qn_safety.specs.ArbiterWorld.{Arbiter, ArbiterWorld, poll_at}
use Rattle.qn_safety.specs.Poller.{Standing, next_poll, with_sent}
use Rattle.qn_safety.specs.ArbiterLaws.{IsQuorateIn, LeasesVote}
use Rattle.qn_model.specs.declared.configuration.Settings.{Settings}
use Rattle.qn_model.specs.declared.reports.Refused.{Refused}
use Rattle.qn_model.specs.declared.reports.Refused.TheVariants as refused
use Rattle.qn_model.specs.Laws.{AreDisjoint}
use Rattle.qn_model.specs.World.{put}
use Rattle.qn_node.specs.Outputs.{IsNodeOutput}
use Rattle.qn_world.specs.Seen.{blank_report as blank_nodes}
pub use Rattle.qn_world.specs.Stepping.{RefusedBy}
use Rattle.qn_arbiter.specs.Memory.{needs_memory}
use Rattle.qn_arbiter.specs.OwnRules.{own_refusal}
use Rattle.qn_arbiter.specs.Standing.{IsStanding, KeptFor, PollersFor, RunsOrOff}
use Rattle.qn_arbiter.specs.Whole.{Kept}

-- the world can make the step of an event, unless a rule of its nodes refuses it
pub record IsReady (k : Kept) (event : ArbiterEvent) : Type 0 where
  pub formed : is_well_formed_beside k.world.settings event ≡ true
  pub standing : IsStanding k
  pub early : k.world.time ≤ LATEST_TIME
  pub room : 0 < k.world.steps
  pub allowed : (d : ArbiterWorld) → KeptFor k d → own_refusal k.world.settings event d ≡ None

-- settings, timing, lease and the count of steps stay, and the nodes met at most one event
pub record SameFrame (old new : Kept) : Type 0 where
  pub settings : new.world.settings ≡ old.world.settings
  pub timing : new.world.timing ≡ old.world.timing
  pub lease : new.lease ≡ old.lease
  pub steps : new.steps ≡ old.steps
  pub met : old.world.steps ≤ new.world.steps + 1

-- at most one node holds, as it is reported
abbrev pub OneHolder : ArbiterReport → Type 0
OneHolder r = (i j : ℕ) → IsTrue (is_member r.report.holders i) → IsTrue (is_member r.report.holders j) → i ≡ j

-- what is reported of an event that the world made the step of
pub record Reports (old : Kept) (event : ArbiterEvent) (r : ArbiterReport) : Type 0 where
  pub exact : (d : ArbiterWorld) → KeptFor old d
      → r ≡ report_beside old.world.settings event d (step_beside old.world.settings old.world.timing old.lease event d)
  pub outs : All (IsNodeOutput old.world.settings) r.report.outs
  pub one_holder : OneHolder r

-- the event was allowed, and the world made its step and reported it
pub record Stepped (old new : Kept) (event : ArbiterEvent) (r : ArbiterReport) : Type 0 where
  pub frame : SameFrame old new
  pub allowed : (d : ArbiterWorld) → KeptFor old d → refusal_beside old.world.settings old.world.timing event d ≡ None
  pub stands : (d : ArbiterWorld) → KeptFor old d
      → KeptFor new (step_beside old.world.settings old.world.timing old.lease event d)
  pub reports : Reports old event r

-- the event was refused, and the world is as it was
pub record Refuses (old new : Kept) (event : ArbiterEvent) (answer : Refused) : Type 0 where
  pub same : new ≡ old
  pub why : (d : ArbiterWorld) → KeptFor old d
      → RefusedBy (refusal_beside old.world.settings old.world.timing event d) answer
  pub memory : answer ≡ refused.NoMemory → (d : ArbiterWorld) → KeptFor old d
      → needs_memory old.world.settings old.world.timing event d ≡ true

-- the event was allowed, and the world made its step with one of the events that are left
pub record Applied (old new : Kept) (event : ArbiterEvent) (r : ArbiterReport) : Type 0 where
  pub settings : new.world.settings ≡ old.world.settings
  pub timing : new.world.timing ≡ old.world.timing
  pub lease : new.lease ≡ old.lease
  pub steps : new.steps + 1 ≡ old.steps
  pub room : new.steps ≤ new.world.steps
  pub allowed : (d : ArbiterWorld) → KeptFor old d → refusal_beside old.world.settings old.world.timing event d ≡ None
  pub stands : (d : ArbiterWorld) → KeptFor old d
      → KeptFor new (step_beside old.world.settings old.world.timing old.lease event d)
  pub reports : Reports old event r

-- where the vote is leased, no two running nodes with disjoint present views are both quorate
abbrev pub OneVoteIn : Settings → Lease → ArbiterWorld → Type 0
OneVoteIn s times w =
    (i j : ℕ) (left right : View)
    → LeasesVote s times
    → ¬ (i ≡ j)
    → AreDisjoint left right
    → IsQuorateIn s i left w
    → ¬ IsQuorateIn s j right w

-- a report of nothing
abbrev pub blank_report : ArbiterReport
blank_report = record { report = blank_nodes; said = Nothing }

-- a poll, and the reply of an arbiter to it
abbrev pub heard_by : Poll → Arbiter → Poll × Reply
heard_by poll arbiter = (poll, reply_to arbiter poll)

-- the poll that an arbiter which runs would hear, and its reply to it
abbrev pub heard_at : ℕ → ArbiterWorld → Option (Poll × Reply)
heard_at number w =
    option_map_or (λ poll. option_map (heard_by poll) w.arbiter) (poll_at number w) None

-- the next poll of a rank that stands so was sent, and nothing else changed
pub record Polls (old new : Kept) (rank : Rank) (at : Standing) : Type 0 where
  pub others : new ≡ record old { polls = new.polls; pollers = new.pollers }
  pub polls : (d : ArbiterWorld) → KeptFor old d → new.polls ≡ d.polls ++ next_poll rank at (d.pollers rank.0) ∷ []
  pub pollers : (d : ArbiterWorld) → KeptFor old d
      → PollersFor new.pollers (put d.pollers rank.0 (with_sent rank at (d.pollers rank.0)))

-- a reply to a poll was sent, an arbiter that runs heard the poll, and nothing else changed
pub record Replies (old new : Kept) (poll : Poll) (reply : Reply) : Type 0 where
  pub others : new ≡ record old { replies = new.replies; arbiter = new.arbiter }
  pub replies : new.replies ≡ old.replies ++ reply ∷ []
  pub arbiter : (d : ArbiterWorld) → KeptFor old d → RunsOrOff new.arbiter (option_map (hearing poll) d.arbiter)

-- What a call that steps a world promises, of any kind of world.
use Rattle.std.specs.Prelude.{◌≡◌, ◌<◌, ◌≤◌, ◌+◌, ℕ, Bool, true, false, List, Option, Some, None, All, IsTrue}
use Rattle.qn_base.specs.declared.ids.Rank.{Rank}
use Rattle.qn_base.specs.declared.limits.TheConstants.{LATEST_TIME}
use Rattle.qn_base.specs.Members.{is_member}
use Rattle.qn_cluster.specs.Standing.{HasRoom}
use Rattle.qn_cluster.specs.WorldKinds.{WorldKind}
use Rattle.qn_model.specs.declared.configuration.Settings.{Settings}
use Rattle.qn_model.specs.declared.events.Event.{Event as NodeEvent}
use Rattle.qn_model.specs.declared.events.Event.TheVariants as event
use Rattle.qn_model.specs.declared.outputs.Out.{Out}
use Rattle.qn_model.specs.declared.reports.Refused.{Refused}
use Rattle.qn_model.specs.declared.reports.Refused.TheVariants as refused
use Rattle.qn_model.specs.declared.reports.Report.{Report}
use Rattle.qn_model.specs.declared.times.Timing.{Timing}
use Rattle.qn_model.specs.Steps.{holders, outs_after, report}
use Rattle.qn_model.specs.Timing.{is_safe}
use Rattle.qn_node.specs.Outputs.{IsNodeOutput}

-- an event that was refused: by this rule, or since there is no memory for it
abbrev pub RefusedBy : Option ℕ → Refused → Type 0
RefusedBy rule (refused.NotAllowed number) = rule ≡ Some number.0
RefusedBy rule refused.NoMemory = rule ≡ None

-- the event that boots a rank, as a clean start or not
abbrev pub boot_event : Rank → ℕ → Bool → NodeEvent
boot_event rank base false = event.Boot rank base
boot_event rank base true = event.BootClean rank base

-- at most one node holds, as it is reported
abbrev pub OneHolder : Report → Type 0
OneHolder r = (i j : ℕ) → IsTrue (is_member r.holders i) → IsTrue (is_member r.holders j) → i ≡ j

module _ {Kept World Event : Type 0} (kind : WorldKind Kept World Event) where
  -- the world stands for one of the definitions
  abbrev pub IsStanding : Kept → Type 0
  IsStanding k = (d : World) × kind.StandsFor k d

  -- a list of events, each well formed and allowed in its turn, led to this world
  pub record IsReached (k : Kept) : Type 0 where
    pub events : List Event
    pub allowed : kind.AllAllowed (kind.nodes k).settings (kind.timing k) events
    pub stands : kind.StandsFor k (kind.run (kind.nodes k).settings (kind.timing k) events)

  -- an event is well formed where the world has these settings
  abbrev pub IsFormed : Kept → Event → Type 0
  IsFormed k event = kind.is_well_formed (kind.nodes k).settings event ≡ true

  -- the number of the rule that refuses an event, and that none does
  abbrev pub rule_of : Kept → Event → World → Option ℕ
  rule_of k event d = kind.refusal (kind.nodes k).settings (kind.timing k) event d

  abbrev pub IsAllowed : Kept → Event → World → Type 0
  IsAllowed k event d = rule_of k event d ≡ None

  -- the step of an event appends a packet or a leftover
  abbrev pub NeedsMemory : Kept → Event → World → Type 0
  NeedsMemory k event d = kind.needs_memory (kind.nodes k).settings (kind.timing k) event d ≡ true

  -- the world after an event
  abbrev pub after_event : Kept → Event → World → World
  after_event k event d = kind.step (kind.nodes k).settings (kind.timing k) event d

  -- what came out of an event, and what is reported of it, by the world after it
  abbrev pub outs_of : Kept → Event → World → List Out
  outs_of k event after = outs_after (kind.nodes k).settings (kind.as_one event) (kind.nodes_of after)

  abbrev pub report_of : Kept → Event → World → Report
  report_of k event after = report (kind.nodes k).settings (kind.as_one event) (kind.nodes_of after)

  -- settings, timing and the count of steps stay
  pub record SameFrame (old new : Kept) : Type 0 where
    pub settings : (kind.nodes new).settings ≡ (kind.nodes old).settings
    pub timing : kind.timing new ≡ kind.timing old
    pub steps : (kind.nodes new).steps ≡ (kind.nodes old).steps

  -- the disk changed, and the nodes did not
  pub record OtherDisk (old new : Kept) : Type 0 where
    pub nodes : kind.nodes new ≡ kind.nodes old
    pub timing : kind.timing new ≡ kind.timing old

  -- the disk of the world became another one of the definitions, and the nodes did not change
  pub record Turns (old new : Kept) (change : World → World) : Type 0 where
    pub rest : OtherDisk old new
    pub stands : (d : World) → kind.StandsFor old d → kind.StandsFor new (change d)

  -- the world can make the step of an event
  pub record IsReady (k : Kept) (event : Event) : Type 0 where
    pub formed : IsFormed k event
    pub standing : IsStanding k
    pub room : HasRoom (kind.nodes k)
    pub few : (kind.nodes k).steps < 18446744073709551615
    pub early : (kind.nodes k).time ≤ LATEST_TIME
    pub allowed : IsAllowed k event standing.0

  -- the world made the step of an event, which gave these outputs
  pub record Stepped (old new : Kept) (event : Event) (outs : List Out) : Type 0 where
    pub frame : SameFrame old new
    pub stands : (d : World) → kind.StandsFor old d → IsAllowed old event d → kind.StandsFor new (after_event old event d)
    pub gives : (d : World) → kind.StandsFor old d → IsAllowed old event d → outs ≡ outs_of old event (after_event old event d)
    pub ranks : (d : World) → kind.StandsFor old d → IsAllowed old event d → All (IsNodeOutput (kind.nodes old).settings) outs

  -- the world found no memory for the step of an event, and is as it was
  pub record OutOfMemory (old new : Kept) (event : Event) : Type 0 where
    pub same : new ≡ old
    pub cause : (d : World) → kind.StandsFor old d → IsAllowed old event d → NeedsMemory old event d

  -- the world made the step of an event that was allowed, with one step less that is left
  pub record Made (old new : Kept) (event : Event) (outs : List Out) : Type 0 where
    pub settings : (kind.nodes new).settings ≡ (kind.nodes old).settings
    pub timing : kind.timing new ≡ kind.timing old
    pub steps : (kind.nodes new).steps + 1 ≡ (kind.nodes old).steps
    pub stands : (d : World) → kind.StandsFor old d → kind.StandsFor new (after_event old event d)
    pub gives : (d : World) → kind.StandsFor old d → outs ≡ outs_of old event (after_event old event d)
    pub ranks : All (IsNodeOutput (kind.nodes old).settings) outs

  -- the event was allowed, and the world made its step, of which this is reported
  pub record Applied (old new : Kept) (event : Event) (r : Report) : Type 0 where
    pub settings : (kind.nodes new).settings ≡ (kind.nodes old).settings
    pub timing : kind.timing new ≡ kind.timing old
    pub steps : (kind.nodes new).steps + 1 ≡ (kind.nodes old).steps
    pub allowed : (d : World) → kind.StandsFor old d → IsAllowed old event d
    pub stands : (d : World) → kind.StandsFor old d → kind.StandsFor new (after_event old event d)
    pub reports : (d : World) → kind.StandsFor old d → r ≡ report_of old event (after_event old event d)
    pub outs : All (IsNodeOutput (kind.nodes old).settings) r.outs

  -- the event was refused, and the world is as it was
  pub record Refuses (old new : Kept) (event : Event) (answer : Refused) : Type 0 where
    pub same : new ≡ old
    pub why : (d : World) → kind.StandsFor old d → RefusedBy (rule_of old event d) answer
    pub memory : answer ≡ refused.NoMemory → (d : World) → kind.StandsFor old d → NeedsMemory old event d

  -- in each world that allowed events lead to, where the timing is safe, at most one node holds
  abbrev pub HoldsOnce : Type 0
  HoldsOnce =
      (s : Settings) (t : Timing) (events : List Event) (i j : ℕ)
      → IsTrue (is_safe t)
      → kind.AllAllowed s t events
      → IsTrue (is_member (holders s (kind.nodes_of (kind.run s t events))) i)
      → IsTrue (is_member (holders s (kind.nodes_of (kind.run s t events))) j)
      → i ≡ j

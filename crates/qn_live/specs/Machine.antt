-- What a running node that waits for a call stands for: what is left of its run. This project's profile.
use Rattle.std.specs.Prelude.{◌≡◌, ◌<◌, ℕ, Bool, false, true, ◌+◌, ◌==◌, List, All, Option, None, Some, length, drop, option_map, option_and_then, slice_get}
use Rattle.qn_base.specs.Plans.{Plan, Ends, ◌>>=◌}
use Rattle.qn_model.specs.declared.configuration.Settings.{Settings}
use Rattle.qn_model.specs.declared.entries.Entry.{Entry}
use Rattle.qn_model.specs.declared.outputs.DiskOp.{DiskOp}
use Rattle.qn_model.specs.declared.outputs.Out.{Out}
use Rattle.qn_model.specs.declared.outputs.Out.TheVariants as out
use Rattle.qn_model.specs.declared.packets.Sent.{Sent}
use Rattle.qn_model.specs.Log.{Line, now}
use Rattle.qn_model.specs.NodeOutputs.{newest_outs, with_entry}
use Rattle.qn_model.specs.Settings.{IsValid}
use Rattle.qn_node.specs.declared.node.Node.{Node}
use Rattle.qn_node.specs.Node.{NodeFor}
use Rattle.qn_node.specs.Outputs.{IsNodeOutput}
use Rattle.qn_live.specs.declared.live_end.LiveEnd.{LiveEnd}
use Rattle.qn_live.specs.declared.live_end.LiveEnd.TheVariants as end
use Rattle.qn_live.specs.declared.place.Choice.{Choice}
use Rattle.qn_live.specs.declared.place.Place.{Place}
use Rattle.qn_live.specs.declared.place.Place.TheVariants as place
use Rattle.qn_live.specs.declared.run.NodeRun.{NodeRun}
use Rattle.qn_live.specs.Running.{RunState, Next, Over, Ran, later}
use Rattle.qn_live.specs.Choosing.{choice_in, heard_request, receive_plan}
use Rattle.qn_live.specs.Polling.{poll_plan}
use Rattle.qn_polls.specs.Poller.{poller_of}
use Rattle.qn_safety.specs.declared.polls.Poll.{Poll}
use Rattle.qn_live.specs.Performing.{outs_plan}
use Rattle.qn_live.specs.Greetings.{farewells, hellos_where, sends_plan, to_send}
use Rattle.qn_live.specs.Runs.{clocked, parted, run_plan, settled, timed, turn_plan}
use Rattle.qn_live.specs.Places.{calls_left}

-- what a machine knows of the run, beside the log
abbrev pub state_of : NodeRun → List Line → RunState
state_of run log =
    record {
      log = log;
      loop_ms = run.loop_ms;
      maker = run.member;
      waits = run.waits;
      rests = run.rests;
      last_look = run.last_look;
      asked = run.asked;
      words = run.words;
      poller = option_map poller_of run.poller;
      polls_from = run.polls_from;
    }

-- the turns that follow the present one
abbrev pub next_of : NodeRun → RunState → Plan Ran
next_of run = run_plan run.settings run.me.0 run.leave_at (run.turn + 1) run.after

-- What is left of the run at each moment of a turn: at its beginning, ..
abbrev pub begun : NodeRun → List Line → Plan Ran
begun run log =
    turn_plan run.settings run.me.0 run.leave_at run.turn (state_of run log) >>= later (next_of run)

-- .. where a packet is to be received, ..
abbrev pub receiving : NodeRun → List Line → Plan Ran
receiving run log =
    ((receive_plan >>= (λ got. Ends (choice_in run.me.0 (state_of run log).poller got, heard_request got (state_of run log)))) >>= timed run.settings run.me.0)
    >>= later (next_of run)

-- .. where it has its choice, ..
abbrev pub timing : NodeRun → List Line → Choice → Plan Ran
timing run log choice = timed run.settings run.me.0 (choice, state_of run log) >>= later (next_of run)

-- .. at its tick, ..
abbrev pub clocking : NodeRun → List Line → Choice → ℕ → Plan Ran
clocking run log choice tick =
    clocked run.settings run.me.0 (choice, state_of run log) tick >>= later (next_of run)

-- .. where the outputs from a place on are to be performed, ..
abbrev pub acting : NodeRun → RunState → ℕ → Plan Ran
acting run st at =
    (outs_plan run.settings run.me.0 st (drop at run.outs) >>= settled run.settings run.me.0 run.entry run.outs)
    >>= later (next_of run)

-- .. where all of them were performed, ..
abbrev pub settling : NodeRun → List Line → Plan Ran
settling run log =
    settled run.settings run.me.0 run.entry run.outs (state_of run log) >>= later (next_of run)

-- .. where one of them ended it, ..
abbrev pub ending : NodeRun → List Line → LiveEnd → Plan Ran
ending run log end = parted run.settings run.me.0 end (state_of run log) >>= later (next_of run)

-- .. where a farewell is to be sent, ..
abbrev pub parting : NodeRun → List Line → List Sent → Plan Ran
parting run log sents = (sends_plan sents >>= (λ sent. Ends (Over (end.Left true) log))) >>= later (next_of run)

-- .. and where packets are to be sent
abbrev pub saying : NodeRun → List Line → List Sent → Plan Ran
saying run log sents = (sends_plan sents >>= (λ sent. Ends (Next (state_of run log)))) >>= later (next_of run)

-- .. where a poll is to be sent, and then the greetings
abbrev pub polling : NodeRun → List Line → Poll → Bool → Plan Ran
polling run log poll greets =
    (poll_plan (Some poll)
    >>= (λ told. sends_plan (hellos_where greets run.settings run.me.0 run.member) >>= (λ sent. Ends (Next (state_of run log)))))
    >>= later (next_of run)

-- what is left of the run at a place
abbrev pub left_at : NodeRun → List Line → Place → Plan Ran
left_at run log place.Receive = receiving run log
left_at run log (place.Now choice) = timing run log choice
left_at run log (place.Act at) = acting run (state_of run log) at
left_at run log (place.Poll poll greets) = polling run log poll greets
left_at run log (place.Greet said to) = saying run log (to_send run.settings run.me.0 run.member said to)
left_at run log (place.Part view to) = parting run log (farewells run.settings run.me.0 view to)
left_at run log (place.Over end) = Ends (record { end = end; log = log })

abbrev pub left_of : NodeRun → List Line → Plan Ran
left_of run log = left_at run log run.place

-- the disk operation of an output
abbrev pub operation_in : Out → Option DiskOp
operation_in (out.Disk op) = Some op
operation_in out.Stop = None
operation_in out.Start = None
operation_in out.Feed = None
operation_in (out.Send to packet) = None
operation_in out.Disarm = None
operation_in (out.Halt kind) = None

-- the disk operation whose call comes next, at a place
abbrev pub operation_at : List Out → Place → Option DiskOp
operation_at outs (place.Act at) = option_and_then operation_in (slice_get outs at)
operation_at outs place.Receive = None
operation_at outs (place.Now choice) = None
operation_at outs (place.Poll poll greets) = None
operation_at outs (place.Greet said to) = None
operation_at outs (place.Part view to) = None
operation_at outs (place.Over end) = None

abbrev pub operation_of : NodeRun → Option DiskOp
operation_of run = operation_at run.outs run.place

-- the node stands for the log, whose last tick is this one
pub record StandsFor (s : Settings) (me : ℕ) (node : Node) (tick : ℕ) (log : List Line) : Type 0 where
  pub valid : IsValid s
  pub stands : NodeFor node s me log
  pub at : tick ≡ now log

-- a machine differs from another in its poller alone, as far as what it says and stands for goes
pub record SameBeside (old new : NodeRun) : Type 0 where
  pub settings : new.settings ≡ old.settings
  pub me : new.me ≡ old.me
  pub leave_at : new.leave_at ≡ old.leave_at
  pub node : new.node ≡ old.node
  pub member : new.member ≡ old.member
  pub tick : new.tick ≡ old.tick
  pub turn : new.turn ≡ old.turn
  pub after : new.after ≡ old.after

abbrev pub Stands : NodeRun → List Line → Type 0
Stands run log = StandsFor run.settings run.me.0 run.node run.tick log

-- an output or a rank that is to come is there
abbrev pub HasMore : Settings → ℕ → List Out → Place → Type 0
HasMore s me outs (place.Act at) = (at < length outs) × (at < 40) × All (IsNodeOutput s) outs
HasMore s me outs (place.Greet said to) = (to < length s.nodes) × ((to == me) ≡ false)
HasMore s me outs (place.Part view to) = (to < length s.nodes) × ((to == me) ≡ false)
HasMore s me outs (place.Poll poll greets) = Unit {0}
HasMore s me outs place.Receive = Unit {0}
HasMore s me outs (place.Now choice) = Unit {0}
HasMore s me outs (place.Over end) = Unit {0}

-- the machine stands for the plan: this is left of its run
pub record RunFor (run : NodeRun) (plan : Plan Ran) : Type 0 where
  pub log : List Line
  pub stands : Stands run log
  pub more : HasMore run.settings run.me.0 run.outs run.place
  pub is_left : plan ≡ left_of run log

-- the clock is looked at next
abbrev pub looks_at : Place → Bool
looks_at (place.Now choice) = true
looks_at place.Receive = false
looks_at (place.Act at) = false
looks_at (place.Poll poll greets) = false
looks_at (place.Greet said to) = false
looks_at (place.Part view to) = false
looks_at (place.Over end) = false

abbrev pub looks_next : NodeRun → Bool
looks_next run = looks_at run.place

-- the last entry that was taken in
abbrev pub last_entry : NodeRun → Entry
last_entry run = record { tick = run.tick; what = run.entry }

-- the last entry was taken in after this log, at this tick: the machine stands for the log with it, and has its outputs
pub record TookIn (run : NodeRun) (log : List Line) (tick : ℕ) : Type 0 where
  pub at : run.tick ≡ tick
  pub stands : Stands run (with_entry run.settings run.me.0 log (last_entry run))
  pub outs : run.outs ≡ newest_outs (with_entry run.settings run.me.0 log (last_entry run))

-- no entry was taken in
pub record KeepsEntry (before after : NodeRun) : Type 0 where
  pub node : after.node ≡ before.node
  pub entry : last_entry after ≡ last_entry before
  pub outs : after.outs ≡ before.outs

-- the machine stands for some log, and for some plan
abbrev pub IsStanding : NodeRun → Type 0
IsStanding run = (log : List Line) × Stands run log

abbrev pub IsUnderWay : NodeRun → Type 0
IsUnderWay run = (plan : Plan Ran) × RunFor run plan

-- the plan is over, and ends so
abbrev pub EndsWith : Plan Ran → LiveEnd → Type 0
EndsWith plan end = (log : List Line) × (plan ≡ Ends (record { end = end; log = log }))

-- at most so many calls the machine still makes
abbrev pub work : NodeRun → ℕ
work run = calls_left run.place run.after

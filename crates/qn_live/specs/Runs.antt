-- The run of a node as a plan: which calls it makes, turn by turn, and how it ends. This project's profile.
use Rattle.std.specs.Prelude.{ℕ, zero, suc, Bool, ◌+◌, ◌-◌, nat_lt, List, [], Option, option_map, if◌then◌else◌}
use Rattle.std.specs.Option.{option_map_or}
use Rattle.qn_base.specs.declared.calls.Call.TheVariants as call
use Rattle.qn_base.specs.Plans.{Plan, Ends, Asks, ◌>>=◌}
use Rattle.qn_io.specs.Answered.{time_of}
use Rattle.qn_model.specs.declared.configuration.Settings.{Settings}
use Rattle.qn_model.specs.declared.entries.What.{What}
use Rattle.qn_model.specs.declared.outputs.Out.{Out}
use Rattle.qn_model.specs.Log.{Line, now, times_of}
use Rattle.qn_model.specs.Phases.{phase}
use Rattle.qn_model.specs.Holding.{holds}
use Rattle.qn_model.specs.Moments.{begin_of}
use Rattle.qn_model.specs.NodeVotes.{answer_with_tie}
use Rattle.qn_model.specs.NodeOutputs.{newest_outs, with_entry}
use Rattle.qn_model.specs.Unmet.{unmet}
use Rattle.qn_member.specs.Naming.{NamingMaker}
use Rattle.qn_member.specs.NamingViews.{after_naming_hello_due}
use Rattle.qn_live.specs.declared.live_end.LiveEnd.{LiveEnd}
use Rattle.qn_live.specs.declared.live_end.LiveEnd.TheVariants as end
use Rattle.qn_live.specs.declared.place.Choice.{Choice}
use Rattle.qn_live.specs.declared.place.Choice.TheVariants as choice
use Rattle.qn_live.specs.Polling.{answered, poll_due, poll_plan, polled, poller_after, polls_after}
use Rattle.qn_live.specs.Running.{RunState, first_state, Turned, Over, Next, Ran, later}
use Rattle.qn_live.specs.Choosing.{choice_plan, failed_answer, is_to_leave, looked, looking, own_of}
use Rattle.qn_live.specs.Performing.{end_in, outs_plan}
use Rattle.qn_live.specs.Greetings.{farewell_after, farewells, hellos_where, is_due, maker_of, sends_plan}

-- the loop's time after an entry: that of the header that it gives
abbrev pub loop_after : What → ℕ → ℕ
loop_after entry before = option_map_or (λ times. times.loop_ms) (times_of entry) before

-- the state after an entry was taken in, before its outputs
abbrev pub taken : Settings → ℕ → RunState → ℕ → Option NamingMaker × What → RunState
taken s me st tick found =
    record {
      log = with_entry s me st.log (record { tick = tick; what = found.1 });
      loop_ms = loop_after found.1 st.loop_ms;
      maker = found.0;
      waits = st.waits;
      rests = failed_answer found.1;
      last_look = st.last_look;
      asked = st.asked;
      words = st.words;
      poller = poller_after found.1 st.poller;
      polls_from = polls_after tick (loop_after found.1 st.loop_ms) st.log found.1 st.polls_from;
    }

-- the state once the view maker was asked at a tick whether a Hello is due
abbrev pub hello_asked : ℕ → RunState → RunState
hello_asked tick st = record st { maker = option_map (after_naming_hello_due tick) st.maker }

-- the state with the view maker that the node has then
abbrev pub with_maker : Settings → ℕ → RunState → RunState
with_maker s me st = record st { maker = maker_of s me st }

-- a Hello is due
abbrev pub greets : Settings → ℕ → RunState → Bool
greets s me st = is_due (now st.log) (with_maker s me st).maker

-- the state once the view maker was asked
abbrev pub asked_maker : Settings → ℕ → RunState → RunState
asked_maker s me st = hello_asked (now st.log) (with_maker s me st)

-- the outputs ended nothing: a poll is sent to the arbiter, where one is due; where a Hello is due it is sent to each other
-- node, and then the announcement, and the next turn follows
unfoldable pub greeted : Settings → ℕ → What → RunState → Plan Turned
greeted s me entry st =
    let asked = asked_maker s me st in
    poll_plan (poll_due s me (greets s me st) entry asked)
    >>= (λ told.
    sends_plan (hellos_where (greets s me st) s me asked.maker)
    >>= (λ sent. Ends (Next (polled s me (greets s me st) entry asked))))

-- an output ended the run: a node that left clean says farewell to each other node, and then the run is over
unfoldable pub parted : Settings → ℕ → LiveEnd → RunState → Plan Turned
parted s me end st =
    sends_plan (option_map_or (λ view. farewells s me view 0) (farewell_after end st.maker) [])
    >>= (λ sent. Ends (Over end st.log))

-- the outputs of the entry were performed
unfoldable pub settled : Settings → ℕ → What → List Out → RunState → Plan Turned
settled s me entry outs st = option_map_or (λ end. parted s me end st) (end_in entry outs) (greeted s me entry st)

-- an entry is taken in at a tick, and its outputs are performed
unfoldable pub handled : Settings → ℕ → RunState → ℕ → Option NamingMaker × What → Plan Turned
handled s me st tick found =
    let after = taken s me st tick found in
    outs_plan s me after (newest_outs after.log) >>= settled s me found.1 (newest_outs after.log)

-- the entry that was chosen, at its tick, and the view maker then
abbrev pub looked_at : ℕ → Choice × RunState → Option NamingMaker × What
looked_at tick chosen = looked tick (own_of (looking tick chosen)) chosen.0 chosen.1.maker

-- the clock was looked at: a clock that goes back ends the run
unfoldable pub clocked : Settings → ℕ → Choice × RunState → ℕ → Plan Turned
clocked s me chosen tick =
    if nat_lt tick (now chosen.1.log) then Ends (Over (end.ClockBack (now chosen.1.log) tick) chosen.1.log)
    else handled s me (looking tick (answered tick chosen)) tick (looked_at tick (answered tick chosen))

-- what was chosen becomes the entry of the turn at its tick
abbrev pub timed : Settings → ℕ → Choice × RunState → Plan Turned
timed s me chosen = Asks (call.Now 0) (λ call. clocked s me chosen (time_of call))

-- a turn that follows another one, of that number
abbrev pub turn_plan : Settings → ℕ → Option ℕ → ℕ → RunState → Plan Turned
turn_plan s me leave turn st = choice_plan me (is_to_leave s leave turn st) st >>= timed s me

-- how a run ends after its last turn
abbrev pub turns_end : Settings → ℕ → List Line → LiveEnd
turns_end s me log = end.Turns (phase s log) (holds log) (answer_with_tie s log (now log)) (unmet s me log (now log))

-- so many turns that follow others, of which the first has that number
unfoldable pub run_plan : Settings → ℕ → Option ℕ → ℕ → ℕ → RunState → Plan Ran
run_plan s me leave turn zero st = Ends (record { end = turns_end s me st.log; log = st.log })
run_plan s me leave turn (suc more) st =
    turn_plan s me leave turn st >>= later (run_plan s me leave (turn + 1) more)

-- the run of a node of that many turns, 1 or more: the first one takes the entry that begins the boot; `polls` is the limit within
-- which it takes a reply of its arbiter, None where it has none
unfoldable pub live_plan : Settings → ℕ → Bool → Option ℕ → Option ℕ → ℕ → Plan Ran
live_plan s me clean leave polls turns =
    timed s me (choice.Whole (begin_of clean), first_state polls) >>= later (run_plan s me leave 2 (turns - 1))

-- Where a running node stands between two calls, as a value, and what is left of its run there: this project's profile.
use Rattle.std.specs.Prelude.{ℕ, zero, suc, Bool, ◌+◌, ◌-◌, nat_lt, List, [], ◌∷◌, Option, None, Some, if◌then◌else◌}
use Rattle.std.specs.Option.{option_map_or}
use Rattle.qn_base.specs.declared.calls.Call.{Call}
use Rattle.qn_base.specs.Plans.{Plan, Ends, ◌>>=◌}
use Rattle.qn_io.specs.Answered.{received_in, time_of}
use Rattle.qn_model.specs.declared.configuration.Settings.{Settings}
use Rattle.qn_model.specs.declared.entries.What.{What}
use Rattle.qn_model.specs.declared.outputs.Out.{Out}
use Rattle.qn_model.specs.declared.packets.Sent.{Sent}
use Rattle.qn_model.specs.Log.{Line, now}
use Rattle.qn_model.specs.Moments.{begin_of}
use Rattle.qn_model.specs.NodeOutputs.{newest_outs}
use Rattle.qn_safety.specs.declared.polls.Poll.{Poll}
use Rattle.qn_member.specs.Naming.{NamingMaker}
use Rattle.qn_live.specs.declared.live_end.LiveEnd.TheVariants as end
use Rattle.qn_live.specs.declared.live_end.LiveEnd.{LiveEnd}
use Rattle.qn_live.specs.declared.place.Choice.{Choice}
use Rattle.qn_live.specs.declared.place.Choice.TheVariants as choice
use Rattle.qn_live.specs.declared.place.Waits.{Waits}
use Rattle.qn_live.specs.Running.{RunState, first_state, Over, Next, Ran, later}
use Rattle.qn_live.specs.Choosing.{choice_in, heard_request, is_late, is_to_leave, looking, ready, receive_plan}
use Rattle.qn_live.specs.Polling.{answered, poll_due, poll_plan, polled}
use Rattle.qn_live.specs.Performing.{end_in, noted, outs_plan}
use Rattle.qn_live.specs.Greetings.{farewell_after, farewells, hellos_where, sends_plan}
use Rattle.qn_live.specs.Runs.{asked_maker, greets, looked_at, run_plan, settled, taken, timed, turns_end}

-- the call that comes next
pub data Spot : Type 0 where
  -- a packet is received
  Receiving : RunState → Spot
  -- the clock is looked at
  Looking : Choice × RunState → Spot
  -- an output of the entry is performed: the entry, all its outputs, this one, and those after it
  Acting : What → List Out → Out → List Out → RunState → Spot
  -- a poll is sent to the arbiter, and then these packets of the view maker
  Polling : Poll → List Sent → RunState → Spot
  -- a packet of the view maker is sent, and those after it
  Saying : Sent → List Sent → RunState → Spot
  -- a packet of the farewell is sent, and those after it: how the run ends then
  Parting : LiveEnd → Sent → List Sent → RunState → Spot
  -- none: the run is over
  Ended : Ran → Spot

-- a run under way: the number of the turn that follows the present one, how many follow, and where it stands
pub record Stand : Type 0 where
  pub turn : ℕ
  pub more : ℕ
  pub spot : Spot

-- what a run of that many turns stands at before its first call
abbrev pub first_stand : Bool → Option ℕ → ℕ → Stand
first_stand clean polls turns =
    record { turn = 2; more = turns - 1; spot = Looking (choice.Whole (begin_of clean), first_state polls) }

-- what is left of a run
unfoldable pub left_plan : Settings → ℕ → Option ℕ → ℕ → ℕ → Spot → Plan Ran
left_plan s me leave turn more (Receiving st) =
    ((receive_plan >>= (λ got. Ends (choice_in me st.poller got, heard_request got st))) >>= timed s me) >>= later (run_plan s me leave turn more)
left_plan s me leave turn more (Looking chosen) = timed s me chosen >>= later (run_plan s me leave turn more)
left_plan s me leave turn more (Acting entry outs o rest st) =
    (outs_plan s me st (o ∷ rest) >>= settled s me entry outs) >>= later (run_plan s me leave turn more)
left_plan s me leave turn more (Polling poll sents st) =
    (poll_plan (Some poll) >>= (λ told. sends_plan sents >>= (λ sent. Ends (Next st)))) >>= later (run_plan s me leave turn more)
left_plan s me leave turn more (Saying sent rest st) =
    (sends_plan (sent ∷ rest) >>= (λ sent. Ends (Next st))) >>= later (run_plan s me leave turn more)
left_plan s me leave turn more (Parting end sent rest st) =
    (sends_plan (sent ∷ rest) >>= (λ sent. Ends (Over end st.log)))
    >>= later (run_plan s me leave turn more)
left_plan s me leave turn more (Ended ran) = Ends ran

abbrev pub plan_at : Settings → ℕ → Option ℕ → Stand → Plan Ran
plan_at s me leave stand = left_plan s me leave stand.turn stand.more stand.spot

-- a turn begins that needs a packet: it takes none where the last look of the view maker is late, and receives one else
abbrev pub opening : RunState → Bool → Spot
opening st late = if late then Looking (choice.Open None, st) else Receiving st

-- a turn begins that takes this, or that needs a packet
abbrev pub taking : RunState → Option (What × Waits) → Spot
taking st found =
    option_map_or (λ taken. Looking (choice.Whole taken.0, record st { waits = taken.1 })) found (opening st (is_late st))

-- the turn is over: the next one begins, or the run is over
abbrev pub begun_at : Settings → ℕ → Option ℕ → ℕ → ℕ → RunState → Stand
begun_at s me leave turn zero st =
    record { turn = turn; more = zero; spot = Ended (record { end = turns_end s me st.log; log = st.log }) }
begun_at s me leave turn (suc more) st =
    record { turn = turn + 1; more = more; spot = taking st (ready (is_to_leave s leave turn st) st.rests st.waits) }

-- these packets of the view maker are to be sent
abbrev pub said_at : Settings → ℕ → Option ℕ → ℕ → ℕ → RunState → List Sent → Stand
said_at s me leave turn more st [] = begun_at s me leave turn more st
said_at s me leave turn more st (sent ∷ rest) = record { turn = turn; more = more; spot = Saying sent rest st }

-- what the view maker sends
abbrev pub sends_due : Settings → ℕ → RunState → List Sent
sends_due s me st = hellos_where (greets s me st) s me (asked_maker s me st).maker

-- the poll is to be sent, where one is, and then these packets of the view maker
abbrev pub polled_at : Settings → ℕ → Option ℕ → ℕ → ℕ → RunState → List Sent → Option Poll → Stand
polled_at s me leave turn more st sents None = said_at s me leave turn more st sents
polled_at s me leave turn more st sents (Some poll) = record { turn = turn; more = more; spot = Polling poll sents st }

-- the outputs ended nothing
abbrev pub greeted_at : Settings → ℕ → Option ℕ → ℕ → ℕ → What → RunState → Stand
greeted_at s me leave turn more entry st =
    let due = greets s me st in
    let asked = asked_maker s me st in
    polled_at s me leave turn more (polled s me due entry asked) (sends_due s me st) (poll_due s me due entry asked)

-- these packets of the farewell are to be sent before the run ends so
abbrev pub parts_at : ℕ → ℕ → LiveEnd → RunState → List Sent → Stand
parts_at turn more end st [] =
    record { turn = turn; more = more; spot = Ended (record { end = end; log = st.log }) }
parts_at turn more end st (sent ∷ rest) =
    record { turn = turn; more = more; spot = Parting end sent rest st }

-- what a node that ends so says farewell with
abbrev pub farewells_due : Settings → ℕ → LiveEnd → RunState → List Sent
farewells_due s me end st =
    option_map_or (λ view. farewells s me view 0) (farewell_after end st.maker) []

-- all outputs of the entry were performed
abbrev pub settled_by : Settings → ℕ → Option ℕ → ℕ → ℕ → What → RunState → Option LiveEnd → Stand
settled_by s me leave turn more entry st None = greeted_at s me leave turn more entry st
settled_by s me leave turn more entry st (Some end) =
    parts_at turn more end st (farewells_due s me end st)

-- these outputs of the entry are to be performed
abbrev pub acts_at : Settings → ℕ → Option ℕ → ℕ → ℕ → What → List Out → List Out → RunState → Stand
acts_at s me leave turn more entry outs [] st = settled_by s me leave turn more entry st (end_in entry outs)
acts_at s me leave turn more entry outs (o ∷ rest) st =
    record { turn = turn; more = more; spot = Acting entry outs o rest st }

-- the clock was looked at, and the entry taken in
abbrev pub handled_at : Settings → ℕ → Option ℕ → ℕ → ℕ → RunState → ℕ → Option NamingMaker × What → Stand
handled_at s me leave turn more st tick found =
    let after = taken s me st tick found in
    acts_at s me leave turn more found.1 (newest_outs after.log) (newest_outs after.log) after

abbrev pub clocked_by : Settings → ℕ → Option ℕ → ℕ → ℕ → Choice × RunState → ℕ → Bool → Stand
clocked_by s me leave turn more chosen tick back =
    if back then record { turn = turn; more = more; spot = Ended (record { end = end.ClockBack (now chosen.1.log) tick; log = chosen.1.log }) }
    else handled_at s me leave turn more (looking tick (answered tick chosen)) tick (looked_at tick (answered tick chosen))

-- where the run stands after a call with its answer
unfoldable pub after_spot : Settings → ℕ → Option ℕ → ℕ → ℕ → Spot → Call → Stand
after_spot s me leave turn more (Receiving st) call =
    record { turn = turn; more = more; spot = Looking (choice_in me st.poller (received_in call), heard_request (received_in call) st) }
after_spot s me leave turn more (Looking chosen) call =
    clocked_by s me leave turn more chosen (time_of call) (nat_lt (time_of call) (now chosen.1.log))
after_spot s me leave turn more (Acting entry outs o rest st) call =
    acts_at s me leave turn more entry outs rest (noted s o call st)
after_spot s me leave turn more (Polling poll sents st) call = said_at s me leave turn more st sents
after_spot s me leave turn more (Saying sent rest st) call = said_at s me leave turn more st rest
after_spot s me leave turn more (Parting end sent rest st) call = parts_at turn more end st rest
after_spot s me leave turn more (Ended ran) call = record { turn = turn; more = more; spot = Ended ran }

abbrev pub after_call : Settings → ℕ → Option ℕ → Stand → Call → Stand
after_call s me leave stand call = after_spot s me leave stand.turn stand.more stand.spot call

-- the log of a run where it stands
abbrev pub log_at : Spot → List Line
log_at (Receiving st) = st.log
log_at (Looking chosen) = chosen.1.log
log_at (Acting entry outs o rest st) = st.log
log_at (Polling poll sents st) = st.log
log_at (Saying sent rest st) = st.log
log_at (Parting end sent rest st) = st.log
log_at (Ended ran) = ran.log

-- the answers that wait where a run stands; none where it is over
abbrev pub waits_at : Spot → Waits
waits_at (Receiving st) = st.waits
waits_at (Looking chosen) = chosen.1.waits
waits_at (Acting entry outs o rest st) = st.waits
waits_at (Polling poll sents st) = st.waits
waits_at (Saying sent rest st) = st.waits
waits_at (Parting end sent rest st) = st.waits
waits_at (Ended ran) = record { stopped = None; disk = None }

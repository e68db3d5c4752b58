-- What is left of a run after a call is what is left where it stands then.
use Rattle.std.proofs.Common.{◌≡◌, ℕ, suc, zero, Bool, true, false, ◌+◌, List, [], ◌∷◌, Option, None, Some, if◌then◌else◌, refl}
use Rattle.std.specs.Prelude.{nat_lt}
use Rattle.std.specs.Option.{option_map_or}
use Rattle.qn_base.specs.declared.calls.Call.{Call}
use Rattle.qn_base.specs.Plans.{Plan, Ends, ◌>>=◌, left}
use Rattle.qn_io.specs.Answered.{time_of}
use Rattle.qn_model.specs.declared.configuration.Settings.{Settings}
use Rattle.qn_model.specs.declared.entries.What.{What}
use Rattle.qn_model.specs.declared.outputs.Out.{Out}
use Rattle.qn_model.specs.declared.packets.Sent.{Sent}
use Rattle.qn_model.specs.Log.{now}
use Rattle.qn_model.specs.NodeOutputs.{newest_outs}
use Rattle.qn_member.specs.Naming.{NamingMaker}
use Rattle.qn_live.specs.declared.live_end.LiveEnd.{LiveEnd}
use Rattle.qn_live.specs.declared.live_end.LiveEnd.TheVariants as end
use Rattle.qn_live.specs.declared.place.Choice.{Choice}
use Rattle.qn_live.specs.declared.place.Choice.TheVariants as choice
use Rattle.qn_live.specs.declared.place.Waits.{Waits}
use Rattle.qn_live.specs.Running.{RunState, Turned, Over, Next, Ran, later}
use Rattle.qn_live.specs.Choosing.{choice_plan, is_late, is_to_leave, looking, open_plan, ready}
use Rattle.qn_live.specs.Greetings.{sends_plan}
use Rattle.qn_live.specs.Performing.{end_in, noted, outs_plan}
use Rattle.qn_live.specs.Runs.{asked_maker, clocked, greeted, greets, handled, live_plan, looked_at, parted, run_plan, settled, taken, timed}
use Rattle.qn_joined.specs.Stands.{Spot, Receiving, Looking, Acting, Polling, Saying, Parting, Ended, Stand, acts_at, after_call, after_spot, begun_at, clocked_by, first_stand, greeted_at, handled_at, farewells_due, left_plan, opening, parts_at, plan_at, polled_at, said_at, sends_due, settled_by, taking}
use Rattle.qn_safety.specs.declared.polls.Poll.{Poll}
use Rattle.qn_live.specs.Polling.{answered, poll_due, poll_plan, polled}

-- the turns that follow
abbrev rest_of : Settings → ℕ → Option ℕ → ℕ → ℕ → Turned → Plan Ran
rest_of s me leave turn more = later (run_plan s me leave turn more)

opening_plan : (s : Settings) (me : ℕ) (leave : Option ℕ) (turn more : ℕ) (st : RunState) (late : Bool)
    → (open_plan me st late >>= timed s me) >>= rest_of s me leave turn more ≡ left_plan s me leave turn more (opening st late)
unfolding left_plan
opening_plan s me leave turn more st true = refl
opening_plan s me leave turn more st false = refl

taking_plan : (s : Settings) (me : ℕ) (leave : Option ℕ) (turn more : ℕ) (st : RunState) (found : Option (What × Waits))
    → (option_map_or (λ taken. Ends (choice.Whole taken.0, record st { waits = taken.1 })) found (open_plan me st (is_late st)) >>= timed s me) >>= rest_of s me leave turn more
    ≡ left_plan s me leave turn more (taking st found)
unfolding left_plan
taking_plan s me leave turn more st None = opening_plan s me leave turn more st (is_late st)
taking_plan s me leave turn more st (Some found) = refl

begun_plan : (s : Settings) (me : ℕ) (leave : Option ℕ) (turn more : ℕ) (st : RunState)
    → run_plan s me leave turn more st ≡ plan_at s me leave (begun_at s me leave turn more st)
unfolding run_plan choice_plan left_plan
begun_plan s me leave turn zero st = refl
begun_plan s me leave turn (suc more) st =
    taking_plan s me leave (turn + 1) more st (ready (is_to_leave s leave turn st) st.rests st.waits)

said_plan : (s : Settings) (me : ℕ) (leave : Option ℕ) (turn more : ℕ) (st : RunState) (sents : List Sent)
    → (sends_plan sents >>= (λ sent. Ends (Next st))) >>= rest_of s me leave turn more ≡ plan_at s me leave (said_at s me leave turn more st sents)
unfolding sends_plan left_plan
said_plan s me leave turn more st [] = begun_plan s me leave turn more st
said_plan s me leave turn more st (sent ∷ rest) = refl

polled_plan : (s : Settings) (me : ℕ) (leave : Option ℕ) (turn more : ℕ) (st : RunState) (sents : List Sent) (poll : Option Poll)
    → (poll_plan poll >>= (λ told. sends_plan sents >>= (λ sent. Ends (Next st)))) >>= rest_of s me leave turn more
    ≡ plan_at s me leave (polled_at s me leave turn more st sents poll)
unfolding left_plan
polled_plan s me leave turn more st sents None = said_plan s me leave turn more st sents
polled_plan s me leave turn more st sents (Some poll) = refl

greeted_plan : (s : Settings) (me : ℕ) (leave : Option ℕ) (turn more : ℕ) (entry : What) (st : RunState)
    → greeted s me entry st >>= rest_of s me leave turn more ≡ plan_at s me leave (greeted_at s me leave turn more entry st)
unfolding greeted
greeted_plan s me leave turn more entry st =
    polled_plan s me leave turn more (polled s me (greets s me st) entry (asked_maker s me st)) (sends_due s me st)
    (poll_due s me (greets s me st) entry (asked_maker s me st))

parts_plan : (s : Settings) (me : ℕ) (leave : Option ℕ) (turn more : ℕ) (end : LiveEnd) (st : RunState) (sents : List Sent)
    → (sends_plan sents >>= (λ sent. Ends (Over end st.log))) >>= rest_of s me leave turn more ≡ plan_at s me leave (parts_at turn more end st sents)
unfolding sends_plan left_plan
parts_plan s me leave turn more end st [] = refl
parts_plan s me leave turn more end st (sent ∷ rest) = refl

settled_plan : (s : Settings) (me : ℕ) (leave : Option ℕ) (turn more : ℕ) (entry : What) (st : RunState) (found : Option LiveEnd)
    → option_map_or (λ end. parted s me end st) found (greeted s me entry st) >>= rest_of s me leave turn more
    ≡ plan_at s me leave (settled_by s me leave turn more entry st found)
unfolding parted
settled_plan s me leave turn more entry st None = greeted_plan s me leave turn more entry st
settled_plan s me leave turn more entry st (Some end) = parts_plan s me leave turn more end st (farewells_due s me end st)

acts_plan : (s : Settings) (me : ℕ) (leave : Option ℕ) (turn more : ℕ) (entry : What) (outs rest : List Out) (st : RunState)
    → (outs_plan s me st rest >>= settled s me entry outs) >>= rest_of s me leave turn more ≡ plan_at s me leave (acts_at s me leave turn more entry outs rest st)
unfolding outs_plan settled left_plan
acts_plan s me leave turn more entry outs [] st = settled_plan s me leave turn more entry st (end_in entry outs)
acts_plan s me leave turn more entry outs (o ∷ rest) st = refl

handled_plan : (s : Settings) (me : ℕ) (leave : Option ℕ) (turn more : ℕ) (st : RunState) (tick : ℕ) (found : Option NamingMaker × What)
    → handled s me st tick found >>= rest_of s me leave turn more ≡ plan_at s me leave (handled_at s me leave turn more st tick found)
unfolding handled
handled_plan s me leave turn more st tick found =
    let after = taken s me st tick found in
    acts_plan s me leave turn more found.1 (newest_outs after.log) (newest_outs after.log) after

clocked_plan : (s : Settings) (me : ℕ) (leave : Option ℕ) (turn more : ℕ) (chosen : Choice × RunState) (tick : ℕ) (back : Bool)
    → (if back then Ends (Over (end.ClockBack (now chosen.1.log) tick) chosen.1.log) else handled s me (looking tick (answered tick chosen)) tick (looked_at tick (answered tick chosen))) >>= rest_of s me leave turn more
    ≡ plan_at s me leave (clocked_by s me leave turn more chosen tick back)
unfolding left_plan
clocked_plan s me leave turn more chosen tick true = refl
clocked_plan s me leave turn more chosen tick false =
    handled_plan s me leave turn more (looking tick (answered tick chosen)) tick (looked_at tick (answered tick chosen))

spot_left : (s : Settings) (me : ℕ) (leave : Option ℕ) (turn more : ℕ) (spot : Spot) (call : Call)
    → left (left_plan s me leave turn more spot) call ≡ plan_at s me leave (after_spot s me leave turn more spot call)
unfolding left_plan after_spot clocked outs_plan sends_plan
spot_left s me leave turn more (Receiving st) call = refl
spot_left s me leave turn more (Looking chosen) call =
    clocked_plan s me leave turn more chosen (time_of call) (nat_lt (time_of call) (now chosen.1.log))
spot_left s me leave turn more (Acting entry outs o rest st) call =
    acts_plan s me leave turn more entry outs rest (noted s o call st)
spot_left s me leave turn more (Polling poll sents st) call = said_plan s me leave turn more st sents
spot_left s me leave turn more (Saying sent rest st) call = said_plan s me leave turn more st rest
spot_left s me leave turn more (Parting end sent rest st) call = parts_plan s me leave turn more end st rest
spot_left s me leave turn more (Ended ran) call = refl

pub stand_left : (s : Settings) (me : ℕ) (leave : Option ℕ) (stand : Stand) (call : Call)
    → left (plan_at s me leave stand) call ≡ plan_at s me leave (after_call s me leave stand call)
stand_left s me leave stand call = spot_left s me leave stand.turn stand.more stand.spot call

pub stand_first : (s : Settings) (me : ℕ) (clean : Bool) (leave polls : Option ℕ) (turns : ℕ)
    → live_plan s me clean leave polls turns ≡ plan_at s me leave (first_stand clean polls turns)
unfolding live_plan left_plan
stand_first s me clean leave polls turns = refl

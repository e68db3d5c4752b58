-- The calls of a run that perform outputs are those of its log, in order.
use Rattle.std.proofs.Common.{◌≡◌, ℕ, suc, zero, Bool, true, false, not, ◌||◌, ◌+◌, ◌-◌, List, [], ◌∷◌, ◌++◌, map, Option, None, Some, if◌then◌else◌, refl, sym, ap, subst, ◌∙◌, append_assoc, option_and_then}
use Rattle.std.proofs.lemmas.Bool.{and_parts}
use Rattle.std.specs.Prelude.{nat_lt, option_and_then}
use Rattle.std.specs.List.{list_all}
use Rattle.std.specs.Option.{option_map_or}
use Rattle.std.proofs.lemmas.List.{append-nil}
use Rattle.qn_base.specs.declared.calls.Call.{Call}
use Rattle.qn_base.specs.declared.calls.Call.TheVariants as call
use Rattle.qn_base.specs.declared.ids.Rank.{Rank}
use Rattle.qn_base.specs.declared.ids.View.{View}
use Rattle.qn_base.specs.Calls.{blank}
use Rattle.qn_base.specs.Plans.{Plan, Ends, Follows, ◌>>=◌}
use Rattle.qn_io.specs.Answered.{time_of}
use Rattle.qn_model.specs.declared.configuration.Settings.{Settings}
use Rattle.qn_model.specs.declared.packets.Packet.{Packet}
use Rattle.qn_model.specs.declared.packets.Packet.TheVariants as packet
use Rattle.qn_model.specs.declared.packets.Sent.{Sent}
use Rattle.qn_model.specs.declared.entries.Entry.{Entry}
use Rattle.qn_model.specs.declared.entries.What.{What}
use Rattle.qn_model.specs.declared.outputs.DiskOp.{DiskOp}
use Rattle.qn_model.specs.declared.outputs.DiskOp.TheVariants as disk
use Rattle.qn_model.specs.declared.outputs.Out.{Out}
use Rattle.qn_model.specs.declared.outputs.Out.TheVariants as out
use Rattle.qn_model.specs.Log.{Line, now}
use Rattle.qn_model.specs.Moments.{begin_of}
use Rattle.qn_model.specs.NodeOutputs.{newest_outs, with_entry}
use Rattle.qn_model.specs.Wanted.{rank_of}
use Rattle.qn_member.specs.Naming.{NamingMaker}
use Rattle.qn_member.specs.NamingViews.{view_announced}
use Rattle.qn_wire.specs.Packets.{announce_bytes, has_name, packet_bytes}
use Rattle.qn_live.specs.declared.live_end.LiveEnd.{LiveEnd}
use Rattle.qn_live.specs.declared.live_end.LiveEnd.TheVariants as end
use Rattle.qn_live.specs.declared.place.Choice.{Choice}
use Rattle.qn_live.specs.declared.place.Choice.TheVariants as choice
use Rattle.qn_live.specs.declared.place.Greeting.{Greeting}
use Rattle.qn_live.specs.declared.place.Greeting.TheVariants as greeting
use Rattle.qn_live.specs.declared.place.Waits.{Waits}
use Rattle.qn_live.specs.Choosing.{choice_plan, is_late, is_to_leave, looking, open_plan, ready}
use Rattle.qn_live.specs.Greetings.{farewell_after, farewells, first_greeting, greeting_packet, hellos_where, said_after, sends_plan, to_all, to_each, to_send}
use Rattle.qn_live.specs.Laws.{if_output, is_greeting, is_output, is_polling, outputs_among, outputs_of}
use Rattle.qn_live.specs.Performing.{disk_call, end_in, noted, out_call, outs_plan, own_number}
use Rattle.qn_safety.specs.declared.polls.Poll.{Poll}
use Rattle.qn_polls.specs.Polls.{poll_bytes}
use Rattle.qn_live.specs.Polling.{answered, poll_call, poll_due, poll_plan, polled}
use Rattle.qn_live.specs.Running.{RunState, Turned, Over, Next, Ran, first_state, later}
use Rattle.qn_live.specs.Runs.{asked_maker, clocked, greeted, greets as hello_greets, handled, live_plan, looked_at, parted, run_plan, settled, taken, timed, turn_plan}
use Rattle.qn_live.proofs.Coming.{Acts, Comes, Dies, Halts, Leaves, entry_comes, is_act}
use Rattle.qn_live.proofs.Through.{AllFit, Through, after_all, through_follows, through_then}

-- each call is fit, and adds itself to the list where it performs an output
abbrev AnyCall : List Call → Call → Type 0
AnyCall done made = Unit {0}

abbrev told_more : List Call → Call → List Call
told_more done made = done ++ if_output made

abbrev Telling : {A : Type 0} → (List Call → A → Type 0) → List Call → Plan A → Type 0
Telling P done plan = Through AnyCall told_more P done plan

is_output-blank : (made : Call) → is_output (blank made) ≡ is_output made
is_output-blank (call.OpenImage path ok) = refl
is_output-blank (call.OpenNode images image watchdog resource port rank ok) = refl
is_output-blank (call.Now tick) = refl
is_output-blank (call.Receive got) = refl
is_output-blank (call.Read sector bytes ok) = refl
is_output-blank (call.Write sector bytes ok) = refl
is_output-blank (call.Feed ok) = refl
is_output-blank (call.Start ok) = refl
is_output-blank (call.Stop ok) = refl
is_output-blank (call.Send to bytes ok) = refl
is_output-blank (call.Disarm ok) = refl
is_output-blank (call.Halt code) = refl

-- a call that performs no output adds nothing
silent : (done : List Call) (made question : Call) → blank made ≡ question → is_output question ≡ false → told_more done made ≡ done
silent done made question asked none =
    let is : is_output made ≡ false = sym (is_output-blank made) ∙ ap is_output asked ∙ none in rw is (append-nil done)

-- one that performs an output adds its question
spoken : (made question : Call) → blank made ≡ question → is_output question ≡ true → if_output made ≡ question ∷ []
spoken made question asked one =
    let is : is_output made ≡ true = sym (is_output-blank made) ∙ ap is_output asked ∙ one in
    rw is (ap (λ c. c ∷ []) asked)

-- packets that are Hellos or Announces
abbrev AllGreet : List Sent → Type 0
AllGreet [] = Unit {0}
AllGreet (sent ∷ more) = (is_greeting (packet_bytes sent.packet) ≡ true) × AllGreet more

append_greet : (first second : List Sent) → AllGreet first → AllGreet second → AllGreet (first ++ second)
append_greet [] second one other = other
append_greet (sent ∷ first) second one other = (one.0, append_greet first second one.1 other)

each_greets : (p : Packet) (ranks : List ℕ) → is_greeting (packet_bytes p) ≡ true → AllGreet (to_each p ranks)
each_greets p [] is = tt
each_greets p (rank ∷ ranks) is = (is, each_greets p ranks is)

announce_greets : (from : Rank) (view : View) (named : Bool) → is_greeting (announce_bytes (if named then 11 else 4) from view) ≡ true
announce_greets from view true = refl
announce_greets from view false = refl

greets : (me : ℕ) (said : Greeting) → is_greeting (packet_bytes (greeting_packet me said)) ≡ true
unfolding packet_bytes
greets me (greeting.Hello said standing) = refl
greets me (greeting.Announce view) = announce_greets (rank_of me) view (has_name view)

to_send_greets : (s : Settings) (me : ℕ) (maker : Option NamingMaker) (said : Greeting) (from : ℕ) → AllGreet (to_send s me maker said from)
to_send_greets s me maker said from =
    append_greet _ _ (each_greets _ _ (greets me said)) (follows said maker)
  where
    by_view : (view : Option View) → AllGreet (option_map_or (λ view. to_all s me (greeting.Announce view)) view [])
    by_view None = tt
    by_view (Some view) = each_greets _ _ (greets me (greeting.Announce view))

    follows : (said : Greeting) (maker : Option NamingMaker) → AllGreet (said_after s me maker said)
    follows (greeting.Hello said standing) maker = by_view (option_and_then view_announced maker)
    follows (greeting.Announce view) maker = tt

hellos_greet : (due : Bool) (s : Settings) (me : ℕ) (maker : Option NamingMaker) → AllGreet (hellos_where due s me maker)
hellos_greet due s me maker = by_first (first_greeting due maker)
  where
    by_first : (first : Option Greeting) → AllGreet (option_map_or (λ first. to_send s me maker first 0) first [])
    by_first None = tt
    by_first (Some first) = to_send_greets s me maker first 0

-- nothing was added
abbrev Same : {A : Type 0} → List Call → List Call → A → Type 0
Same done told value = told ≡ done

sends_told : (done : List Call) (sents : List Sent) → AllGreet sents → Telling (Same {A = Unit {0}} done) done (sends_plan sents)
unfolding sends_plan
sends_told done [] all = refl
sends_told done (sent ∷ sents) all = λ made asked fits.
    let none : is_output (call.Send sent.to (packet_bytes sent.packet) true) ≡ false = ap (λ (greets : Bool). not (greets || is_polling (packet_bytes sent.packet))) all.0 in
    subst (λ (d : List Call). Telling (Same {A = Unit {0}} done) d (sends_plan sents)) (sym (silent done made _ asked none)) (sends_told done sents all.1)

-- each output is a call that performs one
abbrev AllSpeak : Settings → ℕ → ℕ → List Out → Type 0
AllSpeak s me number [] = Unit {0}
AllSpeak s me number (o ∷ outs) = (is_output (out_call s me number o) ≡ true) × AllSpeak s me number outs

disk_speaks : (s : Settings) (me number : ℕ) (op : DiskOp) → is_output (disk_call s me number op) ≡ true
unfolding disk_call
disk_speaks s me number disk.ReadHeader = refl
disk_speaks s me number (disk.ReadSlot rank) = refl
disk_speaks s me number disk.CheckMail = refl
disk_speaks s me number disk.ReadMail = refl
disk_speaks s me number (disk.WriteClaim next) = refl
disk_speaks s me number (disk.WriteClose own) = refl
disk_speaks s me number disk.WriteClear = refl
disk_speaks s me number (disk.WriteReset rank) = refl

act_speaks : (s : Settings) (me number : ℕ) (o : Out) → is_act o ≡ true → is_output (out_call s me number o) ≡ true
unfolding out_call packet_bytes
act_speaks s me number out.Stop is = refl
act_speaks s me number out.Start is = refl
act_speaks s me number out.Feed is = refl
act_speaks s me number (out.Disk op) is = disk_speaks s me number op
act_speaks s me number (out.Send to (packet.Ask ask)) is = refl
act_speaks s me number (out.Send to (packet.Tell tell)) is = refl
act_speaks s me number (out.Send to (packet.Hello from)) is = absurd (cc)
act_speaks s me number (out.Send to (packet.Heard from said standing)) is = absurd (cc)
act_speaks s me number (out.Send to (packet.Announce from view)) is = absurd (cc)
act_speaks s me number (out.Send to (packet.Vote agrees)) is = absurd (cc)
act_speaks s me number out.Disarm is = absurd (cc)
act_speaks s me number (out.Halt kind) is = absurd (cc)

acts_speak : (s : Settings) (me number : ℕ) (outs : List Out) → list_all is_act outs ≡ true → AllSpeak s me number outs
acts_speak s me number [] all = tt
acts_speak s me number (o ∷ outs) all =
    let both = and_parts (is_act o) (list_all is_act outs) all in
    (act_speaks s me number o both.0, acts_speak s me number outs both.1)

come_speak : (s : Settings) (me number : ℕ) (entry : What) (outs : List Out) → Comes s entry outs → AllSpeak s me number outs
unfolding out_call
come_speak s me number entry _ (Halts cause is) = (refl, tt)
come_speak s me number entry _ (Dies deadly) = (refl, tt)
come_speak s me number entry _ Leaves = (refl, tt)
come_speak s me number entry _ (Acts outs all) = acts_speak s me number outs all

-- the calls of the outputs are added in order
abbrev Performed : List Call → RunState → List Call → RunState → Type 0
Performed target st told after = (told ≡ target) × (after.log ≡ st.log)

outs_told : (s : Settings) (me : ℕ) (st : RunState) (outs : List Out) (done target : List Call) → AllSpeak s me (own_number st.log) outs → target ≡ done ++ map (out_call s me (own_number st.log)) outs → Telling (Performed target st) done (outs_plan s me st outs)
unfolding outs_plan
outs_told s me st [] done target all is = (sym (is ∙ append-nil done), refl)
outs_told s me st (o ∷ outs) done target all is = λ made asked fits.
    let f = out_call s me (own_number st.log) in
    let adds : told_more done made ++ map f outs ≡ done ++ f o ∷ map f outs =
    ap (λ x. (done ++ x) ++ map f outs) (spoken made (f o) asked all.0) ∙ append_assoc done (f o ∷ []) (map f outs) in
    outs_told s me (noted s o made st) outs (told_more done made) target all.1 (is ∙ sym adds)

-- what was added up to the end of a turn are the outputs of the log
abbrev ToldTurn : Settings → ℕ → List Call → Turned → Type 0
ToldTurn s me told (Over end log) = told ≡ outputs_of s me log
ToldTurn s me told (Next next) = told ≡ outputs_of s me next.log

-- a poll is no output
poll_is_silent : (poll : Poll) → is_output (poll_call poll) ≡ false
unfolding poll_bytes
poll_is_silent poll = refl

poll_told : (done : List Call) (poll : Option Poll) → Telling (Same {A = Unit {0}} done) done (poll_plan poll)
poll_told done None = refl
poll_told done (Some poll) = λ made asked fits. silent done made (poll_call poll) asked (poll_is_silent poll)

greeted_told : (s : Settings) (me : ℕ) (entry : What) (st : RunState) (done : List Call) → done ≡ outputs_of s me st.log → Telling (ToldTurn s me) done (greeted s me entry st)
unfolding greeted
greeted_told s me entry st done is =
    let asked = asked_maker s me st in
    let sents = hellos_where (hello_greets s me st) s me asked.maker in
    let poll = poll_due s me (hello_greets s me st) entry asked in
    let next = polled s me (hello_greets s me st) entry asked in
    through_then AnyCall told_more (Same {A = Unit {0}} done) (ToldTurn s me) done (poll_plan poll) (λ told. sends_plan sents >>= (λ sent. Ends (Next next)))
    (poll_told done poll)
    (λ told nothing same.
    through_then AnyCall told_more (Same {A = Unit {0}} told) (ToldTurn s me) told (sends_plan sents) (λ sent. Ends (Next next))
    (sends_told told sents (hellos_greet (hello_greets s me st) s me asked.maker))
    (λ after sent kept. kept ∙ (same ∙ is)))

farewell_greets : (s : Settings) (me : ℕ) (view : Option View) → AllGreet (option_map_or (λ view. farewells s me view 0) view [])
farewell_greets s me None = tt
farewell_greets s me (Some view) = each_greets _ _ (greets me (greeting.Announce view))

parted_told : (s : Settings) (me : ℕ) (end : LiveEnd) (st : RunState) (done : List Call) → done ≡ outputs_of s me st.log → Telling (ToldTurn s me) done (parted s me end st)
unfolding parted
parted_told s me end st done is =
    let sents = option_map_or (λ view. farewells s me view 0) (farewell_after end st.maker) [] in
    through_then AnyCall told_more (Same {A = Unit {0}} done) (ToldTurn s me) done (sends_plan sents) (λ sent. Ends (Over end st.log))
    (sends_told done sents (farewell_greets s me (farewell_after end st.maker)))
    (λ told sent same. same ∙ is)

settled_told : (s : Settings) (me : ℕ) (entry : What) (outs : List Out) (st : RunState) (done : List Call) → done ≡ outputs_of s me st.log → Telling (ToldTurn s me) done (settled s me entry outs st)
unfolding settled
settled_told s me entry outs st done is =
    by_end (end_in entry outs)
  where
    by_end : (found : Option LiveEnd) → Telling (ToldTurn s me) done (option_map_or (λ end. parted s me end st) found (greeted s me entry st))
    by_end None = greeted_told s me entry st done is
    by_end (Some end) = parted_told s me end st done is

outputs_more : (s : Settings) (me : ℕ) (log : List Line) (entry : Entry) → outputs_of s me (with_entry s me log entry) ≡ outputs_of s me log ++ map (out_call s me (own_number (with_entry s me log entry))) (newest_outs (with_entry s me log entry))
unfolding with_entry
outputs_more s me log entry = refl

handled_told : (s : Settings) (me : ℕ) (st : RunState) (tick : ℕ) (found : Option NamingMaker × What) (done : List Call) → done ≡ outputs_of s me st.log → Telling (ToldTurn s me) done (handled s me st tick found)
unfolding handled
handled_told s me st tick found done is =
    let entry : Entry = record { tick = tick; what = found.1 } in
    let after = taken s me st tick found in
    let outs = newest_outs after.log in
    let target = outputs_of s me after.log in
    through_then AnyCall told_more (Performed target after) (ToldTurn s me) done (outs_plan s me after outs) (settled s me found.1 outs)
    (outs_told s me after outs done target
    (come_speak s me (own_number after.log) _ outs (entry_comes s me st.log entry))
    (outputs_more s me st.log entry ∙ ap (λ d. d ++ map (out_call s me (own_number after.log)) outs) (sym is)))
    (λ told end same. settled_told s me found.1 outs end told (same.0 ∙ ap (outputs_of s me) (sym same.1)))

clocked_told : (s : Settings) (me : ℕ) (chosen : Choice × RunState) (tick : ℕ) (done : List Call) → done ≡ outputs_of s me chosen.1.log → Telling (ToldTurn s me) done (clocked s me chosen tick)
unfolding clocked
clocked_told s me chosen tick done is =
    by_clock (nat_lt tick (now chosen.1.log))
  where
    by_clock : (back : Bool) → Telling (ToldTurn s me) done (if back then Ends (Over (end.ClockBack (now chosen.1.log) tick) chosen.1.log) else handled s me (looking tick (answered tick chosen)) tick (looked_at tick (answered tick chosen)))
    by_clock true = is
    by_clock false = handled_told s me (looking tick (answered tick chosen)) tick (looked_at tick (answered tick chosen)) done is

timed_told : (s : Settings) (me : ℕ) (chosen : Choice × RunState) (done : List Call) → done ≡ outputs_of s me chosen.1.log → Telling (ToldTurn s me) done (timed s me chosen)
timed_told s me chosen done is = λ made asked fits.
    clocked_told s me chosen (time_of made) (told_more done made) (silent done made (call.Now 0) asked refl ∙ is)

-- what a turn takes adds nothing, and leaves the log as it was
abbrev ChoiceTold : List Call → RunState → List Call → Choice × RunState → Type 0
ChoiceTold done st told chosen = (told ≡ done) × (chosen.1.log ≡ st.log)

choice_told : (me : ℕ) (leaves : Bool) (st : RunState) (done : List Call) → Telling (ChoiceTold done st) done (choice_plan me leaves st)
unfolding choice_plan
choice_told me leaves st done =
    by_ready (ready leaves st.rests st.waits)
  where
    by_late : (late : Bool) → Telling (ChoiceTold done st) done (open_plan me st late)
    by_late true = (refl, refl)
    by_late false = λ made asked fits. (silent done made _ asked refl, refl)

    by_ready : (found : Option (What × Waits)) → Telling (ChoiceTold done st) done (option_map_or (λ taken. Ends (choice.Whole taken.0, record st { waits = taken.1 })) found (open_plan me st (is_late st)))
    by_ready None = by_late (is_late st)
    by_ready (Some found) = (refl, refl)

turn_told : (s : Settings) (me : ℕ) (leave : Option ℕ) (turn : ℕ) (st : RunState) (done : List Call) → done ≡ outputs_of s me st.log → Telling (ToldTurn s me) done (turn_plan s me leave turn st)
turn_told s me leave turn st done is =
    through_then AnyCall told_more (ChoiceTold done st) (ToldTurn s me) done (choice_plan me (is_to_leave s leave turn st) st) (timed s me)
    (choice_told me (is_to_leave s leave turn st) st done)
    (λ told chosen same. timed_told s me chosen told (same.0 ∙ is ∙ ap (outputs_of s me) (sym same.1)))

-- the same at the end of the run
abbrev ToldRun : Settings → ℕ → List Call → Ran → Type 0
ToldRun s me told ran = told ≡ outputs_of s me ran.log

later_told : (s : Settings) (me : ℕ) (next : RunState → Plan Ran) → ((st : RunState) (done : List Call) → done ≡ outputs_of s me st.log → Telling (ToldRun s me) done (next st)) → (told : List Call) (turned : Turned) → ToldTurn s me told turned → Telling (ToldRun s me) told (later next turned)
later_told s me next goes_on told (Over end log) is = is
later_told s me next goes_on told (Next st) is = goes_on st told is

run_told : (s : Settings) (me : ℕ) (leave : Option ℕ) (turn more : ℕ) (st : RunState) (done : List Call) → done ≡ outputs_of s me st.log → Telling (ToldRun s me) done (run_plan s me leave turn more st)
unfolding run_plan
run_told s me leave turn zero st done is = is
run_told s me leave turn (suc more) st done is =
    through_then AnyCall told_more (ToldTurn s me) (ToldRun s me) done (turn_plan s me leave turn st) (later (run_plan s me leave (turn + 1) more))
    (turn_told s me leave turn st done is)
    (later_told s me (run_plan s me leave (turn + 1) more) (λ next told same. run_told s me leave (turn + 1) more next told same))

live_told : (s : Settings) (me : ℕ) (clean : Bool) (leave polls : Option ℕ) (turns : ℕ) → Telling (ToldRun s me) [] (live_plan s me clean leave polls turns)
unfolding live_plan
live_told s me clean leave polls turns =
    through_then AnyCall told_more (ToldTurn s me) (ToldRun s me) [] (timed s me (choice.Whole (begin_of clean), first_state polls)) (later (run_plan s me leave 2 (turns - 1)))
    (timed_told s me (choice.Whole (begin_of clean), first_state polls) [] refl)
    (later_told s me (run_plan s me leave 2 (turns - 1)) (λ next told same. run_told s me leave 2 (turns - 1) next told same))

all_any : (done : List Call) (calls : List Call) → AllFit AnyCall told_more done calls
all_any done [] = tt
all_any done (made ∷ calls) = (tt, all_any (told_more done made) calls)

after_among : (done calls : List Call) → after_all told_more done calls ≡ done ++ outputs_among calls
after_among done [] = sym (append-nil done)
after_among done (made ∷ calls) =
    after_among (told_more done made) calls ∙ append_assoc done (if_output made) (outputs_among calls)

pub outputs_in_order : (s : Settings) (me : ℕ) (clean : Bool) (leave polls : Option ℕ) (turns : ℕ) (calls : List Call) (ran : Ran) → Follows (live_plan s me clean leave polls turns) calls ran → outputs_among calls ≡ outputs_of s me ran.log
outputs_in_order s me clean leave polls turns calls ran follows =
    sym (after_among [] calls)
    ∙ through_follows AnyCall told_more (ToldRun s me) [] (live_plan s me clean leave polls turns) calls ran (live_told s me clean leave polls turns) (all_any [] calls) follows

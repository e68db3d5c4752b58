-- What a run hands its node begins once, and its ticks are what the clock told.
use Rattle.std.proofs.Common.{◌≡◌, ◌≤◌, ◌<◌, ℕ, suc, zero, Bool, true, false, ◌+◌, ◌-◌, List, [], ◌∷◌, ◌++◌, Option, None, Some, IfSome, if◌then◌else◌, refl, sym, ap, subst, ◌∙◌, append_assoc, arith}
use Rattle.std.specs.Prelude.{nat_lt, option_and_then}
use Rattle.std.specs.Option.{option_map_or}
use Rattle.std.proofs.lemmas.Bool.Decides.{nat_tests}
use Rattle.std.proofs.lemmas.List.{append-nil, map-append}
use Rattle.std.proofs.lemmas.List.Folds.{list_any-append}
use Rattle.qn_base.specs.declared.calls.Call.{Call}
use Rattle.qn_base.specs.declared.calls.Call.TheVariants as call
use Rattle.qn_base.specs.declared.calls.Received.TheVariants as received
use Rattle.qn_base.specs.declared.ids.View.{View}
use Rattle.qn_base.specs.Calls.{blank, is_failed}
use Rattle.qn_base.specs.Plans.{Plan, Ends, Asks, ◌>>=◌, Follows}
use Rattle.qn_io.specs.Answered.{bytes_read, received_in, time_of}
use Rattle.qn_member.specs.Naming.{NamingMaker}
use Rattle.qn_member.specs.NamingViews.{answer_at}
use Rattle.qn_model.specs.declared.configuration.Settings.{Settings}
use Rattle.qn_model.specs.declared.entries.Entry.{Entry}
use Rattle.qn_model.specs.declared.entries.What.{What}
use Rattle.qn_model.specs.declared.outputs.DiskOp.{DiskOp}
use Rattle.qn_model.specs.declared.outputs.DiskOp.TheVariants as disk
use Rattle.qn_model.specs.declared.outputs.HaltKind.TheVariants as halt
use Rattle.qn_model.specs.declared.outputs.Out.{Out}
use Rattle.qn_model.specs.declared.outputs.Out.TheVariants as out
use Rattle.qn_model.specs.declared.packets.Packet.{Packet}
use Rattle.qn_model.specs.declared.packets.Packet.TheVariants as packet
use Rattle.qn_model.specs.declared.packets.Sent.{Sent}
use Rattle.qn_model.specs.Log.{Line, now}
use Rattle.qn_model.specs.Moments.{begin_of}
use Rattle.qn_model.specs.NodeOutputs.{is_begin, log_from, log_of, newest_outs, with_entry}
use Rattle.qn_model.specs.Steps.{entry_of}
use Rattle.qn_model.specs.World.{failed}
use Rattle.qn_model.specs.lemmas.Logs.{log_from-more}
use Rattle.qn_wire.specs.Packets.{packet_bytes}
use Rattle.qn_live.specs.declared.live_end.LiveEnd.{LiveEnd}
use Rattle.qn_live.specs.declared.live_end.LiveEnd.TheVariants as end
use Rattle.qn_live.specs.declared.place.Choice.{Choice}
use Rattle.qn_live.specs.declared.place.Choice.TheVariants as choice
use Rattle.qn_live.specs.declared.place.Waits.{Waits}
use Rattle.qn_live.specs.Choosing.{choice_of, choice_plan, is_entry_for, is_late, is_to_leave, looked, looking, open_plan, own_of, packet_in, ready, told, view_or_tick}
use Rattle.qn_live.specs.Greetings.{farewell_after, farewells, hellos_where, sends_plan}
use Rattle.qn_live.specs.Handed.{BeginsOnce, HandsHistory, RisesFrom, begins_boot, look_in, looks_in, ticks_of, went_back}
use Rattle.qn_live.specs.Performing.{disk_answer, disk_call, done, end_in, noted, out_call, outs_plan, own_number, waits_after}
use Rattle.qn_base.specs.declared.calls.Received.{Received}
use Rattle.qn_safety.specs.declared.polls.Poll.{Poll}
use Rattle.qn_safety.specs.declared.polls.Reply.{Reply}
use Rattle.qn_safety.specs.Poller.{Poller, answer_taken}
use Rattle.qn_live.specs.Polling.{answered, answered_at, choice_beside, is_device, is_reply_for, poll_call, poll_due, poll_plan, polled, reply_in}
use Rattle.qn_model.specs.declared.entries.What.TheVariants as what
use Rattle.qn_live.specs.Choosing.{choice_in}
use Rattle.qn_live.specs.declared.words.Own.{Own}
use Rattle.qn_live.specs.Running.{RunState, Turned, Over, Next, Ran, first_state, later}
use Rattle.qn_live.specs.Runs.{asked_maker, greets as hello_greets, clocked, greeted, handled, live_plan, looked_at, parted, run_plan, settled, taken, timed, turn_plan, turns_end}

-- ## What the clock told in the calls of a plan

-- after calls in which the clock told this, the plan ends with a value of which P holds
abbrev Told : {A : Type 0} → (List ℕ → A → Type 0) → List ℕ → Plan A → Type 0
Told P looks (Ends value) = P looks value
Told P looks (Asks question left) = (call : Call) → blank call ≡ question → Told P (looks ++ look_in call) (left call)

told_then : {A B : Type 0} (P : List ℕ → A → Type 0) (Q : List ℕ → B → Type 0) (looks : List ℕ) (plan : Plan A) (next : A → Plan B)
    → Told P looks plan → ((after : List ℕ) (value : A) → P after value → Told Q after (next value)) → Told Q looks (plan >>= next)
told_then P Q looks (Ends value) next told goes_on = goes_on looks value told
told_then P Q looks (Asks question left) next told goes_on =
    λ call asked. told_then P Q (looks ++ look_in call) (left call) next (told call asked) goes_on

told_end : {A : Type 0} (P : List ℕ → A → Type 0) (looks : List ℕ) (plan : Plan A) (calls : List Call) (value : A)
    → Told P looks plan → Follows plan calls value → P (looks ++ looks_in calls) value
told_end {A} P looks (Ends end) calls value told follows =
    rw follows.0 (rw (append-nil looks) (subst (λ (v : A). P looks v) (sym follows.1) told))
told_end P looks (Asks question left) [] value told follows = absurd follows
told_end P looks (Asks question left) (call ∷ calls) value told follows =
    subst (λ (l : List ℕ). P l value) (append_assoc looks (look_in call) (looks_in calls))
    (told_end P (looks ++ look_in call) (left call) calls value (told call follows.0) follows.1)

-- a call asks for the time
abbrev asks_time : Call → Bool
asks_time (call.Now tick) = true
asks_time (call.OpenImage path ok) = false
asks_time (call.OpenNode images image watchdog resource port rank ok) = false
asks_time (call.Receive got) = false
asks_time (call.Read sector bytes ok) = false
asks_time (call.Write sector bytes ok) = false
asks_time (call.Feed ok) = false
asks_time (call.Start ok) = false
asks_time (call.Stop ok) = false
asks_time (call.Send to bytes ok) = false
asks_time (call.Disarm ok) = false
asks_time (call.Halt code) = false

untold : (c : Call) → asks_time (blank c) ≡ false → look_in c ≡ []
untold (call.Now tick) is = cc
untold (call.OpenImage path ok) is = refl
untold (call.OpenNode images image watchdog resource port rank ok) is = refl
untold (call.Receive got) is = refl
untold (call.Read sector bytes ok) is = refl
untold (call.Write sector bytes ok) is = refl
untold (call.Feed ok) is = refl
untold (call.Start ok) is = refl
untold (call.Stop ok) is = refl
untold (call.Send to bytes ok) is = refl
untold (call.Disarm ok) is = refl
untold (call.Halt code) is = refl

-- a call that asks for something else tells nothing of the clock
quiet : (looks : List ℕ) (c question : Call) → blank c ≡ question → asks_time question ≡ false → looks ++ look_in c ≡ looks
quiet looks c question asked other = ap (λ l. looks ++ l) (untold c (ap asks_time asked ∙ other)) ∙ append-nil looks

disk_silent : (s : Settings) (me number : ℕ) (op : DiskOp) → asks_time (disk_call s me number op) ≡ false
unfolding disk_call
disk_silent s me number disk.ReadHeader = refl
disk_silent s me number (disk.ReadSlot rank) = refl
disk_silent s me number disk.CheckMail = refl
disk_silent s me number disk.ReadMail = refl
disk_silent s me number (disk.WriteClaim next) = refl
disk_silent s me number (disk.WriteClose own) = refl
disk_silent s me number disk.WriteClear = refl
disk_silent s me number (disk.WriteReset rank) = refl

out_silent : (s : Settings) (me number : ℕ) (o : Out) → asks_time (out_call s me number o) ≡ false
unfolding out_call
out_silent s me number out.Stop = refl
out_silent s me number out.Start = refl
out_silent s me number out.Feed = refl
out_silent s me number (out.Send to packet) = refl
out_silent s me number (out.Disk op) = disk_silent s me number op
out_silent s me number out.Disarm = refl
out_silent s me number (out.Halt kind) = refl

-- ## Entries that begin no boot

abbrev NoBegin : Option What → Type 0
NoBegin None = Unit {0}
NoBegin (Some entry) = is_begin entry ≡ false

failed_begins_none : (op : DiskOp) → is_begin (failed op) ≡ false
unfolding failed
failed_begins_none disk.ReadHeader = refl
failed_begins_none (disk.ReadSlot rank) = refl
failed_begins_none disk.CheckMail = refl
failed_begins_none disk.ReadMail = refl
failed_begins_none (disk.WriteClaim next) = refl
failed_begins_none (disk.WriteClose own) = refl
failed_begins_none disk.WriteClear = refl
failed_begins_none (disk.WriteReset rank) = refl

done_begins_none : (s : Settings) (op : DiskOp) (bytes : List ℕ) → is_begin (done s op bytes) ≡ false
unfolding done
done_begins_none s disk.ReadHeader bytes = refl
done_begins_none s (disk.ReadSlot rank) bytes = refl
done_begins_none s disk.CheckMail bytes = refl
done_begins_none s disk.ReadMail bytes = refl
done_begins_none s (disk.WriteClaim next) bytes = refl
done_begins_none s (disk.WriteClose own) bytes = refl
done_begins_none s disk.WriteClear bytes = refl
done_begins_none s (disk.WriteReset rank) bytes = refl

answer_begins_none : (s : Settings) (op : DiskOp) (c : Call) → is_begin (disk_answer s op c) ≡ false
answer_begins_none s op c = of_test (is_failed c)
  where
    of_test : (failing : Bool) → is_begin (if failing then failed op else done s op (bytes_read c)) ≡ false
    of_test true = failed_begins_none op
    of_test false = done_begins_none s op (bytes_read c)

noted_waits : (s : Settings) (o : Out) (c : Call) (waits : Waits) → NoBegin waits.disk → NoBegin (waits_after s o c waits).disk
unfolding waits_after
noted_waits s out.Stop c waits none = none
noted_waits s out.Start c waits none = none
noted_waits s out.Feed c waits none = none
noted_waits s (out.Send to packet) c waits none = none
noted_waits s (out.Disk op) c waits none = answer_begins_none s op c
noted_waits s out.Disarm c waits none = none
noted_waits s (out.Halt kind) c waits none = none

abbrev NoBeginIn : Choice → Type 0
NoBeginIn (choice.Whole entry) = is_begin entry ≡ false
NoBeginIn (choice.Open p) = Unit {0}
NoBeginIn (choice.Answer reply) = Unit {0}

look_begins_none : (seen : Option View) → is_begin (view_or_tick seen) ≡ false
look_begins_none None = refl
look_begins_none (Some own) = refl

looked_begins_none : (tick : ℕ) (own : Own) (chosen : Choice) (maker : Option NamingMaker) → NoBeginIn chosen → is_begin (looked tick own chosen maker).1 ≡ false
looked_begins_none tick own (choice.Whole entry) maker none = none
looked_begins_none tick own (choice.Open p) None none = refl
looked_begins_none tick own (choice.Answer reply) maker none = refl
looked_begins_none tick own (choice.Open p) (Some m) none = look_begins_none (answer_at tick (told tick own p m))

packet_begins_none : (p : Packet) → is_begin (entry_of p) ≡ false
packet_begins_none (packet.Ask ask) = refl
packet_begins_none (packet.Tell tell) = refl
packet_begins_none (packet.Hello from) = refl
packet_begins_none (packet.Heard from said standing) = refl
packet_begins_none (packet.Announce from view) = refl
packet_begins_none (packet.Vote agrees) = refl

choice_begins_none : (me : ℕ) (p : Option Packet) → NoBeginIn (choice_of me p)
choice_begins_none me None = tt
choice_begins_none me (Some p) = of_test (is_entry_for me p)
  where
    of_test : (own : Bool) → NoBeginIn (if own then choice.Whole (entry_of p) else choice.Open (Some p))
    of_test true = packet_begins_none p
    of_test false = tt

-- an answer of the device begins nothing
answer_of_begins_none : (answer : Option Bool) → NoBeginIn (option_map_or (λ agrees. choice.Whole (what.Device agrees)) answer (choice.Open None))
answer_of_begins_none None = tt
answer_of_begins_none (Some agrees) = refl

answered_begins_none : (tick : ℕ) (poller : Option Poller) (chosen : Choice) → NoBeginIn chosen → NoBeginIn (answered_at tick poller chosen)
answered_begins_none tick poller (choice.Whole entry) none = none
answered_begins_none tick poller (choice.Open p) none = tt
answered_begins_none tick poller (choice.Answer reply) none = answer_of_begins_none (option_and_then (answer_taken tick reply) poller)

beside_begins_none : (me : ℕ) (reply : Option Reply) (before : Choice) → NoBeginIn before → NoBeginIn (choice_beside me reply before)
beside_begins_none me (Some reply) before none = of_test (is_reply_for me reply)
  where
    of_test : (own : Bool) → NoBeginIn (if own then choice.Answer reply else choice.Open None)
    of_test true = tt
    of_test false = tt
beside_begins_none me None (choice.Whole entry) none = of_test (is_device entry)
  where
    of_test : (device : Bool) → NoBeginIn (if device then choice.Open None else choice.Whole entry)
    of_test true = tt
    of_test false = none
beside_begins_none me None (choice.Open p) none = tt
beside_begins_none me None (choice.Answer reply) none = tt

choice_in_begins_none : (me : ℕ) (poller : Option Poller) (got : Received) → NoBeginIn (choice_in me poller got)
choice_in_begins_none me None got = choice_begins_none me (packet_in got)
choice_in_begins_none me (Some poller) got = beside_begins_none me (reply_in got) (choice_of me (packet_in got)) (choice_begins_none me (packet_in got))

ready_begins_none : (leaves rests : Bool) (stopped : Option Bool) (disk : Option What) → NoBegin disk
    → IfSome (ready leaves rests (record { stopped = stopped; disk = disk })) (λ found. (is_begin found.0 ≡ false) × NoBegin found.1.disk)
ready_begins_none leaves rests (Some ok) disk none = (refl, none)
ready_begins_none true false None None none = (refl, none)
ready_begins_none false false None None none = tt
ready_begins_none leaves false None (Some entry) none = (none, tt)
ready_begins_none true true None disk none = (refl, none)
ready_begins_none false true None disk none = tt

-- only a look at the clock ends a run because it went back
ends_forward : (entry : What) (outs : List Out) → IfSome (end_in entry outs) (λ end. went_back end ≡ [])
ends_forward entry [] = tt
ends_forward entry (out.Halt (halt.Deadly message) ∷ outs) = refl
ends_forward entry (out.Halt (halt.Boot why) ∷ outs) = refl
ends_forward entry (out.Disarm ∷ outs) = refl
ends_forward entry (out.Stop ∷ outs) = ends_forward entry outs
ends_forward entry (out.Start ∷ outs) = ends_forward entry outs
ends_forward entry (out.Feed ∷ outs) = ends_forward entry outs
ends_forward entry (out.Send to packet ∷ outs) = ends_forward entry outs
ends_forward entry (out.Disk op ∷ outs) = ends_forward entry outs

-- ## One entry more

-- the tick of the last of some entries
abbrev last_tick : ℕ → List Entry → ℕ
last_tick last [] = last
last_tick last (entry ∷ history) = last_tick entry.tick history

rises_more : (last : ℕ) (history : List Entry) (entry : Entry) → RisesFrom last history → last_tick last history ≤ entry.tick
    → RisesFrom last (history ++ entry ∷ [])
rises_more last [] entry rises later = (later, tt)
rises_more last (first ∷ history) entry rises later = (rises.0, rises_more first.tick history entry rises.1 later)

last_more : (last : ℕ) (history : List Entry) (entry : Entry) → last_tick last (history ++ entry ∷ []) ≡ entry.tick
last_more last [] entry = refl
last_more last (first ∷ history) entry = last_more first.tick history entry

begins_more : (clean : Bool) (history : List Entry) (entry : Entry) → BeginsOnce clean history → begins_boot entry ≡ false
    → last_tick 0 history ≤ entry.tick → BeginsOnce clean (history ++ entry ∷ [])
begins_more clean history entry is none later = record {
  first = is.first;
  later = is.later ++ entry ∷ [];
  parts = ap (λ h. h ++ entry ∷ []) is.parts;
  begins = is.begins;
  once = list_any-append begins_boot is.later (entry ∷ []) ∙ rw (is.once, none) refl;
  rises = rises_more 0 history entry is.rises later;
}

module _ (s : Settings) (me : ℕ) (clean : Bool) where
  -- the log is that of entries that are a history so far, and whose ticks are these
  record Handed (looks : List ℕ) (log : List Line) : Type 0 where
    history : List Entry
    is_log : log ≡ log_of s me history
    begins : BeginsOnce clean history
    last : last_tick 0 history ≡ now log
    ticks : ticks_of history ≡ looks

  now_newest : (past : List Line) (entry : Entry) → now (with_entry s me past entry) ≡ entry.tick
  unfolding with_entry
  now_newest past entry = refl

  handed_more : (looks : List ℕ) (log : List Line) (entry : Entry) → Handed looks log → begins_boot entry ≡ false → now log ≤ entry.tick
      → Handed (looks ++ entry.tick ∷ []) (with_entry s me log entry)
  handed_more looks log entry is none on = record {
    history = is.history ++ entry ∷ [];
    is_log = ap (λ l. with_entry s me l entry) is.is_log ∙ sym (log_from-more s me [] is.history entry);
    begins = begins_more clean is.history entry is.begins none (subst (λ n. n ≤ entry.tick) (sym is.last) on);
    last = last_more 0 is.history entry ∙ sym (now_newest log entry);
    ticks = map-append (λ e. e.tick) is.history (entry ∷ []) ∙ ap (λ l. l ++ entry.tick ∷ []) is.ticks;
  }

  handed_first : (tick : ℕ) → Handed (tick ∷ []) (with_entry s me [] (record { tick = tick; what = begin_of clean }))
  unfolding with_entry log_from
  handed_first tick = record {
    history = record { tick = tick; what = begin_of clean } ∷ [];
    is_log = refl;
    begins = record {
      first = record { tick = tick; what = begin_of clean };
      later = [];
      parts = refl;
      begins = refl;
      once = refl;
      rises = (omega arith, tt);
    };
    last = refl;
    ticks = refl;
  }

  -- a run that is over: the clock told the ticks of its history, and then that it went back, where that ended it
  record EndedSo (looks : List ℕ) (end : LiveEnd) (log : List Line) : Type 0 where
    history : List Entry
    is_log : log ≡ log_of s me history
    begins : BeginsOnce clean history
    told : looks ≡ ticks_of history ++ went_back end

  ended_forward : (looks : List ℕ) (end : LiveEnd) (log : List Line) → Handed looks log → went_back end ≡ [] → EndedSo looks end log
  ended_forward looks end log is forward = record {
    history = is.history;
    is_log = is.is_log;
    begins = is.begins;
    told = sym is.ticks ∙ sym (append-nil (ticks_of is.history)) ∙ ap (λ l. ticks_of is.history ++ l) (sym forward);
  }

  ended_back : (looks : List ℕ) (tick : ℕ) (log : List Line) → Handed looks log → EndedSo (looks ++ tick ∷ []) (end.ClockBack (now log) tick) log
  ended_back looks tick log is = record {
    history = is.history;
    is_log = is.is_log;
    begins = is.begins;
    told = ap (λ l. l ++ tick ∷ []) (sym is.ticks);
  }

  -- ## One turn

  abbrev Turns : List ℕ → Turned → Type 0
  Turns looks (Over end log) = EndedSo looks end log
  Turns looks (Next st) = Handed looks st.log × NoBegin st.waits.disk

  abbrev Nothing : List ℕ → List ℕ → Unit {0} → Type 0
  Nothing looks after sent = after ≡ looks

  told_sends : (looks : List ℕ) (sents : List Sent) → Told (Nothing looks) looks (sends_plan sents)
  unfolding sends_plan
  told_sends looks [] = refl
  told_sends looks (sent ∷ sents) =
      λ c asked. subst (λ l. Told (Nothing looks) l (sends_plan sents)) (sym (quiet looks c (call.Send sent.to (packet_bytes sent.packet) true) asked refl)) (told_sends looks sents)

  -- the outputs of an entry were performed
  abbrev Performed : List ℕ → List Line → List ℕ → RunState → Type 0
  Performed looks log after st = (after ≡ looks) × (st.log ≡ log) × NoBegin st.waits.disk

  told_outs : (looks : List ℕ) (st : RunState) (outs : List Out) → NoBegin st.waits.disk → Told (Performed looks st.log) looks (outs_plan s me st outs)
  unfolding outs_plan
  told_outs looks st [] none = (refl, refl, none)
  told_outs looks st (o ∷ outs) none =
      λ c asked. subst (λ l. Told (Performed looks st.log) l (outs_plan s me (noted s o c st) outs))
      (sym (quiet looks c (out_call s me (own_number st.log) o) asked (out_silent s me (own_number st.log) o)))
      (told_outs looks (noted s o c st) outs (noted_waits s o c st.waits none))

  told_poll : (looks : List ℕ) (poll : Option Poll) → Told (Nothing looks) looks (poll_plan poll)
  told_poll looks None = refl
  told_poll looks (Some poll) = λ c asked. quiet looks c (poll_call poll) asked refl

  told_greeted : (looks : List ℕ) (entry : What) (st : RunState) → Handed looks st.log → NoBegin st.waits.disk → Told Turns looks (greeted s me entry st)
  unfolding greeted
  told_greeted looks entry st is none =
      let asked = asked_maker s me st in
      let sents = hellos_where (hello_greets s me st) s me asked.maker in
      let poll = poll_due s me (hello_greets s me st) entry asked in
      let next = polled s me (hello_greets s me st) entry asked in
      told_then (Nothing looks) Turns looks (poll_plan poll) (λ told. sends_plan sents >>= (λ sent. Ends (Next next))) (told_poll looks poll)
      (λ after told same. told_then (Nothing after) Turns after (sends_plan sents) (λ sent. Ends (Next next)) (told_sends after sents)
      (λ last sent kept. (subst (λ l. Handed l st.log) (sym (kept ∙ same)) is, none)))

  told_parted : (looks : List ℕ) (end : LiveEnd) (st : RunState) → Handed looks st.log → went_back end ≡ [] → Told Turns looks (parted s me end st)
  unfolding parted
  told_parted looks end st is forward =
      let sents = option_map_or (λ view. farewells s me view 0) (farewell_after end st.maker) [] in
      told_then (Nothing looks) Turns looks (sends_plan sents) (λ sent. Ends (Over end st.log)) (told_sends looks sents)
      (λ after sent same. subst (λ (l : List ℕ). Turns l (Over end st.log)) (sym same) (ended_forward looks end st.log is forward))

  told_settled : (looks : List ℕ) (entry : What) (outs : List Out) (st : RunState) → Handed looks st.log → NoBegin st.waits.disk
      → Told Turns looks (settled s me entry outs st)
  unfolding settled
  told_settled looks entry outs st is none = of_end (end_in entry outs) (ends_forward entry outs)
    where
      of_end : (found : Option LiveEnd) → IfSome found (λ end. went_back end ≡ [])
          → Told Turns looks (option_map_or (λ end. parted s me end st) found (greeted s me entry st))
      of_end None forward = told_greeted looks entry st is none
      of_end (Some end) forward = told_parted looks end st is forward

  told_handled : (looks : List ℕ) (st : RunState) (tick : ℕ) (found : Option NamingMaker × What)
      → Handed looks (with_entry s me st.log (record { tick = tick; what = found.1 })) → NoBegin st.waits.disk
      → Told Turns looks (handled s me st tick found)
  unfolding handled
  told_handled looks st tick found is none =
      let after = taken s me st tick found in
      told_then (Performed looks after.log) Turns looks (outs_plan s me after (newest_outs after.log)) (settled s me found.1 (newest_outs after.log))
      (told_outs looks after (newest_outs after.log) none)
      (λ l done kept. subst (λ x. Told Turns x (settled s me found.1 (newest_outs after.log) done)) (sym kept.0)
      (told_settled looks found.1 (newest_outs after.log) done (subst (λ log. Handed looks log) (sym kept.1) is) kept.2))

  told_clocked : (looks : List ℕ) (chosen : Choice × RunState) (tick : ℕ) → Handed looks chosen.1.log → NoBeginIn chosen.0 → NoBegin chosen.1.waits.disk
      → Told Turns (looks ++ tick ∷ []) (clocked s me chosen tick)
  unfolding clocked
  told_clocked looks chosen tick is entry none = of_test (nat_lt tick (now chosen.1.log)) refl
    where
      of_test : (back : Bool) → nat_lt tick (now chosen.1.log) ≡ back
          → Told Turns (looks ++ tick ∷ []) (if back then Ends (Over (end.ClockBack (now chosen.1.log) tick) chosen.1.log)
          else handled s me (looking tick (answered tick chosen)) tick (looked_at tick (answered tick chosen)))
      of_test true back = ended_back looks tick chosen.1.log is
      of_test false onward =
          let later : now chosen.1.log ≤ tick = grind (arith, nat_tests) in
          let found = looked_at tick (answered tick chosen) in
          told_handled (looks ++ tick ∷ []) (looking tick (answered tick chosen)) tick found
          (handed_more looks chosen.1.log (record { tick = tick; what = found.1 }) is (looked_begins_none tick (own_of (looking tick (answered tick chosen))) (answered tick chosen).0 chosen.1.maker (answered_begins_none tick chosen.1.poller chosen.0 entry)) later) none

  told_first : (polls : Option ℕ) (tick : ℕ) → Told Turns (tick ∷ []) (clocked s me (choice.Whole (begin_of clean), first_state polls) tick)
  unfolding clocked
  told_first polls tick = of_test (nat_lt tick 0) refl
    where
      of_test : (back : Bool) → nat_lt tick 0 ≡ back
          → Told Turns (tick ∷ []) (if back then Ends (Over (end.ClockBack 0 tick) []) else handled s me (record (first_state polls) { last_look = tick }) tick (None, begin_of clean))
      of_test true back = absurd (let below : tick < 0 = grind (arith, nat_tests) in omega (arith, below))
      of_test false onward = told_handled (tick ∷ []) (record (first_state polls) { last_look = tick }) tick (None, begin_of clean) (handed_first tick) tt

  -- the look at the clock that a turn takes
  told_timed : (looks : List ℕ) (chosen : Choice × RunState)
      → ((tick : ℕ) → Told Turns (looks ++ tick ∷ []) (clocked s me chosen tick)) → Told Turns looks (timed s me chosen)
  told_timed looks chosen at = of_call
    where
      of_call : (c : Call) → blank c ≡ call.Now 0 → Told Turns (looks ++ look_in c) (clocked s me chosen (time_of c))
      of_call (call.Now tick) asked = at tick
      of_call (call.OpenImage path ok) asked = absurd cc
      of_call (call.OpenNode images image watchdog resource port rank ok) asked = absurd cc
      of_call (call.Receive got) asked = absurd cc
      of_call (call.Read sector bytes ok) asked = absurd cc
      of_call (call.Write sector bytes ok) asked = absurd cc
      of_call (call.Feed ok) asked = absurd cc
      of_call (call.Start ok) asked = absurd cc
      of_call (call.Stop ok) asked = absurd cc
      of_call (call.Send to bytes ok) asked = absurd cc
      of_call (call.Disarm ok) asked = absurd cc
      of_call (call.Halt code) asked = absurd cc

  -- what a turn takes
  abbrev Chosen : List ℕ → Choice × RunState → Type 0
  Chosen looks chosen = Handed looks chosen.1.log × NoBeginIn chosen.0 × NoBegin chosen.1.waits.disk

  told_choice : (looks : List ℕ) (leaves : Bool) (st : RunState) → Handed looks st.log → NoBegin st.waits.disk
      → Told Chosen looks (choice_plan me leaves st)
  unfolding choice_plan
  told_choice looks leaves st is none =
      of_ready (ready leaves st.rests st.waits) (ready_begins_none leaves st.rests st.waits.stopped st.waits.disk none)
    where
      of_late : (late : Bool) → Told Chosen looks (open_plan me st late)
      of_late true = (is, tt, none)
      of_late false =
          λ c asked. (
            subst (λ l. Handed l st.log) (sym (quiet looks c (call.Receive received.Nothing) asked refl)) is,
            choice_in_begins_none me st.poller (received_in c),
            none,
          )

      of_ready : (found : Option (What × Waits)) → IfSome found (λ f. (is_begin f.0 ≡ false) × NoBegin f.1.disk)
          → Told Chosen looks (option_map_or (λ f. Ends (choice.Whole f.0, record st { waits = f.1 })) found
          (open_plan me st (is_late st)))
      of_ready (Some f) known = (is, known.0, known.1)
      of_ready None nothing = of_late (is_late st)

  told_turn : (looks : List ℕ) (leave : Option ℕ) (turn : ℕ) (st : RunState) → Handed looks st.log → NoBegin st.waits.disk
      → Told Turns looks (turn_plan s me leave turn st)
  told_turn looks leave turn st is none =
      told_then Chosen Turns looks (choice_plan me (is_to_leave s leave turn st) st) (timed s me) (told_choice looks (is_to_leave s leave turn st) st is none)
      (λ after chosen known. told_timed after chosen (λ tick. told_clocked after chosen tick known.0 known.1 known.2))

  -- ## The whole run

  abbrev Ended : List ℕ → Ran → Type 0
  Ended looks ran = EndedSo looks ran.end ran.log

  told_later : (next : RunState → Plan Ran)
      → ((looks : List ℕ) (st : RunState) → Handed looks st.log → NoBegin st.waits.disk → Told Ended looks (next st))
      → (looks : List ℕ) (turned : Turned) → Turns looks turned → Told Ended looks (later next turned)
  told_later next goes_on looks (Over end log) known = known
  told_later next goes_on looks (Next st) known = goes_on looks st known.0 known.1

  told_run : (leave : Option ℕ) (more turn : ℕ) (looks : List ℕ) (st : RunState) → Handed looks st.log → NoBegin st.waits.disk
      → Told Ended looks (run_plan s me leave turn more st)
  unfolding run_plan
  told_run leave zero turn looks st is none = ended_forward looks (turns_end s me st.log) st.log is refl
  told_run leave (suc more) turn looks st is none =
      told_then Turns Ended looks (turn_plan s me leave turn st) (later (run_plan s me leave (turn + 1) more)) (told_turn looks leave turn st is none)
      (told_later (run_plan s me leave (turn + 1) more) (told_run leave more (turn + 1)))

  told_live : (leave polls : Option ℕ) (turns : ℕ) → Told Ended [] (live_plan s me clean leave polls turns)
  unfolding live_plan
  told_live leave polls turns =
      told_then Turns Ended [] (timed s me (choice.Whole (begin_of clean), first_state polls)) (later (run_plan s me leave 2 (turns - 1)))
      (told_timed [] (choice.Whole (begin_of clean), first_state polls) (told_first polls))
      (told_later (run_plan s me leave 2 (turns - 1)) (told_run leave (turns - 1) 2))

  pub hands_history : (leave polls : Option ℕ) (turns : ℕ) (calls : List Call) (ran : Ran) → Follows (live_plan s me clean leave polls turns) calls ran
      → HandsHistory s me clean calls ran
  hands_history leave polls turns calls ran follows =
      let ended = told_end Ended [] (live_plan s me clean leave polls turns) calls ran (told_live leave polls turns) follows in
      record { history = ended.history; log = ended.is_log; begins = ended.begins; looks = ended.told }

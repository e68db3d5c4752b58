-- From call to call: a running node works with the loop's time of the image, once it has read its header.
use Rattle.std.proofs.Common.{◌≡◌, ◌⊎◌, inl, inr, ℕ, suc, zero, Bool, true, false, List, [], ◌∷◌, Option, None, Some, if◌then◌else◌, refl, sym, ◌∙◌, ap}
use Rattle.std.specs.Prelude.{nat_lt, option_and_then, IfSome, length}
use Rattle.std.specs.Option.{option_map_or}
use Rattle.std.proofs.lemmas.Bool.{false≢true}
use Rattle.std.proofs.lemmas.Option.{none-some, same_Some}
use Rattle.qn_base.specs.declared.calls.Call.{Call}
use Rattle.qn_base.specs.declared.calls.Call.TheVariants as call
use Rattle.qn_base.specs.declared.calls.Received.{Received}
use Rattle.qn_base.specs.declared.ids.View.{View}
use Rattle.qn_base.specs.Calls.{blank, is_failed}
use Rattle.qn_base.specs.Plans.{question}
use Rattle.qn_io.specs.Answered.{bytes_read, received_in, time_of}
use Rattle.qn_model.specs.declared.configuration.Settings.{Settings}
use Rattle.qn_model.specs.declared.entries.What.{What}
use Rattle.qn_model.specs.declared.entries.What.TheVariants as what
use Rattle.qn_model.specs.declared.outputs.DiskOp.{DiskOp}
use Rattle.qn_model.specs.declared.outputs.DiskOp.TheVariants as disk
use Rattle.qn_model.specs.declared.outputs.Out.{Out}
use Rattle.qn_model.specs.declared.outputs.Out.TheVariants as out
use Rattle.qn_model.specs.declared.packets.Packet.{Packet}
use Rattle.qn_model.specs.declared.packets.Packet.TheVariants as packet
use Rattle.qn_model.specs.declared.packets.Sent.{Sent}
use Rattle.qn_model.specs.declared.seen.HeaderSeen.TheVariants as header
use Rattle.qn_model.specs.declared.times.Timing.{Timing}
use Rattle.qn_model.specs.lemmas.Failures.{failed_times}
use Rattle.qn_model.specs.Log.{Line, now, times_of}
use Rattle.qn_model.specs.Moments.{begin_of, is_gone}
use Rattle.qn_model.specs.NodeOutputs.{newest_outs, with_entry}
use Rattle.qn_model.specs.Phases.{is_live, phase}
use Rattle.qn_model.specs.Sectors.{header_bytes}
use Rattle.qn_model.specs.Steps.{entry_of}
use Rattle.qn_model.specs.World.{failed}
use Rattle.qn_member.specs.Naming.{NamingMaker}
use Rattle.qn_member.specs.NamingViews.{after_look, answer_at}
use Rattle.qn_safety.specs.declared.polls.Poll.{Poll}
use Rattle.qn_safety.specs.declared.polls.Reply.{Reply}
use Rattle.qn_safety.specs.Poller.{Poller, answer_taken}
use Rattle.qn_sector.specs.Reading.{header_of}
use Rattle.qn_live.specs.declared.live_end.LiveEnd.{LiveEnd}
use Rattle.qn_live.specs.declared.place.Choice.{Choice}
use Rattle.qn_live.specs.declared.place.Choice.TheVariants as choice
use Rattle.qn_live.specs.declared.place.Waits.{Waits}
use Rattle.qn_live.specs.declared.words.Own.{Own}
use Rattle.qn_live.specs.Choosing.{choice_in, choice_of, is_entry_for, is_late, is_to_leave, looked, looking, own_of, packet_in, ready, told, view_or_tick}
use Rattle.qn_live.specs.Performing.{disk_answer, disk_call, done, end_in, header_seen, noted, out_call, outs_plan, own_number, waits_after}
use Rattle.qn_live.specs.Polling.{answered, answered_at, choice_beside, is_device, is_reply_for, poll_due, polled, reply_in}
use Rattle.qn_live.specs.Running.{RunState}
use Rattle.qn_live.specs.Runs.{asked_maker, greets, loop_after, looked_at, taken}
use Rattle.qn_joined.specs.Stands.{Acting, Ended, Looking, Parting, Polling, Receiving, Saying, Spot, acts_at, after_spot, begun_at, clocked_by, farewells_due, first_stand, left_plan, log_at, opening, parts_at, polled_at, said_at, sends_due, settled_by, taking}
use Rattle.qn_joined.specs.WorldOf.{IsEnding}
use Rattle.qn_service.specs.Looks.{look_at, look_by, look_in}
use Rattle.qn_service.specs.Loops.{HasLoop}
use Rattle.qn_service.proofs.Early.{IsEarly, early_rests, entry_early, nothing_early}
use Rattle.qn_service.proofs.KeptLoops.{asked_keeps, look_keeps, loop_of, told_keeps}

-- ## What is known where a run stands

-- an entry that gives times gives these
abbrev pub GivesTimes : Timing → What → Type 0
GivesTimes t entry = (times : Timing) → times_of entry ≡ Some times → times ≡ t

abbrev pub WaitsFor : Timing → Option What → Type 0
WaitsFor t None = Unit {0}
WaitsFor t (Some answer) = GivesTimes t answer

abbrev pub Chooses : Timing → Choice → Type 0
Chooses t (choice.Whole entry) = GivesTimes t entry
Chooses t (choice.Open p) = Unit {0}
Chooses t (choice.Answer reply) = Unit {0}

pub record Works (s : Settings) (t : Timing) (st : RunState) : Type 0 where
  pub waits : WaitsFor t st.waits.disk
  pub loop : IsEarly s st.log ⊎ (st.loop_ms ≡ t.loop_ms)
  pub maker : (m : NamingMaker) → st.maker ≡ Some m → loop_of m ≡ t.loop_ms

abbrev pub WorksAt : Settings → Timing → Spot → Type 0
WorksAt s t (Receiving st) = Works s t st
WorksAt s t (Looking chosen) = Works s t chosen.1 × Chooses t chosen.0
WorksAt s t (Acting entry outs o rest st) = Works s t st
WorksAt s t (Polling poll sents st) = Works s t st
WorksAt s t (Saying sent rest st) = Works s t st
WorksAt s t (Parting end sent rest st) = Unit {0}
WorksAt s t (Ended ran) = Unit {0}

no_times_in : (t : Timing) (entry : What) → times_of entry ≡ None → GivesTimes t entry
no_times_in t entry none times gives = absurd (none-some times (sym none ∙ gives))

-- once the node is live the header was read
live_reads : (s : Settings) (t : Timing) (st : RunState) → Works s t st → is_live (phase s st.log) ≡ true → st.loop_ms ≡ t.loop_ms
live_reads s t st works live = by_read works.loop
  where
    by_read : IsEarly s st.log ⊎ (st.loop_ms ≡ t.loop_ms) → st.loop_ms ≡ t.loop_ms
    by_read (inl early) = absurd (false≢true (sym (early_rests s st.log early) ∙ live))
    by_read (inr read) = read

-- ## From state to state

module _ (s : Settings) (me : ℕ) (t : Timing) where
  with_waits : (st : RunState) (waits : Waits) → Works s t st → WaitsFor t waits.disk → Works s t (record st { waits = waits })
  with_waits st waits works fit = record { waits = fit; loop = works.loop; maker = works.maker }

  opening_works : (st : RunState) (late : Bool) → Works s t st → WorksAt s t (opening st late)
  opening_works st true works = (works, tt)
  opening_works st false works = works

  taking_works : (st : RunState) (leaves rests : Bool) (stopped : Option Bool) (disk : Option What) → Works s t st → WaitsFor t disk
      → WorksAt s t (taking (record st { waits = record { stopped = stopped; disk = disk } }) (ready leaves rests (record { stopped = stopped; disk = disk })))
  taking_works st leaves rests (Some ok) disk works fit = (with_waits st _ works fit, no_times_in t (what.Stopped ok) refl)
  taking_works st leaves false None (Some answer) works fit = (with_waits st _ works tt, fit)
  taking_works st true false None None works fit = (with_waits st _ works tt, no_times_in t what.Leave refl)
  taking_works st false false None None works fit =
      opening_works (record st { waits = record { stopped = None; disk = None } }) (is_late st) (with_waits st _ works tt)
  taking_works st true true None disk works fit = (with_waits st _ works fit, no_times_in t what.Leave refl)
  taking_works st false true None disk works fit =
      opening_works (record st { waits = record { stopped = None; disk = disk } }) (is_late st) (with_waits st _ works fit)

  begun_works : (leave : Option ℕ) (turn more : ℕ) (st : RunState) → Works s t st → WorksAt s t (begun_at s me leave turn more st).spot
  begun_works leave turn zero st works = tt
  begun_works leave turn (suc more) st works = taking_works st (is_to_leave s leave turn st) st.rests st.waits.stopped st.waits.disk works works.waits

  said_works : (leave : Option ℕ) (turn more : ℕ) (st : RunState) (sents : List Sent) → Works s t st → WorksAt s t (said_at s me leave turn more st sents).spot
  said_works leave turn more st [] works = begun_works leave turn more st works
  said_works leave turn more st (sent ∷ rest) works = works

  polled_works : (leave : Option ℕ) (turn more : ℕ) (st : RunState) (sents : List Sent) (poll : Option Poll) → Works s t st
      → WorksAt s t (polled_at s me leave turn more st sents poll).spot
  polled_works leave turn more st sents None works = said_works leave turn more st sents works
  polled_works leave turn more st sents (Some poll) works = works

  parts_works : (turn more : ℕ) (end : LiveEnd) (st : RunState) (sents : List Sent) → WorksAt s t (parts_at turn more end st sents).spot
  parts_works turn more end st [] = tt
  parts_works turn more end st (sent ∷ rest) = tt

  asked_works : (st : RunState) → Works s t st → (m : NamingMaker) → (asked_maker s me st).maker ≡ Some m → loop_of m ≡ t.loop_ms
  asked_works st works m is =
      asked_keeps s me (now st.log) st.loop_ms t.loop_ms (own_of st) (is_live (phase s st.log)) st.maker works.maker (live_reads s t st works) m is

  settled_works : (leave : Option ℕ) (turn more : ℕ) (entry : What) (st : RunState) (found : Option LiveEnd) → Works s t st
      → WorksAt s t (settled_by s me leave turn more entry st found).spot
  settled_works leave turn more entry st None works =
      polled_works leave turn more (polled s me (greets s me st) entry (asked_maker s me st)) (sends_due s me st)
      (poll_due s me (greets s me st) entry (asked_maker s me st))
      (record { waits = works.waits; loop = works.loop; maker = asked_works st works })
  settled_works leave turn more entry st (Some end) works = parts_works turn more end st (farewells_due s me end st)

  acts_works : (leave : Option ℕ) (turn more : ℕ) (entry : What) (outs rest : List Out) (st : RunState) → Works s t st
      → WorksAt s t (acts_at s me leave turn more entry outs rest st).spot
  acts_works leave turn more entry outs [] st works = settled_works leave turn more entry st (end_in entry outs) works
  acts_works leave turn more entry outs (o ∷ rest) st works = works

  -- ## An entry

  -- the loop's time after an entry of a node that was not gone
  loop_then : (past : List Line) (tick loop_ms : ℕ) (entry : What) → GivesTimes t entry → (is_gone (phase s past) ≡ true → ⊥)
      → IsEarly s past ⊎ (loop_ms ≡ t.loop_ms)
      → IsEarly s (with_entry s me past (record { tick = tick; what = entry })) ⊎ (loop_after entry loop_ms ≡ t.loop_ms)
  loop_then past tick loop_ms entry gives goes was = by_times (times_of entry) refl was
    where
      by_times : (found : Option Timing) → times_of entry ≡ found → IsEarly s past ⊎ (loop_ms ≡ t.loop_ms)
          → IsEarly s (with_entry s me past (record { tick = tick; what = entry })) ⊎ (loop_after entry loop_ms ≡ t.loop_ms)
      by_times (Some times) is before =
          inr (ap (λ o. option_map_or (λ (read : Timing). read.loop_ms) o loop_ms) is ∙ ap (λ (read : Timing). read.loop_ms) (gives times is))
      by_times None is (inl (inl gone)) = absurd (goes (ap is_gone gone))
      by_times None is (inl (inr boots)) = inl (entry_early s me past tick boots.0 boots.1 entry is)
      by_times None is (inr read) = inr (ap (λ o. option_map_or (λ (found : Timing). found.loop_ms) o loop_ms) is ∙ read)

  plain_times : (found : Option View) → times_of (view_or_tick found) ≡ None
  plain_times None = refl
  plain_times (Some view) = refl

  taken_works : (st : RunState) (tick : ℕ) (own : Own) (chosen : Choice) (had : Option NamingMaker)
      → ((m : NamingMaker) → had ≡ Some m → loop_of m ≡ t.loop_ms) → IsEarly s st.log ⊎ (st.loop_ms ≡ t.loop_ms) → WaitsFor t st.waits.disk
      → (is_gone (phase s st.log) ≡ true → ⊥) → Chooses t chosen
      → Works s t (taken s me st tick (looked tick own chosen had))
  taken_works st tick own (choice.Whole entry) had known read waits goes gives =
      record { waits = waits; loop = loop_then st.log tick st.loop_ms entry gives goes read; maker = known }
  taken_works st tick own (choice.Answer reply) had known read waits goes gives =
      record { waits = waits; loop = loop_then st.log tick st.loop_ms what.Tick (no_times_in t what.Tick refl) goes read; maker = known }
  taken_works st tick own (choice.Open p) None known read waits goes gives =
      record {
        waits = waits;
        loop = loop_then st.log tick st.loop_ms what.Tick (no_times_in t what.Tick refl) goes read;
        maker = λ m is. absurd (none-some m is);
      }
  taken_works st tick own (choice.Open p) (Some before) known read waits goes gives =
      let m = told tick own p before in
      record {
        waits = waits;
        loop = loop_then st.log tick st.loop_ms (view_or_tick (answer_at tick m)) (no_times_in t (view_or_tick (answer_at tick m)) (plain_times (answer_at tick m))) goes read;
        maker = λ n is. ap loop_of (sym (same_Some (after_look tick m) n is)) ∙ look_keeps tick m ∙ told_keeps tick own p before ∙ known before refl;
      }

  -- ## A call

  entry_no_times : (p : Packet) → times_of (entry_of p) ≡ None
  entry_no_times (packet.Ask ask) = refl
  entry_no_times (packet.Tell tell) = refl
  entry_no_times (packet.Vote agrees) = refl
  entry_no_times (packet.Hello from) = refl
  entry_no_times (packet.Heard from said standing) = refl
  entry_no_times (packet.Announce from said) = refl

  choice_gives : (p : Option Packet) → Chooses t (choice_of me p)
  choice_gives None = tt
  choice_gives (Some p) = by_test (is_entry_for me p)
    where
      by_test : (b : Bool) → Chooses t (if b then choice.Whole (entry_of p) else choice.Open (Some p))
      by_test true = no_times_in t (entry_of p) (entry_no_times p)
      by_test false = tt

  beside_gives : (reply : Option Reply) (before : Choice) → Chooses t before → Chooses t (choice_beside me reply before)
  beside_gives (Some reply) before gives = by_test (is_reply_for me reply)
    where
      by_test : (b : Bool) → Chooses t (if b then choice.Answer reply else choice.Open None)
      by_test true = tt
      by_test false = tt
  beside_gives None (choice.Whole entry) gives = by_test (is_device entry)
    where
      by_test : (b : Bool) → Chooses t (if b then choice.Open None else choice.Whole entry)
      by_test true = tt
      by_test false = gives
  beside_gives None (choice.Open p) gives = tt
  beside_gives None (choice.Answer reply) gives = tt

  received_gives : (poller : Option Poller) (got : Received) → Chooses t (choice_in me poller got)
  received_gives None got = choice_gives (packet_in got)
  received_gives (Some poller) got = beside_gives (reply_in got) (choice_of me (packet_in got)) (choice_gives (packet_in got))

  answered_gives : (tick : ℕ) (poller : Option Poller) (chosen : Choice) → Chooses t chosen → Chooses t (answered_at tick poller chosen)
  answered_gives tick poller (choice.Whole entry) gives = gives
  answered_gives tick poller (choice.Open p) gives = tt
  answered_gives tick poller (choice.Answer reply) gives = by_answer (option_and_then (answer_taken tick reply) poller)
    where
      by_answer : (answer : Option Bool) → Chooses t (option_map_or (λ agrees. choice.Whole (what.Device agrees)) answer (choice.Open None))
      by_answer None = tt
      by_answer (Some agrees) = no_times_in t (what.Device agrees) refl

  -- the header that is read is that of the image
  abbrev pub ReadsHeader : Call → Type 0
  ReadsHeader made = (bytes : List ℕ) → made ≡ call.Read 0 bytes true → bytes ≡ header_bytes (length s.nodes) t

  header_gives : header_of (header_bytes (length s.nodes) t) ≡ Some (length s.nodes, t) → (made : Call) → Some (call.Read 0 [] true) ≡ Some (blank made) → ReadsHeader made
      → GivesTimes t (disk_answer s disk.ReadHeader made)
  unfolding done failed
  header_gives back (call.Read sector bytes true) asked reads times gives = sym (same_Some t times (sym seen ∙ gives))
    where
      at_head : 0 ≡ sector
      at_head = ap (λ (o : Option Call). option_map_or sector_of o 0) asked
        where
          sector_of : Call → ℕ
          sector_of (call.Read place read ok) = place
          sector_of other = 0

      seen : times_of (what.Header (header_seen bytes)) ≡ Some t
      seen =
          ap (λ b. times_of (what.Header (header_seen b))) (reads bytes (ap (λ place. call.Read place bytes true) (sym at_head)))
          ∙ ap (λ o. times_of (what.Header (option_map_or (λ (found : ℕ × Timing). header.Read found.0 found.1) o header.NotImage))) back
  header_gives back (call.Read sector bytes false) asked reads times gives = absurd (none-some times gives)
  header_gives back (call.Now tick) asked reads times gives = absurd cc
  header_gives back (call.Receive got) asked reads times gives = absurd cc
  header_gives back (call.Write sector bytes ok) asked reads times gives = absurd cc
  header_gives back (call.Feed ok) asked reads times gives = absurd cc
  header_gives back (call.Start ok) asked reads times gives = absurd cc
  header_gives back (call.Stop ok) asked reads times gives = absurd cc
  header_gives back (call.Send to bytes ok) asked reads times gives = absurd cc
  header_gives back (call.Disarm ok) asked reads times gives = absurd cc
  header_gives back (call.Halt code) asked reads times gives = absurd cc
  header_gives back (call.OpenImage path ok) asked reads times gives = absurd cc
  header_gives back (call.OpenNode images image watchdog resource port owner ok) asked reads times gives = absurd cc

  -- another operation gives no times
  other_done : (op : DiskOp) (bytes : List ℕ) → (op ≡ disk.ReadHeader → ⊥) → times_of (done s op bytes) ≡ None
  unfolding done
  other_done disk.ReadHeader bytes other = absurd (other refl)
  other_done (disk.ReadSlot rank) bytes other = refl
  other_done disk.CheckMail bytes other = refl
  other_done disk.ReadMail bytes other = refl
  other_done (disk.WriteClaim number) bytes other = refl
  other_done (disk.WriteClose number) bytes other = refl
  other_done disk.WriteClear bytes other = refl
  other_done (disk.WriteReset rank) bytes other = refl

  other_gives : (op : DiskOp) (made : Call) → (op ≡ disk.ReadHeader → ⊥) → GivesTimes t (disk_answer s op made)
  other_gives op made other = by_failed (is_failed made)
    where
      by_failed : (b : Bool) → GivesTimes t (if b then failed op else done s op (bytes_read made))
      by_failed true = no_times_in t (failed op) (failed_times op)
      by_failed false = no_times_in t (done s op (bytes_read made)) (other_done op (bytes_read made) other)

  answer_gives : header_of (header_bytes (length s.nodes) t) ≡ Some (length s.nodes, t) → (number : ℕ) (op : DiskOp) (made : Call)
      → Some (disk_call s me number op) ≡ Some (blank made) → ReadsHeader made → GivesTimes t (disk_answer s op made)
  unfolding disk_call
  answer_gives back number disk.ReadHeader made asked reads = header_gives back made asked reads
  answer_gives back number (disk.ReadSlot rank) made asked reads = other_gives (disk.ReadSlot rank) made (λ e. cc)
  answer_gives back number disk.CheckMail made asked reads = other_gives disk.CheckMail made (λ e. cc)
  answer_gives back number disk.ReadMail made asked reads = other_gives disk.ReadMail made (λ e. cc)
  answer_gives back number (disk.WriteClaim next) made asked reads = other_gives (disk.WriteClaim next) made (λ e. cc)
  answer_gives back number (disk.WriteClose own) made asked reads = other_gives (disk.WriteClose own) made (λ e. cc)
  answer_gives back number disk.WriteClear made asked reads = other_gives disk.WriteClear made (λ e. cc)
  answer_gives back number (disk.WriteReset rank) made asked reads = other_gives (disk.WriteReset rank) made (λ e. cc)

  noted_works : header_of (header_bytes (length s.nodes) t) ≡ Some (length s.nodes, t) → (st : RunState) (o : Out) (made : Call)
      → Some (out_call s me (own_number st.log) o) ≡ Some (blank made) → ReadsHeader made → Works s t st → Works s t (noted s o made st)
  unfolding waits_after out_call
  noted_works back st out.Stop made asked reads works = record { waits = works.waits; loop = works.loop; maker = works.maker }
  noted_works back st out.Start made asked reads works = record { waits = works.waits; loop = works.loop; maker = works.maker }
  noted_works back st out.Feed made asked reads works = record { waits = works.waits; loop = works.loop; maker = works.maker }
  noted_works back st (out.Send to sent) made asked reads works = record { waits = works.waits; loop = works.loop; maker = works.maker }
  noted_works back st (out.Disk op) made asked reads works =
      record { waits = answer_gives back (own_number st.log) op made asked reads; loop = works.loop; maker = works.maker }
  noted_works back st out.Disarm made asked reads works = record { waits = works.waits; loop = works.loop; maker = works.maker }
  noted_works back st (out.Halt halted) made asked reads works = record { waits = works.waits; loop = works.loop; maker = works.maker }

  -- a look at the clock
  clocked_works : (leave : Option ℕ) (turn more tick : ℕ) (chosen : Choice × RunState) (back : Bool) → (is_gone (phase s chosen.1.log) ≡ true → ⊥)
      → WorksAt s t (Looking chosen) → WorksAt s t (clocked_by s me leave turn more chosen tick back).spot
  clocked_works leave turn more tick chosen true goes works = tt
  clocked_works leave turn more tick chosen false goes works =
      let st = looking tick (answered tick chosen) in
      let found = looked_at tick (answered tick chosen) in
      let after = taken s me st tick found in
      acts_works leave turn more found.1 (newest_outs after.log) (newest_outs after.log) after
      (taken_works st tick (own_of st) (answered tick chosen).0 chosen.1.maker works.0.maker works.0.loop works.0.waits goes
      (answered_gives tick chosen.1.poller chosen.0 works.1))

  pub spot_works : header_of (header_bytes (length s.nodes) t) ≡ Some (length s.nodes, t) → (leave : Option ℕ) (turn more : ℕ) (spot : Spot) (made : Call)
      → question (left_plan s me leave turn more spot) ≡ Some (blank made) → ReadsHeader made
      → (is_gone (phase s (log_at spot)) ≡ true → IsEnding spot)
      → WorksAt s t spot → WorksAt s t (after_spot s me leave turn more spot made).spot
  unfolding left_plan after_spot outs_plan
  spot_works back leave turn more (Receiving st) made asked reads ends works =
      (record { waits = works.waits; loop = works.loop; maker = works.maker }, received_gives st.poller (received_in made))
  spot_works back leave turn more (Looking chosen) made asked reads ends works =
      clocked_works leave turn more (time_of made) chosen (nat_lt (time_of made) (now chosen.1.log)) ends works
  spot_works back leave turn more (Acting entry outs o rest st) made asked reads ends works =
      acts_works leave turn more entry outs rest (noted s o made st) (noted_works back st o made asked reads works)
  spot_works back leave turn more (Polling poll sents st) made asked reads ends works = said_works leave turn more st sents works
  spot_works back leave turn more (Saying sent rest st) made asked reads ends works = said_works leave turn more st rest works
  spot_works back leave turn more (Parting end sent rest st) made asked reads ends works = parts_works turn more end st rest
  spot_works back leave turn more (Ended ran) made asked reads ends works = tt

  pub first_works : (clean : Bool) (polls : Option ℕ) (turns : ℕ) → WorksAt s t (first_stand clean polls turns).spot
  first_works true polls turns =
      (record { waits = tt; loop = inl (nothing_early s); maker = λ m is. absurd (none-some m is) }, no_times_in t (begin_of true) refl)
  first_works false polls turns =
      (record { waits = tt; loop = inl (nothing_early s); maker = λ m is. absurd (none-some m is) }, no_times_in t (begin_of false) refl)

  -- ## A look of the view maker

  look_chosen : (tick : ℕ) (own : Own) (chosen : Choice) (had : Option NamingMaker) → ((m : NamingMaker) → had ≡ Some m → loop_of m ≡ t.loop_ms)
      → IfSome (look_in me tick own chosen had) (HasLoop t)
  look_chosen tick own (choice.Open p) (Some m) known = told_keeps tick own p m ∙ known m refl
  look_chosen tick own (choice.Open p) None known = tt
  look_chosen tick own (choice.Whole entry) had known = tt
  look_chosen tick own (choice.Answer reply) had known = tt

  pub look_works : (spot : Spot) (made : Call) → WorksAt s t spot → IfSome (look_at me spot made) (HasLoop t)
  look_works (Looking chosen) made works = by_order (nat_lt (time_of made) (now chosen.1.log))
    where
      by_order : (back : Bool) → IfSome (if back then None else look_by me (time_of made) (answered (time_of made) chosen)) (HasLoop t)
      by_order true = tt
      by_order false =
          look_chosen (time_of made) (own_of (looking (time_of made) (answered (time_of made) chosen))) (answered (time_of made) chosen).0 chosen.1.maker works.0.maker
  look_works (Receiving st) made works = tt
  look_works (Acting entry outs o rest st) made works = tt
  look_works (Polling poll sents st) made works = tt
  look_works (Saying sent rest st) made works = tt
  look_works (Parting end sent rest st) made works = tt
  look_works (Ended ran) made works = tt

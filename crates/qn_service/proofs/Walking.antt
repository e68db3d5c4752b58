-- From call to call: the view of a running node, and each that it announces, was made by a look.
use Rattle.std.proofs.Common.{◌≡◌, ◌⊎◌, inl, inr, ℕ, suc, zero, Bool, true, false, not, List, [], ◌∷◌, Option, None, Some, is_some, if◌then◌else◌, refl, sym, ◌∙◌, ap, subst}
use Rattle.std.specs.Prelude.{nat_lt, option_and_then}
use Rattle.std.specs.Option.{option_map_or, option_or}
use Rattle.std.proofs.lemmas.Bool.{not-true, true≢false}
use Rattle.std.proofs.lemmas.Option.{none-some, same_Some}
use Rattle.qn_base.specs.declared.calls.Call.{Call}
use Rattle.qn_base.specs.declared.calls.Received.{Received}
use Rattle.qn_base.specs.declared.ids.View.{View}
use Rattle.qn_base.specs.Calls.{blank, is_failed}
use Rattle.qn_base.specs.Candidates.{is_barred}
use Rattle.qn_base.specs.Plans.{question}
use Rattle.qn_io.specs.Answered.{bytes_read, received_in, time_of}
use Rattle.qn_model.specs.declared.configuration.Settings.{Settings}
use Rattle.qn_model.specs.declared.entries.Entry.{Entry}
use Rattle.qn_model.specs.declared.entries.What.{What}
use Rattle.qn_model.specs.declared.entries.What.TheVariants as what
use Rattle.qn_model.specs.declared.outputs.DiskOp.{DiskOp}
use Rattle.qn_model.specs.declared.outputs.DiskOp.TheVariants as disk
use Rattle.qn_model.specs.declared.outputs.Out.{Out}
use Rattle.qn_model.specs.declared.outputs.Out.TheVariants as out
use Rattle.qn_model.specs.declared.packets.Packet.{Packet}
use Rattle.qn_model.specs.declared.packets.Packet.TheVariants as packet
use Rattle.qn_model.specs.declared.packets.Sent.{Sent}
use Rattle.qn_model.specs.Fitting.{fits, read_as}
use Rattle.qn_model.specs.Log.{Line, is_view, now, view_of}
use Rattle.qn_model.specs.NodeOutputs.{newest_outs, with_entry}
use Rattle.qn_model.specs.NodeVotes.{view}
use Rattle.qn_model.specs.Phases.{is_live, phase}
use Rattle.qn_model.specs.Steps.{entry_of}
use Rattle.qn_model.specs.World.{failed}
use Rattle.qn_member.specs.Naming.{NamingMaker}
use Rattle.qn_member.specs.NamingViews.{after_found, after_look, answer_at, view_found}
use Rattle.qn_safety.specs.declared.polls.Poll.{Poll}
use Rattle.qn_safety.specs.declared.polls.Reply.{Reply}
use Rattle.qn_safety.specs.Poller.{Poller, answer_taken}
use Rattle.qn_live.specs.declared.live_end.LiveEnd.{LiveEnd}
use Rattle.qn_live.specs.declared.place.Choice.{Choice}
use Rattle.qn_live.specs.declared.place.Choice.TheVariants as choice
use Rattle.qn_live.specs.declared.place.Waits.{Waits}
use Rattle.qn_live.specs.declared.words.Own.{Own}
use Rattle.qn_live.specs.Choosing.{choice_in, choice_of, is_entry_for, is_late, is_to_leave, looked, looking, own_of, packet_in, ready, told, view_or_tick}
use Rattle.qn_live.specs.Performing.{disk_answer, done, end_in, noted, waits_after}
use Rattle.qn_live.specs.Polling.{answered, answered_at, choice_beside, is_device, is_reply_for, poll_due, polled, reply_in}
use Rattle.qn_live.specs.Running.{RunState}
use Rattle.qn_live.specs.Runs.{asked_maker, greets, looked_at, taken}
use Rattle.qn_joined.specs.Stands.{Acting, Ended, Looking, Parting, Polling, Receiving, Saying, Spot, acts_at, after_spot, begun_at, clocked_by, farewells_due, first_stand, left_plan, log_at, opening, parts_at, polled_at, said_at, sends_due, settled_by, taking, waits_at}
use Rattle.qn_service.specs.Hellos.{packet_chosen, packet_waiting}
use Rattle.qn_service.specs.Leading.{MakesView, TakesView}
use Rattle.qn_service.specs.Looks.{LookOf, look_at, look_by, look_in, said_next}
use Rattle.qn_service.specs.Unheard.{HasMade}
use Rattle.qn_service.proofs.Knowing.{AllSaid, Knows, Word, after_known, answer_made, asked_known, hellos_said, look_known, told_known}
use Rattle.qn_service.proofs.Made.{made_or_taken}

-- ## What is known where a run stands

abbrev maker_at : Spot → Option NamingMaker
maker_at (Receiving st) = st.maker
maker_at (Looking chosen) = chosen.1.maker
maker_at (Acting entry outs o rest st) = st.maker
maker_at (Polling poll sents st) = st.maker
maker_at (Saying sent rest st) = st.maker
maker_at (Parting end sent rest st) = st.maker
maker_at (Ended ran) = None

-- an answer that waits is no view
abbrev pub is_no_view : Option What → Bool
is_no_view None = true
is_no_view (Some answer) = not (is_view answer)

abbrev pub chooses_view : Choice → Bool
chooses_view (choice.Whole entry) = is_view entry
chooses_view (choice.Open p) = false
chooses_view (choice.Answer reply) = false

abbrev views_in : Spot → Bool
views_in (Looking chosen) = chooses_view chosen.0
views_in (Receiving st) = false
views_in (Acting entry outs o rest st) = false
views_in (Polling poll sents st) = false
views_in (Saying sent rest st) = false
views_in (Parting end sent rest st) = false
views_in (Ended ran) = false

-- what the view maker sends, where a run stands
abbrev sents_at : Spot → List Sent
sents_at (Saying sent rest st) = sent ∷ rest
sents_at (Polling poll sents st) = sents
sents_at (Receiving st) = []
sents_at (Looking chosen) = []
sents_at (Acting entry outs o rest st) = []
sents_at (Parting end sent rest st) = []
sents_at (Ended ran) = []

-- a log is empty, or has its newest entry as it was read
abbrev pub IsLogged : Settings → ℕ → List Line → Type 0
IsLogged s me log = (log ≡ []) ⊎ ((past : List Line) × (entry : Entry) × (log ≡ with_entry s me past entry))

-- the present view of a log holds what is said of views, unless it bars all
abbrev pub Shows : (View → Type 0) → List Line → Type 0
Shows Q log = (v : View) → view log ≡ Some v → is_barred v ≡ false → Q v

record Fine (s : Settings) (me : ℕ) (Q : View → Type 0) (st : RunState) : Type 0 where
  maker : (m : NamingMaker) → st.maker ≡ Some m → Knows s me Q m.maker
  shows : Shows Q st.log
  waits : is_no_view st.waits.disk ≡ true
  logged : IsLogged s me st.log

pub record Stands (s : Settings) (me : ℕ) (Q : View → Type 0) (spot : Spot) : Type 0 where
  pub maker : (m : NamingMaker) → maker_at spot ≡ Some m → Knows s me Q m.maker
  pub shows : Shows Q (log_at spot)
  pub waits : is_no_view (waits_at spot).disk ≡ true
  pub chosen : views_in spot ≡ false
  pub word : Word Q (packet_waiting spot)
  pub says : AllSaid Q (sents_at spot)
  pub logged : IsLogged s me (log_at spot)

-- ## More views of which it holds

pub grown_word : (Q R : View → Type 0) → ((v : View) → Q v → R v) → (p : Option Packet) → Word Q p → Word R p
grown_word Q R more None word = tt
grown_word Q R more (Some (packet.Announce from said)) word = λ member. more said (word member)
grown_word Q R more (Some (packet.Hello from)) word = tt
grown_word Q R more (Some (packet.Heard from said standing)) word = tt
grown_word Q R more (Some (packet.Ask ask)) word = tt
grown_word Q R more (Some (packet.Tell tell)) word = tt
grown_word Q R more (Some (packet.Vote agrees)) word = tt

grown_said : (Q R : View → Type 0) → ((v : View) → Q v → R v) → (sents : List Sent) → AllSaid Q sents → AllSaid R sents
grown_said Q R more [] said = tt
grown_said Q R more (sent ∷ rest) (word, said) = (grown_word Q R more (Some sent.packet) word, grown_said Q R more rest said)

pub grown : (s : Settings) (me : ℕ) (Q R : View → Type 0) → ((v : View) → Q v → R v) → (spot : Spot) → Stands s me Q spot → Stands s me R spot
grown s me Q R more spot stands =
    record {
      maker = λ m is. record {
        nodes = (stands.maker m is).nodes;
        own = (stands.maker m is).own;
        present = λ v e. more v ((stands.maker m is).present v e);
        announced = λ rank v e member. more v ((stands.maker m is).announced rank v e member);
      };
      shows = λ v is free. more v (stands.shows v is free);
      waits = stands.waits;
      chosen = stands.chosen;
      word = grown_word Q R more (packet_waiting spot) stands.word;
      says = grown_said Q R more (sents_at spot) stands.says;
      logged = stands.logged;
    }

-- ## From state to state

opening_stands : (s : Settings) (me : ℕ) (Q : View → Type 0) (st : RunState) (late : Bool) → Fine s me Q st → Stands s me Q (opening st late)
opening_stands s me Q st true fine = record { maker = fine.maker; shows = fine.shows; waits = fine.waits; chosen = refl; word = tt; says = tt; logged = fine.logged }
opening_stands s me Q st false fine = record { maker = fine.maker; shows = fine.shows; waits = fine.waits; chosen = refl; word = tt; says = tt; logged = fine.logged }

-- a turn that takes an entry that is no view
whole_stands : (s : Settings) (me : ℕ) (Q : View → Type 0) (st : RunState) (entry : What) → Fine s me Q st → is_view entry ≡ false → Stands s me Q (Looking (choice.Whole entry, st))
whole_stands s me Q st entry fine plain = record { maker = fine.maker; shows = fine.shows; waits = fine.waits; chosen = plain; word = tt; says = tt; logged = fine.logged }

with_waits : (s : Settings) (me : ℕ) (Q : View → Type 0) (st : RunState) (waits : Waits) → Fine s me Q st → is_no_view waits.disk ≡ true → Fine s me Q (record st { waits = waits })
with_waits s me Q st waits fine plain = record { maker = fine.maker; shows = fine.shows; waits = plain; logged = fine.logged }

taking_stands : (s : Settings) (me : ℕ) (Q : View → Type 0) (st : RunState) (leaves rests : Bool) (stopped : Option Bool) (disk : Option What) → Fine s me Q st → is_no_view disk ≡ true
    → Stands s me Q (taking (record st { waits = record { stopped = stopped; disk = disk } }) (ready leaves rests (record { stopped = stopped; disk = disk })))
taking_stands s me Q st leaves rests (Some ok) disk fine plain =
    whole_stands s me Q (record st { waits = record { stopped = None; disk = disk } }) (what.Stopped ok) (with_waits s me Q st _ fine plain) refl
taking_stands s me Q st leaves false None (Some answer) fine plain =
    whole_stands s me Q (record st { waits = record { stopped = None; disk = None } }) answer (with_waits s me Q st _ fine refl) (not-true (is_view answer) plain)
taking_stands s me Q st true false None None fine plain =
    whole_stands s me Q (record st { waits = record { stopped = None; disk = None } }) what.Leave (with_waits s me Q st _ fine refl) refl
taking_stands s me Q st false false None None fine plain =
    opening_stands s me Q (record st { waits = record { stopped = None; disk = None } }) (is_late st) (with_waits s me Q st _ fine refl)
taking_stands s me Q st true true None disk fine plain =
    whole_stands s me Q (record st { waits = record { stopped = None; disk = disk } }) what.Leave (with_waits s me Q st _ fine plain) refl
taking_stands s me Q st false true None disk fine plain =
    opening_stands s me Q (record st { waits = record { stopped = None; disk = disk } }) (is_late st) (with_waits s me Q st _ fine plain)

ended_stands : (s : Settings) (me : ℕ) (Q : View → Type 0) (st : RunState) (end : LiveEnd) → Fine s me Q st → Stands s me Q (Ended (record { end = end; log = st.log }))
ended_stands s me Q st end fine = record { maker = λ m is. absurd (none-some m is); shows = fine.shows; waits = refl; chosen = refl; word = tt; says = tt; logged = fine.logged }

begun_stands : (s : Settings) (me : ℕ) (Q : View → Type 0) (leave : Option ℕ) (turn more : ℕ) (st : RunState) → Fine s me Q st → Stands s me Q (begun_at s me leave turn more st).spot
begun_stands s me Q leave turn zero st fine = ended_stands s me Q st _ fine
begun_stands s me Q leave turn (suc more) st fine = taking_stands s me Q st (is_to_leave s leave turn st) st.rests st.waits.stopped st.waits.disk fine fine.waits

said_stands : (s : Settings) (me : ℕ) (Q : View → Type 0) (leave : Option ℕ) (turn more : ℕ) (st : RunState) (sents : List Sent) → Fine s me Q st → AllSaid Q sents
    → Stands s me Q (said_at s me leave turn more st sents).spot
said_stands s me Q leave turn more st [] fine said = begun_stands s me Q leave turn more st fine
said_stands s me Q leave turn more st (sent ∷ rest) fine said = record { maker = fine.maker; shows = fine.shows; waits = fine.waits; chosen = refl; word = tt; says = said; logged = fine.logged }

polled_stands : (s : Settings) (me : ℕ) (Q : View → Type 0) (leave : Option ℕ) (turn more : ℕ) (st : RunState) (sents : List Sent) (poll : Option Poll) → Fine s me Q st → AllSaid Q sents
    → Stands s me Q (polled_at s me leave turn more st sents poll).spot
polled_stands s me Q leave turn more st sents None fine said = said_stands s me Q leave turn more st sents fine said
polled_stands s me Q leave turn more st sents (Some poll) fine said = record { maker = fine.maker; shows = fine.shows; waits = fine.waits; chosen = refl; word = tt; says = said; logged = fine.logged }

parts_stands : (s : Settings) (me : ℕ) (Q : View → Type 0) (turn more : ℕ) (end : LiveEnd) (st : RunState) (sents : List Sent) → Fine s me Q st → Stands s me Q (parts_at turn more end st sents).spot
parts_stands s me Q turn more end st [] fine = ended_stands s me Q st end fine
parts_stands s me Q turn more end st (sent ∷ rest) fine = record { maker = fine.maker; shows = fine.shows; waits = fine.waits; chosen = refl; word = tt; says = tt; logged = fine.logged }

asked_makers : (s : Settings) (me : ℕ) (Q : View → Type 0) (st : RunState) → Fine s me Q st → (m : NamingMaker) → (asked_maker s me st).maker ≡ Some m → Knows s me Q m.maker
asked_makers s me Q st fine m is = asked_known s me Q (now st.log) st.loop_ms (own_of st) (is_live (phase s st.log)) st.maker fine.maker m is

settled_stands : (s : Settings) (me : ℕ) (Q : View → Type 0) (leave : Option ℕ) (turn more : ℕ) (entry : What) (st : RunState) (found : Option LiveEnd) → Fine s me Q st
    → Stands s me Q (settled_by s me leave turn more entry st found).spot
settled_stands s me Q leave turn more entry st None fine =
    polled_stands s me Q leave turn more (polled s me (greets s me st) entry (asked_maker s me st)) (sends_due s me st)
    (poll_due s me (greets s me st) entry (asked_maker s me st))
    (record { maker = asked_makers s me Q st fine; shows = fine.shows; waits = fine.waits; logged = fine.logged })
    (hellos_said s me Q (greets s me st) (asked_maker s me st).maker (asked_makers s me Q st fine))
settled_stands s me Q leave turn more entry st (Some end) fine = parts_stands s me Q turn more end st (farewells_due s me end st) fine

acts_stands : (s : Settings) (me : ℕ) (Q : View → Type 0) (leave : Option ℕ) (turn more : ℕ) (entry : What) (outs rest : List Out) (st : RunState) → Fine s me Q st
    → Stands s me Q (acts_at s me leave turn more entry outs rest st).spot
acts_stands s me Q leave turn more entry outs [] st fine = settled_stands s me Q leave turn more entry st (end_in entry outs) fine
acts_stands s me Q leave turn more entry outs (o ∷ rest) st fine = record { maker = fine.maker; shows = fine.shows; waits = fine.waits; chosen = refl; word = tt; says = tt; logged = fine.logged }

-- ## An entry

-- the view after an entry is that of the entry, or the one before
pub read_view : (fit : Bool) (entry : What) (v : View) → view_of (if fit then entry else what.Tick) ≡ Some v → view_of entry ≡ Some v
read_view true entry v is = is
read_view false entry v is = absurd (none-some v is)

pub new_or_old : (new old : Option View) (v : View) → option_or new old ≡ Some v → (new ≡ Some v) ⊎ (old ≡ Some v)
new_or_old None old v is = inr is
new_or_old (Some seen) old v is = inl is

entry_view : (s : Settings) (me : ℕ) (log : List Line) (entry : Entry) (v : View) → view (with_entry s me log entry) ≡ Some v
    → (view_of entry.what ≡ Some v) ⊎ (view log ≡ Some v)
unfolding with_entry view
entry_view s me log entry v is = by_either (new_or_old (view_of (read_as s me log entry.what)) (view log) v is)
  where
    by_either : (view_of (read_as s me log entry.what) ≡ Some v) ⊎ (view log ≡ Some v) → (view_of entry.what ≡ Some v) ⊎ (view log ≡ Some v)
    by_either (inl new) = inl (read_view (fits s me log entry.what) entry.what v new)
    by_either (inr old) = inr old

entry_shows : (s : Settings) (me : ℕ) (Q : View → Type 0) (log : List Line) (entry : Entry) → Shows Q log → ((v : View) → view_of entry.what ≡ Some v → is_barred v ≡ false → Q v)
    → Shows Q (with_entry s me log entry)
entry_shows s me Q log entry shows made v is free = by_either (entry_view s me log entry v is)
  where
    by_either : (view_of entry.what ≡ Some v) ⊎ (view log ≡ Some v) → Q v
    by_either (inl new) = made v new free
    by_either (inr old) = shows v old free

no_view_in : (Q : View → Type 0) (entry : What) → is_view entry ≡ false → (v : View) → view_of entry ≡ Some v → is_barred v ≡ false → Q v
no_view_in Q entry plain v is free = absurd (true≢false (sym (ap is_some is) ∙ plain))

looked_view : (found : Option View) (v : View) → view_of (view_or_tick found) ≡ Some v → found ≡ Some v
looked_view None v is = absurd (none-some v is)
looked_view (Some seen) v is = is

-- the state after an entry
taken_fine : (s : Settings) (me : ℕ) (Q : View → Type 0) (st : RunState) (tick : ℕ) (own : Own) (chosen : Choice) (had : Option NamingMaker)
    → ((m : NamingMaker) → had ≡ Some m → Knows s me Q m.maker) → Shows Q st.log → is_no_view st.waits.disk ≡ true → chooses_view chosen ≡ false → Word Q (packet_chosen chosen)
    → ((look : LookOf) → look_in me tick own chosen had ≡ Some look → (v : View) → HasMade s v look → Q v)
    → Fine s me Q (taken s me st tick (looked tick own chosen had))
unfolding after_look
taken_fine s me Q st tick own (choice.Whole entry) had known shows waits plain word made =
    record {
      maker = known;
      shows = entry_shows s me Q st.log (record { tick = tick; what = entry }) shows (no_view_in Q entry plain);
      waits = waits;
      logged = inr (st.log, record { tick = tick; what = entry }, refl);
    }
taken_fine s me Q st tick own (choice.Answer reply) had known shows waits plain word made =
    record {
      maker = known;
      shows = entry_shows s me Q st.log (record { tick = tick; what = what.Tick }) shows (no_view_in Q what.Tick refl);
      waits = waits;
      logged = inr (st.log, record { tick = tick; what = what.Tick }, refl);
    }
taken_fine s me Q st tick own (choice.Open p) None known shows waits plain word made =
    record {
      maker = λ m is. absurd (none-some m is);
      shows = entry_shows s me Q st.log (record { tick = tick; what = what.Tick }) shows (no_view_in Q what.Tick refl);
      waits = waits;
      logged = inr (st.log, record { tick = tick; what = what.Tick }, refl);
    }
taken_fine s me Q st tick own (choice.Open p) (Some before) known shows waits plain word made =
    record {
      maker = λ n is. subst (λ (k : NamingMaker). Knows s me Q k.maker) (same_Some (after_look tick m) n is) (after_known s me Q tick m left);
      shows = entry_shows s me Q st.log (record { tick = tick; what = view_or_tick (answer_at tick m) }) shows
          (λ v is free. answer_made s me Q tick m views left v (looked_view (answer_at tick m) v is) free);
      waits = waits;
      logged = inr (st.log, record { tick = tick; what = view_or_tick (answer_at tick m) }, refl);
    }
  where
    m : NamingMaker
    m = told tick own p before

    knows : Knows s me Q m.maker
    knows = told_known s me Q tick own p before (known before refl) word

    by_way : (v : View) → MakesView tick m v ⊎ TakesView tick m v → Q v
    by_way v (inl makes) = made (record { rank = me; tick = tick; maker = m }) refl v (record { nodes = knows.nodes; own = knows.own; makes = makes })
    by_way v (inr takes) = knows.announced takes.leader v takes.announced takes.has_leader

    views : (v : View) → view_found tick m ≡ Some v → Q v
    views v found = by_way v (made_or_taken tick m v found)

    left : Knows s me Q (after_found tick m).maker
    left = look_known s me Q tick m knows views

-- ## A call

pub entry_no_view : (p : Packet) → is_view (entry_of p) ≡ false
entry_no_view (packet.Ask ask) = refl
entry_no_view (packet.Tell tell) = refl
entry_no_view (packet.Vote agrees) = refl
entry_no_view (packet.Hello from) = refl
entry_no_view (packet.Heard from said standing) = refl
entry_no_view (packet.Announce from said) = refl

-- what is chosen of what came is no view, and its packet is the one that came
pub record Chosen (Q : View → Type 0) (chosen : Choice) : Type 0 where
  pub plain : chooses_view chosen ≡ false
  pub word : Word Q (packet_chosen chosen)

chosen_of : (Q : View → Type 0) (me : ℕ) (p : Option Packet) → Word Q p → Chosen Q (choice_of me p)
chosen_of Q me None word = record { plain = refl; word = tt }
chosen_of Q me (Some p) word = by_test (is_entry_for me p)
  where
    by_test : (b : Bool) → Chosen Q (if b then choice.Whole (entry_of p) else choice.Open (Some p))
    by_test true = record { plain = entry_no_view p; word = tt }
    by_test false = record { plain = refl; word = word }

chosen_beside : (Q : View → Type 0) (me : ℕ) (reply : Option Reply) (before : Choice) → Chosen Q before → Chosen Q (choice_beside me reply before)
chosen_beside Q me (Some reply) before chosen = by_test (is_reply_for me reply)
  where
    by_test : (b : Bool) → Chosen Q (if b then choice.Answer reply else choice.Open None)
    by_test true = record { plain = refl; word = tt }
    by_test false = record { plain = refl; word = tt }
chosen_beside Q me None (choice.Whole entry) chosen = by_test (is_device entry)
  where
    by_test : (b : Bool) → Chosen Q (if b then choice.Open None else choice.Whole entry)
    by_test true = record { plain = refl; word = tt }
    by_test false = chosen
chosen_beside Q me None (choice.Open p) chosen = chosen
chosen_beside Q me None (choice.Answer reply) chosen = chosen

pub chosen_in : (Q : View → Type 0) (me : ℕ) (poller : Option Poller) (got : Received) → Word Q (packet_in got) → Chosen Q (choice_in me poller got)
chosen_in Q me None got word = chosen_of Q me (packet_in got) word
chosen_in Q me (Some poller) got word = chosen_beside Q me (reply_in got) (choice_of me (packet_in got)) (chosen_of Q me (packet_in got) word)

-- at its tick it is no view either
pub chosen_then : (Q : View → Type 0) (tick : ℕ) (poller : Option Poller) (chosen : Choice) → chooses_view chosen ≡ false → Word Q (packet_chosen chosen) → Chosen Q (answered_at tick poller chosen)
chosen_then Q tick poller (choice.Whole entry) plain word = record { plain = plain; word = tt }
chosen_then Q tick poller (choice.Open p) plain word = record { plain = refl; word = word }
chosen_then Q tick poller (choice.Answer reply) plain word = by_answer (option_and_then (answer_taken tick reply) poller)
  where
    by_answer : (answer : Option Bool) → Chosen Q (option_map_or (λ agrees. choice.Whole (what.Device agrees)) answer (choice.Open None))
    by_answer None = record { plain = refl; word = tt }
    by_answer (Some agrees) = record { plain = refl; word = tt }

-- no answer of the disk is a view
failed_no_view : (op : DiskOp) → is_view (failed op) ≡ false
unfolding failed
failed_no_view disk.ReadHeader = refl
failed_no_view (disk.ReadSlot rank) = refl
failed_no_view disk.CheckMail = refl
failed_no_view disk.ReadMail = refl
failed_no_view (disk.WriteClaim number) = refl
failed_no_view (disk.WriteClose number) = refl
failed_no_view disk.WriteClear = refl
failed_no_view (disk.WriteReset rank) = refl

done_no_view : (s : Settings) (op : DiskOp) (bytes : List ℕ) → is_view (done s op bytes) ≡ false
unfolding done
done_no_view s disk.ReadHeader bytes = refl
done_no_view s (disk.ReadSlot rank) bytes = refl
done_no_view s disk.CheckMail bytes = refl
done_no_view s disk.ReadMail bytes = refl
done_no_view s (disk.WriteClaim number) bytes = refl
done_no_view s (disk.WriteClose number) bytes = refl
done_no_view s disk.WriteClear bytes = refl
done_no_view s (disk.WriteReset rank) bytes = refl

pub answer_no_view : (s : Settings) (op : DiskOp) (made : Call) → is_view (disk_answer s op made) ≡ false
answer_no_view s op made = by_failed (is_failed made)
  where
    by_failed : (b : Bool) → is_view (if b then failed op else done s op (bytes_read made)) ≡ false
    by_failed true = failed_no_view op
    by_failed false = done_no_view s op (bytes_read made)

noted_fine : (s : Settings) (me : ℕ) (Q : View → Type 0) (st : RunState) (o : Out) (made : Call) → Fine s me Q st → Fine s me Q (noted s o made st)
unfolding waits_after
noted_fine s me Q st out.Stop made fine = record { maker = fine.maker; shows = fine.shows; waits = fine.waits; logged = fine.logged }
noted_fine s me Q st out.Start made fine = record { maker = fine.maker; shows = fine.shows; waits = fine.waits; logged = fine.logged }
noted_fine s me Q st out.Feed made fine = record { maker = fine.maker; shows = fine.shows; waits = fine.waits; logged = fine.logged }
noted_fine s me Q st (out.Send to sent) made fine = record { maker = fine.maker; shows = fine.shows; waits = fine.waits; logged = fine.logged }
noted_fine s me Q st (out.Disk op) made fine = record { maker = fine.maker; shows = fine.shows; waits = ap not (answer_no_view s op made); logged = fine.logged }
noted_fine s me Q st out.Disarm made fine = record { maker = fine.maker; shows = fine.shows; waits = fine.waits; logged = fine.logged }
noted_fine s me Q st (out.Halt halted) made fine = record { maker = fine.maker; shows = fine.shows; waits = fine.waits; logged = fine.logged }

-- a look at the clock
clocked_stands : (s : Settings) (me : ℕ) (Q : View → Type 0) (leave : Option ℕ) (turn more tick : ℕ) (chosen : Choice × RunState) (back : Bool) → Stands s me Q (Looking chosen)
    → ((look : LookOf) → (if back then None else look_by me tick (answered tick chosen)) ≡ Some look → (v : View) → HasMade s v look → Q v)
    → Stands s me Q (clocked_by s me leave turn more chosen tick back).spot
clocked_stands s me Q leave turn more tick chosen true stands made =
    record { maker = λ m is. absurd (none-some m is); shows = stands.shows; waits = refl; chosen = refl; word = tt; says = tt; logged = stands.logged }
clocked_stands s me Q leave turn more tick chosen false stands made =
    let then_chosen = chosen_then Q tick chosen.1.poller chosen.0 stands.chosen stands.word in
    let st = looking tick (answered tick chosen) in
    let found = looked_at tick (answered tick chosen) in
    let after = taken s me st tick found in
    acts_stands s me Q leave turn more found.1 (newest_outs after.log) (newest_outs after.log) after
    (taken_fine s me Q st tick (own_of st) (answered tick chosen).0 chosen.1.maker stands.maker stands.shows stands.waits then_chosen.plain then_chosen.word made)

pub spot_stands : (s : Settings) (me : ℕ) (Q : View → Type 0) (leave : Option ℕ) (turn more : ℕ) (spot : Spot) (made : Call)
    → question (left_plan s me leave turn more spot) ≡ Some (blank made) → Word Q (packet_in (received_in made))
    → ((look : LookOf) → look_at me spot made ≡ Some look → (v : View) → HasMade s v look → Q v)
    → Stands s me Q spot → Stands s me Q (after_spot s me leave turn more spot made).spot
unfolding left_plan after_spot
spot_stands s me Q leave turn more (Receiving st) made asked word makes stands =
    let chosen = chosen_in Q me st.poller (received_in made) word in
    record { maker = stands.maker; shows = stands.shows; waits = stands.waits; chosen = chosen.plain; word = chosen.word; says = tt; logged = stands.logged }
spot_stands s me Q leave turn more (Looking chosen) made asked word makes stands =
    clocked_stands s me Q leave turn more (time_of made) chosen (nat_lt (time_of made) (now chosen.1.log)) stands makes
spot_stands s me Q leave turn more (Acting entry outs o rest st) made asked word makes stands =
    acts_stands s me Q leave turn more entry outs rest (noted s o made st)
    (noted_fine s me Q st o made (record { maker = stands.maker; shows = stands.shows; waits = stands.waits; logged = stands.logged }))
spot_stands s me Q leave turn more (Polling poll sents st) made asked word makes stands =
    said_stands s me Q leave turn more st sents (record { maker = stands.maker; shows = stands.shows; waits = stands.waits; logged = stands.logged }) stands.says
spot_stands s me Q leave turn more (Saying sent rest st) made asked word makes stands =
    said_stands s me Q leave turn more st rest (record { maker = stands.maker; shows = stands.shows; waits = stands.waits; logged = stands.logged }) stands.says.1
spot_stands s me Q leave turn more (Parting end sent rest st) made asked word makes stands =
    parts_stands s me Q turn more end st rest (record { maker = stands.maker; shows = stands.shows; waits = stands.waits; logged = stands.logged })
spot_stands s me Q leave turn more (Ended ran) made asked word makes stands = absurd (none-some (blank made) asked)

pub first_stands : (s : Settings) (me : ℕ) (Q : View → Type 0) (clean : Bool) (polls : Option ℕ) (turns : ℕ) → Stands s me Q (first_stand clean polls turns).spot
unfolding view
first_stands s me Q true polls turns = record { maker = λ m is. absurd (none-some m is); shows = λ v is free. absurd (none-some v is); waits = refl; chosen = refl; word = tt; says = tt; logged = inl refl }
first_stands s me Q false polls turns = record { maker = λ m is. absurd (none-some m is); shows = λ v is free. absurd (none-some v is); waits = refl; chosen = refl; word = tt; says = tt; logged = inl refl }

-- what a run is about to say
pub next_word : (s : Settings) (me : ℕ) (Q : View → Type 0) (spot : Spot) → Stands s me Q spot → (p : Packet) → said_next spot ≡ Some p → Word Q (Some p)
next_word s me Q (Saying sent rest st) stands p is = subst (λ (o : Packet). Word Q (Some o)) (same_Some sent.packet p is) stands.says.0
next_word s me Q (Receiving st) stands p is = absurd (none-some p is)
next_word s me Q (Looking chosen) stands p is = absurd (none-some p is)
next_word s me Q (Acting entry outs o rest st) stands p is = absurd (none-some p is)
next_word s me Q (Polling poll sents st) stands p is = absurd (none-some p is)
next_word s me Q (Parting end sent rest st) stands p is = absurd (none-some p is)
next_word s me Q (Ended ran) stands p is = absurd (none-some p is)

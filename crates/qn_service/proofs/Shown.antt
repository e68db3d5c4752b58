-- From call to call the log of a running node shows the view that its view maker handed on.
use Rattle.std.proofs.Common.{◌≡◌, ℕ, suc, zero, ◌*◌, ◌+◌, ◌%◌, ◌^◌, ◌<◌, ◌≤◌, Bool, true, false, not, ◌&&◌, List, [], ◌∷◌, Option, None, Some, is_some, length, if◌then◌else◌, refl, sym, ◌∙◌, ap, subst, arith}
use Rattle.std.specs.Prelude.{nat_lt, option_and_then, option_map, slice_index_or}
use Rattle.std.specs.Option.{option_map_or, option_or}
use Rattle.std.proofs.lemmas.Bool.{and_from, and_parts, false≢true, not-true, true≢false}
use Rattle.std.proofs.lemmas.Option.{none-some, same_Some}
use Rattle.qn_base.specs.declared.calls.Call.{Call}
use Rattle.qn_base.specs.declared.ids.Mask.{Mask}
use Rattle.qn_base.specs.declared.ids.View.{View}
use Rattle.qn_io.specs.Answered.{received_in, time_of}
use Rattle.qn_model.specs.declared.nodelist.NodeEntry.{NodeEntry}
use Rattle.qn_model.specs.declared.configuration.Settings.{Settings}
use Rattle.qn_model.specs.declared.entries.What.{What}
use Rattle.qn_model.specs.declared.entries.What.TheVariants as what
use Rattle.qn_model.specs.declared.outputs.Out.{Out}
use Rattle.qn_model.specs.declared.outputs.Out.TheVariants as out
use Rattle.qn_model.specs.declared.packets.Packet.{Packet}
use Rattle.qn_model.specs.declared.packets.Packet.TheVariants as packet
use Rattle.qn_model.specs.declared.packets.Sent.{Sent}
use Rattle.qn_model.specs.Fitting.{fits, is_own_view}
use Rattle.qn_model.specs.Log.{Line, is_view, now, view_of}
use Rattle.qn_model.specs.NodeOutputs.{newest_outs, with_entry}
use Rattle.qn_model.specs.NodeVotes.{view}
use Rattle.qn_model.specs.Phases.{is_live, phase}
use Rattle.qn_member.specs.Maker.{Maker, after_tick, has_configured, installed_beside, is_configured, is_in_one, looked, view_at}
use Rattle.qn_member.specs.Naming.{NamingMaker, first_naming, has_bit, is_own, knows_bit}
use Rattle.qn_member.specs.NamingViews.{after_by_name, after_found, after_look, after_naming_hello_due, after_plain_look, answer_at, company_now, copy_of, handed, is_closed_to, looked_by_name, seeing_names, view_by_name, view_found}
use Rattle.qn_member.specs.Maker as maker
use Rattle.qn_safety.specs.declared.polls.Poll.{Poll}
use Rattle.qn_live.specs.declared.live_end.LiveEnd.{LiveEnd}
use Rattle.qn_live.specs.declared.place.Choice.{Choice}
use Rattle.qn_live.specs.declared.place.Choice.TheVariants as choice
use Rattle.qn_live.specs.declared.place.Waits.{Waits}
use Rattle.qn_live.specs.declared.words.Own.{Own}
use Rattle.qn_live.specs.Choosing.{heard, is_late, is_to_leave, looked as looked_with, looking, own_of, packet_in, ready, told, view_or_tick}
use Rattle.qn_live.specs.Greetings.{maker_begun, maker_where}
use Rattle.qn_live.specs.Performing.{end_in, noted, waits_after}
use Rattle.qn_live.specs.Polling.{answered, poll_due, polled}
use Rattle.qn_live.specs.Running.{RunState}
use Rattle.qn_live.specs.Runs.{asked_maker, greets, looked_at, taken}
use Rattle.qn_joined.specs.Stands.{Acting, Ended, Looking, Parting, Polling, Receiving, Saying, Spot, acts_at, after_spot, begun_at, clocked_by, farewells_due, first_stand, log_at, opening, parts_at, polled_at, said_at, sends_due, settled_by, taking}
use Rattle.qn_service.specs.Hellos.{packet_chosen}
use Rattle.qn_service.specs.Looks.{LookOf, look_at, look_by, look_in}
use Rattle.qn_service.specs.Shown.{copy_shown}
use Rattle.qn_service.proofs.Configured.{IsWithin, found_fits, found_within}
use Rattle.qn_service.proofs.Flags.{begun_flags, due_flags, found_flags, told_flags, told_knows}
use Rattle.qn_service.proofs.KeptViews.{due_next, stand_next, told_next}
use Rattle.qn_service.proofs.Least.{keeps_view}
use Rattle.qn_service.proofs.Knowing.{Knows, Word, after_known, announce_known, begun_known, due_known, heard_known, look_known, stand_known}
use Rattle.qn_service.proofs.Made.{if_is, leading_keeps}
use Rattle.qn_service.proofs.SpotLogs.{acts_log, parts_log, said_log}
use Rattle.qn_service.proofs.Walking.{answer_no_view, chooses_view, chosen_in, chosen_then, is_no_view}

-- ## What came

-- An announcement of members that are not configured is passed over, so those that are kept are of configured members alone.
heard_within : (s : Settings) (me tick : ℕ) (p : Option Packet) (m : NamingMaker) → Knows s me (IsWithin s.nodes) m.maker → Knows s me (IsWithin s.nodes) (heard tick p m).maker
heard_within s me tick None m known = known
heard_within s me tick (Some (packet.Hello from)) m known = heard_known s me (IsWithin s.nodes) tick (Some (packet.Hello from)) m known tt
heard_within s me tick (Some (packet.Heard from said standing)) m known = heard_known s me (IsWithin s.nodes) tick (Some (packet.Heard from said standing)) m known tt
heard_within s me tick (Some (packet.Ask ask)) m known = known
heard_within s me tick (Some (packet.Tell tell)) m known = known
heard_within s me tick (Some (packet.Vote agrees)) m known = known
heard_within s me tick (Some (packet.Announce from v)) m known =
    announce_known s me (IsWithin s.nodes) from.0 v m known
    (λ counts member. subst (λ (nodes : List NodeEntry). has_configured nodes v.members ≡ true) known.nodes
    (and_parts (is_configured m.maker from.0) (has_configured m.maker.nodes v.members) counts).1)

told_within : (s : Settings) (me tick : ℕ) (own : Own) (p : Option Packet) (m : NamingMaker) → Knows s me (IsWithin s.nodes) m.maker → Knows s me (IsWithin s.nodes) (told tick own p m).maker
told_within s me tick own p m known = stand_known s me (IsWithin s.nodes) own.said own.holds (heard tick p m) (heard_within s me tick p m known)

-- ## What a view maker has handed on

-- A view maker of a rank: what was announced to it has configured members, its present view is one of its node, and the log has the copy that it handed on.
pub record Agrees (s : Settings) (me : ℕ) (log : List Line) (m : NamingMaker) : Type 0 where
  pub known : Knows s me (IsWithin s.nodes) m.maker
  pub flags : length m.flags ≡ 32
  pub fits : (v : View) → m.maker.view ≡ Some v → is_own_view s me v ≡ true
  pub shows : (v : View) → m.maker.view ≡ Some v → view log ≡ Some (copy_shown m.closed v)

-- what it is told and what it says changes nothing of that
told_agrees : (s : Settings) (me tick : ℕ) (own : Own) (p : Option Packet) (log : List Line) (m : NamingMaker) → Agrees s me log m → Agrees s me log (told tick own p m)
told_agrees s me tick own p log m agrees =
    let kept : (told tick own p m).maker.view ≡ m.maker.view = (told_next tick own p m).view in
    record {
      known = told_within s me tick own p m agrees.known;
      flags = (told_flags tick own p m).flags ∙ agrees.flags;
      fits = λ v is. agrees.fits v (sym kept ∙ is);
      shows = λ v is. agrees.shows v (sym kept ∙ is) ∙ ap (λ c. Some (copy_shown c v)) (sym (told_flags tick own p m).closed);
    }

due_agrees : (s : Settings) (me tick : ℕ) (log : List Line) (m : NamingMaker) → Agrees s me log m → Agrees s me log (after_naming_hello_due tick m)
due_agrees s me tick log m agrees =
    let kept : (after_naming_hello_due tick m).maker.view ≡ m.maker.view = (due_next tick m).view in
    record {
      known = due_known s me (IsWithin s.nodes) tick m agrees.known;
      flags = (due_flags tick m).flags ∙ agrees.flags;
      fits = λ v is. agrees.fits v (sym kept ∙ is);
      shows = λ v is. agrees.shows v (sym kept ∙ is) ∙ ap (λ c. Some (copy_shown c v)) (sym (due_flags tick m).closed);
    }

-- one that is new has no view
begun_agrees : (s : Settings) (me loop_ms : ℕ) (own : Own) (log : List Line) → Agrees s me log (maker_begun s me loop_ms own)
begun_agrees s me loop_ms own log =
    let none : (maker_begun s me loop_ms own).maker.view ≡ None = (stand_next own.said own.holds (first_naming s me loop_ms)).view in
    record {
      known = begun_known s me (IsWithin s.nodes) loop_ms own;
      flags = (begun_flags s me loop_ms own).flags;
      fits = λ v is. absurd (none-some v (sym none ∙ is));
      shows = λ v is. absurd (none-some v (sym none ∙ is));
    }

-- an entry that is no view leaves the view of the log
kept_by : (s : Settings) (me : ℕ) (log : List Line) (tick : ℕ) (entry : What) → is_view entry ≡ false → view (with_entry s me log (record { tick = tick; what = entry })) ≡ view log
unfolding with_entry view
kept_by s me log tick entry plain = by_fit (fits s me log entry)
  where
    none : (o : Option View) → is_some o ≡ false → o ≡ None
    none None off = refl
    none (Some v) off = absurd (true≢false off)

    by_fit : (b : Bool) → option_or (view_of (if b then entry else what.Tick)) (view log) ≡ view log
    by_fit true = ap (λ o. option_or o (view log)) (none (view_of entry) plain)
    by_fit false = refl

-- one that is a view of the node, which takes part, is the view of the log
read_by : (s : Settings) (me : ℕ) (log : List Line) (tick : ℕ) (v : View) → is_live (phase s log) ≡ true → is_own_view s me v ≡ true
    → view (with_entry s me log (record { tick = tick; what = what.View v })) ≡ Some v
unfolding with_entry view
read_by s me log tick v live own =
    ap (λ b. option_or (view_of (if b then what.View v else what.Tick)) (view log)) (and_from (is_live (phase s log)) (is_own_view s me v) live own)

-- the copy has the members of the view
copy_fits : (s : Settings) (me : ℕ) (m : NamingMaker) (v : View) → is_own_view s me v ≡ true → is_own_view s me (copy_of m v) ≡ true
copy_fits s me m v own = by_closed (is_closed_to m v)
  where
    by_closed : (b : Bool) → is_own_view s me (if b then record v { id = 254 * 2 ^ 56 + v.id % 2 ^ 56 } else v) ≡ true
    by_closed true = own
    by_closed false = own

-- ## A look

-- the view that a look leaves is the one that it gave, or the one before
gave_view : (tick : ℕ) (m : NamingMaker) (v : View) → view_found tick m ≡ Some v → (after_found tick m).maker.view ≡ Some v
unfolding view_found after_found after_tick
gave_view tick m v found = by_own (is_own m knows_bit) refl
  where
    installs : (company : Mask) (given : Option View) (k : Maker) → given ≡ Some v → (installed_beside company given k).view ≡ Some v
    installs company None k is = absurd (none-some v is)
    installs company (Some w) k is = is

    by_own : (b : Bool) → is_own m knows_bit ≡ b → (after_found tick m).maker.view ≡ Some v
    by_own true own =
        ap (λ (n : NamingMaker). n.maker.view) (if_is true (is_own m knows_bit) (after_by_name tick m) (after_plain_look tick m) own)
        ∙ installs (company_now (seeing_names tick m)) (view_by_name tick m) (looked_by_name tick m).maker (sym (if_is true (is_own m knows_bit) (view_by_name tick m) (view_at tick m.maker) own) ∙ found)
    by_own false own =
        ap (λ (n : NamingMaker). n.maker.view) (if_is false (is_own m knows_bit) (after_by_name tick m) (after_plain_look tick m) own)
        ∙ ap (λ (k : Maker). k.view) (leading_keeps tick (maker.led_by (after_tick tick m.maker)) (record m { maker = after_tick tick m.maker }) (after_tick tick m.maker) refl)
        ∙ installs (maker.company_at (looked tick m.maker)) (view_at tick m.maker) (looked tick m.maker) (sym (if_is false (is_own m knows_bit) (view_by_name tick m) (view_at tick m.maker) own) ∙ found)

after_stays : (m : NamingMaker) (tick : ℕ) → view_found tick m ≡ None → (after_found tick m).maker.view ≡ m.maker.view
unfolding after_look
after_stays m tick none = keeps_view m tick none

-- the view that the log has after a look, by whether it gave one
module _ (s : Settings) (me tick : ℕ) (log : List Line) (m : NamingMaker) (agrees : Agrees s me log m) (live : is_live (phase s log) ≡ true) (under : me < length s.nodes)
    (knows : is_own m knows_bit ≡ true) where
  abbrev IsShown : View → Type 0
  IsShown v = view (with_entry s me log (record { tick = tick; what = view_or_tick (answer_at tick m) })) ≡ Some (copy_of (after_found tick m) v)

  view_fits : (v : View) → (after_found tick m).maker.view ≡ Some v → is_own_view s me v ≡ true
  view_fits v is = by_found (view_found tick m) refl
    where
      by_found : (o : Option View) → view_found tick m ≡ o → is_own_view s me v ≡ true
      by_found None none = agrees.fits v (sym (after_stays m tick none) ∙ is)
      by_found (Some w) found =
          subst (λ (x : View). is_own_view s me x ≡ true) (same_Some w v (sym (gave_view tick m w found) ∙ is)) (found_fits s me tick m w agrees.known under found)

  handed_view : (w : View) → view_found tick m ≡ Some w → IsShown w
  unfolding answer_at
  handed_view w found =
      ap (λ o. view (with_entry s me log (record { tick = tick; what = view_or_tick (handed o (after_found tick m)) }))) found
      ∙ read_by s me log tick (copy_of (after_found tick m) w) live (copy_fits s me (after_found tick m) w (view_fits w (gave_view tick m w found)))

  -- where the look gave none, the copy is handed on again if it is another one
  again : (v : View) → (after_found tick m).maker.view ≡ Some v → view_found tick m ≡ None
      → answer_at tick m ≡ (if is_in_one (is_closed_to (after_found tick m) v) (after_found tick m).closed then Some (copy_of (after_found tick m) v) else None)
  unfolding answer_at
  again v is none =
      ap (λ o. handed o (after_found tick m)) none
      ∙ ap (λ b. if b
      then option_and_then (λ w. if is_in_one (is_closed_to (after_found tick m) w) (after_found tick m).closed then Some (copy_of (after_found tick m) w) else None) (after_found tick m).maker.view
      else None) knows_then
      ∙ ap (option_and_then (λ w. if is_in_one (is_closed_to (after_found tick m) w) (after_found tick m).closed then Some (copy_of (after_found tick m) w) else None)) is
    where
      after : Knows s me (IsWithin s.nodes) (after_found tick m).maker
      after = look_known s me (IsWithin s.nodes) tick m agrees.known (λ w found. found_within s me tick m w agrees.known found)

      knows_then : is_own (after_found tick m) knows_bit ≡ true
      knows_then =
          ap (λ r. nat_lt r 32 && has_bit (slice_index_or (after_found tick m).flags r 0) knows_bit) (after.own ∙ sym agrees.known.own)
          ∙ ap (λ flags. nat_lt m.maker.me 32 && has_bit (slice_index_or flags m.maker.me 0) knows_bit) (found_flags tick m).flags ∙ knows

  kept_view : (v : View) → (after_found tick m).maker.view ≡ Some v → view_found tick m ≡ None → IsShown v
  kept_view v is none = by_again (is_closed_to (after_found tick m) v) m.closed refl refl
    where
      before : view log ≡ Some (copy_shown m.closed v)
      before = agrees.shows v (sym (after_stays m tick none) ∙ is)

      closed : (after_found tick m).closed ≡ m.closed
      closed = (found_flags tick m).closed

      Reads : Option View → Type 0
      Reads o = view (with_entry s me log (record { tick = tick; what = view_or_tick o })) ≡ Some (copy_of (after_found tick m) v)

      answers : (b c : Bool) → is_closed_to (after_found tick m) v ≡ b → m.closed ≡ c → answer_at tick m ≡ (if is_in_one b c then Some (copy_of (after_found tick m) v) else None)
      answers b c one other =
          again v is none ∙ ap (λ d. if is_in_one d (after_found tick m).closed then Some (copy_of (after_found tick m) v) else None) one
          ∙ ap (λ d. if is_in_one b d then Some (copy_of (after_found tick m) v) else None) (closed ∙ other)

      anew : answer_at tick m ≡ Some (copy_of (after_found tick m) v) → IsShown v
      anew said = subst Reads (sym said) (read_by s me log tick (copy_of (after_found tick m) v) live (copy_fits s me (after_found tick m) v (view_fits v is)))

      stays : is_closed_to (after_found tick m) v ≡ m.closed → answer_at tick m ≡ None → IsShown v
      stays same said =
          subst Reads (sym said) (kept_by s me log tick what.Tick refl ∙ before ∙ ap (λ c. Some (copy_shown c v)) (sym same))

      by_again : (b c : Bool) → is_closed_to (after_found tick m) v ≡ b → m.closed ≡ c → IsShown v
      by_again true true one other = stays (one ∙ sym other) (answers true true one other)
      by_again true false one other = anew (answers true false one other)
      by_again false true one other = anew (answers false true one other)
      by_again false false one other = stays (one ∙ sym other) (answers false false one other)

  shown_then : (v : View) → (after_found tick m).maker.view ≡ Some v → IsShown v
  shown_then v is = by_found (view_found tick m) refl
    where
      by_found : (o : Option View) → view_found tick m ≡ o → IsShown v
      by_found None none = kept_view v is none
      by_found (Some w) found = subst IsShown (same_Some w v (sym (gave_view tick m w found) ∙ is)) (handed_view w found)

  pub look_agrees : Agrees s me (with_entry s me log (record { tick = tick; what = view_or_tick (answer_at tick m) })) (after_look tick m)
  unfolding after_look
  look_agrees =
      record {
        known = after_known s me (IsWithin s.nodes) tick m
            (look_known s me (IsWithin s.nodes) tick m agrees.known (λ w found. found_within s me tick m w agrees.known found));
        flags = ap length (found_flags tick m).flags ∙ agrees.flags;
        fits = view_fits;
        shows = λ v is. shown_then v is ∙ ap (λ o. Some (copy_shown (option_map_or (is_closed_to (after_found tick m)) o false) v)) (sym is);
      }

-- an entry that is no view
plainly : (s : Settings) (me : ℕ) (log : List Line) (tick : ℕ) (entry : What) → is_view entry ≡ false → (m : NamingMaker) → Agrees s me log m
    → Agrees s me (with_entry s me log (record { tick = tick; what = entry })) m
plainly s me log tick entry plain m agrees =
    record { known = agrees.known; flags = agrees.flags; fits = agrees.fits; shows = λ v is. kept_by s me log tick entry plain ∙ agrees.shows v is }

-- ## Where a run stands

-- the view maker agrees with the log, and no answer that waits is a view
pub record Fine (s : Settings) (me : ℕ) (st : RunState) : Type 0 where
  pub maker : (m : NamingMaker) → st.maker ≡ Some m → Agrees s me st.log m
  pub waits : is_no_view st.waits.disk ≡ true

-- between two turns it is there only while the node takes part
abbrev pub LivesThen : Settings → RunState → Type 0
LivesThen s st = is_some st.maker ≡ true → is_live (phase s st.log) ≡ true

pub record Turns (s : Settings) (me : ℕ) (st : RunState) : Type 0 where
  pub fine : Fine s me st
  pub lives : LivesThen s st

pub record Chooses (s : Settings) (me : ℕ) (chosen : Choice × RunState) : Type 0 where
  pub turns : Turns s me chosen.1
  pub plain : chooses_view chosen.0 ≡ false

abbrev pub ShownAt : Settings → ℕ → Spot → Type 0
ShownAt s me (Receiving st) = Turns s me st
ShownAt s me (Looking chosen) = Chooses s me chosen
ShownAt s me (Acting entry outs o rest st) = Fine s me st
ShownAt s me (Polling poll sents st) = Turns s me st
ShownAt s me (Saying sent rest st) = Turns s me st
ShownAt s me (Parting end sent rest st) = Unit {0}
ShownAt s me (Ended ran) = Unit {0}

module _ (s : Settings) (me : ℕ) where
  -- ## From turn to turn

  with_waits : (st : RunState) (waits : Waits) → Turns s me st → is_no_view waits.disk ≡ true → Turns s me (record st { waits = waits })
  with_waits st waits turns plain = record { fine = record { maker = turns.fine.maker; waits = plain }; lives = turns.lives }

  opening_shown : (st : RunState) (late : Bool) → Turns s me st → ShownAt s me (opening st late)
  opening_shown st true turns = record { turns = turns; plain = refl }
  opening_shown st false turns = turns

  whole_shown : (st : RunState) (entry : What) → Turns s me st → is_view entry ≡ false → ShownAt s me (Looking (choice.Whole entry, st))
  whole_shown st entry turns plain = record { turns = turns; plain = plain }

  taking_shown : (st : RunState) (leaves rests : Bool) (stopped : Option Bool) (disk : Option What) → Turns s me st → is_no_view disk ≡ true
      → ShownAt s me (taking (record st { waits = record { stopped = stopped; disk = disk } }) (ready leaves rests (record { stopped = stopped; disk = disk })))
  taking_shown st leaves rests (Some ok) disk turns plain =
      whole_shown (record st { waits = record { stopped = None; disk = disk } }) (what.Stopped ok) (with_waits st _ turns plain) refl
  taking_shown st leaves false None (Some answer) turns plain =
      whole_shown (record st { waits = record { stopped = None; disk = None } }) answer (with_waits st _ turns refl) (not-true (is_view answer) plain)
  taking_shown st true false None None turns plain =
      whole_shown (record st { waits = record { stopped = None; disk = None } }) what.Leave (with_waits st _ turns refl) refl
  taking_shown st false false None None turns plain =
      opening_shown (record st { waits = record { stopped = None; disk = None } }) (is_late st) (with_waits st _ turns refl)
  taking_shown st true true None disk turns plain =
      whole_shown (record st { waits = record { stopped = None; disk = disk } }) what.Leave (with_waits st _ turns plain) refl
  taking_shown st false true None disk turns plain =
      opening_shown (record st { waits = record { stopped = None; disk = disk } }) (is_late st) (with_waits st _ turns plain)

  begun_shown : (leave : Option ℕ) (turn more : ℕ) (st : RunState) → Turns s me st → ShownAt s me (begun_at s me leave turn more st).spot
  begun_shown leave turn zero st turns = tt
  begun_shown leave turn (suc more) st turns = taking_shown st (is_to_leave s leave turn st) st.rests st.waits.stopped st.waits.disk turns turns.fine.waits

  said_shown : (leave : Option ℕ) (turn more : ℕ) (st : RunState) (sents : List Sent) → Turns s me st → ShownAt s me (said_at s me leave turn more st sents).spot
  said_shown leave turn more st [] turns = begun_shown leave turn more st turns
  said_shown leave turn more st (sent ∷ rest) turns = turns

  polled_shown : (leave : Option ℕ) (turn more : ℕ) (st : RunState) (sents : List Sent) (poll : Option Poll) → Turns s me st
      → ShownAt s me (polled_at s me leave turn more st sents poll).spot
  polled_shown leave turn more st sents None turns = said_shown leave turn more st sents turns
  polled_shown leave turn more st sents (Some poll) turns = turns

  parts_shown : (turn more : ℕ) (end : LiveEnd) (st : RunState) (sents : List Sent) → ShownAt s me (parts_at turn more end st sents).spot
  parts_shown turn more end st [] = tt
  parts_shown turn more end st (sent ∷ rest) = tt

  -- the view maker that a turn leaves
  asked_shown : (tick : ℕ) (live : Bool) (loop_ms : ℕ) (own : Own) (log : List Line) (had : Option NamingMaker) → ((m : NamingMaker) → had ≡ Some m → Agrees s me log m)
      → (m : NamingMaker) → option_map (after_naming_hello_due tick) (maker_where live (maker_begun s me loop_ms own) had) ≡ Some m → Agrees s me log m
  asked_shown tick false loop_ms own log had agrees m is = absurd (none-some m is)
  asked_shown tick true loop_ms own log (Some before) agrees m is =
      subst (Agrees s me log) (same_Some (after_naming_hello_due tick before) m is) (due_agrees s me tick log before (agrees before refl))
  asked_shown tick true loop_ms own log None agrees m is =
      subst (Agrees s me log) (same_Some (after_naming_hello_due tick (maker_begun s me loop_ms own)) m is)
      (due_agrees s me tick log (maker_begun s me loop_ms own) (begun_agrees s me loop_ms own log))

  asked_lives : (tick : ℕ) (live : Bool) (begun : NamingMaker) (had : Option NamingMaker)
      → is_some (option_map (after_naming_hello_due tick) (maker_where live begun had)) ≡ true → live ≡ true
  asked_lives tick true begun had is = refl
  asked_lives tick false begun had is = absurd (false≢true is)

  settled_shown : (leave : Option ℕ) (turn more : ℕ) (entry : What) (st : RunState) (found : Option LiveEnd) → Fine s me st
      → ShownAt s me (settled_by s me leave turn more entry st found).spot
  settled_shown leave turn more entry st None fine =
      polled_shown leave turn more (polled s me (greets s me st) entry (asked_maker s me st)) (sends_due s me st)
      (poll_due s me (greets s me st) entry (asked_maker s me st))
      (record {
        fine = record {
          maker = asked_shown (now st.log) (is_live (phase s st.log)) st.loop_ms (own_of st) st.log st.maker fine.maker;
          waits = fine.waits;
        };
        lives = asked_lives (now st.log) (is_live (phase s st.log)) (maker_begun s me st.loop_ms (own_of st)) st.maker;
      })
  settled_shown leave turn more entry st (Some end) fine = parts_shown turn more end st (farewells_due s me end st)

  acts_shown : (leave : Option ℕ) (turn more : ℕ) (entry : What) (outs rest : List Out) (st : RunState) → Fine s me st
      → ShownAt s me (acts_at s me leave turn more entry outs rest st).spot
  acts_shown leave turn more entry outs [] st fine = settled_shown leave turn more entry st (end_in entry outs) fine
  acts_shown leave turn more entry outs (o ∷ rest) st fine = fine

  noted_fine : (st : RunState) (o : Out) (made : Call) → Fine s me st → Fine s me (noted s o made st)
  unfolding waits_after
  noted_fine st out.Stop made fine = record { maker = fine.maker; waits = fine.waits }
  noted_fine st out.Start made fine = record { maker = fine.maker; waits = fine.waits }
  noted_fine st out.Feed made fine = record { maker = fine.maker; waits = fine.waits }
  noted_fine st (out.Send to sent) made fine = record { maker = fine.maker; waits = fine.waits }
  noted_fine st (out.Disk op) made fine = record { maker = fine.maker; waits = ap not (answer_no_view s op made) }
  noted_fine st out.Disarm made fine = record { maker = fine.maker; waits = fine.waits }
  noted_fine st (out.Halt halted) made fine = record { maker = fine.maker; waits = fine.waits }

  -- ## An entry

  module _ (under : me < length s.nodes) (few : length s.nodes ≤ 32) where
    -- at a look the node knows names
    looks_know : (tick : ℕ) (own : Own) (p : Option Packet) (log : List Line) (m : NamingMaker) → Agrees s me log m → is_own (told tick own p m) knows_bit ≡ true
    looks_know tick own p log m agrees =
        let known = heard_within s me tick p m agrees.known in
        told_knows tick own p m me known.own (subst (λ (nodes : List NodeEntry). me < length nodes) (sym known.nodes) under) (omega (arith, under, few)) agrees.flags

    taken_fine : (st : RunState) (tick : ℕ) (own : Own) (chosen : Choice) (had : Option NamingMaker) → ((m : NamingMaker) → had ≡ Some m → Agrees s me st.log m)
        → (is_some had ≡ true → is_live (phase s st.log) ≡ true) → is_no_view st.waits.disk ≡ true → chooses_view chosen ≡ false
        → Fine s me (taken s me st tick (looked_with tick own chosen had))
    taken_fine st tick own (choice.Whole entry) had agrees lives waits plain =
        record { maker = λ m is. plainly s me st.log tick entry plain m (agrees m is); waits = waits }
    taken_fine st tick own (choice.Answer reply) had agrees lives waits plain =
        record { maker = λ m is. plainly s me st.log tick what.Tick refl m (agrees m is); waits = waits }
    taken_fine st tick own (choice.Open p) None agrees lives waits plain = record { maker = λ m is. absurd (none-some m is); waits = waits }
    taken_fine st tick own (choice.Open p) (Some before) agrees lives waits plain =
        record {
          maker = λ n is. subst (Agrees s me (with_entry s me st.log (record { tick = tick; what = view_or_tick (answer_at tick (told tick own p before)) })))
              (same_Some (after_look tick (told tick own p before)) n is)
              (look_agrees s me tick st.log (told tick own p before) (told_agrees s me tick own p st.log before (agrees before refl)) (lives refl) under
              (looks_know tick own p st.log before (agrees before refl)));
          waits = waits;
        }

-- ## A call

-- nothing is asked of a word here
any_word : (p : Option Packet) → Word (λ v. Unit {0}) p
any_word None = tt
any_word (Some (packet.Announce from v)) = λ member. tt
any_word (Some (packet.Hello from)) = tt
any_word (Some (packet.Heard from said standing)) = tt
any_word (Some (packet.Ask ask)) = tt
any_word (Some (packet.Tell tell)) = tt
any_word (Some (packet.Vote agrees)) = tt

module _ (s : Settings) (me : ℕ) (under : me < length s.nodes) (few : length s.nodes ≤ 32) where
  -- what is chosen at its tick is no view
  plain_then : (tick : ℕ) (chosen : Choice × RunState) → chooses_view chosen.0 ≡ false → chooses_view (answered tick chosen).0 ≡ false
  plain_then tick chosen plain = (chosen_then (λ v. Unit {0}) tick chosen.1.poller chosen.0 plain (any_word (packet_chosen chosen.0))).plain

  clocked_shown : (leave : Option ℕ) (turn more tick : ℕ) (chosen : Choice × RunState) (back : Bool) → Chooses s me chosen
      → ShownAt s me (clocked_by s me leave turn more chosen tick back).spot
  clocked_shown leave turn more tick chosen true chooses = tt
  clocked_shown leave turn more tick chosen false chooses =
      let st = looking tick (answered tick chosen) in
      let found = looked_at tick (answered tick chosen) in
      let after = taken s me st tick found in
      acts_shown s me leave turn more found.1 (newest_outs after.log) (newest_outs after.log) after
      (taken_fine s me under few st tick (own_of st) (answered tick chosen).0 chosen.1.maker chooses.turns.fine.maker chooses.turns.lives chooses.turns.fine.waits
      (plain_then tick chosen chooses.plain))

  pub spot_shown : (leave : Option ℕ) (turn more : ℕ) (spot : Spot) (made : Call) → ShownAt s me spot → ShownAt s me (after_spot s me leave turn more spot made).spot
  unfolding after_spot
  spot_shown leave turn more (Receiving st) made turns =
      record {
        turns = record { fine = record { maker = turns.fine.maker; waits = turns.fine.waits }; lives = turns.lives };
        plain = (chosen_in (λ v. Unit {0}) me st.poller (received_in made) (any_word (packet_in (received_in made)))).plain;
      }
  spot_shown leave turn more (Looking chosen) made chooses = clocked_shown leave turn more (time_of made) chosen (nat_lt (time_of made) (now chosen.1.log)) chooses
  spot_shown leave turn more (Acting entry outs o rest st) made fine = acts_shown s me leave turn more entry outs rest (noted s o made st) (noted_fine s me st o made fine)
  spot_shown leave turn more (Polling poll sents st) made turns = said_shown s me leave turn more st sents turns
  spot_shown leave turn more (Saying sent rest st) made turns = said_shown s me leave turn more st rest turns
  spot_shown leave turn more (Parting end sent rest st) made shown = parts_shown s me turn more end st rest
  spot_shown leave turn more (Ended ran) made shown = tt

  -- ## What the log shows then

  unlooked_log : (st : RunState) (tick : ℕ) (own : Own) (chosen : Choice) (had : Option NamingMaker) → chooses_view chosen ≡ false → look_in me tick own chosen had ≡ None
      → view (taken s me st tick (looked_with tick own chosen had)).log ≡ view st.log
  unlooked_log st tick own (choice.Whole entry) had plain none = kept_by s me st.log tick entry plain
  unlooked_log st tick own (choice.Answer reply) had plain none = kept_by s me st.log tick what.Tick refl
  unlooked_log st tick own (choice.Open p) None plain none = kept_by s me st.log tick what.Tick refl
  unlooked_log st tick own (choice.Open p) (Some m) plain none = absurd (none-some _ (sym none))

  looked_log : (look : LookOf) (st : RunState) (tick : ℕ) (own : Own) (chosen : Choice) (had : Option NamingMaker) → ((m : NamingMaker) → had ≡ Some m → Agrees s me st.log m)
      → (is_some had ≡ true → is_live (phase s st.log) ≡ true) → look_in me tick own chosen had ≡ Some look
      → Agrees s me (taken s me st tick (looked_with tick own chosen had)).log (after_look look.tick look.maker)
  looked_log look st tick own (choice.Whole entry) had agrees lives found = absurd (none-some look found)
  looked_log look st tick own (choice.Answer reply) had agrees lives found = absurd (none-some look found)
  looked_log look st tick own (choice.Open p) None agrees lives found = absurd (none-some look found)
  looked_log look st tick own (choice.Open p) (Some before) agrees lives found =
      subst (λ (l : LookOf). Agrees s me (with_entry s me st.log (record { tick = tick; what = view_or_tick (answer_at tick (told tick own p before)) })) (after_look l.tick l.maker))
      (same_Some (record { rank = me; tick = tick; maker = told tick own p before }) look found)
      (look_agrees s me tick st.log (told tick own p before) (told_agrees s me tick own p st.log before (agrees before refl)) (lives refl) under
      (looks_know s me under few tick own p st.log before (agrees before refl)))

  clocked_same : (leave : Option ℕ) (turn more tick : ℕ) (chosen : Choice × RunState) (back : Bool) → Chooses s me chosen
      → (if back then None else look_by me tick (answered tick chosen)) ≡ None
      → view (log_at (clocked_by s me leave turn more chosen tick back).spot) ≡ view chosen.1.log
  clocked_same leave turn more tick chosen true chooses none = refl
  clocked_same leave turn more tick chosen false chooses none =
      let st = looking tick (answered tick chosen) in
      let found = looked_at tick (answered tick chosen) in
      let after = taken s me st tick found in
      ap view (acts_log s me leave turn more found.1 (newest_outs after.log) (newest_outs after.log) after)
      ∙ unlooked_log st tick (own_of st) (answered tick chosen).0 chosen.1.maker (plain_then tick chosen chooses.plain) none

  clocked_looks : (look : LookOf) (leave : Option ℕ) (turn more tick : ℕ) (chosen : Choice × RunState) (back : Bool) → Chooses s me chosen
      → (if back then None else look_by me tick (answered tick chosen)) ≡ Some look
      → Agrees s me (log_at (clocked_by s me leave turn more chosen tick back).spot) (after_look look.tick look.maker)
  clocked_looks look leave turn more tick chosen true chooses found = absurd (none-some look found)
  clocked_looks look leave turn more tick chosen false chooses found =
      let st = looking tick (answered tick chosen) in
      let got = looked_at tick (answered tick chosen) in
      let after = taken s me st tick got in
      subst (λ (log : List Line). Agrees s me log (after_look look.tick look.maker)) (sym (acts_log s me leave turn more got.1 (newest_outs after.log) (newest_outs after.log) after))
      (looked_log look st tick (own_of st) (answered tick chosen).0 chosen.1.maker chooses.turns.fine.maker chooses.turns.lives found)

  -- a call that is no look leaves the view of the log
  pub spot_same : (leave : Option ℕ) (turn more : ℕ) (spot : Spot) (made : Call) → ShownAt s me spot → look_at me spot made ≡ None
      → view (log_at (after_spot s me leave turn more spot made).spot) ≡ view (log_at spot)
  unfolding after_spot
  spot_same leave turn more (Receiving st) made shown none = refl
  spot_same leave turn more (Looking chosen) made chooses none = clocked_same leave turn more (time_of made) chosen (nat_lt (time_of made) (now chosen.1.log)) chooses none
  spot_same leave turn more (Acting entry outs o rest st) made shown none = ap view (acts_log s me leave turn more entry outs rest (noted s o made st))
  spot_same leave turn more (Polling poll sents st) made shown none = ap view (said_log s me leave turn more st sents)
  spot_same leave turn more (Saying sent rest st) made shown none = ap view (said_log s me leave turn more st rest)
  spot_same leave turn more (Parting end sent rest st) made shown none = ap view (parts_log s me turn more end st rest)
  spot_same leave turn more (Ended ran) made shown none = refl

  -- and after a look the log shows the view that it left
  pub spot_looks : (look : LookOf) (leave : Option ℕ) (turn more : ℕ) (spot : Spot) (made : Call) → ShownAt s me spot → look_at me spot made ≡ Some look
      → Agrees s me (log_at (after_spot s me leave turn more spot made).spot) (after_look look.tick look.maker)
  unfolding after_spot
  spot_looks look leave turn more (Looking chosen) made chooses found =
      clocked_looks look leave turn more (time_of made) chosen (nat_lt (time_of made) (now chosen.1.log)) chooses found
  spot_looks look leave turn more (Receiving st) made shown found = absurd (none-some look found)
  spot_looks look leave turn more (Acting entry outs o rest st) made shown found = absurd (none-some look found)
  spot_looks look leave turn more (Polling poll sents st) made shown found = absurd (none-some look found)
  spot_looks look leave turn more (Saying sent rest st) made shown found = absurd (none-some look found)
  spot_looks look leave turn more (Parting end sent rest st) made shown found = absurd (none-some look found)
  spot_looks look leave turn more (Ended ran) made shown found = absurd (none-some look found)

  -- at a look the node knows names
  in_knows : (look : LookOf) (tick : ℕ) (own : Own) (log : List Line) (chosen : Choice) (had : Option NamingMaker) → ((m : NamingMaker) → had ≡ Some m → Agrees s me log m)
      → look_in me tick own chosen had ≡ Some look → is_own look.maker knows_bit ≡ true
  in_knows look tick own log (choice.Whole entry) had agrees found = absurd (none-some look found)
  in_knows look tick own log (choice.Answer reply) had agrees found = absurd (none-some look found)
  in_knows look tick own log (choice.Open p) None agrees found = absurd (none-some look found)
  in_knows look tick own log (choice.Open p) (Some before) agrees found =
      subst (λ (l : LookOf). is_own l.maker knows_bit ≡ true) (same_Some (record { rank = me; tick = tick; maker = told tick own p before }) look found)
      (looks_know s me under few tick own p log before (agrees before refl))

  pub spot_knows : (look : LookOf) (spot : Spot) (made : Call) → ShownAt s me spot → look_at me spot made ≡ Some look → is_own look.maker knows_bit ≡ true
  spot_knows look (Looking chosen) made chooses found = by_order (nat_lt (time_of made) (now chosen.1.log)) found
    where
      by_order : (back : Bool) → (if back then None else look_by me (time_of made) (answered (time_of made) chosen)) ≡ Some look → is_own look.maker knows_bit ≡ true
      by_order true none = absurd (none-some look none)
      by_order false here =
          in_knows look (time_of made) (own_of (looking (time_of made) (answered (time_of made) chosen))) chosen.1.log (answered (time_of made) chosen).0 chosen.1.maker
          chooses.turns.fine.maker here
  spot_knows look (Receiving st) made shown found = absurd (none-some look found)
  spot_knows look (Acting entry outs o rest st) made shown found = absurd (none-some look found)
  spot_knows look (Polling poll sents st) made shown found = absurd (none-some look found)
  spot_knows look (Saying sent rest st) made shown found = absurd (none-some look found)
  spot_knows look (Parting end sent rest st) made shown found = absurd (none-some look found)
  spot_knows look (Ended ran) made shown found = absurd (none-some look found)

pub first_shown : (s : Settings) (me : ℕ) (clean : Bool) (polls : Option ℕ) (turns : ℕ) → ShownAt s me (first_stand clean polls turns).spot
first_shown s me true polls turns =
    record {
      turns = record { fine = record { maker = λ m is. absurd (none-some m is); waits = refl }; lives = λ is. absurd (false≢true is) };
      plain = refl;
    }
first_shown s me false polls turns =
    record {
      turns = record { fine = record { maker = λ m is. absurd (none-some m is); waits = refl }; lives = λ is. absurd (false≢true is) };
      plain = refl;
    }

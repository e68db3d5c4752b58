-- The fencing and the start over the moments of a quiet world.
use Rattle.qn_base.specs.Members.{is_member}
use Rattle.std.specs.Option.{option_map_or}
use Rattle.std.proofs.Common.{◌≡◌, ℕ, ◌+◌, ◌*◌, ◌≤◌, ◌<◌, Bool, true, false, List, [], ◌∷◌, length, Some, None, Option, refl, sym, ap, ◌∙◌, subst, arith, ◌&&◌, ◌==◌, not, if◌then◌else◌, is_some, nat_lt, mul_left_comm}
use Rattle.std.proofs.Math.Nat.{le-max_left, le-max_right}
use Rattle.std.proofs.lemmas.Bool.{false≢true, true≢false}
use Rattle.std.proofs.lemmas.Option.{none-some, same_Some}
use Rattle.qn_model.specs.declared.configuration.Settings.{Settings}
use Rattle.qn_model.specs.declared.times.Timing.{Timing}
use Rattle.qn_model.specs.declared.entries.What.{What}
use Rattle.qn_model.specs.declared.entries.What.TheVariants as what
use Rattle.qn_model.specs.declared.outputs.DiskOp.{DiskOp}
use Rattle.qn_model.specs.declared.life.Phase.{Phase}
use Rattle.qn_model.specs.declared.life.Phase.TheVariants.{Booting, Up}
use Rattle.qn_model.specs.lemmas.Entries.{read_fits}
use Rattle.qn_model.specs.Log.{Line, op_out, ask_tick, disk_of, now, timing}
use Rattle.qn_model.specs.NodeVotes.{view, install, quorate_with_tie, released, is_in_view, votes}
use Rattle.qn_model.specs.Votes.{view_tick}
use Rattle.qn_model.specs.Phases.{phase, is_booting}
use Rattle.qn_model.specs.Holding.{holds}
use Rattle.qn_model.specs.Fitting.{fits, read_as, is_cleared}
use Rattle.qn_model.specs.Licences.{out_time, reset_since, writes_reset}
use Rattle.qn_model.specs.Unmet.{is_chosen, is_given_away}
use Rattle.qn_model.specs.Wanted.{fence_delay}
use Rattle.qn_model.specs.NodeOutputs.{moment, taken_in, with_read, with_entry}
use Rattle.qn_model.specs.Moments.{Moment, Passes, Boots, Adds, Feeds, Ends, Running, tick_of, advance_of, logged, handed, booted, time, node, is_holder, Before, Itself, Later}
use Rattle.qn_safety.specs.Clocks.{RunsOn, clock}
use Rattle.qn_safety.specs.Timed.{IsTimedRun}
use Rattle.qn_safety.specs.Earlier.{before_tail}
use Rattle.qn_progress.proofs.Below.{Below}
use Rattle.qn_progress.specs.Pace.{Pace, outside_one, outside, fencing_ticks, take_over_ticks}
use Rattle.qn_progress.specs.Quiet.{is_gentle, newest, IsQuiet, QuietSince, FromHere, AndThen, HasHeardAll, IsAlone, DelaysOver}
use Rattle.qn_progress.proofs.Tools.{same_or_less}
use Rattle.qn_progress.proofs.Totals.{total_twice}
use Rattle.qn_progress.proofs.Entries.{one, owed, pending, in_view_same, view_same, view_tick_same, no_view, plain_entry, Plain}
use Rattle.qn_progress.proofs.Busy.{Busy, Idle, Stale, line_with, Quietly}
use Rattle.qn_progress.proofs.Steps.{busy_next, outs_now}
use Rattle.qn_progress.proofs.Starts.{ResetsBy, resets_next, starts, free_stays}

-- each line of a log was read by a tick
pub ReadBy : ℕ → List Line → Type 0
ReadBy tick [] = Unit {0}
ReadBy tick (line ∷ past) = (line.tick ≤ tick) × ReadBy tick past

by_later : (first second : ℕ) → first ≤ second → (log : List Line) → ReadBy first log → ReadBy second log
unfolding ReadBy
by_later first second le [] by' = tt
by_later first second le (line ∷ past) by' = (let here = by'.0 in omega arith, by_later first second le past by'.1)

pub now_by : (tick : ℕ) (log : List Line) → ReadBy tick log → now log ≤ tick
unfolding ReadBy
now_by tick [] by' = omega arith
now_by tick (line ∷ past) by' = by'.0

ask_by : (tick : ℕ) (log : List Line) → ReadBy tick log → ask_tick log ≤ tick
unfolding ReadBy ask_tick
ask_by tick [] by' = omega arith
ask_by tick (line ∷ past) by' = by_test (is_some (disk_of line.outs)) by'.0 (ask_by tick past by'.1)
  where
    by_test : (b : Bool) → line.tick ≤ tick → ask_tick past ≤ tick → (if b then line.tick else ask_tick past) ≤ tick
    by_test true here rest = here
    by_test false here rest = rest

-- the last asking moment was no later than the clock
pub asked_by : (s : Settings) (tick : ℕ) (log : List Line) → ReadBy tick log → (last : ℕ) → moment s log ≡ Some last → last ≤ tick
unfolding ReadBy moment
asked_by s tick [] by' last is = absurd (none-some last is)
asked_by s tick (line ∷ past) by' last is = by_test _ is (λ rest. asked_by s tick past by'.1 last rest)
  where
    by_test : (b : Bool) → (if b then Some line.tick else moment s past) ≡ Some last → (moment s past ≡ Some last → last ≤ tick) → last ≤ tick
    by_test true here rest = let same : line.tick ≡ last = same_Some _ _ here in let read = by'.0 in omega arith
    by_test false here rest = rest here

reset_by : (tick place rank : ℕ) (log : List Line) → ReadBy tick log → (w : ℕ) → reset_since place rank log ≡ Some w → w ≤ tick
unfolding ReadBy reset_since
reset_by tick place rank [] by' w e = absurd (none-some w e)
reset_by tick place rank (line ∷ past) by' w e = by_test (nat_lt place line.asked && writes_reset rank line.what) e (λ rest. reset_by tick place rank past by'.1 w rest)
  where
    by_test : (b : Bool) → (if b then Some line.tick else reset_since place rank past) ≡ Some w → (reset_since place rank past ≡ Some w → w ≤ tick) → w ≤ tick
    by_test true is rest = let same : line.tick ≡ w = same_Some _ _ is in let here = by'.0 in omega arith
    by_test false is rest = rest is

-- what a moment is to the log and the clock of a node
pub data Move (s : Settings) (me : ℕ) (old new : Running) : Type 0 where
  Rests : new.log ≡ old.log → tick_of old.clock ≤ tick_of new.clock → new.boots ≡ old.boots → Move s me old new
  Enters : (entry : What) → fits s me old.log entry ≡ true → new.log ≡ with_read s me old.log (tick_of old.clock) entry → new.clock ≡ old.clock → new.boots ≡ old.boots → Move s me old new
  Restarts : (line : Line) → new.log ≡ line ∷ [] → line.tick ≤ tick_of new.clock → phase s new.log ≡ Booting → Move s me old new

pub booted_move : (s : Settings) (me now' base : ℕ) (clean : Bool) (old : Running) → Move s me old (booted s me now' base clean old)
unfolding booted handed logged with_entry phase
booted_move s me now' base true old = Restarts _ refl (omega arith) refl
booted_move s me now' base false old = Restarts _ refl (omega arith) refl

handed_move : (s : Settings) (me now' : ℕ) (entry : What) (old : Running) → Move s me old (handed s me now' entry old)
unfolding handed logged with_entry
handed_move s me now' entry old = Enters (read_as s me old.log entry) (read_fits s me old.log entry) refl refl refl

still : (s : Settings) (me : ℕ) (old : Running) → Move s me old old
still s me old = Rests refl (omega arith) refl

pub move : (s : Settings) (me : ℕ) (moment : Moment) (earlier : List Moment) → Move s me (node s me earlier) (node s me (moment ∷ earlier))
unfolding node
move s me (Passes dt clocks) earlier = by_on (node s me earlier).on
  where
    by_on : (b : Bool) → Move s me (node s me earlier) (record (node s me earlier) { clock = (if b then (node s me earlier).clock + advance_of dt clocks me else (node s me earlier).clock) })
    by_on true = Rests refl (omega arith) refl
    by_on false = Rests refl (omega arith) refl
move s me (Boots other base clean) earlier = by_owner (other == me) refl
  where
    by_owner : (b : Bool) → (other == me) ≡ b → Move s me (node s me earlier) (if b then booted s me (time earlier) base clean (node s me earlier) else node s me earlier)
    by_owner true e = booted_move s me (time earlier) base clean (node s me earlier)
    by_owner false e = still s me (node s me earlier)
move s me (Adds other entry) earlier = by_owner (other == me) refl
  where
    by_owner : (b : Bool) → (other == me) ≡ b → Move s me (node s me earlier) (if b then handed s me (time earlier) entry (node s me earlier) else node s me earlier)
    by_owner true e = handed_move s me (time earlier) entry (node s me earlier)
    by_owner false e = still s me (node s me earlier)
move s me (Feeds other) earlier = by_owner (other == me) refl
  where
    by_owner : (b : Bool) → (other == me) ≡ b → Move s me (node s me earlier) (if b then record (node s me earlier) { fed = time earlier } else node s me earlier)
    by_owner true e = Rests refl (omega arith) refl
    by_owner false e = still s me (node s me earlier)
move s me (Ends other) earlier = by_owner (other == me) refl
  where
    by_owner : (b : Bool) → (other == me) ≡ b → Move s me (node s me earlier) (if b then record (node s me earlier) { on = false } else node s me earlier)
    by_owner true e = Rests refl (omega arith) refl
    by_owner false e = still s me (node s me earlier)

-- what a node read it read by the present tick of its clock
by_move : {s : Settings} {me : ℕ} {old new : Running} → Move s me old new → ReadBy (tick_of old.clock) old.log → ReadBy (tick_of new.clock) new.log
unfolding ReadBy
by_move {old = old} {new = new} (Rests log clock boots) before = subst (λ l. ReadBy (tick_of new.clock) l) (sym log) (by_later _ _ clock old.log before)
by_move {s = s} {me = me} {old = old} {new = new} (Enters entry fit log clock boots) before =
    subst (λ l. ReadBy (tick_of new.clock) l) (sym log) (subst (λ c. ReadBy (tick_of c) (with_read s me old.log (tick_of old.clock) entry)) (sym clock) (omega arith, before))
by_move {new = new} (Restarts line log tick begins) before = subst (λ l. ReadBy (tick_of new.clock) l) (sym log) (tick, tt)

pub read_by_clock : (s : Settings) (me : ℕ) (moments : List Moment) → ReadBy (tick_of (node s me moments).clock) (node s me moments).log
unfolding node ReadBy
read_by_clock s me [] = tt
read_by_clock s me (moment ∷ earlier) = by_move (move s me moment earlier) (read_by_clock s me earlier)

-- what stands while the world is quiet
pub record Stands (s : Settings) (t : Timing) (me : ℕ) (pace : Pace) (end : ℕ) (old now' : Running) : Type 0 where
  pub busy : Busy s pace end now'.log
  pub resets : ResetsBy end now'.log
  pub sees : view now'.log ≡ view old.log
  pub since : view_tick (votes now'.log) ≡ view_tick (votes old.log)
  pub clock : tick_of old.clock ≤ tick_of now'.clock
  pub boots : now'.boots ≡ old.boots

-- what stands besides, once all other members were heard: from a tick on the node holds
record Hears (s : Settings) (t : Timing) (me : ℕ) (end from : ℕ) (now' : Running) : Type 0 where
  heard : HasHeardAll s me now'.log
  held : end + 1 + t.msgwait ≤ now now'.log → from < now now'.log → holds now'.log ≡ true

-- the state of a log with an entry without what comes out of it
phase_alike : (s : Settings) (me : ℕ) (past : List Line) (tick : ℕ) (entry : What) → phase s (taken_in past tick entry) ≡ phase s (with_read s me past tick entry)
unfolding phase
phase_alike s me past tick entry = refl

times_alike : (s : Settings) (me : ℕ) (past : List Line) (tick : ℕ) (entry : What) → timing (taken_in past tick entry) ≡ timing (with_read s me past tick entry)
unfolding timing
times_alike s me past tick entry = refl

votes_alike : (s : Settings) (me : ℕ) (past : List Line) (tick : ℕ) (entry : What) → votes (taken_in past tick entry) ≡ votes (with_read s me past tick entry)
unfolding votes
votes_alike s me past tick entry = refl

pub view_alike : (s : Settings) (me : ℕ) (past : List Line) (tick : ℕ) (entry : What) → view (taken_in past tick entry) ≡ view (with_read s me past tick entry)
unfolding view
view_alike s me past tick entry = refl

chosen_alike : (s : Settings) (me : ℕ) (past : List Line) (tick : ℕ) (entry : What) → is_chosen s me (taken_in past tick entry) ≡ is_chosen s me (with_read s me past tick entry)
unfolding view
chosen_alike s me past tick entry = refl

pub given_alike : (s : Settings) (me : ℕ) (past : List Line) (tick : ℕ) (entry : What) → is_given_away s me (taken_in past tick entry) ≡ is_given_away s me (with_read s me past tick entry)
unfolding view
given_alike s me past tick entry = refl

pub quorate_alike : (s : Settings) (me : ℕ) (past : List Line) (tick : ℕ) (entry : What) → quorate_with_tie s (taken_in past tick entry) tick ≡ quorate_with_tie s (with_read s me past tick entry) tick
quorate_alike s me past tick entry = ap (λ v. Rattle.qn_model.specs.Tie.is_quorate_with_tie s v tick) (votes_alike s me past tick entry)

free_alike : (s : Settings) (me : ℕ) (past : List Line) (tick : ℕ) (entry : What) → released s (taken_in past tick entry) ≡ released s (with_read s me past tick entry)
free_alike s me past tick entry = ap (λ v. Rattle.qn_model.specs.Votes.is_released s v) (votes_alike s me past tick entry)

-- the state of a node of a quiet world, by its log
pub record QuietLog (s : Settings) (me : ℕ) (views : ℕ) (log : List Line) : Type 0 where
  pub up : phase s log ≡ Up
  pub installed : install log ≡ views
  pub free : released s log ≡ true
  pub quorate : quorate_with_tie s log (now log) ≡ true
  pub chosen : is_chosen s me log ≡ true
  pub gentle : is_gentle (newest log) ≡ true

pub quiet_log : {s : Settings} {me : ℕ} {pace : Pace} {views : ℕ} {moments : List Moment} → IsQuiet s me pace views moments → QuietLog s me views (node s me moments).log
quiet_log quiet = record { up = quiet.up; installed = quiet.view; free = quiet.free; quorate = quiet.quorate; chosen = quiet.chosen; gentle = quiet.gentle }

-- what is known of the log of a node that is up in a timed run
pub record Known (s : Settings) (t : Timing) (me : ℕ) (log : List Line) : Type 0 where
  pub times : timing log ≡ t
  pub cleared : (ok : Bool) → fits s me log (what.Cleared ok) ≡ true → is_booting (phase s log) ≡ true

pub known : {s : Settings} {t : Timing} {me : ℕ} {pace : Pace} {views : ℕ} {moments all : List Moment} → Below → IsTimedRun s t all → Before moments all → IsQuiet s me pace views moments
    → Known s t me (node s me moments).log
known {s = s} {t = t} {me = me} {moments = moments} {all = all} law timed back quiet = record {
  times = law.times s t me all moments timed back (record { on = quiet.on; booted = ap is_booting quiet.up });
  cleared = λ ok. law.cleared s t me all moments ok timed back;
}

-- no boot ends while a node is up
never_cleared : (s : Settings) (me : ℕ) (past : List Line) (entry : What) → ((ok : Bool) → fits s me past (what.Cleared ok) ≡ true → is_booting (phase s past) ≡ true) → phase s past ≡ Up → fits s me past entry ≡ true → is_cleared entry ≡ false
never_cleared s me past (what.Cleared ok) boots up fit = absurd (false≢true (sym (ap is_booting up) ∙ boots ok fit))
never_cleared s me past what.Begin boots up fit = refl
never_cleared s me past what.BeginClean boots up fit = refl
never_cleared s me past (what.Header seen) boots up fit = refl
never_cleared s me past (what.SlotRead other seen) boots up fit = refl
never_cleared s me past (what.MailChecked seen) boots up fit = refl
never_cleared s me past (what.Claimed ok) boots up fit = refl
never_cleared s me past (what.MailRead seen) boots up fit = refl
never_cleared s me past (what.MailWritten other ok) boots up fit = refl
never_cleared s me past (what.View installed) boots up fit = refl
never_cleared s me past (what.Ask ask) boots up fit = refl
never_cleared s me past (what.Tell tell) boots up fit = refl
never_cleared s me past (what.Device agrees) boots up fit = refl
never_cleared s me past what.Tick boots up fit = refl
never_cleared s me past (what.Stopped ok) boots up fit = refl
never_cleared s me past what.Leave boots up fit = refl
never_cleared s me past (what.Closed ok) boots up fit = refl

quietly : {s : Settings} {t : Timing} {me : ℕ} {pace : Pace} {views : ℕ} {past : List Line} {tick : ℕ} {entry : What}
    → Known s t me past → timing (with_read s me past tick entry) ≡ t
    → QuietLog s me views past → QuietLog s me views (with_read s me past tick entry) → fits s me past entry ≡ true
    → ((j : ℕ) → j < length s.nodes → is_in_view past j ≡ false → view_tick (votes past) + fence_delay s j ≤ tick)
    → (¬ (op_out past ≡ None) → tick ≤ ask_tick past + pace.disk) → tick ≤ now past + pace.turn
    → Quietly s t me pace past tick entry
quietly {s = s} {me = me} {past = past} {tick = tick} {entry = entry} was times before after fit delays answers turns =
    let plain = no_view (line_with past tick entry (outs_now s me past tick entry)) past (after.installed ∙ sym before.installed) in
    record {
      was_up = before.up;
      up = phase_alike s me past tick entry ∙ after.up;
      times = times_alike s me past tick entry ∙ times;
      fitting = fit;
      plain = record { not_view = plain; stays_out = plain_entry entry plain (never_cleared s me past entry was.cleared before.up fit) };
      gentle = after.gentle;
      quorate = quorate_alike s me past tick entry ∙ after.quorate;
      chosen = chosen_alike s me past tick entry ∙ after.chosen;
      delays = delays;
      answers = answers;
      turns = turns;
    }

pub not_booting : {P : Type 0} (p : Phase) → p ≡ Booting → p ≡ Up → P
not_booting p b u = absurd (true≢false (sym (ap is_booting b) ∙ ap is_booting u))

seen_alike : (first log : List Line) → view log ≡ view first → (j : ℕ) → is_in_view log j ≡ false → is_in_view first j ≡ false
seen_alike first log same j away = sym (ap (λ v. option_map_or (λ installed. is_member installed.members j) v false) same) ∙ away

-- an entry of a quiet node
pub entry_quietly : {s : Settings} {t : Timing} {me : ℕ} {pace : Pace} {views end : ℕ} {first old : Running} {entry : What}
    → Known s t me old.log → timing (with_read s me old.log (tick_of old.clock) entry) ≡ t
    → DelaysOver s (tick_of first.clock) first.log → QuietLog s me views old.log → QuietLog s me views (with_read s me old.log (tick_of old.clock) entry)
    → (¬ (op_out old.log ≡ None) → tick_of old.clock ≤ ask_tick old.log + pace.disk) → tick_of old.clock ≤ now old.log + pace.turn
    → fits s me old.log entry ≡ true → Stands s t me pace end first old → Quietly s t me pace old.log (tick_of old.clock) entry
entry_quietly {first = first} {old = old} was times over before after answers turns fit stands =
    quietly was times before after fit (λ j below away. let o = over j below (seen_alike first.log old.log stands.sees j away) in let c = stands.clock in let v = stands.since in omega arith) answers turns

pub plain_of : {s : Settings} {t : Timing} {me : ℕ} {pace : Pace} {past : List Line} {tick : ℕ} {entry : What} → Quietly s t me pace past tick entry
    → Plain (line_with past tick entry (outs_now s me past tick entry))
plain_of quiet = record { not_view = quiet.plain.not_view; stays_out = quiet.plain.stays_out }

next_stands : {s : Settings} {t : Timing} {me : ℕ} {pace : Pace} {views end : ℕ} {first old new : Running} → pace.disk < t.loop_ms
    → Known s t me old.log → Known s t me new.log
    → DelaysOver s (tick_of first.clock) first.log → QuietLog s me views old.log → QuietLog s me views new.log
    → (¬ (op_out old.log ≡ None) → tick_of old.clock ≤ ask_tick old.log + pace.disk) → tick_of old.clock ≤ now old.log + pace.turn
    → Move s me old new → Stands s t me pace end first old → Stands s t me pace end first new
next_stands {s = s} {t = t} {me = me} {pace = pace} {end = end} {first = first} {old = old} {new = new} fast was is over before after answers turns (Rests log clock boots) stands = record {
  busy = subst (λ l. Busy s pace end l) (sym log) stands.busy;
  resets = subst (λ l. ResetsBy end l) (sym log) stands.resets;
  sees = ap view log ∙ stands.sees;
  since = ap (λ l. view_tick (votes l)) log ∙ stands.since;
  clock = let c = stands.clock in omega arith;
  boots = boots ∙ stands.boots;
}
next_stands {s = s} {t = t} {me = me} {pace = pace} {views = views} {end = end} {first = first} {old = old} {new = new} fast was is over before after answers turns (Enters entry fit log clock boots) stands =
    let quiet : Quietly s t me pace old.log (tick_of old.clock) entry =
    entry_quietly was (subst (λ l. timing l ≡ t) log is.times) over before (subst (λ l. QuietLog s me views l) log after) answers turns fit stands in
    record {
      busy = subst (λ l. Busy s pace end l) (sym log) (busy_next end fast quiet stands.busy);
      resets = subst (λ l. ResetsBy end l) (sym log) (resets_next end quiet stands.busy stands.resets (outs_now s me old.log (tick_of old.clock) entry));
      sees = ap view log ∙ view_same old.log (plain_of quiet) ∙ stands.sees;
      since = ap (λ l. view_tick (votes l)) log ∙ view_tick_same old.log (plain_of quiet) ∙ stands.since;
      clock = let c = stands.clock in rw clock c;
      boots = boots ∙ stands.boots;
    }
next_stands fast was is over before after answers turns (Restarts line log tick begins) stands = not_booting _ begins after.up

next_hears : {s : Settings} {t : Timing} {me : ℕ} {pace : Pace} {views end from : ℕ} {first old new : Running}
    → Known s t me old.log → Known s t me new.log
    → DelaysOver s (tick_of first.clock) first.log → QuietLog s me views old.log → QuietLog s me views new.log
    → (¬ (op_out old.log ≡ None) → tick_of old.clock ≤ ask_tick old.log + pace.disk) → tick_of old.clock ≤ now old.log + pace.turn
    → Move s me old new → Stands s t me pace end first old → Hears s t me end from old → Hears s t me end from new
next_hears {s = s} {t = t} {me = me} {end = end} {from = from} was is over before after answers turns (Rests log clock boots) stands hears = record {
  heard = subst (λ l. HasHeardAll s me l) (sym log) hears.heard;
  held = subst (λ l. end + 1 + t.msgwait ≤ now l → from < now l → holds l ≡ true) (sym log) hears.held;
}
next_hears {s = s} {t = t} {me = me} {pace = pace} {views = views} {end = end} {from = from} {first = first} {old = old} {new = new} was is over before after answers turns (Enters entry fit log clock boots) stands hears =
    let quiet : Quietly s t me pace old.log (tick_of old.clock) entry =
    entry_quietly was (subst (λ l. timing l ≡ t) log is.times) over before (subst (λ l. QuietLog s me views l) log after) answers turns fit stands in
    record {
      heard = subst (λ l. HasHeardAll s me l) (sym log) (λ j below inside other. free_stays (line_with old.log (tick_of old.clock) entry (outs_now s me old.log (tick_of old.clock) entry)) old.log quiet.plain.not_view j
          (hears.heard j below (sym (in_view_same old.log (plain_of quiet) j) ∙ inside) other));
      held = subst (λ l. end + 1 + t.msgwait ≤ now l → from < now l → holds l ≡ true) (sym log)
          (λ late behind. starts end quiet stands.busy stands.resets (omega arith) (omega arith) hears.heard
          (free_alike s me old.log (tick_of old.clock) entry ∙ (subst (λ l. QuietLog s me views l) log after).free));
    }
next_hears was is over before after answers turns (Restarts line log tick begins) stands hears = not_booting _ begins after.up

-- how much is owed at most
owed_two : (log : List Line) (j : ℕ) → owed log j ≤ 2 * outside_one log j
owed_two log j = by_view (is_in_view log j) _ _ _
  where
    by_view : (v seen clean written : Bool) → one (not v && not seen) + one (not v && not clean && not written) ≤ 2 * (if v then 0 else 1)
    by_view true seen clean written = omega arith
    by_view false true true written = omega arith
    by_view false true false true = omega arith
    by_view false true false false = omega arith
    by_view false false true written = omega arith
    by_view false false false true = omega arith
    by_view false false false false = omega arith

first_stands : (s : Settings) (t : Timing) (me : ℕ) (pace : Pace) (n : Running) → ReadBy (tick_of n.clock) n.log
    → Stands s t me pace (tick_of n.clock + fencing_ticks pace (outside s n.log)) n n
first_stands s t me pace n read = record {
  busy = busy (op_out n.log) refl;
  resets = λ j w e. let by' = reset_by (tick_of n.clock) (out_time j n.log) j n.log read w e in omega arith;
  sees = refl;
  since = refl;
  clock = omega arith;
  boots = refl;
}
  where
    work : pace.disk * pending s n.log ≤ 2 * (pace.disk * outside s n.log)
    work =
        let most = total_twice (length s.nodes) (owed n.log) (outside_one n.log) (λ j below. owed_two n.log j) in
        let step = same_or_less pace.disk (pending s n.log) (2 * outside s n.log) most in
        let twice = mul_left_comm pace.disk 2 (outside s n.log) in omega arith

    busy : (o : Option DiskOp) → op_out n.log ≡ o → Busy s pace (tick_of n.clock + fencing_ticks pace (outside s n.log)) n.log
    busy None none = let w = work in let m = le-max_right pace.disk pace.turn in let by' = now_by (tick_of n.clock) n.log read in Idle none (omega arith)
    busy (Some op) out = let w = work in let m = le-max_left pace.disk pace.turn in let by' = ask_by (tick_of n.clock) n.log read in Stale op out (omega arith)

pub quiet_last : {s : Settings} {me : ℕ} {pace : Pace} {views : ℕ} {old new : List Moment} → QuietSince s me pace views old new → IsQuiet s me pace views new
quiet_last (FromHere quiet) = quiet
quiet_last (AndThen since quiet) = quiet

pub stands : {s : Settings} {t : Timing} {me : ℕ} {pace : Pace} {views : ℕ} {old new all : List Moment} → Below → IsTimedRun s t all → Before new all → pace.disk < t.loop_ms → QuietSince s me pace views old new
    → DelaysOver s (tick_of (node s me old).clock) (node s me old).log
    → Stands s t me pace (tick_of (node s me old).clock + fencing_ticks pace (outside s (node s me old).log)) (node s me old) (node s me new)
stands {s = s} {t = t} {me = me} {pace = pace} {old = old} law timed back fast (FromHere quiet) over = first_stands s t me pace (node s me old) (read_by_clock s me old)
stands {s = s} {t = t} {me = me} {pace = pace} {old = old} law timed back fast (AndThen {moment = moment} {earlier = earlier} since quiet) over =
    let before = quiet_last since in
    next_stands fast (known law timed (before_tail back) before) (known law timed back quiet) over (quiet_log before) (quiet_log quiet) before.answers before.turns (move s me moment earlier) (stands law timed (before_tail back) fast since over)

joined : {s : Settings} {me : ℕ} {pace : Pace} {views : ℕ} {old mid new : List Moment} → QuietSince s me pace views old mid → QuietSince s me pace views mid new → QuietSince s me pace views old new
joined first (FromHere quiet) = first
joined first (AndThen since quiet) = AndThen (joined first since) quiet

hears : {s : Settings} {t : Timing} {me : ℕ} {pace : Pace} {views : ℕ} {old mid new all : List Moment} → Below → IsTimedRun s t all → Before new all → pace.disk < t.loop_ms → QuietSince s me pace views old mid → QuietSince s me pace views mid new
    → DelaysOver s (tick_of (node s me old).clock) (node s me old).log → HasHeardAll s me (node s me mid).log
    → Hears s t me (tick_of (node s me old).clock + fencing_ticks pace (outside s (node s me old).log)) (tick_of (node s me mid).clock) (node s me new)
hears {s = s} {t = t} {me = me} {pace = pace} {old = old} {mid = mid} law timed back fast first (FromHere quiet) over heard = record {
  heard = heard;
  held = λ late behind. let by' = now_by (tick_of (node s me mid).clock) (node s me mid).log (read_by_clock s me mid) in absurd (omega arith);
}
hears {s = s} {t = t} {me = me} {pace = pace} {old = old} {mid = mid} law timed back fast first (AndThen {moment = moment} {earlier = earlier} since quiet) over heard =
    let before = quiet_last since in
    next_hears (known law timed (before_tail back) before) (known law timed back quiet) over (quiet_log before) (quiet_log quiet) before.answers before.turns (move s me moment earlier)
    (stands law timed (before_tail back) fast (joined first since) over) (hears law timed (before_tail back) fast first since over heard)

-- the chosen member of a view holds, and goes on holding, from the bound on
pub least_member : {s : Settings} {t : Timing} {me : ℕ} {pace : Pace} {views : ℕ} {old mid new : List Moment} → Below → IsTimedRun s t new → pace.disk < t.loop_ms
    → QuietSince s me pace views old mid → QuietSince s me pace views mid new
    → DelaysOver s (tick_of (node s me old).clock) (node s me old).log → HasHeardAll s me (node s me mid).log
    → tick_of (node s me old).clock + take_over_ticks t pace (outside s (node s me old).log) ≤ tick_of (node s me new).clock
    → tick_of (node s me mid).clock + pace.turn < tick_of (node s me new).clock
    → is_holder s new me ≡ true
least_member {s = s} {me = me} {pace = pace} {old = old} {mid = mid} {new = new} law timed fast first since over heard late behind =
    let quiet = quiet_last since in
    let end = hears law timed Itself fast first since over heard in
    let turns = quiet.turns in
    ap (λ b. b && holds (node s me new).log) quiet.on ∙ end.held (omega arith) (omega arith)

pub start_of : {s : Settings} {me : ℕ} {pace : Pace} {views : ℕ} {old new : List Moment} → QuietSince s me pace views old new → IsQuiet s me pace views old
start_of (FromHere quiet) = quiet
start_of (AndThen since quiet) = start_of since

-- the only member of a view does
pub sole_member : {s : Settings} {t : Timing} {me : ℕ} {pace : Pace} {views : ℕ} {old new : List Moment} → Below → IsTimedRun s t new → pace.disk < t.loop_ms → QuietSince s me pace views old new
    → IsAlone s me (node s me old).log → DelaysOver s (tick_of (node s me old).clock) (node s me old).log
    → tick_of (node s me old).clock + take_over_ticks t pace (outside s (node s me old).log) ≤ tick_of (node s me new).clock
    → is_holder s new me ≡ true
sole_member {s = s} {me = me} {pace = pace} {old = old} {new = new} law timed fast since alone over late =
    least_member law timed fast (FromHere (start_of since)) since over (λ j below inside other. absurd (other (alone j below inside))) late (omega arith)

pub since_before : {s : Settings} {me : ℕ} {pace : Pace} {views : ℕ} {old new : List Moment} → QuietSince s me pace views old new → Before old new
since_before (FromHere quiet) = Itself
since_before (AndThen {moment = moment} since quiet) = Later moment (since_before since)

-- a node of a quiet world runs on in one boot
runs_on : {s : Settings} {t : Timing} {me : ℕ} {pace : Pace} {views : ℕ} {old new : List Moment} → Below → IsTimedRun s t new → pace.disk < t.loop_ms → QuietSince s me pace views old new
    → DelaysOver s (tick_of (node s me old).clock) (node s me old).log → RunsOn s me old new new
runs_on law timed fast since over = record {
  order = since_before since;
  back = Itself;
  same = sym (stands law timed Itself fast since over).boots;
  on = (quiet_last since).on;
}

-- a node of a quiet world that lost no view keeps its boot
delays_later : {s : Settings} {t : Timing} {me : ℕ} {pace : Pace} {views : ℕ} {old mid all : List Moment} → Below → IsTimedRun s t all → Before mid all → pace.disk < t.loop_ms → QuietSince s me pace views old mid
    → DelaysOver s (tick_of (node s me old).clock) (node s me old).log → DelaysOver s (tick_of (node s me mid).clock) (node s me mid).log
delays_later {s = s} {me = me} {old = old} {mid = mid} law timed back fast since over j below away =
    let end = stands law timed back fast since over in
    let o = over j below (seen_alike (node s me old).log (node s me mid).log end.sees j away) in let v = end.since in let c = end.clock in omega arith

-- what the clock shows after so many true milliseconds
ticks_passed : (first second old new ticks : ℕ) → 99 * second + old ≤ new + 99 * first → 100 * ticks + 99 * first ≤ 99 * second → tick_of old + ticks ≤ tick_of new
ticks_passed first second old new ticks clocks late = omega arith

-- the same in true time, in every timed run
pub least_member_in_time : {s : Settings} {t : Timing} {me : ℕ} {pace : Pace} {views : ℕ} {old mid new : List Moment} → Below → IsTimedRun s t new
    → pace.disk < t.loop_ms → QuietSince s me pace views old mid → QuietSince s me pace views mid new
    → DelaysOver s (tick_of (node s me old).clock) (node s me old).log → HasHeardAll s me (node s me mid).log
    → 100 * take_over_ticks t pace (outside s (node s me old).log) + 99 * time old ≤ 99 * time new
    → 100 * (pace.turn + 1) + 99 * time mid ≤ 99 * time new
    → is_holder s new me ≡ true
least_member_in_time {s = s} {t = t} {me = me} {pace = pace} {old = old} {mid = mid} {new = new} law timed fast first since over heard late behind =
    let all = law.slow s t new old new me timed (runs_on law timed fast (joined first since) over) in
    let rest = law.slow s t new mid new me timed (runs_on law timed fast since (delays_later law timed (since_before since) fast first over)) in
    let reached = ticks_passed (time mid) (time new) (clock s me mid) (clock s me new) (pace.turn + 1) rest behind in
    least_member law timed fast first since over heard
    (ticks_passed (time old) (time new) (clock s me old) (clock s me new) (take_over_ticks t pace (outside s (node s me old).log)) all late) (omega arith)

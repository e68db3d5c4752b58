-- A resource that runs is held, from call to call.
use Rattle.std.proofs.Common.{◌≡◌, ℕ, suc, zero, Bool, true, false, not, ◌&&◌, ◌||◌, List, [], ◌∷◌, Option, None, Some, if◌then◌else◌, refl, sym, ap, subst, ◌∙◌}
use Rattle.std.proofs.lemmas.Bool.{not-true}
use Rattle.qn_base.specs.declared.ids.View.{View}
use Rattle.qn_model.specs.declared.configuration.Settings.{Settings}
use Rattle.qn_model.specs.declared.entries.What.{What}
use Rattle.qn_model.specs.declared.entries.What.TheVariants as what
use Rattle.qn_model.specs.declared.outputs.Out.{Out}
use Rattle.qn_model.specs.declared.packets.Sent.{Sent}
use Rattle.qn_model.specs.Log.{Line, has_start}
use Rattle.qn_model.specs.Holding.{holds, is_stopped}
use Rattle.qn_model.specs.Fitting.{fits, read_as}
use Rattle.qn_model.specs.NodeOutputs.{newest_outs, with_entry}
use Rattle.qn_member.specs.Naming.{NamingMaker}
use Rattle.qn_member.specs.NamingViews.{answer_at}
use Rattle.qn_live.specs.declared.live_end.LiveEnd.{LiveEnd}
use Rattle.qn_live.specs.declared.place.Choice.{Choice}
use Rattle.qn_live.specs.declared.place.Choice.TheVariants as choice
use Rattle.qn_live.specs.declared.place.Waits.{Waits}
use Rattle.qn_live.specs.Running.{RunState}
use Rattle.qn_live.specs.Choosing.{is_late, is_to_leave, looked, looking, own_of, ready, told, view_or_tick}
use Rattle.qn_live.specs.Performing.{end_in}
use Rattle.qn_live.specs.declared.words.Own.{Own}
use Rattle.qn_live.specs.Runs.{asked_maker, greets, looked_at, taken}
use Rattle.qn_joined.specs.Stands.{Looking, acts_at, begun_at, clocked_by, farewells_due, handled_at, log_at, opening, parts_at, polled_at, said_at, sends_due, settled_by, taking}
use Rattle.qn_joined.specs.Owning.{Owns, is_calm, is_done_stop, is_no_stop, stops_in}
use Rattle.std.specs.Option.{option_map_or}
use Rattle.std.specs.Prelude.{option_and_then}
use Rattle.qn_safety.specs.declared.polls.Poll.{Poll}
use Rattle.qn_safety.specs.Poller.{Poller, answer_taken}
use Rattle.qn_live.specs.Polling.{answered, answered_at, poll_due, polled}

-- what is known of a state between two calls
pub record Fine (st : RunState) (runs : Bool) : Type 0 where
  pub held : runs ≡ true → (holds st.log ≡ true) × (is_done_stop st.waits.stopped ≡ false)
  pub calm : is_calm st.waits.disk ≡ true

opening_owns : (st : RunState) (runs late : Bool)
    → (runs ≡ true → (holds st.log ≡ true) × (is_done_stop st.waits.stopped ≡ false))
    → is_no_stop st.waits.stopped ≡ true
    → is_calm st.waits.disk ≡ true
    → Owns (opening st late) runs
opening_owns st runs true held free calm = record { held = λ r. ((held r).0, refl); free = free; calm = calm }
opening_owns st runs false held free calm = record { held = held; free = free; calm = calm }

taking_owns : (st : RunState) (runs leaves rests : Bool) (stopped : Option Bool) (disk : Option What)
    → (runs ≡ true → (holds st.log ≡ true) × (is_done_stop stopped ≡ false))
    → is_calm disk ≡ true
    → Owns (taking (record st { waits = record { stopped = stopped; disk = disk } }) (ready leaves rests (record { stopped = stopped; disk = disk }))) runs
taking_owns st runs leaves rests (Some ok) disk held calm = record { held = held; free = refl; calm = calm }
taking_owns st runs leaves false None (Some answer) held calm =
    record { held = λ r. ((held r).0, not-true (is_stopped answer) calm); free = refl; calm = refl }
taking_owns st runs true false None None held calm = record { held = held; free = refl; calm = refl }
taking_owns st runs false false None None held calm =
    opening_owns (record st { waits = record { stopped = None; disk = None } }) runs (is_late st) held refl refl
taking_owns st runs true true None disk held calm = record { held = held; free = refl; calm = calm }
taking_owns st runs false true None disk held calm =
    opening_owns (record st { waits = record { stopped = None; disk = disk } }) runs (is_late st) held refl calm

begun_owns : (s : Settings) (me : ℕ) (leave : Option ℕ) (turn more : ℕ) (st : RunState) (runs : Bool) → Fine st runs → Owns (begun_at s me leave turn more st).spot runs
begun_owns s me leave turn zero st runs fine = record { held = λ r. ((fine.held r).0, refl); free = refl; calm = refl }
begun_owns s me leave turn (suc more) st runs fine =
    taking_owns st runs (is_to_leave s leave turn st) st.rests st.waits.stopped st.waits.disk fine.held fine.calm

pub said_owns : (s : Settings) (me : ℕ) (leave : Option ℕ) (turn more : ℕ) (st : RunState) (sents : List Sent) (runs : Bool) → Fine st runs → Owns (said_at s me leave turn more st sents).spot runs
said_owns s me leave turn more st [] runs fine = begun_owns s me leave turn more st runs fine
said_owns s me leave turn more st (sent ∷ rest) runs fine = record { held = fine.held; free = refl; calm = fine.calm }

polled_owns : (s : Settings) (me : ℕ) (leave : Option ℕ) (turn more : ℕ) (st : RunState) (sents : List Sent) (poll : Option Poll) (runs : Bool) → Fine st runs
    → Owns (polled_at s me leave turn more st sents poll).spot runs
polled_owns s me leave turn more st sents None runs fine = said_owns s me leave turn more st sents runs fine
polled_owns s me leave turn more st sents (Some poll) runs fine = record { held = fine.held; free = refl; calm = fine.calm }

pub parts_owns : (turn more : ℕ) (end : LiveEnd) (st : RunState) (sents : List Sent) (runs : Bool) → Fine st runs → Owns (parts_at turn more end st sents).spot runs
parts_owns turn more end st [] runs fine = record { held = λ r. ((fine.held r).0, refl); free = refl; calm = refl }
parts_owns turn more end st (sent ∷ rest) runs fine = record { held = fine.held; free = refl; calm = fine.calm }

settled_owns : (s : Settings) (me : ℕ) (leave : Option ℕ) (turn more : ℕ) (entry : What) (st : RunState) (found : Option LiveEnd) (runs : Bool) → Fine st runs
    → Owns (settled_by s me leave turn more entry st found).spot runs
settled_owns s me leave turn more entry st None runs fine =
    polled_owns s me leave turn more (polled s me (greets s me st) entry (asked_maker s me st)) (sends_due s me st)
    (poll_due s me (greets s me st) entry (asked_maker s me st)) runs (record { held = fine.held; calm = fine.calm })
settled_owns s me leave turn more entry st (Some end) runs fine = parts_owns turn more end st (farewells_due s me end st) runs fine

pub acts_owns : (s : Settings) (me : ℕ) (leave : Option ℕ) (turn more : ℕ) (entry : What) (outs rest : List Out) (st : RunState) (runs : Bool) → Fine st runs → Owns (acts_at s me leave turn more entry outs rest st).spot runs
acts_owns s me leave turn more entry outs [] st runs fine = settled_owns s me leave turn more entry st (end_in entry outs) runs fine
acts_owns s me leave turn more entry outs (o ∷ rest) st runs fine = record { held = fine.held; free = refl; calm = fine.calm }

-- an entry that is no stop is read as none
read_no_stop : (fit : Bool) (entry : What) → is_stopped entry ≡ false → is_stopped (if fit then entry else what.Tick) ≡ false
read_no_stop true entry is = is
read_no_stop false entry is = refl

view_no_stop : (found : Option View) → is_stopped (view_or_tick found) ≡ false
view_no_stop None = refl
view_no_stop (Some view) = refl

looked_no_stop : (tick : ℕ) (own : Own) (chosen : Choice) (maker : Option NamingMaker) → stops_in chosen ≡ false → is_stopped (looked tick own chosen maker).1 ≡ false
looked_no_stop tick own (choice.Whole entry) maker is = is
looked_no_stop tick own (choice.Answer reply) maker is = refl
looked_no_stop tick own (choice.Open p) None is = refl
looked_no_stop tick own (choice.Open p) (Some m) is = view_no_stop (answer_at tick (told tick own p m))

-- an answer of the device is no stop
device_no_stop : (answer : Option Bool) → stops_in (option_map_or (λ agrees. choice.Whole (what.Device agrees)) answer (choice.Open None)) ≡ false
device_no_stop None = refl
device_no_stop (Some agrees) = refl

answered_no_stop : (tick : ℕ) (poller : Option Poller) (chosen : Choice) → stops_in chosen ≡ false → stops_in (answered_at tick poller chosen) ≡ false
answered_no_stop tick poller (choice.Whole entry) is = is
answered_no_stop tick poller (choice.Open p) is = refl
answered_no_stop tick poller (choice.Answer reply) is = device_no_stop (option_and_then (answer_taken tick reply) poller)

held_on : (started runs past_holds stopped : Bool) → (runs ≡ true → (past_holds ≡ true) × (stopped ≡ false)) → (started || runs) ≡ true → (started || (past_holds && not stopped)) ≡ true
held_on true runs past_holds stopped h r = refl
held_on false true past_holds stopped h r =
    let two = h refl in
    ap (λ p. p && not stopped) two.0 ∙ ap not two.1
held_on false false past_holds stopped h r = absurd cc

no_stop_done : (stopped : Option Bool) → is_no_stop stopped ≡ true → is_done_stop stopped ≡ false
no_stop_done None free = refl
no_stop_done (Some ok) free = absurd cc

handled_owns : (s : Settings) (me : ℕ) (leave : Option ℕ) (turn more : ℕ) (st : RunState) (tick : ℕ) (own : Own) (chosen : Choice) (runs : Bool)
    → (runs ≡ true → (holds st.log ≡ true) × (stops_in chosen ≡ false))
    → is_no_stop st.waits.stopped ≡ true
    → is_calm st.waits.disk ≡ true
    → Owns (handled_at s me leave turn more st tick (looked tick own chosen st.maker)).spot (has_start (newest_outs (taken s me st tick (looked tick own chosen st.maker)).log) || runs)
unfolding with_entry holds
handled_owns s me leave turn more st tick own chosen runs held free calm =
    let found = looked tick own chosen st.maker in
    let after = taken s me st tick found in
    acts_owns s me leave turn more found.1 (newest_outs after.log) (newest_outs after.log) after (has_start (newest_outs after.log) || runs)
    (record {
      held = λ r. (
        held_on (has_start (newest_outs after.log)) runs (holds st.log) (is_stopped (read_as s me st.log found.1))
            (λ q. ((held q).0, read_no_stop (fits s me st.log found.1) found.1 (looked_no_stop tick own chosen st.maker (held q).1))) r,
        no_stop_done st.waits.stopped free,
      );
      calm = calm;
    })

newest_holds : (log : List Line) → has_start (newest_outs log) ≡ true → holds log ≡ true
unfolding holds
newest_holds [] is = absurd cc
newest_holds (line ∷ past) is = ap (λ b. b || (holds past && not (is_stopped line.what))) is

either_holds : (log : List Line) (started runs : Bool) → (started ≡ true → holds log ≡ true) → (runs ≡ true → holds log ≡ true) → (started || runs) ≡ true → holds log ≡ true
either_holds log true runs h k r = h refl
either_holds log false runs h k r = k r

-- the log where a run stands is that of its state
opening_log : (st : RunState) (late : Bool) → log_at (opening st late) ≡ st.log
opening_log st true = refl
opening_log st false = refl

taking_log : (st : RunState) (found : Option (What × Waits)) → log_at (taking st found) ≡ st.log
taking_log st None = opening_log st (is_late st)
taking_log st (Some found) = refl

pub begun_log : (s : Settings) (me : ℕ) (leave : Option ℕ) (turn more : ℕ) (st : RunState) → log_at (begun_at s me leave turn more st).spot ≡ st.log
begun_log s me leave turn zero st = refl
begun_log s me leave turn (suc more) st = taking_log st (ready (is_to_leave s leave turn st) st.rests st.waits)

pub said_log : (s : Settings) (me : ℕ) (leave : Option ℕ) (turn more : ℕ) (st : RunState) (sents : List Sent) → log_at (said_at s me leave turn more st sents).spot ≡ st.log
said_log s me leave turn more st [] = begun_log s me leave turn more st
said_log s me leave turn more st (sent ∷ rest) = refl

polled_log : (s : Settings) (me : ℕ) (leave : Option ℕ) (turn more : ℕ) (st : RunState) (sents : List Sent) (poll : Option Poll)
    → log_at (polled_at s me leave turn more st sents poll).spot ≡ st.log
polled_log s me leave turn more st sents None = said_log s me leave turn more st sents
polled_log s me leave turn more st sents (Some poll) = refl

pub parts_log : (turn more : ℕ) (end : LiveEnd) (st : RunState) (sents : List Sent) → log_at (parts_at turn more end st sents).spot ≡ st.log
parts_log turn more end st [] = refl
parts_log turn more end st (sent ∷ rest) = refl

pub settled_log : (s : Settings) (me : ℕ) (leave : Option ℕ) (turn more : ℕ) (entry : What) (st : RunState) (found : Option LiveEnd)
    → log_at (settled_by s me leave turn more entry st found).spot ≡ st.log
settled_log s me leave turn more entry st None =
    polled_log s me leave turn more (polled s me (greets s me st) entry (asked_maker s me st)) (sends_due s me st)
    (poll_due s me (greets s me st) entry (asked_maker s me st))
settled_log s me leave turn more entry st (Some end) = parts_log turn more end st (farewells_due s me end st)

pub acts_log : (s : Settings) (me : ℕ) (leave : Option ℕ) (turn more : ℕ) (entry : What) (outs rest : List Out) (st : RunState) → log_at (acts_at s me leave turn more entry outs rest st).spot ≡ st.log
acts_log s me leave turn more entry outs [] st = settled_log s me leave turn more entry st (end_in entry outs)
acts_log s me leave turn more entry outs (o ∷ rest) st = refl

-- a look at the clock
pub looks_own : (s : Settings) (me : ℕ) (leave : Option ℕ) (turn more : ℕ) (chosen : Choice × RunState) (tick : ℕ) (runs back : Bool)
    → Owns (Looking chosen) runs
    → Owns (clocked_by s me leave turn more chosen tick back).spot (has_start (newest_outs (log_at (clocked_by s me leave turn more chosen tick back).spot)) || runs)
looks_own s me leave turn more chosen tick runs true owns =
    record {
      held = λ r. (either_holds chosen.1.log (has_start (newest_outs chosen.1.log)) runs (newest_holds chosen.1.log) (λ q. (owns.held q).0) r, refl);
      free = refl;
      calm = refl;
    }
looks_own s me leave turn more chosen tick runs false owns =
    subst (λ (l : List Line). Owns (handled_at s me leave turn more (looking tick (answered tick chosen)) tick (looked_at tick (answered tick chosen))).spot (has_start (newest_outs l) || runs))
    (sym (acts_log s me leave turn more (looked_at tick (answered tick chosen)).1 (newest_outs (taken s me (looking tick (answered tick chosen)) tick (looked_at tick (answered tick chosen))).log) (newest_outs (taken s me (looking tick (answered tick chosen)) tick (looked_at tick (answered tick chosen))).log) (taken s me (looking tick (answered tick chosen)) tick (looked_at tick (answered tick chosen)))))
    (handled_owns s me leave turn more (looking tick (answered tick chosen)) tick (own_of (looking tick (answered tick chosen))) (answered tick chosen).0 runs
    (λ r. ((owns.held r).0, answered_no_stop tick chosen.1.poller chosen.0 (owns.held r).1)) owns.free owns.calm)

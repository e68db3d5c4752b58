-- The four facts of the disk hold of every run of the world.
use Rattle.std.proofs.Common.{◌≡◌, ℕ, ◌≤◌, Bool, true, false, List, ◌∷◌, Some, None, Option, refl, sym, ap, ◌∙◌, subst, arith, ◌&&◌, ◌||◌, ◌==◌, if◌then◌else◌, is_some}
use Rattle.std.proofs.lemmas.Bool.{false≢true, eqb-true}
use Rattle.std.proofs.lemmas.Option.{same_Some}
use Rattle.qn_base.specs.lemmas.Options.{none_is_not_some}
use Rattle.qn_base.specs.lemmas.Bools.{never_both, first_of_both, second_of_both}
use Rattle.qn_model.specs.declared.configuration.Settings.{Settings}
use Rattle.qn_model.specs.declared.times.Timing.{Timing}
use Rattle.qn_model.specs.declared.disk.Slot.{Slot}
use Rattle.qn_model.specs.declared.entries.What.{What}
use Rattle.qn_model.specs.declared.outputs.DiskOp.{DiskOp}
use Rattle.qn_model.specs.declared.outputs.DiskOp.TheVariants as disk
use Rattle.qn_model.specs.Log.{Line, op_out, ask_place, times_of, disk_of, is_answer}
use Rattle.qn_model.specs.Phases.{phase, is_booting}
use Rattle.qn_model.specs.Licences.{reads_slot, is_clean_slot}
use Rattle.qn_model.specs.Moments.{Before}
use Rattle.qn_safety.specs.Earlier.{before_tail}
use Rattle.qn_model.specs.Moments.{Moment, booted, node}
use Rattle.qn_safety.specs.Closing.{is_close, asked_close}
use Rattle.qn_safety.specs.Timed.{IsBetween, HasClosed, IsAdded, CleanMeansClosed, HeadersAgree}
use Rattle.qn_model.specs.declared.events.Event.{Event}
use Rattle.qn_model.specs.lemmas.Logs.{ask_place-within}
use Rattle.qn_model.specs.World.{World, taken, failed}
use Rattle.qn_model.specs.Steps.{run}
use Rattle.qn_model.specs.lemmas.Entries.{times_answer}
use Rattle.qn_model.specs.lemmas.Failures.{failed_times}
use Rattle.qn_safety.proofs.Logs.{Made, made_line, ask_line}
use Rattle.qn_safety.proofs.Stays.{close_stays}
use Rattle.qn_safety.proofs.Rests.{read_is}
use Rattle.qn_safety.proofs.Runs.{sound, ruled_before}
use Rattle.qn_safety.proofs.Origins.{added_line}
use Rattle.qn_safety.proofs.Kept.{Kept}
use Rattle.qn_safety.proofs.Events.{IsAllowed, allowed_before, stage, moments_grow}
use Rattle.qn_safety.proofs.Landings.{LandedAt, landed_at, AddedBy, added_by, LineKind, Plain, Taken, Failed}

taken_times : (s : Settings) (t : Timing) (j : ℕ) (op : DiskOp) (w : World) (times : Timing) → times_of (taken s t j op w) ≡ Some times → times ≡ t
unfolding taken
taken_times s t j disk.ReadHeader w times e = sym (same_Some _ _ e)
taken_times s t j (disk.ReadSlot other) w times e = none_is_not_some times e
taken_times s t j disk.CheckMail w times e = none_is_not_some times e
taken_times s t j (disk.WriteClaim number) w times e = none_is_not_some times e
taken_times s t j disk.WriteClear w times e = none_is_not_some times e
taken_times s t j disk.ReadMail w times e = none_is_not_some times e
taken_times s t j (disk.WriteReset other) w times e = none_is_not_some times e
taken_times s t j (disk.WriteClose number) w times e = none_is_not_some times e

-- every header that is read gives the one timing
pub headers_agree : {s : Settings} {t : Timing} {events : List Event} → IsAllowed s t events → HeadersAgree s t (run s t events).moments
headers_agree {s = s} {t = t} {events = events} allowed rank line past before times added gives = by_kind it.kind
  where
    it : AddedBy s t rank line before events
    it = added_by rank line past before allowed added

    by_kind : LineKind s t rank line (run s t it.earlier) → times ≡ t
    by_kind (Plain plain) = never_both (is_answer line.what) (times_answer line.what times gives) plain
    by_kind (Failed op failure) = none_is_not_some times (sym (ap times_of failure ∙ failed_times op) ∙ gives)
    by_kind (Taken took) =
        let land = landed_at rank line.what (allowed_before (before_tail it.back) allowed) it.on took in
        taken_times s t rank land.op (run s t land.earlier) times (sym (ap times_of land.value) ∙ gives)

pub asked_inside : (line : Line) (past : List Line) (answer : Bool) → line.asked ≡ (if answer then ask_place past else 0) → line.asked ≤ ask_place past
asked_inside line past true e = omega arith
asked_inside line past false e = omega arith

-- what an answer asked for lies at most at the last asking place before it
pub asked_le : {s : Settings} {t : Timing} {events : List Event} (j : ℕ) (line : Line) (past : List Line) (before : List Moment) → IsAllowed s t events
    → IsAdded s j line past before (run s t events).moments → line.asked ≤ ask_place (node s j before).log
asked_le {s = s} {t = t} j line past before allowed added =
    let ruled = ruled_before added.back ((stage allowed).ruled) in
    let it = made_line (subst (λ log. Made s j log) added.gave ((sound ruled j).made)) in
    subst (λ log. line.asked ≤ ask_place log) ((added_line s j added.entry line past before added.gave).behind) (asked_inside line past (is_answer line.what) it.place)

-- the landing of an answer is a moment between its asking and it
pub between_of : {s : Settings} {t : Timing} {events : List Event} (j : ℕ) (line : Line) (past : List Line) (before : List Moment) → IsAllowed s t events
    → IsAdded s j line past before (run s t events).moments → (it : AddedBy s t j line before events) → (land : LandedAt s t j line.what it.earlier)
    → IsBetween s j line before (run s t land.earlier).moments
between_of {s = s} {t = t} j line past before allowed added it land =
    let asked = asked_le j line past before allowed added in
    let place : ask_place (node s j before).log ≡ ask_place (node s j (run s t land.earlier).moments).log =
    ap (λ ms. ask_place (node s j ms).log) (sym it.same) ∙ land.place in
    let inside = ask_place-within (node s j (run s t land.earlier).moments).log in
    record {
      back = subst (λ ms. Before (run s t land.earlier).moments ms) it.same (moments_grow s t (before_tail land.back));
      same = land.same ∙ ap (λ ms. (node s j ms).boots) it.same;
      on = land.on;
      since = omega arith;
    }

failed_unread : (j : ℕ) (op : DiskOp) → reads_slot is_clean_slot j (failed op) ≡ true → ⊥
unfolding failed
failed_unread j (disk.ReadSlot other) e = false≢true (second_of_both (other.0 == j) false e)
failed_unread j disk.CheckMail e = false≢true e
failed_unread j disk.ReadHeader e = false≢true e
failed_unread j (disk.WriteClaim number) e = false≢true e
failed_unread j disk.WriteClear e = false≢true e
failed_unread j disk.ReadMail e = false≢true e
failed_unread j (disk.WriteReset other) e = false≢true e
failed_unread j (disk.WriteClose number) e = false≢true e

taken_clean : (s : Settings) (t : Timing) (i j : ℕ) (op : DiskOp) (w : World) → reads_slot is_clean_slot j (taken s t i op w) ≡ true → (w.slots j).clean ≡ true
unfolding taken
taken_clean s t i j (disk.ReadSlot other) w e =
    subst (λ r. (w.slots r).clean ≡ true) (eqb-true other.0 j (first_of_both (other.0 == j) (w.slots other.0).clean e)) (second_of_both (other.0 == j) (w.slots other.0).clean e)
taken_clean s t i j disk.ReadHeader w e = absurd (false≢true e)
taken_clean s t i j disk.CheckMail w e = absurd (false≢true e)
taken_clean s t i j (disk.WriteClaim number) w e = absurd (false≢true e)
taken_clean s t i j disk.WriteClear w e = absurd (false≢true e)
taken_clean s t i j disk.ReadMail w e = absurd (false≢true e)
taken_clean s t i j (disk.WriteReset other) w e = absurd (false≢true e)
taken_clean s t i j (disk.WriteClose number) w e = absurd (false≢true e)

-- a close that is out was asked for
pub close_asked : (log : List Line) → is_close (op_out log) ≡ true → asked_close log ≡ true
close_asked log e = by_op (op_out log) refl e
  where
    asked_here : (line : Line) (past : List Line) (op : DiskOp) → disk_of line.outs ≡ Some op → is_close (Some op) ≡ true → asked_close (line ∷ past) ≡ true
    asked_here line past op gave is = at_line (is_close (disk_of line.outs)) (ap is_close gave ∙ is)
      where
        at_line : (b : Bool) → is_close (disk_of line.outs) ≡ true → asked_close (line ∷ past) ≡ true
        at_line b c = unfold asked_close in (ap (λ x. x || asked_close past) c)

    by_op : (out : Option DiskOp) → op_out log ≡ out → is_close out ≡ true → asked_close log ≡ true
    by_op None out is = absurd (false≢true is)
    by_op (Some op) out is =
        let asked = ask_line op log out in
        close_stays asked.back (asked_here asked.line asked.past op asked.gave is)

-- a slot that is clean while its node is up has a close that was asked for
clean_closed : {s : Settings} {log : List Line} {took : Option What} {mine : Slot} → Kept s log took mine → is_booting (phase s log) ≡ false → mine.clean ≡ true → asked_close log ≡ true
clean_closed {s = s} {log = log} {took = took} {mine = mine} kept booted clean = close_asked log (by_test (is_close (op_out log) && is_some took) refl)
  where
    by_test : (b : Bool) → (is_close (op_out log) && is_some took) ≡ b → is_close (op_out log) ≡ true
    by_test true e = first_of_both (is_close (op_out log)) (is_some took) e
    by_test false e = never_both mine.clean clean (kept.dirty booted e)

-- where a read gives a clean slot, the incarnation that was up at its landing had asked for its close
pub clean_means_closed : {s : Settings} {t : Timing} {events : List Event} → IsAllowed s t events → CleanMeansClosed s (run s t events).moments
clean_means_closed {s = s} {t = t} {events = events} allowed i j line past before added reads = by_kind it.kind
  where
    it : AddedBy s t i line before events
    it = added_by i line past before allowed added

    by_kind : LineKind s t i line (run s t it.earlier) → (between : List Moment) × IsBetween s i line before between × HasClosed s j between
    by_kind (Plain plain) = never_both (is_answer line.what) (ap is_answer (read_is is_clean_slot j line.what reads).2) plain
    by_kind (Failed op failure) = absurd (failed_unread j op (subst (λ w. reads_slot is_clean_slot j w ≡ true) failure reads))
    by_kind (Taken took) =
        let allowed_then = allowed_before (before_tail it.back) allowed in
        let land = landed_at i line.what allowed_then it.on took in
        let clean = taken_clean s t i j land.op (run s t land.earlier) (subst (λ w. reads_slot is_clean_slot j w ≡ true) land.value reads) in
        let kept_then = (stage (allowed_before (before_tail land.back) allowed_then)).held j in
        ((run s t land.earlier).moments, between_of i line past before allowed added it land, λ up. clean_closed (kept_then.kept up.on) up.booted clean)

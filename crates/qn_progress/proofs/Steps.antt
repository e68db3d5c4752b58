-- Each entry of a quiet node brings the fencing on.
use Rattle.std.proofs.Common.{◌≡◌, ℕ, suc, ◌+◌, ◌*◌, ◌≤◌, ◌<◌, Bool, true, false, List, [], ◌∷◌, length, Some, None, Option, refl, sym, ap, ◌∙◌, arith, ◌&&◌, not, if◌then◌else◌, ◌⊎◌, inl, inr}
use Rattle.std.proofs.lemmas.Bool.{false≢true, true≢false, leb-true, cases_lt, eqb-true, eq-eqb}
use Rattle.qn_model.specs.declared.configuration.Settings.{Settings}
use Rattle.qn_model.specs.declared.times.Timing.{Timing}
use Rattle.qn_model.specs.declared.entries.What.{What}
use Rattle.qn_model.specs.declared.entries.What.TheVariants as what
use Rattle.qn_model.specs.declared.outputs.DiskOp.{DiskOp}
use Rattle.qn_model.specs.declared.outputs.DiskOp.TheVariants as disk
use Rattle.qn_model.specs.declared.outputs.Out.{Out}
use Rattle.qn_model.specs.declared.life.Phase.TheVariants.{Up}
use Rattle.qn_model.specs.Log.{Line, op_out, ask_tick, ask_place, disk_of, is_answer, timing}
use Rattle.qn_model.specs.NodeVotes.{votes, is_in_view}
use Rattle.qn_model.specs.Votes.{view_tick}
use Rattle.qn_model.specs.Phases.{phase}
use Rattle.qn_model.specs.Fitting.{answers_op}
use Rattle.qn_model.specs.Licences.{out_time, is_seen_slot, reads_slot, writes_reset, is_slot_seen, is_clean, is_written}
use Rattle.qn_model.specs.Wanted.{rank_of, mail_tick, is_mail_due, fence_delay, fencing_op_with_delay, wanted_with_delay}
use Rattle.qn_model.specs.NodeOutputs.{outs_at, taken_in, with_read, mail_feeds}
use Rattle.qn_progress.specs.Pace.{Pace}
use Rattle.qn_progress.specs.Quiet.{is_gentle}
use Rattle.std.proofs.lemmas.Option.{none-some}
use Rattle.qn_model.specs.lemmas.Entries.{fitting_answers}
use Rattle.qn_model.specs.lemmas.Logs.{out_time-within}
use Rattle.qn_progress.proofs.Tools.{same_or_less, one_less}
use Rattle.qn_progress.proofs.Totals.{total_lt}
use Rattle.qn_progress.proofs.Given.{outs_up, acts_disk}
use Rattle.qn_progress.proofs.Entries.{read_due, reset_due, one, owed, pending, Plain, in_view_same, out_same, view_tick_same, read_now, written_now, read_less, reset_less, owed_less, pending_less, pending_same, read_due_same, reset_due_same}
use Rattle.qn_progress.proofs.Next.{Fences, ReadsSlot, Resets, Nothing, fences, wants, wants_none}
use Rattle.qn_progress.proofs.Busy.{Busy, Done, Idle, Stale, Mail, Fencing, Owes, OwesRead, OwesReset, resets_out, is_out, owes_one, some_pending, line_with, Quietly, asked_out, asked_mail, silent, owed_alike, pending_alike}

-- the outputs of the entry
abbrev pub outs_now : Settings → ℕ → List Line → ℕ → What → List Out
outs_now s me past tick entry = outs_at s me past tick entry (taken_in past tick entry)

pub stays_up : {s : Settings} {t : Timing} {me : ℕ} {pace : Pace} {past : List Line} {tick : ℕ} {entry : What} → Quietly s t me pace past tick entry
    → phase s (with_read s me past tick entry) ≡ Up
unfolding phase
stays_up quiet = quiet.up

-- its disk operation is the one that is wanted
disk_now : {s : Settings} {t : Timing} {me : ℕ} {pace : Pace} {past : List Line} {tick : ℕ} {entry : What} → Quietly s t me pace past tick entry
    → disk_of (outs_now s me past tick entry) ≡ wanted_with_delay s me (taken_in past tick entry)
disk_now {s = s} {me = me} {past = past} {tick = tick} {entry = entry} quiet =
    ap disk_of (outs_up s me past tick entry quiet.was_up (stays_up quiet))
    ∙ acts_disk s me (taken_in past tick entry) entry (mail_feeds tick past entry)

pub plain_now : {s : Settings} {t : Timing} {me : ℕ} {pace : Pace} {past : List Line} {tick : ℕ} {entry : What} → Quietly s t me pace past tick entry
    → (outs : List Out) → Plain (line_with past tick entry outs)
plain_now quiet outs = record { not_view = quiet.plain.not_view; stays_out = quiet.plain.stays_out }

taken_out : (past : List Line) (tick : ℕ) (entry : What) → op_out (taken_in past tick entry) ≡ (if is_answer entry then None else op_out past)
unfolding op_out
taken_out past tick entry = refl

taken_mail : (past : List Line) (tick : ℕ) (entry : What) → mail_tick (taken_in past tick entry) ≡ mail_tick past
unfolding mail_tick
taken_mail past tick entry = refl

-- where the entry leaves no operation out, the mailbox or the fencing is next
asks_next : {s : Settings} {t : Timing} {me : ℕ} {pace : Pace} {past : List Line} {tick : ℕ} {entry : What} (end : ℕ) → Quietly s t me pace past tick entry
    → op_out (taken_in past tick entry) ≡ None
    → (1 ≤ pending s (with_read s me past tick entry) → is_mail_due (taken_in past tick entry) ≡ true
    → tick + 2 * (pace.disk * pending s (with_read s me past tick entry)) ≤ end)
    → (1 ≤ pending s (with_read s me past tick entry) → tick + 2 * (pace.disk * pending s (with_read s me past tick entry)) ≤ end + pace.disk)
    → Busy s pace end (with_read s me past tick entry)
asks_next {s = s} {t = t} {me = me} {pace = pace} {past = past} {tick = tick} {entry = entry} end quiet out by_mail by_fencing =
    by_due (is_mail_due (taken_in past tick entry)) refl
  where
    outs : List Out
    outs = outs_now s me past tick entry

    wanted : disk_of outs ≡ (if is_mail_due (taken_in past tick entry) then Some disk.ReadMail else fencing_op_with_delay s (taken_in past tick entry))
    wanted = disk_now quiet ∙ wants s me (taken_in past tick entry) out quiet.up quiet.quorate quiet.chosen

    is_pending : pending s (with_read s me past tick entry) ≡ pending s (taken_in past tick entry)
    is_pending = pending_alike s past tick entry outs

    mail : is_mail_due (taken_in past tick entry) ≡ true → disk_of outs ≡ Some disk.ReadMail
        → (0 < pending s (with_read s me past tick entry)) ⊎ (pending s (with_read s me past tick entry) ≤ 0) → Busy s pace end (with_read s me past tick entry)
    mail due gave (inr none) =
        let asked = asked_out past tick entry outs disk.ReadMail gave in
        Done (omega arith) (ap resets_out asked.0)
    mail due gave (inl some) =
        let asked = asked_out past tick entry outs disk.ReadMail gave in
        let bound = by_mail some due in
        Mail asked.0 (asked_mail past tick entry outs gave ∙ sym asked.1) some (rw asked.1 bound)

    fencing : (f : Option DiskOp) → Fences s (taken_in past tick entry) f → disk_of outs ≡ f → Busy s pace end (with_read s me past tick entry)
    fencing _ (ReadsSlot j below due) gave =
        let asked = asked_out past tick entry outs (disk.ReadSlot (rank_of j)) gave in
        let here : read_due (with_read s me past tick entry) j ≡ true = (owed_alike past tick entry outs j).0 ∙ due in
        let owes : Owes (with_read s me past tick entry) j (disk.ReadSlot (rank_of j)) = OwesRead here in
        let some = some_pending s (with_read s me past tick entry) j below (owes_one (with_read s me past tick entry) j (disk.ReadSlot (rank_of j)) owes) in
        let bound = by_fencing some in
        Fencing (disk.ReadSlot (rank_of j)) j asked.0 below (place_after j asked.2) owes (rw asked.1 bound)
      where
        place_after : (k : ℕ) → ask_place (with_read s me past tick entry) ≡ suc (length past) → out_time k (with_read s me past tick entry) < ask_place (with_read s me past tick entry)
        place_after k place = let inside = out_time-within k past in let same = out_same past (plain_now quiet outs) k in omega arith
    fencing _ (Resets j below due) gave =
        let asked = asked_out past tick entry outs (disk.WriteReset (rank_of j)) gave in
        let here : reset_due (with_read s me past tick entry) j ≡ true = (owed_alike past tick entry outs j).1 ∙ due in
        let owes : Owes (with_read s me past tick entry) j (disk.WriteReset (rank_of j)) = OwesReset here in
        let some = some_pending s (with_read s me past tick entry) j below (owes_one (with_read s me past tick entry) j (disk.WriteReset (rank_of j)) owes) in
        let bound = by_fencing some in
        Fencing (disk.WriteReset (rank_of j)) j asked.0 below (place_after j asked.2) owes (rw asked.1 bound)
      where
        place_after : (k : ℕ) → ask_place (with_read s me past tick entry) ≡ suc (length past) → out_time k (with_read s me past tick entry) < ask_place (with_read s me past tick entry)
        place_after k place = let inside = out_time-within k past in let same = out_same past (plain_now quiet outs) k in omega arith
    fencing _ (Nothing none) gave =
        let still = silent past tick entry outs gave in
        Done (is_pending ∙ none) (ap resets_out (still.0 ∙ sym (taken_out past tick entry) ∙ out))

    delays_over : (j : ℕ) → j < length s.nodes → is_in_view (taken_in past tick entry) j ≡ false → view_tick (votes (taken_in past tick entry)) + fence_delay s j ≤ tick
    delays_over j below away = let before = quiet.delays j below (sym (in_view_same past (plain_now quiet []) j) ∙ away) in let same = view_tick_same past (plain_now quiet []) in omega arith

    by_due : (b : Bool) → is_mail_due (taken_in past tick entry) ≡ b → Busy s pace end (with_read s me past tick entry)
    by_due true due =
        mail due (wanted ∙ ap (λ b. if b then Some disk.ReadMail else fencing_op_with_delay s (taken_in past tick entry)) due) (cases_lt 0 (pending s (with_read s me past tick entry)))
    by_due false due =
        fencing (fencing_op_with_delay s (taken_in past tick entry)) (fences s (taken_in past tick entry) delays_over)
        (wanted ∙ ap (λ b. if b then Some disk.ReadMail else fencing_op_with_delay s (taken_in past tick entry)) due)

-- an operation that is out stays out until its answer
stays : {s : Settings} {t : Timing} {me : ℕ} {pace : Pace} {past : List Line} {tick : ℕ} {entry : What} (end : ℕ) → Quietly s t me pace past tick entry
    → is_answer entry ≡ false → (op : DiskOp) → op_out past ≡ Some op → Busy s pace end past → Busy s pace end (with_read s me past tick entry)
stays {s = s} {t = t} {me = me} {pace = pace} {past = past} {tick = tick} {entry = entry} end quiet none was out busy = by_busy busy
  where
    outs : List Out
    outs = outs_now s me past tick entry

    kept : (if is_answer entry then None else op_out past) ≡ op_out past
    kept = ap (λ b. if b then None else op_out past) none

    asks_none : disk_of outs ≡ None
    asks_none = disk_now quiet ∙ wants_none s me (taken_in past tick entry) was (taken_out past tick entry ∙ kept ∙ out)

    still_out : op_out (with_read s me past tick entry) ≡ op_out past
    still_out = (silent past tick entry outs asks_none).0 ∙ kept

    is_tick : ask_tick (with_read s me past tick entry) ≡ ask_tick past
    is_tick = (silent past tick entry outs asks_none).1

    is_place : ask_place (with_read s me past tick entry) ≡ ask_place past
    is_place = (silent past tick entry outs asks_none).2

    is_mail : mail_tick (with_read s me past tick entry) ≡ mail_tick past
    is_mail = (silent past tick entry outs asks_none).3

    is_pending : pending s (with_read s me past tick entry) ≡ pending s past
    is_pending = pending_same s past (plain_now quiet outs) none

    still_owes : (j : ℕ) (op : DiskOp) → Owes past j op → Owes (with_read s me past tick entry) j op
    still_owes j op (OwesRead due) = OwesRead (read_due_same past (plain_now quiet outs) none j ∙ due)
    still_owes j op (OwesReset due) = OwesReset (reset_due_same past (plain_now quiet outs) none j ∙ due)

    by_busy : Busy s pace end past → Busy s pace end (with_read s me past tick entry)
    by_busy (Done zero_pending no_reset) = Done (is_pending ∙ zero_pending) (ap resets_out still_out ∙ no_reset)
    by_busy (Idle nothing bound) = absurd (none-some was (sym nothing ∙ out))
    by_busy (Stale op is bound) = Stale op (still_out ∙ is) (rw is_tick (rw is_pending bound))
    by_busy (Mail is asked some bound) = Mail (still_out ∙ is) (is_mail ∙ asked ∙ sym is_tick) (rw is_pending some) (rw is_tick (rw is_pending bound))
    by_busy (Fencing op j is below place owes bound) =
        let same = out_same past (plain_now quiet outs) j in
        Fencing op j (still_out ∙ is) below (rw is_place (rw same place)) (still_owes j op owes) (rw is_tick (rw is_pending bound))

-- a read of a slot that did not fail, and a reset that was written, are owed no more
read_hits : (j : ℕ) (entry : What) → answers_op (Some (disk.ReadSlot (rank_of j))) entry ≡ true → is_gentle entry ≡ true → reads_slot is_seen_slot j entry ≡ true
read_hits j (what.SlotRead other seen) e g = ap (λ x. x && is_seen_slot seen) (eq-eqb other.0 j (sym (eqb-true j other.0 e))) ∙ g
read_hits j what.Begin e g = absurd (false≢true e)
read_hits j what.BeginClean e g = absurd (false≢true e)
read_hits j (what.Header seen) e g = absurd (false≢true e)
read_hits j (what.MailChecked seen) e g = absurd (false≢true e)
read_hits j (what.Claimed ok) e g = absurd (false≢true e)
read_hits j (what.Cleared ok) e g = absurd (false≢true e)
read_hits j (what.MailRead seen) e g = absurd (false≢true e)
read_hits j (what.MailWritten other ok) e g = absurd (false≢true e)
read_hits j (what.View installed) e g = absurd (false≢true e)
read_hits j (what.Ask ask) e g = absurd (false≢true e)
read_hits j (what.Tell tell) e g = absurd (false≢true e)
read_hits j (what.Device agrees) e g = absurd (false≢true e)
read_hits j what.Tick e g = absurd (false≢true e)
read_hits j (what.Stopped ok) e g = absurd (false≢true e)
read_hits j what.Leave e g = absurd (false≢true e)
read_hits j (what.Closed ok) e g = absurd (false≢true e)

write_hits : (j : ℕ) (entry : What) → answers_op (Some (disk.WriteReset (rank_of j))) entry ≡ true → is_gentle entry ≡ true → writes_reset j entry ≡ true
write_hits j (what.MailWritten other ok) e g = ap (λ x. x && ok) (eq-eqb other.0 j (sym (eqb-true j other.0 e))) ∙ g
write_hits j (what.SlotRead other seen) e g = absurd (false≢true e)
write_hits j what.Begin e g = absurd (false≢true e)
write_hits j what.BeginClean e g = absurd (false≢true e)
write_hits j (what.Header seen) e g = absurd (false≢true e)
write_hits j (what.MailChecked seen) e g = absurd (false≢true e)
write_hits j (what.Claimed ok) e g = absurd (false≢true e)
write_hits j (what.Cleared ok) e g = absurd (false≢true e)
write_hits j (what.MailRead seen) e g = absurd (false≢true e)
write_hits j (what.View installed) e g = absurd (false≢true e)
write_hits j (what.Ask ask) e g = absurd (false≢true e)
write_hits j (what.Tell tell) e g = absurd (false≢true e)
write_hits j (what.Device agrees) e g = absurd (false≢true e)
write_hits j what.Tick e g = absurd (false≢true e)
write_hits j (what.Stopped ok) e g = absurd (false≢true e)
write_hits j what.Leave e g = absurd (false≢true e)
write_hits j (what.Closed ok) e g = absurd (false≢true e)

not_two : (a b : Bool) → b ≡ true → (not a && not b) ≡ false
not_two true true e = refl
not_two false true e = refl
not_two a false e = absurd (false≢true e)

not_three : (a b c : Bool) → c ≡ true → (not a && not b && not c) ≡ false
not_three true true true e = refl
not_three true false true e = refl
not_three false true true e = refl
not_three false false true e = refl
not_three a b false e = absurd (false≢true e)

answered_less : {line : Line} (past : List Line) (j : ℕ) (op : DiskOp) → Plain line → Owes past j op → answers_op (Some op) line.what ≡ true → is_gentle line.what ≡ true
    → out_time j past < line.asked → owed (line ∷ past) j < owed past j
answered_less {line = line} past j op plain (OwesRead due) answer gentle asked =
    let hits = read_hits j line.what answer gentle in
    let seen : is_slot_seen (line ∷ past) j ≡ true = read_now past plain is_seen_slot j asked hits in
    let over : read_due (line ∷ past) j ≡ false = not_two (is_in_view (line ∷ past) j) (is_slot_seen (line ∷ past) j) seen in
    let was = ap one due in let now' = ap one over in
    let rest = reset_less past plain j in
    omega arith
answered_less {line = line} past j op plain (OwesReset due) answer gentle asked =
    let hits = write_hits j line.what answer gentle in
    let seen : is_written (line ∷ past) j ≡ true = written_now past plain j asked hits in
    let over : reset_due (line ∷ past) j ≡ false = not_three (is_in_view (line ∷ past) j) (is_clean (line ∷ past) j) (is_written (line ∷ past) j) seen in
    let was = ap one due in let now' = ap one over in
    let rest = read_less past plain j in
    omega arith

-- each entry keeps the end of the fencing
pub busy_next : {s : Settings} {t : Timing} {me : ℕ} {pace : Pace} {past : List Line} {tick : ℕ} {entry : What} (end : ℕ) → pace.disk < t.loop_ms
    → Quietly s t me pace past tick entry → Busy s pace end past → Busy s pace end (with_read s me past tick entry)
busy_next {s = s} {t = t} {me = me} {pace = pace} {past = past} {tick = tick} {entry = entry} end fast quiet busy = by_answer (is_answer entry) refl
  where
    outs : List Out
    outs = outs_now s me past tick entry

    next : List Line
    next = with_read s me past tick entry

    less : pending s (with_read s me past tick entry) ≤ pending s past
    less = pending_less s past (plain_now quiet outs)

    less_time : pace.disk * pending s (with_read s me past tick entry) ≤ pace.disk * pending s past
    less_time = same_or_less pace.disk (pending s (with_read s me past tick entry)) (pending s past) less

    -- an answer, by what was out
    by_busy : is_answer entry ≡ true → op_out (taken_in past tick entry) ≡ None → Busy s pace end past → Busy s pace end (with_read s me past tick entry)
    by_busy is free (Done none no_reset) = let l = less in asks_next end quiet free (λ some due. absurd (omega arith)) (λ some. absurd (omega arith))
    by_busy is free (Idle nothing bound) =
        absurd (true≢false (sym (fitting_answers s me past entry is quiet.fitting) ∙ ap (λ o. answers_op o entry) nothing))
    by_busy is free (Stale op out bound) =
        let soon = quiet.answers (is_out out) in let l = less_time in
        asks_next end quiet free (λ some due. omega arith) (λ some. omega arith)
    by_busy is free (Mail out asked some bound) =
        let soon = quiet.answers (is_out out) in let l = less_time in
        asks_next end quiet free (λ some' due. absurd (not_due due)) (λ some'. omega arith)
      where
        not_due : is_mail_due (taken_in past tick entry) ≡ true → ⊥
        not_due due =
            let passed = leb-true (mail_tick (taken_in past tick entry) + (timing (taken_in past tick entry)).loop_ms) tick due in
            let same = taken_mail past tick entry in
            let loop = ap (λ (x : Timing). x.loop_ms) quiet.times in
            let soon = quiet.answers (is_out out) in
            omega arith
    by_busy is free (Fencing op j out below place owes bound) =
        let soon = quiet.answers (is_out out) in
        let asked : (line_with past tick entry outs).asked ≡ ask_place past = ap (λ b. if b then ask_place past else 0) is in
        let answer : answers_op (Some op) entry ≡ true = ap (λ o. answers_op o entry) (sym out) ∙ fitting_answers s me past entry is quiet.fitting in
        let one_fewer = answered_less past j op (plain_now quiet outs) owes answer quiet.gentle (rw asked place) in
        let fewer : pending s (with_read s me past tick entry) < pending s past =
        total_lt (length s.nodes) (owed (with_read s me past tick entry)) (owed past) j below one_fewer (λ k under. owed_less past (plain_now quiet outs) k) in
        let time = one_less pace.disk (pending s (with_read s me past tick entry)) (pending s past) fewer in
        asks_next end quiet free (λ some due. omega arith) (λ some. omega arith)

    -- no answer, and nothing is out
    by_idle : is_answer entry ≡ false → op_out past ≡ None → op_out (taken_in past tick entry) ≡ None → Busy s pace end past → Busy s pace end (with_read s me past tick entry)
    by_idle none nothing free (Done zero_pending no_reset) = let l = less in asks_next end quiet free (λ some due. absurd (omega arith)) (λ some. absurd (omega arith))
    by_idle none nothing free (Idle same bound) = let turn = quiet.turns in let l = less_time in asks_next end quiet free (λ some due. omega arith) (λ some. omega arith)
    by_idle none nothing free (Stale op out bound) = absurd (none-some op (sym nothing ∙ out))
    by_idle none nothing free (Mail out asked some bound) = absurd (none-some disk.ReadMail (sym nothing ∙ out))
    by_idle none nothing free (Fencing op j out below place owes bound) = absurd (none-some op (sym nothing ∙ out))

    by_out : is_answer entry ≡ false → (o : Option DiskOp) → op_out past ≡ o → Busy s pace end (with_read s me past tick entry)
    by_out none None out = by_idle none out (taken_out past tick entry ∙ ap (λ b. if b then None else op_out past) none ∙ out) busy
    by_out none (Some op) out = stays end quiet none op out busy

    by_answer : (b : Bool) → is_answer entry ≡ b → Busy s pace end (with_read s me past tick entry)
    by_answer true is = by_busy is (taken_out past tick entry ∙ ap (λ b. if b then None else op_out past) is) busy
    by_answer false none = by_out none (op_out past) refl

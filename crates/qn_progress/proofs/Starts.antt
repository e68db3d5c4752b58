-- Once the fencing is over and msgwait has passed, the only member of a view starts.
use Rattle.std.proofs.Common.{◌≡◌, ℕ, ◌+◌, ◌≤◌, ◌<◌, Bool, true, false, List, [], ◌∷◌, length, Some, None, Option, refl, sym, ap, ◌∙◌, arith, ◌&&◌, ◌==◌, not, if◌then◌else◌, is_some, is_none, unwrap_or, nat_le, ◌⊎◌, inl, inr}
use Rattle.std.specs.Option.{option_map_or}
use Rattle.std.proofs.lemmas.Bool.{false≢true, true≢false, le-leb, eq-eqb, or_left, or_right}
use Rattle.qn_base.specs.declared.ids.View.{View}
use Rattle.qn_base.specs.Members.{is_member}
use Rattle.qn_model.specs.declared.configuration.Settings.{Settings}
use Rattle.qn_model.specs.declared.times.Timing.{Timing}
use Rattle.qn_model.specs.declared.entries.What.{What}
use Rattle.qn_model.specs.declared.entries.What.TheVariants as what
use Rattle.qn_model.specs.declared.outputs.DiskOp.{DiskOp}
use Rattle.qn_model.specs.declared.outputs.DiskOp.TheVariants as disk
use Rattle.qn_model.specs.declared.outputs.Out.{Out}
use Rattle.qn_model.specs.declared.life.Why.{Why}
use Rattle.qn_model.specs.declared.life.Why.TheVariants as why
use Rattle.qn_model.specs.Log.{Line, op_out, has_start, timing, is_view}
use Rattle.qn_model.specs.NodeVotes.{view, quorate_with_tie, answer_with_tie, released, is_in_view}
use Rattle.qn_model.specs.Phases.{phase, is_up}
use Rattle.qn_model.specs.Holding.{holds, is_stopped}
use Rattle.qn_model.specs.Hearing.{is_free, is_held, told, tells}
use Rattle.qn_model.specs.Fitting.{fits, answers_op}
use Rattle.qn_model.specs.Licences.{reset_tick, writes_reset, is_clean, is_written, is_fenced, is_licensed, left_to_wait}
use Rattle.qn_model.specs.LeastMembers.{least_from-none}
use Rattle.qn_model.specs.Unmet.{id_of, chosen, holder, unheard, unfenced, or_else, other_chosen, unmet, is_clear}
use Rattle.qn_model.specs.NodeOutputs.{taken_in, with_read, gives_start, mail_feeds}
use Rattle.qn_progress.specs.Pace.{Pace}
use Rattle.qn_progress.specs.Quiet.{is_gentle, HasHeardAll}
use Rattle.std.proofs.lemmas.Option.{same_Some}
use Rattle.qn_model.specs.lemmas.ChosenRanks.{chosen_inside}
use Rattle.qn_progress.proofs.Totals.{total_zero}
use Rattle.qn_progress.proofs.Given.{outs_up, acts_start}
use Rattle.qn_progress.proofs.Entries.{reset_due, read_due, one, owed, pending, in_view_same, pending_less, Reset, WrittenNow, AsBefore, reset_is}
use Rattle.qn_progress.proofs.Busy.{Busy, by_end, line_with, Quietly, resets_out}
use Rattle.qn_progress.proofs.Steps.{outs_now, plain_now, stays_up}

-- each reset that counts was written by then
abbrev pub ResetsBy : ℕ → List Line → Type 0
ResetsBy end log = (j w : ℕ) → reset_tick log j ≡ Some w → w ≤ end

writes_out : (s : Settings) (me : ℕ) (past : List Line) (entry : What) (j : ℕ) → fits s me past entry ≡ true → writes_reset j entry ≡ true → resets_out (op_out past) ≡ true
writes_out s me past (what.MailWritten other ok) j fit w = by_out (op_out past) fit
  where
    by_out : (o : Option DiskOp) → answers_op o (what.MailWritten other ok) ≡ true → resets_out o ≡ true
    by_out None e = absurd (false≢true e)
    by_out (Some disk.ReadHeader) e = absurd (false≢true e)
    by_out (Some (disk.ReadSlot rank)) e = absurd (false≢true e)
    by_out (Some disk.CheckMail) e = absurd (false≢true e)
    by_out (Some (disk.WriteClaim number)) e = absurd (false≢true e)
    by_out (Some disk.WriteClear) e = absurd (false≢true e)
    by_out (Some disk.ReadMail) e = absurd (false≢true e)
    by_out (Some (disk.WriteReset rank)) e = refl
    by_out (Some (disk.WriteClose number)) e = absurd (false≢true e)
writes_out s me past what.Begin j fit w = absurd (false≢true w)
writes_out s me past what.BeginClean j fit w = absurd (false≢true w)
writes_out s me past (what.Header seen) j fit w = absurd (false≢true w)
writes_out s me past (what.SlotRead other seen) j fit w = absurd (false≢true w)
writes_out s me past (what.MailChecked seen) j fit w = absurd (false≢true w)
writes_out s me past (what.Claimed ok) j fit w = absurd (false≢true w)
writes_out s me past (what.Cleared ok) j fit w = absurd (false≢true w)
writes_out s me past (what.MailRead seen) j fit w = absurd (false≢true w)
writes_out s me past (what.View installed) j fit w = absurd (false≢true w)
writes_out s me past (what.Ask ask) j fit w = absurd (false≢true w)
writes_out s me past (what.Tell tell) j fit w = absurd (false≢true w)
writes_out s me past (what.Device agrees) j fit w = absurd (false≢true w)
writes_out s me past what.Tick j fit w = absurd (false≢true w)
writes_out s me past (what.Stopped ok) j fit w = absurd (false≢true w)
writes_out s me past what.Leave j fit w = absurd (false≢true w)
writes_out s me past (what.Closed ok) j fit w = absurd (false≢true w)

pub resets_next : {s : Settings} {t : Timing} {me : ℕ} {pace : Pace} {past : List Line} {tick : ℕ} {entry : What} (end : ℕ)
    → Quietly s t me pace past tick entry → Busy s pace end past → ResetsBy end past → (outs : List Out) → ResetsBy end (line_with past tick entry outs ∷ past)
resets_next {s = s} {t = t} {me = me} {pace = pace} {past = past} {tick = tick} {entry = entry} end quiet busy before outs j w e =
    by_reset (reset_is past (plain_now quiet outs) j) e
  where
    soon : writes_reset j entry ≡ true → (tick ≤ end) ⊎ ((pending s past ≡ 0) × (resets_out (op_out past) ≡ false)) → tick ≤ end
    soon writes (inl below) = below
    soon writes (inr over) = absurd (true≢false (sym (writes_out s me past entry j quiet.fitting writes) ∙ over.1))

    by_reset : {found : Option ℕ} → Reset (line_with past tick entry outs) past j found → found ≡ Some w → w ≤ end
    by_reset (WrittenNow writes) is =
        let same : tick ≡ w = same_Some _ _ is in
        let below = soon writes (by_end busy tick quiet.answers quiet.turns) in omega arith
    by_reset AsBefore is = before j w is

no_holder : (inside other told free : Bool) → (inside ≡ true → (other ≡ false) ⊎ (free ≡ true)) → (inside && other && (told && not free)) ≡ false
no_holder false other told free e = refl
no_holder true false told free e = refl
no_holder true true false free e = refl
no_holder true true true true e = refl
no_holder true true true false e = by_case (e refl)
  where
    by_case : (true ≡ false) ⊎ (false ≡ true) → true ≡ false
    by_case (inl no') = absurd (true≢false no')
    by_case (inr no') = absurd (false≢true no')

all_heard : (inside other free held : Bool) → (inside ≡ true → (other ≡ false) ⊎ (free ≡ true)) → (inside && other && not free && not held) ≡ false
all_heard false other free held e = refl
all_heard true false free held e = refl
all_heard true true true held e = refl
all_heard true true false held e = by_case (e refl)
  where
    by_case : (true ≡ false) ⊎ (false ≡ true) → not held ≡ false
    by_case (inl no') = absurd (true≢false no')
    by_case (inr no') = absurd (false≢true no')

-- what was said since the last view stays said
pub free_stays : (line : Line) (past : List Line) → is_view line.what ≡ false → (j : ℕ) → is_free past j ≡ true → is_free (line ∷ past) j ≡ true
unfolding told
free_stays line past none j free =
    or_right (tells (λ tell. not tell.holds) j past line.what) (not (is_view line.what) && told (λ tell. not tell.holds) j past)
    (ap (λ b. not b && told (λ tell. not tell.holds) j past) none ∙ free)

due_none : (inside clean written licensed : Bool) → (not inside && not clean && not written) ≡ false → (clean ≡ true → licensed ≡ true) → (written ≡ true → licensed ≡ true)
    → (not inside && not licensed) ≡ false
due_none true clean written licensed none byc byw = refl
due_none false true written licensed none byc byw = ap not (byc refl)
due_none false false true licensed none byc byw = ap not (byw refl)
due_none false false false licensed none byc byw = absurd (true≢false none)

one_none : (a b : Bool) → one a + one b ≡ 0 → b ≡ false
one_none a false e = refl
one_none true true e = absurd (omega arith)
one_none false true e = absurd (omega arith)

clear_from : (up held blank free quorate : Bool) (lacks : Why) (other holder' unheard' unfenced' : Option ℕ) (a b c d : ℕ → Why)
    → up ≡ true → held ≡ false → blank ≡ false → free ≡ true → quorate ≡ true → other ≡ None → holder' ≡ None → unheard' ≡ None → unfenced' ≡ None
    → is_clear (if not up then why.Down
    else (if held then why.Holding
    else (if blank then why.NoView
    else (if not free then why.WaitForAll
    else (if not quorate then lacks
    else or_else other a (or_else holder' b (or_else unheard' c (or_else unfenced' d why.Clear)))))))) ≡ true
clear_from up held blank free quorate lacks other holder' unheard' unfenced' a b c d eu eh eb ef eq eo eholder eunheard eunfenced =
    rw eu (rw eh (rw eb (rw ef (rw eq (rw eo (rw eholder (rw eunheard (rw eunfenced refl))))))))

there : (v : Option View) (j : ℕ) → option_map_or (λ installed. is_member installed.members j) v false ≡ true → is_none v ≡ false
there None j e = absurd (false≢true e)
there (Some installed) j e = refl

view_there : (s : Settings) (me : ℕ) (log : List Line) (found : Option ℕ) → chosen s log ≡ found → option_map_or (λ rank. rank == me) found false ≡ true → is_none (view log) ≡ false
view_there s me log None is e = absurd (false≢true e)
view_there s me log (Some j) is e = there (view log) j (chosen_inside s log j is)

fenced_by : (found : Option ℕ) (wait end tick : ℕ) → is_some found ≡ true → ((w : ℕ) → found ≡ Some w → w ≤ end) → end + wait ≤ tick
    → option_map_or (λ written. nat_le (written + wait) tick) found false ≡ true
fenced_by None wait end tick some by' passed = absurd (false≢true some)
fenced_by (Some w) wait end tick some by' passed = le-leb _ _ (let below = by' w refl in omega arith)

-- nothing lacks
nothing_lacks : {s : Settings} {t : Timing} {me : ℕ} {pace : Pace} {past : List Line} {tick : ℕ} {entry : What} (end : ℕ)
    → Quietly s t me pace past tick entry → Busy s pace end past → ResetsBy end past → pending s past ≡ 0 → end + t.msgwait ≤ tick
    → HasHeardAll s me past → released s (taken_in past tick entry) ≡ true → holds (taken_in past tick entry) ≡ false
    → gives_start s me (taken_in past tick entry) ≡ true
unfolding unmet
nothing_lacks {s = s} {t = t} {me = me} {pace = pace} {past = past} {tick = tick} {entry = entry} end quiet busy resets none passed heard free idle =
    clear_from (is_up (phase s log)) (holds log) (is_none (view log)) (released s log) (quorate_with_tie s log tick)
    (why.NotQuorate ((answer_with_tie s log tick).votes) ((answer_with_tie s log tick).quorum))
    (other_chosen s me log) (holder s me log) (unheard s me log) (unfenced s log tick)
    (λ rank. why.NotChosen (id_of s rank)) (λ rank. why.HeldBy (id_of s rank)) (λ rank. why.Unheard (id_of s rank))
    (λ rank. why.Unfenced (id_of s rank) (is_written log rank) (left_to_wait log rank tick))
    (ap is_up quiet.up) idle (view_there s me log (chosen s log) refl quiet.chosen) free quiet.quorate
    (ap (λ b. if b then None else Some (unwrap_or (chosen s log) 255)) quiet.chosen)
    (least_from-none (length s.nodes) 0 _ (λ j above below. no_holder (is_in_view log j) (not (j == me)) (told (λ tell. true) j log) (is_free log j) (said j (omega arith))))
    (least_from-none (length s.nodes) 0 _ (λ j above below. all_heard (is_in_view log j) (not (j == me)) (is_free log j) (is_held log j) (said j (omega arith))))
    (least_from-none (length s.nodes) 0 _ (λ j above below. licensed j (omega arith)))
  where
    log : List Line
    log = taken_in past tick entry

    by_rank : (j : ℕ) → j < length s.nodes → is_in_view (taken_in past tick entry) j ≡ true → (b : Bool) → (j == me) ≡ b
        → (not b ≡ false) ⊎ (is_free (taken_in past tick entry) j ≡ true)
    by_rank j below inside true same = inl refl
    by_rank j below inside false other = inr (free_stays (line_with past tick entry []) past quiet.plain.not_view j
        (heard j below (sym (in_view_same past (plain_now quiet []) j) ∙ inside) (λ same. absurd (true≢false (sym (eq-eqb j me same) ∙ other)))))

    said : (j : ℕ) → j < length s.nodes → is_in_view (taken_in past tick entry) j ≡ true → (not (j == me) ≡ false) ⊎ (is_free (taken_in past tick entry) j ≡ true)
    said j below inside = by_rank j below inside (j == me) refl

    none_owed : pending s (taken_in past tick entry) ≡ 0
    none_owed = let less = pending_less s past (plain_now quiet []) in omega arith

    fenced : (j : ℕ) → is_written (taken_in past tick entry) j ≡ true → is_fenced (taken_in past tick entry) j tick ≡ true
    fenced j written =
        let wait = ap (λ (x : Timing). x.msgwait) quiet.times in
        fenced_by (reset_tick (taken_in past tick entry) j) (timing (taken_in past tick entry)).msgwait end tick written
        (λ w is. resets_next end quiet busy resets [] j w is) (omega arith)

    licensed : (j : ℕ) → j < length s.nodes → (not (is_in_view (taken_in past tick entry) j) && not (is_licensed (taken_in past tick entry) j tick)) ≡ false
    licensed j below =
        due_none (is_in_view (taken_in past tick entry) j) (is_clean (taken_in past tick entry) j) (is_written (taken_in past tick entry) j) (is_licensed (taken_in past tick entry) j tick)
        (one_none (read_due (taken_in past tick entry) j) (reset_due (taken_in past tick entry) j) (total_zero (length s.nodes) (owed (taken_in past tick entry)) none_owed j below))
        (λ clean. or_left (is_clean (taken_in past tick entry) j) (is_fenced (taken_in past tick entry) j tick) clean)
        (λ written. or_right (is_clean (taken_in past tick entry) j) (is_fenced (taken_in past tick entry) j tick) (fenced j written))

not_stopped : (entry : What) → is_gentle entry ≡ true → not (is_stopped entry) ≡ true
not_stopped (what.Stopped ok) g = g
not_stopped what.Begin g = refl
not_stopped what.BeginClean g = refl
not_stopped (what.Header seen) g = refl
not_stopped (what.SlotRead other seen) g = refl
not_stopped (what.MailChecked seen) g = refl
not_stopped (what.Claimed ok) g = refl
not_stopped (what.Cleared ok) g = refl
not_stopped (what.MailRead seen) g = refl
not_stopped (what.MailWritten other ok) g = refl
not_stopped (what.View installed) g = refl
not_stopped (what.Ask ask) g = refl
not_stopped (what.Tell tell) g = refl
not_stopped (what.Device agrees) g = refl
not_stopped what.Tick g = refl
not_stopped what.Leave g = refl
not_stopped (what.Closed ok) g = refl

-- who holds goes on
pub holds_on : {s : Settings} {t : Timing} {me : ℕ} {pace : Pace} {past : List Line} {tick : ℕ} {entry : What}
    → Quietly s t me pace past tick entry → holds past ≡ true → holds (with_read s me past tick entry) ≡ true
unfolding holds
holds_on {s = s} {me = me} {past = past} {tick = tick} {entry = entry} quiet held =
    or_right (has_start (outs_now s me past tick entry)) (holds past && not (is_stopped entry))
    (ap (λ b. b && not (is_stopped entry)) held ∙ not_stopped entry quiet.gentle)

idle_of : (past : List Line) (tick : ℕ) (entry : What) → holds past ≡ false → holds (taken_in past tick entry) ≡ false
unfolding holds
idle_of past tick entry e = ap (λ b. b && not (is_stopped entry)) e

pub starts_of : (s : Settings) (me : ℕ) (past : List Line) (tick : ℕ) (entry : What) → has_start (outs_now s me past tick entry) ≡ true → holds (with_read s me past tick entry) ≡ true
unfolding holds
starts_of s me past tick entry e = or_left (has_start (outs_now s me past tick entry)) (holds past && not (is_stopped entry)) e

-- the only member of a view holds from the first entry on after msgwait
pub starts : {s : Settings} {t : Timing} {me : ℕ} {pace : Pace} {past : List Line} {tick : ℕ} {entry : What} (end : ℕ)
    → Quietly s t me pace past tick entry → Busy s pace end past → ResetsBy end past → end < tick → end + t.msgwait ≤ tick
    → HasHeardAll s me past → released s (taken_in past tick entry) ≡ true
    → holds (with_read s me past tick entry) ≡ true
starts {s = s} {t = t} {me = me} {pace = pace} {past = past} {tick = tick} {entry = entry} end quiet busy resets late passed heard free = by_test (holds past) refl
  where
    over : (tick ≤ end) ⊎ ((pending s past ≡ 0) × (resets_out (op_out past) ≡ false)) → pending s past ≡ 0
    over (inl below) = absurd (omega arith)
    over (inr done) = done.0

    by_test : (b : Bool) → holds past ≡ b → holds (with_read s me past tick entry) ≡ true
    by_test true held = holds_on quiet held
    by_test false idle =
        let gives = nothing_lacks end quiet busy resets (over (by_end busy tick quiet.answers quiet.turns)) passed heard free (idle_of past tick entry idle) in
        starts_of s me past tick entry
        (ap has_start (outs_up s me past tick entry quiet.was_up (stays_up quiet)) ∙ acts_start s me (taken_in past tick entry) entry (mail_feeds tick past entry) gives)

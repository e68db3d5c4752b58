-- What stays as it is along the log of one node.
use Rattle.std.proofs.Common.{◌≡◌, ℕ, suc, Bool, true, false, List, [], ◌∷◌, length, Some, None, Option, refl, sym, ap, ◌∙◌, subst, ◌&&◌, ◌||◌, not, if◌then◌else◌, ◌⊎◌, inl, inr, is_some}
use Rattle.std.specs.Option.{option_or}
use Rattle.std.proofs.lemmas.Bool.{false≢true, true≢false}
use Rattle.qn_base.specs.lemmas.Options.{some_is_not_none}
use Rattle.qn_base.specs.lemmas.Bools.{never_both, first_of_both}
use Rattle.qn_model.specs.declared.configuration.Settings.{Settings}
use Rattle.qn_model.specs.declared.disk.Message.{Message}
use Rattle.qn_model.specs.declared.entries.What.{What}
use Rattle.qn_model.specs.declared.entries.What.TheVariants as what
use Rattle.qn_model.specs.declared.life.Phase.{Phase}
use Rattle.qn_model.specs.declared.life.Phase.TheVariants.{Booting, Up, Leaving, Dying, Gone}
use Rattle.qn_model.specs.declared.outputs.BootCause.{BootCause}
use Rattle.qn_model.specs.declared.outputs.DiskOp.{DiskOp}
use Rattle.qn_model.specs.declared.outputs.DiskOp.TheVariants as disk
use Rattle.qn_model.specs.Log.{Line, op_out, ask_place, disk_of, has_start, is_answer}
use Rattle.qn_model.specs.Phases.{phase, next_phase, boot_phase, mail_phase, header_halt, slot_halt, check_halt, boot_halt, message_of, deadly_of, in_time, is_booting, is_live, is_up, is_leaving}
use Rattle.qn_model.specs.Holding.{holds, is_stopped}
use Rattle.qn_model.specs.Fitting.{fits}
use Rattle.qn_model.specs.Moments.{Before, Itself, Later}
use Rattle.qn_safety.specs.Earlier.{before_length, before_same}
use Rattle.qn_safety.specs.Closing.{is_close, asked_close}
use Rattle.qn_safety.proofs.Says.{Reason}
use Rattle.qn_safety.proofs.Clear.{why_clear}
use Rattle.qn_safety.proofs.Logs.{Made, NoLine, OneMore, IsLine, before_outs, disk_reason, start_reason}
use Rattle.qn_safety.proofs.Apt.{is_apt, apt, leaving_is, BootStep, BeginStep, HeaderStep, SlotStep, CleanSlotStep, CheckStep, ClaimStep, ClearStep, boot_step_of, cleared_answers}

-- an operation is given only where none is out any more
step_silent : {number : ℕ} (s : Settings) (me : ℕ) (past : List Line) (entry : What) (op : DiskOp) (p : Phase) → BootStep me number entry op p → fits s me past entry ≡ true
    → (if is_answer entry then None else op_out past) ≡ None
unfolding op_out
step_silent s me [] entry op p (BeginStep false) fit = refl
step_silent s me [] entry op p (BeginStep true) fit = refl
step_silent s me (line ∷ past) entry op p (BeginStep false) fit = absurd (false≢true fit)
step_silent s me (line ∷ past) entry op p (BeginStep true) fit = absurd (false≢true fit)
step_silent s me past entry op p (HeaderStep seen) fit = refl
step_silent s me past entry op p (SlotStep rank own) fit = refl
step_silent s me past entry op p (CleanSlotStep rank own) fit = refl
step_silent s me past entry op p (CheckStep seen) fit = refl
step_silent s me past entry op p ClaimStep fit = refl
step_silent s me past entry op p ClearStep fit = refl

reason_silent : (s : Settings) (me : ℕ) (line : Line) (past : List Line) (op : DiskOp) → IsLine s me line past
    → Reason s me past line.what (before_outs line past) op → (if is_answer line.what then None else op_out past) ≡ None
unfolding op_out
reason_silent s me line past op it (inl boots) = step_silent s me past line.what op _ (boot_step_of s me _ line.what op false boots.goes_on boots.next) it.fitting
reason_silent s me line past op it (inr lives) = lives.silent

pub silent_while_out : {s : Settings} {me : ℕ} {line : Line} {past : List Line} → IsLine s me line past → (op : DiskOp) → disk_of line.outs ≡ Some op
    → (if is_answer line.what then None else op_out past) ≡ None
silent_while_out {s = s} {me = me} {line = line} {past = past} it op e = reason_silent s me line past op it (disk_reason it op e)

-- while an operation is out, an entry that answers nothing gives none
pub gives_none : {s : Settings} {me : ℕ} {line : Line} {past : List Line} → IsLine s me line past → (op : DiskOp) → op_out past ≡ Some op → is_answer line.what ≡ false
    → disk_of line.outs ≡ None
gives_none {line = line} {past = past} it op out is = by_given (disk_of line.outs) refl
  where
    by_given : (given : Option DiskOp) → disk_of line.outs ≡ given → disk_of line.outs ≡ None
    by_given None e = e
    by_given (Some other) e =
        let silent = silent_while_out it other e in
        some_is_not_none op (sym out ∙ sym (ap (λ b. if b then None else op_out past) is) ∙ silent)

pub op_kept : {s : Settings} {me : ℕ} {line : Line} {past : List Line} → IsLine s me line past → (op : DiskOp) → op_out past ≡ Some op → is_answer line.what ≡ false
    → op_out (line ∷ past) ≡ Some op
unfolding op_out
op_kept {line = line} {past = past} it op out is =
    ap (λ o. option_or o (if is_answer line.what then None else op_out past)) (gives_none it op out is)
    ∙ ap (λ b. if b then None else op_out past) is ∙ out

pub ask_place_kept : {s : Settings} {me : ℕ} {line : Line} {past : List Line} → IsLine s me line past → (op : DiskOp) → op_out past ≡ Some op → is_answer line.what ≡ false
    → ask_place (line ∷ past) ≡ ask_place past
unfolding ask_place
ask_place_kept {line = line} {past = past} it op out is = ap (λ o. if is_some o then suc (length past) else ask_place past) (gives_none it op out is)

-- past the boot: a node never boots again
halted_past : (halted : Option BootCause) (p : Phase) → is_booting p ≡ false → is_booting (boot_phase halted p) ≡ false
halted_past None p e = e
halted_past (Some cause) p e = refl

mail_past : (found : Option Message) (timely : Bool) (p : Phase) → is_booting p ≡ false → is_booting (mail_phase found timely p) ≡ false
mail_past found timely p e = by_tests (is_some (deadly_of found)) (Rattle.qn_model.specs.Phases.gives_exit found && timely)
  where
    by_tests : (a b : Bool) → is_booting (if a then Dying else (if b then Leaving else p)) ≡ false
    by_tests true b = refl
    by_tests false true = refl
    by_tests false false = e

ok_past : (ok : Bool) (p q : Phase) → is_booting p ≡ false → is_booting q ≡ false → is_booting (if ok then p else q) ≡ false
ok_past true p q e f = e
ok_past false p q e f = f

next_past : (s : Settings) (me : ℕ) (past : List Line) (entry : What) (timely : Bool) → fits s me past entry ≡ true → is_booting (phase s past) ≡ false
    → is_booting (next_phase s entry timely (phase s past)) ≡ false
unfolding phase
next_past s me [] what.Begin timely fit e = absurd (true≢false e)
next_past s me [] what.BeginClean timely fit e = absurd (true≢false e)
next_past s me (line ∷ past) what.Begin timely fit e = absurd (false≢true fit)
next_past s me (line ∷ past) what.BeginClean timely fit e = absurd (false≢true fit)
next_past s me past (what.Header seen) timely fit e = halted_past (header_halt s seen) (phase s past) e
next_past s me past (what.SlotRead rank seen) timely fit e =
    ap (λ b. is_booting (if b then boot_phase (slot_halt seen) (phase s past) else phase s past)) e ∙ e
next_past s me past (what.MailChecked seen) timely fit e = halted_past (check_halt seen) (phase s past) e
next_past s me past (what.Claimed ok) timely fit e = ok_past ok (phase s past) Gone e refl
next_past s me past (what.Cleared ok) timely fit e = ok_past ok Up Gone refl refl
next_past s me past (what.MailRead seen) timely fit e = mail_past (message_of (what.MailRead seen)) timely (phase s past) e
next_past s me past (what.MailWritten rank ok) timely fit e = e
next_past s me past (what.View installed) timely fit e = e
next_past s me past (what.Ask ask) timely fit e = e
next_past s me past (what.Tell tell) timely fit e = e
next_past s me past (what.Device agrees) timely fit e = e
next_past s me past what.Tick timely fit e = e
next_past s me past (what.Stopped ok) timely fit e = e
next_past s me past what.Leave timely fit e = refl
next_past s me past (what.Closed ok) timely fit e = refl

pub boot_past : {s : Settings} {me : ℕ} {line : Line} {past : List Line} → IsLine s me line past → is_booting (phase s past) ≡ false → is_booting (phase s (line ∷ past)) ≡ false
unfolding phase
boot_past {s = s} {me = me} {line = line} {past = past} it e = next_past s me past line.what (in_time line.tick past) it.fitting e

pub boot_past_later : {s : Settings} {me : ℕ} {old new : List Line} → Made s me new → Before old new → is_booting (phase s old) ≡ false → is_booting (phase s new) ≡ false
boot_past_later made Itself e = e
boot_past_later (OneMore it made) (Later newest more) e = boot_past it (boot_past_later made more e)

-- a node that is past Up is never Up again
abbrev pub is_over : Phase → Bool
is_over Booting = false
is_over Up = false
is_over Leaving = true
is_over Dying = true
is_over Gone = true

halted_over : (halted : Option BootCause) (p : Phase) → is_over p ≡ true → is_over (boot_phase halted p) ≡ true
halted_over None p e = e
halted_over (Some cause) p e = refl

mail_over : (found : Option Message) (timely : Bool) (p : Phase) → is_over p ≡ true → is_over (mail_phase found timely p) ≡ true
mail_over found timely p e = by_tests (is_some (deadly_of found)) (Rattle.qn_model.specs.Phases.gives_exit found && timely)
  where
    by_tests : (a b : Bool) → is_over (if a then Dying else (if b then Leaving else p)) ≡ true
    by_tests true b = refl
    by_tests false true = refl
    by_tests false false = e

ok_over : (ok : Bool) (p : Phase) → is_over p ≡ true → is_over (if ok then p else Gone) ≡ true
ok_over true p e = e
ok_over false p e = refl

slot_over : (halted : Option BootCause) (p : Phase) → is_over p ≡ true → is_over (if is_booting p then boot_phase halted p else p) ≡ true
slot_over halted Leaving e = refl
slot_over halted Dying e = refl
slot_over halted Gone e = refl
slot_over halted Booting e = absurd (false≢true e)
slot_over halted Up e = absurd (false≢true e)

clear_over : (p : Phase) (out : Option DiskOp) (q : Phase) → out ≡ Some disk.WriteClear → is_apt out p ≡ true → is_over p ≡ true → is_over q ≡ true
clear_over p out q e fit over = by_phase p (subst (λ o. is_apt o p ≡ true) e fit) over
  where
    by_phase : (r : Phase) → is_apt (Some disk.WriteClear) r ≡ true → is_over r ≡ true → is_over q ≡ true
    by_phase Booting a o = absurd (false≢true o)
    by_phase Up a o = absurd (false≢true o)
    by_phase Leaving a o = absurd (false≢true a)
    by_phase Dying a o = absurd (false≢true a)
    by_phase Gone a o = absurd (false≢true a)

next_over : (s : Settings) (me : ℕ) (past : List Line) (entry : What) (timely : Bool) → fits s me past entry ≡ true → is_apt (op_out past) (phase s past) ≡ true
    → is_over (phase s past) ≡ true → is_over (next_phase s entry timely (phase s past)) ≡ true
unfolding phase
next_over s me [] what.Begin timely fit a e = absurd (false≢true e)
next_over s me [] what.BeginClean timely fit a e = absurd (false≢true e)
next_over s me (line ∷ past) what.Begin timely fit a e = absurd (false≢true fit)
next_over s me (line ∷ past) what.BeginClean timely fit a e = absurd (false≢true fit)
next_over s me past (what.Header seen) timely fit a e = halted_over (header_halt s seen) (phase s past) e
next_over s me past (what.SlotRead rank seen) timely fit a e = slot_over (slot_halt seen) (phase s past) e
next_over s me past (what.MailChecked seen) timely fit a e = halted_over (check_halt seen) (phase s past) e
next_over s me past (what.Claimed ok) timely fit a e = ok_over ok (phase s past) e
next_over s me past (what.Cleared ok) timely fit a e = clear_over (phase s past) (op_out past) (if ok then Up else Gone) (cleared_answers (op_out past) ok fit) a e
next_over s me past (what.MailRead seen) timely fit a e = mail_over (message_of (what.MailRead seen)) timely (phase s past) e
next_over s me past (what.MailWritten rank ok) timely fit a e = e
next_over s me past (what.View installed) timely fit a e = e
next_over s me past (what.Ask ask) timely fit a e = e
next_over s me past (what.Tell tell) timely fit a e = e
next_over s me past (what.Device agrees) timely fit a e = e
next_over s me past what.Tick timely fit a e = e
next_over s me past (what.Stopped ok) timely fit a e = e
next_over s me past what.Leave timely fit a e = refl
next_over s me past (what.Closed ok) timely fit a e = refl

pub over_on : {s : Settings} {me : ℕ} {line : Line} {past : List Line} → IsLine s me line past → Made s me past → is_over (phase s past) ≡ true → is_over (phase s (line ∷ past)) ≡ true
unfolding phase
over_on {s = s} {me = me} {line = line} {past = past} it made e = next_over s me past line.what (in_time line.tick past) it.fitting (apt made) e

-- a line that starts is up after its entry
pub start_up : {s : Settings} {me : ℕ} {line : Line} {past : List Line} → IsLine s me line past → has_start line.outs ≡ true → is_up (phase s (line ∷ past)) ≡ true
unfolding phase
start_up {s = s} {me = me} {line = line} {past = past} it e =
    (why_clear s me (before_outs line past) line.tick ((start_reason it e).clear)).up

up_not_over : (p : Phase) → is_over p ≡ true → is_up p ≡ false
up_not_over Leaving e = refl
up_not_over Dying e = refl
up_not_over Gone e = refl
up_not_over Booting e = absurd (false≢true e)
up_not_over Up e = absurd (false≢true e)

pub no_start_over : {s : Settings} {me : ℕ} {line : Line} {past : List Line} → IsLine s me line past → is_over (phase s (line ∷ past)) ≡ true → has_start line.outs ≡ false
no_start_over {s = s} {line = line} {past = past} it over = by_start (has_start line.outs) refl
  where
    by_start : (b : Bool) → has_start line.outs ≡ b → has_start line.outs ≡ false
    by_start false e = e
    by_start true e = never_both (is_up (phase s (line ∷ past))) (start_up it e) (up_not_over (phase s (line ∷ past)) over)

-- from the asking for the close on nothing is held, and the node never is up again
pub record IsClosing (s : Settings) (log : List Line) : Type 0 where
  pub idle : holds log ≡ false
  pub over : is_over (phase s log) ≡ true

close_given : (s : Settings) (me : ℕ) (line : Line) (past : List Line) (op : Option DiskOp) → IsLine s me line past → disk_of line.outs ≡ op → is_close op ≡ true
    → (holds (before_outs line past) ≡ false) × (is_over (phase s (line ∷ past)) ≡ true)
close_given s me line past None it gave is = absurd (false≢true is)
close_given s me line past (Some disk.ReadHeader) it gave is = absurd (false≢true is)
close_given s me line past (Some (disk.ReadSlot rank)) it gave is = absurd (false≢true is)
close_given s me line past (Some disk.CheckMail) it gave is = absurd (false≢true is)
close_given s me line past (Some (disk.WriteClaim n)) it gave is = absurd (false≢true is)
close_given s me line past (Some disk.WriteClear) it gave is = absurd (false≢true is)
close_given s me line past (Some disk.ReadMail) it gave is = absurd (false≢true is)
close_given s me line past (Some (disk.WriteReset rank)) it gave is = absurd (false≢true is)
close_given s me line past (Some (disk.WriteClose n)) it gave is = by_reason (disk_reason it (disk.WriteClose n) gave)
  where
    no_step : {number : ℕ} (entry : What) (op : DiskOp) (p : Phase) → BootStep me number entry op p → op ≡ disk.WriteClose n → ⊥
    no_step entry op p (BeginStep clean) e = cc
    no_step entry op p (HeaderStep seen) e = cc
    no_step entry op p (SlotStep rank own) e = cc
    no_step entry op p (CleanSlotStep rank own) e = cc
    no_step entry op p (CheckStep seen) e = cc
    no_step entry op p ClaimStep e = cc
    no_step entry op p ClearStep e = cc

    leaving_over : (p : Phase) → is_leaving p ≡ true → is_over p ≡ true
    leaving_over p e = ap is_over (leaving_is p e)

    after_outs : is_leaving (phase s (before_outs line past)) ≡ true → is_over (phase s (line ∷ past)) ≡ true
    after_outs e = leaving_over (phase s (line ∷ past)) (subst (λ p. is_leaving p ≡ true) (phase_same line past) e)
      where
        phase_same : (l : Line) (ls : List Line) → phase s (before_outs l ls) ≡ phase s (l ∷ ls)
        phase_same l ls = unfold phase in refl

    by_reason : Reason s me past line.what (before_outs line past) (disk.WriteClose n) → (holds (before_outs line past) ≡ false) × (is_over (phase s (line ∷ past)) ≡ true)
    by_reason (inl boots) = absurd (no_step line.what (disk.WriteClose n) _ (boot_step_of s me _ line.what (disk.WriteClose n) false boots.goes_on boots.next) refl)
    by_reason (inr lives) = (lives.state.1, after_outs lives.state.0)

idle_after : (start before stopped : Bool) → start ≡ false → (before && not stopped) ≡ false → (start || (before && not stopped)) ≡ false
idle_after true before stopped s e = s
idle_after false before stopped s e = e

idle_before : (before stopped : Bool) → before ≡ false → (before && not stopped) ≡ false
idle_before true stopped e = absurd (true≢false e)
idle_before false stopped e = refl

pub closed_never : {s : Settings} {me : ℕ} {log : List Line} → Made s me log → asked_close log ≡ true → IsClosing s log
unfolding asked_close holds
closed_never NoLine e = absurd (false≢true e)
closed_never {s = s} {me = me} (OneMore {line = line} {past = past} it made) e =
    by_close (is_close (disk_of line.outs)) refl e (λ was. closed_never made was)
  where
    after_idle : (holds past && not (is_stopped line.what)) ≡ false → is_over (phase s (line ∷ past)) ≡ true → IsClosing s (line ∷ past)
    after_idle idle over = record {
      idle = idle_after (has_start line.outs) (holds past) (is_stopped line.what) (no_start_over it over) idle;
      over = over;
    }

    by_close : (b : Bool) → is_close (disk_of line.outs) ≡ b → (b || asked_close past) ≡ true → (asked_close past ≡ true → IsClosing s past) → IsClosing s (line ∷ past)
    by_close true is or rest = let given = close_given s me line past (disk_of line.outs) it refl is in after_idle given.0 given.1
    by_close false is or rest = let was = rest or in after_idle (idle_before (holds past) (is_stopped line.what) was.idle) (over_on it made was.over)

pub close_stays : {old new : List Line} → Before old new → asked_close old ≡ true → asked_close new ≡ true
unfolding asked_close
close_stays Itself e = e
close_stays (Later newest {new = new} more) e = or_right_of (is_close (disk_of newest.outs)) (asked_close new) (close_stays more e)
  where
    or_right_of : (a b : Bool) → b ≡ true → (a || b) ≡ true
    or_right_of true b p = refl
    or_right_of false b p = p

-- the line that began what is held
pub record StartedAt (log : List Line) : Type 0 where
  pub line : Line
  pub past : List Line
  pub back : Before (line ∷ past) log
  pub start : has_start line.outs ≡ true
  pub held : (mid : List Line) → Before (line ∷ past) mid → Before mid log → holds mid ≡ true

only_mid : {A : Type 0} {x : A} {xs mid : List A} → Before (x ∷ xs) mid → Before mid (x ∷ xs) → mid ≡ x ∷ xs
only_mid {x = x} {xs = xs} {mid = mid} first second = before_same second (before_length first)

pub start_since : (log : List Line) → holds log ≡ true → StartedAt log
unfolding holds
start_since [] e = absurd (false≢true e)
start_since (line ∷ past) e = by_start (has_start line.outs) refl e (λ was. start_since past was)
  where
    later : StartedAt past → holds (line ∷ past) ≡ true → StartedAt (line ∷ past)
    later was now_held = record {
      line = was.line;
      past = was.past;
      back = Later line was.back;
      start = was.start;
      held = λ mid since until. newest_or mid since until (before_cases until);
    }
      where
        before_cases : {mid : List Line} → Before mid (line ∷ past) → (mid ≡ line ∷ past) ⊎ Before mid past
        before_cases Itself = inl refl
        before_cases (Later newest more) = inr more

        newest_or : (mid : List Line) → Before (was.line ∷ was.past) mid → Before mid (line ∷ past) → (mid ≡ line ∷ past) ⊎ Before mid past → holds mid ≡ true
        newest_or mid since until (inl same) = subst (λ x. holds x ≡ true) (sym same) now_held
        newest_or mid since until (inr more) = was.held mid since more

    by_start : (b : Bool) → has_start line.outs ≡ b → (b || (holds past && not (is_stopped line.what))) ≡ true → (holds past ≡ true → StartedAt past) → StartedAt (line ∷ past)
    by_start true is held rest = record {
      line = line;
      past = past;
      back = Itself;
      start = is;
      held = λ mid since until. subst (λ x. holds x ≡ true) (sym (only_mid since until)) (start_holds is);
    }
      where
        start_holds : has_start line.outs ≡ true → holds (line ∷ past) ≡ true
        start_holds s = ap (λ b. b || (holds past && not (is_stopped line.what))) s
    by_start false is held rest = later (rest (first_of_both (holds past) (not (is_stopped line.what)) held)) (ap (λ b. b || (holds past && not (is_stopped line.what))) is ∙ held)

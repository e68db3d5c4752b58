-- The times that a node works with are those of the header that it read.
use Rattle.std.proofs.Common.{◌≡◌, ℕ, suc, zero, ◌+◌, ◌-◌, ◌*◌, ◌/◌, ◌<◌, ◌≤◌, Bool, true, false, List, [], ◌∷◌, ◌++◌, length, Some, None, Option, refl, sym, ap, ◌∙◌, subst, arith, cond, ◌&&◌, ◌||◌, ◌==◌, not, if◌then◌else◌, ◌⊎◌, inl, inr, is_some, is_none, All, nat_le, nat_lt}
use Rattle.std.specs.Option.{option_or}
use Rattle.std.proofs.lemmas.Bool.{false≢true, true≢false}
use Rattle.std.proofs.lemmas.Option.{same_Some}
use Rattle.qn_base.specs.lemmas.Options.{none_is_not_some, some_is_not_none}
use Rattle.qn_base.specs.lemmas.Bools.{never_both, first_of_both}
use Rattle.qn_model.specs.declared.configuration.Settings.{Settings}
use Rattle.qn_model.specs.declared.times.Timing.{Timing}
use Rattle.qn_model.specs.declared.seen.HeaderSeen.TheVariants as header
use Rattle.qn_model.specs.declared.entries.What.{What}
use Rattle.qn_model.specs.declared.entries.What.TheVariants as what
use Rattle.qn_model.specs.declared.life.Phase.{Phase}
use Rattle.qn_model.specs.declared.life.Phase.TheVariants.{Booting, Up, Leaving, Dying, Gone}
use Rattle.qn_model.specs.declared.outputs.DiskOp.{DiskOp}
use Rattle.qn_model.specs.declared.outputs.DiskOp.TheVariants as disk
use Rattle.qn_model.specs.Log.{Line, op_out, timing, times_of, disk_of, is_answer}
use Rattle.qn_model.specs.Phases.{phase, next_phase, in_time, is_booting, is_live, is_up}
use Rattle.qn_model.specs.Fitting.{fits, answers_op, is_own_view, is_for}
use Rattle.qn_model.specs.Moments.{Before, Itself, Later}
use Rattle.qn_safety.proofs.Says.{Reason}
use Rattle.qn_safety.proofs.Logs.{Made, NoLine, OneMore, IsLine, before_outs, disk_reason}
use Rattle.qn_safety.proofs.Apt.{is_apt, apt, BootStep, BeginStep, HeaderStep, SlotStep, CleanSlotStep, CheckStep, ClaimStep, ClearStep, boot_step_of, booting_is, slot_answers, check_answers, claimed_answers, cleared_answers, mail_answers, reset_answers}

-- every header in the log gives these times
pub HeadersGive : Timing → List Line → Type 0
HeadersGive t log = (line : Line) (past : List Line) (times : Timing) → Before (line ∷ past) log → times_of line.what ≡ Some times → times ≡ t

pub headers_give : {t : Timing} {log : List Line} → ((line : Line) (past : List Line) (times : Timing) → Before (line ∷ past) log → times_of line.what ≡ Some times → times ≡ t) → HeadersGive t log
unfolding HeadersGive
headers_give f = f

-- no header was read yet: the node is off, or boots and its header was not answered
abbrev is_blank : Option DiskOp → Phase → Bool
is_blank None Booting = true
is_blank (Some disk.ReadHeader) Booting = true
is_blank out Gone = true
is_blank out phase = false

blank_none : (p : Phase) → is_booting p ≡ true → is_blank None p ≡ true
blank_none p e = ap (λ q. is_blank None q) (booting_is p e)

-- the operation out while no header was read
blank_out : (out : Option DiskOp) (p : Phase) → is_booting p ≡ true → is_blank out p ≡ true → (out ≡ None) ⊎ (out ≡ Some disk.ReadHeader)
blank_out None p b e = inl refl
blank_out (Some disk.ReadHeader) p b e = inr refl
blank_out (Some (disk.ReadSlot rank)) p b e = absurd (false≢true (ap (λ q. is_blank (Some (disk.ReadSlot rank)) q) (sym (booting_is p b)) ∙ e))
blank_out (Some disk.CheckMail) p b e = absurd (false≢true (ap (λ q. is_blank (Some disk.CheckMail) q) (sym (booting_is p b)) ∙ e))
blank_out (Some (disk.WriteClaim number)) p b e = absurd (false≢true (ap (λ q. is_blank (Some (disk.WriteClaim number)) q) (sym (booting_is p b)) ∙ e))
blank_out (Some disk.WriteClear) p b e = absurd (false≢true (ap (λ q. is_blank (Some disk.WriteClear) q) (sym (booting_is p b)) ∙ e))
blank_out (Some disk.ReadMail) p b e = absurd (false≢true (ap (λ q. is_blank (Some disk.ReadMail) q) (sym (booting_is p b)) ∙ e))
blank_out (Some (disk.WriteReset rank)) p b e = absurd (false≢true (ap (λ q. is_blank (Some (disk.WriteReset rank)) q) (sym (booting_is p b)) ∙ e))
blank_out (Some (disk.WriteClose number)) p b e = absurd (false≢true (ap (λ q. is_blank (Some (disk.WriteClose number)) q) (sym (booting_is p b)) ∙ e))

not_header : (out : Option DiskOp) (op : DiskOp) → out ≡ Some op → ((op ≡ disk.ReadHeader) → ⊥) → (out ≡ None) ⊎ (out ≡ Some disk.ReadHeader) → ⊥
not_header out op is differs (inl none) = none_is_not_some {P = ⊥} op (sym none ∙ is)
not_header out op is differs (inr some) = differs (same_Some _ _ (sym is ∙ some))

-- while blank and booting, the only answer is that of the header, and it gave none
blank_answer : (s : Settings) (me : ℕ) (past : List Line) (entry : What) (timely : Bool) → is_answer entry ≡ true → fits s me past entry ≡ true
    → (op_out past ≡ None) ⊎ (op_out past ≡ Some disk.ReadHeader) → times_of entry ≡ None → next_phase s entry timely (phase s past) ≡ Gone
blank_answer s me past (what.Header (header.Read nodes times)) timely is fit out none = some_is_not_none times none
blank_answer s me past (what.Header header.NotImage) timely is fit out none = refl
blank_answer s me past (what.Header header.Failed) timely is fit out none = refl
blank_answer s me past (what.SlotRead other seen) timely is fit out none = let op = slot_answers (op_out past) other seen fit in absurd (not_header (op_out past) (disk.ReadSlot op.0) op.1 (λ e. cc) out)
blank_answer s me past (what.MailChecked seen) timely is fit out none = absurd (not_header (op_out past) disk.CheckMail (check_answers (op_out past) seen fit) (λ e. cc) out)
blank_answer s me past (what.Claimed ok) timely is fit out none = let op = claimed_answers (op_out past) ok fit in absurd (not_header (op_out past) (disk.WriteClaim op.0) op.1 (λ e. cc) out)
blank_answer s me past (what.Cleared ok) timely is fit out none = absurd (not_header (op_out past) disk.WriteClear (cleared_answers (op_out past) ok fit) (λ e. cc) out)
blank_answer s me past (what.MailRead seen) timely is fit out none = absurd (not_header (op_out past) disk.ReadMail (mail_answers (op_out past) seen fit) (λ e. cc) out)
blank_answer s me past (what.MailWritten other ok) timely is fit out none = let op = reset_answers (op_out past) other ok fit in absurd (not_header (op_out past) (disk.WriteReset op.0) op.1 (λ e. cc) out)
blank_answer s me past (what.Closed ok) timely is fit out none = refl
blank_answer s me past what.Begin timely is fit out none = absurd (false≢true is)
blank_answer s me past what.BeginClean timely is fit out none = absurd (false≢true is)
blank_answer s me past (what.View installed) timely is fit out none = absurd (false≢true is)
blank_answer s me past (what.Ask ask) timely is fit out none = absurd (false≢true is)
blank_answer s me past (what.Tell tell) timely is fit out none = absurd (false≢true is)
blank_answer s me past (what.Device agrees) timely is fit out none = absurd (false≢true is)
blank_answer s me past what.Tick timely is fit out none = absurd (false≢true is)
blank_answer s me past (what.Stopped ok) timely is fit out none = absurd (false≢true is)
blank_answer s me past what.Leave timely is fit out none = absurd (false≢true is)

pub not_live_up : (p : Phase) → is_booting p ≡ true → is_live p ≡ true → ⊥
not_live_up p b l = false≢true (ap is_live (sym (booting_is p b)) ∙ l)

not_up_booting : (p : Phase) → is_booting p ≡ true → is_up p ≡ true → ⊥
not_up_booting p b l = false≢true (ap is_up (sym (booting_is p b)) ∙ l)

-- while booting, what answers nothing leaves the phase
pub boot_tick : (s : Settings) (me : ℕ) (past : List Line) (entry : What) (timely : Bool) → is_answer entry ≡ false → fits s me past entry ≡ true
    → is_booting (phase s past) ≡ true → is_booting (next_phase s entry timely (phase s past)) ≡ true
boot_tick s me past what.Begin timely is fit b = refl
boot_tick s me past what.BeginClean timely is fit b = refl
boot_tick s me past what.Tick timely is fit b = b
boot_tick s me past (what.Stopped ok) timely is fit b = b
boot_tick s me past what.Leave timely is fit b = absurd (not_up_booting (phase s past) b fit)
boot_tick s me past (what.View installed) timely is fit b = absurd (not_live_up (phase s past) b (first_of_both (is_live (phase s past)) (is_own_view s me installed) fit))
boot_tick s me past (what.Ask ask) timely is fit b = absurd (not_live_up (phase s past) b (first_of_both (is_live (phase s past)) (is_for s me ask.from ask.to) fit))
boot_tick s me past (what.Tell tell) timely is fit b = absurd (not_live_up (phase s past) b (first_of_both (is_live (phase s past)) (is_for s me tell.from tell.to) fit))
boot_tick s me past (what.Device agrees) timely is fit b = absurd (not_live_up (phase s past) b fit)
boot_tick s me past (what.Header seen) timely is fit b = absurd (true≢false is)
boot_tick s me past (what.SlotRead other seen) timely is fit b = absurd (true≢false is)
boot_tick s me past (what.MailChecked seen) timely is fit b = absurd (true≢false is)
boot_tick s me past (what.Claimed ok) timely is fit b = absurd (true≢false is)
boot_tick s me past (what.Cleared ok) timely is fit b = absurd (true≢false is)
boot_tick s me past (what.MailRead seen) timely is fit b = absurd (true≢false is)
boot_tick s me past (what.MailWritten other ok) timely is fit b = absurd (true≢false is)
boot_tick s me past (what.Closed ok) timely is fit b = absurd (true≢false is)

begin_only : {number : ℕ} (me : ℕ) (entry : What) (op : DiskOp) (p : Phase) → BootStep me number entry op p → is_answer entry ≡ false → op ≡ disk.ReadHeader
begin_only me entry op p (BeginStep clean) is = refl
begin_only me entry op p (HeaderStep seen) is = absurd (true≢false is)
begin_only me entry op p (SlotStep rank own) is = absurd (true≢false is)
begin_only me entry op p (CleanSlotStep rank own) is = absurd (true≢false is)
begin_only me entry op p (CheckStep seen) is = absurd (true≢false is)
begin_only me entry op p ClaimStep is = absurd (true≢false is)
begin_only me entry op p ClearStep is = absurd (true≢false is)

-- a node that is gone stays gone
gone_answers : (out : Option DiskOp) (entry : What) → is_apt out Gone ≡ true → answers_op out entry ≡ false
gone_answers None entry e = refl
gone_answers (Some op) entry e = absurd (false≢true e)

pub gone_next : (s : Settings) (me : ℕ) (past : List Line) (entry : What) (timely : Bool) → fits s me past entry ≡ true → phase s past ≡ Gone
    → is_apt (op_out past) Gone ≡ true → next_phase s entry timely (phase s past) ≡ Gone
unfolding phase
gone_next s me [] entry timely fit gone a = absurd (false≢true (ap Rattle.qn_model.specs.Moments.is_gone gone))
gone_next s me (line ∷ past) what.Begin timely fit gone a = absurd (false≢true fit)
gone_next s me (line ∷ past) what.BeginClean timely fit gone a = absurd (false≢true fit)
gone_next s me (line ∷ past) what.Tick timely fit gone a = gone
gone_next s me (line ∷ past) (what.Stopped ok) timely fit gone a = gone
gone_next s me (line ∷ past) what.Leave timely fit gone a = absurd (false≢true (ap is_up (sym gone) ∙ fit))
gone_next s me (line ∷ past) (what.View installed) timely fit gone a = gone
gone_next s me (line ∷ past) (what.Ask ask) timely fit gone a = gone
gone_next s me (line ∷ past) (what.Tell tell) timely fit gone a = gone
gone_next s me (line ∷ past) (what.Device agrees) timely fit gone a = gone
gone_next s me (line ∷ past) (what.Header seen) timely fit gone a = never_both (answers_op (op_out (line ∷ past)) (what.Header seen)) fit (gone_answers (op_out (line ∷ past)) (what.Header seen) a)
gone_next s me (line ∷ past) (what.SlotRead other seen) timely fit gone a = never_both (answers_op (op_out (line ∷ past)) (what.SlotRead other seen)) fit (gone_answers (op_out (line ∷ past)) (what.SlotRead other seen) a)
gone_next s me (line ∷ past) (what.MailChecked seen) timely fit gone a = never_both (answers_op (op_out (line ∷ past)) (what.MailChecked seen)) fit (gone_answers (op_out (line ∷ past)) (what.MailChecked seen) a)
gone_next s me (line ∷ past) (what.Claimed ok) timely fit gone a = never_both (answers_op (op_out (line ∷ past)) (what.Claimed ok)) fit (gone_answers (op_out (line ∷ past)) (what.Claimed ok) a)
gone_next s me (line ∷ past) (what.Cleared ok) timely fit gone a = never_both (answers_op (op_out (line ∷ past)) (what.Cleared ok)) fit (gone_answers (op_out (line ∷ past)) (what.Cleared ok) a)
gone_next s me (line ∷ past) (what.MailRead seen) timely fit gone a = never_both (answers_op (op_out (line ∷ past)) (what.MailRead seen)) fit (gone_answers (op_out (line ∷ past)) (what.MailRead seen) a)
gone_next s me (line ∷ past) (what.MailWritten other ok) timely fit gone a = never_both (answers_op (op_out (line ∷ past)) (what.MailWritten other ok)) fit (gone_answers (op_out (line ∷ past)) (what.MailWritten other ok) a)
gone_next s me (line ∷ past) (what.Closed ok) timely fit gone a = refl

blank_gone : (out : Option DiskOp) (p : Phase) → p ≡ Gone → is_blank out p ≡ true
blank_gone out p e = ap (λ q. is_blank out q) e ∙ at_gone out
  where
    at_gone : (o : Option DiskOp) → is_blank o Gone ≡ true
    at_gone None = refl
    at_gone (Some disk.ReadHeader) = refl
    at_gone (Some (disk.ReadSlot rank)) = refl
    at_gone (Some disk.CheckMail) = refl
    at_gone (Some (disk.WriteClaim number)) = refl
    at_gone (Some disk.WriteClear) = refl
    at_gone (Some disk.ReadMail) = refl
    at_gone (Some (disk.WriteReset rank)) = refl
    at_gone (Some (disk.WriteClose number)) = refl

-- a blank phase is the boot or the end
blank_phase : (out : Option DiskOp) (p : Phase) → is_blank out p ≡ true → (is_booting p ≡ true) ⊎ (p ≡ Gone)
blank_phase out Booting e = inl refl
blank_phase out Gone e = inr refl
blank_phase None Up e = absurd (false≢true e)
blank_phase None Leaving e = absurd (false≢true e)
blank_phase None Dying e = absurd (false≢true e)
blank_phase (Some op) Up e = absurd (false≢true (sym (not_blank op) ∙ e))
  where
    not_blank : (o : DiskOp) → is_blank (Some o) Up ≡ false
    not_blank disk.ReadHeader = refl
    not_blank (disk.ReadSlot rank) = refl
    not_blank disk.CheckMail = refl
    not_blank (disk.WriteClaim number) = refl
    not_blank disk.WriteClear = refl
    not_blank disk.ReadMail = refl
    not_blank (disk.WriteReset rank) = refl
    not_blank (disk.WriteClose number) = refl
blank_phase (Some op) Leaving e = absurd (false≢true (sym (not_blank op) ∙ e))
  where
    not_blank : (o : DiskOp) → is_blank (Some o) Leaving ≡ false
    not_blank disk.ReadHeader = refl
    not_blank (disk.ReadSlot rank) = refl
    not_blank disk.CheckMail = refl
    not_blank (disk.WriteClaim number) = refl
    not_blank disk.WriteClear = refl
    not_blank disk.ReadMail = refl
    not_blank (disk.WriteReset rank) = refl
    not_blank (disk.WriteClose number) = refl
blank_phase (Some op) Dying e = absurd (false≢true (sym (not_blank op) ∙ e))
  where
    not_blank : (o : DiskOp) → is_blank (Some o) Dying ≡ false
    not_blank disk.ReadHeader = refl
    not_blank (disk.ReadSlot rank) = refl
    not_blank disk.CheckMail = refl
    not_blank (disk.WriteClaim number) = refl
    not_blank disk.WriteClear = refl
    not_blank disk.ReadMail = refl
    not_blank (disk.WriteReset rank) = refl
    not_blank (disk.WriteClose number) = refl

-- a line that gives no times leaves a log blank
blank_on : (s : Settings) (me : ℕ) (line : Line) (past : List Line) → IsLine s me line past → Made s me past → times_of line.what ≡ None
    → is_blank (op_out past) (phase s past) ≡ true → is_blank (op_out (line ∷ past)) (phase s (line ∷ past)) ≡ true
unfolding op_out phase
blank_on s me line past it made none blank = by_phase (blank_phase (op_out past) (phase s past) blank)
  where
    next : Phase
    next = next_phase s line.what (in_time line.tick past) (phase s past)

    kept : is_booting (phase s past) ≡ true → (answer : Bool) → is_answer line.what ≡ answer → (op_out past ≡ None) ⊎ (op_out past ≡ Some disk.ReadHeader)
        → (given : Option DiskOp) → disk_of line.outs ≡ given → is_blank (option_or given (if answer then None else op_out past)) next ≡ true
    kept b true is out given gave = blank_gone _ next (blank_answer s me past line.what (in_time line.tick past) is it.fitting out none)
    kept b false is out None gave = still out (boot_tick s me past line.what (in_time line.tick past) is it.fitting b)
      where
        still : (op_out past ≡ None) ⊎ (op_out past ≡ Some disk.ReadHeader) → is_booting next ≡ true → is_blank (op_out past) next ≡ true
        still (inl e) n = ap (λ o. is_blank o next) e ∙ blank_none next n
        still (inr e) n = ap (λ o. is_blank o next) e ∙ ap (λ q. is_blank (Some disk.ReadHeader) q) (booting_is next n)
    kept b false is out (Some op) gave = by_reason (disk_reason it op gave) (boot_tick s me past line.what (in_time line.tick past) is it.fitting b)
      where
        by_reason : Reason s me past line.what (before_outs line past) op → is_booting next ≡ true → is_blank (Some op) next ≡ true
        by_reason (inl boots) n =
            ap (λ o. is_blank (Some o) next) (begin_only me line.what op _ (boot_step_of s me _ line.what op false boots.goes_on boots.next) is)
            ∙ ap (λ q. is_blank (Some disk.ReadHeader) q) (booting_is next n)
        by_reason (inr lives) n = absurd (not_live_up (phase s past) b lives.live)

    by_phase : (is_booting (phase s past) ≡ true) ⊎ (phase s past ≡ Gone) → is_blank (option_or (disk_of line.outs) (if is_answer line.what then None else op_out past)) next ≡ true
    by_phase (inl b) = kept b (is_answer line.what) refl (blank_out (op_out past) (phase s past) b blank) (disk_of line.outs) refl
    by_phase (inr gone) = blank_gone _ next (gone_next s me past line.what (in_time line.tick past) it.fitting gone (subst (λ p. is_apt (op_out past) p ≡ true) gone (apt made)))

times_step : (s : Settings) (me : ℕ) (t : Timing) (line : Line) (past : List Line) → IsLine s me line past → Made s me past
    → ((times : Timing) → times_of line.what ≡ Some times → times ≡ t)
    → (is_blank (op_out past) (phase s past) ≡ false → timing past ≡ t)
    → is_blank (op_out (line ∷ past)) (phase s (line ∷ past)) ≡ false → timing (line ∷ past) ≡ t
unfolding timing
times_step s me t line past it made here before open' = by_times (times_of line.what) refl
  where
    by_blank : times_of line.what ≡ None → (b : Bool) → is_blank (op_out past) (phase s past) ≡ b → timing past ≡ t
    by_blank none true e = never_both (is_blank (op_out (line ∷ past)) (phase s (line ∷ past))) (blank_on s me line past it made none e) open'
    by_blank none false e = before e

    by_times : (found : Option Timing) → times_of line.what ≡ found → Rattle.std.proofs.Common.unwrap_or found (timing past) ≡ t
    by_times (Some times) e = here times e
    by_times None e = by_blank e (is_blank (op_out past) (phase s past)) refl

not_blank_known : (s : Settings) (me : ℕ) (t : Timing) (log : List Line) → Made s me log → HeadersGive t log
    → is_blank (op_out log) (phase s log) ≡ false → timing log ≡ t
unfolding HeadersGive op_out phase
not_blank_known s me t [] NoLine heads e = absurd (true≢false e)
not_blank_known s me t (line ∷ past) (OneMore it made) heads e =
    times_step s me t line past it made (λ times gives. heads line past times Itself gives)
    (not_blank_known s me t past made (λ l ls times back gives. heads l ls times (Later line back) gives)) e

known_phase : (out : Option DiskOp) (p : Phase) → is_booting p ≡ false → Rattle.qn_model.specs.Moments.is_gone p ≡ false → is_blank out p ≡ false
known_phase out p b g = by_test (is_blank out p) refl
  where
    no_way : (is_booting p ≡ true) ⊎ (p ≡ Gone) → is_blank out p ≡ false
    no_way (inl boots) = never_both (is_booting p) boots b
    no_way (inr gone) = never_both (Rattle.qn_model.specs.Moments.is_gone p) (ap Rattle.qn_model.specs.Moments.is_gone gone) g

    by_test : (t : Bool) → is_blank out p ≡ t → is_blank out p ≡ false
    by_test false e = e
    by_test true e = no_way (blank_phase out p e)

-- a node that came up works with the times of the headers
pub timing_known : {s : Settings} {me : ℕ} {t : Timing} {log : List Line} → Made s me log → HeadersGive t log
    → is_booting (phase s log) ≡ false → Rattle.qn_model.specs.Moments.is_gone (phase s log) ≡ false → timing log ≡ t
timing_known {s = s} {me = me} {t = t} {log = log} made heads past_boot not_gone =
    not_blank_known s me t log made heads (known_phase (op_out log) (phase s log) past_boot not_gone)

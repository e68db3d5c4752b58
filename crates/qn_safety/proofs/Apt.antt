-- Which operation an answer answers, and which operations can be out in which phase.
use Rattle.std.proofs.Common.{◌≡◌, ℕ, ◌+◌, Bool, true, false, List, [], ◌∷◌, Some, None, Option, refl, sym, ap, ◌∙◌, subst, ◌&&◌, ◌||◌, if◌then◌else◌, inl, inr, is_some}
use Rattle.std.specs.Option.{option_or}
use Rattle.std.proofs.lemmas.Bool.{false≢true, true≢false, eqb-true}
use Rattle.std.proofs.lemmas.Option.{same_Some}
use Rattle.qn_base.specs.declared.ids.Rank.{Rank}
use Rattle.qn_base.specs.lemmas.Options.{none_is_not_some, some_is_not_none}
use Rattle.qn_model.specs.declared.configuration.Settings.{Settings}
use Rattle.qn_model.specs.declared.disk.Message.{Message}
use Rattle.qn_model.specs.declared.disk.Slot.{Slot}
use Rattle.qn_model.specs.declared.seen.HeaderSeen.{HeaderSeen}
use Rattle.qn_model.specs.declared.seen.SlotSeen.{SlotSeen}
use Rattle.qn_model.specs.declared.seen.SlotSeen.TheVariants as slot
use Rattle.qn_model.specs.declared.seen.MailSeen.{MailSeen}
use Rattle.qn_model.specs.declared.entries.What.{What}
use Rattle.qn_model.specs.declared.entries.What.TheVariants as what
use Rattle.qn_model.specs.declared.life.Phase.{Phase}
use Rattle.qn_model.specs.declared.life.Phase.TheVariants.{Booting, Up, Leaving, Dying, Gone}
use Rattle.qn_model.specs.declared.outputs.BootCause.{BootCause}
use Rattle.qn_model.specs.declared.outputs.DiskOp.{DiskOp}
use Rattle.qn_model.specs.declared.outputs.DiskOp.TheVariants as disk
use Rattle.qn_model.specs.Log.{Line, op_out, disk_of, is_answer}
use Rattle.qn_model.specs.Moments.{begin_of}
use Rattle.qn_model.specs.Phases.{phase, next_phase, boot_phase, mail_phase, header_halt, slot_halt, check_halt, boot_halt, message_of, deadly_of, in_time, is_booting, is_live, is_up, is_leaving}
use Rattle.qn_model.specs.Wanted.{boot_op, rank_of}
use Rattle.qn_model.specs.Fitting.{fits, answers_op, is_closed, is_first}
use Rattle.qn_safety.proofs.Says.{Reason, LiveState}
use Rattle.qn_safety.proofs.Logs.{Made, NoLine, OneMore, IsLine, before_outs, disk_reason}

-- the operation that an entry answers
pub header_answers : (op : Option DiskOp) (seen : HeaderSeen) → answers_op op (what.Header seen) ≡ true → op ≡ Some disk.ReadHeader
header_answers (Some disk.ReadHeader) seen e = refl
header_answers (Some (disk.ReadSlot r)) seen e = absurd (false≢true e)
header_answers (Some disk.CheckMail) seen e = absurd (false≢true e)
header_answers (Some (disk.WriteClaim n)) seen e = absurd (false≢true e)
header_answers (Some disk.WriteClear) seen e = absurd (false≢true e)
header_answers (Some disk.ReadMail) seen e = absurd (false≢true e)
header_answers (Some (disk.WriteReset r)) seen e = absurd (false≢true e)
header_answers (Some (disk.WriteClose n)) seen e = absurd (false≢true e)
header_answers None seen e = absurd (false≢true e)

pub slot_answers : (op : Option DiskOp) (other : Rank) (seen : SlotSeen) → answers_op op (what.SlotRead other seen) ≡ true → (rank : Rank) × (op ≡ Some (disk.ReadSlot rank)) × (rank.0 ≡ other.0)
slot_answers (Some disk.ReadHeader) other seen e = absurd (false≢true e)
slot_answers (Some (disk.ReadSlot rank)) other seen e = (rank, refl, eqb-true rank.0 other.0 e)
slot_answers (Some disk.CheckMail) other seen e = absurd (false≢true e)
slot_answers (Some (disk.WriteClaim n)) other seen e = absurd (false≢true e)
slot_answers (Some disk.WriteClear) other seen e = absurd (false≢true e)
slot_answers (Some disk.ReadMail) other seen e = absurd (false≢true e)
slot_answers (Some (disk.WriteReset r)) other seen e = absurd (false≢true e)
slot_answers (Some (disk.WriteClose n)) other seen e = absurd (false≢true e)
slot_answers None other seen e = absurd (false≢true e)

pub claimed_answers : (op : Option DiskOp) (ok : Bool) → answers_op op (what.Claimed ok) ≡ true → (number : ℕ) × (op ≡ Some (disk.WriteClaim number))
claimed_answers (Some disk.ReadHeader) ok e = absurd (false≢true e)
claimed_answers (Some (disk.ReadSlot r)) ok e = absurd (false≢true e)
claimed_answers (Some disk.CheckMail) ok e = absurd (false≢true e)
claimed_answers (Some (disk.WriteClaim number)) ok e = (number, refl)
claimed_answers (Some disk.WriteClear) ok e = absurd (false≢true e)
claimed_answers (Some disk.ReadMail) ok e = absurd (false≢true e)
claimed_answers (Some (disk.WriteReset r)) ok e = absurd (false≢true e)
claimed_answers (Some (disk.WriteClose n)) ok e = absurd (false≢true e)
claimed_answers None ok e = absurd (false≢true e)

pub cleared_answers : (op : Option DiskOp) (ok : Bool) → answers_op op (what.Cleared ok) ≡ true → op ≡ Some disk.WriteClear
cleared_answers (Some disk.ReadHeader) ok e = absurd (false≢true e)
cleared_answers (Some (disk.ReadSlot r)) ok e = absurd (false≢true e)
cleared_answers (Some disk.CheckMail) ok e = absurd (false≢true e)
cleared_answers (Some (disk.WriteClaim n)) ok e = absurd (false≢true e)
cleared_answers (Some disk.WriteClear) ok e = refl
cleared_answers (Some disk.ReadMail) ok e = absurd (false≢true e)
cleared_answers (Some (disk.WriteReset r)) ok e = absurd (false≢true e)
cleared_answers (Some (disk.WriteClose n)) ok e = absurd (false≢true e)
cleared_answers None ok e = absurd (false≢true e)

pub mail_answers : (op : Option DiskOp) (seen : MailSeen) → answers_op op (what.MailRead seen) ≡ true → op ≡ Some disk.ReadMail
mail_answers (Some disk.ReadHeader) seen e = absurd (false≢true e)
mail_answers (Some (disk.ReadSlot r)) seen e = absurd (false≢true e)
mail_answers (Some disk.CheckMail) seen e = absurd (false≢true e)
mail_answers (Some (disk.WriteClaim n)) seen e = absurd (false≢true e)
mail_answers (Some disk.WriteClear) seen e = absurd (false≢true e)
mail_answers (Some disk.ReadMail) seen e = refl
mail_answers (Some (disk.WriteReset r)) seen e = absurd (false≢true e)
mail_answers (Some (disk.WriteClose n)) seen e = absurd (false≢true e)
mail_answers None seen e = absurd (false≢true e)

pub check_answers : (op : Option DiskOp) (seen : MailSeen) → answers_op op (what.MailChecked seen) ≡ true → op ≡ Some disk.CheckMail
check_answers (Some disk.ReadHeader) seen e = absurd (false≢true e)
check_answers (Some (disk.ReadSlot r)) seen e = absurd (false≢true e)
check_answers (Some disk.CheckMail) seen e = refl
check_answers (Some (disk.WriteClaim n)) seen e = absurd (false≢true e)
check_answers (Some disk.WriteClear) seen e = absurd (false≢true e)
check_answers (Some disk.ReadMail) seen e = absurd (false≢true e)
check_answers (Some (disk.WriteReset r)) seen e = absurd (false≢true e)
check_answers (Some (disk.WriteClose n)) seen e = absurd (false≢true e)
check_answers None seen e = absurd (false≢true e)

pub reset_answers : (op : Option DiskOp) (other : Rank) (ok : Bool) → answers_op op (what.MailWritten other ok) ≡ true → (rank : Rank) × (op ≡ Some (disk.WriteReset rank)) × (rank.0 ≡ other.0)
reset_answers (Some disk.ReadHeader) other ok e = absurd (false≢true e)
reset_answers (Some (disk.ReadSlot r)) other ok e = absurd (false≢true e)
reset_answers (Some disk.CheckMail) other ok e = absurd (false≢true e)
reset_answers (Some (disk.WriteClaim n)) other ok e = absurd (false≢true e)
reset_answers (Some disk.WriteClear) other ok e = absurd (false≢true e)
reset_answers (Some disk.ReadMail) other ok e = absurd (false≢true e)
reset_answers (Some (disk.WriteReset rank)) other ok e = (rank, refl, eqb-true rank.0 other.0 e)
reset_answers (Some (disk.WriteClose n)) other ok e = absurd (false≢true e)
reset_answers None other ok e = absurd (false≢true e)

pub closed_answers : (op : Option DiskOp) (ok : Bool) → answers_op op (what.Closed ok) ≡ true → (number : ℕ) × (op ≡ Some (disk.WriteClose number))
closed_answers (Some disk.ReadHeader) ok e = absurd (false≢true e)
closed_answers (Some (disk.ReadSlot r)) ok e = absurd (false≢true e)
closed_answers (Some disk.CheckMail) ok e = absurd (false≢true e)
closed_answers (Some (disk.WriteClaim n)) ok e = absurd (false≢true e)
closed_answers (Some disk.WriteClear) ok e = absurd (false≢true e)
closed_answers (Some disk.ReadMail) ok e = absurd (false≢true e)
closed_answers (Some (disk.WriteReset r)) ok e = absurd (false≢true e)
closed_answers (Some (disk.WriteClose number)) ok e = (number, refl)
closed_answers None ok e = absurd (false≢true e)

-- the operations of a boot, and those of a node that takes part
abbrev pub is_boot_op : DiskOp → Bool
is_boot_op disk.ReadHeader = true
is_boot_op (disk.ReadSlot rank) = true
is_boot_op disk.CheckMail = true
is_boot_op (disk.WriteClaim number) = true
is_boot_op disk.WriteClear = true
is_boot_op disk.ReadMail = false
is_boot_op (disk.WriteReset rank) = false
is_boot_op (disk.WriteClose number) = false

abbrev pub is_live_op : DiskOp → Bool
is_live_op disk.ReadMail = true
is_live_op (disk.ReadSlot rank) = true
is_live_op disk.CheckMail = false
is_live_op (disk.WriteReset rank) = true
is_live_op disk.ReadHeader = false
is_live_op (disk.WriteClaim number) = false
is_live_op disk.WriteClear = false
is_live_op (disk.WriteClose number) = false

abbrev pub is_close_op : DiskOp → Bool
is_close_op (disk.WriteClose number) = true
is_close_op op = false

-- an operation may be out in a phase
abbrev pub is_apt : Option DiskOp → Phase → Bool
is_apt None phase = true
is_apt (Some op) Booting = is_boot_op op
is_apt (Some op) Up = is_live_op op
is_apt (Some op) Leaving = is_live_op op || is_close_op op
is_apt (Some op) Dying = false
is_apt (Some op) Gone = false

pub booting_is : (p : Phase) → is_booting p ≡ true → p ≡ Booting
booting_is Booting e = refl
booting_is Up e = absurd (false≢true e)
booting_is Leaving e = absurd (false≢true e)
booting_is Dying e = absurd (false≢true e)
booting_is Gone e = absurd (false≢true e)

pub up_is : (p : Phase) → is_up p ≡ true → p ≡ Up
up_is Up e = refl
up_is Booting e = absurd (false≢true e)
up_is Leaving e = absurd (false≢true e)
up_is Dying e = absurd (false≢true e)
up_is Gone e = absurd (false≢true e)

pub leaving_is : (p : Phase) → is_leaving p ≡ true → p ≡ Leaving
leaving_is Leaving e = refl
leaving_is Booting e = absurd (false≢true e)
leaving_is Up e = absurd (false≢true e)
leaving_is Dying e = absurd (false≢true e)
leaving_is Gone e = absurd (false≢true e)

-- while a node takes part, no operation of the boot alone is out
pub live_apt : (p : Phase) (op : DiskOp) → is_live p ≡ true → is_apt (Some op) p ≡ true → (is_live_op op || is_close_op op) ≡ true
live_apt Up op live apt = ap (λ b. b || is_close_op op) apt
live_apt Leaving op live apt = apt
live_apt Booting op live apt = absurd (false≢true live)
live_apt Dying op live apt = absurd (false≢true live)
live_apt Gone op live apt = absurd (false≢true live)

live_out : (p : Phase) (out : Option DiskOp) (op : DiskOp) → is_live p ≡ true → is_apt out p ≡ true → out ≡ Some op → (is_live_op op || is_close_op op) ≡ true
live_out p out op live apt e = live_apt p op live (subst (λ o. is_apt o p ≡ true) e apt)

apt_leaving : (op : Option DiskOp) → is_apt op Up ≡ true → is_apt op Leaving ≡ true
apt_leaving None e = refl
apt_leaving (Some op) e = ap (λ b. b || is_close_op op) e

first_silent : (op : DiskOp) (past : List Line) → is_first past ≡ true → op_out past ≡ None
unfolding op_out
first_silent op [] e = refl
first_silent op (line ∷ past) e = absurd (false≢true e)

first_boots : (s : Settings) (past : List Line) → is_first past ≡ true → phase s past ≡ Booting
unfolding phase
first_boots s [] e = refl
first_boots s (line ∷ past) e = absurd (false≢true e)

-- an entry that answers nothing leaves the operation apt
apt_kept : (s : Settings) (me : ℕ) (past : List Line) (entry : What) (timely : Bool) → is_answer entry ≡ false → fits s me past entry ≡ true
    → is_apt (op_out past) (phase s past) ≡ true → is_apt (op_out past) (next_phase s entry timely (phase s past)) ≡ true
apt_kept s me past what.Begin timely is fit apt = subst (λ o. is_apt o Booting ≡ true) (sym (first_silent disk.ReadHeader past fit)) refl
apt_kept s me past what.BeginClean timely is fit apt = subst (λ o. is_apt o Booting ≡ true) (sym (first_silent disk.ReadHeader past fit)) refl
apt_kept s me past (what.View installed) timely is fit apt = apt
apt_kept s me past (what.Ask ask) timely is fit apt = apt
apt_kept s me past (what.Tell tell) timely is fit apt = apt
apt_kept s me past (what.Device agrees) timely is fit apt = apt
apt_kept s me past what.Tick timely is fit apt = apt
apt_kept s me past (what.Stopped ok) timely is fit apt = apt
apt_kept s me past what.Leave timely is fit apt = apt_leaving (op_out past) (subst (λ p. is_apt (op_out past) p ≡ true) (up_is (phase s past) fit) apt)
apt_kept s me past (what.Header seen) timely is fit apt = absurd (true≢false is)
apt_kept s me past (what.SlotRead rank seen) timely is fit apt = absurd (true≢false is)
apt_kept s me past (what.MailChecked seen) timely is fit apt = absurd (true≢false is)
apt_kept s me past (what.Claimed ok) timely is fit apt = absurd (true≢false is)
apt_kept s me past (what.Cleared ok) timely is fit apt = absurd (true≢false is)
apt_kept s me past (what.MailRead seen) timely is fit apt = absurd (true≢false is)
apt_kept s me past (what.MailWritten rank ok) timely is fit apt = absurd (true≢false is)
apt_kept s me past (what.Closed ok) timely is fit apt = absurd (true≢false is)

-- a step of the boot that goes on, by the number that the last read of a slot gave: an operation of the boot while
-- booting, or the first read of the mailbox
pub data BootStep (me number : ℕ) : What → DiskOp → Phase → Type 0 where
  BeginStep : (clean : Bool) → BootStep me number (begin_of clean) disk.ReadHeader Booting
  HeaderStep : (seen : HeaderSeen) → BootStep me number (what.Header seen) (disk.ReadSlot (rank_of me)) Booting
  SlotStep : (rank : Rank) (own : Slot) → BootStep me number (what.SlotRead rank (slot.Read own)) (disk.WriteClaim (own.incarnation + 1)) Booting
  CleanSlotStep : (rank : Rank) (own : Slot) → BootStep me number (what.SlotRead rank (slot.Read own)) disk.CheckMail Booting
  CheckStep : (seen : MailSeen) → BootStep me number (what.MailChecked seen) (disk.WriteClaim (number + 1)) Booting
  ClaimStep : BootStep me number (what.Claimed true) disk.WriteClear Booting
  ClearStep : BootStep me number (what.Cleared true) disk.ReadMail Up

step_at : {number : ℕ} (me : ℕ) (entry : What) (o op : DiskOp) (p q : Phase) → BootStep me number entry o p → o ≡ op → p ≡ q → BootStep me number entry op q
step_at {number = number} me entry o op p q it same phase_same =
    subst (λ x. BootStep me number entry x q) same (subst (λ x. BootStep me number entry o x) phase_same it)

slot_step_of : (me : ℕ) (number : ℕ) (rank : Rank) (own : Slot) (op : DiskOp) (clean : Bool)
    → boot_op me clean number (what.SlotRead rank (slot.Read own)) ≡ Some op → BootStep me number (what.SlotRead rank (slot.Read own)) op Booting
slot_step_of me number rank own op true next = step_at me _ _ op _ _ (CleanSlotStep rank own) (same_Some _ _ next) refl
slot_step_of me number rank own op false next = step_at me _ _ op _ _ (SlotStep rank own) (same_Some _ _ next) refl

pub boot_step_of : {number : ℕ} (s : Settings) (me : ℕ) (clean : Bool) (entry : What) (op : DiskOp) (timely : Bool) → boot_halt s entry ≡ None
    → boot_op me clean number entry ≡ Some op → BootStep me number entry op (next_phase s entry timely Booting)
boot_step_of s me clean what.Begin op timely goes next = step_at me _ _ op _ _ (BeginStep false) (same_Some _ _ next) refl
boot_step_of s me clean what.BeginClean op timely goes next = step_at me _ _ op _ _ (BeginStep true) (same_Some _ _ next) refl
boot_step_of s me clean (what.Header seen) op timely goes next =
    step_at me _ _ op _ _ (HeaderStep seen) (same_Some _ _ next) (ap (λ c. boot_phase c Booting) (sym goes))
boot_step_of {number = number} s me clean (what.SlotRead rank (slot.Read own)) op timely goes next =
    step_at me _ _ op _ _ (slot_step_of me number rank own op clean next) refl (ap (λ c. boot_phase c Booting) (sym goes))
boot_step_of s me clean (what.SlotRead rank slot.Damaged) op timely goes next = some_is_not_none _ goes
boot_step_of s me clean (what.SlotRead rank slot.Failed) op timely goes next = some_is_not_none _ goes
boot_step_of s me clean (what.MailChecked seen) op timely goes next =
    step_at me _ _ op _ _ (CheckStep seen) (same_Some _ _ next) (ap (λ c. boot_phase c Booting) (sym goes))
boot_step_of s me clean (what.Claimed true) op timely goes next = step_at me _ _ op _ _ ClaimStep (same_Some _ _ next) refl
boot_step_of s me clean (what.Claimed false) op timely goes next = some_is_not_none _ goes
boot_step_of s me clean (what.Cleared true) op timely goes next = step_at me _ _ op _ _ ClearStep (same_Some _ _ next) refl
boot_step_of s me clean (what.Cleared false) op timely goes next = some_is_not_none _ goes
boot_step_of s me clean (what.MailRead seen) op timely goes next = none_is_not_some op next
boot_step_of s me clean (what.MailWritten rank ok) op timely goes next = none_is_not_some op next
boot_step_of s me clean (what.View installed) op timely goes next = none_is_not_some op next
boot_step_of s me clean (what.Ask ask) op timely goes next = none_is_not_some op next
boot_step_of s me clean (what.Tell tell) op timely goes next = none_is_not_some op next
boot_step_of s me clean (what.Device agrees) op timely goes next = none_is_not_some op next
boot_step_of s me clean what.Tick op timely goes next = none_is_not_some op next
boot_step_of s me clean (what.Stopped ok) op timely goes next = none_is_not_some op next
boot_step_of s me clean what.Leave op timely goes next = none_is_not_some op next
boot_step_of s me clean (what.Closed ok) op timely goes next = none_is_not_some op next

step_apt : {number : ℕ} (me : ℕ) (entry : What) (op : DiskOp) (p : Phase) → BootStep me number entry op p → is_apt (Some op) p ≡ true
step_apt me entry op p (BeginStep clean) = refl
step_apt me entry op p (HeaderStep seen) = refl
step_apt me entry op p (SlotStep rank own) = refl
step_apt me entry op p (CleanSlotStep rank own) = refl
step_apt me entry op p (CheckStep seen) = refl
step_apt me entry op p ClaimStep = refl
step_apt me entry op p ClearStep = refl

mail_lives : (found : Option Message) (timely : Bool) (before : Phase) → is_live before ≡ true → deadly_of found ≡ None → is_live (mail_phase found timely before) ≡ true
mail_lives found timely before live none = by_deadly (deadly_of found) none
  where
    either : (b : Bool) → is_live (if b then Leaving else before) ≡ true
    either true = refl
    either false = live

    by_deadly : (d : Option Message) → d ≡ None → is_live (if is_some d then Dying else (if Rattle.qn_model.specs.Phases.gives_exit found && timely then Leaving else before)) ≡ true
    by_deadly None e = either (Rattle.qn_model.specs.Phases.gives_exit found && timely)
    by_deadly (Some m) e = some_is_not_none m e

live_stays : (before : Phase) (halted : Option BootCause) → is_live before ≡ true → is_live (if is_booting before then boot_phase halted before else before) ≡ true
live_stays Up halted live = refl
live_stays Leaving halted live = refl
live_stays Booting halted live = absurd (false≢true live)
live_stays Dying halted live = absurd (false≢true live)
live_stays Gone halted live = absurd (false≢true live)

-- a node that takes part goes on to do so after an entry that is neither deadly nor the end of its close
pub lives_on : (s : Settings) (me : ℕ) (past : List Line) (entry : What) (timely : Bool) → fits s me past entry ≡ true
    → is_apt (op_out past) (phase s past) ≡ true → is_live (phase s past) ≡ true → deadly_of (message_of entry) ≡ None → is_closed entry ≡ false
    → is_live (next_phase s entry timely (phase s past)) ≡ true
lives_on s me past what.Begin timely fit apt live none open' = absurd (false≢true (ap is_live (sym (first_boots s past fit)) ∙ live))
lives_on s me past what.BeginClean timely fit apt live none open' = absurd (false≢true (ap is_live (sym (first_boots s past fit)) ∙ live))
lives_on s me past (what.Header seen) timely fit apt live none open' =
    absurd (false≢true (live_out (phase s past) (op_out past) disk.ReadHeader live apt (header_answers (op_out past) seen fit)))
lives_on s me past (what.SlotRead rank seen) timely fit apt live none open' = live_stays (phase s past) (slot_halt seen) live
lives_on s me past (what.MailChecked seen) timely fit apt live none open' =
    absurd (false≢true (live_out (phase s past) (op_out past) disk.CheckMail live apt (check_answers (op_out past) seen fit)))
lives_on s me past (what.Claimed ok) timely fit apt live none open' =
    let claim = claimed_answers (op_out past) ok fit in
    absurd (false≢true (live_out (phase s past) (op_out past) (disk.WriteClaim claim.0) live apt claim.1))
lives_on s me past (what.Cleared ok) timely fit apt live none open' =
    absurd (false≢true (live_out (phase s past) (op_out past) disk.WriteClear live apt (cleared_answers (op_out past) ok fit)))
lives_on s me past (what.MailRead seen) timely fit apt live none open' = mail_lives (message_of (what.MailRead seen)) timely (phase s past) live none
lives_on s me past (what.MailWritten rank ok) timely fit apt live none open' = live
lives_on s me past (what.View installed) timely fit apt live none open' = live
lives_on s me past (what.Ask ask) timely fit apt live none open' = live
lives_on s me past (what.Tell tell) timely fit apt live none open' = live
lives_on s me past (what.Device agrees) timely fit apt live none open' = live
lives_on s me past what.Tick timely fit apt live none open' = live
lives_on s me past (what.Stopped ok) timely fit apt live none open' = live
lives_on s me past what.Leave timely fit apt live none open' = refl
lives_on s me past (what.Closed ok) timely fit apt live none open' = absurd (true≢false open')

state_apt : (s : Settings) (me : ℕ) (log : List Line) (op : DiskOp) → is_live (phase s log) ≡ true → LiveState s me log op → is_apt (Some op) (phase s log) ≡ true
state_apt s me log disk.ReadMail live state = by_live (phase s log) live
  where
    by_live : (p : Phase) → is_live p ≡ true → is_apt (Some disk.ReadMail) p ≡ true
    by_live Up e = refl
    by_live Leaving e = refl
    by_live Booting e = absurd (false≢true e)
    by_live Dying e = absurd (false≢true e)
    by_live Gone e = absurd (false≢true e)
state_apt s me log (disk.ReadSlot rank) live state = subst (λ p. is_apt (Some (disk.ReadSlot rank)) p ≡ true) (sym (up_is (phase s log) state.0)) refl
state_apt s me log disk.CheckMail live state = absurd state
state_apt s me log (disk.WriteReset rank) live state = subst (λ p. is_apt (Some (disk.WriteReset rank)) p ≡ true) (sym (up_is (phase s log) state.0)) refl
state_apt s me log (disk.WriteClose number) live state = subst (λ p. is_apt (Some (disk.WriteClose number)) p ≡ true) (sym (leaving_is (phase s log) state.0)) refl
state_apt s me log disk.ReadHeader live state = absurd state
state_apt s me log (disk.WriteClaim number) live state = absurd state
state_apt s me log disk.WriteClear live state = absurd state

-- an operation that a line gives is apt in the phase after it
apt_given : (s : Settings) (me : ℕ) (line : Line) (past : List Line) (op : DiskOp) → IsLine s me line past → is_apt (op_out past) (phase s past) ≡ true
    → Reason s me past line.what (before_outs line past) op → is_apt (Some op) (phase s (line ∷ past)) ≡ true
unfolding phase
apt_given s me line past op it apt (inl boots) =
    subst (λ p. is_apt (Some op) (next_phase s line.what (in_time line.tick past) p) ≡ true) (sym (booting_is (phase s past) boots.booting))
    (step_apt me line.what op _ (boot_step_of s me _ line.what op (in_time line.tick past) boots.goes_on boots.next))
apt_given s me line past op it apt (inr lives) =
    state_apt s me (before_outs line past) op (lives_on s me past line.what (in_time line.tick past) it.fitting apt lives.live lives.lives_on lives.not_closed) lives.state

apt_step : (s : Settings) (me : ℕ) (line : Line) (past : List Line) → IsLine s me line past → is_apt (op_out past) (phase s past) ≡ true
    → (given : Option DiskOp) (answer : Bool) → disk_of line.outs ≡ given → is_answer line.what ≡ answer
    → is_apt (option_or given (if answer then None else op_out past)) (phase s (line ∷ past)) ≡ true
unfolding phase
apt_step s me line past it apt (Some op) answer gave is = apt_given s me line past op it apt (disk_reason it op gave)
apt_step s me line past it apt None true gave is = refl
apt_step s me line past it apt None false gave is = apt_kept s me past line.what (in_time line.tick past) is it.fitting apt

-- the operation that is out is apt in the phase
pub apt : {s : Settings} {me : ℕ} {log : List Line} → Made s me log → is_apt (op_out log) (phase s log) ≡ true
unfolding op_out phase
apt NoLine = refl
apt {s = s} {me = me} (OneMore {line = line} {past = past} it made) =
    apt_step s me line past it (apt made) (disk_of line.outs) (is_answer line.what) refl refl

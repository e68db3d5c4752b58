-- What the operation that is out says of the log: who reads which slot, which number is written, and how a node comes up.
use Rattle.std.proofs.Common.{◌≡◌, ℕ, Bool, true, false, List, [], ◌∷◌, Some, None, Option, refl, sym, ap, ◌∙◌, subst, if◌then◌else◌, ◌⊎◌, inl, inr}
use Rattle.std.specs.Option.{option_or}
use Rattle.std.proofs.lemmas.Bool.{false≢true, true≢false}
use Rattle.qn_base.specs.declared.ids.Rank.{Rank}
use Rattle.qn_base.specs.lemmas.Options.{none_is_not_some}
use Rattle.qn_base.specs.lemmas.Bools.{never_both}
use Rattle.qn_model.specs.declared.configuration.Settings.{Settings}
use Rattle.qn_model.specs.declared.entries.What.{What}
use Rattle.qn_model.specs.declared.entries.What.TheVariants as what
use Rattle.qn_model.specs.declared.life.Phase.{Phase}
use Rattle.qn_model.specs.declared.life.Phase.TheVariants.{Booting}
use Rattle.qn_model.specs.declared.disk.Slot.{Slot}
use Rattle.qn_model.specs.declared.outputs.BootCause.{BootCause}
use Rattle.qn_model.specs.declared.seen.SlotSeen.TheVariants as slot
use Rattle.qn_model.specs.declared.outputs.DiskOp.{DiskOp}
use Rattle.qn_model.specs.declared.outputs.DiskOp.TheVariants as disk
use Rattle.qn_model.specs.Log.{Line, op_out, claimed, claim_of, disk_of, is_answer}
use Rattle.qn_model.specs.Phases.{phase, next_phase, boot_phase, header_halt, slot_halt, check_halt, in_time, is_booting, is_up}
use Rattle.qn_model.specs.NodeVotes.{answers}
use Rattle.qn_model.specs.Fitting.{fits, read_as, answers_op, is_closed}
use Rattle.qn_model.specs.Moments.{is_gone}
use Rattle.qn_safety.specs.Closing.{is_close}
use Rattle.qn_safety.proofs.Says.{Reason}
use Rattle.qn_safety.proofs.Logs.{Made, NoLine, OneMore, IsLine, before_outs, line_at, disk_reason, AskedBy, ask_line}
use Rattle.qn_safety.proofs.Apt.{is_apt, apt, BootStep, BeginStep, HeaderStep, SlotStep, CleanSlotStep, CheckStep, ClaimStep, ClearStep, boot_step_of, booting_is, up_is, mail_answers, cleared_answers}
use Rattle.qn_safety.proofs.Stays.{boot_past_later}
use Rattle.qn_safety.proofs.Rests.{own_read, same_phase}
use Rattle.qn_safety.proofs.Numbers.{claim_given, ClaimGiven}

-- the operation out after a line: the line gave it, or it was out before
pub out_cases : (line : Line) (past : List Line) (op : DiskOp) → op_out (line ∷ past) ≡ Some op
    → (disk_of line.outs ≡ Some op) ⊎ ((disk_of line.outs ≡ None) × (is_answer line.what ≡ false) × (op_out past ≡ Some op))
unfolding op_out
out_cases line past op e = by_given (disk_of line.outs) (is_answer line.what) refl refl e
  where
    by_given : (given : Option DiskOp) (answer : Bool) → disk_of line.outs ≡ given → is_answer line.what ≡ answer → option_or given (if answer then None else op_out past) ≡ Some op
        → (disk_of line.outs ≡ Some op) ⊎ ((disk_of line.outs ≡ None) × (is_answer line.what ≡ false) × (op_out past ≡ Some op))
    by_given (Some other) answer gave is same = inl (gave ∙ same)
    by_given None true gave is none = none_is_not_some op none
    by_given None false gave is was = inr (gave, is, was)

claimed_none : (line : Line) (past : List Line) → claim_of (disk_of line.outs) ≡ None → claimed (line ∷ past) ≡ claimed past
unfolding claimed
claimed_none line past none = ap (λ o. option_or o (claimed past)) none

claimed_some : (line : Line) (past : List Line) (number : ℕ) → claim_of (disk_of line.outs) ≡ Some number → claimed (line ∷ past) ≡ Some number
unfolding claimed
claimed_some line past number some = ap (λ o. option_or o (claimed past)) some

-- a line gives a claim, or the claimed number stays
pub claimed_cases : {s : Settings} {me : ℕ} {line : Line} {past : List Line} → IsLine s me line past
    → (claimed (line ∷ past) ≡ claimed past) ⊎ ((number : ℕ) × (claimed (line ∷ past) ≡ Some number) × ClaimGiven s line past number)
claimed_cases {s = s} {line = line} {past = past} it = by_given (disk_of line.outs) refl
  where
    by_given : (given : Option DiskOp) → disk_of line.outs ≡ given
        → (claimed (line ∷ past) ≡ claimed past) ⊎ ((number : ℕ) × (claimed (line ∷ past) ≡ Some number) × ClaimGiven s line past number)
    by_given None e = inl (claimed_none line past (ap claim_of e))
    by_given (Some disk.ReadHeader) e = inl (claimed_none line past (ap claim_of e))
    by_given (Some (disk.ReadSlot rank)) e = inl (claimed_none line past (ap claim_of e))
    by_given (Some disk.CheckMail) e = inl (claimed_none line past (ap claim_of e))
    by_given (Some disk.WriteClear) e = inl (claimed_none line past (ap claim_of e))
    by_given (Some disk.ReadMail) e = inl (claimed_none line past (ap claim_of e))
    by_given (Some (disk.WriteReset rank)) e = inl (claimed_none line past (ap claim_of e))
    by_given (Some (disk.WriteClose number)) e = inl (claimed_none line past (ap claim_of e))
    by_given (Some (disk.WriteClaim number)) e = inr (number, claimed_some line past number (ap claim_of e), claim_given it number e)

-- the claim that is out carries the claimed number
pub out_claims : {s : Settings} {me : ℕ} {log : List Line} → Made s me log → (number : ℕ) → op_out log ≡ Some (disk.WriteClaim number) → claimed log ≡ Some number
out_claims NoLine number e = none_is_not_some _ (sym (nothing_out) ∙ e)
  where
    nothing_out : op_out [] ≡ None
    nothing_out = unfold op_out in refl
out_claims (OneMore {line = line} {past = past} it made) number e = by_cases (out_cases line past (disk.WriteClaim number) e) (λ was. out_claims made number was)
  where
    by_cases : (disk_of line.outs ≡ Some (disk.WriteClaim number)) ⊎ ((disk_of line.outs ≡ None) × (is_answer line.what ≡ false) × (op_out past ≡ Some (disk.WriteClaim number)))
        → (op_out past ≡ Some (disk.WriteClaim number) → claimed past ≡ Some number) → claimed (line ∷ past) ≡ Some number
    by_cases (inl gave) rest = claimed_some line past number (ap claim_of gave)
    by_cases (inr kept) rest = claimed_none line past (ap claim_of kept.0) ∙ rest kept.2

-- and so does the close
close_state : {s : Settings} {me : ℕ} {line : Line} {past : List Line} → IsLine s me line past → (number : ℕ) → disk_of line.outs ≡ Some (disk.WriteClose number) → claimed past ≡ Some number
close_state {s = s} {me = me} {line = line} {past = past} it number gave = by_reason (disk_reason it (disk.WriteClose number) gave)
  where
    no_step : {last : ℕ} (entry : What) (op : DiskOp) (p : Phase) → BootStep me last entry op p → op ≡ disk.WriteClose number → ⊥
    no_step entry op p (BeginStep clean) e = cc
    no_step entry op p (HeaderStep seen) e = cc
    no_step entry op p (SlotStep rank own) e = cc
    no_step entry op p (CleanSlotStep rank own) e = cc
    no_step entry op p (CheckStep seen) e = cc
    no_step entry op p ClaimStep e = cc
    no_step entry op p ClearStep e = cc

    by_reason : Reason s me past line.what (before_outs line past) (disk.WriteClose number) → claimed past ≡ Some number
    by_reason (inl boots) = absurd (no_step line.what (disk.WriteClose number) _ (boot_step_of s me _ line.what (disk.WriteClose number) false boots.goes_on boots.next) refl)
    by_reason (inr lives) = lives.state.2

pub out_closes : {s : Settings} {me : ℕ} {log : List Line} → Made s me log → (number : ℕ) → op_out log ≡ Some (disk.WriteClose number) → claimed log ≡ Some number
out_closes NoLine number e = none_is_not_some _ (sym (nothing_out) ∙ e)
  where
    nothing_out : op_out [] ≡ None
    nothing_out = unfold op_out in refl
out_closes {s = s} {me = me} (OneMore {line = line} {past = past} it made) number e = by_cases (out_cases line past (disk.WriteClose number) e) (λ was. out_closes made number was)
  where
    by_cases : (disk_of line.outs ≡ Some (disk.WriteClose number)) ⊎ ((disk_of line.outs ≡ None) × (is_answer line.what ≡ false) × (op_out past ≡ Some (disk.WriteClose number)))
        → (op_out past ≡ Some (disk.WriteClose number) → claimed past ≡ Some number) → claimed (line ∷ past) ≡ Some number
    by_cases (inl gave) rest = claimed_none line past (ap claim_of gave) ∙ close_state it number gave
    by_cases (inr kept) rest = claimed_none line past (ap claim_of kept.0) ∙ rest kept.2

-- a node that boots reads its own slot alone
pub own_slot_out : {s : Settings} {me : ℕ} {log : List Line} → Made s me log → (rank : Rank) → op_out log ≡ Some (disk.ReadSlot rank) → is_booting (phase s log) ≡ true → me ≡ rank.0
own_slot_out {s = s} {me = me} {log = log} made rank out booting = by_reason (disk_reason (line_at asked.back made) (disk.ReadSlot rank) asked.gave)
  where
    asked : AskedBy (disk.ReadSlot rank) log
    asked = ask_line (disk.ReadSlot rank) log out

    up_booted : (p : Phase) → is_up p ≡ true → is_booting p ≡ false
    up_booted p e = ap is_booting (up_is p e)

    by_reason : Reason s me asked.past asked.line.what (before_outs asked.line asked.past) (disk.ReadSlot rank) → me ≡ rank.0
    by_reason (inl boots) = own_read s me asked.line.what (disk.ReadSlot rank) _ rank (boot_step_of s me _ asked.line.what (disk.ReadSlot rank) false boots.goes_on boots.next) refl
    by_reason (inr lives) = never_both (is_booting (phase s log)) booting
        (boot_past_later made asked.back (up_booted (phase s (asked.line ∷ asked.past)) (subst (λ p. is_up p ≡ true) (same_phase s asked.line asked.past) lives.state.0)))

-- a step of the boot that asks for the clear answers the claim
pub clear_step : {me number : ℕ} (entry : What) (op : DiskOp) (p : Phase) → BootStep me number entry op p → op ≡ disk.WriteClear → entry ≡ what.Claimed true
clear_step entry op p (BeginStep clean) e = absurd (cc)
clear_step entry op p (HeaderStep seen) e = absurd (cc)
clear_step entry op p (SlotStep rank own) e = absurd (cc)
clear_step entry op p (CleanSlotStep rank own) e = absurd (cc)
clear_step entry op p (CheckStep seen) e = absurd (cc)
clear_step entry op p ClaimStep e = refl
clear_step entry op p ClearStep e = absurd (cc)

pub clear_given : {s : Settings} {me : ℕ} {line : Line} {past : List Line} → IsLine s me line past → disk_of line.outs ≡ Some disk.WriteClear → line.what ≡ what.Claimed true
clear_given {s = s} {me = me} {line = line} {past = past} it gave = by_reason (disk_reason it disk.WriteClear gave)
  where
    by_reason : Reason s me past line.what (before_outs line past) disk.WriteClear → line.what ≡ what.Claimed true
    by_reason (inl boots) = clear_step line.what disk.WriteClear _ (boot_step_of s me _ line.what disk.WriteClear false boots.goes_on boots.next) refl
    by_reason (inr lives) = absurd lives.state

-- a line that asks for the check read the own slot while the node boots
pub record CheckGiven (s : Settings) (line : Line) (past : List Line) : Type 0 where
  pub booting : is_booting (phase s past) ≡ true
  pub rank : Rank
  pub own : Slot
  pub reads : line.what ≡ what.SlotRead rank (slot.Read own)

check_step : {me number : ℕ} (entry : What) (op : DiskOp) (p : Phase) → BootStep me number entry op p → op ≡ disk.CheckMail
    → (rank : Rank) × (own : Slot) × (entry ≡ what.SlotRead rank (slot.Read own))
check_step entry op p (BeginStep clean) e = absurd (cc)
check_step entry op p (HeaderStep seen) e = absurd (cc)
check_step entry op p (SlotStep rank own) e = absurd (cc)
check_step entry op p (CleanSlotStep rank own) e = (rank, own, refl)
check_step entry op p (CheckStep seen) e = absurd (cc)
check_step entry op p ClaimStep e = absurd (cc)
check_step entry op p ClearStep e = absurd (cc)

pub check_given : {s : Settings} {me : ℕ} {line : Line} {past : List Line} → IsLine s me line past → disk_of line.outs ≡ Some disk.CheckMail → CheckGiven s line past
check_given {s = s} {me = me} {line = line} {past = past} it gave = by_reason (disk_reason it disk.CheckMail gave)
  where
    by_reason : Reason s me past line.what (before_outs line past) disk.CheckMail → CheckGiven s line past
    by_reason (inl boots) =
        let step = check_step line.what disk.CheckMail _ (boot_step_of s me _ line.what disk.CheckMail false boots.goes_on boots.next) refl in
        record { booting = boots.booting; rank = step.0; own = step.1; reads = step.2 }
    by_reason (inr lives) = absurd lives.state

pub claimed_by_clear : (line : Line) (past : List Line) → disk_of line.outs ≡ Some disk.WriteClear → claimed (line ∷ past) ≡ claimed past
claimed_by_clear line past gave = claimed_none line past (ap claim_of gave)

-- what answers nothing is no answer of an operation
pub plain_no_answer : (op : Option DiskOp) (entry : What) → is_answer entry ≡ false → answers_op op entry ≡ false
plain_no_answer None entry is = refl
plain_no_answer (Some disk.ReadHeader) (what.Header seen) is = absurd (true≢false is)
plain_no_answer (Some disk.ReadHeader) entry is = refl
plain_no_answer (Some (disk.ReadSlot rank)) (what.SlotRead other seen) is = absurd (true≢false is)
plain_no_answer (Some (disk.ReadSlot rank)) entry is = refl
plain_no_answer (Some disk.CheckMail) (what.MailChecked seen) is = absurd (true≢false is)
plain_no_answer (Some disk.CheckMail) entry is = refl
plain_no_answer (Some (disk.WriteClaim number)) (what.Claimed ok) is = absurd (true≢false is)
plain_no_answer (Some (disk.WriteClaim number)) entry is = refl
plain_no_answer (Some disk.WriteClear) (what.Cleared ok) is = absurd (true≢false is)
plain_no_answer (Some disk.WriteClear) entry is = refl
plain_no_answer (Some disk.ReadMail) (what.MailRead seen) is = absurd (true≢false is)
plain_no_answer (Some disk.ReadMail) entry is = refl
plain_no_answer (Some (disk.WriteReset rank)) (what.MailWritten other ok) is = absurd (true≢false is)
plain_no_answer (Some (disk.WriteReset rank)) entry is = refl
plain_no_answer (Some (disk.WriteClose number)) (what.Closed ok) is = absurd (true≢false is)
plain_no_answer (Some (disk.WriteClose number)) entry is = refl

-- an answer of the operation that is out fits
fits_out : (s : Settings) (me : ℕ) (past : List Line) (entry : What) → is_answer entry ≡ true → answers_op (op_out past) entry ≡ true → fits s me past entry ≡ true
fits_out s me past what.Begin is e = absurd (false≢true is)
fits_out s me past what.BeginClean is e = absurd (false≢true is)
fits_out s me past (what.Header seen) is e = e
fits_out s me past (what.SlotRead other seen) is e = e
fits_out s me past (what.MailChecked seen) is e = e
fits_out s me past (what.Claimed ok) is e = e
fits_out s me past (what.Cleared ok) is e = e
fits_out s me past (what.MailRead seen) is e = e
fits_out s me past (what.MailWritten other ok) is e = e
fits_out s me past (what.View installed) is e = absurd (false≢true is)
fits_out s me past (what.Ask ask) is e = absurd (false≢true is)
fits_out s me past (what.Tell tell) is e = absurd (false≢true is)
fits_out s me past (what.Device agrees) is e = absurd (false≢true is)
fits_out s me past what.Tick is e = absurd (false≢true is)
fits_out s me past (what.Stopped ok) is e = absurd (false≢true is)
fits_out s me past what.Leave is e = absurd (false≢true is)
fits_out s me past (what.Closed ok) is e = e

pub answer_fits : (s : Settings) (me : ℕ) (past : List Line) (entry : What) → answers_op (op_out past) entry ≡ true → (is_answer entry ≡ true) × (read_as s me past entry ≡ entry)
answer_fits s me past entry e = by_answer (is_answer entry) refl
  where
    by_answer : (b : Bool) → is_answer entry ≡ b → (is_answer entry ≡ true) × (read_as s me past entry ≡ entry)
    by_answer true is = (is, ap (λ b. if b then entry else what.Tick) (fits_out s me past entry is e))
    by_answer false is = never_both (answers_op (op_out past) entry) e (plain_no_answer (op_out past) entry is)

-- the answer of a close ends the node
close_answer : (op : Option DiskOp) (entry : What) → is_close op ≡ true → answers_op op entry ≡ true → is_closed entry ≡ true
close_answer (Some (disk.WriteClose number)) (what.Closed ok) is e = refl
close_answer (Some (disk.WriteClose number)) entry is e = absurd (false≢true e)
close_answer (Some disk.ReadHeader) entry is e = absurd (false≢true is)
close_answer (Some (disk.ReadSlot rank)) entry is e = absurd (false≢true is)
close_answer (Some disk.CheckMail) entry is e = absurd (false≢true is)
close_answer (Some (disk.WriteClaim number)) entry is e = absurd (false≢true is)
close_answer (Some disk.WriteClear) entry is e = absurd (false≢true is)
close_answer (Some disk.ReadMail) entry is e = absurd (false≢true is)
close_answer (Some (disk.WriteReset rank)) entry is e = absurd (false≢true is)
close_answer None entry is e = absurd (false≢true is)

closed_gone : (s : Settings) (entry : What) (timely : Bool) (p : Phase) → is_closed entry ≡ true → is_gone (next_phase s entry timely p) ≡ true
closed_gone s (what.Closed ok) timely p e = refl
closed_gone s entry timely p e = absurd (false≢true e)

-- a node that is not gone after an answer had no close out
pub no_close_out : (s : Settings) (line : Line) (past : List Line) → answers_op (op_out past) line.what ≡ true → is_gone (phase s (line ∷ past)) ≡ false → is_close (op_out past) ≡ false
unfolding phase
no_close_out s line past answers living = by_close (is_close (op_out past)) refl
  where
    by_close : (b : Bool) → is_close (op_out past) ≡ b → is_close (op_out past) ≡ false
    by_close false e = e
    by_close true e = never_both (is_gone (phase s (line ∷ past))) (closed_gone s line.what (in_time line.tick past) (phase s past) (close_answer (op_out past) line.what e answers)) living

not_apt : (out : Option DiskOp) (op : DiskOp) {P : Type 0} → is_apt out Booting ≡ true → out ≡ Some op → is_apt (Some op) Booting ≡ false → P
not_apt out op a e bad = never_both (is_apt out Booting) a (ap (λ o. is_apt o Booting) e ∙ bad)

halted_up : (halted : Option BootCause) {P : Type 0} → is_booting (boot_phase halted Booting) ≡ false → is_gone (boot_phase halted Booting) ≡ false → P
halted_up None b g = absurd (true≢false b)
halted_up (Some cause) b g = absurd (true≢false g)

-- a node comes up by the answer of its clear
comes_up_at : (s : Settings) (me : ℕ) (past : List Line) (entry : What) (timely : Bool) → is_answer entry ≡ true → fits s me past entry ≡ true → is_apt (op_out past) Booting ≡ true
    → is_booting (next_phase s entry timely Booting) ≡ false → is_gone (next_phase s entry timely Booting) ≡ false → op_out past ≡ Some disk.WriteClear
comes_up_at s me past (what.Header seen) timely is fit a b g = halted_up (header_halt s seen) b g
comes_up_at s me past (what.SlotRead other seen) timely is fit a b g = halted_up (slot_halt seen) b g
comes_up_at s me past (what.MailChecked seen) timely is fit a b g = halted_up (check_halt seen) b g
comes_up_at s me past (what.Claimed true) timely is fit a b g = absurd (true≢false b)
comes_up_at s me past (what.Claimed false) timely is fit a b g = absurd (true≢false g)
comes_up_at s me past (what.Cleared ok) timely is fit a b g = cleared_answers (op_out past) ok fit
comes_up_at s me past (what.MailRead seen) timely is fit a b g = not_apt (op_out past) disk.ReadMail a (mail_answers (op_out past) seen fit) refl
comes_up_at s me past (what.MailWritten other ok) timely is fit a b g = absurd (true≢false b)
comes_up_at s me past (what.Closed ok) timely is fit a b g = absurd (true≢false g)
comes_up_at s me past what.Begin timely is fit a b g = absurd (false≢true is)
comes_up_at s me past what.BeginClean timely is fit a b g = absurd (false≢true is)
comes_up_at s me past (what.View installed) timely is fit a b g = absurd (false≢true is)
comes_up_at s me past (what.Ask ask) timely is fit a b g = absurd (false≢true is)
comes_up_at s me past (what.Tell tell) timely is fit a b g = absurd (false≢true is)
comes_up_at s me past (what.Device agrees) timely is fit a b g = absurd (false≢true is)
comes_up_at s me past what.Tick timely is fit a b g = absurd (false≢true is)
comes_up_at s me past (what.Stopped ok) timely is fit a b g = absurd (false≢true is)
comes_up_at s me past what.Leave timely is fit a b g = absurd (false≢true is)

pub comes_up : {s : Settings} {me : ℕ} {line : Line} {past : List Line} → IsLine s me line past → Made s me past → is_answer line.what ≡ true → is_booting (phase s past) ≡ true
    → is_booting (phase s (line ∷ past)) ≡ false → is_gone (phase s (line ∷ past)) ≡ false → op_out past ≡ Some disk.WriteClear
unfolding phase
comes_up {s = s} {me = me} {line = line} {past = past} it made is booting booted living =
    let was = booting_is (phase s past) booting in
    comes_up_at s me past line.what (in_time line.tick past) is it.fitting (subst (λ p. is_apt (op_out past) p ≡ true) was (apt made))
    (subst (λ p. is_booting (next_phase s line.what (in_time line.tick past) p) ≡ false) was booted)
    (subst (λ p. is_gone (next_phase s line.what (in_time line.tick past) p) ≡ false) was living)

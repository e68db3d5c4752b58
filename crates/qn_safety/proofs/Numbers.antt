-- The number that a node claims in its boot, and has from then on.
use Rattle.std.proofs.Common.{◌≡◌, ℕ, ◌+◌, Bool, true, false, List, [], ◌∷◌, Some, None, Option, refl, sym, ap, ◌∙◌, subst, if◌then◌else◌, ◌⊎◌, inl, inr, is_some, unwrap_or}
use Rattle.std.specs.Option.{option_or}
use Rattle.std.proofs.lemmas.Bool.{false≢true, true≢false}
use Rattle.qn_base.specs.declared.ids.Rank.{Rank}
use Rattle.qn_base.specs.lemmas.Options.{value_there}
use Rattle.qn_base.specs.lemmas.Bools.{never_both}
use Rattle.qn_model.specs.declared.configuration.Settings.{Settings}
use Rattle.qn_model.specs.declared.disk.Slot.{Slot}
use Rattle.qn_model.specs.declared.seen.MailSeen.{MailSeen}
use Rattle.qn_model.specs.declared.seen.SlotSeen.TheVariants as slot
use Rattle.qn_model.specs.declared.entries.What.{What}
use Rattle.qn_model.specs.declared.entries.What.TheVariants as what
use Rattle.qn_model.specs.declared.life.Phase.{Phase}
use Rattle.qn_model.specs.declared.life.Phase.TheVariants.{Booting, Up, Leaving, Dying, Gone}
use Rattle.qn_model.specs.declared.outputs.BootCause.{BootCause}
use Rattle.qn_model.specs.declared.outputs.DiskOp.{DiskOp}
use Rattle.qn_model.specs.declared.outputs.DiskOp.TheVariants as disk
use Rattle.qn_model.specs.Log.{Line, op_out, claimed, claim_of, incarnation, disk_of, is_answer, number_read, slot_number}
use Rattle.qn_model.specs.Phases.{phase, next_phase, boot_phase, header_halt, slot_halt, check_halt, in_time, is_booting}
use Rattle.qn_model.specs.Fitting.{fits}
use Rattle.qn_model.specs.Moments.{is_gone}
use Rattle.qn_safety.proofs.Says.{Reason}
use Rattle.qn_safety.proofs.Logs.{Made, NoLine, OneMore, IsLine, before_outs, disk_reason}
use Rattle.qn_safety.proofs.Apt.{is_apt, apt, BootStep, BeginStep, HeaderStep, SlotStep, CleanSlotStep, CheckStep, ClaimStep, ClearStep, boot_step_of, booting_is, claimed_answers, cleared_answers, mail_answers}
use Rattle.qn_safety.proofs.Times.{boot_tick, gone_next, not_live_up}

-- where the number of a claim comes from: the entry is the read of the own slot, or the check after it, and then the number
-- is that of the last read of a slot
pub data NumberFrom (entry : What) (last number : ℕ) : Type 0 where
  BySlot : (rank : Rank) (own : Slot) → entry ≡ what.SlotRead rank (slot.Read own) → number ≡ own.incarnation + 1 → NumberFrom entry last number
  ByCheck : (seen : MailSeen) → entry ≡ what.MailChecked seen → number ≡ last + 1 → NumberFrom entry last number

-- a line that gives a claim answers the read of the slot or the check, and the node boots after it
pub record ClaimGiven (s : Settings) (line : Line) (past : List Line) (number : ℕ) : Type 0 where
  pub booting : is_booting (phase s (line ∷ past)) ≡ true
  pub answers : is_answer line.what ≡ true
  pub from : NumberFrom line.what (slot_number past) number

-- an entry that reads no slot leaves the number of the last read
pub number_kept : (line : Line) (past : List Line) → number_read line.what ≡ None → slot_number (line ∷ past) ≡ slot_number past
unfolding slot_number
number_kept line past none = ap (λ found. unwrap_or found (slot_number past)) none

phase_step : (s : Settings) (line : Line) (past : List Line) → phase s (line ∷ past) ≡ next_phase s line.what (in_time line.tick past) (phase s past)
unfolding phase
phase_step s line past = refl

pub claim_given : {s : Settings} {me : ℕ} {line : Line} {past : List Line} → IsLine s me line past → (number : ℕ) → disk_of line.outs ≡ Some (disk.WriteClaim number) → ClaimGiven s line past number
claim_given {s = s} {me = me} {line = line} {past = past} it number gave = by_reason (disk_reason it (disk.WriteClaim number) gave)
  where
    number_same : (n : ℕ) → disk.WriteClaim n ≡ disk.WriteClaim number → number ≡ n
    number_same n e = cc

    step_claims : {last : ℕ} (entry : What) (op : DiskOp) (p : Phase) → BootStep me last entry op p → op ≡ disk.WriteClaim number
        → NumberFrom entry last number × (is_answer entry ≡ true) × (is_booting p ≡ true)
    step_claims entry op p (BeginStep clean) e = absurd (cc)
    step_claims entry op p (HeaderStep seen) e = absurd (cc)
    step_claims entry op p (SlotStep rank own) e = (BySlot rank own refl (number_same (own.incarnation + 1) e), refl, refl)
    step_claims entry op p (CleanSlotStep rank own) e = absurd (cc)
    step_claims {last = last} entry op p (CheckStep seen) e = (ByCheck seen refl (number_same (last + 1) e), refl, refl)
    step_claims entry op p ClaimStep e = absurd (cc)
    step_claims entry op p ClearStep e = absurd (cc)

    phase_now : is_booting (phase s past) ≡ true → phase s (line ∷ past) ≡ next_phase s line.what (in_time line.tick past) Booting
    phase_now b = phase_step s line past ∙ ap (λ p. next_phase s line.what (in_time line.tick past) p) (booting_is (phase s past) b)

    from_past : NumberFrom line.what (slot_number (before_outs line past)) number → NumberFrom line.what (slot_number past) number
    from_past (BySlot rank own reads next) = BySlot rank own reads next
    from_past (ByCheck seen reads next) = ByCheck seen reads (next ∙ ap (λ n. n + 1) (number_kept _ past (ap number_read reads)))

    by_reason : Reason s me past line.what (before_outs line past) (disk.WriteClaim number) → ClaimGiven s line past number
    by_reason (inl boots) =
        let step = step_claims line.what (disk.WriteClaim number) _ (boot_step_of s me _ line.what (disk.WriteClaim number) (in_time line.tick past) boots.goes_on boots.next) refl in
        record {
          booting = ap is_booting (phase_now boots.booting) ∙ step.2;
          answers = step.1;
          from = from_past step.0;
        }
    by_reason (inr lives) = absurd lives.state

-- the operations of the boot that come once the number was claimed
abbrev is_late : Option DiskOp → Bool
is_late (Some disk.WriteClear) = true
is_late (Some (disk.WriteClaim number)) = true
is_late out = false

-- whether a node must have a number: it was claimed, and the node is not gone
abbrev needs_number : Option DiskOp → Phase → Bool
needs_number out Booting = is_late out
needs_number out Up = true
needs_number out Leaving = true
needs_number out Dying = true
needs_number out Gone = false

halted_early : (halted : Option BootCause) → needs_number None (boot_phase halted Booting) ≡ false
halted_early None = refl
halted_early (Some cause) = refl

late_clash : (out : Option DiskOp) (op : DiskOp) {P : Type 0} → out ≡ Some op → is_late (Some op) ≡ true → is_late out ≡ false → P
late_clash out op e late early = never_both (is_late out) (ap is_late e ∙ late) early

apt_clash : (out : Option DiskOp) (op : DiskOp) {P : Type 0} → out ≡ Some op → is_apt (Some op) Booting ≡ false → is_apt out Booting ≡ true → P
apt_clash out op e bad good = never_both (is_apt out Booting) good (ap (λ o. is_apt o Booting) e ∙ bad)

-- an answer before the claim leaves nothing out, and needs no number
early_answer : (s : Settings) (me : ℕ) (past : List Line) (entry : What) (timely : Bool) → is_answer entry ≡ true → fits s me past entry ≡ true
    → is_late (op_out past) ≡ false → is_apt (op_out past) Booting ≡ true → needs_number None (next_phase s entry timely Booting) ≡ false
early_answer s me past (what.Header seen) timely is fit early a = halted_early (header_halt s seen)
early_answer s me past (what.SlotRead other seen) timely is fit early a = halted_early (slot_halt seen)
early_answer s me past (what.MailChecked seen) timely is fit early a = halted_early (check_halt seen)
early_answer s me past (what.Claimed ok) timely is fit early a = let op = claimed_answers (op_out past) ok fit in late_clash (op_out past) (disk.WriteClaim op.0) op.1 refl early
early_answer s me past (what.Cleared ok) timely is fit early a = late_clash (op_out past) disk.WriteClear (cleared_answers (op_out past) ok fit) refl early
early_answer s me past (what.MailRead seen) timely is fit early a = apt_clash (op_out past) disk.ReadMail (mail_answers (op_out past) seen fit) refl a
early_answer s me past (what.MailWritten other ok) timely is fit early a = refl
early_answer s me past (what.Closed ok) timely is fit early a = refl
early_answer s me past what.Begin timely is fit early a = absurd (false≢true is)
early_answer s me past what.BeginClean timely is fit early a = absurd (false≢true is)
early_answer s me past (what.View installed) timely is fit early a = absurd (false≢true is)
early_answer s me past (what.Ask ask) timely is fit early a = absurd (false≢true is)
early_answer s me past (what.Tell tell) timely is fit early a = absurd (false≢true is)
early_answer s me past (what.Device agrees) timely is fit early a = absurd (false≢true is)
early_answer s me past what.Tick timely is fit early a = absurd (false≢true is)
early_answer s me past (what.Stopped ok) timely is fit early a = absurd (false≢true is)
early_answer s me past what.Leave timely is fit early a = absurd (false≢true is)

some_or : {A : Type 0} (first second : Option A) → is_some second ≡ true → is_some (option_or first second) ≡ true
some_or None second e = e
some_or (Some x) second e = refl

-- a step of the boot before the claim is the claim, or needs no number after it
early_step : {number : ℕ} (me : ℕ) (past : List Line) (s : Settings) (entry : What) (op : DiskOp) (p : Phase) → BootStep me number entry op p → fits s me past entry ≡ true → is_late (op_out past) ≡ false
    → (is_some (claim_of (Some op)) ≡ true) ⊎ (needs_number (Some op) p ≡ false)
early_step me past s entry op p (BeginStep clean) fit early = inr refl
early_step me past s entry op p (HeaderStep seen) fit early = inr refl
early_step me past s entry op p (SlotStep rank own) fit early = inl refl
early_step me past s entry op p (CleanSlotStep rank own) fit early = inr refl
early_step me past s entry op p (CheckStep seen) fit early = inl refl
early_step me past s entry op p ClaimStep fit early = let o = claimed_answers (op_out past) true fit in late_clash (op_out past) (disk.WriteClaim o.0) o.1 refl early
early_step me past s entry op p ClearStep fit early = late_clash (op_out past) disk.WriteClear (cleared_answers (op_out past) true fit) refl early

needs_cases : (out : Option DiskOp) (p : Phase) → needs_number out p ≡ false → ((is_booting p ≡ true) × (is_late out ≡ false)) ⊎ (p ≡ Gone)
needs_cases out Booting e = inl (refl, e)
needs_cases out Gone e = inr refl
needs_cases out Up e = absurd (true≢false e)
needs_cases out Leaving e = absurd (true≢false e)
needs_cases out Dying e = absurd (true≢false e)

numbered_step : (s : Settings) (me : ℕ) (line : Line) (past : List Line) → IsLine s me line past → Made s me past
    → (needs_number (op_out past) (phase s past) ≡ true → is_some (claimed past) ≡ true)
    → needs_number (op_out (line ∷ past)) (phase s (line ∷ past)) ≡ true → is_some (claimed (line ∷ past)) ≡ true
unfolding op_out phase claimed
numbered_step s me line past it made before needs = by_before (needs_number (op_out past) (phase s past)) refl
  where
    next : Phase
    next = next_phase s line.what (in_time line.tick past) (phase s past)

    at_boot : is_booting (phase s past) ≡ true → is_late (op_out past) ≡ false → (given : Option DiskOp) (answer : Bool) → disk_of line.outs ≡ given → is_answer line.what ≡ answer
        → needs_number (option_or given (if answer then None else op_out past)) next ≡ true → is_some (option_or (claim_of given) (claimed past)) ≡ true
    at_boot b early None true gave is n =
        never_both (needs_number None next) n
        (ap (λ p. needs_number None (next_phase s line.what (in_time line.tick past) p)) (booting_is (phase s past) b)
        ∙ early_answer s me past line.what (in_time line.tick past) is it.fitting early (subst (λ p. is_apt (op_out past) p ≡ true) (booting_is (phase s past) b) (apt made)))
    at_boot b early None false gave is n =
        never_both (needs_number (op_out past) next) n
        (ap (λ p. needs_number (op_out past) p) (booting_is next (boot_tick s me past line.what (in_time line.tick past) is it.fitting b)) ∙ early)
    at_boot b early (Some op) answer gave is n = by_reason (disk_reason it op gave)
      where
        either : (is_some (claim_of (Some op)) ≡ true) ⊎ (needs_number (Some op) (next_phase s line.what (in_time line.tick past) Booting) ≡ false)
            → is_some (option_or (claim_of (Some op)) (claimed past)) ≡ true
        either (inl claims) = by_claim (claim_of (Some op)) claims
          where
            by_claim : (c : Option ℕ) → is_some c ≡ true → is_some (option_or c (claimed past)) ≡ true
            by_claim (Some number) e = refl
            by_claim None e = absurd (false≢true e)
        either (inr none) = never_both (needs_number (Some op) next) n
            (ap (λ p. needs_number (Some op) (next_phase s line.what (in_time line.tick past) p)) (booting_is (phase s past) b) ∙ none)

        by_reason : Reason s me past line.what (before_outs line past) op → is_some (option_or (claim_of (Some op)) (claimed past)) ≡ true
        by_reason (inl boots) = either (early_step me past s line.what op _ (boot_step_of s me _ line.what op (in_time line.tick past) boots.goes_on boots.next) it.fitting early)
        by_reason (inr lives) = absurd (not_live_up (phase s past) b lives.live)

    no_need : ((is_booting (phase s past) ≡ true) × (is_late (op_out past) ≡ false)) ⊎ (phase s past ≡ Gone) → is_some (option_or (claim_of (disk_of line.outs)) (claimed past)) ≡ true
    no_need (inl boots) = at_boot boots.0 boots.1 (disk_of line.outs) (is_answer line.what) refl refl needs
    no_need (inr gone) =
        never_both (needs_number (option_or (disk_of line.outs) (if is_answer line.what then None else op_out past)) next) needs
        (ap (λ p. needs_number (option_or (disk_of line.outs) (if is_answer line.what then None else op_out past)) p)
        (gone_next s me past line.what (in_time line.tick past) it.fitting gone (subst (λ p. is_apt (op_out past) p ≡ true) gone (apt made))))

    by_before : (b : Bool) → needs_number (op_out past) (phase s past) ≡ b → is_some (option_or (claim_of (disk_of line.outs)) (claimed past)) ≡ true
    by_before true e = some_or (claim_of (disk_of line.outs)) (claimed past) (before e)
    by_before false e = no_need (needs_cases (op_out past) (phase s past) e)

pub numbered : (s : Settings) (me : ℕ) (log : List Line) → Made s me log → needs_number (op_out log) (phase s log) ≡ true → is_some (claimed log) ≡ true
unfolding op_out phase
numbered s me [] NoLine needs = absurd (false≢true needs)
numbered s me (line ∷ past) (OneMore it made) needs = numbered_step s me line past it made (λ n. numbered s me past made n) needs

up_needs : (out : Option DiskOp) (p : Phase) → is_booting p ≡ false → is_gone p ≡ false → needs_number out p ≡ true
up_needs out Up b g = refl
up_needs out Leaving b g = refl
up_needs out Dying b g = refl
up_needs out Booting b g = absurd (true≢false b)
up_needs out Gone b g = absurd (true≢false g)

-- past the boot nothing is claimed
pub claimed_same : {s : Settings} {me : ℕ} {line : Line} {past : List Line} → IsLine s me line past → is_booting (phase s (line ∷ past)) ≡ false → claimed (line ∷ past) ≡ claimed past
unfolding claimed
claimed_same {s = s} {me = me} {line = line} {past = past} it booted = by_given (disk_of line.outs) refl
  where
    by_given : (given : Option DiskOp) → disk_of line.outs ≡ given → option_or (claim_of given) (claimed past) ≡ claimed past
    by_given None e = refl
    by_given (Some disk.ReadHeader) e = refl
    by_given (Some (disk.ReadSlot rank)) e = refl
    by_given (Some disk.CheckMail) e = refl
    by_given (Some disk.WriteClear) e = refl
    by_given (Some disk.ReadMail) e = refl
    by_given (Some (disk.WriteReset rank)) e = refl
    by_given (Some (disk.WriteClose number)) e = refl
    by_given (Some (disk.WriteClaim number)) e = never_both (is_booting (phase s (line ∷ past))) ((claim_given it number e).booting) booted

-- a node that is up has a number
pub record HasNumber (log : List Line) : Type 0 where
  pub number : ℕ
  pub claims : claimed log ≡ Some number
  pub has : incarnation log ≡ Some number

booting_first : (s : Settings) → is_booting (phase s []) ≡ true
unfolding phase
booting_first s = refl

pub up_number : {s : Settings} {me : ℕ} {log : List Line} → Made s me log → is_booting (phase s log) ≡ false → is_gone (phase s log) ≡ false → HasNumber log
up_number {s = s} {me = me} NoLine booted living = never_both (is_booting (phase s [])) (booting_first s) booted
up_number {s = s} {me = me} (OneMore {line = line} {past = past} it made) booted living =
    let some = value_there (claimed (line ∷ past)) (numbered s me (line ∷ past) (OneMore it made) (up_needs (op_out (line ∷ past)) (phase s (line ∷ past)) booted living)) in
    record {
      number = some.0;
      claims = some.1;
      has = sym (claimed_same it booted) ∙ some.1;
    }

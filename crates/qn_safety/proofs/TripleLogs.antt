-- More of the log of one node: a boot claims one number, and from then on the claim or the clear is out until the node is up.
use Rattle.std.proofs.Common.{◌≡◌, ℕ, Bool, true, false, List, [], ◌∷◌, Some, None, Option, refl, sym, ap, ◌∙◌, subst, if◌then◌else◌, ◌||◌, ◌⊎◌, inl, inr}
use Rattle.std.specs.Option.{option_or}
use Rattle.std.proofs.lemmas.Bool.{false≢true, or_parts}
use Rattle.std.proofs.lemmas.Option.{same_Some}
use Rattle.qn_model.specs.declared.configuration.Settings.{Settings}
use Rattle.qn_model.specs.declared.entries.What.{What}
use Rattle.qn_model.specs.declared.entries.What.TheVariants as what
use Rattle.qn_model.specs.declared.life.Phase.{Phase}
use Rattle.qn_model.specs.declared.life.Phase.TheVariants.{Booting, Up, Leaving, Dying, Gone}
use Rattle.qn_model.specs.declared.outputs.DiskOp.{DiskOp}
use Rattle.qn_model.specs.declared.outputs.DiskOp.TheVariants as disk
use Rattle.qn_base.specs.declared.ids.Rank.{Rank}
use Rattle.qn_base.specs.lemmas.Options.{none_is_not_some}
use Rattle.qn_base.specs.lemmas.Bools.{never_both}
use Rattle.qn_model.specs.lemmas.Logs.{op_out-newest}
use Rattle.qn_model.specs.lemmas.Entries.{fitting_answers}
use Rattle.qn_model.specs.Log.{Line, op_out, begins_clean, claimed, claim_of, disk_of, is_answer, slot_number}
use Rattle.qn_model.specs.Phases.{phase, next_phase, in_time, is_booting, is_live, deadly_of, message_of}
use Rattle.qn_model.specs.Fitting.{answers_op, is_claimed, is_cleared}
use Rattle.qn_model.specs.NodeOutputs.{outs_at, taken_in, boot_outs, live_outs, mail_feeds}
use Rattle.qn_model.specs.Moments.{Itself, Later}
use Rattle.qn_safety.specs.Closing.{is_close, asked_close}
use Rattle.qn_safety.proofs.Logs.{Made, NoLine, OneMore, IsLine, ask_line, nothing_claimed}
use Rattle.qn_safety.proofs.Apt.{slot_answers, check_answers}
use Rattle.qn_safety.proofs.Kept.{booting_back}
use Rattle.qn_safety.proofs.Stays.{op_kept, is_over, closed_never, close_stays}
use Rattle.qn_safety.proofs.Numbers.{NumberFrom, BySlot, ByCheck, ClaimGiven}
use Rattle.qn_safety.proofs.Outs.{claimed_cases}

-- an entry that answers nothing claims nothing
pub plain_claimed : {s : Settings} {me : ℕ} {line : Line} {past : List Line} → IsLine s me line past → is_answer line.what ≡ false → claimed (line ∷ past) ≡ claimed past
plain_claimed {s = s} {line = line} {past = past} it plain = by_cases (claimed_cases it)
  where
    by_cases : (claimed (line ∷ past) ≡ claimed past) ⊎ ((number : ℕ) × (claimed (line ∷ past) ≡ Some number) × ClaimGiven s line past number) → claimed (line ∷ past) ≡ claimed past
    by_cases (inl same) = same
    by_cases (inr claim) = never_both (is_answer line.what) claim.2.answers plain

-- a close that is out was asked for
pub close_asked : (log : List Line) (number : ℕ) → op_out log ≡ Some (disk.WriteClose number) → asked_close log ≡ true
close_asked log number out =
    let asked = ask_line (disk.WriteClose number) log out in
    close_stays asked.back (asked_here asked.line asked.past asked.gave)
  where
    asked_here : (line : Line) (past : List Line) → disk_of line.outs ≡ Some (disk.WriteClose number) → asked_close (line ∷ past) ≡ true
    asked_here line past gave = unfold asked_close in (ap (λ o. is_close o || asked_close past) gave)

-- a node that asked for its close does not boot
pub closing_booted : {s : Settings} {me : ℕ} {log : List Line} → Made s me log → asked_close log ≡ true → is_booting (phase s log) ≡ false
closing_booted {s = s} {log = log} made asked = by_phase (phase s log) ((closed_never made asked).over)
  where
    by_phase : (p : Phase) → is_over p ≡ true → is_booting p ≡ false
    by_phase Leaving e = refl
    by_phase Dying e = refl
    by_phase Gone e = refl
    by_phase Booting e = absurd (false≢true e)
    by_phase Up e = refl

pub open_before : (line : Line) (past : List Line) → asked_close (line ∷ past) ≡ false → asked_close past ≡ false
unfolding asked_close
open_before line past e = (or_parts (is_close (disk_of line.outs)) (asked_close past) e).1

pub asked_on : (line : Line) (past : List Line) → asked_close past ≡ true → asked_close (line ∷ past) ≡ true
asked_on line past e = close_stays (Later line Itself) e

-- what an answer leaves out was given with it
pub given_out : (line : Line) (past : List Line) (op : DiskOp) → is_answer line.what ≡ true → op_out (line ∷ past) ≡ Some op → disk_of line.outs ≡ Some op
unfolding op_out
given_out line past op is out = by_given (disk_of line.outs) (is_answer line.what) refl is out
  where
    by_given : (given : Option DiskOp) (answer : Bool) → disk_of line.outs ≡ given → answer ≡ true → option_or given (if answer then None else op_out past) ≡ Some op → disk_of line.outs ≡ Some op
    by_given (Some other) answer gave is' same = gave ∙ same
    by_given None true gave is' none = none_is_not_some op none
    by_given None false gave is' was = absurd (false≢true is')

-- the claim is out, or the clear behind it
pub data LateOut (log : List Line) : Type 0 where
  ClaimOut : (number : ℕ) → op_out log ≡ Some (disk.WriteClaim number) → LateOut log
  ClearOut : op_out log ≡ Some disk.WriteClear → LateOut log

claimed_is : (entry : What) → is_claimed entry ≡ true → (ok : Bool) × (entry ≡ what.Claimed ok)
claimed_is (what.Claimed ok) e = (ok, refl)
claimed_is entry e = absurd (false≢true e)

pub cleared_is : (entry : What) → is_cleared entry ≡ true → (ok : Bool) × (entry ≡ what.Cleared ok)
cleared_is (what.Cleared ok) e = (ok, refl)
cleared_is entry e = absurd (false≢true e)

-- the answer of a claim asks for the clear
clear_comes : {s : Settings} {me : ℕ} {line : Line} {past : List Line} → IsLine s me line past → is_booting (phase s past) ≡ true → line.what ≡ what.Claimed true
    → disk_of line.outs ≡ Some disk.WriteClear
unfolding outs_at
clear_comes {s = s} {me = me} {line = line} {past = past} it booting reads =
    ap disk_of (it.gave ∙ ap (λ entry. outs_at s me past line.tick entry (taken_in past line.tick entry)) reads) ∙ by_phase (is_booting (phase s past)) booting
  where
    by_phase : (b : Bool) → b ≡ true → disk_of (if b then boot_outs s me (begins_clean (taken_in past line.tick (what.Claimed true))) (slot_number (taken_in past line.tick (what.Claimed true))) (what.Claimed true)
        else (if is_live (phase s past) then live_outs s me (taken_in past line.tick (what.Claimed true)) (what.Claimed true) (mail_feeds line.tick past (what.Claimed true)) (deadly_of (message_of (what.Claimed true))) else []))
        ≡ Some disk.WriteClear
    by_phase true e = refl
    by_phase false e = absurd (false≢true e)

pub phase_of : (s : Settings) (line : Line) (past : List Line) (entry : What) → line.what ≡ entry → phase s (line ∷ past) ≡ next_phase s entry (in_time line.tick past) (phase s past)
unfolding phase
phase_of s line past entry reads = ap (λ e. next_phase s e (in_time line.tick past) (phase s past)) reads

module _ {s : Settings} {me : ℕ} {line : Line} {past : List Line} (it : IsLine s me line past) (booting : is_booting (phase s (line ∷ past)) ≡ true) where
  claim_answered : (ok : Bool) → line.what ≡ what.Claimed ok → LateOut (line ∷ past)
  claim_answered true reads = ClearOut (op_out-newest line past disk.WriteClear (clear_comes it (booting_back it booting) reads))
  claim_answered false reads = never_both (is_booting (phase s (line ∷ past))) booting (ap is_booting (phase_of s line past (what.Claimed false) reads))

  clear_answered : (ok : Bool) → line.what ≡ what.Cleared ok → LateOut (line ∷ past)
  clear_answered true reads = never_both (is_booting (phase s (line ∷ past))) booting (ap is_booting (phase_of s line past (what.Cleared true) reads))
  clear_answered false reads = never_both (is_booting (phase s (line ∷ past))) booting (ap is_booting (phase_of s line past (what.Cleared false) reads))

  late_step : LateOut past → LateOut (line ∷ past)
  late_step was = by_answer (is_answer line.what) refl was
    where
      by_answer : (b : Bool) → is_answer line.what ≡ b → LateOut past → LateOut (line ∷ past)
      by_answer false plain (ClaimOut number out) = ClaimOut number (op_kept it (disk.WriteClaim number) out plain)
      by_answer false plain (ClearOut out) = ClearOut (op_kept it disk.WriteClear out plain)
      by_answer true is (ClaimOut number out) =
          let reads = claimed_is line.what (subst (λ o. answers_op o line.what ≡ true) out (fitting_answers s me past line.what is it.fitting)) in claim_answered reads.0 reads.1
      by_answer true is (ClearOut out) =
          let reads = cleared_is line.what (subst (λ o. answers_op o line.what ≡ true) out (fitting_answers s me past line.what is it.fitting)) in clear_answered reads.0 reads.1

claimed_here : (line : Line) (past : List Line) (number : ℕ) (op : DiskOp) → disk_of line.outs ≡ Some op → claimed (line ∷ past) ≡ Some number → LateOut (line ∷ past) ⊎ (claimed past ≡ Some number)
unfolding claimed
claimed_here line past number (disk.WriteClaim n) gave claims = inl (ClaimOut n (op_out-newest line past (disk.WriteClaim n) gave))
claimed_here line past number disk.ReadHeader gave claims = inr (ap (λ o. option_or (claim_of o) (claimed past)) (sym gave) ∙ claims)
claimed_here line past number (disk.ReadSlot rank) gave claims = inr (ap (λ o. option_or (claim_of o) (claimed past)) (sym gave) ∙ claims)
claimed_here line past number disk.CheckMail gave claims = inr (ap (λ o. option_or (claim_of o) (claimed past)) (sym gave) ∙ claims)
claimed_here line past number disk.WriteClear gave claims = inr (ap (λ o. option_or (claim_of o) (claimed past)) (sym gave) ∙ claims)
claimed_here line past number disk.ReadMail gave claims = inr (ap (λ o. option_or (claim_of o) (claimed past)) (sym gave) ∙ claims)
claimed_here line past number (disk.WriteReset rank) gave claims = inr (ap (λ o. option_or (claim_of o) (claimed past)) (sym gave) ∙ claims)
claimed_here line past number (disk.WriteClose n) gave claims = inr (ap (λ o. option_or (claim_of o) (claimed past)) (sym gave) ∙ claims)

claimed_line : (line : Line) (past : List Line) (number : ℕ) → claimed (line ∷ past) ≡ Some number → LateOut (line ∷ past) ⊎ (claimed past ≡ Some number)
claimed_line line past number claims = by_given (disk_of line.outs) refl
  where
    no_disk : disk_of line.outs ≡ None → claimed past ≡ Some number
    no_disk none = unfold claimed in (ap (λ o. option_or (claim_of o) (claimed past)) (sym none) ∙ claims)

    by_given : (given : Option DiskOp) → disk_of line.outs ≡ given → LateOut (line ∷ past) ⊎ (claimed past ≡ Some number)
    by_given None none = inr (no_disk none)
    by_given (Some op) gave = claimed_here line past number op gave claims

-- while a node boots that has claimed a number, the claim or the clear is out
pub claim_late : {s : Settings} {me : ℕ} {log : List Line} → Made s me log → is_booting (phase s log) ≡ true → (number : ℕ) → claimed log ≡ Some number → LateOut log
claim_late NoLine booting number claims = none_is_not_some number (sym nothing_claimed ∙ claims)
claim_late {s = s} (OneMore {line = line} {past = past} it made) booting number claims =
    by_line (claimed_line line past number claims) (λ was. claim_late made (booting_back it booting) number was)
  where
    by_line : LateOut (line ∷ past) ⊎ (claimed past ≡ Some number) → (claimed past ≡ Some number → LateOut past) → LateOut (line ∷ past)
    by_line (inl late) rest = late
    by_line (inr was) rest = late_step it booting (rest was)

-- where a claim is given, none was given before in the boot
pub claim_first : {s : Settings} {me : ℕ} {line : Line} {past : List Line} → IsLine s me line past → Made s me past → (number : ℕ) → ClaimGiven s line past number → claimed past ≡ None
claim_first {s = s} {me = me} {line = line} {past = past} it made number claim = by_claimed (claimed past) refl
  where
    answers : answers_op (op_out past) line.what ≡ true
    answers = fitting_answers s me past line.what claim.answers it.fitting

    early : (op_out past ≡ Some disk.CheckMail) ⊎ ((rank : Rank) × (op_out past ≡ Some (disk.ReadSlot rank)))
    early = by_from claim.from
      where
        by_from : NumberFrom line.what (slot_number past) number
            → (op_out past ≡ Some disk.CheckMail) ⊎ ((rank : Rank) × (op_out past ≡ Some (disk.ReadSlot rank)))
        by_from (BySlot rank own reads next) =
            let op = slot_answers (op_out past) rank _ (subst (λ e. answers_op (op_out past) e ≡ true) reads answers) in inr (op.0, op.1)
        by_from (ByCheck seen reads next) = inl (check_answers (op_out past) seen (subst (λ e. answers_op (op_out past) e ≡ true) reads answers))

    no_late : LateOut past → (op_out past ≡ Some disk.CheckMail) ⊎ ((rank : Rank) × (op_out past ≡ Some (disk.ReadSlot rank))) → ⊥
    no_late (ClaimOut n out) (inl check) = let q = same_Some _ _ (sym out ∙ check) in cc
    no_late (ClaimOut n out) (inr read) = let q = same_Some _ _ (sym out ∙ read.1) in cc
    no_late (ClearOut out) (inl check) = let q = same_Some _ _ (sym out ∙ check) in cc
    no_late (ClearOut out) (inr read) = let q = same_Some _ _ (sym out ∙ read.1) in cc

    by_claimed : (c : Option ℕ) → claimed past ≡ c → claimed past ≡ None
    by_claimed None e = e
    by_claimed (Some n) e = absurd (no_late (claim_late made (booting_back it claim.booting) n e) early)

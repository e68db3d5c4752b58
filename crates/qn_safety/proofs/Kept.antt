-- What is always true of the slot of a node, of its operation that is out and of its leftovers.
use Rattle.std.proofs.Common.{◌≡◌, ℕ, suc, Bool, true, false, List, [], ◌∷◌, Some, None, Option, refl, sym, ap, ◌∙◌, subst, arith, ◌&&◌, ◌⊎◌, inl, inr, is_some, unwrap_or}
use Rattle.std.specs.Option.{option_or}
use Rattle.std.proofs.lemmas.Bool.{false≢true, true≢false, eq-eqb}
use Rattle.std.proofs.lemmas.Option.{same_Some}
use Rattle.qn_base.specs.declared.ids.Rank.{Rank}
use Rattle.qn_base.specs.lemmas.Options.{none_is_not_some, some_is_not_none}
use Rattle.qn_base.specs.lemmas.Bools.{never_both}
use Rattle.qn_model.specs.declared.configuration.Settings.{Settings}
use Rattle.qn_model.specs.declared.times.Timing.{Timing}
use Rattle.qn_model.specs.declared.disk.Slot.{Slot}
use Rattle.qn_model.specs.declared.seen.MailSeen.{MailSeen}
use Rattle.qn_model.specs.declared.seen.SlotSeen.TheVariants as slot
use Rattle.qn_model.specs.declared.entries.What.{What}
use Rattle.qn_model.specs.declared.entries.What.TheVariants as what
use Rattle.qn_model.specs.declared.life.Phase.{Phase}
use Rattle.qn_model.specs.declared.life.Phase.TheVariants.{Booting, Up, Leaving, Dying, Gone}
use Rattle.qn_model.specs.declared.outputs.DiskOp.{DiskOp}
use Rattle.qn_model.specs.declared.outputs.DiskOp.TheVariants as disk
use Rattle.qn_model.specs.lemmas.Entries.{fitting_answers, plain_number}
use Rattle.qn_model.specs.Log.{Line, op_out, claimed, claim_of, disk_of, is_answer, number_read, slot_number}
use Rattle.qn_model.specs.Phases.{phase, in_time, is_booting}
use Rattle.qn_model.specs.Hearing.{told}
use Rattle.qn_model.specs.Fitting.{answers_op}
use Rattle.qn_model.specs.Moments.{is_gone, booted}
use Rattle.qn_safety.specs.Closing.{is_close}
use Rattle.qn_model.specs.World.{World, taken}
use Rattle.qn_safety.proofs.Logs.{Made, IsLine}
use Rattle.qn_safety.proofs.Apt.{is_apt, apt, check_answers, claimed_answers}
use Rattle.qn_safety.proofs.Stays.{boot_past, op_kept, gives_none}
use Rattle.qn_safety.proofs.Times.{boot_tick}
use Rattle.qn_safety.proofs.Numbers.{NumberFrom, BySlot, ByCheck, ClaimGiven, claim_given, claimed_same, number_kept}
use Rattle.qn_safety.proofs.Outs.{out_cases, out_claims, out_closes, own_slot_out, clear_given, check_given, claimed_by_clear, no_close_out, comes_up}
use Rattle.qn_safety.proofs.Seats.{slot_after}

-- the slot of a node that runs
pub record Kept (s : Settings) (log : List Line) (took : Option What) (mine : Slot) : Type 0 where
  -- while it is up and its close has not landed, its slot is dirty
  pub dirty : is_booting (phase s log) ≡ false → (is_close (op_out log) && is_some took) ≡ false → mine.clean ≡ false
  -- while it is up, its slot has its number
  pub numbered : is_booting (phase s log) ≡ false → claimed log ≡ Some mine.incarnation
  -- the read of the own slot in the boot gave what the slot still has
  pub reading : (rank : Rank) (own : Slot) → is_booting (phase s log) ≡ true → took ≡ Some (what.SlotRead rank (slot.Read own)) → own.incarnation ≡ mine.incarnation
  -- while a clean start checks its mailbox, the slot has the number that was read
  pub checking : op_out log ≡ Some disk.CheckMail → slot_number log ≡ mine.incarnation
  -- a claim is one more than the slot has until it lands, and then it is what the slot has
  pub claim_waits : (number : ℕ) → op_out log ≡ Some (disk.WriteClaim number) → took ≡ None → suc mine.incarnation ≡ number
  pub claim_landed : (number : ℕ) (v : What) → op_out log ≡ Some (disk.WriteClaim number) → took ≡ Some v → (mine.clean ≡ false) × (mine.incarnation ≡ number)
  -- while the clear is out, the slot has the claim
  pub clearing : op_out log ≡ Some disk.WriteClear → (mine.clean ≡ false) × (claimed log ≡ Some mine.incarnation)

pub first_kept : (s : Settings) (mine : Slot) → Kept s [] None mine
unfolding phase op_out
first_kept s mine = record {
  dirty = λ booted open'. absurd (true≢false booted);
  numbered = λ booted. absurd (true≢false booted);
  reading = λ rank own booting e. none_is_not_some _ e;
  checking = λ e. none_is_not_some _ e;
  claim_waits = λ number e none. none_is_not_some _ e;
  claim_landed = λ number v e some. none_is_not_some _ e;
  clearing = λ e. none_is_not_some _ e;
}

-- after an entry that answers nothing a node is up only where it was
pub booted_back : {s : Settings} {me : ℕ} {line : Line} {past : List Line} → IsLine s me line past → is_answer line.what ≡ false → is_booting (phase s (line ∷ past)) ≡ false
    → is_booting (phase s past) ≡ false
unfolding phase
booted_back {s = s} {me = me} {line = line} {past = past} it plain booted = by_phase (is_booting (phase s past)) refl
  where
    by_phase : (b : Bool) → is_booting (phase s past) ≡ b → is_booting (phase s past) ≡ false
    by_phase false e = e
    by_phase true e = never_both (is_booting (phase s (line ∷ past))) (boot_tick s me past line.what (in_time line.tick past) plain it.fitting e) booted

pub booting_back : {s : Settings} {me : ℕ} {line : Line} {past : List Line} → IsLine s me line past → is_booting (phase s (line ∷ past)) ≡ true → is_booting (phase s past) ≡ true
booting_back {s = s} {line = line} {past = past} it booting = by_phase (is_booting (phase s past)) refl
  where
    by_phase : (b : Bool) → is_booting (phase s past) ≡ b → is_booting (phase s past) ≡ true
    by_phase true e = e
    by_phase false e = never_both (is_booting (phase s (line ∷ past))) booting (boot_past it e)

-- the operation out after an entry that answers nothing, where an answer waits
pub some_op : (op : Option DiskOp) (v : What) → answers_op op v ≡ true → (o : DiskOp) × (op ≡ Some o)
some_op (Some o) v e = (o, refl)
some_op None v e = absurd (false≢true e)

same_claim : (line : Line) (past : List Line) → disk_of line.outs ≡ None → claimed (line ∷ past) ≡ claimed past
unfolding claimed
same_claim line past none = ap (λ o. option_or (claim_of o) (claimed past)) none

pub number_of_read : (line : Line) (past : List Line) (rank : Rank) (own : Slot) → line.what ≡ what.SlotRead rank (slot.Read own) → slot_number (line ∷ past) ≡ own.incarnation
unfolding slot_number
number_of_read line past rank own reads = ap (λ entry. unwrap_or (number_read entry) (slot_number past)) reads

module _ {s : Settings} {me : ℕ} {line : Line} {past : List Line} (it : IsLine s me line past) (made : Made s me past) (took : Option What) (mine : Slot) (was : Kept s past took mine) where
  -- a claim that an answer gives is one more than the slot has
  pub claim_next : ((rank : Rank) (own : Slot) → is_booting (phase s past) ≡ true → line.what ≡ what.SlotRead rank (slot.Read own) → own.incarnation ≡ mine.incarnation)
      → (number : ℕ) → ClaimGiven s line past number → suc mine.incarnation ≡ number
  claim_next told number claim = by_source claim.from
    where
      check_out : (seen : MailSeen) → line.what ≡ what.MailChecked seen → op_out past ≡ Some disk.CheckMail
      check_out seen reads =
          check_answers (op_out past) seen (subst (λ entry. answers_op (op_out past) entry ≡ true) reads (fitting_answers s me past line.what claim.answers it.fitting))

      by_source : NumberFrom line.what (slot_number past) number → suc mine.incarnation ≡ number
      by_source (BySlot rank own reads next) = let same = told rank own (booting_back it claim.booting) reads in omega arith
      by_source (ByCheck seen reads next) = let same = was.checking (check_out seen reads) in omega arith

  -- an entry that answers nothing
  pub kept_enter : is_answer line.what ≡ false → ((v : What) → took ≡ Some v → answers_op (op_out past) v ≡ true) → Kept s (line ∷ past) took mine
  kept_enter plain waits = record {
    dirty = λ booted open'. was.dirty (booted_back it plain booted) (open_before took refl open');
    numbered = λ booted. claimed_same it booted ∙ was.numbered (booted_back it plain booted);
    reading = λ rank own booting e. was.reading rank own (booting_back it booting) e;
    checking = λ e. number_kept line past (plain_number line.what plain) ∙ was.checking (op_before disk.CheckMail e no_check);
    claim_waits = λ number e none. was.claim_waits number (op_before (disk.WriteClaim number) e (no_claim number)) none;
    claim_landed = λ number v e some. was.claim_landed number v (op_before (disk.WriteClaim number) e (no_claim number)) some;
    clearing = λ e.
        let out = op_before disk.WriteClear e no_clear in
        let clear = was.clearing out in
        (clear.0, same_claim line past (gives_none it disk.WriteClear out plain) ∙ clear.1);
  }
    where
      no_claim : (number : ℕ) → disk_of line.outs ≡ Some (disk.WriteClaim number) → ⊥
      no_claim number gave = true≢false (sym ((claim_given it number gave).answers) ∙ plain)

      no_check : disk_of line.outs ≡ Some disk.CheckMail → ⊥
      no_check gave = true≢false (sym (ap is_answer ((check_given it gave).reads)) ∙ plain)

      no_clear : disk_of line.outs ≡ Some disk.WriteClear → ⊥
      no_clear gave = true≢false (sym (ap is_answer (clear_given it gave)) ∙ plain)

      op_before : (op : DiskOp) → op_out (line ∷ past) ≡ Some op → (disk_of line.outs ≡ Some op → ⊥) → op_out past ≡ Some op
      op_before op e new = by_cases (out_cases line past op e)
        where
          by_cases : (disk_of line.outs ≡ Some op) ⊎ ((disk_of line.outs ≡ None) × (is_answer line.what ≡ false) × (op_out past ≡ Some op)) → op_out past ≡ Some op
          by_cases (inl gave) = absurd (new gave)
          by_cases (inr kept) = kept.2

      open_before : (k : Option What) → took ≡ k → (is_close (op_out (line ∷ past)) && is_some took) ≡ false → (is_close (op_out past) && is_some took) ≡ false
      open_before None e open' = ap (λ k. is_close (op_out past) && is_some k) e ∙ and_false (is_close (op_out past))
        where
          and_false : (b : Bool) → (b && false) ≡ false
          and_false true = refl
          and_false false = refl
      open_before (Some v) e open' =
          let out = some_op (op_out past) v (waits v e) in
          ap (λ o. is_close o && is_some took) (out.1 ∙ sym (op_kept it out.0 out.1 plain)) ∙ open'

  -- an entry that answers the operation that is out, by what it took or by a failure
  pub kept_reply : is_answer line.what ≡ true → is_gone (phase s (line ∷ past)) ≡ false
      → ((rank : Rank) (own : Slot) → is_booting (phase s past) ≡ true → line.what ≡ what.SlotRead rank (slot.Read own) → own.incarnation ≡ mine.incarnation)
      → ((number : ℕ) → op_out past ≡ Some (disk.WriteClaim number) → line.what ≡ what.Claimed true → (mine.clean ≡ false) × (mine.incarnation ≡ number))
      → Kept s (line ∷ past) None mine
  kept_reply is living told done = record {
    dirty = λ booted open'. (up_now booted).0;
    numbered = λ booted. claimed_same it booted ∙ (up_now booted).1;
    reading = λ rank own booting e. none_is_not_some _ e;
    checking = λ e. after_read (given disk.CheckMail e);
    claim_waits = λ number e none. claim_next told number (claim_given it number (given (disk.WriteClaim number) e));
    claim_landed = λ number v e some. none_is_not_some v some;
    clearing = λ e. after_claim (given disk.WriteClear e);
  }
    where
      answers : answers_op (op_out past) line.what ≡ true
      answers = fitting_answers s me past line.what is it.fitting

      given : (op : DiskOp) → op_out (line ∷ past) ≡ Some op → disk_of line.outs ≡ Some op
      given op e = by_cases (out_cases line past op e)
        where
          by_cases : (disk_of line.outs ≡ Some op) ⊎ ((disk_of line.outs ≡ None) × (is_answer line.what ≡ false) × (op_out past ≡ Some op)) → disk_of line.outs ≡ Some op
          by_cases (inl gave) = gave
          by_cases (inr kept) = never_both (is_answer line.what) is kept.1

      up_now : is_booting (phase s (line ∷ past)) ≡ false → (mine.clean ≡ false) × (claimed past ≡ Some mine.incarnation)
      up_now booted = by_phase (is_booting (phase s past)) refl
        where
          by_phase : (b : Bool) → is_booting (phase s past) ≡ b → (mine.clean ≡ false) × (claimed past ≡ Some mine.incarnation)
          by_phase true e = was.clearing (comes_up it made is e booted living)
          by_phase false e = (was.dirty e (ap (λ b. b && is_some took) (no_close_out s line past answers living)), was.numbered e)

      after_read : disk_of line.outs ≡ Some disk.CheckMail → slot_number (line ∷ past) ≡ mine.incarnation
      after_read gave =
          let check = check_given it gave in
          number_of_read line past check.rank check.own check.reads ∙ told check.rank check.own check.booting check.reads

      after_claim : disk_of line.outs ≡ Some disk.WriteClear → (mine.clean ≡ false) × (claimed (line ∷ past) ≡ Some mine.incarnation)
      after_claim gave =
          let claimed_it = clear_given it gave in
          let out = claimed_answers (op_out past) true (subst (λ w. answers_op (op_out past) w ≡ true) claimed_it answers) in
          let landed' = done out.0 out.1 claimed_it in
          (landed'.0, claimed_by_clear line past gave ∙ out_claims made out.0 out.1 ∙ ap Some (sym landed'.1))

-- the answer that an operation takes at its landing answers it
pub taken_answers : (s : Settings) (t : Timing) (rank : ℕ) (op : DiskOp) (w : World) → answers_op (Some op) (taken s t rank op w) ≡ true
unfolding taken
taken_answers s t rank disk.ReadHeader w = refl
taken_answers s t rank (disk.ReadSlot other) w = eq-eqb other.0 other.0 refl
taken_answers s t rank disk.CheckMail w = refl
taken_answers s t rank (disk.WriteClaim number) w = refl
taken_answers s t rank disk.WriteClear w = refl
taken_answers s t rank disk.ReadMail w = refl
taken_answers s t rank (disk.WriteReset other) w = eq-eqb other.0 other.0 refl
taken_answers s t rank (disk.WriteClose number) w = refl

-- a write of a boot is out only while the node boots
pub booting_op : {s : Settings} {me : ℕ} {log : List Line} → Made s me log → (op : DiskOp) → op_out log ≡ Some op → is_apt (Some op) Up ≡ false → is_apt (Some op) Leaving ≡ false → is_booting (phase s log) ≡ true
booting_op {s = s} {log = log} made op out not_up not_leaving = by_phase (phase s log) (subst (λ o. is_apt o (phase s log) ≡ true) out (apt made))
  where
    by_phase : (p : Phase) → is_apt (Some op) p ≡ true → is_booting p ≡ true
    by_phase Booting e = refl
    by_phase Up e = never_both (is_apt (Some op) Up) e not_up
    by_phase Leaving e = never_both (is_apt (Some op) Leaving) e not_leaving
    by_phase Dying e = absurd (false≢true e)
    by_phase Gone e = absurd (false≢true e)

pub booted_op : {s : Settings} {me : ℕ} {log : List Line} → Made s me log → (op : DiskOp) → op_out log ≡ Some op → is_apt (Some op) Booting ≡ false → is_booting (phase s log) ≡ false
booted_op {s = s} {log = log} made op out not_booting = by_phase (phase s log) (subst (λ o. is_apt o (phase s log) ≡ true) out (apt made))
  where
    by_phase : (p : Phase) → is_apt (Some op) p ≡ true → is_booting p ≡ false
    by_phase Booting e = never_both (is_apt (Some op) Booting) e not_booting
    by_phase Up e = refl
    by_phase Leaving e = refl
    by_phase Dying e = refl
    by_phase Gone e = refl

module _ {s : Settings} {me : ℕ} {log : List Line} (made : Made s me log) (mine : Slot) (was : Kept s log None mine) where
  -- an operation lands that leaves the slot
  land_plain : (op : DiskOp) (v : What) → op_out log ≡ Some op → is_close (Some op) ≡ false → ((number : ℕ) → op ≡ disk.WriteClaim number → ⊥)
      → ((rank : Rank) (own : Slot) → is_booting (phase s log) ≡ true → v ≡ what.SlotRead rank (slot.Read own) → own.incarnation ≡ mine.incarnation)
      → Kept s log (Some v) mine
  land_plain op v out no_close no_claim told = record {
    dirty = λ booted open'. was.dirty booted (ap (λ o. is_close o && false) out ∙ ap (λ b. b && false) no_close);
    numbered = was.numbered;
    reading = λ rank own booting e. told rank own booting (same_Some _ _ e);
    checking = was.checking;
    claim_waits = λ number e none. some_is_not_none v none;
    claim_landed = λ number u e some. absurd (no_claim number (same_Some _ _ (sym out ∙ e)));
    clearing = was.clearing;
  }

  pub kept_land : (t : Timing) (op : DiskOp) (w : World) → op_out log ≡ Some op → w.slots me ≡ mine → Kept s log (Some (taken s t me op w)) (slot_after op mine)
  unfolding taken
  kept_land t disk.ReadHeader w out own_slot = land_plain disk.ReadHeader _ out refl (λ number e. cc) (λ rank own booting e. absurd (cc))
  kept_land t (disk.ReadSlot other) w out own_slot = land_plain (disk.ReadSlot other) _ out refl (λ number e. cc) (λ rank own booting e. own_read_value rank own booting e)
    where
      own_read_value : (rank : Rank) (own : Slot) → is_booting (phase s log) ≡ true → what.SlotRead other (slot.Read (w.slots other.0)) ≡ what.SlotRead rank (slot.Read own)
          → own.incarnation ≡ mine.incarnation
      own_read_value rank own booting e =
          let value : own ≡ w.slots other.0 = cc in
          ap (λ x. x.incarnation) (value ∙ ap w.slots (sym (own_slot_out made other out booting)) ∙ own_slot)
  kept_land t disk.CheckMail w out own_slot = land_plain disk.CheckMail _ out refl (λ number e. cc) (λ rank own booting e. absurd (cc))
  kept_land t disk.ReadMail w out own_slot = land_plain disk.ReadMail _ out refl (λ number e. cc) (λ rank own booting e. absurd (cc))
  kept_land t disk.WriteClear w out own_slot = land_plain disk.WriteClear _ out refl (λ number e. cc) (λ rank own booting e. absurd (cc))
  kept_land t (disk.WriteReset other) w out own_slot = land_plain (disk.WriteReset other) _ out refl (λ number e. cc) (λ rank own booting e. absurd (cc))
  kept_land t (disk.WriteClaim number) w out own_slot = record {
    dirty = λ booted open'. never_both (is_booting (phase s log)) (booting_op made (disk.WriteClaim number) out refl refl) booted;
    numbered = λ booted. never_both (is_booting (phase s log)) (booting_op made (disk.WriteClaim number) out refl refl) booted;
    reading = λ rank own booting e. claimed_read rank own (same_Some _ _ e);
    checking = λ e. absurd (claim_check (same_Some _ _ (sym out ∙ e)));
    claim_waits = λ n e none. some_is_not_none _ none;
    claim_landed = λ n v e some. (refl, same_number n (same_Some _ _ (sym out ∙ e)));
    clearing = λ e. absurd (claim_clear (same_Some _ _ (sym out ∙ e)));
  }
    where
      claimed_read : (rank : Rank) (own : Slot) → what.Claimed true ≡ what.SlotRead rank (slot.Read own) → own.incarnation ≡ number
      claimed_read rank own e = absurd (cc)

      same_number : (n : ℕ) → disk.WriteClaim number ≡ disk.WriteClaim n → number ≡ n
      same_number n e = cc

      claim_check : disk.WriteClaim number ≡ disk.CheckMail → ⊥
      claim_check e = cc

      claim_clear : disk.WriteClaim number ≡ disk.WriteClear → ⊥
      claim_clear e = cc
  kept_land t (disk.WriteClose number) w out own_slot = record {
    dirty = λ booted open'. absurd (true≢false (sym (ap (λ o. is_close o && true) out) ∙ open'));
    numbered = λ booted. out_closes made number out;
    reading = λ rank own booting e. never_both (is_booting (phase s log)) booting (booted_op made (disk.WriteClose number) out refl);
    checking = λ e. absurd (close_check (same_Some _ _ (sym out ∙ e)));
    claim_waits = λ n e none. absurd (close_claim n (same_Some _ _ (sym out ∙ e)));
    claim_landed = λ n v e some. absurd (close_claim n (same_Some _ _ (sym out ∙ e)));
    clearing = λ e. absurd (close_clear (same_Some _ _ (sym out ∙ e)));
  }
    where
      close_claim : (n : ℕ) → disk.WriteClose number ≡ disk.WriteClaim n → ⊥
      close_claim n e = cc

      close_check : disk.WriteClose number ≡ disk.CheckMail → ⊥
      close_check e = cc

      close_clear : disk.WriteClose number ≡ disk.WriteClear → ⊥
      close_clear e = cc

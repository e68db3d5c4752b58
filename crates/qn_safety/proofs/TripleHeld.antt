-- What stays true of a node on three images at each event, and how the number of its last incarnation rises.
use Rattle.std.proofs.Common.{◌≡◌, ℕ, ◌<◌, ◌≤◌, Bool, true, false, List, [], ◌∷◌, ◌++◌, Some, None, Option, refl, sym, ap, ◌∙◌, subst, arith, ◌⊎◌, inl, inr}
use Rattle.std.proofs.lemmas.Bool.{false≢true, true≢false, not-true}
use Rattle.std.proofs.lemmas.Option.{same_Some}
use Rattle.qn_base.specs.declared.ids.Rank.{Rank}
use Rattle.qn_base.specs.lemmas.Options.{none_is_not_some}
use Rattle.qn_base.specs.lemmas.Bools.{never_both}
use Rattle.qn_base.specs.lemmas.Elements.{IsIn, none_in}
use Rattle.qn_model.specs.declared.configuration.Settings.{Settings}
use Rattle.qn_model.specs.declared.times.Timing.{Timing}
use Rattle.qn_model.specs.declared.disk.Slot.{Slot}
use Rattle.qn_model.specs.declared.seen.SlotSeen.TheVariants as slot
use Rattle.qn_model.specs.declared.seen.MailSeen.{MailSeen}
use Rattle.qn_model.specs.declared.entries.What.{What}
use Rattle.qn_model.specs.declared.entries.What.TheVariants as what
use Rattle.qn_model.specs.declared.outputs.DiskOp.{DiskOp}
use Rattle.qn_model.specs.declared.outputs.DiskOp.TheVariants as disk
use Rattle.qn_model.specs.lemmas.Moments.{put_same}
use Rattle.qn_model.specs.lemmas.Entries.{begin_answers_none, read_answers_none}
use Rattle.qn_model.specs.Log.{Line, op_out, claimed, disk_of, is_answer, slot_number}
use Rattle.qn_model.specs.Phases.{phase, is_booting}
use Rattle.qn_model.specs.Fitting.{answers_op}
use Rattle.qn_model.specs.Moments.{begin_of, is_gone, node}
use Rattle.qn_model.specs.World.{World, put, taken, numbered, without}
use Rattle.qn_safety.specs.declared.part.Part.TheVariants.{Pending, Landed}
use Rattle.qn_safety.specs.Answers.{answer_answers}
use Rattle.qn_safety.specs.TripleWorld.{TripleWorld, all_pending, first_triple, image_of, leaves_over, has_landed, counting, answer_of, good_after}
use Rattle.qn_safety.proofs.Logs.{Made, NoLine, IsLine, made_line}
use Rattle.qn_safety.proofs.Apt.{claimed_answers, check_answers}
use Rattle.qn_safety.proofs.Numbers.{NumberFrom, BySlot, ByCheck, ClaimGiven, claim_given, claimed_same}
use Rattle.qn_safety.proofs.Outs.{answer_fits, claimed_cases, out_claims, own_slot_out, clear_given, check_given, claimed_by_clear, comes_up}
use Rattle.qn_safety.proofs.Origins.{line_of, line_what}
use Rattle.qn_safety.proofs.Kept.{booting_op, booted_back, booting_back, number_of_read}
use Rattle.qn_safety.proofs.TripleSets.{TwoOf, OneTwo, meet, map_two, put_case, numbered_in, without_in, in_either}
use Rattle.qn_safety.proofs.TripleAnswers.{CountsAt, SlotTold, slot_told, slot_in, claimed_two, cleared_two}
use Rattle.qn_safety.proofs.TripleSeats.{TripleSeat, seat_of, entered, answered, fresh, gone_off, slots_after, part_failed, late, Effect, Rests, Enters, Answers, BootsUp, GoesOff, LandsOn, FailsOn, LateOn}
use Rattle.qn_safety.proofs.TripleLogs.{close_asked, closing_booted, open_before, asked_on, given_out, cleared_is, claim_first, phase_of}
use Rattle.qn_safety.proofs.TripleKept.{dirty, IsRead, Clearing, IsOwn, KeepsTop, Kept, fresh_read, not_landed, kept_enter, above_after, clean_after, kept_written, kept_landed, leaves_is, kept_failed, keeps_out}

-- what is always true of a seat, by the number of the last incarnation of its node that came up
pub record Held (s : Settings) (t : Timing) (j top : ℕ) (x : TripleSeat) : Type 0 where
  pub kept : x.on ≡ true → Kept s t j top x
  pub left : (k : ℕ) (op : DiskOp) → IsIn op (x.left k) → KeepsTop top op
  pub two : TwoOf (λ k. top ≤ (x.slots k).incarnation)
  pub clean : (k : ℕ) → (x.slots k).clean ≡ true → (x.slots k).incarnation ≤ top

-- the seat after an event: the number rises where an incarnation comes up
pub record Next (s : Settings) (t : Timing) (j top : ℕ) (x x' : TripleSeat) : Type 0 where
  pub now : ℕ
  pub order : top ≤ now
  pub held : Held s t j now x'
  pub rises : x'.on ≡ true → is_booting (phase s x'.log) ≡ false → ((x.on ≡ true) × (is_booting (phase s x.log) ≡ false)) ⊎ (top < now)

-- the answer of the clear ends the boot
pub cleared_phase : (s : Settings) (line : Line) (past : List Line) (ok : Bool) → line.what ≡ what.Cleared ok → is_booting (phase s (line ∷ past)) ≡ false
cleared_phase s line past true reads = ap is_booting (phase_of s line past (what.Cleared true) reads)
cleared_phase s line past false reads = ap is_booting (phase_of s line past (what.Cleared false) reads)

-- a seat whose operation was answered, by the line of the answer
abbrev pub with_answer : TripleSeat → Line → DiskOp → Bool → TripleSeat
with_answer x line op on = record x { on = on; log = line ∷ x.log; parts = all_pending; good = good_after op x.parts x.good }

-- the operation that is out is answered by its parts
module _ {s : Settings} {t : Timing} {j top : ℕ} (x : TripleSeat) {line : Line} (it : IsLine s j line x.log) (made : Made s j x.log) (was : Held s t j top x) (on : x.on ≡ true)
    (op : DiskOp) (out : op_out x.log ≡ Some op) (reads : line.what ≡ answer_of op x.parts x.good) (now_on : Bool) where
  kept : Kept s t j top x
  kept = was.kept on

  answers : answers_op (Some op) line.what ≡ true
  answers = ap (λ v. answers_op (Some op) v) reads ∙ answer_answers op x.parts x.good

  is : is_answer line.what ≡ true
  is = ap is_answer reads ∙ (answer_fits s j x.log (answer_of op x.parts x.good) (subst (λ o. answers_op o (answer_of op x.parts x.good) ≡ true) (sym out) (answer_answers op x.parts x.good))).0

  -- the own slot that was read has the number or a higher one
  told : is_booting (phase s x.log) ≡ true → (rank : Rank) (own : Slot) → line.what ≡ what.SlotRead rank (slot.Read own) → top ≤ own.incarnation
  told booting rank own is_read = from_two (meet (kept.reading booting) found.two)
    where
      found : SlotTold op x.parts x.good rank own
      found = slot_told op x.parts x.good rank own (sym reads ∙ is_read)

      is_slot : (k : ℕ) (value : What) → x.parts k ≡ Landed value → (read : Slot) × (value ≡ what.SlotRead rank (slot.Read read))
      is_slot k value landed =
          let took = kept.took k value landed in
          let same : took.op ≡ disk.ReadSlot rank = same_Some _ _ (sym took.is ∙ out) ∙ found.is in
          ((took.at).slots rank.0, took.same ∙ ap (λ o. taken s t j o took.at) same ∙ read_slot took.at)
        where
          read_slot : (w : World) → taken s t j (disk.ReadSlot rank) w ≡ what.SlotRead rank (slot.Read (w.slots rank.0))
          read_slot w = unfold taken in refl

      from_two : (k : ℕ) × IsRead top x.parts x.slots k × CountsAt op x.parts x.good k → top ≤ own.incarnation
      from_two found_at =
          let counts = found_at.2 in
          let read = is_slot found_at.0 counts.value counts.landed in
          let low = found_at.1.read rank read.0 (counts.landed ∙ ap Landed read.1) in
          let high = found.best.top read.0 (slot_in rank read.0 (counting op x.parts x.good) (subst (λ v. IsIn v (counting op x.parts x.good)) read.1 counts.told)) in
          omega arith

  given : (o : DiskOp) → op_out (line ∷ x.log) ≡ Some o → disk_of line.outs ≡ Some o
  given o e = given_out line x.log o is e

  claim_next : (number : ℕ) → ClaimGiven s line x.log number → top < number
  claim_next number claim = by_from claim.from
    where
      check_out : (seen : MailSeen) → line.what ≡ what.MailChecked seen → op_out x.log ≡ Some disk.CheckMail
      check_out seen e = check_answers (op_out x.log) seen (subst (λ v. answers_op (op_out x.log) v ≡ true) e (subst (λ o. answers_op o line.what ≡ true) (sym out) answers))

      by_from : NumberFrom line.what (slot_number x.log) number → top < number
      by_from (BySlot rank own e next) = let q = told (booting_back it claim.booting) rank own e in omega arith
      by_from (ByCheck seen e next) = let q = kept.checking (check_out seen e) in omega arith

  -- the node boots on
  module _ (booting : is_booting (phase s (line ∷ x.log)) ≡ true) where
    was_booting : is_booting (phase s x.log) ≡ true
    was_booting = booting_back it booting

    own_booting : (k : ℕ) (o : DiskOp) → IsOwn s x k o → IsOwn s (with_answer x line op now_on) k o
    own_booting k (disk.WriteClaim number) own = by_claim (claimed_cases it)
      where
        by_claim : (claimed (line ∷ x.log) ≡ claimed x.log) ⊎ ((n : ℕ) × (claimed (line ∷ x.log) ≡ Some n) × ClaimGiven s line x.log n) → claimed (line ∷ x.log) ≡ Some number
        by_claim (inl same) = same ∙ own
        by_claim (inr claim) = none_is_not_some number (sym (claim_first it made claim.0 claim.2) ∙ own)
    own_booting k (disk.WriteClose number) own = asked_on line x.log own
    own_booting k disk.WriteClear own =
        let clear : op ≡ disk.WriteClear = same_Some _ _ (sym out ∙ own.out was_booting) in
        let cleared = cleared_is line.what (subst (λ o. answers_op (Some o) line.what ≡ true) clear answers) in
        never_both (is_booting (phase s (line ∷ x.log))) booting (cleared_phase s line x.log cleared.0 cleared.1)
    own_booting k disk.ReadHeader own = tt
    own_booting k (disk.ReadSlot rank) own = tt
    own_booting k disk.CheckMail own = tt
    own_booting k disk.ReadMail own = tt
    own_booting k (disk.WriteReset rank) own = tt

    clear_asked : disk_of line.outs ≡ Some disk.WriteClear → Clearing top (with_answer x line op now_on)
    clear_asked gave =
        let claims = clear_given it gave in
        let claim = claimed_answers (Some op) true (subst (λ v. answers_op (Some op) v ≡ true) claims answers) in
        let before = kept.claiming claim.0 (out ∙ claim.1) in
        record {
          number = claim.0;
          claims = claimed_by_clear line x.log gave ∙ out_claims made claim.0 (out ∙ claim.1);
          above = before.above;
          two = map_two (λ k counts. before.stands k (CountsAt.value counts) (CountsAt.landed counts)) (claimed_two op x.parts x.good (sym reads ∙ claims));
        }

    kept_booting : Kept s t j top (with_answer x line op now_on)
    kept_booting = record {
      took = λ k value e. not_landed value e;
      reading = λ b. fresh_read was.two;
      checking = λ e.
          let check = check_given it (given disk.CheckMail e) in
          let q = told check.booting check.rank check.own check.reads in
          let r = number_of_read line x.log check.rank check.own check.reads in
          omega arith;
      claiming = λ number e. record { above = claim_next number (claim_given it number (given (disk.WriteClaim number) e)); stands = λ k value landed. not_landed value landed };
      clearing = λ e. clear_asked (given disk.WriteClear e);
      standing = λ booted. never_both (is_booting (phase s (line ∷ x.log))) booting booted;
      own = λ k o there. own_booting k o (kept.own k o there);
    }

  -- the node was up
  module _ (booted : is_booting (phase s (line ∷ x.log)) ≡ false) (was_booted : is_booting (phase s x.log) ≡ false) where
    not_clear : op ≡ disk.WriteClear → ⊥
    not_clear same = true≢false (sym (booting_op made disk.WriteClear (out ∙ ap Some same) refl refl) ∙ was_booted)

    pub same_good : (o : DiskOp) → (o ≡ disk.WriteClear → ⊥) → (k : ℕ) → good_after o x.parts x.good k ≡ x.good k
    same_good disk.WriteClear never k = absurd (never refl)
    same_good disk.ReadHeader never k = refl
    same_good (disk.ReadSlot rank) never k = refl
    same_good disk.CheckMail never k = refl
    same_good (disk.WriteClaim number) never k = refl
    same_good disk.ReadMail never k = refl
    same_good (disk.WriteReset rank) never k = refl
    same_good (disk.WriteClose number) never k = refl

    own_up : (k : ℕ) (o : DiskOp) → IsOwn s x k o → IsOwn s (with_answer x line op now_on) k o
    own_up k (disk.WriteClaim number) own = claimed_same it booted ∙ own
    own_up k (disk.WriteClose number) own = asked_on line x.log own
    own_up k disk.WriteClear own = record {
      out = λ booting. never_both (is_booting (phase s (line ∷ x.log))) booting booted;
      part = λ booting. never_both (is_booting (phase s (line ∷ x.log))) booting booted;
      bad = λ b. same_good op not_clear k ∙ own.bad was_booted;
    }
    own_up k disk.ReadHeader own = tt
    own_up k (disk.ReadSlot rank) own = tt
    own_up k disk.CheckMail own = tt
    own_up k disk.ReadMail own = tt
    own_up k (disk.WriteReset rank) own = tt

    claim_answer : (out : Option DiskOp) (number : ℕ) → out ≡ Some (disk.WriteClaim number) → op_out x.log ≡ out → ⊥
    claim_answer o number e same = true≢false (sym (booting_op made (disk.WriteClaim number) (same ∙ e) refl refl) ∙ was_booted)

    kept_up : Kept s t j top (with_answer x line op now_on)
    kept_up = record {
      took = λ k value e. not_landed value e;
      reading = λ booting. never_both (is_booting (phase s (line ∷ x.log))) booting booted;
      checking = λ e. never_both (is_booting (phase s x.log)) ((check_given it (given disk.CheckMail e)).booting) was_booted;
      claiming = λ number e. never_both (is_booting (phase s (line ∷ x.log))) ((claim_given it number (given (disk.WriteClaim number) e)).booting) booted;
      clearing = λ e.
          let claims = clear_given it (given disk.WriteClear e) in
          let claim = claimed_answers (Some op) true (subst (λ v. answers_op (Some op) v ≡ true) claims answers) in
          absurd (claim_answer (Some op) claim.0 claim.1 out);
      standing = λ b.
          let before = kept.standing was_booted in
          record {
            claims = claimed_same it booted ∙ before.claims;
            good = map_two (λ k good. same_good op not_clear k ∙ good) before.good;
            two = λ open'. before.two (open_before line x.log open');
            below = λ open'. before.below (open_before line x.log open');
          };
      own = λ k o there. own_up k o (kept.own k o there);
    }

  -- the node comes up
  module _ (booted : is_booting (phase s (line ∷ x.log)) ≡ false) (was_booting : is_booting (phase s x.log) ≡ true) (living : is_gone (phase s (line ∷ x.log)) ≡ false) where
    clear_out : op_out x.log ≡ Some disk.WriteClear
    clear_out = comes_up it made is was_booting booted living

    clear_is : op ≡ disk.WriteClear
    clear_is = same_Some _ _ (sym out ∙ clear_out)

    before : Clearing top x
    before = kept.clearing clear_out

    was_cleared : line.what ≡ what.Cleared true
    was_cleared = by_ok (cleared_is line.what (subst (λ o. answers_op (Some o) line.what ≡ true) clear_is answers))
      where
        by_ok : (ok : Bool) × (line.what ≡ what.Cleared ok) → line.what ≡ what.Cleared true
        by_ok (true, e) = e
        by_ok (false, e) = never_both (is_gone (phase s (line ∷ x.log))) (ap is_gone (phase_of s line x.log (what.Cleared false) e)) living

    good_is : (k : ℕ) → good_after op x.parts x.good k ≡ has_landed (x.parts k)
    good_is k = ap (λ o. good_after o x.parts x.good k) clear_is

    two_good : TwoOf (λ k. good_after op x.parts x.good k ≡ true)
    two_good = map_two (λ k counts. good_is k ∙ ap has_landed (CountsAt.landed counts)) (cleared_two op x.parts x.good (sym reads ∙ was_cleared))

    own_risen : (k : ℕ) (o : DiskOp) → IsOwn s x k o → IsOwn s (with_answer x line op now_on) k o
    own_risen k (disk.WriteClaim number) own = claimed_same it booted ∙ own
    own_risen k (disk.WriteClose number) own = asked_on line x.log own
    own_risen k disk.WriteClear own = record {
      out = λ booting. never_both (is_booting (phase s (line ∷ x.log))) booting booted;
      part = λ booting. never_both (is_booting (phase s (line ∷ x.log))) booting booted;
      bad = λ b. good_is k ∙ ap has_landed (own.part was_booting);
    }
    own_risen k disk.ReadHeader own = tt
    own_risen k (disk.ReadSlot rank) own = tt
    own_risen k disk.CheckMail own = tt
    own_risen k disk.ReadMail own = tt
    own_risen k (disk.WriteReset rank) own = tt

    not_read : (rank : Rank) (own : Slot) → line.what ≡ what.SlotRead rank (slot.Read own) → ⊥
    not_read rank own e = let q = sym e ∙ was_cleared in cc

    not_claimed : line.what ≡ what.Claimed true → ⊥
    not_claimed e = let q = sym e ∙ was_cleared in cc

    kept_risen : Kept s t j before.number (with_answer x line op now_on)
    kept_risen = record {
      took = λ k value e. not_landed value e;
      reading = λ booting. never_both (is_booting (phase s (line ∷ x.log))) booting booted;
      checking = λ e. let check = check_given it (given disk.CheckMail e) in absurd (not_read check.rank check.own check.reads);
      claiming = λ number e. never_both (is_booting (phase s (line ∷ x.log))) ((claim_given it number (given (disk.WriteClaim number) e)).booting) booted;
      clearing = λ e. absurd (not_claimed (clear_given it (given disk.WriteClear e)));
      standing = λ b. record {
        claims = claimed_same it booted ∙ before.claims;
        good = two_good;
        two = λ open'. before.two;
        below = λ open' k clean. let q = was.clean k clean in let r = before.above in omega arith;
      };
      own = λ k o there. own_risen k o (kept.own k o there);
    }

    left_risen : (o : DiskOp) (k : ℕ) → IsOwn s x k o → KeepsTop before.number o
    left_risen (disk.WriteClaim number) k own = let q : before.number ≡ number = same_Some _ _ (sym before.claims ∙ own) in omega arith
    left_risen (disk.WriteClose number) k own = never_both (is_booting (phase s x.log)) was_booting (closing_booted made own)
    left_risen disk.WriteClear k own = tt
    left_risen disk.ReadHeader k own = tt
    left_risen (disk.ReadSlot rank) k own = tt
    left_risen disk.CheckMail k own = tt
    left_risen disk.ReadMail k own = tt
    left_risen (disk.WriteReset rank) k own = tt

  next_answer : (now_on ≡ true → is_gone (phase s (line ∷ x.log)) ≡ false) → (b c : Bool) → is_booting (phase s (line ∷ x.log)) ≡ b → is_booting (phase s x.log) ≡ c
      → Next s t j top x (with_answer x line op now_on)
  next_answer living true c booting was' = record {
    now = top;
    order = omega arith;
    held = record { kept = λ o. kept_booting booting; left = was.left; two = was.two; clean = was.clean };
    rises = λ o booted. never_both (is_booting (phase s (line ∷ x.log))) booting booted;
  }
  next_answer living false false booted was_booted = record {
    now = top;
    order = omega arith;
    held = record { kept = λ o. kept_up booted was_booted; left = was.left; two = was.two; clean = was.clean };
    rises = λ o b. inl (on, was_booted);
  }
  next_answer living false true booted was_booting = by_on now_on refl
    where
      by_on : (o : Bool) → now_on ≡ o → Next s t j top x (with_answer x line op now_on)
      by_on false off = record {
        now = top;
        order = omega arith;
        held = record { kept = λ o. never_both now_on o off; left = was.left; two = was.two; clean = was.clean };
        rises = λ o b. never_both now_on o off;
      }
      by_on true o = rise (living o)
        where
          rise : is_gone (phase s (line ∷ x.log)) ≡ false → Next s t j top x (with_answer x line op now_on)
          rise lives =
              let clear = before booted was_booting lives in
              record {
                now = clear.number;
                order = let q = clear.above in omega arith;
                held = record {
                  kept = λ o'. kept_risen booted was_booting lives;
                  left = λ k op' there. left_risen booted was_booting lives op' k (kept.own k op' there);
                  two = map_two (λ k stands. let q = ap (λ (c : Slot). c.incarnation) stands in omega arith) clear.two;
                  clean = λ k clean. let q = was.clean k clean in let r = clear.above in omega arith;
                };
                rises = λ o' b. inr clear.above;
              }

-- an event at which the number stays
stays : {s : Settings} {t : Timing} {j top : ℕ} {x x' : TripleSeat} → Held s t j top x' → (x'.on ≡ true → is_booting (phase s x'.log) ≡ false → (x.on ≡ true) × (is_booting (phase s x.log) ≡ false))
    → Next s t j top x x'
stays {top = top} held was = record { now = top; order = omega arith; held = held; rises = λ on booted. inl (was on booted) }

kept_fresh : {s : Settings} {t : Timing} {j top : ℕ} (x : TripleSeat) → TwoOf (λ k. top ≤ (x.slots k).incarnation) → Kept s t j top (fresh x)
unfolding op_out phase
kept_fresh x two = record {
  took = λ k value e. not_landed value e;
  reading = λ booting. fresh_read two;
  checking = λ e. none_is_not_some _ e;
  claiming = λ number e. none_is_not_some _ e;
  clearing = λ e. none_is_not_some _ e;
  standing = λ booted. absurd (true≢false booted);
  own = λ k op there. none_in there;
}

module _ (s : Settings) (t : Timing) (j top : ℕ) (x : TripleSeat) (made : Made s j x.log) (was : Held s t j top x) where
  line_plain : (tick : ℕ) (entry : What) (past : List Line) → is_answer entry ≡ false → is_answer (line_of s j tick entry past).what ≡ false
  line_plain tick entry past plain = ap is_answer (line_what s j tick entry past) ∙ read_answers_none s j past entry plain

  next_enters : (tick : ℕ) (entry : What) → Made s j (line_of s j tick entry x.log ∷ x.log) → x.on ≡ true → is_answer entry ≡ false → Next s t j top x (entered s j tick entry x)
  next_enters tick entry made' on plain =
      stays (record { kept = λ on'. kept_enter x (made_line made') made (was.kept on) (line_plain tick entry x.log plain) _; left = was.left; two = was.two; clean = was.clean })
      (λ on' booted. (on, booted_back (made_line made') (line_plain tick entry x.log plain) booted))

  next_answers : (tick : ℕ) (op : DiskOp) → Made s j (line_of s j tick (answer_of op x.parts x.good) x.log ∷ x.log) → x.on ≡ true → op_out x.log ≡ Some op → Next s t j top x (answered s j tick op x)
  next_answers tick op made' on out =
      let answers = subst (λ o. answers_op o (answer_of op x.parts x.good) ≡ true) (sym out) (answer_answers op x.parts x.good) in
      let reads = line_what s j tick (answer_of op x.parts x.good) x.log ∙ (answer_fits s j x.log (answer_of op x.parts x.good) answers).1 in
      next_answer x (made_line made') made was on op out reads _ (λ o. not-true (is_gone (phase s (line_of s j tick (answer_of op x.parts x.good) x.log ∷ x.log))) o) _ _ refl refl

  next_boots : (tick : ℕ) (clean : Bool) → Made s j (line_of s j tick (begin_of clean) [] ∷ []) → Next s t j top x (entered s j tick (begin_of clean) (fresh x))
  next_boots tick clean made' = record {
    now = top;
    order = omega arith;
    held = record {
      kept = λ on'. kept_enter (fresh x) (made_line made') NoLine (kept_fresh x was.two) (line_plain tick (begin_of clean) [] (begin_answers_none clean)) _;
      left = λ k op there. none_in there;
      two = was.two;
      clean = was.clean;
    };
    rises = λ on' booted. never (booted_back (made_line made') (line_plain tick (begin_of clean) [] (begin_answers_none clean)) booted);
  }
    where
      never : {P : Type 0} → is_booting (phase s []) ≡ false → P
      never booted = absurd (true≢false (first_phase ∙ booted))
        where
          first_phase : true ≡ is_booting (phase s [])
          first_phase = unfold phase in refl

  left_off : (k : ℕ) (o : DiskOp) (given : Option DiskOp) → x.on ≡ true → op_out x.log ≡ given → IsIn o (x.left k) ⊎ IsIn o (leaves_over given (x.parts k)) → KeepsTop top o
  left_off k o given on out (inl there) = was.left k o there
  left_off k o None on out (inr there) = none_in there
  left_off k o (Some op) on out (inr there) = keeps_out x made (was.kept on) o (out ∙ ap Some (sym (leaves_is o op (x.parts k) there)))

  next_ends : x.on ≡ true → Next s t j top x (gone_off x)
  next_ends on = stays (record {
    kept = λ o. absurd (false≢true o);
    left = λ k o there. left_off k o (op_out x.log) on refl (in_either (x.left k) (leaves_over (op_out x.log) (x.parts k)) there);
    two = was.two;
    clean = was.clean;
  }) (λ o. absurd (false≢true o))

  read_there : (k : ℕ) (op : DiskOp) (w : World) → op_out x.log ≡ Some op → w.slots j ≡ x.slots k → is_booting (phase s x.log) ≡ true → (rank : Rank) (own : Slot)
      → taken s t j op w ≡ what.SlotRead rank (slot.Read own) → own ≡ slots_after k op x.slots k
  unfolding taken
  read_there k (disk.ReadSlot other) w out mine booting rank own e = same_slot e ∙ ap w.slots (sym (own_slot_out made other out booting)) ∙ mine
    where
      same_slot : what.SlotRead other (slot.Read (w.slots other.0)) ≡ what.SlotRead rank (slot.Read own) → own ≡ w.slots other.0
      same_slot q = cc
  read_there k disk.ReadHeader w out mine booting rank own e = absurd (cc)
  read_there k disk.CheckMail w out mine booting rank own e = absurd (cc)
  read_there k (disk.WriteClaim number) w out mine booting rank own e = absurd (cc)
  read_there k disk.WriteClear w out mine booting rank own e = absurd (cc)
  read_there k disk.ReadMail w out mine booting rank own e = absurd (cc)
  read_there k (disk.WriteReset other) w out mine booting rank own e = absurd (cc)
  read_there k (disk.WriteClose number) w out mine booting rank own e = absurd (cc)

  claim_there : (k : ℕ) (op : DiskOp) (number : ℕ) → op ≡ disk.WriteClaim number → slots_after k op x.slots k ≡ dirty number
  claim_there k op number is = subst (λ o. slots_after k o x.slots k ≡ dirty number) (sym is) (put_same x.slots k (dirty number))

  next_lands : (k : ℕ) (op : DiskOp) (w : World) → x.on ≡ true → op_out x.log ≡ Some op → x.parts k ≡ Pending → w.slots j ≡ x.slots k
      → Next s t j top x (record x { parts = put x.parts k (Landed (taken s t j op w)); slots = slots_after k op x.slots })
  next_lands k op w on out pending mine =
      let keeps = keeps_out x made (was.kept on) op out in
      let written = kept_written x made (was.kept on) k op keeps (λ number is. out_claims made number (out ∙ ap Some is)) (λ number is. close_asked x.log number (out ∙ ap Some is)) in
      stays (record {
        kept = λ o. kept_landed (record x { slots = slots_after k op x.slots }) written k (taken s t j op w) pending (record { op = op; is = out; at = w; same = refl })
            (λ booting rank own e. read_there k op w out mine booting rank own e) (λ number e. claim_there k op number (same_Some _ _ (sym out ∙ e)));
        left = was.left;
        two = map_two (λ i above. above_after k op x.slots keeps i above) was.two;
        clean = clean_after k op x.slots keeps was.clean;
      }) (λ o booted. (on, booted))

  next_fails : (k : ℕ) (op : DiskOp) → x.on ≡ true → op_out x.log ≡ Some op → Next s t j top x (part_failed k op x)
  next_fails k op on out = stays (record {
    kept = λ o. kept_failed x made (was.kept on) k op out;
    left = λ i o. put_case (λ l. IsIn o l → KeepsTop top o) x.left k i (x.left k ++ leaves_over (Some op) (x.parts k))
        (λ same there. left_off k o (Some op) on out (in_either (x.left k) (leaves_over (Some op) (x.parts k)) there)) (λ there. was.left i o there);
    two = was.two;
    clean = was.clean;
  }) (λ o booted. (on, booted))

  own_dropped : (k number : ℕ) (slots : ℕ → Slot) (i : ℕ) (o : DiskOp) → IsOwn s (record x { slots = slots }) i o → IsOwn s (record x { left = put x.left k (without (x.left k) number); slots = slots }) i o
  own_dropped k number slots i (disk.WriteClaim n) own = own
  own_dropped k number slots i (disk.WriteClose n) own = own
  own_dropped k number slots i disk.WriteClear own = record { out = own.out; part = own.part; bad = own.bad }
  own_dropped k number slots i disk.ReadHeader own = tt
  own_dropped k number slots i (disk.ReadSlot rank) own = tt
  own_dropped k number slots i disk.CheckMail own = tt
  own_dropped k number slots i disk.ReadMail own = tt
  own_dropped k number slots i (disk.WriteReset rank) own = tt

  left_before : (k number i : ℕ) (o : DiskOp) → IsIn o (put x.left k (without (x.left k) number) i) → IsIn o (x.left i)
  left_before k number i o = put_case (λ l. IsIn o l → IsIn o (x.left i)) x.left k i (without (x.left k) number) (λ same there. subst (λ n. IsIn o (x.left n)) same (without_in (x.left k) number there)) (λ there. there)

  kept_dropped : (k number : ℕ) (slots : ℕ → Slot) → Kept s t j top (record x { slots = slots }) → Kept s t j top (record x { left = put x.left k (without (x.left k) number); slots = slots })
  kept_dropped k number slots kept = record {
    took = kept.took;
    reading = kept.reading;
    checking = kept.checking;
    claiming = λ n e. let q = kept.claiming n e in record { above = q.above; stands = q.stands };
    clearing = λ e. let q = kept.clearing e in record { number = q.number; claims = q.claims; above = q.above; two = q.two };
    standing = λ booted. let q = kept.standing booted in record { claims = q.claims; good = q.good; two = q.two; below = q.below };
    own = λ i o there. own_dropped k number slots i o (kept.own i o (left_before k number i o there));
  }

  next_late : (k number : ℕ) (op : DiskOp) → numbered (x.left k) number ≡ Some op → Next s t j top x (late k number op x)
  next_late k number op there =
      let inside = numbered_in (x.left k) number op there in
      let keeps = was.left k op inside in
      stays (record {
        kept = λ o. kept_dropped k number (slots_after k op x.slots) (kept_written x made (was.kept o) k op keeps
            (λ n is. subst (λ q. IsOwn s x k q) is ((was.kept o).own k op inside)) (λ n is. subst (λ q. IsOwn s x k q) is ((was.kept o).own k op inside)));
        left = λ i o there'. was.left i o (left_before k number i o there');
        two = map_two (λ i above. above_after k op x.slots keeps i above) was.two;
        clean = clean_after k op x.slots keeps was.clean;
      }) (λ o booted. (o, booted))

  next_rests : Next s t j top x x
  next_rests = stays was (λ on booted. (on, booted))

-- each event keeps what is true of a seat
pub next_effect : (s : Settings) (t : Timing) (j top : ℕ) (w w' : TripleWorld) → Effect s t j w w' → Made s j (node s j w.moments).log → Made s j (node s j w'.moments).log
    → Held s t j top (seat_of s j w) → Next s t j top (seat_of s j w) (seat_of s j w')
next_effect s t j top w w' (Rests e) made made' was = subst (λ x. Next s t j top (seat_of s j w) x) (sym e) (next_rests s t j top (seat_of s j w) made was)
next_effect s t j top w w' (Enters tick entry on plain e) made made' was =
    subst (λ x. Next s t j top (seat_of s j w) x) (sym e) (next_enters s t j top (seat_of s j w) made was tick entry (subst (λ l. Made s j l) (ap (λ x. x.log) e) made') on plain)
next_effect s t j top w w' (Answers tick op on out e) made made' was =
    subst (λ x. Next s t j top (seat_of s j w) x) (sym e) (next_answers s t j top (seat_of s j w) made was tick op (subst (λ l. Made s j l) (ap (λ x. x.log) e) made') on out)
next_effect s t j top w w' (BootsUp tick clean off e) made made' was =
    subst (λ x. Next s t j top (seat_of s j w) x) (sym e) (next_boots s t j top (seat_of s j w) made was tick clean (subst (λ l. Made s j l) (ap (λ x. x.log) e) made'))
next_effect s t j top w w' (GoesOff on e) made made' was = subst (λ x. Next s t j top (seat_of s j w) x) (sym e) (next_ends s t j top (seat_of s j w) made was on)
next_effect s t j top w w' (LandsOn k op on out pending all e) made made' was =
    subst (λ x. Next s t j top (seat_of s j w) x) (sym e) (next_lands s t j top (seat_of s j w) made was k op (image_of k w) on out pending refl)
next_effect s t j top w w' (FailsOn k op on out e) made made' was = subst (λ x. Next s t j top (seat_of s j w) x) (sym e) (next_fails s t j top (seat_of s j w) made was k op on out)
next_effect s t j top w w' (LateOn k number op there e) made made' was = subst (λ x. Next s t j top (seat_of s j w) x) (sym e) (next_late s t j top (seat_of s j w) made was k number op there)

pub first_held : (s : Settings) (t : Timing) (j : ℕ) → Held s t j 0 (seat_of s j first_triple)
unfolding node
first_held s t j = record {
  kept = λ on. absurd (false≢true on);
  left = λ k op there. none_in there;
  two = OneTwo (omega arith) (omega arith);
  clean = λ k clean. omega arith;
}

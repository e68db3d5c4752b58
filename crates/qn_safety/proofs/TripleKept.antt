-- What is always true of the slots of a node on three images, of the parts of its operation and of its leftovers.
use Rattle.std.proofs.Common.{◌≡◌, ℕ, ◌<◌, ◌≤◌, Bool, true, false, [], ◌∷◌, ◌++◌, Some, None, Option, refl, sym, ap, ◌∙◌, subst, arith, if◌then◌else◌, ◌⊎◌, inl, inr}
use Rattle.std.proofs.lemmas.Bool.{false≢true, true≢false}
use Rattle.std.proofs.lemmas.Option.{same_Some}
use Rattle.qn_base.specs.declared.ids.Rank.{Rank}
use Rattle.qn_base.specs.lemmas.Bools.{never_both}
use Rattle.qn_base.specs.lemmas.Elements.{IsIn, none_in}
use Rattle.qn_model.specs.declared.configuration.Settings.{Settings}
use Rattle.qn_model.specs.declared.times.Timing.{Timing}
use Rattle.qn_model.specs.declared.disk.Slot.{Slot}
use Rattle.qn_model.specs.declared.seen.SlotSeen.TheVariants as slot
use Rattle.qn_model.specs.declared.entries.What.{What}
use Rattle.qn_model.specs.declared.entries.What.TheVariants as what
use Rattle.qn_model.specs.declared.outputs.DiskOp.{DiskOp}
use Rattle.qn_model.specs.declared.outputs.DiskOp.TheVariants as disk
use Rattle.qn_model.specs.lemmas.Moments.{put_same}
use Rattle.qn_model.specs.Log.{Line, op_out, claimed, disk_of, is_answer, slot_number}
use Rattle.qn_model.specs.Phases.{phase, is_booting}
use Rattle.qn_model.specs.World.{World, put, taken, is_write}
use Rattle.qn_model.specs.lemmas.Entries.{plain_number}
use Rattle.qn_safety.specs.Closing.{asked_close}
use Rattle.qn_safety.specs.declared.part.Part.{Part}
use Rattle.qn_safety.specs.declared.part.Part.TheVariants.{Pending, Landed, Failed}
use Rattle.qn_safety.specs.TripleWorld.{all_pending, leaves_over}
use Rattle.qn_safety.proofs.Logs.{Made, IsLine}
use Rattle.qn_safety.proofs.Stays.{op_kept}
use Rattle.qn_safety.proofs.Numbers.{claim_given, number_kept}
use Rattle.qn_safety.proofs.Outs.{out_cases, out_claims, out_closes, clear_given, check_given}
use Rattle.qn_safety.proofs.Kept.{booting_op, booted_op, booted_back, booting_back}
use Rattle.qn_safety.proofs.TripleSets.{TwoOf, map_two, put_case, only_in, in_either}
use Rattle.qn_safety.proofs.TripleSeats.{TripleSeat, slots_after, part_failed}
use Rattle.qn_safety.proofs.TripleLogs.{plain_claimed, close_asked, closing_booted, open_before, asked_on}

-- the slot of a running incarnation, and of one that closed
abbrev pub dirty : ℕ → Slot
dirty number = record { incarnation = number; clean = false }

abbrev pub closed : ℕ → Slot
closed number = record { incarnation = number; clean = true }

-- a value was taken by the operation that is out
pub record Took (s : Settings) (t : Timing) (j : ℕ) (out : Option DiskOp) (value : What) : Type 0 where
  pub op : DiskOp
  pub is : out ≡ Some op
  pub at : World
  pub same : value ≡ taken s t j op at

-- on an image the slot has the number or a higher one, and so has what was read there of it
pub record IsRead (top : ℕ) (parts : ℕ → Part) (slots : ℕ → Slot) (k : ℕ) : Type 0 where
  pub above : top ≤ (slots k).incarnation
  pub read : (rank : Rank) (own : Slot) → parts k ≡ Landed (what.SlotRead rank (slot.Read own)) → top ≤ own.incarnation

-- the claim that is out is above the number, and stands in the slot where it landed
pub record Claiming (top number : ℕ) (x : TripleSeat) : Type 0 where
  pub above : top < number
  pub stands : (k : ℕ) (value : What) → x.parts k ≡ Landed value → x.slots k ≡ dirty number

-- while the clear is out two slots have the claim, which is above the number
pub record Clearing (top : ℕ) (x : TripleSeat) : Type 0 where
  pub number : ℕ
  pub claims : claimed x.log ≡ Some number
  pub above : top < number
  pub two : TwoOf (λ k. x.slots k ≡ dirty number)

-- a node that is up has the number, and two good images; until it asks for its close two slots have the number and are
-- dirty, and each clean one is below
pub record Standing (top : ℕ) (x : TripleSeat) : Type 0 where
  pub claims : claimed x.log ≡ Some top
  pub good : TwoOf (λ k. x.good k ≡ true)
  pub two : asked_close x.log ≡ false → TwoOf (λ k. x.slots k ≡ dirty top)
  pub below : asked_close x.log ≡ false → (k : ℕ) → (x.slots k).clean ≡ true → (x.slots k).incarnation < top

-- a clear that is left over on an image failed there in this boot: the image is no good one
pub record ClearLeft (s : Settings) (x : TripleSeat) (k : ℕ) : Type 0 where
  pub out : is_booting (phase s x.log) ≡ true → op_out x.log ≡ Some disk.WriteClear
  pub part : is_booting (phase s x.log) ≡ true → x.parts k ≡ Failed
  pub bad : is_booting (phase s x.log) ≡ false → x.good k ≡ false

-- what is left over while the node runs is of this boot
abbrev pub IsOwn : Settings → TripleSeat → ℕ → DiskOp → Type 0
IsOwn s x k (disk.WriteClaim number) = claimed x.log ≡ Some number
IsOwn s x k (disk.WriteClose number) = asked_close x.log ≡ true
IsOwn s x k disk.WriteClear = ClearLeft s x k
IsOwn s x k disk.ReadHeader = Unit {0}
IsOwn s x k (disk.ReadSlot rank) = Unit {0}
IsOwn s x k disk.CheckMail = Unit {0}
IsOwn s x k disk.ReadMail = Unit {0}
IsOwn s x k (disk.WriteReset rank) = Unit {0}

-- a write of a slot does not take the number from it, and a clean one does not go above it
abbrev pub KeepsTop : ℕ → DiskOp → Type 0
KeepsTop top (disk.WriteClaim number) = top ≤ number
KeepsTop top (disk.WriteClose number) = number ≡ top
KeepsTop top disk.WriteClear = Unit {0}
KeepsTop top disk.ReadHeader = Unit {0}
KeepsTop top (disk.ReadSlot rank) = Unit {0}
KeepsTop top disk.CheckMail = Unit {0}
KeepsTop top disk.ReadMail = Unit {0}
KeepsTop top (disk.WriteReset rank) = Unit {0}

-- a running node, by the number of the last incarnation of its rank that came up
pub record Kept (s : Settings) (t : Timing) (j top : ℕ) (x : TripleSeat) : Type 0 where
  pub took : (k : ℕ) (value : What) → x.parts k ≡ Landed value → Took s t j (op_out x.log) value
  pub reading : is_booting (phase s x.log) ≡ true → TwoOf (λ k. IsRead top x.parts x.slots k)
  pub checking : op_out x.log ≡ Some disk.CheckMail → top ≤ slot_number x.log
  pub claiming : (number : ℕ) → op_out x.log ≡ Some (disk.WriteClaim number) → Claiming top number x
  pub clearing : op_out x.log ≡ Some disk.WriteClear → Clearing top x
  pub standing : is_booting (phase s x.log) ≡ false → Standing top x
  pub own : (k : ℕ) (op : DiskOp) → IsIn op (x.left k) → IsOwn s x k op

-- no part has landed: what was read of the slots is what they have
pub fresh_read : {top : ℕ} {slots : ℕ → Slot} → TwoOf (λ k. top ≤ (slots k).incarnation) → TwoOf (λ k. IsRead top all_pending slots k)
fresh_read {top = top} {slots = slots} two = map_two (λ k above. record { above = above; read = λ rank own e. absurd (never rank own e) }) two
  where
    never : (rank : Rank) (own : Slot) → Pending ≡ Landed (what.SlotRead rank (slot.Read own)) → ⊥
    never rank own e = cc

pub not_landed : {P : Type 0} (value : What) → Pending ≡ Landed value → P
not_landed value e = absurd (cc)

pub failed_not_landed : {P : Type 0} (value : What) → Failed ≡ Landed value → P
failed_not_landed value e = absurd (cc)

-- an entry that answers nothing
module _ {s : Settings} {t : Timing} {j top : ℕ} (x : TripleSeat) {line : Line} (it : IsLine s j line x.log) (made : Made s j x.log) (kept : Kept s t j top x) (plain : is_answer line.what ≡ false) (on : Bool) where
  after_line : TripleSeat
  after_line = record x { on = on; log = line ∷ x.log }

  op_before : (op : DiskOp) → op_out (line ∷ x.log) ≡ Some op → (disk_of line.outs ≡ Some op → ⊥) → op_out x.log ≡ Some op
  op_before op e new = by_cases (out_cases line x.log op e)
    where
      by_cases : (disk_of line.outs ≡ Some op) ⊎ ((disk_of line.outs ≡ None) × (is_answer line.what ≡ false) × (op_out x.log ≡ Some op)) → op_out x.log ≡ Some op
      by_cases (inl gave) = absurd (new gave)
      by_cases (inr was) = was.2

  no_claim : (number : ℕ) → disk_of line.outs ≡ Some (disk.WriteClaim number) → ⊥
  no_claim number gave = true≢false (sym ((claim_given it number gave).answers) ∙ plain)

  no_check : disk_of line.outs ≡ Some disk.CheckMail → ⊥
  no_check gave = true≢false (sym (ap is_answer ((check_given it gave).reads)) ∙ plain)

  no_clear : disk_of line.outs ≡ Some disk.WriteClear → ⊥
  no_clear gave = true≢false (sym (ap is_answer (clear_given it gave)) ∙ plain)

  own_enter : (k : ℕ) (op : DiskOp) → IsOwn s x k op → IsOwn s (record x { on = on; log = line ∷ x.log }) k op
  own_enter k (disk.WriteClaim number) was = plain_claimed it plain ∙ was
  own_enter k (disk.WriteClose number) was = asked_on line x.log was
  own_enter k disk.WriteClear was = record {
    out = λ booting. op_kept it disk.WriteClear (was.out (booting_back it booting)) plain;
    part = λ booting. was.part (booting_back it booting);
    bad = λ booted. was.bad (booted_back it plain booted);
  }
  own_enter k disk.ReadHeader was = tt
  own_enter k (disk.ReadSlot rank) was = tt
  own_enter k disk.CheckMail was = tt
  own_enter k disk.ReadMail was = tt
  own_enter k (disk.WriteReset rank) was = tt

  pub kept_enter : Kept s t j top (record x { on = on; log = line ∷ x.log })
  kept_enter = record {
    took = λ k value e. let was = kept.took k value e in record { op = was.op; is = op_kept it was.op was.is plain; at = was.at; same = was.same };
    reading = λ booting. kept.reading (booting_back it booting);
    checking = λ e. subst (λ n. top ≤ n) (sym (number_kept line x.log (plain_number line.what plain))) (kept.checking (op_before disk.CheckMail e no_check));
    claiming = λ number e. let was = kept.claiming number (op_before (disk.WriteClaim number) e (no_claim number)) in record { above = was.above; stands = was.stands };
    clearing = λ e.
        let was = kept.clearing (op_before disk.WriteClear e no_clear) in
        record { number = was.number; claims = plain_claimed it plain ∙ was.claims; above = was.above; two = was.two };
    standing = λ booted.
        let was = kept.standing (booted_back it plain booted) in
        record {
          claims = plain_claimed it plain ∙ was.claims;
          good = was.good;
          two = λ open'. was.two (open_before line x.log open');
          below = λ open'. was.below (open_before line x.log open');
        };
    own = λ k op there. own_enter k op (kept.own k op there);
  }

-- a property of a slot after a write
pub slot_case : (P : Slot → Type 0) (k : ℕ) (op : DiskOp) (slots : ℕ → Slot) (i : ℕ) → ((number : ℕ) → op ≡ disk.WriteClaim number → P (dirty number))
    → ((number : ℕ) → op ≡ disk.WriteClose number → P (closed number)) → P (slots i) → P (slots_after k op slots i)
slot_case P k (disk.WriteClaim number) slots i claim close was = put_case P slots k i (dirty number) (λ same. claim number refl) was
slot_case P k (disk.WriteClose number) slots i claim close was = put_case P slots k i (closed number) (λ same. close number refl) was
slot_case P k disk.ReadHeader slots i claim close was = was
slot_case P k (disk.ReadSlot rank) slots i claim close was = was
slot_case P k disk.CheckMail slots i claim close was = was
slot_case P k disk.WriteClear slots i claim close was = was
slot_case P k disk.ReadMail slots i claim close was = was
slot_case P k (disk.WriteReset rank) slots i claim close was = was

keeps_claim : (top number : ℕ) (op : DiskOp) → KeepsTop top op → op ≡ disk.WriteClaim number → top ≤ number
keeps_claim top number op keeps is = subst (λ o. KeepsTop top o) is keeps

keeps_close : (top number : ℕ) (op : DiskOp) → KeepsTop top op → op ≡ disk.WriteClose number → number ≡ top
keeps_close top number op keeps is = subst (λ o. KeepsTop top o) is keeps

module _ {top : ℕ} (k : ℕ) (op : DiskOp) (slots : ℕ → Slot) (keeps : KeepsTop top op) where
  pub above_after : (i : ℕ) → top ≤ (slots i).incarnation → top ≤ (slots_after k op slots i).incarnation
  above_after i was = slot_case (λ x. top ≤ x.incarnation) k op slots i (λ number is. keeps_claim top number op keeps is) (λ number is. let q = keeps_close top number op keeps is in omega arith) was

  pub clean_after : ((i : ℕ) → (slots i).clean ≡ true → (slots i).incarnation ≤ top) → (i : ℕ) → (slots_after k op slots i).clean ≡ true → (slots_after k op slots i).incarnation ≤ top
  clean_after was i = slot_case (λ x. x.clean ≡ true → x.incarnation ≤ top) k op slots i (λ number is e. absurd (false≢true e)) (λ number is e. let q = keeps_close top number op keeps is in omega arith) (was i)

-- a write of this boot lands on an image
module _ {s : Settings} {t : Timing} {j top : ℕ} (x : TripleSeat) (made : Made s j x.log) (kept : Kept s t j top x) (k : ℕ) (op : DiskOp) (keeps : KeepsTop top op)
    (claims : (number : ℕ) → op ≡ disk.WriteClaim number → claimed x.log ≡ Some number) (closes : (number : ℕ) → op ≡ disk.WriteClose number → asked_close x.log ≡ true) where
  closed_booted : {P : Type 0} (number : ℕ) → op ≡ disk.WriteClose number → is_booting (phase s x.log) ≡ true → P
  closed_booted number is booting = never_both (is_booting (phase s x.log)) booting (closing_booted made (closes number is))

  own_written : (i : ℕ) (o : DiskOp) → IsOwn s x i o → IsOwn s (record x { slots = slots_after k op x.slots }) i o
  own_written i (disk.WriteClaim number) was = was
  own_written i (disk.WriteClose number) was = was
  own_written i disk.WriteClear was = record { out = was.out; part = was.part; bad = was.bad }
  own_written i disk.ReadHeader was = tt
  own_written i (disk.ReadSlot rank) was = tt
  own_written i disk.CheckMail was = tt
  own_written i disk.ReadMail was = tt
  own_written i (disk.WriteReset rank) was = tt

  -- a slot that has the claimed number and is dirty stays so
  dirty_after : (i number : ℕ) → claimed x.log ≡ Some number → (asked_close x.log ≡ false) → x.slots i ≡ dirty number → slots_after k op x.slots i ≡ dirty number
  dirty_after i number has open' was =
      slot_case (λ c. c ≡ dirty number) k op x.slots i (λ n is. ap dirty (same_Some _ _ (sym (claims n is) ∙ has))) (λ n is. never_both (asked_close x.log) (closes n is) open') was

  booting_open : is_booting (phase s x.log) ≡ true → asked_close x.log ≡ false
  booting_open booting = by_asked (asked_close x.log) refl
    where
      by_asked : (b : Bool) → asked_close x.log ≡ b → asked_close x.log ≡ false
      by_asked false e = e
      by_asked true e = never_both (is_booting (phase s x.log)) booting (closing_booted made e)

  pub kept_written : Kept s t j top (record x { slots = slots_after k op x.slots })
  kept_written = record {
    took = kept.took;
    reading = λ booting. map_two (λ i was. record { above = above_after k op x.slots keeps i was.above; read = was.read }) (kept.reading booting);
    checking = kept.checking;
    claiming = λ number e.
        let was = kept.claiming number e in
        record {
          above = was.above;
          stands = λ i value landed. dirty_after i number (out_claims made number e) (booting_open (booting_op made (disk.WriteClaim number) e refl refl)) (was.stands i value landed);
        };
    clearing = λ e.
        let was = kept.clearing e in
        record {
          number = was.number;
          claims = was.claims;
          above = was.above;
          two = map_two (λ i stands. dirty_after i was.number was.claims (booting_open (booting_op made disk.WriteClear e refl refl)) stands) was.two;
        };
    standing = λ booted.
        let was = kept.standing booted in
        record {
          claims = was.claims;
          good = was.good;
          two = λ open'. map_two (λ i stands. dirty_after i top was.claims open' stands) (was.two open');
          below = λ open' i. slot_case (λ c. c.clean ≡ true → c.incarnation < top) k op x.slots i (λ n is e. absurd (false≢true e)) (λ n is. never_both (asked_close x.log) (closes n is) open') (was.below open' i);
        };
    own = λ i o there. own_written i o (kept.own i o there);
  }

-- the part on an image lands, and took this value
module _ {s : Settings} {t : Timing} {j top : ℕ} (x : TripleSeat) (kept : Kept s t j top x) (k : ℕ) (value : What) (pending : x.parts k ≡ Pending) (took : Took s t j (op_out x.log) value)
    (reads : is_booting (phase s x.log) ≡ true → (rank : Rank) (own : Slot) → value ≡ what.SlotRead rank (slot.Read own) → own ≡ x.slots k)
    (claims : (number : ℕ) → op_out x.log ≡ Some (disk.WriteClaim number) → x.slots k ≡ dirty number) where
  landed_same : (a b : What) → Landed a ≡ Landed b → a ≡ b
  landed_same a b e = cc

  own_landed : (i : ℕ) (o : DiskOp) → IsOwn s x i o → IsOwn s (record x { parts = put x.parts k (Landed value) }) i o
  own_landed i (disk.WriteClaim number) was = was
  own_landed i (disk.WriteClose number) was = was
  own_landed i disk.WriteClear was = record {
    out = was.out;
    part = λ booting. put_case (λ p. p ≡ Failed) x.parts k i (Landed value) (λ same. absurd (not_failed (sym pending ∙ ap x.parts same ∙ was.part booting))) (was.part booting);
    bad = was.bad;
  }
    where
      not_failed : Pending ≡ Failed → ⊥
      not_failed e = cc
  own_landed i disk.ReadHeader was = tt
  own_landed i (disk.ReadSlot rank) was = tt
  own_landed i disk.CheckMail was = tt
  own_landed i disk.ReadMail was = tt
  own_landed i (disk.WriteReset rank) was = tt

  pub kept_landed : Kept s t j top (record x { parts = put x.parts k (Landed value) })
  kept_landed = record {
    took = λ i v. put_case (λ p. p ≡ Landed v → Took s t j (op_out x.log) v) x.parts k i (Landed value) (λ same e. subst (λ u. Took s t j (op_out x.log) u) (landed_same value v e) took) (kept.took i v);
    reading = λ booting. map_two (λ i was. record {
      above = was.above;
      read = λ rank own. put_case (λ p. p ≡ Landed (what.SlotRead rank (slot.Read own)) → top ≤ own.incarnation) x.parts k i (Landed value)
          (λ same e. let q = ap (λ c. c.incarnation) (reads booting rank own (landed_same value _ e) ∙ ap x.slots same) in let r = was.above in omega arith) (was.read rank own);
    }) (kept.reading booting);
    checking = kept.checking;
    claiming = λ number e.
        let was = kept.claiming number e in
        record {
          above = was.above;
          stands = λ i v. put_case (λ p. p ≡ Landed v → x.slots i ≡ dirty number) x.parts k i (Landed value) (λ same landed. ap x.slots (sym same) ∙ claims number e) (was.stands i v);
        };
    clearing = λ e. let was = kept.clearing e in record { number = was.number; claims = was.claims; above = was.above; two = was.two };
    standing = λ booted. let was = kept.standing booted in record { claims = was.claims; good = was.good; two = was.two; below = was.below };
    own = λ i o there. own_landed i o (kept.own i o there);
  }

-- what is left over where a part is given up is the operation
pub leaves_is : (o op : DiskOp) (part : Part) → IsIn o (leaves_over (Some op) part) → o ≡ op
leaves_is o op (Landed value) there = none_in there
leaves_is o op Failed there = none_in there
leaves_is o op Pending there = by_write (is_write op) there
  where
    by_write : (b : Bool) → IsIn o (if b then op ∷ [] else []) → o ≡ op
    by_write true it = only_in it
    by_write false it = none_in it

-- the part on an image fails
module _ {s : Settings} {t : Timing} {j top : ℕ} (x : TripleSeat) (made : Made s j x.log) (kept : Kept s t j top x) (k : ℕ) (op : DiskOp) (out : op_out x.log ≡ Some op) where
  own_failed : (i : ℕ) (o : DiskOp) → IsOwn s x i o → IsOwn s (part_failed k op x) i o
  own_failed i (disk.WriteClaim number) was = was
  own_failed i (disk.WriteClose number) was = was
  own_failed i disk.WriteClear was = record {
    out = was.out;
    part = λ booting. put_case (λ p. p ≡ Failed) x.parts k i Failed (λ same. refl) (was.part booting);
    bad = was.bad;
  }
  own_failed i disk.ReadHeader was = tt
  own_failed i (disk.ReadSlot rank) was = tt
  own_failed i disk.CheckMail was = tt
  own_failed i disk.ReadMail was = tt
  own_failed i (disk.WriteReset rank) was = tt

  own_given : (o : DiskOp) (i : ℕ) → op_out x.log ≡ Some o → k ≡ i → IsOwn s (part_failed k op x) i o
  own_given (disk.WriteClaim number) i out' same = out_claims made number out'
  own_given (disk.WriteClose number) i out' same = close_asked x.log number out'
  own_given disk.WriteClear i out' same = record {
    out = λ booting. out';
    part = λ booting. failed_there same;
    bad = λ booted. never_both (is_booting (phase s x.log)) (booting_op made disk.WriteClear out' refl refl) booted;
  }
    where
      failed_there : k ≡ i → put x.parts k Failed i ≡ Failed
      failed_there same' = subst (λ n. put x.parts k Failed n ≡ Failed) same' (put_same x.parts k Failed)
  own_given disk.ReadHeader i out' same = tt
  own_given (disk.ReadSlot rank) i out' same = tt
  own_given disk.CheckMail i out' same = tt
  own_given disk.ReadMail i out' same = tt
  own_given (disk.WriteReset rank) i out' same = tt

  pub kept_failed : Kept s t j top (part_failed k op x)
  kept_failed = record {
    took = λ i v. put_case (λ p. p ≡ Landed v → Took s t j (op_out x.log) v) x.parts k i Failed (λ same e. failed_not_landed v e) (kept.took i v);
    reading = λ booting. map_two (λ i was. record {
      above = was.above;
      read = λ rank own. put_case (λ p. p ≡ Landed (what.SlotRead rank (slot.Read own)) → top ≤ own.incarnation) x.parts k i Failed (λ same e. failed_not_landed _ e) (was.read rank own);
    }) (kept.reading booting);
    checking = kept.checking;
    claiming = λ number e.
        let was = kept.claiming number e in
        record { above = was.above; stands = λ i v. put_case (λ p. p ≡ Landed v → x.slots i ≡ dirty number) x.parts k i Failed (λ same e. failed_not_landed v e) (was.stands i v) };
    clearing = λ e. let was = kept.clearing e in record { number = was.number; claims = was.claims; above = was.above; two = was.two };
    standing = λ booted. let was = kept.standing booted in record { claims = was.claims; good = was.good; two = was.two; below = was.below };
    own = λ i o. put_case (λ l. IsIn o l → IsOwn s (part_failed k op x) i o) x.left k i (x.left k ++ leaves_over (Some op) (x.parts k))
        (λ same there. either i o same (in_either (x.left k) (leaves_over (Some op) (x.parts k)) there)) (λ there. own_failed i o (kept.own i o there));
  }
    where
      either : (i : ℕ) (o : DiskOp) → k ≡ i → IsIn o (x.left k) ⊎ IsIn o (leaves_over (Some op) (x.parts k)) → IsOwn s (part_failed k op x) i o
      either i o same (inl there) = own_failed i o (kept.own i o (subst (λ n. IsIn o (x.left n)) same there))
      either i o same (inr there) = own_given o i (out ∙ ap Some (sym (leaves_is o op (x.parts k) there))) same

-- an operation that is out keeps the number
pub keeps_out : {s : Settings} {t : Timing} {j top : ℕ} (x : TripleSeat) → Made s j x.log → Kept s t j top x → (op : DiskOp) → op_out x.log ≡ Some op → KeepsTop top op
keeps_out x made kept (disk.WriteClaim number) out = let above = (kept.claiming number out).above in omega arith
keeps_out {s = s} x made kept (disk.WriteClose number) out =
    same_Some _ _ (sym (out_closes made number out) ∙ (kept.standing (booted_op made (disk.WriteClose number) out refl)).claims)
keeps_out x made kept disk.ReadHeader out = tt
keeps_out x made kept (disk.ReadSlot rank) out = tt
keeps_out x made kept disk.CheckMail out = tt
keeps_out x made kept disk.WriteClear out = tt
keeps_out x made kept disk.ReadMail out = tt
keeps_out x made kept (disk.WriteReset rank) out = tt

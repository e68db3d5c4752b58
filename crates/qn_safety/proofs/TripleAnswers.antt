-- What the parts of an operation on three images answer together.
use Rattle.std.proofs.Common.{◌≡◌, ℕ, ◌≤◌, Bool, true, false, List, [], ◌∷◌, ◌++◌, Some, refl, sym, ap, ◌∙◌, subst, arith, ◌==◌, ◌&&◌, ◌||◌, not, nat_lt, unwrap_or, if◌then◌else◌, ◌⊎◌, inl, inr}
use Rattle.std.proofs.lemmas.Bool.{false≢true, eqb-true, ltb-true, ltb-false}
use Rattle.qn_base.specs.declared.ids.Rank.{Rank}
use Rattle.qn_base.specs.lemmas.Bools.{first_of_both}
use Rattle.qn_base.specs.lemmas.Elements.{IsIn, First, Behind, none_in}
use Rattle.qn_model.specs.declared.disk.Message.{Message}
use Rattle.qn_model.specs.declared.disk.Slot.{Slot}
use Rattle.qn_model.specs.declared.seen.SlotSeen.TheVariants as slot
use Rattle.qn_model.specs.declared.seen.MailSeen.TheVariants as mail
use Rattle.qn_model.specs.declared.entries.What.{What}
use Rattle.qn_model.specs.declared.entries.What.TheVariants as what
use Rattle.qn_model.specs.declared.outputs.DiskOp.{DiskOp}
use Rattle.qn_model.specs.declared.outputs.DiskOp.TheVariants as disk
use Rattle.qn_model.specs.Licences.{writes_reset}
use Rattle.qn_model.specs.Sectors.{is_deadly}
use Rattle.qn_model.specs.World.{failed}
use Rattle.qn_model.specs.lemmas.Failures.{failed_unwritten, failed_own}
use Rattle.qn_safety.specs.declared.part.Part.{Part}
use Rattle.qn_safety.specs.declared.part.Part.TheVariants.{Pending, Landed, Failed}
use Rattle.qn_safety.specs.TripleWorld.{needs_good, counted, counting, slots_among, is_above, highest, slot_among, messages_among, first_deadly, harmless, message_among, together, answer_among, answer_of}
use Rattle.qn_safety.proofs.TripleSets.{TwoOf, OneTwo, OneThree, TwoThree, first_or, in_either, only_in, in_left, in_right}

-- whether a part counts, by the list of its value
data Counts (op : DiskOp) (good : Bool) (part : Part) (values : List What) : Type 0 where
  NoneCounts : values ≡ [] → Counts op good part values
  OneCounts : (value : What) → values ≡ value ∷ [] → part ≡ Landed value → (needs_good op ≡ true → good ≡ true) → Counts op good part values

counts : (op : DiskOp) (good : Bool) (part : Part) → Counts op good part (counted op good part)
counts op good Pending = NoneCounts refl
counts op good Failed = NoneCounts refl
counts op good (Landed value) = by_test (good || not (needs_good op)) refl
  where
    good_of : (g n : Bool) → (g || not n) ≡ true → n ≡ true → g ≡ true
    good_of true n e needs = refl
    good_of false true e needs = e
    good_of false false e needs = absurd (false≢true needs)

    by_test : (b : Bool) → (good || not (needs_good op)) ≡ b → Counts op good (Landed value) (if b then value ∷ [] else [])
    by_test true e = OneCounts value refl refl (λ needs. good_of good (needs_good op) e needs)
    by_test false e = NoneCounts refl

-- the part on an image counts, with its value
pub record CountsAt (op : DiskOp) (parts : ℕ → Part) (good : ℕ → Bool) (k : ℕ) : Type 0 where
  pub value : What
  pub landed : parts k ≡ Landed value
  pub fine : needs_good op ≡ true → good k ≡ true
  pub told : IsIn value (counting op parts good)

too_few : {P : Type 0} (one first second : What) (more : List What) → one ∷ [] ≡ first ∷ second ∷ more → P
too_few one first second more e = absurd (cc)

nothing : {P : Type 0} (first second : What) (more : List What) → [] ≡ first ∷ second ∷ more → P
nothing first second more e = absurd (cc)

module _ (op : DiskOp) (parts : ℕ → Part) (good : ℕ → Bool) where
  value_at : ℕ → List What
  value_at k = counted op (good k) (parts k)

  joined_as : (a b c : List What) → counted op (good 1) (parts 1) ≡ a → counted op (good 2) (parts 2) ≡ b → counted op (good 3) (parts 3) ≡ c → counting op parts good ≡ a ++ (b ++ c)
  joined_as a b c x y z = ap (λ l. l ++ (counted op (good 2) (parts 2) ++ counted op (good 3) (parts 3))) x
      ∙ ap (λ l. a ++ (l ++ counted op (good 3) (parts 3))) y ∙ ap (λ l. a ++ (b ++ l)) z

  in_one : (v : What) → counted op (good 1) (parts 1) ≡ v ∷ [] → IsIn v (counting op parts good)
  in_one v x = in_left (counted op (good 1) (parts 1)) _ (subst (λ l. IsIn v l) (sym x) First)

  in_two : (v : What) → counted op (good 2) (parts 2) ≡ v ∷ [] → IsIn v (counting op parts good)
  in_two v x = in_right (counted op (good 1) (parts 1)) _ (in_left (counted op (good 2) (parts 2)) _ (subst (λ l. IsIn v l) (sym x) First))

  in_three : (v : What) → counted op (good 3) (parts 3) ≡ v ∷ [] → IsIn v (counting op parts good)
  in_three v x = in_right (counted op (good 1) (parts 1)) _ (in_right (counted op (good 2) (parts 2)) _ (subst (λ l. IsIn v l) (sym x) First))

  two_count : (first second : What) (more : List What) → counting op parts good ≡ first ∷ second ∷ more → TwoOf (λ k. CountsAt op parts good k)
  two_count first second more e = by_parts (counts op (good 1) (parts 1)) (counts op (good 2) (parts 2)) (counts op (good 3) (parts 3))
    where
      by_parts : Counts op (good 1) (parts 1) (counted op (good 1) (parts 1)) → Counts op (good 2) (parts 2) (counted op (good 2) (parts 2))
          → Counts op (good 3) (parts 3) (counted op (good 3) (parts 3)) → TwoOf (λ k. CountsAt op parts good k)
      by_parts (OneCounts v x l g) (OneCounts w y m h) third =
          OneTwo (record { value = v; landed = l; fine = g; told = in_one v x }) (record { value = w; landed = m; fine = h; told = in_two w y })
      by_parts (OneCounts v x l g) (NoneCounts y) (OneCounts u z n i) =
          OneThree (record { value = v; landed = l; fine = g; told = in_one v x }) (record { value = u; landed = n; fine = i; told = in_three u z })
      by_parts (NoneCounts x) (OneCounts w y m h) (OneCounts u z n i) =
          TwoThree (record { value = w; landed = m; fine = h; told = in_two w y }) (record { value = u; landed = n; fine = i; told = in_three u z })
      by_parts (OneCounts v x l g) (NoneCounts y) (NoneCounts z) = too_few v first second more (sym (joined_as (v ∷ []) [] [] x y z) ∙ e)
      by_parts (NoneCounts x) (OneCounts w y m h) (NoneCounts z) = too_few w first second more (sym (joined_as [] (w ∷ []) [] x y z) ∙ e)
      by_parts (NoneCounts x) (NoneCounts y) (OneCounts u z n i) = too_few u first second more (sym (joined_as [] [] (u ∷ []) x y z) ∙ e)
      by_parts (NoneCounts x) (NoneCounts y) (NoneCounts z) = nothing first second more (sym (joined_as [] [] [] x y z) ∙ e)

  -- each value that counts is that of a part
  pub counted_at : (v : What) → IsIn v (counting op parts good) → (k : ℕ) × (parts k ≡ Landed v)
  counted_at v there = by_first (in_either (counted op (good 1) (parts 1)) _ there)
    where
      from : (k : ℕ) → Counts op (good k) (parts k) (counted op (good k) (parts k)) → IsIn v (counted op (good k) (parts k)) → (k : ℕ) × (parts k ≡ Landed v)
      from k (NoneCounts x) it = none_in (subst (λ l. IsIn v l) x it)
      from k (OneCounts w x l g) it = (k, l ∙ ap Landed (sym (only_in (subst (λ l. IsIn v l) x it))))

      by_second : IsIn v (counted op (good 2) (parts 2)) ⊎ IsIn v (counted op (good 3) (parts 3)) → (k : ℕ) × (parts k ≡ Landed v)
      by_second (inl it) = from 2 (counts op (good 2) (parts 2)) it
      by_second (inr it) = from 3 (counts op (good 3) (parts 3)) it

      by_first : IsIn v (counted op (good 1) (parts 1)) ⊎ IsIn v (counted op (good 2) (parts 2) ++ counted op (good 3) (parts 3)) → (k : ℕ) × (parts k ≡ Landed v)
      by_first (inl it) = from 1 (counts op (good 1) (parts 1)) it
      by_first (inr it) = by_second (in_either (counted op (good 2) (parts 2)) _ it)

-- an answer is a failure, or two parts count
pub data AnswerIs (op : DiskOp) (parts : ℕ → Part) (good : ℕ → Bool) (entry : What) : Type 0 where
  FewCount : entry ≡ failed op → AnswerIs op parts good entry
  TwoCount : (first : What) → IsIn first (counting op parts good) → TwoOf (λ k. CountsAt op parts good k)
      → entry ≡ together op first (counting op parts good) → AnswerIs op parts good entry

pub answer_is : (op : DiskOp) (parts : ℕ → Part) (good : ℕ → Bool) → AnswerIs op parts good (answer_of op parts good)
unfolding answer_of
answer_is op parts good = by_values (counting op parts good) refl
  where
    by_values : (values : List What) → counting op parts good ≡ values → AnswerIs op parts good (answer_among op values)
    by_values [] e = FewCount refl
    by_values (one ∷ []) e = FewCount refl
    by_values (first ∷ second ∷ more) e =
        TwoCount first (subst (λ l. IsIn first l) (sym e) First) (two_count op parts good first second more e) (ap (λ l. together op first l) (sym e))

-- the slots among values
behind_slot : (v : What) (values : List What) (found : Slot) → IsIn found (slots_among values) → IsIn found (slots_among (v ∷ values))
behind_slot (what.SlotRead other (slot.Read first)) values found there = Behind first there
behind_slot v values found there = there

pub slot_in : (other : Rank) (found : Slot) (values : List What) → IsIn (what.SlotRead other (slot.Read found)) values → IsIn found (slots_among values)
slot_in other found [] there = none_in there
slot_in other found (v ∷ values) there = either (first_or there) (λ more. slot_in other found values more)
  where
    either : (what.SlotRead other (slot.Read found) ≡ v) ⊎ IsIn (what.SlotRead other (slot.Read found)) values → (IsIn (what.SlotRead other (slot.Read found)) values → IsIn found (slots_among values))
        → IsIn found (slots_among (v ∷ values))
    either (inl same) rest = subst (λ x. IsIn found (slots_among (x ∷ values))) same First
    either (inr more) rest = behind_slot v values found (rest more)

-- a slot among values was read
pub record ReadIn (found : Slot) (values : List What) : Type 0 where
  pub rank : Rank
  pub there : IsIn (what.SlotRead rank (slot.Read found)) values

read_behind : {found : Slot} {values : List What} (v : What) → ReadIn found values → ReadIn found (v ∷ values)
read_behind v it = record { rank = it.rank; there = Behind v it.there }

pub slot_from : (found : Slot) (values : List What) → IsIn found (slots_among values) → ReadIn found values
slot_from found [] there = none_in there
slot_from found (what.SlotRead other (slot.Read first) ∷ values) there = either (first_or there) (λ more. slot_from found values more)
  where
    either : (found ≡ first) ⊎ IsIn found (slots_among values) → (IsIn found (slots_among values) → ReadIn found values) → ReadIn found (what.SlotRead other (slot.Read first) ∷ values)
    either (inl same) rest = record { rank = other; there = subst (λ x. IsIn (what.SlotRead other (slot.Read found)) (what.SlotRead other (slot.Read x) ∷ values)) same First }
    either (inr more) rest = read_behind (what.SlotRead other (slot.Read first)) (rest more)
slot_from found (v ∷ values) there = read_behind v (slot_from found values there)

above_le : (one other : Slot) → is_above one other ≡ true → other.incarnation ≤ one.incarnation
above_le one other e = by_less (nat_lt other.incarnation one.incarnation) refl e
  where
    by_less : (b : Bool) → nat_lt other.incarnation one.incarnation ≡ b → (b || (one.incarnation == other.incarnation && one.clean && not other.clean)) ≡ true → other.incarnation ≤ one.incarnation
    by_less true less e = let p = ltb-true other.incarnation one.incarnation less in omega arith
    by_less false less e =
        let p = eqb-true one.incarnation other.incarnation (first_of_both (one.incarnation == other.incarnation) one.clean (first_of_both (one.incarnation == other.incarnation && one.clean) (not other.clean) e)) in omega arith

not_above_le : (one other : Slot) → is_above one other ≡ false → one.incarnation ≤ other.incarnation
not_above_le one other e = by_less (nat_lt other.incarnation one.incarnation) refl e
  where
    by_less : (b : Bool) → nat_lt other.incarnation one.incarnation ≡ b → (b || (one.incarnation == other.incarnation && one.clean && not other.clean)) ≡ false → one.incarnation ≤ other.incarnation
    by_less true less e = absurd (false≢true (sym e))
    by_less false less e = ltb-false other.incarnation one.incarnation less

-- the highest of some slots is one of them, and none has a greater incarnation
pub record IsHighest (best : Slot) (found : List Slot) : Type 0 where
  pub one : IsIn best found
  pub top : (other : Slot) → IsIn other found → other.incarnation ≤ best.incarnation

highest_is : (best : Slot) (more : List Slot) → IsHighest (highest best more) (best ∷ more)
highest_is best [] = record { one = First; top = λ other there. let same = ap (λ x. x.incarnation) (only_in there) in omega arith }
highest_is best (next ∷ more) = by_test (is_above next best) refl (highest_is next more) (highest_is best more)
  where
    by_test : (b : Bool) → is_above next best ≡ b → IsHighest (highest next more) (next ∷ more) → IsHighest (highest best more) (best ∷ more)
        → IsHighest (highest (if b then next else best) more) (best ∷ next ∷ more)
    by_test true above it other' = record {
      one = Behind best it.one;
      top = λ other there. old other (first_or there);
    }
      where
        old : (other : Slot) → (other ≡ best) ⊎ IsIn other (next ∷ more) → other.incarnation ≤ (highest next more).incarnation
        old other (inl same) = let p = above_le next best above in let q = it.top next First in let r = ap (λ x. x.incarnation) same in omega arith
        old other (inr there) = it.top other there
    by_test false below other' it = record {
      one = late (first_or it.one);
      top = λ other there. old other (first_or there);
    }
      where
        late : (highest best more ≡ best) ⊎ IsIn (highest best more) more → IsIn (highest best more) (best ∷ next ∷ more)
        late (inl same) = subst (λ x. IsIn (highest best more) (x ∷ next ∷ more)) same First
        late (inr there) = Behind best (Behind next there)

        newer : (other : Slot) → (other ≡ next) ⊎ IsIn other more → other.incarnation ≤ (highest best more).incarnation
        newer other (inl same) = let p = not_above_le next best below in let q = it.top best First in let r = ap (λ x. x.incarnation) same in omega arith
        newer other (inr there) = it.top other (Behind best there)

        old : (other : Slot) → (other ≡ best) ⊎ IsIn other (next ∷ more) → other.incarnation ≤ (highest best more).incarnation
        old other (inl same) = let q = it.top best First in let r = ap (λ x. x.incarnation) same in omega arith
        old other (inr there) = newer other (first_or there)

pub read_highest : (found : List Slot) (best : Slot) → slot_among found ≡ slot.Read best → IsHighest best found
read_highest [] best e = absurd (nothing_read e)
  where
    nothing_read : slot.Failed ≡ slot.Read best → ⊥
    nothing_read x = cc
read_highest (first ∷ more) best e = subst (λ x. IsHighest x (first ∷ more)) (same e) (highest_is first more)
  where
    same : slot.Read (highest first more) ≡ slot.Read best → highest first more ≡ best
    same x = cc

-- the messages among values
behind_mail : (v : What) (values : List What) (found : Message) → IsIn found (messages_among values) → IsIn found (messages_among (v ∷ values))
behind_mail (what.MailRead (mail.Read first)) values found there = Behind first there
behind_mail (what.MailChecked (mail.Read first)) values found there = Behind first there
behind_mail v values found there = there

pub mail_in : (found : Message) (values : List What) → IsIn (what.MailRead (mail.Read found)) values → IsIn found (messages_among values)
mail_in found [] there = none_in there
mail_in found (v ∷ values) there = either (first_or there) (λ more. mail_in found values more)
  where
    either : (what.MailRead (mail.Read found) ≡ v) ⊎ IsIn (what.MailRead (mail.Read found)) values → (IsIn (what.MailRead (mail.Read found)) values → IsIn found (messages_among values))
        → IsIn found (messages_among (v ∷ values))
    either (inl same) rest = subst (λ x. IsIn found (messages_among (x ∷ values))) same First
    either (inr more) rest = behind_mail v values found (rest more)

-- where one of some messages is deadly, what they tell together is
deadly_first : (m : Message) (messages : List Message) (other : Message) → IsIn m messages → is_deadly m ≡ true → is_deadly (unwrap_or (first_deadly messages) other) ≡ true
deadly_first m [] other there deadly = none_in there
deadly_first m (first ∷ more) other there deadly = by_test (is_deadly first) refl (first_or there) (λ later. deadly_first m more other later deadly)
  where
    by_test : (b : Bool) → is_deadly first ≡ b → (m ≡ first) ⊎ IsIn m more → (IsIn m more → is_deadly (unwrap_or (first_deadly more) other) ≡ true)
        → is_deadly (unwrap_or (if b then Some first else first_deadly more) other) ≡ true
    by_test true e either rest = e
    by_test false e (inl same) rest = absurd (false≢true (sym e ∙ ap is_deadly (sym same) ∙ deadly))
    by_test false e (inr later) rest = rest later

pub deadly_told : (m : Message) (found : List Message) → IsIn m found → is_deadly m ≡ true → is_deadly (message_among found) ≡ true
deadly_told m found there deadly = deadly_first m found (harmless found) there deadly

-- a reset that was written has two parts that count; the rank of the reset
pub record ResetOf (op : DiskOp) (j : ℕ) : Type 0 where
  pub other : Rank
  pub is : op ≡ disk.WriteReset other
  pub own : other.0 ≡ j

together_resets : (j : ℕ) (op : DiskOp) (first : What) (values : List What) → writes_reset j (together op first values) ≡ true → ResetOf op j
together_resets j (disk.WriteReset other) first values e = record { other = other; is = refl; own = eqb-true other.0 j (first_of_both (other.0 == j) true e) }
together_resets j disk.ReadHeader first values e = absurd (false≢true e)
together_resets j (disk.ReadSlot other) first values e = absurd (false≢true e)
together_resets j disk.CheckMail first values e = absurd (false≢true e)
together_resets j (disk.WriteClaim number) first values e = absurd (false≢true e)
together_resets j disk.WriteClear first values e = absurd (false≢true e)
together_resets j disk.ReadMail first values e = absurd (false≢true e)
together_resets j (disk.WriteClose number) first values e = absurd (false≢true e)

pub written_answer : (j : ℕ) (op : DiskOp) (parts : ℕ → Part) (good : ℕ → Bool) → writes_reset j (answer_of op parts good) ≡ true
    → ResetOf op j × TwoOf (λ k. CountsAt op parts good k)
written_answer j op parts good writes = by_answer (answer_is op parts good)
  where
    by_answer : AnswerIs op parts good (answer_of op parts good) → ResetOf op j × TwoOf (λ k. CountsAt op parts good k)
    by_answer (FewCount e) = absurd (failed_unwritten j op (subst (λ v. writes_reset j v ≡ true) e writes))
    by_answer (TwoCount first there two e) = (together_resets j op first (counting op parts good) (subst (λ v. writes_reset j v ≡ true) e writes), two)

-- a claim that was written has two parts that count
failed_unclaimed : (op : DiskOp) → failed op ≡ what.Claimed true → ⊥
unfolding failed
failed_unclaimed disk.ReadHeader e = cc
failed_unclaimed (disk.ReadSlot other) e = cc
failed_unclaimed disk.CheckMail e = cc
failed_unclaimed (disk.WriteClaim number) e = cc
failed_unclaimed disk.WriteClear e = cc
failed_unclaimed disk.ReadMail e = cc
failed_unclaimed (disk.WriteReset other) e = cc
failed_unclaimed (disk.WriteClose number) e = cc

pub claimed_two : (op : DiskOp) (parts : ℕ → Part) (good : ℕ → Bool) → answer_of op parts good ≡ what.Claimed true → TwoOf (λ k. CountsAt op parts good k)
claimed_two op parts good claims = by_answer (answer_is op parts good)
  where
    by_answer : AnswerIs op parts good (answer_of op parts good) → TwoOf (λ k. CountsAt op parts good k)
    by_answer (FewCount e) = absurd (failed_unclaimed op (sym e ∙ claims))
    by_answer (TwoCount first there two e) = two

failed_uncleared : (op : DiskOp) → failed op ≡ what.Cleared true → ⊥
unfolding failed
failed_uncleared disk.ReadHeader e = cc
failed_uncleared (disk.ReadSlot other) e = cc
failed_uncleared disk.CheckMail e = cc
failed_uncleared (disk.WriteClaim number) e = cc
failed_uncleared disk.WriteClear e = cc
failed_uncleared disk.ReadMail e = cc
failed_uncleared (disk.WriteReset other) e = cc
failed_uncleared (disk.WriteClose number) e = cc

pub cleared_two : (op : DiskOp) (parts : ℕ → Part) (good : ℕ → Bool) → answer_of op parts good ≡ what.Cleared true → TwoOf (λ k. CountsAt op parts good k)
cleared_two op parts good clears = by_answer (answer_is op parts good)
  where
    by_answer : AnswerIs op parts good (answer_of op parts good) → TwoOf (λ k. CountsAt op parts good k)
    by_answer (FewCount e) = absurd (failed_uncleared op (sym e ∙ clears))
    by_answer (TwoCount first there two e) = two

-- a read of a slot that gave one: what it asked for, and the two parts that count
pub record SlotTold (op : DiskOp) (parts : ℕ → Part) (good : ℕ → Bool) (rank : Rank) (own : Slot) : Type 0 where
  pub is : op ≡ disk.ReadSlot rank
  pub two : TwoOf (λ k. CountsAt op parts good k)
  pub best : IsHighest own (slots_among (counting op parts good))

together_slot : (op : DiskOp) (first : What) (values : List What) (rank : Rank) (own : Slot) → together op first values ≡ what.SlotRead rank (slot.Read own)
    → (op ≡ disk.ReadSlot rank) × (slot_among (slots_among values) ≡ slot.Read own)
together_slot (disk.ReadSlot other) first values rank own e = (ap disk.ReadSlot (same_rank e), same_slot e)
  where
    same_rank : what.SlotRead other (slot_among (slots_among values)) ≡ what.SlotRead rank (slot.Read own) → other ≡ rank
    same_rank x = cc

    same_slot : what.SlotRead other (slot_among (slots_among values)) ≡ what.SlotRead rank (slot.Read own) → slot_among (slots_among values) ≡ slot.Read own
    same_slot x = cc
together_slot disk.ReadHeader first values rank own e = absurd (cc)
together_slot disk.CheckMail first values rank own e = absurd (cc)
together_slot (disk.WriteClaim number) first values rank own e = absurd (cc)
together_slot disk.WriteClear first values rank own e = absurd (cc)
together_slot disk.ReadMail first values rank own e = absurd (cc)
together_slot (disk.WriteReset other) first values rank own e = absurd (cc)
together_slot (disk.WriteClose number) first values rank own e = absurd (cc)

pub slot_told : (op : DiskOp) (parts : ℕ → Part) (good : ℕ → Bool) (rank : Rank) (own : Slot) → answer_of op parts good ≡ what.SlotRead rank (slot.Read own)
    → SlotTold op parts good rank own
slot_told op parts good rank own reads = by_answer (answer_is op parts good)
  where
    by_answer : AnswerIs op parts good (answer_of op parts good) → SlotTold op parts good rank own
    by_answer (FewCount e) = absurd (failed_own op rank own (sym e ∙ reads))
    by_answer (TwoCount first there two e) =
        let told = together_slot op first (counting op parts good) rank own (sym e ∙ reads) in
        record { is = told.0; two = two; best = read_highest (slots_among (counting op parts good)) own told.1 }

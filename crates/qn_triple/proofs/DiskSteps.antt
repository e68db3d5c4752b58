-- What a world of three images stands for after one of its parts changed.
use Rattle.std.proofs.Common.{◌≡◌, ◌≢◌, ℕ, suc, zero, ◌-◌, ◌<◌, Bool, true, false, List, [], ◌∷◌, length, Some, None, refl, ◌⊎◌, inl, inr, if◌then◌else◌, sym, ◌∙◌, ap, subst, arith, eq-eqb}
use Rattle.std.specs.Prelude.{Option, slice_get, slice_set, ◌==◌}
use Rattle.std.proofs.lemmas.Bool.{eqb-true, false≢true}
use Rattle.std.proofs.lemmas.Option.{slice_get_within}
use Rattle.qn_base.specs.lemmas.Lists.{get_set_same, get_set_apart}
use Rattle.qn_base.specs.lemmas.Numbers.{equal_to_itself, same_or_not}
use Rattle.qn_cluster.specs.Nodes.{Nodes}
use Rattle.qn_cluster.specs.Standing.{ClusterFor}
use Rattle.qn_cluster.specs.declared.sectors.Sectors.{Sectors}
use Rattle.qn_cluster.specs.declared.leftovers.Leftover.{Leftover}
use Rattle.qn_cluster.specs.DiskStanding.{LeftFor, SectorsFor}
use Rattle.qn_model.specs.declared.disk.Message.{Message}
use Rattle.qn_model.specs.declared.disk.Slot.{Slot}
use Rattle.qn_model.specs.declared.outputs.DiskOp.{DiskOp}
use Rattle.qn_model.specs.declared.outputs.DiskOp.TheVariants as disk
use Rattle.qn_model.specs.Moments.{Moment}
use Rattle.qn_model.specs.World.{mailboxes_with, put, slots_with}
use Rattle.qn_parts.specs.Parts.{is_good_on, part_on}
use Rattle.qn_safety.specs.declared.part.Part.{Part}
use Rattle.qn_safety.specs.ImagesApart.{mailboxes_other, put_on_other, slots_other}
use Rattle.qn_safety.specs.TripleRules.{is_image, none_pending}
use Rattle.qn_safety.specs.TripleSteps.{written_on}
use Rattle.qn_safety.specs.TripleWorld.{TripleWorld, all_pending, answer_of, good_after, has_landed, is_pending, mailboxes_on, put_on, slots_on}
use Rattle.qn_cluster.specs.WorldSteps.{OtherDisk, Turns}
use Rattle.qn_triple.specs.Standing.{GoodAt, IsStanding, PartsAt, SectorsAt, TripleFor, three_images}
use Rattle.qn_triple.specs.Stepping.{Mails, Writes}
use Rattle.qn_triple.specs.Whole.{Whole, cluster_of, with_nodes}
use Rattle.qn_cluster.specs.ListLaws.{by_image}

-- other nodes, after some moments
pub with_moments : (w : Whole) (c : Nodes) (d : TripleWorld) (moments : List Moment) → TripleFor w d → c.settings ≡ w.settings → ClusterFor c moments
    → TripleFor (with_nodes w c) (record d { moments = moments })
with_moments w c d moments is same cluster =
    record {
      safe = is.safe;
      cluster = cluster;
      parts = is.parts;
      good = is.good;
      images = is.images;
      lefts = subst (λ s. LeftFor (length s.nodes) w.left d.left) (sym same) is.lefts;
    }

pub moved : (w new : Whole) (d : TripleWorld) (moments : List Moment) → TripleFor w d → new ≡ with_nodes w (cluster_of new) → new.settings ≡ w.settings
    → ClusterFor (cluster_of new) moments → TripleFor new (record d { moments = moments })
moved w new d moments is disk same cluster =
    subst (λ n. TripleFor n (record d { moments = moments })) (sym disk) (with_moments w (cluster_of new) d moments is same cluster)

-- a value that is put, by a test of its place
put_at : {A : Type 0} (f : ℕ → A) (i : ℕ) (value : A) (j : ℕ) (b : Bool) → (i == j) ≡ b → put f i value j ≡ (if b then value else f j)
put_at f i value j b e = ap (λ b. if b then value else f j) e

-- the parts of a rank
pub parts_put : (w new : Whole) (d : TripleWorld) (i : ℕ) (own : List Part) (wanted : ℕ → Part) → TripleFor w d → i < 32
    → new ≡ record w { parts = slice_set w.parts i own } → ((image : ℕ) → is_image image ≡ true → part_on own image ≡ wanted image)
    → TripleFor new (record d { parts = put d.parts i wanted })
parts_put w new d i own wanted is below e each =
    subst (λ n. TripleFor n (record d { parts = put d.parts i wanted })) (sym e)
    (record { safe = is.safe; cluster = is.cluster; parts = λ rank few. at_rank rank few (same_or_not i rank); good = is.good; images = is.images; lefts = is.lefts })
  where
    within : i < length w.parts
    within = slice_get_within w.parts i (is.parts i below).own (is.parts i below).here

    at_rank : (rank : ℕ) → rank < 32 → (i ≡ rank) ⊎ ((i == rank) ≡ false) → PartsAt (slice_set w.parts i own) rank (put d.parts i wanted rank)
    at_rank rank few (inl same) =
        subst (λ rank. PartsAt (slice_set w.parts i own) rank (put d.parts i wanted rank)) same
        (record {
          own = own;
          here = get_set_same w.parts i own within;
          each = λ image one. each image one ∙ sym (ap (λ f. f image) (put_at d.parts i wanted i true (equal_to_itself i)));
        })
    at_rank rank few (inr apart) =
        let at = is.parts rank few in
        record {
          own = at.own;
          here = get_set_apart w.parts i rank own (λ same. false≢true (sym apart ∙ eq-eqb i rank same)) ∙ at.here;
          each = λ image one. at.each image one ∙ sym (ap (λ f. f image) (put_at d.parts i wanted rank false apart));
        }

-- the good images of a rank
pub good_put : (w new : Whole) (d : TripleWorld) (i : ℕ) (own : List Bool) (wanted : ℕ → Bool) → TripleFor w d → i < 32
    → new ≡ record w { good = slice_set w.good i own } → ((image : ℕ) → is_image image ≡ true → is_good_on own image ≡ wanted image)
    → TripleFor new (record d { good = put d.good i wanted })
good_put w new d i own wanted is below e each =
    subst (λ n. TripleFor n (record d { good = put d.good i wanted })) (sym e)
    (record { safe = is.safe; cluster = is.cluster; parts = is.parts; good = λ rank few. at_rank rank few (same_or_not i rank); images = is.images; lefts = is.lefts })
  where
    within : i < length w.good
    within = slice_get_within w.good i (is.good i below).own (is.good i below).here

    at_rank : (rank : ℕ) → rank < 32 → (i ≡ rank) ⊎ ((i == rank) ≡ false) → GoodAt (slice_set w.good i own) rank (put d.good i wanted rank)
    at_rank rank few (inl same) =
        subst (λ rank. GoodAt (slice_set w.good i own) rank (put d.good i wanted rank)) same
        (record {
          own = own;
          here = get_set_same w.good i own within;
          each = λ image one. each image one ∙ sym (ap (λ f. f image) (put_at d.good i wanted i true (equal_to_itself i)));
        })
    at_rank rank few (inr apart) =
        let at = is.good rank few in
        record {
          own = at.own;
          here = get_set_apart w.good i rank own (λ same. false≢true (sym apart ∙ eq-eqb i rank same)) ∙ at.here;
          each = λ image one. at.each image one ∙ sym (ap (λ f. f image) (put_at d.good i wanted rank false apart));
        }

-- the leftovers changed
pub lefts_put : (w new : Whole) (d : TripleWorld) (items : List Leftover) (left : ℕ → ℕ → List DiskOp) → TripleFor w d
    → new ≡ record w { left = items } → LeftFor (length w.settings.nodes) items left → TripleFor new (record d { left = left })
lefts_put w new d items left is e lefts =
    subst (λ n. TripleFor n (record d { left = left })) (sym e)
    (record { safe = is.safe; cluster = is.cluster; parts = is.parts; good = is.good; images = is.images; lefts = lefts })

-- the leftovers of a world are those of another one on each image
pub lefts_same : (w : Whole) (d : TripleWorld) (left : ℕ → ℕ → List DiskOp) → TripleFor w d
    → ((rank image : ℕ) → is_image image ≡ true → d.left rank image ≡ left rank image) → TripleFor w (record d { left = left })
lefts_same w d left is same =
    record {
      safe = is.safe;
      cluster = is.cluster;
      parts = is.parts;
      good = is.good;
      images = is.images;
      lefts = record { lefts = λ rank image one. is.lefts.lefts rank image one ∙ same rank image one; targets = is.lefts.targets };
    }

-- the place of an image that is another one
place_apart : (image k : ℕ) → is_image image ≡ true → is_image k ≡ true → (image == k) ≡ false → image - 1 ≢ k - 1
place_apart zero k one one_k apart e = absurd (cc)
place_apart (suc image) zero one one_k apart e = absurd (cc)
place_apart (suc image) (suc k) one one_k apart e =
    let same : suc image ≡ suc k = omega arith in
    false≢true (sym apart ∙ eq-eqb (suc image) (suc k) same)

-- the sectors of an image changed, and those of the others did not
pub record OneImage (image : ℕ) (d : TripleWorld) (slots : ℕ → ℕ → Slot) (mailboxes : ℕ → ℕ → Message) (after : Sectors) : Type 0 where
  pub stands : SectorsFor after (λ rank. slots rank image) (λ rank. mailboxes rank image)
  pub other_slots : (rank k : ℕ) → (image == k) ≡ false → slots rank k ≡ d.slots rank k
  pub other_mailboxes : (rank k : ℕ) → (image == k) ≡ false → mailboxes rank k ≡ d.mailboxes rank k

pub sectors_put : (w new : Whole) (d : TripleWorld) (image : ℕ) (slots : ℕ → ℕ → Slot) (mailboxes : ℕ → ℕ → Message) (after : Sectors) → TripleFor w d
    → is_image image ≡ true → new ≡ record w { sectors = slice_set w.sectors (image - 1) after } → OneImage image d slots mailboxes after
    → TripleFor new (record d { slots = slots; mailboxes = mailboxes })
sectors_put w new d image slots mailboxes after is one e changed =
    subst (λ n. TripleFor n (record d { slots = slots; mailboxes = mailboxes })) (sym e)
    (record { safe = is.safe; cluster = is.cluster; parts = is.parts; good = is.good; images = λ k one_k. at_image k one_k (same_or_not image k); lefts = is.lefts })
  where
    within : image - 1 < length w.sectors
    within = slice_get_within w.sectors (image - 1) (is.images image one).own (is.images image one).here

    at_image : (k : ℕ) → is_image k ≡ true → (image ≡ k) ⊎ ((image == k) ≡ false)
        → SectorsAt (slice_set w.sectors (image - 1) after) k (λ rank. slots rank k) (λ rank. mailboxes rank k)
    at_image k one_k (inl same) =
        subst (λ k. SectorsAt (slice_set w.sectors (image - 1) after) k (λ rank. slots rank k) (λ rank. mailboxes rank k)) same
        (record { own = after; here = get_set_same w.sectors (image - 1) after within; stands = changed.stands })
    at_image k one_k (inr apart) =
        let at = is.images k one_k in
        record {
          own = at.own;
          here = get_set_apart w.sectors (image - 1) (k - 1) after (place_apart image k one one_k apart) ∙ at.here;
          stands = record {
            sectors = λ rank few. at.stands.sectors rank few ∙ ap Some (sym (changed.other_slots rank k apart));
            letters = λ rank few. at.stands.letters rank few ∙ ap Some (sym (changed.other_mailboxes rank k apart));
          };
        }

-- ---- one value of a rank and an image

-- on its image a value that is put is that of the rank, and on the others it is none
pub put_on_own : {A : Type 0} (f : ℕ → ℕ → A) (i image : ℕ) (value : A) (rank : ℕ) (b : Bool) → (i == rank) ≡ b
    → put (λ r. f r image) i value rank ≡ put_on f i image value rank image
put_on_own f i image value rank true e =
    ap (λ b. if b then value else f rank image) e
    ∙ sym (ap (λ b. (if b then put (f i) image value else f rank) image) e ∙ ap (λ b. if b then value else f i image) (equal_to_itself image))
put_on_own f i image value rank false e =
    ap (λ b. if b then value else f rank image) e ∙ sym (ap (λ b. (if b then put (f i) image value else f rank) image) e)

slots_own : (i image : ℕ) (op : DiskOp) (slots : ℕ → ℕ → Slot) (rank : ℕ) → slots_with i op (λ r. slots r image) rank ≡ slots_on i image op slots rank image
slots_own i image (disk.WriteClaim number) slots rank = put_on_own slots i image (record { incarnation = number; clean = false }) rank (i == rank) refl
slots_own i image (disk.WriteClose number) slots rank = put_on_own slots i image (record { incarnation = number; clean = true }) rank (i == rank) refl
slots_own i image disk.ReadHeader slots rank = refl
slots_own i image (disk.ReadSlot other) slots rank = refl
slots_own i image disk.CheckMail slots rank = refl
slots_own i image disk.WriteClear slots rank = refl
slots_own i image disk.ReadMail slots rank = refl
slots_own i image (disk.WriteReset other) slots rank = refl

mailboxes_own : (i image : ℕ) (op : DiskOp) (mailboxes : ℕ → ℕ → Message) (rank : ℕ)
    → mailboxes_with i op (λ r. mailboxes r image) rank ≡ mailboxes_on i image op mailboxes rank image
mailboxes_own i image disk.WriteClear mailboxes rank = put_on_own mailboxes i image _ rank (i == rank) refl
mailboxes_own i image (disk.WriteReset other) mailboxes rank = put_on_own mailboxes other.0 image _ rank (other.0 == rank) refl
mailboxes_own i image disk.ReadHeader mailboxes rank = refl
mailboxes_own i image (disk.ReadSlot other) mailboxes rank = refl
mailboxes_own i image disk.CheckMail mailboxes rank = refl
mailboxes_own i image (disk.WriteClaim number) mailboxes rank = refl
mailboxes_own i image disk.ReadMail mailboxes rank = refl
mailboxes_own i image (disk.WriteClose number) mailboxes rank = refl

-- the sectors stand for values that are equal
pub sectors_same : (c : Sectors) (slots slots_too : ℕ → Slot) (mailboxes mailboxes_too : ℕ → Message) → SectorsFor c slots mailboxes
    → ((rank : ℕ) → slots rank ≡ slots_too rank) → ((rank : ℕ) → mailboxes rank ≡ mailboxes_too rank) → SectorsFor c slots_too mailboxes_too
sectors_same c slots slots_too mailboxes mailboxes_too is in_slots in_mailboxes =
    record { sectors = λ rank few. is.sectors rank few ∙ ap Some (in_slots rank); letters = λ rank few. is.letters rank few ∙ ap Some (in_mailboxes rank) }

-- a write of a rank landed on an image
pub wrote : (i image : ℕ) (op : DiskOp) (d : TripleWorld) (after : Sectors)
    → SectorsFor after (slots_with i op (λ rank. d.slots rank image)) (mailboxes_with i op (λ rank. d.mailboxes rank image))
    → OneImage image d (slots_on i image op d.slots) (mailboxes_on i image op d.mailboxes) after
wrote i image op d after is =
    record {
      stands =
          sectors_same after (slots_with i op (λ rank. d.slots rank image)) (λ rank. slots_on i image op d.slots rank image)
          (mailboxes_with i op (λ rank. d.mailboxes rank image)) (λ rank. mailboxes_on i image op d.mailboxes rank image) is
          (slots_own i image op d.slots) (mailboxes_own i image op d.mailboxes);
      other_slots = slots_other i image op d.slots;
      other_mailboxes = mailboxes_other i image op d.mailboxes;
    }

-- a message was put into the mailbox of a rank on an image
pub mailed : (i image : ℕ) (value : Message) (d : TripleWorld) (after : Sectors)
    → SectorsFor after (λ rank. d.slots rank image) (put (λ rank. d.mailboxes rank image) i value)
    → OneImage image d d.slots (put_on d.mailboxes i image value) after
mailed i image value d after is =
    record {
      stands =
          sectors_same after (λ rank. d.slots rank image) (λ rank. d.slots rank image) (put (λ rank. d.mailboxes rank image) i value)
          (λ rank. put_on d.mailboxes i image value rank image) is (λ rank. refl) (λ rank. put_on_own d.mailboxes i image value rank (i == rank) refl);
      other_slots = λ rank k apart. refl;
      other_mailboxes = λ rank k apart. put_on_other d.mailboxes i image value rank k (i == rank) refl apart;
    }

-- ---- what the calls of the code leave

-- the list that is read is the one that stands there
same_some : {A : Type 0} (o : Option A) (x y : A) → o ≡ Some x → o ≡ Some y → x ≡ y
same_some None x y p q = absurd (cc)
same_some (Some z) x y p q = cc

pub parts_read : (w : Whole) (d : TripleWorld) (i : ℕ) (own : List Part) → TripleFor w d → i < 32 → slice_get w.parts i ≡ Some own
    → (image : ℕ) → is_image image ≡ true → part_on own image ≡ d.parts i image
parts_read w d i own is below here image one =
    let at = is.parts i below in
    ap (λ own. part_on own image) (same_some (slice_get w.parts i) own at.own here at.here) ∙ at.each image one

pub good_read : (w : Whole) (d : TripleWorld) (i : ℕ) (own : List Bool) → TripleFor w d → i < 32 → slice_get w.good i ≡ Some own
    → (image : ℕ) → is_image image ≡ true → is_good_on own image ≡ d.good i image
good_read w d i own is below here image one =
    let at = is.good i below in
    ap (λ own. is_good_on own image) (same_some (slice_get w.good i) own at.own here at.here) ∙ at.each image one

pub sectors_read : (w : Whole) (d : TripleWorld) (image : ℕ) (own : Sectors) → TripleFor w d → is_image image ≡ true → slice_get w.sectors (image - 1) ≡ Some own
    → SectorsFor own (λ rank. d.slots rank image) (λ rank. d.mailboxes rank image)
sectors_read w d image own is one here =
    let at = is.images image one in
    subst (λ own. SectorsFor own (λ rank. d.slots rank image) (λ rank. d.mailboxes rank image))
    (same_some (slice_get w.sectors (image - 1)) at.own own at.here here) at.stands

pub place_below : (image : ℕ) → is_image image ≡ true → image - 1 < 3
place_below image one = by_image (λ image. image - 1 < 3) (omega arith) (omega arith) (omega arith) image one

-- the answer and the good images after it depend on the three images alone
pub answer_same : (op : DiskOp) (parts parts_too : ℕ → Part) (good good_too : ℕ → Bool)
    → ((image : ℕ) → is_image image ≡ true → parts image ≡ parts_too image) → ((image : ℕ) → is_image image ≡ true → good image ≡ good_too image)
    → answer_of op parts good ≡ answer_of op parts_too good_too
unfolding answer_of
answer_same op parts parts_too good good_too same_parts same_good =
    rw (same_parts 1 refl, same_parts 2 refl, same_parts 3 refl, same_good 1 refl, same_good 2 refl, same_good 3 refl) refl

pub good_after_same : (op : DiskOp) (parts parts_too : ℕ → Part) (good good_too : ℕ → Bool) (image : ℕ)
    → parts image ≡ parts_too image → good image ≡ good_too image → good_after op parts good image ≡ good_after op parts_too good_too image
good_after_same disk.WriteClear parts parts_too good good_too image p q = ap has_landed p
good_after_same disk.ReadHeader parts parts_too good good_too image p q = q
good_after_same (disk.ReadSlot other) parts parts_too good good_too image p q = q
good_after_same disk.CheckMail parts parts_too good good_too image p q = q
good_after_same (disk.WriteClaim number) parts parts_too good good_too image p q = q
good_after_same disk.ReadMail parts parts_too good good_too image p q = q
good_after_same (disk.WriteReset other) parts parts_too good good_too image p q = q
good_after_same (disk.WriteClose number) parts parts_too good good_too image p q = q

-- the parts of an operation with another one on an image
abbrev pub WithPart : List Part → ℕ → Part → List Part → Type 0
WithPart parts image part changed = (k : ℕ) → is_image k ≡ true → part_on changed k ≡ put (part_on parts) image part k

pub first_part : (parts : List Part) (part : Part) → WithPart parts 1 part (part ∷ part_on parts 2 ∷ part_on parts 3 ∷ [])
first_part parts part = by_image (λ k. part_on (part ∷ part_on parts 2 ∷ part_on parts 3 ∷ []) k ≡ put (part_on parts) 1 part k) refl refl refl

pub second_part : (parts : List Part) (part : Part) → WithPart parts 2 part (part_on parts 1 ∷ part ∷ part_on parts 3 ∷ [])
second_part parts part = by_image (λ k. part_on (part_on parts 1 ∷ part ∷ part_on parts 3 ∷ []) k ≡ put (part_on parts) 2 part k) refl refl refl

pub third_part : (parts : List Part) (part : Part) → WithPart parts 3 part (part_on parts 1 ∷ part_on parts 2 ∷ part ∷ [])
third_part parts part = by_image (λ k. part_on (part_on parts 1 ∷ part_on parts 2 ∷ part ∷ []) k ≡ put (part_on parts) 3 part k) refl refl refl

pub image_third : (image : ℕ) → is_image image ≡ true → image ≢ 1 → image ≢ 2 → image ≡ 3
image_third image one =
    by_image (λ image. image ≢ 1 → image ≢ 2 → image ≡ 3) (λ not_one not_two. absurd (not_one refl)) (λ not_one not_two. absurd (not_two refl)) (λ not_one not_two. refl) image one

pub other_parts : (w new : Whole) (i : ℕ) (own : List Part) → new ≡ record w { parts = slice_set w.parts i own } → OtherDisk three_images w new
other_parts w new i own e = record { nodes = ap cluster_of e; timing = ap (λ w. w.timing) e }

pub other_good : (w new : Whole) (i : ℕ) (own : List Bool) → new ≡ record w { good = slice_set w.good i own } → OtherDisk three_images w new
other_good w new i own e = record { nodes = ap cluster_of e; timing = ap (λ w. w.timing) e }

pub other_sectors : (w new : Whole) (i : ℕ) (own : Sectors) → new ≡ record w { sectors = slice_set w.sectors i own } → OtherDisk three_images w new
other_sectors w new i own e = record { nodes = ap cluster_of e; timing = ap (λ w. w.timing) e }

pub part_turned : (w new : Whole) (i image : ℕ) (own changed : List Part) (value : Part) → i < 32 → slice_get w.parts i ≡ Some own
    → ((k : ℕ) → is_image k ≡ true → part_on changed k ≡ put (part_on own) image value k) → new ≡ record w { parts = slice_set w.parts i changed }
    → Turns three_images w new (λ d. record d { parts = put_on d.parts i image value })
part_turned w new i image own changed value below here each e =
    record {
      rest = other_parts w new i changed e;
      stands = λ d is.
          parts_put w new d i changed (put (d.parts i) image value) is below e
          (λ k one_k. each k one_k ∙ ap (λ x. if image == k then value else x) (parts_read w d i own is below here k one_k));
    }

pub parts_turned : (w new : Whole) (i : ℕ) (own : List Part) (wanted : ℕ → Part) → i < 32 → new ≡ record w { parts = slice_set w.parts i own }
    → ((image : ℕ) → is_image image ≡ true → part_on own image ≡ wanted image) → Turns three_images w new (λ d. record d { parts = put d.parts i wanted })
parts_turned w new i own wanted below e each =
    record { rest = other_parts w new i own e; stands = λ d is. parts_put w new d i own wanted is below e each }

pub good_turned : (w new : Whole) (i : ℕ) (own : List Bool) (wanted : ℕ → Bool) → i < 32 → new ≡ record w { good = slice_set w.good i own }
    → ((image : ℕ) → is_image image ≡ true → is_good_on own image ≡ wanted image) → Turns three_images w new (λ d. record d { good = put d.good i wanted })
good_turned w new i own wanted below e each =
    record { rest = other_good w new i own e; stands = λ d is. good_put w new d i own wanted is below e each }

-- the good images after an answer, and then no parts
pub closed_turned : (w mid new : Whole) (i : ℕ) (op : DiskOp) (parts : List Part) (good after : List Bool) → i < 32 → slice_get w.parts i ≡ Some parts
    → slice_get w.good i ≡ Some good → ((image : ℕ) → is_image image ≡ true → is_good_on after image ≡ good_after op (part_on parts) (is_good_on good) image)
    → mid ≡ record w { good = slice_set w.good i after } → Turns three_images mid new (λ d. record d { parts = put d.parts i all_pending })
    → Turns three_images w new (λ d. record d { parts = put d.parts i all_pending; good = put d.good i (good_after op (d.parts i) (d.good i)) })
closed_turned w mid new i op parts good after below parts_here good_here is_after e forgets =
    record {
      rest = record { nodes = forgets.rest.nodes ∙ ap cluster_of e; timing = forgets.rest.timing ∙ ap (λ w. w.timing) e };
      stands = λ d is.
          forgets.stands (record d { good = put d.good i (good_after op (d.parts i) (d.good i)) })
          (good_put w mid d i after (good_after op (d.parts i) (d.good i)) is below e
          (λ image one. is_after image one
          ∙ good_after_same op (part_on parts) (d.parts i) (is_good_on good) (d.good i) image (parts_read w d i parts is below parts_here image one)
          (good_read w d i good is below good_here image one)));
    }

-- the sectors of an image, as the call at its place leaves them
abbrev pub AtPlace : Whole → Whole → ℕ → (Sectors → Sectors → Type 0) → Type 0
AtPlace w new place Changes =
    (own : Sectors) → slice_get w.sectors place ≡ Some own
    → (after : Sectors) × (new ≡ record w { sectors = slice_set w.sectors place after }) × Changes own after

pub write_turned : (w new : Whole) (i image : ℕ) (op : DiskOp) → IsStanding w → is_image image ≡ true
    → AtPlace w new (image - 1) (λ own after. Writes own after i op) → Turns three_images w new (written_on i image op)
write_turned w new i image op standing one made =
    let first = standing.1.images image one in
    let at = made first.own first.here in
    record {
      rest = other_sectors w new (image - 1) at.0 at.1;
      stands = λ d is.
          sectors_put w new d image (slots_on i image op d.slots) (mailboxes_on i image op d.mailboxes) at.0 is one at.1
          (wrote i image op d at.0 (at.2 (λ rank. d.slots rank image) (λ rank. d.mailboxes rank image) (sectors_read w d image first.own is one first.here)));
    }

pub mail_turned : (w new : Whole) (i image : ℕ) (value : Message) → IsStanding w → is_image image ≡ true
    → AtPlace w new (image - 1) (λ own after. Mails own after i value) → Turns three_images w new (λ d. record d { mailboxes = put_on d.mailboxes i image value })
mail_turned w new i image value standing one made =
    let first = standing.1.images image one in
    let at = made first.own first.here in
    record {
      rest = other_sectors w new (image - 1) at.0 at.1;
      stands = λ d is.
          sectors_put w new d image d.slots (put_on d.mailboxes i image value) at.0 is one at.1
          (mailed i image value d at.0 (at.2 (λ rank. d.slots rank image) (λ rank. d.mailboxes rank image) (sectors_read w d image first.own is one first.here)));
    }

-- the leftovers, as a call leaves them
pub left_turned : (w new : Whole) (items : List Leftover) (change : (ℕ → ℕ → List DiskOp) → ℕ → ℕ → List DiskOp) → new ≡ record w { left = items }
    → ((d : TripleWorld) → TripleFor w d → LeftFor (length w.settings.nodes) w.left d.left → LeftFor (length w.settings.nodes) items (change d.left))
    → Turns three_images w new (λ d. record d { left = change d.left })
left_turned w new items change e changed =
    record {
      rest = record { nodes = ap cluster_of e; timing = ap (λ w. w.timing) e };
      stands = λ d is. lefts_put w new d items (change d.left) is e (changed d is is.lefts);
    }

pub settled_same : (parts parts_too : ℕ → Part) → ((image : ℕ) → is_image image ≡ true → parts image ≡ parts_too image)
    → none_pending (λ image. is_pending (parts image)) ≡ none_pending (λ image. is_pending (parts_too image))
settled_same parts parts_too same = rw (same 1 refl, same 2 refl, same 3 refl) refl

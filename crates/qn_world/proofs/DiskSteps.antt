-- What a world stands for after its sectors or its leftovers changed.
use Rattle.std.proofs.Common.{◌≡◌, ◌≢◌, ℕ, Bool, true, false, List, [], ◌∷◌, ◌++◌, length, Some, None, refl, if◌then◌else◌, take, sym, ◌∙◌, ap, subst}
use Rattle.std.specs.Prelude.{Option, ◌==◌}
use Rattle.std.proofs.lemmas.Bool.{eqb-true}
use Rattle.std.proofs.lemmas.List.{append-nil, take_at}
use Rattle.qn_cluster.specs.Standing.{IsOpWithin, IsWithin}
use Rattle.qn_cluster.specs.declared.leftovers.Leftover.{Leftover}
use Rattle.qn_cluster.specs.declared.sectors.Sectors.{Sectors}
use Rattle.qn_cluster.specs.DiskStanding.{LeftFor, SectorsFor, is_marked, left_over}
use Rattle.qn_model.specs.declared.disk.Message.{Message}
use Rattle.qn_model.specs.declared.disk.Slot.{Slot}
use Rattle.qn_model.specs.declared.entries.What.{What}
use Rattle.qn_model.specs.declared.outputs.DiskOp.{DiskOp}
use Rattle.qn_model.specs.World.{World, given_up, is_write, put, without}
use Rattle.qn_safety.specs.TripleRules.{is_image}
use Rattle.qn_safety.specs.TripleWorld.{put_on}
use Rattle.qn_cluster.specs.WorldSteps.{Turns}
use Rattle.qn_world.specs.Standing.{WorldFor, on_first, one_image}
use Rattle.qn_world.specs.Stepping.{LeavesOver}
use Rattle.qn_world.specs.Whole.{Whole, cluster_of}
use Rattle.qn_cluster.specs.ListLaws.{by_image}

-- ---- sectors

-- the sectors, as a call leaves them
pub sectors_turned : (w new : Whole) (after : Sectors) (slots : World → ℕ → Slot) (mailboxes : World → ℕ → Message) → new ≡ record w { sectors = after }
    → ((d : World) → SectorsFor w.sectors d.slots d.mailboxes → SectorsFor after (slots d) (mailboxes d))
    → Turns one_image w new (λ d. record d { slots = slots d; mailboxes = mailboxes d })
sectors_turned w new after slots mailboxes e changed =
    record {
      rest = record { nodes = ap cluster_of e; timing = ap (λ w. w.timing) e };
      stands = λ d is.
          subst (λ n. WorldFor n (record d { slots = slots d; mailboxes = mailboxes d })) (sym e)
          (record {
            safe = is.safe;
            cluster = is.cluster;
            landings = is.landings;
            answers = is.answers;
            sectors = changed d is.sectors;
            lefts = is.lefts;
          });
    }

-- ---- leftovers

-- the leftovers of image 1 are those of a rank, and the others have none
pub lefts_put : (w new : Whole) (d : World) (items : List Leftover) (all : ℕ → ℕ → List DiskOp) (left : ℕ → List DiskOp) → WorldFor w d
    → new ≡ record w { left = items } → LeftFor (length w.settings.nodes) items all
    → ((rank image : ℕ) → is_image image ≡ true → all rank image ≡ on_first left rank image)
    → WorldFor new (record d { left = left })
lefts_put w new d items all left is e lefts same =
    subst (λ n. WorldFor n (record d { left = left })) (sym e)
    (record {
      safe = is.safe;
      cluster = is.cluster;
      landings = is.landings;
      answers = is.answers;
      sectors = is.sectors;
      lefts = record { lefts = λ rank image one. lefts.lefts rank image one ∙ same rank image one; targets = lefts.targets };
    })

pub left_turned : (w new : Whole) (items : List Leftover) (change : World → ℕ → ℕ → List DiskOp) (left : World → ℕ → List DiskOp)
    → new ≡ record w { left = items }
    → ((d : World) → LeftFor (length w.settings.nodes) w.left (on_first d.left) → LeftFor (length w.settings.nodes) items (change d))
    → ((d : World) (rank image : ℕ) → is_image image ≡ true → change d rank image ≡ on_first (left d) rank image)
    → Turns one_image w new (λ d. record d { left = left d })
left_turned w new items change left e changed same =
    record {
      rest = record { nodes = ap cluster_of e; timing = ap (λ w. w.timing) e };
      stands = λ d is. lefts_put w new d items (change d) (left d) is e (changed d is.lefts) (same d);
    }

-- a write that is left over on image 1
abbrev pub first_marked : List Bool
first_marked = true ∷ false ∷ false ∷ []

apply_if : {A : Type 0} (b : Bool) (f g : ℕ → A) (image : ℕ) → (if b then f else g) image ≡ (if b then f image else g image)
apply_if true f g image = refl
apply_if false f g image = refl

leaves_by : (b : Bool) (own other : List DiskOp) (op : DiskOp) (image : ℕ) → is_image image ≡ true
    → (if b then (if image == 1 then own else []) ++ (if is_marked first_marked image then op ∷ [] else []) else (if image == 1 then other else []))
    ≡ (if image == 1 then (if b then own ++ (op ∷ []) else other) else [])
leaves_by true own other op image one =
    by_image (λ image. (if image == 1 then own else []) ++ (if is_marked first_marked image then op ∷ [] else []) ≡ (if image == 1 then own ++ (op ∷ []) else []))
    refl refl refl image one
leaves_by false own other op image one = refl

left_first : (left : ℕ → List DiskOp) (i : ℕ) (op : DiskOp) (rank image : ℕ) → is_image image ≡ true
    → left_over (on_first left) i op first_marked rank image ≡ on_first (put left i (left i ++ (op ∷ []))) rank image
left_first left i op rank image one =
    apply_if (i == rank) (λ (n : ℕ). on_first left i n ++ (if is_marked first_marked n then op ∷ [] else [])) (on_first left rank) image
    ∙ leaves_by (i == rank) (left i) (left rank) op image one

pub leaves_one : (w new : Whole) (items : List Leftover) (i : ℕ) (op : DiskOp) → new ≡ record w { left = items } → take (length w.left) items ≡ w.left
    → ((d : World) → WorldFor w d → LeftFor (length w.settings.nodes) items (left_over (on_first d.left) i op first_marked))
    → LeavesOver w new i (op ∷ [])
leaves_one w new items i op e first leaves =
    record {
      rest = e ∙ ap (λ items. record w { left = items }) (sym (ap (λ w. w.left) e));
      first = ap (take (length w.left)) (ap (λ w. w.left) e) ∙ first;
      stands = λ d is.
          lefts_put w new d items (left_over (on_first d.left) i op first_marked) (put d.left i (d.left i ++ (op ∷ []))) is e (leaves d is) (left_first d.left i op);
    }

-- nothing is left over
none_more : (left : ℕ → List DiskOp) (i rank image : ℕ) → is_image image ≡ true → on_first left rank image ≡ on_first (put left i (left i ++ [])) rank image
none_more left i rank image one = ap (λ ops. if image == 1 then ops else []) (sym (same_by (i == rank) refl))
  where
    same_by : (b : Bool) → (i == rank) ≡ b → (if b then left i ++ [] else left rank) ≡ left rank
    same_by true e = append-nil (left i) ∙ ap left (eqb-true i rank e)
    same_by false e = refl

pub leaves_none : (w : Whole) (i : ℕ) → LeavesOver w w i []
leaves_none w i =
    record {
      rest = refl;
      first = ap (take (length w.left)) (sym (append-nil w.left)) ∙ take_at w.left [] (length w.left) refl;
      stands = λ d is. lefts_put w w d w.left (on_first d.left) (put d.left i (d.left i ++ [])) is refl is.lefts (none_more d.left i);
    }

-- an operation that is given up as a leftover is the one that was out
given_by : (count : ℕ) (op given : DiskOp) (b : Bool) → IsWithin count op → given ∷ [] ≡ (if b then op ∷ [] else []) → IsWithin count given
given_by count op given true within e = let same : op ≡ given = cc in subst (IsWithin count) same within
given_by count op given false within e = absurd (cc)

pub given_within : (count : ℕ) (op : Option DiskOp) (took : Option What) (given : DiskOp) → IsOpWithin count op → given ∷ [] ≡ given_up op took
    → IsWithin count given
given_within count None took given within e = absurd (cc)
given_within count (Some op) (Some entry) given within e = absurd (cc)
given_within count (Some op) None given within e = given_by count op given (is_write op) within e

pub not_empty : (op : DiskOp) (ops : List DiskOp) → op ∷ [] ≡ ops → ops ≢ []
not_empty op ops e none = absurd (let z : op ∷ [] ≡ [] = e ∙ none in cc)

-- the leftovers of a rank that were dropped
drops_by : (b c : Bool) (other : List DiskOp) → (if b then [] else (if c then other else [])) ≡ (if c then (if b then [] else other) else [])
drops_by true true other = refl
drops_by true false other = refl
drops_by false c other = refl

pub dropped_first : (left : ℕ → List DiskOp) (i rank image : ℕ) → is_image image ≡ true
    → put (on_first left) i (λ (n : ℕ). []) rank image ≡ on_first (put left i []) rank image
dropped_first left i rank image one =
    apply_if (i == rank) (λ (n : ℕ). []) (on_first left rank) image ∙ drops_by (i == rank) (image == 1) (left rank)

-- the leftovers without one that landed
takes_by : (b : Bool) (value own other : List DiskOp) (image : ℕ) → is_image image ≡ true
    → (if b then put (λ (n : ℕ). if n == 1 then own else []) 1 value image else (if image == 1 then other else []))
    ≡ (if image == 1 then (if b then value else other) else [])
takes_by true value own other image one =
    by_image (λ image. put (λ (n : ℕ). if n == 1 then own else []) 1 value image ≡ (if image == 1 then value else [])) refl refl refl image one
takes_by false value own other image one = refl

pub taken_first : (left : ℕ → List DiskOp) (i number : ℕ) (rank image : ℕ) → is_image image ≡ true
    → put_on (on_first left) i 1 (without (left i) number) rank image ≡ on_first (put left i (without (left i) number)) rank image
taken_first left i number rank image one =
    apply_if (i == rank) (put (on_first left i) 1 (without (left i) number)) (on_first left rank) image
    ∙ takes_by (i == rank) (without (left i) number) (left i) (left rank) image one

-- What the sectors of an image and the leftovers of the code stand for. Image numbers are 1 to 3. This project's profile.
use Rattle.std.specs.Prelude.{◌≡◌, ◌<◌, ◌-◌, ◌++◌, ◌==◌, ◌&&◌, ℕ, Bool, true, false, List, [], ◌∷◌, Some, All, slice_get, slice_index_or, if◌then◌else◌}
use Rattle.qn_cluster.specs.Standing.{IsWithin}
use Rattle.qn_cluster.specs.declared.sectors.Sectors.{Sectors}
use Rattle.qn_cluster.specs.declared.leftovers.Leftover.{Leftover}
use Rattle.qn_model.specs.declared.disk.Message.{Message}
use Rattle.qn_model.specs.declared.disk.Slot.{Slot}
use Rattle.qn_model.specs.declared.outputs.DiskOp.{DiskOp}
use Rattle.qn_model.specs.World.{put}
use Rattle.qn_safety.specs.TripleRules.{is_image}

-- the sectors stand for slots and mailboxes by rank
pub record SectorsFor (c : Sectors) (slots : ℕ → Slot) (mailboxes : ℕ → Message) : Type 0 where
  pub sectors : (rank : ℕ) → rank < 32 → slice_get c.slots rank ≡ Some (slots rank)
  pub letters : (rank : ℕ) → rank < 32 → slice_get c.mailboxes rank ≡ Some (mailboxes rank)

-- a leftover is that of a rank on an image
abbrev pub is_of : ℕ → ℕ → Leftover → Bool
is_of rank image leftover = leftover.of.0 == rank && leftover.image == image

-- the writes of the leftovers that pass a test, oldest first
abbrev pub left_where : (Leftover → Bool) → List Leftover → List DiskOp
left_where mine [] = []
left_where mine (leftover ∷ others) = if mine leftover then leftover.op ∷ left_where mine others else left_where mine others

-- the writes of a rank that are left over on an image
abbrev pub left_of : ℕ → ℕ → List Leftover → List DiskOp
left_of rank image left = left_where (is_of rank image) left

-- the leftovers stand for those of each rank on each image; each other node that one is about has a rank below the count
pub record LeftFor (count : ℕ) (items : List Leftover) (left : ℕ → ℕ → List DiskOp) : Type 0 where
  pub lefts : (rank image : ℕ) → is_image image ≡ true → left_of rank image items ≡ left rank image
  pub targets : All (λ leftover. IsWithin count leftover.op) items

-- an image, 1 to 3, is marked
abbrev pub is_marked : List Bool → ℕ → Bool
is_marked marks image = slice_index_or marks (image - 1) false

-- a write of a rank is left over on the images that are marked
abbrev pub left_over : (ℕ → ℕ → List DiskOp) → ℕ → DiskOp → List Bool → ℕ → ℕ → List DiskOp
left_over left rank op marks = put left rank (λ image. left rank image ++ (if is_marked marks image then op ∷ [] else []))

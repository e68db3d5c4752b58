-- What a call that steps the world of three images promises.
use Rattle.std.specs.Prelude.{◌≡◌, ◌≢◌, ◌++◌, ◌∷◌, ◌==◌, ◌&&◌, ℕ, Bool, true, List, []}
use Rattle.qn_cluster.specs.declared.sectors.Sectors.{Sectors}
use Rattle.qn_cluster.specs.DiskStanding.{SectorsFor}
use Rattle.qn_cluster.specs.WorldSteps.{OtherDisk}
pub use Rattle.qn_cluster.specs.WorldSteps.{RefusedBy}
use Rattle.qn_model.specs.declared.configuration.Settings.{Settings}
use Rattle.qn_model.specs.declared.disk.Message.{Message}
use Rattle.qn_model.specs.declared.disk.Slot.{Slot}
use Rattle.qn_model.specs.declared.outputs.DiskOp.{DiskOp}
use Rattle.qn_model.specs.World.{mailboxes_with, put, slots_with}
use Rattle.qn_safety.specs.TripleRules.{is_image, is_on_triple}
use Rattle.qn_safety.specs.TripleWorld.{TripleWorld, leaves_over, op_of}
use Rattle.qn_triple.specs.Standing.{TripleFor, three_images}
use Rattle.qn_triple.specs.Whole.{Whole}

-- the leftovers after each pending write of a rank is left over on its image
abbrev pub given_up_on : Settings → ℕ → TripleWorld → ℕ → ℕ → List DiskOp
given_up_on s rank w = put w.left rank (λ image. w.left rank image ++ leaves_over (op_of s rank w) (w.parts rank image))

-- one image is marked, if any is
abbrev pub only_on : Bool → ℕ → List Bool
only_on marked image = (marked && image == 1) ∷ (marked && image == 2) ∷ (marked && image == 3) ∷ []

-- an operation of a rank landed on the sectors of an image
abbrev pub Writes : Sectors → Sectors → ℕ → DiskOp → Type 0
Writes old new rank op =
    (slots : ℕ → Slot) (mailboxes : ℕ → Message) → SectorsFor old slots mailboxes
    → SectorsFor new (slots_with rank op slots) (mailboxes_with rank op mailboxes)

-- a message replaced what a mailbox of an image held
abbrev pub Mails : Sectors → Sectors → ℕ → Message → Type 0
Mails old new rank message =
    (slots : ℕ → Slot) (mailboxes : ℕ → Message) → SectorsFor old slots mailboxes → SectorsFor new slots (put mailboxes rank message)

-- the operation of a running rank was given up: each pending write is left over on its image
pub record GivesUp (old new : Whole) (rank : ℕ) : Type 0 where
  pub rest : OtherDisk three_images old new
  pub stands : (d : TripleWorld) → TripleFor old d → is_on_triple old.settings rank d ≡ true
      → TripleFor new (record d { left = given_up_on old.settings rank d })

-- there was no memory for what a running rank leaves over
pub record KeepsOn (old new : Whole) (rank : ℕ) : Type 0 where
  pub same : new ≡ old
  pub cause : (d : TripleWorld) → TripleFor old d → is_on_triple old.settings rank d ≡ true
      → (image : ℕ) × (is_image image ≡ true) × (leaves_over (op_of old.settings rank d) (d.parts rank image) ≢ [])

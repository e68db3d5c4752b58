-- What a world of three images of the code stands for: one of the definitions.
use Rattle.std.specs.Prelude.{◌≡◌, ◌<◌, ◌-◌, ℕ, Bool, true, List, Some, length, slice_get}
use Rattle.qn_cluster.specs.Standing.{ClusterFor}
use Rattle.qn_cluster.specs.declared.sectors.Sectors.{Sectors}
use Rattle.qn_cluster.specs.DiskStanding.{LeftFor, SectorsFor}
use Rattle.qn_cluster.specs.WorldKinds.{WorldKind}
use Rattle.qn_cluster.specs.WorldSteps as worlds
use Rattle.qn_model.specs.declared.disk.Message.{Message}
use Rattle.qn_model.specs.declared.disk.Slot.{Slot}
use Rattle.qn_model.specs.Timing.{is_safe}
use Rattle.qn_parts.specs.Parts.{is_good_on, part_on}
use Rattle.qn_safety.specs.declared.part.Part.{Part}
use Rattle.qn_safety.specs.declared.triple_event.TripleEvent.{TripleEvent}
use Rattle.qn_safety.specs.TripleRules.{is_image, is_well_formed_triple, refusal_triple}
use Rattle.qn_safety.specs.TripleSteps.{AllAllowedTriple, as_one, run_triple, step_triple}
use Rattle.qn_safety.specs.TripleWorld.{TripleWorld, first_triple, nodes_of}
use Rattle.qn_triple.specs.Memory.{needs_memory}
use Rattle.qn_triple.specs.Whole.{Whole, cluster_of}

-- the parts of the operation of a rank
pub record PartsAt (all : List (List Part)) (rank : ℕ) (parts : ℕ → Part) : Type 0 where
  pub own : List Part
  pub here : slice_get all rank ≡ Some own
  pub each : (image : ℕ) → is_image image ≡ true → part_on own image ≡ parts image

-- the good images of a rank
pub record GoodAt (all : List (List Bool)) (rank : ℕ) (good : ℕ → Bool) : Type 0 where
  pub own : List Bool
  pub here : slice_get all rank ≡ Some own
  pub each : (image : ℕ) → is_image image ≡ true → is_good_on own image ≡ good image

-- the sectors of an image
pub record SectorsAt (all : List Sectors) (image : ℕ) (slots : ℕ → Slot) (mailboxes : ℕ → Message) : Type 0 where
  pub own : Sectors
  pub here : slice_get all (image - 1) ≡ Some own
  pub stands : SectorsFor own slots mailboxes

-- The world stands for a world of the definitions, part by part.
pub record TripleFor (w : Whole) (d : TripleWorld) : Type 0 where
  pub safe : is_safe w.timing ≡ true
  pub cluster : ClusterFor (cluster_of w) d.moments
  pub parts : (rank : ℕ) → rank < 32 → PartsAt w.parts rank (d.parts rank)
  pub good : (rank : ℕ) → rank < 32 → GoodAt w.good rank (d.good rank)
  pub images : (image : ℕ) → is_image image ≡ true
      → SectorsAt w.sectors image (λ rank. d.slots rank image) (λ rank. d.mailboxes rank image)
  pub lefts : LeftFor (length w.settings.nodes) w.left d.left

-- the world of three images is a kind of world
abbrev pub three_images : WorldKind Whole TripleWorld TripleEvent
three_images =
    record {
      nodes = cluster_of;
      timing = λ w. w.timing;
      with_steps = λ w n. record w { steps = n };
      StandsFor = TripleFor;
      nodes_of = nodes_of;
      as_one = as_one;
      first = first_triple;
      is_well_formed = is_well_formed_triple;
      refusal = refusal_triple;
      step = step_triple;
      needs_memory = needs_memory;
      run = run_triple;
      AllAllowed = AllAllowedTriple;
    }

-- the world stands for one of the definitions
abbrev pub IsStanding : Whole → Type 0
IsStanding = worlds.IsStanding three_images

-- What a world of the code stands for: a world of the definitions.
use Rattle.std.specs.Prelude.{◌≡◌, ◌<◌, ◌==◌, ℕ, true, List, [], Some, length, slice_get, if◌then◌else◌}
use Rattle.qn_cluster.specs.Standing.{ClusterFor}
use Rattle.qn_cluster.specs.DiskStanding.{LeftFor, SectorsFor}
use Rattle.qn_cluster.specs.WorldKinds.{WorldKind}
use Rattle.qn_cluster.specs.WorldSteps as worlds
use Rattle.qn_model.specs.declared.entries.What.{What}
use Rattle.qn_model.specs.declared.events.Event.{Event}
use Rattle.qn_model.specs.declared.outputs.DiskOp.{DiskOp}
use Rattle.qn_model.specs.Timing.{is_safe}
use Rattle.qn_model.specs.Fitting.{answers_op}
use Rattle.qn_model.specs.Rules.{is_on, is_well_formed, refusal}
use Rattle.qn_model.specs.World.{World, first_world, op_at}
use Rattle.qn_model.specs.Steps.{AllAllowed, run, step}
use Rattle.qn_world.specs.Memory.{needs_memory}
use Rattle.qn_world.specs.Whole.{Whole, cluster_of}

-- the leftovers of the one image, by rank, as those of image 1 of three
abbrev pub on_first : (ℕ → List DiskOp) → ℕ → ℕ → List DiskOp
on_first left rank image = if image == 1 then left rank else []

-- The world stands for a world of the definitions, part by part.
pub record WorldFor (w : Whole) (d : World) : Type 0 where
  pub safe : is_safe w.timing ≡ true
  pub cluster : ClusterFor (cluster_of w) d.moments
  pub landings : (rank : ℕ) → rank < 32 → slice_get w.took rank ≡ Some (d.took rank)
  pub answers : (rank : ℕ) (entry : What) → d.took rank ≡ Some entry → is_on w.settings rank d ≡ true
      → answers_op (op_at w.settings rank d) entry ≡ true
  pub sectors : SectorsFor w.sectors d.slots d.mailboxes
  pub lefts : LeftFor (length w.settings.nodes) w.left (on_first d.left)

-- the world of one image is a kind of world
abbrev pub one_image : WorldKind Whole World Event
one_image =
    record {
      nodes = cluster_of;
      timing = λ w. w.timing;
      with_steps = λ w n. record w { steps = n };
      StandsFor = WorldFor;
      nodes_of = λ d. d;
      as_one = λ event. event;
      first = first_world;
      is_well_formed = is_well_formed;
      refusal = refusal;
      step = step;
      needs_memory = needs_memory;
      run = run;
      AllAllowed = AllAllowed;
    }

-- the world stands for one of the definitions
abbrev pub IsStanding : Whole → Type 0
IsStanding = worlds.IsStanding one_image

-- What a world of the code shows of a node, by the worlds of the definitions that it stands for.
use Rattle.std.specs.Prelude.{◌≡◌, ℕ}
use Rattle.qn_model.specs.World.{World}
use Rattle.qn_world.specs.declared.looking.NodeSeen.{NodeSeen}
use Rattle.qn_world.specs.declared.pending.Pending.{Pending}
use Rattle.qn_world.specs.Pending.{pending_of}
use Rattle.qn_world.specs.Seen.{seen_of}
use Rattle.qn_world.specs.Standing.{WorldFor}
use Rattle.qn_world.specs.Whole.{Whole}

-- this is shown of the node of a rank
abbrev pub IsSeen : Whole → ℕ → NodeSeen → Type 0
IsSeen w rank seen = (d : World) → WorldFor w d → seen ≡ seen_of w.settings rank d

-- this is pending at the node of a rank
abbrev pub IsPending : Whole → ℕ → Pending → Type 0
IsPending w rank pending = (d : World) → WorldFor w d → pending ≡ pending_of w.settings rank d

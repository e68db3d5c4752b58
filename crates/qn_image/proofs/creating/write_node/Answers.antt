use Rattle.std.proofs.Common.{[], ◌∷◌}
use Rattle.qn_image.proofs.Writing.{one_write, did_writes}
use Rattle.qn_image.proofs.creating.write_node.Goals as goal

pub returns : goal.returns
returns g c =
    did_writes (_ ∷ []) (_ ∷ []) (one_write _ _ _ c.in_ok-write_fresh_slot.ensures) (one_write _ _ _ c.write_message.ensures)

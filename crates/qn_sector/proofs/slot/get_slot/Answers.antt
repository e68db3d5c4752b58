use Rattle.qn_sector.proofs.SlotSpelling.{slot_found, no_slot_found}
use Rattle.qn_sector.proofs.slot.get_slot.Goals as goal

pub returns-clause-some : goal.returns-clause-some
returns-clause-some c = slot_found _ _ c.read_slot.ensures.gives c.read_slot.ensures.fits

pub returns-clause-none : goal.returns-clause-none
returns-clause-none c = no_slot_found _ _ c.read_slot.ensures.gives

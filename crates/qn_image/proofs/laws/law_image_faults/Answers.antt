use Rattle.qn_image.proofs.Blamed.{not_image, damaged_slot, damaged_mailbox, unknown_node}
use Rattle.qn_image.proofs.laws.law_image_faults.Goals as goal

pub returns-clause-not_image : goal.returns-clause-not_image
returns-clause-not_image c = not_image

pub returns-clause-damaged_slot : goal.returns-clause-damaged_slot
returns-clause-damaged_slot c = damaged_slot

pub returns-clause-damaged_mailbox : goal.returns-clause-damaged_mailbox
returns-clause-damaged_mailbox c = damaged_mailbox

pub returns-clause-unknown_node : goal.returns-clause-unknown_node
returns-clause-unknown_node c = unknown_node

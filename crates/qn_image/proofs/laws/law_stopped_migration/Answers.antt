use Rattle.qn_image.proofs.Migrated.{stopped, migrated, slot_stays}
use Rattle.qn_image.proofs.laws.law_stopped_migration.Goals as goal

pub returns-clause-before_the_last : goal.returns-clause-before_the_last
returns-clause-before_the_last c =
    λ nodes timing messages image done is few.
    stopped nodes timing messages image c.law_read_header_1.ensures is done few

pub returns-clause-after_the_last : goal.returns-clause-after_the_last
returns-clause-after_the_last c =
    λ nodes timing messages image is.
    migrated nodes timing messages image c.law_read_header_1.ensures is c.law_read_back.ensures.header c.law_read_back.ensures.mailbox

pub returns-clause-slots : goal.returns-clause-slots
returns-clause-slots c = slot_stays

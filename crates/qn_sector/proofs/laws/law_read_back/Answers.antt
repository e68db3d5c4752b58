use Rattle.std.proofs.Common.{refl}
use Rattle.qn_sector.proofs.HeaderSpelling.{header_in-spelling}
use Rattle.qn_sector.proofs.MailSpelling.{mail_of-spelling, mail_of_1-mail_bytes_1}
use Rattle.qn_sector.proofs.SlotSpelling.{slot_of-spelling}
use Rattle.qn_sector.proofs.laws.law_read_back.Goals as goal

pub returns-clause-header : goal.returns-clause-header
returns-clause-header c =
    λ nodes timing some few times.
    header_in-spelling 2 _ nodes timing (record { some_nodes = some; few_nodes = few; times = times; bytes = refl })

pub returns-clause-header_1 : goal.returns-clause-header_1
returns-clause-header_1 c =
    λ nodes timing some few times.
    header_in-spelling 1 _ nodes timing (record { some_nodes = some; few_nodes = few; times = times; bytes = refl })

pub returns-clause-slot : goal.returns-clause-slot
returns-clause-slot c =
    λ id slot some id_fits incarnation_fits.
    slot_of-spelling _ id slot (record { some_id = some; id_fits = id_fits; incarnation_fits = incarnation_fits; bytes = refl })

pub returns-clause-mailbox : goal.returns-clause-mailbox
returns-clause-mailbox c = λ mail sender. mail_of-spelling _ mail (record { sender = sender; bytes = refl })

pub returns-clause-mailbox_1 : goal.returns-clause-mailbox_1
returns-clause-mailbox_1 c = mail_of_1-mail_bytes_1

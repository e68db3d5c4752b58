use Rattle.qn_live.proofs.Answers.{header_taken, mail_taken, part_told, slot_taken}
use Rattle.qn_live.proofs.triple_laws.law_triple_answers.Goals as goal

pub returns-clause-told : goal.returns-clause-told
returns-clause-told c = part_told

pub returns-clause-header : goal.returns-clause-header
returns-clause-header c = λ s sector one two three good first second third.
    header_taken s sector c.law_read_back.ensures.mailbox one two three good first second third

pub returns-clause-slot : goal.returns-clause-slot
returns-clause-slot c = λ s rank sector one two three good first second third.
    slot_taken s sector c.law_read_back.ensures.mailbox rank one two three good first second third

pub returns-clause-mailbox : goal.returns-clause-mailbox
returns-clause-mailbox c = λ s sector one two three good first second third.
    mail_taken s sector c.law_read_back.ensures.mailbox one two three good first second third

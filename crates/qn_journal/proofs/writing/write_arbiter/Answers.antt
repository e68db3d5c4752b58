use Rattle.std.proofs.Common.{codes}
use Rattle.qn_shown.specs.Spelling.{arbiter_entries}
use Rattle.qn_journal.proofs.EntryTexts.{object_entry, object_value}
use Rattle.qn_journal.proofs.writing.write_arbiter.Goals as goal

pub returns-in-Some : goal.returns-in-Some
returns-in-Some c =
    let entries = arbiter_entries c.in-Some.arbiter in
    rw c.in-Some.is (object_entry c.args.json.now (codes "arbiter") entries c.key.ensures
    (object_value c.key.new.self entries c.begin_object.ensures c.write_arbiter_entries.ensures c.end_object.ensures))

use Rattle.std.proofs.Common.{codes}
use Rattle.qn_shown.specs.Spelling.{told_entries}
use Rattle.qn_journal.proofs.EntryTexts.{object_entry, object_value}
use Rattle.qn_journal.proofs.writing.write_heard.Goals as goal

pub returns-in-Said : goal.returns-in-Said
returns-in-Said c =
    let entries = told_entries c.in-Said.told c.in-Said.tick in
    rw c.in-Said.is (object_entry c.args.json.now (codes "told") entries c.key.ensures
    (object_value c.key.new.self entries c.begin_object.ensures c.write_told_entries.ensures c.end_object.ensures))

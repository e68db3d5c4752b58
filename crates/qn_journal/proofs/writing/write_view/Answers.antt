use Rattle.std.proofs.Common.{codes}
use Rattle.qn_shown.specs.Spelling.{view_entries}
use Rattle.qn_journal.proofs.EntryTexts.{object_entry, object_value}
use Rattle.qn_journal.proofs.writing.write_view.Goals as goal

pub returns-in-Some : goal.returns-in-Some
returns-in-Some c =
    let entries = view_entries c.in-Some.view in
    rw c.in-Some.is (object_entry c.args.json.now (codes "view") entries c.key.ensures
    (object_value c.key.new.self entries c.begin_object.ensures c.write_view_entries.ensures c.end_object.ensures))

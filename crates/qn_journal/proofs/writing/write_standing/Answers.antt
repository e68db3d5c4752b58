use Rattle.std.proofs.Common.{codes}
use Rattle.qn_shown.specs.Spelling.{standing_entries}
use Rattle.qn_journal.proofs.EntryTexts.{object_entry, object_value}
use Rattle.qn_journal.proofs.writing.write_standing.Goals as goal

pub returns-in-Some : goal.returns-in-Some
returns-in-Some c =
    let entries = standing_entries c.in-Some.said in
    rw c.in-Some.is (object_entry c.args.json.now (codes "standing") entries c.key.ensures
    (object_value c.key.new.self entries c.begin_object.ensures c.write_standing_entries.ensures c.end_object.ensures))

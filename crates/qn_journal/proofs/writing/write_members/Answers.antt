use Rattle.std.proofs.Common.{codes, ap, ◌∙◌}
use Rattle.qn_shown.specs.Spelling.{id_json}
use Rattle.qn_journal.specs.JsonTexts.{with_items}
use Rattle.qn_journal.proofs.EntryTexts.{array_entry, array_value}
use Rattle.qn_journal.proofs.writing.write_members.Goals as goal

pub returns : goal.returns
returns c =
    let all = c.args.members.now.items in
    array_entry id_json c.args.json.now (codes "members") all c.key.ensures
    (array_value id_json c.key.new.self all c.begin_array.ensures
    (c.write_ids.ensures ∙ ap (with_items id_json c.begin_array.new.self) c.as_slice.ensures.value) c.end_array.ensures)

use Rattle.std.proofs.Common.{◌≡◌, drop}
use Rattle.qn_shown.specs.Spelling.{id_json}
use Rattle.qn_journal.specs.JsonTexts.{with_items}
use Rattle.qn_journal.proofs.writing.write_ids.Given as goal

-- what is there, with the rest added, is the whole
abbrev pub invariant-loop-id : goal.invariant-loop-id
invariant-loop-id l = with_items id_json l.json (drop l.id-index l.ids) ≡ with_items id_json l.initial.json l.ids

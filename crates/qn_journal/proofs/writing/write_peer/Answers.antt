use Rattle.qn_shown.specs.Spelling.{peer_entries}
use Rattle.qn_journal.proofs.EntryTexts.{object_value}
use Rattle.qn_journal.proofs.writing.write_peer.Goals as goal

pub returns : goal.returns
returns c = object_value c.args.json.now (peer_entries c.args.peer.now) c.begin_object.ensures c.write_peer_entries.ensures c.end_object.ensures

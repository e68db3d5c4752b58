use Rattle.std.proofs.Common.{codes, ap, ◌∙◌}
use Rattle.qn_shown.specs.Spelling.{peer_json}
use Rattle.qn_journal.specs.JsonTexts.{with_items}
use Rattle.qn_journal.proofs.EntryTexts.{array_entry, array_value}
use Rattle.qn_journal.proofs.writing.write_peers.Goals as goal

pub returns : goal.returns
returns c =
    let all = c.args.peers.now.items in
    array_entry peer_json c.args.json.now (codes "peers") all c.key.ensures
    (array_value peer_json c.key.new.self all c.begin_array.ensures
    (c.write_each_peer.ensures ∙ ap (with_items peer_json c.begin_array.new.self) c.as_slice.ensures.value) c.end_array.ensures)

use Rattle.std.proofs.Common.{◌≡◌, drop}
use Rattle.qn_shown.specs.Spelling.{peer_json}
use Rattle.qn_journal.specs.JsonTexts.{with_items}
use Rattle.qn_journal.proofs.writing.write_each_peer.Given as goal

-- what is there, with the rest added, is the whole
abbrev pub invariant-loop-peer : goal.invariant-loop-peer
invariant-loop-peer l = with_items peer_json l.json (drop l.peer-index l.peers) ≡ with_items peer_json l.initial.json l.peers

use Rattle.std.proofs.Common.{◌≡◌, ℕ, ◌-◌, ◌^◌, ◌<◌, ◌≤◌, [], lit<, ap, sym, ◌∙◌, subst, refl, arith}
use Rattle.std.specs.Prelude.{replicate}
use Rattle.qn_model.specs.Log.{slot_number}
use Rattle.qn_model.specs.NodeVotes.{install, votes}
use Rattle.qn_plain.specs.declared.peer.Peer.{Peer}
use Rattle.qn_plain.specs.Peer.{PeerFor, no_peer, peer_at}
use Rattle.qn_plain.proofs.Peers.{peer_none, same_peers}
use Rattle.qn_plain.proofs.past.Past.new.Goals as goal

start_peer : (peer : Peer) (rank : ℕ) → peer ≡ no_peer → peer_at (replicate 32 peer) rank ≡ no_peer
start_peer peer rank is = ap (λ p. peer_at (replicate 32 p) rank) is ∙ same_peers 32 rank

pub returns-clause-stands : goal.returns-clause-stands
unfolding install slot_number votes
returns-clause-stands c = record {
  few = omega arith;
  lives = c.new.ensures;
  claimable = λ boots. subst (λ l. l.slot_number < 2 ^ 64 - 1) (sym c.new.ensures) (lit< tt);
  tallies = c.new-2.ensures;
  installed = refl;
  peers = λ rank below. subst (λ p. PeerFor p [] rank) (sym (start_peer c.new-3.result rank c.new-3.ensures)) (peer_none rank);
}

pub returns-clause-resets : goal.returns-clause-resets
returns-clause-resets c = λ tick rank below. subst (λ p. p.reset_tick ≤ tick) (sym (start_peer c.new-3.result rank c.new-3.ensures)) (omega arith)

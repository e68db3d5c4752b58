-- What guards the packets of a node (this project's profile).
use Rattle.std.specs.Prelude.{◌≡◌, ◌&&◌, Bool, true, false, Option, Some, None, IsSomeAnd, replicate}
use Rattle.qn_base.specs.declared.ids.Rank.{Rank}
use Rattle.qn_seal.specs.declared.keys.Keys.{Keys}
use Rattle.qn_seal.specs.declared.receiver.Receiver.{Receiver}
use Rattle.qn_peers.specs.declared.guard.Guard.{Guard}
use Rattle.qn_peers.specs.declared.guard.Guard.TheVariants.{Unsaid, ClosedNetwork, Sealed}
use Rattle.qn_peers.specs.declared.guard.Guarding.{Guarding}
use Rattle.qn_peers.specs.declared.peers.Peers.{Peers}
use Rattle.qn_peers.specs.declared.sealing.Sealing.{Sealing}
use Rattle.qn_peers.specs.Peers.{HasRanks}

-- the keys, where packets are sealed
abbrev pub keys_of : Guard → Option Keys
keys_of Unsaid = None
keys_of ClosedNetwork = None
keys_of (Sealed keys) = Some keys

abbrev pub is_unsaid : Guard → Bool
is_unsaid Unsaid = true
is_unsaid ClosedNetwork = false
is_unsaid (Sealed keys) = false

-- votes of a quorum device of this host are taken
abbrev pub takes_votes : Guarding → Bool
takes_votes guarding = guarding.is_one_host && is_unsaid guarding.guard

-- a receiver of the node at these places that has heard nobody: it opens by these keys alone, beside the texts of this guarding
pub record OpensBy (peers : Peers) (guarding : Guarding) (keys : Keys) (receiver : Receiver) : Type 0 where
  pub own : receiver.rank ≡ peers.own
  pub nodes : HasRanks peers receiver.nodes
  pub secrets : (receiver.keys ≡ keys) × (receiver.texts ≡ guarding.texts)
  pub silent : receiver.newest ≡ replicate 33 None

-- where there are keys there is such a receiver
abbrev pub ReceivesBy : Peers → Guarding → Option Keys → Option Receiver → Type 0
ReceivesBy peers guarding None receiver = receiver ≡ None
ReceivesBy peers guarding (Some keys) receiver = IsSomeAnd receiver (OpensBy peers guarding keys)

-- what this node sends is sealed under the first of these keys, beside the first text of this guarding; nothing was sealed yet
pub record SealsBy (rank : Rank) (guarding : Guarding) (keys : Keys) (sealing : Sealing) : Type 0 where
  pub own : sealing.from ≡ rank
  pub secrets : (sealing.key ≡ keys.first) × (sealing.text ≡ guarding.texts.first)
  pub unused : sealing.sent ≡ replicate 33 0

-- where there are keys there is such a seal
abbrev pub SendsBy : Rank → Guarding → Option Keys → Option Sealing → Type 0
SendsBy rank guarding None sealing = sealing ≡ None
SendsBy rank guarding (Some keys) sealing = IsSomeAnd sealing (SealsBy rank guarding keys)

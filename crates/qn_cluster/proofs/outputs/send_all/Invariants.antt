use Rattle.std.proofs.Common.{◌≡◌, ℕ, ◌+◌, ◌++◌, length, take}
use Rattle.qn_model.specs.Moments.{packets_of}
use Rattle.qn_cluster.specs.Packets.{HasRoomFor, sents}
use Rattle.qn_cluster.proofs.outputs.send_all.Given as goal

-- what was sent so far, and room for the rest
abbrev pub invariant-loop-out : goal.invariant-loop-out
invariant-loop-out l =
    (sents l.packets ≡ sents l.fn.packets ++ packets_of (take l.out-index l.outs))
    × ((left : ℕ) → left + l.out-index ≡ length l.outs → HasRoomFor left l.packets)

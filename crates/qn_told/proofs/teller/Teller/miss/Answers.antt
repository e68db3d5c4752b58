use Rattle.std.proofs.Common.{◌+◌, ◌∙◌, ap, drop, sym}
use Rattle.qn_model.specs.declared.nodelist.NodeEntry.{NodeEntry}
use Rattle.qn_told.specs.Telling.{Told, missed_from}
use Rattle.qn_told.proofs.LooksOn.{missed_more}
use Rattle.qn_told.proofs.teller.Teller.miss.Goals as goal

pub loop-rank-preserved : goal.loop-rank-preserved
loop-rank-preserved g c =
    let around = c.args.around.now in
    let nodes = c.as_slice-node-items.result.now in
    let rank = c.loop-rank.rank in
    let none : NodeEntry = record { id = record { 0 = 0 }; votes = 0; fence_delay = 0 } in
    ap (λ (told : Told). missed_from around (rank + 1) (drop (rank + 1) nodes) told) c.miss_peer.ensures
    ∙ sym (missed_more around nodes rank none c.loop-rank-test.true c.loop-rank.self)
    ∙ c.loop-rank.invariant

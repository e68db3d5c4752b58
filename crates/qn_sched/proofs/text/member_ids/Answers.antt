use Rattle.std.proofs.Common.{◌≡◌, ◌+◌, ◌∙◌, ◌++◌, ◌∷◌, [], ap, arith, get_or, length, sym, drop, List, ℕ}
use Rattle.std.proofs.lemmas.List.{length_push}
use Rattle.arrayvec.specs.ArrayVec.{ArrayVec}
use Rattle.qn_model.specs.declared.nodelist.NodeEntry.{NodeEntry}
use Rattle.qn_sched.proofs.Joining.{ids_from-member, ids_from-outsider, left_ids}
use Rattle.qn_sched.proofs.text.member_ids.Goals as goal
use Rattle.qn_sched.proofs.text.member_ids.Goals.{then-contains, else-contains}

abbrev items_of : ArrayVec ℕ → List ℕ
items_of list = list.items

pub loop-rank-preserved : goal.loop-rank-preserved
loop-rank-preserved c =
    let nodes = c.as_slice-node-items.result.now in
    let rank = c.loop-rank.rank in
    let members = c.args.members in
    let none : NodeEntry = record { id = record { 0 = 0 }; votes = 0; fence_delay = 0 } in
    let list = c.loop-rank.list.items in
    let so_far = c.loop-rank.invariant.all in
    let few = c.loop-rank.invariant.few in
    elim c.if-contains.branch [
      | then-contains w ↦
          let id = (get_or nodes rank none).id.0 in
          let new : c.if-contains.list.items ≡ list ++ id ∷ [] = ap items_of w.list-is ∙ w.push.ensures.items in
          let more : length c.if-contains.list.items ≡ length list + 1 = ap length new ∙ length_push list id in
          record {
            all = ap (λ l. l ++ left_ids (rank + 1) members (drop (rank + 1) nodes)) new
                ∙ ids_from-member members nodes rank none c.loop-rank-test.true list _ (sym c.contains.ensures ∙ w.if-contains.true) so_far;
            few = omega arith;
          }
      | else-contains w ↦
          let same : c.if-contains.list.items ≡ list = ap items_of w.list-is in
          let as_long : length c.if-contains.list.items ≡ length list = ap length same in
          record {
            all = ap (λ l. l ++ left_ids (rank + 1) members (drop (rank + 1) nodes)) same
                ∙ ids_from-outsider members nodes rank none c.loop-rank-test.true list _ (sym c.contains.ensures ∙ w.if-contains.false) so_far;
            few = omega arith;
          }
    ]

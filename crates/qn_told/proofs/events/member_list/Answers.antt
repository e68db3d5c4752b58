use Rattle.std.proofs.Common.{◌≡◌, ◌+◌, ◌∙◌, ◌++◌, ap, arith, false, get_or, sym, drop, Bool, List, ℕ}
use Rattle.std.proofs.lemmas.List.{drop_all}
use Rattle.arrayvec.specs.ArrayVec.{ArrayVec}
use Rattle.qn_model.specs.declared.nodelist.NodeEntry.{NodeEntry}
use Rattle.qn_model.specs.Settings.{ids}
use Rattle.qn_names.specs.MemberWords.{ids_from, member_word}
use Rattle.qn_told.proofs.MemberLists.{all_ids, member_more, one_id, outsider_more, with_members}
use Rattle.qn_told.proofs.events.member_list.Goals as goal
use Rattle.qn_told.proofs.events.member_list.Goals.{then-contains, else-contains}

abbrev items_of : ArrayVec ℕ → List ℕ
items_of list = list.items

pub loop-rank-preserved : goal.loop-rank-preserved
loop-rank-preserved c =
    let nodes = c.as_slice-node-items.result.now in
    let rank = c.loop-rank.rank in
    let members = c.args.members in
    let none : NodeEntry = record { id = record { 0 = 0 }; votes = 0; fence_delay = 0 } in
    let first = c.loop-rank.is_first in
    let list = c.loop-rank.list.items in
    let rest = drop (rank + 1) nodes in
    elim c.if-contains.branch [
      | then-contains w ↦
          let new : c.if-contains.list.items ≡ list ++ one_id first (get_or nodes rank none).id.0 = ap items_of w.list-is ∙ w.add_member.ensures.text in
          record {
            all = ap (λ (f : Bool). with_members members (rank + 1) f c.if-contains.list.items rest) w.is_first-is
                ∙ ap (λ (text : List ℕ). with_members members (rank + 1) false text rest) new
                ∙ sym (member_more members nodes rank none c.loop-rank-test.true first list (sym c.contains.ensures ∙ w.if-contains.true))
                ∙ c.loop-rank.invariant.all;
            few =
                let short = c.loop-rank.invariant.few in
                let more = w.add_member.ensures.len in
                rw w.list-is (omega arith);
          }
      | else-contains w ↦
          record {
            all = ap (λ (f : Bool). with_members members (rank + 1) f c.if-contains.list.items rest) w.is_first-is
                ∙ ap (λ (text : ArrayVec ℕ). with_members members (rank + 1) first text.items rest) w.list-is
                ∙ sym (outsider_more members nodes rank none c.loop-rank-test.true first list (sym c.contains.ensures ∙ w.if-contains.false))
                ∙ c.loop-rank.invariant.all;
            few =
                let short = c.loop-rank.invariant.few in
                rw w.list-is (omega arith);
          }
    ]

pub returns : goal.returns
returns c =
    let nodes = c.as_slice-node-items.result.now in
    let left = drop_all c.loop-rank.rank nodes c.loop-rank-test.false in
    sym (ap (λ (rest : List NodeEntry). with_members c.args.members c.loop-rank.rank c.loop-rank.is_first c.loop-rank.list.items rest) left)
    ∙ c.loop-rank.invariant.all
    ∙ all_ids (ids_from 0 (ids nodes) c.args.members)
    ∙ ap (λ (known : List NodeEntry). member_word (ids known) c.args.members) c.as_slice-node-items.ensures.value

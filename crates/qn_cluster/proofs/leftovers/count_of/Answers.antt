use Rattle.std.proofs.Common.{◌∙◌, sym, arith}
use Rattle.std.proofs.lemmas.Option.{slice_get-get_or}
use Rattle.qn_cluster.specs.DiskStanding.{is_of}
use Rattle.qn_cluster.proofs.Counts.{counted_more, counted_same}
use Rattle.qn_cluster.proofs.leftovers.count_of.Goals as goal
use Rattle.qn_cluster.proofs.leftovers.count_of.Goals.{then-is_of, else-is_of}

pub loop-leftover-preserved : goal.loop-leftover-preserved
loop-leftover-preserved c =
    let k = c.loop-leftover.leftover-index in
    let left = c.args.left.now in
    let mine = is_of c.args.i.0 c.args.image in
    let here = slice_get-get_or left k _ c.loop-leftover-test.true in
    let before = c.loop-leftover.invariant.counted in
    let few = c.loop-leftover.invariant.few in
    elim c.if-is_of.branch [
      | then-is_of b ↦ record {
        counted = b.count-is ∙ counted_more mine left k c.loop-leftover.count _ here (sym c.is_of.ensures ∙ b.if-is_of.true) before;
        few = (let e = b.count-is in omega arith);
      }
      | else-is_of b ↦ record {
        counted = b.count-is ∙ counted_same mine left k c.loop-leftover.count _ here (sym c.is_of.ensures ∙ b.if-is_of.false) before;
        few = (let e = b.count-is in omega arith);
      }
    ]

use Rattle.std.proofs.Common.{◌<◌, length, arith, length-set, ◌∙◌}
use Rattle.qn_links.proofs.Placing.{links_more, no_links}
use Rattle.qn_links.proofs.links.links_of.Goals as goal

pub loop-rank-init : goal.loop-rank-init
loop-rank-init c = (
  omega arith,
  record {
    placed = λ rank below. absurd (omega arith);
    apart = λ rank below. absurd (omega arith);
    past = λ rank above. no_links 32 rank;
  },
)

pub loop-rank-preserved : goal.loop-rank-preserved
loop-rank-preserved c =
    let fits : c.loop-rank.rank < length c.loop-rank.links = grind (arith, c.loop-rank-test.true, c.loop-rank.invariant.0) in (
      length-set c.loop-rank.links c.loop-rank.rank _ ∙ c.loop-rank.invariant.0,
      links_more c.args.ring c.args.sections.now c.args.nodes.now c.loop-rank.links c.loop-rank.rank c.in_ok-address.address fits
          c.loop-rank.invariant.1 c.in_ok-address.ensures.has c.in_ok-apart.ensures.apart,
    )

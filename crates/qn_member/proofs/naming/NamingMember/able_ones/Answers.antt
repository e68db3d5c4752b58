use Rattle.std.proofs.Common.{◌<◌, ◌^◌, refl, sym, ◌∙◌, ap, arith}
use Rattle.qn_member.specs.Naming.{is_able_node}
use Rattle.qn_member.specs.Maker.{ranks_that}
use Rattle.qn_member.proofs.Ranks.{with_passing, without_passing}
use Rattle.qn_member.proofs.naming.NamingMember.able_ones.Goals as goal
use Rattle.qn_member.proofs.naming.NamingMember.able_ones.Goals.{then-is_able_node, else-is_able_node}

pub loop-rank-init : goal.loop-rank-init
unfolding ranks_that
loop-rank-init c = refl

pub loop-rank-preserved : goal.loop-rank-preserved
loop-rank-preserved c =
    let rank = c.loop-rank.rank in
    let before = c.loop-rank.found.0 in
    let test = is_able_node c.args.self.now in
    let within : rank < 32 = omega arith in
    elim c.if-is_able_node.branch [
      | then-is_able_node w ↦ (let fits : w.with-found.result.0 < 2 ^ 32 = omega arith in
          ap (λ mask. mask.0) w.found-is
          ∙ with_passing test before w.with-found.result.0 rank within fits (sym c.is_able_node.ensures ∙ w.if-is_able_node.true) c.loop-rank.invariant w.with-found.ensures)
      | else-is_able_node w ↦
          ap (λ mask. mask.0) w.found-is ∙ without_passing test before rank (sym c.is_able_node.ensures ∙ w.if-is_able_node.false) c.loop-rank.invariant
    ]

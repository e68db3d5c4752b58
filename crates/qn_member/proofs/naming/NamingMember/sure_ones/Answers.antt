use Rattle.std.proofs.Common.{◌<◌, ◌^◌, refl, sym, ◌∙◌, ap, arith}
use Rattle.qn_member.specs.Naming.{is_sure_in}
use Rattle.qn_member.specs.Maker.{ranks_that}
use Rattle.qn_member.proofs.Ranks.{with_passing, without_passing}
use Rattle.qn_member.proofs.naming.NamingMember.sure_ones.Goals as goal
use Rattle.qn_member.proofs.naming.NamingMember.sure_ones.Goals.{then-is_sure_in, else-is_sure_in}

pub loop-rank-init : goal.loop-rank-init
unfolding ranks_that
loop-rank-init c = refl

pub loop-rank-preserved : goal.loop-rank-preserved
loop-rank-preserved c =
    let rank = c.loop-rank.rank in
    let before = c.loop-rank.found.0 in
    let test = is_sure_in c.args.self.now c.args.nodes in
    let within : rank < 32 = omega arith in
    elim c.if-is_sure_in.branch [
      | then-is_sure_in w ↦ (let fits : w.with-found.result.0 < 2 ^ 32 = omega arith in
          ap (λ mask. mask.0) w.found-is
          ∙ with_passing test before w.with-found.result.0 rank within fits (sym c.is_sure_in.ensures ∙ w.if-is_sure_in.true) c.loop-rank.invariant w.with-found.ensures)
      | else-is_sure_in w ↦
          ap (λ mask. mask.0) w.found-is ∙ without_passing test before rank (sym c.is_sure_in.ensures ∙ w.if-is_sure_in.false) c.loop-rank.invariant
    ]

use Rattle.std.proofs.Common.{◌<◌, ◌^◌, refl, sym, ◌∙◌, ap, arith}
use Rattle.qn_member.specs.Naming.{is_keeper}
use Rattle.qn_member.specs.Maker.{ranks_that}
use Rattle.qn_member.proofs.Ranks.{with_passing, without_passing}
use Rattle.qn_member.proofs.naming.NamingMember.keepers.Goals as goal
use Rattle.qn_member.proofs.naming.NamingMember.keepers.Goals.{then-is_keeper, else-is_keeper}

pub loop-rank-init : goal.loop-rank-init
unfolding ranks_that
loop-rank-init c = refl

pub loop-rank-preserved : goal.loop-rank-preserved
loop-rank-preserved c =
    let rank = c.loop-rank.rank in
    let before = c.loop-rank.found.0 in
    let test = is_keeper c.args.self.now c.args.facts.now in
    let within : rank < 32 = omega arith in
    elim c.if-is_keeper.branch [
      | then-is_keeper w ↦ (let fits : w.with-found.result.0 < 2 ^ 32 = omega arith in
          ap (λ mask. mask.0) w.found-is
          ∙ with_passing test before w.with-found.result.0 rank within fits (sym c.is_keeper.ensures ∙ w.if-is_keeper.true) c.loop-rank.invariant w.with-found.ensures)
      | else-is_keeper w ↦
          ap (λ mask. mask.0) w.found-is ∙ without_passing test before rank (sym c.is_keeper.ensures ∙ w.if-is_keeper.false) c.loop-rank.invariant
    ]

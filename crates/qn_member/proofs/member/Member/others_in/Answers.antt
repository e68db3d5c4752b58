use Rattle.std.proofs.Common.{◌<◌, ◌^◌, refl, sym, ◌∙◌, ap, arith}
use Rattle.qn_member.specs.Announcing.{is_other_in}
use Rattle.qn_member.specs.Maker.{ranks_that}
use Rattle.qn_member.proofs.Ranks.{with_passing, without_passing}
use Rattle.qn_member.proofs.member.Member.others_in.Goals as goal
use Rattle.qn_member.proofs.member.Member.others_in.Goals.{then-is_other_in, else-is_other_in}

pub loop-rank-init : goal.loop-rank-init
unfolding ranks_that
loop-rank-init c = refl

pub loop-rank-preserved : goal.loop-rank-preserved
loop-rank-preserved c =
    let rank = c.loop-rank.rank in
    let before = c.loop-rank.others.0 in
    let test = is_other_in c.args.self.now c.args.members in
    let within : rank < 32 = omega arith in
    elim c.if-is_other_in.branch [
      | then-is_other_in w ↦ (let fits : w.with-others.result.0 < 2 ^ 32 = omega arith in
          ap (λ mask. mask.0) w.others-is
          ∙ with_passing test before w.with-others.result.0 rank within fits (sym c.is_other_in.ensures ∙ w.if-is_other_in.true) c.loop-rank.invariant w.with-others.ensures)
      | else-is_other_in w ↦
          ap (λ mask. mask.0) w.others-is ∙ without_passing test before rank (sym c.is_other_in.ensures ∙ w.if-is_other_in.false) c.loop-rank.invariant
    ]

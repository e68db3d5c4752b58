use Rattle.std.proofs.Common.{◌<◌, ◌^◌, refl, sym, ◌∙◌, ap, arith}
use Rattle.qn_member.specs.Naming.{is_met_holder}
use Rattle.qn_member.specs.Maker.{ranks_that}
use Rattle.qn_member.proofs.Ranks.{with_passing, without_passing}
use Rattle.qn_member.proofs.naming.NamingMember.met_holders.Goals as goal
use Rattle.qn_member.proofs.naming.NamingMember.met_holders.Goals.{then-is_met_holder, else-is_met_holder}

pub loop-other-init : goal.loop-other-init
unfolding ranks_that
loop-other-init c = refl

pub loop-other-preserved : goal.loop-other-preserved
loop-other-preserved c =
    let rank = c.loop-other.other in
    let before = c.loop-other.found.0 in
    let test = is_met_holder c.args.facts.now c.args.rank.0 in
    let within : rank < 32 = omega arith in
    elim c.if-is_met_holder.branch [
      | then-is_met_holder w ↦ (let fits : w.with-found.result.0 < 2 ^ 32 = omega arith in
          ap (λ mask. mask.0) w.found-is
          ∙ with_passing test before w.with-found.result.0 rank within fits (sym c.is_met_holder.ensures ∙ w.if-is_met_holder.true) c.loop-other.invariant w.with-found.ensures)
      | else-is_met_holder w ↦
          ap (λ mask. mask.0) w.found-is ∙ without_passing test before rank (sym c.is_met_holder.ensures ∙ w.if-is_met_holder.false) c.loop-other.invariant
    ]

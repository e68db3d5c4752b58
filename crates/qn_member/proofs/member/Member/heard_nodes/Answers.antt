use Rattle.std.proofs.Common.{◌<◌, ◌^◌, length, refl, sym, ◌∙◌, ap, arith}
use Rattle.qn_member.specs.Maker.{is_heard, ranks_that}
use Rattle.qn_member.proofs.Ranks.{all_ranks-lt, with_passing, without_passing}
use Rattle.qn_member.proofs.member.Member.heard_nodes.Goals as goal
use Rattle.qn_member.proofs.member.Member.heard_nodes.Goals.{then-is_heard, else-is_heard}

pub loop-rank-init : goal.loop-rank-init
unfolding ranks_that
loop-rank-init c = refl

pub loop-rank-preserved : goal.loop-rank-preserved
loop-rank-preserved c =
    let rank = c.loop-rank.rank in
    let before = c.loop-rank.found.0 in
    let test = is_heard c.args.tick c.args.self.now in
    let within : rank < 32 = omega arith in
    elim c.if-is_heard.branch [
      | then-is_heard w ↦ (let fits : w.with-found.result.0 < 2 ^ 32 = omega arith in
          ap (λ mask. mask.0) w.found-is
          ∙ with_passing test before w.with-found.result.0 rank within fits (sym c.is_heard.ensures ∙ w.if-is_heard.true) c.loop-rank.invariant w.with-found.ensures)
      | else-is_heard w ↦
          ap (λ mask. mask.0) w.found-is ∙ without_passing test before rank (sym c.is_heard.ensures ∙ w.if-is_heard.false) c.loop-rank.invariant
    ]

pub returns-clause-configured : goal.returns-clause-configured
returns-clause-configured c =
    let test = is_heard c.args.tick c.args.self.now in
    all_ranks-lt test c.loop-rank.found.0 (length c.args.self.now.nodes) c.loop-rank.rank (omega arith) (omega arith) c.loop-rank.invariant

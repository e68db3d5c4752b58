use Rattle.std.proofs.Common.{◌≡◌, ◌==◌, ◌<◌, ◌^◌, length, refl, sym, ◌∙◌, ap, arith}
use Rattle.qn_member.specs.Maker.{is_kept, ranks_that}
use Rattle.std.specs.Int.{bit_at}
use Rattle.qn_member.proofs.Companies.{keeps_company}
use Rattle.qn_member.proofs.Ranks.{all_ranks-lt, with_passing, without_passing}
use Rattle.qn_member.proofs.member.Member.kept_nodes.Goals as goal
use Rattle.qn_member.proofs.member.Member.kept_nodes.Goals.{then-is_kept, else-is_kept}

pub loop-rank-init : goal.loop-rank-init
unfolding ranks_that
loop-rank-init c = refl

pub loop-rank-preserved : goal.loop-rank-preserved
loop-rank-preserved c =
    let rank = c.loop-rank.rank in
    let before = c.loop-rank.found.0 in
    let test = is_kept c.args.tick c.args.self.now c.args.company in
    let within : rank < 32 = omega arith in
    elim c.if-is_kept.branch [
      | then-is_kept w ↦ (let fits : w.with-found.result.0 < 2 ^ 32 = omega arith in
          ap (λ mask. mask.0) w.found-is
          ∙ with_passing test before w.with-found.result.0 rank within fits (sym c.is_kept.ensures ∙ w.if-is_kept.true) c.loop-rank.invariant w.with-found.ensures)
      | else-is_kept w ↦
          ap (λ mask. mask.0) w.found-is ∙ without_passing test before rank (sym c.is_kept.ensures ∙ w.if-is_kept.false) c.loop-rank.invariant
    ]

pub returns-clause-configured : goal.returns-clause-configured
returns-clause-configured c =
    let test = is_kept c.args.tick c.args.self.now c.args.company in
    all_ranks-lt test c.loop-rank.found.0 (length c.args.self.now.nodes) c.loop-rank.rank (omega arith) (omega arith) c.loop-rank.invariant

pub returns-clause-keeps : goal.returns-clause-keeps
returns-clause-keeps c =
    let test = is_kept c.args.tick c.args.self.now c.args.company in
    let end : c.loop-rank.rank ≡ length c.args.self.now.nodes = omega arith in
    let all : c.loop-rank.found.0 ≡ ranks_that test (length c.args.self.now.nodes) = c.loop-rank.invariant ∙ ap (ranks_that test) end in
    λ rank member. ap (λ n. bit_at n rank == 1) all ∙ keeps_company c.args.tick c.args.self.now c.args.company c.requires rank member

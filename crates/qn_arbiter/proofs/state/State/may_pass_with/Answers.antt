use Rattle.std.proofs.Common.{◌≤◌, ◌∙◌, arith, subst, sym}
use Rattle.std.specs.Prelude.{unwrap_or}
use Rattle.qn_arbiter.proofs.Clocks.{short_pass}
use Rattle.qn_arbiter.proofs.state.State.may_pass_with.Goals as goal

pub overflow_mul-dt : goal.overflow_mul-dt
overflow_mul-dt c =
    let short : c.in-Some.dt ≤ 1000000000 =
    subst (λ o. unwrap_or o 0 ≤ 1000000000) (sym c.pass_of.ensures ∙ c.in-Some.is) (short_pass c.args.self.now.world.settings c.args.event.now c.requires) in
    omega arith

pub overflow_mul-result : goal.overflow_mul-result
overflow_mul-result c =
    let short : c.in-Some.dt ≤ 1000000000 =
    subst (λ o. unwrap_or o 0 ≤ 1000000000) (sym c.pass_of.ensures ∙ c.in-Some.is) (short_pass c.args.self.now.world.settings c.args.event.now c.requires) in
    omega arith

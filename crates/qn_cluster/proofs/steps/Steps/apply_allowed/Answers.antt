use Rattle.std.proofs.Common.{◌≡◌, ℕ, ◌-◌, ◌^◌, ◌<◌, ◌∙◌, ap, sym, subst, arith}
use Rattle.qn_base.specs.lemmas.Results.{ok_holds}
use Rattle.qn_cluster.specs.ResultLaws.{err_holds}
use Rattle.qn_cluster.specs.WorldStepLaws.{made, one_less, spent_ready, starved}
use Rattle.qn_cluster.proofs.steps.Steps.apply_allowed.Goals as goal

pub step-requires-clause-ready : goal.step-requires-clause-ready
step-requires-clause-ready g c =
    let left = c.steps_left-steps.ensures ∙ ap (λ n. n.steps) c.cluster.ensures in
    let bound = c.steps_left-steps.type_inv in
    let fits : c.steps_left-steps.result < 2 ^ 64 = omega arith in
    spent_ready g.Self.HasNodes.kind g.met.Self.HasNodes.is_lawful c.args.self.now c.set_steps.new.self c.args.event.now c.requires.formed c.requires.standing c.requires.early
    c.requires.room (subst (λ (n : ℕ). n < 2 ^ 64) left fits) (c.set_steps.ensures ∙ ap (λ n. g.Self.HasNodes.kind.with_steps c.args.self.now (n - 1)) left)
    (c.requires.allowed c.requires.standing.0 c.requires.standing.1)

pub returns-then-is_err-clause-err : goal.returns-then-is_err-clause-err
returns-then-is_err-clause-err g c =
    let left = c.steps_left-steps.ensures ∙ ap (λ n. n.steps) c.cluster.ensures in
    starved g.Self.HasNodes.kind g.met.Self.HasNodes.is_lawful c.args.self.now c.set_steps.new.self c.step.new.self c.set_steps-then-is_err.new.self c.args.event.now
    (c.set_steps.ensures ∙ ap (λ n. g.Self.HasNodes.kind.with_steps c.args.self.now (n - 1)) left)
    (err_holds c.step.result (sym c.is_err.ensures.value ∙ c.if-is_err.true) c.step.ensures.err)
    (c.set_steps-then-is_err.ensures ∙ ap (λ n. g.Self.HasNodes.kind.with_steps c.step.new.self n) left)

pub returns-clause-ok : goal.returns-clause-ok
returns-clause-ok g c =
    let left = c.steps_left-steps.ensures ∙ ap (λ n. n.steps) c.cluster.ensures in
    made g.Self.HasNodes.kind g.met.Self.HasNodes.is_lawful c.args.self.now c.set_steps.new.self c.step.new.self c.args.event.now c.step.new.outs c.requires.standing
    (c.set_steps.ensures ∙ ap (λ n. g.Self.HasNodes.kind.with_steps c.args.self.now (n - 1)) left)
    (λ d is. c.requires.allowed d is) (ok_holds c.step.result (sym c.is_err.ensures.value ∙ c.if-is_err.false) c.step.ensures.ok)
    c.requires.room

use Rattle.std.proofs.Common.{◌≡◌, ◌<◌, ◌≤◌, ℕ, None, not, arith, true, refl, sym, ◌∙◌, ap, subst, ◌+◌, ◌-◌, ◌⊎◌, inl, inr}
use Rattle.std.proofs.lemmas.Bool.{false≢true, cases_lt}
use Rattle.std.specs.Option.{is_some}
use Rattle.qn_control.specs.Times.{unbounded}
use Rattle.qn_control.proofs.SlowDisks.{over_loop}
use Rattle.qn_control.proofs.times.slowest_disk.Goals as goal

pub loop-faster-init : goal.loop-faster-init
loop-faster-init c = λ slower late. over_loop c.args.timing.now slower (omega arith)

pub returns-then-is_none-clause-slowest : goal.returns-then-is_none-clause-slowest
returns-then-is_none-clause-slowest c = λ slower over. let first = c.loop-faster-test.true in c.loop-faster.invariant slower (omega arith)

pub loop-faster-preserved : goal.loop-faster-preserved
loop-faster-preserved c = λ slower over. by_order slower over (cases_lt c.args.timing.now.loop_ms (slower + c.loop-faster.faster))
  where
    some_here : is_some (unbounded c.args.timing.now (c.args.timing.now.loop_ms - c.loop-faster.faster)) ≡ true
    some_here = sym (ap is_some c.unbounded_on.ensures) ∙ c.is_none.ensures ∙ ap not c.if-is_none.false

    by_order : (slower : ℕ) → c.args.timing.now.loop_ms < slower + (c.loop-faster.faster + 1) → (c.args.timing.now.loop_ms < slower + c.loop-faster.faster) ⊎ (slower + c.loop-faster.faster ≤ c.args.timing.now.loop_ms)
        → ¬ (unbounded c.args.timing.now slower ≡ None)
    by_order slower over (inl late) none = c.loop-faster.invariant slower late none
    by_order slower over (inr here) none =
        let same : slower ≡ c.args.timing.now.loop_ms - c.loop-faster.faster = omega arith in
        false≢true (sym (ap is_some none) ∙ subst (λ d. is_some (unbounded c.args.timing.now d) ≡ true) (sym same) some_here)

pub returns-clause-none : goal.returns-clause-none
returns-clause-none c = λ disk some. let last = c.loop-faster-test.false in let end = c.loop-faster.auto in c.loop-faster.invariant disk (omega arith)

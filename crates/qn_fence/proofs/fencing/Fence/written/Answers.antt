use Rattle.std.proofs.Common.{◌∙◌, ap, sym, ◌&&◌, Some, refl, if◌then◌else◌}
use Rattle.std.specs.Prelude.{◌==◌}
use Rattle.qn_fence.specs.Fence.{written_at}
use Rattle.qn_fence.proofs.Steps.{fence_mail}
use Rattle.qn_fence.proofs.fencing.Fence.written.Goals as goal

pub returns-then-is_fresh : goal.returns-then-is_fresh
returns-then-is_fresh c = λ s log line h is at asked fits later none.
    let old = c.args.self.now in
    let j = c.args.j in
    let fresh = sym c.is_fresh.ensures ∙ c.if-is_fresh.true in
    fence_mail old c.note_reset.new.self s log line j c.args.ok h is asked fits later none c.note_reset.ensures.rest
    (λ rank below. c.note_reset.ensures.at rank below
    ∙ (ap (λ tick. if j.0 == rank && c.args.ok then Some tick else written_at old rank) (sym at)
    ∙ ap (λ b. if b && (j.0 == rank && c.args.ok) then Some line.tick else written_at old rank) (sym fresh)))

pub returns-else-is_fresh : goal.returns-else-is_fresh
returns-else-is_fresh c = λ s log line h is at asked fits later none.
    let old = c.args.self.now in
    let j = c.args.j in
    let stale = sym c.is_fresh.ensures ∙ c.if-is_fresh.false in
    fence_mail old old s log line j c.args.ok h is asked fits later none refl
    (λ rank below. ap (λ b. if b && (j.0 == rank && c.args.ok) then Some line.tick else written_at old rank) (sym stale))

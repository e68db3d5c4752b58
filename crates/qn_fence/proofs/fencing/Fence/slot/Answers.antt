use Rattle.std.proofs.Common.{◌∙◌, ap, sym, ◌&&◌, ◌||◌, refl}
use Rattle.std.specs.Prelude.{◌==◌}
use Rattle.qn_base.specs.Members.{is_member}
use Rattle.qn_model.specs.Licences.{is_clean_slot, is_seen_slot}
use Rattle.qn_fence.proofs.Steps.{fence_slot}
use Rattle.qn_fence.proofs.fencing.Fence.slot.Goals as goal

pub returns-then-is_fresh : goal.returns-then-is_fresh
returns-then-is_fresh c = λ s log line h is asked fits later none.
    let old = c.args.self.now in
    let j = c.args.j in
    let fresh = sym c.is_fresh.ensures ∙ c.if-is_fresh.true in
    fence_slot old c.note_slot.new.self s log line j c.args.seen h is asked fits later none c.note_slot.ensures.rest
    (λ rank below. c.note_slot.ensures.seen rank below ∙ ap (λ b. (b && (j.0 == rank && is_seen_slot c.args.seen)) || is_member old.seen rank) (sym fresh))
    (λ rank below. c.note_slot.ensures.clean rank below ∙ ap (λ b. (b && (j.0 == rank && is_clean_slot c.args.seen)) || is_member old.clean rank) (sym fresh))

pub returns-else-is_fresh : goal.returns-else-is_fresh
returns-else-is_fresh c = λ s log line h is asked fits later none.
    let old = c.args.self.now in
    let j = c.args.j in
    let stale = sym c.is_fresh.ensures ∙ c.if-is_fresh.false in
    fence_slot old old s log line j c.args.seen h is asked fits later none refl
    (λ rank below. ap (λ b. (b && (j.0 == rank && is_seen_slot c.args.seen)) || is_member old.seen rank) (sym stale))
    (λ rank below. ap (λ b. (b && (j.0 == rank && is_clean_slot c.args.seen)) || is_member old.clean rank) (sym stale))

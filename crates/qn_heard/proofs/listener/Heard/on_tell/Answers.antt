use Rattle.std.proofs.Common.{◌∙◌, ap, ◌==◌, ◌&&◌, ◌||◌, not}
use Rattle.qn_base.specs.Members.{is_member}
use Rattle.qn_heard.proofs.Steps.{heard_tell}
use Rattle.qn_heard.proofs.listener.Heard.on_tell.Goals as goal

pub returns-then-answers-clause-stands : goal.returns-then-answers-clause-stands
returns-then-answers-clause-stands c = λ s me log line h is no_claim.
    let tell = c.args.tell.now in
    let old = c.args.self.now in
    let answers = c.answers-answers.ensures me log h.hears in
    heard_tell old c.hear.new.self s me log line tell h is no_claim c.hear.ensures.rest
    (λ rank below. c.hear.ensures.told rank below ∙ ap (λ b. (tell.from.0 == rank && b) || is_member old.told rank) answers)
    (λ rank below. c.hear.ensures.free rank below ∙ ap (λ b. (tell.from.0 == rank && b && not tell.holds) || is_member old.free rank) answers)

pub returns-else-answers-clause-stands : goal.returns-else-answers-clause-stands
returns-else-answers-clause-stands c = λ s me log line h is no_claim.
    let tell = c.args.tell.now in
    let old = c.args.self.now in
    let answers = c.answers-answers.ensures me log h.hears in
    heard_tell old c.hear.new.self s me log line tell h is no_claim c.hear.ensures.rest
    (λ rank below. c.hear.ensures.told rank below ∙ ap (λ b. (tell.from.0 == rank && b) || is_member old.told rank) answers)
    (λ rank below. c.hear.ensures.free rank below ∙ ap (λ b. (tell.from.0 == rank && b && not tell.holds) || is_member old.free rank) answers)

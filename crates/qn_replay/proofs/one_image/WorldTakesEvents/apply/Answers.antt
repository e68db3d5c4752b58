use Rattle.qn_replay.proofs.Worlds.{on_ok, steps_later}
use Rattle.qn_replay.proofs.one_image.WorldTakesEvents.apply.Goals as goal

pub returns-then-reported-clause-time : goal.returns-then-reported-clause-time
returns-then-reported-clause-time c =
    let old = c.args.self.now in
    on_ok c.apply_into.result (λ stood d stands. steps_later old c.apply_into.new.self old.settings old.timing c.args.event.now d c.requires.formed stands (stood d stands)) c.apply_into.ensures.stands

pub returns-else-reported-clause-time : goal.returns-else-reported-clause-time
returns-else-reported-clause-time c =
    let old = c.args.self.now in
    on_ok c.apply_unreported.result (λ stood d stands. steps_later old c.apply_unreported.new.world old.settings old.timing c.args.event.now d c.requires.formed stands (stood d stands)) c.apply_unreported.ensures.stands

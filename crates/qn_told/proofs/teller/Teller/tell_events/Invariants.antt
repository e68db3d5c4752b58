use Rattle.std.proofs.Common.{◌≡◌, drop}
use Rattle.qn_told.specs.Telling.{events_told}
use Rattle.qn_told.proofs.teller.Teller.tell_events.Given as goal

-- what is told with the rest of the events is what is told with all of them
abbrev pub invariant-loop-event : goal.invariant-loop-event
invariant-loop-event g l = events_told l.around (drop l.event-index l.events) l.self ≡ events_told l.around l.events l.initial.self

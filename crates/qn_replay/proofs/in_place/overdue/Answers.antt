use Rattle.std.proofs.Common.{◌∙◌, true, false}
use Rattle.qn_replay.proofs.Forced.{tested, first_over, second_over, third_over, none_over}
use Rattle.qn_replay.proofs.in_place.overdue.Goals as goal

pub returns-then-is_overdue-clause-least : goal.returns-then-is_overdue-clause-least
returns-then-is_overdue-clause-least c =
    λ d stands.
    first_over d
    (tested d 0 c.time-now.result c.pending.result c.is_overdue.result true c.requires.settings (c.time-now.ensures ∙ stands.cluster.times) (c.pending.ensures d stands) c.is_overdue.ensures
    c.if-is_overdue.true)

pub returns-then-is_overdue-2-clause-least : goal.returns-then-is_overdue-2-clause-least
returns-then-is_overdue-2-clause-least c =
    λ d stands.
    second_over d
    (tested d 0 c.time-now.result c.pending.result c.is_overdue.result false c.requires.settings (c.time-now.ensures ∙ stands.cluster.times) (c.pending.ensures d stands) c.is_overdue.ensures
    c.if-is_overdue.false)
    (tested d 1 c.time-now.result c.pending-else-is_overdue.result c.is_overdue-else-is_overdue.result true c.requires.settings (c.time-now.ensures ∙ stands.cluster.times)
    (c.pending-else-is_overdue.ensures d stands) c.is_overdue-else-is_overdue.ensures c.if-is_overdue-2.true)

pub returns-then-is_overdue-3-clause-least : goal.returns-then-is_overdue-3-clause-least
returns-then-is_overdue-3-clause-least c =
    λ d stands.
    third_over d
    (tested d 0 c.time-now.result c.pending.result c.is_overdue.result false c.requires.settings (c.time-now.ensures ∙ stands.cluster.times) (c.pending.ensures d stands) c.is_overdue.ensures
    c.if-is_overdue.false)
    (tested d 1 c.time-now.result c.pending-else-is_overdue.result c.is_overdue-else-is_overdue.result false c.requires.settings (c.time-now.ensures ∙ stands.cluster.times)
    (c.pending-else-is_overdue.ensures d stands) c.is_overdue-else-is_overdue.ensures c.if-is_overdue-2.false)
    (tested d 2 c.time-now.result c.pending-else-is_overdue-2.result c.is_overdue-else-is_overdue-2.result true c.requires.settings (c.time-now.ensures ∙ stands.cluster.times)
    (c.pending-else-is_overdue-2.ensures d stands) c.is_overdue-else-is_overdue-2.ensures c.if-is_overdue-3.true)

pub returns-else-is_overdue-3-clause-least : goal.returns-else-is_overdue-3-clause-least
returns-else-is_overdue-3-clause-least c =
    λ d stands.
    none_over d
    (tested d 0 c.time-now.result c.pending.result c.is_overdue.result false c.requires.settings (c.time-now.ensures ∙ stands.cluster.times) (c.pending.ensures d stands) c.is_overdue.ensures
    c.if-is_overdue.false)
    (tested d 1 c.time-now.result c.pending-else-is_overdue.result c.is_overdue-else-is_overdue.result false c.requires.settings (c.time-now.ensures ∙ stands.cluster.times)
    (c.pending-else-is_overdue.ensures d stands) c.is_overdue-else-is_overdue.ensures c.if-is_overdue-2.false)
    (tested d 2 c.time-now.result c.pending-else-is_overdue-2.result c.is_overdue-else-is_overdue-2.result false c.requires.settings (c.time-now.ensures ∙ stands.cluster.times)
    (c.pending-else-is_overdue-2.ensures d stands) c.is_overdue-else-is_overdue-2.ensures c.if-is_overdue-3.false)

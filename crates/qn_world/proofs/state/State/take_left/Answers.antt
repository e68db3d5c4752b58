use Rattle.std.proofs.Common.{◌∙◌, ap, length, subst, sym}
use Rattle.qn_cluster.specs.DiskStanding.{LeftFor}
use Rattle.qn_model.specs.World.{put, without}
use Rattle.qn_safety.specs.TripleWorld.{put_on}
use Rattle.qn_world.specs.Standing.{on_first}
use Rattle.qn_world.specs.Whole.{Whole}
use Rattle.qn_cluster.specs.ResultLaws.{some_so}
use Rattle.qn_world.proofs.DiskSteps.{left_turned, taken_first}
use Rattle.qn_world.proofs.state.State.take_left.Goals as goal

pub returns-clause-op : goal.returns-clause-op
returns-clause-op c = λ d is.
    c.take.ensures.op (length c.args.self.now.settings.nodes) (on_first d.left) (subst (λ items. LeftFor (length c.args.self.now.settings.nodes) items (on_first d.left)) (sym (ap (λ w. w.left) c.self.view_is)) is.lefts)

pub returns-clause-within : goal.returns-clause-within
returns-clause-within c = λ d is.
    c.take.ensures.within (length c.args.self.now.settings.nodes) (on_first d.left) (subst (λ items. LeftFor (length c.args.self.now.settings.nodes) items (on_first d.left)) (sym (ap (λ w. w.left) c.self.view_is)) is.lefts)

pub returns-clause-rest : goal.returns-clause-rest
returns-clause-rest c =
    some_so c.take.result (λ takes.
    left_turned c.args.self.now _ c.take.new.self (λ d. put_on (on_first d.left) c.args.i.0 1 (without (d.left c.args.i.0) c.args.number))
    (λ d. put d.left c.args.i.0 (without (d.left c.args.i.0) c.args.number)) (ap (λ (w : Whole). record w { left = c.take.new.self }) c.self.view_is)
    (λ d lefts. takes (length c.args.self.now.settings.nodes) (on_first d.left) (subst (λ items. LeftFor (length c.args.self.now.settings.nodes) items (on_first d.left)) (sym (ap (λ w. w.left) c.self.view_is)) lefts))
    (λ d. taken_first d.left c.args.i.0 c.args.number)) c.take.ensures.rest

pub returns-clause-none : goal.returns-clause-none
returns-clause-none c = λ none.
    ap (λ (w : Whole). record w { left = c.take.new.self }) c.self.view_is
    ∙ ap (λ items. record c.args.self.now { left = items }) (c.take.ensures.none none ∙ ap (λ w. w.left) c.self.view_is)

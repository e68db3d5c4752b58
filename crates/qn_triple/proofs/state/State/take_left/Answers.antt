use Rattle.std.proofs.Common.{◌∙◌, ap, length, subst, sym}
use Rattle.qn_cluster.specs.DiskStanding.{LeftFor}
use Rattle.qn_model.specs.World.{without}
use Rattle.qn_safety.specs.TripleWorld.{put_on}
use Rattle.qn_triple.specs.Whole.{Whole}
use Rattle.qn_triple.proofs.DiskSteps.{left_turned}
use Rattle.qn_cluster.specs.ResultLaws.{some_so}
use Rattle.qn_triple.proofs.state.State.take_left.Goals as goal

pub returns-clause-op : goal.returns-clause-op
returns-clause-op c = λ d is.
    c.take.ensures.op (length c.args.self.now.settings.nodes) d.left (subst (λ items. LeftFor (length c.args.self.now.settings.nodes) items d.left) (sym (ap (λ w. w.left) c.self.view_is)) is.lefts)

pub returns-clause-within : goal.returns-clause-within
returns-clause-within c = λ d is.
    c.take.ensures.within (length c.args.self.now.settings.nodes) d.left (subst (λ items. LeftFor (length c.args.self.now.settings.nodes) items d.left) (sym (ap (λ w. w.left) c.self.view_is)) is.lefts)

pub returns-clause-rest : goal.returns-clause-rest
returns-clause-rest c =
    some_so c.take.result (λ takes.
    left_turned c.args.self.now _ c.take.new.self (λ left. put_on left c.args.i.0 c.args.image (without (left c.args.i.0 c.args.image) c.args.number))
    (ap (λ (w : Whole). record w { left = c.take.new.self }) c.self.view_is)
    (λ d is lefts. takes (length c.args.self.now.settings.nodes) d.left
    (subst (λ items. LeftFor (length c.args.self.now.settings.nodes) items d.left) (sym (ap (λ w. w.left) c.self.view_is)) lefts))) c.take.ensures.rest

pub returns-clause-none : goal.returns-clause-none
returns-clause-none c = λ none.
    ap (λ (w : Whole). record w { left = c.take.new.self }) c.self.view_is
    ∙ ap (λ items. record c.args.self.now { left = items }) (c.take.ensures.none none ∙ ap (λ w. w.left) c.self.view_is)

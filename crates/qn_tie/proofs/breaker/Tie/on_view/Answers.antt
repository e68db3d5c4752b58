use Rattle.std.proofs.Common.{◌∷◌, subst, arith}
use Rattle.qn_tie.specs.declared.breaker.Tie.{Tie}
use Rattle.qn_tie.specs.Tie.{TieFor, installs}
use Rattle.qn_tie.proofs.Keeping.{view_stands, with_view-less, with_view-more}
use Rattle.qn_tie.proofs.breaker.Tie.on_view.Goals as goal

pub returns-then-votes-expected-clause-stands : goal.returns-then-votes-expected-clause-stands
returns-then-votes-expected-clause-stands c = λ s past tick stands counted awaited.
    let kept : Tie → Type 0 = λ tie. TieFor tie s (installs tick c.args.view ∷ past) in
    subst kept (with_view-more c.args.self.now c.args.view c.args.votes c.args.expected (omega (arith, c.if-votes-expected.true)))
    (view_stands c.args.self.now s past tick c.args.view c.args.votes c.args.expected stands counted awaited)

pub returns-else-votes-expected-clause-stands : goal.returns-else-votes-expected-clause-stands
returns-else-votes-expected-clause-stands c = λ s past tick stands counted awaited.
    let kept : Tie → Type 0 = λ tie. TieFor tie s (installs tick c.args.view ∷ past) in
    subst kept (with_view-less c.args.self.now c.args.view c.args.votes c.args.expected (omega (arith, c.if-votes-expected.false)))
    (view_stands c.args.self.now s past tick c.args.view c.args.votes c.args.expected stands counted awaited)

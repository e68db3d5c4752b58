use Rattle.std.proofs.Common.{sym, subst, ◌∙◌, ap}
use Rattle.qn_node.specs.Stage.{StageFor, takes_part}
use Rattle.qn_node.proofs.stage.Stage.step_booting.Goals as goal

pub next-requires : goal.next-requires
next-requires c =
    record { quiet = ap takes_part c.replace-quiet.ensures.value ∙ c.requires.quiet; empty = c.requires.empty }

pub returns-clause-stands : goal.returns-clause-stands
returns-clause-stands c = λ log h inside.
    let at = subst (λ stage. StageFor stage c.args.own.now.settings c.args.own.now.me.0 log) (sym c.replace-quiet.ensures.value) h in
    c.next.ensures.stands log at inside

pub returns-clause-outs : goal.returns-clause-outs
returns-clause-outs c = λ log h.
    let at = subst (λ stage. StageFor stage c.args.own.now.settings c.args.own.now.me.0 log) (sym c.replace-quiet.ensures.value) h in
    c.next.ensures.outs log at

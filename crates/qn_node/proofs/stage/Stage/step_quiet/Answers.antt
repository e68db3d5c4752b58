use Rattle.std.proofs.Common.{◌≡◌, true, false, sym, subst, ◌∙◌, ap}
use Rattle.qn_model.specs.NodeVotes.{votes}
use Rattle.qn_model.specs.NodeOutputs.{with_entry}
use Rattle.qn_node.specs.Stage.{StageFor, takes_part}
use Rattle.qn_node.proofs.Stages.{quiet_at, quiet_counted}
use Rattle.qn_node.proofs.RestSteps.{rest_outs}
use Rattle.qn_node.proofs.stage.Stage.step_quiet.Goals as goal

pub returns-clause-counts : goal.returns-clause-counts
unfolding with_entry
returns-clause-counts c = λ log h counts.
    let s = c.args.own.now.settings in
    let me = c.args.own.now.me.0 in
    quiet_counted c.count.new.self s me log c.args.entry.tick c.args.entry.what (c.count.ensures.stands (votes log) counts)
    (quiet_at c.args.self.now s me log h (λ live is. let part : true ≡ false = sym (ap takes_part is) ∙ c.requires.quiet in cc))

pub returns-clause-stands : goal.returns-clause-stands
unfolding with_entry
returns-clause-stands c = λ log h inside. c.step_booting.ensures.stands log h inside

pub returns-clause-outs : goal.returns-clause-outs
unfolding with_entry
returns-clause-outs c = λ log h. c.step_booting.ensures.outs log h

pub returns-in-Rest-clause-counts : goal.returns-in-Rest-clause-counts
unfolding with_entry
returns-in-Rest-clause-counts c = λ log h counts.
    let s = c.args.own.now.settings in
    let me = c.args.own.now.me.0 in
    quiet_counted c.count.new.self s me log c.args.entry.tick c.args.entry.what (c.count.ensures.stands (votes log) counts)
    (quiet_at c.args.self.now s me log h (λ live is. let part : true ≡ false = sym (ap takes_part is) ∙ c.requires.quiet in cc))

pub returns-in-Rest-clause-stands : goal.returns-in-Rest-clause-stands
unfolding with_entry
returns-in-Rest-clause-stands c = λ log h inside.
    let s = c.args.own.now.settings in
    let me = c.args.own.now.me.0 in
    c.step.ensures s me log (subst (λ at. StageFor at s me log) c.in-Rest.is h)

pub returns-in-Rest-clause-outs : goal.returns-in-Rest-clause-outs
unfolding with_entry
returns-in-Rest-clause-outs c = λ log h.
    let s = c.args.own.now.settings in
    let me = c.args.own.now.me.0 in
    let from = subst (λ at. StageFor at s me log) c.in-Rest.is h in
    c.requires.empty ∙ sym (rest_outs c.in-Rest.rest s me log c.args.entry.tick c.args.entry.what from)

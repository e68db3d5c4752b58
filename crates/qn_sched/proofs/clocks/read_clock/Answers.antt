use Rattle.std.proofs.Common.{◌∙◌, ◌∷◌, ap, sym, option_copied}
use Rattle.qn_model.specs.Settings.{ids}
use Rattle.qn_sched.specs.Words.{parts_left}
use Rattle.qn_sched.proofs.ClocksListed.{clock_of-cut, clock_of-none}
use Rattle.qn_sched.proofs.clocks.read_clock.Goals as goal

pub returns-in-Some-clause-value : goal.returns-in-Some-clause-value
returns-in-Some-clause-value c =
    let word = c.args.word.now in
    let id = c.first_part.result.0.now in
    c.read_clock_at.ensures.value
    ∙ sym (clock_of-cut (ids c.args.nodes.now) word id c.in-Some.advance.now
    (c.first_part.ensures.parts ∙ ap (λ rest. id ∷ parts_left 61 (option_copied rest)) c.in-Some.is))

pub returns-in-None-clause-value : goal.returns-in-None-clause-value
returns-in-None-clause-value c =
    let id = c.first_part.result.0.now in
    sym (clock_of-none (ids c.args.nodes.now) c.args.word.now id
    (c.first_part.ensures.parts ∙ ap (λ rest. id ∷ parts_left 61 (option_copied rest)) c.in-None.is))

use Rattle.std.proofs.Common.{rules, tests, ◌∙◌, eqb}
use Rattle.std.proofs.lemmas.Iterator.Consumers.{YieldsList-turn, YieldsList-end}
use Rattle.std.proofs.lemmas.Iterator.Splits.{YieldsList-from_slice_split}
use Rattle.std.proofs.lemmas.List.{length_push}
use Rattle.qn_conf.specs.Conf.{lines}
use Rattle.qn_conf.proofs.Reading.{HasReached-more, reached_fault, reached_all, failed, always}
use Rattle.std.proofs.lemmas.Result.{err_from_is_err_and}
use Rattle.qn_conf.proofs.reader.read_lines.Goals as goal

pub loop-line-preserved : goal.loop-line-preserved
loop-line-preserved c =
    let turn = YieldsList-turn (YieldsList-from_slice_split _ (λ b. eqb b 10) c.args.text.now (cc) (cc) (cc) (λ x b q k. search (rules, tests))) c.loop-line.yielded _ c.loop-line.yielded_by _ _ c.in-Some.line c.in-Some.is c.next.ensures.steps
    in let more = HasReached-more _ (lines c.args.text.now) _ _ _ c.in-Some.line.now c.loop-line.invariant.2 turn.0 turn.1 c.in_ok-read.ensures.good
    in (search rules, tt, rw (length_push c.loop-line.yielded c.in-Some.line, c.in_ok-read.ensures.items, c.in_ok-read.ensures.depth, c.in_ok-read.ensures.lines) more)

pub returns-in_err-read : goal.returns-in_err-read
returns-in_err-read c =
    let turn = YieldsList-turn (YieldsList-from_slice_split _ (λ b. eqb b 10) c.args.text.now (cc) (cc) (cc) (λ x b q k. search (rules, tests))) c.loop-line.yielded _ c.loop-line.yielded_by _ _ c.in-Some.line c.in-Some.is c.next.ensures.steps
    in let p = err_from_is_err_and c.from_residual.result c.from_residual.ensures.1
    in rw (p.1, p.2)
    (failed (Unit {0}) _ _ _ _ _
    (λ e. reached_fault _ (lines c.args.text.now) _ _ _ c.in-Some.line.now _ c.loop-line.invariant.2 turn.0 turn.1 e)
    c.in_err-read.ensures.fault)

pub returns : goal.returns
returns c =
    let ended = YieldsList-end (YieldsList-from_slice_split _ (λ b. eqb b 10) c.args.text.now (cc) (cc) (cc) (λ x b q k. search (rules, tests))) c.loop-line.yielded _ c.loop-line.yielded_by _ _ c.in-None.is c.next.ensures.steps
    in always _ _ (c.finish.ensures ∙ reached_all _ (lines c.args.text.now) _ _ _ c.loop-line.invariant.2 ended.1)

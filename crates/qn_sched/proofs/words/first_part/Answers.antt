use Rattle.qn_sched.proofs.PartsLemmas.{parts-at, parts-none, passed_more}
use Rattle.qn_sched.proofs.words.first_part.Goals as goal

pub returns-then-b-byte-clause-parts : goal.returns-then-b-byte-clause-parts
returns-then-b-byte-clause-parts c =
    let byte = c.args.byte in
    let text = c.args.text.now in
    let cut = parts-at byte text c.loop-i.i c.loop-i-test.true c.loop-i.invariant c.if-b-byte.true in
    let front = c.split_at.ensures.front in
    let rest = c.split_at-then-b-byte.ensures.back in
    let behind = c.split_at.ensures.back in
    cc

pub loop-i-preserved : goal.loop-i-preserved
loop-i-preserved c = passed_more c.args.byte c.args.text.now c.loop-i.i c.loop-i-test.true c.loop-i.invariant c.if-b-byte.false

pub returns-clause-parts : goal.returns-clause-parts
returns-clause-parts c = parts-none c.args.byte c.args.text.now c.loop-i.i c.loop-i-test.false c.loop-i.invariant

use Rattle.std.proofs.Common.{None, Some, ◌∙◌}
use Rattle.qn_parts.proofs.Answering.{ValuesAre, answered_by}
use Rattle.qn_parts.proofs.answer.answer_of.Goals as goal

pub returns-in-Some-Some-Some : goal.returns-in-Some-Some-Some
returns-in-Some-Some-Some c =
    let are : ValuesAre c.args.op c.args.parts.now c.args.good.now c.counted-first.result c.counted-second.result c.counted-third.result =
    record { on_first = c.counted-first.ensures; on_second = c.counted-second.ensures; on_third = c.counted-third.ensures } in
    c.together.ensures
    ∙ answered_by c.args.op c.args.parts.now c.args.good.now c.counted-first.result c.counted-second.result c.counted-third.result
    (Some c.in-Some-Some-Some.first) (Some c.in-Some-Some-Some.second) (Some c.in-Some-Some-Some.third) are c.in-Some-Some-Some.is-0 c.in-Some-Some-Some.is-1 c.in-Some-Some-Some.is-2

pub returns-in-Some-Some-None : goal.returns-in-Some-Some-None
returns-in-Some-Some-None c =
    let are : ValuesAre c.args.op c.args.parts.now c.args.good.now c.counted-first.result c.counted-second.result c.counted-third.result =
    record { on_first = c.counted-first.ensures; on_second = c.counted-second.ensures; on_third = c.counted-third.ensures } in
    c.together-in-Some-Some-None.ensures
    ∙ answered_by c.args.op c.args.parts.now c.args.good.now c.counted-first.result c.counted-second.result c.counted-third.result
    (Some c.in-Some-Some-None.first) (Some c.in-Some-Some-None.second) None are c.in-Some-Some-None.is-0 c.in-Some-Some-None.is-1 c.in-Some-Some-None.is-2

pub returns-in-Some-None-Some : goal.returns-in-Some-None-Some
returns-in-Some-None-Some c =
    let are : ValuesAre c.args.op c.args.parts.now c.args.good.now c.counted-first.result c.counted-second.result c.counted-third.result =
    record { on_first = c.counted-first.ensures; on_second = c.counted-second.ensures; on_third = c.counted-third.ensures } in
    c.together-in-Some-None-Some.ensures
    ∙ answered_by c.args.op c.args.parts.now c.args.good.now c.counted-first.result c.counted-second.result c.counted-third.result
    (Some c.in-Some-None-Some.first) None (Some c.in-Some-None-Some.third) are c.in-Some-None-Some.is-0 c.in-Some-None-Some.is-1 c.in-Some-None-Some.is-2

pub returns-in-None-Some-Some : goal.returns-in-None-Some-Some
returns-in-None-Some-Some c =
    let are : ValuesAre c.args.op c.args.parts.now c.args.good.now c.counted-first.result c.counted-second.result c.counted-third.result =
    record { on_first = c.counted-first.ensures; on_second = c.counted-second.ensures; on_third = c.counted-third.ensures } in
    c.together-in-None-Some-Some.ensures
    ∙ answered_by c.args.op c.args.parts.now c.args.good.now c.counted-first.result c.counted-second.result c.counted-third.result
    None (Some c.in-None-Some-Some.second) (Some c.in-None-Some-Some.third) are c.in-None-Some-Some.is-0 c.in-None-Some-Some.is-1 c.in-None-Some-Some.is-2

pub returns-in-Some-None-None : goal.returns-in-Some-None-None
returns-in-Some-None-None c =
    let are : ValuesAre c.args.op c.args.parts.now c.args.good.now c.counted-first.result c.counted-second.result c.counted-third.result =
    record { on_first = c.counted-first.ensures; on_second = c.counted-second.ensures; on_third = c.counted-third.ensures } in
    c.failed.ensures
    ∙ answered_by c.args.op c.args.parts.now c.args.good.now c.counted-first.result c.counted-second.result c.counted-third.result
    (Some c.in-Some-None-None.field-0-0) None None are c.in-Some-None-None.is-0 c.in-Some-None-None.is-1 c.in-Some-None-None.is-2

pub returns-in-None-Some-None : goal.returns-in-None-Some-None
returns-in-None-Some-None c =
    let are : ValuesAre c.args.op c.args.parts.now c.args.good.now c.counted-first.result c.counted-second.result c.counted-third.result =
    record { on_first = c.counted-first.ensures; on_second = c.counted-second.ensures; on_third = c.counted-third.ensures } in
    c.failed-in-None-Some-None.ensures
    ∙ answered_by c.args.op c.args.parts.now c.args.good.now c.counted-first.result c.counted-second.result c.counted-third.result
    None (Some c.in-None-Some-None.field-0-1) None are c.in-None-Some-None.is-0 c.in-None-Some-None.is-1 c.in-None-Some-None.is-2

pub returns-in-None-None-Some : goal.returns-in-None-None-Some
returns-in-None-None-Some c =
    let are : ValuesAre c.args.op c.args.parts.now c.args.good.now c.counted-first.result c.counted-second.result c.counted-third.result =
    record { on_first = c.counted-first.ensures; on_second = c.counted-second.ensures; on_third = c.counted-third.ensures } in
    c.failed-in-None-None-Some.ensures
    ∙ answered_by c.args.op c.args.parts.now c.args.good.now c.counted-first.result c.counted-second.result c.counted-third.result
    None None (Some c.in-None-None-Some.field-0-2) are c.in-None-None-Some.is-0 c.in-None-None-Some.is-1 c.in-None-None-Some.is-2

pub returns-in-None-None-None : goal.returns-in-None-None-None
returns-in-None-None-None c =
    let are : ValuesAre c.args.op c.args.parts.now c.args.good.now c.counted-first.result c.counted-second.result c.counted-third.result =
    record { on_first = c.counted-first.ensures; on_second = c.counted-second.ensures; on_third = c.counted-third.ensures } in
    c.failed-in-None-None-None.ensures
    ∙ answered_by c.args.op c.args.parts.now c.args.good.now c.counted-first.result c.counted-second.result c.counted-third.result
    None None None are c.in-None-None-None.is-0 c.in-None-None-None.is-1 c.in-None-None-None.is-2

use Rattle.qn_model.specs.Wanted.{to_read, to_reset}
use Rattle.qn_fence.proofs.Choices.{to_read-first, to_reset-first, reads_least, resets_least, none_least}
use Rattle.qn_fence.proofs.fencing.Fence.next.Goals as goal

pub returns-in-Some : goal.returns-in-Some
returns-in-Some c = λ s log h.
    let outside = c.outside-outside in
    let first = c.first.ensures in
    reads_least (to_read s log) (to_reset s log) c.in-Some.rank c.first.result
    (to_read-first c.args.self.now s log h outside.result outside.ensures c.without.result c.first.result c.without.ensures
    first.within first.member first.least first.none)
    c.in-Some.is

pub returns-in-Some-first : goal.returns-in-Some-first
returns-in-Some-first c = λ s log h.
    let outside = c.outside-outside in
    let first = c.first.ensures in
    let second = c.first-2.ensures in
    resets_least (to_read s log) (to_reset s log) c.in-Some-first.rank c.first.result c.first-2.result
    (to_read-first c.args.self.now s log h outside.result outside.ensures c.without.result c.first.result c.without.ensures
    first.within first.member first.least first.none)
    c.in_default.is
    (to_reset-first c.args.self.now s log h outside.result outside.ensures c.without-2.result c.without-left.result c.first-2.result
    c.without-2.ensures c.without-left.ensures second.within second.member second.least second.none)
    c.in-Some-first.is

pub returns-in-None : goal.returns-in-None
returns-in-None c = λ s log h.
    let outside = c.outside-outside in
    let first = c.first.ensures in
    let second = c.first-2.ensures in
    none_least (to_read s log) (to_reset s log) c.first.result c.first-2.result
    (to_read-first c.args.self.now s log h outside.result outside.ensures c.without.result c.first.result c.without.ensures
    first.within first.member first.least first.none)
    c.in_default.is
    (to_reset-first c.args.self.now s log h outside.result outside.ensures c.without-2.result c.without-left.result c.first-2.result
    c.without-2.ensures c.without-left.ensures second.within second.member second.least second.none)
    c.in-None.is

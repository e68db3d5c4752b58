use Rattle.std.proofs.Common.{◌≡◌, [], refl, arith}
use Rattle.std.proofs.lemmas.Bool.Decides.{nat_tests}
use Rattle.std.proofs.lemmas.List.{nil_from_length}
use Rattle.qn_audit.proofs.Verdicts.{over_asks_nothing}
use Rattle.qn_audit.proofs.log_place.LogPlace.end_at.Goals as goal

pub returns-in-Whole : goal.returns-in-Whole
returns-in-Whole c = λ plan stands.
    let test = c.is_empty.ensures in
    let empty = c.if-not-is_empty.false in
    let none : c.args.rest.now ≡ [] = nil_from_length c.args.rest.now (grind (arith, nat_tests, test, empty)) in
    rw (none, over_asks_nothing plan c.in-Whole.field-0 (c.in-Whole.ensures.verdict plan stands)) refl

pub returns-in-Prefix : goal.returns-in-Prefix
returns-in-Prefix c = λ plan stands.
    let test = c.is_empty.ensures in
    let empty = c.if-not-is_empty.false in
    let none : c.args.rest.now ≡ [] = nil_from_length c.args.rest.now (grind (arith, nat_tests, test, empty)) in
    rw (none, (c.in-Prefix.ensures.verdict plan stands).1) refl

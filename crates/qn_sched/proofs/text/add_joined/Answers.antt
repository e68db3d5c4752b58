use Rattle.std.proofs.Common.{◌≤◌, ◌+◌, ◌∙◌, ◌++◌, List, ℕ, ap, arith, get_or, length, lit<, sym}
use Rattle.std.specs.Prelude.{decimal}
use Rattle.qn_names.specs.MemberWords.{joined}
use Rattle.qn_sched.proofs.Joining.{joined_all, joined_more}
use Rattle.qn_sched.proofs.text.add_joined.Goals as goal

pub others-preserved : goal.others-preserved
others-preserved c = record {
  text =
      let number = get_or c.in-Some.others.now c.others.number-index 0 in
      joined_more c.args.byte decimal c.in-Some.others.now c.others.number-index 0 c.add_number.new.into.items c.others.into.items _ c.others-test.true c.others.invariant.text
      (c.add_number-in-others.ensures.text ∙ ap (λ n. c.add.new.into.items ++ decimal n) c.from-in-others.ensures ∙ ap (λ t. t ++ decimal number) c.add.ensures.text);
  room = let a = c.others.invariant.room in let b = c.add.ensures.len in let d = c.add_number-in-others.ensures.len in omega arith;
}

pub add-requires : goal.add-requires
add-requires c =
    let a = c.others.invariant.room in
    let b = c.add_number.ensures.len in
    let few = c.requires.few in
    let room = c.requires.room in
    let parts = c.in-Some.ensures.cases.1 in
    let inside = c.others-test.true in
    let fits : length c.others.into.items + 1 ≤ 4096 = omega arith in
    (lit< tt, fits)

pub returns : goal.returns
returns c =
    let begun = c.add_number.ensures.text ∙ ap (λ n. c.args.into.now.items ++ decimal n) c.from.ensures in
    record {
      text =
          joined_all c.args.byte decimal c.in-Some.others.now c.others.number-index c.args.into.now.items (decimal c.in-Some.first.now) c.add_number.new.into.items c.others.into.items c.others-test.false begun c.others.invariant.text
          ∙ ap (λ (numbers : List ℕ). c.args.into.now.items ++ joined c.args.byte numbers) (sym c.in-Some.ensures.cases.0);
      len =
          let a = c.others.invariant.room in
          let b = c.add_number.ensures.len in
          let few = c.requires.few in
          let parts = c.in-Some.ensures.cases.1 in
          let inside = c.others.auto.number-index-end in
          omega arith;
    }

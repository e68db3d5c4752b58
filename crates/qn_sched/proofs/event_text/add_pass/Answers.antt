use Rattle.std.proofs.Common.{◌∙◌, ◌++◌, ◌∷◌, ap, arith, get_or, append_assoc, map, codes}
use Rattle.std.specs.Prelude.{decimal}
use Rattle.std.specs.List.{join_with_byte}
use Rattle.qn_model.specs.Settings.{ids}
use Rattle.qn_sched.specs.EventLines.{clock_word}
use Rattle.qn_sched.proofs.Joining.{joined_all, joined_more, round_byte}
use Rattle.qn_sched.proofs.event_text.add_pass.Goals as goal

pub clocks-preserved : goal.clocks-preserved
clocks-preserved c = record {
  text =
      let clock = get_or c.as_slice-clocks.result.now c.clocks.rank-index (record { 0 = 0 }, 0) in
      joined_more 32 (clock_word (ids c.args.nodes.now)) c.as_slice-clocks.result.now c.clocks.rank-index (record { 0 = 0 }, 0) c.add_number.new.into.items c.clocks.into.items _ c.clocks-test.true c.clocks.invariant.text
      (round_byte 61 c.add-in-clocks.new.into.items c.add_id.new.into.items c.add-in-clocks-2.new.into.items _ _ _ c.add_id.ensures.text c.add-in-clocks-2.ensures.text c.add_number-in-clocks.ensures.text
      ∙ ap (λ t. t ++ clock_word (ids c.args.nodes.now) clock) c.add-in-clocks.ensures.text);
  room =
      let a = c.clocks.invariant.room in
      let b = c.add-in-clocks.ensures.len in
      let d = c.add_id.ensures.len in
      let e = c.add-in-clocks-2.ensures.len in
      let f = c.add_number-in-clocks.ensures.len in
      omega arith;
}

pub returns : goal.returns
returns c =
    let known = ids c.args.nodes.now in
    joined_all 32 (clock_word known) c.as_slice-clocks.result.now c.clocks.rank-index c.add.new.into.items (decimal c.args.dt) c.add_number.new.into.items c.clocks.into.items c.clocks-test.false c.add_number.ensures.text c.clocks.invariant.text
    ∙ ap (λ clocks. c.add.new.into.items ++ join_with_byte 32 (decimal c.args.dt ∷ map (clock_word known) clocks)) c.as_slice-clocks.ensures.value
    ∙ ap (λ t. t ++ join_with_byte 32 (decimal c.args.dt ∷ map (clock_word known) c.args.clocks.now)) c.add.ensures.text
    ∙ append_assoc c.args.into.now.items (codes "pass ") (join_with_byte 32 (decimal c.args.dt ∷ map (clock_word known) c.args.clocks.now))

use Rattle.std.proofs.Common.{◌∙◌, ◌++◌, List, ap, arith, get_or, sym}
use Rattle.qn_model.specs.Settings.{ids}
use Rattle.qn_model.specs.declared.outputs.Out.{Out}
use Rattle.qn_model.specs.declared.outputs.Out.TheVariants.{Stop}
use Rattle.qn_sched.specs.TraceLines.{out_word, outs_text}
use Rattle.qn_sched.proofs.Joining.{joined_all, joined_more}
use Rattle.qn_sched.proofs.trace.add_outs.Goals as goal

pub others-preserved : goal.others-preserved
others-preserved c = record {
  text =
      let word = out_word (ids c.args.nodes.now) (get_or c.in-Some.others.now c.others.out-index Stop) in
      joined_more 44 (out_word (ids c.args.nodes.now)) c.in-Some.others.now c.others.out-index Stop c.add_out.new.into.items c.others.into.items _ c.others-test.true c.others.invariant.text
      (c.add_out-in-others.ensures.text ∙ ap (λ t. t ++ word) c.add-in-others.ensures.text);
  room = let a = c.others.invariant.room in let b = c.add-in-others.ensures.len in let d = c.add_out-in-others.ensures.len in omega arith;
}

pub returns : goal.returns
returns c =
    let parts = c.in-Some.ensures.cases in
    record {
      text =
          joined_all 44 (out_word (ids c.args.nodes.now)) c.in-Some.others.now c.others.out-index c.args.into.now.items (out_word (ids c.args.nodes.now) c.in-Some.first.now) c.add_out.new.into.items c.others.into.items c.others-test.false c.add_out.ensures.text c.others.invariant.text
          ∙ ap (λ (outs : List Out). c.args.into.now.items ++ outs_text (ids c.args.nodes.now) outs) (sym parts.0 ∙ c.as_slice-outs.ensures.value);
      len =
          let a = c.others.invariant.room in
          let b = c.add_out.ensures.len in
          let more = parts.1 in
          let few = c.as_slice-outs.ensures.fits in
          let inside = c.others.auto.out-index-end in
          omega arith;
    }

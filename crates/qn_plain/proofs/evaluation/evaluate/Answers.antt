use Rattle.std.proofs.Common.{◌≡◌, ◌≤◌, sym, subst, take, arith}
use Rattle.std.proofs.lemmas.List.Elements.{All-get_or}
use Rattle.qn_model.specs.NodeOutputs.{log_from, log_of, newest_outs}
use Rattle.qn_plain.specs.Past.{PastFor}
use Rattle.qn_plain.proofs.Histories.{installs_by, log_of-more, place_after}
use Rattle.qn_plain.proofs.evaluation.evaluate.Goals as goal

pub loop-index-init : goal.loop-index-init
unfolding log_from
loop-index-init c = record { stands = c.new-past.ensures.stands; outs = c.new-outs.ensures; resets = λ tick late. c.new-past.ensures.resets tick }

pub add-outs-requires : goal.add-outs-requires
add-outs-requires c =
    let few = installs_by c.args.settings.now c.args.me.0 c.args.history.now c.loop-index.index c.loop-index.past (omega arith) c.loop-index.invariant.stands in
    omega arith

pub loop-index-preserved : goal.loop-index-preserved
loop-index-preserved c =
    let s = c.args.settings.now in
    let me = c.args.me.0 in
    let history = c.args.history.now in
    let i = c.loop-index.index in
    let here = place_after s me history i (omega arith) in
    record {
      stands =
          subst (λ log. PastFor s c.add-outs.new.self log) (sym (log_of-more s me history i _ (omega arith)))
          (c.add-outs.ensures.stands (log_of s me (take i history)) here c.loop-index.invariant.stands);
      outs =
          subst (λ log. c.add-outs.result ≡ newest_outs log) (sym (log_of-more s me history i _ (omega arith)))
          (c.add-outs.ensures.outs (log_of s me (take i history)) here c.loop-index.invariant.stands);
      resets = λ tick late.
          c.add-outs.ensures.resets tick (All-get_or (λ entry. entry.tick ≤ tick) history i _ (omega arith) late) (c.loop-index.invariant.resets tick late);
    }

use Rattle.std.proofs.Common.{◌≡◌, ◌≤◌, ◌++◌, ◌∷◌, [], length, map, ap, sym, ◌∙◌, append-nil, arith}
use Rattle.std.specs.Prelude.{filter, not}
use Rattle.std.specs.List.{range_with_len}
use Rattle.std.specs.Option.{option_map_or}
use Rattle.qn_base.specs.Members.{is_member}
use Rattle.qn_base.specs.lemmas.Options.{if_none}
use Rattle.qn_model.specs.NodeOutputs.{ask_to}
use Rattle.qn_model.specs.NodeVotes.{view}
use Rattle.qn_node.proofs.Asking.{asks_nobody, asks_step}
use Rattle.qn_node.proofs.live.Live.ask.Goals as goal

pub loop-rank-preserved : goal.loop-rank-preserved
loop-rank-preserved c = record {
  few = c.loop-rank.invariant.few;
  all = c.loop-rank.invariant.all;
  many = omega arith;
  asks = λ s me log line h none.
      asks_step (λ present. ask_to me (line ∷ log) present) (is_member c.args.asked) c.loop-rank.rank (view (line ∷ log)) c.args.outs.now c.loop-rank.outs c.ask_one.new.outs
      (c.loop-rank.invariant.asks s me log line h none) (c.ask_one.ensures.value s me log line h none);
}

pub returns-clause-value : goal.returns-clause-value
returns-clause-value c = λ me log line h none members.
    let s = c.args.own.now.settings in
    let few : length s.nodes ≤ 32 = omega arith in
    let all : c.loop-rank.rank ≡ length s.nodes = omega arith in
    c.loop-rank.invariant.asks s me log line h none
    ∙ (ap (λ n. c.args.outs.now ++ option_map_or (λ present. map (ask_to me (line ∷ log) present) (filter (is_member c.args.asked) (range_with_len 0 n))) (view (line ∷ log)) []) all
    ∙ ap (λ more. c.args.outs.now ++ more) (sym (c.law_asks_by_members.ensures s me (line ∷ log) c.args.asked few members)))

pub returns-then-is_none-clause-value : goal.returns-then-is_none-clause-value
returns-then-is_none-clause-value c = λ me log line h none members.
    let s = c.args.own.now.settings in
    let outs = c.args.outs.now in
    let few : length s.nodes ≤ 32 = omega arith in
    let count : c.count.result ≡ length s.nodes = c.count.ensures.value in
    let nobody = if_none c.first.result _ (c.is_none.ensures ∙ ap not c.if-is_none.true) c.first.ensures.none in
    let sent = asks_nobody (ask_to me (line ∷ log)) (is_member c.args.asked) (length s.nodes) (view (line ∷ log)) (λ rank low. nobody rank (omega arith)) in
    sym (ap (λ more. outs ++ more) (c.law_asks_by_members.ensures s me (line ∷ log) c.args.asked few members ∙ sent) ∙ append-nil outs)

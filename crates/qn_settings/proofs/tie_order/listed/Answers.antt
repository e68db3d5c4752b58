use Rattle.std.proofs.Common.{rules, tests, arith, ◌==◌, ◌<◌, not, [], ◌∷◌, ◌++◌, length, ap, sym, ◌∙◌}
use Rattle.std.specs.Bool.{then_some}
use Rattle.std.specs.List.{list_any, slice_split}
use Rattle.std.proofs.lemmas.Iterator.Consumers.{YieldsList-turn, YieldsList-end}
use Rattle.std.proofs.lemmas.Iterator.Splits.{YieldsList-from_slice_split}
use Rattle.std.proofs.lemmas.List.{length_push}
use Rattle.std.proofs.lemmas.List.Elements.{All-push}
use Rattle.qn_conf.specs.Line.{is_blank}
use Rattle.qn_settings.proofs.TieLemmas.{after_again, after_all, after_empty, after_named, after_unnamed, has_twice-push, length-order}
use Rattle.qn_settings.proofs.tie_order.listed.Goals as goal

pub loop-word-preserved-then-is_empty : goal.loop-word-preserved-then-is_empty
loop-word-preserved-then-is_empty c =
    let turn = YieldsList-turn (YieldsList-from_slice_split _ is_blank c.args.text.now (cc) (cc) (cc) (λ x b q k. search (rules, tests))) c.loop-word.yielded _ c.loop-word.yielded_by _ _ c.in-Some.word c.in-Some.is c.next.ensures.steps
    in record {
      can_next = search rules;
      is_finite = tt;
      read = rw (length_push c.loop-word.yielded c.in-Some.word) (after_empty c.args.nodes.now c.loop-word.order (slice_split is_blank c.args.text.now) (length c.loop-word.yielded) c.in-Some.word.now _ turn.0 turn.1 c.loop-word.invariant.read (sym c.is_empty.ensures ∙ c.if-is_empty.true));
      once = c.loop-word.invariant.once;
      within = c.loop-word.invariant.within;
    }

pub returns-in_err-rank : goal.returns-in_err-rank
returns-in_err-rank c =
    let turn = YieldsList-turn (YieldsList-from_slice_split _ is_blank c.args.text.now (cc) (cc) (cc) (λ x b q k. search (rules, tests))) c.loop-word.yielded _ c.loop-word.yielded_by _ _ c.in-Some.word c.in-Some.is c.next.ensures.steps
    in c.from_residual.ensures ∙ after_unnamed c.args.nodes.now c.loop-word.order (slice_split is_blank c.args.text.now) (length c.loop-word.yielded) c.in-Some.word.now _ turn.0 turn.1 c.loop-word.invariant.read (sym c.is_empty.ensures ∙ c.if-is_empty.false) (sym c.named.ensures.value ∙ c.in_err-rank.was)

pub returns-then-contains : goal.returns-then-contains
returns-then-contains c =
    let turn = YieldsList-turn (YieldsList-from_slice_split _ is_blank c.args.text.now (cc) (cc) (cc) (λ x b q k. search (rules, tests))) c.loop-word.yielded _ c.loop-word.yielded_by _ _ c.in-Some.word c.in-Some.is c.next.ensures.steps
    in after_again c.args.nodes.now c.loop-word.order (slice_split is_blank c.args.text.now) (length c.loop-word.yielded) c.in-Some.word.now c.in_ok-rank.rank _ turn.0 turn.1 c.loop-word.invariant.read (sym c.is_empty.ensures ∙ c.if-is_empty.false) (sym c.named.ensures.value ∙ c.in_ok-rank.was)
    (ap (list_any (λ other. other.0 == c.in_ok-rank.rank.0)) (sym c.as_slice.ensures.value) ∙ sym c.contains.ensures.value ∙ c.if-contains.true)

pub push-requires : goal.push-requires
push-requires c =
    let apart = ap (list_any (λ other. other.0 == c.in_ok-rank.rank.0)) (sym c.as_slice.ensures.value) ∙ sym c.contains.ensures.value ∙ c.if-contains.false
    in let fits = length-order (length c.args.nodes.now) (c.loop-word.order ++ c.in_ok-rank.rank ∷ [])
    (has_twice-push c.loop-word.order c.in_ok-rank.rank c.loop-word.invariant.once apart)
    (All-push (λ rank. rank.0 < length c.args.nodes.now) c.loop-word.order c.in_ok-rank.rank c.loop-word.invariant.within c.in_ok-rank.ensures.within)
    in omega (arith, fits, c.requires, length_push c.loop-word.order c.in_ok-rank.rank)

pub loop-word-preserved : goal.loop-word-preserved
loop-word-preserved c =
    let turn = YieldsList-turn (YieldsList-from_slice_split _ is_blank c.args.text.now (cc) (cc) (cc) (λ x b q k. search (rules, tests))) c.loop-word.yielded _ c.loop-word.yielded_by _ _ c.in-Some.word c.in-Some.is c.next.ensures.steps
    in let apart = ap (list_any (λ other. other.0 == c.in_ok-rank.rank.0)) (sym c.as_slice.ensures.value) ∙ sym c.contains.ensures.value ∙ c.if-contains.false
    in record {
      can_next = search rules;
      is_finite = tt;
      read = rw (length_push c.loop-word.yielded c.in-Some.word, c.push.ensures) (after_named c.args.nodes.now c.loop-word.order (slice_split is_blank c.args.text.now) (length c.loop-word.yielded) c.in-Some.word.now c.in_ok-rank.rank _ turn.0 turn.1 c.loop-word.invariant.read (sym c.is_empty.ensures ∙ c.if-is_empty.false) (sym c.named.ensures.value ∙ c.in_ok-rank.was));
      once = rw c.push.ensures (has_twice-push c.loop-word.order c.in_ok-rank.rank c.loop-word.invariant.once apart);
      within = rw c.push.ensures (All-push (λ rank. rank.0 < length c.args.nodes.now) c.loop-word.order c.in_ok-rank.rank c.loop-word.invariant.within c.in_ok-rank.ensures.within);
    }

pub returns : goal.returns
returns c =
    let ended = YieldsList-end (YieldsList-from_slice_split _ is_blank c.args.text.now (cc) (cc) (cc) (λ x b q k. search (rules, tests))) c.loop-word.yielded _ c.loop-word.yielded_by _ _ c.in-None.is c.next.ensures.steps
    in c.then_some.ensures
    ∙ ap (λ empty. then_some (not empty) c.loop-word.order) c.is_empty-2.ensures
    ∙ after_all c.args.nodes.now c.loop-word.order (slice_split is_blank c.args.text.now) (length c.loop-word.yielded) _ ended.1 c.loop-word.invariant.read c.loop-word.invariant.once

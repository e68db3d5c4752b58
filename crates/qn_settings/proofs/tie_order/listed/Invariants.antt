use Rattle.std.proofs.Common.{◌≡◌, ◌<◌, false, length, drop}
use Rattle.std.specs.Prelude.{All}
use Rattle.std.specs.List.{slice_split}
use Rattle.qn_conf.specs.Line.{is_blank}
use Rattle.qn_settings.specs.TieOrder.{has_twice, listed}
use Rattle.qn_settings.proofs.TieLemmas.{read_on}
use Rattle.qn_settings.proofs.tie_order.listed.Given as goal

abbrev pub invariant-loop-word : goal.invariant-loop-word
invariant-loop-word l = record {
  can_next : (goal.iterator-loop-word).can_next l.word-iterator;
  is_finite : (goal.iterator-loop-word).is_finite l.word-iterator;
  read : read_on l.nodes l.order (drop (length l.yielded) (slice_split is_blank l.text)) ≡ listed l.nodes l.text;
  once : has_twice l.order ≡ false;
  within : All (λ rank. rank.0 < length l.nodes) l.order;
}

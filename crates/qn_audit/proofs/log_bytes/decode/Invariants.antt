use Rattle.std.proofs.Common.{◌≡◌, ◌*◌, take, drop}
use Rattle.hex.specs.Hex.{decode_pairs}
use Rattle.hex.proofs.Pairs.{prepend}
use Rattle.qn_audit.proofs.Digits.{AreLower}
use Rattle.qn_audit.proofs.log_bytes.decode.Given as goal

-- the pairs of digits before place `2 * i` are decoded at the beginning of `into`, and none of them has upper case
abbrev pub invariant-loop-i : goal.invariant-loop-i
invariant-loop-i l = record {
  decoded : decode_pairs 0 l.word ≡ prepend (take l.i l.into) (decode_pairs (2 * l.i) (drop (2 * l.i) l.word));
  lower : AreLower l.word (2 * l.i);
}

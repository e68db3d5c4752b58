use Rattle.std.proofs.Common.{◌≡◌, length, map, bit_xor, arith}
use Rattle.std.proofs.lemmas.Grind.{same_number_lists}
use Rattle.std.proofs.lemmas.List.{get_or-map, length-map}
use Rattle.qn_seal.proofs.mac.masked.Goals as goal

pub returns : goal.returns
returns c =
    let long : length c.loop-place.place-items ≡ length (map (λ b. bit_xor b c.args.byte) c.args.key.now) =
    grind (arith, length-map c.args.key.now (λ b. bit_xor b c.args.byte)) in
    same_number_lists _ _ long
    (λ k h. grind (arith, c.loop-place.invariant.0 k (omega arith), get_or-map (λ b. bit_xor b c.args.byte) c.args.key.now k 0 0 (omega arith)))

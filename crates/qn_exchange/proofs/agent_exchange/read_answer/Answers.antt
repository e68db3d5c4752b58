use Rattle.std.proofs.Common.{◌≡◌, ℕ, ◌<◌, List, [], ◌∷◌, ◌++◌, length, take, get_or, sym, ap, subst, ◌∙◌, arith, length-append}
use Rattle.std.specs.Prelude.{codes}
use Rattle.std.proofs.lemmas.List.{length-take-le}
use Rattle.std.proofs.Math.Seq.{get_or-append_seam}
use Rattle.std.proofs.KnownBytes.{Consumes-kept, Consumes-trans}
use Rattle.qn_exchange.proofs.Answering.{at_err}
use Rattle.qn_exchange.proofs.agent_exchange.read_answer.Goals as goal

-- a line that is not read to its end is not the line
is_short : (line : List ℕ) (count : ℕ) → count < length line → take count line ≡ line → ⊥
is_short line count below same =
    let parts : length (take count line) ≡ length line = ap length same in
    absurd (omega (arith, length-take-le count line (omega arith)))

-- nor is it with another byte in the place of the next one
is_other : (line : List ℕ) (count byte : ℕ) → count < length line → (byte ≡ get_or line count 0 → ⊥) → take count line ++ byte ∷ [] ≡ line → ⊥
is_other line count byte below differs same =
    let size : length (take count line) ≡ count = length-take-le count line (omega arith) in
    let here : get_or (take count line ++ byte ∷ []) count 0 ≡ byte =
    subst (λ (at : ℕ). get_or (take count line ++ byte ∷ []) at 0 ≡ byte) size (get_or-append_seam (take count line) byte [] 0) in
    differs (sym here ∙ ap (λ xs. get_or xs count 0) same)

pub returns-in_err-byte-clause-declined : goal.returns-in_err-byte-clause-declined
returns-in_err-byte-clause-declined g c =
    let line = codes "ok\n" in
    let count = c.loop-wanted.wanted-index in
    let below : count < 3 = omega arith in
    at_err _ c.from_residual.result (record {
      answer = take count line;
      short = omega (arith, length-take-le count line (omega arith));
      other = is_short line count below;
      takes = Consumes-kept _ _ _ (take count line) c.loop-wanted.invariant.0 c.in_err-byte.ensures.kept;
    })

pub returns-then-byte-wanted-clause-declined : goal.returns-then-byte-wanted-clause-declined
returns-then-byte-wanted-clause-declined g c =
    let line = codes "ok\n" in
    let count = c.loop-wanted.wanted-index in
    let byte = c.in_ok-byte.byte in
    let below : count < 3 = omega arith in
    record {
      answer = take count line ++ byte ∷ [];
      short = omega (arith, length-append (take count line) (byte ∷ []), length-take-le count line (omega arith));
      other = is_other line count byte below c.if-byte-wanted.true;
      takes = Consumes-trans _ _ _ (take count line) (byte ∷ []) c.loop-wanted.invariant.0 c.in_ok-byte.ensures.took;
    }

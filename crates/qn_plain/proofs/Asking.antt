-- The Asks of an asking moment, one rank after the other.
use Rattle.std.proofs.Common.{◌≡◌, ℕ, suc, ◌+◌, Bool, true, false, List, ◌∷◌, ◌++◌, append_assoc, refl, ap, sym, ◌∙◌, cond}
use Rattle.std.specs.Prelude.{filter, map}
use Rattle.std.specs.List.{range_with_len}
use Rattle.qn_base.specs.declared.ids.View.{View}
use Rattle.qn_model.specs.declared.outputs.Out.{Out}
use Rattle.qn_model.specs.NodeOutputs.{when}
use Rattle.qn_plain.specs.declared.past.Past.{Past}
use Rattle.qn_plain.specs.Outputs.{ask_of, asks_from, is_asked_of}

first_kept : (b : Bool) (f : ℕ → Out) (from : ℕ) (rest : List ℕ) → map f (cond b (from ∷ rest) rest) ≡ when b (f from) ++ map f rest
first_kept true f from rest = refl
first_kept false f from rest = refl

asks_from-suc : (me : ℕ) (past : Past) (present : View) (from count : ℕ)
    → asks_from me past present from (suc count)
    ≡ when (is_asked_of me past from) (ask_of me past present from) ++ asks_from me past present (from + 1) count
asks_from-suc me past present from count =
    first_kept (is_asked_of me past from) (ask_of me past present) from (filter (is_asked_of me past) (range_with_len (from + 1) count))

-- one rank more was asked
pub asks_more : (me : ℕ) (past : Past) (present : View) (rank left count : ℕ) (asked : Bool) (ask : Out) (before after all : List Out)
    → left ≡ suc count → asked ≡ is_asked_of me past rank → ask ≡ ask_of me past present rank → after ≡ before ++ when asked ask
    → before ++ asks_from me past present rank left ≡ all
    → after ++ asks_from me past present (rank + 1) count ≡ all
asks_more me past present rank left count asked ask before after all more is said adds rest =
    let here : when asked ask ≡ when (is_asked_of me past rank) (ask_of me past present rank) = cc in
    ap (λ outs. outs ++ asks_from me past present (rank + 1) count) (adds ∙ ap (λ outs. before ++ outs) here)
    ∙ (append_assoc before (when (is_asked_of me past rank) (ask_of me past present rank)) (asks_from me past present (rank + 1) count)
    ∙ (ap (λ outs. before ++ outs) (sym (asks_from-suc me past present rank count))
    ∙ (ap (λ n. before ++ asks_from me past present rank n) (sym more) ∙ rest)))

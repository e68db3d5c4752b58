-- How many of the leftovers pass a test.
use Rattle.std.proofs.Common.{◌≡◌, ℕ, suc, zero, ◌+◌, Bool, true, false, List, [], ◌∷◌, length, Some, if◌then◌else◌, sym, ◌∙◌, ap, add-one}
use Rattle.std.specs.Prelude.{slice_get, take}
use Rattle.qn_cluster.specs.declared.leftovers.Leftover.{Leftover}
use Rattle.qn_cluster.specs.DiskStanding.{left_where}
use Rattle.qn_model.specs.declared.outputs.DiskOp.{DiskOp}

one_where : (mine : Leftover → Bool) (x : Leftover) (b : Bool) → mine x ≡ b → length (left_where mine (x ∷ [])) ≡ (if b then 1 else 0)
one_where mine x true is = ap (λ c. length (if c then x.op ∷ [] else [])) is
one_where mine x false is = ap (λ c. length (if c then x.op ∷ [] else [])) is

behind : (head : Bool) (op : DiskOp) (longer shorter : List DiskOp) (b : Bool) → length longer ≡ (if b then suc (length shorter) else length shorter)
    → length (if head then op ∷ longer else longer) ≡ (if b then suc (length (if head then op ∷ shorter else shorter)) else length (if head then op ∷ shorter else shorter))
behind true op longer shorter true e = ap suc e
behind true op longer shorter false e = ap suc e
behind false op longer shorter b e = e

count_more : (mine : Leftover → Bool) (xs : List Leftover) (k : ℕ) (x : Leftover) (b : Bool) → slice_get xs k ≡ Some x → mine x ≡ b
    → length (left_where mine (take (suc k) xs)) ≡ (if b then suc (length (left_where mine (take k xs))) else length (left_where mine (take k xs)))
count_more mine [] k x b here is = cc
count_more mine (y ∷ ys) zero x b here is =
    let same : y ≡ x = cc in ap (λ z. length (left_where mine (z ∷ []))) same ∙ one_where mine x b is
count_more mine (y ∷ ys) (suc k) x b here is = behind (mine y) y.op _ _ b (count_more mine ys k x b here is)

-- one leftover more, which passes or not
pub counted_more : (mine : Leftover → Bool) (xs : List Leftover) (k count : ℕ) (x : Leftover) → slice_get xs k ≡ Some x → mine x ≡ true
    → count ≡ length (left_where mine (take k xs)) → count + 1 ≡ length (left_where mine (take (k + 1) xs))
counted_more mine xs k count x here is e =
    add-one count ∙ (ap suc e ∙ (sym (count_more mine xs k x true here is) ∙ ap (λ n. length (left_where mine (take n xs))) (sym (add-one k))))

pub counted_same : (mine : Leftover → Bool) (xs : List Leftover) (k count : ℕ) (x : Leftover) → slice_get xs k ≡ Some x → mine x ≡ false
    → count ≡ length (left_where mine (take k xs)) → count ≡ length (left_where mine (take (k + 1) xs))
counted_same mine xs k count x here is e =
    e ∙ (sym (count_more mine xs k x false here is) ∙ ap (λ n. length (left_where mine (take n xs))) (sym (add-one k)))

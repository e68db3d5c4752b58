-- The one word that was wanted of a line is all that it has.
use Rattle.std.proofs.Common.{◌≡◌, ℕ, List, [], ◌∷◌, Ok}
use Rattle.qn_sched.specs.Words.{one_word}

pub one_word-ok : (words : List (List ℕ)) (word : List ℕ) → one_word words ≡ Ok word → words ≡ word ∷ []
one_word-ok [] word is = cc
one_word-ok (first ∷ []) word is = cc
one_word-ok (first ∷ second ∷ words) word is = cc

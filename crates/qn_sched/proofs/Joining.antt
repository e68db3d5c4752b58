-- Words joined by a byte, written one after another.
use Rattle.std.proofs.Common.{◌≡◌, ◌+◌, ◌<◌, ◌≤◌, ◌==◌, ℕ, zero, suc, true, false, cond, List, [], ◌∷◌, ◌++◌, length, map, take, drop, get_or, refl, sym, ap, ◌∙◌, append_assoc, append-nil, arith}
use Rattle.std.specs.List.{join_with_byte}
use Rattle.std.specs.Prelude.{slice_index}
use Rattle.std.proofs.lemmas.Bool.Decides.{nat_tests}
use Rattle.std.proofs.lemmas.List.{map-append, take_all, take_more, at_drop_more}
use Rattle.qn_base.specs.declared.ids.Mask.{Mask}
use Rattle.qn_base.specs.Members.{is_member}
use Rattle.qn_model.specs.declared.nodelist.NodeEntry.{NodeEntry}
use Rattle.qn_model.specs.Settings.{ids}
use Rattle.qn_names.specs.MemberWords.{ids_from}

-- each word after a byte
abbrev pub behind : ℕ → List (List ℕ) → List ℕ
behind byte [] = []
behind byte (word ∷ words) = (byte ∷ word) ++ behind byte words

-- the first word, and then each after a byte
pub join-behind : (byte : ℕ) (word : List ℕ) (words : List (List ℕ)) → join_with_byte byte (word ∷ words) ≡ word ++ behind byte words
join-behind byte word [] = sym (append-nil word)
join-behind byte word (next ∷ words) = ap (λ rest. word ++ byte ∷ rest) (join-behind byte next words)

behind-push : (byte : ℕ) (words : List (List ℕ)) (word : List ℕ) → behind byte (words ++ word ∷ []) ≡ behind byte words ++ byte ∷ word
behind-push byte [] word = append-nil (byte ∷ word)
behind-push byte (first ∷ words) word =
    ap (λ rest. (byte ∷ first) ++ rest) (behind-push byte words word) ∙ sym (append_assoc (byte ∷ first) (behind byte words) (byte ∷ word))

module _ {X : Type 0} (byte : ℕ) (f : X → List ℕ) (xs : List X) where
  behind_more : (i : ℕ) (d : X) → i < length xs → behind byte (map f (take (i + 1) xs)) ≡ behind byte (map f (take i xs)) ++ byte ∷ f (get_or xs i d)
  behind_more i d inside =
      ap (λ ys. behind byte (map f ys)) (take_more xs i d inside)
      ∙ ap (behind byte) (map-append f (take i xs) (get_or xs i d ∷ []))
      ∙ behind-push byte (map f (take i xs)) (f (get_or xs i d))

  -- one more word was added
  pub joined_more : (i : ℕ) (d : X) (start text new : List ℕ) → i < length xs → text ≡ start ++ behind byte (map f (take i xs))
      → new ≡ (text ++ byte ∷ []) ++ f (get_or xs i d) → new ≡ start ++ behind byte (map f (take (i + 1) xs))
  joined_more i d start text new inside so_far is =
      is
      ∙ append_assoc text (byte ∷ []) (f (get_or xs i d))
      ∙ ap (λ t. t ++ byte ∷ f (get_or xs i d)) so_far
      ∙ append_assoc start (behind byte (map f (take i xs))) (byte ∷ f (get_or xs i d))
      ∙ ap (λ rest. start ++ rest) (sym (behind_more i d inside))

  -- all words were added
  pub joined_all : (i : ℕ) (old first start text : List ℕ) → length xs ≤ i → start ≡ old ++ first → text ≡ start ++ behind byte (map f (take i xs))
      → text ≡ old ++ join_with_byte byte (first ∷ map f xs)
  joined_all i old first start text past begun so_far =
      so_far
      ∙ ap (λ s. s ++ behind byte (map f (take i xs))) begun
      ∙ ap (λ ys. (old ++ first) ++ behind byte (map f ys)) (take_all i xs past)
      ∙ append_assoc old first (behind byte (map f xs))
      ∙ ap (λ rest. old ++ rest) (sym (join-behind byte first (map f xs)))

-- no node from this rank on is a member
pub ids_from-none : (rank : ℕ) (all : List ℕ) (members : Mask) → ((j : ℕ) → rank ≤ j → j < rank + length all → is_member members j ≡ false)
    → ids_from rank all members ≡ []
ids_from-none rank [] members none = refl
ids_from-none rank (id ∷ all) members none =
    let here : is_member members rank ≡ false = none rank (omega arith) (omega arith) in
    rw here (ids_from-none (rank + 1) all members (λ j above low. none j (omega arith) (omega arith)))

-- one node alone is a member
pub ids_from-one : (rank place one : ℕ) (all : List ℕ) (members : Mask) → one ≡ rank + place → place < length all
    → ((j : ℕ) → rank ≤ j → j < rank + length all → is_member members j ≡ (one == j)) → ids_from rank all members ≡ slice_index all place ∷ []
ids_from-one rank place one [] members is inside only = absurd (omega arith)
ids_from-one rank zero one (id ∷ all) members is inside only =
    let here : is_member members rank ≡ true = only rank (omega arith) (omega arith) ∙ grind (arith, nat_tests) in
    let others : ids_from (rank + 1) all members ≡ [] = ids_from-none (rank + 1) all members (λ j above low. only j (omega arith) (omega arith) ∙ grind (arith, nat_tests)) in
    rw (here, others) refl
ids_from-one rank (suc place) one (id ∷ all) members is inside only =
    let here : is_member members rank ≡ false = only rank (omega arith) (omega arith) ∙ grind (arith, nat_tests) in
    rw here (ids_from-one (rank + 1) place one all members (omega arith) (omega arith) (λ j above low. only j (omega arith) (omega arith)))

-- the ids of the members from this rank on
abbrev pub left_ids : ℕ → Mask → List NodeEntry → List ℕ
left_ids rank members nodes = ids_from rank (ids nodes) members

module _ (members : Mask) (nodes : List NodeEntry) (rank : ℕ) (d : NodeEntry) (inside : rank < length nodes) where
  one_member : (rank : ℕ) (node : NodeEntry) (nodes : List NodeEntry) → is_member members rank ≡ true
      → left_ids rank members (node ∷ nodes) ≡ node.id.0 ∷ left_ids (rank + 1) members nodes
  one_member rank node nodes is =
      ap (λ b. cond b (node.id.0 ∷ left_ids (rank + 1) members nodes) (left_ids (rank + 1) members nodes)) is

  one_outsider : (rank : ℕ) (node : NodeEntry) (nodes : List NodeEntry) → is_member members rank ≡ false
      → left_ids rank members (node ∷ nodes) ≡ left_ids (rank + 1) members nodes
  one_outsider rank node nodes is =
      ap (λ b. cond b (node.id.0 ∷ left_ids (rank + 1) members nodes) (left_ids (rank + 1) members nodes)) is

  -- the next node is a member
  pub ids_from-member : (list all : List ℕ) → is_member members rank ≡ true → list ++ left_ids rank members (drop rank nodes) ≡ all
      → (list ++ (get_or nodes rank d).id.0 ∷ []) ++ left_ids (rank + 1) members (drop (rank + 1) nodes) ≡ all
  ids_from-member list all is so_far =
      append_assoc list ((get_or nodes rank d).id.0 ∷ []) (left_ids (rank + 1) members (drop (rank + 1) nodes))
      ∙ ap (λ rest. list ++ rest)
      (sym (at_drop_more (left_ids rank members) nodes rank d inside ∙ one_member rank (get_or nodes rank d) (drop (rank + 1) nodes) is))
      ∙ so_far

  -- the next node is no member
  pub ids_from-outsider : (list all : List ℕ) → is_member members rank ≡ false → list ++ left_ids rank members (drop rank nodes) ≡ all
      → list ++ left_ids (rank + 1) members (drop (rank + 1) nodes) ≡ all
  ids_from-outsider list all is so_far =
      ap (λ rest. list ++ rest)
      (sym (at_drop_more (left_ids rank members) nodes rank d inside ∙ one_outsider rank (get_or nodes rank d) (drop (rank + 1) nodes) is))
      ∙ so_far

-- a text and two more, round a byte
pub round_byte : (byte : ℕ) (before middle behind_byte new first second : List ℕ) → middle ≡ before ++ first → behind_byte ≡ middle ++ byte ∷ [] → new ≡ behind_byte ++ second
    → new ≡ before ++ (first ++ byte ∷ second)
round_byte byte before middle behind_byte new first second one two three =
    three
    ∙ ap (λ t. t ++ second) two
    ∙ append_assoc middle (byte ∷ []) second
    ∙ ap (λ t. t ++ byte ∷ second) one
    ∙ append_assoc before first (byte ∷ second)

-- A list of members that is written id by id.
use Rattle.std.proofs.Common.{◌≡◌, ◌+◌, ◌<◌, ℕ, Bool, true, false, cond, List, [], ◌∷◌, ◌++◌, length, map, drop, get_or, refl, ap, ◌∙◌, append_assoc}
use Rattle.std.specs.Prelude.{decimal}
use Rattle.std.specs.List.{join_with_byte}
use Rattle.std.proofs.lemmas.List.{at_drop_more}
use Rattle.qn_base.specs.declared.ids.Mask.{Mask}
use Rattle.qn_base.specs.Members.{is_member}
use Rattle.qn_model.specs.declared.nodelist.NodeEntry.{NodeEntry}
use Rattle.qn_model.specs.Settings.{ids}
use Rattle.qn_names.specs.MemberWords.{ids_from}

-- the id of a member, after a comma where it is not the first
abbrev pub one_id : Bool → ℕ → List ℕ
one_id first id = cond first (decimal id) (44 ∷ decimal id)

-- a text and these ids after it
abbrev pub with_ids : Bool → List ℕ → List ℕ → List ℕ
with_ids first text [] = text
with_ids first text (id ∷ ids) = with_ids false (text ++ one_id first id) ids

-- after the first one stand a comma and the next one each
later_ids : (before : List ℕ) → (id : ℕ) → (ids : List ℕ) → with_ids false (before ++ decimal id) ids ≡ before ++ join_with_byte 44 (decimal id ∷ map decimal ids)
later_ids before id [] = refl
later_ids before id (next ∷ ids) =
    let grouped : (before ++ decimal id) ++ 44 ∷ decimal next ≡ (before ++ decimal id ++ 44 ∷ []) ++ decimal next = simp append_assoc in
    ap (λ (text : List ℕ). with_ids false text ids) grouped
    ∙ later_ids (before ++ decimal id ++ 44 ∷ []) next ids
    ∙ simp append_assoc

-- all ids after an empty text
pub all_ids : (ids : List ℕ) → with_ids true [] ids ≡ join_with_byte 44 (map decimal ids)
all_ids [] = refl
all_ids (id ∷ ids) = later_ids [] id ids

-- a text and the ids after it of the members among these nodes, of which the first has that rank
abbrev pub with_members : Mask → ℕ → Bool → List ℕ → List NodeEntry → List ℕ
with_members members rank first text nodes = with_ids first text (ids_from rank (ids nodes) members)

module _ (members : Mask) (nodes : List NodeEntry) (rank : ℕ) (d : NodeEntry) (inside : rank < length nodes) (first : Bool) (text : List ℕ) where
  one_member : (node : NodeEntry) (nodes : List NodeEntry) → is_member members rank ≡ true
      → with_members members rank first text (node ∷ nodes) ≡ with_members members (rank + 1) false (text ++ one_id first node.id.0) nodes
  one_member node nodes is =
      ap (λ b. with_ids first text (cond b (node.id.0 ∷ ids_from (rank + 1) (ids nodes) members) (ids_from (rank + 1) (ids nodes) members))) is

  one_outsider : (node : NodeEntry) (nodes : List NodeEntry) → is_member members rank ≡ false
      → with_members members rank first text (node ∷ nodes) ≡ with_members members (rank + 1) first text nodes
  one_outsider node nodes is =
      ap (λ b. with_ids first text (cond b (node.id.0 ∷ ids_from (rank + 1) (ids nodes) members) (ids_from (rank + 1) (ids nodes) members))) is

  -- the next node is a member
  pub member_more : is_member members rank ≡ true
      → with_members members rank first text (drop rank nodes)
      ≡ with_members members (rank + 1) false (text ++ one_id first (get_or nodes rank d).id.0) (drop (rank + 1) nodes)
  member_more is =
      at_drop_more (with_members members rank first text) nodes rank d inside
      ∙ one_member (get_or nodes rank d) (drop (rank + 1) nodes) is

  -- the next node is no member
  pub outsider_more : is_member members rank ≡ false
      → with_members members rank first text (drop rank nodes) ≡ with_members members (rank + 1) first text (drop (rank + 1) nodes)
  outsider_more is =
      at_drop_more (with_members members rank first text) nodes rank d inside
      ∙ one_outsider (get_or nodes rank d) (drop (rank + 1) nodes) is

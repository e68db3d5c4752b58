-- A list of members that is judged part by part is judged as the definition says.
use Rattle.std.proofs.Common.{◌≡◌, ◌^◌, ℕ, Bool, true, false, ◌&&◌, cond, List, [], ◌∷◌, Option, None, Some, Result, Ok, Err, map, filter, fold, bit_or, slice_index, refl, sym, ap, ◌∙◌}
use Rattle.std.specs.List.{list_all}
use Rattle.std.proofs.Math.Bool.{and-true, and-false}
use Rattle.qn_base.specs.declared.ids.Mask.{Mask}
use Rattle.qn_model.specs.declared.line_fault.LineFault.{LineFault}
use Rattle.qn_model.specs.declared.line_fault.LineFault.TheVariants.{BadView}
use Rattle.qn_model.specs.Lines.{◌>>=◌, parts, known_rank, known_ranks, members_of, mask_of, is_filled, is_ascending}
use Rattle.qn_sched.specs.declared.members.MemberList.{MemberList}
use Rattle.qn_sched.proofs.Binds.{bind-same, bind-ok}
use Rattle.qn_sched.specs.MemberList.{is_above, no_members, with_rank, with_part, with_parts, finished}

-- ids that ascend, after one that stands before them
abbrev pub ascends_from : Option ℕ → List ℕ → Bool
ascends_from last [] = true
ascends_from last (id ∷ ids) = is_above last id && ascends_from (Some id) ids

-- the members, where the parts that are left have these ranks
abbrev pub listed : List ℕ → MemberList → List (List ℕ) → List ℕ → Result Mask LineFault
listed ids list words ranks =
    cond (list.is_sound && (list_all is_filled words && ascends_from list.last (map (slice_index ids) ranks)))
    (Ok (record { 0 = fold (λ mask rank. bit_or mask (2 ^ rank)) list.ranks ranks })) (Err BadView)

ascends_from-first : (id : ℕ) (ids : List ℕ) → is_ascending (id ∷ ids) ≡ ascends_from (Some id) ids
ascends_from-first id [] = refl
ascends_from-first id (next ∷ ids) = ap (λ b. is_above (Some id) next && b) (ascends_from-first next ids)

ascends_from-none : (ids : List ℕ) → is_ascending ids ≡ ascends_from None ids
ascends_from-none [] = refl
ascends_from-none (id ∷ ids) = ascends_from-first id ids

regroup : (sound above filled rest : Bool) → ((sound && above) && (filled && rest)) ≡ (sound && (filled && (above && rest)))
regroup false above filled rest = refl
regroup true true filled rest = refl
regroup true false true rest = refl
regroup true false false rest = refl

listed-empty : (ids : List ℕ) (list : MemberList) (words : List (List ℕ)) (ranks : List ℕ)
    → listed ids (record { ranks = list.ranks; last = list.last; is_sound = false }) words ranks ≡ listed ids list ([] ∷ words) ranks
listed-empty ids list words ranks =
    ap (λ b. cond b (Ok (record { 0 = fold (λ mask rank. bit_or mask (2 ^ rank)) list.ranks ranks })) (Err BadView)) (sym (and-false list.is_sound))

listed-more : (ids : List ℕ) (list : MemberList) (byte : ℕ) (bytes : List ℕ) (words : List (List ℕ)) (rank : ℕ) (ranks : List ℕ)
    → listed ids (with_rank list rank (slice_index ids rank)) words ranks ≡ listed ids list ((byte ∷ bytes) ∷ words) (rank ∷ ranks)
listed-more ids list byte bytes words rank ranks =
    let id = slice_index ids rank in
    ap (λ b. cond b (Ok (record { 0 = fold (λ mask rank. bit_or mask (2 ^ rank)) list.ranks (rank ∷ ranks) })) (Err BadView))
    (regroup list.is_sound (is_above list.last id) (list_all is_filled words) (ascends_from (Some id) (map (slice_index ids) ranks)))

-- the parts that are left, judged one by one
with_parts-is : (ids : List ℕ) (list : MemberList) (words : List (List ℕ))
    → with_parts ids list words ≡ (known_ranks ids (filter is_filled words) >>= (λ ranks. listed ids list words ranks))
unfolding known_ranks with_part finished
with_parts-is ids list [] =
    ap (λ b. cond b (Ok (record { 0 = list.ranks })) (Err BadView)) (sym (and-true list.is_sound))
with_parts-is ids list ([] ∷ words) =
    with_parts-is ids (record { ranks = list.ranks; last = list.last; is_sound = false }) words
    ∙ bind-same (known_ranks ids (filter is_filled words)) _ _ (listed-empty ids list words)
with_parts-is ids list ((byte ∷ bytes) ∷ words) =
    elim (known_rank ids (byte ∷ bytes)) as (λ found. ((found >>= (λ rank. Ok (with_rank list rank (slice_index ids rank)))) >>= (λ more. with_parts ids more words))
    ≡ ((found >>= (λ rank. known_ranks ids (filter is_filled words) >>= (λ ranks. Ok (rank ∷ ranks)))) >>= (λ ranks. listed ids list ((byte ∷ bytes) ∷ words) ranks))) [
      | Ok rank ↦
          with_parts-is ids (with_rank list rank (slice_index ids rank)) words
          ∙ bind-same (known_ranks ids (filter is_filled words)) _ _ (listed-more ids list byte bytes words rank)
          ∙ sym (bind-ok (known_ranks ids (filter is_filled words)) (λ ranks. rank ∷ ranks) (listed ids list ((byte ∷ bytes) ∷ words)))
      | Err fault ↦ refl
    ]

-- the whole word, judged part by part
pub members_of-is : (ids : List ℕ) (word : List ℕ) → with_parts ids no_members (parts 44 word) ≡ members_of ids word
unfolding members_of
members_of-is ids word =
    with_parts-is ids no_members (parts 44 word)
    ∙ bind-same (known_ranks ids (filter is_filled (parts 44 word))) _ _ (λ ranks.
    ap (λ b. cond (list_all is_filled (parts 44 word) && b) (Ok (mask_of ranks)) (Err BadView)) (sym (ascends_from-none (map (slice_index ids) ranks))))

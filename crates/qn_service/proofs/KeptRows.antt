-- A joined run in which the looks of a node that is alone agree on its view for longer than a take-over takes.
use Rattle.std.proofs.Common.{◌≡◌, List, [], ◌∷◌, Some, inl, refl, sym, subst}
use Rattle.std.proofs.lemmas.Bool.{leb-true}
use Rattle.std.proofs.lemmas.Option.{none-some, same_Some}
use Rattle.qn_model.specs.lemmas.TwoNodes.{one_node}
use Rattle.qn_model.specs.Moments.{Before, Later}
use Rattle.qn_progress.specs.Pace.{total}
use Rattle.qn_joined.specs.Joints.{Happening}
use Rattle.qn_service.specs.KeptViews.{AgreeOnView, IsUpAt, KeepsOneView, KeepsView, LooksAreMet, WasLeft}
use Rattle.qn_service.specs.Looks.{LookOf}
use Rattle.qn_service.specs.NextLooks.{last_look, look_of_rank}
use Rattle.qn_service.proofs.ServingRows.{EachAfter, Here, Next, alone, each_after, goes_on, may_32, may_serve, only_member, slow_pace, then_0, then_1, then_2, then_3, then_4, then_5, then_6, then_7, then_8, then_9, then_10, then_11, then_12, then_13, then_14, then_15, then_16, then_17, then_18, then_19, then_20, then_21, then_22, then_23, then_24, then_25, then_26, then_27, then_28, then_29, then_30, then_31, then_32, well_at}
use Rattle.qn_service.proofs.WellRows.{fresh_image, image_fits, image_is_new, quick_ticks, row_steps, starts_then}

-- the newest happening is no look of the node, or one that keeps its view
abbrev KeepsAt : List Happening → Type 0
KeepsAt [] = Unit {0}
KeepsAt (newest ∷ earlier) = (look : LookOf) → look_of_rank one_node fresh_image 0 newest earlier ≡ Some look → KeepsView 0 alone look

keeps_start : KeepsAt starts_then
unfolding row_steps
keeps_start look is = subst (KeepsView 0 alone) (same_Some _ look is) (record { may = refl; keeps = inl (record { leads = refl; finds = refl; named = refl }) })

keeps_0 : KeepsAt then_0
unfolding row_steps
keeps_0 look is = absurd (none-some look is)

keeps_1 : KeepsAt then_1
unfolding row_steps
keeps_1 look is = absurd (none-some look is)

keeps_2 : KeepsAt then_2
unfolding row_steps
keeps_2 look is = absurd (none-some look is)

keeps_3 : KeepsAt then_3
unfolding row_steps
keeps_3 look is = subst (KeepsView 0 alone) (same_Some _ look is) (record { may = refl; keeps = inl (record { leads = refl; finds = refl; named = refl }) })

keeps_4 : KeepsAt then_4
unfolding row_steps
keeps_4 look is = absurd (none-some look is)

keeps_5 : KeepsAt then_5
unfolding row_steps
keeps_5 look is = absurd (none-some look is)

keeps_6 : KeepsAt then_6
unfolding row_steps
keeps_6 look is = absurd (none-some look is)

keeps_7 : KeepsAt then_7
unfolding row_steps
keeps_7 look is = absurd (none-some look is)

keeps_8 : KeepsAt then_8
unfolding row_steps
keeps_8 look is = absurd (none-some look is)

keeps_9 : KeepsAt then_9
unfolding row_steps
keeps_9 look is = absurd (none-some look is)

keeps_10 : KeepsAt then_10
unfolding row_steps
keeps_10 look is = absurd (none-some look is)

keeps_11 : KeepsAt then_11
unfolding row_steps
keeps_11 look is = subst (KeepsView 0 alone) (same_Some _ look is) (record { may = refl; keeps = inl (record { leads = refl; finds = refl; named = refl }) })

keeps_12 : KeepsAt then_12
unfolding row_steps
keeps_12 look is = absurd (none-some look is)

keeps_13 : KeepsAt then_13
unfolding row_steps
keeps_13 look is = absurd (none-some look is)

keeps_14 : KeepsAt then_14
unfolding row_steps
keeps_14 look is = absurd (none-some look is)

keeps_15 : KeepsAt then_15
unfolding row_steps
keeps_15 look is = absurd (none-some look is)

keeps_16 : KeepsAt then_16
unfolding row_steps
keeps_16 look is = absurd (none-some look is)

keeps_17 : KeepsAt then_17
unfolding row_steps
keeps_17 look is = absurd (none-some look is)

keeps_18 : KeepsAt then_18
unfolding row_steps
keeps_18 look is = absurd (none-some look is)

keeps_19 : KeepsAt then_19
unfolding row_steps
keeps_19 look is = subst (KeepsView 0 alone) (same_Some _ look is) (record { may = refl; keeps = inl (record { leads = refl; finds = refl; named = refl }) })

keeps_20 : KeepsAt then_20
unfolding row_steps
keeps_20 look is = absurd (none-some look is)

keeps_21 : KeepsAt then_21
unfolding row_steps
keeps_21 look is = absurd (none-some look is)

keeps_22 : KeepsAt then_22
unfolding row_steps
keeps_22 look is = absurd (none-some look is)

keeps_23 : KeepsAt then_23
unfolding row_steps
keeps_23 look is = absurd (none-some look is)

keeps_24 : KeepsAt then_24
unfolding row_steps
keeps_24 look is = absurd (none-some look is)

keeps_25 : KeepsAt then_25
unfolding row_steps
keeps_25 look is = absurd (none-some look is)

keeps_26 : KeepsAt then_26
unfolding row_steps
keeps_26 look is = absurd (none-some look is)

keeps_27 : KeepsAt then_27
unfolding row_steps
keeps_27 look is = subst (KeepsView 0 alone) (same_Some _ look is) (record { may = refl; keeps = inl (record { leads = refl; finds = refl; named = refl }) })

keeps_28 : KeepsAt then_28
unfolding row_steps
keeps_28 look is = absurd (none-some look is)

keeps_29 : KeepsAt then_29
unfolding row_steps
keeps_29 look is = absurd (none-some look is)

keeps_30 : KeepsAt then_30
unfolding row_steps
keeps_30 look is = absurd (none-some look is)

keeps_31 : KeepsAt then_31
unfolding row_steps
keeps_31 look is = absurd (none-some look is)

keeps_32 : KeepsAt then_32
unfolding row_steps
keeps_32 look is = absurd (none-some look is)

each_keeps : EachAfter KeepsAt starts_then then_32
each_keeps =
    Next _ (Next _ (Next _ (Next _ (Next _ (Next _ (Next _ (Next _ (Next _ (Next _ (Next _ (Next _ (Next _ (Next _ (Next _ (Next _ (Next _ (Next _ (Next _ (Next _ (Next _ (Next _ (Next _ (Next _ (Next _ (Next _ (Next _ (Next _ (Next _ (Next _ (Next _ (Next _ (Next _ (Here keeps_start) keeps_0) keeps_1) keeps_2) keeps_3) keeps_4) keeps_5) keeps_6) keeps_7) keeps_8) keeps_9) keeps_10) keeps_11) keeps_12) keeps_13) keeps_14) keeps_15) keeps_16) keeps_17) keeps_18) keeps_19) keeps_20) keeps_21) keeps_22) keeps_23) keeps_24) keeps_25) keeps_26) keeps_27) keeps_28) keeps_29) keeps_30) keeps_31) keeps_32

left_first : WasLeft one_node fresh_image 0 alone starts_then
unfolding row_steps last_look
left_first = record { look = _; last = refl; left = refl; free = refl }

keeps_all : KeepsOneView one_node fresh_image 0 0 alone starts_then then_32
keeps_all =
    record { first = left_first; looks = λ at happening look since back. each_after KeepsAt each_keeps (happening ∷ at) (Later happening since) back look }

up_there : (mid : List Happening) → Before starts_then mid → Before mid then_32 → IsUpAt one_node fresh_image 0 mid
up_there mid since back = let has = (well_at mid since back).has in record { on = has.on; up = has.up }

agrees : AgreeOnView one_node fresh_image 0 alone starts_then then_32
agrees =
    record {
      ups = λ other member mid since back. subst (λ r. IsUpAt one_node fresh_image r mid) (sym (only_member other member)) (up_there mid since back);
      keeps = λ other member. subst (λ r. KeepsOneView one_node fresh_image r 0 alone starts_then then_32) (sym (only_member other member)) keeps_all;
    }

pub looks_are_met : LooksAreMet
unfolding row_steps total
looks_are_met =
    record {
      settings = one_node;
      timing = quick_ticks;
      image = fresh_image;
      pace = slow_pace;
      post = 0;
      rank = 0;
      leader = 0;
      present = alone;
      newer = goes_on;
      older = starts_then;
      safe = refl;
      joined = record { fits = image_fits; created = image_is_new; may = may_32 };
      agree = agrees;
      may = may_serve;
      late = leb-true _ _ refl;
    }

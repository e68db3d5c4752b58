-- The looks of running nodes follow one another, and a company becomes the view of its leader.
use Rattle.std.proofs.Common.{◌≡◌, inl, inr, ℕ, Bool, true, false, ◌==◌, List, [], ◌∷◌, Option, None, Some, if◌then◌else◌, refl, sym, ◌∙◌, ap, subst}
use Rattle.std.specs.Prelude.{option_and_then}
use Rattle.std.specs.Option.{option_or}
use Rattle.std.proofs.lemmas.Bool.{eq-eqb, eqb-true, false≢true}
use Rattle.std.proofs.lemmas.Option.{none-some, same_Some}
use Rattle.qn_base.specs.declared.calls.Call.{Call}
use Rattle.qn_base.specs.declared.ids.Mask.{Mask}
use Rattle.qn_model.specs.declared.configuration.Settings.{Settings}
use Rattle.qn_model.specs.Phases.{is_live, phase}
use Rattle.qn_member.specs.NamingViews.{after_look}
use Rattle.qn_joined.specs.Joints.{Happening, Host, joint_after}
use Rattle.qn_joined.specs.Stands.{Stand, after_spot, log_at}
use Rattle.qn_service.specs.Company.{Again, FindsCompany, FoundSince, IsNextLook, Once}
use Rattle.qn_service.specs.Looks.{LookOf, look_at, look_of}
use Rattle.qn_service.specs.NextLooks.{CompaniesSettle, FoundAt, FoundBack, LooksFollow, last_look, look_of_rank}
use Rattle.qn_service.specs.Unheard.{log_after}
use Rattle.qn_service.proofs.Company.{company_is_view}
use Rattle.qn_service.proofs.Made.{filtered}
use Rattle.qn_service.proofs.KeptViews.{HasAt, left_by, look_next, look_rank, spot_kept, spot_looked}
use Rattle.qn_service.proofs.RankSteps.{Anew, CallOf, Calls, Stands, StepTo, began_down, host_after, returned_spot, step_to, unranked}

module _ (s : Settings) (image : ℕ → List ℕ) (rank : ℕ) where
  -- a host has what its last look left
  pub kept_on : (h : List Happening) (look : LookOf) → last_look s image rank h ≡ Some look → HasAt (left_by look) (host_after s image rank h).stand.spot
  unfolding last_look
  kept_on [] look found = absurd (none-some look found)
  kept_on (newest ∷ earlier) look found = by_live (is_live (phase s (log_after s image (newest ∷ earlier) rank))) refl found (kept_on earlier)
    where
      host : Host
      host = host_after s image rank earlier

      after : (made : Call) → Stand
      after made = after_spot s rank host.leave host.stand.turn host.stand.more host.stand.spot made

      stands_so : (c : CallOf s image rank newest earlier) → (host_after s image rank (newest ∷ earlier)).stand.spot ≡ (after c.made).spot
      stands_so c = c.stand ∙ returned_spot s rank (joint_after s image earlier).time host c.made

      live_so : (c : CallOf s image rank newest earlier) → is_live (phase s (log_after s image (newest ∷ earlier) rank)) ≡ true → is_live (phase s (log_at (after c.made).spot)) ≡ true
      live_so c live = sym (ap (λ spot. is_live (phase s (log_at spot))) (stands_so c)) ∙ live

      by_look : (c : CallOf s image rank newest earlier) → is_live (phase s (log_after s image (newest ∷ earlier) rank)) ≡ true → (o : Option LookOf) → look_of s image newest earlier ≡ o
          → option_or (option_and_then (λ l. if l.rank == rank then Some l else None) o) (last_look s image rank earlier) ≡ Some look
          → ((l : LookOf) → last_look s image rank earlier ≡ Some l → HasAt (left_by l) host.stand.spot)
          → HasAt (left_by look) (host_after s image rank (newest ∷ earlier)).stand.spot
      by_look c live None none is rest =
          subst (λ spot. HasAt (left_by look) spot) (sym (stands_so c))
          (spot_kept s rank (left_by look) host.leave host.stand.turn host.stand.more host.stand.spot c.made (live_so c live) (sym c.looks ∙ none) (rest look is))
      by_look c live (Some l) some is rest =
          let found : look_at rank host.stand.spot c.made ≡ Some l = sym c.looks ∙ some in
          let own : l.rank ≡ rank = look_rank s rank l host.stand.spot c.made found in
          let same : Some l ≡ Some look = sym (ap (λ b. option_or (if b then Some l else None) (last_look s image rank earlier)) (eq-eqb l.rank rank own)) ∙ is in
          subst (λ spot. HasAt (left_by look) spot) (sym (stands_so c))
          (spot_looked s rank look host.leave host.stand.turn host.stand.more host.stand.spot c.made (live_so c live) (found ∙ same))

      by_step : is_live (phase s (log_after s image (newest ∷ earlier) rank)) ≡ true → option_or (look_of_rank s image rank newest earlier) (last_look s image rank earlier) ≡ Some look
          → ((l : LookOf) → last_look s image rank earlier ≡ Some l → HasAt (left_by l) host.stand.spot) → StepTo s image rank newest earlier
          → HasAt (left_by look) (host_after s image rank (newest ∷ earlier)).stand.spot
      by_step live is rest (Anew clean polls turns spot none) =
          absurd (false≢true (sym (ap (λ sp. is_live (phase s (log_at sp))) spot ∙ began_down s clean polls turns) ∙ live))
      by_step live is rest (Stands same none) =
          subst (λ (st : Stand). HasAt (left_by look) st.spot) (sym same)
          (rest look (sym (ap (λ o. option_or o (last_look s image rank earlier)) (unranked rank (look_of s image newest earlier) none)) ∙ is))
      by_step live is rest (Calls c) = by_look c live (look_of s image newest earlier) refl is rest

      by_live : (b : Bool) → is_live (phase s (log_after s image (newest ∷ earlier) rank)) ≡ b
          → (if b then option_or (look_of_rank s image rank newest earlier) (last_look s image rank earlier) else None) ≡ Some look
          → ((l : LookOf) → last_look s image rank earlier ≡ Some l → HasAt (left_by l) host.stand.spot)
          → HasAt (left_by look) (host_after s image rank (newest ∷ earlier)).stand.spot
      by_live false down is rest = absurd (none-some look is)
      by_live true live is rest = by_step live is rest (step_to s image rank newest earlier)

-- so the looks follow one another
pub looks_follow : (s : Settings) → LooksFollow s
looks_follow s image newest earlier before look last found = by_step (step_to s image look.rank newest earlier)
  where
    never : ((l : LookOf) → look_of s image newest earlier ≡ Some l → (l.rank == look.rank) ≡ false) → ⊥
    never none = false≢true (sym (none look found) ∙ eq-eqb look.rank look.rank refl)

    by_step : StepTo s image look.rank newest earlier → IsNextLook (after_look before.tick before.maker).maker look.maker.maker
    by_step (Stands same none) = absurd (never none)
    by_step (Anew clean polls turns spot none) = absurd (never none)
    by_step (Calls c) =
        look_next s look.rank look (left_by before) ((joint_after s image earlier).hosts look.rank).stand.spot c.made (sym c.looks ∙ found)
        (kept_on s image look.rank earlier before last)

-- ## A company

found_since : (s : Settings) (image : ℕ → List ℕ) (rank : ℕ) (company : Mask) (since : ℕ) (h : List Happening) (look : LookOf) → last_look s image rank h ≡ Some look
    → FoundBack s image rank company since h → FoundSince company since look.tick look.maker
unfolding last_look
found_since s image rank company since [] look last back = absurd back
found_since s image rank company since (newest ∷ earlier) look last back =
    by_live (is_live (phase s (log_after s image (newest ∷ earlier) rank))) last (found_since s image rank company since earlier)
  where
    follows : (l before : LookOf) → look_of_rank s image rank newest earlier ≡ Some l → last_look s image rank earlier ≡ Some before
        → IsNextLook (after_look before.tick before.maker).maker l.maker.maker
    follows l before own is =
        let parts = filtered (λ (look' : LookOf). look'.rank == rank) (look_of s image newest earlier) l own in
        looks_follow s image newest earlier before l (ap (λ r. last_look s image r earlier) (eqb-true l.rank rank parts.1) ∙ is) parts.0

    by_own : (o : Option LookOf) → look_of_rank s image rank newest earlier ≡ o → FoundAt company since o (last_look s image rank earlier) (FoundBack s image rank company since earlier)
        → option_or o (last_look s image rank earlier) ≡ Some look
        → ((l : LookOf) → last_look s image rank earlier ≡ Some l → FoundBack s image rank company since earlier → FoundSince company since l.tick l.maker)
        → FoundSince company since look.tick look.maker
    by_own None own at is rest = rest look is at
    by_own (Some l) own (finds, inl first) is rest =
        subst (λ (x : LookOf). FoundSince company since x.tick x.maker) (same_Some l look is)
        (subst (λ n. FoundSince company since n l.maker) (sym first.0) (Once l.maker first.1 (subst (λ n. FindsCompany company n l.maker) first.0 finds)))
    by_own (Some l) own (finds, inr before) is rest =
        subst (λ (x : LookOf). FoundSince company since x.tick x.maker) (same_Some l look is)
        (Again l.tick l.maker (rest before.0.0 before.0.1 before.1) (follows l before.0.0 own before.0.1) finds)

    by_live : (b : Bool) → (if b then option_or (look_of_rank s image rank newest earlier) (last_look s image rank earlier) else None) ≡ Some look
        → ((l : LookOf) → last_look s image rank earlier ≡ Some l → FoundBack s image rank company since earlier → FoundSince company since l.tick l.maker)
        → FoundSince company since look.tick look.maker
    by_live false is rest = absurd (none-some look is)
    by_live true is rest = by_own (look_of_rank s image rank newest earlier) refl back is rest

pub companies_settle : (s : Settings) → CompaniesSettle s
companies_settle s image h rank company since look settled =
    company_is_view company since look.tick look.maker (record {
      found = found_since s image rank company since h look settled.last settled.found;
      late = settled.late;
      leads = settled.leads;
      begins = settled.begins;
      agreed = settled.agreed;
    })

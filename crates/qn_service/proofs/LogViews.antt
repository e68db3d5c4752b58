-- In every joint the log of a running node shows the view that its last look left.
use Rattle.std.proofs.Common.{◌≡◌, ℕ, ◌<◌, ◌≤◌, Bool, true, false, ◌==◌, List, [], ◌∷◌, Option, None, Some, length, if◌then◌else◌, refl, sym, ◌∙◌, ap, subst}
use Rattle.std.specs.Prelude.{option_and_then, option_map}
use Rattle.std.specs.Option.{option_or}
use Rattle.std.proofs.lemmas.Bool.{eq-eqb, false≢true}
use Rattle.std.proofs.lemmas.Option.{none-some}
use Rattle.qn_base.specs.declared.ids.View.{View}
use Rattle.qn_model.specs.declared.configuration.Settings.{Settings}
use Rattle.qn_model.specs.Log.{Line}
use Rattle.qn_model.specs.NodeVotes.{view}
use Rattle.qn_model.specs.Phases.{is_live, phase}
use Rattle.qn_member.specs.Naming.{is_own, knows_bit}
use Rattle.qn_member.specs.NamingViews.{after_look}
use Rattle.qn_joined.specs.Joints.{Happening, Host, joint_after}
use Rattle.qn_joined.specs.Stands.{Stand, after_spot, log_at}
use Rattle.qn_service.specs.Looks.{LookOf, look_at, look_of}
use Rattle.qn_service.specs.NextLooks.{last_look, look_of_rank}
use Rattle.qn_service.specs.Shown.{CompaniesAreShown, LogsShowViews, LooksKnowNames, copy_shown}
use Rattle.qn_service.specs.Unheard.{log_after}
use Rattle.qn_service.proofs.KeptViews.{look_rank}
use Rattle.qn_service.proofs.NextLooks.{companies_settle}
use Rattle.qn_service.proofs.RankSteps.{Anew, CallOf, Calls, Stands, StepTo, began_down, host_after, returned_spot, step_to, unranked}
use Rattle.qn_service.proofs.Shown.{ShownAt, first_shown, spot_knows, spot_looks, spot_same, spot_shown}

-- a log shows the view that a look left
abbrev ShowsLook : List Line → LookOf → Type 0
ShowsLook log look =
    (v : View) → (after_look look.tick look.maker).maker.view ≡ Some v → view log ≡ Some (copy_shown (after_look look.tick look.maker).closed v)

module _ (s : Settings) (image : ℕ → List ℕ) (rank : ℕ) (under : rank < length s.nodes) (few : length s.nodes ≤ 32) where
  pub always_shown : (h : List Happening) → ShownAt s rank (host_after s image rank h).stand.spot
  unfolding joint_after
  always_shown [] = first_shown s rank false None 1
  always_shown (newest ∷ earlier) = by_step (step_to s image rank newest earlier) (always_shown earlier)
    where
      host : Host
      host = host_after s image rank earlier

      by_step : StepTo s image rank newest earlier → ShownAt s rank (host_after s image rank earlier).stand.spot → ShownAt s rank (host_after s image rank (newest ∷ earlier)).stand.spot
      by_step (Stands same none) before = subst (λ (st : Stand). ShownAt s rank st.spot) (sym same) before
      by_step (Anew clean polls turns spot none) before = subst (ShownAt s rank) (sym spot) (first_shown s rank clean polls turns)
      by_step (Calls c) before =
          subst (ShownAt s rank) (sym (c.stand ∙ returned_spot s rank (joint_after s image earlier).time host c.made))
          (spot_shown s rank under few host.leave host.stand.turn host.stand.more host.stand.spot c.made before)

  pub shows_last : (h : List Happening) (look : LookOf) → last_look s image rank h ≡ Some look → ShowsLook (log_after s image h rank) look
  unfolding last_look
  shows_last [] look found = absurd (none-some look found)
  shows_last (newest ∷ earlier) look found = by_live (is_live (phase s (log_after s image (newest ∷ earlier) rank))) refl found (shows_last earlier)
    where
      host : Host
      host = host_after s image rank earlier

      after : (c : CallOf s image rank newest earlier) → Stand
      after c = after_spot s rank host.leave host.stand.turn host.stand.more host.stand.spot c.made

      log_so : (c : CallOf s image rank newest earlier) → log_after s image (newest ∷ earlier) rank ≡ log_at (after c).spot
      log_so c = ap log_at (c.stand ∙ returned_spot s rank (joint_after s image earlier).time host c.made)

      by_look : (c : CallOf s image rank newest earlier) → (o : Option LookOf) → look_of s image newest earlier ≡ o
          → option_or (option_and_then (λ l. if l.rank == rank then Some l else None) o) (last_look s image rank earlier) ≡ Some look
          → ((l : LookOf) → last_look s image rank earlier ≡ Some l → ShowsLook (log_at host.stand.spot) l)
          → ShowsLook (log_after s image (newest ∷ earlier) rank) look
      by_look c None none is rest = λ v given.
          ap view (log_so c)
          ∙ spot_same s rank under few host.leave host.stand.turn host.stand.more host.stand.spot c.made (always_shown earlier) (sym c.looks ∙ none)
          ∙ rest look is v given
      by_look c (Some l) some is rest =
          let found : look_at rank host.stand.spot c.made ≡ Some l = sym c.looks ∙ some in
          let own : l.rank ≡ rank = look_rank s rank l host.stand.spot c.made found in
          let same : Some l ≡ Some look = sym (ap (λ b. option_or (if b then Some l else None) (last_look s image rank earlier)) (eq-eqb l.rank rank own)) ∙ is in
          subst (λ (log : List Line). ShowsLook log look) (sym (log_so c))
          (spot_looks s rank under few look host.leave host.stand.turn host.stand.more host.stand.spot c.made (always_shown earlier) (found ∙ same)).shows

      by_step : is_live (phase s (log_after s image (newest ∷ earlier) rank)) ≡ true → option_or (look_of_rank s image rank newest earlier) (last_look s image rank earlier) ≡ Some look
          → ((l : LookOf) → last_look s image rank earlier ≡ Some l → ShowsLook (log_at host.stand.spot) l) → StepTo s image rank newest earlier
          → ShowsLook (log_after s image (newest ∷ earlier) rank) look
      by_step live is rest (Anew clean polls turns spot none) =
          absurd (false≢true (sym (ap (λ sp. is_live (phase s (log_at sp))) spot ∙ began_down s clean polls turns) ∙ live))
      by_step live is rest (Stands same none) =
          subst (λ (st : Stand). ShowsLook (log_at st.spot) look) (sym same)
          (rest look (sym (ap (λ o. option_or o (last_look s image rank earlier)) (unranked rank (look_of s image newest earlier) none)) ∙ is))
      by_step live is rest (Calls c) = by_look c (look_of s image newest earlier) refl is rest

      by_live : (b : Bool) → is_live (phase s (log_after s image (newest ∷ earlier) rank)) ≡ b
          → (if b then option_or (look_of_rank s image rank newest earlier) (last_look s image rank earlier) else None) ≡ Some look
          → ((l : LookOf) → last_look s image rank earlier ≡ Some l → ShowsLook (log_at host.stand.spot) l)
          → ShowsLook (log_after s image (newest ∷ earlier) rank) look
      by_live false down is rest = absurd (none-some look is)
      by_live true live is rest = by_step live is rest (step_to s image rank newest earlier)

pub logs_show_views : (s : Settings) → LogsShowViews s
logs_show_views s image h rank look present few under last is = shows_last s image rank under few h look last present is

-- each look is one of a node that knows names
pub looks_know_names : (s : Settings) → LooksKnowNames s
looks_know_names s image newest earlier look few under found = by_step (step_to s image look.rank newest earlier)
  where
    never : ((l : LookOf) → look_of s image newest earlier ≡ Some l → (l.rank == look.rank) ≡ false) → ⊥
    never none = false≢true (sym (none look found) ∙ eq-eqb look.rank look.rank refl)

    by_step : StepTo s image look.rank newest earlier → is_own look.maker knows_bit ≡ true
    by_step (Stands same none) = absurd (never none)
    by_step (Anew clean polls turns spot none) = absurd (never none)
    by_step (Calls c) =
        spot_knows s look.rank under few look (host_after s image look.rank earlier).stand.spot c.made (always_shown s image look.rank under few earlier) (sym c.looks ∙ found)

-- the company of a leader is shown
pub companies_are_shown : (s : Settings) → CompaniesAreShown s
companies_are_shown s image h rank company since look few under settled =
    by_view (after_look look.tick look.maker).maker.view refl (companies_settle s image h rank company since look settled)
  where
    members : (closed : Bool) (v : View) → (copy_shown closed v).members ≡ v.members
    members true v = refl
    members false v = refl

    by_view : (o : Option View) → (after_look look.tick look.maker).maker.view ≡ o → option_map (λ v. v.members) o ≡ Some company
        → option_map (λ v. v.members) (view (log_after s image h rank)) ≡ Some company
    by_view None none is = absurd (none-some company is)
    by_view (Some v) some is =
        ap (option_map (λ w. w.members)) (shows_last s image rank under few h look settled.last v some)
        ∙ ap Some (members (after_look look.tick look.maker).closed v) ∙ is

-- What each happening is to one rank: it made no look and stands where it stood, its process began, or a call of it returned.
use Rattle.std.proofs.Common.{◌≡◌, ◌⊎◌, inl, inr, ℕ, Bool, true, false, ◌==◌, List, ◌∷◌, Option, None, Some, if◌then◌else◌, refl, ◌∙◌, ap}
use Rattle.std.specs.Prelude.{option_and_then}
use Rattle.std.specs.Option.{option_map_or}
use Rattle.std.proofs.lemmas.Bool.{eqb-true}
use Rattle.std.proofs.lemmas.Option.{none-some}
use Rattle.qn_base.specs.declared.calls.Call.{Call}
use Rattle.qn_base.specs.declared.calls.Call.TheVariants as call
use Rattle.qn_model.specs.declared.configuration.Settings.{Settings}
use Rattle.qn_model.specs.Moments.{tick_of}
use Rattle.qn_model.specs.Phases.{is_live, phase}
use Rattle.qn_model.specs.World.{numbered, put, without}
use Rattle.qn_joined.specs.Joints.{Begins, Ends, Feeds, Happening, Host, Joint, Lands, LandsLate, Looks, Operates, Passes, Returns, began, ended, happens, joint_after, landed_image, looked_first, returned, takes, waits_for, with_host}
use Rattle.qn_joined.specs.Stands.{after_spot, first_stand, log_at}
use Rattle.qn_service.specs.Looks.{LookOf, look_at, look_of}
use Rattle.qn_service.proofs.KeptViews.{look_rank}

pub began_down : (s : Settings) (clean : Bool) (polls : Option ℕ) (turns : ℕ) → is_live (phase s (log_at (first_stand clean polls turns).spot)) ≡ false
unfolding phase
began_down s true polls turns = refl
began_down s false polls turns = refl

pub returned_spot : (s : Settings) (rank time : ℕ) (host : Host) (made : Call)
    → (returned s rank made time host).stand.spot ≡ (after_spot s rank host.leave host.stand.turn host.stand.more host.stand.spot made).spot
unfolding returned
returned_spot s rank time host made = refl

pub unranked : (rank : ℕ) (o : Option LookOf) → ((look : LookOf) → o ≡ Some look → (look.rank == rank) ≡ false)
    → option_and_then (λ look. if look.rank == rank then Some look else None) o ≡ None
unranked rank None none = refl
unranked rank (Some look) none = ap (λ b. if b then Some look else None) (none look refl)

abbrev pub host_after : Settings → (ℕ → List ℕ) → ℕ → List Happening → Host
host_after s image rank h = (joint_after s image h).hosts rank

-- a call of the rank returned
pub record CallOf (s : Settings) (image : ℕ → List ℕ) (rank : ℕ) (newest : Happening) (earlier : List Happening) : Type 0 where
  pub made : Call
  pub is : (newest ≡ Returns rank made) ⊎ ((base : ℕ) × (newest ≡ Looks rank base))
  pub looks : look_of s image newest earlier ≡ look_at rank (host_after s image rank earlier).stand.spot made
  pub stand : (host_after s image rank (newest ∷ earlier)).stand.spot ≡ (returned s rank made (joint_after s image earlier).time (host_after s image rank earlier)).stand.spot

-- no look of the rank happened
abbrev pub NoLookOf : Settings → (ℕ → List ℕ) → ℕ → Happening → List Happening → Type 0
NoLookOf s image rank newest earlier = (look : LookOf) → look_of s image newest earlier ≡ Some look → (look.rank == rank) ≡ false

-- of each happening: the rank made no look, and stands where it stood, or its process began; or a call of it returned
pub data StepTo (s : Settings) (image : ℕ → List ℕ) (rank : ℕ) (newest : Happening) (earlier : List Happening) : Type 0 where
  Stands : (host_after s image rank (newest ∷ earlier)).stand ≡ (host_after s image rank earlier).stand → NoLookOf s image rank newest earlier → StepTo s image rank newest earlier
  Anew : (clean : Bool) (polls : Option ℕ) (turns : ℕ) → (host_after s image rank (newest ∷ earlier)).stand.spot ≡ (first_stand clean polls turns).spot
      → NoLookOf s image rank newest earlier → StepTo s image rank newest earlier
  Calls : CallOf s image rank newest earlier → StepTo s image rank newest earlier

module _ (s : Settings) (image : ℕ → List ℕ) (rank : ℕ) where
  other_rank : (other : ℕ) (earlier : List Happening) (made : Call) → (other == rank) ≡ false → (look : LookOf)
      → look_at other ((joint_after s image earlier).hosts other).stand.spot made ≡ Some look → (look.rank == rank) ≡ false
  other_rank other earlier made apart look found =
      ap (λ r. r == rank) (look_rank s other look ((joint_after s image earlier).hosts other).stand.spot made found) ∙ apart

  put_same_stand : (hosts : ℕ → Host) (other : ℕ) (after : Host) → after.stand ≡ (hosts other).stand → (put hosts other after rank).stand ≡ (hosts rank).stand
  put_same_stand hosts other after same = by_owner (other == rank) refl
    where
      by_owner : (b : Bool) → (other == rank) ≡ b → (if b then after else hosts rank).stand ≡ (hosts rank).stand
      by_owner true is = same ∙ ap (λ r. (hosts r).stand) (eqb-true other rank is)
      by_owner false is = refl

  no_look : (look : LookOf) → None ≡ Some look → (look.rank == rank) ≡ false
  no_look look found = absurd (none-some look found)

  pub step_to : (newest : Happening) (earlier : List Happening) → StepTo s image rank newest earlier
  unfolding joint_after happens looked_first
  step_to (Passes dt clocks) earlier = Stands refl no_look
  step_to (Begins other clean leave polls turns) earlier = by_owner (other == rank) refl
    where
      j : Joint
      j = joint_after s image earlier

      by_owner : (b : Bool) → (other == rank) ≡ b → StepTo s image rank (Begins other clean leave polls turns) earlier
      by_owner true is =
          Anew clean polls turns (ap (λ c. (if c then began clean leave polls turns j.time else j.hosts rank).stand.spot) is) no_look
      by_owner false is = Stands (ap (λ c. (if c then began clean leave polls turns j.time else j.hosts rank).stand) is) no_look
  step_to (Looks other base) earlier = by_owner (other == rank) refl
    where
      j : Joint
      j = joint_after s image earlier

      by_owner : (b : Bool) → (other == rank) ≡ b → StepTo s image rank (Looks other base) earlier
      by_owner true is = Calls (record {
        made = call.Now (tick_of base);
        is = inr (base, ap (λ r. Looks r base) (eqb-true other rank is));
        looks = ap (λ r. look_at r (j.hosts r).stand.spot (call.Now (tick_of base))) (eqb-true other rank is);
        stand = ap (λ c. (if c then looked_first s other base j.time (j.hosts other) else j.hosts rank).stand.spot) is
            ∙ ap (λ r. (returned s r (call.Now (tick_of base)) j.time (j.hosts r)).stand.spot) (eqb-true other rank is);
      })
      by_owner false is = Stands (ap (λ c. (if c then looked_first s other base j.time (j.hosts other) else j.hosts rank).stand) is)
          (other_rank other earlier (call.Now (tick_of base)) is)
  step_to (Lands other) earlier = Stands (by_call (waits_for s other (j.hosts other))) no_look
    where
      j : Joint
      j = joint_after s image earlier

      by_call : (waiting : Option Call)
          → ((option_map_or (λ w. record (with_host other (record (j.hosts other) { took = Some (takes w j.image) }) j) { image = landed_image w j.image }) waiting j).hosts rank).stand
          ≡ (j.hosts rank).stand
      by_call None = refl
      by_call (Some w) = put_same_stand j.hosts other (record (j.hosts other) { took = Some (takes w j.image) }) refl
  step_to (Returns other made) earlier = by_owner (other == rank) refl
    where
      j : Joint
      j = joint_after s image earlier

      by_owner : (b : Bool) → (other == rank) ≡ b → StepTo s image rank (Returns other made) earlier
      by_owner true is = Calls (record {
        made = made;
        is = inl (ap (λ r. Returns r made) (eqb-true other rank is));
        looks = ap (λ r. look_at r (j.hosts r).stand.spot made) (eqb-true other rank is);
        stand = ap (λ c. (if c then returned s other made j.time (j.hosts other) else j.hosts rank).stand.spot) is
            ∙ ap (λ r. (returned s r made j.time (j.hosts r)).stand.spot) (eqb-true other rank is);
      })
      by_owner false is = Stands (ap (λ c. (if c then returned s other made j.time (j.hosts other) else j.hosts rank).stand) is) (other_rank other earlier made is)
  step_to (Feeds other) earlier = Stands (put_same_stand (joint_after s image earlier).hosts other (record ((joint_after s image earlier).hosts other) { fed = (joint_after s image earlier).time }) refl) no_look
  step_to (LandsLate other number) earlier = Stands (by_call (numbered (j.hosts other).left number)) no_look
    where
      j : Joint
      j = joint_after s image earlier

      by_call : (write : Option Call)
          → ((option_map_or (λ w. record (with_host other (record (j.hosts other) { left = without (j.hosts other).left number }) j) { image = landed_image w j.image }) write j).hosts rank).stand
          ≡ (j.hosts rank).stand
      by_call None = refl
      by_call (Some w) = put_same_stand j.hosts other (record (j.hosts other) { left = without (j.hosts other).left number }) refl
  step_to (Ends other) earlier = Stands (put_same_stand (joint_after s image earlier).hosts other (ended s other ((joint_after s image earlier).hosts other)) refl) no_look
  step_to (Operates other sent) earlier = Stands refl no_look

-- The last look of a running node at a joint, where it looked since another one.
use Rattle.std.proofs.Common.{◌≡◌, ℕ, true, List, ◌∷◌, Option, None, Some, if◌then◌else◌, refl, ◌∙◌, ap}
use Rattle.std.specs.Option.{option_or}
use Rattle.qn_model.specs.declared.configuration.Settings.{Settings}
use Rattle.qn_model.specs.Moments.{Before, Itself, Later}
use Rattle.qn_model.specs.Phases.{is_live, phase}
use Rattle.qn_safety.specs.Earlier.{before_tail, before_then}
use Rattle.qn_joined.specs.Joints.{Happening}
use Rattle.qn_service.specs.Looks.{LookOf}
use Rattle.qn_service.specs.NextLooks.{last_look, look_of_rank}
use Rattle.qn_service.specs.Unheard.{log_after}

-- the last look at a joint, where there was one since another
pub record LastLook (s : Settings) (image : ℕ → List ℕ) (rank : ℕ) (base new : List Happening) : Type 0 where
  pub at : List Happening
  pub happening : Happening
  pub look : LookOf
  pub after : Before base at
  pub back : Before (happening ∷ at) new
  pub is : look_of_rank s image rank happening at ≡ Some look
  pub last : last_look s image rank new ≡ Some look

module _ (s : Settings) (image : ℕ → List ℕ) (rank : ℕ) where
  last_so : (newest : Happening) (earlier : List Happening) → is_live (phase s (log_after s image (newest ∷ earlier) rank)) ≡ true
      → last_look s image rank (newest ∷ earlier) ≡ option_or (look_of_rank s image rank newest earlier) (last_look s image rank earlier)
  unfolding last_look
  last_so newest earlier live = ap (λ b. if b then option_or (look_of_rank s image rank newest earlier) (last_look s image rank earlier) else None) live

  pub last_from : (base at : List Happening) (happening : Happening) (look : LookOf) (new : List Happening) → Before base at → look_of_rank s image rank happening at ≡ Some look
      → Before (happening ∷ at) new → ((h : List Happening) → Before (happening ∷ at) h → Before h new → is_live (phase s (log_after s image h rank)) ≡ true)
      → LastLook s image rank base new
  last_from base at happening look new since found Itself live =
      record {
        at = at;
        happening = happening;
        look = look;
        after = since;
        back = Itself;
        is = found;
        last = last_so happening at (live (happening ∷ at) Itself Itself) ∙ ap (λ o. option_or o (last_look s image rank at)) found;
      }
  last_from base at happening look (newest ∷ earlier) since found (Later same order) live =
      by_look (look_of_rank s image rank newest earlier) refl (last_from base at happening look earlier since found order (λ h after before. live h after (Later newest before)))
    where
      lives : is_live (phase s (log_after s image (newest ∷ earlier) rank)) ≡ true
      lives = live (newest ∷ earlier) (Later newest order) Itself

      by_look : (o : Option LookOf) → look_of_rank s image rank newest earlier ≡ o → LastLook s image rank base earlier → LastLook s image rank base (newest ∷ earlier)
      by_look None none before =
          record {
            at = before.at;
            happening = before.happening;
            look = before.look;
            after = before.after;
            back = Later newest before.back;
            is = before.is;
            last = last_so newest earlier lives ∙ ap (λ o. option_or o (last_look s image rank earlier)) none ∙ before.last;
          }
      by_look (Some l) some before =
          record {
            at = earlier;
            happening = newest;
            look = l;
            after = before_then since (before_tail order);
            back = Itself;
            is = some;
            last = last_so newest earlier lives ∙ ap (λ o. option_or o (last_look s image rank earlier)) some;
          }

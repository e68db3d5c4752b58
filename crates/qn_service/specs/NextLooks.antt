-- The looks of a running node one after another, and when the company of one that leads has become its view. This project's profile.
use Rattle.std.specs.Prelude.{◌≡◌, ◌⊎◌, ◌+◌, ◌≤◌, ◌==◌, ℕ, true, List, [], ◌∷◌, Option, None, Some, IfSome, option_and_then, option_map, if◌then◌else◌}
use Rattle.std.specs.Option.{option_or}
use Rattle.qn_base.specs.declared.ids.Mask.{Mask}
use Rattle.qn_model.specs.declared.configuration.Settings.{Settings}
use Rattle.qn_model.specs.Phases.{is_live, phase}
use Rattle.qn_member.specs.Maker.{disputed_nodes}
use Rattle.qn_member.specs.NamingViews.{after_look, looked_by_name, may_begin}
use Rattle.qn_joined.specs.Joints.{Happening}
use Rattle.qn_service.specs.Company.{FindsCompany, IsNextLook}
use Rattle.qn_service.specs.Leading.{leader_then}
use Rattle.qn_service.specs.Looks.{LookOf, look_of}
use Rattle.qn_service.specs.Unheard.{log_after}

-- the look that happened, where it is one of a rank
abbrev pub look_of_rank : Settings → (ℕ → List ℕ) → ℕ → Happening → List Happening → Option LookOf
look_of_rank s image rank newest earlier =
    option_and_then (λ look. if look.rank == rank then Some look else None) (look_of s image newest earlier)

-- the last look of a rank since its node takes part
unfoldable pub last_look : Settings → (ℕ → List ℕ) → ℕ → List Happening → Option LookOf
last_look s image rank [] = None
last_look s image rank (newest ∷ earlier) =
    if is_live (phase s (log_after s image (newest ∷ earlier) rank))
    then option_or (look_of_rank s image rank newest earlier) (last_look s image rank earlier)
    else None

-- at a look the view maker has of its own view and of its change what the look before left
abbrev pub LooksFollow : Settings → Type 0
LooksFollow s =
    (image : ℕ → List ℕ) (newest : Happening) (earlier : List Happening) (before look : LookOf)
    → last_look s image look.rank earlier ≡ Some before
    → look_of s image newest earlier ≡ Some look
    → IsNextLook (after_look before.tick before.maker).maker look.maker.maker

-- one look is so, and is the first of them, with no change that began later, or there is one before it
abbrev pub FoundAt : Mask → ℕ → Option LookOf → Option LookOf → Type 0 → Type 0
FoundAt company since None before Rest = Rest
FoundAt company since (Some look) before Rest =
    FindsCompany company look.tick look.maker
    × (((look.tick ≡ since) × IfSome look.maker.maker.change (λ change. change.since ≤ since))
    ⊎ (((last : LookOf) × (before ≡ Some last)) × Rest))

-- the last looks of a rank, in a row back to one at a tick, each found this company, and gave no view but of it
abbrev pub FoundBack : Settings → (ℕ → List ℕ) → ℕ → Mask → ℕ → List Happening → Type 0
FoundBack s image rank company since [] = ⊥
FoundBack s image rank company since (newest ∷ earlier) =
    FoundAt company since (look_of_rank s image rank newest earlier) (last_look s image rank earlier)
    (FoundBack s image rank company since earlier)

-- The last look of a running node is so a loop later, and there it leads, a view may be installed, and nobody is in dispute.
pub record IsSettledAt (s : Settings) (image : ℕ → List ℕ) (rank : ℕ) (company : Mask) (since : ℕ) (look : LookOf) (happenings : List Happening) : Type 0 where
  pub last : last_look s image rank happenings ≡ Some look
  pub found : FoundBack s image rank company since happenings
  pub late : since + look.maker.maker.loop_ms ≤ look.tick
  pub leads : leader_then look.tick look.maker ≡ Some look.maker.maker.me
  pub begins : may_begin look.tick (looked_by_name look.tick look.maker) company ≡ true
  pub agreed : (disputed_nodes look.tick (looked_by_name look.tick look.maker).maker company).0 ≡ 0

-- then the members of its view are this company
abbrev pub CompaniesSettle : Settings → Type 0
CompaniesSettle s =
    (image : ℕ → List ℕ) (happenings : List Happening) (rank : ℕ) (company : Mask) (since : ℕ) (look : LookOf)
    → IsSettledAt s image rank company since look happenings
    → option_map (λ view. view.members) (after_look look.tick look.maker).maker.view ≡ Some company

-- What the log of a running node shows of its view maker. This project's profile.
use Rattle.std.specs.Prelude.{◌≡◌, ◌≤◌, ◌<◌, ◌+◌, ◌*◌, ◌%◌, ◌^◌, ℕ, Bool, true, List, length, Some, option_map, if◌then◌else◌}
use Rattle.qn_base.specs.declared.ids.Mask.{Mask}
use Rattle.qn_base.specs.declared.ids.View.{View}
use Rattle.qn_model.specs.declared.configuration.Settings.{Settings}
use Rattle.qn_model.specs.NodeVotes.{view}
use Rattle.qn_member.specs.Naming.{is_own, knows_bit}
use Rattle.qn_member.specs.NamingViews.{after_look}
use Rattle.qn_joined.specs.Joints.{Happening}
use Rattle.qn_service.specs.Looks.{LookOf, look_of}
use Rattle.qn_service.specs.NextLooks.{IsSettledAt, last_look}
use Rattle.qn_service.specs.Unheard.{log_after}

-- each look of a configured rank is one of a node that knows names
abbrev pub LooksKnowNames : Settings → Type 0
LooksKnowNames s =
    (image : ℕ → List ℕ) (newest : Happening) (earlier : List Happening) (look : LookOf)
    → length s.nodes ≤ 32
    → look.rank < length s.nodes
    → look_of s image newest earlier ≡ Some look
    → is_own look.maker knows_bit ≡ true

-- the copy of a view that a view maker handed on: the view, or that one with a number under which nobody may start
abbrev pub copy_shown : Bool → View → View
copy_shown closed present = if closed then record present { id = 254 * 2 ^ 56 + present.id % 2 ^ 56 } else present

-- the present view in the log of a node is the copy that its view maker handed on of the view that its last look left
abbrev pub LogsShowViews : Settings → Type 0
LogsShowViews s =
    (image : ℕ → List ℕ) (happenings : List Happening) (rank : ℕ) (look : LookOf) (present : View)
    → length s.nodes ≤ 32
    → rank < length s.nodes
    → last_look s image rank happenings ≡ Some look
    → (after_look look.tick look.maker).maker.view ≡ Some present
    → view (log_after s image happenings rank) ≡ Some (copy_shown (after_look look.tick look.maker).closed present)

-- so the company that the looks of a leader found for a loop are the members of the view in its log
abbrev pub CompaniesAreShown : Settings → Type 0
CompaniesAreShown s =
    (image : ℕ → List ℕ) (happenings : List Happening) (rank : ℕ) (company : Mask) (since : ℕ) (look : LookOf)
    → length s.nodes ≤ 32
    → rank < length s.nodes
    → IsSettledAt s image rank company since look happenings
    → option_map (λ present. present.members) (view (log_after s image happenings rank)) ≡ Some company

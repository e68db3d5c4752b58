-- Which machines are reset: those that the maker of a view left out. This project's profile.
use Rattle.std.specs.Prelude.{◌≡◌, ◌⊎◌, ◌<◌, ◌==◌, ℕ, true, false, List, [], ◌∷◌, length, Some}
use Rattle.qn_base.specs.declared.ids.Rank.{Rank}
use Rattle.qn_base.specs.declared.ids.View.{View}
use Rattle.qn_io.specs.Answered.{received_in}
use Rattle.qn_model.specs.declared.configuration.Settings.{Settings}
use Rattle.qn_model.specs.declared.times.Timing.{Timing}
use Rattle.qn_model.specs.declared.outputs.DiskOp.TheVariants as disk
use Rattle.qn_model.specs.Log.{Line, disk_of}
use Rattle.qn_model.specs.NodeOutputs.{newest_outs}
use Rattle.qn_model.specs.NodeVotes.{view}
use Rattle.qn_member.specs.Maker.{follows_other, is_overdue, is_present_member, is_visible}
use Rattle.qn_live.specs.Choosing.{packet_in}
use Rattle.qn_joined.specs.Joints.{AllMayHappen, Begins, Ends, Feeds, Happening, Lands, LandsLate, Looks, Operates, Passes, Returns, joint_after}
use Rattle.qn_joined.specs.Stands.{log_at}
use Rattle.qn_service.specs.Leading.{LeavesOut, MakesView, has_hello, known_then, leader_then, names_then}
use Rattle.qn_service.specs.Looks.{EachLook, HasAnnounced, IfAnnounced, LookOf, SomeLook}

-- each announcement that was received, of a view with its sender, had been sent by that
abbrev pub AreSent : Settings → (ℕ → List ℕ) → List Happening → Type 0
AreSent s image [] = Unit {0}
AreSent s image (Returns rank made ∷ earlier) =
    IfAnnounced (λ from said. HasAnnounced s image from said earlier) (packet_in (received_in made)) × AreSent s image earlier
AreSent s image (Looks rank base ∷ earlier) = AreSent s image earlier
AreSent s image (Passes dt clocks ∷ earlier) = AreSent s image earlier
AreSent s image (Begins rank clean leave polls turns ∷ earlier) = AreSent s image earlier
AreSent s image (Lands rank ∷ earlier) = AreSent s image earlier
AreSent s image (Feeds rank ∷ earlier) = AreSent s image earlier
AreSent s image (LandsLate rank number ∷ earlier) = AreSent s image earlier
AreSent s image (Ends rank ∷ earlier) = AreSent s image earlier
AreSent s image (Operates rank sent ∷ earlier) = AreSent s image earlier

-- a look of a configured node made this view
pub record HasMade (s : Settings) (made : View) (look : LookOf) : Type 0 where
  pub nodes : look.maker.maker.nodes ≡ s.nodes
  pub own : look.maker.maker.me ≡ look.rank
  pub makes : MakesView look.tick look.maker made

-- a look made this view and left a rank out of it
pub record HasLeftOut (s : Settings) (made : View) (rank : ℕ) (look : LookOf) : Type 0 where
  pub is : HasMade s made look
  pub out : LeavesOut look.tick look.maker rank

-- where a rank stands after these happenings
abbrev pub log_after : Settings → (ℕ → List ℕ) → List Happening → ℕ → List Line
log_after s image happenings rank = log_at ((joint_after s image happenings).hosts rank).stand.spot

-- the present view of a rank was made by a look that left another one out
pub record WasLeftOut (s : Settings) (image : ℕ → List ℕ) (happenings : List Happening) (rank other : ℕ) : Type 0 where
  pub present : View
  pub has : view (log_after s image happenings rank) ≡ Some present
  pub made : SomeLook s image (HasLeftOut s present other) happenings

-- a rank is on, and its newest entry asks for a reset of another one
pub record AsksReset (s : Settings) (image : ℕ → List ℕ) (happenings : List Happening) (rank : ℕ) (other : Rank) : Type 0 where
  pub on : ((joint_after s image happenings).hosts rank).on ≡ true
  pub asks : disk_of (newest_outs (log_after s image happenings rank)) ≡ Some (disk.WriteReset other)

-- a reset is asked for only of a node that the maker of the present view left out
abbrev pub ResetsTheUnheard : Settings → Timing → Type 0
ResetsTheUnheard s t =
    (image : ℕ → List ℕ) (happenings : List Happening) (rank : ℕ) (other : Rank)
    → AllMayHappen s t image happenings
    → AreSent s image happenings
    → AsksReset s image happenings rank other
    → WasLeftOut s image happenings rank other.0

-- A look finds a node in company, where all know names: it sees it, and that follows no other.
pub record IsTogether (look : LookOf) (rank : ℕ) : Type 0 where
  pub names : names_then look.tick look.maker ≡ true
  pub sees : is_visible look.tick look.maker.maker rank ≡ true
  pub follows : follows_other (known_then look.tick look.maker) rank ≡ false

-- Or it is a member of the present view, a Hello of it came within three loops, and it was out of company for less than three.
pub record IsAwaited (look : LookOf) (rank : ℕ) : Type 0 where
  pub present : is_present_member look.maker.maker rank ≡ true
  pub heard : has_hello look.tick look.maker.maker rank ≡ true
  pub early : is_overdue look.tick (known_then look.tick look.maker) rank ≡ false

-- a look of a node that leads finds each other node so
abbrev pub KeepsAll : Settings → LookOf → Type 0
KeepsAll s look =
    leader_then look.tick look.maker ≡ Some look.maker.maker.me
    → (rank : ℕ)
    → rank < length s.nodes
    → (rank == look.maker.maker.me) ≡ false
    → IsTogether look rank ⊎ IsAwaited look rank

-- while each look of a node that leads finds each node so, nobody asks for a reset
abbrev pub NobodyIsReset : Settings → Timing → Type 0
NobodyIsReset s t =
    (image : ℕ → List ℕ) (happenings : List Happening) (rank : ℕ) (other : Rank)
    → AllMayHappen s t image happenings
    → AreSent s image happenings
    → EachLook s image (KeepsAll s) happenings
    → ¬ AsksReset s image happenings rank other

-- the premises are met: in some joined run a node asks for a reset
pub record ResetIsMet : Type 0 where
  pub settings : Settings
  pub timing : Timing
  pub image : ℕ → List ℕ
  pub happenings : List Happening
  pub rank : ℕ
  pub other : Rank
  pub may : AllMayHappen settings timing image happenings
  pub sent : AreSent settings image happenings
  pub asks : AsksReset settings image happenings rank other

-- The looks of the view makers of running nodes, and what their runs say, by what happened. This project's profile.
use Rattle.std.specs.Prelude.{◌≡◌, ◌⊎◌, ℕ, true, nat_lt, List, [], ◌∷◌, Option, None, Some, IfSome, if◌then◌else◌}
use Rattle.qn_base.specs.declared.calls.Call.{Call}
use Rattle.qn_base.specs.declared.calls.Call.TheVariants as call
use Rattle.qn_base.specs.declared.ids.View.{View}
use Rattle.qn_base.specs.Members.{is_member}
use Rattle.qn_io.specs.Answered.{time_of}
use Rattle.qn_model.specs.declared.configuration.Settings.{Settings}
use Rattle.qn_model.specs.declared.packets.Packet.{Packet}
use Rattle.qn_model.specs.declared.packets.Packet.TheVariants as packet
use Rattle.qn_model.specs.Log.{now}
use Rattle.qn_model.specs.Moments.{tick_of}
use Rattle.qn_model.specs.Wanted.{rank_of}
use Rattle.qn_member.specs.Naming.{NamingMaker}
use Rattle.qn_live.specs.declared.place.Choice.{Choice}
use Rattle.qn_live.specs.declared.place.Choice.TheVariants as choice
use Rattle.qn_live.specs.declared.words.Own.{Own}
use Rattle.qn_live.specs.Choosing.{looking, own_of, told}
use Rattle.qn_live.specs.Polling.{answered}
use Rattle.qn_live.specs.Running.{RunState}
use Rattle.qn_joined.specs.Joints.{Begins, Ends, Feeds, Happening, Lands, LandsLate, Looks, Operates, Passes, Returns, joint_after}
use Rattle.qn_joined.specs.Stands.{Acting, Ended, Looking, Parting, Polling, Receiving, Saying, Spot}

-- A look of a view maker: the rank of its node, its tick, and what the view maker knows where it is to look.
pub record LookOf : Type 0 where
  pub rank : ℕ
  pub tick : ℕ
  pub maker : NamingMaker

-- the look at a tick of a turn that takes this; a turn that takes a whole entry has none
abbrev pub look_in : ℕ → ℕ → Own → Choice → Option NamingMaker → Option LookOf
look_in rank tick own (choice.Open p) (Some m) = Some (record { rank = rank; tick = tick; maker = told tick own p m })
look_in rank tick own (choice.Open p) None = None
look_in rank tick own (choice.Whole entry) maker = None
look_in rank tick own (choice.Answer reply) maker = None

abbrev pub look_by : ℕ → ℕ → Choice × RunState → Option LookOf
look_by rank tick chosen = look_in rank tick (own_of (looking tick chosen)) chosen.0 chosen.1.maker

-- the look of a call that a run waits for
abbrev pub look_at : ℕ → Spot → Call → Option LookOf
look_at rank (Looking chosen) made =
    if nat_lt (time_of made) (now chosen.1.log) then None else look_by rank (time_of made) (answered (time_of made) chosen)
look_at rank (Receiving st) made = None
look_at rank (Acting entry outs o rest st) made = None
look_at rank (Polling poll sents st) made = None
look_at rank (Saying sent rest st) made = None
look_at rank (Parting end sent rest st) made = None
look_at rank (Ended ran) made = None

-- the look that happened, where the joint before was that of these happenings
abbrev pub look_of : Settings → (ℕ → List ℕ) → Happening → List Happening → Option LookOf
look_of s image (Returns rank made) earlier = look_at rank ((joint_after s image earlier).hosts rank).stand.spot made
look_of s image (Looks rank base) earlier =
    look_at rank ((joint_after s image earlier).hosts rank).stand.spot (call.Now (tick_of base))
look_of s image (Passes dt clocks) earlier = None
look_of s image (Begins rank clean leave polls turns) earlier = None
look_of s image (Lands rank) earlier = None
look_of s image (Feeds rank) earlier = None
look_of s image (LandsLate rank number) earlier = None
look_of s image (Ends rank) earlier = None
look_of s image (Operates rank sent) earlier = None

-- some look that there is, is so
abbrev pub IfLook : (LookOf → Type 0) → Option LookOf → Type 0
IfLook IsSo None = ⊥
IfLook IsSo (Some look) = IsSo look

-- one of the looks of these happenings was so, and each of them was
abbrev pub SomeLook : Settings → (ℕ → List ℕ) → (LookOf → Type 0) → List Happening → Type 0
SomeLook s image IsSo [] = ⊥
SomeLook s image IsSo (newest ∷ earlier) =
    IfLook IsSo (look_of s image newest earlier) ⊎ SomeLook s image IsSo earlier

abbrev pub EachLook : Settings → (ℕ → List ℕ) → (LookOf → Type 0) → List Happening → Type 0
EachLook s image IsSo [] = Unit {0}
EachLook s image IsSo (newest ∷ earlier) =
    IfSome (look_of s image newest earlier) IsSo × EachLook s image IsSo earlier

-- the packet of the view maker that a run is about to send
abbrev pub said_next : Spot → Option Packet
said_next (Saying sent rest st) = Some sent.packet
said_next (Receiving st) = None
said_next (Looking chosen) = None
said_next (Acting entry outs o rest st) = None
said_next (Polling poll sents st) = None
said_next (Parting end sent rest st) = None
said_next (Ended ran) = None

-- a rank sent an announcement of this view
abbrev pub HasAnnounced : Settings → (ℕ → List ℕ) → ℕ → View → List Happening → Type 0
HasAnnounced s image from view [] = ⊥
HasAnnounced s image from view (Returns rank made ∷ earlier) =
    ((rank ≡ from)
    × (said_next ((joint_after s image earlier).hosts rank).stand.spot ≡ Some (packet.Announce (rank_of from) view)))
    ⊎ HasAnnounced s image from view earlier
HasAnnounced s image from view (Looks rank base ∷ earlier) = HasAnnounced s image from view earlier
HasAnnounced s image from view (Passes dt clocks ∷ earlier) = HasAnnounced s image from view earlier
HasAnnounced s image from view (Begins rank clean leave polls turns ∷ earlier) = HasAnnounced s image from view earlier
HasAnnounced s image from view (Lands rank ∷ earlier) = HasAnnounced s image from view earlier
HasAnnounced s image from view (Feeds rank ∷ earlier) = HasAnnounced s image from view earlier
HasAnnounced s image from view (LandsLate rank number ∷ earlier) = HasAnnounced s image from view earlier
HasAnnounced s image from view (Ends rank ∷ earlier) = HasAnnounced s image from view earlier
HasAnnounced s image from view (Operates rank sent ∷ earlier) = HasAnnounced s image from view earlier

-- where a packet announces a view with its sender, that is so of both
abbrev pub IfAnnounced : (ℕ → View → Type 0) → Option Packet → Type 0
IfAnnounced WasAnnounced (Some (packet.Announce from view)) = is_member view.members from.0 ≡ true → WasAnnounced from.0 view
IfAnnounced WasAnnounced (Some (packet.Hello from)) = Unit {0}
IfAnnounced WasAnnounced (Some (packet.Heard from said standing)) = Unit {0}
IfAnnounced WasAnnounced (Some (packet.Ask ask)) = Unit {0}
IfAnnounced WasAnnounced (Some (packet.Tell tell)) = Unit {0}
IfAnnounced WasAnnounced (Some (packet.Vote agrees)) = Unit {0}
IfAnnounced WasAnnounced None = Unit {0}

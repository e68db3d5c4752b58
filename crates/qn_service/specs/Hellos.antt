-- What running nodes say to one another, when a look hears it, and how soon. This project's profile.
use Rattle.std.specs.Prelude.{◌≡◌, ◌≤◌, ◌<◌, ◌+◌, ◌*◌, ◌/◌, ◌==◌, ℕ, Bool, true, false, max, List, ◌∷◌, ◌++◌, length, Option, None, Some, option_map}
use Rattle.std.specs.Option.{option_map_or}
use Rattle.qn_base.specs.declared.ids.Mask.{Mask}
use Rattle.qn_base.specs.declared.ids.Said.{Said}
use Rattle.qn_base.specs.declared.ids.Standing.{Standing}
use Rattle.qn_base.specs.declared.ids.View.{View}
use Rattle.qn_base.specs.Members.{is_member}
use Rattle.qn_model.specs.declared.configuration.Settings.{Settings}
use Rattle.qn_model.specs.declared.packets.Packet.{Packet}
use Rattle.qn_model.specs.declared.packets.Packet.TheVariants as packet
use Rattle.qn_model.specs.declared.packets.Sent.{Sent}
use Rattle.qn_model.specs.declared.times.Timing.{Timing}
use Rattle.qn_model.specs.Log.{now}
use Rattle.qn_model.specs.Moments.{Before}
use Rattle.qn_model.specs.Timing.{is_safe}
use Rattle.qn_model.specs.Wanted.{rank_of}
use Rattle.qn_member.specs.Maker.{is_heard, is_visible, of_rank, plain}
use Rattle.qn_member.specs.NamingViews.{after_look}
use Rattle.qn_live.specs.declared.place.Choice.{Choice}
use Rattle.qn_live.specs.declared.place.Choice.TheVariants as choice
use Rattle.qn_joined.specs.Joints.{Begins, Ends, Feeds, Happening, IsJoined, Lands, LandsLate, Looks, Operates, Passes, Returns, joint_after}
use Rattle.qn_joined.specs.Stands.{Acting, Ended, Looking, Parting, Polling, Receiving, Saying, Spot}
use Rattle.qn_service.specs.KeptViews.{IsUpAt}
use Rattle.qn_service.specs.Looks.{LookOf}
use Rattle.qn_service.specs.NextLooks.{look_of_rank}
use Rattle.qn_service.specs.Serving.{clock_at}
use Rattle.qn_service.specs.Unheard.{log_after}

-- ## What is said

-- the packet of the view maker that a run is about to send, with its receiver
abbrev pub sent_next : Spot → Option Sent
sent_next (Saying sent rest st) = Some sent
sent_next (Receiving st) = None
sent_next (Looking chosen) = None
sent_next (Acting entry outs o rest st) = None
sent_next (Polling poll sents st) = None
sent_next (Parting end sent rest st) = None
sent_next (Ended ran) = None

-- what a happening says, where the joint before was that of these: who says it, and the packet with its receiver
abbrev pub said_in : Settings → (ℕ → List ℕ) → Happening → List Happening → Option (ℕ × Sent)
said_in s image (Returns rank made) earlier =
    option_map (λ sent. (rank, sent)) (sent_next ((joint_after s image earlier).hosts rank).stand.spot)
said_in s image (Looks rank base) earlier = None
said_in s image (Passes dt clocks) earlier = None
said_in s image (Begins rank clean leave polls turns) earlier = None
said_in s image (Lands rank) earlier = None
said_in s image (Feeds rank) earlier = None
said_in s image (LandsLate rank number) earlier = None
said_in s image (Ends rank) earlier = None
said_in s image (Operates rank sent) earlier = None

-- what happens after a joint is that one rank says a packet to another one
abbrev pub Says : Settings → (ℕ → List ℕ) → ℕ → ℕ → Packet → Happening → List Happening → Type 0
Says s image from to packet newest earlier =
    said_in s image newest earlier ≡ Some (from, record { to = rank_of to; packet = packet })

-- ## What is heard

-- the packet that a turn takes to its look
abbrev pub packet_chosen : Choice → Option Packet
packet_chosen (choice.Open p) = p
packet_chosen (choice.Whole entry) = None
packet_chosen (choice.Answer reply) = None

abbrev pub packet_waiting : Spot → Option Packet
packet_waiting (Looking chosen) = packet_chosen chosen.0
packet_waiting (Receiving st) = None
packet_waiting (Acting entry outs o rest st) = None
packet_waiting (Polling poll sents st) = None
packet_waiting (Saying sent rest st) = None
packet_waiting (Parting end sent rest st) = None
packet_waiting (Ended ran) = None

-- the packet that a rank is about to hear
abbrev pub packet_to_hear : Settings → (ℕ → List ℕ) → ℕ → List Happening → Option Packet
packet_to_hear s image rank happenings = packet_waiting ((joint_after s image happenings).hosts rank).stand.spot

-- a look of a rank between two joints heard a packet, at a joint at which its clock had not passed a tick
pub record IsHeardBy (s : Settings) (image : ℕ → List ℕ) (rank : ℕ) (packet : Packet) (limit : ℕ) (since new : List Happening) : Type 0 where
  pub at : List Happening
  pub happening : Happening
  pub look : LookOf
  pub after : Before since at
  pub back : Before (happening ∷ at) new
  pub is : look_of_rank s image rank happening at ≡ Some look
  pub hears : packet_to_hear s image rank at ≡ Some packet
  pub soon : clock_at s image at rank ≤ limit

-- each packet that one rank says to another one between two joints is heard within so many ticks of the clock of the other, where these pass
-- before the new joint
abbrev pub WordsCome : Settings → (ℕ → List ℕ) → ℕ → ℕ → ℕ → List Happening → List Happening → Type 0
WordsCome s image post from to old new =
    (at : List Happening) (happening : Happening) (packet : Packet)
    → Before old at → Before (happening ∷ at) new
    → Says s image from to packet happening at
    → clock_at s image at to + post < clock_at s image new to
    → IsHeardBy s image to packet (clock_at s image at to + post) (happening ∷ at) new

-- between two joints a rank hears no farewell of another one: each announcement of that has it as a member
abbrev pub HearsNoFarewell : Settings → (ℕ → List ℕ) → ℕ → ℕ → List Happening → List Happening → Type 0
HearsNoFarewell s image from to old new =
    (at : List Happening) (view : View)
    → Before old at → Before at new
    → packet_to_hear s image to at ≡ Some (packet.Announce (rank_of from) view)
    → is_member view.members from ≡ true

-- ## How soon

-- a rank at one joint: its machine is on, its node is up, and it was handed an entry within so many ticks
pub record IsAwake (s : Settings) (image : ℕ → List ℕ) (turn rank : ℕ) (happenings : List Happening) : Type 0 where
  pub is : IsUpAt s image rank happenings
  pub turns : clock_at s image happenings rank ≤ now (log_after s image happenings rank) + turn

abbrev pub StaysAwake : Settings → (ℕ → List ℕ) → ℕ → ℕ → List Happening → List Happening → Type 0
StaysAwake s image turn rank old new = (at : List Happening) → Before old at → Before at new → IsAwake s image turn rank at

-- a Hello of the beat is due half a loop after the last one, and said within a turn and the next one
abbrev pub beat_ticks : Timing → ℕ → ℕ
beat_ticks t turn = t.loop_ms / 2 + turn + turn

-- between two joints one rank said a Hello to another one, at most so many ticks of its clock before the new one
pub record SaidHello (s : Settings) (image : ℕ → List ℕ) (from to limit : ℕ) (old new : List Happening) : Type 0 where
  pub at : List Happening
  pub happening : Happening
  pub said : Said
  pub standing : Standing
  pub after : Before old at
  pub back : Before (happening ∷ at) new
  pub says : Says s image from to (packet.Heard (rank_of from) said standing) happening at
  pub soon : clock_at s image new from ≤ clock_at s image at from + limit

-- a node that is up and keeps its pace says a Hello to each other one at each half loop and two turns
abbrev pub HellosAreSaid : Settings → Timing → Type 0
HellosAreSaid s t =
    (image : ℕ → List ℕ) (turn from to : ℕ) (newer older : List Happening)
    → IsJoined s t image (newer ++ older)
    → from < length s.nodes
    → to < length s.nodes
    → ¬ (to ≡ from)
    → StaysAwake s image turn from older (newer ++ older)
    → clock_at s image older from + beat_ticks t turn < clock_at s image (newer ++ older) from
    → SaidHello s image from to (beat_ticks t turn) older (newer ++ older)

-- the same until it is heard: the way of the packet, and a turn of the other one
abbrev pub hello_ticks : Timing → ℕ → ℕ → ℕ
hello_ticks t turn post = beat_ticks t turn + turn + post + 4

-- One rank is near another one from an old joint to a new one: both are up and keep their pace, what the one says is heard in time, and it
-- says no farewell. A Hello comes within three loops, by clocks of which each may be off by one in a hundred.
pub record IsNear (s : Settings) (t : Timing) (image : ℕ → List ℕ) (turn post from to : ℕ) (old new : List Happening) : Type 0 where
  pub configured : (from < length s.nodes) × (to < length s.nodes)
  pub apart : ¬ (to ≡ from)
  pub fast : 101 * hello_ticks t turn post ≤ 99 * (3 * t.loop_ms)
  pub sender : StaysAwake s image turn from old new
  pub hearer : StaysAwake s image turn to old new
  pub come : WordsCome s image post from to old new
  pub stays : HearsNoFarewell s image from to old new

-- then each look hears it, once that time has passed
abbrev pub LooksHear : Settings → Timing → Type 0
LooksHear s t =
    (image : ℕ → List ℕ) (turn post from to : ℕ) (newer older at : List Happening) (happening : Happening) (look : LookOf)
    → IsJoined s t image (newer ++ older)
    → IsNear s t image turn post from to older (newer ++ older)
    → Before older at
    → Before (happening ∷ at) (newer ++ older)
    → look_of_rank s image to happening at ≡ Some look
    → 100 * hello_ticks t turn post + 99 * (joint_after s image older).time ≤ 99 * (joint_after s image at).time
    → is_heard look.tick look.maker.maker from ≡ true

-- the premises are met: in some joined run with safe times they are so, and that time has passed before a look
pub record HellosAreMet : Type 0 where
  pub settings : Settings
  pub timing : Timing
  pub image : ℕ → List ℕ
  pub turn : ℕ
  pub post : ℕ
  pub from : ℕ
  pub to : ℕ
  pub newer : List Happening
  pub older : List Happening
  pub at : List Happening
  pub happening : Happening
  pub look : LookOf
  pub safe : is_safe timing ≡ true
  pub joined : IsJoined settings timing image (newer ++ older)
  pub near : IsNear settings timing image turn post from to older (newer ++ older)
  pub since : Before older at
  pub until : Before (happening ∷ at) (newer ++ older)
  pub is : look_of_rank settings image to happening at ≡ Some look
  pub late : 100 * hello_ticks timing turn post + 99 * (joint_after settings image older).time ≤ 99 * (joint_after settings image at).time

-- ## Who is seen

-- between two joints a view maker looks at least each so many ticks of its clock
pub record HasLooked (s : Settings) (image : ℕ → List ℕ) (gaze rank : ℕ) (old new : List Happening) : Type 0 where
  pub at : List Happening
  pub happening : Happening
  pub look : LookOf
  pub after : Before old at
  pub back : Before (happening ∷ at) new
  pub is : look_of_rank s image rank happening at ≡ Some look
  pub soon : clock_at s image new rank ≤ clock_at s image at rank + gaze

abbrev pub LooksOften : Settings → (ℕ → List ℕ) → ℕ → ℕ → List Happening → List Happening → Type 0
LooksOften s image gaze rank old new =
    (at : List Happening)
    → Before old at → Before at new
    → clock_at s image old rank + gaze < clock_at s image at rank
    → HasLooked s image gaze rank old at

-- one rank said a Hello to another one between two joints, at most so many ticks of the clock of the other before the new one
pub record WasSaid (s : Settings) (image : ℕ → List ℕ) (from to post : ℕ) (said : Said) (standing : Standing) (old new : List Happening) : Type 0 where
  pub at : List Happening
  pub happening : Happening
  pub after : Before old at
  pub back : Before (happening ∷ at) new
  pub says : Says s image from to (packet.Heard (rank_of from) said standing) happening at
  pub soon : clock_at s image new to ≤ clock_at s image at to + post

-- each Hello of a rank that comes between two joints was said by it since the old one, and is no older
abbrev pub HellosAreOwn : Settings → (ℕ → List ℕ) → ℕ → ℕ → ℕ → List Happening → List Happening → Type 0
HellosAreOwn s image post from to old new =
    (at : List Happening) (said : Said) (standing : Standing)
    → Before old at → Before at new
    → packet_to_hear s image to at ≡ Some (packet.Heard (rank_of from) said standing)
    → WasSaid s image from to post said standing old at

-- One rank stays in sight of another one: each is near the other, it looks often, and its Hellos are its own.
pub record InSight (s : Settings) (t : Timing) (image : ℕ → List ℕ) (turn post gaze from to : ℕ) (old new : List Happening) : Type 0 where
  pub here : IsNear s t image turn post from to old new
  pub there : IsNear s t image turn post to from old new
  pub looks : LooksOften s image gaze from old new
  pub own : HellosAreOwn s image post from to old new
  pub two_node : s.two_node ≡ false

-- by then a look of the one has heard the other, what it says since has come, and nothing of before can come
abbrev pub sight_ticks : Timing → ℕ → ℕ → ℕ → ℕ
sight_ticks t turn post gaze = hello_ticks t turn post + hello_ticks t turn post + gaze + post + 4

-- then each look sees it: its last Hello came within three loops, and names the node
abbrev pub LooksSee : Settings → Timing → Type 0
LooksSee s t =
    (image : ℕ → List ℕ) (turn post gaze from to : ℕ) (newer older at : List Happening) (happening : Happening) (look : LookOf)
    → IsJoined s t image (newer ++ older)
    → InSight s t image turn post gaze from to older (newer ++ older)
    → Before older at
    → Before (happening ∷ at) (newer ++ older)
    → look_of_rank s image to happening at ≡ Some look
    → 100 * sight_ticks t turn post gaze + 99 * (joint_after s image older).time ≤ 99 * (joint_after s image at).time
    → is_visible look.tick look.maker.maker from ≡ true

-- ## A set of nodes

-- a packet is a Hello of a rank
abbrev pub is_hello_of : ℕ → Option Packet → Bool
is_hello_of rank (Some (packet.Hello from)) = from.0 == rank
is_hello_of rank (Some (packet.Heard from said standing)) = from.0 == rank
is_hello_of rank (Some (packet.Announce from view)) = false
is_hello_of rank (Some (packet.Ask ask)) = false
is_hello_of rank (Some (packet.Tell tell)) = false
is_hello_of rank (Some (packet.Vote agrees)) = false
is_hello_of rank None = false

-- From one joint to another the nodes of a set are up and keep their pace, each stays in sight of each other one, and no Hello of a node outside
-- comes to one of them.
pub record StaysTogether (s : Settings) (t : Timing) (image : ℕ → List ℕ) (turn post gaze : ℕ) (set : Mask) (old new : List Happening) : Type 0 where
  pub configured : (rank : ℕ) → is_member set rank ≡ true → rank < length s.nodes
  pub awake : (rank : ℕ) → is_member set rank ≡ true → StaysAwake s image turn rank old new
  pub sight : (rank other : ℕ) → is_member set rank ≡ true → is_member set other ≡ true → ¬ (other ≡ rank)
      → InSight s t image turn post gaze other rank old new
  pub apart : (rank other : ℕ) → is_member set rank ≡ true → is_member set other ≡ false
      → (at : List Happening) → Before old at → Before at new → is_hello_of other (packet_to_hear s image rank at) ≡ false

-- by then each of them was seen, and what came before of others is three loops old
abbrev pub find_ticks : Timing → ℕ → ℕ → ℕ → ℕ
find_ticks t turn post gaze = max (sight_ticks t turn post gaze) (3 * t.loop_ms + 1)

-- then each look of one of them sees just these
abbrev pub LooksFindSets : Settings → Timing → Type 0
LooksFindSets s t =
    (image : ℕ → List ℕ) (turn post gaze : ℕ) (set : Mask) (rank : ℕ) (newer older at : List Happening) (happening : Happening) (look : LookOf)
    → IsJoined s t image (newer ++ older)
    → StaysTogether s t image turn post gaze set older (newer ++ older)
    → is_member set rank ≡ true
    → Before older at
    → Before (happening ∷ at) (newer ++ older)
    → look_of_rank s image rank happening at ≡ Some look
    → 100 * find_ticks t turn post gaze + 99 * (joint_after s image older).time ≤ 99 * (joint_after s image at).time
    → (other : ℕ) → other < length s.nodes
    → is_visible look.tick look.maker.maker other ≡ is_member set other

-- ## What is known of what is said

-- what each look of a rank between two joints leaves to be said passes a test
abbrev pub LeavesWords : Settings → (ℕ → List ℕ) → (Said → Bool) → ℕ → List Happening → List Happening → Type 0
LeavesWords s image test rank old new =
    (at : List Happening) (happening : Happening) (look : LookOf)
    → Before old at → Before (happening ∷ at) new
    → look_of_rank s image rank happening at ≡ Some look
    → test (after_look look.tick look.maker).maker.says ≡ true

-- One rank is near another one from an old joint to a new one, looks often, its Hellos are its own, and what it leaves to be said passes a test, as
-- a plain Hello does, if one comes.
pub record TellsSo (s : Settings) (t : Timing) (image : ℕ → List ℕ) (turn post gaze from to : ℕ) (test : Said → Bool) (old new : List Happening) : Type 0 where
  pub near : IsNear s t image turn post from to old new
  pub looks : LooksOften s image gaze from old new
  pub own : HellosAreOwn s image post from to old new
  pub leaves : LeavesWords s image test from old new
  pub plain : (at : List Happening) → Before old at → Before at new
      → packet_to_hear s image to at ≡ Some (packet.Hello (rank_of from)) → test plain ≡ true
  pub two_node : s.two_node ≡ false

-- then what each look of the other one knows it to have said last passes it
abbrev pub LooksKnowWords : Settings → Timing → Type 0
LooksKnowWords s t =
    (image : ℕ → List ℕ) (turn post gaze from to : ℕ) (test : Said → Bool) (newer older at : List Happening) (happening : Happening) (look : LookOf)
    → IsJoined s t image (newer ++ older)
    → TellsSo s t image turn post gaze from to test older (newer ++ older)
    → Before older at
    → Before (happening ∷ at) (newer ++ older)
    → look_of_rank s image to happening at ≡ Some look
    → 100 * (hello_ticks t turn post + gaze + post + 4) + 99 * (joint_after s image older).time ≤ 99 * (joint_after s image at).time
    → option_map_or test (of_rank look.maker.maker.said from) false ≡ true

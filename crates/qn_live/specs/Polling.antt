-- What a node that polls an arbiter sends to it, and what it takes from it: this project's profile.
use Rattle.std.specs.Prelude.{ℕ, Bool, true, false, not, ◌+◌, ◌-◌, ◌^◌, min, ◌==◌, ◌&&◌, ◌||◌, nat_le, nat_lt, List, [], ◌∷◌, Option, None, Some, option_map, option_and_then, unwrap_or, is_some, if◌then◌else◌}
use Rattle.std.specs.Option.{option_map_or}
use Rattle.qn_base.specs.declared.calls.Call.{Call}
use Rattle.qn_base.specs.declared.calls.Call.TheVariants as call
use Rattle.qn_base.specs.declared.calls.Received.{Received}
use Rattle.qn_base.specs.declared.calls.Received.TheVariants as received
use Rattle.qn_base.specs.declared.ids.Mask.{Mask}
use Rattle.qn_base.specs.declared.ids.View.{View}
use Rattle.std.specs.List.{list_any, range_with_len}
use Rattle.qn_base.specs.Members.{is_member}
use Rattle.qn_base.specs.Plans.{Plan, Ends, Asks}
use Rattle.qn_model.specs.declared.configuration.Settings.{Settings}
use Rattle.qn_model.specs.declared.entries.What.{What}
use Rattle.qn_model.specs.declared.entries.What.TheVariants as what
use Rattle.qn_model.specs.Holding.{holds}
use Rattle.qn_model.specs.Log.{Line, incarnation, now, view_of}
use Rattle.qn_model.specs.NodeVotes.{install, view}
use Rattle.qn_model.specs.Phases.{is_up, phase}
use Rattle.qn_model.specs.Wanted.{rank_of}
use Rattle.qn_safety.specs.declared.polls.Poll.{Poll}
use Rattle.qn_safety.specs.declared.polls.Reply.{Reply}
use Rattle.qn_safety.specs.Poller.{Poller, Standing, answer_taken, next_poll, with_sent, without_last}
use Rattle.qn_polls.specs.Polls.{poll_bytes}
use Rattle.qn_polls.specs.Reading.{reply_of}
use Rattle.qn_live.specs.declared.place.Choice.{Choice}
use Rattle.qn_live.specs.declared.place.Choice.TheVariants as choice
use Rattle.qn_live.specs.Running.{RunState}

-- the seat of the arbiter, in a call that sends and in a seal: one above the ranks
abbrev pub arbiter_seat : ℕ
arbiter_seat = 32

-- the reply to this node that came, where one did
abbrev pub is_reply_for : ℕ → Reply → Bool
is_reply_for me reply = reply.to.0 == me

abbrev pub reply_in : Received → Option Reply
reply_in (received.Packet bytes) = reply_of bytes
reply_in received.Nothing = None
reply_in received.Failed = None

-- an entry is an answer of the device: a node that polls takes it of a reply alone
abbrev pub is_device : What → Bool
is_device (what.Device agrees) = true
is_device what.Begin = false
is_device what.BeginClean = false
is_device (what.Header seen) = false
is_device (what.SlotRead rank seen) = false
is_device (what.MailChecked seen) = false
is_device (what.MailRead seen) = false
is_device (what.MailWritten rank ok) = false
is_device (what.Claimed ok) = false
is_device (what.Cleared ok) = false
is_device (what.Closed ok) = false
is_device (what.View view) = false
is_device (what.Ask ask) = false
is_device (what.Tell tell) = false
is_device what.Tick = false
is_device (what.Stopped ok) = false
is_device what.Leave = false

-- what a turn takes that received this, by what it would take without an arbiter. A reply to another node is nothing, as a Vote is.
abbrev pub choice_beside : ℕ → Option Reply → Choice → Choice
choice_beside me (Some reply) before = if is_reply_for me reply then choice.Answer reply else choice.Open None
choice_beside me None (choice.Whole entry) = if is_device entry then choice.Open None else choice.Whole entry
choice_beside me None (choice.Open p) = choice.Open p
choice_beside me None (choice.Answer reply) = choice.Answer reply

-- a choice at its tick: a reply that the poller takes is the device's answer, and any other is nothing
abbrev pub answered_at : ℕ → Option Poller → Choice → Choice
answered_at tick poller (choice.Whole entry) = choice.Whole entry
answered_at tick poller (choice.Open p) = choice.Open p
answered_at tick poller (choice.Answer reply) =
    option_map_or (λ agrees. choice.Whole (what.Device agrees)) (option_and_then (answer_taken tick reply) poller) (choice.Open None)

-- what was chosen, at its tick
abbrev pub answered : ℕ → Choice × RunState → Choice × RunState
answered tick chosen = (answered_at tick chosen.1.poller chosen.0, chosen.1)

abbrev pub is_view_entry : What → Bool
is_view_entry entry = is_some (view_of entry)

-- the poller after an entry: a view makes it forget its last poll, and so does a reply that it took, so that it takes none twice
abbrev pub poller_after : What → Option Poller → Option Poller
poller_after entry poller = if is_view_entry entry || is_device entry then option_map without_last poller else poller

-- members that another set has no more
abbrev pub has_lost_members : Mask → Mask → Bool
has_lost_members before after = list_any (λ rank. is_member before rank && not (is_member after rank)) (range_with_len 0 32)

-- a view has lost a node of another one
abbrev pub has_lost : Option View → View → Bool
has_lost None after = false
has_lost (Some before) after = has_lost_members before.members after.members

-- From when on a node polls after an entry. After a view that has lost a node, a node that does not hold gives one that holds a loop's
-- time to poll first.
abbrev pub polls_from_view : ℕ → ℕ → List Line → View → ℕ
polls_from_view tick loop_ms before seen =
    if has_lost (view before) seen && not (holds before) then min (tick + loop_ms) (2 ^ 64 - 1) else 0

abbrev pub polls_after : ℕ → ℕ → List Line → What → ℕ → ℕ
polls_after tick loop_ms before entry from = option_map_or (polls_from_view tick loop_ms before) (view_of entry) from

-- what the node shows in a poll, at the tick of its last entry: None where it is not up or has no view
abbrev pub shown : Settings → List Line → Option Standing
shown s log =
    if is_up (phase s log)
    then option_map (λ seen. record { tick = now log; incarnation = unwrap_or (incarnation log) 0; install = install log; view = seen }) (view log)
    else None

-- a poller that has a number left
abbrev pub has_numbers : Option Poller → Bool
has_numbers None = false
has_numbers (Some poller) = nat_lt poller.count (2 ^ 64 - 1)

-- what the node shows where it polls in this turn: with its Hellos, and at once after a view
abbrev pub shown_due : Settings → Bool → What → RunState → Option Standing
shown_due s greets entry st =
    if has_numbers st.poller && (greets || is_view_entry entry) && nat_le st.polls_from (now st.log) then shown s st.log else None

-- the poll of this turn
abbrev pub poll_due : Settings → ℕ → Bool → What → RunState → Option Poll
poll_due s me greets entry st =
    option_and_then (λ poller. option_map (λ at. next_poll (rank_of me) at poller) (shown_due s greets entry st)) st.poller

-- the state once the poll of this turn is made, whether its send fails or not
abbrev pub polled : Settings → ℕ → Bool → What → RunState → RunState
polled s me greets entry st =
    record st { poller = option_map (λ poller. option_map_or (λ at. with_sent (rank_of me) at poller) (shown_due s greets entry st) poller) st.poller }

-- the call that sends a poll
abbrev pub poll_call : Poll → Call
poll_call poll = call.Send (rank_of arbiter_seat) (poll_bytes poll) true

-- the calls that send the poll, where there is one
abbrev pub poll_calls : Option Poll → List Call
poll_calls None = []
poll_calls (Some poll) = poll_call poll ∷ []

-- the poll is sent, where there is one; that a send failed is passed over
abbrev pub poll_plan : Option Poll → Plan (Unit {0})
poll_plan None = Ends tt
poll_plan (Some poll) = Asks (poll_call poll) (λ call. Ends tt)

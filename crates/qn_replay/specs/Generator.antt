-- The events of a soak, drawn one after the other from a seed: this project's profile.
use Rattle.std.specs.Prelude.{ℕ, Bool, true, false, List, [], ◌∷◌, ◌++◌, Option, None, ◌+◌, ◌-◌, ◌*◌, ◌%◌, ◌^◌, ◌==◌, ◌&&◌, not, min, length, nat_le, nat_lt, is_none, unwrap_or, option_map, slice_get, bit_or, if◌then◌else◌}
use Rattle.std.specs.Option.{option_map_or}
use Rattle.qn_base.specs.declared.ids.Rank.{Rank}
use Rattle.qn_model.specs.declared.configuration.Settings.{Settings}
use Rattle.qn_model.specs.declared.events.Event.{Event}
use Rattle.qn_model.specs.declared.events.Event.TheVariants.{Pass, Boot, Crash, Land, Done, Fail, Late, View, Deliver, Device, Tick, Stopped, Leave, Feed}
use Rattle.qn_model.specs.declared.nodelist.NodeEntry.{NodeEntry}
use Rattle.qn_model.specs.declared.times.Timing.{Timing}
use Rattle.qn_model.specs.Moments.{packets, time}
use Rattle.qn_model.specs.Rules.{refusal}
use Rattle.qn_model.specs.Timing.{usual_times}
use Rattle.qn_model.specs.Unmet.{least_from}
use Rattle.qn_model.specs.World.{World}
use Rattle.qn_world.specs.declared.pending.Pending.{Pending}
use Rattle.qn_world.specs.Pending.{pending_of}
use Rattle.qn_replay.specs.declared.choice.Choice.{Choice}
use Rattle.qn_replay.specs.declared.choice.Choice.TheVariants as choice
use Rattle.qn_replay.specs.Draws.{next_state, draw_at}

-- three nodes with the ids 1, 2 and 3 and one vote each, without flags
abbrev pub node_of : ℕ → NodeEntry
node_of id = record { id = record { 0 = id }; votes = 1; fence_delay = 0 }

abbrev pub soak_settings : Settings
soak_settings =
    record {
      nodes = node_of 1 ∷ node_of 2 ∷ node_of 3 ∷ [];
      two_node = false;
      wait_for_all = false;
      last_man_standing = false;
      window = 10000;
      device = None;
      expected = 3;
      tie = None;
    }

-- the usual times
abbrev pub soak_timing : Timing
soak_timing = usual_times

-- an event, and the state after its draws
pub record Drawn : Type 0 where
  pub event : Event
  pub state : ℕ

abbrev pub undrawn : Event → ℕ → Drawn
undrawn event state = record { event = event; state = state }

-- what is pending at the node of a rank
abbrev pub pending_at : ℕ → World → Pending
pending_at rank w = pending_of soak_settings rank w

-- a feed was decided after the last one, at most 1000 milliseconds ago
abbrev pub is_feed_due : ℕ → Pending → Bool
is_feed_due now pending = option_map_or (λ decided. nat_lt pending.fed decided && nat_le now (decided + 1000)) pending.decided false

-- a boot at a clock below ten seconds
abbrev pub boot_at : Rank → ℕ → Drawn
boot_at rank state = undrawn (Boot rank (draw_at state % 1000000)) state

-- the next step of a node
unfoldable pub next_step : Pending → ℕ → Rank → ℕ → Drawn
next_step pending now rank state =
    if not pending.running then boot_at rank (next_state state)
    else (if is_feed_due now pending then undrawn (Feed rank) state
    else (if pending.out && not pending.landed then undrawn (Land rank) state
    else (if pending.landed then undrawn (Done rank) state
    else (if pending.stop_due then undrawn (Stopped rank) state else undrawn (Tick rank) state))))

-- the clocks of a pass, as far as they are drawn
pub record DrawnClocks : Type 0 where
  pub clocks : List (Rank × ℕ)
  pub state : ℕ

-- one more clock, within one per cent, where its node runs
abbrev pub clock_at : ℕ → ℕ → List (Rank × ℕ) → ℕ → DrawnClocks
clock_at dt rank clocks state =
    record { clocks = clocks ++ (record { 0 = rank }, 99 * dt + draw_at state % (2 * dt + 1)) ∷ []; state = state }

unfoldable pub with_clock : ℕ → ℕ → Bool → DrawnClocks → DrawnClocks
with_clock dt rank running drawn = if running then clock_at dt rank drawn.clocks (next_state drawn.state) else drawn

-- the clocks of the running nodes, by rank
unfoldable pub clocks_of : ℕ → Bool → Bool → Bool → ℕ → DrawnClocks
clocks_of dt first second third state =
    with_clock dt 2 third (with_clock dt 1 second (with_clock dt 0 first (record { clocks = []; state = state })))

-- a pass of 1 to 400 milliseconds
abbrev pub length_at : ℕ → ℕ
length_at state = 1 + draw_at state % 400

abbrev pub pass_with : ℕ → DrawnClocks → Drawn
pass_with dt drawn = undrawn (Pass dt drawn.clocks) drawn.state

unfoldable pub pass_at : Bool → Bool → Bool → ℕ → Drawn
pass_at first second third state = pass_with (length_at state) (clocks_of (length_at state) first second third state)

-- a view of these members, whose id is their bits
abbrev pub view_of : Rank → ℕ → ℕ → Drawn
view_of rank members state = undrawn (View rank (record { id = members; members = record { 0 = members } })) state

-- some of the nodes, and this one
abbrev pub some_view : Rank → ℕ → Drawn
some_view rank state = view_of rank (bit_or (draw_at state % 8) (2 ^ rank.0)) state

-- all nodes, this node alone, or some of them
unfoldable pub view_at : Rank → ℕ → Drawn
view_at rank state =
    if draw_at state % 3 == 0 then view_of rank 7 state
    else (if draw_at state % 3 == 1 then view_of rank (2 ^ rank.0) state
    else some_view rank (next_state state))

-- one of the last eight packets, to its receiver
abbrev pub receiver : Rank → ℕ → World → Rank
receiver rank number w = unwrap_or (option_map (λ sent. sent.to) (slice_get (packets soak_settings w.moments) number)) rank

abbrev pub number_at : ℕ → ℕ → ℕ
number_at count state = count - 1 - (draw_at state % min count 8)

abbrev pub deliver_at : Rank → ℕ → World → ℕ → Drawn
deliver_at rank number w state = undrawn (Deliver (receiver rank number w) number) state

unfoldable pub delivery : Rank → ℕ → World → ℕ → Drawn
delivery rank count w state =
    if count == 0 then undrawn (Tick rank) state else deliver_at rank (number_at count (next_state state)) w (next_state state)

-- a crash, a leave, a leftover that lands, or a failure
unfoldable pub incident_of : ℕ → Rank → Event
incident_of number rank =
    if number == 0 then Crash rank else (if number == 1 then Leave rank else (if number == 2 then Late rank 1 else Fail rank))

abbrev pub incident_at : Rank → ℕ → Drawn
incident_at rank state = undrawn (incident_of (draw_at state % 8) rank) state

-- what a number below 16 chooses
abbrev pub choice_of : ℕ → Choice
choice_of number =
    if nat_lt number 10 then choice.Step
    else (if nat_lt number 12 then choice.Pass
    else (if number == 12 then choice.View
    else (if number == 13 then choice.Delivery
    else (if number == 14 then choice.Device else choice.Incident))))

-- what the choice comes to
unfoldable pub chosen_event : World → Choice → Rank → ℕ → Drawn
chosen_event w choice.Step rank state = next_step (pending_at rank.0 w) (time w.moments) rank state
chosen_event w choice.Pass rank state =
    pass_at (pending_at 0 w).running (pending_at 1 w).running (pending_at 2 w).running (next_state state)
chosen_event w choice.View rank state = view_at rank (next_state state)
chosen_event w choice.Delivery rank state = delivery rank (length (packets soak_settings w.moments)) w state
chosen_event w choice.Device rank state = undrawn (Device rank true) state
chosen_event w choice.Incident rank state = incident_at rank (next_state state)

-- the candidate after two draws: the choice, and the node
abbrev pub candidate_at : World → ℕ → ℕ → Drawn
candidate_at w first second = chosen_event w (choice_of (draw_at first % 16)) (record { 0 = draw_at second % 3 }) second

unfoldable pub candidate : World → ℕ → Drawn
candidate w state = candidate_at w (next_state state) (next_state (next_state state))

-- an event is allowed
abbrev pub may_happen : Event → World → Bool
may_happen event w = is_none (refusal soak_settings soak_timing event w)

-- one millisecond, on all clocks
abbrev pub moment : Event
moment = Pass 1 []

-- a running node would be past its watchdog in one more millisecond
abbrev pub is_overdue : ℕ → Pending → Bool
is_overdue now pending = pending.running && nat_lt 500000 (99 * (now + 1 - pending.fed))

-- the least overdue rank
unfoldable pub overdue : World → Option ℕ
overdue w = least_from 3 0 (λ rank. is_overdue (time w.moments) (pending_at rank w))

-- what happens where not even time may pass
unfoldable pub forced : World → Event
forced w = option_map_or (λ rank. Crash (record { 0 = rank })) (overdue w) moment

-- the candidate, or what happens in place of it
unfoldable pub in_place : World → Event → Event
in_place w event = if may_happen event w then event else (if may_happen moment w then moment else forced w)

-- the next event, and the state after its draws
unfoldable pub next_event : World → ℕ → Drawn
next_event w state = undrawn (in_place w (candidate w state).event) (candidate w state).state

-- Which events of the world are well formed, and which a rule of the world refuses: this project's profile.
use Rattle.std.specs.Prelude.{ℕ, Bool, true, false, List, Option, None, Some, ◌+◌, ◌-◌, ◌*◌, ◌^◌, ◌==◌, ◌&&◌, ◌||◌, not, is_some, length, map, nat_le, nat_lt, if◌then◌else◌, slice_get}
use Rattle.std.specs.Option.{option_or, option_map_or}
use Rattle.std.specs.List.{list_all, range_with_len}
use Rattle.qn_base.specs.declared.ids.Rank.{Rank}
use Rattle.qn_base.specs.Members.{is_member}
use Rattle.qn_base.specs.declared.limits.TheConstants.{MOST_EVENTS}
use Rattle.qn_model.specs.declared.configuration.Settings.{Settings}
use Rattle.qn_model.specs.declared.disk.Message.{Message}
use Rattle.qn_model.specs.declared.times.Timing.{Timing}
use Rattle.qn_model.specs.declared.events.Event.{Event}
use Rattle.qn_model.specs.declared.events.Event.TheVariants as event
use Rattle.qn_model.specs.Lines.{is_ascending}
use Rattle.qn_model.specs.Sectors.{is_deadly}
use Rattle.qn_model.specs.Holding.{stop_due}
use Rattle.qn_model.specs.Moments.{Running, advance_of, packets, time}
use Rattle.qn_model.specs.World.{World, node_at, op_at, numbered}

abbrev pub is_between : ℕ → ℕ → ℕ → Bool
is_between low high number = nat_le low number && nat_le number high

-- a rank is configured
abbrev pub is_configured : Settings → ℕ → Bool
is_configured s rank = nat_lt rank (length s.nodes)

-- a clock of a pass: its rank is configured, and its advance is in range
abbrev pub is_clock : Settings → Rank × ℕ → Bool
is_clock s clock = is_configured s clock.0.0 && nat_le clock.1 1000000000000

-- an event is well formed: its numbers are in range, its ranks and members are configured, the clocks of a pass ascend
-- strictly by rank, and a view has a member
unfoldable pub is_well_formed : Settings → Event → Bool
is_well_formed s (event.Pass dt clocks) =
    is_between 1 1000000000 dt && list_all (is_clock s) clocks && is_ascending (map (λ clock. clock.0.0) clocks)
is_well_formed s (event.Boot rank base) = is_configured s rank.0 && nat_le base 1000000000000000
is_well_formed s (event.BootClean rank base) = is_configured s rank.0 && nat_le base 1000000000000000
is_well_formed s (event.Crash rank) = is_configured s rank.0
is_well_formed s (event.Land rank) = is_configured s rank.0
is_well_formed s (event.Done rank) = is_configured s rank.0
is_well_formed s (event.Fail rank) = is_configured s rank.0
is_well_formed s (event.Late rank number) = is_configured s rank.0 && is_between 1 MOST_EVENTS number
is_well_formed s (event.View rank view) =
    is_configured s rank.0 && nat_lt view.id (2 ^ 64) && is_between 1 (2 ^ length s.nodes - 1) view.members.0
is_well_formed s (event.Deliver rank number) = is_configured s rank.0 && nat_lt number (2 ^ 64)
is_well_formed s (event.Device rank agrees) = is_configured s rank.0
is_well_formed s (event.Tick rank) = is_configured s rank.0
is_well_formed s (event.Stopped rank) = is_configured s rank.0
is_well_formed s (event.Unstopped rank) = is_configured s rank.0
is_well_formed s (event.Leave rank) = is_configured s rank.0
is_well_formed s (event.Feed rank) = is_configured s rank.0
is_well_formed s (event.Operator rank message) = is_configured s rank.0

-- whether the node of a rank is running
abbrev pub is_on : Settings → ℕ → World → Bool
is_on s rank w = (node_at s rank w).on

-- a clock may be one per cent off
abbrev pub is_within_bounds : ℕ → ℕ → Bool
is_within_bounds dt advance = is_between (99 * dt) (101 * dt) advance

-- sbd(8), `watchdog`: a node that was fed at a true time still lives at a later one, by a watchdog that may be one per
-- cent slow
abbrev pub outlives : Timing → ℕ → ℕ → Bool
outlives t now fed = nat_le (99 * (now - fed)) (100 * t.watchdog)

-- a node lives through a pass: its clock keeps its bounds, and its watchdog does not end it
abbrev pub passes : Timing → ℕ → ℕ → ℕ → Running → Bool
passes t dt advance now node = if node.on then is_within_bounds dt advance && outlives t (now + dt) node.fed else true

-- rule 1: every named clock is that of a running node, and every running node lives through the pass
abbrev pub may_pass : Settings → Timing → ℕ → List (Rank × ℕ) → World → Bool
may_pass s t dt clocks w =
    list_all (λ clock. is_on s clock.0.0 w) clocks
    && list_all (λ rank. passes t dt (advance_of dt clocks rank) (time w.moments) (node_at s rank w)) (range_with_len 0 (length s.nodes))

-- rule 4: an operation is out and has not landed
abbrev pub may_land : Settings → ℕ → World → Bool
may_land s rank w = is_some (op_at s rank w) && not (is_some (w.took rank))

-- rule 5: the operation that is out has landed; or an operation is out; or a Stop is unanswered
abbrev pub may_be_done : Settings → ℕ → World → Bool
may_be_done s rank w = is_some (op_at s rank w) && is_some (w.took rank)

abbrev pub may_fail : Settings → ℕ → World → Bool
may_fail s rank w = is_some (op_at s rank w)

abbrev pub may_be_stopped : Settings → ℕ → World → Bool
may_be_stopped s rank w = stop_due (node_at s rank w).log

-- rule 6: there is a leftover of that number
abbrev pub may_be_late : ℕ → ℕ → World → Bool
may_be_late rank number w = is_some (numbered (w.left rank) number)

-- rule 8: the packet of that number was sent, and to this rank
abbrev pub may_deliver : Settings → ℕ → ℕ → World → Bool
may_deliver s rank number w = option_map_or (λ sent. sent.to.0 == rank) (slice_get (packets s w.moments) number) false

-- rule 9: a feed was decided since the boot, and at most the feed delay ago
abbrev pub may_feed : Settings → Timing → ℕ → World → Bool
may_feed s t rank w = option_map_or (λ decided. nat_le (time w.moments) (decided + t.feed_delay)) (node_at s rank w).decided false

-- rule 10: the message is deadly, or the mailbox holds no deadly one, or the node is off
abbrev pub may_operate : Settings → ℕ → Message → World → Bool
may_operate s rank message w = is_deadly message || not (is_deadly (w.mailboxes rank)) || not (is_on s rank w)

-- a rule refuses what fails its test
abbrev pub unless : Bool → ℕ → Option ℕ
unless allowed rule = if allowed then None else Some rule

-- rule 3 and then another one: the node is running, and it passes the other rule's test
abbrev pub unless_running : Settings → ℕ → World → Option ℕ → Option ℕ
unless_running s rank w other = option_or (unless (is_on s rank w) 3) other

-- the number of the rule that refuses an event, None where it is allowed. Rule 2: a node that boots is off. Rule 7: the
-- members of a view contain its node.
unfoldable pub refusal : Settings → Timing → Event → World → Option ℕ
refusal s t (event.Pass dt clocks) w = unless (may_pass s t dt clocks w) 1
refusal s t (event.Boot rank base) w = unless (not (is_on s rank.0 w)) 2
refusal s t (event.BootClean rank base) w = unless (not (is_on s rank.0 w)) 2
refusal s t (event.Crash rank) w = unless_running s rank.0 w None
refusal s t (event.Land rank) w = unless_running s rank.0 w (unless (may_land s rank.0 w) 4)
refusal s t (event.Done rank) w = unless_running s rank.0 w (unless (may_be_done s rank.0 w) 5)
refusal s t (event.Fail rank) w = unless_running s rank.0 w (unless (may_fail s rank.0 w) 5)
refusal s t (event.Late rank number) w = unless (may_be_late rank.0 number w) 6
refusal s t (event.View rank view) w = unless_running s rank.0 w (unless (is_member view.members rank.0) 7)
refusal s t (event.Deliver rank number) w = unless_running s rank.0 w (unless (may_deliver s rank.0 number w) 8)
refusal s t (event.Device rank agrees) w = unless_running s rank.0 w None
refusal s t (event.Tick rank) w = unless_running s rank.0 w None
refusal s t (event.Stopped rank) w = unless_running s rank.0 w (unless (may_be_stopped s rank.0 w) 5)
refusal s t (event.Unstopped rank) w = unless_running s rank.0 w (unless (may_be_stopped s rank.0 w) 5)
refusal s t (event.Leave rank) w = unless_running s rank.0 w None
refusal s t (event.Feed rank) w = unless_running s rank.0 w (unless (may_feed s t rank.0 w) 9)
refusal s t (event.Operator rank message) w = unless (may_operate s rank.0 message w) 10

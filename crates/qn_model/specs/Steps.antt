-- The step of the world at each event, its runs, and what an event reports: this project's profile.
use Rattle.std.specs.Prelude.{◌≡◌, ℕ, Bool, true, false, List, [], ◌∷◌, ◌++◌, Option, None, Some, filter, length, if◌then◌else◌, slice_get}
use Rattle.std.specs.Option.{option_map_or}
use Rattle.std.specs.List.{range_with_len}
use Rattle.qn_base.specs.declared.ids.Rank.{Rank}
use Rattle.qn_base.specs.declared.ids.Mask.{Mask}
use Rattle.qn_model.specs.declared.configuration.Settings.{Settings}
use Rattle.qn_model.specs.declared.times.Timing.{Timing}
use Rattle.qn_model.specs.declared.disk.Message.{Message}
use Rattle.qn_model.specs.declared.packets.Packet.{Packet}
use Rattle.qn_model.specs.declared.packets.Packet.TheVariants as packet
use Rattle.qn_model.specs.declared.entries.What.{What}
use Rattle.qn_model.specs.declared.entries.What.TheVariants as what
use Rattle.qn_model.specs.declared.outputs.DiskOp.{DiskOp}
use Rattle.qn_model.specs.declared.outputs.Out.{Out}
use Rattle.qn_model.specs.declared.life.Why.{Why}
use Rattle.qn_model.specs.declared.life.Why.TheVariants.{Down}
use Rattle.qn_model.specs.declared.votes.Answer.{Answer}
use Rattle.qn_model.specs.declared.events.Event.{Event}
use Rattle.qn_model.specs.declared.events.Event.TheVariants as event
use Rattle.qn_model.specs.declared.reports.Report.{Report}
use Rattle.qn_model.specs.Lines.{mask_of}
use Rattle.qn_model.specs.NodeVotes.{answer_with_tie}
use Rattle.qn_model.specs.Unmet.{unmet}
use Rattle.qn_model.specs.NodeOutputs.{newest_outs}
use Rattle.qn_model.specs.Moments.{Moment, Passes, Boots, Adds, Feeds, Ends, Running, tick_of, time, packets, is_holder}
use Rattle.qn_model.specs.World.{World, first_world, put, node_at, op_at, slots_with, mailboxes_with, taken, failed, leftover_at, numbered, without}
use Rattle.qn_model.specs.Rules.{is_well_formed, refusal}

-- the world after one more moment that touches nothing of the disk
abbrev pub happens : Moment → World → World
happens moment w = record w { moments = moment ∷ w.moments }

-- a write of a rank lands
abbrev pub written : ℕ → DiskOp → World → World
written rank op w = record w { slots = slots_with rank op w.slots; mailboxes = mailboxes_with rank op w.mailboxes }

-- the operation of a rank that is out lands
abbrev pub landed : Settings → Timing → ℕ → DiskOp → World → World
landed s t rank op w = record (written rank op w) { took = put w.took rank (Some (taken s t rank op w)) }

-- the operation of a rank is answered by this entry
abbrev pub answered : ℕ → What → World → World
answered rank entry w = record (happens (Adds rank entry) w) { took = put w.took rank None }

-- the present operation of a rank is given up
abbrev pub gives_up : Settings → ℕ → World → World
gives_up s rank w = record w { left = put w.left rank (w.left rank ++ leftover_at s rank w); took = put w.took rank None }

-- an operation fails: a write that did not land is left over
abbrev pub fails : Settings → ℕ → DiskOp → World → World
fails s rank op w = happens (Adds rank (failed op)) (gives_up s rank w)

-- a rank boots: its leftovers are dropped
abbrev pub boots : ℕ → ℕ → Bool → World → World
boots rank base clean w = record (happens (Boots rank base clean) w) { left = put w.left rank []; took = put w.took rank None }

-- the leftover of a rank with that number lands and leaves the list
abbrev pub lands_late : ℕ → ℕ → DiskOp → World → World
lands_late rank number op w = record (written rank op w) { left = put w.left rank (without (w.left rank) number) }

-- sbd(8), `message`: an operator replaces what the mailbox of a rank holds
abbrev pub with_mail : ℕ → Message → World → World
with_mail rank message w = record w { mailboxes = put w.mailboxes rank message }

-- the entry that a packet is to its receiver
abbrev pub entry_of : Packet → What
entry_of (packet.Ask ask) = what.Ask ask
entry_of (packet.Tell tell) = what.Tell tell
entry_of (packet.Hello from) = what.Tick
entry_of (packet.Heard from said standing) = what.Tick
entry_of (packet.Announce from view) = what.Tick
entry_of (packet.Vote agrees) = what.Device agrees

-- the world after an event that is allowed
unfoldable pub step : Settings → Timing → Event → World → World
step s t (event.Pass dt clocks) w = happens (Passes dt clocks) w
step s t (event.Boot rank base) w = boots rank.0 base false w
step s t (event.BootClean rank base) w = boots rank.0 base true w
step s t (event.Crash rank) w = happens (Ends rank.0) (gives_up s rank.0 w)
step s t (event.Land rank) w = option_map_or (λ op. landed s t rank.0 op w) (op_at s rank.0 w) w
step s t (event.Done rank) w = option_map_or (λ entry. answered rank.0 entry w) (w.took rank.0) w
step s t (event.Fail rank) w = option_map_or (λ op. fails s rank.0 op w) (op_at s rank.0 w) w
step s t (event.Late rank number) w = option_map_or (λ op. lands_late rank.0 number op w) (numbered (w.left rank.0) number) w
step s t (event.View rank view) w = happens (Adds rank.0 (what.View view)) w
step s t (event.Deliver rank number) w =
    option_map_or (λ sent. happens (Adds rank.0 (entry_of sent.packet)) w) (slice_get (packets s w.moments) number) w
step s t (event.Device rank agrees) w = happens (Adds rank.0 (what.Device agrees)) w
step s t (event.Tick rank) w = happens (Adds rank.0 what.Tick) w
step s t (event.Stopped rank) w = happens (Adds rank.0 (what.Stopped true)) w
step s t (event.Unstopped rank) w = happens (Adds rank.0 (what.Stopped false)) w
step s t (event.Leave rank) w = happens (Adds rank.0 what.Leave) w
step s t (event.Feed rank) w = happens (Feeds rank.0) w
step s t (event.Operator rank message) w = with_mail rank.0 message w

-- the world after events, of which the newest stands first
unfoldable pub run : Settings → Timing → List Event → World
run s t [] = first_world
run s t (event ∷ earlier) = step s t event (run s t earlier)

-- the world after further events, in order
unfoldable pub run_from : Settings → Timing → World → List Event → World
run_from s t w [] = w
run_from s t w (event ∷ later) = run_from s t (step s t event w) later

-- each of the events, of which the newest stands first, is well formed and allowed in its turn
unfoldable pub AllAllowed : Settings → Timing → List Event → Type 0
AllAllowed s t [] = Unit {0}
AllAllowed s t (event ∷ earlier) =
    (is_well_formed s event ≡ true) × (refusal s t event (run s t earlier) ≡ None) × AllAllowed s t earlier

-- the ranks of the nodes that hold the resource
abbrev pub holders : Settings → World → Mask
holders s w = mask_of (filter (is_holder s w.moments) (range_with_len 0 (length s.nodes)))

-- the rank that an event touches
abbrev pub touched : Event → Option Rank
touched (event.Pass dt clocks) = None
touched (event.Boot rank base) = Some rank
touched (event.BootClean rank base) = Some rank
touched (event.Crash rank) = Some rank
touched (event.Land rank) = Some rank
touched (event.Done rank) = Some rank
touched (event.Fail rank) = Some rank
touched (event.Late rank number) = Some rank
touched (event.View rank view) = Some rank
touched (event.Deliver rank number) = Some rank
touched (event.Device rank agrees) = Some rank
touched (event.Tick rank) = Some rank
touched (event.Stopped rank) = Some rank
touched (event.Unstopped rank) = Some rank
touched (event.Leave rank) = Some rank
touched (event.Feed rank) = Some rank
touched (event.Operator rank message) = Some rank

-- an event hands its node no entry
abbrev pub hands_nothing : Event → Bool
hands_nothing (event.Pass dt clocks) = true
hands_nothing (event.Crash rank) = true
hands_nothing (event.Land rank) = true
hands_nothing (event.Late rank number) = true
hands_nothing (event.Feed rank) = true
hands_nothing (event.Operator rank message) = true
hands_nothing (event.Boot rank base) = false
hands_nothing (event.BootClean rank base) = false
hands_nothing (event.Done rank) = false
hands_nothing (event.Fail rank) = false
hands_nothing (event.View rank view) = false
hands_nothing (event.Deliver rank number) = false
hands_nothing (event.Device rank agrees) = false
hands_nothing (event.Tick rank) = false
hands_nothing (event.Stopped rank) = false
hands_nothing (event.Unstopped rank) = false
hands_nothing (event.Leave rank) = false

-- the outputs of the newest entry of a rank
abbrev pub outs_at_rank : Settings → World → Rank → List Out
outs_at_rank s w rank = newest_outs (node_at s rank.0 w).log

-- what came out of an event, by the world after it
abbrev pub outs_after : Settings → Event → World → List Out
outs_after s event after =
    if hands_nothing event then [] else option_map_or (outs_at_rank s after) (touched event) []

-- the count of a node that is off: that of the empty history
abbrev pub answer_off : Settings → Answer
answer_off s = answer_with_tie s [] 0

-- the count of a node at its present tick, and the first condition that blocks its start
abbrev pub answer_now : Settings → Running → Answer
answer_now s node = if node.on then answer_with_tie s node.log (tick_of node.clock) else answer_off s

abbrev pub why_now : Settings → ℕ → Running → Why
why_now s rank node = if node.on then unmet s rank node.log (tick_of node.clock) else Down

-- what an event reports, by the world after it. Where no node is touched, count and condition are those of a node that
-- is off.
unfoldable pub report : Settings → Event → World → Report
report s event after =
    record {
      time = time after.moments;
      touched = touched event;
      outs = outs_after s event after;
      holders = holders s after;
      answer = option_map_or (λ rank. answer_now s (node_at s rank.0 after)) (touched event) (answer_off s);
      why = option_map_or (λ rank. why_now s rank.0 (node_at s rank.0 after)) (touched event) Down;
    }

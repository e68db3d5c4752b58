-- What is told of an entry that a running node takes in: this project's profile.
--
-- It is a function of where the node stands before and after the entry, of the entry, and of its outputs: the phase, the claim,
-- the view, the release, quorum won and lost, the condition that blocks a start, a reset of another node that is asked for and
-- that was written, a licence by a clean slot, a start and a stop that are asked for, the resource won and lost, and the halt.
-- What an agent or the watchdog answers is in Answers. The rest wants bytes, a clock or a device, and is no part of this: the
-- opening, the sender of a message and a mailbox that cannot be read, feeds that failed, packets that were refused, nodes that
-- are heard or silent, lines that were dropped, and the end.
use Rattle.std.specs.Prelude.{ℕ, Bool, true, false, not, ◌&&◌, ◌==◌, nat_lt, ◌++◌, List, [], ◌∷◌, Option, None, Some, option_and_then, option_map, option_to_list, if◌then◌else◌}
use Rattle.std.specs.Bool.{beq, then_some}
use Rattle.std.specs.Option.{option_map_or}
use Rattle.qn_base.specs.declared.ids.Rank.{Rank}
use Rattle.qn_base.specs.declared.ids.View.{View}
use Rattle.qn_base.specs.Members.{is_member}
use Rattle.qn_model.specs.declared.entries.What.{What}
use Rattle.qn_model.specs.declared.entries.What.TheVariants as what
use Rattle.qn_model.specs.declared.life.Phase.{Phase}
use Rattle.qn_model.specs.declared.life.Phase.TheVariants.{Booting, Up, Leaving, Dying, Gone}
use Rattle.qn_model.specs.declared.life.Why.{Why}
use Rattle.qn_model.specs.declared.life.Why.TheVariants as why
use Rattle.qn_model.specs.declared.outputs.DiskOp.{DiskOp}
use Rattle.qn_model.specs.declared.outputs.DiskOp.TheVariants as disk
use Rattle.qn_model.specs.declared.outputs.HaltKind.{HaltKind}
use Rattle.qn_model.specs.declared.outputs.Out.{Out}
use Rattle.qn_model.specs.declared.outputs.Out.TheVariants as out
use Rattle.qn_model.specs.Licences.{is_clean_slot}
use Rattle.qn_model.specs.Log.{disk_of, has_start, has_stop}
use Rattle.qn_live.specs.declared.standing.Standing.{Standing}
use Rattle.qn_notice.specs.declared.kinds.Event.{Event}
use Rattle.qn_notice.specs.declared.kinds.Event.TheVariants as event

-- the phases in the order of a life, to tell them apart
abbrev pub phase_number : Phase → ℕ
phase_number Booting = 0
phase_number Up = 1
phase_number Leaving = 2
phase_number Dying = 3
phase_number Gone = 4

abbrev pub is_same_phase : Phase → Phase → Bool
is_same_phase first second = phase_number first == phase_number second

-- the conditions in the order in which they are tried, to tell them apart
abbrev pub condition_number : Why → ℕ
condition_number why.Down = 0
condition_number why.Holding = 1
condition_number why.NoView = 2
condition_number why.WaitForAll = 3
condition_number (why.NotQuorate votes quorum) = 4
condition_number (why.NotChosen id) = 5
condition_number (why.HeldBy id) = 6
condition_number (why.Unheard id) = 7
condition_number (why.Unfenced id written left) = 8
condition_number why.Clear = 9

-- the id of the node that a condition names, 0 where it names none
abbrev pub named : Why → ℕ
named why.Down = 0
named why.Holding = 0
named why.NoView = 0
named why.WaitForAll = 0
named (why.NotQuorate votes quorum) = 0
named (why.NotChosen id) = id.0
named (why.HeldBy id) = id.0
named (why.Unheard id) = id.0
named (why.Unfenced id written left) = id.0
named why.Clear = 0

-- a condition says that a reset was written
abbrev pub is_written : Why → Bool
is_written why.Down = false
is_written why.Holding = false
is_written why.NoView = false
is_written why.WaitForAll = false
is_written (why.NotQuorate votes quorum) = false
is_written (why.NotChosen id) = false
is_written (why.HeldBy id) = false
is_written (why.Unheard id) = false
is_written (why.Unfenced id written left) = written
is_written why.Clear = false

-- two conditions are told alike: the votes, and the ticks that remain, are not looked at
abbrev pub is_same_condition : Why → Why → Bool
is_same_condition first second =
    condition_number first == condition_number second && named first == named second && beq (is_written first) (is_written second)

-- a rank, which is below 32, is outside the present view, where there is one
abbrev pub is_outside : Option (ℕ × View) → ℕ → Bool
is_outside present rank = option_map_or (λ installed. nat_lt rank 32 && not (is_member installed.1.members rank)) present false

-- the install number of the present view, 0 without a view
abbrev pub installs : Option (ℕ × View) → ℕ
installs present = option_map_or (λ installed. installed.0) present 0

-- what an entry says: a claim or a reset that was written, or a clean slot of a node outside the view
abbrev pub came : Standing → What → Option Event
came after (what.Claimed ok) = option_and_then (λ number. then_some ok (event.Claimed number)) after.incarnation
came after (what.MailWritten rank ok) = Some (event.FenceWritten rank ok)
came after (what.SlotRead rank seen) = then_some (is_clean_slot seen && is_outside after.view rank.0) (event.Licence rank)
came after what.Begin = None
came after what.BeginClean = None
came after (what.Header seen) = None
came after (what.MailChecked seen) = None
came after (what.Cleared ok) = None
came after (what.MailRead seen) = None
came after (what.View view) = None
came after (what.Ask ask) = None
came after (what.Tell tell) = None
came after (what.Device agrees) = None
came after what.Tick = None
came after (what.Stopped ok) = None
came after what.Leave = None
came after (what.Closed ok) = None

-- another phase
abbrev pub phase_told : Standing → Standing → Option Event
phase_told before after =
    then_some (not (is_same_phase before.phase after.phase)) (event.Phase before.phase after.phase)

-- another view
abbrev pub view_told : Standing → Standing → Option Event
view_told before after =
    option_and_then
    (λ installed. then_some (not (installs before.view == installed.0)) (event.View installed.1 after.answer))
    after.view

-- votequorum(5), "wait_for_all": the release
abbrev pub release_told : Standing → Standing → Option Event
release_told before after = then_some (not before.answer.released && after.answer.released) event.Released

-- whether something is so now, where it was otherwise before
abbrev pub change : Bool → Bool → Option Bool
change false true = Some true
change true false = Some false
change false false = None
change true true = None

-- quorum won or lost
abbrev pub quorum_told : Standing → Standing → Option Event
quorum_told before after =
    option_map
    (λ won. if won then event.QuorumWon after.answer else event.QuorumLost after.answer)
    (change before.answer.quorate after.answer.quorate)

-- the resource won or lost
abbrev pub hold_told : Standing → Standing → Option Event
hold_told before after =
    option_map (λ won. if won then event.HoldWon else event.HoldLost) (change before.holds after.holds)

-- another condition that blocks a start
abbrev pub why_told : Standing → Standing → Option Event
why_told before after = then_some (not (is_same_condition before.why after.why)) (event.Why after.why)

-- sbd(8), `message`: the reset that a disk operation writes
abbrev pub reset_of : DiskOp → Option Rank
reset_of (disk.WriteReset rank) = Some rank
reset_of disk.ReadHeader = None
reset_of (disk.ReadSlot rank) = None
reset_of disk.CheckMail = None
reset_of (disk.WriteClaim number) = None
reset_of disk.WriteClear = None
reset_of disk.ReadMail = None
reset_of (disk.WriteClose number) = None

abbrev pub fence_asked : List Out → Option Event
fence_asked outs = option_map (λ rank. event.FenceAsked rank) (option_and_then reset_of (disk_of outs))

-- the halt among the outputs of an entry
abbrev pub halt_of : List Out → Option HaltKind
halt_of [] = None
halt_of (out.Halt kind ∷ outs) = Some kind
halt_of (other ∷ outs) = halt_of outs

abbrev pub halt_told : List Out → Option Event
halt_told outs = option_map (λ kind. event.Halt kind) (halt_of outs)

-- The events of an entry, in the order in which they are told: what it says, what it changed, what is done next, whether the
-- node holds then, what blocks a start then, and the halt.
unfoldable pub events : Standing → Standing → What → List Out → List Event
events before after entry outs =
    option_to_list (came after entry)
    ++ option_to_list (phase_told before after)
    ++ option_to_list (view_told before after)
    ++ option_to_list (release_told before after)
    ++ option_to_list (quorum_told before after)
    ++ option_to_list (fence_asked outs)
    ++ option_to_list (then_some (has_start outs) event.StartAsked)
    ++ option_to_list (then_some (has_stop outs) event.StopAsked)
    ++ option_to_list (hold_told before after)
    ++ option_to_list (why_told before after)
    ++ option_to_list (halt_told outs)

-- What comes out of an entry, and the log of a history: this project's profile.
use Rattle.std.specs.Prelude.{ℕ, Bool, true, false, List, [], ◌∷◌, ◌++◌, map, filter, length, Option, None, Some, ◌||◌, ◌&&◌, ◌==◌, ◌+◌, not, nat_le, unwrap_or, if◌then◌else◌}
use Rattle.std.specs.Option.{option_map_or}
use Rattle.std.specs.List.{range_with_len}
use Rattle.qn_base.specs.declared.ids.View.{View}
use Rattle.qn_base.specs.declared.ids.Rank.{Rank}
use Rattle.qn_base.specs.Members.{is_member}
use Rattle.qn_model.specs.declared.configuration.Settings.{Settings}
use Rattle.qn_model.specs.declared.packets.Ask.{Ask}
use Rattle.qn_model.specs.declared.packets.Packet.TheVariants as packet
use Rattle.qn_model.specs.declared.disk.Message.{Message}
use Rattle.qn_model.specs.declared.entries.Entry.{Entry}
use Rattle.qn_model.specs.declared.entries.What.{What}
use Rattle.qn_model.specs.declared.entries.What.TheVariants as what
use Rattle.qn_model.specs.declared.outputs.BootCause.{BootCause}
use Rattle.qn_model.specs.declared.outputs.HaltKind.TheVariants as halt
use Rattle.qn_model.specs.declared.outputs.DiskOp.{DiskOp}
use Rattle.qn_model.specs.declared.outputs.DiskOp.TheVariants as disk
use Rattle.qn_model.specs.declared.outputs.Out.{Out}
use Rattle.qn_model.specs.declared.outputs.Out.TheVariants as out
use Rattle.qn_model.specs.declared.life.Why.{Why}
use Rattle.qn_model.specs.declared.votes.Answer.{Answer}
use Rattle.qn_model.specs.Sectors.{is_deadly}
use Rattle.qn_model.specs.Log.{Line, is_answer, is_view, ask_place, begins_clean, incarnation, slot_number, timing, now}
use Rattle.qn_model.specs.Phases.{phase, boot_halt, message_of, deadly_of, in_time, is_live, is_up, is_leaving, is_booting}
use Rattle.qn_model.specs.Holding.{holds, may_stop}
use Rattle.qn_model.specs.NodeVotes.{view, install, released, quorate_with_tie, answer_with_tie, is_in_view, is_present}
use Rattle.qn_model.specs.Hearing.{is_free}
use Rattle.qn_model.specs.Fitting.{read_as}
use Rattle.qn_model.specs.Unmet.{unmet, is_clear, is_given_away}
use Rattle.qn_model.specs.Wanted.{rank_of, boot_op, wanted_with_delay}

-- the output where the test holds
abbrev pub when : Bool → Out → List Out
when true output = output ∷ []
when false output = []

-- the operation as an output
abbrev pub disk_outs : Option DiskOp → List Out
disk_outs None = []
disk_outs (Some op) = out.Disk op ∷ []

-- the output that writes a reset to a rank
abbrev pub resets : Rank → Out
resets rank = out.Disk (disk.WriteReset rank)

-- whether an entry is a step of the boot
abbrev pub is_boot_step : What → Bool
is_boot_step what.Begin = true
is_boot_step what.BeginClean = true
is_boot_step (what.Header seen) = true
is_boot_step (what.SlotRead rank seen) = true
is_boot_step (what.MailChecked seen) = true
is_boot_step (what.Claimed ok) = true
is_boot_step (what.Cleared ok) = true
is_boot_step (what.MailRead seen) = false
is_boot_step (what.MailWritten rank ok) = false
is_boot_step (what.View view) = false
is_boot_step (what.Ask ask) = false
is_boot_step (what.Tell tell) = false
is_boot_step (what.Device agrees) = false
is_boot_step what.Tick = false
is_boot_step (what.Stopped ok) = false
is_boot_step what.Leave = false
is_boot_step (what.Closed ok) = false

abbrev pub is_begin : What → Bool
is_begin what.Begin = true
is_begin what.BeginClean = true
is_begin (what.Header seen) = false
is_begin (what.SlotRead rank seen) = false
is_begin (what.MailChecked seen) = false
is_begin (what.Claimed ok) = false
is_begin (what.Cleared ok) = false
is_begin (what.MailRead seen) = false
is_begin (what.MailWritten rank ok) = false
is_begin (what.View view) = false
is_begin (what.Ask ask) = false
is_begin (what.Tell tell) = false
is_begin (what.Device agrees) = false
is_begin what.Tick = false
is_begin (what.Stopped ok) = false
is_begin what.Leave = false
is_begin (what.Closed ok) = false

-- sbd(8), `watch`: an entry of a node that takes part feeds the watchdog where it is a read of the mailbox
-- in time that gave a message that is not deadly
abbrev pub feeds_on : Option Message → Bool
feeds_on None = false
feeds_on (Some message) = not (is_deadly message)

abbrev pub mail_feeds : ℕ → List Line → What → Bool
mail_feeds tick past entry = feeds_on (message_of entry) && in_time tick past

-- what comes out of an entry while the node boots: of a step that goes on a feed, but at the begin, and
-- the next operation; of one that halts the halt alone
abbrev pub boot_step_outs : ℕ → Bool → ℕ → What → Option BootCause → List Out
boot_step_outs me clean number entry None = when (not (is_begin entry)) out.Feed ++ disk_outs (boot_op me clean number entry)
boot_step_outs me clean number entry (Some cause) = out.Halt (halt.Boot cause) ∷ []

-- the same of any entry, by whether the boot is a clean start and by the incarnation that the last read of a slot gave
abbrev pub boot_outs : Settings → ℕ → Bool → ℕ → What → List Out
boot_outs s me clean number entry =
    if is_boot_step entry then boot_step_outs me clean number entry (boot_halt s entry) else []

-- a Stop: the node holds, it is leaving, not quorate or its view gives the resource away, and no Stop is under way
abbrev pub gives_stop : Settings → ℕ → List Line → Bool
gives_stop s me log =
    holds log && (is_leaving (phase s log) || not (quorate_with_tie s log (now log)) || is_given_away s me log) && may_stop (timing log).loop_ms (now log) log

-- a Start: no condition blocks it
abbrev pub gives_start : Settings → ℕ → List Line → Bool
gives_start s me log = is_clear (unmet s me log (now log))

-- the answer to an Ask of another member under the present view
abbrev pub reply : Settings → ℕ → Bool → List Line → Ask → List Out
reply s me held log ask =
    when (is_present log ask.view && is_member ask.view.members ask.from.0)
    (out.Send ask.from (packet.Tell (record {
      from = rank_of me;
      to = ask.from;
      incarnation = ask.incarnation;
      install = ask.install;
      view = ask.view;
      holds = held;
      released = released s log;
    })))

abbrev pub replies : Settings → ℕ → Bool → List Line → What → List Out
replies s me held log (what.Ask ask) = reply s me held log ask
replies s me held log entry = []

-- an asking moment at a tick: a View, or the loop's time after the asking moment before
abbrev pub is_moment : ℕ → ℕ → What → Option ℕ → Bool
is_moment loop tick entry before = is_view entry || option_map_or (λ moment. nat_le (moment + loop) tick) before false

-- the tick of the last asking moment; asking moments come only while the node is up
unfoldable pub moment : Settings → List Line → Option ℕ
moment s [] = None
moment s (line ∷ past) =
    if is_up (phase s (line ∷ past)) && is_moment (timing past).loop_ms line.tick line.what (moment s past) then Some line.tick
    else moment s past

-- whether the newest entry is an asking moment
abbrev pub is_asking : Settings → List Line → Bool
is_asking s [] = false
is_asking s (line ∷ past) =
    is_up (phase s (line ∷ past)) && is_moment (timing past).loop_ms line.tick line.what (moment s past)

-- whether a rank is asked at an asking moment: another member that is not free, or any other member while
-- the node is not released
abbrev pub is_asked : Settings → ℕ → List Line → ℕ → Bool
is_asked s me log rank =
    is_in_view log rank && not (rank == me) && (not (released s log) || not (is_free log rank))

-- the Ask to a rank under a view
abbrev pub ask_to : ℕ → List Line → View → ℕ → Out
ask_to me log present rank =
    out.Send (rank_of rank) (packet.Ask (record {
      from = rank_of me;
      to = rank_of rank;
      incarnation = unwrap_or (incarnation log) 0;
      install = install log;
      view = present;
    }))

-- the Asks in ascending rank
abbrev pub asks_under : Settings → ℕ → List Line → View → List Out
asks_under s me log present =
    map (ask_to me log present) (filter (is_asked s me log) (range_with_len 0 (length s.nodes)))

abbrev pub asks : Settings → ℕ → List Line → List Out
asks s me log = if is_asking s log then option_map_or (asks_under s me log) (view log) [] else []

-- what comes out of an entry while the node takes part, in this order: Stop, Start, Feed, one Tell, Asks,
-- one disk operation
unfoldable pub acts : Settings → ℕ → List Line → What → Bool → List Out
acts s me log entry fed =
    when (gives_stop s me log) out.Stop ++ when (gives_start s me log) out.Start ++ when fed out.Feed
    ++ replies s me (gives_start s me log || holds log) log entry ++ asks s me log ++ disk_outs (wanted_with_delay s me log)

-- what comes out of an entry while the node takes part: a deadly message halts alone, the end of the close
-- disarms alone
abbrev pub live_outs : Settings → ℕ → List Line → What → Bool → Option Message → List Out
live_outs s me log entry fed (Some message) = out.Halt (halt.Deadly message) ∷ []
live_outs s me log (what.Closed ok) fed None = out.Disarm ∷ []
live_outs s me log entry fed None = acts s me log entry fed

-- what comes out of an entry that was read at a tick; the log has the entry, without its outputs
unfoldable pub outs_at : Settings → ℕ → List Line → ℕ → What → List Line → List Out
outs_at s me past tick entry log =
    if is_booting (phase s past) then boot_outs s me (begins_clean log) (slot_number log) entry
    else (if is_live (phase s past) then live_outs s me log entry (mail_feeds tick past entry) (deadly_of (message_of entry)) else [])

-- the log with an entry as it was read, before its outputs
abbrev pub taken_in : List Line → ℕ → What → List Line
taken_in past tick entry = record { tick = tick; what = entry; asked = (if is_answer entry then ask_place past else 0); outs = [] } ∷ past

-- the log with an entry as it was read, and its outputs
abbrev pub with_read : Settings → ℕ → List Line → ℕ → What → List Line
with_read s me past tick entry =
    record {
      tick = tick;
      what = entry;
      asked = (if is_answer entry then ask_place past else 0);
      outs = outs_at s me past tick entry (taken_in past tick entry);
    } ∷ past

-- the log with one more entry of the history
unfoldable pub with_entry : Settings → ℕ → List Line → Entry → List Line
with_entry s me past entry = with_read s me past entry.tick (read_as s me past entry.what)

-- the log of a history after a log
unfoldable pub log_from : Settings → ℕ → List Line → List Entry → List Line
log_from s me past [] = past
log_from s me past (entry ∷ history) = log_from s me (with_entry s me past entry) history

-- the log of a history
abbrev pub log_of : Settings → ℕ → List Entry → List Line
log_of s me history = log_from s me [] history

-- what came out of the newest entry
abbrev pub newest_outs : List Line → List Out
newest_outs [] = []
newest_outs (line ∷ past) = line.outs

-- what comes out of the last entry of a history
abbrev pub outs_of : Settings → ℕ → List Entry → List Out
outs_of s me history = newest_outs (log_of s me history)

-- the first condition that blocks a start after a history, at a tick
abbrev pub why_of : Settings → ℕ → List Entry → ℕ → Why
why_of s me history tick = unmet s me (log_of s me history) tick

-- the count after a history, at a tick
abbrev pub answer_of : Settings → ℕ → List Entry → ℕ → Answer
answer_of s me history tick = answer_with_tie s (log_of s me history) tick

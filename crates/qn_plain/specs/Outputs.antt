-- What comes out of an entry, by what the history comes to with it.
use Rattle.std.specs.Prelude.{ℕ, Bool, List, [], ◌∷◌, ◌++◌, map, filter, length, Option, None, Some, ◌||◌, ◌&&◌, ◌==◌, ◌+◌, not, nat_le, is_some, option_and_then, unwrap_or, if◌then◌else◌}
use Rattle.std.specs.Option.{option_map, option_map_or, option_or}
use Rattle.std.specs.List.{range_with_len}
use Rattle.qn_base.specs.declared.ids.Rank.{Rank}
use Rattle.qn_base.specs.declared.ids.View.{View}
use Rattle.qn_base.specs.Members.{is_member}
use Rattle.qn_model.specs.declared.configuration.Settings.{Settings}
use Rattle.qn_model.specs.declared.packets.Ask.{Ask}
use Rattle.qn_model.specs.declared.packets.Packet.TheVariants as packet
use Rattle.qn_model.specs.declared.disk.Message.{Message}
use Rattle.qn_model.specs.declared.entries.What.{What}
use Rattle.qn_model.specs.declared.entries.What.TheVariants as what
use Rattle.qn_model.specs.declared.life.Phase.{Phase}
use Rattle.qn_model.specs.declared.outputs.HaltKind.TheVariants as halt
use Rattle.qn_model.specs.declared.outputs.DiskOp.{DiskOp}
use Rattle.qn_model.specs.declared.outputs.DiskOp.TheVariants as disk
use Rattle.qn_model.specs.declared.outputs.Out.{Out}
use Rattle.qn_model.specs.declared.outputs.Out.TheVariants as out
use Rattle.qn_model.specs.Phases.{deadly_of, is_booting, is_leaving, is_live, is_up, message_of}
use Rattle.qn_model.specs.Wanted.{fence_delay, rank_of}
use Rattle.qn_model.specs.NodeOutputs.{boot_outs, disk_outs, feeds_on, when}
use Rattle.qn_plain.specs.declared.past.Past.{Past}
use Rattle.qn_plain.specs.declared.sought.Sought.TheVariants as sought
use Rattle.qn_plain.specs.Lack.{is_nothing, is_quorate_at, is_rank, lack_at}
use Rattle.qn_plain.specs.Life.{stops_again}
use Rattle.qn_plain.specs.Past.{is_in, is_shown}
use Rattle.qn_plain.specs.Peer.{peer_at}
use Rattle.qn_plain.specs.Sought.{chosen_at, is_given_away_at, least_sought}

-- the own mailbox is due
abbrev pub is_mail_due_at : ℕ → Past → Bool
is_mail_due_at tick past = nat_le (past.life.mail_tick + past.life.timing.loop_ms) tick

-- whether the node may fence
abbrev pub may_fence_at : Settings → ℕ → ℕ → Past → Bool
may_fence_at s me tick past =
    is_up past.life.phase && is_quorate_at s tick past && is_rank me (chosen_at s me tick past)

-- whether the fence delay of a rank has passed since the last view
abbrev pub is_delay_over_at : Settings → ℕ → ℕ → Past → Bool
is_delay_over_at s rank tick past = nat_le (past.votes.view_tick + fence_delay s rank) tick

-- the least rank that is left to reset, once its fence delay is over
abbrev pub to_reset_at : Settings → ℕ → ℕ → Past → Option Rank
to_reset_at s me tick past =
    option_and_then (λ rank. if is_delay_over_at s rank.0 tick past then Some rank else None) (least_sought s sought.Unreset me tick past)

-- the next operation of the fencing
abbrev pub fencing_op_at : Settings → ℕ → ℕ → Past → Option DiskOp
fencing_op_at s me tick past =
    option_or (option_map (λ rank. disk.ReadSlot rank) (least_sought s sought.Unread me tick past)) (option_map (λ rank. disk.WriteReset rank) (to_reset_at s me tick past))

-- the operation that marks the own slot as clean
abbrev pub close_op_of : Past → Option DiskOp
close_op_of past = option_map (λ number. disk.WriteClose number) past.life.claimed

-- the next operation, where none is out
abbrev pub wanted_at : Settings → ℕ → ℕ → Past → Option DiskOp
wanted_at s me tick past =
    if is_some past.life.op then None
    else (if is_mail_due_at tick past then Some disk.ReadMail
    else (if is_leaving past.life.phase && not past.life.holds then close_op_of past
    else (if may_fence_at s me tick past then fencing_op_at s me tick past else None)))

-- whether a Stop comes out
abbrev pub gives_stop_at : Settings → ℕ → ℕ → Past → Bool
gives_stop_at s me tick past =
    past.life.holds && (is_leaving past.life.phase || not (is_quorate_at s tick past) || is_given_away_at s me tick past) && stops_again past.life.stopping past.life.timing.loop_ms tick

-- whether a Start comes out
abbrev pub gives_start_at : Settings → ℕ → ℕ → Past → Bool
gives_start_at s me tick past = is_nothing (lack_at s me tick past)

-- the answer to an Ask
abbrev pub tell_to : ℕ → Bool → Past → Ask → Out
tell_to me held past ask =
    out.Send ask.from (packet.Tell (record {
      from = rank_of me;
      to = ask.from;
      incarnation = ask.incarnation;
      install = ask.install;
      view = ask.view;
      holds = held;
      released = past.votes.released;
    }))

-- the answer to an Ask of another member under the present view
abbrev pub reply_to : ℕ → Bool → Past → Ask → List Out
reply_to me held past ask =
    when (is_shown past.votes.view ask.view && is_member ask.view.members ask.from.0) (tell_to me held past ask)

abbrev pub replies_to : ℕ → Bool → Past → What → List Out
replies_to me held past (what.Ask ask) = reply_to me held past ask
replies_to me held past entry = []

-- whether a rank is asked at an asking moment
abbrev pub is_asked_of : ℕ → Past → ℕ → Bool
is_asked_of me past rank =
    is_in past.votes.view rank && not (rank == me) && (not past.votes.released || not (peer_at past.peers rank).free)

-- the Ask to a rank
abbrev pub ask_of : ℕ → Past → View → ℕ → Out
ask_of me past present rank =
    out.Send (rank_of rank) (packet.Ask (record {
      from = rank_of me;
      to = rank_of rank;
      incarnation = unwrap_or past.life.claimed 0;
      install = past.installs;
      view = present;
    }))

-- the Asks to so many ranks from one on
abbrev pub asks_from : ℕ → Past → View → ℕ → ℕ → List Out
asks_from me past present from count = map (ask_of me past present) (filter (is_asked_of me past) (range_with_len from count))

abbrev pub asks_at_entry : Settings → ℕ → Past → List Out
asks_at_entry s me past =
    if past.life.asks then option_map_or (λ present. asks_from me past present 0 (length s.nodes)) past.votes.view [] else []

-- what comes out of an entry while the node takes part
abbrev pub acts_at : Settings → ℕ → ℕ → Past → What → Bool → List Out
acts_at s me tick past entry fed =
    when (gives_stop_at s me tick past) out.Stop ++ when (gives_start_at s me tick past) out.Start ++ when fed out.Feed
    ++ replies_to me (gives_start_at s me tick past || past.life.holds) past entry ++ asks_at_entry s me past ++ disk_outs (wanted_at s me tick past)

abbrev pub live_outs_at : Settings → ℕ → ℕ → Past → What → Bool → Option Message → List Out
live_outs_at s me tick past entry fed (Some message) = out.Halt (halt.Deadly message) ∷ []
live_outs_at s me tick past (what.Closed ok) fed None = out.Disarm ∷ []
live_outs_at s me tick past entry fed None = acts_at s me tick past entry fed

-- what comes out of an entry as it was read, by the phase before it and whether it is in time
abbrev pub outs_after : Settings → ℕ → Phase → Bool → ℕ → What → Past → List Out
outs_after s me before timely tick entry past =
    if is_booting before then boot_outs s me past.life.clean past.life.slot_number entry
    else (if is_live before then live_outs_at s me tick past entry (feeds_on (message_of entry) && timely) (deadly_of (message_of entry)) else [])

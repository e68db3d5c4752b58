-- Each packet that an entry sends is an Ask or a Tell.
use Rattle.std.proofs.Common.{◌≡◌, ℕ, Bool, true, false, ◌||◌, List, [], ◌∷◌, ◌++◌, Option, None, Some, filter, length, map, not, if◌then◌else◌, refl}
use Rattle.std.specs.List.{All, Contains, range_with_len}
use Rattle.std.specs.Option.{option_map_or}
use Rattle.std.proofs.lemmas.List.Elements.{All-append, All-cons, All-contains, All-map, All-nil}
use Rattle.qn_base.specs.declared.ids.Rank.{Rank}
use Rattle.qn_base.specs.declared.ids.View.{View}
use Rattle.qn_model.specs.declared.configuration.Settings.{Settings}
use Rattle.qn_model.specs.declared.disk.Message.{Message}
use Rattle.qn_model.specs.declared.entries.What.{What}
use Rattle.qn_model.specs.declared.entries.What.TheVariants as what
use Rattle.qn_model.specs.declared.outputs.BootCause.{BootCause}
use Rattle.qn_model.specs.declared.outputs.DiskOp.{DiskOp}
use Rattle.qn_model.specs.declared.outputs.Out.{Out}
use Rattle.qn_model.specs.declared.outputs.Out.TheVariants as out
use Rattle.qn_model.specs.declared.packets.Packet.{Packet}
use Rattle.qn_model.specs.Holding.{holds}
use Rattle.qn_model.specs.Log.{Line, begins_clean, slot_number}
use Rattle.qn_model.specs.NodeOutputs.{acts, ask_to, asks, boot_step_outs, disk_outs, gives_start, gives_stop, is_asked, is_asking, is_begin, is_boot_step, live_outs, mail_feeds, newest_outs, outs_at, replies, taken_in, when, with_read}
use Rattle.qn_model.specs.NodeVotes.{view}
use Rattle.qn_model.specs.Phases.{boot_halt, deadly_of, is_booting, is_live, message_of, phase}
use Rattle.qn_model.specs.Wanted.{boot_op, wanted_with_delay}
use Rattle.qn_joined.specs.Joints.{counts, packet_in_out}

-- an output sends nothing, or a packet that counts
abbrev Counts : Out → Type 0
Counts o = option_map_or (λ p. counts (Some p)) (packet_in_out o) true ≡ true

one_alone : (o : Out) → Counts o → All Counts (o ∷ [])
one_alone o is = All-cons Counts o [] is (All-nil Counts)

one_when : (test : Bool) (o : Out) → Counts o → All Counts (when test o)
one_when true o is = one_alone o is
one_when false o is = All-nil Counts

of_disk : (op : Option DiskOp) → All Counts (disk_outs op)
of_disk None = All-nil Counts
of_disk (Some op) = one_alone (out.Disk op) refl

of_asked : (me : ℕ) (log : List Line) (present : View) (ranks : List ℕ) → All Counts (map (ask_to me log present) ranks)
of_asked me log present ranks = All-map Counts (ask_to me log present) ranks (λ k d below. refl)

of_asks : (me : ℕ) (log : List Line) (ranks : View → List ℕ) (asking : Bool) (present : Option View)
    → All Counts (if asking then option_map_or (λ own. map (ask_to me log own) (ranks own)) present [] else [])
of_asks me log ranks true None = All-nil Counts
of_asks me log ranks true (Some own) = of_asked me log own (ranks own)
of_asks me log ranks false present = All-nil Counts

of_replies : (s : Settings) (me : ℕ) (held : Bool) (log : List Line) (entry : What) → All Counts (replies s me held log entry)
of_replies s me held log (what.Ask ask) = one_when _ _ refl
of_replies s me held log what.Begin = All-nil Counts
of_replies s me held log what.BeginClean = All-nil Counts
of_replies s me held log (what.Header seen) = All-nil Counts
of_replies s me held log (what.SlotRead rank seen) = All-nil Counts
of_replies s me held log (what.MailChecked seen) = All-nil Counts
of_replies s me held log (what.Claimed ok) = All-nil Counts
of_replies s me held log (what.Cleared ok) = All-nil Counts
of_replies s me held log (what.MailRead seen) = All-nil Counts
of_replies s me held log (what.MailWritten rank ok) = All-nil Counts
of_replies s me held log (what.View own) = All-nil Counts
of_replies s me held log (what.Tell tell) = All-nil Counts
of_replies s me held log (what.Device agrees) = All-nil Counts
of_replies s me held log what.Tick = All-nil Counts
of_replies s me held log (what.Stopped ok) = All-nil Counts
of_replies s me held log what.Leave = All-nil Counts
of_replies s me held log (what.Closed ok) = All-nil Counts

joined : (one more : List Out) → All Counts one → All Counts more → All Counts (one ++ more)
joined one more first second = All-append Counts one more first second

of_acts : (s : Settings) (me : ℕ) (log : List Line) (entry : What) (fed : Bool) → All Counts (acts s me log entry fed)
unfolding acts
of_acts s me log entry fed =
    six_joined (when (gives_stop s me log) out.Stop) (when (gives_start s me log) out.Start) (when fed out.Feed)
    (replies s me (gives_start s me log || holds log) log entry) (asks s me log) (disk_outs (wanted_with_delay s me log))
    (one_when (gives_stop s me log) out.Stop refl) (one_when (gives_start s me log) out.Start refl) (one_when fed out.Feed refl)
    (of_replies s me (gives_start s me log || holds log) log entry)
    (of_asks me log (λ own. filter (is_asked s me log) (range_with_len 0 (length s.nodes))) (is_asking s log) (view log))
    (of_disk (wanted_with_delay s me log))
  where
    six_joined : (stop start feed tell ask op : List Out) → All Counts stop → All Counts start → All Counts feed → All Counts tell → All Counts ask → All Counts op
        → All Counts (stop ++ start ++ feed ++ tell ++ ask ++ op)
    six_joined stop start feed tell ask op one two three four five six =
        joined (stop ++ start ++ feed ++ tell ++ ask) op
        (joined (stop ++ start ++ feed ++ tell) ask
        (joined (stop ++ start ++ feed) tell (joined (stop ++ start) feed (joined stop start one two) three) four) five) six

of_live : (s : Settings) (me : ℕ) (log : List Line) (entry : What) (fed : Bool) (deadly : Option Message) → All Counts (live_outs s me log entry fed deadly)
of_live s me log entry fed (Some message) = one_alone _ refl
of_live s me log (what.Closed ok) fed None = one_alone _ refl
of_live s me log what.Begin fed None = of_acts s me log what.Begin fed
of_live s me log what.BeginClean fed None = of_acts s me log what.BeginClean fed
of_live s me log (what.Header seen) fed None = of_acts s me log (what.Header seen) fed
of_live s me log (what.SlotRead rank seen) fed None = of_acts s me log (what.SlotRead rank seen) fed
of_live s me log (what.MailChecked seen) fed None = of_acts s me log (what.MailChecked seen) fed
of_live s me log (what.Claimed ok) fed None = of_acts s me log (what.Claimed ok) fed
of_live s me log (what.Cleared ok) fed None = of_acts s me log (what.Cleared ok) fed
of_live s me log (what.MailRead seen) fed None = of_acts s me log (what.MailRead seen) fed
of_live s me log (what.MailWritten rank ok) fed None = of_acts s me log (what.MailWritten rank ok) fed
of_live s me log (what.View own) fed None = of_acts s me log (what.View own) fed
of_live s me log (what.Ask ask) fed None = of_acts s me log (what.Ask ask) fed
of_live s me log (what.Tell tell) fed None = of_acts s me log (what.Tell tell) fed
of_live s me log (what.Device agrees) fed None = of_acts s me log (what.Device agrees) fed
of_live s me log what.Tick fed None = of_acts s me log what.Tick fed
of_live s me log (what.Stopped ok) fed None = of_acts s me log (what.Stopped ok) fed
of_live s me log what.Leave fed None = of_acts s me log what.Leave fed

of_boot : (me : ℕ) (clean : Bool) (number : ℕ) (entry : What) (halted : Option BootCause) → All Counts (boot_step_outs me clean number entry halted)
of_boot me clean number entry None =
    joined (when (not (is_begin entry)) out.Feed) (disk_outs (boot_op me clean number entry)) (one_when (not (is_begin entry)) out.Feed refl) (of_disk (boot_op me clean number entry))
of_boot me clean number entry (Some cause) = one_alone _ refl

of_entry : (s : Settings) (me : ℕ) (past : List Line) (tick : ℕ) (entry : What) (log : List Line) → All Counts (outs_at s me past tick entry log)
unfolding outs_at
of_entry s me past tick entry log = by_phase (is_booting (phase s past)) (is_live (phase s past)) (is_boot_step entry)
  where
    by_phase : (booting live step : Bool)
        → All Counts
        (if booting then (if step then boot_step_outs me (begins_clean log) (slot_number log) entry (boot_halt s entry) else [])
        else (if live then live_outs s me log entry (mail_feeds tick past entry) (deadly_of (message_of entry)) else []))
    by_phase true live true = of_boot me (begins_clean log) (slot_number log) entry (boot_halt s entry)
    by_phase true live false = All-nil Counts
    by_phase false true step = of_live s me log entry (mail_feeds tick past entry) (deadly_of (message_of entry))
    by_phase false false step = All-nil Counts

-- what the newest entry sends counts
pub sends_count : (s : Settings) (me : ℕ) (past : List Line) (tick : ℕ) (entry : What) (to : Rank) (p : Packet)
    → Contains (newest_outs (with_read s me past tick entry)) (out.Send to p) → counts (Some p) ≡ true
sends_count s me past tick entry to p sent =
    All-contains Counts (newest_outs (with_read s me past tick entry)) (out.Send to p) (of_entry s me past tick entry (taken_in past tick entry)) sent

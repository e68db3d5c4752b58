-- What comes out of an entry: a Halt or a Disarm stands alone, and nothing that comes out is a Hello or an Announce.
use Rattle.std.proofs.Common.{◌≡◌, ℕ, Bool, true, false, not, ◌||◌, List, [], ◌∷◌, ◌++◌, map, filter, length, Option, None, Some, if◌then◌else◌, refl, ◌∙◌}
use Rattle.std.specs.List.{list_all, range_with_len}
use Rattle.std.specs.Option.{option_map_or}
use Rattle.std.proofs.lemmas.List.Folds.{list_all-append}
use Rattle.qn_base.specs.declared.ids.View.{View}
use Rattle.qn_model.specs.declared.configuration.Settings.{Settings}
use Rattle.qn_model.specs.declared.packets.Packet.TheVariants as packet
use Rattle.qn_model.specs.declared.disk.Message.{Message}
use Rattle.qn_model.specs.declared.entries.Entry.{Entry}
use Rattle.qn_model.specs.declared.entries.What.{What}
use Rattle.qn_model.specs.declared.entries.What.TheVariants as what
use Rattle.qn_model.specs.declared.outputs.BootCause.{BootCause}
use Rattle.qn_model.specs.declared.outputs.DiskOp.{DiskOp}
use Rattle.qn_model.specs.declared.outputs.HaltKind.TheVariants as halt
use Rattle.qn_model.specs.declared.outputs.Out.{Out}
use Rattle.qn_model.specs.declared.outputs.Out.TheVariants as out
use Rattle.qn_model.specs.Log.{Line, begins_clean, slot_number}
use Rattle.qn_model.specs.Phases.{boot_halt, deadly_of, is_booting, is_live, message_of, phase}
use Rattle.qn_model.specs.Holding.{holds}
use Rattle.qn_model.specs.NodeVotes.{view}
use Rattle.qn_model.specs.Fitting.{read_as}
use Rattle.qn_model.specs.Wanted.{boot_op, wanted_with_delay}
use Rattle.qn_model.specs.NodeOutputs.{acts, ask_to, asks, asks_under, boot_outs, boot_step_outs, disk_outs, gives_start, gives_stop, is_asked, is_asking, is_begin, is_boot_step, live_outs, mail_feeds, newest_outs, outs_at, replies, taken_in, when, with_entry}

-- an output that ends nothing; a packet is an Ask or a Tell
abbrev pub is_act : Out → Bool
is_act out.Stop = true
is_act out.Start = true
is_act out.Feed = true
is_act (out.Disk op) = true
is_act (out.Send to (packet.Ask ask)) = true
is_act (out.Send to (packet.Tell tell)) = true
is_act (out.Send to (packet.Hello from)) = false
is_act (out.Send to (packet.Heard from said standing)) = false
is_act (out.Send to (packet.Announce from view)) = false
is_act (out.Send to (packet.Vote agrees)) = false
is_act out.Disarm = false
is_act (out.Halt kind) = false

-- the outputs of an entry, as it was read
pub data Comes (s : Settings) (entry : What) : List Out → Type 0 where
  Halts : (cause : BootCause) → boot_halt s entry ≡ Some cause → Comes s entry (out.Halt (halt.Boot cause) ∷ [])
  Dies : (deadly : Message) → Comes s entry (out.Halt (halt.Deadly deadly) ∷ [])
  Leaves : Comes s entry (out.Disarm ∷ [])
  Acts : (outs : List Out) → list_all is_act outs ≡ true → Comes s entry outs

all_append : (first second : List Out) → list_all is_act first ≡ true → list_all is_act second ≡ true → list_all is_act (first ++ second) ≡ true
all_append first second one other = list_all-append is_act first second ∙ rw (one, other) refl

all_when : (test : Bool) (o : Out) → is_act o ≡ true → list_all is_act (when test o) ≡ true
all_when true o is = rw is refl
all_when false o is = refl

all_disk : (op : Option DiskOp) → list_all is_act (disk_outs op) ≡ true
all_disk None = refl
all_disk (Some op) = refl

all_replies : (s : Settings) (me : ℕ) (held : Bool) (log : List Line) (entry : What) → list_all is_act (replies s me held log entry) ≡ true
all_replies s me held log (what.Ask ask) = all_when _ _ refl
all_replies s me held log entry = refl

all_map : (me : ℕ) (log : List Line) (present : View) (ranks : List ℕ) → list_all is_act (map (ask_to me log present) ranks) ≡ true
all_map me log present [] = refl
all_map me log present (rank ∷ ranks) = all_map me log present ranks

all_asks : (s : Settings) (me : ℕ) (log : List Line) → list_all is_act (asks s me log) ≡ true
all_asks s me log =
    by_test (is_asking s log) (view log)
  where
    by_test : (asking : Bool) (present : Option View) → list_all is_act (if asking then option_map_or (asks_under s me log) present [] else []) ≡ true
    by_test true (Some present) = all_map me log present (filter (is_asked s me log) (range_with_len 0 (length s.nodes)))
    by_test true None = refl
    by_test false present = refl

all_acts : (s : Settings) (me : ℕ) (log : List Line) (entry : What) (fed : Bool) → list_all is_act (acts s me log entry fed) ≡ true
unfolding acts
all_acts s me log entry fed =
    let stop = when (gives_stop s me log) out.Stop in
    let start = when (gives_start s me log) out.Start in
    let feed = when fed out.Feed in
    let tells = replies s me (gives_start s me log || holds log) log entry in
    let asked = asks s me log in
    let op = disk_outs (wanted_with_delay s me log) in
    all_append (stop ++ start ++ feed ++ tells ++ asked) op
    (all_append (stop ++ start ++ feed ++ tells) asked
    (all_append (stop ++ start ++ feed) tells
    (all_append (stop ++ start) feed
    (all_append stop start (all_when (gives_stop s me log) out.Stop refl) (all_when (gives_start s me log) out.Start refl))
    (all_when fed out.Feed refl))
    (all_replies s me (gives_start s me log || holds log) log entry))
    (all_asks s me log))
    (all_disk (wanted_with_delay s me log))

boot_comes : (s : Settings) (me : ℕ) (clean : Bool) (number : ℕ) (entry : What) (step : Bool) (stopped : Option BootCause) → boot_halt s entry ≡ stopped → Comes s entry (if step then boot_step_outs me clean number entry stopped else [])
boot_comes s me clean number entry true None is =
    Acts (when (not (is_begin entry)) out.Feed ++ disk_outs (boot_op me clean number entry)) (all_append (when (not (is_begin entry)) out.Feed) (disk_outs (boot_op me clean number entry)) (all_when (not (is_begin entry)) out.Feed refl) (all_disk (boot_op me clean number entry)))
boot_comes s me clean number entry true (Some cause) is = Halts cause is
boot_comes s me clean number entry false stopped is = Acts [] refl

live_comes : (s : Settings) (me : ℕ) (log : List Line) (entry : What) (fed : Bool) (deadly : Option Message) → Comes s entry (live_outs s me log entry fed deadly)
live_comes s me log entry fed (Some deadly) = Dies deadly
live_comes s me log (what.Closed ok) fed None = Leaves
live_comes s me log entry fed None = Acts (acts s me log entry fed) (all_acts s me log entry fed)

outs_come : (s : Settings) (me : ℕ) (past : List Line) (tick : ℕ) (entry : What) (log : List Line) → Comes s entry (outs_at s me past tick entry log)
unfolding outs_at
outs_come s me past tick entry log =
    by_phase (is_booting (phase s past)) (is_live (phase s past))
  where
    by_phase : (booting live : Bool) → Comes s entry (if booting then boot_outs s me (begins_clean log) (slot_number log) entry else (if live then live_outs s me log entry (mail_feeds tick past entry) (deadly_of (message_of entry)) else []))
    by_phase true live = boot_comes s me (begins_clean log) (slot_number log) entry (is_boot_step entry) (boot_halt s entry) refl
    by_phase false true = live_comes s me log entry (mail_feeds tick past entry) (deadly_of (message_of entry))
    by_phase false false = Acts [] refl

pub entry_comes : (s : Settings) (me : ℕ) (log : List Line) (entry : Entry) → Comes s (read_as s me log entry.what) (newest_outs (with_entry s me log entry))
unfolding with_entry
entry_comes s me log entry =
    outs_come s me log entry.tick (read_as s me log entry.what) (taken_in log entry.tick (read_as s me log entry.what))

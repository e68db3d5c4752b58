-- An entry gives one Stop at most, and it comes first.
use Rattle.std.proofs.Common.{◌≡◌, ◌⊎◌, inl, inr, ℕ, Bool, true, false, not, ◌||◌, List, [], ◌∷◌, ◌++◌, Option, None, Some, filter, length, map, if◌then◌else◌, refl, sym, ap, subst}
use Rattle.std.specs.List.{range_with_len}
use Rattle.std.specs.Option.{option_map_or}
use Rattle.std.proofs.lemmas.Bool.{false≢true}
use Rattle.qn_base.specs.declared.ids.View.{View}
use Rattle.qn_model.specs.declared.configuration.Settings.{Settings}
use Rattle.qn_model.specs.declared.disk.Message.{Message}
use Rattle.qn_model.specs.declared.entries.Entry.{Entry}
use Rattle.qn_model.specs.declared.entries.What.{What}
use Rattle.qn_model.specs.declared.entries.What.TheVariants as what
use Rattle.qn_model.specs.declared.outputs.BootCause.{BootCause}
use Rattle.qn_model.specs.declared.outputs.DiskOp.{DiskOp}
use Rattle.qn_model.specs.declared.outputs.Out.{Out}
use Rattle.qn_model.specs.declared.outputs.Out.TheVariants as out
use Rattle.qn_model.specs.Fitting.{read_as}
use Rattle.qn_model.specs.Holding.{holds}
use Rattle.qn_model.specs.Log.{Line, begins_clean, has_stop, slot_number}
use Rattle.qn_model.specs.NodeOutputs.{acts, ask_to, asks, boot_step_outs, disk_outs, gives_start, gives_stop, is_asked, is_asking, is_begin, is_boot_step, live_outs, mail_feeds, newest_outs, outs_at, replies, taken_in, when, with_entry}
use Rattle.qn_model.specs.NodeVotes.{view}
use Rattle.qn_model.specs.Phases.{boot_halt, deadly_of, is_booting, is_live, message_of, phase}
use Rattle.qn_model.specs.Wanted.{boot_op, wanted_with_delay}

-- no Stop is among these
abbrev pub IsStopless : List Out → Type 0
IsStopless outs = has_stop outs ≡ false

-- no Stop, or one that comes first
abbrev pub OneStop : List Out → Type 0
OneStop outs = IsStopless outs ⊎ ((rest : List Out) × (outs ≡ out.Stop ∷ rest) × IsStopless rest)

none_joined : (one more : List Out) → IsStopless one → IsStopless more → IsStopless (one ++ more)
none_joined [] more first second = second
none_joined (out.Stop ∷ one) more first second = absurd (false≢true (sym first))
none_joined (out.Start ∷ one) more first second = none_joined one more first second
none_joined (out.Feed ∷ one) more first second = none_joined one more first second
none_joined (out.Send to packet ∷ one) more first second = none_joined one more first second
none_joined (out.Disk op ∷ one) more first second = none_joined one more first second
none_joined (out.Disarm ∷ one) more first second = none_joined one more first second
none_joined (out.Halt kind ∷ one) more first second = none_joined one more first second

none_when : (test : Bool) (o : Out) → IsStopless (o ∷ []) → IsStopless (when test o)
none_when true o none = none
none_when false o none = refl

none_of_disk : (op : Option DiskOp) → IsStopless (disk_outs op)
none_of_disk None = refl
none_of_disk (Some op) = refl

none_asked : (me : ℕ) (log : List Line) (present : View) (ranks : List ℕ) → IsStopless (map (ask_to me log present) ranks)
none_asked me log present [] = refl
none_asked me log present (rank ∷ ranks) = none_asked me log present ranks

none_asking : (me : ℕ) (log : List Line) (ranks : View → List ℕ) (asking : Bool) (present : Option View)
    → IsStopless (if asking then option_map_or (λ own. map (ask_to me log own) (ranks own)) present [] else [])
none_asking me log ranks true None = refl
none_asking me log ranks true (Some own) = none_asked me log own (ranks own)
none_asking me log ranks false present = refl

none_replied : (s : Settings) (me : ℕ) (held : Bool) (log : List Line) (entry : What) → IsStopless (replies s me held log entry)
none_replied s me held log (what.Ask ask) = none_when _ _ refl
none_replied s me held log what.Begin = refl
none_replied s me held log what.BeginClean = refl
none_replied s me held log (what.Header seen) = refl
none_replied s me held log (what.SlotRead rank seen) = refl
none_replied s me held log (what.MailChecked seen) = refl
none_replied s me held log (what.Claimed ok) = refl
none_replied s me held log (what.Cleared ok) = refl
none_replied s me held log (what.MailRead seen) = refl
none_replied s me held log (what.MailWritten rank ok) = refl
none_replied s me held log (what.View own) = refl
none_replied s me held log (what.Tell tell) = refl
none_replied s me held log (what.Device agrees) = refl
none_replied s me held log what.Tick = refl
none_replied s me held log (what.Stopped ok) = refl
none_replied s me held log what.Leave = refl
none_replied s me held log (what.Closed ok) = refl

stop_alone : (test : Bool) → OneStop (when test out.Stop)
stop_alone true = inr ([], refl, refl)
stop_alone false = inl refl

once_joined : (one more : List Out) → OneStop one → IsStopless more → OneStop (one ++ more)
once_joined one more (inl none) second = inl (none_joined one more none second)
once_joined one more (inr (rest, first, none)) second = inr (rest ++ more, ap (λ outs. outs ++ more) first, none_joined rest more none second)

six_joined : (stop start feed tell ask op : List Out) → OneStop stop → IsStopless start → IsStopless feed → IsStopless tell → IsStopless ask → IsStopless op
    → OneStop (stop ++ start ++ feed ++ tell ++ ask ++ op)
six_joined stop start feed tell ask op one two three four five six =
    once_joined (stop ++ start ++ feed ++ tell ++ ask) op
    (once_joined (stop ++ start ++ feed ++ tell) ask
    (once_joined (stop ++ start ++ feed) tell (once_joined (stop ++ start) feed (once_joined stop start one two) three) four) five) six

acts_stop_once : (s : Settings) (me : ℕ) (log : List Line) (entry : What) (fed : Bool) → OneStop (acts s me log entry fed)
unfolding acts
acts_stop_once s me log entry fed =
    six_joined (when (gives_stop s me log) out.Stop) (when (gives_start s me log) out.Start) (when fed out.Feed)
    (replies s me (gives_start s me log || holds log) log entry) (asks s me log) (disk_outs (wanted_with_delay s me log))
    (stop_alone (gives_stop s me log)) (none_when (gives_start s me log) out.Start refl) (none_when fed out.Feed refl)
    (none_replied s me (gives_start s me log || holds log) log entry)
    (none_asking me log (λ own. filter (is_asked s me log) (range_with_len 0 (length s.nodes))) (is_asking s log) (view log))
    (none_of_disk (wanted_with_delay s me log))

live_stops_once : (s : Settings) (me : ℕ) (log : List Line) (entry : What) (fed : Bool) (deadly : Option Message) → OneStop (live_outs s me log entry fed deadly)
live_stops_once s me log entry fed (Some message) = inl refl
live_stops_once s me log (what.Closed ok) fed None = inl refl
live_stops_once s me log what.Begin fed None = acts_stop_once s me log what.Begin fed
live_stops_once s me log what.BeginClean fed None = acts_stop_once s me log what.BeginClean fed
live_stops_once s me log (what.Header seen) fed None = acts_stop_once s me log (what.Header seen) fed
live_stops_once s me log (what.SlotRead rank seen) fed None = acts_stop_once s me log (what.SlotRead rank seen) fed
live_stops_once s me log (what.MailChecked seen) fed None = acts_stop_once s me log (what.MailChecked seen) fed
live_stops_once s me log (what.Claimed ok) fed None = acts_stop_once s me log (what.Claimed ok) fed
live_stops_once s me log (what.Cleared ok) fed None = acts_stop_once s me log (what.Cleared ok) fed
live_stops_once s me log (what.MailRead seen) fed None = acts_stop_once s me log (what.MailRead seen) fed
live_stops_once s me log (what.MailWritten rank ok) fed None = acts_stop_once s me log (what.MailWritten rank ok) fed
live_stops_once s me log (what.View own) fed None = acts_stop_once s me log (what.View own) fed
live_stops_once s me log (what.Ask ask) fed None = acts_stop_once s me log (what.Ask ask) fed
live_stops_once s me log (what.Tell tell) fed None = acts_stop_once s me log (what.Tell tell) fed
live_stops_once s me log (what.Device agrees) fed None = acts_stop_once s me log (what.Device agrees) fed
live_stops_once s me log what.Tick fed None = acts_stop_once s me log what.Tick fed
live_stops_once s me log (what.Stopped ok) fed None = acts_stop_once s me log (what.Stopped ok) fed
live_stops_once s me log what.Leave fed None = acts_stop_once s me log what.Leave fed

boot_stops_never : (me : ℕ) (clean : Bool) (number : ℕ) (entry : What) (halted : Option BootCause) → IsStopless (boot_step_outs me clean number entry halted)
boot_stops_never me clean number entry None =
    none_joined (when (not (is_begin entry)) out.Feed) (disk_outs (boot_op me clean number entry)) (none_when (not (is_begin entry)) out.Feed refl)
    (none_of_disk (boot_op me clean number entry))
boot_stops_never me clean number entry (Some cause) = refl

given_once : (s : Settings) (me : ℕ) (past : List Line) (tick : ℕ) (entry : What) (log : List Line) → OneStop (outs_at s me past tick entry log)
unfolding outs_at
given_once s me past tick entry log = by_phase (is_booting (phase s past)) (is_live (phase s past)) (is_boot_step entry)
  where
    by_phase : (boots live step : Bool)
        → OneStop (if boots then (if step then boot_step_outs me (begins_clean log) (slot_number log) entry (boot_halt s entry) else [])
        else (if live then live_outs s me log entry (mail_feeds tick past entry) (deadly_of (message_of entry)) else []))
    by_phase true live true = inl (boot_stops_never me (begins_clean log) (slot_number log) entry (boot_halt s entry))
    by_phase true live false = inl refl
    by_phase false true step = live_stops_once s me log entry (mail_feeds tick past entry) (deadly_of (message_of entry))
    by_phase false false step = inl refl

-- the outputs of the newest entry
pub newest_once : (s : Settings) (me : ℕ) (past : List Line) (entry : Entry) → OneStop (newest_outs (with_entry s me past entry))
unfolding with_entry
newest_once s me past entry = given_once s me past entry.tick (read_as s me past entry.what) (taken_in past entry.tick (read_as s me past entry.what))

-- what is left after the first output
pub rest_once : (o : Out) (rest : List Out) → OneStop (o ∷ rest) → OneStop rest
rest_once out.Stop rest (inl none) = absurd (false≢true (sym none))
rest_once out.Stop rest (inr first) = inl (subst (λ outs. has_stop outs ≡ false) (sym (rest_of first.1)) first.2)
  where
    rest_of : {one other : List Out} → out.Stop ∷ one ≡ out.Stop ∷ other → one ≡ other
    rest_of e = cc
rest_once out.Start rest (inl none) = inl none
rest_once out.Feed rest (inl none) = inl none
rest_once (out.Send to packet) rest (inl none) = inl none
rest_once (out.Disk op) rest (inl none) = inl none
rest_once out.Disarm rest (inl none) = inl none
rest_once (out.Halt kind) rest (inl none) = inl none
rest_once out.Start rest (inr first) = absurd (let same = first.1 in cc)
rest_once out.Feed rest (inr first) = absurd (let same = first.1 in cc)
rest_once (out.Send to packet) rest (inr first) = absurd (let same = first.1 in cc)
rest_once (out.Disk op) rest (inr first) = absurd (let same = first.1 in cc)
rest_once out.Disarm rest (inr first) = absurd (let same = first.1 in cc)
rest_once (out.Halt kind) rest (inr first) = absurd (let same = first.1 in cc)

-- after a Stop no other one is left
pub rest_none : (rest : List Out) → OneStop (out.Stop ∷ rest) → has_stop rest ≡ false
rest_none rest (inl none) = absurd (false≢true (sym none))
rest_none rest (inr first) = subst (λ outs. has_stop outs ≡ false) (sym (rest_of first.1)) first.2
  where
    rest_of : {one other : List Out} → out.Stop ∷ one ≡ out.Stop ∷ other → one ≡ other
    rest_of e = cc

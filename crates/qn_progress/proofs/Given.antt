-- What comes out of an entry of a node that was up and stays up: its Start and its disk operation.
use Rattle.std.proofs.Common.{◌≡◌, ℕ, Bool, true, false, List, [], ◌∷◌, ◌++◌, length, Some, None, Option, refl, sym, ap, ◌∙◌, filter, ◌||◌, ◌&&◌, if◌then◌else◌}
use Rattle.std.specs.Option.{option_map_or}
use Rattle.std.proofs.lemmas.Bool.{false≢true, true≢false}
use Rattle.qn_base.specs.declared.ids.View.{View}
use Rattle.std.specs.List.{range_with_len}
use Rattle.qn_model.specs.Holding.{holds}
use Rattle.std.proofs.lemmas.Option.{none-some}
use Rattle.qn_model.specs.declared.configuration.Settings.{Settings}
use Rattle.qn_model.specs.declared.disk.Message.{Message}
use Rattle.qn_model.specs.declared.entries.What.{What}
use Rattle.qn_model.specs.declared.entries.What.TheVariants as what
use Rattle.qn_model.specs.declared.life.Phase.{Phase}
use Rattle.qn_model.specs.declared.life.Phase.TheVariants.{Up, Leaving, Dying, Gone}
use Rattle.qn_model.specs.declared.outputs.DiskOp.{DiskOp}
use Rattle.qn_model.specs.declared.outputs.Out.{Out}
use Rattle.qn_model.specs.declared.outputs.Out.TheVariants as out
use Rattle.qn_model.specs.lemmas.Operations.{none_when, none_of_replies, none_of_asks}
use Rattle.qn_model.specs.Log.{Line, disk_of, has_start}
use Rattle.qn_model.specs.NodeVotes.{view}
use Rattle.qn_model.specs.Phases.{phase, next_phase, in_time, is_booting, is_live, is_up, deadly_of, message_of, gives_exit}
use Rattle.qn_model.specs.Wanted.{wanted_with_delay}
use Rattle.qn_model.specs.NodeOutputs.{when, disk_outs, gives_stop, gives_start, replies, reply, asks, is_asked, asks_under, is_asking, acts, live_outs, outs_at, mail_feeds, taken_in, with_read}

not_up : {P : Type 0} (p : Phase) → is_up p ≡ false → p ≡ Up → P
not_up p no' e = absurd (true≢false (sym (ap is_up e) ∙ no'))

if_deadly : {P : Type 0} (message : Message) (rest : Phase) → (if true then Dying else rest) ≡ Up → P
if_deadly message rest e = not_up Dying refl e

-- a node that stays up does what a node does that takes part
pub up_acts : (s : Settings) (me : ℕ) (log : List Line) (entry : What) (fed timely : Bool) → next_phase s entry timely Up ≡ Up
    → live_outs s me log entry fed (deadly_of (message_of entry)) ≡ acts s me log entry fed
up_acts s me log what.Begin fed timely e = refl
up_acts s me log what.BeginClean fed timely e = refl
up_acts s me log (what.Header seen) fed timely e = refl
up_acts s me log (what.SlotRead rank seen) fed timely e = refl
up_acts s me log (what.MailChecked seen) fed timely e = refl
up_acts s me log (what.Claimed ok) fed timely e = refl
up_acts s me log (what.Cleared ok) fed timely e = refl
up_acts s me log (what.MailRead seen) fed timely e = by_found (deadly_of (message_of (what.MailRead seen))) refl
  where
    by_found : (found : Option Message) → deadly_of (message_of (what.MailRead seen)) ≡ found
        → live_outs s me log (what.MailRead seen) fed found ≡ acts s me log (what.MailRead seen) fed
    by_found None is = refl
    by_found (Some message) is =
        not_up Dying refl (sym (ap (λ f. if Rattle.std.proofs.Common.is_some f then Dying else (if gives_exit (message_of (what.MailRead seen)) && timely then Leaving else Up)) is) ∙ e)
up_acts s me log (what.MailWritten rank ok) fed timely e = refl
up_acts s me log (what.View installed) fed timely e = refl
up_acts s me log (what.Ask ask) fed timely e = refl
up_acts s me log (what.Tell tell) fed timely e = refl
up_acts s me log (what.Device agrees) fed timely e = refl
up_acts s me log what.Tick fed timely e = refl
up_acts s me log (what.Stopped ok) fed timely e = refl
up_acts s me log what.Leave fed timely e = refl
up_acts s me log (what.Closed ok) fed timely e = not_up Gone refl e

-- of two lists of outputs the second has the disk operation
behind : (front rest : List Out) → disk_of front ≡ None → disk_of (front ++ rest) ≡ disk_of rest
behind [] rest e = refl
behind (out.Halt kind ∷ front) rest e = behind front rest e
behind (out.Disarm ∷ front) rest e = behind front rest e
behind (out.Feed ∷ front) rest e = behind front rest e
behind (out.Start ∷ front) rest e = behind front rest e
behind (out.Stop ∷ front) rest e = behind front rest e
behind (out.Send to sent ∷ front) rest e = behind front rest e
behind (out.Disk op ∷ front) rest e = absurd (none-some op (sym e))

-- a Start in the first of two lists is one of both
starts_front : (front rest : List Out) → has_start front ≡ true → has_start (front ++ rest) ≡ true
starts_front [] rest e = absurd (false≢true e)
starts_front (out.Halt kind ∷ front) rest e = starts_front front rest e
starts_front (out.Disarm ∷ front) rest e = starts_front front rest e
starts_front (out.Feed ∷ front) rest e = starts_front front rest e
starts_front (out.Start ∷ front) rest e = refl
starts_front (out.Stop ∷ front) rest e = starts_front front rest e
starts_front (out.Send to sent ∷ front) rest e = starts_front front rest e
starts_front (out.Disk op ∷ front) rest e = starts_front front rest e

no_asks : (s : Settings) (me : ℕ) (log : List Line) → disk_of (asks s me log) ≡ None
no_asks s me log = by_test (is_asking s log) (view log)
  where
    by_test : (b : Bool) (v : Option View) → disk_of (if b then option_map_or (asks_under s me log) v [] else []) ≡ None
    by_test true (Some present) = none_of_asks me log present (filter (is_asked s me log) (range_with_len 0 (length s.nodes)))
    by_test true None = refl
    by_test false v = refl

the_disk : (op : Option DiskOp) → disk_of (disk_outs op) ≡ op
the_disk None = refl
the_disk (Some op) = refl

five : (a b c d e rest : List Out) → disk_of a ≡ None → disk_of b ≡ None → disk_of c ≡ None → disk_of d ≡ None → disk_of e ≡ None
    → disk_of (((((a ++ b) ++ c) ++ d) ++ e) ++ rest) ≡ disk_of rest
five a b c d e rest na nb nc nd ne =
    let two = behind a b na ∙ nb in
    let three = behind (a ++ b) c two ∙ nc in
    let four = behind ((a ++ b) ++ c) d three ∙ nd in
    let all = behind (((a ++ b) ++ c) ++ d) e four ∙ ne in
    behind ((((a ++ b) ++ c) ++ d) ++ e) rest all

pub acts_disk : (s : Settings) (me : ℕ) (log : List Line) (entry : What) (fed : Bool) → disk_of (acts s me log entry fed) ≡ wanted_with_delay s me log
unfolding acts
acts_disk s me log entry fed =
    five (when (gives_stop s me log) out.Stop) (when (gives_start s me log) out.Start) (when fed out.Feed)
    (replies s me (gives_start s me log || holds log) log entry) (asks s me log) (disk_outs (wanted_with_delay s me log))
    (none_when (gives_stop s me log) out.Stop refl) (none_when (gives_start s me log) out.Start refl) (none_when fed out.Feed refl)
    (none_of_replies s me (gives_start s me log || holds log) log entry) (no_asks s me log)
    ∙ the_disk (wanted_with_delay s me log)

starts_second : (x y : Bool) → y ≡ true → has_start (when x out.Stop ++ when y out.Start) ≡ true
starts_second x false e = absurd (false≢true e)
starts_second true true e = refl
starts_second false true e = refl

pub acts_start : (s : Settings) (me : ℕ) (log : List Line) (entry : What) (fed : Bool) → gives_start s me log ≡ true → has_start (acts s me log entry fed) ≡ true
unfolding acts
acts_start s me log entry fed e =
    starts_front (when (gives_stop s me log) out.Stop ++ when (gives_start s me log) out.Start ++ when fed out.Feed ++ replies s me (gives_start s me log || holds log) log entry ++ asks s me log) (disk_outs (wanted_with_delay s me log))
    (starts_front (when (gives_stop s me log) out.Stop ++ when (gives_start s me log) out.Start ++ when fed out.Feed ++ replies s me (gives_start s me log || holds log) log entry) (asks s me log)
    (starts_front (when (gives_stop s me log) out.Stop ++ when (gives_start s me log) out.Start ++ when fed out.Feed) (replies s me (gives_start s me log || holds log) log entry)
    (starts_front (when (gives_stop s me log) out.Stop ++ when (gives_start s me log) out.Start) (when fed out.Feed)
    (starts_second (gives_stop s me log) (gives_start s me log) e))))

-- what comes out while the node was up and stays up
pub outs_up : (s : Settings) (me : ℕ) (past : List Line) (tick : ℕ) (entry : What) → phase s past ≡ Up → phase s (with_read s me past tick entry) ≡ Up
    → outs_at s me past tick entry (taken_in past tick entry) ≡ acts s me (taken_in past tick entry) entry (mail_feeds tick past entry)
unfolding outs_at phase
outs_up s me past tick entry was stays =
    ap (λ p. if is_booting p then Rattle.qn_model.specs.NodeOutputs.boot_outs s me (Rattle.qn_model.specs.Log.begins_clean (taken_in past tick entry)) (Rattle.qn_model.specs.Log.slot_number (taken_in past tick entry)) entry
    else (if is_live p then live_outs s me (taken_in past tick entry) entry (mail_feeds tick past entry) (deadly_of (message_of entry)) else [])) was
    ∙ up_acts s me (taken_in past tick entry) entry (mail_feeds tick past entry) (in_time tick past)
    (sym (ap (λ p. next_phase s entry (in_time tick past) p) was) ∙ stays)

-- How a node that takes part reads an entry, and how it goes on.
use Rattle.std.proofs.Common.{◌≡◌, ℕ, Bool, true, false, List, [], ◌∷◌, Option, None, Some, refl, sym, ap, ◌∙◌, ◌&&◌, not}
use Rattle.std.specs.Prelude.{if◌then◌else◌, is_some}
use Rattle.qn_model.specs.declared.configuration.Settings.{Settings}
use Rattle.qn_model.specs.declared.disk.Message.{Message}
use Rattle.qn_model.specs.declared.seen.HeaderSeen.{HeaderSeen}
use Rattle.qn_model.specs.declared.seen.MailSeen.{MailSeen}
use Rattle.qn_model.specs.declared.entries.What.{What}
use Rattle.qn_model.specs.declared.entries.What.TheVariants as what
use Rattle.qn_model.specs.declared.life.Phase.{Phase}
use Rattle.qn_model.specs.declared.life.Phase.TheVariants.{Dying, Leaving}
use Rattle.qn_model.specs.declared.outputs.BootCause.{BootCause}
use Rattle.qn_model.specs.declared.outputs.DiskOp.{DiskOp}
use Rattle.qn_model.specs.declared.outputs.DiskOp.TheVariants as disk
use Rattle.qn_model.specs.Log.{Line, claimed, is_answer, op_out}
use Rattle.qn_model.specs.Phases.{boot_phase, deadly_of, gives_exit, is_booting, is_leaving, is_live, is_up, message_of, next_phase, slot_halt}
use Rattle.qn_model.specs.Holding.{answers_stop, stop_due}
use Rattle.qn_model.specs.Fitting.{answers_op, fits, is_closed, is_first, read_as}
use Rattle.qn_model.specs.NodeOutputs.{acts, live_outs}
use Rattle.qn_node.specs.declared.live.Live.{Live}
use Rattle.qn_node.specs.declared.live.Course.TheVariants as course
use Rattle.qn_node.specs.Live.{LiveFor, course_by, fits_live, is_boot_entry, is_live_op, live_phase}
use Rattle.qn_node.specs.Resource.{is_stopping}

live_of : (leaving : Bool) → is_live (live_phase leaving) ≡ true
live_of true = refl
live_of false = refl

pub up_of : (leaving : Bool) → is_up (live_phase leaving) ≡ not leaving
up_of true = refl
up_of false = refl

some_claimed : (number : ℕ) (log : List Line) → claimed log ≡ Some number → is_first log ≡ false
unfolding claimed
some_claimed number [] is = absurd (cc)
some_claimed number (line ∷ past) is = refl

-- the entries that fit
fits_same : (live : Live) (s : Settings) (me : ℕ) (log : List Line) (w : What) → LiveFor live s me log → fits s me log w ≡ fits_live s me live w
fits_same live s me log what.Begin h = some_claimed live.incarnation log h.claims
fits_same live s me log what.BeginClean h = some_claimed live.incarnation log h.claims
fits_same live s me log (what.Header seen) h = ap (λ op. answers_op op (what.Header seen)) h.is_out
fits_same live s me log (what.SlotRead rank seen) h = ap (λ op. answers_op op (what.SlotRead rank seen)) h.is_out
fits_same live s me log (what.MailChecked seen) h = ap (λ op. answers_op op (what.MailChecked seen)) h.is_out
fits_same live s me log (what.Claimed ok) h = ap (λ op. answers_op op (what.Claimed ok)) h.is_out
fits_same live s me log (what.Cleared ok) h = ap (λ op. answers_op op (what.Cleared ok)) h.is_out
fits_same live s me log (what.MailRead seen) h = ap (λ op. answers_op op (what.MailRead seen)) h.is_out
fits_same live s me log (what.MailWritten rank ok) h = ap (λ op. answers_op op (what.MailWritten rank ok)) h.is_out
fits_same live s me log (what.View view) h = rw (h.phases, live_of live.leaving)
fits_same live s me log (what.Ask ask) h = rw (h.phases, live_of live.leaving)
fits_same live s me log (what.Tell tell) h = rw (h.phases, live_of live.leaving)
fits_same live s me log (what.Device agrees) h = ap is_live h.phases ∙ live_of live.leaving
fits_same live s me log what.Tick h = refl
fits_same live s me log (what.Stopped ok) h = h.has_resource.waits
fits_same live s me log what.Leave h = ap is_up h.phases ∙ up_of live.leaving
fits_same live s me log (what.Closed ok) h = ap (λ op. answers_op op (what.Closed ok)) h.is_out

pub reads_same : (live : Live) (s : Settings) (me : ℕ) (log : List Line) (w : What) → LiveFor live s me log
    → read_as s me log w ≡ (if fits_live s me live w then w else what.Tick)
reads_same live s me log w h = ap (λ b. if b then w else what.Tick) (fits_same live s me log w h)

no_header : (op : Option DiskOp) (seen : HeaderSeen) → is_live_op op ≡ true → answers_op op (what.Header seen) ≡ false
no_header None seen live = refl
no_header (Some disk.ReadHeader) seen live = absurd (cc)
no_header (Some (disk.ReadSlot rank)) seen live = refl
no_header (Some disk.CheckMail) seen live = absurd (cc)
no_header (Some (disk.WriteClaim number)) seen live = absurd (cc)
no_header (Some disk.WriteClear) seen live = absurd (cc)
no_header (Some disk.ReadMail) seen live = refl
no_header (Some (disk.WriteReset rank)) seen live = refl
no_header (Some (disk.WriteClose number)) seen live = refl

no_checked : (op : Option DiskOp) (seen : MailSeen) → is_live_op op ≡ true → answers_op op (what.MailChecked seen) ≡ false
no_checked None seen live = refl
no_checked (Some disk.ReadHeader) seen live = absurd (cc)
no_checked (Some (disk.ReadSlot rank)) seen live = refl
no_checked (Some disk.CheckMail) seen live = absurd (cc)
no_checked (Some (disk.WriteClaim number)) seen live = absurd (cc)
no_checked (Some disk.WriteClear) seen live = absurd (cc)
no_checked (Some disk.ReadMail) seen live = refl
no_checked (Some (disk.WriteReset rank)) seen live = refl
no_checked (Some (disk.WriteClose number)) seen live = refl

no_claimed : (op : Option DiskOp) (ok : Bool) → is_live_op op ≡ true → answers_op op (what.Claimed ok) ≡ false
no_claimed None ok live = refl
no_claimed (Some disk.ReadHeader) ok live = absurd (cc)
no_claimed (Some (disk.ReadSlot rank)) ok live = refl
no_claimed (Some disk.CheckMail) ok live = absurd (cc)
no_claimed (Some (disk.WriteClaim number)) ok live = absurd (cc)
no_claimed (Some disk.WriteClear) ok live = absurd (cc)
no_claimed (Some disk.ReadMail) ok live = refl
no_claimed (Some (disk.WriteReset rank)) ok live = refl
no_claimed (Some (disk.WriteClose number)) ok live = refl

no_cleared : (op : Option DiskOp) (ok : Bool) → is_live_op op ≡ true → answers_op op (what.Cleared ok) ≡ false
no_cleared None ok live = refl
no_cleared (Some disk.ReadHeader) ok live = absurd (cc)
no_cleared (Some (disk.ReadSlot rank)) ok live = refl
no_cleared (Some disk.CheckMail) ok live = absurd (cc)
no_cleared (Some (disk.WriteClaim number)) ok live = absurd (cc)
no_cleared (Some disk.WriteClear) ok live = absurd (cc)
no_cleared (Some disk.ReadMail) ok live = refl
no_cleared (Some (disk.WriteReset rank)) ok live = refl
no_cleared (Some (disk.WriteClose number)) ok live = refl

-- an entry as it is read is no step of a boot, answers the operation that is out where it answers one, and a
-- Stop where it answers that
pub record Reads (log : List Line) (read : What) : Type 0 where
  pub plain : is_boot_entry read ≡ false
  pub answers : is_answer read ≡ true → answers_op (op_out log) read ≡ true
  pub stops : answers_stop read ≡ true → stop_due log ≡ true

no_answer : {A : Type 0} (b : Bool) → b ≡ false → b ≡ true → A
no_answer b never here = absurd (let z : false ≡ true = sym never ∙ here in cc)

reads_tick : (log : List Line) → Reads log what.Tick
reads_tick log = record { plain = refl; answers = λ e. absurd (cc); stops = λ e. absurd (cc) }

-- an entry that neither answers nor is a step of a boot
reads_plain : (log : List Line) (w : What) (b : Bool) → is_boot_entry w ≡ false → is_answer w ≡ false → answers_stop w ≡ false → Reads log (if b then w else what.Tick)
reads_plain log w true plain silent stopless = record { plain = plain; answers = no_answer (is_answer w) silent; stops = no_answer (answers_stop w) stopless }
reads_plain log w false plain silent stopless = reads_tick log

reads_no : (log : List Line) (w : What) (b : Bool) → b ≡ false → Reads log (if b then w else what.Tick)
reads_no log w true unfit = absurd (cc)
reads_no log w false unfit = reads_tick log

reads_answer : (log : List Line) (w : What) (b : Bool) → answers_op (op_out log) w ≡ b → is_boot_entry w ≡ false → answers_stop w ≡ false
    → Reads log (if b then w else what.Tick)
reads_answer log w true fit plain stopless = record { plain = plain; answers = λ e. fit; stops = no_answer (answers_stop w) stopless }
reads_answer log w false fit plain stopless = reads_tick log

reads_stopped : (log : List Line) (ok b : Bool) → stop_due log ≡ b → Reads log (if b then what.Stopped ok else what.Tick)
reads_stopped log ok true due = record { plain = refl; answers = λ e. absurd (cc); stops = λ e. due }
reads_stopped log ok false due = reads_tick log

pub reads_live : (live : Live) (s : Settings) (me : ℕ) (log : List Line) (w : What) → LiveFor live s me log → Reads log (if fits_live s me live w then w else what.Tick)
reads_live live s me log what.Begin h = reads_no log what.Begin false refl
reads_live live s me log what.BeginClean h = reads_no log what.BeginClean false refl
reads_live live s me log (what.Header seen) h = reads_no log (what.Header seen) (answers_op live.op (what.Header seen)) (no_header live.op seen h.no_boot)
reads_live live s me log (what.SlotRead rank seen) h = reads_answer log (what.SlotRead rank seen) (answers_op live.op (what.SlotRead rank seen)) (ap (λ op. answers_op op (what.SlotRead rank seen)) h.is_out) refl refl
reads_live live s me log (what.MailChecked seen) h = reads_no log (what.MailChecked seen) (answers_op live.op (what.MailChecked seen)) (no_checked live.op seen h.no_boot)
reads_live live s me log (what.Claimed ok) h = reads_no log (what.Claimed ok) (answers_op live.op (what.Claimed ok)) (no_claimed live.op ok h.no_boot)
reads_live live s me log (what.Cleared ok) h = reads_no log (what.Cleared ok) (answers_op live.op (what.Cleared ok)) (no_cleared live.op ok h.no_boot)
reads_live live s me log (what.MailRead seen) h = reads_answer log (what.MailRead seen) (answers_op live.op (what.MailRead seen)) (ap (λ op. answers_op op (what.MailRead seen)) h.is_out) refl refl
reads_live live s me log (what.MailWritten rank ok) h = reads_answer log (what.MailWritten rank ok) (answers_op live.op (what.MailWritten rank ok)) (ap (λ op. answers_op op (what.MailWritten rank ok)) h.is_out) refl refl
reads_live live s me log (what.View view) h = reads_plain log (what.View view) (fits_live s me live (what.View view)) refl refl refl
reads_live live s me log (what.Ask ask) h = reads_plain log (what.Ask ask) (fits_live s me live (what.Ask ask)) refl refl refl
reads_live live s me log (what.Tell tell) h = reads_plain log (what.Tell tell) (fits_live s me live (what.Tell tell)) refl refl refl
reads_live live s me log (what.Device agrees) h = reads_plain log (what.Device agrees) (fits_live s me live (what.Device agrees)) refl refl refl
reads_live live s me log what.Tick h = reads_tick log
reads_live live s me log (what.Stopped ok) h = reads_stopped log ok (is_stopping live.resource) h.has_resource.waits
reads_live live s me log what.Leave h = reads_plain log what.Leave (fits_live s me live what.Leave) refl refl refl
reads_live live s me log (what.Closed ok) h = reads_answer log (what.Closed ok) (answers_op live.op (what.Closed ok)) (ap (λ op. answers_op op (what.Closed ok)) h.is_out) refl refl

-- a node that goes on takes part still
pub record GoesOn (s : Settings) (w : What) (timely : Bool) (before : Phase) (leaving : Bool) : Type 0 where
  pub alive : deadly_of (message_of w) ≡ None
  pub open_still : is_closed w ≡ false
  pub takes_part : next_phase s w timely before ≡ live_phase leaving

stays : (leaving : Bool) → live_phase leaving ≡ live_phase (is_leaving (live_phase leaving))
stays true = refl
stays false = refl

mail_stays : (deadly : Option Message) (exit : Bool) (leaving : Bool) → deadly ≡ None
    → (if is_some deadly then Dying else (if exit then Leaving else live_phase leaving))
    ≡ live_phase (is_leaving (if is_some deadly then Dying else (if exit then Leaving else live_phase leaving)))
mail_stays None true leaving e = refl
mail_stays None false leaving e = stays leaving
mail_stays (Some message) exit leaving e = absurd (cc)

stays_slot : (halt : Option BootCause) (before : Bool)
    → (if is_booting (live_phase before) then boot_phase halt (live_phase before) else live_phase before)
    ≡ live_phase (is_leaving (if is_booting (live_phase before) then boot_phase halt (live_phase before) else live_phase before))
stays_slot halt true = refl
stays_slot halt false = refl

next_live : (s : Settings) (w : What) (timely before : Bool) → is_boot_entry w ≡ false → deadly_of (message_of w) ≡ None → is_closed w ≡ false
    → next_phase s w timely (live_phase before) ≡ live_phase (is_leaving (next_phase s w timely (live_phase before)))
next_live s what.Begin timely before plain alive still = absurd (cc)
next_live s what.BeginClean timely before plain alive still = absurd (cc)
next_live s (what.Header seen) timely before plain alive still = absurd (cc)
next_live s (what.SlotRead rank seen) timely before plain alive still = stays_slot (slot_halt seen) before
next_live s (what.MailChecked seen) timely before plain alive still = absurd (cc)
next_live s (what.Claimed ok) timely before plain alive still = absurd (cc)
next_live s (what.Cleared ok) timely before plain alive still = absurd (cc)
next_live s (what.MailRead seen) timely before plain alive still = mail_stays (deadly_of (message_of (what.MailRead seen))) (gives_exit (message_of (what.MailRead seen)) && timely) before alive
next_live s (what.MailWritten rank ok) timely before plain alive still = stays before
next_live s (what.View view) timely before plain alive still = stays before
next_live s (what.Ask ask) timely before plain alive still = stays before
next_live s (what.Tell tell) timely before plain alive still = stays before
next_live s (what.Device agrees) timely before plain alive still = stays before
next_live s what.Tick timely before plain alive still = stays before
next_live s (what.Stopped ok) timely before plain alive still = stays before
next_live s what.Leave timely before plain alive still = refl
next_live s (what.Closed ok) timely before plain alive still = absurd (cc)

act_parts : (deadly : Option Message) (closed feeds leaving fed left : Bool) → course_by deadly closed feeds leaving ≡ course.Act fed left
    → (deadly ≡ None) × (closed ≡ false) × (feeds ≡ fed) × (leaving ≡ left)
act_parts (Some message) closed feeds leaving fed left e = absurd (cc)
act_parts None true feeds leaving fed left e = absurd (cc)
act_parts None false feeds leaving fed left e = (refl, refl, cc, cc)

pub halt_part : (deadly : Option Message) (closed feeds leaving : Bool) (message : Message) → course_by deadly closed feeds leaving ≡ course.Halt message → deadly ≡ Some message
halt_part (Some other) closed feeds leaving message e = cc
halt_part None true feeds leaving message e = absurd (cc)
halt_part None false feeds leaving message e = absurd (cc)

pub end_parts : (deadly : Option Message) (closed feeds leaving : Bool) → course_by deadly closed feeds leaving ≡ course.End → (deadly ≡ None) × (closed ≡ true)
end_parts (Some other) closed feeds leaving e = absurd (cc)
end_parts None true feeds leaving e = (refl, refl)
end_parts None false feeds leaving e = absurd (cc)

pub goes_on : (s : Settings) (w : What) (timely before feeds fed left : Bool) → is_boot_entry w ≡ false
    → course_by (deadly_of (message_of w)) (is_closed w) feeds (is_leaving (next_phase s w timely (live_phase before))) ≡ course.Act fed left
    → GoesOn s w timely (live_phase before) left
goes_on s w timely before feeds fed left plain e =
    let parts = act_parts _ _ _ _ fed left e in
    record {
      alive = parts.0;
      open_still = parts.1;
      takes_part = next_live s w timely before plain parts.0 parts.1 ∙ ap live_phase parts.3;
    }

pub feeds_part : (s : Settings) (w : What) (feeds leaving fed left : Bool)
    → course_by (deadly_of (message_of w)) (is_closed w) feeds leaving ≡ course.Act fed left → feeds ≡ fed
feeds_part s w feeds leaving fed left e = (act_parts _ _ _ _ fed left e).2

-- what comes out of a node that goes on
pub live_acts : (s : Settings) (me : ℕ) (log : List Line) (w : What) (fed : Bool) → is_closed w ≡ false → live_outs s me log w fed None ≡ acts s me log w fed
live_acts s me log what.Begin fed still = refl
live_acts s me log what.BeginClean fed still = refl
live_acts s me log (what.Header seen) fed still = refl
live_acts s me log (what.SlotRead rank seen) fed still = refl
live_acts s me log (what.MailChecked seen) fed still = refl
live_acts s me log (what.Claimed ok) fed still = refl
live_acts s me log (what.Cleared ok) fed still = refl
live_acts s me log (what.MailRead seen) fed still = refl
live_acts s me log (what.MailWritten rank ok) fed still = refl
live_acts s me log (what.View view) fed still = refl
live_acts s me log (what.Ask ask) fed still = refl
live_acts s me log (what.Tell tell) fed still = refl
live_acts s me log (what.Device agrees) fed still = refl
live_acts s me log what.Tick fed still = refl
live_acts s me log (what.Stopped ok) fed still = refl
live_acts s me log what.Leave fed still = refl
live_acts s me log (what.Closed ok) fed still = absurd (cc)

-- Entries that answer an operation, and entries that answer none.
use Rattle.std.proofs.Common.{◌≡◌, ℕ, Bool, true, false, List, Option, Some, if◌then◌else◌, refl, None}
use Rattle.std.proofs.lemmas.Bool.{false≢true, true≢false}
use Rattle.qn_base.specs.lemmas.Numbers.{equal_to_itself}
use Rattle.qn_base.specs.lemmas.Options.{none_is_not_some}
use Rattle.qn_model.specs.declared.configuration.Settings.{Settings}
use Rattle.qn_model.specs.declared.entries.What.{What}
use Rattle.qn_model.specs.declared.entries.What.TheVariants as what
use Rattle.qn_model.specs.declared.outputs.DiskOp.{DiskOp}
use Rattle.qn_model.specs.declared.outputs.DiskOp.TheVariants as disk
use Rattle.qn_model.specs.declared.packets.Packet.{Packet}
use Rattle.qn_model.specs.declared.packets.Packet.TheVariants as packet
use Rattle.qn_model.specs.Fitting.{answers_op, fits, read_as}
use Rattle.qn_model.specs.Log.{Line, is_answer, op_out, number_read, times_of}
use Rattle.qn_model.specs.Moments.{begin_of}
use Rattle.qn_model.specs.Steps.{entry_of}
use Rattle.qn_model.specs.World.{failed}
use Rattle.qn_model.specs.declared.times.Timing.{Timing}

-- an entry as it is read fits
pub read_fits : (s : Settings) (me : ℕ) (past : List Line) (entry : What)
    → fits s me past (read_as s me past entry) ≡ true
read_fits s me past entry = by_test (fits s me past entry) refl
  where
    by_test : (b : Bool) → fits s me past entry ≡ b → fits s me past (if b then entry else what.Tick) ≡ true
    by_test true fit = fit
    by_test false apart = refl

-- what a packet says is no answer, and neither is a begin
pub packet_answers_none : (content : Packet) → is_answer (entry_of content) ≡ false
packet_answers_none (packet.Ask ask) = refl
packet_answers_none (packet.Tell tell) = refl
packet_answers_none (packet.Hello from) = refl
packet_answers_none (packet.Heard from said standing) = refl
packet_answers_none (packet.Announce from seen) = refl
packet_answers_none (packet.Vote agrees) = refl

pub begin_answers_none : (clean : Bool) → is_answer (begin_of clean) ≡ false
begin_answers_none false = refl
begin_answers_none true = refl

-- an entry that is no answer is read as none
pub read_answers_none : (s : Settings) (me : ℕ) (past : List Line) (entry : What) → is_answer entry ≡ false
    → is_answer (read_as s me past entry) ≡ false
read_answers_none s me past entry plain = by_fit (fits s me past entry)
  where
    by_fit : (b : Bool) → is_answer (if b then entry else what.Tick) ≡ false
    by_fit true = plain
    by_fit false = refl

-- the entry of an operation that failed answers it
pub failed_answers : (op : DiskOp) → answers_op (Some op) (failed op) ≡ true
unfolding failed
failed_answers disk.ReadHeader = refl
failed_answers (disk.ReadSlot other) = equal_to_itself other.0
failed_answers disk.CheckMail = refl
failed_answers (disk.WriteClaim number) = refl
failed_answers disk.WriteClear = refl
failed_answers disk.ReadMail = refl
failed_answers (disk.WriteReset other) = equal_to_itself other.0
failed_answers (disk.WriteClose number) = refl

-- an answer that fits answers the operation that is out
pub fitting_answers : (s : Settings) (me : ℕ) (past : List Line) (entry : What) → is_answer entry ≡ true
    → fits s me past entry ≡ true → answers_op (op_out past) entry ≡ true
fitting_answers s me past (what.Header seen) is fit = fit
fitting_answers s me past (what.SlotRead rank seen) is fit = fit
fitting_answers s me past (what.MailChecked seen) is fit = fit
fitting_answers s me past (what.Claimed ok) is fit = fit
fitting_answers s me past (what.Cleared ok) is fit = fit
fitting_answers s me past (what.MailRead seen) is fit = fit
fitting_answers s me past (what.MailWritten rank ok) is fit = fit
fitting_answers s me past (what.Closed ok) is fit = fit
fitting_answers s me past what.Begin is fit = absurd (false≢true is)
fitting_answers s me past what.BeginClean is fit = absurd (false≢true is)
fitting_answers s me past (what.View installed) is fit = absurd (false≢true is)
fitting_answers s me past (what.Ask ask) is fit = absurd (false≢true is)
fitting_answers s me past (what.Tell tell) is fit = absurd (false≢true is)
fitting_answers s me past (what.Device agrees) is fit = absurd (false≢true is)
fitting_answers s me past what.Tick is fit = absurd (false≢true is)
fitting_answers s me past (what.Stopped ok) is fit = absurd (false≢true is)
fitting_answers s me past what.Leave is fit = absurd (false≢true is)

-- only an answer tells times, or a number
pub times_answer : (entry : What) (times : Timing) → times_of entry ≡ Some times → is_answer entry ≡ true
times_answer (what.Header seen) times e = refl
times_answer what.Begin times e = none_is_not_some times e
times_answer what.BeginClean times e = none_is_not_some times e
times_answer (what.SlotRead other seen) times e = refl
times_answer (what.MailChecked seen) times e = refl
times_answer (what.Claimed ok) times e = refl
times_answer (what.Cleared ok) times e = refl
times_answer (what.MailRead seen) times e = refl
times_answer (what.MailWritten other ok) times e = refl
times_answer (what.View installed) times e = none_is_not_some times e
times_answer (what.Ask ask) times e = none_is_not_some times e
times_answer (what.Tell tell) times e = none_is_not_some times e
times_answer (what.Device agrees) times e = none_is_not_some times e
times_answer what.Tick times e = none_is_not_some times e
times_answer (what.Stopped ok) times e = none_is_not_some times e
times_answer what.Leave times e = none_is_not_some times e
times_answer (what.Closed ok) times e = refl

pub plain_number : (entry : What) → is_answer entry ≡ false → number_read entry ≡ None
plain_number (what.SlotRead rank seen) is = absurd (true≢false is)
plain_number entry is = refl

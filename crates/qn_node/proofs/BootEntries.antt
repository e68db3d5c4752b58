-- One entry more of a node that boots: how it is read, and what comes out.
use Rattle.std.proofs.Common.{◌≡◌, ℕ, ◌+◌, Bool, true, false, List, [], ◌∷◌, Option, None, Some, refl, sym, ap, subst, ◌∙◌}
use Rattle.std.specs.Prelude.{if◌then◌else◌, ◌==◌}
use Rattle.qn_base.specs.declared.ids.Rank.{Rank}
use Rattle.qn_model.specs.declared.configuration.Settings.{Settings}
use Rattle.qn_model.specs.declared.seen.HeaderSeen.{HeaderSeen}
use Rattle.qn_model.specs.declared.seen.SlotSeen.{SlotSeen}
use Rattle.qn_model.specs.declared.seen.MailSeen.{MailSeen}
use Rattle.qn_model.specs.declared.entries.What.{What}
use Rattle.qn_model.specs.declared.entries.What.TheVariants as what
use Rattle.qn_model.specs.declared.life.Phase.TheVariants.{Booting, Gone}
use Rattle.qn_model.specs.declared.outputs.BootCause.{BootCause}
use Rattle.qn_model.specs.declared.outputs.DiskOp.{DiskOp}
use Rattle.qn_model.specs.declared.outputs.DiskOp.TheVariants as disk
use Rattle.qn_model.specs.declared.outputs.HaltKind.TheVariants as halt
use Rattle.qn_model.specs.declared.outputs.Out.TheVariants as out
use Rattle.qn_model.specs.Log.{Line, begins_clean, claimed, has_start, has_stop, is_answer, op_out, slot_number}
use Rattle.qn_model.specs.Moments.{begin_of}
use Rattle.qn_model.specs.Phases.{boot_halt, in_time, next_phase, phase}
use Rattle.qn_model.specs.Holding.{answers_stop, holds, stop_due}
use Rattle.qn_model.specs.Fitting.{answers_op, fits, is_first, read_as}
use Rattle.qn_model.specs.NodeOutputs.{boot_outs, is_begin, is_boot_step, newest_outs, outs_at, taken_in, with_read}
use Rattle.qn_model.specs.Wanted.{boot_op, claim_after, rank_of}
use Rattle.qn_boot.specs.Boot.{BootFor}
use Rattle.qn_node.specs.declared.resource.Resource.TheVariants as resource
use Rattle.qn_node.specs.Resource.{ResourceFor, after_entry}
use Rattle.qn_node.specs.Rest.{RestFor}
use Rattle.qn_node.proofs.ResourceSteps.{resource_taken}

some_out : (op : DiskOp) (log : List Line) → op_out log ≡ Some op → is_first log ≡ false
unfolding op_out
some_out op [] out = absurd (cc)
some_out op (line ∷ past) out = refl

-- some entry came before one that a boot waits for
not_first : {s : Settings} {op : DiskOp} {number : Option ℕ} {log : List Line} → BootFor s op number log → is_first log ≡ false
not_first {s} {op} {number} {log} h = some_out op log h.is_out

-- an entry that is not the awaited answer is read as a Tick
pub nothing_for_header : (s : Settings) (me : ℕ) (log : List Line) (number : Option ℕ) (w : What) → BootFor s disk.ReadHeader number log → ((seen : HeaderSeen) → w ≡ what.Header seen → ⊥) → read_as s me log w ≡ what.Tick
nothing_for_header s me log number what.Begin h never = rw (not_first h)
nothing_for_header s me log number what.BeginClean h never = rw (not_first h)
nothing_for_header s me log number (what.Header seen) h never = absurd (never seen refl)
nothing_for_header s me log number (what.SlotRead rank seen) h never = rw h.is_out
nothing_for_header s me log number (what.MailChecked seen) h never = rw h.is_out
nothing_for_header s me log number (what.Claimed ok) h never = rw h.is_out
nothing_for_header s me log number (what.Cleared ok) h never = rw h.is_out
nothing_for_header s me log number (what.MailRead seen) h never = rw h.is_out
nothing_for_header s me log number (what.MailWritten rank ok) h never = rw h.is_out
nothing_for_header s me log number (what.View view) h never = rw h.is_booting
nothing_for_header s me log number (what.Ask ask) h never = rw h.is_booting
nothing_for_header s me log number (what.Tell tell) h never = rw h.is_booting
nothing_for_header s me log number (what.Device agrees) h never = rw h.is_booting
nothing_for_header s me log number what.Tick h never = refl
nothing_for_header s me log number (what.Stopped ok) h never = rw h.stops_nothing
nothing_for_header s me log number what.Leave h never = rw h.is_booting
nothing_for_header s me log number (what.Closed ok) h never = rw h.is_out

pub nothing_for_slot : (s : Settings) (me : ℕ) (log : List Line) (number : Option ℕ) (w : What) → BootFor s (disk.ReadSlot (rank_of me)) number log → ((rank : Rank) (seen : SlotSeen) → w ≡ what.SlotRead rank seen → ⊥) → read_as s me log w ≡ what.Tick
nothing_for_slot s me log number what.Begin h never = rw (not_first h)
nothing_for_slot s me log number what.BeginClean h never = rw (not_first h)
nothing_for_slot s me log number (what.Header seen) h never = rw h.is_out
nothing_for_slot s me log number (what.SlotRead rank seen) h never = absurd (never rank seen refl)
nothing_for_slot s me log number (what.MailChecked seen) h never = rw h.is_out
nothing_for_slot s me log number (what.Claimed ok) h never = rw h.is_out
nothing_for_slot s me log number (what.Cleared ok) h never = rw h.is_out
nothing_for_slot s me log number (what.MailRead seen) h never = rw h.is_out
nothing_for_slot s me log number (what.MailWritten rank ok) h never = rw h.is_out
nothing_for_slot s me log number (what.View view) h never = rw h.is_booting
nothing_for_slot s me log number (what.Ask ask) h never = rw h.is_booting
nothing_for_slot s me log number (what.Tell tell) h never = rw h.is_booting
nothing_for_slot s me log number (what.Device agrees) h never = rw h.is_booting
nothing_for_slot s me log number what.Tick h never = refl
nothing_for_slot s me log number (what.Stopped ok) h never = rw h.stops_nothing
nothing_for_slot s me log number what.Leave h never = rw h.is_booting
nothing_for_slot s me log number (what.Closed ok) h never = rw h.is_out

pub nothing_for_check : (s : Settings) (me : ℕ) (log : List Line) (number : Option ℕ) (w : What) → BootFor s disk.CheckMail number log → ((seen : MailSeen) → w ≡ what.MailChecked seen → ⊥) → read_as s me log w ≡ what.Tick
nothing_for_check s me log number what.Begin h never = rw (not_first h)
nothing_for_check s me log number what.BeginClean h never = rw (not_first h)
nothing_for_check s me log number (what.Header seen) h never = rw h.is_out
nothing_for_check s me log number (what.SlotRead rank seen) h never = rw h.is_out
nothing_for_check s me log number (what.MailChecked seen) h never = absurd (never seen refl)
nothing_for_check s me log number (what.Claimed ok) h never = rw h.is_out
nothing_for_check s me log number (what.Cleared ok) h never = rw h.is_out
nothing_for_check s me log number (what.MailRead seen) h never = rw h.is_out
nothing_for_check s me log number (what.MailWritten rank ok) h never = rw h.is_out
nothing_for_check s me log number (what.View view) h never = rw h.is_booting
nothing_for_check s me log number (what.Ask ask) h never = rw h.is_booting
nothing_for_check s me log number (what.Tell tell) h never = rw h.is_booting
nothing_for_check s me log number (what.Device agrees) h never = rw h.is_booting
nothing_for_check s me log number what.Tick h never = refl
nothing_for_check s me log number (what.Stopped ok) h never = rw h.stops_nothing
nothing_for_check s me log number what.Leave h never = rw h.is_booting
nothing_for_check s me log number (what.Closed ok) h never = rw h.is_out

pub nothing_for_claim : (s : Settings) (me : ℕ) (log : List Line) (number : Option ℕ) (claims : ℕ) (w : What) → BootFor s (disk.WriteClaim claims) number log → ((ok : Bool) → w ≡ what.Claimed ok → ⊥) → read_as s me log w ≡ what.Tick
nothing_for_claim s me log number claims what.Begin h never = rw (not_first h)
nothing_for_claim s me log number claims what.BeginClean h never = rw (not_first h)
nothing_for_claim s me log number claims (what.Header seen) h never = rw h.is_out
nothing_for_claim s me log number claims (what.SlotRead rank seen) h never = rw h.is_out
nothing_for_claim s me log number claims (what.MailChecked seen) h never = rw h.is_out
nothing_for_claim s me log number claims (what.Claimed ok) h never = absurd (never ok refl)
nothing_for_claim s me log number claims (what.Cleared ok) h never = rw h.is_out
nothing_for_claim s me log number claims (what.MailRead seen) h never = rw h.is_out
nothing_for_claim s me log number claims (what.MailWritten rank ok) h never = rw h.is_out
nothing_for_claim s me log number claims (what.View view) h never = rw h.is_booting
nothing_for_claim s me log number claims (what.Ask ask) h never = rw h.is_booting
nothing_for_claim s me log number claims (what.Tell tell) h never = rw h.is_booting
nothing_for_claim s me log number claims (what.Device agrees) h never = rw h.is_booting
nothing_for_claim s me log number claims what.Tick h never = refl
nothing_for_claim s me log number claims (what.Stopped ok) h never = rw h.stops_nothing
nothing_for_claim s me log number claims what.Leave h never = rw h.is_booting
nothing_for_claim s me log number claims (what.Closed ok) h never = rw h.is_out

pub nothing_for_clear : (s : Settings) (me : ℕ) (log : List Line) (number : Option ℕ) (w : What) → BootFor s disk.WriteClear number log → ((ok : Bool) → w ≡ what.Cleared ok → ⊥) → read_as s me log w ≡ what.Tick
nothing_for_clear s me log number what.Begin h never = rw (not_first h)
nothing_for_clear s me log number what.BeginClean h never = rw (not_first h)
nothing_for_clear s me log number (what.Header seen) h never = rw h.is_out
nothing_for_clear s me log number (what.SlotRead rank seen) h never = rw h.is_out
nothing_for_clear s me log number (what.MailChecked seen) h never = rw h.is_out
nothing_for_clear s me log number (what.Claimed ok) h never = rw h.is_out
nothing_for_clear s me log number (what.Cleared ok) h never = absurd (never ok refl)
nothing_for_clear s me log number (what.MailRead seen) h never = rw h.is_out
nothing_for_clear s me log number (what.MailWritten rank ok) h never = rw h.is_out
nothing_for_clear s me log number (what.View view) h never = rw h.is_booting
nothing_for_clear s me log number (what.Ask ask) h never = rw h.is_booting
nothing_for_clear s me log number (what.Tell tell) h never = rw h.is_booting
nothing_for_clear s me log number (what.Device agrees) h never = rw h.is_booting
nothing_for_clear s me log number what.Tick h never = refl
nothing_for_clear s me log number (what.Stopped ok) h never = rw h.stops_nothing
nothing_for_clear s me log number what.Leave h never = rw h.is_booting
nothing_for_clear s me log number (what.Closed ok) h never = rw h.is_out

-- nor is a slot of another node
pub nothing_for_other_slot : (s : Settings) (me : ℕ) (log : List Line) (number : Option ℕ) (w : What) (rank : Rank) (seen : SlotSeen)
    → BootFor s (disk.ReadSlot (rank_of me)) number log → w ≡ what.SlotRead rank seen → (me == rank.0) ≡ false → read_as s me log w ≡ what.Tick
nothing_for_other_slot s me log number w rank seen h is other = rw (is, h.is_out, other)

-- an awaited answer is read as it is
pub reads_answer : (s : Settings) (me : ℕ) (log : List Line) (number : Option ℕ) (op : DiskOp) (w : What) → BootFor s op number log
    → fits s me log w ≡ answers_op (op_out log) w → answers_op (Some op) w ≡ true → read_as s me log w ≡ w
reads_answer s me log number op w h fit answers = rw (fit, h.is_out, answers)

-- what comes out while the node boots
booting_outs : (s : Settings) (me tick : ℕ) (log : List Line) (w : What) → phase s log ≡ Booting → newest_outs (with_read s me log tick w)
    ≡ boot_outs s me (begins_clean (taken_in log tick w)) (slot_number (taken_in log tick w)) w
unfolding outs_at
booting_outs s me tick log w booting = rw booting

pub step_outs : (s : Settings) (me tick : ℕ) (log : List Line) (w : What) (op : DiskOp) → phase s log ≡ Booting
    → is_boot_step w ≡ true → is_begin w ≡ false → boot_halt s w ≡ None
    → boot_op me (begins_clean (taken_in log tick w)) (slot_number (taken_in log tick w)) w ≡ Some op
    → newest_outs (with_read s me log tick w) ≡ out.Feed ∷ out.Disk op ∷ []
step_outs s me tick log w op booting step later on next = booting_outs s me tick log w booting ∙ rw (step, on, later, next)

-- what is asked for after the slot and after the check of the mailbox
pub asks_check : (me tick : ℕ) (log : List Line) (rank : Rank) (seen : SlotSeen) → begins_clean log ≡ true
    → boot_op me (begins_clean (taken_in log tick (what.SlotRead rank seen))) (slot_number (taken_in log tick (what.SlotRead rank seen))) (what.SlotRead rank seen)
    ≡ Some disk.CheckMail
unfolding begins_clean
asks_check me tick log rank seen clean = rw clean

pub asks_claim : (me tick : ℕ) (log : List Line) (rank : Rank) (seen : SlotSeen) (op : DiskOp) → begins_clean log ≡ false → claim_after seen ≡ Some op
    → boot_op me (begins_clean (taken_in log tick (what.SlotRead rank seen))) (slot_number (taken_in log tick (what.SlotRead rank seen))) (what.SlotRead rank seen)
    ≡ Some op
unfolding begins_clean
asks_claim me tick log rank seen op always claims = rw always claims

pub asks_checked_claim : (me tick : ℕ) (log : List Line) (seen : MailSeen) (claims : ℕ) → claims ≡ slot_number log + 1
    → boot_op me (begins_clean (taken_in log tick (what.MailChecked seen))) (slot_number (taken_in log tick (what.MailChecked seen))) (what.MailChecked seen)
    ≡ Some (disk.WriteClaim claims)
unfolding slot_number
asks_checked_claim me tick log seen claims is = ap (λ number. Some (disk.WriteClaim number)) (sym is)

pub halt_outs : (s : Settings) (me tick : ℕ) (log : List Line) (w : What) (cause : BootCause) → phase s log ≡ Booting
    → is_boot_step w ≡ true → boot_halt s w ≡ Some cause
    → newest_outs (with_read s me log tick w) ≡ out.Halt (halt.Boot cause) ∷ []
halt_outs s me tick log w cause booting step halts = booting_outs s me tick log w booting ∙ rw (step, halts)

pub tick_outs : (s : Settings) (me tick : ℕ) (log : List Line) → phase s log ≡ Booting → newest_outs (with_read s me log tick what.Tick) ≡ []
tick_outs s me tick log booting = booting_outs s me tick log what.Tick booting

-- a boot that halted is gone
pub halt_stands : (s : Settings) (me tick : ℕ) (log : List Line) (number : Option ℕ) (op : DiskOp) (w : What) (cause : BootCause) → BootFor s op number log
    → is_boot_step w ≡ true → is_answer w ≡ true → answers_stop w ≡ false → boot_halt s w ≡ Some cause
    → after_entry tick w resource.Free ≡ resource.Free
    → ((timely : Bool) → next_phase s w timely Booting ≡ Gone)
    → RestFor (record { phase = Gone; claims = number; resource = resource.Free }) s (with_read s me log tick w)
unfolding phase claimed op_out
halt_stands s me tick log number op w cause h step answer stopless halts free gone =
    let outs = halt_outs s me tick log w cause h.is_booting step halts in
    let before : ResourceFor resource.Free log = record { has = h.holds_nothing; waits = h.stops_nothing; again = λ held. absurd (cc) } in
    record {
      phases = rw h.is_booting (gone (in_time tick log));
      not_live = refl;
      not_first = refl;
      claims = rw outs h.has_claimed;
      none_out = rw (outs, answer);
      resource = subst (λ r. ResourceFor r (with_read s me log tick w)) free
          (resource_taken resource.Free log _ before (ap has_start outs) (ap has_stop outs) (λ e. absurd (let z : true ≡ false = sym e ∙ stopless in cc)));
    }

-- the first entry of a node whose boot never begins
pub never_begun : (s : Settings) (me tick : ℕ) (w : What) → (w ≡ what.Begin → ⊥) → (w ≡ what.BeginClean → ⊥) → read_as s me [] w ≡ what.Tick
unfolding op_out phase stop_due
never_begun s me tick what.Begin never neither = absurd (never refl)
never_begun s me tick what.BeginClean never neither = absurd (neither refl)
never_begun s me tick (what.Header seen) never neither = refl
never_begun s me tick (what.SlotRead rank seen) never neither = refl
never_begun s me tick (what.MailChecked seen) never neither = refl
never_begun s me tick (what.Claimed ok) never neither = refl
never_begun s me tick (what.Cleared ok) never neither = refl
never_begun s me tick (what.MailRead seen) never neither = refl
never_begun s me tick (what.MailWritten rank ok) never neither = refl
never_begun s me tick (what.View view) never neither = refl
never_begun s me tick (what.Ask ask) never neither = refl
never_begun s me tick (what.Tell tell) never neither = refl
never_begun s me tick (what.Device agrees) never neither = refl
never_begun s me tick what.Tick never neither = refl
never_begun s me tick (what.Stopped ok) never neither = refl
never_begun s me tick what.Leave never neither = refl
never_begun s me tick (what.Closed ok) never neither = refl

pub idle_outs : (s : Settings) (me tick : ℕ) → newest_outs (with_read s me [] tick what.Tick) ≡ []
unfolding phase
idle_outs s me tick = tick_outs s me tick [] refl

pub idle_stands : (s : Settings) (me tick : ℕ) → RestFor (record { phase = Booting; claims = None; resource = resource.Free }) s (with_read s me [] tick what.Tick)
unfolding phase claimed op_out holds stop_due
idle_stands s me tick =
    let outs = idle_outs s me tick in
    record {
      phases = refl;
      not_live = refl;
      not_first = refl;
      claims = rw outs;
      none_out = rw outs;
      resource = record { has = rw outs; waits = rw outs; again = λ held. absurd (cc) };
    }

-- what comes out of the begin
pub begin_outs : (s : Settings) (me tick : ℕ) (clean : Bool) → newest_outs (with_read s me [] tick (begin_of clean)) ≡ out.Disk disk.ReadHeader ∷ []
unfolding phase
begin_outs s me tick false = booting_outs s me tick [] what.Begin refl
begin_outs s me tick true = booting_outs s me tick [] what.BeginClean refl

-- what holds of an entry as it is read
pub as_read : (P : What → Type 0) (s : Settings) (me : ℕ) (log : List Line) (w read : What) → w ≡ read → read_as s me log read ≡ read → P read → P (read_as s me log w)
as_read P s me log w read is reads p = subst (λ v. P (read_as s me log v)) (sym is) (subst P (sym reads) p)

pub not_ok : (ok : Bool) (other cause : BootCause) → (if ok then None else Some other) ≡ Some cause → ok ≡ false
not_ok true other cause e = absurd (cc)
not_ok false other cause e = refl

-- How far the fencing of a node has come, and that each entry brings it on.
use Rattle.std.proofs.Common.{◌≡◌, ℕ, suc, ◌+◌, ◌*◌, ◌≤◌, ◌<◌, Bool, true, false, List, [], ◌∷◌, length, Some, None, Option, refl, sym, ap, ◌∙◌, arith, if◌then◌else◌, is_some, ◌⊎◌, inl, inr}
use Rattle.std.specs.Option.{option_or}
use Rattle.std.proofs.lemmas.Bool.{false≢true, cases_lt}
use Rattle.qn_model.specs.declared.configuration.Settings.{Settings}
use Rattle.qn_model.specs.declared.times.Timing.{Timing}
use Rattle.qn_model.specs.declared.entries.What.{What}
use Rattle.qn_model.specs.declared.outputs.DiskOp.{DiskOp}
use Rattle.qn_model.specs.declared.outputs.DiskOp.TheVariants as disk
use Rattle.qn_model.specs.declared.outputs.Out.{Out}
use Rattle.qn_model.specs.declared.life.Phase.TheVariants.{Up}
use Rattle.qn_model.specs.Log.{Line, op_out, ask_tick, ask_place, disk_of, is_answer, now, timing}
use Rattle.qn_model.specs.NodeVotes.{is_in_view, view, quorate_with_tie, votes}
use Rattle.qn_model.specs.Votes.{view_tick}
use Rattle.qn_model.specs.Phases.{phase}
use Rattle.qn_model.specs.Fitting.{fits}
use Rattle.qn_model.specs.Licences.{out_time, slot_read_since, reset_since, reset_tick, is_seen_slot, reads_slot, writes_reset, is_slot_seen, is_written}
use Rattle.qn_model.specs.Unmet.{is_chosen}
use Rattle.qn_model.specs.Wanted.{rank_of, mail_tick, asks_mail, fence_delay}
use Rattle.qn_model.specs.NodeOutputs.{taken_in}
use Rattle.qn_progress.specs.Pace.{Pace}
use Rattle.qn_progress.specs.Quiet.{is_gentle}
use Rattle.std.proofs.lemmas.Option.{none-some}
use Rattle.qn_progress.proofs.Tools.{at_least_one}
use Rattle.qn_progress.proofs.Totals.{total_zero, total_lt}
use Rattle.qn_progress.proofs.Entries.{read_due, reset_due, one, owed, pending, Plain}

-- the operation that is out writes a reset
abbrev pub resets_out : Option DiskOp → Bool
resets_out (Some (disk.WriteReset rank)) = true
resets_out (Some disk.ReadHeader) = false
resets_out (Some (disk.ReadSlot rank)) = false
resets_out (Some disk.CheckMail) = false
resets_out (Some (disk.WriteClaim number)) = false
resets_out (Some disk.WriteClear) = false
resets_out (Some disk.ReadMail) = false
resets_out (Some (disk.WriteClose number)) = false
resets_out None = false

-- an operation is owed to a rank
pub data Owes (log : List Line) (j : ℕ) : DiskOp → Type 0 where
  OwesRead : read_due log j ≡ true → Owes log j (disk.ReadSlot (rank_of j))
  OwesReset : reset_due log j ≡ true → Owes log j (disk.WriteReset (rank_of j))

-- The fencing is over, or ends by a tick: from an operation that is out, or else from the next entry on, each operation that
-- is owed takes two times that of a disk operation.
pub data Busy (s : Settings) (pace : Pace) (end : ℕ) (log : List Line) : Type 0 where
  Done : pending s log ≡ 0 → resets_out (op_out log) ≡ false → Busy s pace end log
  Idle : op_out log ≡ None → now log + pace.turn + 2 * (pace.disk * pending s log) ≤ end → Busy s pace end log
  Stale : (op : DiskOp) → op_out log ≡ Some op → ask_tick log + pace.disk + 2 * (pace.disk * pending s log) ≤ end → Busy s pace end log
  Mail : op_out log ≡ Some disk.ReadMail → mail_tick log ≡ ask_tick log → 1 ≤ pending s log
      → ask_tick log + 2 * (pace.disk * pending s log) ≤ end → Busy s pace end log
  Fencing : (op : DiskOp) (j : ℕ) → op_out log ≡ Some op → j < length s.nodes → out_time j log < ask_place log → Owes log j op
      → ask_tick log + 2 * (pace.disk * pending s log) ≤ end + pace.disk → Busy s pace end log

pub is_out : {op : DiskOp} {out : Option DiskOp} → out ≡ Some op → ¬ (out ≡ None)
is_out {op = op} e none = absurd (none-some op (sym none ∙ e))

one_left : (a b : Bool) → a ≡ true → 1 ≤ one a + one b
one_left true b e = omega arith
one_left false b e = absurd (false≢true e)

one_right : (a b : Bool) → b ≡ true → 1 ≤ one a + one b
one_right a true e = omega arith
one_right a false e = absurd (false≢true e)

pub owes_one : (log : List Line) (j : ℕ) (op : DiskOp) → Owes log j op → 1 ≤ owed log j
owes_one log j op (OwesRead due) = one_left (read_due log j) (reset_due log j) due
owes_one log j op (OwesReset due) = one_right (read_due log j) (reset_due log j) due

pub some_pending : (s : Settings) (log : List Line) (j : ℕ) → j < length s.nodes → 1 ≤ owed log j → 1 ≤ pending s log
some_pending s log j below owes = by_order (cases_lt 0 (pending s log))
  where
    by_order : (0 < pending s log) ⊎ (pending s log ≤ 0) → 1 ≤ pending s log
    by_order (inl some) = some
    by_order (inr none) = let zero_owed = total_zero (length s.nodes) (owed log) (omega arith) j below in absurd (omega arith)

-- until the fencing is over every entry comes by its end
pub by_end : {s : Settings} {pace : Pace} {end : ℕ} {log : List Line} → Busy s pace end log → (tick : ℕ)
    → (¬ (op_out log ≡ None) → tick ≤ ask_tick log + pace.disk) → tick ≤ now log + pace.turn
    → (tick ≤ end) ⊎ ((pending s log ≡ 0) × (resets_out (op_out log) ≡ false))
by_end (Done none no_reset) tick answers turns = inr (none, no_reset)
by_end (Idle out bound) tick answers turns = inl (omega arith)
by_end (Stale op out bound) tick answers turns = let soon = answers (is_out out) in inl (omega arith)
by_end {s = s} {pace = pace} {log = log} (Mail out asked some bound) tick answers turns =
    let soon = answers (is_out out) in let step = at_least_one pace.disk (pending s log) some in inl (omega arith)
by_end {s = s} {pace = pace} {log = log} (Fencing op j out below place owes bound) tick answers turns =
    let soon = answers (is_out out) in
    let step = at_least_one pace.disk (pending s log) (some_pending s log j below (owes_one log j op owes)) in inl (omega arith)

-- a line, by what comes out of it
abbrev pub line_with : List Line → ℕ → What → List Out → Line
line_with past tick entry outs = record { tick = tick; what = entry; asked = (if is_answer entry then ask_place past else 0); outs = outs }

-- what is known of an entry of a quiet node
pub record Quietly (s : Settings) (t : Timing) (me : ℕ) (pace : Pace) (past : List Line) (tick : ℕ) (entry : What) : Type 0 where
  pub was_up : phase s past ≡ Up
  pub up : phase s (taken_in past tick entry) ≡ Up
  pub times : timing (taken_in past tick entry) ≡ t
  pub fitting : fits s me past entry ≡ true
  pub plain : Plain (line_with past tick entry [])
  pub gentle : is_gentle entry ≡ true
  pub quorate : quorate_with_tie s (taken_in past tick entry) tick ≡ true
  pub chosen : is_chosen s me (taken_in past tick entry) ≡ true
  pub delays : (j : ℕ) → j < length s.nodes → is_in_view past j ≡ false → view_tick (votes past) + fence_delay s j ≤ tick
  pub answers : ¬ (op_out past ≡ None) → tick ≤ ask_tick past + pace.disk
  pub turns : tick ≤ now past + pace.turn

-- a line that asks
pub asked_out : (past : List Line) (tick : ℕ) (entry : What) (outs : List Out) (op : DiskOp) → disk_of outs ≡ Some op
    → (op_out (line_with past tick entry outs ∷ past) ≡ Some op) × (ask_tick (line_with past tick entry outs ∷ past) ≡ tick)
    × (ask_place (line_with past tick entry outs ∷ past) ≡ suc (length past))
unfolding op_out ask_tick ask_place
asked_out past tick entry outs op e = (
  ap (λ o. option_or o (if is_answer entry then None else op_out past)) e,
  ap (λ o. if is_some o then tick else ask_tick past) e,
  ap (λ o. if is_some o then suc (length past) else ask_place past) e,
)

pub asked_mail : (past : List Line) (tick : ℕ) (entry : What) (outs : List Out) → disk_of outs ≡ Some disk.ReadMail → mail_tick (line_with past tick entry outs ∷ past) ≡ tick
unfolding mail_tick
asked_mail past tick entry outs e = ap (λ o. if asks_mail o then tick else mail_tick past) e

-- a line that asks nothing
pub silent : (past : List Line) (tick : ℕ) (entry : What) (outs : List Out) → disk_of outs ≡ None
    → (op_out (line_with past tick entry outs ∷ past) ≡ (if is_answer entry then None else op_out past)) × (ask_tick (line_with past tick entry outs ∷ past) ≡ ask_tick past)
    × (ask_place (line_with past tick entry outs ∷ past) ≡ ask_place past) × (mail_tick (line_with past tick entry outs ∷ past) ≡ mail_tick past)
unfolding op_out ask_tick ask_place mail_tick
silent past tick entry outs e = (
  ap (λ o. option_or o (if is_answer entry then None else op_out past)) e,
  ap (λ o. if is_some o then tick else ask_tick past) e,
  ap (λ o. if is_some o then suc (length past) else ask_place past) e,
  ap (λ o. if asks_mail o then tick else mail_tick past) e,
)

-- what is owed does not depend on what comes out
pub owed_alike : (past : List Line) (tick : ℕ) (entry : What) (outs : List Out) (j : ℕ)
    → (read_due (line_with past tick entry outs ∷ past) j ≡ read_due (taken_in past tick entry) j) × (reset_due (line_with past tick entry outs ∷ past) j ≡ reset_due (taken_in past tick entry) j)
unfolding view out_time slot_read_since reset_since
owed_alike past tick entry outs j = (refl, refl)

pub pending_alike : (s : Settings) (past : List Line) (tick : ℕ) (entry : What) (outs : List Out)
    → pending s (line_with past tick entry outs ∷ past) ≡ pending s (taken_in past tick entry)
pending_alike s past tick entry outs = Rattle.qn_progress.proofs.Totals.total_same (length s.nodes) (owed (line_with past tick entry outs ∷ past)) (owed (taken_in past tick entry))
    (λ j below. let both = owed_alike past tick entry outs j in let reads = ap one both.0 in let writes = ap one both.1 in omega arith)

-- What a licence and a free member rest on in the log of a node.
use Rattle.std.proofs.Common.{◌≡◌, ℕ, suc, ◌+◌, ◌<◌, ◌≤◌, Bool, true, false, List, [], ◌∷◌, length, Some, None, Option, refl, sym, ap, ◌∙◌, subst, arith, ◌&&◌, ◌||◌, ◌==◌, not, if◌then◌else◌, inl, inr, nat_le, nat_lt}
use Rattle.std.specs.Option.{option_or, option_map_or}
use Rattle.std.proofs.lemmas.Bool.{false≢true, eqb-true, ltb-true, leb-true, not-true}
use Rattle.std.proofs.lemmas.Option.{same_Some}
use Rattle.qn_base.specs.declared.ids.Rank.{Rank}
use Rattle.qn_base.specs.declared.ids.View.{View}
use Rattle.qn_base.specs.Members.{is_member}
use Rattle.qn_base.specs.lemmas.Options.{none_is_not_some}
use Rattle.qn_base.specs.lemmas.Bools.{first_of_both, second_of_both}
use Rattle.qn_model.specs.declared.configuration.Settings.{Settings}
use Rattle.qn_model.specs.declared.seen.SlotSeen.{SlotSeen}
use Rattle.qn_model.specs.declared.packets.Tell.{Tell}
use Rattle.qn_model.specs.declared.entries.What.{What}
use Rattle.qn_model.specs.declared.entries.What.TheVariants as what
use Rattle.qn_model.specs.declared.life.Phase.{Phase}
use Rattle.qn_model.specs.declared.outputs.DiskOp.{DiskOp}
use Rattle.qn_model.specs.declared.outputs.DiskOp.TheVariants as disk
use Rattle.qn_model.specs.lemmas.Logs.{out_time-within}
use Rattle.qn_model.specs.Log.{Line, timing, has_start, is_answer, is_view, view_of}
use Rattle.qn_model.specs.Phases.{phase, is_up}
use Rattle.qn_model.specs.Holding.{holds}
use Rattle.qn_model.specs.NodeVotes.{view, install, is_in_view, answers, released}
use Rattle.qn_model.specs.Hearing.{told, tells}
use Rattle.qn_model.specs.Licences.{out_time, starts_out_time, slot_read_since, reset_since, reads_slot, writes_reset, is_clean_slot, is_clean, is_fenced, is_licensed, reset_tick}
use Rattle.qn_model.specs.Unmet.{chosen}
use Rattle.qn_model.specs.lemmas.ChosenRanks.{same_chosen}
use Rattle.qn_model.specs.Wanted.{rank_of}
use Rattle.qn_model.specs.Fitting.{answers_op}
use Rattle.qn_model.specs.Moments.{Before, Itself, Later}
use Rattle.qn_safety.specs.Earlier.{before_length}
use Rattle.qn_safety.proofs.Says.{Reason}
use Rattle.qn_safety.proofs.Clear.{why_clear}
use Rattle.qn_safety.proofs.Logs.{Made, IsLine, before_outs, made_line, made_tail, line_at, disk_reason, start_reason, AnswerOf, answer_of}
use Rattle.qn_safety.proofs.Apt.{slot_answers, reset_answers, BootStep, BeginStep, HeaderStep, SlotStep, CleanSlotStep, CheckStep, ClaimStep, ClearStep, boot_step_of}

-- and only moves on
pub out_time_grows : (rank : ℕ) {old new : List Line} → Before old new → out_time rank old ≤ out_time rank new
unfolding out_time
out_time_grows rank Itself = omega arith
out_time_grows rank {old = old} (Later newest {new = new} more) = by_start (starts_out_time rank newest.what) (out_time_grows rank more) (out_time-within rank old) (before_length more)
  where
    by_start : (b : Bool) → out_time rank old ≤ out_time rank new → out_time rank old ≤ length old → length old ≤ length new
        → out_time rank old ≤ (if b then suc (length new) else out_time rank new)
    by_start true grows inside long = omega arith
    by_start false grows inside long = grows

-- an entry that does not start the out-time of a rank leaves it outside the view
outside_on : (rank : ℕ) (entry : What) (before : Option View) → starts_out_time rank entry ≡ false
    → option_map_or (λ view. is_member view.members rank) before false ≡ false
    → option_map_or (λ view. is_member view.members rank) (option_or (view_of entry) before) false ≡ false
outside_on rank what.Begin before starts outside = outside
outside_on rank what.BeginClean before starts outside = outside
outside_on rank (what.Header seen) before starts outside = outside
outside_on rank (what.SlotRead other seen) before starts outside = outside
outside_on rank (what.MailChecked seen) before starts outside = outside
outside_on rank (what.Claimed ok) before starts outside = outside
outside_on rank (what.Cleared ok) before starts outside = outside
outside_on rank (what.MailRead seen) before starts outside = outside
outside_on rank (what.MailWritten other ok) before starts outside = outside
outside_on rank (what.View installed) before starts outside = starts
outside_on rank (what.Ask ask) before starts outside = outside
outside_on rank (what.Tell tell) before starts outside = outside
outside_on rank (what.Device agrees) before starts outside = outside
outside_on rank what.Tick before starts outside = outside
outside_on rank (what.Stopped ok) before starts outside = outside
outside_on rank what.Leave before starts outside = outside
outside_on rank (what.Closed ok) before starts outside = outside

-- a rank that was outside the view, and whose out-time did not begin since, is outside still
pub stays_out : (rank : ℕ) {old new : List Line} → Before old new → out_time rank new ≤ length old → is_in_view old rank ≡ false → is_in_view new rank ≡ false
unfolding out_time view
stays_out rank Itself since outside = outside
stays_out rank {old = old} (Later newest {new = new} more) since outside = by_start (starts_out_time rank newest.what) refl since (λ begun. stays_out rank more begun outside)
  where
    by_start : (b : Bool) → starts_out_time rank newest.what ≡ b → (if b then suc (length new) else out_time rank new) ≤ length old
        → (out_time rank new ≤ length old → is_in_view new rank ≡ false) → is_in_view (newest ∷ new) rank ≡ false
    by_start true is begun rest = absurd (let long = before_length more in omega arith)
    by_start false is begun rest = outside_on rank newest.what (view new) is (rest begun)

-- a read of a slot in the log that passes a test and was asked for after a place
pub record SlotRead (test : SlotSeen → Bool) (rank place : ℕ) (log : List Line) : Type 0 where
  pub line : Line
  pub past : List Line
  pub back : Before (line ∷ past) log
  pub behind : place < line.asked
  pub reads : reads_slot test rank line.what ≡ true

pub read_found : (place : ℕ) (test : SlotSeen → Bool) (rank : ℕ) (log : List Line) → slot_read_since place test rank log ≡ true → SlotRead test rank place log
unfolding slot_read_since
read_found place test rank [] e = absurd (false≢true e)
read_found place test rank (line ∷ past) e = by_here (nat_lt place line.asked && reads_slot test rank line.what) refl e (λ was. read_found place test rank past was)
  where
    by_here : (b : Bool) → (nat_lt place line.asked && reads_slot test rank line.what) ≡ b → (b || slot_read_since place test rank past) ≡ true
        → (slot_read_since place test rank past ≡ true → SlotRead test rank place past) → SlotRead test rank place (line ∷ past)
    by_here true is or rest = record {
      line = line;
      past = past;
      back = Itself;
      behind = ltb-true place line.asked (first_of_both (nat_lt place line.asked) (reads_slot test rank line.what) is);
      reads = second_of_both (nat_lt place line.asked) (reads_slot test rank line.what) is;
    }
    by_here false is or rest = let was = rest or in record { line = was.line; past = was.past; back = Later line was.back; behind = was.behind; reads = was.reads }

-- a reset in the log that was written and was asked for after a place
pub record ResetDone (rank place tick : ℕ) (log : List Line) : Type 0 where
  pub line : Line
  pub past : List Line
  pub back : Before (line ∷ past) log
  pub behind : place < line.asked
  pub writes : writes_reset rank line.what ≡ true
  pub at : line.tick ≡ tick

pub reset_found : (place rank tick : ℕ) (log : List Line) → reset_since place rank log ≡ Some tick → ResetDone rank place tick log
unfolding reset_since
reset_found place rank tick [] e = none_is_not_some tick e
reset_found place rank tick (line ∷ past) e = by_here (nat_lt place line.asked && writes_reset rank line.what) refl e (λ was. reset_found place rank tick past was)
  where
    by_here : (b : Bool) → (nat_lt place line.asked && writes_reset rank line.what) ≡ b → (if b then Some line.tick else reset_since place rank past) ≡ Some tick
        → (reset_since place rank past ≡ Some tick → ResetDone rank place tick past) → ResetDone rank place tick (line ∷ past)
    by_here true is found rest = record {
      line = line;
      past = past;
      back = Itself;
      behind = ltb-true place line.asked (first_of_both (nat_lt place line.asked) (writes_reset rank line.what) is);
      writes = second_of_both (nat_lt place line.asked) (writes_reset rank line.what) is;
      at = same_Some _ _ found;
    }
    by_here false is found rest = let was = rest found in record { line = was.line; past = was.past; back = Later line was.back; behind = was.behind; writes = was.writes; at = was.at }

-- a licence is a clean read, or a reset at least msgwait ago
pub data Licence (rank tick : ℕ) (log : List Line) : Type 0 where
  ByClean : SlotRead is_clean_slot rank (out_time rank log) log → Licence rank tick log
  ByReset : (written : ℕ) → ResetDone rank (out_time rank log) written log → written + (timing log).msgwait ≤ tick → Licence rank tick log

pub licence_of : (rank tick : ℕ) (log : List Line) → is_licensed log rank tick ≡ true → Licence rank tick log
licence_of rank tick log e = by_clean (is_clean log rank) refl e
  where
    by_reset : (found : Option ℕ) → reset_tick log rank ≡ found → option_map_or (λ written. nat_le (written + (timing log).msgwait) tick) found false ≡ true → Licence rank tick log
    by_reset None is e = absurd (false≢true e)
    by_reset (Some written) is e = ByReset written (reset_found (out_time rank log) rank written log is) (leb-true _ tick e)

    by_clean : (b : Bool) → is_clean log rank ≡ b → (b || is_fenced log rank tick) ≡ true → Licence rank tick log
    by_clean true is e = ByClean (read_found (out_time rank log) is_clean_slot rank log is)
    by_clean false is e = by_reset (reset_tick log rank) refl e

-- the line that asked for a read of another slot, or for a reset: the node was up and the rank outside its view
pub record FencingAsk (s : Settings) (rank : ℕ) (line : Line) (past : List Line) : Type 0 where
  pub asking : Line
  pub older : List Line
  pub back : Before (asking ∷ older) past
  pub place : line.asked ≡ suc (length older)
  pub up : is_up (phase s (asking ∷ older)) ≡ true
  pub outside : is_in_view (asking ∷ older) rank ≡ false

pub read_is : (test : SlotSeen → Bool) (rank : ℕ) (entry : What) → reads_slot test rank entry ≡ true
    → (other : Rank) × (seen : SlotSeen) × (entry ≡ what.SlotRead other seen) × (other.0 ≡ rank) × (test seen ≡ true)
read_is test rank what.Begin e = absurd (false≢true e)
read_is test rank what.BeginClean e = absurd (false≢true e)
read_is test rank (what.Header seen) e = absurd (false≢true e)
read_is test rank (what.SlotRead other seen) e = (other, seen, refl, eqb-true other.0 rank (first_of_both (other.0 == rank) (test seen) e), second_of_both (other.0 == rank) (test seen) e)
read_is test rank (what.MailChecked seen) e = absurd (false≢true e)
read_is test rank (what.Claimed ok) e = absurd (false≢true e)
read_is test rank (what.Cleared ok) e = absurd (false≢true e)
read_is test rank (what.MailRead seen) e = absurd (false≢true e)
read_is test rank (what.MailWritten other ok) e = absurd (false≢true e)
read_is test rank (what.View installed) e = absurd (false≢true e)
read_is test rank (what.Ask ask) e = absurd (false≢true e)
read_is test rank (what.Tell tell) e = absurd (false≢true e)
read_is test rank (what.Device agrees) e = absurd (false≢true e)
read_is test rank what.Tick e = absurd (false≢true e)
read_is test rank (what.Stopped ok) e = absurd (false≢true e)
read_is test rank what.Leave e = absurd (false≢true e)
read_is test rank (what.Closed ok) e = absurd (false≢true e)

pub write_is : (rank : ℕ) (entry : What) → writes_reset rank entry ≡ true → (other : Rank) × (entry ≡ what.MailWritten other true) × (other.0 ≡ rank)
write_is rank what.Begin e = absurd (false≢true e)
write_is rank what.BeginClean e = absurd (false≢true e)
write_is rank (what.Header seen) e = absurd (false≢true e)
write_is rank (what.SlotRead other seen) e = absurd (false≢true e)
write_is rank (what.MailChecked seen) e = absurd (false≢true e)
write_is rank (what.Claimed ok) e = absurd (false≢true e)
write_is rank (what.Cleared ok) e = absurd (false≢true e)
write_is rank (what.MailRead seen) e = absurd (false≢true e)
write_is rank (what.MailWritten other true) e = (other, refl, eqb-true other.0 rank (first_of_both (other.0 == rank) true e))
write_is rank (what.MailWritten other false) e = absurd (false≢true (second_of_both (other.0 == rank) false e))
write_is rank (what.View installed) e = absurd (false≢true e)
write_is rank (what.Ask ask) e = absurd (false≢true e)
write_is rank (what.Tell tell) e = absurd (false≢true e)
write_is rank (what.Device agrees) e = absurd (false≢true e)
write_is rank what.Tick e = absurd (false≢true e)
write_is rank (what.Stopped ok) e = absurd (false≢true e)
write_is rank what.Leave e = absurd (false≢true e)
write_is rank (what.Closed ok) e = absurd (false≢true e)

-- the phase and the view do not look at the outputs of the newest line
pub same_phase : (s : Settings) (line : Line) (past : List Line) → phase s (before_outs line past) ≡ phase s (line ∷ past)
unfolding phase
same_phase s line past = refl

pub same_view_at : (line : Line) (past : List Line) (rank : ℕ) → is_in_view (before_outs line past) rank ≡ is_in_view (line ∷ past) rank
unfolding view
same_view_at line past rank = refl

pub view_before : (line : Line) (past : List Line) → view (before_outs line past) ≡ view (line ∷ past)
unfolding view
view_before line past = refl

-- what is no view leaves the install number
no_install : (line : Line) (past : List Line) → is_view line.what ≡ false → install (line ∷ past) ≡ install past
unfolding install
no_install line past none = ap (λ b. if b then suc (install past) else install past) none

-- a step of the boot reads the own slot alone
pub own_read : {number : ℕ} (s : Settings) (me : ℕ) (entry : What) (op : DiskOp) (p : Phase) (rank : Rank) → BootStep me number entry op p → op ≡ disk.ReadSlot rank → me ≡ rank.0
own_read s me entry op p rank (BeginStep clean) e = absurd (cc)
own_read s me entry op p rank (HeaderStep seen) e = ap (λ r. r.0) (read_same e)
  where
    read_same : disk.ReadSlot (rank_of me) ≡ disk.ReadSlot rank → rank_of me ≡ rank
    read_same q = cc
own_read s me entry op p rank (SlotStep other own) e = absurd (cc)
own_read s me entry op p rank (CleanSlotStep other own) e = absurd (cc)
own_read s me entry op p rank (CheckStep seen) e = absurd (cc)
own_read s me entry op p rank ClaimStep e = absurd (cc)
own_read s me entry op p rank ClearStep e = absurd (cc)

pub no_reset : {number : ℕ} (s : Settings) (me : ℕ) (entry : What) (op : DiskOp) (p : Phase) (rank : Rank) → BootStep me number entry op p → op ≡ disk.WriteReset rank → ⊥
no_reset s me entry op p rank (BeginStep clean) e = cc
no_reset s me entry op p rank (HeaderStep seen) e = cc
no_reset s me entry op p rank (SlotStep other own) e = cc
no_reset s me entry op p rank (CleanSlotStep other own) e = cc
no_reset s me entry op p rank (CheckStep seen) e = cc
no_reset s me entry op p rank ClaimStep e = cc
no_reset s me entry op p rank ClearStep e = cc

module _ {s : Settings} {me : ℕ} {line : Line} {past : List Line} (made : Made s me past) (rank : ℕ) where
  ask_at : (other : Rank) → other.0 ≡ rank → (answer : AnswerOf line past)
      → (is_up (phase s (before_outs answer.asked.line answer.asked.past)) ≡ true) × (is_in_view (before_outs answer.asked.line answer.asked.past) other.0 ≡ false)
      → FencingAsk s rank line past
  ask_at other same answer state = record {
    asking = answer.asked.line;
    older = answer.asked.past;
    back = answer.asked.back;
    place = answer.place;
    up = subst (λ p. is_up p ≡ true) (same_phase s answer.asked.line answer.asked.past) state.0;
    outside = subst (λ r. is_in_view (answer.asked.line ∷ answer.asked.past) r ≡ false) same
        (subst (λ b. b ≡ false) (same_view_at answer.asked.line answer.asked.past other.0) state.1);
  }

  read_by : (answer : AnswerOf line past) (other : Rank) → other.0 ≡ rank → ¬ (rank ≡ me) → answer.op ≡ disk.ReadSlot other → FencingAsk s rank line past
  read_by answer other same differs is =
      by_reason (disk_reason (line_at answer.asked.back made) (disk.ReadSlot other) (answer.asked.gave ∙ ap Some is))
    where
      by_reason : Reason s me answer.asked.past answer.asked.line.what (before_outs answer.asked.line answer.asked.past) (disk.ReadSlot other) → FencingAsk s rank line past
      by_reason (inl boots) = absurd (differs (sym same ∙ sym (own_read s me answer.asked.line.what _ _ other
          (boot_step_of s me _ answer.asked.line.what (disk.ReadSlot other) false boots.goes_on boots.next) refl)))
      by_reason (inr lives) = ask_at other same answer (lives.state.0, lives.state.1)

  write_by : (answer : AnswerOf line past) (other : Rank) → other.0 ≡ rank → answer.op ≡ disk.WriteReset other → FencingAsk s rank line past
  write_by answer other same is =
      by_reason (disk_reason (line_at answer.asked.back made) (disk.WriteReset other) (answer.asked.gave ∙ ap Some is))
    where
      by_reason : Reason s me answer.asked.past answer.asked.line.what (before_outs answer.asked.line answer.asked.past) (disk.WriteReset other) → FencingAsk s rank line past
      by_reason (inl boots) = absurd (no_reset s me answer.asked.line.what _ _ other
          (boot_step_of s me _ answer.asked.line.what (disk.WriteReset other) false boots.goes_on boots.next) refl)
      by_reason (inr lives) = ask_at other same answer (lives.state.0, lives.state.1)

-- a read of another node's slot was asked for while up and while that node was outside the view
pub slot_ask : {s : Settings} {me : ℕ} {line : Line} {past : List Line} → Made s me (line ∷ past) → (test : SlotSeen → Bool) (rank : ℕ) → ¬ (rank ≡ me)
    → reads_slot test rank line.what ≡ true → FencingAsk s rank line past
slot_ask {s = s} {me = me} {line = line} {past = past} made test rank differs reads =
    let read = read_is test rank line.what reads in
    let answer = answer_of (made_line made) (ap is_answer read.2) in
    let op = slot_answers (Some answer.op) read.0 read.1 (subst (λ w. answers_op (Some answer.op) w ≡ true) read.2 answer.answer) in
    read_by (made_tail made) rank answer op.0 (op.2 ∙ read.3) differs (same_Some _ _ op.1)

pub written_ask : {s : Settings} {me : ℕ} {line : Line} {past : List Line} → Made s me (line ∷ past) → (rank : ℕ)
    → writes_reset rank line.what ≡ true → FencingAsk s rank line past
written_ask {s = s} {me = me} {line = line} {past = past} made rank writes =
    let wrote = write_is rank line.what writes in
    let answer = answer_of (made_line made) (ap is_answer wrote.1) in
    let op = reset_answers (Some answer.op) wrote.0 true (subst (λ w. answers_op (Some answer.op) w ≡ true) wrote.1 answer.answer) in
    write_by (made_tail made) rank answer op.0 (op.2 ∙ wrote.2) (same_Some _ _ op.1)

-- a Tell that a node counts: it answers, and passes a test
pub record TellFound (test : Tell → Bool) (rank : ℕ) (log : List Line) : Type 0 where
  pub line : Line
  pub past : List Line
  pub tell : Tell
  pub back : Before (line ∷ past) log
  pub reads : line.what ≡ what.Tell tell
  pub sender : tell.from.0 ≡ rank
  pub answers : answers past tell ≡ true
  pub passes : test tell ≡ true
  pub stays : install past ≡ install log

tell_is : (test : Tell → Bool) (rank : ℕ) (past : List Line) (entry : What) → tells test rank past entry ≡ true
    → (tell : Tell) × (entry ≡ what.Tell tell) × (tell.from.0 ≡ rank) × (answers past tell ≡ true) × (test tell ≡ true)
tell_is test rank past what.Begin e = absurd (false≢true e)
tell_is test rank past what.BeginClean e = absurd (false≢true e)
tell_is test rank past (what.Header seen) e = absurd (false≢true e)
tell_is test rank past (what.SlotRead other seen) e = absurd (false≢true e)
tell_is test rank past (what.MailChecked seen) e = absurd (false≢true e)
tell_is test rank past (what.Claimed ok) e = absurd (false≢true e)
tell_is test rank past (what.Cleared ok) e = absurd (false≢true e)
tell_is test rank past (what.MailRead seen) e = absurd (false≢true e)
tell_is test rank past (what.MailWritten other ok) e = absurd (false≢true e)
tell_is test rank past (what.View installed) e = absurd (false≢true e)
tell_is test rank past (what.Ask ask) e = absurd (false≢true e)
tell_is test rank past (what.Tell tell) e =
    let both = first_of_both (tell.from.0 == rank && answers past tell) (test tell) e in (
      tell,
      refl,
      eqb-true tell.from.0 rank (first_of_both (tell.from.0 == rank) (answers past tell) both),
      second_of_both (tell.from.0 == rank) (answers past tell) both,
      second_of_both (tell.from.0 == rank && answers past tell) (test tell) e,
    )
tell_is test rank past (what.Device agrees) e = absurd (false≢true e)
tell_is test rank past what.Tick e = absurd (false≢true e)
tell_is test rank past (what.Stopped ok) e = absurd (false≢true e)
tell_is test rank past what.Leave e = absurd (false≢true e)
tell_is test rank past (what.Closed ok) e = absurd (false≢true e)

pub heard : (test : Tell → Bool) (rank : ℕ) (log : List Line) → told test rank log ≡ true → TellFound test rank log
unfolding told
heard test rank [] e = absurd (false≢true e)
heard test rank (line ∷ past) e = by_here (tells test rank past line.what) refl e (λ was. heard test rank past was)
  where
    by_here : (b : Bool) → tells test rank past line.what ≡ b → (b || (not (is_view line.what) && told test rank past)) ≡ true
        → (told test rank past ≡ true → TellFound test rank past) → TellFound test rank (line ∷ past)
    by_here true is or rest =
        let it = tell_is test rank past line.what is in
        record { line = line; past = past; tell = it.0; back = Itself; reads = it.1; sender = it.2; answers = it.3; passes = it.4; stays = sym (no_install line past (ap is_view it.1)) }
    by_here false is or rest =
        let was = rest (second_of_both (not (is_view line.what)) (told test rank past) or) in
        let unseen = not-true (is_view line.what) (first_of_both (not (is_view line.what)) (told test rank past) or) in
        record { line = was.line; past = was.past; tell = was.tell; back = Later line was.back; reads = was.reads; sender = was.sender; answers = was.answers; passes = was.passes; stays = was.stays ∙ sym (no_install line past unseen) }

-- what a start of a line rests on, read off the log with that line
pub record StartFacts (s : Settings) (me : ℕ) (line : Line) (past : List Line) : Type 0 where
  pub up : is_up (phase s (line ∷ past)) ≡ true
  pub idle : holds (before_outs line past) ≡ false
  pub released : released s (before_outs line past) ≡ true
  pub mine : chosen s (line ∷ past) ≡ Some me
  pub free : (j : ℕ) → j < length s.nodes → is_in_view (line ∷ past) j ≡ true → ¬ (j ≡ me) → TellFound (λ tell. not tell.holds) j (line ∷ past)
  pub licensed : (j : ℕ) → j < length s.nodes → is_in_view (line ∷ past) j ≡ false → Licence j line.tick (line ∷ past)

same_told : (test : Tell → Bool) (rank : ℕ) (line : Line) (past : List Line) → told test rank (before_outs line past) ≡ told test rank (line ∷ past)
unfolding told
same_told test rank line past = refl

same_out_time : (rank : ℕ) (line : Line) (past : List Line) → out_time rank (before_outs line past) ≡ out_time rank (line ∷ past)
unfolding out_time
same_out_time rank line past = refl

same_timing : (line : Line) (past : List Line) → timing (before_outs line past) ≡ timing (line ∷ past)
unfolding timing
same_timing line past = refl

same_read : {s : Settings} {me : ℕ} {line : Line} {past : List Line} → IsLine s me line past → (place : ℕ) (test : SlotSeen → Bool) (rank : ℕ)
    → slot_read_since place test rank (before_outs line past) ≡ slot_read_since place test rank (line ∷ past)
unfolding slot_read_since
same_read {line = line} {past = past} it place test rank =
    ap (λ a. (nat_lt place a && reads_slot test rank line.what) || slot_read_since place test rank past) (sym it.place)

same_reset : {s : Settings} {me : ℕ} {line : Line} {past : List Line} → IsLine s me line past → (place rank : ℕ)
    → reset_since place rank (before_outs line past) ≡ reset_since place rank (line ∷ past)
unfolding reset_since
same_reset {line = line} {past = past} it place rank =
    ap (λ a. if nat_lt place a && writes_reset rank line.what then Some line.tick else reset_since place rank past) (sym it.place)

same_licence : {s : Settings} {me : ℕ} {line : Line} {past : List Line} → IsLine s me line past → (rank tick : ℕ)
    → is_licensed (before_outs line past) rank tick ≡ is_licensed (line ∷ past) rank tick
same_licence {line = line} {past = past} it rank tick =
    let place = same_out_time rank line past in
    let clean : is_clean (before_outs line past) rank ≡ is_clean (line ∷ past) rank =
    ap (λ p. slot_read_since p is_clean_slot rank (before_outs line past)) place ∙ same_read it (out_time rank (line ∷ past)) is_clean_slot rank in
    let reset : reset_tick (before_outs line past) rank ≡ reset_tick (line ∷ past) rank =
    ap (λ p. reset_since p rank (before_outs line past)) place ∙ same_reset it (out_time rank (line ∷ past)) rank in
    ap (λ c. c || is_fenced (before_outs line past) rank tick) clean
    ∙ ap (λ r. is_clean (line ∷ past) rank || option_map_or (λ written. nat_le (written + (timing (before_outs line past)).msgwait) tick) r false) reset
    ∙ ap (λ t. is_clean (line ∷ past) rank || option_map_or (λ written. nat_le (written + t.msgwait) tick) (reset_tick (line ∷ past) rank) false) (same_timing line past)

pub start_facts : {s : Settings} {me : ℕ} {line : Line} {past : List Line} → IsLine s me line past → has_start line.outs ≡ true → StartFacts s me line past
start_facts {s = s} {me = me} {line = line} {past = past} it start =
    let clear = why_clear s me (before_outs line past) line.tick ((start_reason it start).clear) in
    record {
      up = subst (λ p. is_up p ≡ true) (same_phase s line past) clear.up;
      idle = clear.idle;
      released = clear.released;
      mine = sym (same_chosen s (before_outs line past) (line ∷ past) (view_before line past)) ∙ clear.mine;
      free = λ j below member differs. heard (λ tell. not tell.holds) j (line ∷ past)
          (sym (same_told (λ tell. not tell.holds) j line past) ∙ clear.free j below (same_view_at line past j ∙ member) differs);
      licensed = λ j below outside. licence_of j line.tick (line ∷ past) (sym (same_licence it j line.tick) ∙ clear.licensed j below (same_view_at line past j ∙ outside));
    }

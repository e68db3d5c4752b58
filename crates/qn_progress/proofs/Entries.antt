-- What an entry that installs no view and ends no boot leaves of what a node knows of the others.
use Rattle.std.proofs.Common.{◌≡◌, ℕ, suc, ◌+◌, ◌≤◌, ◌<◌, Bool, true, false, List, ◌∷◌, length, Some, None, Option, refl, sym, ap, ◌∙◌, subst, arith, ◌||◌, ◌&&◌, not, if◌then◌else◌, is_some, nat_lt}
use Rattle.std.specs.Option.{option_or, option_map_or}
use Rattle.std.proofs.lemmas.Bool.{false≢true, true≢false, lt-ltb}
use Rattle.qn_base.specs.declared.ids.View.{View}
use Rattle.qn_base.specs.Members.{is_member}
use Rattle.qn_model.specs.declared.configuration.Settings.{Settings}
use Rattle.qn_model.specs.declared.seen.SlotSeen.{SlotSeen}
use Rattle.qn_model.specs.declared.entries.What.{What}
use Rattle.qn_model.specs.declared.entries.What.TheVariants as what
use Rattle.qn_model.specs.Log.{Line, is_view, view_of, is_answer}
use Rattle.qn_model.specs.NodeVotes.{view, install, is_in_view, votes}
use Rattle.qn_model.specs.Votes.{view_tick}
use Rattle.qn_model.specs.Licences.{starts_out_time, out_time, slot_read_since, reset_since, reads_slot, writes_reset, is_clean, is_slot_seen, is_written, reset_tick, is_seen_slot, is_clean_slot}
use Rattle.qn_progress.specs.Pace.{total}
use Rattle.qn_progress.proofs.Totals.{total_le, total_same}
use Rattle.qn_model.specs.Fitting.{is_cleared}

-- the slot of a rank is still to be read, its mailbox still to be written
abbrev pub read_due : List Line → ℕ → Bool
read_due log rank = not (is_in_view log rank) && not (is_slot_seen log rank)

abbrev pub reset_due : List Line → ℕ → Bool
reset_due log rank = not (is_in_view log rank) && not (is_clean log rank) && not (is_written log rank)

abbrev pub one : Bool → ℕ
one b = if b then 1 else 0

abbrev pub owed : List Line → ℕ → ℕ
owed log rank = one (read_due log rank) + one (reset_due log rank)

-- how many operations the fencing still owes, at most
abbrev pub pending : Settings → List Line → ℕ
pending s log = total (length s.nodes) (owed log)

-- a view is installed where the install number rises
pub no_view : (line : Line) (past : List Line) → install (line ∷ past) ≡ install past → is_view line.what ≡ false
unfolding install
no_view line past e = by_test (is_view line.what) refl
  where
    by_test : (b : Bool) → is_view line.what ≡ b → is_view line.what ≡ false
    by_test false is = is
    by_test true is =
        let more : suc (install past) ≡ install past = sym (ap (λ b. if b then suc (install past) else install past) is) ∙ e in absurd (omega arith)

pub plain_entry : (entry : What) → is_view entry ≡ false → is_cleared entry ≡ false → (rank : ℕ) → starts_out_time rank entry ≡ false
plain_entry (what.View installed) v g rank = absurd (true≢false v)
plain_entry (what.Cleared ok) v g rank = absurd (true≢false g)
plain_entry what.Begin v g rank = refl
plain_entry what.BeginClean v g rank = refl
plain_entry (what.Header seen) v g rank = refl
plain_entry (what.SlotRead other seen) v g rank = refl
plain_entry (what.MailChecked seen) v g rank = refl
plain_entry (what.Claimed ok) v g rank = refl
plain_entry (what.MailRead seen) v g rank = refl
plain_entry (what.MailWritten other ok) v g rank = refl
plain_entry (what.Ask ask) v g rank = refl
plain_entry (what.Tell tell) v g rank = refl
plain_entry (what.Device agrees) v g rank = refl
plain_entry what.Tick v g rank = refl
plain_entry (what.Stopped ok) v g rank = refl
plain_entry what.Leave v g rank = refl
plain_entry (what.Closed ok) v g rank = refl

-- the line is plain
pub record Plain (line : Line) : Type 0 where
  pub not_view : is_view line.what ≡ false
  pub stays_out : (rank : ℕ) → starts_out_time rank line.what ≡ false

pub view_same : {line : Line} (past : List Line) → Plain line → view (line ∷ past) ≡ view past
unfolding view
view_same {line = line} past plain = by_view (view_of line.what) plain.not_view
  where
    by_view : (v : Option View) → is_some v ≡ false → option_or v (view past) ≡ view past
    by_view None e = refl
    by_view (Some installed) e = absurd (true≢false e)

pub in_view_same : {line : Line} (past : List Line) → Plain line → (rank : ℕ) → is_in_view (line ∷ past) rank ≡ is_in_view past rank
in_view_same past plain rank = ap (λ v. option_map_or (λ installed. is_member installed.members rank) v false) (view_same past plain)

pub out_same : {line : Line} (past : List Line) → Plain line → (rank : ℕ) → out_time rank (line ∷ past) ≡ out_time rank past
unfolding out_time
out_same {line = line} past plain rank = ap (λ b. if b then suc (length past) else out_time rank past) (plain.stays_out rank)

pub view_tick_same : {line : Line} (past : List Line) → Plain line → view_tick (votes (line ∷ past)) ≡ view_tick (votes past)
unfolding votes view_tick
view_tick_same {line = line} past plain = by_entry line.what plain.not_view
  where
    by_entry : (entry : What) → is_view entry ≡ false
        → Rattle.qn_model.specs.Votes.newer_view_tick (record { tick = line.tick; what = Rattle.qn_model.specs.NodeVotes.vote_of past entry }) (view_tick (votes past)) ≡ view_tick (votes past)
    by_entry (what.View installed) e = absurd (true≢false e)
    by_entry what.Begin e = refl
    by_entry what.BeginClean e = refl
    by_entry (what.Header seen) e = refl
    by_entry (what.SlotRead other seen) e = refl
    by_entry (what.MailChecked seen) e = refl
    by_entry (what.Claimed ok) e = refl
    by_entry (what.Cleared ok) e = refl
    by_entry (what.MailRead seen) e = refl
    by_entry (what.MailWritten other ok) e = refl
    by_entry (what.Ask ask) e = refl
    by_entry (what.Tell tell) e = by_release (Rattle.qn_model.specs.NodeVotes.answers past tell && tell.released)
      where
        by_release : (b : Bool) → Rattle.qn_model.specs.Votes.newer_view_tick (record { tick = line.tick; what = (if b then Rattle.qn_model.specs.declared.votes.VoteWhat.TheVariants.Released else Rattle.qn_model.specs.declared.votes.VoteWhat.TheVariants.Tick) }) (view_tick (votes past)) ≡ view_tick (votes past)
        by_release true = refl
        by_release false = refl
    by_entry (what.Device agrees) e = refl
    by_entry what.Tick e = refl
    by_entry (what.Stopped ok) e = refl
    by_entry what.Leave e = refl
    by_entry (what.Closed ok) e = refl

-- the reads of a slot
pub read_more : {line : Line} (past : List Line) → Plain line → (test : SlotSeen → Bool) (rank : ℕ)
    → slot_read_since (out_time rank past) test rank past ≡ true → slot_read_since (out_time rank (line ∷ past)) test rank (line ∷ past) ≡ true
unfolding slot_read_since
read_more {line = line} past plain test rank e =
    ap (λ place. (nat_lt place line.asked && reads_slot test rank line.what) || slot_read_since place test rank past) (out_same past plain rank)
    ∙ or_right (nat_lt (out_time rank past) line.asked && reads_slot test rank line.what) (slot_read_since (out_time rank past) test rank past) e
  where
    or_right : (a b : Bool) → b ≡ true → (a || b) ≡ true
    or_right true b is = refl
    or_right false b is = is

pub read_now : {line : Line} (past : List Line) → Plain line → (test : SlotSeen → Bool) (rank : ℕ)
    → out_time rank past < line.asked → reads_slot test rank line.what ≡ true → slot_read_since (out_time rank (line ∷ past)) test rank (line ∷ past) ≡ true
unfolding slot_read_since
read_now {line = line} past plain test rank asked reads =
    ap (λ place. (nat_lt place line.asked && reads_slot test rank line.what) || slot_read_since place test rank past) (out_same past plain rank)
    ∙ hit (nat_lt (out_time rank past) line.asked) (reads_slot test rank line.what) (slot_read_since (out_time rank past) test rank past) (lt-ltb _ _ asked) reads
  where
    hit : (a b c : Bool) → a ≡ true → b ≡ true → ((a && b) || c) ≡ true
    hit true true c ea eb = refl
    hit true false c ea eb = absurd (false≢true eb)
    hit false b c ea eb = absurd (false≢true ea)

pub read_same : {line : Line} (past : List Line) → Plain line → (test : SlotSeen → Bool) (rank : ℕ) → reads_slot test rank line.what ≡ false
    → slot_read_since (out_time rank (line ∷ past)) test rank (line ∷ past) ≡ slot_read_since (out_time rank past) test rank past
unfolding slot_read_since
read_same {line = line} past plain test rank none =
    ap (λ place. (nat_lt place line.asked && reads_slot test rank line.what) || slot_read_since place test rank past) (out_same past plain rank)
    ∙ miss (nat_lt (out_time rank past) line.asked) (reads_slot test rank line.what) (slot_read_since (out_time rank past) test rank past) none
  where
    miss : (a b c : Bool) → b ≡ false → ((a && b) || c) ≡ c
    miss true true c e = absurd (true≢false e)
    miss true false c e = refl
    miss false b c e = refl

-- the resets: the newest one counts
pub data Reset (line : Line) (past : List Line) (rank : ℕ) : Option ℕ → Type 0 where
  WrittenNow : writes_reset rank line.what ≡ true → Reset line past rank (Some line.tick)
  AsBefore : Reset line past rank (reset_tick past rank)

pub reset_is : {line : Line} (past : List Line) → Plain line → (rank : ℕ) → Reset line past rank (reset_tick (line ∷ past) rank)
unfolding reset_since
reset_is {line = line} past plain rank =
    subst (λ place. Reset line past rank (if nat_lt place line.asked && writes_reset rank line.what then Some line.tick else reset_since place rank past)) (sym (out_same past plain rank))
    (by_tests (nat_lt (out_time rank past) line.asked) (writes_reset rank line.what) refl)
  where
    by_tests : (a b : Bool) → writes_reset rank line.what ≡ b → Reset line past rank (if a && b then Some line.tick else reset_tick past rank)
    by_tests true true e = WrittenNow e
    by_tests true false e = AsBefore
    by_tests false b e = AsBefore

some_of : {line : Line} {past : List Line} {rank : ℕ} {found : Option ℕ} → Reset line past rank found → is_written past rank ≡ true → is_some found ≡ true
some_of (WrittenNow e) w = refl
some_of AsBefore w = w

same_of : {line : Line} {past : List Line} {rank : ℕ} {found : Option ℕ} → Reset line past rank found → writes_reset rank line.what ≡ false → is_some found ≡ is_written past rank
same_of {line = line} {rank = rank} (WrittenNow e) w = absurd (true≢false (sym e ∙ w))
same_of AsBefore w = refl

pub written_more : {line : Line} (past : List Line) → Plain line → (rank : ℕ) → is_written past rank ≡ true → is_written (line ∷ past) rank ≡ true
written_more past plain rank w = some_of (reset_is past plain rank) w

pub written_same : {line : Line} (past : List Line) → Plain line → (rank : ℕ) → writes_reset rank line.what ≡ false → is_written (line ∷ past) rank ≡ is_written past rank
written_same past plain rank none = same_of (reset_is past plain rank) none

pub written_now : {line : Line} (past : List Line) → Plain line → (rank : ℕ) → out_time rank past < line.asked → writes_reset rank line.what ≡ true → is_written (line ∷ past) rank ≡ true
unfolding reset_since
written_now {line = line} past plain rank asked writes =
    ap (λ place. is_some (if nat_lt place line.asked && writes_reset rank line.what then Some line.tick else reset_since place rank past)) (out_same past plain rank)
    ∙ hit (nat_lt (out_time rank past) line.asked) (writes_reset rank line.what) (reset_since (out_time rank past) rank past) (lt-ltb _ _ asked) writes
  where
    hit : (a b : Bool) (c : Option ℕ) → a ≡ true → b ≡ true → is_some (if a && b then Some line.tick else c) ≡ true
    hit true true c ea eb = refl
    hit true false c ea eb = absurd (false≢true eb)
    hit false b c ea eb = absurd (false≢true ea)

-- what is due becomes less
less_two : (v v' s s' : Bool) → v' ≡ v → (s ≡ true → s' ≡ true) → one (not v' && not s') ≤ one (not v && not s)
less_two true true s s' same more = omega arith
less_two true false s s' same more = absurd (false≢true same)
less_two false true s s' same more = absurd (true≢false same)
less_two false false true true same more = omega arith
less_two false false true false same more = absurd (false≢true (more refl))
less_two false false false true same more = omega arith
less_two false false false false same more = omega arith

less_three : (v v' c c' w w' : Bool) → v' ≡ v → (c ≡ true → c' ≡ true) → (w ≡ true → w' ≡ true)
    → one (not v' && not c' && not w') ≤ one (not v && not c && not w)
less_three true true c c' w w' same moc mow = omega arith
less_three true false c c' w w' same moc mow = absurd (false≢true same)
less_three false true c c' w w' same moc mow = absurd (true≢false same)
less_three false false true true w w' same moc mow = omega arith
less_three false false true false w w' same moc mow = absurd (false≢true (moc refl))
less_three false false false true w w' same moc mow = omega arith
less_three false false false false true true same moc mow = omega arith
less_three false false false false true false same moc mow = absurd (false≢true (mow refl))
less_three false false false false false true same moc mow = omega arith
less_three false false false false false false same moc mow = omega arith

pub read_less : {line : Line} (past : List Line) → Plain line → (rank : ℕ) → one (read_due (line ∷ past) rank) ≤ one (read_due past rank)
read_less {line = line} past plain rank =
    less_two (is_in_view past rank) (is_in_view (line ∷ past) rank) (is_slot_seen past rank) (is_slot_seen (line ∷ past) rank)
    (in_view_same past plain rank) (read_more past plain is_seen_slot rank)

pub reset_less : {line : Line} (past : List Line) → Plain line → (rank : ℕ) → one (reset_due (line ∷ past) rank) ≤ one (reset_due past rank)
reset_less {line = line} past plain rank =
    less_three (is_in_view past rank) (is_in_view (line ∷ past) rank) (is_clean past rank) (is_clean (line ∷ past) rank) (is_written past rank) (is_written (line ∷ past) rank)
    (in_view_same past plain rank) (read_more past plain is_clean_slot rank) (written_more past plain rank)

pub owed_less : {line : Line} (past : List Line) → Plain line → (rank : ℕ) → owed (line ∷ past) rank ≤ owed past rank
owed_less {line = line} past plain rank =
    let reads = read_less past plain rank in
    let writes = reset_less past plain rank in
    omega arith

pub pending_less : (s : Settings) {line : Line} (past : List Line) → Plain line → pending s (line ∷ past) ≤ pending s past
pending_less s {line = line} past plain = total_le (length s.nodes) (owed (line ∷ past)) (owed past) (λ j below. owed_less past plain j)

-- an entry that answers nothing reads no slot and writes no reset
no_read : (entry : What) → is_answer entry ≡ false → (test : SlotSeen → Bool) (rank : ℕ) → (reads_slot test rank entry ≡ false) × (writes_reset rank entry ≡ false)
no_read (what.SlotRead other seen) e test rank = absurd (true≢false e)
no_read (what.MailWritten other ok) e test rank = absurd (true≢false e)
no_read (what.View installed) e test rank = (refl, refl)
no_read (what.Cleared ok) e test rank = (refl, refl)
no_read what.Begin e test rank = (refl, refl)
no_read what.BeginClean e test rank = (refl, refl)
no_read (what.Header seen) e test rank = (refl, refl)
no_read (what.MailChecked seen) e test rank = (refl, refl)
no_read (what.Claimed ok) e test rank = (refl, refl)
no_read (what.MailRead seen) e test rank = (refl, refl)
no_read (what.Ask ask) e test rank = (refl, refl)
no_read (what.Tell tell) e test rank = (refl, refl)
no_read (what.Device agrees) e test rank = (refl, refl)
no_read what.Tick e test rank = (refl, refl)
no_read (what.Stopped ok) e test rank = (refl, refl)
no_read what.Leave e test rank = (refl, refl)
no_read (what.Closed ok) e test rank = (refl, refl)

two_same : (v v' s s' : Bool) → v' ≡ v → s' ≡ s → (not v' && not s') ≡ (not v && not s)
two_same v v' s s' ev es = cc

three_same : (v v' c c' w w' : Bool) → v' ≡ v → c' ≡ c → w' ≡ w → (not v' && not c' && not w') ≡ (not v && not c && not w)
three_same v v' c c' w w' ev ec ew = cc

pub read_due_same : {line : Line} (past : List Line) → Plain line → is_answer line.what ≡ false → (rank : ℕ) → read_due (line ∷ past) rank ≡ read_due past rank
read_due_same {line = line} past plain none rank =
    two_same (is_in_view past rank) (is_in_view (line ∷ past) rank) (is_slot_seen past rank) (is_slot_seen (line ∷ past) rank)
    (in_view_same past plain rank) (read_same past plain is_seen_slot rank (no_read line.what none is_seen_slot rank).0)

pub reset_due_same : {line : Line} (past : List Line) → Plain line → is_answer line.what ≡ false → (rank : ℕ) → reset_due (line ∷ past) rank ≡ reset_due past rank
reset_due_same {line = line} past plain none rank =
    three_same (is_in_view past rank) (is_in_view (line ∷ past) rank) (is_clean past rank) (is_clean (line ∷ past) rank) (is_written past rank) (is_written (line ∷ past) rank)
    (in_view_same past plain rank) (read_same past plain is_clean_slot rank (no_read line.what none is_clean_slot rank).0)
    (written_same past plain rank (no_read line.what none is_clean_slot rank).1)

pub pending_same : (s : Settings) {line : Line} (past : List Line) → Plain line → is_answer line.what ≡ false → pending s (line ∷ past) ≡ pending s past
pending_same s {line = line} past plain none =
    total_same (length s.nodes) (owed (line ∷ past)) (owed past)
    (λ j below. let reads = ap one (read_due_same past plain none j) in let writes = ap one (reset_due_same past plain none j) in omega arith)

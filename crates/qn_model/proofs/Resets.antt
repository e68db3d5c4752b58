-- A reset is written only to a node that is outside the view and was not read as clean, once its fence delay is over.
use Rattle.std.proofs.Common.{◌≡◌, ℕ, ◌+◌, Bool, true, false, List, [], ◌∷◌, ◌++◌, Some, None, refl, ◌&&◌, ◌||◌, not, if◌then◌else◌}
use Rattle.std.specs.Prelude.{Option, All, is_some, option_and_then}
use Rattle.std.specs.Option.{option_or, option_map, option_map_or}
use Rattle.std.specs.List.{Contains}
use Rattle.std.proofs.lemmas.List.Elements.{All-nil, All-cons, All-append, All-contains, All-map}
use Rattle.qn_base.specs.declared.ids.Rank.{Rank}
use Rattle.qn_base.specs.declared.ids.View.{View}
use Rattle.qn_model.specs.declared.configuration.Settings.{Settings}
use Rattle.qn_model.specs.declared.disk.Message.{Message}
use Rattle.qn_model.specs.declared.seen.SlotSeen.{SlotSeen}
use Rattle.qn_model.specs.declared.seen.SlotSeen.TheVariants as slot
use Rattle.qn_model.specs.declared.entries.Entry.{Entry}
use Rattle.qn_model.specs.declared.entries.What.{What}
use Rattle.qn_model.specs.declared.entries.What.TheVariants as what
use Rattle.qn_model.specs.declared.outputs.BootCause.{BootCause}
use Rattle.qn_model.specs.declared.outputs.DiskOp.{DiskOp}
use Rattle.qn_model.specs.declared.outputs.DiskOp.TheVariants as disk
use Rattle.qn_model.specs.declared.outputs.Out.{Out}
use Rattle.qn_model.specs.declared.outputs.Out.TheVariants as out
use Rattle.qn_model.specs.declared.outputs.HaltKind.TheVariants as halt
use Rattle.qn_model.specs.lemmas.LeastRanks.{least_passes}
use Rattle.qn_model.specs.Log.{Line, begins_clean, incarnation, op_out, slot_number}
use Rattle.qn_model.specs.Phases.{phase, boot_halt, message_of, deadly_of, is_booting, is_live, is_leaving}
use Rattle.qn_model.specs.Holding.{holds}
use Rattle.qn_model.specs.Votes.{view_tick}
use Rattle.qn_model.specs.NodeVotes.{view, is_in_view, votes}
use Rattle.qn_model.specs.Licences.{out_time, slot_read_since, is_clean, is_written}
use Rattle.qn_model.specs.Wanted.{wanted_with_delay, fencing_op_with_delay, is_delay_over, to_read, to_reset, to_reset_now, boot_op, claim_after, close_op, rank_of, is_mail_due, may_fence}
use Rattle.qn_model.specs.Fitting.{read_as}
use Rattle.qn_model.specs.NodeOutputs.{acts, outs_at, live_outs, boot_outs, boot_step_outs, is_boot_step, is_begin, disk_outs, when, replies, asks_under, ask_to, is_asking, gives_stop, gives_start, mail_feeds, taken_in, with_read, with_entry, log_from, log_of, newest_outs, outs_of}

-- a rank is outside the view and was not read as clean, and its fence delay is over
abbrev pub MayBeReset : Settings → List Line → ℕ → Type 0
MayBeReset s log rank = (is_in_view log rank ≡ false) × (is_clean log rank ≡ false) × (is_delay_over s log rank ≡ true)

-- an output that is a reset names a node that may be reset
abbrev pub IsOutsider : Settings → List Line → Out → Type 0
IsOutsider s log (out.Disk (disk.WriteReset rank)) = MayBeReset s log rank.0
IsOutsider s log output = Unit {0}

-- a number that passes one more test is the one that there was
passes_on : (found : Option ℕ) (test : ℕ → Bool) (rank : ℕ) → option_and_then (λ r. if test r then Some r else None) found ≡ Some rank
    → (found ≡ Some rank) × (test rank ≡ true)
passes_on None test rank e = cc
passes_on (Some other) test rank e = by_test (test other) refl e
  where
    by_test : (b : Bool) → test other ≡ b → (if b then Some other else None) ≡ Some rank → (Some other ≡ Some rank) × (test rank ≡ true)
    by_test true passes is = let same : other ≡ rank = cc in (is, rw (← same) passes)
    by_test false refused is = (cc, cc)

-- the three parts of a test that holds
first_fails : (a b c : Bool) → (not a && not b && not c) ≡ true → (a ≡ false) × (b ≡ false)
first_fails false false c e = (refl, refl)
first_fails false true c e = cc
first_fails true b c e = cc

module _ (s : Settings) (log : List Line) where
  abbrev AllOutside : List Out → Type 0
  AllOutside outs = All (IsOutsider s log) outs

  none_outside : AllOutside []
  none_outside = All-nil (IsOutsider s log)

  one_outside : (o : Out) → IsOutsider s log o → AllOutside (o ∷ [])
  one_outside o p = All-cons (IsOutsider s log) o [] p none_outside

  when_outside : (b : Bool) (o : Out) → IsOutsider s log o → AllOutside (when b o)
  when_outside true o p = one_outside o p
  when_outside false o p = none_outside

  both_outside : (front back : List Out) → AllOutside front → AllOutside back → AllOutside (front ++ back)
  both_outside front back p q = All-append (IsOutsider s log) front back p q

  if_outside : (b : Bool) (first second : Option DiskOp) → AllOutside (disk_outs first) → AllOutside (disk_outs second)
      → AllOutside (disk_outs (if b then first else second))
  if_outside true first second p q = p
  if_outside false first second p q = q

  close_outside : (number : Option ℕ) → AllOutside (disk_outs (option_map (λ n. disk.WriteClose n) number))
  close_outside None = none_outside
  close_outside (Some n) = one_outside (out.Disk (disk.WriteClose n)) tt

  fencing_outside : (read reset : Option ℕ) → ((rank : ℕ) → reset ≡ Some rank → MayBeReset s log rank)
      → AllOutside (disk_outs (option_or (option_map (λ rank. disk.ReadSlot (rank_of rank)) read) (option_map (λ rank. disk.WriteReset (rank_of rank)) reset)))
  fencing_outside (Some rank) reset p = one_outside (out.Disk (disk.ReadSlot (rank_of rank))) tt
  fencing_outside None (Some rank) p = one_outside (out.Disk (disk.WriteReset (rank_of rank))) (p rank refl)
  fencing_outside None None p = none_outside

  to_reset_outside : (rank : ℕ) → to_reset s log ≡ Some rank → (is_in_view log rank ≡ false) × (is_clean log rank ≡ false)
  to_reset_outside rank e =
      first_fails (is_in_view log rank) (is_clean log rank) (is_written log rank) (least_passes _ 0 _ rank e)

  to_reset_now_outside : (rank : ℕ) → to_reset_now s log ≡ Some rank → MayBeReset s log rank
  to_reset_now_outside rank e =
      let found = passes_on (to_reset s log) (is_delay_over s log) rank e in
      let outside = to_reset_outside rank found.0 in
      (outside.0, outside.1, found.1)

  wanted_outside : (me : ℕ) → AllOutside (disk_outs (wanted_with_delay s me log))
  unfolding wanted_with_delay
  wanted_outside me =
      if_outside (is_some (op_out log)) None _ none_outside
      (if_outside (is_mail_due log) (Some disk.ReadMail) _ (one_outside (out.Disk disk.ReadMail) tt)
      (if_outside (is_leaving (phase s log) && not (holds log)) (close_op log) _ (close_outside (incarnation log))
      (if_outside (may_fence s me log) (fencing_op_with_delay s log) None (fencing_outside (to_read s log) (to_reset_now s log) to_reset_now_outside) none_outside)))

  replies_outside : (me : ℕ) (held : Bool) (entry : What) → AllOutside (replies s me held log entry)
  replies_outside me held (what.Ask ask) = when_outside _ _ tt
  replies_outside me held what.Begin = none_outside
  replies_outside me held what.BeginClean = none_outside
  replies_outside me held (what.Header seen) = none_outside
  replies_outside me held (what.SlotRead rank seen) = none_outside
  replies_outside me held (what.MailChecked seen) = none_outside
  replies_outside me held (what.Claimed ok) = none_outside
  replies_outside me held (what.Cleared ok) = none_outside
  replies_outside me held (what.MailRead seen) = none_outside
  replies_outside me held (what.MailWritten rank ok) = none_outside
  replies_outside me held (what.View installed) = none_outside
  replies_outside me held (what.Tell tell) = none_outside
  replies_outside me held (what.Device agrees) = none_outside
  replies_outside me held what.Tick = none_outside
  replies_outside me held (what.Stopped ok) = none_outside
  replies_outside me held what.Leave = none_outside
  replies_outside me held (what.Closed ok) = none_outside

  under_outside : (me : ℕ) (present : Option View) → AllOutside (option_map_or (asks_under s me log) present [])
  under_outside me None = none_outside
  under_outside me (Some present) = All-map (IsOutsider s log) (ask_to me log present) _ (λ k d h. tt)

  asks_outside : (me : ℕ) (b : Bool) → AllOutside (if b then option_map_or (asks_under s me log) (view log) [] else [])
  asks_outside me true = under_outside me (view log)
  asks_outside me false = none_outside

  acts_outside : (me : ℕ) (entry : What) (fed : Bool) → AllOutside (acts s me log entry fed)
  unfolding acts
  acts_outside me entry fed =
      both_outside _ _
      (both_outside _ _
      (both_outside _ _
      (both_outside _ _
      (both_outside _ _ (when_outside (gives_stop s me log) out.Stop tt) (when_outside (gives_start s me log) out.Start tt))
      (when_outside fed out.Feed tt))
      (replies_outside me (gives_start s me log || holds log) entry))
      (asks_outside me (is_asking s log)))
      (wanted_outside me)

  live_outside : (me : ℕ) (entry : What) (fed : Bool) (message : Option Message) → AllOutside (live_outs s me log entry fed message)
  live_outside me entry fed (Some message) = one_outside (out.Halt (halt.Deadly message)) tt
  live_outside me (what.Closed ok) fed None = one_outside out.Disarm tt
  live_outside me what.Begin fed None = acts_outside me what.Begin fed
  live_outside me what.BeginClean fed None = acts_outside me what.BeginClean fed
  live_outside me (what.Header seen) fed None = acts_outside me (what.Header seen) fed
  live_outside me (what.SlotRead rank seen) fed None = acts_outside me (what.SlotRead rank seen) fed
  live_outside me (what.MailChecked seen) fed None = acts_outside me (what.MailChecked seen) fed
  live_outside me (what.Claimed ok) fed None = acts_outside me (what.Claimed ok) fed
  live_outside me (what.Cleared ok) fed None = acts_outside me (what.Cleared ok) fed
  live_outside me (what.MailRead seen) fed None = acts_outside me (what.MailRead seen) fed
  live_outside me (what.MailWritten rank ok) fed None = acts_outside me (what.MailWritten rank ok) fed
  live_outside me (what.View installed) fed None = acts_outside me (what.View installed) fed
  live_outside me (what.Ask ask) fed None = acts_outside me (what.Ask ask) fed
  live_outside me (what.Tell tell) fed None = acts_outside me (what.Tell tell) fed
  live_outside me (what.Device agrees) fed None = acts_outside me (what.Device agrees) fed
  live_outside me what.Tick fed None = acts_outside me what.Tick fed
  live_outside me (what.Stopped ok) fed None = acts_outside me (what.Stopped ok) fed
  live_outside me what.Leave fed None = acts_outside me what.Leave fed

  claim_outside : (seen : SlotSeen) → AllOutside (disk_outs (claim_after seen))
  claim_outside (slot.Read own) = one_outside _ tt
  claim_outside slot.Damaged = none_outside
  claim_outside slot.Failed = none_outside

  boot_op_outside : (me : ℕ) (clean : Bool) (number : ℕ) (entry : What) → AllOutside (disk_outs (boot_op me clean number entry))
  boot_op_outside me clean number what.Begin = one_outside _ tt
  boot_op_outside me clean number what.BeginClean = one_outside _ tt
  boot_op_outside me clean number (what.Header seen) = one_outside _ tt
  boot_op_outside me clean number (what.SlotRead rank seen) =
      if_outside clean (Some disk.CheckMail) (claim_after seen) (one_outside _ tt) (claim_outside seen)
  boot_op_outside me clean number (what.MailChecked seen) = one_outside _ tt
  boot_op_outside me clean number (what.Claimed ok) = one_outside _ tt
  boot_op_outside me clean number (what.Cleared ok) = one_outside _ tt
  boot_op_outside me clean number (what.MailRead seen) = none_outside
  boot_op_outside me clean number (what.MailWritten rank ok) = none_outside
  boot_op_outside me clean number (what.View installed) = none_outside
  boot_op_outside me clean number (what.Ask ask) = none_outside
  boot_op_outside me clean number (what.Tell tell) = none_outside
  boot_op_outside me clean number (what.Device agrees) = none_outside
  boot_op_outside me clean number what.Tick = none_outside
  boot_op_outside me clean number (what.Stopped ok) = none_outside
  boot_op_outside me clean number what.Leave = none_outside
  boot_op_outside me clean number (what.Closed ok) = none_outside

  boot_step_outside : (me : ℕ) (clean : Bool) (number : ℕ) (entry : What) (cause : Option BootCause)
      → AllOutside (boot_step_outs me clean number entry cause)
  boot_step_outside me clean number entry None =
      both_outside _ _ (when_outside (not (is_begin entry)) out.Feed tt) (boot_op_outside me clean number entry)
  boot_step_outside me clean number entry (Some cause) = one_outside _ tt

  boot_outside : (me : ℕ) (clean : Bool) (number : ℕ) (entry : What) (b : Bool)
      → AllOutside (if b then boot_step_outs me clean number entry (boot_halt s entry) else [])
  boot_outside me clean number entry true = boot_step_outside me clean number entry (boot_halt s entry)
  boot_outside me clean number entry false = none_outside

  phase_outside : (me tick : ℕ) (entry : What) (past : List Line) (booting live : Bool)
      → AllOutside (if booting then boot_outs s me (begins_clean log) (slot_number log) entry else (if live then live_outs s me log entry (mail_feeds tick past entry) (deadly_of (message_of entry)) else []))
  phase_outside me tick entry past true live = boot_outside me (begins_clean log) (slot_number log) entry (is_boot_step entry)
  phase_outside me tick entry past false true = live_outside me entry (mail_feeds tick past entry) (deadly_of (message_of entry))
  phase_outside me tick entry past false false = none_outside

  outs_outside : (me : ℕ) (past : List Line) (tick : ℕ) (entry : What) → AllOutside (outs_at s me past tick entry log)
  unfolding outs_at
  outs_outside me past tick entry = phase_outside me tick entry past (is_booting (phase s past)) (is_live (phase s past))

-- the newest entry of a log resets outsiders alone
abbrev NewestIsOutside : Settings → List Line → Type 0
NewestIsOutside s log = All (IsOutsider s log) (newest_outs log)

with_read_outside : (s : Settings) (me : ℕ) (past : List Line) (tick : ℕ) (entry : What) → NewestIsOutside s (with_read s me past tick entry)
unfolding view votes view_tick out_time slot_read_since begins_clean slot_number
with_read_outside s me past tick entry = outs_outside s (taken_in past tick entry) me past tick entry

log_from_outside : (s : Settings) (me : ℕ) (past : List Line) (history : List Entry) → NewestIsOutside s past → NewestIsOutside s (log_from s me past history)
unfolding log_from with_entry
log_from_outside s me past [] p = p
log_from_outside s me past (entry ∷ history) p =
    log_from_outside s me (with_entry s me past entry) history (with_read_outside s me past entry.tick (read_as s me past entry.what))

-- what comes out of a history resets only nodes that may be reset
pub reset_outside : (s : Settings) (me : ℕ) (history : List Entry) (rank : Rank) → Contains (outs_of s me history) (out.Disk (disk.WriteReset rank))
    → MayBeReset s (log_of s me history) rank.0
reset_outside s me history rank there =
    All-contains (IsOutsider s (log_of s me history)) (outs_of s me history) (out.Disk (disk.WriteReset rank))
    (log_from_outside s me [] history (All-nil (IsOutsider s []))) there

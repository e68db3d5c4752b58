-- The log of each node of a world: what comes out last, how it ends, and what its operations name.
use Rattle.std.proofs.Common.{◌≡◌, ℕ, ◌-◌, ◌^◌, ◌<◌, Bool, true, false, List, [], ◌∷◌, ◌++◌, length, Some, None, Option, refl, sym, ap, ◌∙◌, subst, arith, ◌&&◌, ◌||◌, not, if◌then◌else◌, ◌⊎◌, inl, inr, is_some, unwrap_or, filter, map, nat_lt}
use Rattle.std.specs.List.{range_with_len}
use Rattle.std.specs.Option.{option_map_or}
use Rattle.std.proofs.lemmas.Bool.{false≢true, true≢false, ltb-true}
use Rattle.std.proofs.lemmas.Option.{same_Some}
use Rattle.qn_base.specs.declared.ids.Rank.{Rank}
use Rattle.qn_base.specs.declared.ids.View.{View}
use Rattle.qn_base.specs.lemmas.Options.{none_is_not_some, some_is_not_none}
use Rattle.qn_base.specs.lemmas.Bools.{never_both}
use Rattle.qn_model.specs.declared.configuration.Settings.{Settings}
use Rattle.qn_model.specs.declared.times.Timing.{Timing}
use Rattle.qn_model.specs.declared.disk.Message.{Message}
use Rattle.qn_model.specs.declared.disk.Slot.{Slot}
use Rattle.qn_model.specs.declared.seen.SlotSeen.{SlotSeen}
use Rattle.qn_model.specs.declared.seen.SlotSeen.TheVariants as slot
use Rattle.qn_model.specs.declared.entries.What.{What}
use Rattle.qn_model.specs.declared.entries.What.TheVariants as what
use Rattle.qn_model.specs.declared.life.Phase.{Phase}
use Rattle.qn_model.specs.declared.life.Phase.TheVariants.{Booting, Up, Leaving, Dying, Gone}
use Rattle.qn_model.specs.declared.outputs.BootCause.{BootCause}
use Rattle.qn_model.specs.declared.outputs.BootCause.TheVariants as cause
use Rattle.qn_model.specs.declared.outputs.HaltKind.TheVariants as halt
use Rattle.qn_model.specs.declared.outputs.DiskOp.{DiskOp}
use Rattle.qn_model.specs.declared.outputs.DiskOp.TheVariants as disk
use Rattle.qn_model.specs.declared.outputs.Out.{Out}
use Rattle.qn_model.specs.declared.outputs.Out.TheVariants as out
use Rattle.qn_model.specs.lemmas.Operations.{none_joined, none_when}
use Rattle.qn_model.specs.Log.{Line, begins_clean, claimed, disk_of, has_start, incarnation, is_answer, number_read, op_out, slot_number}
use Rattle.qn_model.specs.Phases.{phase, next_phase, boot_phase, mail_phase, boot_halt, header_halt, slot_halt, check_halt, message_of, deadly_of, gives_exit, in_time, is_booting, is_live}
use Rattle.qn_model.specs.Fitting.{fits}
use Rattle.qn_model.specs.Holding.{holds, is_stopped}
use Rattle.qn_model.specs.Moments.{is_gone}
use Rattle.qn_model.specs.NodeOutputs.{acts, ask_to, asks, asks_under, boot_outs, boot_step_outs, disk_outs, gives_start, gives_stop, is_asked, is_asking, is_begin, is_boot_step, live_outs, mail_feeds, outs_at, replies, when}
use Rattle.qn_model.specs.NodeVotes.{view}
use Rattle.qn_model.specs.Wanted.{boot_op, wanted_with_delay}
use Rattle.qn_model.specs.lemmas.Phases.{live_booted}
use Rattle.qn_safety.specs.Closing.{is_close}
use Rattle.qn_safety.specs.NodeLogs.{IsNodeLog, IsOperation, LogsHold, is_disk_last, is_end}
use Rattle.qn_safety.proofs.Says.{Reason}
use Rattle.qn_safety.proofs.Logs.{Made, NoLine, OneMore, IsLine, before_outs, line_at, made_line, disk_reason, ask_line}
use Rattle.qn_safety.proofs.Apt.{is_apt, apt, up_is, boot_step_of, header_answers, check_answers, claimed_answers, cleared_answers, closed_answers}
use Rattle.qn_safety.proofs.Stays.{boot_past_later, closed_never, gives_none, is_over, no_start_over, op_kept, start_since, start_up}
use Rattle.qn_safety.proofs.Rests.{no_reset, own_read}
use Rattle.qn_safety.proofs.Runs.{older, sound}
use Rattle.qn_safety.proofs.Numbers.{NumberFrom, BySlot, ByCheck, ClaimGiven}
use Rattle.qn_safety.proofs.Outs.{claimed_cases, out_claims, out_closes}
use Rattle.qn_safety.proofs.Kept.{booting_back}
use Rattle.qn_safety.proofs.Facts.{close_asked}
use Rattle.qn_safety.proofs.Events.{may_of, stage}

-- an operation behind outputs without one is the last
last_after : (front : List Out) (op : Option DiskOp) → disk_of front ≡ None → is_disk_last (front ++ disk_outs op) ≡ true
last_after [] None f = refl
last_after [] (Some op) f = refl
last_after (out.Disk other ∷ front) op f = some_is_not_none other f
last_after (out.Stop ∷ front) op f = last_after front op f
last_after (out.Start ∷ front) op f = last_after front op f
last_after (out.Feed ∷ front) op f = last_after front op f
last_after (out.Send to packet ∷ front) op f = last_after front op f
last_after (out.Disarm ∷ front) op f = last_after front op f
last_after (out.Halt kind ∷ front) op f = last_after front op f

module _ (s : Settings) (me : ℕ) (past : List Line) (tick : ℕ) (log : List Line) where
  replies_none : (held : Bool) (entry : What) → disk_of (replies s me held log entry) ≡ None
  replies_none held (what.Ask ask) = none_when _ _ refl
  replies_none held entry = refl

  each_none : (present : View) (ranks : List ℕ) → disk_of (map (ask_to me log present) ranks) ≡ None
  each_none present [] = refl
  each_none present (rank ∷ ranks) = each_none present ranks

  asks_none : (asking : Bool) (present : Option View) → disk_of (if asking then option_map_or (asks_under s me log) present [] else []) ≡ None
  asks_none false present = refl
  asks_none true None = refl
  asks_none true (Some present) = each_none present (filter (is_asked s me log) (range_with_len 0 (length s.nodes)))

  acts_last : (entry : What) (fed : Bool) → is_disk_last (acts s me log entry fed) ≡ true
  unfolding acts
  acts_last entry fed =
      last_after (calls ++ replies s me held log entry ++ asks s me log) (wanted_with_delay s me log)
      (none_joined (calls ++ replies s me held log entry) (asks s me log)
      (none_joined calls (replies s me held log entry)
      (none_joined (when (gives_stop s me log) out.Stop ++ when (gives_start s me log) out.Start) (when fed out.Feed)
      (none_joined (when (gives_stop s me log) out.Stop) (when (gives_start s me log) out.Start)
      (none_when (gives_stop s me log) out.Stop refl) (none_when (gives_start s me log) out.Start refl))
      (none_when fed out.Feed refl))
      (replies_none held entry))
      (asks_none (is_asking s log) (view log)))
    where
      held : Bool
      held = gives_start s me log || holds log

      calls : List Out
      calls = when (gives_stop s me log) out.Stop ++ when (gives_start s me log) out.Start ++ when fed out.Feed

  live_last : (entry : What) (fed : Bool) (found : Option Message) → is_disk_last (live_outs s me log entry fed found) ≡ true
  live_last entry fed (Some message) = refl
  live_last (what.Closed ok) fed None = refl
  live_last entry fed None = acts_last entry fed

  step_last : (entry : What) (clean : Bool) (number : ℕ) (halted : Option BootCause) → is_disk_last (boot_step_outs me clean number entry halted) ≡ true
  step_last entry clean number None = last_after (when (not (is_begin entry)) out.Feed) (boot_op me clean number entry) (none_when (not (is_begin entry)) out.Feed refl)
  step_last entry clean number (Some cause) = refl

  outs_last : (entry : What) → is_disk_last (outs_at s me past tick entry log) ≡ true
  unfolding outs_at
  outs_last entry = by_phase (is_booting (phase s past)) (is_live (phase s past)) (is_boot_step entry)
    where
      by_phase : (booting live steps : Bool)
          → is_disk_last (if booting then (if steps then boot_step_outs me (begins_clean log) (slot_number log) entry (boot_halt s entry) else [])
          else (if live then live_outs s me log entry (mail_feeds tick past entry) (deadly_of (message_of entry)) else [])) ≡ true
      by_phase true live true = step_last entry (begins_clean log) (slot_number log) (boot_halt s entry)
      by_phase true live false = refl
      by_phase false true steps = live_last entry (mail_feeds tick past entry) (deadly_of (message_of entry))
      by_phase false false steps = refl

-- why a node is gone after an entry: a step of its boot halts, or its close has ended
data GoneBy (s : Settings) (past : List Line) (entry : What) : Type 0 where
  Halts : (cause : BootCause) → is_booting (phase s past) ≡ true → is_boot_step entry ≡ true → boot_halt s entry ≡ Some cause → GoneBy s past entry
  Closes : (ok : Bool) (number : ℕ) → is_live (phase s past) ≡ true → entry ≡ what.Closed ok → op_out past ≡ Some (disk.WriteClose number) → GoneBy s past entry

-- an operation of the boot alone is out only while the node boots
boots_by : (p : Phase) (out : Option DiskOp) (op : DiskOp) → out ≡ Some op → is_apt out p ≡ true → is_apt (Some op) Up ≡ false → is_apt (Some op) Leaving ≡ false → p ≡ Booting
boots_by p out op same a up leaving = by_phase p (subst (λ o. is_apt o p ≡ true) same a)
  where
    by_phase : (q : Phase) → is_apt (Some op) q ≡ true → q ≡ Booting
    by_phase Booting e = refl
    by_phase Up e = never_both (is_apt (Some op) Up) e up
    by_phase Leaving e = never_both (is_apt (Some op) Leaving) e leaving
    by_phase Dying e = absurd (false≢true e)
    by_phase Gone e = absurd (false≢true e)

live_by : (p : Phase) (out : Option DiskOp) (number : ℕ) → out ≡ Some (disk.WriteClose number) → is_apt out p ≡ true → is_live p ≡ true
live_by p out number same a = by_phase p (subst (λ o. is_apt o p ≡ true) same a)
  where
    by_phase : (q : Phase) → is_apt (Some (disk.WriteClose number)) q ≡ true → is_live q ≡ true
    by_phase Up e = refl
    by_phase Leaving e = refl
    by_phase Booting e = absurd (false≢true e)
    by_phase Dying e = absurd (false≢true e)
    by_phase Gone e = absurd (false≢true e)

module _ (s : Settings) (me : ℕ) (past : List Line) (timely : Bool) (a : is_apt (op_out past) (phase s past) ≡ true) (before : is_gone (phase s past) ≡ false) where
  -- a step of the boot that halts
  halts_at : (entry : What) → phase s past ≡ Booting → is_boot_step entry ≡ true → (halted : Option BootCause) → boot_halt s entry ≡ halted
      → is_gone (boot_phase halted Booting) ≡ true → GoneBy s past entry
  halts_at entry boots step None same gone = absurd (false≢true gone)
  halts_at entry boots step (Some cause) same gone = Halts cause (ap is_booting boots) step same

  slot_gone : (rank : Rank) (seen : SlotSeen) (p : Phase) → phase s past ≡ p → is_gone p ≡ false → is_gone (if is_booting p then boot_phase (slot_halt seen) p else p) ≡ true
      → GoneBy s past (what.SlotRead rank seen)
  slot_gone rank seen Booting same b gone = halts_at (what.SlotRead rank seen) same refl (slot_halt seen) refl gone
  slot_gone rank seen Up same b gone = absurd (false≢true gone)
  slot_gone rank seen Leaving same b gone = absurd (false≢true gone)
  slot_gone rank seen Dying same b gone = absurd (false≢true gone)
  slot_gone rank seen Gone same b gone = absurd (true≢false b)

  mail_gone : (found : Option Message) → is_gone (mail_phase found timely (phase s past)) ≡ false
  mail_gone found = by_tests (is_some (deadly_of found)) (gives_exit found && timely)
    where
      by_tests : (x y : Bool) → is_gone (if x then Dying else (if y then Leaving else phase s past)) ≡ false
      by_tests true y = refl
      by_tests false true = refl
      by_tests false false = before

  claim_gone : (ok : Bool) → phase s past ≡ Booting → is_gone (if ok then phase s past else Gone) ≡ true → GoneBy s past (what.Claimed ok)
  claim_gone true boots gone = never_both (is_gone (phase s past)) gone before
  claim_gone false boots gone = Halts cause.ClaimFailed (ap is_booting boots) refl refl

  clear_gone : (ok : Bool) → phase s past ≡ Booting → is_gone (if ok then Up else Gone) ≡ true → GoneBy s past (what.Cleared ok)
  clear_gone true boots gone = absurd (false≢true gone)
  clear_gone false boots gone = Halts cause.ClearFailed (ap is_booting boots) refl refl

  boots_in : (op : DiskOp) → op_out past ≡ Some op → is_apt (Some op) Up ≡ false → is_apt (Some op) Leaving ≡ false → phase s past ≡ Booting
  boots_in op out up leaving = boots_by (phase s past) (op_out past) op out a up leaving

  at_boot : (halted : Option BootCause) → phase s past ≡ Booting → is_gone (boot_phase halted (phase s past)) ≡ true → is_gone (boot_phase halted Booting) ≡ true
  at_boot halted boots gone = subst (λ p. is_gone (boot_phase halted p) ≡ true) boots gone

  gone_by : (entry : What) → fits s me past entry ≡ true → is_gone (next_phase s entry timely (phase s past)) ≡ true → GoneBy s past entry
  gone_by what.Begin fit gone = absurd (false≢true gone)
  gone_by what.BeginClean fit gone = absurd (false≢true gone)
  gone_by (what.Header seen) fit gone =
      let boots = boots_in disk.ReadHeader (header_answers (op_out past) seen fit) refl refl in
      halts_at (what.Header seen) boots refl (header_halt s seen) refl (at_boot (header_halt s seen) boots gone)
  gone_by (what.SlotRead rank seen) fit gone = slot_gone rank seen (phase s past) refl before gone
  gone_by (what.MailChecked seen) fit gone =
      let boots = boots_in disk.CheckMail (check_answers (op_out past) seen fit) refl refl in
      halts_at (what.MailChecked seen) boots refl (check_halt seen) refl (at_boot (check_halt seen) boots gone)
  gone_by (what.Claimed ok) fit gone =
      let op = claimed_answers (op_out past) ok fit in claim_gone ok (boots_in (disk.WriteClaim op.0) op.1 refl refl) gone
  gone_by (what.Cleared ok) fit gone = clear_gone ok (boots_in disk.WriteClear (cleared_answers (op_out past) ok fit) refl refl) gone
  gone_by (what.MailRead seen) fit gone = never_both (is_gone (mail_phase (message_of (what.MailRead seen)) timely (phase s past))) gone (mail_gone (message_of (what.MailRead seen)))
  gone_by what.Leave fit gone = absurd (false≢true gone)
  gone_by (what.Closed ok) fit gone =
      let op = closed_answers (op_out past) ok fit in Closes ok op.0 (live_by (phase s past) (op_out past) op.0 op.1 a) refl op.1
  gone_by (what.MailWritten rank ok) fit gone = never_both (is_gone (phase s past)) gone before
  gone_by (what.View installed) fit gone = never_both (is_gone (phase s past)) gone before
  gone_by (what.Ask ask) fit gone = never_both (is_gone (phase s past)) gone before
  gone_by (what.Tell tell) fit gone = never_both (is_gone (phase s past)) gone before
  gone_by (what.Device agrees) fit gone = never_both (is_gone (phase s past)) gone before
  gone_by what.Tick fit gone = never_both (is_gone (phase s past)) gone before
  gone_by (what.Stopped ok) fit gone = never_both (is_gone (phase s past)) gone before

gone_line : {s : Settings} {me : ℕ} {line : Line} {past : List Line} → IsLine s me line past → Made s me past → is_gone (phase s past) ≡ false
    → is_gone (phase s (line ∷ past)) ≡ true → GoneBy s past line.what
unfolding phase
gone_line {s = s} {me = me} {line = line} {past = past} it made before gone =
    gone_by s me past (in_time line.tick past) (apt made) before line.what it.fitting gone

-- where a node is gone its newest entry gave one output, which ends the run
ends_outs : (s : Settings) (me : ℕ) (past : List Line) (tick : ℕ) (entry : What) (log : List Line) → GoneBy s past entry
    → (o : Out) × (outs_at s me past tick entry log ≡ o ∷ []) × (is_end o ≡ true)
unfolding outs_at
ends_outs s me past tick entry log (Halts cause booting step halts) = (
  out.Halt (halt.Boot cause),
  ap (λ b. if b then boot_outs s me (begins_clean log) (slot_number log) entry else later) booting
      ∙ ap (λ b. if b then boot_step_outs me (begins_clean log) (slot_number log) entry (boot_halt s entry) else []) step
      ∙ ap (λ h. boot_step_outs me (begins_clean log) (slot_number log) entry h) halts,
  refl,
)
  where
    later : List Out
    later = if is_live (phase s past) then live_outs s me log entry (mail_feeds tick past entry) (deadly_of (message_of entry)) else []
ends_outs s me past tick entry log (Closes ok number live closed out') = (
  out.Disarm,
  ap (λ b. if b then boot_outs s me (begins_clean log) (slot_number log) entry else (if is_live (phase s past) then live_outs s me log entry (mail_feeds tick past entry) (deadly_of (message_of entry)) else [])) (live_booted (phase s past) live)
      ∙ ap (λ b. if b then live_outs s me log entry (mail_feeds tick past entry) (deadly_of (message_of entry)) else []) live
      ∙ ap (λ e. live_outs s me log e (mail_feeds tick past e) (deadly_of (message_of e))) closed,
  refl,
)

-- a node that boots holds nothing
boots_idle : {s : Settings} {me : ℕ} {log : List Line} → Made s me log → is_booting (phase s log) ≡ true → holds log ≡ false
boots_idle {s = s} {log = log} made booting = by_held (holds log) refl
  where
    by_held : (b : Bool) → holds log ≡ b → holds log ≡ false
    by_held false e = e
    by_held true e =
        let start = start_since log e in
        never_both (is_booting (phase s log)) booting
        (boot_past_later made start.back (ap is_booting (up_is (phase s (start.line ∷ start.past)) (start_up (line_at start.back made) start.start))))

gone_over : (p : Phase) → is_gone p ≡ true → is_over p ≡ true
gone_over Gone e = refl
gone_over Booting e = absurd (false≢true e)
gone_over Up e = absurd (false≢true e)
gone_over Leaving e = absurd (false≢true e)
gone_over Dying e = absurd (false≢true e)

idle_both : (start before stopped : Bool) → start ≡ false → before ≡ false → (start || (before && not stopped)) ≡ false
idle_both true before stopped s b = s
idle_both false true stopped s b = absurd (true≢false b)
idle_both false false stopped s b = refl

-- a node that is gone holds nothing
gone_idle : {s : Settings} {me : ℕ} {line : Line} {past : List Line} → IsLine s me line past → Made s me past → is_gone (phase s past) ≡ false
    → is_gone (phase s (line ∷ past)) ≡ true → holds (line ∷ past) ≡ false
unfolding holds
gone_idle {s = s} {line = line} {past = past} it made before gone =
    idle_both (has_start line.outs) (holds past) (is_stopped line.what) (no_start_over it (gone_over (phase s (line ∷ past)) gone)) (by_end (gone_line it made before gone))
  where
    by_end : GoneBy s past line.what → holds past ≡ false
    by_end (Halts cause booting step halts) = boots_idle made booting
    by_end (Closes ok number live closed out') = (closed_never made (close_asked past (ap is_close out'))).idle

silent_by : (out : Option DiskOp) (p : Phase) → is_gone p ≡ true → is_apt out p ≡ true → out ≡ None
silent_by None p gone a = refl
silent_by (Some op) Gone gone a = absurd (false≢true a)
silent_by (Some op) Booting gone a = absurd (false≢true gone)
silent_by (Some op) Up gone a = absurd (false≢true gone)
silent_by (Some op) Leaving gone a = absurd (false≢true gone)
silent_by (Some op) Dying gone a = absurd (false≢true gone)

-- an incarnation that lets the boot go on leaves room for one more
room_left : (own : Slot) (halted : Option BootCause) → slot_halt (slot.Read own) ≡ halted → is_booting (boot_phase halted Booting) ≡ true → own.incarnation < 2 ^ 64 - 1
room_left own (Some cause) same e = absurd (false≢true e)
room_left own None same e = by_test (nat_lt own.incarnation (2 ^ 64 - 1)) refl same
  where
    by_test : (b : Bool) → nat_lt own.incarnation (2 ^ 64 - 1) ≡ b → (if b then None else Some cause.IncarnationSpent) ≡ None → own.incarnation < 2 ^ 64 - 1
    by_test true is none = ltb-true own.incarnation (2 ^ 64 - 1) is
    by_test false is none = some_is_not_none _ none

room_read : (own : Slot) (p : Phase) → is_booting (if is_booting p then boot_phase (slot_halt (slot.Read own)) p else p) ≡ true → own.incarnation < 2 ^ 64 - 1
room_read own Booting e = room_left own (slot_halt (slot.Read own)) refl e
room_read own Up e = absurd (false≢true e)
room_read own Leaving e = absurd (false≢true e)
room_read own Dying e = absurd (false≢true e)
room_read own Gone e = absurd (false≢true e)

-- and so does the number of the last read of a slot, while the node boots
room_after : (s : Settings) (timely : Bool) (p : Phase) (number : ℕ) (entry : What) → is_booting (next_phase s entry timely p) ≡ true → number < 2 ^ 64 - 1
    → unwrap_or (number_read entry) number < 2 ^ 64 - 1
room_after s timely p number (what.SlotRead rank (slot.Read own)) e rest = room_read own p e
room_after s timely p number entry e rest = rest

room : {s : Settings} {me : ℕ} {log : List Line} → Made s me log → is_booting (phase s log) ≡ true → slot_number log < 2 ^ 64 - 1
unfolding slot_number phase
room NoLine booting = omega arith
room {s = s} (OneMore {line = line} {past = past} it made) booting =
    room_after s (in_time line.tick past) (phase s past) (slot_number past) line.what booting (room made (booting_back it booting))

-- a claim fits a slot
claim_fits : {s : Settings} {me : ℕ} {line : Line} {past : List Line} → IsLine s me line past → Made s me past → (number : ℕ) → ClaimGiven s line past number → number < 2 ^ 64
unfolding phase
claim_fits {s = s} {line = line} {past = past} it made number claim = by_source claim.from
  where
    by_source : NumberFrom line.what (slot_number past) number → number < 2 ^ 64
    by_source (BySlot rank own reads next) =
        let under = room_read own (phase s past) (subst (λ e. is_booting (next_phase s e (in_time line.tick past) (phase s past)) ≡ true) reads claim.booting) in omega arith
    by_source (ByCheck seen reads next) = let under = room made (booting_back it claim.booting) in omega arith

claimed_fits : {s : Settings} {me : ℕ} {log : List Line} → Made s me log → (number : ℕ) → claimed log ≡ Some number → number < 2 ^ 64
unfolding claimed
claimed_fits NoLine number e = none_is_not_some number e
claimed_fits {s = s} (OneMore {line = line} {past = past} it made) number e = by_cases (claimed_cases it) (λ was. claimed_fits made number was)
  where
    by_cases : (claimed (line ∷ past) ≡ claimed past) ⊎ ((given : ℕ) × (claimed (line ∷ past) ≡ Some given) × ClaimGiven s line past given)
        → (claimed past ≡ Some number → number < 2 ^ 64) → number < 2 ^ 64
    by_cases (inl same) rest = rest (sym same ∙ e)
    by_cases (inr given) rest = subst (λ n. n < 2 ^ 64) (same_Some _ _ (sym given.1 ∙ e)) (claim_fits it made given.0 given.2)

own_fits : {s : Settings} {me : ℕ} {log : List Line} → Made s me log → unwrap_or (incarnation log) 0 < 2 ^ 64
own_fits NoLine = omega arith
own_fits (OneMore {past = past} it made) = by_claim (claimed past) refl
  where
    by_claim : (c : Option ℕ) → claimed past ≡ c → unwrap_or c 0 < 2 ^ 64
    by_claim None e = omega arith
    by_claim (Some number) e = claimed_fits made number e

-- the operation that is out names what is configured, and its number fits a slot
op_fits : {s : Settings} {me : ℕ} {log : List Line} → Made s me log → me < length s.nodes → (op : DiskOp) → op_out log ≡ Some op → IsOperation s op
op_fits made below disk.ReadHeader e = tt
op_fits {s = s} {me = me} {log = log} made below (disk.ReadSlot rank) e =
    let asked = ask_line (disk.ReadSlot rank) log e in
    by_reason asked.line asked.past (disk_reason (line_at asked.back made) (disk.ReadSlot rank) asked.gave)
  where
    by_reason : (line : Line) (past : List Line) → Reason s me past line.what (before_outs line past) (disk.ReadSlot rank) → rank.0 < length s.nodes
    by_reason line past (inl boots) = subst (λ r. r < length s.nodes) (own_read s me line.what (disk.ReadSlot rank) _ rank (boot_step_of s me _ line.what (disk.ReadSlot rank) false boots.goes_on boots.next) refl) below
    by_reason line past (inr lives) = lives.state.2
op_fits made below disk.CheckMail e = tt
op_fits made below (disk.WriteClaim number) e = claimed_fits made number (out_claims made number e)
op_fits made below disk.WriteClear e = tt
op_fits made below disk.ReadMail e = tt
op_fits {s = s} {me = me} {log = log} made below (disk.WriteReset rank) e =
    let asked = ask_line (disk.WriteReset rank) log e in
    by_reason asked.line asked.past (disk_reason (line_at asked.back made) (disk.WriteReset rank) asked.gave)
  where
    by_reason : (line : Line) (past : List Line) → Reason s me past line.what (before_outs line past) (disk.WriteReset rank) → rank.0 < length s.nodes
    by_reason line past (inl boots) = absurd (no_reset s me line.what (disk.WriteReset rank) _ rank (boot_step_of s me _ line.what (disk.WriteReset rank) false boots.goes_on boots.next) refl)
    by_reason line past (inr lives) = lives.state.2
op_fits made below (disk.WriteClose number) e = claimed_fits made number (out_closes made number e)

-- a log of a configured node, that went on up to its newest entry
pub node_log : {s : Settings} {me : ℕ} (log : List Line) → Made s me log → me < length s.nodes → is_gone (phase s (older log)) ≡ false → IsNodeLog s log
unfolding phase op_out
node_log {s = s} [] made below before = record {
  last = refl;
  ends = λ gone. absurd (false≢true gone);
  rests = λ gone. absurd (false≢true gone);
  silent = λ gone. refl;
  kept = λ line past op same. absurd (cc);
  fits = λ op e. none_is_not_some op e;
  number = own_fits made;
}
node_log {s = s} {me = me} (line ∷ past) (OneMore it made) below before = record {
  last = ap is_disk_last it.gave ∙ outs_last s me past line.tick (before_outs line past) line.what;
  ends = λ gone.
      let last = ends_outs s me past line.tick line.what (before_outs line past) (gone_line it made before gone) in
      (last.0, it.gave ∙ last.1, last.2);
  rests = gone_idle it made before;
  silent = λ gone. silent_by (op_out (line ∷ past)) (phase s (line ∷ past)) gone (apt (OneMore it made));
  kept = λ line' past' op same plain out'. kept_at line' past' op same plain out';
  fits = op_fits (OneMore it made) below;
  number = own_fits (OneMore it made);
}
  where
    kept_at : (line' : Line) (past' : List Line) (op : DiskOp) → line ∷ past ≡ line' ∷ past' → is_answer line'.what ≡ false → op_out past' ≡ Some op
        → (op_out (line ∷ past) ≡ Some op) × (disk_of line'.outs ≡ None)
    kept_at line' past' op same plain out' =
        let it' : IsLine s me line' past' = made_line (subst (λ l. Made s me l) same (OneMore it made)) in
        (ap op_out same ∙ op_kept it' op out' plain, gives_none it' op out' plain)

pub logs_hold : (s : Settings) (t : Timing) → LogsHold s t
logs_hold s t events rank may below =
    let at = sound (stage (may_of s t events may)).ruled rank in
    node_log _ at.made below at.going

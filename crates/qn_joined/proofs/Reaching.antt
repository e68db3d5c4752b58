-- Events that may happen lead, with every node off again, to any slots and mailboxes that nodes and operators may have left.
use Rattle.std.proofs.Common.{◌≡◌, ◌<◌, ◌≤◌, ◌+◌, ◌-◌, ◌^◌, ℕ, zero, suc, Bool, true, false, not, ◌&&◌, ◌||◌, List, [], ◌∷◌, ◌++◌, Option, None, Some, ◌==◌, if◌then◌else◌, refl, sym, ap, subst, ◌∙◌, arith, ◌⊎◌, inl, inr}
use Rattle.std.specs.Prelude.{length, nat_le, nat_lt, is_some}
use Rattle.std.specs.Option.{option_or, option_map_or}
use Rattle.std.proofs.lemmas.Bool.Decides.{nat_tests}
use Rattle.std.proofs.lemmas.Bool.{leb-true, cases_lt, eqb-false, eqb-true, lt-ltb, ne_eqb, and_parts}
use Rattle.qn_model.specs.declared.configuration.Settings.{Settings}
use Rattle.qn_model.specs.declared.times.Timing.{Timing}
use Rattle.qn_model.specs.declared.disk.Message.{Message}
use Rattle.qn_model.specs.declared.disk.Slot.{Slot}
use Rattle.qn_model.specs.declared.seen.HeaderSeen.TheVariants as header
use Rattle.qn_model.specs.declared.seen.SlotSeen.TheVariants as slot
use Rattle.qn_model.specs.declared.seen.MailSeen.TheVariants as mail
use Rattle.qn_model.specs.declared.entries.What.{What}
use Rattle.qn_model.specs.declared.entries.What.TheVariants as what
use Rattle.qn_model.specs.declared.events.Event.{Event}
use Rattle.qn_model.specs.declared.events.Event.TheVariants as event
use Rattle.qn_model.specs.declared.life.Phase.TheVariants.{Booting}
use Rattle.qn_model.specs.declared.outputs.BootCause.TheVariants as cause
use Rattle.qn_model.specs.declared.outputs.DiskOp.{DiskOp}
use Rattle.qn_model.specs.declared.outputs.DiskOp.TheVariants as disk
use Rattle.qn_model.specs.declared.outputs.Out.{Out}
use Rattle.qn_model.specs.declared.outputs.Out.TheVariants as out
use Rattle.qn_model.specs.lemmas.Moments.{node_adds, node_boots, node_ends, adds_apart, boots_apart, ends_apart, put_same, put_other}
use Rattle.qn_model.specs.Fitting.{fits}
use Rattle.qn_model.specs.Holding.{holds}
use Rattle.qn_model.specs.Log.{Line, ask_place, begins_clean, claimed, is_answer, op_out, slot_number, timing}
use Rattle.qn_model.specs.Moments.{Adds, Boots, Ends, Moment, Running, booted, handed, is_gone, logged, node, tick_of, time}
use Rattle.qn_model.specs.NodeOutputs.{acts, boot_step_outs, disk_outs, is_begin, is_boot_step, outs_at, taken_in, when, with_entry, with_read}
use Rattle.qn_model.specs.Phases.{boot_halt, boot_phase, header_halt, is_booting, phase, slot_halt}
use Rattle.qn_model.specs.Rules.{refusal, unless}
use Rattle.qn_model.specs.Sectors.{is_deadly}
use Rattle.qn_model.specs.Steps.{answered, fails, landed, run, step}
use Rattle.qn_model.specs.Timing.{is_safe}
use Rattle.qn_base.specs.lemmas.Numbers.{equal_to_itself}
use Rattle.qn_model.specs.Wanted.{boot_op, mail_tick, rank_of, wanted_with_delay}
use Rattle.qn_model.specs.Unmet.{unmet}
use Rattle.qn_model.specs.World.{World, failed, node_at, op_at, slots_with, taken}
use Rattle.qn_safety.specs.AnyNumbers.{AllMay}

-- a line of a log whose clock stands at 0
abbrev pub line_of : What → List Line → List Out → Line
line_of entry past outs = record { tick = 0; what = entry; asked = (if is_answer entry then ask_place past else 0); outs = outs }

abbrev pub with_line : What → DiskOp → List Line → List Line
with_line entry op past = line_of entry past (when (not (is_begin entry)) out.Feed ++ disk_outs (Some op)) ∷ past

-- a test that holds decides
decided : {A : Type 0} (b : Bool) → b ≡ true → (x y : A) → (if b then x else y) ≡ x
decided true e x y = refl
decided false e x y = absurd cc

-- a step of a boot that goes on
boot_step : (s : Settings) (me : ℕ) (past : List Line) (entry : What) (op : DiskOp) → fits s me past entry ≡ true → is_booting (phase s past) ≡ true
    → is_boot_step entry ≡ true → boot_halt s entry ≡ None → boot_op me (begins_clean (taken_in past 0 entry)) (slot_number (taken_in past 0 entry)) entry ≡ Some op
    → with_entry s me past (record { tick = 0; what = entry }) ≡ with_line entry op past
unfolding with_entry outs_at
boot_step s me past entry op fit booting step on gives =
    ap (λ b. with_read s me past 0 (if b then entry else what.Tick)) fit
    ∙ ap (λ (o : List Out). line_of entry past o ∷ past)
    (decided (is_booting (phase s past)) booting _ _
    ∙ decided (is_boot_step entry) step _ _
    ∙ ap (λ h. boot_step_outs me (begins_clean (taken_in past 0 entry)) (slot_number (taken_in past 0 entry)) entry h) on
    ∙ ap (λ o. when (not (is_begin entry)) out.Feed ++ disk_outs o) gives)

-- the node of a rank after moments in which no time passed, all others being off
record Alone (s : Settings) (rank : ℕ) (ms : List Moment) (log : List Line) : Type 0 where
  on : (node s rank ms).on ≡ true
  log_is : (node s rank ms).log ≡ log
  tick : tick_of (node s rank ms).clock ≡ 0
  others : (k : ℕ) → (rank == k) ≡ false → (node s k ms).on ≡ false
  time : time ms ≡ 0

adds : {s : Settings} {rank : ℕ} {ms : List Moment} {log : List Line} (entry : What) → Alone s rank ms log
    → is_gone (phase s (with_entry s rank log (record { tick = 0; what = entry }))) ≡ false
    → Alone s rank (Adds rank entry ∷ ms) (with_entry s rank log (record { tick = 0; what = entry }))
unfolding handed logged time
adds {s} {rank} {ms} {log} entry is lives =
    record {
      on = ap (λ (n : Running). n.on) (node_adds s rank entry ms) ∙ ap (λ l. not (is_gone (phase s l))) same ∙ ap not lives;
      log_is = ap (λ (n : Running). n.log) (node_adds s rank entry ms) ∙ same;
      tick = ap (λ (n : Running). tick_of n.clock) (node_adds s rank entry ms) ∙ is.tick;
      others = λ k apart. ap (λ (n : Running). n.on) (adds_apart s rank k entry ms apart) ∙ is.others k apart;
      time = is.time;
    }
  where
    same : with_entry s rank (node s rank ms).log (record { tick = tick_of (node s rank ms).clock; what = entry }) ≡ with_entry s rank log (record { tick = 0; what = entry })
    same = ap (λ l. with_entry s rank l (record { tick = tick_of (node s rank ms).clock; what = entry })) is.log_is
        ∙ ap (λ k. with_entry s rank log (record { tick = k; what = entry })) is.tick

-- events that may happen, after which the node of a rank stands there and the slots are these
record Amid (s : Settings) (t : Timing) (rank : ℕ) (log : List Line) (took : Option What) (slots : ℕ → Slot) : Type 0 where
  events : List Event
  may : AllMay s t events
  alone : Alone s rank (run s t events).moments log
  took_is : (run s t events).took rank ≡ took
  slots_are : (k : ℕ) → (run s t events).slots k ≡ slots k

-- events that may happen, after which all nodes are off, no time has passed, and the slots are these
pub record AllOff (s : Settings) (t : Timing) (slots : ℕ → Slot) : Type 0 where
  pub events : List Event
  pub may : AllMay s t events
  pub off : (k : ℕ) → (node_at s k (run s t events)).on ≡ false
  pub time : time (run s t events).moments ≡ 0
  pub slots_are : (k : ℕ) → (run s t events).slots k ≡ slots k

runs_allowed : (on test : Bool) (rule : ℕ) → on ≡ true → test ≡ true → option_or (unless on 3) (unless test rule) ≡ None
runs_allowed on test rule is passes = ap (λ b. option_or (unless b 3) (unless test rule)) is ∙ ap (λ b. unless b rule) passes

abbrev pub begin_log : ℕ → List Line
begin_log rank = with_line what.Begin disk.ReadHeader []

boots_alone : {s : Settings} {t : Timing} {slots : ℕ → Slot} (rank : ℕ) → rank < length s.nodes → AllOff s t slots → Amid s t rank (begin_log rank) None slots
unfolding run step refusal AllMay booted handed logged phase time with_entry outs_at
boots_alone {s} {t} {slots} rank below off =
    record {
      events = event.Boot (rank_of rank) 0 ∷ off.events;
      may = (lt-ltb rank (length s.nodes) below, ap (λ b. unless (not b) 2) (off.off rank), off.may);
      alone = record {
        on = ap (λ (n : Running). n.on) here ∙ ap (λ l. not (is_gone (phase s l))) begun;
        log_is = ap (λ (n : Running). n.log) here ∙ begun;
        tick = ap (λ (n : Running). tick_of n.clock) here;
        others = λ k apart. ap (λ (n : Running). n.on) (boots_apart s rank k 0 false (run s t off.events).moments apart) ∙ off.off k;
        time = off.time;
      };
      took_is = put_same (run s t off.events).took rank None;
      slots_are = off.slots_are;
    }
  where
    here : node s rank (Boots rank 0 false ∷ (run s t off.events).moments) ≡ booted s rank (time (run s t off.events).moments) 0 false (node s rank (run s t off.events).moments)
    here = node_boots s rank 0 false (run s t off.events).moments

    begun : with_entry s rank [] (record { tick = 0; what = what.Begin }) ≡ begin_log rank
    begun = boot_step s rank [] what.Begin disk.ReadHeader refl refl refl refl refl

slots_alike : (rank : ℕ) (op : DiskOp) (old new : ℕ → Slot) → ((k : ℕ) → old k ≡ new k) → (k : ℕ) → slots_with rank op old k ≡ slots_with rank op new k
slots_alike rank disk.ReadHeader old new same k = same k
slots_alike rank (disk.ReadSlot other) old new same k = same k
slots_alike rank disk.CheckMail old new same k = same k
slots_alike rank (disk.WriteClaim number) old new same k = ap (λ x. if rank == k then record { incarnation = number; clean = false } else x) (same k)
slots_alike rank disk.WriteClear old new same k = same k
slots_alike rank disk.ReadMail old new same k = same k
slots_alike rank (disk.WriteReset other) old new same k = same k
slots_alike rank (disk.WriteClose number) old new same k = ap (λ x. if rank == k then record { incarnation = number; clean = true } else x) (same k)

lands : {s : Settings} {t : Timing} {rank : ℕ} {log : List Line} {slots : ℕ → Slot} (op : DiskOp) (entry : What) → op_out log ≡ Some op
    → (a : Amid s t rank log None slots) → taken s t rank op (run s t a.events) ≡ entry → Amid s t rank log (Some entry) (slots_with rank op slots)
unfolding run step refusal AllMay
lands {s} {t} {rank} {log} {slots} op entry out a takes =
    record {
      events = event.Land (rank_of rank) ∷ a.events;
      may = (refl, runs_allowed (node s rank w.moments).on _ 4 a.alone.on (ap (λ o. is_some o && not (is_some (w.took rank))) is_out ∙ ap (λ o. not (is_some o)) a.took_is), a.may);
      alone = subst (λ (x : World). Alone s rank x.moments log) (sym stepped) a.alone;
      took_is = ap (λ (x : World). x.took rank) stepped ∙ put_same w.took rank (Some (taken s t rank op w)) ∙ ap Some takes;
      slots_are = λ k. ap (λ (x : World). x.slots k) stepped ∙ slots_alike rank op w.slots slots a.slots_are k;
    }
  where
    w : World
    w = run s t a.events

    is_out : op_at s rank w ≡ Some op
    is_out = ap op_out a.alone.log_is ∙ out

    stepped : option_map_or (λ o. landed s t rank o w) (op_at s rank w) w ≡ landed s t rank op w
    stepped = ap (λ o. option_map_or (λ p. landed s t rank p w) o w) is_out

answers : {s : Settings} {t : Timing} {rank : ℕ} {log : List Line} {slots : ℕ → Slot} (op : DiskOp) (entry : What) (next : List Line) → op_out log ≡ Some op
    → with_entry s rank log (record { tick = 0; what = entry }) ≡ next → is_gone (phase s next) ≡ false
    → Amid s t rank log (Some entry) slots → Amid s t rank next None slots
unfolding run step refusal AllMay
answers {s} {t} {rank} {log} {slots} op entry next out leads lives a =
    record {
      events = event.Done (rank_of rank) ∷ a.events;
      may = (refl, runs_allowed (node s rank w.moments).on _ 5 a.alone.on (ap (λ o. is_some o && is_some (w.took rank)) is_out ∙ ap is_some a.took_is), a.may);
      alone = subst (λ (x : World). Alone s rank x.moments next) (sym stepped) (subst (λ l. Alone s rank (Adds rank entry ∷ w.moments) l) leads (adds entry a.alone (ap (λ l. is_gone (phase s l)) leads ∙ lives)));
      took_is = ap (λ (x : World). x.took rank) stepped ∙ put_same w.took rank None;
      slots_are = λ k. ap (λ (x : World). x.slots k) stepped ∙ a.slots_are k;
    }
  where
    w : World
    w = run s t a.events

    is_out : op_at s rank w ≡ Some op
    is_out = ap op_out a.alone.log_is ∙ out

    stepped : option_map_or (λ e. answered rank e w) (w.took rank) w ≡ answered rank entry w
    stepped = ap (λ o. option_map_or (λ e. answered rank e w) o w) a.took_is

fails_now : {s : Settings} {t : Timing} {rank : ℕ} {log : List Line} {took : Option What} {slots : ℕ → Slot} (op : DiskOp) (next : List Line) → op_out log ≡ Some op
    → with_entry s rank log (record { tick = 0; what = failed op }) ≡ next → is_gone (phase s next) ≡ false
    → Amid s t rank log took slots → Amid s t rank next None slots
unfolding run step refusal AllMay
fails_now {s} {t} {rank} {log} {took} {slots} op next out leads lives a =
    record {
      events = event.Fail (rank_of rank) ∷ a.events;
      may = (refl, runs_allowed (node s rank w.moments).on _ 5 a.alone.on (ap is_some is_out), a.may);
      alone = subst (λ (x : World). Alone s rank x.moments next) (sym stepped) (subst (λ l. Alone s rank (Adds rank (failed op) ∷ w.moments) l) leads (adds (failed op) a.alone (ap (λ l. is_gone (phase s l)) leads ∙ lives)));
      took_is = ap (λ (x : World). x.took rank) stepped ∙ put_same w.took rank None;
      slots_are = λ k. ap (λ (x : World). x.slots k) stepped ∙ a.slots_are k;
    }
  where
    w : World
    w = run s t a.events

    is_out : op_at s rank w ≡ Some op
    is_out = ap op_out a.alone.log_is ∙ out

    stepped : option_map_or (λ o. fails s rank o w) (op_at s rank w) w ≡ fails s rank op w
    stepped = ap (λ o. option_map_or (λ p. fails s rank p w) o w) is_out

leaves : {s : Settings} {t : Timing} {rank : ℕ} {log : List Line} {took : Option What} {slots : ℕ → Slot} (next : List Line)
    → with_entry s rank log (record { tick = 0; what = what.Leave }) ≡ next → is_gone (phase s next) ≡ false
    → Amid s t rank log took slots → Amid s t rank next took slots
unfolding run step refusal AllMay
leaves {s} {t} {rank} {log} {took} {slots} next leads lives a =
    record {
      events = event.Leave (rank_of rank) ∷ a.events;
      may = (refl, ap (λ b. option_or (unless b 3) None) a.alone.on, a.may);
      alone = subst (λ l. Alone s rank (Adds rank what.Leave ∷ (run s t a.events).moments) l) leads (adds what.Leave a.alone (ap (λ l. is_gone (phase s l)) leads ∙ lives));
      took_is = a.took_is;
      slots_are = a.slots_are;
    }

crashes : {s : Settings} {t : Timing} {rank : ℕ} {log : List Line} {took : Option What} {slots : ℕ → Slot} → Amid s t rank log took slots → AllOff s t slots
unfolding run step refusal AllMay time
crashes {s} {t} {rank} {log} {took} {slots} a =
    record {
      events = event.Crash (rank_of rank) ∷ a.events;
      may = (refl, ap (λ b. option_or (unless b 3) None) a.alone.on, a.may);
      off = λ k. by_owner k (rank == k) refl;
      time = a.alone.time;
      slots_are = a.slots_are;
    }
  where
    by_owner : (k : ℕ) (b : Bool) → (rank == k) ≡ b → (node s k (Ends rank ∷ (run s t a.events).moments)).on ≡ false
    by_owner k true e = subst (λ j. (node s j (Ends rank ∷ (run s t a.events).moments)).on ≡ false) (eqb-true rank k e) (ap (λ (n : Running). n.on) (node_ends s rank (run s t a.events).moments))
    by_owner k false e = ap (λ (n : Running). n.on) (ends_apart s rank k (run s t a.events).moments e) ∙ a.alone.others k e

-- ## The logs of a boot

abbrev pub header_entry : Settings → Timing → What
header_entry s t = what.Header (header.Read (length s.nodes) t)

abbrev pub header_log : Settings → Timing → ℕ → List Line
header_log s t rank = with_line (header_entry s t) (disk.ReadSlot (rank_of rank)) (begin_log rank)

abbrev pub slot_log : Settings → Timing → ℕ → Slot → List Line
slot_log s t rank own = with_line (what.SlotRead (rank_of rank) (slot.Read own)) (disk.WriteClaim (own.incarnation + 1)) (header_log s t rank)

abbrev pub claimed_log : Settings → Timing → ℕ → Slot → List Line
claimed_log s t rank own = with_line (what.Claimed true) disk.WriteClear (slot_log s t rank own)

abbrev pub cleared_log : Settings → Timing → ℕ → Slot → List Line
cleared_log s t rank own = with_line (what.Cleared true) disk.ReadMail (claimed_log s t rank own)

abbrev pub leaving_log : Settings → Timing → ℕ → Slot → List Line
leaving_log s t rank own = line_of what.Leave (cleared_log s t rank own) [] ∷ cleared_log s t rank own

abbrev pub closing_log : Settings → Timing → ℕ → Slot → List Line
closing_log s t rank own =
    line_of (what.MailRead mail.Failed) (leaving_log s t rank own) (out.Disk (disk.WriteClose (own.incarnation + 1)) ∷ []) ∷ leaving_log s t rank own

not_le : (a b : ℕ) → b < a → nat_le a b ≡ false
not_le a b less = grind (arith, nat_tests)

loop_of : (t : Timing) → is_safe t ≡ true → nat_le 1 t.loop_ms ≡ true
loop_of t safe = (and_parts _ _ (and_parts _ _ (and_parts _ _ (and_parts _ _ (and_parts _ _ safe).0).0).0).1).0

module _ (s : Settings) (t : Timing) (rank : ℕ) (safe : is_safe t ≡ true) (below : rank < length s.nodes) where
  header_goes_on : header_halt s (header.Read (length s.nodes) t) ≡ None
  header_goes_on =
      ap (λ b. if not b then Some cause.NotImage else (if is_safe t then None else Some cause.UnsafeTiming)) (equal_to_itself (length s.nodes))
      ∙ decided (is_safe t) safe _ _

  slot_goes_on : (own : Slot) → own.incarnation + 1 < 2 ^ 64 → slot_halt (slot.Read own) ≡ None
  slot_goes_on own fits_it = decided (nat_lt own.incarnation (2 ^ 64 - 1)) (lt-ltb own.incarnation (2 ^ 64 - 1) (omega arith)) _ _

  header_boots : phase s (header_log s t rank) ≡ Booting
  unfolding phase
  header_boots = ap (λ h. boot_phase h Booting) header_goes_on

  slot_boots : (own : Slot) → own.incarnation + 1 < 2 ^ 64 → phase s (slot_log s t rank own) ≡ Booting
  unfolding phase
  slot_boots own fits_it =
      decided (is_booting (phase s (header_log s t rank))) (ap is_booting header_boots) _ _
      ∙ ap (λ h. boot_phase h (phase s (header_log s t rank))) (slot_goes_on own fits_it) ∙ header_boots

  -- one claim
  claims : {slots : ℕ → Slot} (own : Slot) → own.incarnation + 1 < 2 ^ 64 → slots rank ≡ own → AllOff s t slots
      → Amid s t rank (slot_log s t rank own) (Some (what.Claimed true)) (slots_with rank (disk.WriteClaim (own.incarnation + 1)) slots)
  unfolding taken phase op_out begins_clean
  claims {slots} own fits_it same off =
      lands (disk.WriteClaim (own.incarnation + 1)) (what.Claimed true) refl third refl
    where
      first : Amid s t rank (begin_log rank) (Some (header_entry s t)) slots
      first = lands disk.ReadHeader (header_entry s t) refl (boots_alone rank below off) refl

      second : Amid s t rank (header_log s t rank) None slots
      second = answers disk.ReadHeader (header_entry s t) (header_log s t rank) refl
          (boot_step s rank (begin_log rank) (header_entry s t) (disk.ReadSlot (rank_of rank)) refl refl refl header_goes_on refl)
          (ap is_gone header_boots) first

      read : Amid s t rank (header_log s t rank) (Some (what.SlotRead (rank_of rank) (slot.Read own))) slots
      read = lands (disk.ReadSlot (rank_of rank)) (what.SlotRead (rank_of rank) (slot.Read own)) refl second
          (ap (λ x. what.SlotRead (rank_of rank) (slot.Read x)) (second.slots_are rank ∙ same))

      third : Amid s t rank (slot_log s t rank own) None slots
      third = answers (disk.ReadSlot (rank_of rank)) (what.SlotRead (rank_of rank) (slot.Read own)) (slot_log s t rank own) refl
          (boot_step s rank (header_log s t rank) (what.SlotRead (rank_of rank) (slot.Read own)) (disk.WriteClaim (own.incarnation + 1))
          (equal_to_itself rank) (ap is_booting header_boots) refl (slot_goes_on own fits_it) refl)
          (ap is_gone (slot_boots own fits_it)) read

  one_up : {slots : ℕ → Slot} (own : Slot) → own.incarnation + 1 < 2 ^ 64 → slots rank ≡ own → AllOff s t slots
      → AllOff s t (slots_with rank (disk.WriteClaim (own.incarnation + 1)) slots)
  one_up own fits_it same off = crashes (claims own fits_it same off)

  loops : nat_le (0 + t.loop_ms) 0 ≡ false
  loops = not_le (0 + t.loop_ms) 0 (let one = leb-true 1 t.loop_ms (loop_of t safe) in omega arith)

  leaves_step : (own : Slot) → with_entry s rank (cleared_log s t rank own) (record { tick = 0; what = what.Leave }) ≡ leaving_log s t rank own
  unfolding with_entry outs_at acts phase holds op_out wanted_with_delay unmet
  leaves_step own = refl

  closes_step : (own : Slot) → with_entry s rank (leaving_log s t rank own) (record { tick = 0; what = what.MailRead mail.Failed }) ≡ closing_log s t rank own
  unfolding with_entry outs_at acts phase holds op_out wanted_with_delay unmet mail_tick timing claimed
  closes_step own =
      ap (λ b. line_of (what.MailRead mail.Failed) (leaving_log s t rank own) (disk_outs (if b then Some disk.ReadMail else Some (disk.WriteClose (own.incarnation + 1)))) ∷ leaving_log s t rank own) loops

  one_clean : {slots : ℕ → Slot} (own : Slot) → own.incarnation + 1 < 2 ^ 64 → slots rank ≡ own → AllOff s t slots
      → AllOff s t (slots_with rank (disk.WriteClose (own.incarnation + 1)) (slots_with rank (disk.WriteClaim (own.incarnation + 1)) slots))
  unfolding taken phase op_out failed begins_clean
  one_clean {slots} own fits_it same off =
      crashes (lands (disk.WriteClose (own.incarnation + 1)) (what.Closed true) refl closing refl)
    where
      claimed_slots : ℕ → Slot
      claimed_slots = slots_with rank (disk.WriteClaim (own.incarnation + 1)) slots

      claimed_now : Amid s t rank (claimed_log s t rank own) None claimed_slots
      claimed_now = answers (disk.WriteClaim (own.incarnation + 1)) (what.Claimed true) (claimed_log s t rank own) refl
          (boot_step s rank (slot_log s t rank own) (what.Claimed true) disk.WriteClear refl (ap is_booting (slot_boots own fits_it)) refl refl refl)
          (ap is_gone (slot_boots own fits_it)) (claims own fits_it same off)

      cleared_now : Amid s t rank (cleared_log s t rank own) None claimed_slots
      cleared_now = answers disk.WriteClear (what.Cleared true) (cleared_log s t rank own) refl
          (boot_step s rank (claimed_log s t rank own) (what.Cleared true) disk.ReadMail refl (ap is_booting (slot_boots own fits_it)) refl refl refl)
          refl (lands disk.WriteClear (what.Cleared true) refl claimed_now refl)

      closing : Amid s t rank (closing_log s t rank own) None claimed_slots
      closing = fails_now disk.ReadMail (closing_log s t rank own) refl (closes_step own) refl
          (leaves (leaving_log s t rank own) (leaves_step own) refl cleared_now)

-- ## Any slots

-- the slots of a new image
abbrev pub new_slots : ℕ → Slot
new_slots rank = record { incarnation = 0; clean = true }

-- all nodes are off, and the slot of a rank has become this one
record HasSlot (s : Settings) (t : Timing) (rank : ℕ) (slots_before : ℕ → Slot) (target : Slot → Type 0) : Type 0 where
  slots : ℕ → Slot
  all : AllOff s t slots
  here : target (slots rank)
  apart : (k : ℕ) → (rank == k) ≡ false → slots k ≡ slots_before k

module _ (s : Settings) (t : Timing) (safe : is_safe t ≡ true) where
  climbs : (rank : ℕ) → rank < length s.nodes → (slots : ℕ → Slot) → slots rank ≡ new_slots rank → AllOff s t slots → (number : ℕ) → number < 2 ^ 64
      → HasSlot s t rank slots (λ own. own.incarnation ≡ number)
  climbs rank below slots new off zero fits_it =
      record { slots = slots; all = off; here = ap (λ (x : Slot). x.incarnation) new; apart = λ k other. refl }
  climbs rank below slots new off (suc number) fits_it = next (climbs rank below slots new off number (omega arith))
    where
      next : HasSlot s t rank slots (λ own. own.incarnation ≡ number) → HasSlot s t rank slots (λ own. own.incarnation ≡ suc number)
      next had =
          record {
            slots = slots_with rank (disk.WriteClaim ((had.slots rank).incarnation + 1)) had.slots;
            all = one_up s t rank safe below (had.slots rank) (let same = had.here in omega arith) refl had.all;
            here = ap (λ (x : Slot). x.incarnation) (put_same had.slots rank (record { incarnation = (had.slots rank).incarnation + 1; clean = false })) ∙ (let same = had.here in omega arith);
            apart = λ k other. put_other had.slots rank k (record { incarnation = (had.slots rank).incarnation + 1; clean = false }) other ∙ had.apart k other;
          }

  reaches : (rank : ℕ) → rank < length s.nodes → (slots : ℕ → Slot) → slots rank ≡ new_slots rank → AllOff s t slots → (number : ℕ) (clean : Bool) → number < 2 ^ 64
      → (number ≡ 0 → clean ≡ true) → HasSlot s t rank slots (λ own. own ≡ record { incarnation = number; clean = clean })
  reaches rank below slots new off zero clean fits_it first =
      record { slots = slots; all = off; here = new ∙ ap (λ c. record { incarnation = 0; clean = c }) (sym (first refl)); apart = λ k other. refl }
  reaches rank below slots new off (suc number) false fits_it first = next (climbs rank below slots new off number (omega arith))
    where
      next : HasSlot s t rank slots (λ own. own.incarnation ≡ number) → HasSlot s t rank slots (λ own. own ≡ record { incarnation = suc number; clean = false })
      next had =
          record {
            slots = slots_with rank (disk.WriteClaim ((had.slots rank).incarnation + 1)) had.slots;
            all = one_up s t rank safe below (had.slots rank) (let same = had.here in omega arith) refl had.all;
            here = put_same had.slots rank (record { incarnation = (had.slots rank).incarnation + 1; clean = false })
                ∙ ap (λ k. record { incarnation = k; clean = false }) (let same = had.here in omega arith);
            apart = λ k other. put_other had.slots rank k (record { incarnation = (had.slots rank).incarnation + 1; clean = false }) other ∙ had.apart k other;
          }
  reaches rank below slots new off (suc number) true fits_it first = next (climbs rank below slots new off number (omega arith))
    where
      next : HasSlot s t rank slots (λ own. own.incarnation ≡ number) → HasSlot s t rank slots (λ own. own ≡ record { incarnation = suc number; clean = true })
      next had =
          let claimed_slots = slots_with rank (disk.WriteClaim ((had.slots rank).incarnation + 1)) had.slots in
          record {
            slots = slots_with rank (disk.WriteClose ((had.slots rank).incarnation + 1)) claimed_slots;
            all = one_clean s t rank safe below (had.slots rank) (let same = had.here in omega arith) refl had.all;
            here = put_same claimed_slots rank (record { incarnation = (had.slots rank).incarnation + 1; clean = true })
                ∙ ap (λ k. record { incarnation = k; clean = true }) (let same = had.here in omega arith);
            apart = λ k other. put_other claimed_slots rank k (record { incarnation = (had.slots rank).incarnation + 1; clean = true }) other
                ∙ put_other had.slots rank k (record { incarnation = (had.slots rank).incarnation + 1; clean = false }) other ∙ had.apart k other;
          }

  -- the slots of the ranks below a number are these, and the others are new
  record HasSlots (target : ℕ → Slot) (count : ℕ) : Type 0 where
    slots : ℕ → Slot
    all : AllOff s t slots
    done : (k : ℕ) → k < count → slots k ≡ target k
    new : (k : ℕ) → count ≤ k → slots k ≡ new_slots k

  each_slot : (target : ℕ → Slot) → ((k : ℕ) → k < length s.nodes → (target k).incarnation < 2 ^ 64)
      → ((k : ℕ) → k < length s.nodes → (target k).incarnation ≡ 0 → (target k).clean ≡ true) → (count : ℕ) → count ≤ length s.nodes → HasSlots target count
  unfolding run AllMay node time
  each_slot target fit first zero within =
      record { slots = new_slots; all = record { events = []; may = tt; off = λ k. refl; time = refl; slots_are = λ k. refl }; done = λ k below. absurd (omega (arith, below)); new = λ k above. refl }
  each_slot target fit first (suc count) within = next (each_slot target fit first count (omega arith))
    where
      next : HasSlots target count → HasSlots target (suc count)
      next had = with_this (reaches count (omega arith) had.slots (had.new count (omega arith)) had.all (target count).incarnation (target count).clean (fit count (omega arith)) (first count (omega arith)))
        where
          with_this : HasSlot s t count had.slots (λ own. own ≡ target count) → HasSlots target (suc count)
          with_this one =
              record {
                slots = one.slots;
                all = one.all;
                done = λ k below. by_order k below (count == k) refl;
                new = λ k above. one.apart k (ne_eqb count k (λ same. omega (arith, same, above))) ∙ had.new k (omega arith);
              }
            where
              by_order : (k : ℕ) → k < suc count → (b : Bool) → (count == k) ≡ b → one.slots k ≡ target k
              by_order k below true e = subst (λ j. one.slots j ≡ target j) (eqb-true count k e) one.here
              by_order k below false e = one.apart k e ∙ had.done k (let apart = eqb-false count k e in by_less k below apart (cases_lt k count))
                where
                  by_less : (j : ℕ) → j < suc count → (count ≡ j → ⊥) → (j < count) ⊎ (count ≤ j) → j < count
                  by_less j under apart (inl less) = less
                  by_less j under apart (inr more) = absurd (apart (omega arith))

-- ## Any mailboxes

-- events that may happen, after which all nodes are off, no time has passed, and slots and mailboxes are these, up to a rank
pub record IsLeft (s : Settings) (t : Timing) (slots : ℕ → Slot) (mails : ℕ → Message) (count : ℕ) : Type 0 where
  pub events : List Event
  pub may : AllMay s t events
  pub off : (k : ℕ) → (node_at s k (run s t events)).on ≡ false
  pub time : time (run s t events).moments ≡ 0
  pub slots_are : (k : ℕ) → k < length s.nodes → (run s t events).slots k ≡ slots k
  pub mails_are : (k : ℕ) → k < count → (run s t events).mailboxes k ≡ mails k

pub each_mail : (s : Settings) (t : Timing) (slots : ℕ → Slot) (mails : ℕ → Message) → IsLeft s t slots mails 0 → (count : ℕ) → IsLeft s t slots mails count
unfolding run step refusal AllMay
each_mail s t slots mails left zero = left
each_mail s t slots mails left (suc count) = next (each_mail s t slots mails left count)
  where
    next : IsLeft s t slots mails count → IsLeft s t slots mails (suc count)
    next had =
        record {
          events = event.Operator (rank_of count) (mails count) ∷ had.events;
          may = (refl, ap (λ b. unless b 10) (by_last (is_deadly (mails count)) (not (is_deadly ((run s t had.events).mailboxes count))) (not (node_at s count (run s t had.events)).on) (ap not (had.off count))), had.may);
          off = had.off;
          time = had.time;
          slots_are = had.slots_are;
          mails_are = λ k below. by_order k below (count == k) refl;
        }
      where
        by_last : (deadly stays off : Bool) → off ≡ true → (deadly || stays || off) ≡ true
        by_last true stays off e = refl
        by_last false true off e = refl
        by_last false false off e = e

        by_order : (k : ℕ) → k < suc count → (b : Bool) → (count == k) ≡ b → (if b then mails count else (run s t had.events).mailboxes k) ≡ mails k
        by_order k below true e = ap mails (eqb-true count k e)
        by_order k below false e = let apart = eqb-false count k e in had.mails_are k (by_less k below apart (cases_lt k count))
          where
            by_less : (j : ℕ) → j < suc count → (count ≡ j → ⊥) → (j < count) ⊎ (count ≤ j) → j < count
            by_less j under apart (inl less) = less
            by_less j under apart (inr more) = absurd (apart (omega arith))

-- any slots and mailboxes
pub reached : (s : Settings) (t : Timing) → is_safe t ≡ true → (slots : ℕ → Slot) (mails : ℕ → Message)
    → ((k : ℕ) → k < length s.nodes → (slots k).incarnation < 2 ^ 64) → ((k : ℕ) → k < length s.nodes → (slots k).incarnation ≡ 0 → (slots k).clean ≡ true)
    → IsLeft s t slots mails (length s.nodes)
reached s t safe slots mails fit first =
    each_mail s t slots mails (from (each_slot s t safe slots fit first (length s.nodes) (omega arith))) (length s.nodes)
  where
    from : HasSlots s t safe slots (length s.nodes) → IsLeft s t slots mails 0
    from had =
        record {
          events = had.all.events;
          may = had.all.may;
          off = had.all.off;
          time = had.all.time;
          slots_are = λ k below. had.all.slots_are k ∙ had.done k below;
          mails_are = λ k below. absurd (omega (arith, below));
        }

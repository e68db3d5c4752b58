-- What an event of the world is to one node: its log, what its operation took at its landing, its leftovers and its slot.
use Rattle.std.proofs.Common.{◌≡◌, ℕ, suc, Bool, true, false, List, [], ◌∷◌, ◌++◌, Some, None, Option, refl, sym, ap, ◌∙◌, subst, ◌==◌, not, if◌then◌else◌, is_some}
use Rattle.std.specs.Option.{option_or, option_map_or}
use Rattle.std.proofs.lemmas.Bool.{false≢true, eqb-true, not-true}
use Rattle.qn_base.specs.declared.ids.Rank.{Rank}
use Rattle.qn_base.specs.Members.{is_member}
use Rattle.qn_model.specs.declared.configuration.Settings.{Settings}
use Rattle.qn_model.specs.declared.times.Timing.{Timing}
use Rattle.qn_model.specs.declared.disk.Slot.{Slot}
use Rattle.qn_model.specs.declared.packets.Packet.TheVariants as packet
use Rattle.qn_model.specs.declared.entries.What.{What}
use Rattle.qn_model.specs.declared.entries.What.TheVariants as what
use Rattle.qn_model.specs.declared.outputs.DiskOp.{DiskOp}
use Rattle.qn_model.specs.declared.outputs.DiskOp.TheVariants as disk
use Rattle.qn_model.specs.Log.{Line, op_out, is_answer}
use Rattle.qn_model.specs.Phases.{phase}
use Rattle.qn_model.specs.NodeVotes.{view}
use Rattle.qn_model.specs.NodeOutputs.{with_entry}
use Rattle.qn_model.specs.declared.packets.Sent.{Sent}
use Rattle.qn_model.specs.Moments.{Passes, Adds, Feeds, Ends, Running, tick_of, is_gone, logged, handed, begin_of, booted, time, node, packets}
use Rattle.qn_model.specs.declared.events.Event.{Event}
use Rattle.qn_model.specs.declared.events.Event.TheVariants as event
use Rattle.qn_model.specs.World.{World, put, op_at, slots_with, taken, failed, given_up, leftover_at, numbered, without}
use Rattle.qn_model.specs.Rules.{refusal, unless, is_on, may_land, may_be_done, may_fail, may_be_stopped, may_be_late, may_deliver}
use Rattle.qn_model.specs.Steps as Steps
use Rattle.qn_model.specs.Steps.{happens, written, landed, answered, gives_up, fails, lands_late, entry_of, step, run}
use Rattle.std.specs.Prelude.{slice_get}
use Rattle.qn_base.specs.lemmas.Options.{value_there, value_tested, some_is_not_none}
use Rattle.qn_base.specs.lemmas.Bools.{first_of_both, second_of_both}
use Rattle.qn_model.specs.lemmas.Entries.{packet_answers_none}
use Rattle.qn_model.specs.lemmas.Rules.{allowed, both_allowed}
use Rattle.qn_model.specs.lemmas.Moments.{node_adds, node_boots, put_same, put_other, adds_apart, boots_apart, ends_apart, node_ends}
use Rattle.qn_safety.proofs.Origins.{line_of}

-- the part of the world that is one node's
pub record Seat : Type 0 where
  pub on : Bool
  pub boots : ℕ
  pub log : List Line
  pub took : Option What
  pub left : List DiskOp
  pub slot : Slot

abbrev pub seat_from : Running → Option What → List DiskOp → Slot → Seat
seat_from n took left slot = record { on = n.on; boots = n.boots; log = n.log; took = took; left = left; slot = slot }

abbrev pub seat_of : Settings → ℕ → World → Seat
seat_of s j w = seat_from (node s j w.moments) (w.took j) (w.left j) (w.slots j)

-- a seat whose node was handed an entry at a tick
abbrev pub entered : Settings → ℕ → ℕ → What → Seat → Seat
entered s j tick entry x =
    record x { on = not (is_gone (phase s (line_of s j tick entry x.log ∷ x.log))); log = line_of s j tick entry x.log ∷ x.log }

-- a seat whose node begins a boot
abbrev pub fresh : Seat → Seat
fresh x = record { on = true; boots = suc x.boots; log = []; took = None; left = []; slot = x.slot }

-- a slot after a write of its node landed
abbrev pub slot_after : DiskOp → Slot → Slot
slot_after (disk.WriteClaim number) before = record { incarnation = number; clean = false }
slot_after (disk.WriteClose number) before = record { incarnation = number; clean = true }
slot_after op before = before

-- what an event is to the seat of a node
pub data Effect (s : Settings) (t : Timing) (j : ℕ) (w w' : World) : Type 0 where
  Rests : seat_of s j w' ≡ seat_of s j w → Effect s t j w w'
  Enters : (tick : ℕ) (entry : What) → (node s j w.moments).on ≡ true → is_answer entry ≡ false → seat_of s j w' ≡ entered s j tick entry (seat_of s j w) → Effect s t j w w'
  Answers : (tick : ℕ) (entry : What) → (node s j w.moments).on ≡ true → w.took j ≡ Some entry
      → seat_of s j w' ≡ record (entered s j tick entry (seat_of s j w)) { took = None } → Effect s t j w w'
  Fails : (tick : ℕ) (op : DiskOp) → (node s j w.moments).on ≡ true → op_out (node s j w.moments).log ≡ Some op
      → seat_of s j w' ≡ record (entered s j tick (failed op) (seat_of s j w)) { took = None; left = w.left j ++ given_up (Some op) (w.took j) } → Effect s t j w w'
  BootsUp : (tick : ℕ) (clean : Bool) → (node s j w.moments).on ≡ false → seat_of s j w' ≡ entered s j tick (begin_of clean) (fresh (seat_of s j w)) → Effect s t j w w'
  GoesOff : (node s j w.moments).on ≡ true
      → seat_of s j w' ≡ record (seat_of s j w) { on = false; took = None; left = w.left j ++ given_up (op_out (node s j w.moments).log) (w.took j) } → Effect s t j w w'
  Lands : (op : DiskOp) → (node s j w.moments).on ≡ true → op_out (node s j w.moments).log ≡ Some op → w.took j ≡ None → w' ≡ landed s t j op w
      → seat_of s j w' ≡ record (seat_of s j w) { took = Some (taken s t j op w); slot = slot_after op (w.slots j) } → Effect s t j w w'
  LandsLate : (number : ℕ) (op : DiskOp) → numbered (w.left j) number ≡ Some op
      → seat_of s j w' ≡ record (seat_of s j w) { left = without (w.left j) number; slot = slot_after op (w.slots j) } → Effect s t j w w'

slots_own : (j : ℕ) (op : DiskOp) (slots : ℕ → Slot) → slots_with j op slots j ≡ slot_after op (slots j)
slots_own j (disk.WriteClaim number) slots = put_same slots j (record { incarnation = number; clean = false })
slots_own j (disk.WriteClose number) slots = put_same slots j (record { incarnation = number; clean = true })
slots_own j disk.ReadHeader slots = refl
slots_own j (disk.ReadSlot rank) slots = refl
slots_own j disk.CheckMail slots = refl
slots_own j disk.WriteClear slots = refl
slots_own j disk.ReadMail slots = refl
slots_own j (disk.WriteReset rank) slots = refl

slots_other : (r j : ℕ) (op : DiskOp) (slots : ℕ → Slot) → (r == j) ≡ false → slots_with r op slots j ≡ slots j
slots_other r j (disk.WriteClaim number) slots e = put_other slots r j (record { incarnation = number; clean = false }) e
slots_other r j (disk.WriteClose number) slots e = put_other slots r j (record { incarnation = number; clean = true }) e
slots_other r j disk.ReadHeader slots e = refl
slots_other r j (disk.ReadSlot rank) slots e = refl
slots_other r j disk.CheckMail slots e = refl
slots_other r j disk.WriteClear slots e = refl
slots_other r j disk.ReadMail slots e = refl
slots_other r j (disk.WriteReset rank) slots e = refl

seat_same : (n m : Running) (took took' : Option What) (left left' : List DiskOp) (slot slot' : Slot) → n ≡ m → took ≡ took' → left ≡ left' → slot ≡ slot'
    → seat_from n took left slot ≡ seat_from m took' left' slot'
seat_same n m took took' left left' slot slot' a b c d = cc

handed_seat : (s : Settings) (j now : ℕ) (entry : What) (n : Running) (took : Option What) (left : List DiskOp) (slot : Slot)
    → seat_from (handed s j now entry n) took left slot ≡ entered s j (tick_of n.clock) entry (seat_from n took left slot)
unfolding handed logged with_entry line_of
handed_seat s j now entry n took left slot = refl

booted_seat : (s : Settings) (j now base : ℕ) (clean : Bool) (n : Running) (took : Option What) (left : List DiskOp) (slot : Slot)
    → seat_from (booted s j now base clean n) None [] slot ≡ entered s j (tick_of base) (begin_of clean) (fresh (seat_from n took left slot))
unfolding booted handed logged with_entry line_of
booted_seat s j now base clean n took left slot = refl

seat_passes : (s : Settings) (j dt : ℕ) (clocks : List (Rank × ℕ)) (w : World) → seat_of s j (happens (Passes dt clocks) w) ≡ seat_of s j w
unfolding node
seat_passes s j dt clocks w = refl

seat_feeds : (s : Settings) (j r : ℕ) (w : World) → seat_of s j (happens (Feeds r) w) ≡ seat_of s j w
unfolding node
seat_feeds s j r w = by_owner (r == j)
  where
    by_owner : (b : Bool) → seat_from (if b then record (node s j w.moments) { fed = time w.moments } else node s j w.moments) (w.took j) (w.left j) (w.slots j) ≡ seat_of s j w
    by_owner true = refl
    by_owner false = refl

module _ (s : Settings) (t : Timing) where
  -- an entry that is no answer
  pub effect_enters : (r j : ℕ) (entry : What) (w : World) → (node s r w.moments).on ≡ true → is_answer entry ≡ false → Effect s t j w (happens (Adds r entry) w)
  effect_enters r j entry w on plain = by_owner (r == j) refl
    where
      own : Effect s t r w (happens (Adds r entry) w)
      own = Enters (tick_of (node s r w.moments).clock) entry on plain
          (seat_same _ _ _ _ _ _ _ _ (node_adds s r entry w.moments) refl refl refl ∙ handed_seat s r (time w.moments) entry (node s r w.moments) (w.took r) (w.left r) (w.slots r))

      by_owner : (b : Bool) → (r == j) ≡ b → Effect s t j w (happens (Adds r entry) w)
      by_owner true e = subst (λ k. Effect s t k w (happens (Adds r entry) w)) (eqb-true r j e) own
      by_owner false e = Rests (seat_same _ _ _ _ _ _ _ _ (adds_apart s r j entry w.moments e) refl refl refl)

  pub effect_answers : (r j : ℕ) (entry : What) (w : World) → (node s r w.moments).on ≡ true → w.took r ≡ Some entry → Effect s t j w (answered r entry w)
  effect_answers r j entry w on took = by_owner (r == j) refl
    where
      own : Effect s t r w (answered r entry w)
      own = Answers (tick_of (node s r w.moments).clock) entry on took
          (seat_same _ _ _ _ _ _ _ _ (node_adds s r entry w.moments) (put_same w.took r None) refl refl ∙ handed_seat s r (time w.moments) entry (node s r w.moments) None (w.left r) (w.slots r))

      by_owner : (b : Bool) → (r == j) ≡ b → Effect s t j w (answered r entry w)
      by_owner true e = subst (λ k. Effect s t k w (answered r entry w)) (eqb-true r j e) own
      by_owner false e = Rests (seat_same _ _ _ _ _ _ _ _ (adds_apart s r j entry w.moments e) (put_other w.took r j None e) refl refl)

  pub effect_fails : (r j : ℕ) (op : DiskOp) (w : World) → (node s r w.moments).on ≡ true → op_out (node s r w.moments).log ≡ Some op → Effect s t j w (fails s r op w)
  effect_fails r j op w on out = by_owner (r == j) refl
    where
      left_own : put w.left r (w.left r ++ leftover_at s r w) r ≡ w.left r ++ given_up (Some op) (w.took r)
      left_own = put_same w.left r (w.left r ++ leftover_at s r w) ∙ ap (λ o. w.left r ++ given_up o (w.took r)) out

      own : Effect s t r w (fails s r op w)
      own = Fails (tick_of (node s r w.moments).clock) op on out
          (seat_same _ _ _ _ _ _ _ _ (node_adds s r (failed op) w.moments) (put_same w.took r None) left_own refl
          ∙ handed_seat s r (time w.moments) (failed op) (node s r w.moments) None (w.left r ++ given_up (Some op) (w.took r)) (w.slots r))

      by_owner : (b : Bool) → (r == j) ≡ b → Effect s t j w (fails s r op w)
      by_owner true e = subst (λ k. Effect s t k w (fails s r op w)) (eqb-true r j e) own
      by_owner false e = Rests (seat_same _ _ _ _ _ _ _ _ (adds_apart s r j (failed op) w.moments e) (put_other w.took r j None e) (put_other w.left r j (w.left r ++ leftover_at s r w) e) refl)

  pub effect_boots : (r j base : ℕ) (clean : Bool) (w : World) → (node s r w.moments).on ≡ false → Effect s t j w (Steps.boots r base clean w)
  effect_boots r j base clean w off = by_owner (r == j) refl
    where
      own : Effect s t r w (Steps.boots r base clean w)
      own = BootsUp (tick_of base) clean off
          (seat_same _ _ _ _ _ _ _ _ (node_boots s r base clean w.moments) (put_same w.took r None) (put_same w.left r []) refl
          ∙ booted_seat s r (time w.moments) base clean (node s r w.moments) (w.took r) (w.left r) (w.slots r))

      by_owner : (b : Bool) → (r == j) ≡ b → Effect s t j w (Steps.boots r base clean w)
      by_owner true e = subst (λ k. Effect s t k w (Steps.boots r base clean w)) (eqb-true r j e) own
      by_owner false e = Rests (seat_same _ _ _ _ _ _ _ _ (boots_apart s r j base clean w.moments e) (put_other w.took r j None e) (put_other w.left r j [] e) refl)

  pub effect_ends : (r j : ℕ) (w : World) → (node s r w.moments).on ≡ true → Effect s t j w (happens (Ends r) (gives_up s r w))
  effect_ends r j w on = by_owner (r == j) refl
    where
      own : Effect s t r w (happens (Ends r) (gives_up s r w))
      own = GoesOff on
          (seat_same _ _ _ _ _ _ _ _ (node_ends s r w.moments) (put_same w.took r None) (put_same w.left r (w.left r ++ leftover_at s r w)) refl)

      by_owner : (b : Bool) → (r == j) ≡ b → Effect s t j w (happens (Ends r) (gives_up s r w))
      by_owner true e = subst (λ k. Effect s t k w (happens (Ends r) (gives_up s r w))) (eqb-true r j e) own
      by_owner false e = Rests (seat_same _ _ _ _ _ _ _ _ (ends_apart s r j w.moments e) (put_other w.took r j None e) (put_other w.left r j (w.left r ++ leftover_at s r w) e) refl)

  pub effect_lands : (r j : ℕ) (op : DiskOp) (w : World) → (node s r w.moments).on ≡ true → op_out (node s r w.moments).log ≡ Some op → w.took r ≡ None → Effect s t j w (landed s t r op w)
  effect_lands r j op w on out none = by_owner (r == j) refl
    where
      own : Effect s t r w (landed s t r op w)
      own = Lands op on out none refl
          (seat_same (node s r w.moments) (node s r w.moments) _ _ _ _ _ _ refl (put_same w.took r (Some (taken s t r op w))) refl (slots_own r op w.slots))

      by_owner : (b : Bool) → (r == j) ≡ b → Effect s t j w (landed s t r op w)
      by_owner true e = subst (λ k. Effect s t k w (landed s t r op w)) (eqb-true r j e) own
      by_owner false e = Rests (seat_same (node s j w.moments) (node s j w.moments) _ _ _ _ _ _ refl (put_other w.took r j (Some (taken s t r op w)) e) refl (slots_other r j op w.slots e))

  pub effect_late : (r j number : ℕ) (op : DiskOp) (w : World) → numbered (w.left r) number ≡ Some op → Effect s t j w (lands_late r number op w)
  effect_late r j number op w there = by_owner (r == j) refl
    where
      own : Effect s t r w (lands_late r number op w)
      own = LandsLate number op there
          (seat_same (node s r w.moments) (node s r w.moments) (w.took r) (w.took r) _ _ _ _ refl refl (put_same w.left r (without (w.left r) number)) (slots_own r op w.slots))

      by_owner : (b : Bool) → (r == j) ≡ b → Effect s t j w (lands_late r number op w)
      by_owner true e = subst (λ k. Effect s t k w (lands_late r number op w)) (eqb-true r j e) own
      by_owner false e = Rests (seat_same (node s j w.moments) (node s j w.moments) (w.took j) (w.took j) _ _ _ _ refl refl (put_other w.left r j (without (w.left r) number) e) (slots_other r j op w.slots e))

pub running_allows : (a : Bool) (first : ℕ) → option_or (unless a first) None ≡ None → a ≡ true
running_allows true first e = refl
running_allows false first e = some_is_not_none first e

not_there : {A : Type 0} (o : Option A) → not (is_some o) ≡ true → o ≡ None
not_there None e = refl
not_there (Some x) e = absurd (false≢true e)

-- what each event that is allowed is to the seat of each node
pub effect : (s : Settings) (t : Timing) (j : ℕ) (e : Event) (w : World) → refusal s t e w ≡ None → Effect s t j w (step s t e w)
unfolding refusal step
effect s t j (event.Pass dt clocks) w ok = Rests (seat_passes s j dt clocks w)
effect s t j (event.Boot rank base) w ok = effect_boots s t rank.0 j base false w (not-true (is_on s rank.0 w) (allowed (not (is_on s rank.0 w)) 2 ok))
effect s t j (event.BootClean rank base) w ok = effect_boots s t rank.0 j base true w (not-true (is_on s rank.0 w) (allowed (not (is_on s rank.0 w)) 2 ok))
effect s t j (event.Crash rank) w ok = effect_ends s t rank.0 j w (running_allows (is_on s rank.0 w) 3 ok)
effect s t j (event.Land rank) w ok =
    let rules = both_allowed (is_on s rank.0 w) (may_land s rank.0 w) 3 4 ok in
    let out = value_there (op_at s rank.0 w) (first_of_both (is_some (op_at s rank.0 w)) (not (is_some (w.took rank.0))) rules.1) in
    let none = not_there (w.took rank.0) (second_of_both (is_some (op_at s rank.0 w)) (not (is_some (w.took rank.0))) rules.1) in
    subst (λ o. Effect s t j w (option_map_or (λ op. landed s t rank.0 op w) o w)) (sym out.1) (effect_lands s t rank.0 j out.0 w rules.0 out.1 none)
effect s t j (event.Done rank) w ok =
    let rules = both_allowed (is_on s rank.0 w) (may_be_done s rank.0 w) 3 5 ok in
    let took = value_there (w.took rank.0) (second_of_both (is_some (op_at s rank.0 w)) (is_some (w.took rank.0)) rules.1) in
    subst (λ o. Effect s t j w (option_map_or (λ entry. answered rank.0 entry w) o w)) (sym took.1) (effect_answers s t rank.0 j took.0 w rules.0 took.1)
effect s t j (event.Fail rank) w ok =
    let rules = both_allowed (is_on s rank.0 w) (may_fail s rank.0 w) 3 5 ok in
    let out = value_there (op_at s rank.0 w) rules.1 in
    subst (λ o. Effect s t j w (option_map_or (λ op. fails s rank.0 op w) o w)) (sym out.1) (effect_fails s t rank.0 j out.0 w rules.0 out.1)
effect s t j (event.Late rank number) w ok =
    let there = value_there (numbered (w.left rank.0) number) (allowed (may_be_late rank.0 number w) 6 ok) in
    subst (λ o. Effect s t j w (option_map_or (λ op. lands_late rank.0 number op w) o w)) (sym there.1) (effect_late s t rank.0 j number there.0 w there.1)
effect s t j (event.View rank view) w ok = effect_enters s t rank.0 j (what.View view) w ((both_allowed (is_on s rank.0 w) (is_member view.members rank.0) 3 7 ok).0) refl
effect s t j (event.Deliver rank number) w ok =
    let rules = both_allowed (is_on s rank.0 w) (may_deliver s rank.0 number w) 3 8 ok in
    let sent = value_tested (λ (x : Sent). x.to.0 == rank.0) (slice_get (packets s w.moments) number) rules.1 in
    subst (λ o. Effect s t j w (option_map_or (λ x. happens (Adds rank.0 (entry_of x.packet)) w) o w)) (sym sent.1)
    (effect_enters s t rank.0 j (entry_of sent.0.packet) w rules.0 (packet_answers_none sent.0.packet))
effect s t j (event.Device rank agrees) w ok = effect_enters s t rank.0 j (what.Device agrees) w (running_allows (is_on s rank.0 w) 3 ok) refl
effect s t j (event.Tick rank) w ok = effect_enters s t rank.0 j what.Tick w (running_allows (is_on s rank.0 w) 3 ok) refl
effect s t j (event.Stopped rank) w ok = effect_enters s t rank.0 j (what.Stopped true) w ((both_allowed (is_on s rank.0 w) (may_be_stopped s rank.0 w) 3 5 ok).0) refl
effect s t j (event.Unstopped rank) w ok = effect_enters s t rank.0 j (what.Stopped false) w ((both_allowed (is_on s rank.0 w) (may_be_stopped s rank.0 w) 3 5 ok).0) refl
effect s t j (event.Leave rank) w ok = effect_enters s t rank.0 j what.Leave w (running_allows (is_on s rank.0 w) 3 ok) refl
effect s t j (event.Feed rank) w ok = Rests (seat_feeds s j rank.0 w)
effect s t j (event.Operator rank message) w ok = Rests refl

-- What an event of the world of three images is to one node: its log, the parts of its operation, its leftovers, its good
-- images and its slots.
use Rattle.std.proofs.Common.{◌≡◌, ℕ, suc, Bool, true, false, List, [], ◌∷◌, ◌++◌, Some, None, refl, sym, ap, ◌∙◌, subst, ◌==◌, not, if◌then◌else◌, is_some}
use Rattle.std.specs.Option.{option_map_or}
use Rattle.std.specs.Prelude.{slice_get}
use Rattle.std.proofs.lemmas.Bool.{false≢true, eqb-true, not-true}
use Rattle.qn_base.specs.declared.ids.Rank.{Rank}
use Rattle.qn_base.specs.Members.{is_member}
use Rattle.qn_base.specs.lemmas.Options.{value_there, value_tested}
use Rattle.qn_base.specs.lemmas.Bools.{first_of_both, second_of_both}
use Rattle.qn_model.specs.declared.configuration.Settings.{Settings}
use Rattle.qn_model.specs.declared.times.Timing.{Timing}
use Rattle.qn_model.specs.declared.disk.Slot.{Slot}
use Rattle.qn_model.specs.declared.packets.Packet.TheVariants as packet
use Rattle.qn_model.specs.declared.packets.Sent.{Sent}
use Rattle.qn_model.specs.declared.entries.What.{What}
use Rattle.qn_model.specs.declared.entries.What.TheVariants as what
use Rattle.qn_model.specs.declared.events.Event.TheVariants as event
use Rattle.qn_model.specs.declared.outputs.DiskOp.{DiskOp}
use Rattle.qn_model.specs.declared.outputs.DiskOp.TheVariants as disk
use Rattle.qn_model.specs.lemmas.Entries.{packet_answers_none}
use Rattle.qn_model.specs.lemmas.Rules.{allowed, both_allowed}
use Rattle.qn_model.specs.lemmas.Moments.{node_adds, node_boots, put_same, put_other, adds_apart, boots_apart, ends_apart, node_ends}
use Rattle.qn_model.specs.Log.{Line, op_out, is_answer}
use Rattle.qn_model.specs.Phases.{phase}
use Rattle.qn_model.specs.NodeOutputs.{with_entry}
use Rattle.qn_model.specs.Moments.{Passes, Adds, Feeds, Running, tick_of, is_gone, logged, handed, begin_of, booted, time, node, packets}
use Rattle.qn_model.specs.World.{put, taken, numbered, without}
use Rattle.qn_model.specs.Rules.{refusal, is_on, may_be_stopped, may_be_late, may_deliver}
use Rattle.qn_model.specs.Steps.{happens, entry_of, step}
use Rattle.qn_safety.specs.declared.triple_event.TripleEvent.{TripleEvent}
use Rattle.qn_safety.specs.declared.triple_event.TripleEvent.TheVariants as triple
use Rattle.qn_safety.specs.declared.part.Part.{Part}
use Rattle.qn_safety.specs.declared.part.Part.TheVariants.{Pending, Landed, Failed}
use Rattle.qn_safety.specs.TripleWorld.{TripleWorld, all_pending, all_good, none_left, image_of, nodes_of, op_of, is_pending, has_failed, leaves_over, answer_of, good_after, slots_on}
use Rattle.qn_safety.specs.TripleRules.{refusal_triple, may_land_on, may_fail_on, may_be_done_triple, none_pending}
use Rattle.qn_safety.specs.TripleSteps.{happens_triple, landed_on, failed_on, done_triple, ends_triple, boots_triple, lands_late_on, step_triple}
use Rattle.qn_safety.proofs.Origins.{line_of}
use Rattle.qn_safety.proofs.Seats.{running_allows}

-- the part of the world that is one node's; the last four by image
pub record TripleSeat : Type 0 where
  pub on : Bool
  pub boots : ℕ
  pub log : List Line
  pub parts : ℕ → Part
  pub left : ℕ → List DiskOp
  pub good : ℕ → Bool
  pub slots : ℕ → Slot

abbrev pub seat_from : Running → (ℕ → Part) → (ℕ → List DiskOp) → (ℕ → Bool) → (ℕ → Slot) → TripleSeat
seat_from n parts left good slots = record { on = n.on; boots = n.boots; log = n.log; parts = parts; left = left; good = good; slots = slots }

abbrev pub seat_of : Settings → ℕ → TripleWorld → TripleSeat
seat_of s j w = seat_from (node s j w.moments) (w.parts j) (w.left j) (w.good j) (w.slots j)

-- a seat whose node was handed an entry at a tick
abbrev pub entered : Settings → ℕ → ℕ → What → TripleSeat → TripleSeat
entered s j tick entry x =
    record x { on = not (is_gone (phase s (line_of s j tick entry x.log ∷ x.log))); log = line_of s j tick entry x.log ∷ x.log }

-- a seat whose operation is answered by its parts
abbrev pub answered : Settings → ℕ → ℕ → DiskOp → TripleSeat → TripleSeat
answered s j tick op x =
    record (entered s j tick (answer_of op x.parts x.good) x) { parts = all_pending; good = good_after op x.parts x.good }

-- a seat whose node begins a boot
abbrev pub fresh : TripleSeat → TripleSeat
fresh x = record { on = true; boots = suc x.boots; log = []; parts = all_pending; left = none_left; good = all_good; slots = x.slots }

-- a seat whose node goes off
abbrev pub gone_off : TripleSeat → TripleSeat
gone_off x = record x { on = false; parts = all_pending; left = (λ image. x.left image ++ leaves_over (op_out x.log) (x.parts image)) }

-- the slots of a node after its write landed on an image
abbrev pub slots_after : ℕ → DiskOp → (ℕ → Slot) → ℕ → Slot
slots_after k (disk.WriteClaim number) slots = put slots k (record { incarnation = number; clean = false })
slots_after k (disk.WriteClose number) slots = put slots k (record { incarnation = number; clean = true })
slots_after k op slots = slots

-- a seat whose part fails on an image
abbrev pub part_failed : ℕ → DiskOp → TripleSeat → TripleSeat
part_failed k op x = record x { parts = put x.parts k Failed; left = put x.left k (x.left k ++ leaves_over (Some op) (x.parts k)) }

-- a seat of which a leftover lands late on an image
abbrev pub late : ℕ → ℕ → DiskOp → TripleSeat → TripleSeat
late k number op x = record x { left = put x.left k (without (x.left k) number); slots = slots_after k op x.slots }

-- what an event is to the seat of a node
pub data Effect (s : Settings) (t : Timing) (j : ℕ) (w w' : TripleWorld) : Type 0 where
  Rests : seat_of s j w' ≡ seat_of s j w → Effect s t j w w'
  Enters : (tick : ℕ) (entry : What) → (node s j w.moments).on ≡ true → is_answer entry ≡ false → seat_of s j w' ≡ entered s j tick entry (seat_of s j w) → Effect s t j w w'
  Answers : (tick : ℕ) (op : DiskOp) → (node s j w.moments).on ≡ true → op_of s j w ≡ Some op → seat_of s j w' ≡ answered s j tick op (seat_of s j w) → Effect s t j w w'
  BootsUp : (tick : ℕ) (clean : Bool) → (node s j w.moments).on ≡ false → seat_of s j w' ≡ entered s j tick (begin_of clean) (fresh (seat_of s j w)) → Effect s t j w w'
  GoesOff : (node s j w.moments).on ≡ true → seat_of s j w' ≡ gone_off (seat_of s j w) → Effect s t j w w'
  LandsOn : (k : ℕ) (op : DiskOp) → (node s j w.moments).on ≡ true → op_of s j w ≡ Some op → w.parts j k ≡ Pending → w' ≡ landed_on s t j k op w
      → seat_of s j w' ≡ record (seat_of s j w) { parts = put (w.parts j) k (Landed (taken s t j op (image_of k w))); slots = slots_after k op (w.slots j) } → Effect s t j w w'
  FailsOn : (k : ℕ) (op : DiskOp) → (node s j w.moments).on ≡ true → op_of s j w ≡ Some op → seat_of s j w' ≡ part_failed k op (seat_of s j w) → Effect s t j w w'
  LateOn : (k number : ℕ) (op : DiskOp) → numbered (w.left j k) number ≡ Some op → seat_of s j w' ≡ late k number op (seat_of s j w) → Effect s t j w w'

slots_own : (j k : ℕ) (op : DiskOp) (slots : ℕ → ℕ → Slot) → slots_on j k op slots j ≡ slots_after k op (slots j)
slots_own j k (disk.WriteClaim number) slots = put_same slots j (put (slots j) k (record { incarnation = number; clean = false }))
slots_own j k (disk.WriteClose number) slots = put_same slots j (put (slots j) k (record { incarnation = number; clean = true }))
slots_own j k disk.ReadHeader slots = refl
slots_own j k (disk.ReadSlot rank) slots = refl
slots_own j k disk.CheckMail slots = refl
slots_own j k disk.WriteClear slots = refl
slots_own j k disk.ReadMail slots = refl
slots_own j k (disk.WriteReset rank) slots = refl

slots_other : (r j k : ℕ) (op : DiskOp) (slots : ℕ → ℕ → Slot) → (r == j) ≡ false → slots_on r k op slots j ≡ slots j
slots_other r j k (disk.WriteClaim number) slots e = put_other slots r j (put (slots r) k (record { incarnation = number; clean = false })) e
slots_other r j k (disk.WriteClose number) slots e = put_other slots r j (put (slots r) k (record { incarnation = number; clean = true })) e
slots_other r j k disk.ReadHeader slots e = refl
slots_other r j k (disk.ReadSlot rank) slots e = refl
slots_other r j k disk.CheckMail slots e = refl
slots_other r j k disk.WriteClear slots e = refl
slots_other r j k disk.ReadMail slots e = refl
slots_other r j k (disk.WriteReset rank) slots e = refl

seat_same : (n m : Running) (p p' : ℕ → Part) (l l' : ℕ → List DiskOp) (g g' : ℕ → Bool) (c c' : ℕ → Slot) → n ≡ m → p ≡ p' → l ≡ l' → g ≡ g' → c ≡ c'
    → seat_from n p l g c ≡ seat_from m p' l' g' c'
seat_same n m p p' l l' g g' c c' q r s t u = cc

handed_seat : (s : Settings) (j now : ℕ) (entry : What) (n : Running) (p : ℕ → Part) (l : ℕ → List DiskOp) (g : ℕ → Bool) (c : ℕ → Slot)
    → seat_from (handed s j now entry n) p l g c ≡ entered s j (tick_of n.clock) entry (seat_from n p l g c)
unfolding handed logged with_entry line_of
handed_seat s j now entry n p l g c = refl

booted_seat : (s : Settings) (j now base : ℕ) (clean : Bool) (n : Running) (p : ℕ → Part) (l : ℕ → List DiskOp) (g : ℕ → Bool) (c : ℕ → Slot)
    → seat_from (booted s j now base clean n) all_pending none_left all_good c ≡ entered s j (tick_of base) (begin_of clean) (fresh (seat_from n p l g c))
unfolding booted handed logged with_entry line_of
booted_seat s j now base clean n p l g c = refl

seat_passes : (s : Settings) (j dt : ℕ) (clocks : List (Rank × ℕ)) (w : TripleWorld) → seat_of s j (happens_triple (Passes dt clocks) w) ≡ seat_of s j w
unfolding node
seat_passes s j dt clocks w = refl

seat_feeds : (s : Settings) (j r : ℕ) (w : TripleWorld) → seat_of s j (happens_triple (Feeds r) w) ≡ seat_of s j w
unfolding node
seat_feeds s j r w = by_owner (r == j)
  where
    by_owner : (b : Bool) → seat_from (if b then record (node s j w.moments) { fed = time w.moments } else node s j w.moments) (w.parts j) (w.left j) (w.good j) (w.slots j) ≡ seat_of s j w
    by_owner true = refl
    by_owner false = refl

module _ (s : Settings) (t : Timing) where
  -- an entry that is no answer
  effect_enters : (r j : ℕ) (entry : What) (w : TripleWorld) → (node s r w.moments).on ≡ true → is_answer entry ≡ false → Effect s t j w (happens_triple (Adds r entry) w)
  effect_enters r j entry w on plain = by_owner (r == j) refl
    where
      own : Effect s t r w (happens_triple (Adds r entry) w)
      own = Enters (tick_of (node s r w.moments).clock) entry on plain
          (seat_same _ _ _ _ _ _ _ _ _ _ (node_adds s r entry w.moments) refl refl refl refl
          ∙ handed_seat s r (time w.moments) entry (node s r w.moments) (w.parts r) (w.left r) (w.good r) (w.slots r))

      by_owner : (b : Bool) → (r == j) ≡ b → Effect s t j w (happens_triple (Adds r entry) w)
      by_owner true e = subst (λ k. Effect s t k w (happens_triple (Adds r entry) w)) (eqb-true r j e) own
      by_owner false e = Rests (seat_same _ _ _ _ _ _ _ _ _ _ (adds_apart s r j entry w.moments e) refl refl refl refl)

  effect_done : (r j : ℕ) (op : DiskOp) (w : TripleWorld) → (node s r w.moments).on ≡ true → op_of s r w ≡ Some op → Effect s t j w (done_triple r op w)
  effect_done r j op w on out = by_owner (r == j) refl
    where
      entry : What
      entry = answer_of op (w.parts r) (w.good r)

      own : Effect s t r w (done_triple r op w)
      own = Answers (tick_of (node s r w.moments).clock) op on out
          (seat_same _ _ _ _ _ _ _ _ _ _ (node_adds s r entry w.moments) (put_same w.parts r all_pending) refl (put_same w.good r (good_after op (w.parts r) (w.good r))) refl
          ∙ ap (λ (x : TripleSeat). record x { parts = all_pending; good = good_after op (w.parts r) (w.good r) })
          (handed_seat s r (time w.moments) entry (node s r w.moments) (w.parts r) (w.left r) (w.good r) (w.slots r)))

      by_owner : (b : Bool) → (r == j) ≡ b → Effect s t j w (done_triple r op w)
      by_owner true e = subst (λ k. Effect s t k w (done_triple r op w)) (eqb-true r j e) own
      by_owner false e = Rests (seat_same _ _ _ _ _ _ _ _ _ _ (adds_apart s r j entry w.moments e) (put_other w.parts r j all_pending e) refl
          (put_other w.good r j (good_after op (w.parts r) (w.good r)) e) refl)

  effect_boots : (r j base : ℕ) (clean : Bool) (w : TripleWorld) → (node s r w.moments).on ≡ false → Effect s t j w (boots_triple r base clean w)
  effect_boots r j base clean w off = by_owner (r == j) refl
    where
      own : Effect s t r w (boots_triple r base clean w)
      own = BootsUp (tick_of base) clean off
          (seat_same _ _ _ _ _ _ _ _ _ _ (node_boots s r base clean w.moments) (put_same w.parts r all_pending) (put_same w.left r none_left) (put_same w.good r all_good) refl
          ∙ booted_seat s r (time w.moments) base clean (node s r w.moments) (w.parts r) (w.left r) (w.good r) (w.slots r))

      by_owner : (b : Bool) → (r == j) ≡ b → Effect s t j w (boots_triple r base clean w)
      by_owner true e = subst (λ k. Effect s t k w (boots_triple r base clean w)) (eqb-true r j e) own
      by_owner false e = Rests (seat_same _ _ _ _ _ _ _ _ _ _ (boots_apart s r j base clean w.moments e) (put_other w.parts r j all_pending e)
          (put_other w.left r j none_left e) (put_other w.good r j all_good e) refl)

  effect_ends : (r j : ℕ) (w : TripleWorld) → (node s r w.moments).on ≡ true → Effect s t j w (ends_triple s r w)
  effect_ends r j w on = by_owner (r == j) refl
    where
      left' : ℕ → List DiskOp
      left' = λ image. w.left r image ++ leaves_over (op_of s r w) (w.parts r image)

      own : Effect s t r w (ends_triple s r w)
      own = GoesOff on
          (seat_same _ _ _ _ _ _ _ _ _ _ (node_ends s r w.moments) (put_same w.parts r all_pending) (put_same w.left r (λ image. w.left r image ++ leaves_over (op_of s r w) (w.parts r image))) refl refl)

      by_owner : (b : Bool) → (r == j) ≡ b → Effect s t j w (ends_triple s r w)
      by_owner true e = subst (λ k. Effect s t k w (ends_triple s r w)) (eqb-true r j e) own
      by_owner false e = Rests (seat_same _ _ _ _ _ _ _ _ _ _ (ends_apart s r j w.moments e) (put_other w.parts r j all_pending e)
          (put_other w.left r j (λ image. w.left r image ++ leaves_over (op_of s r w) (w.parts r image)) e) refl refl)

  effect_lands : (r j k : ℕ) (op : DiskOp) (w : TripleWorld) → (node s r w.moments).on ≡ true → op_of s r w ≡ Some op → w.parts r k ≡ Pending → Effect s t j w (landed_on s t r k op w)
  effect_lands r j k op w on out pending = by_owner (r == j) refl
    where
      own : Effect s t r w (landed_on s t r k op w)
      own = LandsOn k op on out pending refl
          (seat_same (node s r w.moments) (node s r w.moments) _ _ _ _ _ _ _ _ refl (put_same w.parts r (put (w.parts r) k (Landed (taken s t r op (image_of k w))))) refl refl (slots_own r k op w.slots))

      by_owner : (b : Bool) → (r == j) ≡ b → Effect s t j w (landed_on s t r k op w)
      by_owner true e = subst (λ i. Effect s t i w (landed_on s t r k op w)) (eqb-true r j e) own
      by_owner false e = Rests (seat_same (node s j w.moments) (node s j w.moments) _ _ _ _ _ _ _ _ refl
          (put_other w.parts r j (put (w.parts r) k (Landed (taken s t r op (image_of k w)))) e) refl refl (slots_other r j k op w.slots e))

  effect_failed : (r j k : ℕ) (op : DiskOp) (w : TripleWorld) → (node s r w.moments).on ≡ true → op_of s r w ≡ Some op → Effect s t j w (failed_on r k op w)
  effect_failed r j k op w on out = by_owner (r == j) refl
    where
      own : Effect s t r w (failed_on r k op w)
      own = FailsOn k op on out
          (seat_same (node s r w.moments) (node s r w.moments) _ _ _ _ _ _ _ _ refl (put_same w.parts r (put (w.parts r) k Failed))
          (put_same w.left r (put (w.left r) k (w.left r k ++ leaves_over (Some op) (w.parts r k)))) refl refl)

      by_owner : (b : Bool) → (r == j) ≡ b → Effect s t j w (failed_on r k op w)
      by_owner true e = subst (λ i. Effect s t i w (failed_on r k op w)) (eqb-true r j e) own
      by_owner false e = Rests (seat_same (node s j w.moments) (node s j w.moments) _ _ _ _ _ _ _ _ refl (put_other w.parts r j (put (w.parts r) k Failed) e)
          (put_other w.left r j (put (w.left r) k (w.left r k ++ leaves_over (Some op) (w.parts r k))) e) refl refl)

  effect_late : (r j k number : ℕ) (op : DiskOp) (w : TripleWorld) → numbered (w.left r k) number ≡ Some op → Effect s t j w (lands_late_on r k number op w)
  effect_late r j k number op w there = by_owner (r == j) refl
    where
      own : Effect s t r w (lands_late_on r k number op w)
      own = LateOn k number op there
          (seat_same (node s r w.moments) (node s r w.moments) (w.parts r) (w.parts r) _ _ _ _ _ _ refl refl (put_same w.left r (put (w.left r) k (without (w.left r k) number))) refl (slots_own r k op w.slots))

      by_owner : (b : Bool) → (r == j) ≡ b → Effect s t j w (lands_late_on r k number op w)
      by_owner true e = subst (λ i. Effect s t i w (lands_late_on r k number op w)) (eqb-true r j e) own
      by_owner false e = Rests (seat_same (node s j w.moments) (node s j w.moments) (w.parts j) (w.parts j) _ _ _ _ _ _ refl refl
          (put_other w.left r j (put (w.left r) k (without (w.left r k) number)) e) refl (slots_other r j k op w.slots e))

pending_is : (part : Part) → is_pending part ≡ true → part ≡ Pending
pending_is Pending e = refl
pending_is (Landed value) e = absurd (false≢true e)
pending_is Failed e = absurd (false≢true e)

-- what each event that is allowed is to the seat of each node
pub effect : (s : Settings) (t : Timing) (j : ℕ) (e : TripleEvent) (w : TripleWorld) → refusal_triple s t e w ≡ None → Effect s t j w (step_triple s t e w)
unfolding refusal_triple step_triple refusal step
effect s t j (triple.One (event.Pass dt clocks)) w ok = Rests (seat_passes s j dt clocks w)
effect s t j (triple.One (event.Boot rank base)) w ok = effect_boots s t rank.0 j base false w (not-true (is_on s rank.0 (nodes_of w)) (allowed (not (is_on s rank.0 (nodes_of w))) 2 ok))
effect s t j (triple.One (event.BootClean rank base)) w ok = effect_boots s t rank.0 j base true w (not-true (is_on s rank.0 (nodes_of w)) (allowed (not (is_on s rank.0 (nodes_of w))) 2 ok))
effect s t j (triple.One (event.Crash rank)) w ok = effect_ends s t rank.0 j w (running_allows (is_on s rank.0 (nodes_of w)) 3 ok)
effect s t j (triple.One (event.Land rank)) w ok = Rests refl
effect s t j (triple.One (event.Fail rank)) w ok = Rests refl
effect s t j (triple.One (event.Late rank number)) w ok = Rests refl
effect s t j (triple.One (event.Operator rank message)) w ok = Rests refl
effect s t j (triple.One (event.Done rank)) w ok =
    let rules = both_allowed (is_on s rank.0 (nodes_of w)) (may_be_done_triple s rank.0 w) 3 5 ok in
    let out = value_there (op_of s rank.0 w) (first_of_both (is_some (op_of s rank.0 w)) (none_pending (λ image. is_pending (w.parts rank.0 image))) rules.1) in
    subst (λ o. Effect s t j w (option_map_or (λ op. done_triple rank.0 op w) o w)) (sym out.1) (effect_done s t rank.0 j out.0 w rules.0 out.1)
effect s t j (triple.One (event.View rank view)) w ok = effect_enters s t rank.0 j (what.View view) w ((both_allowed (is_on s rank.0 (nodes_of w)) (is_member view.members rank.0) 3 7 ok).0) refl
effect s t j (triple.One (event.Deliver rank number)) w ok =
    let rules = both_allowed (is_on s rank.0 (nodes_of w)) (may_deliver s rank.0 number (nodes_of w)) 3 8 ok in
    let sent = value_tested (λ (x : Sent). x.to.0 == rank.0) (slice_get (packets s w.moments) number) rules.1 in
    subst (λ o. Effect s t j w (record w { moments = (option_map_or (λ x. happens (Adds rank.0 (entry_of x.packet)) (nodes_of w)) o (nodes_of w)).moments })) (sym sent.1)
    (effect_enters s t rank.0 j (entry_of sent.0.packet) w rules.0 (packet_answers_none sent.0.packet))
effect s t j (triple.One (event.Device rank agrees)) w ok = effect_enters s t rank.0 j (what.Device agrees) w (running_allows (is_on s rank.0 (nodes_of w)) 3 ok) refl
effect s t j (triple.One (event.Tick rank)) w ok = effect_enters s t rank.0 j what.Tick w (running_allows (is_on s rank.0 (nodes_of w)) 3 ok) refl
effect s t j (triple.One (event.Stopped rank)) w ok = effect_enters s t rank.0 j (what.Stopped true) w ((both_allowed (is_on s rank.0 (nodes_of w)) (may_be_stopped s rank.0 (nodes_of w)) 3 5 ok).0) refl
effect s t j (triple.One (event.Unstopped rank)) w ok = effect_enters s t rank.0 j (what.Stopped false) w ((both_allowed (is_on s rank.0 (nodes_of w)) (may_be_stopped s rank.0 (nodes_of w)) 3 5 ok).0) refl
effect s t j (triple.One (event.Leave rank)) w ok = effect_enters s t rank.0 j what.Leave w (running_allows (is_on s rank.0 (nodes_of w)) 3 ok) refl
effect s t j (triple.One (event.Feed rank)) w ok = Rests (seat_feeds s j rank.0 w)
effect s t j (triple.LandOn rank k) w ok =
    let rules = both_allowed (is_on s rank.0 (nodes_of w)) (may_land_on s rank.0 k w) 3 4 ok in
    let out = value_there (op_of s rank.0 w) (first_of_both (is_some (op_of s rank.0 w)) (is_pending (w.parts rank.0 k)) rules.1) in
    let pending = pending_is (w.parts rank.0 k) (second_of_both (is_some (op_of s rank.0 w)) (is_pending (w.parts rank.0 k)) rules.1) in
    subst (λ o. Effect s t j w (option_map_or (λ op. landed_on s t rank.0 k op w) o w)) (sym out.1) (effect_lands s t rank.0 j k out.0 w rules.0 out.1 pending)
effect s t j (triple.FailOn rank k) w ok =
    let rules = both_allowed (is_on s rank.0 (nodes_of w)) (may_fail_on s rank.0 k w) 3 5 ok in
    let out = value_there (op_of s rank.0 w) (first_of_both (is_some (op_of s rank.0 w)) (not (has_failed (w.parts rank.0 k))) rules.1) in
    subst (λ o. Effect s t j w (option_map_or (λ op. failed_on rank.0 k op w) o w)) (sym out.1) (effect_failed s t rank.0 j k out.0 w rules.0 out.1)
effect s t j (triple.LateOn rank k number) w ok =
    let there = value_there (numbered (w.left rank.0 k) number) (allowed (may_be_late rank.0 number (image_of k w)) 6 ok) in
    subst (λ o. Effect s t j w (option_map_or (λ op. lands_late_on rank.0 k number op w) o w)) (sym there.1) (effect_late s t rank.0 j k number there.0 w there.1)
effect s t j (triple.OperatorOn rank k message) w ok = Rests refl

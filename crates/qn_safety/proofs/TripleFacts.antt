-- Two of the four facts of the disk hold of every run of three images: headers agree, and clean means closed.
use Rattle.std.proofs.Common.{◌≡◌, ℕ, ◌<◌, Bool, true, false, List, ◌∷◌, Some, Option, refl, sym, ap, ◌∙◌, subst, arith, ◌==◌, ◌⊎◌, inl, inr}
use Rattle.std.proofs.lemmas.Bool.{false≢true, eqb-true}
use Rattle.std.proofs.lemmas.Option.{same_Some}
use Rattle.qn_base.specs.declared.ids.Rank.{Rank}
use Rattle.qn_base.specs.lemmas.Options.{none_is_not_some}
use Rattle.qn_base.specs.lemmas.Bools.{never_both, first_of_both, second_of_both}
use Rattle.qn_base.specs.lemmas.Elements.{IsIn}
use Rattle.qn_model.specs.declared.configuration.Settings.{Settings}
use Rattle.qn_model.specs.declared.times.Timing.{Timing}
use Rattle.qn_model.specs.declared.disk.Slot.{Slot}
use Rattle.qn_model.specs.declared.seen.SlotSeen.TheVariants as slot
use Rattle.qn_model.specs.declared.entries.What.{What}
use Rattle.qn_model.specs.declared.entries.What.TheVariants as what
use Rattle.qn_model.specs.declared.outputs.DiskOp.{DiskOp}
use Rattle.qn_model.specs.declared.outputs.DiskOp.TheVariants as disk
use Rattle.qn_model.specs.Log.{claimed, times_of, is_answer}
use Rattle.qn_model.specs.Phases.{phase, is_booting}
use Rattle.qn_model.specs.Licences.{reads_slot, is_clean_slot}
use Rattle.qn_model.specs.Moments.{Moment, node}
use Rattle.qn_model.specs.World.{World, taken}
use Rattle.qn_model.specs.lemmas.Entries.{times_answer}
use Rattle.qn_model.specs.lemmas.Failures.{failed_times}
use Rattle.qn_safety.specs.declared.triple_event.TripleEvent.{TripleEvent}
use Rattle.qn_safety.specs.Closing.{asked_close}
use Rattle.qn_safety.specs.Timed.{IsUp, IsBetween, HasClosed, CleanMeansClosed, HeadersAgree}
use Rattle.qn_safety.specs.declared.part.Part.TheVariants.{Landed}
use Rattle.qn_safety.specs.TripleWorld.{TripleWorld, image_of, op_of, counting, header_of, together, answer_of}
use Rattle.qn_safety.specs.TripleSteps.{run_triple}
use Rattle.qn_safety.specs.Earlier.{before_tail}
use Rattle.qn_safety.proofs.Logs.{Made, made_line}
use Rattle.qn_safety.proofs.Rests.{read_is}
use Rattle.qn_safety.proofs.Runs.{sound}
use Rattle.qn_safety.proofs.Numbers.{claimed_same}
use Rattle.qn_safety.proofs.Kept.{booting_op}
use Rattle.qn_safety.proofs.TripleSets.{TwoOf, meet, map_two, numbered_in}
use Rattle.qn_safety.proofs.TripleAnswers.{CountsAt, AnswerIs, FewCount, TwoCount, answer_is, counted_at, SlotTold, slot_told, slot_in, slot_from}
use Rattle.qn_safety.proofs.TripleSeats.{seat_of, Effect, Rests, Enters, Answers, BootsUp, GoesOff, LandsOn, FailsOn, LateOn}
use Rattle.qn_safety.proofs.TripleLogs.{close_asked}
use Rattle.qn_safety.proofs.TripleKept.{dirty, IsOwn, Kept, slot_case}
use Rattle.qn_safety.proofs.TripleRising.{Height}
use Rattle.qn_safety.proofs.TripleEvents.{IsAllowed, allowed_before, stage, effect_at, earlier_allowed}
use Rattle.qn_safety.proofs.TripleLandings.{LineKind, Plain, Told, AddedBy, added_by, Seen, between_of, PartCase, WasThere, JustLanded, Carried, watch}

header_times : (s : Settings) (t : Timing) (j : ℕ) (w : World) (times : Timing) → times_of (what.Header (header_of (taken s t j disk.ReadHeader w))) ≡ Some times → times ≡ t
unfolding taken
header_times s t j w times e = sym (same_Some _ _ e)

together_times : (op : DiskOp) (first : What) (values : List What) (times : Timing) → times_of (together op first values) ≡ Some times
    → (op ≡ disk.ReadHeader) × (times_of (what.Header (header_of first)) ≡ Some times)
together_times disk.ReadHeader first values times e = (refl, e)
together_times (disk.ReadSlot other) first values times e = none_is_not_some times e
together_times disk.CheckMail first values times e = none_is_not_some times e
together_times (disk.WriteClaim number) first values times e = none_is_not_some times e
together_times disk.WriteClear first values times e = none_is_not_some times e
together_times disk.ReadMail first values times e = none_is_not_some times e
together_times (disk.WriteReset other) first values times e = none_is_not_some times e
together_times (disk.WriteClose number) first values times e = none_is_not_some times e

-- every header that is read gives the one timing
pub headers_agree : {s : Settings} {t : Timing} {events : List TripleEvent} → IsAllowed s t events → HeadersAgree s t (run_triple s t events).moments
headers_agree {s = s} {t = t} {events = events} allowed rank line past before times added gives = by_kind it.kind
  where
    it : AddedBy s t rank line before events
    it = added_by rank line past before allowed added

    w : TripleWorld
    w = run_triple s t it.earlier

    kept : Kept s t rank ((stage (allowed_before (before_tail it.back) allowed)).height rank).top (seat_of s rank (run_triple s t it.earlier))
    kept = ((stage (allowed_before (before_tail it.back) allowed)).height rank).held.kept it.on

    by_answer : (op : DiskOp) → op_of s rank (run_triple s t it.earlier) ≡ Some op
        → AnswerIs op ((run_triple s t it.earlier).parts rank) ((run_triple s t it.earlier).good rank) (answer_of op ((run_triple s t it.earlier).parts rank) ((run_triple s t it.earlier).good rank))
        → times_of (answer_of op ((run_triple s t it.earlier).parts rank) ((run_triple s t it.earlier).good rank)) ≡ Some times → times ≡ t
    by_answer op out (FewCount e) gives' = none_is_not_some times (sym (ap times_of e ∙ failed_times op) ∙ gives')
    by_answer op out (TwoCount first there two e) gives' =
        let header = together_times op first (counting op ((run_triple s t it.earlier).parts rank) ((run_triple s t it.earlier).good rank)) times (sym (ap times_of e) ∙ gives') in
        let at = counted_at op ((run_triple s t it.earlier).parts rank) ((run_triple s t it.earlier).good rank) first there in
        let took = kept.took at.0 first at.1 in
        let same : took.op ≡ disk.ReadHeader = same_Some _ _ (sym took.is ∙ out) ∙ header.0 in
        header_times s t rank took.at times (sym (ap (λ v. times_of (what.Header (header_of v))) (took.same ∙ ap (λ o. taken s t rank o took.at) same)) ∙ header.1)

    by_kind : LineKind s rank line (run_triple s t it.earlier) → times ≡ t
    by_kind (Plain plain) = never_both (is_answer line.what) (times_answer line.what times gives) plain
    by_kind (Told op out reads) = by_answer op out (answer_is op ((run_triple s t it.earlier).parts rank) ((run_triple s t it.earlier).good rank)) (sym (ap times_of reads) ∙ gives)

-- a node is up, and has not asked for its close
pub record IsOpen (s : Settings) (j : ℕ) (p : List Moment) : Type 0 where
  pub up : IsUp s j p
  pub open' : asked_close (node s j p).log ≡ false

closed_or_open : (s : Settings) (j : ℕ) (p : List Moment) → HasClosed s j p ⊎ IsOpen s j p
closed_or_open s j p = by_tests (node s j p).on (is_booting (phase s (node s j p).log)) (asked_close (node s j p).log) refl refl refl
  where
    by_tests : (a b c : Bool) → (node s j p).on ≡ a → is_booting (phase s (node s j p).log) ≡ b → asked_close (node s j p).log ≡ c → HasClosed s j p ⊎ IsOpen s j p
    by_tests false b c off e f = inl (λ up. never_both (node s j p).on up.on off)
    by_tests true true c on booting f = inl (λ up. never_both (is_booting (phase s (node s j p).log)) booting up.booted)
    by_tests true false true on booted asked = inl (λ up. asked)
    by_tests true false false on booted open' = inr (record { up = record { on = on; booted = booted }; open' = open' })

-- a node that is up over an event keeps its number
claimed_kept : {s : Settings} {t : Timing} {j : ℕ} {w w' : TripleWorld} → Effect s t j w w' → Made s j (node s j w'.moments).log → IsUp s j w.moments → IsUp s j w'.moments
    → claimed (node s j w'.moments).log ≡ claimed (node s j w.moments).log
claimed_kept (Rests e) made' up up' = ap (λ x. claimed x.log) e
claimed_kept {s = s} {j = j} {w = w} (Enters tick entry on plain e) made' up up' =
    ap (λ x. claimed x.log) e ∙ claimed_same (made_line (subst (λ l. Made s j l) (ap (λ x. x.log) e) made')) (ap (λ l. is_booting (phase s l)) (sym (ap (λ x. x.log) e)) ∙ up'.booted)
claimed_kept {s = s} {j = j} {w = w} (Answers tick op on out e) made' up up' =
    ap (λ x. claimed x.log) e ∙ claimed_same (made_line (subst (λ l. Made s j l) (ap (λ x. x.log) e) made')) (ap (λ l. is_booting (phase s l)) (sym (ap (λ x. x.log) e)) ∙ up'.booted)
claimed_kept {s = s} {j = j} {w = w} (BootsUp tick clean off e) made' up up' = never_both (node s j w.moments).on up.on off
claimed_kept (GoesOff on e) made' up up' = absurd (false≢true (sym (ap (λ x. x.on) e) ∙ up'.on))
claimed_kept (LandsOn k op on out pending all e) made' up up' = ap (λ x. claimed x.log) e
claimed_kept (FailsOn k op on out e) made' up up' = ap (λ x. claimed x.log) e
claimed_kept (LateOn k number op there e) made' up up' = ap (λ x. claimed x.log) e

-- a slot of a node that is up and open stays dirty with its number
dirty_kept : {s : Settings} {t : Timing} {j top number : ℕ} {w w' : TripleWorld} → Effect s t j w w' → Made s j (node s j w.moments).log → Kept s t j top (seat_of s j w) → IsOpen s j w.moments
    → claimed (node s j w.moments).log ≡ Some number → (k : ℕ) → w.slots j k ≡ dirty number → w'.slots j k ≡ dirty number
dirty_kept (Rests e) made kept is has k was = ap (λ x. x.slots k) e ∙ was
dirty_kept (Enters tick entry on plain e) made kept is has k was = ap (λ x. x.slots k) e ∙ was
dirty_kept (Answers tick op on out e) made kept is has k was = ap (λ x. x.slots k) e ∙ was
dirty_kept (BootsUp tick clean off e) made kept is has k was = ap (λ x. x.slots k) e ∙ was
dirty_kept (GoesOff on e) made kept is has k was = ap (λ x. x.slots k) e ∙ was
dirty_kept (FailsOn n op on out e) made kept is has k was = ap (λ x. x.slots k) e ∙ was
dirty_kept {s = s} {j = j} {number = number} {w = w} (LandsOn n op on out pending all e) made kept is has k was =
    ap (λ x. x.slots k) e ∙ slot_case (λ c. c ≡ dirty number) n op (w.slots j) k
    (λ m same. never_both (is_booting (phase s (node s j w.moments).log)) (booting_op made (disk.WriteClaim m) (out ∙ ap Some same) refl refl) is.up.booted)
    (λ m same. never_both (asked_close (node s j w.moments).log) (close_asked (node s j w.moments).log m (out ∙ ap Some same)) is.open') was
dirty_kept {s = s} {j = j} {number = number} {w = w} (LateOn n place op there e) made kept is has k was =
    let own = kept.own n op (numbered_in (w.left j n) place op there) in
    ap (λ x. x.slots k) e ∙ slot_case (λ c. c ≡ dirty number) n op (w.slots j) k
    (λ m same. ap dirty (same_Some _ _ (sym (subst (λ o. IsOwn s (seat_of s j w) n o) same own) ∙ has)))
    (λ m same. never_both (asked_close (node s j w.moments).log) (subst (λ o. IsOwn s (seat_of s j w) n o) same own) is.open') was

-- a read of the slot of node j
pub record ReadsOf (j : ℕ) (out : Option DiskOp) : Type 0 where
  pub rank : Rank
  pub is : out ≡ Some (disk.ReadSlot rank)
  pub own : rank.0 ≡ j

-- a slot that was read on an image
abbrev ReadAt : TripleWorld → ℕ → ℕ → Rank → Slot → Type 0
ReadAt w i k rank own = w.parts i k ≡ Landed (what.SlotRead rank (slot.Read own))

-- While node j is up and open and node i reads its slot: on two images the slot has its number and is dirty, also where it was
-- read there; and a clean one that was read is below.
record ReadOpen (s : Settings) (i j : ℕ) (w : TripleWorld) : Type 0 where
  number : ℕ
  claims : claimed (node s j w.moments).log ≡ Some number
  stands : TwoOf (λ k. (w.slots j k ≡ dirty number) × ((rank : Rank) (own : Slot) → ReadAt w i k rank own → own ≡ dirty number))
  below : (k : ℕ) (rank : Rank) (own : Slot) → ReadAt w i k rank own → own.clean ≡ true → own.incarnation < number

-- what was just read of the slot is what it has
just_read : (s : Settings) (t : Timing) (i j : ℕ) (w : TripleWorld) (k : ℕ) (op : DiskOp) (rank : Rank) (own : Slot) → ReadsOf j (op_of s i w) → op_of s i w ≡ Some op
    → what.SlotRead rank (slot.Read own) ≡ taken s t i op (image_of k w) → own ≡ w.slots j k
just_read s t i j w k op rank own about out is = slot_of (is ∙ ap (λ o. taken s t i o (image_of k w)) (same_Some _ _ (sym out ∙ about.is))) ∙ ap (λ r. w.slots r k) about.own
  where
    same_slot : what.SlotRead rank (slot.Read own) ≡ what.SlotRead about.rank (slot.Read (w.slots about.rank.0 k)) → own ≡ w.slots about.rank.0 k
    same_slot e = cc

    slot_of : what.SlotRead rank (slot.Read own) ≡ taken s t i (disk.ReadSlot about.rank) (image_of k w) → own ≡ w.slots about.rank.0 k
    slot_of e = same_slot (e ∙ (unfold taken in refl))

module _ {s : Settings} {t : Timing} (i j : ℕ) where
  read_starts : (events : List TripleEvent) → IsAllowed s t events → IsOpen s j (run_triple s t events).moments → ((k : ℕ) (value : What) → (run_triple s t events).parts i k ≡ Landed value → ⊥)
      → ReadOpen s i j (run_triple s t events)
  read_starts events allowed is new =
      let height = (stage allowed).height j in
      let standing = (height.held.kept is.up.on).standing is.up.booted in
      record {
        number = height.top;
        claims = standing.claims;
        stands = map_two (λ k has. (has, λ rank own e. absurd (new k _ e))) (standing.two is.open');
        below = λ k rank own e clean. absurd (new k _ e);
      }

  read_goes_on : (e : TripleEvent) (earlier : List TripleEvent) → IsAllowed s t (e ∷ earlier) → ReadsOf j (op_of s i (run_triple s t earlier)) → IsOpen s j (run_triple s t earlier).moments
      → IsOpen s j (run_triple s t (e ∷ earlier)).moments → Carried s t i (run_triple s t earlier) (run_triple s t (e ∷ earlier)) → ReadOpen s i j (run_triple s t earlier) → ReadOpen s i j (run_triple s t (e ∷ earlier))
  read_goes_on e earlier allowed about is is' carried was = record {
    number = was.number;
    claims = claimed_kept (effect_at j allowed) made' is.up is'.up ∙ was.claims;
    stands = map_two (λ k has. (dirty_kept (effect_at j allowed) made (height.held.kept is.up.on) is was.claims k has.0, λ rank own landed. stands_step k has rank own (carried.parts k _ landed))) was.stands;
    below = λ k rank own landed clean. below_step k rank own clean (carried.parts k _ landed);
  }
    where
      height : Height s t j (run_triple s t earlier)
      height = (stage (earlier_allowed allowed)).height j

      made : Made s j (node s j (run_triple s t earlier).moments).log
      made = (sound ((stage (earlier_allowed allowed)).ruled) j).made

      made' : Made s j (node s j (run_triple s t (e ∷ earlier)).moments).log
      made' = (sound ((stage allowed).ruled) j).made

      stands_step : (k : ℕ) → ((run_triple s t earlier).slots j k ≡ dirty was.number) × ((rank : Rank) (own : Slot) → ReadAt (run_triple s t earlier) i k rank own → own ≡ dirty was.number) → (rank : Rank) (own : Slot)
          → PartCase s t i (run_triple s t earlier) (run_triple s t (e ∷ earlier)) k (what.SlotRead rank (slot.Read own)) → own ≡ dirty was.number
      stands_step k has rank own (WasThere landed) = has.1 rank own landed
      stands_step k has rank own (JustLanded op out all is) = just_read s t i j (run_triple s t earlier) k op rank own about out is ∙ has.0

      below_step : (k : ℕ) (rank : Rank) (own : Slot) → own.clean ≡ true → PartCase s t i (run_triple s t earlier) (run_triple s t (e ∷ earlier)) k (what.SlotRead rank (slot.Read own)) → own.incarnation < was.number
      below_step k rank own clean (WasThere landed) = was.below k rank own landed clean
      below_step k rank own clean (JustLanded op out all read) =
          let same = just_read s t i j (run_triple s t earlier) k op rank own about out read in
          let standing = (height.held.kept is.up.on).standing is.up.booted in
          let low = standing.below is.open' k (ap (λ (c : Slot). c.clean) (sym same) ∙ clean) in
          let equal : height.top ≡ was.number = same_Some _ _ (sym standing.claims ∙ was.claims) in
          let q = ap (λ (c : Slot). c.incarnation) same in
          omega arith

  -- a clean slot cannot be read while the node is up and open
  no_clean_read : {top : ℕ} (w : TripleWorld) (op : DiskOp) (rank : Rank) (own : Slot) → Kept s t i top (seat_of s i w) → op_of s i w ≡ Some op → rank.0 ≡ j → answer_of op (w.parts i) (w.good i) ≡ what.SlotRead rank (slot.Read own)
      → own.clean ≡ true → ReadOpen s i j w → ⊥
  no_clean_read w op rank own kept out is_j reads clean is = by_two (meet is.stands found.two)
    where
      found : SlotTold op (w.parts i) (w.good i) rank own
      found = slot_told op (w.parts i) (w.good i) rank own reads

      read_of : (k : ℕ) (value : What) → w.parts i k ≡ Landed value → (read : Slot) × (value ≡ what.SlotRead rank (slot.Read read))
      read_of k value landed =
          let took = kept.took k value landed in
          let same : took.op ≡ disk.ReadSlot rank = same_Some _ _ (sym took.is ∙ out) ∙ found.is in
          (took.at.slots rank.0, took.same ∙ ap (λ o. taken s t i o took.at) same ∙ read_slot took.at)
        where
          read_slot : (v : World) → taken s t i (disk.ReadSlot rank) v ≡ what.SlotRead rank (slot.Read (v.slots rank.0))
          read_slot v = unfold taken in refl

      low : own.incarnation < is.number
      low =
          let from = slot_from own (counting op (w.parts i) (w.good i)) found.best.one in
          let at = counted_at op (w.parts i) (w.good i) (what.SlotRead from.rank (slot.Read own)) from.there in
          is.below at.0 from.rank own at.1 clean

      by_two : (k : ℕ) × ((w.slots j k ≡ dirty is.number) × ((rank : Rank) (own : Slot) → ReadAt w i k rank own → own ≡ dirty is.number)) × CountsAt op (w.parts i) (w.good i) k → ⊥
      by_two (k, has, counts) =
          let read = read_of k counts.value counts.landed in
          let same = ap (λ (c : Slot). c.incarnation) (has.1 rank read.0 (counts.landed ∙ ap Landed read.1)) in
          let high = found.best.top read.0 (slot_in rank read.0 (counting op (w.parts i) (w.good i)) (subst (λ v. IsIn v (counting op (w.parts i) (w.good i))) read.1 counts.told)) in
          let q = low in
          absurd (omega arith)

clean_read : (j : ℕ) (entry : What) → reads_slot is_clean_slot j entry ≡ true → (rank : Rank) × (own : Slot) × (entry ≡ what.SlotRead rank (slot.Read own)) × (rank.0 ≡ j) × (own.clean ≡ true)
clean_read j (what.SlotRead rank (slot.Read own)) e = (rank, own, refl, eqb-true rank.0 j (first_of_both (rank.0 == j) own.clean e), second_of_both (rank.0 == j) own.clean e)
clean_read j (what.SlotRead rank slot.Damaged) e = absurd (false≢true (second_of_both (rank.0 == j) false e))
clean_read j (what.SlotRead rank slot.Failed) e = absurd (false≢true (second_of_both (rank.0 == j) false e))
clean_read j entry e = absurd (false≢true e)

-- where a read gives a clean slot, at some moment of the read no incarnation was up that had not asked for its close
pub clean_means_closed : {s : Settings} {t : Timing} {events : List TripleEvent} → IsAllowed s t events → CleanMeansClosed s (run_triple s t events).moments
clean_means_closed {s = s} {t = t} {events = events} allowed i j line past before added reads = by_kind it.kind
  where
    it : AddedBy s t i line before events
    it = added_by i line past before allowed added

    allowed_then : IsAllowed s t it.earlier
    allowed_then = allowed_before (before_tail it.back) allowed

    found : Seen s i (λ p. HasClosed s j p) (run_triple s t it.earlier).moments → (between : List Moment) × IsBetween s i line before between × HasClosed s j between
    found seen =
        let at : Seen s i (λ p. HasClosed s j p) before = subst (λ ms. Seen s i (λ p. HasClosed s j p) ms) it.same seen in
        (at.at, between_of i line past before allowed added at, at.gone)

    by_kind : LineKind s i line (run_triple s t it.earlier) → (between : List Moment) × IsBetween s i line before between × HasClosed s j between
    by_kind (Plain plain) = never_both (is_answer line.what) (ap is_answer (read_is is_clean_slot j line.what reads).2) plain
    by_kind (Told op out told) =
        let clean = clean_read j line.what reads in
        let answer = sym told ∙ clean.2 in
        let is = (slot_told op ((run_triple s t it.earlier).parts i) ((run_triple s t it.earlier).good i) clean.0 clean.1 answer).is in
        by_watch (watch i (ReadsOf j) (λ p. HasClosed s j p) (IsOpen s j) (ReadOpen s i j) (closed_or_open s j) (read_starts i j) (read_goes_on i j) allowed_then it.on
        (record { rank = clean.0; is = out ∙ ap Some is; own = clean.3 }))
        (λ open'. no_clean_read i j (run_triple s t it.earlier) op clean.0 clean.1 (((stage allowed_then).height i).held.kept it.on) out clean.3 answer clean.4 open')
      where
        by_watch : Seen s i (λ p. HasClosed s j p) (run_triple s t it.earlier).moments ⊎ ReadOpen s i j (run_triple s t it.earlier) → (ReadOpen s i j (run_triple s t it.earlier) → ⊥)
            → (between : List Moment) × IsBetween s i line before between × HasClosed s j between
        by_watch (inl seen) never = found seen
        by_watch (inr open') never = absurd (never open')

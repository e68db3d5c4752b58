-- The parts of an operation that are to fail do. All images told of an operation: those that were not asked fail, and the node on one
-- image takes the answer of the world.
use Rattle.std.proofs.Common.{◌≡◌, ℕ, Bool, true, false, not, ◌&&◌, List, ◌++◌, Some, ◌==◌, if◌then◌else◌, refl, sym, ap, subst, ◌∙◌, ◌⊎◌, inl, inr}
use Rattle.std.proofs.lemmas.Bool.{eqb-true}
use Rattle.qn_base.specs.declared.calls.Call.{Call}
use Rattle.qn_model.specs.declared.configuration.Settings.{Settings}
use Rattle.qn_model.specs.declared.times.Timing.{Timing}
use Rattle.qn_model.specs.declared.outputs.DiskOp.{DiskOp}
use Rattle.qn_model.specs.lemmas.Moments.{put_same}
use Rattle.qn_model.specs.Log.{op_out}
use Rattle.qn_model.specs.Moments.{node}
use Rattle.qn_model.specs.World.{put}
use Rattle.qn_parts.specs.Parts.{part_on}
use Rattle.qn_safety.specs.declared.part.Part.{Part}
use Rattle.qn_safety.specs.declared.part.Part.TheVariants.{Failed, Landed, Pending}
use Rattle.qn_safety.specs.declared.triple_event.TripleEvent.{TripleEvent}
use Rattle.qn_safety.specs.TripleNumbers.{AllMayTriple}
use Rattle.qn_safety.specs.TripleRules.{is_image, none_pending}
use Rattle.qn_safety.specs.TripleSteps.{run_triple}
use Rattle.qn_safety.specs.TripleWorld.{answer_among, answer_of, counted, has_failed, has_landed, is_pending, leaves_over, op_of}
use Rattle.qn_joined.specs.TripleNodes.{AllAre}
use Rattle.qn_joined.specs.TripleWorldOf.{ToldBy, all_told}
use Rattle.qn_joined.specs.WorldOf.{AreAmong}
use Rattle.qn_joined.proofs.Moving.{among_more}
use Rattle.qn_joined.proofs.TripleFrames.{ChangesOnThree, no_change_on_three, then_changes}
use Rattle.qn_joined.proofs.TripleReturns.{FailsOn, fails_on}

-- a part that was to fail failed, or nothing happened to it
abbrev pub Settled : (Part → Bool) → Part → Part → Type 0
Settled test part part' = (part' ≡ part) ⊎ ((test part ≡ true) × (part' ≡ Failed))

-- further events in which parts fail that meet a test
pub record Closing (s : Settings) (t : Timing) (rank : ℕ) (test : Part → Bool) (events : List TripleEvent) : Type 0 where
  pub events' : List TripleEvent
  pub may : AllMayTriple s t events'
  pub moments : (run_triple s t events').moments ≡ (run_triple s t events).moments
  pub changes : ChangesOnThree s rank (run_triple s t events) (run_triple s t events')
  pub slots : (run_triple s t events').slots ≡ (run_triple s t events).slots
  pub mailboxes : (run_triple s t events').mailboxes ≡ (run_triple s t events).mailboxes
  pub good : (run_triple s t events').good ≡ (run_triple s t events).good
  pub settled : (image : ℕ) → Settled test ((run_triple s t events).parts rank image) ((run_triple s t events').parts rank image)
  pub left : (image : ℕ) (calls : List Call) → AreAmong s rank calls ((run_triple s t events).left rank image) → AreAmong s rank calls ((run_triple s t events').left rank image)

none_closed : {s : Settings} {t : Timing} {rank : ℕ} (test : Part → Bool) {events : List TripleEvent} → AllMayTriple s t events → Closing s t rank test events
none_closed {s} {t} {rank} test {events} may =
    record {
      events' = events;
      may = may;
      moments = refl;
      changes = no_change_on_three s rank (run_triple s t events);
      slots = refl;
      mailboxes = refl;
      good = refl;
      settled = λ image. inl refl;
      left = λ image calls among. among;
    }

-- the parts of one more image are closed
pub record ClosesOne (s : Settings) (t : Timing) (rank : ℕ) (test : Part → Bool) (events : List TripleEvent) (was : Closing s t rank test events) (image : ℕ) : Type 0 where
  pub next : Closing s t rank test events
  pub here : test ((run_triple s t next.events').parts rank image) ≡ false
  pub stays : (other : ℕ) → test ((run_triple s t was.events').parts rank other) ≡ false → test ((run_triple s t next.events').parts rank other) ≡ false

pub pending_is : (part : Part) → is_pending part ≡ true → (part ≡ Pending) × (has_failed part ≡ false)
pending_is Pending e = (refl, refl)
pending_is (Landed value) e = absurd cc
pending_is Failed e = absurd cc

module _ (s : Settings) (t : Timing) (rank : ℕ) (test : Part → Bool) (unfailed : (part : Part) → test part ≡ true → has_failed part ≡ false) (events : List TripleEvent) (op : DiskOp)
    (lives : (node s rank (run_triple s t events).moments).on ≡ true) (out : op_of s rank (run_triple s t events) ≡ Some op) where
  -- a part that failed meets the test no longer
  failed_closed : (b : Bool) → test Failed ≡ b → b ≡ false
  failed_closed false e = refl
  failed_closed true e = absurd (let none = unfailed Failed e in cc)

  -- a part that meets the test now did so before
  open_before : (part part' : Part) → Settled test part part' → test part' ≡ true → test part ≡ true
  open_before part part' (inl same) e = sym (ap test same) ∙ e
  open_before part part' (inr failed) e = failed.0

  closes_one : (was : Closing s t rank test events) (image : ℕ) → ClosesOne s t rank test events was image
  closes_one was image = by_test (test ((run_triple s t was.events').parts rank image)) refl
    where
      by_test : (b : Bool) → test ((run_triple s t was.events').parts rank image) ≡ b → ClosesOne s t rank test events was image
      by_test false e = record { next = was; here = e; stays = λ other settled. settled }
      by_test true e =
          record {
            next = record {
              events' = f.events';
              may = f.may;
              moments = f.moments ∙ was.moments;
              changes = then_changes was.changes f.changes;
              slots = f.slots ∙ was.slots;
              mailboxes = f.mailboxes ∙ was.mailboxes;
              good = f.good ∙ was.good;
              settled = λ other. subst (λ p. Settled test ((run_triple s t events).parts rank other) (p other)) (sym f.parts) (settled_by other (image == other) refl);
              left = λ other calls among. subst (λ l. AreAmong s rank calls (l other)) (sym f.left) (left_by other calls (was.left other calls among) (image == other) refl);
            };
            here = ap (λ p. test (p image)) f.parts ∙ ap test (put_at image) ∙ closed_now;
            stays = λ other settled. ap (λ p. test (p other)) f.parts ∙ stays_by other settled (image == other);
          }
        where
          f : FailsOn s t rank was.events' op image
          f = fails_on s t rank was.events' op image was.may (ap (λ ms. (node s rank ms).on) was.moments ∙ lives) (ap (λ ms. op_out (node s rank ms).log) was.moments ∙ out) (unfailed _ e)

          closed_now : test Failed ≡ false
          closed_now = failed_closed (test Failed) refl

          put_at : (k : ℕ) → put ((run_triple s t was.events').parts rank) k Failed k ≡ Failed
          put_at k = put_same ((run_triple s t was.events').parts rank) k Failed

          settled_by : (other : ℕ) (b : Bool) → (image == other) ≡ b → Settled test ((run_triple s t events).parts rank other) (if b then Failed else (run_triple s t was.events').parts rank other)
          settled_by other false same = was.settled other
          settled_by other true same =
              inr (subst (λ k. test ((run_triple s t events).parts rank k) ≡ true) (eqb-true image other same) (open_before _ _ (was.settled image) e), refl)

          left_by : (other : ℕ) (calls : List Call) → AreAmong s rank calls ((run_triple s t was.events').left rank other) → (b : Bool) → (image == other) ≡ b
              → AreAmong s rank calls (if b then (run_triple s t was.events').left rank image ++ leaves_over (Some op) ((run_triple s t was.events').parts rank image) else (run_triple s t was.events').left rank other)
          left_by other calls among false same = among
          left_by other calls among true same =
              among_more (leaves_over (Some op) ((run_triple s t was.events').parts rank image)) (subst (λ k. AreAmong s rank calls ((run_triple s t was.events').left rank k)) (sym (eqb-true image other same)) among)

          stays_by : (other : ℕ) → test ((run_triple s t was.events').parts rank other) ≡ false → (b : Bool) → test (if b then Failed else (run_triple s t was.events').parts rank other) ≡ false
          stays_by other settled true = closed_now
          stays_by other settled false = settled

  -- all three are closed
  pub closes : AllMayTriple s t events → (c : Closing s t rank test events) × (none_pending (λ image. test ((run_triple s t c.events').parts rank image)) ≡ true)
  closes may =
      let one = closes_one (none_closed test may) 1 in
      let two = closes_one one.next 2 in
      let three = closes_one two.next 3 in
      (three.next, none_of _ _ _ (three.stays 1 (two.stays 1 one.here)) (three.stays 2 two.here) three.here)
    where
      none_of : (a b c : Bool) → a ≡ false → b ≡ false → c ≡ false → (not a && not b && not c) ≡ true
      none_of false false false x y z = refl
      none_of true b c x y z = absurd cc
      none_of false true c x y z = absurd cc
      none_of false false true x y z = absurd cc

-- a part that is closed counts as it did
settled_counts : (op : DiskOp) (good : Bool) (part part' : Part) → Settled is_pending part part' → counted op good part ≡ counted op good part'
settled_counts op good part part' (inl same) = sym (ap (counted op good) same)
settled_counts op good part part' (inr failed) = ap (counted op good) (pending_is part failed.0).0 ∙ sym (ap (counted op good) failed.1)

pub settled_landed : (part part' : Part) → Settled is_pending part part' → has_landed part ≡ has_landed part'
settled_landed part part' (inl same) = sym (ap has_landed same)
settled_landed part part' (inr failed) = ap has_landed (pending_is part failed.0).0 ∙ sym (ap has_landed failed.1)

-- the answer of what the images told is that of the parts once they are closed
pub closed_answer : (op : DiskOp) (by : ToldBy) (good good' : ℕ → Bool) (parts parts' : ℕ → Part) → AllAre by parts → ((image : ℕ) → Settled is_pending (parts image) (parts' image)) → ((image : ℕ) → is_image image ≡ true → good image ≡ good' image)
    → answer_of op (part_on (all_told by)) good ≡ answer_of op parts' good'
unfolding answer_of
closed_answer op by good good' parts parts' are settled same =
    ap (λ l. answer_among op (l ++ (counted op (good 2) by.two ++ counted op (good 3) by.three))) (each 1 by.one are.0 refl)
    ∙ ap (λ l. answer_among op (counted op (good' 1) (parts' 1) ++ (l ++ counted op (good 3) by.three))) (each 2 by.two are.1 refl)
    ∙ ap (λ l. answer_among op (counted op (good' 1) (parts' 1) ++ (counted op (good' 2) (parts' 2) ++ l))) (each 3 by.three are.2 refl)
  where
    each : (image : ℕ) (part : Part) → parts image ≡ part → is_image image ≡ true → counted op (good image) part ≡ counted op (good' image) (parts' image)
    each image part is in_range =
        ap (λ g. counted op g part) (same image in_range) ∙ sym (ap (counted op (good' image)) is) ∙ settled_counts op (good' image) (parts image) (parts' image) (settled image)

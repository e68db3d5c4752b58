-- The events of the world of three images for each entry that a running node is handed.
use Rattle.std.proofs.Common.{◌≡◌, ◌<◌, ℕ, Bool, true, false, not, ◌&&◌, ◌||◌, List, ◌∷◌, ◌++◌, Option, None, Some, ◌==◌, refl, sym, ap, subst, ◌∙◌, is_some, ◌⊎◌, inl, inr}
use Rattle.std.specs.Prelude.{length}
use Rattle.std.specs.Option.{option_or, option_map_or}
use Rattle.std.proofs.lemmas.Option.{same_Some}
use Rattle.qn_base.specs.declared.calls.Call.{Call}
use Rattle.qn_model.specs.declared.configuration.Settings.{Settings}
use Rattle.qn_model.specs.declared.times.Timing.{Timing}
use Rattle.qn_model.specs.declared.entries.What.{What}
use Rattle.qn_model.specs.declared.events.Event.TheVariants as event
use Rattle.qn_model.specs.declared.outputs.DiskOp.{DiskOp}
use Rattle.qn_model.specs.declared.outputs.DiskOp.TheVariants as disk
use Rattle.qn_model.specs.lemmas.Moments.{put_same, put_other}
use Rattle.qn_model.specs.Log.{is_answer, op_out}
use Rattle.qn_model.specs.Moments.{Adds, Running, handed, node, packets, time}
use Rattle.qn_model.specs.Rules.{unless}
use Rattle.qn_model.specs.Wanted.{rank_of}
use Rattle.qn_model.specs.World.{failed}
use Rattle.qn_parts.specs.Parts.{is_good_on}
use Rattle.qn_safety.specs.declared.part.Part.{Part}
use Rattle.qn_safety.specs.declared.part.Part.TheVariants.{Failed, Landed, Pending}
use Rattle.qn_safety.specs.declared.triple_event.TripleEvent.{TripleEvent}
use Rattle.qn_safety.specs.declared.triple_event.TripleEvent.TheVariants as triple
use Rattle.qn_safety.specs.TripleNumbers.{AllMayTriple, TripleNodesHold, is_two}
use Rattle.qn_safety.specs.TripleRules.{is_image, none_pending, refusal_triple}
use Rattle.qn_safety.specs.TripleSteps.{done_triple, moves_nodes, run_triple, step_triple}
use Rattle.qn_safety.specs.TripleWorld.{TripleWorld, all_pending, answer_among, answer_of, counted, good_after, has_failed, has_landed, is_pending, nodes_of, op_of}
use Rattle.qn_joined.specs.TripleJoints.{TripleHost}
use Rattle.qn_joined.specs.TripleNodes.{AllAre, WasTold, good_told}
use Rattle.qn_joined.specs.TripleWorldOf.{ToldBy}
use Rattle.qn_joined.specs.WorldOf.{AreAmong, ComesIn, IsAnswer}
use Rattle.qn_joined.proofs.Events.{HandsPlainly, answers_out, hands_plainly}
use Rattle.qn_joined.proofs.Frames.{adds_changes}
use Rattle.qn_joined.proofs.TripleClosing.{Closing, closes}
use Rattle.qn_joined.proofs.TripleFrames.{ChangesOnThree, IsNodeIn3, then_changes}
use Rattle.qn_joined.proofs.TripleTold.{kept_good}

-- an entry of one node changes no other one
adds_on_three : (s : Settings) (rank : ℕ) (entry : What) (w w' : TripleWorld) → w'.moments ≡ Adds rank entry ∷ w.moments → ((r : ℕ) → (rank == r) ≡ false → w'.parts r ≡ w.parts r)
    → ((r : ℕ) → (rank == r) ≡ false → w'.left r ≡ w.left r) → ((r : ℕ) → (rank == r) ≡ false → w'.good r ≡ w.good r) → ChangesOnThree s rank w w'
adds_on_three s rank entry w w' adds parts left good =
    let nodes = adds_changes s rank entry (nodes_of w) (nodes_of w') adds (λ r apart. refl) (λ r apart. refl) in
    record { time = nodes.time; grows = nodes.grows; node = nodes.node; parts = parts; left = left; good = good }

-- ## An operation that is answered

abbrev answered_by : ℕ → List TripleEvent → List TripleEvent
answered_by rank events = triple.One (event.Done (rank_of rank)) ∷ events

record DoneOn (s : Settings) (t : Timing) (rank : ℕ) (events : List TripleEvent) (op : DiskOp) : Type 0 where
  pub may : AllMayTriple s t (answered_by rank events)
  pub moments : (run_triple s t (answered_by rank events)).moments
      ≡ Adds rank (answer_of op ((run_triple s t events).parts rank) ((run_triple s t events).good rank)) ∷ (run_triple s t events).moments
  pub changes : ChangesOnThree s rank (run_triple s t events) (run_triple s t (answered_by rank events))
  pub slots : (run_triple s t (answered_by rank events)).slots ≡ (run_triple s t events).slots
  pub mailboxes : (run_triple s t (answered_by rank events)).mailboxes ≡ (run_triple s t events).mailboxes
  pub left : (run_triple s t (answered_by rank events)).left ≡ (run_triple s t events).left
  pub parts : (run_triple s t (answered_by rank events)).parts rank ≡ all_pending
  pub good : (run_triple s t (answered_by rank events)).good rank ≡ good_after op ((run_triple s t events).parts rank) ((run_triple s t events).good rank)

done_on : (s : Settings) (t : Timing) (rank : ℕ) (events : List TripleEvent) (op : DiskOp) → AllMayTriple s t events → (node s rank (run_triple s t events).moments).on ≡ true
    → op_of s rank (run_triple s t events) ≡ Some op → none_pending (λ image. is_pending ((run_triple s t events).parts rank image)) ≡ true → DoneOn s t rank events op
unfolding AllMayTriple run_triple step_triple refusal_triple
done_on s t rank events op may lives out over =
    record {
      may = (
        refl,
        ap (λ b. option_or (unless b 3) (unless (is_some (op_of s rank w) && none_pending (λ image. is_pending (w.parts rank image))) 5)) lives
            ∙ ap (λ o. unless (is_some o && none_pending (λ image. is_pending (w.parts rank image))) 5) out
            ∙ ap (λ b. unless (true && b) 5) over,
        may,
      );
      moments = ap (λ x. x.moments) steps;
      changes = subst (λ x. ChangesOnThree s rank w x) (sym steps)
          (adds_on_three s rank (answer_of op (w.parts rank) (w.good rank)) w (done_triple rank op w) refl (λ r apart. put_other w.parts rank r all_pending apart) (λ r apart. refl)
          (λ r apart. put_other w.good rank r (good_after op (w.parts rank) (w.good rank)) apart));
      slots = ap (λ x. x.slots) steps;
      mailboxes = ap (λ x. x.mailboxes) steps;
      left = ap (λ x. x.left) steps;
      parts = ap (λ x. x.parts rank) steps ∙ put_same w.parts rank all_pending;
      good = ap (λ x. x.good rank) steps ∙ put_same w.good rank (good_after op (w.parts rank) (w.good rank));
    }
  where
    w : TripleWorld
    w = run_triple s t events

    steps : option_map_or (λ o. done_triple rank o w) (op_of s rank w) w ≡ done_triple rank op w
    steps = ap (λ o. option_map_or (λ x. done_triple rank x w) o w) out

-- ## An operation that failed on each image

-- a part that has not failed
abbrev is_open : Part → Bool
is_open part = not (has_failed part)

open_unfailed : (part : Part) → is_open part ≡ true → has_failed part ≡ false
open_unfailed Pending e = refl
open_unfailed (Landed value) e = refl
open_unfailed Failed e = absurd cc

abbrev all_failed : ToldBy
all_failed = record { one = Failed; two = Failed; three = Failed }

none_open : (parts : ℕ → Part) → none_pending (λ image. is_open (parts image)) ≡ true → AllAre all_failed parts
none_open parts none = by_parts (parts 1) (parts 2) (parts 3) none
  where
    by_parts : (one two three : Part) → (not (is_open one) && not (is_open two) && not (is_open three)) ≡ true → (one ≡ Failed) × (two ≡ Failed) × (three ≡ Failed)
    by_parts Failed Failed Failed e = (refl, refl, refl)
    by_parts Failed Failed Pending e = absurd cc
    by_parts Failed Failed (Landed value) e = absurd cc
    by_parts Failed Pending three e = absurd cc
    by_parts Failed (Landed value) three e = absurd cc
    by_parts Pending two three e = absurd cc
    by_parts (Landed value) two three e = absurd cc

module _ (parts : ℕ → Part) (are : AllAre all_failed parts) where
  none_waits : none_pending (λ image. is_pending (parts image)) ≡ true
  none_waits =
      ap (λ p. not (is_pending p) && not (is_pending (parts 2)) && not (is_pending (parts 3))) are.0
      ∙ ap (λ p. true && not (is_pending p) && not (is_pending (parts 3))) are.1 ∙ ap (λ p. true && true && not (is_pending p)) are.2

  failed_answer : (op : DiskOp) (good : ℕ → Bool) → answer_of op parts good ≡ failed op
  unfolding answer_of
  failed_answer op good =
      ap (λ p. answer_among op (counted op (good 1) p ++ (counted op (good 2) (parts 2) ++ counted op (good 3) (parts 3)))) are.0
      ∙ ap (λ p. answer_among op (counted op (good 2) p ++ counted op (good 3) (parts 3))) are.1 ∙ ap (λ p. answer_among op (counted op (good 3) p)) are.2

  -- a clear that failed on each image leaves no good one
  failed_clear : (good : ℕ → Bool) → is_two (good_after disk.WriteClear parts good) ≡ false
  failed_clear good =
      ap (λ p. has_landed p && has_landed (parts 2) || has_landed p && has_landed (parts 3) || has_landed (parts 2) && has_landed (parts 3)) are.0
      ∙ ap (λ p. has_landed p && has_landed (parts 3)) are.1

  unclear : (op : DiskOp) (good : ℕ → Bool) → is_two (good_after op parts good) ≡ true → op ≡ disk.WriteClear → ⊥
  unclear op good two same = let none = failed_clear good in let both = sym none ∙ subst (λ o. is_two (good_after o parts good) ≡ true) same two in cc

-- ## The events of an entry

-- further events that hand a node an entry: what they are to the world, and to the good images of the run
pub record HandsOnThree (s : Settings) (t : Timing) (rank : ℕ) (entry : What) (goods : List Bool) (events : List TripleEvent) : Type 0 where
  pub events' : List TripleEvent
  pub may : AllMayTriple s t events'
  pub given : What
  pub same : handed s rank (time (run_triple s t events).moments) given (node s rank (run_triple s t events).moments)
      ≡ handed s rank (time (run_triple s t events).moments) entry (node s rank (run_triple s t events).moments)
  pub moments : (run_triple s t events').moments ≡ Adds rank given ∷ (run_triple s t events).moments
  pub changes : ChangesOnThree s rank (run_triple s t events) (run_triple s t events')
  pub slots : (run_triple s t events').slots ≡ (run_triple s t events).slots
  pub mailboxes : (run_triple s t events').mailboxes ≡ (run_triple s t events).mailboxes
  pub left : (image : ℕ) (calls : List Call) → AreAmong s rank calls ((run_triple s t events).left rank image) → AreAmong s rank calls ((run_triple s t events').left rank image)
  pub plain : is_answer entry ≡ false
      → ((run_triple s t events').parts rank ≡ (run_triple s t events).parts rank) × ((run_triple s t events').good rank ≡ (run_triple s t events).good rank)
  pub answer : is_answer entry ≡ true
      → ((run_triple s t events').parts rank ≡ all_pending)
      × ((node s rank (run_triple s t events').moments).on ≡ true → (image : ℕ) → is_image image ≡ true → is_good_on goods image ≡ (run_triple s t events').good rank image)

module _ (s : Settings) (t : Timing) (rank : ℕ) (events : List TripleEvent) (host : TripleHost) (may : AllMayTriple s t events) (nodes : TripleNodesHold s t) (below : rank < length s.nodes)
    (is : IsNodeIn3 s t rank host (run_triple s t events)) (lives : (node s rank (run_triple s t events).moments).on ≡ true) where
  abbrev w : TripleWorld
  w = run_triple s t events

  abbrev n : Running
  n = node s rank w.moments

  plain_on_three : (entry : What) → is_answer entry ≡ false → HandsPlainly s t rank entry (nodes_of w) → HandsOnThree s t rank entry host.good events
  unfolding AllMayTriple run_triple
  plain_on_three entry plain h =
      record {
        events' = triple.One h.of ∷ events;
        may = (h.ranked, h.nodes.refused w ∙ h.allowed, may);
        given = h.given;
        same = h.same;
        moments = moments;
        changes =
            adds_on_three s rank h.given w (step_triple s t (triple.One h.of) w) moments (λ r apart. ap (λ x. x.parts r) steps) (λ r apart. ap (λ x. x.left r) steps) (λ r apart. ap (λ x. x.good r) steps);
        slots = ap (λ x. x.slots) steps;
        mailboxes = ap (λ x. x.mailboxes) steps;
        left = λ image calls among. subst (λ l. AreAmong s rank calls (l rank image)) (sym (ap (λ x. x.left) steps)) among;
        plain = λ e. (ap (λ x. x.parts rank) steps, ap (λ x. x.good rank) steps);
        answer = λ e. absurd (let both = sym plain ∙ e in cc);
      }
    where
      steps : step_triple s t (triple.One h.of) w ≡ moves_nodes s t h.of w
      steps = h.nodes.steps w

      moments : (step_triple s t (triple.One h.of) w).moments ≡ Adds rank h.given ∷ w.moments
      moments = ap (λ x. x.moments) steps ∙ ap (λ x. x.moments) h.is

  -- an operation that all images told of
  landed_on_three : (entry : What) → is_answer entry ≡ true → is.took ≡ Some entry → HandsOnThree s t rank entry host.good events
  landed_on_three entry answers took =
      record {
        events' = answered_by rank events;
        may = d.may;
        given = entry;
        same = refl;
        moments = d.moments ∙ ap (λ a. Adds rank a ∷ w.moments) (sym told.same);
        changes = d.changes;
        slots = d.slots;
        mailboxes = d.mailboxes;
        left = λ image calls among. subst (λ l. AreAmong s rank calls (l rank image)) (sym d.left) among;
        plain = λ e. absurd (let both = sym answers ∙ e in cc);
        answer = λ e. (d.parts, λ on image in_range. goods image in_range);
      }
    where
      told : WasTold n (w.parts rank) (w.good rank) entry
      told = is.told entry took

      d : DoneOn s t rank events told.op
      d = done_on s t rank events told.op may lives told.out told.over

      goods : (image : ℕ) → is_image image ≡ true → is_good_on host.good image ≡ (run_triple s t (answered_by rank events)).good rank image
      goods image in_range =
          is.goods lives (λ clear none. ap is_some took) image in_range
          ∙ ap (λ o. good_told o is.took (w.parts rank) (w.good rank) image) told.out
          ∙ ap (λ k. good_told (Some told.op) k (w.parts rank) (w.good rank) image) took
          ∙ sym (ap (λ g. g image) d.good)

  -- an operation that failed: its parts fail that did not so far
  failed_on_three : (entry : What) (op : DiskOp) → is_answer entry ≡ true → entry ≡ failed op → op_out n.log ≡ Some op → HandsOnThree s t rank entry host.good events
  failed_on_three entry op answers same out =
      record {
        events' = answered_by rank c.events';
        may = d.may;
        given = entry;
        same = refl;
        moments = d.moments ∙ ap (λ a. Adds rank a ∷ w1.moments) (failed_answer (w1.parts rank) are op (w1.good rank) ∙ sym same) ∙ ap (λ ms. Adds rank entry ∷ ms) c.moments;
        changes = then_changes c.changes d.changes;
        slots = d.slots ∙ c.slots;
        mailboxes = d.mailboxes ∙ c.mailboxes;
        left = λ image calls among. subst (λ l. AreAmong s rank calls (l rank image)) (sym d.left) (c.left image calls among);
        plain = λ e. absurd (let both = sym answers ∙ e in cc);
        answer = λ e. (d.parts, goods);
      }
    where
      closed : (c : Closing s t rank is_open events) × (none_pending (λ image. is_open ((run_triple s t c.events').parts rank image)) ≡ true)
      closed = closes s t rank is_open open_unfailed events op lives out may

      c : Closing s t rank is_open events
      c = closed.0

      w1 : TripleWorld
      w1 = run_triple s t c.events'

      are : AllAre all_failed (w1.parts rank)
      are = none_open (w1.parts rank) closed.1

      d : DoneOn s t rank c.events' op
      d = done_on s t rank c.events' op c.may (ap (λ ms. (node s rank ms).on) c.moments ∙ lives) (ap (λ ms. op_out (node s rank ms).log) c.moments ∙ out) (none_waits (w1.parts rank) are)

      told_kept : (op ≡ disk.WriteClear → ⊥) → (k : Option What) (image : ℕ) → good_told (Some op) k (w.parts rank) (w.good rank) image ≡ w.good rank image
      told_kept never None image = refl
      told_kept never (Some a) image = kept_good op (w.parts rank) (w.good rank) (w.good rank) image never refl

      -- a node that cleared none of its images is gone
      goods : (node s rank (run_triple s t (answered_by rank c.events')).moments).on ≡ true → (image : ℕ) → is_image image ≡ true
          → is_good_on host.good image ≡ (run_triple s t (answered_by rank c.events')).good rank image
      goods on image in_range =
          let never = unclear (w1.parts rank) are op (w1.good rank) (sym (ap is_two d.good) ∙ (nodes (answered_by rank c.events') rank d.may below).good on) in
          is.goods lives (λ clear none. absurd (never (same_Some _ _ (sym out ∙ clear)))) image in_range
          ∙ ap (λ o. good_told o is.took (w.parts rank) (w.good rank) image) out
          ∙ told_kept never is.took image
          ∙ sym (ap (λ g. g rank image) c.good)
          ∙ sym (kept_good op (w1.parts rank) (w1.good rank) (w1.good rank) image never refl)
          ∙ sym (ap (λ g. g image) d.good)

  -- each entry that comes in has its events
  pub hands_on_three : (entry : What) → ComesIn rank n.log is.took (packets s w.moments) entry → HandsOnThree s t rank entry host.good events
  hands_on_three entry comes = by_answer (is_answer entry) refl
    where
      by_source : is_answer entry ≡ true → (a : IsAnswer n.log is.took entry) → (entry ≡ failed a.op) ⊎ (is.took ≡ Some entry) → HandsOnThree s t rank entry host.good events
      by_source answers a (inl same) = failed_on_three entry a.op answers same a.out
      by_source answers a (inr took) = landed_on_three entry answers took

      by_answer : (b : Bool) → is_answer entry ≡ b → HandsOnThree s t rank entry host.good events
      by_answer true e = let a = answers_out rank n.log is.took (packets s w.moments) entry e comes in by_source e a a.source
      by_answer false e = plain_on_three entry e (hands_plainly s t rank (nodes_of w) lives is.took entry e comes)

-- What a world of three images stands for after an event.
use Rattle.std.proofs.Common.{◌≡◌, ◌≢◌, ℕ, Bool, true, false, List, [], ◌∷◌, ◌++◌, length, Some, None, refl, if◌then◌else◌, ◌&&◌, sym, ◌∙◌, ap, subst, arith}
use Rattle.std.specs.Prelude.{Option, is_some, ◌==◌, nat_lt}
use Rattle.std.specs.Option.{option_map_or, option_or}
use Rattle.std.proofs.lemmas.Bool.{eqb-true, or_right}
use Rattle.std.proofs.lemmas.Bool.Decides.{nat_tests}
use Rattle.std.proofs.lemmas.List.{append-nil}
use Rattle.qn_base.specs.declared.ids.Rank.{Rank}
use Rattle.qn_base.specs.lemmas.Lists.{longer_joined}
use Rattle.qn_base.specs.lemmas.Numbers.{equal_to_itself}
use Rattle.qn_cluster.specs.Events.{CanStep, Starved, Stepped as NodesStepped, is_of_nodes}
use Rattle.qn_cluster.specs.Nodes.{Nodes}
use Rattle.qn_cluster.specs.Seats.{IsDue}
use Rattle.qn_cluster.specs.Standing.{IsOpWithin, IsWithin}
use Rattle.qn_cluster.specs.Stepping.{Booted, Ended, Handed, Unhanded, grows}
use Rattle.qn_cluster.specs.EventLaws.{first_some, is_some_none, no_outputs, or_first, passed_both, wider}
use Rattle.qn_cluster.specs.DiskStanding.{is_marked, left_over}
use Rattle.qn_cluster.specs.WorldStepLaws.{both_disks, framed, same_frames, turned}
use Rattle.qn_model.specs.declared.configuration.Settings.{Settings}
use Rattle.qn_model.specs.declared.disk.Message.{Message}
use Rattle.qn_model.specs.declared.entries.What.{What}
use Rattle.qn_model.specs.declared.events.Event.{Event}
use Rattle.qn_model.specs.declared.events.Event.TheVariants as event
use Rattle.qn_model.specs.declared.outputs.DiskOp.{DiskOp}
use Rattle.qn_model.specs.declared.outputs.Out.{Out}
use Rattle.qn_model.specs.declared.times.Timing.{Timing}
use Rattle.qn_model.specs.Fitting.{answers_op}
use Rattle.qn_model.specs.Moments.{Adds, Boots, Ends, node}
use Rattle.qn_model.specs.NodeOutputs.{newest_outs}
use Rattle.qn_model.specs.Rules.{is_well_formed, refusal, unless}
use Rattle.qn_model.specs.Steps.{outs_after, step}
use Rattle.qn_model.specs.World.{is_write, node_at, numbered, put, taken, without}
use Rattle.qn_model.specs.lemmas.Rules.{allowed as passed, running_allowed}
use Rattle.qn_safety.specs.declared.part.Part.{Part}
use Rattle.qn_safety.specs.declared.part.Part.TheVariants.{Pending, Landed, Failed}
use Rattle.qn_safety.specs.declared.triple_event.TripleEvent.{TripleEvent}
use Rattle.qn_safety.specs.declared.triple_event.TripleEvent.TheVariants as triple
use Rattle.qn_safety.specs.TripleRules.{is_image, is_on_triple, may_be_done_triple, may_fail_on, may_land_on, is_well_formed_triple, refusal_triple}
use Rattle.qn_safety.specs.TripleSteps.{done_triple, ends_triple, failed_on, landed_on, lands_late_on, step_triple, written_on}
use Rattle.qn_safety.specs.TripleWorld.{TripleWorld, all_good, all_pending, answer_of, good_after, image_of, is_pending, leaves_over, nodes_of, none_left, op_of, put_on}
use Rattle.qn_triple.specs.Memory.{leaves_on, leaves_one}
use Rattle.qn_cluster.specs.WorldSteps.{IsReady, OutOfMemory, Stepped, Turns, boot_event}
use Rattle.qn_triple.specs.Standing.{IsStanding, TripleFor, three_images}
use Rattle.qn_triple.specs.Stepping.{GivesUp, KeepsOn, given_up_on, only_on}
use Rattle.qn_triple.specs.Whole.{Whole, cluster_of, with_nodes}
use Rattle.qn_triple.proofs.DiskSteps.{lefts_same, moved}
use Rattle.qn_cluster.specs.ListLaws.{by_image}
use Rattle.qn_safety.specs.Answers.{answer_answers}

-- ---- what the rules leave

land_ready : (w : Whole) (d : TripleWorld) (rank : Rank) (image : ℕ) → refusal_triple w.settings w.timing (triple.LandOn rank image) d ≡ None
    → (is_on_triple w.settings rank.0 d ≡ true) × (may_land_on w.settings rank.0 image d ≡ true)
unfolding refusal_triple
land_ready w d rank image e = passed_both (is_on_triple w.settings rank.0 d) (may_land_on w.settings rank.0 image d) 4 e

fail_ready : (w : Whole) (d : TripleWorld) (rank : Rank) (image : ℕ) → refusal_triple w.settings w.timing (triple.FailOn rank image) d ≡ None
    → (is_on_triple w.settings rank.0 d ≡ true) × (may_fail_on w.settings rank.0 image d ≡ true)
unfolding refusal_triple
fail_ready w d rank image e = passed_both (is_on_triple w.settings rank.0 d) (may_fail_on w.settings rank.0 image d) 5 e

done_ready : (w : Whole) (d : TripleWorld) (rank : Rank) → refusal_triple w.settings w.timing (triple.One (event.Done rank)) d ≡ None
    → (is_on_triple w.settings rank.0 d ≡ true) × (may_be_done_triple w.settings rank.0 d ≡ true)
unfolding refusal_triple
done_ready w d rank e = passed_both (is_on_triple w.settings rank.0 d) (may_be_done_triple w.settings rank.0 d) 5 e

crash_on : (w : Whole) (d : TripleWorld) (rank : Rank) → refusal_triple w.settings w.timing (triple.One (event.Crash rank)) d ≡ None
    → is_on_triple w.settings rank.0 d ≡ true
unfolding refusal_triple refusal
crash_on w d rank e = running_allowed (is_on_triple w.settings rank.0 d) None e

-- an operation that is out of a running node, as the code knows it
abbrev pub IsOut : Whole → ℕ → Option DiskOp → Type 0
IsOut w i op = (d : TripleWorld) → TripleFor w d → is_on_triple w.settings i d ≡ true → op ≡ op_of w.settings i d

none_out : (o p : Option DiskOp) → o ≡ p → ((out : DiskOp) → o ≡ Some out → ⊥) → is_some p ≡ true → ⊥
none_out None None same none e = absurd (cc)
none_out None (Some op) same none e = absurd (cc)
none_out (Some op) p same none e = none op refl

-- a step that is never allowed
pub never_stepped : (w : Whole) (event : TripleEvent) (outs : List Out)
    → ((d : TripleWorld) → TripleFor w d → refusal_triple w.settings w.timing event d ≡ None → ⊥) → Stepped three_images w w event outs
never_stepped w event outs never =
    record {
      frame = record { settings = refl; timing = refl; steps = refl };
      stands = λ d is allowed. absurd (never d is allowed);
      gives = λ d is allowed. absurd (never d is allowed);
      ranks = λ d is allowed. absurd (never d is allowed);
    }

-- ---- land

pub land_stepped : (w mid new : Whole) (rank : Rank) (image : ℕ) (op : DiskOp) (entry : What) → IsOut w rank.0 (Some op)
    → ((d : TripleWorld) → TripleFor w d → entry ≡ taken w.settings w.timing rank.0 op (image_of image d))
    → Turns three_images w mid (written_on rank.0 image op) → Turns three_images mid new (λ d. record d { parts = put_on d.parts rank.0 image (Landed entry) })
    → Stepped three_images w new (triple.LandOn rank image) []
unfolding step_triple
land_stepped w mid new rank image op entry out takes writes sets =
    record {
      frame = turned three_images w new (both_disks three_images w mid new writes.rest sets.rest);
      stands = λ d is allowed.
          let i = rank.0 in
          let op_is = out d is (land_ready w d rank image allowed).0 in
          subst (λ o. TripleFor new (option_map_or (λ op. landed_on w.settings w.timing i image op d) o d)) op_is
          (subst (λ value. TripleFor new (record (written_on i image op d) { parts = put_on d.parts i image (Landed value) })) (takes d is)
          (sets.stands (written_on i image op d) (writes.stands d is)));
      gives = λ d is allowed. refl;
      ranks = λ d is allowed. no_outputs w.settings;
    }

pub not_landed : (w : Whole) (rank : Rank) (image : ℕ) (op : Option DiskOp) (outs : List Out) → IsOut w rank.0 op → ((out : DiskOp) → op ≡ Some out → ⊥)
    → Stepped three_images w w (triple.LandOn rank image) outs
not_landed w rank image op outs out none =
    never_stepped w (triple.LandOn rank image) outs (λ d is allowed.
    let ready = land_ready w d rank image allowed in
    none_out op (op_of w.settings rank.0 d) (out d is ready.0) none (first_some (op_of w.settings rank.0 d) _ ready.1))

-- ---- fail

-- what a part leaves over, by a test
leaves_if : (op : DiskOp) (part : Part) → leaves_over (Some op) part ≡ (if is_write op && is_pending part then op ∷ [] else [])
leaves_if op Pending = pending_by (is_write op)
  where
    pending_by : (b : Bool) → (if b then op ∷ [] else []) ≡ (if b && true then op ∷ [] else [])
    pending_by true = refl
    pending_by false = refl
leaves_if op (Landed value) = none_by (is_write op)
  where
    none_by : (b : Bool) → [] ≡ (if b && false then op ∷ [] else [])
    none_by true = refl
    none_by false = refl
leaves_if op Failed = none_by (is_write op)
  where
    none_by : (b : Bool) → [] ≡ (if b && false then op ∷ [] else [])
    none_by true = refl
    none_by false = refl

marked_only : (left : Bool) (image k : ℕ) → is_image k ≡ true → is_marked (only_on left image) k ≡ (left && image == k)
marked_only left image = by_image (λ k. is_marked (only_on left image) k ≡ (left && image == k)) refl refl refl

left_one : (d : TripleWorld) (i image : ℕ) (op : DiskOp) (left : Bool) → left ≡ (is_write op && is_pending (d.parts i image))
    → (rank k : ℕ) → is_image k ≡ true
    → left_over d.left i op (only_on left image) rank k ≡ put_on d.left i image (d.left i image ++ leaves_over (Some op) (d.parts i image)) rank k
left_one d i image op left left_is rank k one = by_rank (i == rank) refl
  where
    value : List DiskOp
    value = d.left i image ++ leaves_over (Some op) (d.parts i image)

    by_image_of : (b : Bool) → (image == k) ≡ b → d.left i k ++ (if left && b then op ∷ [] else []) ≡ (if b then value else d.left i k)
    by_image_of true e =
        let here : image ≡ k = grind (arith, nat_tests) in
        ap (λ k. d.left i k ++ (if left && true then op ∷ [] else [])) (sym here)
        ∙ (ap (λ b. d.left i image ++ (if b then op ∷ [] else [])) (and_true left ∙ left_is) ∙ ap (λ more. d.left i image ++ more) (sym (leaves_if op (d.parts i image))))
      where
        and_true : (b : Bool) → (b && true) ≡ b
        and_true true = refl
        and_true false = refl
    by_image_of false e = ap (λ b. d.left i k ++ (if b then op ∷ [] else [])) (and_false left) ∙ append-nil (d.left i k)
      where
        and_false : (b : Bool) → (b && false) ≡ false
        and_false true = refl
        and_false false = refl

    by_rank : (b : Bool) → (i == rank) ≡ b
        → left_over d.left i op (only_on left image) rank k ≡ put_on d.left i image value rank k
    by_rank true e =
        ap (λ b. (if b then (λ (n : ℕ). d.left i n ++ (if is_marked (only_on left image) n then op ∷ [] else [])) else d.left rank) k) e
        ∙ (ap (λ b. d.left i k ++ (if b then op ∷ [] else [])) (marked_only left image k one)
        ∙ (by_image_of (image == k) refl
        ∙ sym (ap (λ b. (if b then put (d.left i) image value else d.left rank) k) e)))
    by_rank false e =
        ap (λ b. (if b then (λ (n : ℕ). d.left i n ++ (if is_marked (only_on left image) n then op ∷ [] else [])) else d.left rank) k) e
        ∙ sym (ap (λ b. (if b then put (d.left i) image value else d.left rank) k) e)

pub fail_stepped : (w mid new : Whole) (rank : Rank) (image : ℕ) (op : DiskOp) (left : Bool) → IsOut w rank.0 (Some op)
    → ((d : TripleWorld) → TripleFor w d → left ≡ (is_write op && is_pending (d.parts rank.0 image)))
    → Turns three_images w mid (λ d. record d { left = left_over d.left rank.0 op (only_on left image) })
    → Turns three_images mid new (λ d. record d { parts = put_on d.parts rank.0 image Failed })
    → Stepped three_images w new (triple.FailOn rank image) []
unfolding step_triple
fail_stepped w mid new rank image op left out left_is leaves sets =
    record {
      frame = turned three_images w new (both_disks three_images w mid new leaves.rest sets.rest);
      stands = λ d is allowed.
          let i = rank.0 in
          let op_is = out d is (fail_ready w d rank image allowed).0 in
          let d1 = record d { left = left_over d.left i op (only_on left image) } in
          subst (λ o. TripleFor new (option_map_or (λ op. failed_on i image op d) o d)) op_is
          (lefts_same new (record d1 { parts = put_on d.parts i image Failed })
          (put_on d.left i image (d.left i image ++ leaves_over (Some op) (d.parts i image)))
          (sets.stands d1 (leaves.stands d is)) (left_one d i image op left (left_is d is)));
      gives = λ d is allowed. refl;
      ranks = λ d is allowed. no_outputs w.settings;
    }

pub not_failed : (w : Whole) (rank : Rank) (image : ℕ) (op : Option DiskOp) (outs : List Out) → IsOut w rank.0 op → ((out : DiskOp) → op ≡ Some out → ⊥)
    → Stepped three_images w w (triple.FailOn rank image) outs
not_failed w rank image op outs out none =
    never_stepped w (triple.FailOn rank image) outs (λ d is allowed.
    let ready = fail_ready w d rank image allowed in
    none_out op (op_of w.settings rank.0 d) (out d is ready.0) none (first_some (op_of w.settings rank.0 d) _ ready.1))

-- ---- where memory is wanted

one_of_three : (rank : ℕ) (d after : TripleWorld) (image : ℕ) → is_image image ≡ true → leaves_on rank image d after ≡ true → leaves_one rank d after ≡ true
one_of_three rank d after =
    by_image (λ image. leaves_on rank image d after ≡ true → leaves_one rank d after ≡ true)
    (λ e. or_first _ _ (or_first _ _ e)) (λ e. or_first _ _ (or_right _ _ e)) (λ e. or_right _ _ e)

leaves_more : (rank image : ℕ) (d after : TripleWorld) (ops : List DiskOp) → is_image image ≡ true → ops ≢ [] → after.left rank image ≡ d.left rank image ++ ops
    → leaves_one rank d after ≡ true
leaves_more rank image d after ops one some e =
    one_of_three rank d after image one (ap (λ left. nat_lt (length (d.left rank image)) (length left)) e ∙ longer_joined (d.left rank image) ops some)

not_empty : (op : DiskOp) (b : Bool) → b ≡ true → (if b then op ∷ [] else []) ≢ []
not_empty op true e none = absurd (cc)
not_empty op false e none = absurd (cc)

marked_here : (left : Bool) (image k : ℕ) → (left && image == k) ≡ true → (left ≡ true) × (image ≡ k)
marked_here true image k e = (refl, grind (arith, nat_tests))
marked_here false image k e = absurd (cc)

pub fail_starved : (w new : Whole) (rank : Rank) (image : ℕ) (op : DiskOp) (left : Bool) → IsOut w rank.0 (Some op) → is_image image ≡ true
    → ((d : TripleWorld) → TripleFor w d → left ≡ (is_write op && is_pending (d.parts rank.0 image))) → new ≡ w
    → (k : ℕ) × (is_image k ≡ true) × (is_marked (only_on left image) k ≡ true) → OutOfMemory three_images w new (triple.FailOn rank image)
unfolding step_triple
fail_starved w new rank image op left out one left_is e marked =
    record {
      same = e;
      cause = λ d is allowed.
          let i = rank.0 in
          let op_is = out d is (fail_ready w d rank image allowed).0 in
          let here = marked_here left image marked.0 (sym (marked_only left image marked.0 marked.1) ∙ marked.2) in
          let some : leaves_over (Some op) (d.parts i image) ≢ [] =
          subst (λ ops. ops ≢ []) (sym (leaves_if op (d.parts i image))) (not_empty op (is_write op && is_pending (d.parts i image)) (sym (left_is d is) ∙ here.0)) in
          or_right _ _
          (subst (λ o. leaves_one i d (option_map_or (λ op. failed_on i image op d) o d) ≡ true) op_is
          (leaves_more i image d (failed_on i image op d) (leaves_over (Some op) (d.parts i image)) one some
          (ap (λ b. (if b then put (d.left i) image (d.left i image ++ leaves_over (Some op) (d.parts i image)) else d.left i) image) (equal_to_itself i)
          ∙ ap (λ b. if b then d.left i image ++ leaves_over (Some op) (d.parts i image) else d.left i image) (equal_to_itself image))));
    }

-- ---- late, and an operator

late_may : (w : Whole) (d : TripleWorld) (rank : Rank) (image number : ℕ) → refusal_triple w.settings w.timing (triple.LateOn rank image number) d ≡ None
    → is_some (numbered (d.left rank.0 image) number) ≡ true
unfolding refusal_triple
late_may w d rank image number e = passed (is_some (numbered (d.left rank.0 image) number)) 6 e

pub late_stepped : (w mid new : Whole) (rank : Rank) (image number : ℕ) (op : DiskOp)
    → ((d : TripleWorld) → TripleFor w d → Some op ≡ numbered (d.left rank.0 image) number)
    → Turns three_images w mid (λ d. record d { left = put_on d.left rank.0 image (without (d.left rank.0 image) number) }) → Turns three_images mid new (written_on rank.0 image op)
    → Stepped three_images w new (triple.LateOn rank image number) []
unfolding step_triple
late_stepped w mid new rank image number op found takes writes =
    record {
      frame = turned three_images w new (both_disks three_images w mid new takes.rest writes.rest);
      stands = λ d is allowed.
          subst (λ o. TripleFor new (option_map_or (λ op. lands_late_on rank.0 image number op d) o d)) (found d is)
          (writes.stands (record d { left = put_on d.left rank.0 image (without (d.left rank.0 image) number) }) (takes.stands d is));
      gives = λ d is allowed. refl;
      ranks = λ d is allowed. no_outputs w.settings;
    }

pub not_late : (w new : Whole) (rank : Rank) (image number : ℕ) (outs : List Out) → new ≡ w
    → ((d : TripleWorld) → TripleFor w d → None ≡ numbered (d.left rank.0 image) number) → Stepped three_images w new (triple.LateOn rank image number) outs
not_late w new rank image number outs e none =
    subst (λ n. Stepped three_images w n (triple.LateOn rank image number) outs) (sym e)
    (never_stepped w (triple.LateOn rank image number) outs (λ d is allowed.
    is_some_none (numbered (d.left rank.0 image) number) (sym (none d is)) (late_may w d rank image number allowed)))

pub operator_stepped : (w new : Whole) (rank : Rank) (image : ℕ) (value : Message)
    → Turns three_images w new (λ d. record d { mailboxes = put_on d.mailboxes rank.0 image value }) → Stepped three_images w new (triple.OperatorOn rank image value) []
unfolding step_triple
operator_stepped w new rank image value puts =
    record {
      frame = turned three_images w new puts.rest;
      stands = λ d is allowed. puts.stands d is;
      gives = λ d is allowed. refl;
      ranks = λ d is allowed. no_outputs w.settings;
    }

-- ---- crash

pub crash_stepped : (w left mid new : Whole) (rank : Rank) → GivesUp w left rank.0 → Turns three_images left mid (λ d. record d { parts = put d.parts rank.0 all_pending })
    → new ≡ with_nodes mid (cluster_of new) → Ended (cluster_of mid) (cluster_of new) rank.0 → Stepped three_images w new (triple.One (event.Crash rank)) []
unfolding step_triple
crash_stepped w left mid new rank gives_up forgets disk ends =
    let rest = both_disks three_images w left mid gives_up.rest forgets.rest in
    let ended : Ended (cluster_of w) (cluster_of new) rank.0 = subst (λ c. Ended c (cluster_of new) rank.0) rest.nodes ends in
    record {
      frame = framed three_images w new (ap (λ w. w.timing) disk ∙ rest.timing) ended.frame;
      stands = λ d is allowed.
          let on = crash_on w d rank allowed in
          let d1 = record d { left = given_up_on w.settings rank.0 d } in
          let d2 = record d1 { parts = put d.parts rank.0 all_pending } in
          moved mid new d2 (Ends rank.0 ∷ d.moments) (forgets.stands d1 (gives_up.stands d is on)) disk ends.frame.settings (ended.stands d.moments is.cluster);
      gives = λ d is allowed. refl;
      ranks = λ d is allowed. no_outputs w.settings;
    }

pub crash_starved : (w new : Whole) (rank : Rank) → KeepsOn w new rank.0 → OutOfMemory three_images w new (triple.One (event.Crash rank))
unfolding step_triple
crash_starved w new rank keeps =
    record {
      same = keeps.same;
      cause = λ d is allowed.
          let i = rank.0 in
          let lost = keeps.cause d is (crash_on w d rank allowed) in
          or_right _ _
          (leaves_more i lost.0 d (ends_triple w.settings i d) (leaves_over (op_of w.settings i d) (d.parts i lost.0)) lost.1 lost.2
          (ap (λ b. (if b then (λ (n : ℕ). d.left i n ++ leaves_over (op_of w.settings i d) (d.parts i n)) else d.left i) lost.0) (equal_to_itself i)));
    }

-- ---- boot

boots_as : (s : Settings) (t : Timing) (rank : Rank) (base : ℕ) (clean : Bool) (d : TripleWorld)
    → step_triple s t (triple.One (boot_event rank base clean)) d
    ≡ record d { moments = Boots rank.0 base clean ∷ d.moments; parts = put d.parts rank.0 all_pending; left = put d.left rank.0 none_left; good = put d.good rank.0 all_good }
unfolding step_triple
boots_as s t rank base false d = refl
boots_as s t rank base true d = refl

boot_gives : (s : Settings) (t : Timing) (rank : Rank) (base : ℕ) (clean : Bool) (d : TripleWorld)
    → outs_after s (boot_event rank base clean) (nodes_of (step_triple s t (triple.One (boot_event rank base clean)) d))
    ≡ newest_outs (node s rank.0 (Boots rank.0 base clean ∷ d.moments)).log
unfolding step_triple
boot_gives s t rank base false d = refl
boot_gives s t rank base true d = refl

pub boot_stepped : (w a b c new : Whole) (rank : Rank) (base : ℕ) (clean : Bool) (outs : List Out)
    → Turns three_images w a (λ d. record d { left = put d.left rank.0 none_left }) → Turns three_images a b (λ d. record d { parts = put d.parts rank.0 all_pending })
    → Turns three_images b c (λ d. record d { good = put d.good rank.0 all_good }) → new ≡ with_nodes c (cluster_of new)
    → Booted (cluster_of c) (cluster_of new) rank.0 base clean outs → Stepped three_images w new (triple.One (boot_event rank base clean)) outs
boot_stepped w a b c new rank base clean outs drops forgets trusts disk boots =
    let i = rank.0 in
    let rest = both_disks three_images w a c drops.rest (both_disks three_images a b c forgets.rest trusts.rest) in
    let booted : Booted (cluster_of w) (cluster_of new) i base clean outs = subst (λ n. Booted n (cluster_of new) i base clean outs) rest.nodes boots in
    record {
      frame = framed three_images w new (ap (λ w. w.timing) disk ∙ rest.timing) booted.frame;
      stands = λ d is allowed.
          let d1 = record d { left = put d.left i none_left } in
          let d2 = record d1 { parts = put d.parts i all_pending } in
          let d3 = record d2 { good = put d.good i all_good } in
          subst (λ after. TripleFor new after) (sym (boots_as w.settings w.timing rank base clean d))
          (moved c new d3 (Boots i base clean ∷ d.moments) (trusts.stands d2 (forgets.stands d1 (drops.stands d is))) disk boots.frame.settings (booted.stands d.moments is.cluster));
      gives = λ d is allowed. gives_by d (booted.gives d.moments is.cluster);
      ranks = λ d is allowed. booted.ranks;
    }
  where
    gives_by : (d : TripleWorld) → outs ≡ newest_outs (node w.settings rank.0 (Boots rank.0 base clean ∷ d.moments)).log
        → outs ≡ outs_after w.settings (boot_event rank base clean) (nodes_of (step_triple w.settings w.timing (triple.One (boot_event rank base clean)) d))
    gives_by d e = e ∙ sym (boot_gives w.settings w.timing rank base clean d)

-- ---- done

answer_due : (w : Whole) (d : TripleWorld) (i : ℕ) (op : DiskOp) (entry : What) → Some op ≡ op_of w.settings i d → entry ≡ answer_of op (d.parts i) (d.good i)
    → IsDue (node w.settings i d.moments) entry
answer_due w d i op entry op_is entry_is kind =
    ap (λ o. answers_op o entry) (sym op_is) ∙ (ap (λ e. answers_op (Some op) e) entry_is ∙ answer_answers op (d.parts i) (d.good i))

-- the disk of a rank whose operation was answered
abbrev pub closed : ℕ → DiskOp → TripleWorld → TripleWorld
closed i op d = record d { parts = put d.parts i all_pending; good = put d.good i (good_after op (d.parts i) (d.good i)) }

pub done_stepped : (w mid new : Whole) (rank : Rank) (op : DiskOp) (entry : What) (outs : List Out) → IsOut w rank.0 (Some op)
    → ((d : TripleWorld) → TripleFor w d → entry ≡ answer_of op (d.parts rank.0) (d.good rank.0))
    → mid ≡ with_nodes w (cluster_of mid) → Handed (cluster_of w) (cluster_of mid) rank.0 entry outs → Turns three_images mid new (closed rank.0 op)
    → Stepped three_images w new (triple.One (event.Done rank)) outs
unfolding step_triple
done_stepped w mid new rank op entry outs out answers disk hands closes =
    record {
      frame =
          same_frames three_images w mid new (framed three_images w mid (ap (λ w. w.timing) disk) hands.frame) (turned three_images mid new closes.rest);
      stands = λ d is allowed.
          let i = rank.0 in
          let on = (done_ready w d rank allowed).0 in
          let op_is = out d is on in
          subst (λ o. TripleFor new (option_map_or (λ op. done_triple i op d) o d)) op_is
          (subst (λ entry. TripleFor new (closed i op (record d { moments = Adds i entry ∷ d.moments }))) (answers d is)
          (closes.stands (record d { moments = Adds i entry ∷ d.moments })
          (moved w mid d (Adds i entry ∷ d.moments) is disk hands.frame.settings
          (hands.stands d.moments is.cluster on (answer_due w d i op entry op_is (answers d is))))));
      gives = λ d is allowed.
          let i = rank.0 in
          let on = (done_ready w d rank allowed).0 in
          subst (λ o. outs ≡ newest_outs (node_at w.settings i (nodes_of (option_map_or (λ op. done_triple i op d) o d))).log) (out d is on)
          (subst (λ entry. outs ≡ newest_outs (node w.settings i (Adds i entry ∷ d.moments)).log) (answers d is) (hands.gives d.moments is.cluster on));
      ranks = λ d is allowed. hands.ranks d.moments is.cluster (done_ready w d rank allowed).0;
    }

pub done_starved : (w new : Whole) (rank : Rank) (op : DiskOp) (entry : What) → IsOut w rank.0 (Some op)
    → ((d : TripleWorld) → TripleFor w d → entry ≡ answer_of op (d.parts rank.0) (d.good rank.0))
    → new ≡ with_nodes w (cluster_of new) → Unhanded (cluster_of w) (cluster_of new) rank.0 entry → OutOfMemory three_images w new (triple.One (event.Done rank))
unfolding step_triple
done_starved w new rank op entry out answers disk starved =
    record {
      same = disk ∙ ap (λ c. with_nodes w c) starved.same;
      cause = λ d is allowed.
          let i = rank.0 in
          let on = (done_ready w d rank allowed).0 in
          or_first _ _
          (subst (λ o. grows w.settings d.moments (option_map_or (λ op. done_triple i op d) o d).moments ≡ true) (out d is on)
          (subst (λ entry. grows w.settings d.moments (Adds i entry ∷ d.moments) ≡ true) (answers d is) (starved.cause d.moments is.cluster on)));
    }

pub not_done : (w : Whole) (rank : Rank) (op : Option DiskOp) (outs : List Out) → IsOut w rank.0 op → ((out : DiskOp) → op ≡ Some out → ⊥)
    → Stepped three_images w w (triple.One (event.Done rank)) outs
not_done w rank op outs out none =
    never_stepped w (triple.One (event.Done rank)) outs (λ d is allowed.
    let ready = done_ready w d rank allowed in
    none_out op (op_of w.settings rank.0 d) (out d is ready.0) none (first_some (op_of w.settings rank.0 d) _ ready.1))

-- ---- an event that changes nodes alone

-- what an event of nodes is to the world of three images
record OfNodes (s : Settings) (t : Timing) (event : Event) : Type 0 where
  rules : (d : TripleWorld) → refusal_triple s t (triple.One event) d ≡ refusal s t event (nodes_of d)
  moves : (d : TripleWorld) → step_triple s t (triple.One event) d ≡ record d { moments = (step s t event (nodes_of d)).moments }
  shows : (d : TripleWorld) → outs_after s event (step s t event (nodes_of d)) ≡ outs_after s event (nodes_of (step_triple s t (triple.One event) d))

of_nodes : (s : Settings) (t : Timing) (event : Event) → is_of_nodes event ≡ true → OfNodes s t event
unfolding refusal_triple step_triple
of_nodes s t (event.Pass dt clocks) e = record { rules = λ d. refl; moves = λ d. refl; shows = λ d. refl }
of_nodes s t (event.View rank view) e = record { rules = λ d. refl; moves = λ d. refl; shows = λ d. refl }
of_nodes s t (event.Deliver rank number) e = record { rules = λ d. refl; moves = λ d. refl; shows = λ d. refl }
of_nodes s t (event.Device rank agrees) e = record { rules = λ d. refl; moves = λ d. refl; shows = λ d. refl }
of_nodes s t (event.Tick rank) e = record { rules = λ d. refl; moves = λ d. refl; shows = λ d. refl }
of_nodes s t (event.Stopped rank) e = record { rules = λ d. refl; moves = λ d. refl; shows = λ d. refl }
of_nodes s t (event.Unstopped rank) e = record { rules = λ d. refl; moves = λ d. refl; shows = λ d. refl }
of_nodes s t (event.Leave rank) e = record { rules = λ d. refl; moves = λ d. refl; shows = λ d. refl }
of_nodes s t (event.Feed rank) e = record { rules = λ d. refl; moves = λ d. refl; shows = λ d. refl }
of_nodes s t (event.Boot rank base) e = absurd (cc)
of_nodes s t (event.BootClean rank base) e = absurd (cc)
of_nodes s t (event.Crash rank) e = absurd (cc)
of_nodes s t (event.Land rank) e = absurd (cc)
of_nodes s t (event.Done rank) e = absurd (cc)
of_nodes s t (event.Fail rank) e = absurd (cc)
of_nodes s t (event.Late rank number) e = absurd (cc)
of_nodes s t (event.Operator rank message) e = absurd (cc)

pub formed_one : (s : Settings) (event : Event) → is_well_formed_triple s (triple.One event) ≡ true → is_well_formed s event ≡ true
unfolding is_well_formed_triple
formed_one s event formed = formed

can_step : (w : Whole) (event : Event) → is_of_nodes event ≡ true → IsReady three_images w (triple.One event) → CanStep (cluster_of w) event
can_step w event nodes ready =
    record {
      nodes = nodes;
      formed = formed_one w.settings event ready.formed;
      room = ready.room;
      early = ready.early;
      timing = w.timing;
      world = nodes_of ready.standing.0;
      stands = ready.standing.1.cluster;
      allowed = sym ((of_nodes w.settings w.timing event nodes).rules ready.standing.0) ∙ ready.allowed;
    }

nodes_stepped : (w new : Whole) (event : Event) (outs : List Out) → is_of_nodes event ≡ true → new ≡ with_nodes w (cluster_of new)
    → NodesStepped (cluster_of w) (cluster_of new) event outs → Stepped three_images w new (triple.One event) outs
nodes_stepped w new event outs nodes disk made =
    let of = of_nodes w.settings w.timing event nodes in
    record {
      frame = framed three_images w new (ap (λ w. w.timing) disk) made.frame;
      stands = λ d is allowed.
          subst (λ after. TripleFor new after) (sym (of.moves d))
          (moved w new d (step w.settings w.timing event (nodes_of d)).moments is disk made.frame.settings
          (made.stands w.timing (nodes_of d) is.cluster (sym (of.rules d) ∙ allowed)));
      gives = λ d is allowed. made.gives w.timing (nodes_of d) is.cluster (sym (of.rules d) ∙ allowed) ∙ of.shows d;
      ranks = λ d is allowed. made.ranks w.timing (nodes_of d) is.cluster (sym (of.rules d) ∙ allowed);
    }

nodes_starved : (w new : Whole) (event : Event) → is_of_nodes event ≡ true → new ≡ with_nodes w (cluster_of new)
    → Starved (cluster_of w) (cluster_of new) event → OutOfMemory three_images w new (triple.One event)
nodes_starved w new event nodes disk starved =
    let of = of_nodes w.settings w.timing event nodes in
    record {
      same = disk ∙ ap (λ c. with_nodes w c) starved.same;
      cause = λ d is allowed.
          or_first _ _
          (ap (λ after. grows w.settings d.moments after.moments) (of.moves d)
          ∙ starved.cause w.timing (nodes_of d) is.cluster (sym (of.rules d) ∙ allowed));
    }

-- the nodes make the step in a world that is kept as another one, which is the same
module _ (w kept : Whole) (is : kept ≡ w) (event : Event) where
  pub kept_can : is_of_nodes event ≡ true → IsReady three_images w (triple.One event) → CanStep (cluster_of kept) event
  kept_can nodes ready = subst (λ (v : Whole). CanStep (cluster_of v) event) (sym is) (can_step w event nodes ready)

  module _ (after : Nodes) where
    pub kept_stepped : (outs : List Out) → is_of_nodes event ≡ true → NodesStepped (cluster_of kept) after event outs
        → Stepped three_images w (with_nodes kept after) (triple.One event) outs
    kept_stepped outs nodes made =
        nodes_stepped w (with_nodes kept after) event outs nodes (ap (λ v. with_nodes v after) is)
        (subst (λ (v : Whole). NodesStepped (cluster_of v) after event outs) is made)

    pub kept_starved : is_of_nodes event ≡ true → Starved (cluster_of kept) after event → OutOfMemory three_images w (with_nodes kept after) (triple.One event)
    kept_starved nodes starved =
        nodes_starved w (with_nodes kept after) event nodes (ap (λ v. with_nodes v after) is)
        (subst (λ (v : Whole). Starved (cluster_of v) after event) is starved)

-- ---- ranks of the other node that an operation is about

pub op_target : (w : Whole) (op : DiskOp) → IsStanding w → IsOpWithin (length w.settings.nodes) (Some op) → IsWithin 32 op
op_target w op standing within = wider (length w.settings.nodes) op standing.1.cluster.valid.few_nodes within

-- the events that name no image, though their step is one of an image
abbrev pub is_of_disk : Event → Bool
is_of_disk (event.Land rank) = true
is_of_disk (event.Fail rank) = true
is_of_disk (event.Late rank number) = true
is_of_disk (event.Operator rank message) = true
is_of_disk (event.Pass dt clocks) = false
is_of_disk (event.Boot rank base) = false
is_of_disk (event.BootClean rank base) = false
is_of_disk (event.Crash rank) = false
is_of_disk (event.Done rank) = false
is_of_disk (event.View rank view) = false
is_of_disk (event.Deliver rank number) = false
is_of_disk (event.Device rank agrees) = false
is_of_disk (event.Tick rank) = false
is_of_disk (event.Stopped rank) = false
is_of_disk (event.Unstopped rank) = false
is_of_disk (event.Leave rank) = false
is_of_disk (event.Feed rank) = false

refused_by : (on : Bool) (rule : ℕ) → option_or (unless on 3) (Some rule) ≡ None → ⊥
refused_by true rule e = cc
refused_by false rule e = cc

refused_one : (s : Settings) (t : Timing) (event : Event) (d : TripleWorld) → is_of_disk event ≡ true → refusal_triple s t (triple.One event) d ≡ None → ⊥
unfolding refusal_triple
refused_one s t (event.Land rank) d e allowed = refused_by (is_on_triple s rank.0 d) 4 allowed
refused_one s t (event.Fail rank) d e allowed = refused_by (is_on_triple s rank.0 d) 5 allowed
refused_one s t (event.Late rank number) d e allowed = cc
refused_one s t (event.Operator rank message) d e allowed = cc
refused_one s t (event.Pass dt clocks) d e allowed = cc
refused_one s t (event.Boot rank base) d e allowed = cc
refused_one s t (event.BootClean rank base) d e allowed = cc
refused_one s t (event.Crash rank) d e allowed = cc
refused_one s t (event.Done rank) d e allowed = cc
refused_one s t (event.View rank view) d e allowed = cc
refused_one s t (event.Deliver rank number) d e allowed = cc
refused_one s t (event.Device rank agrees) d e allowed = cc
refused_one s t (event.Tick rank) d e allowed = cc
refused_one s t (event.Stopped rank) d e allowed = cc
refused_one s t (event.Unstopped rank) d e allowed = cc
refused_one s t (event.Leave rank) d e allowed = cc
refused_one s t (event.Feed rank) d e allowed = cc

pub never_one : (w : Whole) (event : Event) (outs : List Out) → is_of_disk event ≡ true → IsReady three_images w (triple.One event) → Stepped three_images w w (triple.One event) outs
never_one w event outs kind ready = absurd (refused_one w.settings w.timing event ready.standing.0 kind ready.allowed)

-- ---- the operation of a node is given up

-- an image is marked where the write of a rank is left over
abbrev pub AreMarks : TripleWorld → ℕ → DiskOp → List Bool → Type 0
AreMarks d i op marks = (k : ℕ) → is_image k ≡ true → is_marked marks k ≡ (is_write op && is_pending (d.parts i k))

left_all : (s : Settings) (d : TripleWorld) (i : ℕ) (op : DiskOp) (marks : List Bool) → AreMarks d i op marks → Some op ≡ op_of s i d
    → (rank k : ℕ) → is_image k ≡ true → left_over d.left i op marks rank k ≡ given_up_on s i d rank k
left_all s d i op marks are op_is rank k one = by_rank (i == rank) refl
  where
    here : d.left i k ++ (if is_marked marks k then op ∷ [] else []) ≡ d.left i k ++ leaves_over (op_of s i d) (d.parts i k)
    here =
        ap (λ b. d.left i k ++ (if b then op ∷ [] else [])) (are k one)
        ∙ (ap (λ more. d.left i k ++ more) (sym (leaves_if op (d.parts i k))) ∙ ap (λ o. d.left i k ++ leaves_over o (d.parts i k)) op_is)

    by_rank : (b : Bool) → (i == rank) ≡ b → left_over d.left i op marks rank k ≡ given_up_on s i d rank k
    by_rank true e =
        ap (λ b. (if b then (λ (n : ℕ). d.left i n ++ (if is_marked marks n then op ∷ [] else [])) else d.left rank) k) e
        ∙ (here ∙ sym (ap (λ b. (if b then (λ (n : ℕ). d.left i n ++ leaves_over (op_of s i d) (d.parts i n)) else d.left rank) k) e))
    by_rank false e =
        ap (λ b. (if b then (λ (n : ℕ). d.left i n ++ (if is_marked marks n then op ∷ [] else [])) else d.left rank) k) e
        ∙ sym (ap (λ b. (if b then (λ (n : ℕ). d.left i n ++ leaves_over (op_of s i d) (d.parts i n)) else d.left rank) k) e)

pub gives_up : (w new : Whole) (i : ℕ) (op : DiskOp) (marks : List Bool) → IsOut w i (Some op) → ((d : TripleWorld) → TripleFor w d → AreMarks d i op marks)
    → Turns three_images w new (λ d. record d { left = left_over d.left i op marks }) → GivesUp w new i
gives_up w new i op marks out are leaves =
    record {
      rest = leaves.rest;
      stands = λ d is on.
          lefts_same new (record d { left = left_over d.left i op marks }) (given_up_on w.settings i d) (leaves.stands d is)
          (left_all w.settings d i op marks (are d is) (out d is on));
    }

pub keeps_on : (w new : Whole) (i : ℕ) (op : DiskOp) (marks : List Bool) → IsOut w i (Some op) → ((d : TripleWorld) → TripleFor w d → AreMarks d i op marks)
    → new ≡ w → (k : ℕ) × (is_image k ≡ true) × (is_marked marks k ≡ true) → KeepsOn w new i
keeps_on w new i op marks out are e marked =
    record {
      same = e;
      cause = λ d is on. (
        marked.0,
        marked.1,
        subst (λ o. leaves_over o (d.parts i marked.0) ≢ []) (out d is on)
            (subst (λ ops. ops ≢ []) (sym (leaves_if op (d.parts i marked.0)))
            (not_empty op (is_write op && is_pending (d.parts i marked.0)) (sym (are d is marked.0 marked.1) ∙ marked.2))),
      );
    }

pub gives_nothing : (w : Whole) (i : ℕ) (op : Option DiskOp) → IsOut w i op → op ≡ None → GivesUp w w i
gives_nothing w i op out none =
    record {
      rest = record { nodes = refl; timing = refl };
      stands = λ d is on. lefts_same w d (given_up_on w.settings i d) is (λ rank k one. by_rank d (sym none ∙ out d is on) rank k (i == rank) refl);
    }
  where
    by_rank : (d : TripleWorld) → None ≡ op_of w.settings i d → (rank k : ℕ) (b : Bool) → (i == rank) ≡ b → d.left rank k ≡ given_up_on w.settings i d rank k
    by_rank d no_op rank k true e =
        sym (ap (λ b. (if b then (λ (n : ℕ). d.left i n ++ leaves_over (op_of w.settings i d) (d.parts i n)) else d.left rank) k) e
        ∙ (ap (λ o. d.left i k ++ leaves_over o (d.parts i k)) (sym no_op) ∙ (append-nil (d.left i k) ∙ ap (λ r. d.left r k) (eqb-true i rank e))))
    by_rank d no_op rank k false e = sym (ap (λ b. (if b then (λ (n : ℕ). d.left i n ++ leaves_over (op_of w.settings i d) (d.parts i n)) else d.left rank) k) e)

-- The step of an event that is allowed, and the worlds that events lead to: laws of any kind of world.
use Rattle.std.proofs.Common.{◌≡◌, ℕ, ◌+◌, ◌-◌, ◌^◌, ◌<◌, ◌≤◌, true, List, [], ◌∷◌, sym, ◌∙◌, ap, subst, arith}
use Rattle.std.specs.Prelude.{All, IsTrue}
use Rattle.qn_base.specs.declared.ids.Mask.{Mask}
use Rattle.qn_base.specs.declared.limits.TheConstants.{LATEST_TIME}
use Rattle.qn_base.specs.Members.{is_member}
use Rattle.qn_cluster.specs.Nodes.{Nodes}
use Rattle.qn_cluster.specs.Standing.{ClusterFor, HasRoom}
use Rattle.qn_cluster.specs.StandingLaws.{spent, spent_room, spent_stands}
use Rattle.qn_cluster.specs.Stepping.{SameFrame as SameNodes}
use Rattle.qn_cluster.specs.WorldKinds.{IsLawful, WorldKind}
use Rattle.qn_cluster.specs.WorldSteps.{Applied, HoldsOnce, IsAllowed, IsFormed, IsReached, IsReady, IsStanding, Made, OneHolder, OtherDisk, OutOfMemory, Refuses, SameFrame, Stepped, after_event, outs_of, report_of}
use Rattle.qn_model.specs.declared.outputs.Out.{Out}
use Rattle.qn_model.specs.declared.reports.Refused.TheVariants as refused
use Rattle.qn_model.specs.declared.reports.Report.{Report}
use Rattle.qn_model.specs.Moments.{Moment}
use Rattle.qn_model.specs.Steps.{holders, outs_after, report}
use Rattle.qn_node.specs.Outputs.{IsNodeOutput}

-- what is told of nodes holds of the same nodes elsewhere
pub of_same_nodes : {first second : Nodes} (Told : Nodes → List Moment → Type 0) → first ≡ second
    → ((moments : List Moment) → ClusterFor first moments → Told first moments) → (moments : List Moment) → ClusterFor second moments → Told second moments
of_same_nodes Told same told = subst (λ nodes. (moments : List Moment) → ClusterFor nodes moments → Told nodes moments) same told

module _ {Kept World Event : Type 0} (kind : WorldKind Kept World Event) where
  -- ---- frames

  pub turned : (k new : Kept) → OtherDisk kind k new → SameFrame kind k new
  turned k new rest =
      record { settings = ap (λ c. c.settings) rest.nodes; timing = rest.timing; steps = ap (λ c. c.steps) rest.nodes }

  -- the nodes changed, and not their frame
  pub framed : (k new : Kept) → kind.timing new ≡ kind.timing k → SameNodes (kind.nodes k) (kind.nodes new) → SameFrame kind k new
  framed k new timing same = record { settings = same.settings; timing = timing; steps = same.steps }

  pub both_disks : (k mid new : Kept) → OtherDisk kind k mid → OtherDisk kind mid new → OtherDisk kind k new
  both_disks k mid new first second = record { nodes = second.nodes ∙ first.nodes; timing = second.timing ∙ first.timing }

  pub same_frames : (k mid new : Kept) → SameFrame kind k mid → SameFrame kind mid new → SameFrame kind k new
  same_frames k mid new first second =
      record { settings = second.settings ∙ first.settings; timing = second.timing ∙ first.timing; steps = second.steps ∙ first.steps }

  module _ (lawful : IsLawful kind) where
    -- ---- a step is taken from those that are left

    abbrev pub one_less : Kept → Kept
    one_less k = kind.with_steps k ((kind.nodes k).steps - 1)

    less_nodes : (k : Kept) → kind.nodes (one_less k) ≡ spent (kind.nodes k)
    less_nodes k = lawful.counted k ((kind.nodes k).steps - 1)

    less_timing : (k : Kept) → kind.timing (one_less k) ≡ kind.timing k
    less_timing k = lawful.timed k ((kind.nodes k).steps - 1)

    less_stands : (k : Kept) (d : World) → kind.StandsFor k d → kind.StandsFor (one_less k) d
    less_stands k d is =
        lawful.stands k ((kind.nodes k).steps - 1) d is (spent_stands (kind.nodes k) (kind.nodes_of d).moments (lawful.cluster k d is))

    -- what is said of nodes with the settings and the time of these, and of a timing
    by_less : (k : Kept) (P : Nodes → Type 0) → P (spent (kind.nodes k)) → P (kind.nodes (one_less k))
    by_less k P p = subst P (sym (less_nodes k)) p

    less_allowed : (k : Kept) (event : Event) (d : World) → IsAllowed kind k event d → IsAllowed kind (one_less k) event d
    less_allowed k event d allowed =
        ap (λ c. kind.refusal c.settings (kind.timing (one_less k)) event d) (less_nodes k)
        ∙ (ap (λ t. kind.refusal (kind.nodes k).settings t event d) (less_timing k) ∙ allowed)

    pub spent_ready : (k mid : Kept) (event : Event) → IsFormed kind k event → (standing : IsStanding kind k) → (kind.nodes k).time ≤ LATEST_TIME
        → 0 < (kind.nodes k).steps → (kind.nodes k).steps < 2 ^ 64 → mid ≡ one_less k → IsAllowed kind k event standing.0
        → IsReady kind mid event
    spent_ready k mid event formed standing early some few e allowed =
        let stands = less_stands k standing.0 standing.1 in
        let few_less : (kind.nodes k).steps - 1 < 18446744073709551615 = omega arith in
        subst (λ m. IsReady kind m event) (sym e)
        (record {
          formed = by_less k (λ c. kind.is_well_formed c.settings event ≡ true) formed;
          standing = (standing.0, stands);
          room = by_less k HasRoom (spent_room (kind.nodes k) ((kind.nodes_of standing.0).moments, lawful.cluster k standing.0 standing.1) some);
          few = by_less k (λ c. c.steps < 18446744073709551615) few_less;
          early = by_less k (λ c. c.time ≤ LATEST_TIME) early;
          allowed = less_allowed k event standing.0 allowed;
        })

    after_less : (k : Kept) (event : Event) (d : World) → after_event kind (one_less k) event d ≡ after_event kind k event d
    after_less k event d =
        ap (λ c. kind.step c.settings (kind.timing (one_less k)) event d) (less_nodes k) ∙ ap (λ t. kind.step (kind.nodes k).settings t event d) (less_timing k)

    -- the world made the step of an event that is allowed, with one step less
    module _ (k mid new : Kept) (event : Event) (outs : List Out) (standing : IsStanding kind k) (e : mid ≡ one_less k)
        (allowed : (d : World) → kind.StandsFor k d → IsAllowed kind k event d) (stepped : Stepped kind mid new event outs) where
      stepped_less : Stepped kind (one_less k) new event outs
      stepped_less = subst (λ m. Stepped kind m new event outs) e stepped

      stands_after : (d : World) → kind.StandsFor k d → kind.StandsFor new (after_event kind k event d)
      stands_after d is = subst (kind.StandsFor new) (after_less k event d) (stepped_less.stands d (less_stands k d is) (less_allowed k event d (allowed d is)))

      gives_after : (d : World) → kind.StandsFor k d → outs ≡ outs_of kind k event (after_event kind k event d)
      gives_after d is =
          stepped_less.gives d (less_stands k d is) (less_allowed k event d (allowed d is))
          ∙ (ap (λ c. outs_after c.settings (kind.as_one event) (kind.nodes_of (after_event kind (one_less k) event d))) (less_nodes k)
          ∙ ap (outs_of kind k event) (after_less k event d))

      pub made : 0 < (kind.nodes k).steps → Made kind k new event outs
      made some =
          let count = stepped_less.frame.steps ∙ ap (λ c. c.steps) (less_nodes k) in
          record {
            settings = stepped_less.frame.settings ∙ ap (λ c. c.settings) (less_nodes k);
            timing = stepped_less.frame.timing ∙ less_timing k;
            steps = omega arith;
            stands = stands_after;
            gives = gives_after;
            ranks =
                subst (λ (c : Nodes). All (IsNodeOutput c.settings) outs) (less_nodes k)
                (stepped_less.ranks standing.0 (less_stands k standing.0 standing.1) (less_allowed k event standing.0 (allowed standing.0 standing.1)));
          }

    -- the world made the step of an event
    module _ (k new : Kept) (event : Event) (outs : List Out) (standing : IsStanding kind k) (made : Made kind k new event outs) where
      -- the event can be reported
      pub reportable : IsFormed kind k event → IsFormed kind new event × IsStanding kind new
      reportable formed =
          (subst (λ s. kind.is_well_formed s event ≡ true) (sym made.settings) formed, (after_event kind k event standing.0, made.stands standing.0 standing.1))

      pub applied : (r : Report) → ((d : World) → kind.StandsFor k d → IsAllowed kind k event d)
          → ((d : World) → kind.StandsFor new d → outs ≡ outs_of kind new event d → r ≡ report_of kind new event d)
          → Applied kind k new event r
      unfolding report
      applied r allowed says =
          let reports : (d : World) → kind.StandsFor k d → r ≡ report_of kind k event (after_event kind k event d) =
          λ d is.
          says (after_event kind k event d) (made.stands d is)
          (made.gives d is ∙ sym (ap (λ s. outs_after s (kind.as_one event) (kind.nodes_of (after_event kind k event d))) made.settings))
          ∙ ap (λ s. report s (kind.as_one event) (kind.nodes_of (after_event kind k event d))) made.settings in
          record {
            settings = made.settings;
            timing = made.timing;
            steps = made.steps;
            allowed = allowed;
            stands = made.stands;
            reports = reports;
            outs =
                subst (All (IsNodeOutput (kind.nodes k).settings))
                (made.gives standing.0 standing.1 ∙ sym (ap (λ r. r.outs) (reports standing.0 standing.1))) made.ranks;
          }

    -- a step that was applied was made
    pub made_of : (k new : Kept) (event : Event) (r : Report) → Applied kind k new event r → Made kind k new event r.outs
    unfolding report
    made_of k new event r done = record {
      settings = done.settings;
      timing = done.timing;
      steps = done.steps;
      stands = done.stands;
      gives = λ d is. ap (λ r. r.outs) (done.reports d is);
      ranks = done.outs;
    }

    pub starved : (k mid back new : Kept) (event : Event) → mid ≡ one_less k → OutOfMemory kind mid back event
        → new ≡ kind.with_steps back (kind.nodes k).steps
        → OutOfMemory kind k new event
    starved k mid back new event e out f =
        let less : OutOfMemory kind (one_less k) back event = subst (λ m. OutOfMemory kind m back event) e out in
        record {
          same = f ∙ ap (λ b. kind.with_steps b (kind.nodes k).steps) less.same ∙ lawful.restored k ((kind.nodes k).steps - 1);
          cause = λ d is allowed.
              ap (λ t. kind.needs_memory (kind.nodes k).settings t event d) (sym (less_timing k))
              ∙ (ap (λ c. kind.needs_memory c.settings (kind.timing (one_less k)) event d) (sym (less_nodes k))
              ∙ less.cause d (less_stands k d is) (less_allowed k event d allowed));
        }

    -- an event that is allowed is refused where there was no memory for it
    pub refused_starved : (k new : Kept) (event : Event) → ((d : World) → kind.StandsFor k d → IsAllowed kind k event d) → OutOfMemory kind k new event
        → Refuses kind k new event refused.NoMemory
    refused_starved k new event allowed out =
        record { same = out.same; why = allowed; memory = λ no_memory d is. out.cause d is (allowed d is) }

    -- ---- the worlds that events lead to

    module _ (k new : Kept) (event : Event) (outs : List Out) (reached : IsReached kind k) (formed : IsFormed kind k event)
        (allowed : (d : World) → kind.StandsFor k d → IsAllowed kind k event d) (made : Made kind k new event outs) where
      -- each of one more event is allowed in its turn
      allowed_more : kind.AllAllowed (kind.nodes k).settings (kind.timing k) (event ∷ reached.events)
      allowed_more =
          lawful.one_allowed (kind.nodes k).settings (kind.timing k) event reached.events formed
          (allowed (kind.run (kind.nodes k).settings (kind.timing k) reached.events) reached.stands) reached.allowed

      after_more : kind.run (kind.nodes k).settings (kind.timing k) (event ∷ reached.events)
          ≡ after_event kind k event (kind.run (kind.nodes k).settings (kind.timing k) reached.events)
      after_more = lawful.one_more (kind.nodes k).settings (kind.timing k) event reached.events

      -- the world after one more event was reached
      pub reached_more : IsReached kind new
      reached_more =
          let before : kind.AllAllowed (kind.nodes new).settings (kind.timing new) (event ∷ reached.events) =
          subst (λ s. kind.AllAllowed s (kind.timing new) (event ∷ reached.events)) (sym made.settings)
          (subst (λ t. kind.AllAllowed (kind.nodes k).settings t (event ∷ reached.events)) (sym made.timing) allowed_more) in
          let after : kind.StandsFor new (kind.run (kind.nodes k).settings (kind.timing k) (event ∷ reached.events)) =
          subst (kind.StandsFor new) (sym after_more) (made.stands (kind.run (kind.nodes k).settings (kind.timing k) reached.events) reached.stands) in
          record {
            events = event ∷ reached.events;
            allowed = before;
            stands =
                subst (λ s. kind.StandsFor new (kind.run s (kind.timing new) (event ∷ reached.events))) (sym made.settings)
                (subst (λ t. kind.StandsFor new (kind.run (kind.nodes k).settings t (event ∷ reached.events))) (sym made.timing) after);
          }

    module _ (k new : Kept) (event : Event) (r : Report) (reached : IsReached kind k) (formed : IsFormed kind k event) (done : Applied kind k new event r) where
      -- the world after one more event was reached
      pub reached_applied : IsReached kind new
      reached_applied = reached_more k new event r.outs reached formed done.allowed (made_of k new event r done)

      -- one holder at most is reported
      pub one_holder : HoldsOnce kind → OneHolder r
      unfolding report
      one_holder once i j first second =
          let made = made_of k new event r done in
          let more = after_more k new event r.outs reached formed done.allowed made in
          let d = kind.run (kind.nodes k).settings (kind.timing k) reached.events in
          let same : r.holders ≡ holders (kind.nodes k).settings (kind.nodes_of (kind.run (kind.nodes k).settings (kind.timing k) (event ∷ reached.events))) =
          ap (λ r. r.holders) (done.reports d reached.stands) ∙ ap (λ after. holders (kind.nodes k).settings (kind.nodes_of after)) (sym more) in
          once (kind.nodes k).settings (kind.timing k) (event ∷ reached.events) i j (lawful.safe k d reached.stands)
          (allowed_more k new event r.outs reached formed done.allowed made)
          (subst (λ mask. IsTrue (is_member mask i)) same first) (subst (λ mask. IsTrue (is_member mask j)) same second)

    -- one node at most holds in a world that was reached
    pub one_holds : HoldsOnce kind → (k : Kept) (reached : IsReached kind k) (mask : Mask)
        → ((d : World) → kind.StandsFor k d → mask ≡ holders (kind.nodes k).settings (kind.nodes_of d))
        → (i j : ℕ) → IsTrue (is_member mask i) → IsTrue (is_member mask j) → i ≡ j
    one_holds once k reached mask exact i j first second =
        let d = kind.run (kind.nodes k).settings (kind.timing k) reached.events in
        once (kind.nodes k).settings (kind.timing k) reached.events i j (lawful.safe k d reached.stands) reached.allowed
        (subst (λ mask. IsTrue (is_member mask i)) (exact d reached.stands) first) (subst (λ mask. IsTrue (is_member mask j)) (exact d reached.stands) second)

    -- no event led to a world that stands for the first one
    pub none_reached : (k : Kept) → kind.StandsFor k kind.first → IsReached kind k
    none_reached k is =
        record {
          events = [];
          allowed = lawful.none_allowed (kind.nodes k).settings (kind.timing k);
          stands = subst (kind.StandsFor k) (sym (lawful.begins (kind.nodes k).settings (kind.timing k))) is;
        }

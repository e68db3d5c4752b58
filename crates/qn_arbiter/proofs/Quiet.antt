-- What a world stands for after an event that the nodes do not meet.
use Rattle.std.proofs.Common.{◌≡◌, ℕ, suc, zero, Bool, false, ◌+◌, ◌≤◌, ◌<◌, true, List, [], ◌∷◌, ◌++◌, Option, None, Some, length, refl, sym, ◌∙◌, ap, ap₂, subst, arith, ◌⊎◌, inl, inr, length-append, ◌||◌}
use Rattle.std.specs.Prelude.{All, is_some, slice_get}
use Rattle.std.proofs.lemmas.Bool.{false≢true, ltb-true, leb-true}
use Rattle.std.specs.Option.{option_map, option_map_or}
use Rattle.std.proofs.lemmas.List.Elements.{All-nil}
use Rattle.qn_base.specs.declared.ids.Rank.{Rank}
use Rattle.qn_safety.specs.declared.arbiter_event.ArbiterEvent.{ArbiterEvent}
use Rattle.qn_safety.specs.declared.arbiter_event.ArbiterEvent.TheVariants as beside
use Rattle.qn_safety.specs.declared.polls.Poll.{Poll}
use Rattle.qn_safety.specs.declared.polls.Reply.{Reply}
use Rattle.qn_safety.specs.declared.arbiter_reports.ArbiterReport.{ArbiterReport}
use Rattle.qn_safety.specs.declared.arbiter_reports.Said.{Said}
use Rattle.qn_safety.specs.declared.arbiter_reports.Said.TheVariants.{Nothing, Polled, Answered}
use Rattle.qn_safety.specs.ArbiterRules.{is_well_formed_beside, refusal_beside}
use Rattle.qn_safety.specs.ArbiterSteps.{booted_arbiter, hearing, played, poll_sent, polling, quiet_report, reply_sent, report_beside, said_at, step_beside}
use Rattle.qn_safety.specs.ArbiterWorld.{Arbiter, ArbiterWorld, poll_at, standing_at}
use Rattle.qn_safety.specs.Poller.{Standing, next_poll, with_sent}
use Rattle.qn_model.specs.declared.configuration.Settings.{Settings}
use Rattle.qn_model.specs.declared.reports.Refused.{Refused}
use Rattle.qn_model.specs.declared.reports.Refused.TheVariants as refused
use Rattle.qn_model.specs.Moments.{time}
use Rattle.qn_model.specs.Steps.{report}
use Rattle.qn_model.specs.lemmas.Rules.{both_allowed, allowed as passed}
use Rattle.qn_node.specs.Outputs.{IsNodeOutput}
use Rattle.qn_world.specs.Memory.{needs_memory as nodes_need_memory}
use Rattle.qn_arbiter.specs.declared.running.RunningArbiter.{RunningArbiter}
use Rattle.qn_arbiter.specs.Memory.{needs_memory}
use Rattle.qn_arbiter.specs.OwnRules.{own_refusal}
use Rattle.qn_arbiter.specs.Standing.{IsEarly, IsStanding, KeptFor, RunsFor}
use Rattle.qn_arbiter.specs.Stepping.{IsReady, OneHolder, Polls, RefusedBy, Refuses, Replies, SameFrame, Stepped, heard_at, heard_by}
use Rattle.qn_arbiter.specs.Whole.{Kept}
use Rattle.qn_arbiter.proofs.Following.{put_holds}
use Rattle.qn_arbiter.proofs.Refusals.{nodes_decide}
use Rattle.qn_arbiter.proofs.StepForms.{HeardAt, after_boot, after_crash, after_hear, after_poll, heard_there}

-- the nodes meet nothing at an event, which no rule refuses
pub record IsQuiet (k : Kept) (event : ArbiterEvent) (node : Option Rank) (said : Said) (d : ArbiterWorld) : Type 0 where
  pub plays : played k.world.settings event d ≡ None
  pub polls : polling event ≡ node
  pub says : said_at k.world.settings event d ≡ said
  pub rules : refusal_beside k.world.settings k.world.timing event d ≡ None

-- what was reported of such an event
pub record QuietReport (new : Kept) (node : Option Rank) (said : Said) (r : ArbiterReport) : Type 0 where
  pub sent : r.said ≡ said
  pub outs : r.report.outs ≡ []
  pub exact : (d : ArbiterWorld) → KeptFor new d → r.report ≡ quiet_report new.world.settings node d.world
  pub one_holder : OneHolder r

module _ (k new : Kept) (event : ArbiterEvent) (node : Option Rank) (said : Said) (r : ArbiterReport) (frame : SameFrame k new)
    (stands : (d : ArbiterWorld) → KeptFor k d → KeptFor new (step_beside k.world.settings k.world.timing k.lease event d))
    (quiet : (d : ArbiterWorld) → KeptFor k d → IsQuiet k event node said d) (says : QuietReport new node said r) where
  exact_quiet : (d : ArbiterWorld) → KeptFor k d → r ≡ report_beside k.world.settings event d (step_beside k.world.settings k.world.timing k.lease event d)
  unfolding report_beside
  exact_quiet d is =
      let s = k.world.settings in
      let after = step_beside s k.world.timing k.lease event d in
      let q = quiet d is in
      ap₂ (λ report said. record { report = report; said = said })
      (says.exact after (stands d is) ∙ (ap (λ s. quiet_report s node after.world) frame.settings ∙ (ap (λ o. quiet_report s o after.world) (sym q.polls)
      ∙ ap (λ o. option_map_or (λ one. report s one after.world) o (quiet_report s (polling event) after.world)) (sym q.plays))))
      (says.sent ∙ sym q.says)

  pub stepped_quiet : Stepped k new event r
  stepped_quiet =
      record {
        frame = frame;
        allowed = λ d is. (quiet d is).rules;
        stands = stands;
        reports = record {
          exact = exact_quiet;
          outs = subst (All (IsNodeOutput k.world.settings)) (sym says.outs) (All-nil (IsNodeOutput k.world.settings));
          one_holder = says.one_holder;
        };
      }

-- an event that the nodes do not meet was refused: there is no memory for what it sends
pub starved_quiet : (k new : Kept) (event : ArbiterEvent) (answer : Refused) → new ≡ k → answer ≡ refused.NoMemory
    → ((d : ArbiterWorld) → KeptFor k d → refusal_beside k.world.settings k.world.timing event d ≡ None)
    → ((d : ArbiterWorld) → KeptFor k d → needs_memory k.world.settings k.world.timing event d ≡ true) → Refuses k new event answer
starved_quiet k new event answer same none allowed wants =
    record {
      same = same;
      why = λ d is. subst (λ a. RefusedBy (refusal_beside k.world.settings k.world.timing event d) a) (sym none) (allowed d is);
      memory = λ kind d is. wants d is;
    }

-- ---- the arbiter boots, or is off

pub boot_frame : (k : Kept) (running : Option RunningArbiter) → SameFrame k (record k { arbiter = running })
boot_frame k running = record { settings = refl; timing = refl; lease = refl; steps = refl; met = omega arith }

base_early : (k : Kept) (base : ℕ) → IsReady k (beside.ArbiterBoot base) → base ≤ 1000000000000000
unfolding is_well_formed_beside
base_early k base ready = leb-true base 1000000000000000 ready.formed

pub boot_stands : (k : Kept) (base : ℕ) (running : RunningArbiter) → IsReady k (beside.ArbiterBoot base) → RunsFor running (booted_arbiter k.lease.lease base)
    → (d : ArbiterWorld) → KeptFor k d → KeptFor (record k { arbiter = Some running }) (step_beside k.world.settings k.world.timing k.lease (beside.ArbiterBoot base) d)
boot_stands k base running ready runs d is =
    subst (KeptFor (record k { arbiter = Some running })) (sym (after_boot k.world.settings k.world.timing k.lease d base))
    (record {
      world = is.world;
      arbiter = runs;
      early = (let early = base_early k base ready in omega arith);
      pollers = is.pollers;
      counts = is.counts;
      polls = is.polls;
      replies = is.replies;
      senders = is.senders;
      receivers = is.receivers;
    })

pub crash_stands : (k : Kept) (d : ArbiterWorld) → KeptFor k d
    → KeptFor (record k { arbiter = None }) (step_beside k.world.settings k.world.timing k.lease beside.ArbiterCrash d)
crash_stands k d is =
    subst (KeptFor (record k { arbiter = None })) (sym (after_crash k.world.settings k.world.timing k.lease d))
    (record {
      world = is.world;
      arbiter = tt;
      early = tt;
      pollers = is.pollers;
      counts = is.counts;
      polls = is.polls;
      replies = is.replies;
      senders = is.senders;
      receivers = is.receivers;
    })

boot_quiet : (k : Kept) (base : ℕ) → IsReady k (beside.ArbiterBoot base) → (d : ArbiterWorld) → KeptFor k d → IsQuiet k (beside.ArbiterBoot base) None Nothing d
unfolding played said_at
boot_quiet k base ready d is =
    record { plays = refl; polls = refl; says = refl; rules = nodes_decide k.world.settings k.world.timing (beside.ArbiterBoot base) d (ready.allowed d is) }

pub boot_made : (k : Kept) (base : ℕ) (running : RunningArbiter) (r : ArbiterReport) → IsReady k (beside.ArbiterBoot base)
    → RunsFor running (booted_arbiter k.lease.lease base) → QuietReport (record k { arbiter = Some running }) None Nothing r
    → Stepped k (record k { arbiter = Some running }) (beside.ArbiterBoot base) r
boot_made k base running r ready runs says =
    stepped_quiet k (record k { arbiter = Some running }) (beside.ArbiterBoot base) None Nothing r (boot_frame k (Some running))
    (boot_stands k base running ready runs) (boot_quiet k base ready) says

pub boot_standing : (k : Kept) (base : ℕ) (running : RunningArbiter) → IsReady k (beside.ArbiterBoot base) → RunsFor running (booted_arbiter k.lease.lease base)
    → IsStanding (record k { arbiter = Some running })
boot_standing k base running ready runs = (_, boot_stands k base running ready runs ready.standing.0 ready.standing.1)

crash_quiet : (k : Kept) → IsReady k beside.ArbiterCrash → (d : ArbiterWorld) → KeptFor k d → IsQuiet k beside.ArbiterCrash None Nothing d
unfolding played said_at
crash_quiet k ready d is =
    record { plays = refl; polls = refl; says = refl; rules = nodes_decide k.world.settings k.world.timing beside.ArbiterCrash d (ready.allowed d is) }

pub crash_made : (k : Kept) (r : ArbiterReport) → IsReady k beside.ArbiterCrash → QuietReport (record k { arbiter = None }) None Nothing r
    → Stepped k (record k { arbiter = None }) beside.ArbiterCrash r
crash_made k r ready says =
    stepped_quiet k (record k { arbiter = None }) beside.ArbiterCrash None Nothing r (boot_frame k None) (crash_stands k) (crash_quiet k ready) says

pub crash_standing : (k : Kept) → IsReady k beside.ArbiterCrash → IsStanding (record k { arbiter = None })
crash_standing k ready = (_, crash_stands k ready.standing.0 ready.standing.1)

-- ---- a node polls

-- an item of a list with one item more is of the list, or that item
added : {A : Type 0} (items : List A) (more : A) (place : ℕ) (x : A) → slice_get (items ++ more ∷ []) place ≡ Some x
    → (slice_get items place ≡ Some x) ⊎ (more ≡ x)
added [] more zero x e = inr (cc)
added [] more (suc place) x e = absurd (cc)
added (item ∷ items) more zero x e = inl e
added (item ∷ items) more (suc place) x e = added items more place x e

-- what holds of all items, and of one more, holds of all
pub all_added : {A : Type 0} (P : A → Type 0) (items : List A) (more : A) → ((place : ℕ) (x : A) → slice_get items place ≡ Some x → P x) → P more
    → (place : ℕ) (x : A) → slice_get (items ++ more ∷ []) place ≡ Some x → P x
all_added P items more each here place x there = by_place (added items more place x there)
  where
    by_place : (slice_get items place ≡ Some x) ⊎ (more ≡ x) → P x
    by_place (inl was) = each place x was
    by_place (inr same) = subst P same here

pub polls_frame : (k new : Kept) (rank : Rank) (at : Standing) → Polls k new rank at → SameFrame k new
polls_frame k new rank at sent =
    record {
      settings = ap (λ k. k.world.settings) sent.others;
      timing = ap (λ k. k.world.timing) sent.others;
      lease = ap (λ k. k.lease) sent.others;
      steps = ap (λ k. k.steps) sent.others;
      met = (let same = ap (λ k. k.world.steps) sent.others in omega arith);
    }

pub poll_stands : (k new : Kept) (rank : Rank) (at : Standing) → rank.0 < length k.world.settings.nodes → Polls k new rank at
    → (d : ArbiterWorld) → KeptFor k d → standing_at k.world.settings rank.0 d ≡ Some at
    → KeptFor new (step_beside k.world.settings k.world.timing k.lease (beside.Poll rank) d)
poll_stands k new rank at configured sent d is stands =
    let poll = next_poll rank at (d.pollers rank.0) in
    let one_more : length (d.polls ++ poll ∷ []) ≡ length d.polls + 1 = length-append d.polls (poll ∷ []) in
    subst (λ new. KeptFor new (step_beside k.world.settings k.world.timing k.lease (beside.Poll rank) d)) (sym sent.others)
    (subst (KeptFor (record k { polls = new.polls; pollers = new.pollers })) (sym (after_poll k.world.settings k.world.timing k.lease d rank at stands))
    (record {
      world = is.world;
      arbiter = is.arbiter;
      early = is.early;
      pollers = sent.pollers d is;
      counts =
          put_holds (λ p. p.count ≤ length (d.polls ++ poll ∷ [])) d.pollers rank.0 (with_sent rank at (d.pollers rank.0))
          (let most = is.counts rank.0 in omega arith) (λ other. let most = is.counts other in omega arith);
      polls = sent.polls d is;
      replies = is.replies;
      senders = all_added (λ (p : Poll). p.from.0 < length k.world.settings.nodes) d.polls poll is.senders configured;
      receivers = is.receivers;
    }))

-- the node of a rank stands so, whatever it stands for
abbrev pub StandsAt : Kept → Rank → Standing → Type 0
StandsAt k rank at = (d : ArbiterWorld) → KeptFor k d → standing_at k.world.settings rank.0 d ≡ Some at

poll_quiet : (k : Kept) (rank : Rank) → IsReady k (beside.Poll rank) → (d : ArbiterWorld) → KeptFor k d
    → IsQuiet k (beside.Poll rank) (Some rank) (Polled (length k.polls)) d
unfolding played said_at
poll_quiet k rank ready d is =
    record {
      plays = refl;
      polls = refl;
      says = ap (λ polls. Polled (length polls)) (sym is.polls);
      rules = nodes_decide k.world.settings k.world.timing (beside.Poll rank) d (ready.allowed d is);
    }

pub poll_made : (k new : Kept) (rank : Rank) (at : Standing) (r : ArbiterReport) → IsReady k (beside.Poll rank) → rank.0 < length k.world.settings.nodes
    → Polls k new rank at → StandsAt k rank at → QuietReport new (Some rank) (Polled (length k.polls)) r → Stepped k new (beside.Poll rank) r
poll_made k new rank at r ready configured sent stands says =
    stepped_quiet k new (beside.Poll rank) (Some rank) (Polled (length k.polls)) r (polls_frame k new rank at sent)
    (λ d is. poll_stands k new rank at configured sent d is (stands d is)) (poll_quiet k rank ready) says

pub poll_standing : (k new : Kept) (rank : Rank) (at : Standing) → IsStanding k → rank.0 < length k.world.settings.nodes → Polls k new rank at → StandsAt k rank at
    → IsStanding new
poll_standing k new rank at standing configured sent stands =
    (_, poll_stands k new rank at configured sent standing.0 standing.1 (stands standing.0 standing.1))

pub poll_starved : (k new : Kept) (rank : Rank) (at : Standing) (answer : Refused) → IsReady k (beside.Poll rank) → StandsAt k rank at → new ≡ k
    → answer ≡ refused.NoMemory → Refuses k new (beside.Poll rank) answer
unfolding poll_sent
poll_starved k new rank at answer ready stands same none =
    starved_quiet k new (beside.Poll rank) answer same none (λ d is. (poll_quiet k rank ready d is).rules)
    (λ d is. ap (λ o. is_some (option_map (λ at. next_poll rank at (d.pollers rank.0)) o) || is_some (reply_sent (beside.Poll rank) d)
    || option_map_or (λ one. nodes_need_memory k.world.settings k.world.timing one d.world) (played k.world.settings (beside.Poll rank) d) false) (stands d is))

-- a node that polls stands in some way
pub poll_stands_so : (k : Kept) (rank : Rank) → IsReady k (beside.Poll rank) → ((d : ArbiterWorld) → KeptFor k d → standing_at k.world.settings rank.0 d ≡ None) → ⊥
unfolding own_refusal
poll_stands_so k rank ready none =
    let d = ready.standing.0 in
    let is = ready.standing.1 in
    absurd (false≢true (sym (ap (λ o. is_some o) (none d is)) ∙ passed (is_some (standing_at k.world.settings rank.0 d)) 13 (ready.allowed d is)))

pub poll_rank : (s : Settings) (rank : Rank) → is_well_formed_beside s (beside.Poll rank) ≡ true → rank.0 < length s.nodes
unfolding is_well_formed_beside
poll_rank s rank formed = ltb-true rank.0 (length s.nodes) formed

pub poll_few : (k : Kept) (rank : Rank) → IsStanding k → is_well_formed_beside k.world.settings (beside.Poll rank) ≡ true → rank.0 < 32
poll_few k rank standing formed =
    let most = standing.1.world.cluster.valid.few_nodes in
    let below = poll_rank k.world.settings rank formed in
    omega arith

-- ---- the arbiter hears a poll

pub replies_frame : (k new : Kept) (poll : Poll) (reply : Reply) → Replies k new poll reply → SameFrame k new
replies_frame k new poll reply sent =
    record {
      settings = ap (λ k. k.world.settings) sent.others;
      timing = ap (λ k. k.world.timing) sent.others;
      lease = ap (λ k. k.lease) sent.others;
      steps = ap (λ k. k.steps) sent.others;
      met = (let same = ap (λ k. k.world.steps) sent.others in omega arith);
    }

early_hearing : (a : Option Arbiter) (poll : Poll) (now : ℕ) → IsEarly a now → IsEarly (option_map (hearing poll) a) now
early_hearing None poll now early = tt
early_hearing (Some arbiter) poll now early = early

pub hear_stands : (k new : Kept) (number : ℕ) (poll : Poll) (reply : Reply) → Replies k new poll reply
    → (d : ArbiterWorld) → KeptFor k d → HeardAt number d poll reply
    → KeptFor new (step_beside k.world.settings k.world.timing k.lease (beside.Hear number) d)
hear_stands k new number poll reply sent d is heard =
    let configured = subst (λ r. r.0 < length k.world.settings.nodes) (sym heard.to) (is.senders number poll heard.there) in
    subst (λ new. KeptFor new (step_beside k.world.settings k.world.timing k.lease (beside.Hear number) d)) (sym sent.others)
    (subst (KeptFor (record k { replies = new.replies; arbiter = new.arbiter })) (sym (after_hear k.world.settings k.world.timing k.lease d number poll reply heard))
    (record {
      world = is.world;
      arbiter = sent.arbiter d is;
      early = early_hearing d.arbiter poll (time d.world.moments) is.early;
      pollers = is.pollers;
      counts = is.counts;
      polls = is.polls;
      replies = sent.replies ∙ ap (λ replies. replies ++ reply ∷ []) is.replies;
      senders = is.senders;
      receivers = all_added (λ (r : Reply). r.to.0 < length k.world.settings.nodes) d.replies reply is.receivers configured;
    }))

-- the arbiter hears this poll, and this is its reply, whatever it stands for
abbrev pub HearsAt : Kept → ℕ → Poll → Reply → Type 0
HearsAt k number poll reply = (d : ArbiterWorld) → KeptFor k d → heard_at number d ≡ Some (poll, reply)

hear_quiet : (k : Kept) (number : ℕ) (poll : Poll) (reply : Reply) → IsReady k (beside.Hear number) → HearsAt k number poll reply → (d : ArbiterWorld) → KeptFor k d
    → IsQuiet k (beside.Hear number) None (Answered (length k.replies) reply.agrees) d
unfolding played said_at
hear_quiet k number poll reply ready hears d is =
    record {
      plays = refl;
      polls = refl;
      says =
          ap (λ o. option_map_or (λ reply. Answered (length d.replies) reply.agrees) o Nothing) (heard_there number d poll reply (hears d is)).sent
          ∙ ap (λ replies. Answered (length replies) reply.agrees) (sym is.replies);
      rules = nodes_decide k.world.settings k.world.timing (beside.Hear number) d (ready.allowed d is);
    }

pub hear_made : (k new : Kept) (number : ℕ) (poll : Poll) (reply : Reply) (r : ArbiterReport) → IsReady k (beside.Hear number) → HearsAt k number poll reply
    → Replies k new poll reply → QuietReport new None (Answered (length k.replies) reply.agrees) r → Stepped k new (beside.Hear number) r
hear_made k new number poll reply r ready hears sent says =
    stepped_quiet k new (beside.Hear number) None (Answered (length k.replies) reply.agrees) r (replies_frame k new poll reply sent)
    (λ d is. hear_stands k new number poll reply sent d is (heard_there number d poll reply (hears d is))) (hear_quiet k number poll reply ready hears) says

pub hear_standing : (k new : Kept) (number : ℕ) (poll : Poll) (reply : Reply) → IsStanding k → HearsAt k number poll reply → Replies k new poll reply → IsStanding new
hear_standing k new number poll reply standing hears sent =
    (_, hear_stands k new number poll reply sent standing.0 standing.1 (heard_there number standing.0 poll reply (hears standing.0 standing.1)))

second_of : (a b c : Bool) → b ≡ true → (a || b || c) ≡ true
second_of true b c e = refl
second_of false true c e = refl
second_of false false c e = absurd (false≢true e)

pub hear_starved : (k new : Kept) (number : ℕ) (poll : Poll) (reply : Reply) (answer : Refused) → IsReady k (beside.Hear number) → HearsAt k number poll reply
    → new ≡ k → answer ≡ refused.NoMemory → Refuses k new (beside.Hear number) answer
hear_starved k new number poll reply answer ready hears same none =
    starved_quiet k new (beside.Hear number) answer same none (λ d is. (hear_quiet k number poll reply ready hears d is).rules)
    (λ d is. second_of (is_some (poll_sent k.world.settings (beside.Hear number) d)) (is_some (reply_sent (beside.Hear number) d)) _
    (ap (λ o. is_some o) (heard_there number d poll reply (hears d is)).sent))

-- the poll that is heard is of a rank below 32
pub hear_few : (k : Kept) (number : ℕ) (poll : Poll) (reply : Reply) → IsStanding k → HearsAt k number poll reply → poll.from.0 < 32
hear_few k number poll reply standing hears =
    let is = standing.1 in
    let below = is.senders number poll (heard_there number standing.0 poll reply (hears standing.0 is)).there in
    let most = is.world.cluster.valid.few_nodes in
    omega arith

-- the arbiter hears some poll
pub hears_some : (k : Kept) (number : ℕ) → IsReady k (beside.Hear number) → ((d : ArbiterWorld) → KeptFor k d → heard_at number d ≡ None) → ⊥
unfolding own_refusal
hears_some k number ready none = by_both (poll_at number d) d.arbiter both.1 both.0 (none d is)
  where
    d : ArbiterWorld
    d = ready.standing.0

    is : KeptFor k d
    is = ready.standing.1

    both : (is_some d.arbiter ≡ true) × (is_some (poll_at number d) ≡ true)
    both = both_allowed (is_some d.arbiter) (is_some (poll_at number d)) 12 14 (ready.allowed d is)

    by_both : (p : Option Poll) (a : Option Arbiter) → is_some p ≡ true → is_some a ≡ true → option_map_or (λ poll. option_map (heard_by poll) a) p None ≡ None → ⊥
    by_both None a there on e = absurd (false≢true there)
    by_both (Some poll) None there on e = absurd (false≢true on)
    by_both (Some poll) (Some arbiter) there on e = absurd (cc)

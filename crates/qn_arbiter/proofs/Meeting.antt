-- What a world stands for after an event that the nodes met, or would not meet.
use Rattle.std.proofs.Common.{◌≡◌, ℕ, ◌+◌, ◌≤◌, Bool, true, false, List, Option, None, Some, length, refl, ◌||◌, sym, ◌∙◌, ap, ap₂, subst, arith}
use Rattle.std.specs.Prelude.{All, is_some}
use Rattle.std.specs.Option.{option_map_or}
use Rattle.qn_safety.specs.declared.arbiter_event.ArbiterEvent.{ArbiterEvent}
use Rattle.qn_safety.specs.declared.arbiter_reports.Said.TheVariants.{Nothing}
use Rattle.qn_safety.specs.ArbiterRules.{refusal_beside}
use Rattle.qn_safety.specs.ArbiterSteps.{played, poll_sent, polling, quiet_report, reply_sent, report_beside, said_at, step_beside}
use Rattle.qn_safety.specs.ArbiterWorld.{Arbiter, ArbiterWorld}
use Rattle.qn_safety.specs.Poller.{Poller}
use Rattle.qn_model.specs.declared.events.Event.{Event}
use Rattle.qn_model.specs.declared.reports.Refused.{Refused}
use Rattle.qn_model.specs.declared.reports.Refused.TheVariants as refused
use Rattle.qn_model.specs.declared.reports.Report.{Report}
use Rattle.qn_model.specs.Moments.{time}
use Rattle.qn_model.specs.Rules.{refusal}
use Rattle.qn_model.specs.Steps.{report, step}
use Rattle.qn_model.specs.World.{World}
use Rattle.qn_node.specs.Outputs.{IsNodeOutput}
use Rattle.qn_base.specs.Members.{is_member}
use Rattle.std.specs.Prelude.{IsTrue}
use Rattle.qn_world.specs.Memory.{needs_memory as nodes_need_memory}
use Rattle.qn_world.specs.Standing.{WorldFor}
use Rattle.qn_world.specs.Whole.{Whole}
use Rattle.qn_arbiter.specs.declared.running.RunningArbiter.{RunningArbiter}
use Rattle.qn_arbiter.specs.Standing.{AreAnswers, AreSent, IsEarly, KeptFor, PollersFor, RunsOrOff}
use Rattle.qn_arbiter.specs.Stepping.{RefusedBy, Refuses, Stepped}
use Rattle.qn_arbiter.specs.Whole.{Kept}

-- the nodes met an event, and reported it
pub record NodesMet (old new : Whole) (one : Event) (r : Report) : Type 0 where
  pub stands : (d : World) → WorldFor old d → WorldFor new (step old.settings old.timing one d)
  pub exact : (d : World) → WorldFor old d → r ≡ report old.settings one (step old.settings old.timing one d)
  pub outs : All (IsNodeOutput old.settings) r.outs
  pub one_holder : (i j : ℕ) → IsTrue (is_member r.holders i) → IsTrue (is_member r.holders j) → i ≡ j
  pub allowed : (d : World) → WorldFor old d → refusal old.settings old.timing one d ≡ None
  pub steps : new.steps + 1 ≡ old.steps
  pub settings : new.settings ≡ old.settings
  pub timing : new.timing ≡ old.timing

-- the nodes would not meet an event
pub record NodesRefuse (old new : Whole) (one : Event) (answer : Refused) : Type 0 where
  pub same : new ≡ old
  pub why : (d : World) → WorldFor old d → RefusedBy (refusal old.settings old.timing one d) answer
  pub memory : answer ≡ refused.NoMemory → (d : World) → WorldFor old d → nodes_need_memory old.settings old.timing one d ≡ true

-- an event is one of the nodes, and the rules of the nodes decide
pub record IsOfNodes (k : Kept) (event : ArbiterEvent) (one : Event) (d : ArbiterWorld) : Type 0 where
  pub plays : played k.world.settings event d ≡ Some one
  pub rules : refusal_beside k.world.settings k.world.timing event d ≡ refusal k.world.settings k.world.timing one d.world
  pub quiet : said_at k.world.settings event d ≡ Nothing

-- the arbiter and the pollers after an event of the nodes
pub record Follows (k : Kept) (event : ArbiterEvent) (one : Event) (running : Option RunningArbiter) (all : List Poller) (d : ArbiterWorld) : Type 0 where
  pub arbiter : Option Arbiter
  pub pollers : ℕ → Poller
  pub after : step_beside k.world.settings k.world.timing k.lease event d
      ≡ record d { world = step k.world.settings k.world.timing one d.world; arbiter = arbiter; pollers = pollers }
  pub runs : RunsOrOff running arbiter
  pub early : IsEarly arbiter (time (step k.world.settings k.world.timing one d.world).moments)
  pub stands : PollersFor all pollers
  pub counts : (rank : ℕ) → (pollers rank).count ≤ length d.polls

third_true : (a b c : Bool) → c ≡ true → (a || b || c) ≡ true
third_true true b c e = refl
third_true false true c e = refl
third_true false false c e = e

module _ (k : Kept) (event : ArbiterEvent) (one : Event) (new : Whole) (is_one : (d : ArbiterWorld) → KeptFor k d → IsOfNodes k event one d) where
  pub refused_by_nodes : (answer : Refused) → NodesRefuse k.world new one answer → Refuses k (record k { world = new }) event answer
  refused_by_nodes answer not_met =
      record {
        same = ap (λ (w : Whole). record k { world = w }) not_met.same;
        why = λ d is. subst (λ o. RefusedBy o answer) (sym (is_one d is).rules) (not_met.why d.world is.world);
        memory = λ none d is.
            third_true (is_some (poll_sent k.world.settings event d)) (is_some (reply_sent event d)) _
            (ap (λ o. option_map_or (λ one. nodes_need_memory k.world.settings k.world.timing one d.world) o false) (is_one d is).plays
            ∙ not_met.memory none d.world is.world);
      }

  module _ (running : Option RunningArbiter) (all : List Poller) (r : Report) (met : NodesMet k.world new one r)
      (follows : (d : ArbiterWorld) → KeptFor k d → Follows k event one running all d) where
    abbrev pub after_met : Kept
    after_met = record k { world = new; arbiter = running; pollers = all }

    stands_met : (d : ArbiterWorld) → KeptFor k d → KeptFor after_met (step_beside k.world.settings k.world.timing k.lease event d)
    stands_met d is =
        let f = follows d is in
        subst (KeptFor after_met) (sym f.after)
        (record {
          world = met.stands d.world is.world;
          arbiter = f.runs;
          early = f.early;
          pollers = f.stands;
          counts = f.counts;
          polls = is.polls;
          replies = is.replies;
          senders = subst (λ s. AreSent s d.polls) (sym met.settings) is.senders;
          receivers = subst (λ s. AreAnswers s d.replies) (sym met.settings) is.receivers;
        })

    exact_met : (d : ArbiterWorld) → KeptFor k d
        → record { report = r; said = Nothing } ≡ report_beside k.world.settings event d (step_beside k.world.settings k.world.timing k.lease event d)
    unfolding report_beside
    exact_met d is =
        let s = k.world.settings in
        let after = step_beside s k.world.timing k.lease event d in
        ap₂ (λ r said. record { report = r; said = said })
        (met.exact d.world is.world ∙ (ap (λ (d : ArbiterWorld). report s one d.world) (sym (follows d is).after)
        ∙ ap (λ o. option_map_or (λ one. report s one after.world) o (quiet_report s (polling event) after.world)) (sym (is_one d is).plays)))
        (sym (is_one d is).quiet)

    pub stepped_met : Stepped k after_met event (record { report = r; said = Nothing })
    stepped_met =
        record {
          frame = record { settings = met.settings; timing = met.timing; lease = refl; steps = refl; met = (let e = met.steps in omega arith) };
          allowed = λ d is. (is_one d is).rules ∙ met.allowed d.world is.world;
          stands = stands_met;
          reports = record { exact = exact_met; outs = met.outs; one_holder = met.one_holder };
        }

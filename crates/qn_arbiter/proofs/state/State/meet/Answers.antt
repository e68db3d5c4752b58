use Rattle.std.proofs.Common.{◌≡◌, ◌*◌, ◌≤◌, ℕ, Option, ap, subst, sym, true, arith, refl, ◌∙◌}
use Rattle.std.specs.Prelude.{Err, unwrap_or}
use Rattle.std.specs.Option.{option_map}
use Rattle.std.proofs.lemmas.Result.{err_from_is_err_and}
use Rattle.qn_safety.specs.declared.arbiter_event.ArbiterEvent.TheVariants as beside
use Rattle.qn_safety.specs.declared.arbiter_reports.Said.TheVariants.{Nothing}
use Rattle.qn_safety.specs.ArbiterSteps.{advanced_arbiter, pollers_with}
use Rattle.qn_safety.specs.ArbiterWorld.{Arbiter}
use Rattle.qn_safety.specs.Poller.{Poller}
use Rattle.qn_model.specs.Rules.{is_well_formed}
use Rattle.qn_arbiter.specs.Standing.{HasRoomFor, PollersFor, RunsOrOff}
use Rattle.qn_arbiter.specs.Stepping.{Refuses, Stepped}
use Rattle.qn_arbiter.specs.Whole.{Kept}
use Rattle.qn_arbiter.proofs.Clocks.{short_pass}
use Rattle.qn_arbiter.proofs.Following.{one_follows, one_formed, one_of_nodes, standing_room, standing_valid}
use Rattle.qn_arbiter.proofs.Meeting.{NodesMet, NodesRefuse, refused_by_nodes, stepped_met}
use Rattle.qn_arbiter.proofs.RuleTests.{rank_within}
use Rattle.qn_arbiter.proofs.state.State.meet.Goals as goal

pub apply_into-requires-clause-formed : goal.apply_into-requires-clause-formed
apply_into-requires-clause-formed c =
    subst (λ k. is_well_formed k.world.settings c.args.one.now ≡ true) (sym c.self.view_is) (one_formed c.args.self.now.world.settings c.args.one.now c.requires.formed)

pub returns-in_err-apply_into-clause-err : goal.returns-in_err-apply_into-clause-err
returns-in_err-apply_into-clause-err c =
    let exit = err_from_is_err_and c.from_residual.result c.from_residual.ensures.1 in
    let k = c.args.self.now in
    let one = c.args.one.now in
    let new = c.apply_into.new.self in
    let answer = c.in_err-apply_into.field-0.0 in
    let e = c.in_err-apply_into.ensures in
    let not_met = subst (λ (k : Kept). NodesRefuse k.world new one answer) c.self.view_is
    (record { same = e.err; why = e.refused; memory = λ none. e.memory (ap (λ a. Err a) none) }) in
    rw (exit.1, exit.2)
    (subst (λ new. Refuses k new (beside.One one) answer) (sym (ap (λ (k : Kept). record k { world = new }) c.self.view_is))
    (refused_by_nodes k (beside.One one) one new (one_of_nodes k one c.requires) answer not_met))

pub overflow_mul-unwrap_or : goal.overflow_mul-unwrap_or
overflow_mul-unwrap_or c =
    let short : c.unwrap_or.result ≤ 1000000000 =
    subst (λ n. n ≤ 1000000000) (sym (c.unwrap_or.ensures ∙ ap (λ o. unwrap_or o 0) c.pass_of.ensures))
    (short_pass c.args.self.now.world.settings c.args.one.now (one_formed c.args.self.now.world.settings c.args.one.now c.requires.formed)) in
    omega arith

pub advance-requires : goal.advance-requires
advance-requires c =
    let short : c.unwrap_or.result ≤ 1000000000 =
    subst (λ n. n ≤ 1000000000) (sym (c.unwrap_or.ensures ∙ ap (λ o. unwrap_or o 0) c.pass_of.ensures))
    (short_pass c.args.self.now.world.settings c.args.one.now (one_formed c.args.self.now.world.settings c.args.one.now c.requires.formed)) in
    let few : 100 * c.unwrap_or.result ≤ 1000000000000 = omega arith in
    subst (λ (k : Kept). HasRoomFor k.arbiter (100 * c.unwrap_or.result)) (sym c.self.view_is)
    (standing_room c.args.self.now (100 * c.unwrap_or.result) c.requires.standing c.requires.early few)

pub meet-requires : goal.meet-requires
meet-requires c =
    rank_within c.args.self.now.world.settings c.args.one.now (standing_valid c.args.self.now c.requires.standing)
    (one_formed c.args.self.now.world.settings c.args.one.now c.requires.formed)

pub returns-clause-ok : goal.returns-clause-ok
returns-clause-ok c =
    let k = c.args.self.now in
    let one = c.args.one.now in
    let new = c.apply_into.new.self in
    let running = c.advance.new.arbiter in
    let all = c.meet.new.self in
    let report = c.apply_into.new.into in
    let e = c.in_ok-apply_into.ensures in
    let met = subst (λ (k : Kept). NodesMet k.world new one report) c.self.view_is
    (record {
      stands = e.stands;
      exact = e.report;
      outs = e.outs;
      one_holder = e.one_holder;
      allowed = e.allowed;
      steps = e.steps;
      settings = e.settings;
      timing = e.timing;
    }) in
    let follows = one_follows k one running all (100 * c.unwrap_or.result) (ap (λ n. 100 * n) (c.unwrap_or.ensures ∙ ap (λ o. unwrap_or o 0) c.pass_of.ensures))
    (subst (λ (k : Kept). (theirs : Option Arbiter) → RunsOrOff k.arbiter theirs → RunsOrOff running (option_map (advanced_arbiter (100 * c.unwrap_or.result)) theirs))
    c.self.view_is c.advance.ensures)
    (subst (λ (k : Kept). (pollers : ℕ → Poller) → PollersFor k.pollers pollers → PollersFor all (pollers_with k.lease one pollers)) c.self.view_is
    (λ pollers h. c.meet.ensures c.self.inside.lease pollers refl h)) in
    subst (λ after. Stepped k after (beside.One one) (record { report = report; said = Nothing }))
    (sym (ap (λ (k : Kept). record k { world = new; arbiter = running; pollers = all }) c.self.view_is))
    (stepped_met k (beside.One one) one new (one_of_nodes k one c.requires) running all report met follows)

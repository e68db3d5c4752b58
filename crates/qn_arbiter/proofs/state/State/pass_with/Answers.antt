use Rattle.std.proofs.Common.{◌≡◌, Option, ap, subst, sym, true}
use Rattle.std.specs.Prelude.{Err}
use Rattle.std.specs.Option.{option_map}
use Rattle.std.proofs.lemmas.Result.{err_from_is_err_and}
use Rattle.qn_safety.specs.declared.arbiter_event.ArbiterEvent.TheVariants as beside
use Rattle.qn_safety.specs.declared.arbiter_reports.Said.TheVariants.{Nothing}
use Rattle.qn_safety.specs.ArbiterSteps.{advanced_arbiter}
use Rattle.qn_safety.specs.ArbiterWorld.{Arbiter}
use Rattle.qn_model.specs.Rules.{is_well_formed}
use Rattle.qn_arbiter.specs.Standing.{HasRoomFor, RunsOrOff}
use Rattle.qn_arbiter.specs.Stepping.{Refuses, Stepped}
use Rattle.qn_arbiter.specs.Whole.{Kept}
use Rattle.qn_arbiter.proofs.Following.{pass_follows, pass_formed, pass_of_nodes, standing_room}
use Rattle.qn_arbiter.proofs.Meeting.{NodesMet, NodesRefuse, refused_by_nodes, stepped_met}
use Rattle.qn_arbiter.proofs.state.State.pass_with.Goals as goal

pub apply_into-requires-clause-formed : goal.apply_into-requires-clause-formed
apply_into-requires-clause-formed c =
    subst (λ k. is_well_formed k.world.settings c.args.one.now ≡ true) (sym c.self.view_is) ((pass_formed c.args.self.now.world.settings c.args.hundredths c.args.one.now c.requires.formed).1)

pub returns-in_err-apply_into-clause-err : goal.returns-in_err-apply_into-clause-err
returns-in_err-apply_into-clause-err c =
    let exit = err_from_is_err_and c.from_residual.result c.from_residual.ensures.1 in
    let k = c.args.self.now in
    let one = c.args.one.now in
    let new = c.apply_into.new.self in
    let answer = c.in_err-apply_into.field-0.0 in
    let e = c.in_err-apply_into.ensures in
    let not_met = subst (λ (k : Kept). NodesRefuse k.world new one answer) c.self.view_is
    (record { same = e.err; why = e.refused; memory = λ none. e.memory (ap (λ a. Err a) none) }) in
    rw (exit.1, exit.2)
    (subst (λ new. Refuses k new (beside.PassWith c.args.hundredths one) answer) (sym (ap (λ (k : Kept). record k { world = new }) c.self.view_is))
    (refused_by_nodes k (beside.PassWith c.args.hundredths one) one new (pass_of_nodes k c.args.hundredths one c.requires) answer not_met))

pub advance-requires : goal.advance-requires
advance-requires c =
    subst (λ (k : Kept). HasRoomFor k.arbiter c.args.hundredths) (sym c.self.view_is)
    (standing_room c.args.self.now c.args.hundredths c.requires.standing c.requires.early
    (pass_formed c.args.self.now.world.settings c.args.hundredths c.args.one.now c.requires.formed).0)

pub returns-clause-ok : goal.returns-clause-ok
returns-clause-ok c =
    let k = c.args.self.now in
    let one = c.args.one.now in
    let new = c.apply_into.new.self in
    let running = c.advance.new.arbiter in
    let report = c.apply_into.new.into in
    let e = c.in_ok-apply_into.ensures in
    let met = subst (λ (k : Kept). NodesMet k.world new one report) c.self.view_is
    (record {
      stands = e.stands;
      exact = e.report;
      outs = e.outs;
      one_holder = e.one_holder;
      allowed = e.allowed;
      steps = e.steps;
      settings = e.settings;
      timing = e.timing;
    }) in
    let follows = pass_follows k c.args.hundredths one running c.requires
    (subst (λ (k : Kept). (theirs : Option Arbiter) → RunsOrOff k.arbiter theirs → RunsOrOff running (option_map (advanced_arbiter c.args.hundredths) theirs))
    c.self.view_is c.advance.ensures) in
    subst (λ after. Stepped k after (beside.PassWith c.args.hundredths one) (record { report = report; said = Nothing }))
    (sym (ap (λ (k : Kept). record k { world = new; arbiter = running }) c.self.view_is))
    (stepped_met k (beside.PassWith c.args.hundredths one) one new (pass_of_nodes k c.args.hundredths one c.requires) running k.pollers report met follows)

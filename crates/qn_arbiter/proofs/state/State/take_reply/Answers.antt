use Rattle.std.proofs.Common.{◌≡◌, Some, ap, subst, sym, true, ◌∙◌}
use Rattle.std.specs.Prelude.{Err}
use Rattle.std.proofs.lemmas.Result.{err_from_is_err_and}
use Rattle.qn_safety.specs.declared.arbiter_event.ArbiterEvent.TheVariants as beside
use Rattle.qn_safety.specs.declared.arbiter_reports.Said.TheVariants.{Nothing}
use Rattle.qn_safety.specs.ArbiterSteps.{played}
use Rattle.qn_safety.specs.ArbiterWorld.{ArbiterWorld}
use Rattle.qn_model.specs.Rules.{is_well_formed}
use Rattle.qn_arbiter.specs.Standing.{KeptFor}
use Rattle.qn_arbiter.specs.Stepping.{Refuses, Stepped}
use Rattle.qn_arbiter.specs.Whole.{Kept}
use Rattle.qn_arbiter.proofs.Following.{no_reply, ready_reply, reply_follows, reply_formed, reply_of_nodes}
use Rattle.qn_arbiter.proofs.Meeting.{NodesMet, NodesRefuse, refused_by_nodes, stepped_met}
use Rattle.qn_arbiter.proofs.state.State.take_reply.Goals as goal

pub apply_into-requires-clause-formed : goal.apply_into-requires-clause-formed
apply_into-requires-clause-formed c =
    let k = c.args.self.now in
    subst (λ (k : Kept). is_well_formed k.world.settings c.in-Some.event ≡ true) (sym c.self.view_is)
    (reply_formed k c.args.number c.in-Some.event c.requires
    (λ d is. sym (c.reply_event.ensures d is (ready_reply k c.args.number c.requires d is)) ∙ c.in-Some.is))

pub returns-in_err-apply_into-in-Some-clause-err : goal.returns-in_err-apply_into-in-Some-clause-err
returns-in_err-apply_into-in-Some-clause-err c =
    let exit = err_from_is_err_and c.from_residual.result c.from_residual.ensures.1 in
    let k = c.args.self.now in
    let one = c.in-Some.event in
    let new = c.apply_into.new.self in
    let answer = c.in_err-apply_into-in-Some.field-0.0 in
    let e = c.in_err-apply_into-in-Some.ensures in
    let not_met = subst (λ (k : Kept). NodesRefuse k.world new one answer) c.self.view_is
    (record { same = e.err; why = e.refused; memory = λ none. e.memory (ap (λ a. Err a) none) }) in
    rw (exit.1, exit.2)
    (subst (λ new. Refuses k new (beside.Reply c.args.number) answer) (sym (ap (λ (k : Kept). record k { world = new }) c.self.view_is))
    (refused_by_nodes k (beside.Reply c.args.number) one new
    (reply_of_nodes k c.args.number one c.requires (λ d is. sym (c.reply_event.ensures d is (ready_reply k c.args.number c.requires d is)) ∙ c.in-Some.is)) answer not_met))

pub returns-in_ok-apply_into-in-Some-clause-ok : goal.returns-in_ok-apply_into-in-Some-clause-ok
returns-in_ok-apply_into-in-Some-clause-ok c =
    let k = c.args.self.now in
    let one = c.in-Some.event in
    let new = c.apply_into.new.self in
    let report = c.apply_into.new.into in
    let e = c.in_ok-apply_into-in-Some.ensures in
    let met = subst (λ (k : Kept). NodesMet k.world new one report) c.self.view_is
    (record {
      stands = e.stands;
      exact = e.report;
      outs = e.outs;
      one_holder = e.one_holder;
      allowed = e.allowed;
      steps = e.steps;
      settings = e.settings;
      timing = e.timing;
    }) in
    let plays : (d : ArbiterWorld) → KeptFor k d → played k.world.settings (beside.Reply c.args.number) d ≡ Some one =
    λ d is. sym (c.reply_event.ensures d is (ready_reply k c.args.number c.requires d is)) ∙ c.in-Some.is in
    subst (λ after. Stepped k after (beside.Reply c.args.number) (record { report = report; said = Nothing }))
    (sym (ap (λ (k : Kept). record k { world = new }) c.self.view_is))
    (stepped_met k (beside.Reply c.args.number) one new (reply_of_nodes k c.args.number one c.requires plays) k.arbiter k.pollers report met
    (reply_follows k c.args.number one plays))

pub returns-in-None-clause-ok : goal.returns-in-None-clause-ok
returns-in-None-clause-ok c =
    let k = c.args.self.now in
    absurd (no_reply k c.args.number c.requires
    (λ d is. sym (c.reply_event.ensures d is (ready_reply k c.args.number c.requires d is)) ∙ c.in-None.is))

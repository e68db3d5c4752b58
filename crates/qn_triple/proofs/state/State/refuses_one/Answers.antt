use Rattle.std.proofs.Common.{◌≡◌, subst, true}
use Rattle.qn_model.specs.Rules.{is_well_formed}
use Rattle.qn_triple.proofs.RuleSteps.{done_formed, fail_formed, few, land_formed, within}
use Rattle.qn_triple.proofs.state.State.refuses_one.Goals as goal

pub unless_off-requires : goal.unless_off-requires
unless_off-requires c = within c.args.self.now c.in-Land.i.0 c.requires.standing (land_formed c.args.self.now.settings c.in-Land.i (subst (λ e. is_well_formed c.args.self.now.settings e ≡ true) c.in-Land.is c.requires.formed))

pub unless_off-requires-in-Fail : goal.unless_off-requires-in-Fail
unless_off-requires-in-Fail c = within c.args.self.now c.in-Fail.i.0 c.requires.standing (fail_formed c.args.self.now.settings c.in-Fail.i (subst (λ e. is_well_formed c.args.self.now.settings e ≡ true) c.in-Fail.is c.requires.formed))

pub refuses_done-requires-clause-within : goal.refuses_done-requires-clause-within
refuses_done-requires-clause-within c = within c.args.self.now c.in-Done.i.0 c.requires.standing (done_formed c.args.self.now.settings c.in-Done.i (subst (λ e. is_well_formed c.args.self.now.settings e ≡ true) c.in-Done.is c.requires.formed))

pub refuses_done-requires-clause-few : goal.refuses_done-requires-clause-few
refuses_done-requires-clause-few c = few c.args.self.now c.in-Done.i.0 c.requires.standing (done_formed c.args.self.now.settings c.in-Done.i (subst (λ e. is_well_formed c.args.self.now.settings e ≡ true) c.in-Done.is c.requires.formed))

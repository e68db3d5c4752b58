use Rattle.std.proofs.Common.{◌∙◌, length, refl, subst, sym}
use Rattle.qn_model.specs.declared.events.Event.TheVariants as event
use Rattle.qn_cluster.specs.Standing.{IsOpWithin}
use Rattle.qn_world.proofs.EventSteps.{land_stepped, not_landed, op_target}
use Rattle.qn_world.proofs.RuleSteps.{rank_few, rank_within}
use Rattle.qn_world.proofs.state.State.land.Goals as goal

pub op-requires : goal.op-requires
op-requires c = rank_within c.args.self.now (event.Land c.args.i) c.args.i c.requires.standing c.requires.formed refl

pub taken-entry-requires : goal.taken-entry-requires
taken-entry-requires c =
    record {
      within = rank_few c.args.self.now (event.Land c.args.i) c.args.i c.requires.standing c.requires.formed refl;
      target = op_target c.args.self.now c.in-Some.op c.requires.standing
          (subst (IsOpWithin (length c.args.self.now.settings.nodes)) c.in-Some.is (c.op.ensures.within c.requires.standing.0 c.requires.standing.1));
    }

pub write-requires : goal.write-requires
write-requires c =
    record {
      within = rank_few c.args.self.now (event.Land c.args.i) c.args.i c.requires.standing c.requires.formed refl;
      target = op_target c.args.self.now c.in-Some.op c.requires.standing
          (subst (IsOpWithin (length c.args.self.now.settings.nodes)) c.in-Some.is (c.op.ensures.within c.requires.standing.0 c.requires.standing.1));
    }

pub take-requires : goal.take-requires
take-requires c = rank_few c.args.self.now (event.Land c.args.i) c.args.i c.requires.standing c.requires.formed refl

pub returns-in-Some : goal.returns-in-Some
returns-in-Some c =
    land_stepped c.args.self.now c.write.new.self c.take.new.self c.args.i c.in-Some.op c.taken-entry.result (rank_few c.args.self.now (event.Land c.args.i) c.args.i c.requires.standing c.requires.formed refl)
    (λ d is on. sym (c.in-Some.is) ∙ c.op.ensures.exact d is on)
    c.taken-entry.ensures c.write.ensures c.take.ensures

pub returns-in_default : goal.returns-in_default
returns-in_default c = not_landed c.args.self.now c.args.i c.op.result c.op.ensures.exact (λ op e. c.in_default.not-Some op e)

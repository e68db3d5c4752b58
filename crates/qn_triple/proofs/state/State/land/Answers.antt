use Rattle.std.proofs.Common.{◌∙◌, length, subst, sym}
use Rattle.qn_cluster.specs.Standing.{IsOpWithin}
use Rattle.qn_triple.proofs.EventSteps.{land_stepped, not_landed, op_target}
use Rattle.qn_triple.proofs.RuleSteps.{few, land_image, land_rank, within}
use Rattle.qn_triple.proofs.state.State.land.Goals as goal

pub op-requires : goal.op-requires
op-requires c = within c.args.self.now c.args.i.0 c.requires.standing (land_rank c.args.self.now.settings c.args.i c.args.image c.requires.formed)

pub taken-entry-requires : goal.taken-entry-requires
taken-entry-requires c =
    record {
      within = few c.args.self.now c.args.i.0 c.requires.standing (land_rank c.args.self.now.settings c.args.i c.args.image c.requires.formed);
      image = land_image c.args.self.now.settings c.args.i c.args.image c.requires.formed;
      target = op_target c.args.self.now c.in-Some.op c.requires.standing
          (subst (IsOpWithin (length c.args.self.now.settings.nodes)) c.in-Some.is (c.op.ensures.within c.requires.standing.0 c.requires.standing.1));
    }

pub write-requires : goal.write-requires
write-requires c =
    record {
      standing = c.requires.standing;
      within = few c.args.self.now c.args.i.0 c.requires.standing (land_rank c.args.self.now.settings c.args.i c.args.image c.requires.formed);
      image = land_image c.args.self.now.settings c.args.i c.args.image c.requires.formed;
      target = op_target c.args.self.now c.in-Some.op c.requires.standing
          (subst (IsOpWithin (length c.args.self.now.settings.nodes)) c.in-Some.is (c.op.ensures.within c.requires.standing.0 c.requires.standing.1));
    }

pub set_part-requires : goal.set_part-requires
set_part-requires c =
    record {
      within = few c.args.self.now c.args.i.0 c.requires.standing (land_rank c.args.self.now.settings c.args.i c.args.image c.requires.formed);
      image = land_image c.args.self.now.settings c.args.i c.args.image c.requires.formed;
    }

pub returns-in-Some : goal.returns-in-Some
returns-in-Some c =
    land_stepped c.args.self.now c.write.new.self c.set_part.new.self c.args.i c.args.image c.in-Some.op c.taken-entry.result
    (λ d is on. sym c.in-Some.is ∙ c.op.ensures.exact d is on) c.taken-entry.ensures c.write.ensures c.set_part.ensures

pub returns-in_default : goal.returns-in_default
returns-in_default c = not_landed c.args.self.now c.args.i c.args.image c.op.result _ c.op.ensures.exact (λ op e. c.in_default.not-Some op e)

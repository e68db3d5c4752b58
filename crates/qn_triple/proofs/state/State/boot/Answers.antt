use Rattle.std.proofs.Common.{◌<◌, ◌∙◌, ap, length, subst, sym}
use Rattle.std.proofs.lemmas.Bool.{ltb-true}
use Rattle.qn_cluster.specs.Nodes.{Nodes}
use Rattle.qn_cluster.specs.Stepping.{Booted}
use Rattle.qn_triple.specs.Whole.{cluster_of, with_nodes}
use Rattle.qn_triple.proofs.EventSteps.{boot_stepped}
use Rattle.qn_triple.proofs.RuleSteps.{boot_base, boot_rank, few, within}
use Rattle.qn_triple.proofs.state.State.boot.Goals as goal

pub forget_parts-requires : goal.forget_parts-requires
forget_parts-requires c = few c.args.self.now c.args.i.0 c.requires.standing (boot_rank c.args.self.now.settings c.args.i c.args.base c.args.clean c.requires.formed)

pub trust_all-requires : goal.trust_all-requires
trust_all-requires c = few c.args.self.now c.args.i.0 c.requires.standing (boot_rank c.args.self.now.settings c.args.i c.args.base c.args.clean c.requires.formed)

pub boot-requires : goal.boot-requires
boot-requires c =
    let nodes = ap cluster_of c.self.view_is ∙ (c.trust_all.ensures.rest.nodes ∙ (c.forget_parts.ensures.rest.nodes ∙ c.drop_left.ensures.rest.nodes)) in
    let one = boot_rank c.args.self.now.settings c.args.i c.args.base c.args.clean c.requires.formed in
    record {
      within = subst (λ (n : Nodes). c.args.i.0 < length n.seats) (sym nodes) (within c.args.self.now c.args.i.0 c.requires.standing one);
      configured = subst (λ (n : Nodes). c.args.i.0 < length n.settings.nodes) (sym nodes) (ltb-true c.args.i.0 (length c.args.self.now.settings.nodes) one);
      few = subst (λ (n : Nodes). n.steps < 18446744073709551615) (sym nodes) c.requires.few;
      early = boot_base c.args.self.now.settings c.args.i c.args.base c.args.clean c.requires.formed;
    }

pub returns : goal.returns
returns c =
    boot_stepped c.args.self.now c.drop_left.new.self c.forget_parts.new.self c.trust_all.new.self _ c.args.i c.args.base c.args.clean c.boot.new.outs
    c.drop_left.ensures c.forget_parts.ensures c.trust_all.ensures (ap (λ w. with_nodes w c.boot.new.self) c.self.view_is)
    (subst (λ n. Booted n c.boot.new.self c.args.i.0 c.args.base c.args.clean c.boot.new.outs) (ap cluster_of c.self.view_is) c.boot.ensures)

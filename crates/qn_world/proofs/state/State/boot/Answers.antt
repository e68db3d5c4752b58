use Rattle.std.proofs.Common.{◌<◌, ◌∙◌, ap, length, subst, sym}
use Rattle.qn_cluster.specs.EventRanks.{rank_configured}
use Rattle.qn_cluster.specs.Nodes.{Nodes}
use Rattle.qn_cluster.specs.Stepping.{Booted}
use Rattle.qn_cluster.specs.WorldSteps.{boot_event}
use Rattle.qn_world.specs.Whole.{cluster_of, with_nodes}
use Rattle.qn_world.proofs.EventSteps.{boot_stepped, boot_touches, few_base}
use Rattle.qn_world.proofs.RuleSteps.{rank_few, rank_within}
use Rattle.qn_world.proofs.state.State.boot.Goals as goal

pub take-requires : goal.take-requires
take-requires c = rank_few c.args.self.now (boot_event c.args.i c.args.base c.args.clean) c.args.i c.requires.standing c.requires.formed (boot_touches c.args.i c.args.base c.args.clean)

pub boot-requires : goal.boot-requires
boot-requires c =
    let nodes = sym (ap cluster_of c.self.view_is ∙ (ap cluster_of c.take.ensures ∙ c.drop_left.ensures.rest.nodes)) in
    let touches = boot_touches c.args.i c.args.base c.args.clean in
    let booting = boot_event c.args.i c.args.base c.args.clean in
    record {
      within = subst (λ (n : Nodes). c.args.i.0 < length n.seats) nodes (rank_within c.args.self.now booting c.args.i c.requires.standing c.requires.formed touches);
      configured = subst (λ (n : Nodes). c.args.i.0 < length n.settings.nodes) nodes (rank_configured c.args.self.now.settings booting c.args.i c.requires.formed touches);
      few = subst (λ (n : Nodes). n.steps < 18446744073709551615) nodes c.requires.few;
      early = few_base c.args.self.now.settings c.args.i c.args.base c.args.clean c.requires.formed;
    }

pub returns : goal.returns
returns c =
    boot_stepped c.args.self.now c.drop_left.new.self c.take.new.self _ c.args.i c.args.base c.args.clean c.boot.new.outs
    (rank_few c.args.self.now (boot_event c.args.i c.args.base c.args.clean) c.args.i c.requires.standing c.requires.formed (boot_touches c.args.i c.args.base c.args.clean))
    c.drop_left.ensures c.take.ensures (ap (λ w. with_nodes w c.boot.new.self) c.self.view_is)
    (subst (λ n. Booted n c.boot.new.self c.args.i.0 c.args.base c.args.clean c.boot.new.outs) (ap cluster_of c.self.view_is) c.boot.ensures)

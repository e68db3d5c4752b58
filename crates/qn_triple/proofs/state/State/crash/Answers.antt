use Rattle.std.proofs.Common.{◌<◌, ◌∙◌, ap, length, subst, sym}
use Rattle.std.proofs.lemmas.Result.{err_from_is_err_and}
use Rattle.qn_cluster.specs.Nodes.{Nodes}
use Rattle.qn_cluster.specs.Stepping.{Ended}
use Rattle.qn_triple.specs.Whole.{cluster_of, with_nodes}
use Rattle.qn_triple.proofs.EventSteps.{crash_starved, crash_stepped}
use Rattle.qn_triple.proofs.RuleSteps.{crash_rank, few, within}
use Rattle.qn_triple.proofs.state.State.crash.Goals as goal

pub give_up-requires : goal.give_up-requires
give_up-requires c =
    record {
      within = within c.args.self.now c.args.i.0 c.requires.standing (crash_rank c.args.self.now.settings c.args.i c.requires.formed);
      few = few c.args.self.now c.args.i.0 c.requires.standing (crash_rank c.args.self.now.settings c.args.i c.requires.formed);
    }

pub forget_parts-requires : goal.forget_parts-requires
forget_parts-requires c = few c.args.self.now c.args.i.0 c.requires.standing (crash_rank c.args.self.now.settings c.args.i c.requires.formed)

pub end-requires : goal.end-requires
end-requires c =
    subst (λ (n : Nodes). c.args.i.0 < length n.seats)
    (sym (ap cluster_of c.self.view_is ∙ (c.forget_parts.ensures.rest.nodes ∙ c.in_ok-give_up.ensures.ok.rest.nodes)))
    (within c.args.self.now c.args.i.0 c.requires.standing (crash_rank c.args.self.now.settings c.args.i c.requires.formed))

pub returns-in_err-give_up-clause-err : goal.returns-in_err-give_up-clause-err
returns-in_err-give_up-clause-err c =
    let p = err_from_is_err_and c.from_residual.result c.from_residual.ensures.1 in
    rw p.1 (crash_starved c.args.self.now c.give_up.new.self c.args.i c.in_err-give_up.ensures.err)

pub returns-clause-ok : goal.returns-clause-ok
returns-clause-ok c =
    crash_stepped c.args.self.now c.give_up.new.self c.forget_parts.new.self _ c.args.i c.in_ok-give_up.ensures.ok c.forget_parts.ensures
    (ap (λ w. with_nodes w c.end.new.self) c.self.view_is) (subst (λ n. Ended n c.end.new.self c.args.i.0) (ap cluster_of c.self.view_is) c.end.ensures)

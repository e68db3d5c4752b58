use Rattle.std.proofs.Common.{◌∙◌, ap, subst, sym}
use Rattle.qn_cluster.specs.Standing.{ClusterFor}
use Rattle.qn_model.specs.Rules.{is_on, may_land, unless, unless_running}
use Rattle.qn_world.specs.Whole.{cluster_of}
use Rattle.qn_world.proofs.state.State.refuses_land.Goals as goal

pub returns : goal.returns
returns c d is =
    let s = c.args.self.now.settings in
    let i = c.args.i.0 in
    let same = ap (λ w. w.settings) c.self.view_is in
    let theirs = unless (may_land s i d) 4 in
    c.unless_running.ensures d theirs (subst (λ n. ClusterFor n d.moments) (sym (ap cluster_of c.self.view_is)) is.cluster)
    (λ on. let on_here = sym (ap (λ s. is_on s i d) same) ∙ on in c.unless.ensures ∙ ap (λ b. unless b 4) (c.may_land.ensures d is on_here))
    ∙ ap (λ s. unless_running s i d theirs) same

use Rattle.std.proofs.Common.{◌∙◌, ap, subst, sym}
use Rattle.qn_cluster.specs.DiskStanding.{SectorsFor}
use Rattle.qn_model.specs.World.{taken}
use Rattle.qn_world.proofs.state.State.taken.Goals as goal

pub returns : goal.returns
returns c = λ d is.
    c.taken.ensures d (subst (λ s. SectorsFor s d.slots d.mailboxes) (sym (ap (λ w. w.sectors) c.self.view_is)) is.sectors)
    ∙ (ap (λ s. taken s c.self.inside.timing c.args.i.0 c.args.op d) (c.settings.ensures ∙ ap (λ w. w.settings) c.self.view_is)
    ∙ ap (λ t. taken c.args.self.now.settings t c.args.i.0 c.args.op d) (ap (λ w. w.timing) c.self.view_is))

use Rattle.std.proofs.Common.{◌≡◌, ◌∙◌, ap, subst}
use Rattle.std.specs.Prelude.{Some, slice_get}
use Rattle.qn_model.specs.World.{taken}
use Rattle.qn_safety.specs.TripleWorld.{image_of}
use Rattle.qn_triple.proofs.DiskSteps.{sectors_read}
use Rattle.qn_triple.proofs.state.State.taken.Goals as goal

pub returns : goal.returns
returns c = λ d is.
    c.taken.ensures (image_of c.args.image d)
    (sectors_read c.args.self.now d c.args.image c.sectors_at-sectors.result.now is c.requires.image
    (subst (λ place. slice_get c.args.self.now.sectors place ≡ Some c.sectors_at-sectors.result.now) c.place_of.ensures.place c.sectors_at-sectors.ensures))
    ∙ (ap (λ s. taken s c.self.inside.timing c.args.i.0 c.args.op (image_of c.args.image d)) (c.settings.ensures ∙ ap (λ w. w.settings) c.self.view_is)
    ∙ ap (λ t. taken c.args.self.now.settings t c.args.i.0 c.args.op (image_of c.args.image d)) (ap (λ w. w.timing) c.self.view_is))

use Rattle.std.proofs.Common.{◌∙◌, ap}
use Rattle.std.specs.Prelude.{is_some}
use Rattle.qn_cluster.specs.Places.{place_in}
use Rattle.qn_cluster.specs.DiskStanding.{is_of}
use Rattle.qn_cluster.proofs.LeftoverSteps.{place_there}
use Rattle.qn_cluster.proofs.leftovers.Leftovers.has.Goals as goal
use Rattle.qn_model.specs.World.{numbered}

pub returns : goal.returns
returns c = λ count left is.
    let mine = is_of c.args.i.0 c.args.image in
    c.is_some.ensures
    ∙ (ap is_some (c.place_of.ensures ∙ ap (place_in mine c.args.number) (c.as_slice.ensures.value ∙ c.self.view_is))
    ∙ (place_there mine c.args.number c.args.self.now c.requires.number ∙ ap (λ ops. is_some (numbered ops c.args.number)) (is.lefts c.args.i.0 c.args.image c.requires.image)))

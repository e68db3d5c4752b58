use Rattle.qn_beside.proofs.Projection.{one_runs}
use Rattle.qn_beside.proofs.laws.law_one_owner_beside.Goals as goal

pub returns : goal.returns
returns c =
    λ s t times image happenings i j safe joined first second.
    one_runs s t times image happenings i j (c.law_one_owner.ensures s t safe) joined first second

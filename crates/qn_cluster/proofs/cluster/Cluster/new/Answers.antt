use Rattle.std.proofs.Common.{◌∙◌, ap, refl, sym}
use Rattle.std.specs.Prelude.{length, slice_get}
use Rattle.qn_cluster.proofs.ClusterSteps.{first_stands}
use Rattle.qn_cluster.proofs.cluster.Cluster.new.Goals as goal

pub returns-clause-stands : goal.returns-clause-stands
returns-clause-stands c =
    first_stands _ c.requires (ap length c.of.ensures ∙ c.in_ok-seats.ensures.count)
    (λ rank seat here. c.in_ok-seats.ensures.fresh rank seat (ap (λ items. slice_get items rank) (sym c.of.ensures) ∙ here))
    refl c.new.ensures refl

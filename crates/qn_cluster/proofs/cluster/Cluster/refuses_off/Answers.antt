use Rattle.std.proofs.Common.{None, refl}
use Rattle.qn_cluster.proofs.cluster.Cluster.refuses_off.Goals as goal

pub returns : goal.returns
returns c d is = c.unless_running.ensures d None is (λ on. refl)

use Rattle.qn_joined.proofs.TripleOwners.{always_owns_on_three}
use Rattle.qn_joined.proofs.triple_laws.law_triple_owned.Goals as goal

pub returns : goal.returns
returns c = λ s t.
    always_owns_on_three s t (c.law_triple_nodes.ensures s t) (c.law_triple_calls.ensures s t) c.law_packets_read_back.ensures
    (c.law_triple_worlds.ensures s t)

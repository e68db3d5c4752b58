use Rattle.qn_joined.proofs.TripleWorlds.{each_keeps, every_triple_joint_has_a_world}
use Rattle.qn_joined.proofs.triple_laws.law_triple_worlds.Goals as goal

pub returns : goal.returns
returns c = λ s t.
    every_triple_joint_has_a_world s t
    (each_keeps (c.law_triple_passes.ensures s t) (c.law_triple_begins.ensures s t) (c.law_triple_looks.ensures s t)
    (c.law_triple_lands.ensures s t) (c.law_triple_returns_any.ensures s t) (c.law_triple_feeds.ensures s t)
    (c.law_triple_late.ensures s t) (c.law_triple_ends.ensures s t) (c.law_triple_operates.ensures s t))

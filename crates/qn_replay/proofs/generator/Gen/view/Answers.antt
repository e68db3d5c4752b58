use Rattle.std.proofs.Common.{arith, ◌%◌}
use Rattle.qn_replay.proofs.Clocks.{members_some, members_few}
use Rattle.qn_replay.proofs.generator.Gen.view.Goals as goal

pub write_view-requires-else-kind-eq1-clause-some : goal.write_view-requires-else-kind-eq1-clause-some
write_view-requires-else-kind-eq1-clause-some c =
    members_some (c.draw.result % 8) c.args.rank.0 c.bit_of-else-kind-eq1.result c.requires (omega arith) c.bit_of-else-kind-eq1.ensures.value

pub write_view-requires-else-kind-eq1-clause-configured : goal.write_view-requires-else-kind-eq1-clause-configured
write_view-requires-else-kind-eq1-clause-configured c =
    members_few (c.draw.result % 8) c.args.rank.0 c.bit_of-else-kind-eq1.result c.requires (omega arith) c.bit_of-else-kind-eq1.ensures.value

use Rattle.std.proofs.Common.{length}
use Rattle.qn_member.specs.Maker.{is_led, is_visible}
use Rattle.qn_member.proofs.Ranks.{member_of-ranks_that}
use Rattle.qn_member.proofs.laws.law_visible_nodes.Goals as goal

pub returns-clause-visible : goal.returns-clause-visible
returns-clause-visible c = λ m tick rank. member_of-ranks_that (is_visible tick m) (length m.nodes) rank

pub returns-clause-led : goal.returns-clause-led
returns-clause-led c = λ m visible rank. member_of-ranks_that (is_led m visible) (length m.nodes) rank

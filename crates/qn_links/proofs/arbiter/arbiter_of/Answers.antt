use Rattle.std.proofs.Common.{refl}
use Rattle.qn_links.proofs.arbiter.arbiter_of.Goals as goal

pub returns-in_default-port-clause-host : goal.returns-in_default-port-clause-host
returns-in_default-port-clause-host c = (c.in-Some.text.now, rw c.in-Some.is refl, c.in-Some-address_of_machine.ensures.some)

pub returns-in-Some-port_in-clause-host : goal.returns-in-Some-port_in-clause-host
returns-in-Some-port_in-clause-host c = (c.in-Some.text.now, rw c.in-Some.is refl, c.in-Some-address_of_machine.ensures.some)

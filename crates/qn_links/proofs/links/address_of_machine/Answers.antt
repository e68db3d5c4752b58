use Rattle.std.proofs.Common.{◌≡◌, rules, subst, arith}
use Rattle.std.specs.Net.Grammar.{IsIpText}
use Rattle.std.proofs.NetLemmas.Theorems.{IsIpText_unique}
use Rattle.qn_links.specs.Links.{IsOfMachine}
use Rattle.qn_links.proofs.links.address_of_machine.Goals as goal

-- a text writes one address, and this one is of no machine
pub returns-else-is_of_machine-clause-none : goal.returns-else-is_of_machine-clause-none
returns-else-is_of_machine-clause-none c = λ address writes.
    let written : IsIpText c.args.text.now c.in_ok-address.address = search rules in
    let same : address ≡ c.in_ok-address.address = IsIpText_unique _ _ _ writes.0 written in
    let is_of_machine : IsOfMachine c.in_ok-address.address = subst IsOfMachine same writes.1 in
    grind (arith, c.is_of_machine.ensures.1 is_of_machine, c.if-is_of_machine.false)

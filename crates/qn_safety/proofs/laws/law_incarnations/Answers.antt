use Rattle.qn_safety.proofs.Incarnations.{incarnations_rise, up_slot, up_dirty, landed_close_leaves, closed_holds_nothing}
use Rattle.qn_safety.proofs.laws.law_incarnations.Goals as goal

pub returns-clause-rise : goal.returns-clause-rise
returns-clause-rise c = incarnations_rise

pub returns-clause-number : goal.returns-clause-number
returns-clause-number c = up_slot

pub returns-clause-dirty : goal.returns-clause-dirty
returns-clause-dirty c = up_dirty

pub returns-clause-leaves : goal.returns-clause-leaves
returns-clause-leaves c = landed_close_leaves

pub returns-clause-closed : goal.returns-clause-closed
returns-clause-closed c = closed_holds_nothing

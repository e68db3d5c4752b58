use Rattle.qn_seal.proofs.Windows.{refused_only, taken_once}
use Rattle.qn_seal.proofs.laws.law_taken_once.Goals as goal

pub returns-clause-once : goal.returns-clause-once
returns-clause-once c = taken_once

pub returns-clause-only : goal.returns-clause-only
returns-clause-only c = refused_only

use Rattle.qn_live.proofs.OperationCalls.{no_op_asked, op_asked, op_fits}
use Rattle.qn_live.proofs.laws.law_operation.Goals as goal

pub returns-clause-asked : goal.returns-clause-asked
returns-clause-asked c = op_asked

pub returns-clause-fits : goal.returns-clause-fits
returns-clause-fits c = λ run plan op h is. op_fits run plan h op is

pub returns-clause-none : goal.returns-clause-none
returns-clause-none c = λ run plan call h is next. no_op_asked run plan h call is next

pub returns-clause-valid : goal.returns-clause-valid
returns-clause-valid c = λ run plan h. h.stands.valid

pub returns-clause-configured : goal.returns-clause-configured
returns-clause-configured c = λ run plan h. h.stands.stands.is_configured

use Rattle.qn_model.specs.lemmas.Logs.{install-within}
use Rattle.qn_heard.proofs.laws.law_few_installs.Goals as goal

pub returns : goal.returns
returns c = install-within

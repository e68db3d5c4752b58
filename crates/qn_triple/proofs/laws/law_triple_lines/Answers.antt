use Rattle.qn_triple.proofs.LineForms.{line_formed}
use Rattle.qn_triple.proofs.laws.law_triple_lines.Goals as goal

pub returns : goal.returns
returns c = line_formed c.law_event_lines.ensures

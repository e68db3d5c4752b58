use Rattle.std.proofs.Common.{sym, ◌∙◌}
use Rattle.qn_supervisor.proofs.LineSpelling.{line_spelled}
use Rattle.qn_supervisor.proofs.line.read_line.Goals as goal

pub returns-clause-spelled : goal.returns-clause-spelled
returns-clause-spelled c = λ said.
    let both = line_spelled c.args.text.now said in
    let is = c.read_words.ensures in
    (λ ok. both.0 (sym is ∙ ok), λ spelling. is ∙ both.1 spelling)

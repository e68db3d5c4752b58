-- Worked rows compute.
use Rattle.std.proofs.Common.{refl}
use Rattle.std.specs.Fmt.{digits}
use Rattle.qn_model.specs.Lines.{number_between, known_rank, known_ranks, members_of}
use Rattle.qn_model.specs.CountText.{node_line, view_line, line_of_words, line_of, view_text, text_of_line, with_line, end_of_input, last_line}
use Rattle.qn_model.proofs.count_rows.law_half_and_majority.Goals as goal

pub returns-clause-ended : goal.returns-clause-ended
unfolding digits number_between known_rank known_ranks members_of node_line view_line line_of_words line_of view_text text_of_line with_line end_of_input last_line
returns-clause-ended c = refl

pub returns-clause-failed : goal.returns-clause-failed
unfolding digits number_between known_rank known_ranks members_of node_line view_line line_of_words line_of view_text text_of_line with_line end_of_input last_line
returns-clause-failed c = refl

-- The count of a node, as a trace, a status and the line of a running node print it: this project's profile.
use Rattle.std.specs.Prelude.{ℕ, List, ◌++◌, codes, decimal}
use Rattle.qn_base.specs.Text.{yes_no}
use Rattle.qn_model.specs.declared.votes.Answer.{Answer}

-- the count of a node
abbrev pub answer_text : Answer → List ℕ
answer_text answer = codes " quorate=" ++ yes_no answer.quorate ++ codes " " ++ decimal answer.votes ++ codes "/" ++ decimal answer.quorum

-- What the step of a group tells its supervisor, a line each: this project's profile.
use Rattle.std.specs.Prelude.{ℕ, List, ◌++◌, flat_map, Option, None, Some, codes, decimal}
use Rattle.qn_base.specs.Text.{yes_no}
use Rattle.qn_group.specs.declared.phase.Phase.{Phase}
use Rattle.qn_group.specs.declared.group.Act.{Act}
use Rattle.qn_group.specs.declared.group.Act.TheVariants as act
use Rattle.qn_group.specs.declared.told.Told.{Told}
use Rattle.qn_supervisor.specs.declared.reply.Reply.{Reply}
use Rattle.qn_supervisor.specs.declared.reply.Reply.TheVariants as reply
use Rattle.qn_supervisor.specs.Words.{answer_word, goal_word, phase_word, verb_word, word_word}

abbrev pub act_text : Act → List ℕ
act_text (act.Run at verb) = codes "run " ++ decimal at ++ codes " " ++ verb_word verb
act_text (act.Kill at) = codes "kill " ++ decimal at
act_text act.Leave = codes "leave"

-- the place of which a word speaks
abbrev pub place_text : Option ℕ → List ℕ
place_text None = codes "-"
place_text (Some at) = decimal at

abbrev pub told_text : Told → List ℕ
told_text told = codes "told " ++ word_word told.word ++ codes " " ++ place_text told.at ++ codes " " ++ yes_no told.is_fine

abbrev pub reply_text : Reply → List ℕ
reply_text (reply.Answer answer) = codes "answer " ++ answer_word answer
reply_text (reply.Counted at) = codes "counted " ++ decimal at
reply_text (reply.Act act) = act_text act
reply_text (reply.Goal goal) = codes "goal " ++ goal_word goal
reply_text (reply.Told told) = told_text told

abbrev pub phase_text : Phase → List ℕ
phase_text phase = codes " " ++ phase_word phase

abbrev pub phases_text : List Phase → List ℕ
phases_text phases = codes "phases" ++ flat_map phase_text phases

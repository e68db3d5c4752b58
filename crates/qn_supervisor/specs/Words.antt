-- The words of actions, of how they end, of answers, goals and phases, and of what is told of a group: this project's profile.
use Rattle.std.specs.Prelude.{ℕ, List, [], ◌∷◌, Option, codes, find}
use Rattle.std.specs.Str.{bytes_eq}
use Rattle.qn_group.specs.declared.phase.Verb.{Verb}
use Rattle.qn_group.specs.declared.phase.Verb.TheVariants as verb
use Rattle.qn_group.specs.declared.phase.Outcome.{Outcome}
use Rattle.qn_group.specs.declared.phase.Outcome.TheVariants as outcome
use Rattle.qn_group.specs.declared.phase.Phase.{Phase}
use Rattle.qn_group.specs.declared.phase.Phase.TheVariants as phase
use Rattle.qn_group.specs.declared.phase.Word.{Word}
use Rattle.qn_group.specs.declared.phase.Word.TheVariants as word
use Rattle.qn_group.specs.declared.group.Answer.{Answer}
use Rattle.qn_group.specs.declared.group.Answer.TheVariants as answer
use Rattle.qn_group.specs.declared.group.Goal.{Goal}
use Rattle.qn_group.specs.declared.group.Goal.TheVariants as goal

abbrev pub verb_word : Verb → List ℕ
verb_word verb.Start = codes "start"
verb_word verb.Stop = codes "stop"
verb_word verb.Monitor = codes "monitor"

unfoldable pub verb_named : List ℕ → Option Verb
verb_named word = find (λ one. bytes_eq (verb_word one) word) (verb.Start ∷ verb.Stop ∷ verb.Monitor ∷ [])

abbrev pub outcome_word : Outcome → List ℕ
outcome_word outcome.Done = codes "ok"
outcome_word outcome.NotRunning = codes "not-running"
outcome_word outcome.Broken = codes "broken"
outcome_word outcome.Hard = codes "hard"
outcome_word outcome.Unknown = codes "unknown"

abbrev pub outcomes : List Outcome
outcomes = outcome.Done ∷ outcome.NotRunning ∷ outcome.Broken ∷ outcome.Hard ∷ outcome.Unknown ∷ []

unfoldable pub outcome_named : List ℕ → Option Outcome
outcome_named word = find (λ one. bytes_eq (outcome_word one) word) outcomes

abbrev pub answer_word : Answer → List ℕ
answer_word answer.Started = codes "ok"
answer_word answer.Stopped = codes "ok"
answer_word answer.Wait = codes "wait"
answer_word answer.Stuck = codes "stuck"
answer_word answer.Moves = codes "ok"
answer_word answer.Refused = codes "refused"

abbrev pub goal_word : Goal → List ℕ
goal_word goal.Rest = codes "rest"
goal_word goal.Run = codes "run"
goal_word (goal.Restart from) = codes "restart"
goal_word goal.Leave = codes "leave"

abbrev pub phase_word : Phase → List ℕ
phase_word phase.New = codes "new"
phase_word phase.Probing = codes "probing"
phase_word phase.Down = codes "down"
phase_word (phase.Starting killed) = codes "starting"
phase_word (phase.Checking since stopped asked killed) = codes "checking"
phase_word (phase.Up since unsure) = codes "up"
phase_word (phase.Looking unsure killed) = codes "looking"
phase_word phase.Failed = codes "failed"
phase_word phase.Stopping = codes "stopping"
phase_word (phase.Verifying since asked) = codes "verifying"
phase_word phase.Stuck = codes "stuck"

abbrev pub word_word : Word → List ℕ
word_word word.Stuck = codes "stuck"
word_word word.Stopping = codes "stopping"
word_word word.Failed = codes "failed"
word_word word.Starting = codes "starting"
word_word word.Down = codes "down"
word_word word.Looking = codes "looking"
word_word word.Unsure = codes "unsure"
word_word word.Maintenance = codes "maintenance"
word_word word.Runs = codes "runs"

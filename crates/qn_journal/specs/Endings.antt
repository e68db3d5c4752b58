-- How a run ended, as the last line of its journal says it (this project's profile, LIVE.md "The journal").
use Rattle.std.specs.Prelude.{ℕ, Bool, true, false, List, ◌++◌, codes, decimal, if◌then◌else◌}
use Rattle.qn_base.specs.Text.{yes_no}
use Rattle.qn_live.specs.declared.live_end.LiveEnd.{LiveEnd}
use Rattle.qn_live.specs.declared.live_end.LiveEnd.TheVariants as end
use Rattle.qn_model.specs.Messages.{message_name}
use Rattle.qn_model.specs.declared.life.Phase.{Phase}
use Rattle.qn_model.specs.declared.life.Why.{Why}
use Rattle.qn_model.specs.declared.votes.Answer.{Answer}
use Rattle.qn_names.specs.AnswerTexts.{answer_text}
use Rattle.qn_names.specs.CauseNumbers.{cause_number}
use Rattle.qn_names.specs.PhaseNames.{phase_name}
use Rattle.qn_names.specs.WhyTexts.{why_text}

-- after the last of so many turns: the phase, whether the node holds the resource, its count and its condition
unfoldable pub turns_text : ℕ → Phase → Bool → Answer → Why → List ℕ
turns_text turns phase holds answer why =
    codes "turns " ++ decimal turns ++ codes " " ++ phase_name phase ++ codes " holds=" ++ yes_no holds ++ answer_text answer ++ codes " why="
    ++ why_text why

abbrev pub end_text : LiveEnd → ℕ → List ℕ
end_text (end.Turns phase holds answer why) turns = turns_text turns phase holds answer why
end_text (end.Left clean) turns = if clean then codes "left clean" else codes "left dirty"
end_text (end.ClockBack before now) turns = codes "fault ClockBack " ++ decimal before ++ codes " " ++ decimal now
end_text (end.SelfReset message) turns = codes "fault SelfReset " ++ message_name message
end_text (end.BootHalted cause) turns = codes "fault BootHalted " ++ decimal (cause_number cause)

abbrev pub is_fault : LiveEnd → Bool
is_fault (end.Turns phase holds answer why) = false
is_fault (end.Left clean) = false
is_fault (end.ClockBack before now) = true
is_fault (end.SelfReset message) = true
is_fault (end.BootHalted cause) = true

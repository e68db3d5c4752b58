-- What `node` writes at its end, and its status: this project's profile.
use Rattle.std.specs.Prelude.{ℕ, Bool, List, ◌++◌, codes, decimal, if◌then◌else◌}
use Rattle.qn_base.specs.Text.{yes_no}
use Rattle.qn_live.specs.declared.live_end.LiveEnd.{LiveEnd}
use Rattle.qn_live.specs.declared.live_end.LiveEnd.TheVariants as end
use Rattle.qn_model.specs.declared.life.Phase.{Phase}
use Rattle.qn_model.specs.declared.life.Why.{Why}
use Rattle.qn_model.specs.declared.votes.Answer.{Answer}
use Rattle.qn_model.specs.Lines.{Outcome}
use Rattle.qn_names.specs.PhaseNames.{phase_name}
use Rattle.qn_names.specs.AnswerTexts.{answer_text}
use Rattle.qn_names.specs.WhyTexts.{why_text}
use Rattle.qn_commands.specs.declared.fault.Fault.TheVariants.{BootHalted, ClockBack, SelfReset}
use Rattle.qn_commands.specs.Endings.{refused}

-- after the last of so many turns: the phase, whether the node holds the resource, its count and its condition
unfoldable pub turns_text : ℕ → Phase → Bool → Answer → Why → List ℕ
turns_text turns phase holds answer why =
    codes "turns " ++ decimal turns ++ codes " " ++ phase_name phase ++ codes " holds=" ++ yes_no holds ++ answer_text answer ++ codes " why="
    ++ why_text why ++ codes "\n"

-- the node left, and its slot is written as clean or is not
abbrev pub left_text : Bool → List ℕ
left_text clean = if clean then codes "left clean\n" else codes "left dirty\n"

-- the outcome of a run of so many turns
abbrev pub end_outcome : ℕ → LiveEnd → Outcome
end_outcome turns (end.Turns phase holds answer why) = record { text = turns_text turns phase holds answer why; status = 0 }
end_outcome turns (end.Left clean) = record { text = left_text clean; status = 0 }
end_outcome turns (end.ClockBack before now) = refused (ClockBack before now)
end_outcome turns (end.SelfReset message) = refused (SelfReset message)
end_outcome turns (end.BootHalted cause) = refused (BootHalted cause)

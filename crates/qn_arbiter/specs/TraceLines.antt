-- The lines that a replay beside an arbiter writes for its events: this project's profile.
use Rattle.std.specs.Prelude.{ℕ, List, ◌++◌, codes, decimal}
use Rattle.qn_base.specs.Text.{yes_no}
use Rattle.qn_safety.specs.declared.arbiter_event.ArbiterEvent.{ArbiterEvent}
use Rattle.qn_safety.specs.declared.arbiter_event.ArbiterEvent.TheVariants.{One, PassWith, ArbiterBoot, ArbiterCrash, Poll, Hear, Reply}
use Rattle.qn_safety.specs.declared.arbiter_reports.ArbiterReport.{ArbiterReport}
use Rattle.qn_safety.specs.declared.arbiter_reports.Said.{Said}
use Rattle.qn_safety.specs.declared.arbiter_reports.Said.TheVariants.{Nothing, Polled, Answered}
use Rattle.qn_sched.specs.TraceLines.{trace_line, trace_line_with}

-- what was sent between nodes and the arbiter
abbrev pub said_word : Said → List ℕ
said_word Nothing = codes "-"
said_word (Polled number) = codes "poll" ++ codes ":" ++ decimal number
said_word (Answered number agrees) = yes_no agrees ++ codes ":" ++ decimal number

-- the trace line of an event, without its end, where the nodes have these ids by rank
unfoldable pub arbiter_trace_line : List ℕ → ℕ → ArbiterEvent → ArbiterReport → List ℕ
arbiter_trace_line ids count (One one) report = trace_line ids count report.report
arbiter_trace_line ids count (PassWith advance one) report = trace_line ids count report.report
arbiter_trace_line ids count (ArbiterBoot base) report = trace_line_with ids count report.report (codes "arbiter " ++ said_word report.said)
arbiter_trace_line ids count ArbiterCrash report = trace_line_with ids count report.report (codes "arbiter " ++ said_word report.said)
arbiter_trace_line ids count (Poll rank) report = trace_line_with ids count report.report (said_word report.said)
arbiter_trace_line ids count (Hear number) report = trace_line_with ids count report.report (codes "arbiter " ++ said_word report.said)
arbiter_trace_line ids count (Reply number) report = trace_line ids count report.report

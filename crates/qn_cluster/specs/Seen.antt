-- What a cluster shows of its nodes.
use Rattle.std.specs.Prelude.{◌<◌, ℕ, false, List, [], Option, None, Some, length, ◌&&◌, if◌then◌else◌, unwrap_or}
use Rattle.std.specs.Option.{option_map, option_map_or}
use Rattle.qn_base.specs.declared.ids.Rank.{Rank}
use Rattle.qn_base.specs.declared.ids.View.{View}
use Rattle.qn_model.specs.declared.configuration.Settings.{Settings}
use Rattle.qn_model.specs.declared.life.Phase.{Phase}
use Rattle.qn_model.specs.declared.life.Phase.TheVariants.{Gone}
use Rattle.qn_model.specs.declared.life.Why.{Why}
use Rattle.qn_model.specs.declared.life.Why.TheVariants.{Down}
use Rattle.qn_model.specs.declared.reports.Report.{Report}
use Rattle.qn_model.specs.declared.votes.Answer.{Answer}
use Rattle.qn_model.specs.Holding.{stop_due}
use Rattle.qn_model.specs.Log.{incarnation, op_out}
use Rattle.qn_model.specs.Moments.{Moment, Running, node, tick_of, time}
use Rattle.qn_model.specs.Phases.{is_up, phase}
use Rattle.qn_model.specs.declared.outputs.Out.{Out}
use Rattle.qn_model.specs.Steps.{answer_now, answer_off, holders, why_now}
use Rattle.qn_model.specs.World.{World}
use Rattle.qn_node.specs.Node.{present}
use Rattle.qn_cluster.specs.declared.waiting.Waiting.{Waiting}

-- the phase of a node; one that is off is gone
abbrev pub phase_now : Settings → Running → Phase
phase_now s node = if node.on then phase s node.log else Gone

-- the tick of a node's clock; None where the node is off
abbrev pub tick_now : Running → Option ℕ
tick_now node = if node.on then Some (tick_of node.clock) else None

-- what a node polls an arbiter with: its tick, its incarnation, which it knows, its install number and its view
abbrev pub polling : Running → ℕ × View → ℕ × ℕ × ℕ × View
polling node present = (tick_of node.clock, unwrap_or (incarnation node.log) 0, present.0, present.1)

-- what a node polls an arbiter with; None where it is not up, or has no view
abbrev pub polls_now : Settings → Running → Option (ℕ × ℕ × ℕ × View)
polls_now s node =
    if node.on && is_up (phase s node.log) then option_map (polling node) (present node.log) else None

-- what a node waits for
abbrev pub waiting_of : Running → Waiting
waiting_of node =
    record {
      running = node.on;
      fed = (if node.on then node.fed else 0);
      decided = (if node.on then node.decided else None);
      op = (if node.on then op_out node.log else None);
      stop_due = node.on && stop_due node.log;
    }

-- the count of votes of a node at its present tick; that of a node that is off where there is none
abbrev pub answer_shown : Settings → Option Rank → List Moment → Answer
answer_shown s who moments = option_map_or (λ rank. answer_now s (node s rank.0 moments)) who (answer_off s)

-- the first condition that blocks a start of a node at its present tick; Down where there is none
abbrev pub why_shown : Settings → Option Rank → List Moment → Why
why_shown s who moments = option_map_or (λ rank. why_now s rank.0 (node s rank.0 moments)) who Down

-- what is reported of a node, if one was touched, from which this came out
abbrev pub report_at : Settings → Option Rank → List Out → World → Report
report_at s who outs d =
    record {
      time = time d.moments;
      touched = who;
      outs = outs;
      holders = holders s d;
      answer = answer_shown s who d.moments;
      why = why_shown s who d.moments;
    }

-- a rank, where there is one, is configured
abbrev pub IsConfigured : Settings → Option Rank → Type 0
IsConfigured s None = Unit {0}
IsConfigured s (Some rank) = rank.0 < length s.nodes

-- a report of nothing
abbrev pub blank_report : Report
blank_report =
    record {
      time = 0;
      touched = None;
      outs = [];
      holders = record { 0 = 0 };
      answer = record { quorate = false; votes = 0; quorum = 0; expected = 0; released = false };
      why = Down;
    }

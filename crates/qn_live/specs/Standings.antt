-- Where a running node stands after a log: this project's profile.
use Rattle.std.specs.Prelude.{ℕ, List}
use Rattle.qn_model.specs.declared.configuration.Settings.{Settings}
use Rattle.qn_model.specs.Holding.{holds}
use Rattle.qn_model.specs.Log.{Line, incarnation, now}
use Rattle.qn_model.specs.NodeVotes.{answer_with_tie}
use Rattle.qn_model.specs.Phases.{phase}
use Rattle.qn_model.specs.Unmet.{unmet}
use Rattle.qn_node.specs.Node.{present}
use Rattle.qn_live.specs.declared.standing.Standing.{Standing}

-- the votes and the condition are those at the tick of the last entry
abbrev pub standing : Settings → ℕ → List Line → Standing
standing s me log =
    record {
      phase = phase s log;
      holds = holds log;
      answer = answer_with_tie s log (now log);
      why = unmet s me log (now log);
      incarnation = incarnation log;
      view = present log;
    }

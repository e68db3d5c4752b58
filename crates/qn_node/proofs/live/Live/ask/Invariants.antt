use Rattle.std.proofs.Common.{◌≡◌, ◌≤◌, ◌+◌, ℕ, None, List, [], ◌∷◌, ◌++◌, length, map}
use Rattle.std.specs.Prelude.{filter}
use Rattle.std.specs.List.{range_with_len}
use Rattle.std.specs.Option.{option_map_or}
use Rattle.qn_base.specs.Members.{is_member}
use Rattle.qn_model.specs.declared.configuration.Settings.{Settings}
use Rattle.qn_model.specs.Log.{Line, claim_of, disk_of}
use Rattle.qn_model.specs.NodeOutputs.{ask_to}
use Rattle.qn_model.specs.NodeVotes.{view}
use Rattle.qn_heard.specs.Heard.{HeardFor}
use Rattle.qn_node.proofs.live.Live.ask.Given as goal

abbrev pub invariant-loop-rank : goal.invariant-loop-rank
invariant-loop-rank l = record {
  few : l.rank-end ≤ 32;
  all : l.rank-end ≡ length l.own.settings.nodes;
  many : length l.outs ≤ length l.initial.outs + l.rank;
  asks : (s : Settings) (me : ℕ) (log : List Line) (line : Line) → HeardFor l.self.heard s me (line ∷ log) → claim_of (disk_of line.outs) ≡ None
      → l.outs ≡ l.initial.outs ++ option_map_or (λ present. map (ask_to me (line ∷ log) present) (filter (is_member l.asked) (range_with_len 0 l.rank))) (view (line ∷ log)) [];
}

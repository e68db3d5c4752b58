use Rattle.std.proofs.Common.{◌≡◌, ◌≤◌, ◌*◌, take}
use Rattle.qn_model.specs.Settings.{all_votes}
use Rattle.qn_settings.proofs.nodes.all_votes.Given as goal

abbrev pub invariant-loop-node : goal.invariant-loop-node
invariant-loop-node l = (l.total ≡ all_votes (take l.node-index l.nodes)) × (l.total ≤ l.node-index * 4294967295)

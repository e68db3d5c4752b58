use Rattle.std.proofs.Common.{◌≡◌, ◌≤◌, take}
use Rattle.std.specs.Prelude.{flat_map}
use Rattle.std.specs.Io.KnownBytes.{append_known}
use Rattle.qn_status.specs.StatusText.{state_line}
use Rattle.qn_status.proofs.text.write_lines.Given as goal

abbrev pub invariant-nodes : goal.invariant-nodes
invariant-nodes g l =
    (g.O.Sink.written l.out ≡ append_known (g.O.Sink.written l.fn.out) (flat_map state_line (take l.node-index l.nodes)))
    × (g.O.Sink.faults l.fn.out ≤ g.O.Sink.faults l.out)

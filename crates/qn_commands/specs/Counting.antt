-- What a counter can take in.
use Rattle.std.specs.Prelude.{◌<◌, ◌≤◌, List, length}
use Rattle.qn_base.specs.declared.limits.TheConstants.{MOST_EVENTS}
use Rattle.qn_model.specs.declared.nodelist.NodeEntry.{NodeEntry}
use Rattle.qn_model.specs.declared.count_line.CountLine.{CountLine}
use Rattle.qn_model.specs.declared.count_line.CountLine.TheVariants.{Node, View}
use Rattle.qn_model.specs.CountText.{Counted}

-- a further node is the 32nd at most, and its votes are in range
abbrev pub HasRoomFor : List NodeEntry → CountLine → Type 0
HasRoomFor nodes (Node entry) = (length nodes < 32) × (entry.votes ≤ 65535)
HasRoomFor nodes (View view) = Unit {0}

-- the line is the last one at most that an input may have
abbrev pub HasRoom : Counted → CountLine → Type 0
HasRoom so_far line = (so_far.lines < MOST_EVENTS) × HasRoomFor so_far.nodes line

-- What the laws of a journal say: this project's profile.
use Rattle.std.specs.Prelude.{◌≡◌, Bool, true, false, not, List, [], ◌∷◌, Option, None, Some, filter_map}
use Rattle.qn_base.specs.declared.ids.Rank.{Rank}
use Rattle.qn_model.specs.declared.entries.Entry.{Entry}
use Rattle.qn_model.specs.declared.entries.What.{What}
use Rattle.qn_model.specs.declared.entries.What.TheVariants as what
use Rattle.qn_notice.specs.declared.kinds.Event.{Event}
use Rattle.qn_notice.specs.declared.kinds.Event.TheVariants as event

-- what an event says of the resource: won or lost
abbrev pub hold_in : Event → Option Bool
hold_in event.HoldWon = Some true
hold_in event.HoldLost = Some false
hold_in other = None

abbrev pub holds_in : List Event → List Bool
holds_in told = filter_map hold_in told

-- what an event says of quorum: won or lost
abbrev pub quorum_in : Event → Option Bool
quorum_in (event.QuorumWon answer) = Some true
quorum_in (event.QuorumLost answer) = Some false
quorum_in other = None

abbrev pub quorums_in : List Event → List Bool
quorums_in told = filter_map quorum_in told

-- what an event says of a reset of another node: whose, and whether it was written
abbrev pub reset_in : Event → Option (Rank × Bool)
reset_in (event.FenceWritten rank ok) = Some (rank, ok)
reset_in other = None

abbrev pub resets_in : List Event → List (Rank × Bool)
resets_in told = filter_map reset_in told

-- the answer of the write of a reset that a node is handed
abbrev pub reset_answer : What → Option (Rank × Bool)
reset_answer (what.MailWritten rank ok) = Some (rank, ok)
reset_answer other = None

abbrev pub reset_answers : List Entry → List (Rank × Bool)
reset_answers history = filter_map (λ entry. reset_answer entry.what) history

-- so it was before, each word turns it over, and so it is after the last
abbrev pub LeadsTo : Bool → List Bool → Bool → Type 0
LeadsTo before [] after = before ≡ after
LeadsTo before (said ∷ later) after = (said ≡ not before) × LeadsTo said later after

-- The line of an event, as a schedule spells it: this project's profile.
use Rattle.std.specs.Prelude.{ℕ, List, [], ◌∷◌, ◌++◌, map, slice_index, codes, decimal}
use Rattle.std.specs.List.{join_with_byte}
use Rattle.qn_base.specs.declared.ids.Rank.{Rank}
use Rattle.qn_base.specs.Text.{yes_no}
use Rattle.qn_model.specs.declared.events.Event.{Event}
use Rattle.qn_model.specs.declared.events.Event.TheVariants.{Pass, Boot, BootClean, Crash, Land, Done, Fail, Late, View, Deliver, Device, Tick, Stopped, Unstopped, Leave, Feed, Operator}
use Rattle.qn_model.specs.Messages.{operator_word}
use Rattle.qn_names.specs.MemberWords.{member_word}

-- the id of the node of a rank, in decimal digits
abbrev pub id_word : List ℕ → Rank → List ℕ
id_word ids rank = decimal (slice_index ids rank.0)

-- a clock of a pass: `ID=ADVANCE`
abbrev pub clock_word : List ℕ → Rank × ℕ → List ℕ
clock_word ids clock = id_word ids clock.0 ++ 61 ∷ decimal clock.1

-- the words of the line of an event
abbrev pub event_words : List ℕ → Event → List (List ℕ)
event_words ids (Pass dt clocks) = codes "pass" ∷ decimal dt ∷ map (clock_word ids) clocks
event_words ids (Boot rank base) = codes "boot" ∷ id_word ids rank ∷ decimal base ∷ []
event_words ids (BootClean rank base) = codes "boot-clean" ∷ id_word ids rank ∷ decimal base ∷ []
event_words ids (Crash rank) = codes "crash" ∷ id_word ids rank ∷ []
event_words ids (Land rank) = codes "land" ∷ id_word ids rank ∷ []
event_words ids (Done rank) = codes "done" ∷ id_word ids rank ∷ []
event_words ids (Fail rank) = codes "fail" ∷ id_word ids rank ∷ []
event_words ids (Late rank number) = codes "late" ∷ id_word ids rank ∷ decimal number ∷ []
event_words ids (View rank view) = codes "view" ∷ id_word ids rank ∷ decimal view.id ∷ member_word ids view.members ∷ []
event_words ids (Deliver rank number) = codes "deliver" ∷ id_word ids rank ∷ decimal number ∷ []
event_words ids (Device rank agrees) = codes "device" ∷ id_word ids rank ∷ yes_no agrees ∷ []
event_words ids (Tick rank) = codes "tick" ∷ id_word ids rank ∷ []
event_words ids (Stopped rank) = codes "stopped" ∷ id_word ids rank ∷ []
event_words ids (Unstopped rank) = codes "unstopped" ∷ id_word ids rank ∷ []
event_words ids (Leave rank) = codes "leave" ∷ id_word ids rank ∷ []
event_words ids (Feed rank) = codes "feed" ∷ id_word ids rank ∷ []
event_words ids (Operator rank message) = codes "operator" ∷ id_word ids rank ∷ operator_word message ∷ []

-- the line of an event, without its end, where the nodes have these ids by rank
unfoldable pub event_line : List ℕ → Event → List ℕ
event_line ids event = join_with_byte 32 (event_words ids event)

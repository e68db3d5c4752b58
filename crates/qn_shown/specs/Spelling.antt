-- The text of what a node shows: one object of JSON (RFC 8259) without spaces, its keys in alphabetical order (docs/STATUS.md). This project's profile.
use Rattle.std.specs.Prelude.{ℕ, List, [], ◌∷◌, Option, Some, None, option_map, codes, decimal}
use Rattle.json.specs.Json.{Json, null, boolean, number, string, array, object, Items, no_items, item}
use Rattle.json.specs.Print.{print}
use Rattle.json.specs.Tree.{json_tokens}
use Rattle.qn_base.specs.declared.ids.NodeId.{NodeId}
use Rattle.qn_names.specs.PhaseNames.{phase_name}
use Rattle.qn_shown.specs.declared.group.Group.{Group}
use Rattle.qn_shown.specs.declared.group.Group.TheVariants.{NoGroup, Down, Looking, Starting, Runs, Unsure, Stopping, Failed, Stuck, Maintenance, Unattended}
use Rattle.qn_shown.specs.declared.shown.Arbiter.{Arbiter}
use Rattle.qn_shown.specs.declared.shown.Candidate.{Candidate}
use Rattle.qn_shown.specs.declared.shown.Candidate.TheVariants as candidate
use Rattle.qn_shown.specs.declared.shown.Heard.{Heard}
use Rattle.qn_shown.specs.declared.shown.Heard.TheVariants.{Unsaid, Nothing, Said}
use Rattle.qn_shown.specs.declared.shown.HostStanding.{HostStanding}
use Rattle.qn_shown.specs.declared.shown.Peer.{Peer}
use Rattle.qn_shown.specs.declared.shown.Shown.{Shown}
use Rattle.qn_shown.specs.declared.shown.ShownView.{ShownView}
use Rattle.qn_shown.specs.declared.shown.Told.{Told}
use Rattle.qn_shown.specs.Entries.{Entry, entries_members}
use Rattle.qn_shown.specs.Groups.{group_number}
use Rattle.qn_shown.specs.Kinds.{time_text}
use Rattle.qn_shown.specs.Words.{answer_word, mail_word}

abbrev pub whole : ℕ → Json
whole n = number (decimal n)

abbrev pub id_json : NodeId → Json
id_json id = whole id.0

abbrev pub json_or_null : {A : Type 0} → (A → Json) → Option A → Json
json_or_null spells None = null
json_or_null spells (Some a) = spells a

abbrev pub items_of : {A : Type 0} → (A → Json) → List A → Items
items_of spells [] = no_items
items_of spells (a ∷ rest) = item (spells a) (items_of spells rest)

-- what a node told, and the tick at which that came
abbrev pub told_entries : Told → ℕ → List Entry
told_entries told tick =
    (codes "group", Some (whole (group_number told.group)))
    ∷ (codes "held_ms", Some (whole told.held_ms))
    ∷ (codes "holds", Some (boolean told.holds))
    ∷ (codes "incarnation", Some (whole told.incarnation))
    ∷ (codes "leaving", Some (boolean told.leaving))
    ∷ (codes "quorate", Some (boolean told.quorate))
    ∷ (codes "tick", Some (whole tick))
    ∷ []

abbrev pub heard_json : Heard → Option Json
heard_json Unsaid = None
heard_json Nothing = Some null
heard_json (Said told tick) = Some (object (entries_members (told_entries told tick)))

abbrev pub peer_entries : Peer → List Entry
peer_entries peer =
    (codes "hello_tick", Some (json_or_null whole peer.hello_tick))
    ∷ (codes "id", Some (id_json peer.id))
    ∷ (codes "name", option_map string peer.name)
    ∷ (codes "network_down", option_map whole peer.network_down)
    ∷ (codes "refused", option_map whole peer.refused)
    ∷ (codes "told", heard_json peer.told)
    ∷ []

abbrev pub peer_json : Peer → Json
peer_json peer = object (entries_members (peer_entries peer))

-- whom a view names: null is nobody in particular, 0 that none may start
abbrev pub candidate_json : Candidate → Option Json
candidate_json candidate.Unsaid = None
candidate_json candidate.Unnamed = Some null
candidate_json candidate.Nobody = Some (whole 0)
candidate_json (candidate.Named id) = Some (id_json id)

abbrev pub view_entries : ShownView → List Entry
view_entries view =
    (codes "candidate", candidate_json view.candidate)
    ∷ (codes "id", Some (whole view.id))
    ∷ (codes "members", Some (array (items_of id_json view.members.items)))
    ∷ []

abbrev pub view_json : ShownView → Json
view_json view = object (entries_members (view_entries view))

-- what was heard of the arbiter
abbrev pub arbiter_entries : Arbiter → List Entry
arbiter_entries arbiter =
    (codes "address", Some (json_or_null string arbiter.address))
    ∷ (codes "age", Some (whole arbiter.age_ms))
    ∷ (codes "answer", Some (string (answer_word arbiter.answer)))
    ∷ (codes "no", Some (whole arbiter.no))
    ∷ (codes "polls", Some (whole arbiter.polls))
    ∷ (codes "refused", Some (whole arbiter.refused))
    ∷ (codes "yes", Some (whole arbiter.yes))
    ∷ []

abbrev pub arbiter_json : Arbiter → Json
arbiter_json arbiter = object (entries_members (arbiter_entries arbiter))

-- what the host says
abbrev pub standing_entries : HostStanding → List Entry
standing_entries standing =
    (codes "fit", Some (boolean standing.fit))
    ∷ (codes "pull", Some (boolean standing.pull))
    ∷ (codes "standby", Some (boolean standing.standby))
    ∷ (codes "weight", Some (whole standing.weight))
    ∷ []

abbrev pub standing_json : HostStanding → Json
standing_json standing = object (entries_members (standing_entries standing))

-- the group: nothing where there is none, null where nothing looks after it
abbrev pub group_json : Group → Option Json
group_json NoGroup = None
group_json Down = Some (whole 1)
group_json Looking = Some (whole 2)
group_json Starting = Some (whole 3)
group_json Runs = Some (whole 4)
group_json Unsure = Some (whole 5)
group_json Stopping = Some (whole 6)
group_json Failed = Some (whole 7)
group_json Stuck = Some (whole 8)
group_json Maintenance = Some (whole 9)
group_json Unattended = Some null

-- the keys, with their values; `arbiter`, `group`, `held_ms`, `images`, `name` and `standing` are left out where they say nothing
abbrev pub shown_entries : Shown → List Entry
shown_entries s =
    (codes "arbiter", option_map arbiter_json s.arbiter)
    ∷ (codes "dropped", Some (whole s.counts.dropped))
    ∷ (codes "end", Some (json_or_null string s.end))
    ∷ (codes "expected", Some (whole s.answer.expected))
    ∷ (codes "format", Some (whole 1))
    ∷ (codes "group", group_json s.group)
    ∷ (codes "held_ms", option_map whole s.held_ms)
    ∷ (codes "holds", Some (boolean s.holds))
    ∷ (codes "id", Some (id_json s.id))
    ∷ (codes "images", option_map whole s.images)
    ∷ (codes "incarnation", Some (json_or_null whole s.incarnation))
    ∷ (codes "late", Some (whole s.counts.late))
    ∷ (codes "loop", Some (whole s.loop_ms))
    ∷ (codes "mail", Some (string (mail_word s.mailbox.state)))
    ∷ (codes "mail_by", Some (json_or_null id_json s.mailbox.by))
    ∷ (codes "mail_tick", Some (json_or_null whole s.mailbox.tick))
    ∷ (codes "name", option_map string s.name)
    ∷ (codes "peers", Some (array (items_of peer_json s.peers.items)))
    ∷ (codes "phase", Some (string (phase_name s.phase)))
    ∷ (codes "pid", Some (whole s.pid))
    ∷ (codes "quorate", Some (boolean s.answer.quorate))
    ∷ (codes "quorum", Some (whole s.answer.quorum))
    ∷ (codes "refused", Some (whole s.counts.refused))
    ∷ (codes "released", Some (boolean s.answer.released))
    ∷ (codes "standing", option_map standing_json s.standing)
    ∷ (codes "tick", Some (whole s.tick))
    ∷ (codes "time", Some (number (time_text s.time_ms)))
    ∷ (codes "unwritten", Some (whole s.counts.unwritten))
    ∷ (codes "view", Some (json_or_null view_json s.view))
    ∷ (codes "votes", Some (whole s.answer.votes))
    ∷ (codes "why", Some (string s.why))
    ∷ []

abbrev pub shown_json : Shown → Json
shown_json s = object (entries_members (shown_entries s))

-- the text
abbrev pub shown_text : Shown → List ℕ
shown_text s = print (json_tokens (shown_json s))

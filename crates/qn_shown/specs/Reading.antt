-- What a text of JSON says of what a node shows: each key is looked up, and others are passed over. This project's profile.
use Rattle.std.specs.Prelude.{ℕ, Bool, true, false, List, [], ◌∷◌, ◌==◌, Option, Some, None, option_and_then, option_map, codes, length, nat_le, if◌then◌else◌}
use Rattle.json.specs.Json.{Json, Items, no_items, item, document}
use Rattle.json.specs.Find.{as_array, as_bool, get, is_null}
use Rattle.qn_base.specs.declared.ids.NodeId.{NodeId}
use Rattle.qn_model.specs.declared.life.Phase.{Phase}
use Rattle.qn_model.specs.declared.votes.Answer.{Answer}
use Rattle.qn_shown.specs.declared.fault.ShownFault.{ShownFault}
use Rattle.qn_shown.specs.declared.fault.ShownFault.TheVariants.{Format, Key, NoMemory, NotJson, Repeated}
use Rattle.qn_shown.specs.declared.group.Group.{Group}
use Rattle.qn_shown.specs.declared.group.Group.TheVariants.{NoGroup, Unattended}
use Rattle.qn_shown.specs.declared.shown.Arbiter.{Arbiter}
use Rattle.qn_shown.specs.declared.shown.Candidate.{Candidate}
use Rattle.qn_shown.specs.declared.shown.Candidate.TheVariants as candidate
use Rattle.qn_shown.specs.declared.shown.Counts.{Counts}
use Rattle.qn_shown.specs.declared.shown.Heard.{Heard}
use Rattle.qn_shown.specs.declared.shown.Heard.TheVariants.{Unsaid, Nothing, Said}
use Rattle.qn_shown.specs.declared.shown.HostStanding.{HostStanding}
use Rattle.qn_shown.specs.declared.shown.Mailbox.{Mailbox}
use Rattle.qn_shown.specs.declared.shown.Peer.{Peer}
use Rattle.qn_shown.specs.declared.shown.Shown.{Shown}
use Rattle.qn_shown.specs.declared.shown.ShownView.{ShownView}
use Rattle.qn_shown.specs.Kinds.{device_answer_in, host_group_in, id_in, id_of, mail_in, period_in, phase_in, text_in, time_in, told_group_in, weight_in, whole_in}

-- the value of a key, read so
abbrev pub key_in : {A : Type 0} → (Json → Option A) → List ℕ → Json → Option A
key_in reads key j = option_and_then reads (get key j)

-- null, or a value that is read so
abbrev pub or_null : {A : Type 0} → (Json → Option A) → Json → Option (Option A)
or_null reads j = if is_null j then Some None else option_map (λ a. Some a) (reads j)

-- the value of a key that may be absent
abbrev pub if_there : {A : Type 0} → (Json → Option A) → Option Json → Option (Option A)
if_there reads None = Some None
if_there reads (Some j) = option_map (λ a. Some a) (reads j)

abbrev pub optional_in : {A : Type 0} → (Json → Option A) → List ℕ → Json → Option (Option A)
optional_in reads key j = if_there reads (get key j)

-- the group of a host: none where the key is absent
abbrev pub group_if_there : Option Json → Option Group
group_if_there None = Some NoGroup
group_if_there (Some j) = if is_null j then Some Unattended else host_group_in j

-- a function of one more value, where both were read
infixl 10 ◌<*>◌
abbrev pub ◌<*>◌ : {A B : Type 0} → Option (A → B) → Option A → Option B
(Some f) <*> (Some a) = Some (f a)
(Some f) <*> None = None
None <*> a = None

-- a list of at most 32
abbrev pub few : {A : Type 0} → List A → Option (List A)
few xs = if nat_le (length xs) 32 then Some xs else None

abbrev pub all_in : {A : Type 0} → (Json → Option A) → Items → Option (List A)
all_in reads no_items = Some []
all_in reads (item j js) = Some (λ a rest. a ∷ rest) <*> reads j <*> all_in reads js

abbrev pub list_in : {A : Type 0} → (Json → Option A) → Json → Option (List A)
list_in reads j = option_and_then few (option_and_then (all_in reads) (as_array j))

abbrev pub ids_in : Json → Option (List NodeId)
ids_in = list_in id_in

-- what a node told, and the tick at which that came
abbrev pub told_in : Json → Option Heard
told_in j =
    Some (λ group held_ms holds incarnation leaving quorate tick.
    Said (record { group = group; held_ms = held_ms; holds = holds; incarnation = incarnation; leaving = leaving; quorate = quorate }) tick)
    <*> key_in told_group_in (codes "group") j
    <*> key_in whole_in (codes "held_ms") j
    <*> key_in as_bool (codes "holds") j
    <*> key_in whole_in (codes "incarnation") j
    <*> key_in as_bool (codes "leaving") j
    <*> key_in as_bool (codes "quorate") j
    <*> key_in whole_in (codes "tick") j

abbrev pub heard_of : Option Json → Option Heard
heard_of None = Some Unsaid
heard_of (Some j) = if is_null j then Some Nothing else told_in j

abbrev pub peer_in : Json → Option Peer
peer_in j =
    Some (λ hello id name network refused told.
    record { hello_tick = hello; id = id; name = name; network_down = network; refused = refused; told = told })
    <*> key_in (or_null whole_in) (codes "hello_tick") j
    <*> key_in id_in (codes "id") j
    <*> optional_in (text_in 63) (codes "name") j
    <*> optional_in whole_in (codes "network_down") j
    <*> optional_in whole_in (codes "refused") j
    <*> heard_of (get (codes "told") j)

abbrev pub peers_in : Json → Option (List Peer)
peers_in = list_in peer_in

-- whom a view names: 0 that none may start, else a node
abbrev pub named_by : ℕ → Option Candidate
named_by n = if n == 0 then Some candidate.Nobody else option_map (λ id. candidate.Named id) (id_of n)

abbrev pub candidate_of : Option Json → Option Candidate
candidate_of None = Some candidate.Unsaid
candidate_of (Some j) = if is_null j then Some candidate.Unnamed else option_and_then named_by (whole_in j)

abbrev pub view_in : Json → Option ShownView
view_in j =
    Some (λ candidate id members. record { candidate = candidate; id = id; members = record { items = members } })
    <*> candidate_of (get (codes "candidate") j)
    <*> key_in whole_in (codes "id") j
    <*> key_in ids_in (codes "members") j

-- what was heard of the arbiter
abbrev pub arbiter_in : Json → Option Arbiter
arbiter_in j =
    Some (λ address age answer no polls refused yes.
    record { address = address; age_ms = age; answer = answer; no = no; polls = polls; refused = refused; yes = yes })
    <*> key_in (or_null (text_in 256)) (codes "address") j
    <*> key_in whole_in (codes "age") j
    <*> key_in device_answer_in (codes "answer") j
    <*> key_in whole_in (codes "no") j
    <*> key_in whole_in (codes "polls") j
    <*> key_in whole_in (codes "refused") j
    <*> key_in whole_in (codes "yes") j

-- what the host says
abbrev pub standing_in : Json → Option HostStanding
standing_in j =
    Some (λ fit pull standby weight. record { fit = fit; pull = pull; standby = standby; weight = weight })
    <*> key_in as_bool (codes "fit") j
    <*> key_in as_bool (codes "pull") j
    <*> key_in as_bool (codes "standby") j
    <*> key_in weight_in (codes "weight") j

abbrev pub answer_in : Json → Option Answer
answer_in j =
    Some (λ expected quorate quorum released votes. record { votes = votes; quorum = quorum; expected = expected; quorate = quorate; released = released })
    <*> key_in whole_in (codes "expected") j
    <*> key_in as_bool (codes "quorate") j
    <*> key_in whole_in (codes "quorum") j
    <*> key_in as_bool (codes "released") j
    <*> key_in whole_in (codes "votes") j

abbrev pub counts_in : Json → Option Counts
counts_in j =
    Some (λ dropped late refused unwritten. record { dropped = dropped; late = late; refused = refused; unwritten = unwritten })
    <*> key_in whole_in (codes "dropped") j
    <*> key_in whole_in (codes "late") j
    <*> key_in whole_in (codes "refused") j
    <*> key_in whole_in (codes "unwritten") j

abbrev pub mailbox_in : Json → Option Mailbox
mailbox_in j =
    Some (λ state by tick. record { state = state; by = by; tick = tick })
    <*> key_in mail_in (codes "mail") j
    <*> key_in (or_null id_in) (codes "mail_by") j
    <*> key_in (or_null whole_in) (codes "mail_tick") j

-- the one format
abbrev pub format_in : Json → Option (Unit {0})
format_in j = option_and_then (λ format. if format == 1 then Some tt else None) (key_in whole_in (codes "format") j)

-- what is shown, made of its parts
abbrev pub shown_by : Unit {0} → Answer → Option Arbiter → Counts → Option (List ℕ) → Group → Option ℕ → Bool → NodeId → Option ℕ → Option ℕ → ℕ → Mailbox → Option (List ℕ) → List Peer → Phase → ℕ → Option HostStanding → ℕ → ℕ → Option ShownView → List ℕ → Shown
shown_by format answer arbiter counts end group held_ms holds id images incarnation loop_ms mailbox name peers phase pid standing tick time_ms view why =
    record {
      answer = answer;
      arbiter = arbiter;
      counts = counts;
      end = end;
      group = group;
      held_ms = held_ms;
      holds = holds;
      id = id;
      images = images;
      incarnation = incarnation;
      loop_ms = loop_ms;
      mailbox = mailbox;
      name = name;
      peers = record { items = peers };
      phase = phase;
      pid = pid;
      standing = standing;
      tick = tick;
      time_ms = time_ms;
      view = view;
      why = why;
    }

abbrev pub shown_of : Json → Option Shown
shown_of j =
    Some shown_by
    <*> format_in j
    <*> answer_in j
    <*> optional_in arbiter_in (codes "arbiter") j
    <*> counts_in j
    <*> key_in (or_null (text_in 256)) (codes "end") j
    <*> group_if_there (get (codes "group") j)
    <*> optional_in whole_in (codes "held_ms") j
    <*> key_in as_bool (codes "holds") j
    <*> key_in id_in (codes "id") j
    <*> optional_in whole_in (codes "images") j
    <*> key_in (or_null whole_in) (codes "incarnation") j
    <*> key_in period_in (codes "loop") j
    <*> mailbox_in j
    <*> optional_in (text_in 63) (codes "name") j
    <*> key_in peers_in (codes "peers") j
    <*> key_in phase_in (codes "phase") j
    <*> key_in whole_in (codes "pid") j
    <*> optional_in standing_in (codes "standing") j
    <*> key_in whole_in (codes "tick") j
    <*> key_in time_in (codes "time") j
    <*> key_in (or_null view_in) (codes "view") j
    <*> key_in (text_in 256) (codes "why") j

-- what a text says
abbrev pub shown_in : List ℕ → Option Shown
shown_in text = option_and_then shown_of (document text)

-- a fault of the text, beside a key that stands twice
abbrev pub says_nothing : ShownFault → Bool
says_nothing NotJson = true
says_nothing Repeated = false
says_nothing (Format format) = true
says_nothing (Key key) = true
says_nothing NoMemory = false

-- The text of what a node shows is read back.
use Rattle.std.proofs.Common.{◌≡◌, ◌≤◌, ℕ, ◌<◌, ◌^◌, List, [], ◌∷◌, Option, Some, None, option_and_then, option_map, refl, sym, ap, ap₂, ◌∙◌, ◌==◌, if◌then◌else◌, codes, arith}
use Rattle.json.specs.Json.{Json, null, boolean, number, string, array, object, document}
use Rattle.json.specs.Find.{as_bool, get, get_member, later_or}
use Rattle.json.specs.Tree.{HasNumbers, depth}
use Rattle.json.proofs.Printed.Decimals.{IsNumber-decimal}
use Rattle.json.proofs.Printed.Trees.{document-print}
use Rattle.qn_base.specs.declared.ids.NodeId.{NodeId}
use Rattle.qn_model.specs.declared.votes.Answer.{Answer}
use Rattle.qn_shown.specs.declared.group.Group.{Group}
use Rattle.qn_shown.specs.declared.group.Group.TheVariants.{NoGroup, Down, Looking, Starting, Runs, Unsure, Stopping, Failed, Stuck, Maintenance, Unattended}
use Rattle.qn_shown.specs.declared.shown.Arbiter.{Arbiter}
use Rattle.qn_shown.specs.declared.shown.Candidate.{Candidate}
use Rattle.qn_shown.specs.declared.shown.Candidate.TheVariants as candidate
use Rattle.qn_shown.specs.declared.shown.Counts.{Counts}
use Rattle.qn_shown.specs.declared.shown.Heard.{Heard}
use Rattle.qn_shown.specs.declared.shown.Heard.TheVariants.{Unsaid, Nothing, Said}
use Rattle.qn_shown.specs.declared.shown.HostStanding.{HostStanding}
use Rattle.qn_shown.specs.declared.shown.Mailbox.{Mailbox}
use Rattle.qn_shown.specs.declared.shown.Peer.{Peer}
use Rattle.qn_shown.specs.declared.shown.Shown.{Shown}
use Rattle.qn_shown.specs.declared.shown.ShownView.{ShownView}
use Rattle.qn_shown.specs.declared.shown.Told.{Told}
use Rattle.qn_shown.specs.Entries.{Entry, entries_members}
use Rattle.qn_shown.specs.Fits.{AllOf, ArbiterFits, CandidateFits, Fits, FitsTypes, HeardFits, IsId, OnValue, PeerFits, StandingFits, ToldFits, ViewFits, Within}
use Rattle.qn_shown.specs.Groups.{group_number}
use Rattle.qn_shown.specs.Kinds.{device_answer_in, id_in, mail_in, period_in, phase_in, text_in, time_in, time_text, told_group_in, weight_in, whole_in}
use Rattle.qn_shown.specs.Reading.{◌<*>◌, answer_in, arbiter_in, candidate_of, counts_in, format_in, group_if_there, heard_of, if_there, ids_in, key_in, mailbox_in, optional_in, or_null, peer_in, peers_in, shown_by, shown_in, shown_of, standing_in, told_in, view_in}
use Rattle.qn_shown.specs.Spelling.{arbiter_entries, arbiter_json, candidate_json, group_json, heard_json, id_json, items_of, json_or_null, peer_entries, peer_json, shown_entries, shown_json, shown_text, standing_entries, standing_json, told_entries, view_entries, view_json, whole}
use Rattle.qn_shown.proofs.Members.{AreFlat, HaveNumbers, ValueHasNumbers, ValueIsFlat, flat, found, items_flat, items_numbers, last_of, numbers}
use Rattle.qn_shown.proofs.ValuesBack.{both, candidate_back, device_answer_back, group_number_fits, host_group_back, id_back, list_back, mail_back, null_back, period_back, phase_back, text_back, there_back, time_in_back, told_group_back, weight_back, whole_back}
use Rattle.qn_shown.proofs.Times.{time_number}

-- a key is found, and its value is read
key : {A : Type 0} (reads : Json → Option A) (name : List ℕ) (entries : List Entry) (j : Json) (a : A) → last_of name entries ≡ Some j → reads j ≡ Some a
    → key_in reads name (object (entries_members entries)) ≡ Some a
key reads name entries j a at back = ap (option_and_then reads) (found name entries ∙ at) ∙ back

maybe_whole : (n : Option ℕ) → OnValue Fits n → or_null whole_in (json_or_null whole n) ≡ Some n
maybe_whole n fits = null_back whole whole_in whole_back (λ n. refl) n fits

maybe_id : (id : Option NodeId) → OnValue IsId id → or_null id_in (json_or_null id_json id) ≡ Some id
maybe_id id fits = null_back id_json id_in id_back (λ id. refl) id fits

maybe_text : (text : Option (List ℕ)) → OnValue (Within 256) text → or_null (text_in 256) (json_or_null string text) ≡ Some text
maybe_text text fits = null_back string (text_in 256) (text_back 256) (λ text. refl) text fits

-- what a node told
said_back : (told : Told) (tick : ℕ) → ToldFits told → Fits tick → told_in (object (entries_members (told_entries told tick))) ≡ Some (Said told tick)
said_back told tick fits in_time =
    let es = told_entries told tick in
    let step0 = both (Some (λ group held_ms holds incarnation leaving quorate tick. Said (record { group = group; held_ms = held_ms; holds = holds; incarnation = incarnation; leaving = leaving; quorate = quorate }) tick)) _ _ told.group refl (key told_group_in (codes "group") es _ told.group refl (told_group_back told.group)) in
    let step1 = both _ _ _ told.held_ms step0 (key whole_in (codes "held_ms") es _ told.held_ms refl (whole_back told.held_ms fits.0)) in
    let step2 = both _ _ _ told.holds step1 (key as_bool (codes "holds") es _ told.holds refl refl) in
    let step3 = both _ _ _ told.incarnation step2 (key whole_in (codes "incarnation") es _ told.incarnation refl (whole_back told.incarnation fits.1)) in
    let step4 = both _ _ _ told.leaving step3 (key as_bool (codes "leaving") es _ told.leaving refl refl) in
    let step5 = both _ _ _ told.quorate step4 (key as_bool (codes "quorate") es _ told.quorate refl refl) in
    both _ _ _ tick step5 (key whole_in (codes "tick") es _ tick refl (whole_back tick in_time))

heard_back : (heard : Heard) → HeardFits heard → heard_of (heard_json heard) ≡ Some heard
heard_back Unsaid fits = refl
heard_back Nothing fits = refl
heard_back (Said told tick) fits = said_back told tick fits.0 fits.1

-- the keys of a peer that may be left out
peer_name_there : (peer : Peer) → last_of (codes "name") (peer_entries peer) ≡ option_map string peer.name
peer_name_there peer = by_name peer.name
  where
    by_name : (name : Option (List ℕ)) → last_of (codes "name") (peer_entries (record peer { name = name })) ≡ option_map string name
    by_name None = refl
    by_name (Some text) = refl

network_there : (peer : Peer) → last_of (codes "network_down") (peer_entries peer) ≡ option_map whole peer.network_down
network_there peer = by_network peer.network_down
  where
    by_network : (network : Option ℕ) → last_of (codes "network_down") (peer_entries (record peer { network_down = network })) ≡ option_map whole network
    by_network None = refl
    by_network (Some n) = refl

refused_there : (peer : Peer) → last_of (codes "refused") (peer_entries peer) ≡ option_map whole peer.refused
refused_there peer = by_count peer.refused
  where
    by_count : (count : Option ℕ) → last_of (codes "refused") (peer_entries (record peer { refused = count })) ≡ option_map whole count
    by_count None = refl
    by_count (Some n) = refl

told_there : (peer : Peer) → last_of (codes "told") (peer_entries peer) ≡ heard_json peer.told
told_there peer = by_heard peer.told
  where
    by_heard : (heard : Heard) → last_of (codes "told") (peer_entries (record peer { told = heard })) ≡ heard_json heard
    by_heard Unsaid = refl
    by_heard Nothing = refl
    by_heard (Said told tick) = refl

peer_back : (peer : Peer) → PeerFits peer → peer_in (peer_json peer) ≡ Some peer
peer_back peer fits =
    let es = peer_entries peer in
    let hello = key (or_null whole_in) (codes "hello_tick") es _ peer.hello_tick refl (maybe_whole peer.hello_tick fits.hello_tick) in
    let step0 = both (Some (λ hello id name network refused told. record { hello_tick = hello; id = id; name = name; network_down = network; refused = refused; told = told })) _ _ peer.hello_tick refl hello in
    let step1 = both _ _ _ peer.id step0 (key id_in (codes "id") es _ peer.id refl (id_back peer.id fits.id)) in
    let name = ap (if_there (text_in 63)) (found (codes "name") es ∙ peer_name_there peer) ∙ there_back string (text_in 63) (text_back 63) peer.name fits.name in
    let step2 = both _ _ _ peer.name step1 name in
    let network = ap (if_there whole_in) (found (codes "network_down") es ∙ network_there peer) ∙ there_back whole whole_in whole_back peer.network_down fits.network_down in
    let step2a = both _ _ _ peer.network_down step2 network in
    let refused = ap (if_there whole_in) (found (codes "refused") es ∙ refused_there peer) ∙ there_back whole whole_in whole_back peer.refused fits.refused in
    let step3 = both _ _ _ peer.refused step2a refused in
    both _ _ _ peer.told step3 (ap heard_of (found (codes "told") es ∙ told_there peer) ∙ heard_back peer.told fits.told)

candidate_there : (view : ShownView) → last_of (codes "candidate") (view_entries view) ≡ candidate_json view.candidate
candidate_there view = later_value (candidate_json view.candidate)
  where
    later_value : (value : Option Json) → later_or None value ≡ value
    later_value None = refl
    later_value (Some j) = refl

view_back : (view : ShownView) → ViewFits view → view_in (view_json view) ≡ Some view
view_back view fits =
    let es = view_entries view in
    let named = ap candidate_of (found (codes "candidate") es ∙ candidate_there view) ∙ candidate_back view.candidate fits.candidate in
    let step = both (Some (λ candidate id members. record { candidate = candidate; id = id; members = record { items = members } })) _ _ view.candidate refl named in
    let id = key whole_in (codes "id") es _ view.id refl (whole_back view.id fits.id) in
    let step0 = both _ _ _ view.id step id in
    both _ _ _ view.members.items step0
    (key ids_in (codes "members") es _ view.members.items refl (list_back id_json id_in id_back view.members.items fits.members fits.count))

maybe_view : (view : Option ShownView) → OnValue ViewFits view → or_null view_in (json_or_null view_json view) ≡ Some view
maybe_view view fits = null_back view_json view_in view_back (λ view. refl) view fits

arbiter_back : (arbiter : Arbiter) → ArbiterFits arbiter → arbiter_in (arbiter_json arbiter) ≡ Some arbiter
arbiter_back arbiter fits =
    let es = arbiter_entries arbiter in
    let step0 = both (Some (λ address age answer no polls refused yes. record { address = address; age_ms = age; answer = answer; no = no; polls = polls; refused = refused; yes = yes })) _ _ arbiter.address refl (key (or_null (text_in 256)) (codes "address") es _ arbiter.address refl (maybe_text arbiter.address fits.address)) in
    let step1 = both _ _ _ arbiter.age_ms step0 (key whole_in (codes "age") es _ arbiter.age_ms refl (whole_back _ fits.age_ms)) in
    let step2 = both _ _ _ arbiter.answer step1 (key device_answer_in (codes "answer") es _ arbiter.answer refl (device_answer_back arbiter.answer)) in
    let step3 = both _ _ _ arbiter.no step2 (key whole_in (codes "no") es _ arbiter.no refl (whole_back _ fits.no)) in
    let step4 = both _ _ _ arbiter.polls step3 (key whole_in (codes "polls") es _ arbiter.polls refl (whole_back _ fits.polls)) in
    let step5 = both _ _ _ arbiter.refused step4 (key whole_in (codes "refused") es _ arbiter.refused refl (whole_back _ fits.refused)) in
    both _ _ _ arbiter.yes step5 (key whole_in (codes "yes") es _ arbiter.yes refl (whole_back _ fits.yes))

standing_back : (standing : HostStanding) → StandingFits standing → standing_in (standing_json standing) ≡ Some standing
standing_back standing fits =
    let es = standing_entries standing in
    let step0 = both (Some (λ fit pull standby weight. record { fit = fit; pull = pull; standby = standby; weight = weight })) _ _ standing.fit refl (key as_bool (codes "fit") es _ standing.fit refl refl) in
    let step1 = both _ _ _ standing.pull step0 (key as_bool (codes "pull") es _ standing.pull refl refl) in
    let step2 = both _ _ _ standing.standby step1 (key as_bool (codes "standby") es _ standing.standby refl refl) in
    both _ _ _ standing.weight step2 (key weight_in (codes "weight") es _ standing.weight refl (weight_back standing.weight fits))

answer_back : (s : Shown) → FitsTypes s → answer_in (shown_json s) ≡ Some s.answer
answer_back s fit =
    let es = shown_entries s in
    let step0 = both (Some (λ expected quorate quorum released votes. record { votes = votes; quorum = quorum; expected = expected; quorate = quorate; released = released })) _ _ s.answer.expected refl (key whole_in (codes "expected") es _ s.answer.expected refl (whole_back _ fit.answer.expected)) in
    let step1 = both _ _ _ s.answer.quorate step0 (key as_bool (codes "quorate") es _ s.answer.quorate refl refl) in
    let step2 = both _ _ _ s.answer.quorum step1 (key whole_in (codes "quorum") es _ s.answer.quorum refl (whole_back _ fit.answer.quorum)) in
    let step3 = both _ _ _ s.answer.released step2 (key as_bool (codes "released") es _ s.answer.released refl refl) in
    both _ _ _ s.answer.votes step3 (key whole_in (codes "votes") es _ s.answer.votes refl (whole_back _ fit.answer.votes))

counts_back : (s : Shown) → FitsTypes s → counts_in (shown_json s) ≡ Some s.counts
counts_back s fit =
    let es = shown_entries s in
    let step0 = both (Some (λ dropped late refused unwritten. record { dropped = dropped; late = late; refused = refused; unwritten = unwritten })) _ _ s.counts.dropped refl (key whole_in (codes "dropped") es _ s.counts.dropped refl (whole_back _ fit.counts.dropped)) in
    let step1 = both _ _ _ s.counts.late step0 (key whole_in (codes "late") es _ s.counts.late refl (whole_back _ fit.counts.late)) in
    let step2 = both _ _ _ s.counts.refused step1 (key whole_in (codes "refused") es _ s.counts.refused refl (whole_back _ fit.counts.refused)) in
    both _ _ _ s.counts.unwritten step2 (key whole_in (codes "unwritten") es _ s.counts.unwritten refl (whole_back _ fit.counts.unwritten))

mailbox_back : (s : Shown) → FitsTypes s → mailbox_in (shown_json s) ≡ Some s.mailbox
mailbox_back s fit =
    let es = shown_entries s in
    let step0 = both (Some (λ state by tick. record { state = state; by = by; tick = tick })) _ _ s.mailbox.state refl (key mail_in (codes "mail") es _ s.mailbox.state refl (mail_back s.mailbox.state)) in
    let step1 = both _ _ _ s.mailbox.by step0 (key (or_null id_in) (codes "mail_by") es _ s.mailbox.by refl (maybe_id s.mailbox.by fit.mailbox.by)) in
    both _ _ _ s.mailbox.tick step1 (key (or_null whole_in) (codes "mail_tick") es _ s.mailbox.tick refl (maybe_whole s.mailbox.tick fit.mailbox.tick))

-- a key that may be left out
there : {A : Type 0} (spells : A → Json) (value : Option A) → later_or None (option_map spells value) ≡ option_map spells value
there spells None = refl
there spells (Some a) = refl

arbiter_key : (s : Shown) → FitsTypes s → optional_in arbiter_in (codes "arbiter") (shown_json s) ≡ Some s.arbiter
arbiter_key s fit =
    ap (if_there arbiter_in) (found (codes "arbiter") (shown_entries s) ∙ there arbiter_json s.arbiter)
    ∙ there_back arbiter_json arbiter_in arbiter_back s.arbiter fit.arbiter

images_there : (s : Shown) → last_of (codes "images") (shown_entries s) ≡ option_map whole s.images
images_there s = by_count s.images
  where
    by_count : (count : Option ℕ) → last_of (codes "images") (shown_entries (record s { images = count })) ≡ option_map whole count
    by_count None = refl
    by_count (Some n) = refl

images_back : (s : Shown) → FitsTypes s → optional_in whole_in (codes "images") (shown_json s) ≡ Some s.images
images_back s fit =
    ap (if_there whole_in) (found (codes "images") (shown_entries s) ∙ images_there s) ∙ there_back whole whole_in whole_back s.images fit.images

standing_there : (s : Shown) → last_of (codes "standing") (shown_entries s) ≡ option_map standing_json s.standing
standing_there s = by_words s.standing
  where
    by_words : (standing : Option HostStanding) → last_of (codes "standing") (shown_entries (record s { standing = standing })) ≡ option_map standing_json standing
    by_words None = refl
    by_words (Some words) = refl

standing_key : (s : Shown) → FitsTypes s → optional_in standing_in (codes "standing") (shown_json s) ≡ Some s.standing
standing_key s fit =
    ap (if_there standing_in) (found (codes "standing") (shown_entries s) ∙ standing_there s)
    ∙ there_back standing_json standing_in standing_back s.standing fit.standing

name_there : (s : Shown) → last_of (codes "name") (shown_entries s) ≡ option_map string s.name
name_there s = by_name s.name
  where
    by_name : (name : Option (List ℕ)) → last_of (codes "name") (shown_entries (record s { name = name })) ≡ option_map string name
    by_name None = refl
    by_name (Some text) = refl

name_back : (s : Shown) → FitsTypes s → optional_in (text_in 63) (codes "name") (shown_json s) ≡ Some s.name
name_back s fit =
    ap (if_there (text_in 63)) (found (codes "name") (shown_entries s) ∙ name_there s) ∙ there_back string (text_in 63) (text_back 63) s.name fit.name

group_there : (s : Shown) → last_of (codes "group") (shown_entries s) ≡ group_json s.group
group_there s = later_value (group_json s.group)
  where
    later_value : (value : Option Json) → later_or (later_or (later_or (later_or (later_or value None) None) None) None) None ≡ value
    later_value None = refl
    later_value (Some j) = refl

group_back : (s : Shown) → group_if_there (get (codes "group") (shown_json s)) ≡ Some s.group
group_back s = ap group_if_there (found (codes "group") (shown_entries s) ∙ group_there s) ∙ host_group_back s.group

held_there : (s : Shown) → last_of (codes "held_ms") (shown_entries s) ≡ option_map whole s.held_ms
held_there s = by_time s.held_ms
  where
    by_time : (time : Option ℕ) → last_of (codes "held_ms") (shown_entries (record s { held_ms = time })) ≡ option_map whole time
    by_time None = refl
    by_time (Some n) = refl

held_back : (s : Shown) → FitsTypes s → optional_in whole_in (codes "held_ms") (shown_json s) ≡ Some s.held_ms
held_back s fit =
    ap (if_there whole_in) (found (codes "held_ms") (shown_entries s) ∙ held_there s) ∙ there_back whole whole_in whole_back s.held_ms fit.held_ms

format_back : (s : Shown) → format_in (shown_json s) ≡ Some tt
format_back s =
    ap (option_and_then (λ format. if format == 1 then Some tt else None)) (key whole_in (codes "format") (shown_entries s) _ 1 refl (whole_back 1 (omega arith)))

read_shown : (s : Shown) → FitsTypes s → shown_of (shown_json s) ≡ Some s
read_shown s fit =
    let es = shown_entries s in
    let step0 = both (Some shown_by) _ _ tt refl (format_back s) in
    let step1 = both _ _ _ s.answer step0 (answer_back s fit) in
    let step1a = both _ _ _ s.arbiter step1 (arbiter_key s fit) in
    let step2 = both _ _ _ s.counts step1a (counts_back s fit) in
    let step3 = both _ _ _ s.end step2 (key (or_null (text_in 256)) (codes "end") es _ s.end refl (maybe_text s.end fit.end)) in
    let step3a = both _ _ _ s.group step3 (group_back s) in
    let step3b = both _ _ _ s.held_ms step3a (held_back s fit) in
    let step4 = both _ _ _ s.holds step3b (key as_bool (codes "holds") es _ s.holds refl refl) in
    let step5 = both _ _ _ s.id step4 (key id_in (codes "id") es _ s.id refl (id_back s.id fit.id)) in
    let step5a = both _ _ _ s.images step5 (images_back s fit) in
    let step6 = both _ _ _ s.incarnation step5a (key (or_null whole_in) (codes "incarnation") es _ s.incarnation refl (maybe_whole s.incarnation fit.incarnation)) in
    let step7 = both _ _ _ s.loop_ms step6 (key period_in (codes "loop") es _ s.loop_ms refl (period_back s.loop_ms fit.loop_ms)) in
    let step8 = both _ _ _ s.mailbox step7 (mailbox_back s fit) in
    let step9 = both _ _ _ s.name step8 (name_back s fit) in
    let step10 = both _ _ _ s.peers.items step9 (key peers_in (codes "peers") es _ s.peers.items refl (list_back peer_json peer_in peer_back s.peers.items fit.peers fit.peer_count)) in
    let step11 = both _ _ _ s.phase step10 (key phase_in (codes "phase") es _ s.phase refl (phase_back s.phase)) in
    let step12 = both _ _ _ s.pid step11 (key whole_in (codes "pid") es _ s.pid refl (whole_back s.pid fit.pid)) in
    let step12a = both _ _ _ s.standing step12 (standing_key s fit) in
    let step13 = both _ _ _ s.tick step12a (key whole_in (codes "tick") es _ s.tick refl (whole_back s.tick fit.tick)) in
    let step14 = both _ _ _ s.time_ms step13 (key time_in (codes "time") es _ s.time_ms refl (time_in_back s.time_ms fit.time_ms)) in
    let step15 = both _ _ _ s.view step14 (key (or_null view_in) (codes "view") es _ s.view refl (maybe_view s.view fit.view)) in
    both _ _ _ s.why step15 (key (text_in 256) (codes "why") es _ s.why refl (text_back 256 s.why fit.why))

-- the numbers of the text are numbers
whole_number : (n : ℕ) → Fits n → HasNumbers (whole n)
whole_number n fits = IsNumber-decimal n fits

id_number : (id : NodeId) → IsId id → HasNumbers (id_json id)
id_number id is = IsNumber-decimal id.0 (omega (arith, is.1))

null_number : {A : Type 0} {P : A → Type 0} (spells : A → Json) → ((a : A) → P a → HasNumbers (spells a)) → (o : Option A) → OnValue P o → HasNumbers (json_or_null spells o)
null_number spells one None fits = tt
null_number spells one (Some a) fits = one a fits

there_number : {A : Type 0} {P : A → Type 0} (spells : A → Json) → ((a : A) → P a → HasNumbers (spells a)) → (o : Option A) → OnValue P o → ValueHasNumbers (option_map spells o)
there_number spells one None fits = tt
there_number spells one (Some a) fits = one a fits

text_number : (text : Option (List ℕ)) → HasNumbers (json_or_null string text)
text_number None = tt
text_number (Some text) = tt

text_there_number : (text : Option (List ℕ)) → ValueHasNumbers (option_map string text)
text_there_number None = tt
text_there_number (Some text) = tt

heard_number : (heard : Heard) → HeardFits heard → ValueHasNumbers (heard_json heard)
heard_number Unsaid fits = tt
heard_number Nothing fits = tt
heard_number (Said told tick) fits =
    let group = group_number_fits told.group in
    numbers (told_entries told tick)
    (whole_number (group_number told.group) (omega (arith, group)), (whole_number told.held_ms fits.0.0, (tt, (whole_number told.incarnation fits.0.1, (tt, (tt, (whole_number tick fits.1, tt)))))))

peer_number : (peer : Peer) → PeerFits peer → HasNumbers (peer_json peer)
peer_number peer fits =
    numbers (peer_entries peer)
    (null_number whole whole_number peer.hello_tick fits.hello_tick, (id_number peer.id fits.id, (text_there_number peer.name, (there_number whole whole_number peer.network_down fits.network_down, (there_number whole whole_number peer.refused fits.refused, (heard_number peer.told fits.told, tt))))))

group_json_number : (group : Group) → ValueHasNumbers (group_json group)
group_json_number NoGroup = tt
group_json_number Down = whole_number 1 (omega arith)
group_json_number Looking = whole_number 2 (omega arith)
group_json_number Starting = whole_number 3 (omega arith)
group_json_number Runs = whole_number 4 (omega arith)
group_json_number Unsure = whole_number 5 (omega arith)
group_json_number Stopping = whole_number 6 (omega arith)
group_json_number Failed = whole_number 7 (omega arith)
group_json_number Stuck = whole_number 8 (omega arith)
group_json_number Maintenance = whole_number 9 (omega arith)
group_json_number Unattended = tt

candidate_number : (candidate : Candidate) → CandidateFits candidate → ValueHasNumbers (candidate_json candidate)
candidate_number candidate.Unsaid fits = tt
candidate_number candidate.Unnamed fits = tt
candidate_number candidate.Nobody fits = whole_number 0 (omega arith)
candidate_number (candidate.Named id) fits = id_number id fits

view_number : (view : ShownView) → ViewFits view → HasNumbers (view_json view)
view_number view fits =
    numbers (view_entries view)
    (candidate_number view.candidate fits.candidate, (whole_number view.id fits.id, (items_numbers id_json id_number view.members.items fits.members, tt)))

arbiter_number : (arbiter : Arbiter) → ArbiterFits arbiter → HasNumbers (arbiter_json arbiter)
arbiter_number arbiter fits =
    numbers (arbiter_entries arbiter)
    (text_number arbiter.address, (whole_number arbiter.age_ms fits.age_ms, (tt, (whole_number arbiter.no fits.no, (whole_number arbiter.polls fits.polls, (whole_number arbiter.refused fits.refused, (whole_number arbiter.yes fits.yes, tt)))))))

standing_number : (standing : HostStanding) → StandingFits standing → HasNumbers (standing_json standing)
standing_number standing fits = (tt, (tt, (tt, (whole_number standing.weight (omega (arith, fits)), tt))))

shown_number : (s : Shown) → FitsTypes s → HaveNumbers (shown_entries s)
shown_number s fit =
    (there_number arbiter_json arbiter_number s.arbiter fit.arbiter, (whole_number s.counts.dropped fit.counts.dropped, (text_number s.end, (whole_number s.answer.expected fit.answer.expected, (IsNumber-decimal 1 (omega arith), (group_json_number s.group, (there_number whole whole_number s.held_ms fit.held_ms, (tt, (id_number s.id fit.id, (there_number whole whole_number s.images fit.images, (null_number whole whole_number s.incarnation fit.incarnation, (whole_number s.counts.late fit.counts.late, (whole_number s.loop_ms (omega (arith, fit.loop_ms)), (tt, (null_number id_json id_number s.mailbox.by fit.mailbox.by, (null_number whole whole_number s.mailbox.tick fit.mailbox.tick, (text_there_number s.name, (items_numbers peer_json peer_number s.peers.items fit.peers, (tt, (whole_number s.pid fit.pid, (tt, (whole_number s.answer.quorum fit.answer.quorum, (whole_number s.counts.refused fit.counts.refused, (tt, (there_number standing_json standing_number s.standing fit.standing, (whole_number s.tick fit.tick, (time_number s.time_ms fit.time_ms, (whole_number s.counts.unwritten fit.counts.unwritten, (null_number view_json view_number s.view fit.view, (whole_number s.answer.votes fit.answer.votes, (tt, tt)))))))))))))))))))))))))))))))

-- how deep it nests
flat_or_null : {A : Type 0} (most : ℕ) (spells : A → Json) → ((a : A) → depth (spells a) ≤ most) → (o : Option A) → depth (json_or_null spells o) ≤ most
flat_or_null most spells one None = omega arith
flat_or_null most spells one (Some a) = one a

there_flat : {A : Type 0} (most : ℕ) (spells : A → Json) → ((a : A) → depth (spells a) ≤ most) → (o : Option A) → ValueIsFlat most (option_map spells o)
there_flat most spells one None = tt
there_flat most spells one (Some a) = one a

heard_flat : (heard : Heard) → ValueIsFlat 1 (heard_json heard)
heard_flat Unsaid = tt
heard_flat Nothing = omega arith
heard_flat (Said told tick) = omega arith

peer_flat : (peer : Peer) → depth (peer_json peer) ≤ 2
peer_flat peer =
    let no : 0 ≤ 1 = omega arith in
    let all = flat 1 (peer_entries peer) (flat_or_null 1 whole (λ n. omega arith) peer.hello_tick, (no, (there_flat 1 string (λ text. omega arith) peer.name, (there_flat 1 whole (λ n. omega arith) peer.network_down, (there_flat 1 whole (λ n. omega arith) peer.refused, (heard_flat peer.told, tt)))))) in
    omega (arith, all)

group_flat : (group : Group) → ValueIsFlat 3 (group_json group)
group_flat NoGroup = tt
group_flat Down = omega arith
group_flat Looking = omega arith
group_flat Starting = omega arith
group_flat Runs = omega arith
group_flat Unsure = omega arith
group_flat Stopping = omega arith
group_flat Failed = omega arith
group_flat Stuck = omega arith
group_flat Maintenance = omega arith
group_flat Unattended = omega arith

candidate_flat : (candidate : Candidate) → ValueIsFlat 1 (candidate_json candidate)
candidate_flat candidate.Unsaid = tt
candidate_flat candidate.Unnamed = omega arith
candidate_flat candidate.Nobody = omega arith
candidate_flat (candidate.Named id) = omega arith

ids_flat : (ids : List NodeId) → depth (array (items_of id_json ids)) ≤ 1
ids_flat ids = let one = items_flat 0 id_json (λ id. omega arith) ids in omega (arith, one)

view_flat : (view : ShownView) → depth (view_json view) ≤ 2
view_flat view =
    let no : 0 ≤ 1 = omega arith in
    let all = flat 1 (view_entries view) (candidate_flat view.candidate, (no, (ids_flat view.members.items, tt))) in
    omega (arith, all)

arbiter_flat : (arbiter : Arbiter) → depth (arbiter_json arbiter) ≤ 3
arbiter_flat arbiter =
    let no : 0 ≤ 1 = omega arith in
    let all = flat 1 (arbiter_entries arbiter) (flat_or_null 1 string (λ text. omega arith) arbiter.address, (no, (no, (no, (no, (no, (no, tt))))))) in
    omega (arith, all)

peers_flat : (peers : List Peer) → depth (array (items_of peer_json peers)) ≤ 3
peers_flat peers = let one = items_flat 2 peer_json peer_flat peers in omega (arith, one)

view_in_three : (view : Option ShownView) → depth (json_or_null view_json view) ≤ 3
view_in_three view = let one = flat_or_null 2 view_json view_flat view in omega (arith, one)

shown_flat : (s : Shown) → AreFlat 3 (shown_entries s)
shown_flat s =
    let zero : 0 ≤ 3 = omega arith in
    (there_flat 3 arbiter_json arbiter_flat s.arbiter, (zero, (flat_or_null 3 string (λ text. omega arith) s.end, (zero, (zero, (group_flat s.group, (there_flat 3 whole (λ n. omega arith) s.held_ms, (zero, (zero, (there_flat 3 whole (λ n. omega arith) s.images, (flat_or_null 3 whole (λ n. omega arith) s.incarnation, (zero, (zero, (zero, (flat_or_null 3 id_json (λ id. omega arith) s.mailbox.by, (flat_or_null 3 whole (λ n. omega arith) s.mailbox.tick, (there_flat 3 string (λ text. omega arith) s.name, (peers_flat s.peers.items, (zero, (zero, (zero, (zero, (zero, (zero, (there_flat 3 standing_json (λ standing. omega arith) s.standing, (zero, (zero, (zero, (view_in_three s.view, (zero, (zero, tt)))))))))))))))))))))))))))))))

pub read_back : (s : Shown) → FitsTypes s → shown_in (shown_text s) ≡ Some s
read_back s fit =
    let shallow = flat 3 (shown_entries s) (shown_flat s) in
    ap (option_and_then shown_of) (document-print (shown_json s) (numbers (shown_entries s) (shown_number s fit)) (omega (arith, shallow)))
    ∙ read_shown s fit

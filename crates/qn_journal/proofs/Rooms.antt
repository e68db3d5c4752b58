-- The room of a status file is enough: how many bytes each part of it has at most.
use Rattle.std.proofs.Common.{◌≤◌, ◌<◌, ℕ, ◌+◌, ◌/◌, ◌^◌, Bool, false, List, [], ◌++◌, Option, Some, length, option_map, codes, decimal, arith, lit<}
use Rattle.std.proofs.lemmas.Fmt.{length-decimal-le}
use Rattle.std.proofs.lemmas.Grind.{common_steps}
use Rattle.std.proofs.lemmas.List.{length-append}
use Rattle.json.specs.Json.{boolean, number, string, array}
use Rattle.json.specs.Print.{escape_byte}
use Rattle.json.specs.Tree.{json_tokens}
use Rattle.qn_base.specs.declared.ids.NodeId.{NodeId}
use Rattle.qn_base.specs.lemmas.Decimals.{length-decimal}
use Rattle.qn_model.specs.declared.disk.Message.TheVariants as message
use Rattle.qn_model.specs.declared.life.Phase.{Phase}
use Rattle.qn_model.specs.declared.life.Phase.TheVariants.{Booting, Up, Leaving, Dying, Gone}
use Rattle.qn_names.specs.PhaseNames.{phase_name}
use Rattle.qn_shown.specs.declared.group.Group.{Group}
use Rattle.qn_shown.specs.declared.group.Group.TheVariants as group
use Rattle.qn_shown.specs.declared.shown.Arbiter.{Arbiter}
use Rattle.qn_shown.specs.declared.shown.Candidate.{Candidate}
use Rattle.qn_shown.specs.declared.shown.Candidate.TheVariants as candidate
use Rattle.qn_shown.specs.declared.shown.Heard.{Heard}
use Rattle.qn_shown.specs.declared.shown.Heard.TheVariants as heard
use Rattle.qn_shown.specs.declared.shown.HostStanding.{HostStanding}
use Rattle.qn_shown.specs.declared.shown.Peer.{Peer}
use Rattle.qn_shown.specs.declared.shown.Shown.{Shown}
use Rattle.qn_shown.specs.declared.shown.ShownView.{ShownView}
use Rattle.qn_shown.specs.declared.shown.Told.{Told}
use Rattle.qn_shown.specs.declared.words.DeviceAnswer.{DeviceAnswer}
use Rattle.qn_shown.specs.declared.words.DeviceAnswer.TheVariants.{Yes, No, Silent}
use Rattle.qn_shown.specs.declared.words.MailState.{MailState}
use Rattle.qn_shown.specs.declared.words.MailState.TheVariants as mail
use Rattle.qn_shown.specs.Fits.{AllOf, ArbiterFits, CandidateFits, Fits, HeardFits, IsId, OnValue, PeerFits, StandingFits, ToldFits, ViewFits}
use Rattle.qn_shown.specs.Groups.{group_number}
use Rattle.qn_shown.specs.Kinds.{time_text}
use Rattle.qn_shown.specs.Spelling.{arbiter_entries, arbiter_json, candidate_json, group_json, heard_json, id_json, items_of, json_or_null, peer_entries, peer_json, shown_entries, shown_json, shown_text, standing_entries, standing_json, told_entries, view_entries, view_json, whole}
use Rattle.qn_shown.specs.Words.{answer_word, mail_word}
use Rattle.qn_journal.specs.Rooms.{HasPlainAddress, HasPlainName, IsPlain, IsUsual}
use Rattle.qn_journal.specs.StatusTexts.{status_text}
use Rattle.qn_journal.proofs.Costs.{any_cost, array_cost, each, each_two, entries_cost, entry_any, entry_cost, entry_some, json_cost, key_cost, null_or, object_cost, on, on_two, print_cost, text_cost, truth_cost, value_cost, whole_cost}

-- ## Values of one token

id_cost : (id : NodeId) → IsId id → json_cost (id_json id) ≤ 11
id_cost id is =
    let small = is.1 in
    let digits : length (decimal id.0) ≤ 10 = length-decimal-le 10 id.0 (lit< tt) (omega (arith, small)) (omega (arith, small)) in
    omega (arith, digits)

maybe_whole : (n : Option ℕ) → OnValue Fits n → OnValue (λ x. json_cost (whole x) ≤ 21) n
maybe_whole n fits = on whole_cost n fits

word_cost : (most : ℕ) (text : Option (List ℕ)) → OnValue (λ t. length t ≤ most) text → OnValue IsPlain text → OnValue (λ t. json_cost (string t) ≤ most + 3) text
word_cost most text short plain = on_two (λ t is too. text_cost most t too is) text short plain

phase_cost : (phase : Phase) → json_cost (string (phase_name phase)) ≤ 13
unfolding escape_byte
phase_cost Booting = omega arith
phase_cost Up = omega arith
phase_cost Leaving = omega arith
phase_cost Dying = omega arith
phase_cost Gone = omega arith

answer_cost : (answer : DeviceAnswer) → json_cost (string (answer_word answer)) ≤ 13
unfolding escape_byte
answer_cost Yes = omega arith
answer_cost No = omega arith
answer_cost Silent = omega arith

mail_cost : (state : MailState) → json_cost (string (mail_word state)) ≤ 13
unfolding escape_byte
mail_cost (mail.Holds message.Empty) = omega arith
mail_cost (mail.Holds message.Test) = omega arith
mail_cost (mail.Holds message.Reset) = omega arith
mail_cost (mail.Holds message.Off) = omega arith
mail_cost (mail.Holds message.Exit) = omega arith
mail_cost (mail.Holds message.Crashdump) = omega arith
mail_cost mail.Damaged = omega arith
mail_cost mail.Failed = omega arith
mail_cost mail.Unread = omega arith

number_cost : (g : Group) → json_cost (whole (group_number g)) ≤ 21
number_cost g = whole_cost (group_number g) (small g)
  where
    small : (g : Group) → Fits (group_number g)
    small group.NoGroup = omega arith
    small group.Down = omega arith
    small group.Looking = omega arith
    small group.Starting = omega arith
    small group.Runs = omega arith
    small group.Unsure = omega arith
    small group.Stopping = omega arith
    small group.Failed = omega arith
    small group.Stuck = omega arith
    small group.Maintenance = omega arith
    small group.Unattended = omega arith

group_cost : (g : Group) → value_cost (group_json g) ≤ 21
group_cost group.NoGroup = omega arith
group_cost group.Down = whole_cost 1 (omega arith)
group_cost group.Looking = whole_cost 2 (omega arith)
group_cost group.Starting = whole_cost 3 (omega arith)
group_cost group.Runs = whole_cost 4 (omega arith)
group_cost group.Unsure = whole_cost 5 (omega arith)
group_cost group.Stopping = whole_cost 6 (omega arith)
group_cost group.Failed = whole_cost 7 (omega arith)
group_cost group.Stuck = whole_cost 8 (omega arith)
group_cost group.Maintenance = whole_cost 9 (omega arith)
group_cost group.Unattended = omega arith

time_cost : (ms : ℕ) → Fits ms → json_cost (number (time_text ms)) ≤ 25
time_cost ms fits =
    let below : ms / 1000 < 2 ^ 64 = omega (arith, fits) in
    let digits = length-decimal (ms / 1000) below in
    grind (arith, common_steps, digits)

-- ## Lists of members, with a bound for each

whole_entry : (name : List ℕ) (n : ℕ) → Fits n → entry_cost (name, Some (whole n)) ≤ key_cost name + 21
whole_entry name n fits = entry_some name (whole n) 21 (whole_cost n fits)

truth_entry : (name : List ℕ) (b : Bool) → entry_cost (name, Some (boolean b)) ≤ key_cost name + 6
truth_entry name b = entry_some name (boolean b) 6 (truth_cost b)

any_whole : (name : List ℕ) (n : Option ℕ) → OnValue Fits n → entry_cost (name, option_map whole n) ≤ key_cost name + 21
any_whole name n fits = entry_any name (option_map whole n) 21 (any_cost whole 21 n (maybe_whole n fits))

null_whole : (name : List ℕ) (n : Option ℕ) → OnValue Fits n → entry_cost (name, Some (json_or_null whole n)) ≤ key_cost name + 21
null_whole name n fits = entry_some name (json_or_null whole n) 21 (null_or whole 21 (omega arith) n (maybe_whole n fits))

any_name : (name : List ℕ) (text : Option (List ℕ)) → OnValue (λ t. length t ≤ 63) text → OnValue IsPlain text → entry_cost (name, option_map string text) ≤ key_cost name + 66
any_name name text short plain = entry_any name (option_map string text) 66 (any_cost string 66 text (word_cost 63 text short plain))

null_text : (name : List ℕ) (text : Option (List ℕ)) → OnValue (λ t. length t ≤ 256) text → OnValue IsPlain text → entry_cost (name, Some (json_or_null string text)) ≤ key_cost name + 259
null_text name text short plain = entry_some name (json_or_null string text) 259 (null_or string 259 (omega arith) text (word_cost 256 text short plain))

last : entries_cost [] ≤ 0
last = omega arith

both : {one other most more : ℕ} → one ≤ most → other ≤ more → one + other ≤ most + more
both first others = omega (arith, first, others)

told_cost : (told : Told) (tick : ℕ) → ToldFits told → Fits tick → entries_cost (told_entries told tick) ≤ 176
unfolding escape_byte
told_cost told tick fits small =
    let c7 = both (whole_entry (codes "tick") tick small) last in
    let c6 = both (truth_entry (codes "quorate") told.quorate) c7 in
    let c5 = both (truth_entry (codes "leaving") told.leaving) c6 in
    let c4 = both (whole_entry (codes "incarnation") told.incarnation fits.1) c5 in
    let c3 = both (truth_entry (codes "holds") told.holds) c4 in
    let c2 = both (whole_entry (codes "held_ms") told.held_ms fits.0) c3 in
    let c1 = both (entry_some (codes "group") (whole (group_number told.group)) 21 (number_cost told.group)) c2 in
    c1

heard_cost : (h : Heard) → HeardFits h → value_cost (heard_json h) ≤ 180
heard_cost heard.Unsaid fits = omega arith
heard_cost heard.Nothing fits = omega arith
heard_cost (heard.Said told tick) fits = object_cost (told_entries told tick) 176 (told_cost told tick fits.0 fits.1)

peer_cost : (peer : Peer) → PeerFits peer → HasPlainName peer → entries_cost (peer_entries peer) ≤ 383
unfolding escape_byte
peer_cost peer fits plain =
    let c6 = both (entry_any (codes "told") (heard_json peer.told) 180 (heard_cost peer.told fits.told)) last in
    let c5 = both (any_whole (codes "refused") peer.refused fits.refused) c6 in
    let c4 = both (any_whole (codes "network_down") peer.network_down fits.network_down) c5 in
    let c3 = both (any_name (codes "name") peer.name fits.name plain) c4 in
    let c2 = both (entry_some (codes "id") (id_json peer.id) 11 (id_cost peer.id fits.id)) c3 in
    let c1 = both (null_whole (codes "hello_tick") peer.hello_tick fits.hello_tick) c2 in
    c1

peer_object : (peer : Peer) → PeerFits peer → HasPlainName peer → json_cost (peer_json peer) ≤ 387
peer_object peer fits plain = object_cost (peer_entries peer) 383 (peer_cost peer fits plain)

candidate_cost : (c : Candidate) → CandidateFits c → value_cost (candidate_json c) ≤ 11
candidate_cost candidate.Unsaid fits = omega arith
candidate_cost candidate.Unnamed fits = omega arith
candidate_cost candidate.Nobody fits =
    let digits : length (decimal 0) ≤ 10 = length-decimal-le 10 0 (lit< tt) (omega arith) (omega arith) in
    omega (arith, digits)
candidate_cost (candidate.Named id) fits = id_cost id fits

members_array : (ids : List NodeId) → length ids ≤ 32 → AllOf IsId ids → json_cost (array (items_of id_json ids)) ≤ 356
members_array ids few are = array_cost id_json 11 32 ids few (each id_cost ids are)

view_cost : (view : ShownView) → ViewFits view → entries_cost (view_entries view) ≤ 418
unfolding escape_byte
view_cost view fits =
    let c3 = both (entry_some (codes "members") (array (items_of id_json view.members.items)) 356 (members_array view.members.items fits.count fits.members)) last in
    let c2 = both (whole_entry (codes "id") view.id fits.id) c3 in
    let c1 = both (entry_any (codes "candidate") (candidate_json view.candidate) 11 (candidate_cost view.candidate fits.candidate)) c2 in
    c1

arbiter_cost : (arbiter : Arbiter) → ArbiterFits arbiter → HasPlainAddress arbiter → entries_cost (arbiter_entries arbiter) ≤ 438
unfolding escape_byte
arbiter_cost arbiter fits plain =
    let c7 = both (whole_entry (codes "yes") arbiter.yes fits.yes) last in
    let c6 = both (whole_entry (codes "refused") arbiter.refused fits.refused) c7 in
    let c5 = both (whole_entry (codes "polls") arbiter.polls fits.polls) c6 in
    let c4 = both (whole_entry (codes "no") arbiter.no fits.no) c5 in
    let c3 = both (entry_some (codes "answer") (string (answer_word arbiter.answer)) 13 (answer_cost arbiter.answer)) c4 in
    let c2 = both (whole_entry (codes "age") arbiter.age_ms fits.age_ms) c3 in
    let c1 = both (null_text (codes "address") arbiter.address fits.address plain) c2 in
    c1

standing_cost : (standing : HostStanding) → StandingFits standing → entries_cost (standing_entries standing) ≤ 75
unfolding escape_byte
standing_cost standing fits =
    let c4 = both (whole_entry (codes "weight") standing.weight (omega (arith, fits))) last in
    let c3 = both (truth_entry (codes "standby") standing.standby) c4 in
    let c2 = both (truth_entry (codes "pull") standing.pull) c3 in
    let c1 = both (truth_entry (codes "fit") standing.fit) c2 in
    c1

arbiter_object : (a : Option Arbiter) → OnValue ArbiterFits a → OnValue HasPlainAddress a → value_cost (option_map arbiter_json a) ≤ 442
arbiter_object a fits plain =
    any_cost arbiter_json 442 a (on_two (λ x fit is. object_cost (arbiter_entries x) 438 (arbiter_cost x fit is)) a fits plain)

standing_object : (said : Option HostStanding) → OnValue StandingFits said → value_cost (option_map standing_json said) ≤ 79
standing_object said fits =
    any_cost standing_json 79 said (on (λ x fit. object_cost (standing_entries x) 75 (standing_cost x fit)) said fits)

view_object : (view : Option ShownView) → OnValue ViewFits view → json_cost (json_or_null view_json view) ≤ 422
view_object view fits =
    null_or view_json 422 (omega arith) view (on (λ x fit. object_cost (view_entries x) 418 (view_cost x fit)) view fits)

peers_array : (peers : List Peer) → length peers ≤ 31 → AllOf PeerFits peers → AllOf HasPlainName peers → json_cost (array (items_of peer_json peers)) ≤ 12001
peers_array peers few fits plain = array_cost peer_json 387 31 peers few (each_two peer_object peers fits plain)

sender_cost : (by : Option NodeId) → OnValue IsId by → json_cost (json_or_null id_json by) ≤ 11
sender_cost by is = null_or id_json 11 (omega arith) by (on id_cost by is)

shown_cost : (s : Shown) → IsUsual s → entries_cost (shown_entries s) ≤ 14256
unfolding escape_byte
shown_cost s usual =
    let f = usual.fits in
    let p = usual.plain in
    let c31 = both (entry_some (codes "why") (string s.why) 259 (text_cost 256 s.why p.why f.why)) last in
    let c30 = both (whole_entry (codes "votes") s.answer.votes f.answer.votes) c31 in
    let c29 = both (entry_some (codes "view") (json_or_null view_json s.view) 422 (view_object s.view f.view)) c30 in
    let c28 = both (whole_entry (codes "unwritten") s.counts.unwritten f.counts.unwritten) c29 in
    let c27 = both (entry_some (codes "time") (number (time_text s.time_ms)) 25 (time_cost s.time_ms f.time_ms)) c28 in
    let c26 = both (whole_entry (codes "tick") s.tick f.tick) c27 in
    let c25 = both (entry_any (codes "standing") (option_map standing_json s.standing) 79 (standing_object s.standing f.standing)) c26 in
    let c24 = both (truth_entry (codes "released") s.answer.released) c25 in
    let c23 = both (whole_entry (codes "refused") s.counts.refused f.counts.refused) c24 in
    let c22 = both (whole_entry (codes "quorum") s.answer.quorum f.answer.quorum) c23 in
    let c21 = both (truth_entry (codes "quorate") s.answer.quorate) c22 in
    let c20 = both (whole_entry (codes "pid") s.pid f.pid) c21 in
    let c19 = both (entry_some (codes "phase") (string (phase_name s.phase)) 13 (phase_cost s.phase)) c20 in
    let c18 = both (entry_some (codes "peers") (array (items_of peer_json s.peers.items)) 12001 (peers_array s.peers.items usual.others f.peers p.peers)) c19 in
    let c17 = both (any_name (codes "name") s.name f.name p.name) c18 in
    let c16 = both (null_whole (codes "mail_tick") s.mailbox.tick f.mailbox.tick) c17 in
    let c15 = both (entry_some (codes "mail_by") (json_or_null id_json s.mailbox.by) 11 (sender_cost s.mailbox.by f.mailbox.by)) c16 in
    let c14 = both (entry_some (codes "mail") (string (mail_word s.mailbox.state)) 13 (mail_cost s.mailbox.state)) c15 in
    let c13 = both (whole_entry (codes "loop") s.loop_ms (let small = f.loop_ms in omega (arith, small))) c14 in
    let c12 = both (whole_entry (codes "late") s.counts.late f.counts.late) c13 in
    let c11 = both (null_whole (codes "incarnation") s.incarnation f.incarnation) c12 in
    let c10 = both (any_whole (codes "images") s.images f.images) c11 in
    let c9 = both (entry_some (codes "id") (id_json s.id) 11 (id_cost s.id f.id)) c10 in
    let c8 = both (truth_entry (codes "holds") s.holds) c9 in
    let c7 = both (any_whole (codes "held_ms") s.held_ms f.held_ms) c8 in
    let c6 = both (entry_any (codes "group") (group_json s.group) 21 (group_cost s.group)) c7 in
    let c5 = both (whole_entry (codes "format") 1 (omega arith)) c6 in
    let c4 = both (whole_entry (codes "expected") s.answer.expected f.answer.expected) c5 in
    let c3 = both (null_text (codes "end") s.end f.end p.end) c4 in
    let c2 = both (whole_entry (codes "dropped") s.counts.dropped f.counts.dropped) c3 in
    let c1 = both (entry_any (codes "arbiter") (option_map arbiter_json s.arbiter) 442 (arbiter_object s.arbiter f.arbiter p.arbiter)) c2 in
    c1

-- a text with the end of its line
line_fits : (text : List ℕ) (most : ℕ) → length text ≤ most → most ≤ 14260 → length (text ++ codes "\n") ≤ 14336
line_fits text most short within = let line = length-append text (codes "\n") in omega (arith, line, short, within)

pub usual_fits : (s : Shown) → IsUsual s → length (status_text s) ≤ 14336
usual_fits s usual =
    line_fits (shown_text s) (json_cost (shown_json s)) (print_cost false (json_tokens (shown_json s)))
    (object_cost (shown_entries s) 14256 (shown_cost s usual))

-- What is kept of a packet gives the packet back.
use Rattle.std.proofs.Common.{◌≡◌, ◌<◌, ◌≤◌, ℕ, List, [], ◌∷◌, ◌++◌, length, length-append, map, get_or, Some, refl, ap, ◌∙◌, arith}
use Rattle.std.proofs.Math.Seq.{get_or-append_seam}
use Rattle.std.specs.List.{slice_get}
use Rattle.std.proofs.lemmas.List.{get_or_append_left, map-append}
use Rattle.std.proofs.lemmas.List.Elements.{All-append, All-cons, All-head, All-nil, All-tail}
use Rattle.std.proofs.lemmas.Option.{get_or_from_slice_get, slice_get-get_or}
use Rattle.qn_base.specs.declared.ids.Rank.{Rank}
use Rattle.qn_model.specs.declared.packets.Packet.{Packet}
use Rattle.qn_model.specs.declared.packets.Packet.TheVariants as packet
use Rattle.qn_model.specs.declared.packets.Sent.{Sent}
use Rattle.qn_cluster.specs.declared.kept.Heading.{Heading}
use Rattle.qn_cluster.specs.declared.kept.Kept.{Kept}
use Rattle.qn_cluster.specs.declared.kept.Kind.{Kind}
use Rattle.qn_cluster.specs.Kept.{AreHeaded, addressee_of, heading_of, kind_of, no_heading, packet_of, sent_of}

packet_again : (p : Packet) → packet_of (heading_of p) (addressee_of p) (kind_of p) ≡ p
packet_again (packet.Ask ask) = refl
packet_again (packet.Tell tell) = refl
packet_again (packet.Hello from) = refl
packet_again (packet.Heard from said standing) = refl
packet_again (packet.Announce from view) = refl
packet_again (packet.Vote agrees) = refl

abbrev under : Rank → Rank → Kind → Heading → Sent
under to addressee kind heading = record { to = to; packet = packet_of heading addressee kind }

same_packet : (headings more : List Heading) (k : Kept) → k.heading < length headings → sent_of (headings ++ more) k ≡ sent_of headings k
same_packet headings more k inside =
    ap (under k.to k.addressee k.kind) (get_or_append_left headings more no_heading k.heading inside)

-- further headings change no packet
pub same_sents : (headings more : List Heading) (kept : List Kept) → AreHeaded (length headings) kept
    → map (sent_of (headings ++ more)) kept ≡ map (sent_of headings) kept
same_sents headings more [] known = refl
same_sents headings more (k ∷ kept) known =
    let first : k.heading < length headings = All-head (λ (k : Kept). k.heading < length headings) k kept known in
    ap (λ sent. sent ∷ map (sent_of (headings ++ more)) kept) (same_packet headings more k first)
    ∙ ap (λ rest. sent_of headings k ∷ rest) (same_sents headings more kept (All-tail (λ (k : Kept). k.heading < length headings) k kept known))

pub headed_more : (few many : ℕ) (kept : List Kept) → few ≤ many → AreHeaded few kept → AreHeaded many kept
headed_more few many [] le known = All-nil (λ (k : Kept). k.heading < many)
headed_more few many (k ∷ kept) le known =
    let first : k.heading < few = All-head (λ (k : Kept). k.heading < few) k kept known in
    All-cons (λ (k : Kept). k.heading < many) k kept (omega arith)
    (headed_more few many kept le (All-tail (λ (k : Kept). k.heading < few) k kept known))

pub headed_one : (count : ℕ) (kept : List Kept) (k : Kept) → k.heading < count → AreHeaded count kept → AreHeaded count (kept ++ k ∷ [])
headed_one count kept k inside known =
    All-append (λ (k : Kept). k.heading < count) kept (k ∷ []) known
    (All-cons (λ (k : Kept). k.heading < count) k [] inside (All-nil (λ (k : Kept). k.heading < count)))

abbrev pub kept_with : ℕ → Rank → Rank → Kind → Kept
kept_with place to addressee kind = record { heading = place; to = to; addressee = addressee; kind = kind }

abbrev pub kept_as : ℕ → Sent → Kept
kept_as place sent = kept_with place sent.to (addressee_of sent.packet) (kind_of sent.packet)

-- one packet more
pub one_more : (headings : List Heading) (kept : List Kept) (sent : Sent) (place : ℕ) → slice_get headings place ≡ Some (heading_of sent.packet)
    → map (sent_of headings) (kept ++ kept_as place sent ∷ []) ≡ map (sent_of headings) kept ++ sent ∷ []
one_more headings kept sent place is =
    let again : sent_of headings (kept_as place sent) ≡ sent =
    ap (under sent.to (addressee_of sent.packet) (kind_of sent.packet)) (get_or_from_slice_get headings place (heading_of sent.packet) no_heading is)
    ∙ ap (λ p. record sent { packet = p }) (packet_again sent.packet) in
    map-append (sent_of headings) kept (kept_as place sent ∷ [])
    ∙ ap (λ one. map (sent_of headings) kept ++ one ∷ []) again

-- a heading that was added stands where the others end
pub added_there : (headings : List Heading) (heading : Heading) (place : ℕ) → place ≡ length headings
    → slice_get (headings ++ heading ∷ []) place ≡ Some heading
added_there headings heading place is =
    slice_get-get_or (headings ++ heading ∷ []) place heading (omega (arith, is, length-append headings (heading ∷ [])))
    ∙ ap Some (ap (λ n. get_or (headings ++ heading ∷ []) n heading) is ∙ get_or-append_seam headings heading [] heading)

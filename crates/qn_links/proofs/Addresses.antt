-- An address in 17 bytes in front of other bytes is one address.
use Rattle.std.proofs.Common.{◌≡◌, ℕ, ◌+◌, ◌*◌, ◌/◌, ◌%◌, List, [], ◌∷◌, ◌++◌, length, drop, Option, Some, None, refl, sym, ap, ◌∙◌, arith}
use Rattle.std.specs.Prelude.{IfSome}
use Rattle.std.proofs.Math.Nat.{div-add-mod'}
use Rattle.std.specs.Net.Addr.{segments_of, octets_of, ipv4_octets, ipv6_segments, ipv6_octets}
use Rattle.std.specs.declared.net.ip_addr.IpAddr.{IpAddr}
use Rattle.std.specs.declared.net.ip_addr.IpAddr.TheVariants.{V4, V6}
use Rattle.std.specs.declared.net.ipv4_addr.Ipv4Addr.{Ipv4Addr}
use Rattle.std.specs.declared.net.ipv6_addr.Ipv6Addr.{Ipv6Addr}
use Rattle.qn_links.specs.Meaning.{IsAddress, address_bytes}
use Rattle.qn_links.proofs.Fields.{one_head, two_parts}

segments_back : (segments : List ℕ) → segments_of (octets_of segments) ≡ segments
segments_back [] = refl
segments_back (segment ∷ segments) =
    let here : segment / 256 * 256 + segment % 256 ≡ segment = div-add-mod' segment 256 in
    λ i. here i ∷ segments_back segments i

octets_count : (segments : List ℕ) → length (octets_of segments) ≡ 2 * length segments
octets_count [] = refl
octets_count (segment ∷ segments) = omega (arith, octets_count segments)

address_size : (address : Option IpAddr) → IfSome address IsAddress → length (address_bytes address) ≡ 17
address_size None fits = refl
address_size (Some (V4 address)) fits = omega (arith, fits.0)
address_size (Some (V6 address)) fits = omega (arith, fits.0, octets_count (ipv6_segments address))

same_v4 : (one other : Ipv4Addr) → ipv4_octets one ≡ ipv4_octets other → one ≡ other
same_v4 one other same = λ i. record { octets = same i }

same_v6 : (one other : Ipv6Addr) → ipv6_segments one ≡ ipv6_segments other → one ≡ other
same_v6 one other same = λ i. record { segments = same i }

same_address : (one other : Option IpAddr) → address_bytes one ≡ address_bytes other → one ≡ other
same_address None None is = refl
same_address None (Some (V4 other)) is = let kind = (one_head 0 4 _ _ is).0 in absurd (omega (arith, kind))
same_address None (Some (V6 other)) is = let kind = (one_head 0 6 _ _ is).0 in absurd (omega (arith, kind))
same_address (Some (V4 one)) None is = let kind = (one_head 4 0 _ _ is).0 in absurd (omega (arith, kind))
same_address (Some (V4 one)) (Some (V4 other)) is = ap (λ a. Some (V4 a)) (same_v4 one other (ap (λ l. drop 13 l) is))
same_address (Some (V4 one)) (Some (V6 other)) is = let kind = (one_head 4 6 _ _ is).0 in absurd (omega (arith, kind))
same_address (Some (V6 one)) None is = let kind = (one_head 6 0 _ _ is).0 in absurd (omega (arith, kind))
same_address (Some (V6 one)) (Some (V4 other)) is = let kind = (one_head 6 4 _ _ is).0 in absurd (omega (arith, kind))
same_address (Some (V6 one)) (Some (V6 other)) is =
    let octets : ipv6_octets one ≡ ipv6_octets other = ap (λ l. drop 1 l) is in
    ap (λ a. Some (V6 a)) (same_v6 one other (sym (segments_back (ipv6_segments one)) ∙ ap segments_of octets ∙ segments_back (ipv6_segments other)))

pub one_address : (one other : Option IpAddr) (rest remnant : List ℕ) → IfSome one IsAddress → IfSome other IsAddress
    → address_bytes one ++ rest ≡ address_bytes other ++ remnant → (one ≡ other) × (rest ≡ remnant)
one_address one other rest remnant one_fits other_fits is =
    let parts = two_parts (address_bytes one) (address_bytes other) rest remnant (address_size one one_fits ∙ sym (address_size other other_fits)) is in
    (same_address one other parts.0, parts.1)

-- The bytes of a meaning have one value.
use Rattle.std.proofs.Common.{◌≡◌, ℕ, zero, suc, ◌<◌, ◌≤◌, ◌^◌, Bool, true, false, nat_lt, List, [], ◌∷◌, ◌++◌, length, drop, get_or, slice_index, Option, Some, None, refl, sym, ap, subst, ◌∙◌, append_assoc, arith}
use Rattle.std.specs.Prelude.{All, IfSome, unwrap_or}
use Rattle.std.specs.List.Sorted.{IsStrictlyIncreasing}
use Rattle.std.specs.Int.{bytes_high_first}
use Rattle.std.proofs.lemmas.Bool.{ltb-true, ltb-false}
use Rattle.std.proofs.lemmas.List.{ext_get_or, get_or-map, length-map}
use Rattle.std.proofs.lemmas.List.Kept.{AllPairs-from_increasing}
use Rattle.std.specs.declared.net.ip_addr.IpAddr.{IpAddr}
use Rattle.qn_base.specs.declared.ids.Rank.{Rank}
use Rattle.qn_model.specs.declared.configuration.Device.{Device}
use Rattle.qn_model.specs.declared.configuration.Settings.{Settings}
use Rattle.qn_model.specs.declared.nodelist.NodeEntry.{NodeEntry}
use Rattle.qn_model.specs.Settings.{IsValid, IsOrder, IsPeriod, ids}
use Rattle.qn_links.specs.declared.arbiter.ArbiterPlace.{ArbiterPlace}
use Rattle.qn_links.specs.Meaning.{IsAddress, IsSaid, IsArbiterFit, address_bytes, device_bytes, flag_byte, arbiter_bytes, ids_bytes, meaning, node_bytes, nodes_bytes, rest_bytes, tie_bytes}
use Rattle.qn_links.proofs.Fields.{one_flag, one_head, one_number}
use Rattle.qn_links.proofs.Addresses.{one_address}

-- the numbers of a node have their widths
abbrev Fits : NodeEntry → Type 0
Fits node = (node.id.0 < 2 ^ 32) × (node.votes < 2 ^ 32) × (node.fence_delay < 2 ^ 64)

same_node : (one other : NodeEntry) → one.id.0 ≡ other.id.0 → one.votes ≡ other.votes → one.fence_delay ≡ other.fence_delay → one ≡ other
same_node one other id votes fence_delay = rw (id, votes, fence_delay) refl

one_node : (one other : NodeEntry) (link another : Option IpAddr) (rest remnant : List ℕ) → Fits one → Fits other
    → IfSome link IsAddress → IfSome another IsAddress
    → node_bytes one link ++ rest ≡ node_bytes other another ++ remnant → (one ≡ other) × (link ≡ another) × (rest ≡ remnant)
unfolding node_bytes
one_node one other link another rest remnant one_fits other_fits link_fits another_fits is =
    let id = one_number 4 one.id.0 other.id.0 _ _ one_fits.0 other_fits.0 is in
    let votes = one_number 4 one.votes other.votes _ _ one_fits.1 other_fits.1 id.1 in
    let fence_delay = one_number 8 one.fence_delay other.fence_delay _ _ one_fits.2 other_fits.2 votes.1 in
    let address = one_address link another rest remnant link_fits another_fits fence_delay.1 in
    (same_node one other id.0 votes.0 fence_delay.0, address.0, address.1)

all_rest : {X : Type 0} (P : X → Type 0) (x : X) (xs : List X) → All P (x ∷ xs) → All P xs
all_rest P x xs all = λ k d below. all (suc k) d (omega arith)

-- the places below a number hold the same
abbrev Agree : ℕ → List (Option IpAddr) → List (Option IpAddr) → Type 0
Agree count links others = (rank : ℕ) → rank < count → get_or links rank None ≡ get_or others rank None

agree_more : (count : ℕ) (link another : Option IpAddr) (links others : List (Option IpAddr)) → link ≡ another → Agree count links others
    → Agree (suc count) (link ∷ links) (another ∷ others)
agree_more count link another links others same agree zero below = same
agree_more count link another links others same agree (suc rank) below = agree rank (omega arith)

one_list : (ones others : List NodeEntry) (links places : List (Option IpAddr)) (rest remnant : List ℕ) → length ones ≡ length others
    → length ones ≤ length links → length ones ≤ length places
    → All Fits ones → All Fits others → All (λ link. IfSome link IsAddress) links → All (λ link. IfSome link IsAddress) places
    → nodes_bytes ones links ++ rest ≡ nodes_bytes others places ++ remnant
    → (ones ≡ others) × Agree (length ones) links places × (rest ≡ remnant)
one_list [] [] links places rest remnant count long wide ones_fit others_fit links_fit places_fit is = (refl, (λ rank below. absurd (omega arith)), is)
one_list [] (other ∷ others) links places rest remnant count long wide ones_fit others_fit links_fit places_fit is = absurd (omega arith)
one_list (one ∷ ones) [] links places rest remnant count long wide ones_fit others_fit links_fit places_fit is = absurd (omega arith)
one_list (one ∷ ones) (other ∷ others) [] places rest remnant count long wide ones_fit others_fit links_fit places_fit is = absurd (omega arith)
one_list (one ∷ ones) (other ∷ others) (link ∷ links) [] rest remnant count long wide ones_fit others_fit links_fit places_fit is = absurd (omega arith)
one_list (one ∷ ones) (other ∷ others) (link ∷ links) (place ∷ places) rest remnant count long wide ones_fit others_fit links_fit places_fit is =
    let flat = sym (append_assoc (node_bytes one link) (nodes_bytes ones links) rest) ∙ is ∙ append_assoc (node_bytes other place) (nodes_bytes others places) remnant in
    let first = one_node one other link place _ _ (ones_fit 0 one (omega arith)) (others_fit 0 other (omega arith)) (links_fit 0 None (omega arith)) (places_fit 0 None (omega arith)) flat in
    let more = one_list ones others links places rest remnant (omega arith) (omega arith) (omega arith)
    (all_rest Fits one ones ones_fit) (all_rest Fits other others others_fit)
    (all_rest (λ link. IfSome link IsAddress) link links links_fit) (all_rest (λ link. IfSome link IsAddress) place places places_fit) first.2 in
    ((λ i. first.0 i ∷ more.0 i), agree_more (length ones) link place links places first.1 more.1, more.2)

place_same : (count rank : ℕ) (links places : List (Option IpAddr)) (low : Bool) → nat_lt rank count ≡ low → Agree count links places
    → ((rank : ℕ) → count ≤ rank → get_or links rank None ≡ None) → ((rank : ℕ) → count ≤ rank → get_or places rank None ≡ None)
    → get_or links rank None ≡ get_or places rank None
place_same count rank links places true is agree past beyond = agree rank (ltb-true rank count is)
place_same count rank links places false is agree past beyond =
    past rank (ltb-false rank count is) ∙ sym (beyond rank (ltb-false rank count is))

-- a port that is written is not 0
abbrev PortFits : Option ℕ → Type 0
PortFits port = IfSome port (λ port. (1 ≤ port) × (port < 2 ^ 16))

port_short : (port : Option ℕ) → PortFits port → unwrap_or port 0 < 2 ^ 16
port_short None fits = omega arith
port_short (Some port) fits = fits.1

one_port : (one other : Option ℕ) → PortFits one → PortFits other → unwrap_or one 0 ≡ unwrap_or other 0 → one ≡ other
one_port None None one_fits other_fits is = refl
one_port None (Some other) one_fits other_fits is = absurd (omega (arith, is, other_fits.0))
one_port (Some one) None one_fits other_fits is = absurd (omega (arith, is, one_fits.0))
one_port (Some one) (Some other) one_fits other_fits is = ap Some is

same_arbiter : (one other : ArbiterPlace) → one.address ≡ other.address → one.port ≡ other.port → one ≡ other
same_arbiter one other address port = rw (address, port) refl

abbrev ArbiterFits : Option ArbiterPlace → Type 0
ArbiterFits arbiter = IfSome arbiter IsArbiterFit

one_arbiter : (one other : Option ArbiterPlace) (rest remnant : List ℕ) → ArbiterFits one → ArbiterFits other → arbiter_bytes one ++ rest ≡ arbiter_bytes other ++ remnant
    → (one ≡ other) × (rest ≡ remnant)
one_arbiter None None rest remnant one_fits other_fits is = (refl, (one_head 0 0 rest remnant is).1)
one_arbiter None (Some other) rest remnant one_fits other_fits is = let kind = (one_head 0 1 _ _ is).0 in absurd (omega (arith, kind))
one_arbiter (Some one) None rest remnant one_fits other_fits is = let kind = (one_head 1 0 _ _ is).0 in absurd (omega (arith, kind))
one_arbiter (Some one) (Some other) rest remnant one_fits other_fits is =
    let back = (one_head 1 1 _ _ is).1 in
    let flat = sym (append_assoc (address_bytes (Some one.address)) (bytes_high_first 2 (unwrap_or one.port 0)) rest) ∙ back
    ∙ append_assoc (address_bytes (Some other.address)) (bytes_high_first 2 (unwrap_or other.port 0)) remnant in
    let address = one_address (Some one.address) (Some other.address) _ _ one_fits.0 other_fits.0 flat in
    let port = one_number 2 (unwrap_or one.port 0) (unwrap_or other.port 0) rest remnant
    (port_short one.port one_fits.1) (port_short other.port other_fits.1) address.1 in
    let its = one_port one.port other.port one_fits.1 other_fits.1 port.0 in
    let same : one.address ≡ other.address = ap (λ a. unwrap_or a one.address) address.0 in
    (ap Some (same_arbiter one other same its), port.1)

-- the numbers of a device have their widths
abbrev DeviceFits : Device → Type 0
DeviceFits device = (device.votes < 2 ^ 32) × (device.timeout < 2 ^ 64)

same_device : (one other : Device) → one.votes ≡ other.votes → one.timeout ≡ other.timeout → one ≡ other
same_device one other votes timeout = rw (votes, timeout) refl

one_device : (one other : Option Device) (arbiter another : Option ArbiterPlace) (rest remnant : List ℕ) → IfSome one DeviceFits → IfSome other DeviceFits
    → ArbiterFits arbiter → ArbiterFits another → (one ≡ None → arbiter ≡ None) → (other ≡ None → another ≡ None)
    → device_bytes one arbiter ++ rest ≡ device_bytes other another ++ remnant → (one ≡ other) × (arbiter ≡ another) × (rest ≡ remnant)
one_device None None arbiter another rest remnant one_fits other_fits arbiter_fits another_fits none nothing is =
    (refl, none refl ∙ sym (nothing refl), (one_head 0 0 rest remnant is).1)
one_device None (Some other) arbiter another rest remnant one_fits other_fits arbiter_fits another_fits none nothing is =
    let kind = (one_head 0 1 _ _ is).0 in absurd (omega (arith, kind))
one_device (Some one) None arbiter another rest remnant one_fits other_fits arbiter_fits another_fits none nothing is =
    let kind = (one_head 1 0 _ _ is).0 in absurd (omega (arith, kind))
one_device (Some one) (Some other) arbiter another rest remnant one_fits other_fits arbiter_fits another_fits none nothing is =
    let back = (one_head 1 1 _ _ is).1 in
    let votes = one_number 4 one.votes other.votes _ _ one_fits.0 other_fits.0 back in
    let timeout = one_number 8 one.timeout other.timeout _ _ one_fits.1 other_fits.1 votes.1 in
    let its = one_arbiter arbiter another rest remnant arbiter_fits another_fits timeout.1 in
    (ap Some (same_device one other votes.0 timeout.0), its.0, its.1)

id_short : (nodes : List NodeEntry) → All (λ n. n.id.0 ≤ 4294967295) nodes → (rank : ℕ) → rank < length nodes → slice_index (ids nodes) rank < 2 ^ 32
id_short nodes fit rank inside =
    let none : NodeEntry = record { id = record { 0 = 0 }; votes = 0; fence_delay = 0 } in
    let below = fit rank none inside in
    let same = get_or-map (λ (n : NodeEntry). n.id.0) nodes rank none 0 inside in
    omega (arith, below, same)

-- two ranks with one id are one
rank_of_id : (nodes : List NodeEntry) → IsStrictlyIncreasing (ids nodes) → (one other : ℕ) (before after : Bool) → nat_lt one other ≡ before → nat_lt other one ≡ after
    → one < length nodes → other < length nodes → slice_index (ids nodes) one ≡ slice_index (ids nodes) other → one ≡ other
rank_of_id nodes ascend one other true after is_before is_after one_in other_in same =
    let count = length-map nodes (λ (n : NodeEntry). n.id.0) in
    let less = AllPairs-from_increasing (ids nodes) ascend one other 0 (ltb-true one other is_before) (omega (arith, count)) in
    absurd (omega (arith, less, same))
rank_of_id nodes ascend one other false true is_before is_after one_in other_in same =
    let count = length-map nodes (λ (n : NodeEntry). n.id.0) in
    let less = AllPairs-from_increasing (ids nodes) ascend other one 0 (ltb-true other one is_after) (omega (arith, count)) in
    absurd (omega (arith, less, same))
rank_of_id nodes ascend one other false false is_before is_after one_in other_in same =
    let up = ltb-false one other is_before in
    let down = ltb-false other one is_after in
    omega (arith, up, down)

same_rank : (one other : Rank) → one.0 ≡ other.0 → one ≡ other
same_rank one other same = rw same refl

module _ (nodes : List NodeEntry) (ascend : IsStrictlyIncreasing (ids nodes)) (fit : All (λ n. n.id.0 ≤ 4294967295) nodes) where
  one_order : (ones others : List Rank) → length ones ≡ length others → All (λ rank. rank.0 < length nodes) ones → All (λ rank. rank.0 < length nodes) others
      → ids_bytes nodes ones ≡ ids_bytes nodes others → ones ≡ others
  one_order [] [] count ones_in others_in is = refl
  one_order [] (other ∷ others) count ones_in others_in is = absurd (omega arith)
  one_order (one ∷ ones) [] count ones_in others_in is = absurd (omega arith)
  one_order (one ∷ ones) (other ∷ others) count ones_in others_in is =
      let one_in = ones_in 0 one (omega arith) in
      let other_in = others_in 0 other (omega arith) in
      let id = one_number 4 (slice_index (ids nodes) one.0) (slice_index (ids nodes) other.0) (ids_bytes nodes ones) (ids_bytes nodes others)
      (id_short nodes fit one.0 one_in) (id_short nodes fit other.0 other_in) is in
      let rank = same_rank one other (rank_of_id nodes ascend one.0 other.0 (nat_lt one.0 other.0) (nat_lt other.0 one.0) refl refl one_in other_in id.0) in
      let more = one_order ones others (omega arith) (all_rest (λ rank. rank.0 < length nodes) one ones ones_in)
      (all_rest (λ rank. rank.0 < length nodes) other others others_in) id.1 in
      λ i. rank i ∷ more i

  one_tie : (one other : Option (List Rank)) → IfSome one (IsOrder nodes) → IfSome other (IsOrder nodes) → tie_bytes nodes one ≡ tie_bytes nodes other → one ≡ other
  one_tie None None one_is other_is is = refl
  one_tie None (Some other) one_is other_is is = let kind = (one_head 0 1 _ _ is).0 in absurd (omega (arith, kind))
  one_tie (Some one) None one_is other_is is = let kind = (one_head 1 0 _ _ is).0 in absurd (omega (arith, kind))
  one_tie (Some one) (Some other) one_is other_is is =
      let back = (one_head 1 1 _ _ is).1 in
      let parts = one_head (length one) (length other) _ _ back in
      ap Some (one_order one other parts.0 one_is.configured other_is.configured parts.1)

same_settings : (one other : Settings) → one.nodes ≡ other.nodes → one.two_node ≡ other.two_node → one.wait_for_all ≡ other.wait_for_all
    → one.last_man_standing ≡ other.last_man_standing → one.window ≡ other.window → one.device ≡ other.device → one.expected ≡ other.expected → one.tie ≡ other.tie
    → one ≡ other
same_settings one other nodes two_node wait_for_all last_man_standing window device expected tie =
    rw (nodes, two_node, wait_for_all, last_man_standing, window, device, expected, tie) refl

node_fits : (s : Settings) → IsValid s → All Fits s.nodes
node_fits s valid = λ k d below.
    let id = valid.ids_fit k d below in
    let votes = valid.votes_fit k d below in
    let delay = valid.delays_fit k d below in
    (omega (arith, id), omega (arith, votes), omega (arith, delay))

device_fits : (device : Option Device) → IfSome device (λ d. d.votes < 2 ^ 32) → IfSome device (λ d. IsPeriod d.timeout) → IfSome device DeviceFits
device_fits None votes timeout = tt
device_fits (Some device) votes timeout = (votes, omega (arith, timeout.1))

-- what stands behind the nodes, where these are the same
same_rest : (one other : Settings) (links places : List (Option IpAddr)) (arbiter another : Option ArbiterPlace) → IsSaid one links arbiter → IsSaid other places another
    → one.nodes ≡ other.nodes → rest_bytes one arbiter ≡ rest_bytes other another → (one ≡ other) × (arbiter ≡ another)
unfolding rest_bytes
same_rest one other links places arbiter another one_said other_said nodes is =
    let one_valid = one_said.valid in
    let other_valid = other_said.valid in
    let first = one_head (flag_byte one.two_node) (flag_byte other.two_node) _ _ is in
    let second = one_head (flag_byte one.wait_for_all) (flag_byte other.wait_for_all) _ _ first.1 in
    let third = one_head (flag_byte one.last_man_standing) (flag_byte other.last_man_standing) _ _ second.1 in
    let window = one_number 8 one.window other.window _ _ (omega (arith, one_valid.window.1)) (omega (arith, other_valid.window.1)) third.1 in
    let expected = one_number 8 one.expected other.expected _ _ one_said.expected other_said.expected window.1 in
    let device = one_device one.device other.device arbiter another _ _ (device_fits one.device one_said.device one_valid.timeout)
    (device_fits other.device other_said.device other_valid.timeout) one_said.place other_said.place one_said.apart other_said.apart expected.1 in
    let tie = one_tie one.nodes one_valid.ids_ascend one_valid.ids_fit one.tie other.tie one_valid.tie_order
    (subst (λ n. IfSome other.tie (IsOrder n)) (sym nodes) other_valid.tie_order) (device.2 ∙ ap (λ n. tie_bytes n other.tie) (sym nodes)) in (
      same_settings one other nodes (one_flag one.two_node other.two_node first.0) (one_flag one.wait_for_all other.wait_for_all second.0)
          (one_flag one.last_man_standing other.last_man_standing third.0) window.0 device.0 expected.0 tie,
      device.1,
    )

pub same_meaning : (one other : Settings) (links places : List (Option IpAddr)) (arbiter another : Option ArbiterPlace) → IsSaid one links arbiter → IsSaid other places another
    → meaning one links arbiter ≡ meaning other places another → (one ≡ other) × (links ≡ places) × (arbiter ≡ another)
unfolding meaning
same_meaning one other links places arbiter another one_said other_said is =
    let back = ap (drop 8) is in
    let count = one_head (length one.nodes) (length other.nodes) _ _ back in
    let few = one_said.valid.few_nodes in
    let many = one_said.places in
    let more = other_said.places in
    let nodes = one_list one.nodes other.nodes links places (rest_bytes one arbiter) (rest_bytes other another) count.0 (omega arith) (omega arith)
    (node_fits one one_said.valid) (node_fits other other_said.valid) one_said.addresses other_said.addresses count.1 in
    let same = same_rest one other links places arbiter another one_said other_said nodes.0 nodes.2 in
    let beyond : (rank : ℕ) → length one.nodes ≤ rank → get_or places rank None ≡ None = λ rank past. other_said.past rank (omega (arith, past, count.0)) in
    let listed : links ≡ places = ext_get_or None links places (many ∙ sym more)
    (λ rank below. place_same (length one.nodes) rank links places (nat_lt rank (length one.nodes)) refl nodes.1 one_said.past beyond) in
    (same.0, listed, same.1)

pub meaning_same : (one other : Settings) (links places : List (Option IpAddr)) (arbiter another : Option ArbiterPlace) → one ≡ other → links ≡ places → arbiter ≡ another
    → meaning one links arbiter ≡ meaning other places another
meaning_same one other links places arbiter another same listed placed = rw (same, listed, placed) refl

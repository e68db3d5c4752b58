-- The fields of a well formed packet are read back from its bytes.
use Rattle.std.proofs.Common.{◌≡◌, ◌^◌, ℕ, Bool, true, false, ◌==◌, ◌+◌, ◌%◌, nat_le, slice_index, cond, List, [], ◌∷◌, ◌++◌, Option, None, Some, refl, ap, arith, subst, ◌⊎◌, inl, inr}
use Rattle.std.specs.Int.{bytes_high_first}
use Rattle.std.specs.Option.{option_map_or}
use Rattle.std.proofs.lemmas.Bool.{and_parts, ltb-true}
use Rattle.std.proofs.lemmas.Bool.Decides.{nat_tests}
use Rattle.std.proofs.lemmas.Option.{none-some, same_Some}
use Rattle.byteorder.specs.Numbers.{big_number-reads_back}
use Rattle.qn_base.specs.declared.ids.Rank.{Rank}
use Rattle.qn_base.specs.declared.ids.Said.{Said}
use Rattle.qn_base.specs.declared.ids.Standing.{Standing}
use Rattle.qn_base.specs.declared.ids.View.{View}
use Rattle.qn_base.specs.lemmas.Bools.{cond_is_one}
use Rattle.qn_model.specs.declared.packets.Ask.{Ask}
use Rattle.qn_model.specs.declared.packets.Tell.{Tell}
use Rattle.qn_model.specs.declared.packets.Packet.{Packet}
use Rattle.qn_model.specs.declared.packets.Packet.TheVariants as packet
use Rattle.qn_wire.specs.Packets.{announce_bytes, has_name, named_bytes, packet_bytes, head_bytes, view_bytes, said_bytes, standing_bytes, follows_byte, ask_fields, as_ask, is_ask, is_rank, is_said, is_view, is_well_formed}
use Rattle.qn_wire.specs.Reading.{fields_of, ask_at, follows_at, said_at, tell_at, view_at}

same_view : (first second : View) → first.id ≡ second.id → first.members.0 ≡ second.members.0 → first ≡ second
same_view first second same_id same_members = rw (same_id, same_members) refl

view_at-view_bytes : (view : View) (rest : List ℕ) → is_view view ≡ true → view_at 0 (view_bytes view ++ rest) ≡ view
view_at-view_bytes view rest is =
    let tests = and_parts _ _ is in
    let id_fits = ltb-true view.id (2 ^ 64) (and_parts _ _ tests.0).0 in
    let members_fit = ltb-true view.members.0 (2 ^ 32) tests.1 in
    same_view (view_at 0 (view_bytes view ++ rest)) view
    (big_number-reads_back 8 view.id (bytes_high_first 4 view.members.0 ++ rest) id_fits)
    (big_number-reads_back 4 view.members.0 rest members_fit)

-- whom a node follows is read back from its byte: no rank is 32
follows_back : (follows : Option Rank) → option_map_or is_rank follows true ≡ true → follows_at (follows_byte follows) ≡ follows
follows_back None is = refl
follows_back (Some rank) is =
    let below = ltb-true rank.0 32 is in
    let other : (rank.0 == 32) ≡ false = grind (arith, nat_tests) in
    rw other refl

same_said : (first second : Said) → first.hears.0 ≡ second.hears.0 → first.follows ≡ second.follows → first.able ≡ second.able → first ≡ second
same_said first second hears follows able = rw (hears, follows, able) refl

said_at-said_bytes : (from : Rank) (said : Said) (standing : Standing) → is_said from said ≡ true
    → said_at (head_bytes 8 ++ from.0 ∷ [] ++ said_bytes said ++ standing_bytes standing) ≡ said
said_at-said_bytes from said standing is =
    let tests = and_parts _ _ is in
    let hears_fit = ltb-true said.hears.0 (2 ^ 32) (and_parts _ _ tests.0).0 in
    same_said (said_at (head_bytes 8 ++ from.0 ∷ [] ++ said_bytes said ++ standing_bytes standing)) said
    (big_number-reads_back 4 said.hears.0 (follows_byte said.follows ∷ cond said.able 1 0 ∷ standing_bytes standing) hears_fit)
    (follows_back said.follows tests.1)
    (cond_is_one said.able)

same_ask : (first second : Ask) → first.from ≡ second.from → first.to ≡ second.to → first.incarnation ≡ second.incarnation → first.install ≡ second.install → first.view ≡ second.view → first ≡ second
same_ask first second from to incarnation install view = rw (from, to, incarnation, install, view) refl

ask_at-ask_fields : (kind : ℕ) (ask : Ask) (rest : List ℕ) → is_ask ask ≡ true → ask_at (head_bytes kind ++ ask_fields ask ++ rest) ≡ ask
ask_at-ask_fields kind ask rest is =
    let four = and_parts _ _ is in
    let three = and_parts _ _ four.0 in
    let two = and_parts _ _ three.0 in
    same_ask (ask_at (head_bytes kind ++ ask_fields ask ++ rest)) ask refl refl
    (big_number-reads_back 8 ask.incarnation (bytes_high_first 8 ask.install ++ view_bytes ask.view ++ rest) (ltb-true ask.incarnation (2 ^ 64) two.1))
    (big_number-reads_back 8 ask.install (view_bytes ask.view ++ rest) (ltb-true ask.install (2 ^ 64) three.1))
    (view_at-view_bytes ask.view rest four.1)

-- the byte of a Tell, of its two truths
abbrev flags_of : Bool → Bool → ℕ
flags_of holds released = cond holds 1 0 + cond released 2 0

holds_back : (holds released : Bool) → (flags_of holds released % 2 == 1) ≡ holds
holds_back true true = refl
holds_back true false = refl
holds_back false true = refl
holds_back false false = refl

released_back : (holds released : Bool) → nat_le 2 (flags_of holds released) ≡ released
released_back true true = refl
released_back true false = refl
released_back false true = refl
released_back false false = refl

same_tell : (first second : Tell) → as_ask first ≡ as_ask second → first.holds ≡ second.holds → first.released ≡ second.released → first ≡ second
same_tell first second same_ask holds released =
    rw (ap (λ a. a.from) same_ask, ap (λ a. a.to) same_ask, ap (λ a. a.incarnation) same_ask, ap (λ a. a.install) same_ask, ap (λ a. a.view) same_ask, holds, released) refl

tell_at-tell_bytes : (tell : Tell) → is_ask (as_ask tell) ≡ true → tell_at (packet_bytes (packet.Tell tell)) ≡ tell
unfolding packet_bytes
tell_at-tell_bytes tell is =
    same_tell (tell_at (packet_bytes (packet.Tell tell))) tell
    (ask_at-ask_fields 2 (as_ask tell) (flags_of tell.holds tell.released ∷ []) is)
    (holds_back tell.holds tell.released)
    (released_back tell.holds tell.released)

-- an announcement of either kind is read back
fields_of-announce : (kind : ℕ) (from : Rank) (view : View) → is_view view ≡ true → (kind ≡ 4) ⊎ (kind ≡ 11)
    → fields_of kind (announce_bytes kind from view) ≡ Some (packet.Announce from view)
fields_of-announce kind from view is (inl four) =
    rw four (ap (λ x. Some (packet.Announce from x)) (view_at-view_bytes view [] is))
fields_of-announce kind from view is (inr eleven) =
    rw eleven (ap (λ x. Some (packet.Announce from x)) (view_at-view_bytes view [] is))

fields_of-kind : (view : View) (named : Bool) (from : Rank) → is_view view ≡ true
    → fields_of (cond named 11 4) (announce_bytes (cond named 11 4) from view) ≡ Some (packet.Announce from view)
fields_of-kind view true from is = fields_of-announce 11 from view is (inr refl)
fields_of-kind view false from is = fields_of-announce 4 from view is (inl refl)

-- and so is one in the kind of named ones
pub fields_of-named_bytes : (p : Packet) (bytes : List ℕ) → is_well_formed p ≡ true → named_bytes p ≡ Some bytes → fields_of (slice_index bytes 2) bytes ≡ Some p
unfolding named_bytes
fields_of-named_bytes (packet.Ask ask) bytes is e = absurd (none-some bytes e)
fields_of-named_bytes (packet.Tell tell) bytes is e = absurd (none-some bytes e)
fields_of-named_bytes (packet.Hello from) bytes is e = absurd (none-some bytes e)
fields_of-named_bytes (packet.Announce from view) bytes is e =
    subst (λ b. fields_of (slice_index b 2) b ≡ Some (packet.Announce from view)) (same_Some _ _ e)
    (fields_of-announce 11 from view (and_parts _ _ is).1 (inr refl))
fields_of-named_bytes (packet.Vote agrees) bytes is e = absurd (none-some bytes e)
fields_of-named_bytes (packet.Heard from said standing) bytes is e = absurd (none-some bytes e)

pub fields_of-packet_bytes : (p : Packet) → is_well_formed p ≡ true → fields_of (slice_index (packet_bytes p) 2) (packet_bytes p) ≡ Some p
unfolding packet_bytes
fields_of-packet_bytes (packet.Ask ask) is = ap (λ x. Some (packet.Ask x)) (ask_at-ask_fields 1 ask [] is)
fields_of-packet_bytes (packet.Tell tell) is = ap (λ x. Some (packet.Tell x)) (tell_at-tell_bytes tell is)
fields_of-packet_bytes (packet.Hello from) is = refl
fields_of-packet_bytes (packet.Announce from view) is = fields_of-kind view (has_name view) from (and_parts _ _ is).1
fields_of-packet_bytes (packet.Vote agrees) is = ap (λ x. Some (packet.Vote x)) (cond_is_one agrees)
fields_of-packet_bytes (packet.Heard from said standing) is =
    ap (λ x. Some (packet.Heard from x standing)) (said_at-said_bytes from said standing (and_parts _ _ is).1)

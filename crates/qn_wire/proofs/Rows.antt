-- Packets of kind 8 that were worked by hand, and bytes that are none.
use Rattle.std.proofs.Common.{◌≡◌, ℕ, false, List, [], ◌∷◌, None, Some, refl}
use Rattle.qn_model.specs.declared.packets.Packet.{Packet}
use Rattle.qn_model.specs.declared.packets.Packet.TheVariants as packet
use Rattle.qn_wire.specs.Packets.{named_bytes, packet_bytes}
use Rattle.qn_wire.specs.Reading.{packet_of}

-- rank 1 hears 0, 1 and 2, follows 0, and is not able
abbrev first : Packet
first = packet.Heard (record { 0 = 1 }) (record { hears = record { 0 = 7 }; follows = Some (record { 0 = 0 }); able = false }) (record { flags = 0; weight = 255 })

abbrev first_bytes : List ℕ
first_bytes = 81 ∷ 78 ∷ 8 ∷ 1 ∷ 0 ∷ 0 ∷ 0 ∷ 7 ∷ 0 ∷ 0 ∷ 0 ∷ 255 ∷ []

-- rank 5 hears nobody, and follows nobody
abbrev alone : Packet
alone = packet.Heard (record { 0 = 5 }) (record { hears = record { 0 = 32 }; follows = None; able = false }) (record { flags = 0; weight = 255 })

abbrev alone_bytes : List ℕ
alone_bytes = 81 ∷ 78 ∷ 8 ∷ 5 ∷ 0 ∷ 0 ∷ 0 ∷ 32 ∷ 32 ∷ 0 ∷ 0 ∷ 255 ∷ []

first_is_spelled : packet_bytes first ≡ first_bytes
unfolding packet_bytes
first_is_spelled = refl

alone_is_spelled : packet_bytes alone ≡ alone_bytes
unfolding packet_bytes
alone_is_spelled = refl

first_is_read : packet_of first_bytes ≡ Some first
unfolding packet_bytes named_bytes packet_of
first_is_read = refl

alone_is_read : packet_of alone_bytes ≡ Some alone
unfolding packet_bytes named_bytes packet_of
alone_is_read = refl

-- whom it follows is 33
follows_no_rank : packet_of (81 ∷ 78 ∷ 8 ∷ 5 ∷ 0 ∷ 0 ∷ 0 ∷ 32 ∷ 33 ∷ 0 ∷ 0 ∷ 255 ∷ []) ≡ None
unfolding packet_bytes named_bytes packet_of
follows_no_rank = refl

-- able is 2
able_is_no_truth : packet_of (81 ∷ 78 ∷ 8 ∷ 5 ∷ 0 ∷ 0 ∷ 0 ∷ 32 ∷ 32 ∷ 2 ∷ 0 ∷ 255 ∷ []) ≡ None
unfolding packet_bytes named_bytes packet_of
able_is_no_truth = refl

-- it does not hear itself
hears_not_itself : packet_of (81 ∷ 78 ∷ 8 ∷ 5 ∷ 0 ∷ 0 ∷ 0 ∷ 31 ∷ 32 ∷ 0 ∷ 0 ∷ 255 ∷ []) ≡ None
unfolding packet_bytes named_bytes packet_of
hears_not_itself = refl

-- one byte less, and one more
one_byte_less : packet_of (81 ∷ 78 ∷ 8 ∷ 5 ∷ 0 ∷ 0 ∷ 0 ∷ 32 ∷ 32 ∷ 0 ∷ 0 ∷ []) ≡ None
unfolding packet_bytes named_bytes packet_of
one_byte_less = refl

one_byte_more : packet_of (81 ∷ 78 ∷ 8 ∷ 5 ∷ 0 ∷ 0 ∷ 0 ∷ 32 ∷ 32 ∷ 0 ∷ 0 ∷ 255 ∷ 0 ∷ []) ≡ None
unfolding packet_bytes named_bytes packet_of
one_byte_more = refl

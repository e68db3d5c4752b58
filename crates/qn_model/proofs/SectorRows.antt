-- Worked rows of the sectors of an image: the bytes of headers, a slot and mailboxes.
use Rattle.std.proofs.Common.{◌≡◌, true, false, Some, [], ◌∷◌, ◌++◌, length, refl}
use Rattle.qn_model.specs.Sectors.{header_bytes_in, header_bytes, header_bytes_1, slot_bytes, mail_bytes, mail_bytes_1, anonymous, zeros}
use Rattle.qn_model.specs.declared.disk.Message.TheVariants.{Reset}

-- three nodes with watchdog 5000, msgwait 10000, loop 1000, read limit 2000 and feed delay 1000
header_of_three_nodes : header_bytes 3 (record { watchdog = 5000; msgwait = 10000; loop_ms = 1000; read_limit = 2000; feed_delay = 1000 })
    ≡ (0x51 ∷ 0x4e ∷ 0x53 ∷ 0x42 ∷ 0x44 ∷ 0x30 ∷ 0x30 ∷ 0x31 ∷ [])
    ++ (0x00 ∷ 0x02 ∷ [])
    ++ (0x00 ∷ 0x03 ∷ [])
    ++ (0x00 ∷ 0x00 ∷ 0x00 ∷ 0x00 ∷ [])
    ++ (0x00 ∷ 0x00 ∷ 0x00 ∷ 0x00 ∷ 0x00 ∷ 0x00 ∷ 0x13 ∷ 0x88 ∷ [])
    ++ (0x00 ∷ 0x00 ∷ 0x00 ∷ 0x00 ∷ 0x00 ∷ 0x00 ∷ 0x27 ∷ 0x10 ∷ [])
    ++ (0x00 ∷ 0x00 ∷ 0x00 ∷ 0x00 ∷ 0x00 ∷ 0x00 ∷ 0x03 ∷ 0xe8 ∷ [])
    ++ (0x00 ∷ 0x00 ∷ 0x00 ∷ 0x00 ∷ 0x00 ∷ 0x00 ∷ 0x07 ∷ 0xd0 ∷ [])
    ++ (0x00 ∷ 0x00 ∷ 0x00 ∷ 0x00 ∷ 0x00 ∷ 0x00 ∷ 0x03 ∷ 0xe8 ∷ [])
    ++ zeros 456
unfolding header_bytes_in
header_of_three_nodes = refl

-- the same in version 1: three nodes with watchdog 5000, msgwait 10000, loop 1000, read limit 2000 and feed delay 1000
header_1_of_three_nodes : header_bytes_1 3 (record { watchdog = 5000; msgwait = 10000; loop_ms = 1000; read_limit = 2000; feed_delay = 1000 })
    ≡ (0x51 ∷ 0x4e ∷ 0x53 ∷ 0x42 ∷ 0x44 ∷ 0x30 ∷ 0x30 ∷ 0x31 ∷ [])
    ++ (0x00 ∷ 0x01 ∷ [])
    ++ (0x00 ∷ 0x03 ∷ [])
    ++ (0x00 ∷ 0x00 ∷ 0x00 ∷ 0x00 ∷ [])
    ++ (0x00 ∷ 0x00 ∷ 0x00 ∷ 0x00 ∷ 0x00 ∷ 0x00 ∷ 0x13 ∷ 0x88 ∷ [])
    ++ (0x00 ∷ 0x00 ∷ 0x00 ∷ 0x00 ∷ 0x00 ∷ 0x00 ∷ 0x27 ∷ 0x10 ∷ [])
    ++ (0x00 ∷ 0x00 ∷ 0x00 ∷ 0x00 ∷ 0x00 ∷ 0x00 ∷ 0x03 ∷ 0xe8 ∷ [])
    ++ (0x00 ∷ 0x00 ∷ 0x00 ∷ 0x00 ∷ 0x00 ∷ 0x00 ∷ 0x07 ∷ 0xd0 ∷ [])
    ++ (0x00 ∷ 0x00 ∷ 0x00 ∷ 0x00 ∷ 0x00 ∷ 0x00 ∷ 0x03 ∷ 0xe8 ∷ [])
    ++ zeros 456
unfolding header_bytes_in
header_1_of_three_nodes = refl

-- node 2, incarnation 1, dirty
slot_of_node_2 : slot_bytes 2 (record { incarnation = 1; clean = false })
    ≡ (0x53 ∷ 0x4c ∷ 0x4f ∷ 0x54 ∷ 0x00 ∷ 0x00 ∷ 0x00 ∷ 0x02 ∷ 0x00 ∷ 0x00 ∷ 0x00 ∷ 0x00 ∷ 0x00 ∷ 0x00 ∷ 0x00 ∷ 0x01 ∷ 0x00 ∷ []) ++ zeros 495
unfolding slot_bytes
slot_of_node_2 = refl

-- a mailbox with the reset of node 1 in its incarnation 3
mail_with_reset : mail_bytes (record { message = Reset; by = Some (record { id = record { 0 = 1 }; incarnation = 3 }) })
    ≡ (0x4d ∷ 0x41 ∷ 0x49 ∷ 0x4c ∷ 0x02 ∷ [])
    ++ (0x00 ∷ 0x00 ∷ 0x00 ∷ [])
    ++ (0x00 ∷ 0x00 ∷ 0x00 ∷ 0x01 ∷ [])
    ++ (0x00 ∷ 0x00 ∷ 0x00 ∷ 0x00 ∷ 0x00 ∷ 0x00 ∷ 0x00 ∷ 0x03 ∷ [])
    ++ zeros 492
unfolding mail_bytes
mail_with_reset = refl

-- a reset of nobody is spelled as it was in version 1
mail_with_anonymous_reset : mail_bytes (anonymous Reset) ≡ (0x4d ∷ 0x41 ∷ 0x49 ∷ 0x4c ∷ 0x02 ∷ []) ++ zeros 507
unfolding mail_bytes
mail_with_anonymous_reset = refl

mail_1_with_reset : mail_bytes_1 Reset ≡ (0x4d ∷ 0x41 ∷ 0x49 ∷ 0x4c ∷ 0x02 ∷ []) ++ zeros 507
unfolding mail_bytes_1
mail_1_with_reset = refl

-- a sector has 512 bytes
length-header : length (header_bytes 32 (record { watchdog = 1; msgwait = 3600000; loop_ms = 1; read_limit = 1; feed_delay = 1 })) ≡ 512
unfolding header_bytes_in
length-header = refl

length-slot : length (slot_bytes 4294967295 (record { incarnation = 18446744073709551615; clean = true })) ≡ 512
unfolding slot_bytes
length-slot = refl

length-mail : length (mail_bytes (anonymous Reset)) ≡ 512
unfolding mail_bytes
length-mail = refl

-- The line of a call is read back as that call.
use Rattle.std.proofs.Common.{◌≡◌, ◌<◌, ◌≤◌, ◌+◌, ◌-◌, ◌^◌, ◌==◌, ◌/◌, ◌%◌, ℕ, Bool, true, false, List, [], ◌∷◌, ◌++◌, length, slice_index, Some, Ok, Err, nat_lt, suc, refl, sym, ap, ◌∙◌, arith, append_assoc}
use Rattle.std.specs.Prelude.{codes, decimal}
use Rattle.std.specs.List.{list_any}
use Rattle.std.specs.Char.{is_ascii_uppercase}
use Rattle.std.specs.Str.{bytes_eq}
use Rattle.std.proofs.lemmas.Bool.Decides.{nat_tests}
use Rattle.std.proofs.lemmas.List.Splits.{slice_split_at, slice_split_none}
use Rattle.std.proofs.lemmas.Slice.Eq.{bytes_eq-Decides}
use Rattle.hex.specs.Hex.{IsBytes, decode_pairs, encode_lower, encode_with, lower_digits}
use Rattle.hex.proofs.HexLemmas.{decode_of-encode_lower, length-encode_with}
use Rattle.qn_base.specs.declared.calls.Call.{Call}
use Rattle.qn_base.specs.declared.calls.Call.TheVariants as call
use Rattle.qn_base.specs.declared.calls.Received.{Received}
use Rattle.qn_base.specs.declared.calls.Received.TheVariants as received
use Rattle.qn_model.specs.declared.line_fault.LineFault.TheVariants.{BadNumber}
use Rattle.qn_model.specs.Lines.{words_of}
use Rattle.qn_sched.specs.WrittenNumbers.{decimal_blankless, number_between-decimal}
use Rattle.qn_audit.specs.declared.log_name.LogName.{LogName}
use Rattle.qn_audit.specs.declared.log_name.LogName.TheVariants as name
use Rattle.qn_audit.specs.declared.log_name.DeviceCall.{DeviceCall}
use Rattle.qn_audit.specs.declared.log_name.DeviceCall.TheVariants.{Feed, Start, Stop, Disarm}
use Rattle.qn_audit.specs.LogNames.{device_call, device_word, log_name, log_word}
use Rattle.qn_audit.specs.Logs.{HasReceivedBytes, IsRecorded, IsSoundRead, IsSoundReceived, bytes_text, call_line, ok_text, read_text, received_text}
use Rattle.qn_audit.specs.Reading.{HasNoSpace, bytes_between, bytes_of, call_named, call_of, call_of_words, device_of, digits_of, halt_of, is_empty, now_of, ok_of, read_of, receive_of, received_of, sector_of, sector_read_of, send_of, write_of}
use Rattle.qn_audit.proofs.Digits.{bytes_between-ok, digits_no_space}
use Rattle.qn_audit.proofs.OneWords.{none_passes}

-- ---- words

-- a first word, and a space after it
words_first : (word more : List ℕ) → HasNoSpace word → words_of (word ++ 32 ∷ more) ≡ word ∷ words_of more
words_first word more plain = slice_split_at (λ b. b == 32) word 32 more plain refl

-- a last word
words_last : (word : List ℕ) → HasNoSpace word → words_of word ≡ word ∷ []
words_last word plain = slice_split_none (λ b. b == 32) word plain

words_two : (one two : List ℕ) → HasNoSpace one → HasNoSpace two → words_of (one ++ 32 ∷ two) ≡ one ∷ two ∷ []
words_two one two plain others = words_first one two plain ∙ ap (λ words. one ∷ words) (words_last two others)

-- ---- digits

-- no digit has upper case
lower_digit : (d : ℕ) → d < 16 → is_ascii_uppercase (slice_index lower_digits d) ≡ false
lower_digit d within = none_passes is_ascii_uppercase lower_digits refl d 0 within

lower_encoded : (bytes : List ℕ) → IsBytes bytes → list_any is_ascii_uppercase (encode_lower bytes) ≡ false
unfolding encode_with
lower_encoded [] all = refl
lower_encoded (byte ∷ bytes) all =
    let fits : byte < 256 = all 0 in
    rw (lower_digit (byte / 16) (omega arith), lower_digit (byte % 16) (omega arith)) (lower_encoded bytes (λ k. all (suc k)))

some_digit : (first : ℕ) (bytes : List ℕ) → is_empty (encode_lower (first ∷ bytes)) ≡ false
unfolding encode_with
some_digit first bytes = refl

-- digits spell the bytes that they were written of
pub digits_back : (first : ℕ) (bytes : List ℕ) → IsBytes (first ∷ bytes) → length (first ∷ bytes) ≤ 512 → digits_of (encode_lower (first ∷ bytes)) ≡ Ok (first ∷ bytes)
unfolding digits_of
digits_back first bytes all few =
    let short : nat_lt 1024 (length (encode_lower (first ∷ bytes))) ≡ false = grind (arith, nat_tests, length-encode_with lower_digits (first ∷ bytes), few) in
    rw (some_digit first bytes, short, lower_encoded (first ∷ bytes) all, decode_of-encode_lower (first ∷ bytes) all) refl

-- what spells bytes is none of the words that do not
not_word : (word text bytes : List ℕ) → digits_of word ≡ Ok bytes → digits_of text ≡ Err BadNumber → bytes_eq word text ≡ false
not_word word text bytes spells fault = of_test (bytes_eq word text) refl
  where
    of_test : (test : Bool) → bytes_eq word text ≡ test → bytes_eq word text ≡ false
    of_test true is =
        let same : word ≡ text = (bytes_eq-Decides word text).0 is in
        let both : Ok bytes ≡ Err BadNumber = sym spells ∙ ap digits_of same ∙ fault in absurd cc
    of_test false is = is

no_dash : digits_of (codes "-") ≡ Err BadNumber
unfolding digits_of
no_dash = refl

no_failed : digits_of (codes "failed") ≡ Err BadNumber
unfolding digits_of decode_pairs
no_failed = refl

no_nothing : digits_of (codes "nothing") ≡ Err BadNumber
unfolding digits_of
no_nothing = refl

-- ---- bytes

plain_bytes : (bytes : List ℕ) → IsBytes bytes → length bytes ≤ 512 → HasNoSpace (bytes_text bytes)
plain_bytes [] all few = none_passes (λ b. b == 32) (codes "-") refl
plain_bytes (first ∷ bytes) all few = digits_no_space (encode_lower (first ∷ bytes)) (first ∷ bytes) (digits_back first bytes all few)

bytes_back : (least most : ℕ) (bytes : List ℕ) → IsBytes bytes → length bytes ≤ 512 → least ≤ length bytes → length bytes ≤ most → bytes_between least most (bytes_text bytes) ≡ Ok bytes
unfolding bytes_between bytes_of
bytes_back least most [] all few low high =
    let above : nat_lt 0 least ≡ false = grind (arith, nat_tests, low) in
    let below : nat_lt most 0 ≡ false = grind (arith, nat_tests, high) in
    rw (above, below) refl
bytes_back least most (first ∷ bytes) all few low high =
    bytes_between-ok least most (encode_lower (first ∷ bytes)) (first ∷ bytes)
    (not_word (encode_lower (first ∷ bytes)) (codes "-") (first ∷ bytes) (digits_back first bytes all few) no_dash) (digits_back first bytes all few) low high

-- no bytes are written as a word
not_failed : (bytes : List ℕ) → IsBytes bytes → length bytes ≤ 512 → bytes_eq (bytes_text bytes) (codes "failed") ≡ false
not_failed [] all few = refl
not_failed (first ∷ bytes) all few = not_word (encode_lower (first ∷ bytes)) (codes "failed") (first ∷ bytes) (digits_back first bytes all few) no_failed

not_nothing : (bytes : List ℕ) → IsBytes bytes → length bytes ≤ 512 → bytes_eq (bytes_text bytes) (codes "nothing") ≡ false
not_nothing [] all few = refl
not_nothing (first ∷ bytes) all few = not_word (encode_lower (first ∷ bytes)) (codes "nothing") (first ∷ bytes) (digits_back first bytes all few) no_nothing

-- ---- answers

plain_ok : (ok : Bool) → HasNoSpace (ok_text ok)
plain_ok true = none_passes (λ b. b == 32) (codes "ok") refl
plain_ok false = none_passes (λ b. b == 32) (codes "failed") refl

ok_back : (ok : Bool) → ok_of (ok_text ok) ≡ Ok ok
unfolding ok_of
ok_back true = refl
ok_back false = refl

plain_received : (got : Received) → IsSoundReceived got → HasReceivedBytes got → HasNoSpace (received_text got)
plain_received (received.Packet bytes) few all = plain_bytes bytes all (omega (arith, few))
plain_received received.Nothing few all = none_passes (λ b. b == 32) (codes "nothing") refl
plain_received received.Failed few all = none_passes (λ b. b == 32) (codes "failed") refl

received_back : (got : Received) → IsSoundReceived got → HasReceivedBytes got → received_of (received_text got) ≡ Ok got
unfolding received_of
received_back (received.Packet bytes) few all =
    rw (not_nothing bytes all (omega (arith, few)), not_failed bytes all (omega (arith, few)), bytes_back 0 129 bytes all (omega (arith, few)) (omega arith) few) refl
received_back received.Nothing few all = refl
received_back received.Failed few all = refl

plain_read : (bytes : List ℕ) (ok : Bool) → IsSoundRead bytes ok → IsBytes bytes → HasNoSpace (read_text bytes ok)
plain_read bytes true whole all = plain_bytes bytes all (omega (arith, whole))
plain_read bytes false whole all = none_passes (λ b. b == 32) (codes "failed") refl

read_back : (sector : ℕ) (bytes : List ℕ) (ok : Bool) → IsSoundRead bytes ok → IsBytes bytes → sector_read_of sector (read_text bytes ok) ≡ Ok (call.Read sector bytes ok)
unfolding sector_read_of
read_back sector bytes true whole all =
    rw (not_failed bytes all (omega (arith, whole)), bytes_back 512 512 bytes all (omega (arith, whole)) (omega (arith, whole)) (omega (arith, whole))) refl
read_back sector bytes false whole all = rw whole refl

sector_back : (sector : ℕ) → sector < 2 ^ 32 → sector_of (decimal sector) ≡ Ok sector
sector_back sector fits = number_between-decimal 0 (2 ^ 32 - 1) sector (omega arith) (omega (arith, fits)) (omega (arith, fits))

-- ---- lines

-- the names of the lines
name_back : (name : LogName) → log_name (log_word name) ≡ Some name
unfolding log_name
name_back name.Now = refl
name_back name.Receive = refl
name_back name.Read = refl
name_back name.Write = refl
name_back name.Send = refl
name_back name.Halt = refl
name_back (name.OfDevice Feed) = refl
name_back (name.OfDevice Start) = refl
name_back (name.OfDevice Stop) = refl
name_back (name.OfDevice Disarm) = refl

plain_name : (name : LogName) → HasNoSpace (log_word name)
plain_name name.Now = none_passes (λ b. b == 32) (codes "now") refl
plain_name name.Receive = none_passes (λ b. b == 32) (codes "receive") refl
plain_name name.Read = none_passes (λ b. b == 32) (codes "read") refl
plain_name name.Write = none_passes (λ b. b == 32) (codes "write") refl
plain_name name.Send = none_passes (λ b. b == 32) (codes "send") refl
plain_name name.Halt = none_passes (λ b. b == 32) (codes "halt") refl
plain_name (name.OfDevice Feed) = none_passes (λ b. b == 32) (codes "feed") refl
plain_name (name.OfDevice Start) = none_passes (λ b. b == 32) (codes "start") refl
plain_name (name.OfDevice Stop) = none_passes (λ b. b == 32) (codes "stop") refl
plain_name (name.OfDevice Disarm) = none_passes (λ b. b == 32) (codes "disarm") refl

-- a line by its first word and the words after it
named_line : (name : LogName) (rest : List ℕ) → call_of (log_word name ++ 32 ∷ rest) ≡ call_named name (words_of rest)
unfolding call_of call_of_words
named_line name rest = rw (words_first (log_word name) rest (plain_name name), name_back name) refl

device_back : (device : DeviceCall) (ok : Bool) → call_of (device_word device ++ 32 ∷ ok_text ok) ≡ Ok (device_call device ok)
unfolding call_named device_of
device_back device ok = named_line (name.OfDevice device) (ok_text ok) ∙ rw (words_last (ok_text ok) (plain_ok ok), ok_back ok) refl

now_back : (tick : ℕ) → tick < 2 ^ 64 → call_of (codes "now" ++ 32 ∷ decimal tick) ≡ Ok (call.Now tick)
unfolding call_named now_of
now_back tick fits =
    named_line name.Now (decimal tick)
    ∙ rw (words_last (decimal tick) (decimal_blankless tick fits), number_between-decimal 0 (2 ^ 64 - 1) tick (omega arith) (omega (arith, fits)) fits) refl

receive_back : (got : Received) → IsSoundReceived got → HasReceivedBytes got → call_of (codes "receive" ++ 32 ∷ received_text got) ≡ Ok (call.Receive got)
unfolding call_named receive_of
receive_back got sound all =
    named_line name.Receive (received_text got) ∙ rw (words_last (received_text got) (plain_received got sound all), received_back got sound all) refl

read_line_back : (sector : ℕ) (bytes : List ℕ) (ok : Bool) → IsSoundRead bytes ok → sector < 2 ^ 32 → IsBytes bytes
    → call_of (codes "read" ++ 32 ∷ (decimal sector ++ 32 ∷ read_text bytes ok)) ≡ Ok (call.Read sector bytes ok)
unfolding call_named read_of
read_line_back sector bytes ok sound fits all =
    named_line name.Read (decimal sector ++ 32 ∷ read_text bytes ok)
    ∙ rw (words_two (decimal sector) (read_text bytes ok) (decimal_blankless sector (omega (arith, fits))) (plain_read bytes ok sound all), sector_back sector fits)
    (read_back sector bytes ok sound all)

write_back : (sector : ℕ) (bytes : List ℕ) (ok : Bool) → length bytes ≡ 512 → sector < 2 ^ 32 → IsBytes bytes
    → call_of (codes "write" ++ 32 ∷ (decimal sector ++ 32 ∷ (bytes_text bytes ++ 32 ∷ ok_text ok))) ≡ Ok (call.Write sector bytes ok)
unfolding call_named write_of
write_back sector bytes ok whole fits all =
    named_line name.Write (decimal sector ++ 32 ∷ (bytes_text bytes ++ 32 ∷ ok_text ok))
    ∙ rw (
      words_first (decimal sector) (bytes_text bytes ++ 32 ∷ ok_text ok) (decimal_blankless sector (omega (arith, fits))),
      words_two (bytes_text bytes) (ok_text ok) (plain_bytes bytes all (omega (arith, whole))) (plain_ok ok),
      sector_back sector fits,
      bytes_back 512 512 bytes all (omega (arith, whole)) (omega (arith, whole)) (omega (arith, whole)),
      ok_back ok,
    ) refl

send_back : (to : ℕ) (bytes : List ℕ) (ok : Bool) → to < 33 → length bytes ≤ 128 → IsBytes bytes
    → call_of (codes "send" ++ 32 ∷ (decimal to ++ 32 ∷ (bytes_text bytes ++ 32 ∷ ok_text ok))) ≡ Ok (call.Send (record { 0 = to }) bytes ok)
unfolding call_named send_of
send_back to bytes ok node few all =
    named_line name.Send (decimal to ++ 32 ∷ (bytes_text bytes ++ 32 ∷ ok_text ok))
    ∙ rw (
      words_first (decimal to) (bytes_text bytes ++ 32 ∷ ok_text ok) (decimal_blankless to (omega (arith, node))),
      words_two (bytes_text bytes) (ok_text ok) (plain_bytes bytes all (omega (arith, few))) (plain_ok ok),
      number_between-decimal 0 32 to (omega arith) (omega (arith, node)) (omega (arith, node)),
      bytes_back 0 128 bytes all (omega (arith, few)) (omega arith) few,
      ok_back ok,
    ) refl

halt_back : (code : ℕ) → code < 2 ^ 8 → call_of (codes "halt" ++ 32 ∷ decimal code) ≡ Ok (call.Halt code)
unfolding call_named halt_of
halt_back code fits =
    named_line name.Halt (decimal code)
    ∙ rw (words_last (decimal code) (decimal_blankless code (omega (arith, fits))), number_between-decimal 0 255 code (omega arith) (omega (arith, fits)) (omega (arith, fits))) refl

-- texts one after the other, from the last one
four_parts : (a b c d : List ℕ) → a ++ b ++ c ++ d ≡ a ++ (b ++ (c ++ d))
four_parts a b c d = append_assoc (a ++ b) c d ∙ append_assoc a b (c ++ d)

six_parts : (a b c d e f : List ℕ) → a ++ b ++ c ++ d ++ e ++ f ≡ a ++ (b ++ (c ++ (d ++ (e ++ f))))
six_parts a b c d e f = append_assoc (a ++ b ++ c ++ d) e f ∙ append_assoc (a ++ b ++ c) d (e ++ f) ∙ four_parts a b c (d ++ (e ++ f))

-- the line of a call is read back as that call
pub reads_back : (call : Call) → IsRecorded call → call_of (call_line call) ≡ Ok call
unfolding call_line
reads_back (call.OpenImage path ok) recorded = absurd recorded.0
reads_back (call.OpenNode images image watchdog resource port rank ok) recorded = absurd recorded.0
reads_back (call.Now tick) recorded = now_back tick recorded.1
reads_back (call.Receive got) recorded = receive_back got recorded.0 recorded.1
reads_back (call.Read sector bytes ok) recorded =
    ap call_of (four_parts (codes "read ") (decimal sector) (codes " ") (read_text bytes ok)) ∙ read_line_back sector bytes ok recorded.0 recorded.1.0 recorded.1.1
reads_back (call.Write sector bytes ok) recorded =
    ap call_of (six_parts (codes "write ") (decimal sector) (codes " ") (bytes_text bytes) (codes " ") (ok_text ok)) ∙ write_back sector bytes ok recorded.0 recorded.1.0 recorded.1.1
reads_back (call.Feed ok) recorded = device_back Feed ok
reads_back (call.Start ok) recorded = device_back Start ok
reads_back (call.Stop ok) recorded = device_back Stop ok
reads_back (call.Send to bytes ok) recorded =
    ap call_of (six_parts (codes "send ") (decimal to.0) (codes " ") (bytes_text bytes) (codes " ") (ok_text ok)) ∙ send_back to.0 bytes ok recorded.0.0 recorded.0.1 recorded.1
reads_back (call.Disarm ok) recorded = device_back Disarm ok
reads_back (call.Halt code) recorded = halt_back code recorded.1

-- The call that a line of a log says, or its first fault: this project's profile.
use Rattle.std.specs.Prelude.{◌≡◌, ◌==◌, All, ℕ, ◌^◌, ◌-◌, Bool, true, false, ◌||◌, nat_lt, if◌then◌else◌, List, [], ◌∷◌, length, Result, Ok, Err, codes}
use Rattle.std.specs.List.{list_any}
use Rattle.std.specs.Option.{ok_or}
use Rattle.std.specs.Result.{result_ok}
use Rattle.std.specs.Char.{is_ascii_uppercase}
use Rattle.std.specs.Str.{bytes_eq}
use Rattle.hex.specs.Hex.{decode_of}
use Rattle.qn_base.specs.declared.calls.Call.{Call}
use Rattle.qn_base.specs.declared.calls.Call.TheVariants as call
use Rattle.qn_base.specs.declared.calls.Received.{Received}
use Rattle.qn_base.specs.declared.calls.Received.TheVariants as received
use Rattle.qn_model.specs.declared.line_fault.LineFault.{LineFault}
use Rattle.qn_model.specs.declared.line_fault.LineFault.TheVariants.{UnknownWord, BadNumber}
use Rattle.qn_model.specs.Lines.{◌>>=◌, number_between, two_words, words_of}
use Rattle.qn_sched.specs.Words.{one_word, three_words}
use Rattle.qn_audit.specs.declared.log_name.LogName.{LogName}
use Rattle.qn_audit.specs.declared.log_name.LogName.TheVariants as name
use Rattle.qn_audit.specs.declared.log_name.DeviceCall.{DeviceCall}
use Rattle.qn_audit.specs.LogNames.{device_call, log_name}

-- no space is in the text, which is one word
abbrev pub HasNoSpace : List ℕ → Type 0
HasNoSpace text = All (λ byte. (byte == 32) ≡ false) text

-- `ok` or `failed`
unfoldable pub ok_of : List ℕ → Result Bool LineFault
ok_of word =
    if bytes_eq word (codes "ok") then Ok true
    else if bytes_eq word (codes "failed") then Ok false
    else Err UnknownWord

abbrev pub is_empty : List ℕ → Bool
is_empty [] = true
is_empty (first ∷ rest) = false

-- the bytes, at most 512, that lower-case digits spell, two a byte
unfoldable pub digits_of : List ℕ → Result (List ℕ) LineFault
digits_of word =
    if is_empty word || nat_lt 1024 (length word) || list_any is_ascii_uppercase word then Err BadNumber
    else ok_or (result_ok (decode_of word)) BadNumber

-- the same, or `-` for no bytes
unfoldable pub bytes_of : List ℕ → Result (List ℕ) LineFault
bytes_of word = if bytes_eq word (codes "-") then Ok [] else digits_of word

-- the same, of so many bytes
unfoldable pub bytes_between : ℕ → ℕ → List ℕ → Result (List ℕ) LineFault
bytes_between least most word = do
  bytes ← bytes_of word
  if nat_lt (length bytes) least || nat_lt most (length bytes) then Err BadNumber else Ok bytes

unfoldable pub now_of : List (List ℕ) → Result Call LineFault
now_of words = do
  word ← one_word words
  tick ← number_between 0 (2 ^ 64 - 1) word
  Ok (call.Now tick)

-- what was received: nothing, a failure, or a packet of at most 129 bytes
unfoldable pub received_of : List ℕ → Result Received LineFault
received_of word =
    if bytes_eq word (codes "nothing") then Ok received.Nothing
    else if bytes_eq word (codes "failed") then Ok received.Failed
    else (do
      bytes ← bytes_between 0 129 word
      Ok (received.Packet bytes))

unfoldable pub receive_of : List (List ℕ) → Result Call LineFault
receive_of words = do
  word ← one_word words
  got ← received_of word
  Ok (call.Receive got)

-- the number of a sector
abbrev pub sector_of : List ℕ → Result ℕ LineFault
sector_of word = number_between 0 (2 ^ 32 - 1) word

-- a read of a sector, which failed or gave these bytes
unfoldable pub sector_read_of : ℕ → List ℕ → Result Call LineFault
sector_read_of sector word =
    if bytes_eq word (codes "failed") then Ok (call.Read sector [] false)
    else (do
      bytes ← bytes_between 512 512 word
      Ok (call.Read sector bytes true))

unfoldable pub read_of : List (List ℕ) → Result Call LineFault
read_of words = do
  pair ← two_words words
  sector ← sector_of pair.0
  sector_read_of sector pair.1

unfoldable pub write_of : List (List ℕ) → Result Call LineFault
write_of words = do
  three ← three_words words
  sector ← sector_of three.0
  bytes ← bytes_between 512 512 three.1
  ok ← ok_of three.2
  Ok (call.Write sector bytes ok)

unfoldable pub send_of : List (List ℕ) → Result Call LineFault
send_of words = do
  three ← three_words words
  to ← number_between 0 32 three.0
  bytes ← bytes_between 0 128 three.1
  ok ← ok_of three.2
  Ok (call.Send (record { 0 = to }) bytes ok)

unfoldable pub halt_of : List (List ℕ) → Result Call LineFault
halt_of words = do
  word ← one_word words
  code ← number_between 0 255 word
  Ok (call.Halt code)

unfoldable pub device_of : DeviceCall → List (List ℕ) → Result Call LineFault
device_of device words = do
  word ← one_word words
  ok ← ok_of word
  Ok (device_call device ok)

-- a line by what its first word says
unfoldable pub call_named : LogName → List (List ℕ) → Result Call LineFault
call_named name.Now words = now_of words
call_named name.Receive words = receive_of words
call_named name.Read words = read_of words
call_named name.Write words = write_of words
call_named name.Send words = send_of words
call_named name.Halt words = halt_of words
call_named (name.OfDevice device) words = device_of device words

unfoldable pub call_of_words : List (List ℕ) → Result Call LineFault
call_of_words [] = Err UnknownWord
call_of_words (first ∷ words) = do
  name ← ok_or (log_name first) UnknownWord
  call_named name words

-- the call that a whole line says, without its end, or its first fault
unfoldable pub call_of : List ℕ → Result Call LineFault
call_of line = call_of_words (words_of line)

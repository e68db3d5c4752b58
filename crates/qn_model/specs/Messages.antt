-- The words of messages: sbd(8), `message`; `empty` is this project's word for what `clear` leaves.
use Rattle.std.specs.Prelude.{ℕ, List, codes}
use Rattle.qn_model.specs.declared.disk.Message.{Message}
use Rattle.qn_model.specs.declared.disk.Message.TheVariants.{Empty, Test, Reset, Off, Exit, Crashdump}

-- the name of a message
abbrev pub message_name : Message → List ℕ
message_name Empty = codes "empty"
message_name Test = codes "test"
message_name Reset = codes "reset"
message_name Off = codes "off"
message_name Exit = codes "exit"
message_name Crashdump = codes "crashdump"

-- the word by which an operator sends a message
abbrev pub operator_word : Message → List ℕ
operator_word Empty = codes "clear"
operator_word Test = message_name Test
operator_word Reset = message_name Reset
operator_word Off = message_name Off
operator_word Exit = message_name Exit
operator_word Crashdump = message_name Crashdump

-- What the host of a node says of it in a file, and what the node is handed then (this project's profile).
use Rattle.std.specs.Prelude.{ℕ, ◌+◌, nat_le, true, false, List, [], ◌∷◌, Option, Some, None, codes, take, drop, option_and_then, if◌then◌else◌}
use Rattle.std.specs.Str.{bytes_eq}
use Rattle.qn_base.specs.Decimal.{number_of}
use Rattle.qn_machine.specs.declared.standing_text.Word.{Word}
use Rattle.qn_machine.specs.declared.standing_text.Word.TheVariants.{Standby, Fit, Pull, Weight}
use Rattle.qn_shown.specs.declared.shown.HostStanding.{HostStanding}

abbrev pub weight_word : ℕ → Option Word
weight_word number = if nat_le number 254 then Some (Weight number) else None

-- `weight` and a decimal number from 0 to 254
abbrev pub weight_in : List ℕ → Option Word
weight_in line = if bytes_eq (take 7 line) (codes "weight ") then option_and_then weight_word (number_of (drop 7 line)) else None

-- the word that a line is
unfoldable pub word_in : List ℕ → Option Word
word_in line =
    if bytes_eq line (codes "standby on") then Some (Standby true)
    else if bytes_eq line (codes "standby off") then Some (Standby false)
    else if bytes_eq line (codes "fit yes") then Some (Fit true)
    else if bytes_eq line (codes "fit no") then Some (Fit false)
    else if bytes_eq line (codes "pull on") then Some (Pull true)
    else if bytes_eq line (codes "pull off") then Some (Pull false)
    else weight_in line

-- `QN`, a kind that no packet has, flags (1 it never holds, 2 it may not hold now, 4 it asks for the resource), and the weight
abbrev pub packet_of : HostStanding → List ℕ
packet_of said =
    81 ∷ 78 ∷ 13 ∷ ((if said.standby then 1 else 0) + (if said.fit then 0 else 2) + (if said.pull then 4 else 0)) ∷ said.weight ∷ []

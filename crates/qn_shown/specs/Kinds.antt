-- The kinds of values of a status file, each read from a value of JSON. This project's profile.
use Rattle.std.specs.Prelude.{ℕ, Bool, ◌+◌, ◌-◌, ◌*◌, ◌/◌, ◌%◌, ◌^◌, ◌==◌, ◌&&◌, List, [], ◌∷◌, ◌++◌, Option, Some, None, option_and_then, option_map, length, take, drop, decimal, nat_le, nat_lt, if◌then◌else◌}
use Rattle.json.specs.Json.{Json}
use Rattle.json.specs.Find.{as_number, as_str}
use Rattle.qn_base.specs.declared.ids.NodeId.{NodeId}
use Rattle.qn_base.specs.Decimal.{number_of}
use Rattle.qn_model.specs.declared.life.Phase.{Phase}
use Rattle.qn_shown.specs.declared.group.Group.{Group}
use Rattle.qn_shown.specs.declared.words.DeviceAnswer.{DeviceAnswer}
use Rattle.qn_shown.specs.declared.words.MailState.{MailState}
use Rattle.qn_shown.specs.Groups.{group_number, group_of}
use Rattle.qn_shown.specs.Words.{answer_named, mail_named, phase_named}

-- a whole number of 64 bits
abbrev pub whole_in : Json → Option ℕ
whole_in j = option_and_then number_of (as_number j)

-- the id of a node: corosync.conf(5), `nodeid`
abbrev pub id_of : ℕ → Option NodeId
id_of n = if nat_lt 0 n && nat_lt n (2 ^ 32) then Some (record { 0 = n }) else None

abbrev pub id_in : Json → Option NodeId
id_in j = option_and_then id_of (whole_in j)

-- milliseconds of an hour at most
abbrev pub period_of : ℕ → Option ℕ
period_of n = if nat_le n 3600000 then Some n else None

abbrev pub period_in : Json → Option ℕ
period_in j = option_and_then period_of (whole_in j)

-- how gladly a node is chosen: 254 at most
abbrev pub weight_of : ℕ → Option ℕ
weight_of n = if nat_le n 254 then Some n else None

abbrev pub weight_in : Json → Option ℕ
weight_in j = option_and_then weight_of (whole_in j)

-- a text that is not longer
abbrev pub text_of : ℕ → List ℕ → Option (List ℕ)
text_of most text = if nat_le (length text) most then Some text else None

abbrev pub text_in : ℕ → Json → Option (List ℕ)
text_in most j = option_and_then (text_of most) (as_str j)

abbrev pub phase_in : Json → Option Phase
phase_in j = option_and_then phase_named (as_str j)

abbrev pub mail_in : Json → Option MailState
mail_in j = option_and_then mail_named (as_str j)

abbrev pub device_answer_in : Json → Option DeviceAnswer
device_answer_in j = option_and_then answer_named (as_str j)

-- the group that a node told
abbrev pub told_group_in : Json → Option Group
told_group_in j = option_and_then group_of (whole_in j)

-- the group that the supervisor of the host looks after
abbrev pub said_group : Group → Option Group
said_group group = if nat_lt 0 (group_number group) && nat_lt (group_number group) 10 then Some group else None

abbrev pub host_group_in : Json → Option Group
host_group_in j = option_and_then said_group (told_group_in j)

-- milliseconds as seconds with three places
abbrev pub three_digits : ℕ → List ℕ
three_digits ms = (48 + ms / 100) ∷ (48 + (ms / 10) % 10) ∷ (48 + ms % 10) ∷ []

abbrev pub time_text : ℕ → List ℕ
time_text ms = decimal (ms / 1000) ++ 46 ∷ three_digits (ms % 1000)

abbrev pub is_digit : ℕ → Bool
is_digit byte = nat_le 48 byte && nat_le byte 57

-- a point and three digits
abbrev pub thousandths_in : List ℕ → Option ℕ
thousandths_in [] = None
thousandths_in (p ∷ []) = None
thousandths_in (p ∷ a ∷ []) = None
thousandths_in (p ∷ a ∷ b ∷ []) = None
thousandths_in (p ∷ a ∷ b ∷ c ∷ []) =
    if p == 46 && is_digit a && is_digit b && is_digit c then Some (100 * (a - 48) + 10 * (b - 48) + (c - 48)) else None
thousandths_in (p ∷ a ∷ b ∷ c ∷ d ∷ rest) = None

abbrev pub whole_time : ℕ → ℕ → Option ℕ
whole_time seconds ms = if nat_lt (1000 * seconds + ms) (2 ^ 64) then Some (1000 * seconds + ms) else None

abbrev pub time_of : List ℕ → Option ℕ
time_of text =
    option_and_then (λ seconds. option_and_then (whole_time seconds) (thousandths_in (drop (length text - 4) text))) (number_of (take (length text - 4) text))

abbrev pub time_in : Json → Option ℕ
time_in j = option_and_then time_of (as_number j)

-- The value of a key: of a key that stands several times the last one, also over several sections of one path
-- (this project's profile).
use Rattle.std.specs.Prelude.{ℕ, ◌==◌, ◌||◌, ◌&&◌, not, Bool, false, if◌then◌else◌, List, [], ◌∷◌, Option, Some, None, map, is_some, is_none, option_and_then, codes}
use Rattle.std.specs.Option.{option_map_or}
use Rattle.std.specs.Str.{bytes_eq}
use Rattle.qn_base.specs.Decimal.{number_of}
use Rattle.qn_settings.specs.declared.key.Key.{Key}
use Rattle.qn_settings.specs.declared.key.Key.TheVariants as keys
use Rattle.qn_settings.specs.declared.entries.Entry.{Entry}
use Rattle.qn_settings.specs.declared.entries.Entry.TheVariants.{NodeBegins, Written}
use Rattle.qn_settings.specs.declared.faults.SettingsFault.{SettingsFault}
use Rattle.qn_settings.specs.declared.faults.SettingsFault.TheVariants.{BadNumber, Unsupported, WrongProvider}
use Rattle.qn_settings.specs.Keys.{is_key, number_in, range_of}

-- the first of two that is there
abbrev pub or_else : {X : Type 0} → Option X → Option X → Option X
or_else None second = second
or_else (Some first) second = Some first

-- the first of several that is there
abbrev pub first_some : {X : Type 0} → List (Option X) → Option X
first_some [] = None
first_some (first ∷ others) = or_else first (first_some others)

-- the value of a key in one entry
abbrev pub value_in : Key → Entry → Option (List ℕ)
value_in key NodeBegins = None
value_in key (Written own value) = if is_key own key then Some value else None

-- the last value of a key among entries
abbrev pub last_value : Key → List Entry → Option (List ℕ)
last_value key [] = None
last_value key (entry ∷ entries) = or_else (last_value key entries) (value_in key entry)

-- the number of a key, where it is written
abbrev pub number : Key → List Entry → Option ℕ
number key entries = option_and_then (number_in key) (last_value key entries)

-- whether a flag is written with the value 1
abbrev pub flag : Key → List Entry → Bool
flag key entries = option_map_or (λ n. n == 1) (number key entries) false

-- corosync.conf(5), `quorum`, `device`: a device is there where its model is written
abbrev pub has_device : List Entry → Bool
has_device entries = is_some (last_value keys.Model entries)

-- the provider is none but corosync_votequorum
abbrev pub wrong_provider : List Entry → Option SettingsFault
wrong_provider entries =
    option_map_or (λ value. if bytes_eq value (codes "corosync_votequorum") then None else Some WrongProvider)
    (last_value keys.Provider entries) None

-- a decimal zero
abbrev pub is_zero : List ℕ → Bool
is_zero value = option_map_or (λ n. n == 0) (number_of value) false

-- the key may only be a decimal zero
abbrev pub unsupported : Key → List Entry → Option SettingsFault
unsupported key entries =
    option_map_or (λ value. if is_zero value then None else Some (Unsupported key)) (last_value key entries) None

-- a key of the device
abbrev pub is_of_device : Key → Bool
is_of_device key = is_key key keys.Votes || is_key key keys.Timeout

-- the fault of a value that is no number in the range of its key; the keys of the device are tried where there is one
abbrev pub bad_number_in : Bool → Entry → Option SettingsFault
bad_number_in device NodeBegins = None
bad_number_in device (Written key value) =
    if (device || not (is_of_device key)) && (is_some (range_of key) && is_none (number_in key value)) then Some (BadNumber key)
    else None

-- the first value that is no number in the range of its key
abbrev pub bad_number : List Entry → Option SettingsFault
bad_number entries = first_some (map (bad_number_in (has_device entries)) entries)

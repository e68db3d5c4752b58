-- Sections inside one another: corosync.conf(5); at most four is this project's profile.
use Rattle.std.specs.Prelude.{ℕ, ◌+◌, ◌-◌, ◌≤◌, Bool, true, false, List, [], ◌∷◌, take, count_by}
use Rattle.qn_conf.specs.declared.tree.Item.{Item}
use Rattle.qn_conf.specs.declared.tree.Item.TheVariants.{Enter, Exit, Pair}

abbrev pub is_begin : Item → Bool
is_begin (Enter name) = true
is_begin Exit = false
is_begin (Pair key value) = false

abbrev pub is_end : Item → Bool
is_end (Enter name) = false
is_end Exit = true
is_end (Pair key value) = false

-- how many sections begin
abbrev pub begins : List Item → ℕ
begins items = count_by is_begin items

-- how many sections end
abbrev pub ends : List Item → ℕ
ends items = count_by is_end items

-- at no place have more sections ended than begun, and at most four stand open
abbrev pub IsNested : List Item → Type 0
IsNested items =
    (n : ℕ) → (ends (take n items) ≤ begins (take n items)) × (begins (take n items) ≤ ends (take n items) + 4)

-- how many sections stand open after an item, where so many did before it
abbrev pub depth_after : ℕ → Item → ℕ
depth_after depth (Enter name) = depth + 1
depth_after depth Exit = depth - 1
depth_after depth (Pair key value) = depth

-- the same after a list of items
abbrev pub depth_after_all : ℕ → List Item → ℕ
depth_after_all depth [] = depth
depth_after_all depth (item ∷ items) = depth_after_all (depth_after depth item) items

-- this project's profile: whether a node opens, from what the writer's key of its rank holds.
use Rattle.std.specs.Prelude.{ℕ, ◌||◌, List, ◌++◌, Option, Some, None, Bool, nat_eq, bytes_eq, codes, if◌then◌else◌}
use Rattle.std.specs.List.{starts_with}
use Rattle.qn_etcd.specs.Answers.{ReadSays, Refused, Absent, Present}

-- the token of a boot of that machine
abbrev pub is_of_machine : List ℕ → List ℕ → Bool
is_of_machine token machine = starts_with nat_eq token (machine ++ codes " ")

-- a node opens where its writer's key was never made, was set free by a boot that left, or is of its own machine: a machine has
-- one boot at a time, and its port tells two starts in it apart. It opens at the revision that was read there, 0 where no key is.
abbrev pub opening : List ℕ → ReadSays → Option ℕ
opening machine Refused = None
opening machine Absent = Some 0
opening machine (Present token revision) =
    if bytes_eq token (codes "free") || is_of_machine token machine then Some revision else None

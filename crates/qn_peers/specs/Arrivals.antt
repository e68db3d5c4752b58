-- When one of two networks is lost to another node (this project's profile).
use Rattle.std.specs.Prelude.{ℕ, ◌-◌, ◌||◌, Bool, true, false, nat_le, Option, Some, None, if◌then◌else◌}
use Rattle.qn_links.specs.Networks.{other_ring}
use Rattle.qn_links.specs.declared.sections.Ring.{Ring}
use Rattle.qn_links.specs.declared.sections.Ring.TheVariants.{First, Second}
use Rattle.qn_peers.specs.declared.arrivals.Arrivals.{Arrivals}
use Rattle.qn_peers.specs.declared.arrivals.Arrivals.TheVariants.{Nothing, Over}

-- since when packets come over one network alone, once one more did: after a silence that makes a network lost they are counted anew
abbrev pub alone_since : ℕ → ℕ → ℕ → ℕ → ℕ
alone_since since last tick limit = if nat_le limit (tick - last) then tick else since

-- the first packet over that network
abbrev pub first_over : Ring → ℕ → Arrivals
first_over ring tick = Over ring tick tick false

-- one more over the same network: the other one is lost where it was, and where packets came over this one alone for so long
abbrev pub one_more_over : Ring → ℕ → Bool → ℕ → ℕ → Arrivals
one_more_over ring since lost tick limit = Over ring since tick (lost || nat_le limit (tick - since))

-- after one more packet over that network: the other one is back at its first
abbrev pub arrivals_after : Arrivals → Ring → ℕ → ℕ → Arrivals
arrivals_after Nothing ring tick limit = first_over ring tick
arrivals_after (Over First since last lost) First tick limit = one_more_over First (alone_since since last tick limit) lost tick limit
arrivals_after (Over First since last lost) Second tick limit = first_over Second tick
arrivals_after (Over Second since last lost) First tick limit = first_over First tick
arrivals_after (Over Second since last lost) Second tick limit = one_more_over Second (alone_since since last tick limit) lost tick limit

-- the network that is lost, where one is: the one over which nothing came
abbrev pub lost_network : Arrivals → Option Ring
lost_network Nothing = None
lost_network (Over ring since last lost) = if lost then Some (other_ring ring) else None

use Rattle.std.proofs.Common.{◌≡◌, ◌+◌, ◌<◌, ◌^◌, [], codes, drop, length}
use Rattle.qn_conf.specs.Line.{or_else}
use Rattle.qn_links.specs.Arbiters.{host_of, port_text}
use Rattle.qn_links.specs.Devices.{last_from}
use Rattle.qn_links.proofs.device.device_of.Given as goal

-- what the items so far said stands where those that are left say nothing
abbrev pub invariant-loop-item : goal.invariant-loop-item
invariant-loop-item l =
    (length l.open + length (drop l.item-index l.item-items) < 2 ^ 64)
    × (or_else (last_from (codes "host") l.open (drop l.item-index l.item-items)) (host_of l.net) ≡ last_from (codes "host") [] l.item-items)
    × (or_else (last_from (codes "port") l.open (drop l.item-index l.item-items)) (port_text l.net) ≡ last_from (codes "port") [] l.item-items)

use Rattle.std.proofs.Common.{◌≡◌, ◌+◌, ◌≤◌, drop}
use Rattle.std.specs.Option.{option_map}
use Rattle.qn_cluster.specs.Places.{place_in}
use Rattle.qn_cluster.specs.DiskStanding.{is_of}
use Rattle.qn_cluster.proofs.leftovers.place_of.Given as goal

abbrev pub invariant-loop-place : goal.invariant-loop-place
invariant-loop-place l = record {
  found : place_in (is_of l.i.0 l.image) l.number l.left ≡ option_map (λ place. l.place + place) (place_in (is_of l.i.0 l.image) l.wanted (drop l.place l.left));
  some : 1 ≤ l.wanted;
}

use Rattle.std.proofs.Common.{◌≡◌, ◌<◌, ℕ, Some, None, [], refl, ◌∙◌, ap}
use Rattle.std.specs.Prelude.{slice_get}
use Rattle.std.proofs.lemmas.List.{get_or-replicate}
use Rattle.std.proofs.lemmas.Option.{slice_get-get_or}
use Rattle.std.proofs.Math.ListN.{replicate}
use Rattle.qn_polls.specs.declared.arbiter.Remembered.{Remembered}
use Rattle.qn_polls.specs.Arbiter.{newest_of, remembered_of}
use Rattle.qn_polls.proofs.arbiter.Arbiter.new.Goals as goal

abbrev nothing : Remembered
nothing = record { newest = None; yes = None }

nothing_yet : (rank : ℕ) → rank < 32 → slice_get (replicate 32 nothing) rank ≡ Some (remembered_of rank [])
unfolding newest_of
nothing_yet rank below = slice_get-get_or (replicate 32 nothing) rank nothing below ∙ ap Some (get_or-replicate 32 rank nothing nothing below)

pub returns : goal.returns
returns c = record { leases = refl; boots = refl; count = refl; ranks = nothing_yet }

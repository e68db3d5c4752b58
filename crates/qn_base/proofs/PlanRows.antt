-- Worked rows of plans: which calls follow a plan, and with which end.
use Rattle.std.proofs.Common.{ℕ, Bool, true, false, [], ◌∷◌, refl, cond}
use Rattle.qn_base.specs.declared.calls.Call.TheVariants.{Read, Feed}
use Rattle.qn_base.specs.Calls.{is_failed}
use Rattle.qn_base.specs.Plans.{Plan, Ends, Asks, ◌>>=◌, Follows}

-- a read of a sector, which ends with whether it was done
abbrev read_plan : ℕ → Plan Bool
read_plan sector = Asks (Read sector [] true) (λ call. Ends (is_failed call))

-- a read of sector 0, and where it failed a read of sector 1, with the number of reads that were made
abbrev two_reads : Plan ℕ
two_reads = read_plan 0 >>= (λ failed. cond failed (read_plan 1 >>= (λ again. Ends 2)) (Ends 1))

first_read_is_good : Follows two_reads (Read 0 (7 ∷ []) true ∷ []) 1
first_read_is_good = (refl, (refl, refl))

first_read_fails : Follows two_reads (Read 0 [] false ∷ Read 1 [] false ∷ []) 2
first_read_fails = (refl, (refl, (refl, refl)))

another_sector_is_refused : Follows two_reads (Read 2 [] true ∷ []) 1 → ⊥
another_sector_is_refused h = cc

a_feed_is_refused : Follows two_reads (Read 0 [] true ∷ Feed true ∷ []) 1 → ⊥
a_feed_is_refused h = cc

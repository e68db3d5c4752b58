use Rattle.qn_safety.proofs.ArbiterPlaying.{may_of_allowed}
use Rattle.qn_safety.proofs.arbiter_laws.law_one_lease.Goals as goal

pub returns : goal.returns
returns c = λ s t times events i j left right leased all.
    c.law_lease_any_numbers.ensures s t times leased events i j left right (may_of_allowed s t times events all)

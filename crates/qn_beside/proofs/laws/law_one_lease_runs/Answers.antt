use Rattle.qn_beside.proofs.Leasing.{one_lease_runs}
use Rattle.qn_beside.proofs.laws.law_one_lease_runs.Goals as goal

pub returns : goal.returns
returns c =
    one_lease_runs c.law_each_is_one_event.ensures.first c.law_each_is_one_event.ensures.one
    c.law_polls_read_back.ensures.polls c.law_polls_read_back.ensures.replies c.law_lease_any_numbers.ensures

use Rattle.qn_member.proofs.Follows.{companies_apart}
use Rattle.qn_member.proofs.laws.law_companies_apart.Goals as goal

pub returns : goal.returns
returns c = λ one other tick other_tick few_one few_other below leads_one leads_other words own_word rank in_one in_other.
    companies_apart one other tick other_tick few_one few_other below leads_one leads_other words own_word rank in_one in_other

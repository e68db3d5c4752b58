use Rattle.qn_heard.proofs.Members.{unheard_first}
use Rattle.qn_heard.proofs.listener.Heard.unheard.Goals as goal

pub returns : goal.returns
returns c = λ s me log h count few.
    unheard_first c.args.self.now s me log c.args.count c.first.result h.hears count few
    c.others.result c.without.result c.without-2.result (c.others.ensures me log h.hears) c.without.ensures c.without-2.ensures
    c.first.ensures.within c.first.ensures.member c.first.ensures.least c.first.ensures.none

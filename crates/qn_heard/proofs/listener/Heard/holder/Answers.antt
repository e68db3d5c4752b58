use Rattle.qn_heard.proofs.Members.{holder_first}
use Rattle.qn_heard.proofs.listener.Heard.holder.Goals as goal

pub returns : goal.returns
returns c = λ s me log h count few.
    holder_first c.args.self.now s me log c.args.count c.first.result h.hears count few
    c.others.result c.both.result c.without.result (c.others.ensures me log h.hears) c.both.ensures c.without.ensures
    c.first.ensures.within c.first.ensures.member c.first.ensures.least c.first.ensures.none

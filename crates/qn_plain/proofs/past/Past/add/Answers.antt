use Rattle.std.proofs.Common.{ap, sym, ◌≤◌, subst}
use Rattle.qn_plain.proofs.Steps.{adds, resets_more}
use Rattle.qn_plain.proofs.past.Past.add.Goals as goal

pub returns-clause-stands : goal.returns-clause-stands
returns-clause-stands c = λ log here h.
    (adds c.args.settings.now c.args.me.0 c.args.self.now c.take_in.new.self _ log c.args.place c.args.entry.now c.read-what.result
    c.reading-reading.result c.is_timely-timely.result c.outs-outs.result here c.read-what.ensures c.reading-reading.ensures c.is_timely-timely.ensures
    c.take_in.ensures c.outs-outs.ensures
    (ap (λ l. record c.take_in.new.self { life = l }) c.given-self.ensures)
    h).stands

pub returns-clause-outs : goal.returns-clause-outs
returns-clause-outs c = λ log here h.
    (adds c.args.settings.now c.args.me.0 c.args.self.now c.take_in.new.self _ log c.args.place c.args.entry.now c.read-what.result
    c.reading-reading.result c.is_timely-timely.result c.outs-outs.result here c.read-what.ensures c.reading-reading.ensures c.is_timely-timely.ensures
    c.take_in.ensures c.outs-outs.ensures
    (ap (λ l. record c.take_in.new.self { life = l }) c.given-self.ensures)
    h).given

pub returns-clause-resets : goal.returns-clause-resets
returns-clause-resets c = λ tick late h.
    resets_more c.args.settings.now c.reading-reading.result c.args.self.now c.take_in.new.self tick c.take_in.ensures
    (subst (λ r. r.tick ≤ tick) (sym c.reading-reading.ensures) late) h

use Rattle.std.proofs.Common.{◌∷◌, refl, sym, ap, subst}
use Rattle.qn_model.specs.Votes.{present_view, view_tick}
use Rattle.qn_node.specs.Tally.{TallyFor, view_count}
use Rattle.qn_node.proofs.tally.Tally.count.Goals as goal

pub returns-in-Device-clause-stands : goal.returns-in-Device-clause-stands
unfolding present_view view_tick view_count
returns-in-Device-clause-stands c = λ past h. subst (TallyFor _ c.args.own.now.settings) (ap (λ v. record { tick = c.args.tick; what = v } ∷ past) (sym c.in-Device.is))
    (record {
      counts = c.on_device.ensures c.args.own.now.settings past h.counts;
      breaks = c.law_tie_stays.ensures c.args.self.now.tie c.args.own.now.settings _ past refl h.breaks;
      views = h.views;
      since = h.since;
      installed = h.installed;
    })

pub returns-in-Released-clause-stands : goal.returns-in-Released-clause-stands
unfolding present_view view_tick view_count
returns-in-Released-clause-stands c = λ past h. subst (TallyFor _ c.args.own.now.settings) (ap (λ v. record { tick = c.args.tick; what = v } ∷ past) (sym c.in-Released.is))
    (record {
      counts = c.on_released.ensures c.args.own.now.settings past h.counts;
      breaks = c.law_tie_stays.ensures c.args.self.now.tie c.args.own.now.settings _ past refl h.breaks;
      views = h.views;
      since = h.since;
      installed = h.installed;
    })

pub returns-in-Tick-clause-stands : goal.returns-in-Tick-clause-stands
unfolding present_view view_tick view_count
returns-in-Tick-clause-stands c = λ past h. subst (TallyFor _ c.args.own.now.settings) (ap (λ v. record { tick = c.args.tick; what = v } ∷ past) (sym c.in-Tick.is))
    (record {
      counts = c.on_tick.ensures c.args.own.now.settings past h.counts;
      breaks = c.law_tie_stays.ensures c.args.self.now.tie c.args.own.now.settings _ past refl h.breaks;
      views = h.views;
      since = h.since;
      installed = h.installed;
    })

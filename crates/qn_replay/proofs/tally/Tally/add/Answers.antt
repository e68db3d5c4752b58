use Rattle.std.proofs.Common.{◌∙◌, sym, ap, max}
use Rattle.std.specs.Prelude.{count_ones}
use Rattle.qn_model.specs.Steps.{holders}
use Rattle.qn_replay.specs.declared.tally.Tally.{Tally}
use Rattle.qn_replay.proofs.SoakSteps.{tallied_counted, tallied_uncounted}
use Rattle.qn_replay.proofs.tally.Tally.add.Goals as goal

pub returns-then-has_start-clause-tally : goal.returns-then-has_start-clause-tally
returns-then-has_start-clause-tally c = λ d report stands same_outs same_holders few.
    c.count_holders.ensures
    ∙ ap (λ (t : Tally). record t { most_holders = max t.most_holders (count_ones c.holders.result.0) }) c.add_counts.ensures.counts
    ∙ tallied_counted c.args.event.now report c.as_slice.result.now c.holders.result (holders c.args.world.now.settings d) c.args.self.now
    (same_outs ∙ sym c.as_slice.ensures.value) same_holders (c.holders.ensures.exact d stands)

pub returns-else-has_start-clause-tally : goal.returns-else-has_start-clause-tally
returns-else-has_start-clause-tally c = λ d report stands same_outs same_holders few.
    c.add_counts.ensures.counts
    ∙ tallied_uncounted c.args.event.now report c.as_slice.result.now c.args.self.now (same_outs ∙ sym c.as_slice.ensures.value) (few (sym c.has_start.ensures ∙ c.if-has_start.false))

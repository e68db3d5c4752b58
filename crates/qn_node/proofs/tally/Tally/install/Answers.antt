use Rattle.std.proofs.Common.{◌∷◌, refl, ap, suc, ◌∙◌, add-one}
use Rattle.qn_model.specs.Votes.{answer_at, present_view, view_tick}
use Rattle.qn_node.specs.Tally.{view_count}
use Rattle.qn_tie.specs.Tie.{installs}
use Rattle.qn_node.proofs.tally.Tally.install.Goals as goal

pub returns-clause-stands : goal.returns-clause-stands
unfolding answer_at present_view view_tick view_count
returns-clause-stands c = λ past h.
    let s = c.args.own.now.settings in
    let tick = c.args.tick in
    let counted = c.on_view.ensures s past h.counts in
    record {
      counts = counted;
      breaks =
          c.on_view-2.ensures.stands s past tick h.breaks c.votes_among-votes.ensures.sum
          (ap (λ a. a.expected) (c.answer.ensures s (installs tick c.args.view ∷ past) counted));
      views = refl;
      since = refl;
      installed = add-one _ ∙ ap suc h.installed;
    }

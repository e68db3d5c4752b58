use Rattle.std.proofs.Common.{◌≡◌, ◌≤◌, refl, ap, sym, ◌∙◌, arith, option_map}
use Rattle.qn_polls.specs.Poller.{poller_of}
use Rattle.qn_live.specs.declared.place.Choice.{Choice}
use Rattle.qn_live.specs.Choosing.{look_after, looked}
use Rattle.qn_base.specs.Plans.{◌>>=◌}
use Rattle.std.proofs.Common.{Bool}
use Rattle.qn_live.specs.declared.words.Own.{Own}
use Rattle.qn_live.specs.Words.{own_by, words_at}
use Rattle.qn_model.specs.Holding.{holds}
use Rattle.qn_model.specs.Log.{now}
use Rattle.qn_model.specs.NodeOutputs.{with_entry}
use Rattle.qn_live.specs.Machine.{next_of, state_of}
use Rattle.qn_live.specs.Running.{later}
use Rattle.qn_live.proofs.Joining.{clocked_back, clocked_on, stands_too}
use Rattle.qn_live.proofs.Taking.{took_on}
use Rattle.qn_live.proofs.run.NodeRun.at_tick.Goals as goal

pub returns-then-tick-self-clause-runs : goal.returns-then-tick-self-clause-runs
returns-then-tick-self-clause-runs c = λ log stands.
    let run = c.args.self.now in
    record {
      log = log;
      stands = stands;
      more = tt;
      is_left =
          ap (λ p. p >>= later (next_of run))
          (clocked_back run.settings run.me.0 c.args.choice (state_of run log) run.tick c.args.tick stands.at c.if-tick-self.true);
    }

pub returns-clause-runs : goal.returns-clause-runs
unfolding with_entry
returns-clause-runs c = λ log stands.
    let run = c.args.self.now in
    let before : now log ≤ c.args.tick = omega (arith, c.if-tick-self.false, stands.at) in
    let outs = c.step.ensures.outs run.settings run.me.0 log stands.stands before in
    let words = c.at-self.result in
    let is_words : words ≡ words_at c.args.tick run.loop_ms (holds log) run.words =
    c.at-self.ensures ∙ ap (λ (held : Bool). words_at c.args.tick run.loop_ms held run.words) (c.holds.ensures run.settings run.me.0 log stands.stands) in
    stands_too
    (ap (λ p. p >>= later (next_of run))
    (clocked_on run.settings run.me.0 c.args.choice (state_of run log) c.args.tick c.look-what.new.member c.look-what.result c.loop_after-self.result c.failed_answer-self.result c.look_after-self.result c.at-self.result (option_map poller_of c.hear_entry.new.poller) c.polls_after-self.result c.step.new.outs before
    (ap (λ (chosen : Choice). looked c.args.tick (own_by words (holds log)) chosen run.member) (sym c.answered_at-choice.ensures)
    ∙ ap (λ (own : Own). looked c.args.tick own c.answered_at-choice.result run.member) (sym (c.own-own.ensures log stands))
    ∙ c.look-what.ensures)
    c.loop_after-self.ensures c.failed_answer-self.ensures
    (c.look_after-self.ensures ∙ ap (λ (chosen : Choice). look_after c.args.tick chosen run.member run.last_look) c.answered_at-choice.ensures)
    is_words
    c.hear_entry.ensures (c.polls_after-self.ensures log stands.stands) outs))
    (c.act.ensures.runs (with_entry run.settings run.me.0 log (record { tick = c.args.tick; what = c.look-what.result })) (record { valid = stands.valid; stands = c.step.ensures.stands run.settings run.me.0 log stands.stands before; at = refl }) (c.step.ensures.ranks run.settings run.me.0 log stands.stands before))

pub returns-clause-took : goal.returns-clause-took
unfolding with_entry
returns-clause-took c = λ log stands rises.
    let run = c.args.self.now in
    let before : now log ≤ c.args.tick = omega (arith, rises, stands.at) in
    took_on _ _ log c.args.tick c.act.ensures.settings c.act.ensures.rank c.act.ensures.keeps
    (record {
      at = refl;
      stands = record { valid = stands.valid; stands = c.step.ensures.stands run.settings run.me.0 log stands.stands before; at = refl };
      outs = c.step.ensures.outs run.settings run.me.0 log stands.stands before;
    })

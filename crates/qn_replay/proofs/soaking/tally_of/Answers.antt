use Rattle.std.proofs.Common.{◌≡◌, ℕ, true, false, None, ◌≤◌, refl, sym, ap, ap₂, subst, ◌∙◌, arith}
use Rattle.std.specs.Prelude.{IsTrue, count_ones}
use Rattle.qn_base.specs.declared.ids.Mask.{Mask}
use Rattle.qn_base.specs.Members.{is_member}
use Rattle.qn_model.specs.Log.{has_start}
use Rattle.qn_model.specs.Moments.{time}
use Rattle.qn_model.specs.Rules.{is_well_formed, refusal}
use Rattle.qn_model.specs.Steps.{holders, report, step}
use Rattle.qn_replay.specs.Generator.{next_event, soak_settings, soak_timing, undrawn}
use Rattle.qn_replay.specs.Soak.{soaked}
use Rattle.qn_playback.specs.Times.{time-step}
use Rattle.qn_replay.proofs.SoakHolders.{either, few_more, none_first}
use Rattle.qn_replay.proofs.SoakSteps.{few_holders, held_counted, holders_more, most_more, reported_holders, reported_outs, stands_more, state_more, tally_more, within_more, within_none}
use Rattle.qn_replay.proofs.soaking.tally_of.Goals as goal

pub events-init : goal.events-init
unfolding soaked time
events-init c =
    let early = c.in_ok-world.ensures.first.cluster.times in
    let most = ap (λ t. t.most_holders) c.new-tally.ensures in
    record {
      stands = c.in_ok-world.ensures.first;
      state = c.new-generator.ensures;
      tally = c.new-tally.ensures;
      counted = none_first _;
      one = omega arith;
      within = within_none c.new-tally.result c.new-tally.ensures;
      settings = c.in_ok-world.ensures.settings ∙ c.soak_settings.ensures.value;
      timing = c.in_ok-world.ensures.timing ∙ c.soak_timing.ensures.value;
      early = omega arith;
      steps = omega (arith, c.in_ok-world.ensures.steps);
    }

pub apply_allowed-requires-clause-allowed : goal.apply_allowed-requires-clause-allowed
apply_allowed-requires-clause-allowed c = λ d stands.
    let before = c.events.invariant in
    ap₂ (λ s t. refusal s t c.event-event.result.now d) before.settings before.timing ∙ ap (λ e. refusal soak_settings soak_timing e d) c.event-event.ensures
    ∙ c.next_into.ensures.allowed d stands

pub events-preserved : goal.events-preserved
events-preserved c =
    let before = c.events.invariant in
    let made = c.in_ok-apply_allowed.ensures in
    let d = (soaked c.args.seed c.events.number).world in
    let event = c.event-event.result.now in
    let after = step c.events.world.settings c.events.world.timing event d in
    let is : undrawn event c.next_into.new.self ≡ next_event d (soaked c.args.seed c.events.number).state =
    ap (λ e. undrawn e c.next_into.new.self) c.event-event.ensures ∙ c.next_into.ensures.drawn d before.stands ∙ ap (λ x. next_event d x) before.state in
    let allowed : refusal soak_settings soak_timing event d ≡ None =
    ap (λ e. refusal soak_settings soak_timing e d) c.event-event.ensures ∙ c.next_into.ensures.allowed d before.stands in
    let stood = made.stands d before.stands in
    let said = report c.events.world.settings event after in
    let outs : said.outs ≡ c.apply_allowed.new.outs = reported_outs c.events.world.settings event after ∙ sym (made.gives d before.stands) in
    let held : said.holders ≡ holders c.apply_allowed.new.self.settings after =
    reported_holders c.events.world.settings event after ∙ ap (λ s. holders s after) (sym made.settings) in
    let quiet : has_start c.apply_allowed.new.outs ≡ false → count_ones said.holders.0 ≤ c.events.tally.most_holders = λ none.
    subst (λ (mask : Mask). count_ones mask.0 ≤ c.events.tally.most_holders) (sym (reported_holders c.events.world.settings event after))
    (few_more c.events.world.timing event d c.events.tally.most_holders before.settings
    (ap₂ (λ s t. refusal s t event d) before.settings before.timing ∙ allowed)
    (ap has_start (sym (made.gives d before.stands)) ∙ none) before.counted) in
    let tallied_is = c.add.ensures.tally after said stood outs held quiet in
    let few : count_ones said.holders.0 ≤ 1 = either (has_start c.apply_allowed.new.outs) (count_ones said.holders.0 ≤ 1)
    (λ started. few_holders c.events.world.timing event said d before.settings refl
    (subst (λ (mask : Mask). (i j : ℕ) → IsTrue (is_member mask i) → IsTrue (is_member mask j) → i ≡ j) (sym held) (c.add.ensures.one_holder started after stood)))
    (λ none. let below = quiet none in let most = before.one in omega (arith, below, most)) in
    let formed : is_well_formed c.events.world.settings event ≡ true = ap (λ s. is_well_formed s event) before.settings
    ∙ ap (λ e. is_well_formed soak_settings e) c.event-event.ensures ∙ c.next_into.ensures.formed in
    let then = before.stands.cluster.times in
    let now = stood.cluster.times in
    let later = time-step c.events.world.settings c.events.world.timing event d formed in
    let early = before.early in
    let left = before.steps in
    let spent = made.steps in
    record {
      stands = stands_more c.args.seed c.events.number c.next_into.new.self event is before.settings before.timing stood;
      state = state_more c.args.seed c.events.number c.next_into.new.self event is;
      tally = tally_more c.args.seed c.events.number c.next_into.new.self event is said c.events.tally c.add.new.self before.settings before.timing refl before.tally tallied_is;
      counted = holders_more c.args.seed c.events.number c.next_into.new.self event is c.add.new.self.most_holders before.settings before.timing
          (subst (λ (mask : Mask). count_ones mask.0 ≤ c.add.new.self.most_holders) (reported_holders c.events.world.settings event after)
          (held_counted event said c.events.tally c.add.new.self tallied_is));
      one = most_more event said c.events.tally c.add.new.self before.one few tallied_is;
      within = within_more c.events.number c.events.tally c.add.new.self before.within c.add.ensures.grows;
      settings = made.settings ∙ before.settings;
      timing = made.timing ∙ before.timing;
      early = omega (arith, early, then, now, later);
      steps = omega (arith, left, spent);
    }

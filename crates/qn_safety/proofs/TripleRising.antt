-- The numbers of the incarnations of one node on three images rise: what one event does to the number of the last one.
use Rattle.std.proofs.Common.{◌≡◌, ℕ, ◌<◌, ◌≤◌, true, false, List, ◌∷◌, Some, sym, ap, ◌∙◌, subst, arith, ◌⊎◌, inl, inr}
use Rattle.std.proofs.lemmas.Option.{same_Some}
use Rattle.qn_base.specs.lemmas.Bools.{never_both}
use Rattle.qn_model.specs.declared.configuration.Settings.{Settings}
use Rattle.qn_model.specs.declared.times.Timing.{Timing}
use Rattle.qn_model.specs.Log.{incarnation}
use Rattle.qn_model.specs.Phases.{phase, is_booting}
use Rattle.qn_model.specs.Moments.{Before, Moment, node}
use Rattle.qn_safety.specs.Timed.{IsUp, AllRuled}
use Rattle.qn_safety.specs.TripleWorld.{TripleWorld, first_triple}
use Rattle.qn_safety.proofs.Runs.{sound}
use Rattle.qn_safety.proofs.Numbers.{up_number}
use Rattle.qn_safety.proofs.Events.{newest_state, only_nothing}
use Rattle.qn_safety.proofs.Rising.{never_on}
use Rattle.qn_safety.proofs.TripleSeats.{seat_of, Effect, Rests, Enters, Answers, BootsUp, GoesOff, LandsOn, FailsOn, LateOn}
use Rattle.qn_safety.proofs.TripleHeld.{Held, Next, next_effect, first_held}

-- The number of the last incarnation of a node that came up: none that was up before has a greater one, and where one is up
-- now, those of earlier boots have less.
pub record Height (s : Settings) (t : Timing) (j : ℕ) (w : TripleWorld) : Type 0 where
  pub top : ℕ
  pub held : Held s t j top (seat_of s j w)
  pub past : (number : ℕ) (p : List Moment) → Before p w.moments → IsUp s j p → incarnation (node s j p).log ≡ Some number → number ≤ top
  pub fresh : IsUp s j w.moments → (number : ℕ) (p : List Moment) → Before p w.moments → IsUp s j p → (node s j p).boots < (node s j w.moments).boots
      → incarnation (node s j p).log ≡ Some number → number < top

-- the moments after an event: one more, or none
abbrev pub Growth : List Moment → List Moment → Type 0
Growth ms ms' = (ms' ≡ ms) ⊎ ((m : Moment) × (ms' ≡ m ∷ ms))

same_boots : {s : Settings} {t : Timing} {j : ℕ} {w w' : TripleWorld} → Effect s t j w w' → (node s j w.moments).on ≡ true → (node s j w'.moments).boots ≡ (node s j w.moments).boots
same_boots (Rests e) on = ap (λ x. x.boots) e
same_boots (Enters tick entry o plain e) on = ap (λ x. x.boots) e
same_boots (Answers tick op o out e) on = ap (λ x. x.boots) e
same_boots {s = s} {j = j} {w = w} (BootsUp tick clean off e) on = never_both (node s j w.moments).on on off
same_boots (GoesOff o e) on = ap (λ x. x.boots) e
same_boots (LandsOn k op o out pending all e) on = ap (λ x. x.boots) e
same_boots (FailsOn k op o out e) on = ap (λ x. x.boots) e
same_boots (LateOn k number op there e) on = ap (λ x. x.boots) e

-- a node that is up has the number
pub up_top : {s : Settings} {t : Timing} {j top : ℕ} (w : TripleWorld) → AllRuled s t w.moments → Held s t j top (seat_of s j w) → IsUp s j w.moments → (number : ℕ)
    → incarnation (node s j w.moments).log ≡ Some number → number ≡ top
up_top {j = j} w ruled held up number has =
    let state = sound ruled j in
    let named = up_number state.made up.booted (state.living up.on) in
    let claims = ((held.kept up.on).standing up.booted).claims in
    same_Some _ _ (sym has ∙ named.has ∙ sym named.claims ∙ claims)

module _ {s : Settings} {t : Timing} (j : ℕ) (w w' : TripleWorld) (ruled : AllRuled s t w.moments) (ruled' : AllRuled s t w'.moments) (growth : Growth w.moments w'.moments)
    (effect : Effect s t j w w') (was : Height s t j w) where
  next : Next s t j was.top (seat_of s j w) (seat_of s j w')
  next = next_effect s t j was.top w w' effect (sound ruled j).made (sound ruled' j).made was.held

  -- a moment of the run is the present one, or was one before
  moment_cases : (p : List Moment) → Before p w'.moments → (p ≡ w'.moments) ⊎ Before p w.moments
  moment_cases p back = by_growth growth
    where
      by_newest : (m : Moment) → w'.moments ≡ m ∷ w.moments → (p ≡ m ∷ w.moments) ⊎ Before p w.moments → (p ≡ w'.moments) ⊎ Before p w.moments
      by_newest m added (inl is) = inl (is ∙ sym added)
      by_newest m added (inr more) = inr more

      by_growth : Growth w.moments w'.moments → (p ≡ w'.moments) ⊎ Before p w.moments
      by_growth (inl same) = inr (subst (λ ms. Before p ms) same back)
      by_growth (inr more) = by_newest more.0 more.1 (newest_state (subst (λ ms. Before p ms) more.1 back))

  pub height_step : Height s t j w'
  height_step = record {
    top = next.now;
    held = next.held;
    past = λ number p back up has. past_step number p up has (moment_cases p back);
    fresh = λ now_up number p back up less has. fresh_step now_up number p up less has (moment_cases p back) (next.rises now_up.on now_up.booted);
  }
    where
      past_step : (number : ℕ) (p : List Moment) → IsUp s j p → incarnation (node s j p).log ≡ Some number → (p ≡ w'.moments) ⊎ Before p w.moments → number ≤ next.now
      past_step number p up has (inl is) =
          let q = up_top w' ruled' next.held (subst (λ ms. IsUp s j ms) is up) number (subst (λ ms. incarnation (node s j ms).log ≡ Some number) is has) in omega arith
      past_step number p up has (inr more) = let q = was.past number p more up has in let r = next.order in omega arith

      fresh_step : IsUp s j w'.moments → (number : ℕ) (p : List Moment) → IsUp s j p → (node s j p).boots < (node s j w'.moments).boots → incarnation (node s j p).log ≡ Some number
          → (p ≡ w'.moments) ⊎ Before p w.moments → (((node s j w.moments).on ≡ true) × (is_booting (phase s (node s j w.moments).log) ≡ false)) ⊎ (was.top < next.now) → number < next.now
      fresh_step now_up number p up less has (inl is) rises = absurd (let q = ap (λ ms. (node s j ms).boots) is in omega arith)
      fresh_step now_up number p up less has (inr more) (inr above) = let q = was.past number p more up has in omega arith
      fresh_step now_up number p up less has (inr more) (inl was_up) =
          let boots = same_boots effect was_up.0 in
          let q = was.fresh (record { on = was_up.0; booted = was_up.1 }) number p more up (omega arith) has in
          let r = next.order in
          omega arith

pub first_height : (s : Settings) (t : Timing) (j : ℕ) → Height s t j first_triple
first_height s t j = record {
  top = 0;
  held = first_held s t j;
  past = λ number p back up has. never_both (node s j p).on up.on (ap (λ ms. (node s j ms).on) (only_nothing back) ∙ never_on s j);
  fresh = λ up number p back up' less has. never_both (node s j p).on up'.on (ap (λ ms. (node s j ms).on) (only_nothing back) ∙ never_on s j);
}

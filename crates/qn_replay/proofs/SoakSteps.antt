-- A soak, event by event.
use Rattle.std.proofs.Common.{◌≡◌, ℕ, ◌+◌, ◌*◌, ◌<◌, ◌≤◌, Bool, true, false, List, [], ◌∷◌, refl, sym, ap, ap₂, ◌∙◌, subst, arith, add-one, cond, lit<, lit≤}
use lib.Count.{ones}
use Rattle.std.specs.Prelude.{IsTrue, count_ones, filter, max}
use Rattle.std.specs.List.{range_with_len}
use Rattle.qn_base.specs.Members.{is_member}
use Rattle.qn_model.specs.Lines.{mask_of}
use Rattle.qn_model.specs.Moments.{is_holder}
use Rattle.qn_base.specs.declared.ids.Mask.{Mask}
use Rattle.qn_model.specs.declared.configuration.Settings.{Settings}
use Rattle.qn_model.specs.declared.events.Event.{Event}
use Rattle.qn_model.specs.declared.outputs.Out.{Out}
use Rattle.qn_model.specs.declared.reports.Report.{Report}
use Rattle.qn_model.specs.declared.times.Timing.{Timing}
use Rattle.qn_model.specs.Steps.{holders, outs_after, report, step}
use Rattle.qn_model.specs.World.{World}
use Rattle.qn_world.specs.Standing.{WorldFor}
use Rattle.qn_world.specs.Whole.{Whole}
use Rattle.qn_replay.specs.declared.tally.Tally.{Tally}
use Rattle.qn_replay.specs.Generator.{undrawn, soak_settings, soak_timing, next_event}
use Rattle.qn_replay.specs.Soak.{GrowsBy, IsWithin, after_event, counted, nothing_tallied, soaked, tallied}

-- one more event
soaked_more : (seed events : ℕ) → soaked seed (events + 1) ≡ after_event (soaked seed events)
unfolding soaked
soaked_more seed events = rw add-one refl

module _ (seed events state : ℕ) (event : Event) (is : undrawn event state ≡ next_event (soaked seed events).world (soaked seed events).state) where
  pub state_more : state ≡ (soaked seed (events + 1)).state
  unfolding after_event
  state_more = ap (λ d. d.state) is ∙ ap (λ s. s.state) (sym (soaked_more seed events))

  world_more : step soak_settings soak_timing event (soaked seed events).world ≡ (soaked seed (events + 1)).world
  unfolding after_event
  world_more =
      ap (λ d. step soak_settings soak_timing d.event (soaked seed events).world) is ∙ ap (λ s. s.world) (sym (soaked_more seed events))

  pub stands_more : {s : Settings} {t : Timing} {w : Whole} → s ≡ soak_settings → t ≡ soak_timing → WorldFor w (step s t event (soaked seed events).world)
      → WorldFor w (soaked seed (events + 1)).world
  stands_more {w} settings times stands =
      subst (λ (d : World). WorldFor w d) (ap₂ (λ x y. step x y event (soaked seed events).world) settings times ∙ world_more) stands

  -- the holders after it
  pub holders_more : {s : Settings} {t : Timing} (most : ℕ) → s ≡ soak_settings → t ≡ soak_timing → count_ones (holders s (step s t event (soaked seed events).world)).0 ≤ most
      → count_ones (holders soak_settings (soaked seed (events + 1)).world).0 ≤ most
  holders_more {s} {t} most settings times few =
      subst (λ (d : World). count_ones (holders soak_settings d).0 ≤ most) world_more
      (subst (λ (y : Timing). count_ones (holders soak_settings (step soak_settings y event (soaked seed events).world)).0 ≤ most) times
      (subst (λ (x : Settings). count_ones (holders x (step x t event (soaked seed events).world)).0 ≤ most) settings few))

  pub tally_more : {s : Settings} {t : Timing} (said : Report) (old new : Tally) → s ≡ soak_settings → t ≡ soak_timing
      → said ≡ report s event (step s t event (soaked seed events).world) → old ≡ (soaked seed events).tally → new ≡ tallied event said old
      → new ≡ (soaked seed (events + 1)).tally
  unfolding after_event
  tally_more said old new settings times said_is old_is new_is =
      let here : said ≡ report soak_settings event (step soak_settings soak_timing event (soaked seed events).world) =
      said_is ∙ ap₂ (λ x y. report x event (step x y event (soaked seed events).world)) settings times in
      new_is ∙ ap₂ (λ r old. tallied event r old) here old_is
      ∙ ap (λ d. tallied d.event (report soak_settings d.event (step soak_settings soak_timing d.event (soaked seed events).world)) (soaked seed events).tally) is
      ∙ ap (λ s. s.tally) (sym (soaked_more seed events))

-- what is reported of an event has its outputs and its holders
pub reported_outs : (s : Settings) (event : Event) (after : World) → (report s event after).outs ≡ outs_after s event after
unfolding report
reported_outs s event after = refl

pub reported_holders : (s : Settings) (event : Event) (after : World) → (report s event after).holders ≡ holders s after
unfolding report
reported_holders s event after = refl

-- the holders were counted, or there are no more than were counted before
pub tallied_counted : (event : Event) (report : Report) (outs : List Out) (mask held : Mask) (old : Tally) → report.outs ≡ outs → report.holders ≡ held → mask ≡ held
    → record (counted event outs old) { most_holders = max old.most_holders (count_ones mask.0) } ≡ tallied event report old
unfolding tallied
tallied_counted event report outs mask held old same_outs same_holders exact =
    ap (λ (m : Mask). record (counted event outs old) { most_holders = max old.most_holders (count_ones m.0) }) (exact ∙ sym same_holders)
    ∙ ap (λ (o : List Out). record (counted event o old) { most_holders = max old.most_holders (count_ones report.holders.0) }) (sym same_outs)

pub tallied_uncounted : (event : Event) (report : Report) (outs : List Out) (old : Tally) → report.outs ≡ outs → count_ones report.holders.0 ≤ old.most_holders
    → counted event outs old ≡ tallied event report old
unfolding tallied
tallied_uncounted event report outs old same_outs few =
    let most : old.most_holders ≡ max old.most_holders (count_ones report.holders.0) = omega (arith, few) in
    ap (λ (n : ℕ). record (counted event outs old) { most_holders = n }) most
    ∙ ap (λ (o : List Out). record (counted event o old) { most_holders = max old.most_holders (count_ones report.holders.0) }) (sym same_outs)

-- the bounds of the tally grow with it
pub within_more : (events : ℕ) (old new : Tally) → IsWithin (40 * events) old → GrowsBy 40 old new → IsWithin (40 * (events + 1)) new
within_more events old new within grows = record {
  boots = omega (arith, within.boots, grows.boots);
  crashes = omega (arith, within.crashes, grows.crashes);
  resets = omega (arith, within.resets, grows.resets);
  starts = omega (arith, within.starts, grows.starts);
  stops = omega (arith, within.stops, grows.stops);
}

pub within_limit : (events : ℕ) (tally : Tally) → events ≤ 200000 → IsWithin (40 * events) tally → IsWithin 8000000 tally
within_limit events tally few within = record {
  boots = omega (arith, within.boots);
  crashes = omega (arith, within.crashes);
  resets = omega (arith, within.resets);
  starts = omega (arith, within.starts);
  stops = omega (arith, within.stops);
}

-- nothing is tallied yet
pub within_none : (tally : Tally) → tally ≡ nothing_tallied → IsWithin 0 tally
within_none tally is =
    let boots = ap (λ t. t.boots) is in
    let crashes = ap (λ t. t.crashes) is in
    let resets = ap (λ t. t.resets) is in
    let starts = ap (λ t. t.starts) is in
    let stops = ap (λ t. t.stops) is in
    record { boots = omega arith; crashes = omega arith; resets = omega arith; starts = omega arith; stops = omega arith }

-- of three nodes, the ones that pass the tests
abbrev pub passing : Bool → Bool → Bool → List ℕ
passing first second third = cond first (0 ∷ cond second (1 ∷ cond third (2 ∷ []) []) (cond third (2 ∷ []) [])) (cond second (1 ∷ cond third (2 ∷ []) []) (cond third (2 ∷ []) []))

pub filter_three : (p : ℕ → Bool) (first second third : Bool) → p 0 ≡ first → p 1 ≡ second → p 2 ≡ third → filter p (range_with_len 0 3) ≡ passing first second third
filter_three p true true true a b c = rw (a, b, c) refl
filter_three p true true false a b c = rw (a, b, c) refl
filter_three p true false true a b c = rw (a, b, c) refl
filter_three p true false false a b c = rw (a, b, c) refl
filter_three p false true true a b c = rw (a, b, c) refl
filter_three p false true false a b c = rw (a, b, c) refl
filter_three p false false true a b c = rw (a, b, c) refl
filter_three p false false false a b c = rw (a, b, c) refl

apart : (x y : ℕ) → x < y → x ≡ y → ⊥
apart x y below same = omega arith

-- at most one of three nodes is a member
one_of_three : (first second third : Bool)
    → ((i j : ℕ) → IsTrue (is_member (mask_of (passing first second third)) i) → IsTrue (is_member (mask_of (passing first second third)) j) → i ≡ j)
    → count_ones (mask_of (passing first second third)).0 ≤ 1
unfolding ones
one_of_three true true true one = absurd (apart 0 1 (lit< tt) (one 0 1 refl refl))
one_of_three true true false one = absurd (apart 0 1 (lit< tt) (one 0 1 refl refl))
one_of_three true false true one = absurd (apart 0 2 (lit< tt) (one 0 2 refl refl))
one_of_three true false false one = lit≤ tt
one_of_three false true true one = absurd (apart 1 2 (lit< tt) (one 1 2 refl refl))
one_of_three false true false one = lit≤ tt
one_of_three false false true one = lit≤ tt
one_of_three false false false one = lit≤ tt

-- an event reports at most one holder
pub few_holders : {s : Settings} (t : Timing) (event : Event) (said : Report) (d : World) → s ≡ soak_settings → said ≡ report s event (step s t event d)
    → ((i j : ℕ) → IsTrue (is_member said.holders i) → IsTrue (is_member said.holders j) → i ≡ j) → count_ones said.holders.0 ≤ 1
unfolding report
few_holders {s} t event said d settings said_is one =
    let after = step s t event d in
    let p = is_holder soak_settings after.moments in
    let is : said.holders ≡ mask_of (passing (p 0) (p 1) (p 2)) =
    ap (λ r. r.holders) said_is ∙ ap (λ x. holders x after) settings ∙ ap mask_of (filter_three p (p 0) (p 1) (p 2) refl refl refl) in
    subst (λ (m : Mask). count_ones m.0 ≤ 1) (sym is)
    (one_of_three (p 0) (p 1) (p 2) (subst (λ (m : Mask). (i j : ℕ) → IsTrue (is_member m i) → IsTrue (is_member m j) → i ≡ j) is one))

-- the present holders were counted
pub held_counted : (event : Event) (said : Report) (old new : Tally) → new ≡ tallied event said old → count_ones said.holders.0 ≤ new.most_holders
unfolding tallied
held_counted event said old new new_is =
    let most : new.most_holders ≡ max old.most_holders (count_ones said.holders.0) = ap (λ t. t.most_holders) new_is in
    omega arith

-- the greatest number of holders stays at most one
pub most_more : (event : Event) (said : Report) (old new : Tally) → old.most_holders ≤ 1 → count_ones said.holders.0 ≤ 1 → new ≡ tallied event said old → new.most_holders ≤ 1
unfolding tallied
most_more event said old new before few new_is =
    let most : new.most_holders ≡ max old.most_holders (count_ones said.holders.0) = ap (λ t. t.most_holders) new_is in
    omega arith

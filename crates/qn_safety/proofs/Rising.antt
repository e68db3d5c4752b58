-- The numbers of the incarnations of one node rise.
use Rattle.std.proofs.Common.{◌≡◌, ℕ, ◌<◌, ◌≤◌, true, false, List, [], ◌∷◌, Some, None, refl, sym, ap, ◌∙◌, subst, arith, ◌⊎◌, inl, inr}
use Rattle.std.proofs.lemmas.Bool.{false≢true}
use Rattle.std.proofs.lemmas.Option.{same_Some}
use Rattle.qn_base.specs.declared.ids.Rank.{Rank}
use Rattle.qn_base.specs.lemmas.Options.{none_is_not_some}
use Rattle.qn_base.specs.lemmas.Bools.{never_both}
use Rattle.qn_model.specs.declared.configuration.Settings.{Settings}
use Rattle.qn_model.specs.declared.times.Timing.{Timing}
use Rattle.qn_model.specs.declared.disk.Slot.{Slot}
use Rattle.qn_model.specs.declared.seen.SlotSeen.TheVariants as slot
use Rattle.qn_model.specs.declared.entries.What.TheVariants as what
use Rattle.qn_model.specs.Log.{Line, claimed, incarnation, is_answer}
use Rattle.qn_model.specs.Phases.{phase, is_booting}
use Rattle.qn_model.specs.Fitting.{answers_op}
use Rattle.qn_model.specs.Moments.{Before}
use Rattle.qn_safety.specs.Earlier.{before_total}
use Rattle.qn_model.specs.Moments.{Moment, begin_of, node}
use Rattle.qn_safety.specs.Timed.{IsUp, AllRuled, NumbersRise}
use Rattle.qn_model.specs.declared.events.Event.{Event}
use Rattle.qn_model.specs.lemmas.Entries.{begin_answers_none, failed_answers, read_answers_none}
use Rattle.qn_model.specs.World.{World, failed}
use Rattle.qn_model.specs.Steps.{run}
use Rattle.qn_model.specs.lemmas.Failures.{failed_own}
use Rattle.qn_safety.proofs.Logs.{Made, IsLine, made_line, nothing_claimed}
use Rattle.qn_safety.proofs.Outs.{answer_fits, claimed_cases}
use Rattle.qn_safety.proofs.Numbers.{up_number, ClaimGiven}
use Rattle.qn_safety.proofs.Runs.{sound, ruled_before, boots_le}
use Rattle.qn_safety.proofs.Origins.{line_of, line_what}
use Rattle.qn_safety.proofs.Seats.{seat_of, slot_after, Effect, Rests, Enters, Answers, Fails, BootsUp, GoesOff, Lands, LandsLate}
use Rattle.qn_safety.proofs.Kept.{Kept, claim_next}
use Rattle.qn_safety.proofs.Held.{Held, left_late, keeps_out, slot_keeps}
use Rattle.qn_safety.proofs.Events.{IsAllowed, NoEvent, OneEvent, allowed_before, stage, effect_at, earlier_allowed, grows, newest_state, first_moments, only_nothing, AtEvents, at_events}

-- the number in a slot never falls
slot_rises : (s : Settings) (t : Timing) (j : ℕ) (w w' : World) → Made s j (node s j w.moments).log → Held s (seat_of s j w) → Effect s t j w w'
    → (w.slots j).incarnation ≤ (w'.slots j).incarnation
slot_rises s t j w w' made held (Rests same) = let q = ap (λ x. x.slot.incarnation) same in omega arith
slot_rises s t j w w' made held (Enters tick entry on plain same) = let q = ap (λ x. x.slot.incarnation) same in omega arith
slot_rises s t j w w' made held (Answers tick entry on took same) = let q = ap (λ x. x.slot.incarnation) same in omega arith
slot_rises s t j w w' made held (Fails tick op on out same) = let q = ap (λ x. x.slot.incarnation) same in omega arith
slot_rises s t j w w' made held (BootsUp tick clean off same) = let q = ap (λ x. x.slot.incarnation) same in omega arith
slot_rises s t j w w' made held (GoesOff on same) = let q = ap (λ x. x.slot.incarnation) same in omega arith
slot_rises s t j w w' made held (Lands op on out none all same) =
    let kept : Kept s (node s j w.moments).log None (w.slots j) = subst (λ k. Kept s (node s j w.moments).log k (w.slots j)) none (held.kept on) in
    let rises = slot_keeps (w.slots j) op (keeps_out made (w.slots j) kept op out) in
    let q : (w'.slots j).incarnation ≡ (slot_after op (w.slots j)).incarnation = ap (λ x. x.slot.incarnation) same in
    omega arith
slot_rises s t j w w' made held (LandsLate number op there same) =
    let rises = (left_late (w.slots j) (w.left j) number op held.left_ok there).0 in
    let q : (w'.slots j).incarnation ≡ (slot_after op (w.slots j)).incarnation = ap (λ x. x.slot.incarnation) same in
    omega arith

pub never_on : (s : Settings) (j : ℕ) → (node s j []).on ≡ false
unfolding node
never_on s j = refl

-- a node that is up has its number in its slot
pub up_in_slot : {s : Settings} {t : Timing} {events : List Event} (j number : ℕ) → IsAllowed s t events → IsUp s j (run s t events).moments
    → incarnation (node s j (run s t events).moments).log ≡ Some number → number ≡ ((run s t events).slots j).incarnation
up_in_slot {s = s} {t = t} {events = events} j number allowed up has =
    let here = stage allowed in
    let state = sound here.ruled j in
    let named = up_number state.made up.booted (state.living up.on) in
    let numbered' = ((here.held j).kept up.on).numbered up.booted in
    same_Some _ _ (sym has ∙ named.has ∙ sym named.claims ∙ numbered')

-- the number of an incarnation that was up is at most that in the slot
pub number_above : {s : Settings} {t : Timing} {events : List Event} (j number : ℕ) (p : List Moment) → IsAllowed s t events → Before p (run s t events).moments → IsUp s j p
    → incarnation (node s j p).log ≡ Some number → number ≤ ((run s t events).slots j).incarnation
number_above {s = s} {t = t} j number p NoEvent back up has =
    never_both (node s j p).on up.on (ap (λ ms. (node s j ms).on) (only_nothing (subst (λ ms. Before p ms) (first_moments s t) back)) ∙ never_on s j)
number_above {s = s} {t = t} j number p (OneEvent {e = e} {earlier = earlier} form ok allowed) back up has =
    by_growth (grows s t e earlier) (λ more. number_above j number p allowed more up has)
  where
    whole : IsAllowed s t (e ∷ earlier)
    whole = OneEvent form ok allowed

    later : (Before p (run s t earlier).moments → number ≤ ((run s t earlier).slots j).incarnation) → Before p (run s t earlier).moments → number ≤ ((run s t (e ∷ earlier)).slots j).incarnation
    later rest more =
        let was = rest more in
        let stood = stage allowed in
        let rises = slot_rises s t j (run s t earlier) (run s t (e ∷ earlier)) ((sound stood.ruled j).made) (stood.held j) (effect_at j whole) in
        omega arith

    present : p ≡ (run s t (e ∷ earlier)).moments → number ≤ ((run s t (e ∷ earlier)).slots j).incarnation
    present is =
        let q = up_in_slot j number whole (subst (λ ms. IsUp s j ms) is up) (subst (λ ms. incarnation (node s j ms).log ≡ Some number) is has) in
        omega arith

    by_newest : (m : Moment) → (run s t (e ∷ earlier)).moments ≡ m ∷ (run s t earlier).moments → (p ≡ m ∷ (run s t earlier).moments) ⊎ Before p (run s t earlier).moments
        → (Before p (run s t earlier).moments → number ≤ ((run s t earlier).slots j).incarnation) → number ≤ ((run s t (e ∷ earlier)).slots j).incarnation
    by_newest m added (inl is) rest = present (is ∙ sym added)
    by_newest m added (inr more) rest = later rest more

    by_growth : ((run s t (e ∷ earlier)).moments ≡ (run s t earlier).moments) ⊎ ((m : Moment) × ((run s t (e ∷ earlier)).moments ≡ m ∷ (run s t earlier).moments))
        → (Before p (run s t earlier).moments → number ≤ ((run s t earlier).slots j).incarnation) → number ≤ ((run s t (e ∷ earlier)).slots j).incarnation
    by_growth (inl same) rest = later rest (subst (λ ms. Before p ms) same back)
    by_growth (inr more) rest = by_newest more.0 more.1 (newest_state (subst (λ ms. Before p ms) more.1 back)) rest

-- an earlier state of another boot is no later than the event before
earlier_boot : (s : Settings) (t : Timing) (e : Event) (earlier : List Event) (j : ℕ) (p : List Moment) → Before p (run s t (e ∷ earlier)).moments
    → (node s j p).boots < (node s j (run s t (e ∷ earlier)).moments).boots → Before p (run s t earlier).moments
earlier_boot s t e earlier j p back less = by_growth (grows s t e earlier)
  where
    not_now : p ≡ (run s t (e ∷ earlier)).moments → ⊥
    not_now is = absurd (let q : (node s j p).boots ≡ (node s j (run s t (e ∷ earlier)).moments).boots = ap (λ ms. (node s j ms).boots) is in omega arith)

    by_newest : (m : Moment) → (run s t (e ∷ earlier)).moments ≡ m ∷ (run s t earlier).moments → (p ≡ m ∷ (run s t earlier).moments) ⊎ Before p (run s t earlier).moments → Before p (run s t earlier).moments
    by_newest m added (inl is) = absurd (not_now (is ∙ sym added))
    by_newest m added (inr more) = more

    by_growth : ((run s t (e ∷ earlier)).moments ≡ (run s t earlier).moments) ⊎ ((m : Moment) × ((run s t (e ∷ earlier)).moments ≡ m ∷ (run s t earlier).moments)) → Before p (run s t earlier).moments
    by_growth (inl same) = subst (λ ms. Before p ms) same back
    by_growth (inr more) = by_newest more.0 more.1 (newest_state (subst (λ ms. Before p ms) more.1 back))

module _ {s : Settings} {t : Timing} (j number later_number : ℕ) (p : List Moment) (up : IsUp s j p) (has : incarnation (node s j p).log ≡ Some number) where
  -- a claim that an answer gives is above each number that was up before
  claim_above : {earlier : List Event} {line : Line} → IsAllowed s t earlier → Before p (run s t earlier).moments → (node s j (run s t earlier).moments).on ≡ true
      → IsLine s j line (node s j (run s t earlier).moments).log
      → ((rank : Rank) (own : Slot) → is_booting (phase s (node s j (run s t earlier).moments).log) ≡ true → line.what ≡ what.SlotRead rank (slot.Read own)
      → own.incarnation ≡ ((run s t earlier).slots j).incarnation)
      → (claim : ℕ) → ClaimGiven s line (node s j (run s t earlier).moments).log claim → claim ≡ later_number → number < later_number
  claim_above {earlier = earlier} allowed back on it told claim given same =
      let kept = ((stage allowed).held j).kept on in
      let next = claim_next it ((sound ((stage allowed).ruled) j).made) ((run s t earlier).took j) ((run s t earlier).slots j) kept told claim given in
      let above = number_above j number p allowed back up has in
      omega arith

  -- a number that is claimed at an event is above each number that was up before
  claim_rises : {e : Event} {earlier : List Event} → IsAllowed s t (e ∷ earlier) → Before p (run s t earlier).moments → (node s j p).boots < (node s j (run s t (e ∷ earlier)).moments).boots
      → (node s j (run s t (e ∷ earlier)).moments).on ≡ true → claimed (node s j (run s t (e ∷ earlier)).moments).log ≡ Some later_number
      → Effect s t j (run s t earlier) (run s t (e ∷ earlier))
      → ((node s j (run s t earlier).moments).on ≡ true → claimed (node s j (run s t earlier).moments).log ≡ Some later_number → (node s j p).boots < (node s j (run s t earlier).moments).boots → number < later_number)
      → number < later_number
  claim_rises allowed back less on claims (Rests same) rest =
      rest (sym (ap (λ x. x.on) same) ∙ on) (sym (ap (λ x. claimed x.log) same) ∙ claims) (let q = ap (λ x. x.boots) same in omega arith)
  claim_rises allowed back less on claims (Lands op on_before out none all same) rest =
      rest on_before (sym (ap (λ x. claimed x.log) same) ∙ claims) (let q = ap (λ x. x.boots) same in omega arith)
  claim_rises allowed back less on claims (LandsLate place op there same) rest =
      rest (sym (ap (λ x. x.on) same) ∙ on) (sym (ap (λ x. claimed x.log) same) ∙ claims) (let q = ap (λ x. x.boots) same in omega arith)
  claim_rises allowed back less on claims (GoesOff on_before same) rest = absurd (false≢true (sym (ap (λ x. x.on) same) ∙ on))
  claim_rises {e = e} {earlier = earlier} allowed back less on claims (Enters tick entry on_before plain same) rest =
      by_claim (claimed_cases it)
    where
      log : List Line
      log = (node s j (run s t earlier).moments).log

      line : Line
      line = line_of s j tick entry log

      it : IsLine s j line log
      it = made_line (subst (λ l. Made s j l) (ap (λ x. x.log) same) ((sound ((stage allowed).ruled) j).made))

      by_claim : (claimed (line ∷ log) ≡ claimed log) ⊎ ((n : ℕ) × (claimed (line ∷ log) ≡ Some n) × ClaimGiven s line log n) → number < later_number
      by_claim (inl kept) = rest on_before (sym kept ∙ sym (ap (λ x. claimed x.log) same) ∙ claims) (let q = ap (λ x. x.boots) same in omega arith)
      by_claim (inr claim) = never_both (is_answer line.what) claim.2.answers (ap is_answer (line_what s j tick entry log) ∙ read_answers_none s j log entry plain)
  claim_rises {e = e} {earlier = earlier} allowed back less on claims (Fails tick op on_before out same) rest =
      by_claim (claimed_cases it)
    where
      log : List Line
      log = (node s j (run s t earlier).moments).log

      line : Line
      line = line_of s j tick (failed op) log

      it : IsLine s j line log
      it = made_line (subst (λ l. Made s j l) (ap (λ x. x.log) same) ((sound ((stage allowed).ruled) j).made))

      by_claim : (claimed (line ∷ log) ≡ claimed log) ⊎ ((n : ℕ) × (claimed (line ∷ log) ≡ Some n) × ClaimGiven s line log n) → number < later_number
      by_claim (inl kept) = rest on_before (sym kept ∙ sym (ap (λ x. claimed x.log) same) ∙ claims) (let q = ap (λ x. x.boots) same in omega arith)
      by_claim (inr claim) =
          let fit = answer_fits s j log (failed op) (subst (λ o. answers_op o (failed op) ≡ true) (sym out) (failed_answers op)) in
          claim_above (earlier_allowed allowed) back on_before it
          (λ rank own booting reads. absurd (failed_own op rank own (sym (line_what s j tick (failed op) log ∙ fit.1) ∙ reads)))
          claim.0 claim.2 (same_Some _ _ (sym claim.1 ∙ sym (ap (λ x. claimed x.log) same) ∙ claims))
  claim_rises {e = e} {earlier = earlier} allowed back less on claims (Answers tick entry on_before took same) rest =
      by_claim (claimed_cases it)
    where
      log : List Line
      log = (node s j (run s t earlier).moments).log

      line : Line
      line = line_of s j tick entry log

      it : IsLine s j line log
      it = made_line (subst (λ l. Made s j l) (ap (λ x. x.log) same) ((sound ((stage allowed).ruled) j).made))

      by_claim : (claimed (line ∷ log) ≡ claimed log) ⊎ ((n : ℕ) × (claimed (line ∷ log) ≡ Some n) × ClaimGiven s line log n) → number < later_number
      by_claim (inl kept) = rest on_before (sym kept ∙ sym (ap (λ x. claimed x.log) same) ∙ claims) (let q = ap (λ x. x.boots) same in omega arith)
      by_claim (inr claim) =
          let held = (stage (earlier_allowed allowed)).held j in
          let fit = answer_fits s j log entry (held.answers on_before entry took) in
          claim_above (earlier_allowed allowed) back on_before it
          (λ rank own booting reads. (held.kept on_before).reading rank own booting (took ∙ ap Some (sym (line_what s j tick entry log ∙ fit.1) ∙ reads)))
          claim.0 claim.2 (same_Some _ _ (sym claim.1 ∙ sym (ap (λ x. claimed x.log) same) ∙ claims))
  claim_rises {e = e} {earlier = earlier} allowed back less on claims (BootsUp tick clean off same) rest =
      by_claim (claimed_cases it)
    where
      line : Line
      line = line_of s j tick (begin_of clean) []

      it : IsLine s j line []
      it = made_line (subst (λ l. Made s j l) (ap (λ x. x.log) same) ((sound ((stage allowed).ruled) j).made))

      by_claim : (claimed (line ∷ []) ≡ claimed []) ⊎ ((n : ℕ) × (claimed (line ∷ []) ≡ Some n) × ClaimGiven s line [] n) → number < later_number
      by_claim (inl kept) = none_is_not_some later_number (sym (kept ∙ nothing_claimed) ∙ sym (ap (λ x. claimed x.log) same) ∙ claims)
      by_claim (inr claim) =
          never_both (is_answer line.what) claim.2.answers (ap is_answer (line_what s j tick (begin_of clean) []) ∙ read_answers_none s j [] (begin_of clean) (begin_answers_none clean))

  -- a number that is claimed is above those of all incarnations that were up before
  rises : {events : List Event} → IsAllowed s t events → Before p (run s t events).moments → (node s j p).boots < (node s j (run s t events).moments).boots
      → (node s j (run s t events).moments).on ≡ true → claimed (node s j (run s t events).moments).log ≡ Some later_number → number < later_number
  rises NoEvent back less on claims =
      never_both (node s j (run s t []).moments).on on (ap (λ ms. (node s j ms).on) (first_moments s t) ∙ never_on s j)
  rises (OneEvent {e = e} {earlier = earlier} form ok allowed) back less on claims =
      claim_rises (OneEvent form ok allowed) (earlier_boot s t e earlier j p back less) less on claims (effect_at j (OneEvent form ok allowed))
      (λ on' claims' less'. rises allowed (earlier_boot s t e earlier j p back less) less' on' claims')

-- the numbers of the incarnations of one node that come up rise strictly
pub numbers_rise : {s : Settings} {t : Timing} {events : List Event} → IsAllowed s t events → NumbersRise s (run s t events).moments
numbers_rise {s = s} {t = t} {events = events} allowed j number later_number first second first_back second_back first_up second_up less first_has second_has =
    rises j number later_number first first_up first_has (allowed_before at.back allowed) before_at
    (subst (λ ms. (node s j first).boots < (node s j ms).boots) (sym at.same) less)
    (subst (λ ms. (node s j ms).on ≡ true) (sym at.same) second_up.on)
    (subst (λ ms. claimed (node s j ms).log ≡ Some later_number) (sym at.same) claims)
  where
    at : AtEvents s t second events
    at = at_events s t second events second_back

    ruled : AllRuled s t second
    ruled = ruled_before second_back ((stage allowed).ruled)

    claims : claimed (node s j second).log ≡ Some later_number
    claims =
        let state = sound ruled j in
        let named = up_number state.made second_up.booted (state.living second_up.on) in
        named.claims ∙ sym named.has ∙ second_has

    before_at : Before first (run s t at.at).moments
    before_at = subst (λ ms. Before first ms) (sym at.same) (by_order (before_total first_back second_back))
      where
        by_order : Before first second ⊎ Before second first → Before first second
        by_order (inl order) = order
        by_order (inr other) = absurd (let q = boots_le s j other in omega arith)

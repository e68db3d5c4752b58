-- Where the answer of an operation landed, and how a line of a run came.
use Rattle.std.proofs.Common.{◌≡◌, ℕ, suc, true, false, List, [], ◌∷◌, Some, None, refl, sym, ap, ◌∙◌, subst, arith, ◌⊎◌, inl, inr}
use Rattle.std.proofs.lemmas.Option.{same_Some}
use Rattle.qn_base.specs.lemmas.Lists.{too_long}
use Rattle.qn_base.specs.lemmas.Options.{none_is_not_some}
use Rattle.qn_model.specs.declared.configuration.Settings.{Settings}
use Rattle.qn_model.specs.declared.times.Timing.{Timing}
use Rattle.qn_model.specs.declared.entries.What.{What}
use Rattle.qn_model.specs.declared.outputs.DiskOp.{DiskOp}
use Rattle.qn_model.specs.Log.{Line, op_out, ask_place, is_answer}
use Rattle.qn_model.specs.Fitting.{answers_op, read_as}
use Rattle.qn_model.specs.Moments.{Before, Itself, Later}
use Rattle.qn_model.specs.Moments.{Moment, Adds, node}
use Rattle.qn_safety.specs.Timed.{IsSameBoot, AllRuled, IsAdded}
use Rattle.qn_model.specs.declared.events.Event.{Event}
use Rattle.qn_model.specs.lemmas.Entries.{failed_answers, read_answers_none}
use Rattle.qn_model.specs.World.{World, taken, failed}
use Rattle.qn_model.specs.Steps.{landed, run}
use Rattle.qn_safety.proofs.Logs.{Made, made_line}
use Rattle.qn_safety.proofs.Stays.{ask_place_kept}
use Rattle.qn_safety.proofs.Outs.{answer_fits}
use Rattle.qn_safety.proofs.Runs.{sound, newest_rule}
use Rattle.qn_safety.proofs.Origins.{line_of, line_what, added_line, head_same}
use Rattle.qn_safety.proofs.Licensed.{added_boots}
use Rattle.qn_safety.proofs.Seats.{seat_of, Effect, Rests, Enters, Answers, Fails, BootsUp, GoesOff, Lands, LandsLate}
use Rattle.qn_safety.proofs.Kept.{some_op}
use Rattle.qn_safety.proofs.Held.{Held}
use Rattle.qn_safety.proofs.Events.{IsAllowed, NoEvent, OneEvent, stage, effect_at, earlier_allowed, grows, newest_state, first_moments, only_nothing}

-- where the operation of a node that is out landed, and what it took
pub record LandedAt (s : Settings) (t : Timing) (j : ℕ) (v : What) (events : List Event) : Type 0 where
  pub e : Event
  pub earlier : List Event
  pub back : Before (e ∷ earlier) events
  pub op : DiskOp
  pub on : (node s j (run s t earlier).moments).on ≡ true
  pub out : op_out (node s j (run s t earlier).moments).log ≡ Some op
  pub lands : run s t (e ∷ earlier) ≡ landed s t j op (run s t earlier)
  pub value : v ≡ taken s t j op (run s t earlier)
  pub same : IsSameBoot s j (run s t earlier).moments (run s t events).moments
  pub place : ask_place (node s j (run s t events).moments).log ≡ ask_place (node s j (run s t earlier).moments).log

landed_later : {s : Settings} {t : Timing} {j : ℕ} {v : What} {events : List Event} (e : Event)
    → (node s j (run s t (e ∷ events)).moments).boots ≡ (node s j (run s t events).moments).boots
    → ask_place (node s j (run s t (e ∷ events)).moments).log ≡ ask_place (node s j (run s t events).moments).log
    → LandedAt s t j v events → LandedAt s t j v (e ∷ events)
landed_later e same place it = record {
  e = it.e;
  earlier = it.earlier;
  back = Later e it.back;
  op = it.op;
  on = it.on;
  out = it.out;
  lands = it.lands;
  value = it.value;
  same = it.same ∙ sym same;
  place = place ∙ it.place;
}

landed_step : (s : Settings) (t : Timing) (j : ℕ) (v : What) (e : Event) (events : List Event) → IsAllowed s t (e ∷ events)
    → Effect s t j (run s t events) (run s t (e ∷ events))
    → ((node s j (run s t events).moments).on ≡ true → (run s t events).took j ≡ Some v → LandedAt s t j v events)
    → (node s j (run s t (e ∷ events)).moments).on ≡ true → (run s t (e ∷ events)).took j ≡ Some v → LandedAt s t j v (e ∷ events)
landed_step s t j v e events allowed (Rests same) rest on took =
    landed_later e (ap (λ x. x.boots) same) (ap (λ x. ask_place x.log) same) (rest (sym (ap (λ x. x.on) same) ∙ on) (sym (ap (λ x. x.took) same) ∙ took))
landed_step s t j v e events allowed (Enters tick entry on_before plain same) rest on took =
    let was_took : (run s t events).took j ≡ Some v = sym (ap (λ x. x.took) same) ∙ took in
    let waits = ((stage (earlier_allowed allowed)).held j).answers on_before v was_took in
    let out = some_op (op_out (node s j (run s t events).moments).log) v waits in
    let made' : Made s j (line_of s j tick entry (node s j (run s t events).moments).log ∷ (node s j (run s t events).moments).log) =
    subst (λ l. Made s j l) (ap (λ x. x.log) same) ((sound ((stage allowed).ruled) j).made) in
    landed_later e (ap (λ x. x.boots) same)
    (ap (λ x. ask_place x.log) same
    ∙ ask_place_kept (made_line made') out.0 out.1 (ap is_answer (line_what s j tick entry (node s j (run s t events).moments).log) ∙ read_answers_none s j (node s j (run s t events).moments).log entry plain))
    (rest on_before was_took)
landed_step s t j v e events allowed (Answers tick entry on_before was_took same) rest on took = none_is_not_some v (sym (ap (λ x. x.took) same) ∙ took)
landed_step s t j v e events allowed (Fails tick op on_before out same) rest on took = none_is_not_some v (sym (ap (λ x. x.took) same) ∙ took)
landed_step s t j v e events allowed (BootsUp tick clean off same) rest on took = none_is_not_some v (sym (ap (λ x. x.took) same) ∙ took)
landed_step s t j v e events allowed (GoesOff on_before same) rest on took = none_is_not_some v (sym (ap (λ x. x.took) same) ∙ took)
landed_step s t j v e events allowed (Lands op on_before out none all same) rest on took = record {
  e = e;
  earlier = events;
  back = Itself;
  op = op;
  on = on_before;
  out = out;
  lands = all;
  value = same_Some _ _ (sym took ∙ ap (λ x. x.took) same);
  same = sym (ap (λ x. x.boots) same);
  place = ap (λ x. ask_place x.log) same;
}
landed_step s t j v e events allowed (LandsLate number op there same) rest on took =
    landed_later e (ap (λ x. x.boots) same) (ap (λ x. ask_place x.log) same) (rest (sym (ap (λ x. x.on) same) ∙ on) (sym (ap (λ x. x.took) same) ∙ took))

never_took : (s : Settings) (t : Timing) (j : ℕ) → (run s t []).took j ≡ None
unfolding run
never_took s t j = refl

-- what the operation out took, it took at its landing
pub landed_at : {s : Settings} {t : Timing} {events : List Event} (j : ℕ) (v : What) → IsAllowed s t events → (node s j (run s t events).moments).on ≡ true
    → (run s t events).took j ≡ Some v → LandedAt s t j v events
landed_at {s = s} {t = t} j v NoEvent on took = none_is_not_some v (sym (never_took s t j) ∙ took)
landed_at {s = s} {t = t} j v (OneEvent {e = e} {earlier = earlier} form ok allowed) on took =
    landed_step s t j v e earlier (OneEvent form ok allowed) (effect_at j (OneEvent form ok allowed)) (λ on' took'. landed_at j v allowed on' took') on took

-- how a line that was added came: it answers nothing, it is what the operation out took, or it is a failure
pub data LineKind (s : Settings) (t : Timing) (j : ℕ) (line : Line) (w : World) : Type 0 where
  Plain : is_answer line.what ≡ false → LineKind s t j line w
  Taken : w.took j ≡ Some line.what → LineKind s t j line w
  Failed : (op : DiskOp) → line.what ≡ failed op → LineKind s t j line w

-- the events that added a line
pub record AddedBy (s : Settings) (t : Timing) (j : ℕ) (line : Line) (before : List Moment) (events : List Event) : Type 0 where
  pub e : Event
  pub earlier : List Event
  pub back : Before (e ∷ earlier) events
  pub same : (run s t earlier).moments ≡ before
  pub on : (node s j (run s t earlier).moments).on ≡ true
  pub entry : What
  pub adds : (run s t (e ∷ earlier)).moments ≡ Adds j entry ∷ before
  pub reads : line.what ≡ read_as s j (node s j before).log entry
  pub kind : LineKind s t j line (run s t earlier)

module _ (s : Settings) (t : Timing) (j : ℕ) (entry : What) (line : Line) (past : List Line) (w w' : World) where
  kind_of : w'.moments ≡ Adds j entry ∷ w.moments → (node s j w'.moments).log ≡ line ∷ past → past ≡ (node s j w.moments).log → Made s j (node s j w.moments).log
      → Held s (seat_of s j w) → Effect s t j w w' → LineKind s t j line w
  kind_of adds gave behind made held (Rests same) = too_long line past (sym gave ∙ ap (λ x. x.log) same ∙ sym behind)
  kind_of adds gave behind made held (GoesOff on same) = too_long line past (sym gave ∙ ap (λ x. x.log) same ∙ sym behind)
  kind_of adds gave behind made held (Lands op on out none all same) = too_long line past (sym gave ∙ ap (λ x. x.log) same ∙ sym behind)
  kind_of adds gave behind made held (LandsLate number op there same) = too_long line past (sym gave ∙ ap (λ x. x.log) same ∙ sym behind)
  kind_of adds gave behind made held (BootsUp tick clean off same) =
      absurd (let boots : (node s j w'.moments).boots ≡ suc (node s j w.moments).boots = ap (λ x. x.boots) same in
      let kept : (node s j w'.moments).boots ≡ (node s j w.moments).boots = ap (λ ms. (node s j ms).boots) adds ∙ added_boots s j entry w.moments in
      omega arith)
  kind_of adds gave behind made held (Enters tick other on plain same) =
      let is : line ≡ line_of s j tick other (node s j w.moments).log = head_same (sym gave ∙ ap (λ x. x.log) same) in
      Plain (ap (λ l. is_answer l.what) is ∙ ap is_answer (line_what s j tick other (node s j w.moments).log) ∙ read_answers_none s j (node s j w.moments).log other plain)
  kind_of adds gave behind made held (Answers tick other on took same) =
      let is : line ≡ line_of s j tick other (node s j w.moments).log = head_same (sym gave ∙ ap (λ x. x.log) same) in
      let fit = answer_fits s j (node s j w.moments).log other (held.answers on other took) in
      Taken (took ∙ ap Some (sym (ap (λ l. l.what) is ∙ line_what s j tick other (node s j w.moments).log ∙ fit.1)))
  kind_of adds gave behind made held (Fails tick op on out same) =
      let is : line ≡ line_of s j tick (failed op) (node s j w.moments).log = head_same (sym gave ∙ ap (λ x. x.log) same) in
      let fit = answer_fits s j (node s j w.moments).log (failed op) (subst (λ o. answers_op o (failed op) ≡ true) (sym out) (failed_answers op)) in
      Failed op (ap (λ l. l.what) is ∙ line_what s j tick (failed op) (node s j w.moments).log ∙ fit.1)

added_later : {s : Settings} {t : Timing} {j : ℕ} {line : Line} {before : List Moment} {events : List Event} (e : Event) → AddedBy s t j line before events → AddedBy s t j line before (e ∷ events)
added_later e it = record {
  e = it.e;
  earlier = it.earlier;
  back = Later e it.back;
  same = it.same;
  on = it.on;
  entry = it.entry;
  adds = it.adds;
  reads = it.reads;
  kind = it.kind;
}

pub moments_tail : {x y : Moment} {xs ys : List Moment} → x ∷ xs ≡ y ∷ ys → xs ≡ ys
moments_tail e = cc

added_here : {s : Settings} {t : Timing} {e : Event} {earlier : List Event} (j : ℕ) (entry : What) (line : Line) (past : List Line) (before : List Moment) → IsAllowed s t (e ∷ earlier)
    → (node s j (Adds j entry ∷ before)).log ≡ line ∷ past → before ≡ (run s t earlier).moments → (run s t (e ∷ earlier)).moments ≡ Adds j entry ∷ before
    → AddedBy s t j line before (e ∷ earlier)
added_here {s = s} {t = t} {e = e} {earlier = earlier} j entry line past before allowed gave is adds =
    let was = stage (earlier_allowed allowed) in
    let parts = added_line s j entry line past before gave in
    record {
      e = e;
      earlier = earlier;
      back = Itself;
      same = sym is;
      on = subst (λ ms. (node s j ms).on ≡ true) is ((newest_rule (subst (λ ms. AllRuled s t ms) adds ((stage allowed).ruled))).0);
      entry = entry;
      adds = adds;
      reads = parts.reads ∙ ap (λ l. read_as s j l entry) parts.behind;
      kind = kind_of s t j entry line past (run s t earlier) (run s t (e ∷ earlier)) (adds ∙ ap (λ ms. Adds j entry ∷ ms) is)
          (ap (λ ms. (node s j ms).log) adds ∙ gave) (parts.behind ∙ ap (λ ms. (node s j ms).log) is) ((sound was.ruled j).made) (was.held j) (effect_at j allowed);
    }

-- each line that was added came of an event
pub added_by : {s : Settings} {t : Timing} {events : List Event} (j : ℕ) (line : Line) (past : List Line) (before : List Moment) → IsAllowed s t events
    → IsAdded s j line past before (run s t events).moments → AddedBy s t j line before events
added_by {s = s} {t = t} j line past before NoEvent added = nothing (only_nothing (subst (λ ms. Before (Adds j added.entry ∷ before) ms) (first_moments s t) added.back))
  where
    nothing : Adds j added.entry ∷ before ≡ [] → AddedBy s t j line before []
    nothing e = absurd (cc)
added_by {s = s} {t = t} j line past before (OneEvent {e = e} {earlier = earlier} form ok allowed) added =
    by_growth (grows s t e earlier) (λ more. added_by j line past before allowed (record { entry = added.entry; back = more; gave = added.gave }))
  where
    by_newest : (m : Moment) → (run s t (e ∷ earlier)).moments ≡ m ∷ (run s t earlier).moments
        → (Adds j added.entry ∷ before ≡ m ∷ (run s t earlier).moments) ⊎ Before (Adds j added.entry ∷ before) (run s t earlier).moments
        → (Before (Adds j added.entry ∷ before) (run s t earlier).moments → AddedBy s t j line before earlier) → AddedBy s t j line before (e ∷ earlier)
    by_newest m adds (inl same) rest = added_here j added.entry line past before (OneEvent form ok allowed) added.gave (moments_tail same) (adds ∙ sym same)
    by_newest m adds (inr more) rest = added_later e (rest more)

    by_growth : ((run s t (e ∷ earlier)).moments ≡ (run s t earlier).moments) ⊎ ((m : Moment) × ((run s t (e ∷ earlier)).moments ≡ m ∷ (run s t earlier).moments))
        → (Before (Adds j added.entry ∷ before) (run s t earlier).moments → AddedBy s t j line before earlier) → AddedBy s t j line before (e ∷ earlier)
    by_growth (inl same) rest = added_later e (rest (subst (λ ms. Before (Adds j added.entry ∷ before) ms) same added.back))
    by_growth (inr more) rest = by_newest more.0 more.1 (newest_state (subst (λ ms. Before (Adds j added.entry ∷ before) ms) more.1 added.back)) rest

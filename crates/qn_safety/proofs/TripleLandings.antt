-- How a line of a run of three images came, and what is carried along while an operation is out.
use Rattle.std.proofs.Common.{◌≡◌, ℕ, suc, ◌≤◌, true, false, List, [], ◌∷◌, length, Some, None, Option, refl, sym, ap, ◌∙◌, subst, arith, ◌⊎◌, inl, inr}
use Rattle.std.proofs.lemmas.Bool.{false≢true}
use Rattle.qn_base.specs.lemmas.Options.{none_is_not_some}
use Rattle.qn_base.specs.lemmas.Bools.{never_both}
use Rattle.qn_base.specs.lemmas.Lists.{too_long}
use Rattle.qn_model.specs.declared.configuration.Settings.{Settings}
use Rattle.qn_model.specs.declared.times.Timing.{Timing}
use Rattle.qn_model.specs.declared.entries.What.{What}
use Rattle.qn_model.specs.declared.outputs.DiskOp.{DiskOp}
use Rattle.qn_model.specs.lemmas.Entries.{read_answers_none}
use Rattle.qn_model.specs.lemmas.Logs.{ask_place-within}
use Rattle.qn_model.specs.Log.{Line, op_out, ask_place, is_answer}
use Rattle.qn_model.specs.Fitting.{answers_op}
use Rattle.qn_model.specs.Moments.{Before, Itself, Later, Moment, Adds, node}
use Rattle.qn_model.specs.World.{taken}
use Rattle.qn_safety.specs.declared.triple_event.TripleEvent.{TripleEvent}
use Rattle.qn_safety.specs.Timed.{IsSameBoot, IsBetween, AllRuled, IsAdded}
use Rattle.qn_safety.specs.declared.part.Part.TheVariants.{Landed, Failed}
use Rattle.qn_safety.specs.Answers.{answer_answers}
use Rattle.qn_safety.specs.TripleWorld.{TripleWorld, image_of, op_of, answer_of}
use Rattle.qn_safety.specs.TripleSteps.{landed_on, run_triple}
use Rattle.qn_safety.specs.Earlier.{before_then}
use Rattle.qn_safety.proofs.Logs.{Made, made_line}
use Rattle.qn_safety.proofs.Stays.{op_kept, ask_place_kept}
use Rattle.qn_safety.proofs.Outs.{answer_fits}
use Rattle.qn_safety.proofs.Runs.{sound, ruled_before, newest_rule}
use Rattle.qn_safety.proofs.Origins.{line_of, line_what, added_line, head_same}
use Rattle.qn_safety.proofs.Licensed.{added_boots}
use Rattle.qn_safety.proofs.Events.{newest_state, only_nothing}
use Rattle.qn_safety.proofs.Facts.{asked_inside}
use Rattle.qn_safety.proofs.Landings.{moments_tail}
use Rattle.qn_safety.proofs.TripleSets.{put_case}
use Rattle.qn_safety.proofs.TripleSeats.{seat_of, Effect, Rests, Enters, Answers, BootsUp, GoesOff, LandsOn, FailsOn, LateOn}
use Rattle.qn_safety.proofs.TripleKept.{Kept, not_landed, failed_not_landed}
use Rattle.qn_safety.proofs.TripleEvents.{IsAllowed, NoEvent, OneEvent, stage, effect_at, earlier_allowed, grows, first_moments, moments_grow}

-- how a line that was added came: it answers nothing, or its parts answer the operation that was out
pub data LineKind (s : Settings) (j : ℕ) (line : Line) (w : TripleWorld) : Type 0 where
  Plain : is_answer line.what ≡ false → LineKind s j line w
  Told : (op : DiskOp) → op_of s j w ≡ Some op → line.what ≡ answer_of op (w.parts j) (w.good j) → LineKind s j line w

-- the events that added a line
pub record AddedBy (s : Settings) (t : Timing) (j : ℕ) (line : Line) (before : List Moment) (events : List TripleEvent) : Type 0 where
  pub e : TripleEvent
  pub earlier : List TripleEvent
  pub back : Before (e ∷ earlier) events
  pub same : (run_triple s t earlier).moments ≡ before
  pub on : (node s j (run_triple s t earlier).moments).on ≡ true
  pub kind : LineKind s j line (run_triple s t earlier)

module _ (s : Settings) (t : Timing) (j : ℕ) (entry : What) (line : Line) (past : List Line) (w w' : TripleWorld) where
  kind_of : w'.moments ≡ Adds j entry ∷ w.moments → (node s j w'.moments).log ≡ line ∷ past → past ≡ (node s j w.moments).log → Effect s t j w w' → LineKind s j line w
  kind_of adds gave behind (Rests same) = too_long line past (sym gave ∙ ap (λ x. x.log) same ∙ sym behind)
  kind_of adds gave behind (GoesOff on same) = too_long line past (sym gave ∙ ap (λ x. x.log) same ∙ sym behind)
  kind_of adds gave behind (LandsOn k op on out pending all same) = too_long line past (sym gave ∙ ap (λ x. x.log) same ∙ sym behind)
  kind_of adds gave behind (FailsOn k op on out same) = too_long line past (sym gave ∙ ap (λ x. x.log) same ∙ sym behind)
  kind_of adds gave behind (LateOn k number op there same) = too_long line past (sym gave ∙ ap (λ x. x.log) same ∙ sym behind)
  kind_of adds gave behind (BootsUp tick clean off same) =
      absurd (let boots : (node s j w'.moments).boots ≡ suc (node s j w.moments).boots = ap (λ x. x.boots) same in
      let kept : (node s j w'.moments).boots ≡ (node s j w.moments).boots = ap (λ ms. (node s j ms).boots) adds ∙ added_boots s j entry w.moments in
      omega arith)
  kind_of adds gave behind (Enters tick other on plain same) =
      let is : line ≡ line_of s j tick other (node s j w.moments).log = head_same (sym gave ∙ ap (λ x. x.log) same) in
      Plain (ap (λ l. is_answer l.what) is ∙ ap is_answer (line_what s j tick other (node s j w.moments).log) ∙ read_answers_none s j (node s j w.moments).log other plain)
  kind_of adds gave behind (Answers tick op on out same) =
      let answer : What = answer_of op (w.parts j) (w.good j) in
      let is : line ≡ line_of s j tick (answer_of op (w.parts j) (w.good j)) (node s j w.moments).log = head_same (sym gave ∙ ap (λ x. x.log) same) in
      let fit = answer_fits s j (node s j w.moments).log (answer_of op (w.parts j) (w.good j))
      (subst (λ o. answers_op o (answer_of op (w.parts j) (w.good j)) ≡ true) (sym out) (answer_answers op (w.parts j) (w.good j))) in
      Told op out (ap (λ l. l.what) is ∙ line_what s j tick (answer_of op (w.parts j) (w.good j)) (node s j w.moments).log ∙ fit.1)

added_later : {s : Settings} {t : Timing} {j : ℕ} {line : Line} {before : List Moment} {events : List TripleEvent} (e : TripleEvent) → AddedBy s t j line before events → AddedBy s t j line before (e ∷ events)
added_later e it = record { e = it.e; earlier = it.earlier; back = Later e it.back; same = it.same; on = it.on; kind = it.kind }

added_here : {s : Settings} {t : Timing} {e : TripleEvent} {earlier : List TripleEvent} (j : ℕ) (entry : What) (line : Line) (past : List Line) (before : List Moment) → IsAllowed s t (e ∷ earlier)
    → (node s j (Adds j entry ∷ before)).log ≡ line ∷ past → before ≡ (run_triple s t earlier).moments → (run_triple s t (e ∷ earlier)).moments ≡ Adds j entry ∷ before
    → AddedBy s t j line before (e ∷ earlier)
added_here {s = s} {t = t} {e = e} {earlier = earlier} j entry line past before allowed gave is adds =
    let parts = added_line s j entry line past before gave in
    record {
      e = e;
      earlier = earlier;
      back = Itself;
      same = sym is;
      on = subst (λ ms. (node s j ms).on ≡ true) is ((newest_rule (subst (λ ms. AllRuled s t ms) adds ((stage allowed).ruled))).0);
      kind = kind_of s t j entry line past (run_triple s t earlier) (run_triple s t (e ∷ earlier)) (adds ∙ ap (λ ms. Adds j entry ∷ ms) is)
          (ap (λ ms. (node s j ms).log) adds ∙ gave) (parts.behind ∙ ap (λ ms. (node s j ms).log) is) (effect_at j allowed);
    }

-- each line that was added came of an event
pub added_by : {s : Settings} {t : Timing} {events : List TripleEvent} (j : ℕ) (line : Line) (past : List Line) (before : List Moment) → IsAllowed s t events
    → IsAdded s j line past before (run_triple s t events).moments → AddedBy s t j line before events
added_by {s = s} {t = t} j line past before NoEvent added = nothing (only_nothing (subst (λ ms. Before (Adds j added.entry ∷ before) ms) (first_moments s t) added.back))
  where
    nothing : Adds j added.entry ∷ before ≡ [] → AddedBy s t j line before []
    nothing e = absurd (cc)
added_by {s = s} {t = t} j line past before (OneEvent {e = e} {earlier = earlier} form ok allowed) added =
    by_growth (grows s t e earlier) (λ more. added_by j line past before allowed (record { entry = added.entry; back = more; gave = added.gave }))
  where
    by_newest : (m : Moment) → (run_triple s t (e ∷ earlier)).moments ≡ m ∷ (run_triple s t earlier).moments
        → (Adds j added.entry ∷ before ≡ m ∷ (run_triple s t earlier).moments) ⊎ Before (Adds j added.entry ∷ before) (run_triple s t earlier).moments
        → (Before (Adds j added.entry ∷ before) (run_triple s t earlier).moments → AddedBy s t j line before earlier) → AddedBy s t j line before (e ∷ earlier)
    by_newest m adds (inl same) rest = added_here j added.entry line past before (OneEvent form ok allowed) added.gave (moments_tail same) (adds ∙ sym same)
    by_newest m adds (inr more) rest = added_later e (rest more)

    by_growth : ((run_triple s t (e ∷ earlier)).moments ≡ (run_triple s t earlier).moments) ⊎ ((m : Moment) × ((run_triple s t (e ∷ earlier)).moments ≡ m ∷ (run_triple s t earlier).moments))
        → (Before (Adds j added.entry ∷ before) (run_triple s t earlier).moments → AddedBy s t j line before earlier) → AddedBy s t j line before (e ∷ earlier)
    by_growth (inl same) rest = added_later e (rest (subst (λ ms. Before (Adds j added.entry ∷ before) ms) same added.back))
    by_growth (inr more) rest = by_newest more.0 more.1 (newest_state (subst (λ ms. Before (Adds j added.entry ∷ before) ms) more.1 added.back)) rest

-- what an answer asked for lies at most at the last asking place before it
pub asked_le : {s : Settings} {t : Timing} {events : List TripleEvent} (j : ℕ) (line : Line) (past : List Line) (before : List Moment) → IsAllowed s t events
    → IsAdded s j line past before (run_triple s t events).moments → line.asked ≤ ask_place (node s j before).log
asked_le {s = s} {t = t} j line past before allowed added =
    let ruled = ruled_before added.back ((stage allowed).ruled) in
    let it = made_line (subst (λ log. Made s j log) added.gave ((sound ruled j).made)) in
    subst (λ log. line.asked ≤ ask_place log) ((added_line s j added.entry line past before added.gave).behind) (asked_inside line past (is_answer line.what) it.place)

-- a moment at which an operation that is out was out already
pub record Seen (s : Settings) (i : ℕ) (Gone : List Moment → Type 0) (now : List Moment) : Type 0 where
  pub at : List Moment
  pub back : Before at now
  pub same : IsSameBoot s i at now
  pub on : (node s i at).on ≡ true
  pub place : ask_place (node s i now).log ≤ length (node s i at).log
  pub gone : Gone at

pub seen_now : {s : Settings} {i : ℕ} {Gone : List Moment → Type 0} (now : List Moment) → (node s i now).on ≡ true → Gone now → Seen s i Gone now
seen_now {s = s} {i = i} now on gone = record { at = now; back = Itself; same = refl; on = on; place = ask_place-within (node s i now).log; gone = gone }

-- a seen moment lies between the asking for an answer and the answer
pub between_of : {s : Settings} {t : Timing} {Gone : List Moment → Type 0} {events : List TripleEvent} (j : ℕ) (line : Line) (past : List Line) (before : List Moment) → IsAllowed s t events
    → IsAdded s j line past before (run_triple s t events).moments → (it : Seen s j Gone before) → IsBetween s j line before it.at
between_of j line past before allowed added it =
    let asked = asked_le j line past before allowed added in
    let place = it.place in
    record { back = it.back; same = it.same; on = it.on; since = omega arith }

-- the moment right before an answer is such a one too
pub between_here : {s : Settings} {t : Timing} {events : List TripleEvent} (j : ℕ) (line : Line) (past : List Line) (before : List Moment) → IsAllowed s t events
    → IsAdded s j line past before (run_triple s t events).moments → (node s j before).on ≡ true → IsBetween s j line before before
between_here {s = s} j line past before allowed added on =
    let asked = asked_le j line past before allowed added in
    let inside = ask_place-within (node s j before).log in
    record { back = Itself; same = refl; on = on; since = omega arith }

-- a part that has landed had done so, or it lands with the event
pub data PartCase (s : Settings) (t : Timing) (i : ℕ) (w w' : TripleWorld) (k : ℕ) (value : What) : Type 0 where
  WasThere : w.parts i k ≡ Landed value → PartCase s t i w w' k value
  JustLanded : (op : DiskOp) → op_of s i w ≡ Some op → w' ≡ landed_on s t i k op w → value ≡ taken s t i op (image_of k w) → PartCase s t i w w' k value

-- an event leaves the operation of a node out
pub record Carried (s : Settings) (t : Timing) (i : ℕ) (w w' : TripleWorld) : Type 0 where
  pub on : (node s i w.moments).on ≡ true
  pub boots : (node s i w'.moments).boots ≡ (node s i w.moments).boots
  pub place : ask_place (node s i w'.moments).log ≡ ask_place (node s i w.moments).log
  pub out : op_of s i w' ≡ op_of s i w
  pub parts : (k : ℕ) (value : What) → w'.parts i k ≡ Landed value → PartCase s t i w w' k value

landed_same : (a b : What) → Landed a ≡ Landed b → a ≡ b
landed_same a b e = cc

-- while an operation is out, an event leaves it out, or it is new and none of its parts has landed
pub carry : {s : Settings} {t : Timing} {e : TripleEvent} {earlier : List TripleEvent} (i : ℕ) → IsAllowed s t (e ∷ earlier) → (node s i (run_triple s t (e ∷ earlier)).moments).on ≡ true
    → Effect s t i (run_triple s t earlier) (run_triple s t (e ∷ earlier))
    → Carried s t i (run_triple s t earlier) (run_triple s t (e ∷ earlier)) ⊎ ((k : ℕ) (value : What) → (run_triple s t (e ∷ earlier)).parts i k ≡ Landed value → ⊥)
carry {s = s} {t = t} i allowed on (Rests same) = inl (record {
  on = sym (ap (λ x. x.on) same) ∙ on;
  boots = ap (λ x. x.boots) same;
  place = ap (λ x. ask_place x.log) same;
  out = ap (λ x. op_out x.log) same;
  parts = λ k value e. WasThere (sym (ap (λ x. x.parts k) same) ∙ e);
})
carry {s = s} {t = t} {e = e} {earlier = earlier} i allowed on (Enters tick entry on_before plain same) = by_out (op_of s i (run_triple s t earlier)) refl
  where
    log : List Line
    log = (node s i (run_triple s t earlier).moments).log

    kept : Kept s t i ((stage (earlier_allowed allowed)).height i).top (seat_of s i (run_triple s t earlier))
    kept = ((stage (earlier_allowed allowed)).height i).held.kept on_before

    made' : Made s i (line_of s i tick entry log ∷ log)
    made' = subst (λ l. Made s i l) (ap (λ x. x.log) same) ((sound ((stage allowed).ruled) i).made)

    no_answer : is_answer (line_of s i tick entry log).what ≡ false
    no_answer = ap is_answer (line_what s i tick entry log) ∙ read_answers_none s i log entry plain

    by_out : (o : Option DiskOp) → op_of s i (run_triple s t earlier) ≡ o
        → Carried s t i (run_triple s t earlier) (run_triple s t (e ∷ earlier)) ⊎ ((k : ℕ) (value : What) → (run_triple s t (e ∷ earlier)).parts i k ≡ Landed value → ⊥)
    by_out (Some op) out = inl (record {
      on = on_before;
      boots = ap (λ x. x.boots) same;
      place = ap (λ x. ask_place x.log) same ∙ ask_place_kept (made_line made') op out no_answer;
      out = ap (λ x. op_out x.log) same ∙ op_kept (made_line made') op out no_answer ∙ sym out;
      parts = λ k value landed. WasThere (sym (ap (λ x. x.parts k) same) ∙ landed);
    })
    by_out None out = inr (λ k value landed. let was = kept.took k value (sym (ap (λ x. x.parts k) same) ∙ landed) in none_is_not_some was.op (sym out ∙ was.is))
carry i allowed on (Answers tick op on_before out same) = inr (λ k value landed. not_landed value (sym (ap (λ x. x.parts k) same) ∙ landed))
carry i allowed on (BootsUp tick clean off same) = inr (λ k value landed. not_landed value (sym (ap (λ x. x.parts k) same) ∙ landed))
carry i allowed on (GoesOff on_before same) = absurd (false≢true (sym (ap (λ x. x.on) same) ∙ on))
carry {s = s} {t = t} {e = e} {earlier = earlier} i allowed on (LandsOn k op on_before out pending all same) = inl (record {
  on = on_before;
  boots = ap (λ x. x.boots) same;
  place = ap (λ x. ask_place x.log) same;
  out = ap (λ x. op_out x.log) same;
  parts = λ n value landed. put_case (λ p. p ≡ Landed value → PartCase s t i (run_triple s t earlier) (run_triple s t (e ∷ earlier)) n value)
      ((run_triple s t earlier).parts i) k n (Landed (taken s t i op (image_of k (run_triple s t earlier))))
      (λ own is. JustLanded op out (all ∙ ap (λ m. landed_on s t i m op (run_triple s t earlier)) own) (sym (landed_same _ _ is) ∙ ap (λ m. taken s t i op (image_of m (run_triple s t earlier))) own))
      (λ was. WasThere was) (sym (ap (λ x. x.parts n) same) ∙ landed);
})
carry {s = s} {t = t} {e = e} {earlier = earlier} i allowed on (FailsOn k op on_before out same) = inl (record {
  on = on_before;
  boots = ap (λ x. x.boots) same;
  place = ap (λ x. ask_place x.log) same;
  out = ap (λ x. op_out x.log) same;
  parts = λ n value landed. put_case (λ p. p ≡ Landed value → PartCase s t i (run_triple s t earlier) (run_triple s t (e ∷ earlier)) n value)
      ((run_triple s t earlier).parts i) k n Failed (λ own is. failed_not_landed value is) (λ was. WasThere was) (sym (ap (λ x. x.parts n) same) ∙ landed);
})
carry {s = s} {t = t} i allowed on (LateOn k number op there same) = inl (record {
  on = sym (ap (λ x. x.on) same) ∙ on;
  boots = ap (λ x. x.boots) same;
  place = ap (λ x. ask_place x.log) same;
  out = ap (λ x. op_out x.log) same;
  parts = λ n value e. WasThere (sym (ap (λ x. x.parts n) same) ∙ e);
})

-- While an operation of a node is out: at some moment since it was asked for something was gone, or it was present all the
-- time, and what follows from that of the parts holds.
module _ {s : Settings} {t : Timing} (i : ℕ) (About : Option DiskOp → Type 0) (Gone : List Moment → Type 0) (Present : List Moment → Type 0) (Follows : TripleWorld → Type 0)
    (cases : (p : List Moment) → Gone p ⊎ Present p)
    (starts : (events : List TripleEvent) → IsAllowed s t events → Present (run_triple s t events).moments → ((k : ℕ) (value : What) → (run_triple s t events).parts i k ≡ Landed value → ⊥)
    → Follows (run_triple s t events))
    (goes_on : (e : TripleEvent) (earlier : List TripleEvent) → IsAllowed s t (e ∷ earlier) → About (op_of s i (run_triple s t earlier)) → Present (run_triple s t earlier).moments
    → Present (run_triple s t (e ∷ earlier)).moments → Carried s t i (run_triple s t earlier) (run_triple s t (e ∷ earlier)) → Follows (run_triple s t earlier) → Follows (run_triple s t (e ∷ earlier))) where
  seen_later : (e : TripleEvent) (earlier : List TripleEvent) → Carried s t i (run_triple s t earlier) (run_triple s t (e ∷ earlier)) → Seen s i Gone (run_triple s t earlier).moments
      → Seen s i Gone (run_triple s t (e ∷ earlier)).moments
  seen_later e earlier carried it = record {
    at = it.at;
    back = before_then it.back (moments_grow s t (Later e Itself));
    same = it.same ∙ sym carried.boots;
    on = it.on;
    place = let p = it.place in let q = carried.place in omega arith;
    gone = it.gone;
  }

  pub watch : {events : List TripleEvent} → IsAllowed s t events → (node s i (run_triple s t events).moments).on ≡ true → About (op_of s i (run_triple s t events))
      → Seen s i Gone (run_triple s t events).moments ⊎ Follows (run_triple s t events)
  watch NoEvent on about = never_both (node s i (run_triple s t []).moments).on on (ap (λ ms. (node s i ms).on) (first_moments s t) ∙ never_on)
    where
      never_on : (node s i []).on ≡ false
      never_on = unfold node in refl
  watch (OneEvent {e = e} {earlier = earlier} form ok allowed) on about =
      by_now (cases (run_triple s t (e ∷ earlier)).moments) (carry i (OneEvent form ok allowed) on (effect_at i (OneEvent form ok allowed))) (λ on' about'. watch allowed on' about')
    where
      by_before : Present (run_triple s t (e ∷ earlier)).moments → Carried s t i (run_triple s t earlier) (run_triple s t (e ∷ earlier)) → Gone (run_triple s t earlier).moments ⊎ Present (run_triple s t earlier).moments
          → Seen s i Gone (run_triple s t earlier).moments ⊎ Follows (run_triple s t earlier) → Seen s i Gone (run_triple s t (e ∷ earlier)).moments ⊎ Follows (run_triple s t (e ∷ earlier))
      by_before now carried before (inl seen) = inl (seen_later e earlier carried seen)
      by_before now carried (inl gone) (inr follows) = inl (seen_later e earlier carried (seen_now (run_triple s t earlier).moments carried.on gone))
      by_before now carried (inr present) (inr follows) = inr (goes_on e earlier (OneEvent form ok allowed) (subst About carried.out about) present now carried follows)

      by_now : Gone (run_triple s t (e ∷ earlier)).moments ⊎ Present (run_triple s t (e ∷ earlier)).moments
          → Carried s t i (run_triple s t earlier) (run_triple s t (e ∷ earlier)) ⊎ ((k : ℕ) (value : What) → (run_triple s t (e ∷ earlier)).parts i k ≡ Landed value → ⊥)
          → ((node s i (run_triple s t earlier).moments).on ≡ true → About (op_of s i (run_triple s t earlier)) → Seen s i Gone (run_triple s t earlier).moments ⊎ Follows (run_triple s t earlier))
          → Seen s i Gone (run_triple s t (e ∷ earlier)).moments ⊎ Follows (run_triple s t (e ∷ earlier))
      by_now (inl gone) carried rest = inl (seen_now (run_triple s t (e ∷ earlier)).moments on gone)
      by_now (inr present) (inr new) rest = inr (starts (e ∷ earlier) (OneEvent form ok allowed) present new)
      by_now (inr present) (inl carried) rest = by_before present carried (cases (run_triple s t earlier).moments) (rest carried.on (subst About carried.out about))

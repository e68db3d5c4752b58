-- Asking the other members, once a loop.
use Rattle.std.proofs.Common.{◌≡◌, ℕ, suc, zero, ◌+◌, ◌≤◌, ◌<◌, Bool, true, false, List, [], ◌∷◌, ◌++◌, length, map, filter, Some, Option, refl, sym, ap, ◌∙◌, subst, arith, ◌||◌, ◌&&◌, ◌==◌, not, if◌then◌else◌, nat_le, ◌⊎◌, inl, inr}
use Rattle.std.specs.Option.{option_map_or}
use Rattle.std.specs.List.{range_with_len}
use Rattle.std.proofs.lemmas.Bool.{false≢true, true≢false, le-leb, leb-true, leb-false, ne_eqb, cases_order}
use Rattle.qn_base.specs.declared.ids.View.{View}
use Rattle.qn_base.specs.lemmas.Elements.{IsIn, First, Behind}
use Rattle.qn_model.specs.declared.configuration.Settings.{Settings}
use Rattle.qn_model.specs.declared.times.Timing.{Timing}
use Rattle.qn_model.specs.declared.entries.What.{What}
use Rattle.qn_model.specs.declared.outputs.Out.TheVariants as out
use Rattle.qn_model.specs.Log.{Line, timing, is_view}
use Rattle.qn_model.specs.Phases.{phase, is_up}
use Rattle.qn_model.specs.Holding.{holds}
use Rattle.qn_model.specs.Hearing.{told, is_free}
use Rattle.qn_model.specs.NodeVotes.{view, released, is_in_view}
use Rattle.qn_model.specs.Wanted.{wanted_with_delay}
use Rattle.qn_model.specs.NodeOutputs.{when, disk_outs, acts, asks_under, ask_to, is_asked, is_asking, is_moment, moment, replies, gives_stop, gives_start, taken_in, with_read, mail_feeds}
use Rattle.qn_progress.specs.Pace.{Pace}
use Rattle.qn_progress.proofs.Given.{outs_up}
use Rattle.qn_progress.proofs.Busy.{Quietly}
use Rattle.qn_progress.proofs.Steps.{outs_now, stays_up}

pub in_left : {A : Type 0} {x : A} {xs : List A} (ys : List A) → IsIn x xs → IsIn x (xs ++ ys)
in_left ys First = First
in_left ys (Behind y more) = Behind y (in_left ys more)

pub in_right : {A : Type 0} {x : A} (xs : List A) {ys : List A} → IsIn x ys → IsIn x (xs ++ ys)
in_right [] it = it
in_right (z ∷ zs) it = Behind z (in_right zs it)

in_map : {A B : Type 0} (f : A → B) {x : A} {xs : List A} → IsIn x xs → IsIn (f x) (map f xs)
in_map f First = First
in_map f (Behind y more) = Behind (f y) (in_map f more)

in_cond : {A : Type 0} {x : A} (y : A) (xs : List A) (b : Bool) → IsIn x xs → IsIn x (if b then y ∷ xs else xs)
in_cond y xs true it = Behind y it
in_cond y xs false it = it

here_cond : {A : Type 0} (x : A) (xs : List A) (b : Bool) → b ≡ true → IsIn x (if b then x ∷ xs else xs)
here_cond x xs true e = First
here_cond x xs false e = absurd (false≢true e)

in_filter : {A : Type 0} (test : A → Bool) {x : A} {xs : List A} → test x ≡ true → IsIn x xs → IsIn x (filter test xs)
in_filter test {x = x} e (First {xs = ys}) = here_cond x (filter test ys) (test x) e
in_filter test {x = x} e (Behind y {xs = ys} more) = in_cond y (filter test ys) (test y) (in_filter test e more)

in_range : (count from j : ℕ) → from ≤ j → j < from + count → IsIn j (range_with_len from count)
in_range zero from j above below = absurd (omega arith)
in_range (suc count) from j above below = by_order (cases_order from j) (λ past. in_range count (from + 1) j (omega arith) (omega arith))
  where
    by_order : (from ≡ j) ⊎ ((from < j) ⊎ (j < from)) → (from < j → IsIn j (range_with_len (from + 1) count)) → IsIn j (range_with_len from (suc count))
    by_order (inl same) rest = subst (λ k. IsIn k (from ∷ range_with_len (from + 1) count)) same First
    by_order (inr (inl past)) rest = Behind from (rest past)
    by_order (inr (inr behind)) rest = absurd (omega arith)

-- an asking moment is due a loop after the last one
asking_due : {s : Settings} {t : Timing} {me : ℕ} {pace : Pace} {past : List Line} {tick : ℕ} {entry : What} (last : ℕ) → Quietly s t me pace past tick entry
    → timing past ≡ t → moment s past ≡ Some last → last + t.loop_ms ≤ tick → is_asking s (taken_in past tick entry) ≡ true
asking_due {s = s} {t = t} {past = past} {tick = tick} {entry = entry} last quiet times asked late =
    both (is_up (phase s (taken_in past tick entry))) (is_moment (timing past).loop_ms tick entry (moment s past)) (ap is_up quiet.up)
    (either (is_view entry) (option_map_or (λ a. nat_le (a + (timing past).loop_ms) tick) (moment s past) false)
    (ap (λ (m : Option ℕ). option_map_or (λ a. nat_le (a + (timing past).loop_ms) tick) m false) asked
    ∙ ap (λ (x : Timing). nat_le (last + x.loop_ms) tick) times ∙ le-leb _ _ late))
  where
    both : (a b : Bool) → a ≡ true → b ≡ true → (a && b) ≡ true
    both a b ea eb = rw ea eb

    either : (a b : Bool) → b ≡ true → (a || b) ≡ true
    either true b e = refl
    either false b e = e

-- and then each member that was not heard is asked
pub member_asked : {s : Settings} {t : Timing} {me : ℕ} {pace : Pace} {past : List Line} {tick : ℕ} {entry : What} (last : ℕ) (present : View) (j : ℕ) → Quietly s t me pace past tick entry
    → timing past ≡ t → moment s past ≡ Some last → last + t.loop_ms ≤ tick
    → view (taken_in past tick entry) ≡ Some present → j < length s.nodes → is_in_view (taken_in past tick entry) j ≡ true → ¬ (j ≡ me) → is_free (taken_in past tick entry) j ≡ false
    → IsIn (ask_to me (taken_in past tick entry) present j) (outs_now s me past tick entry)
unfolding acts
member_asked {s = s} {t = t} {me = me} {past = past} {tick = tick} {entry = entry} last present j quiet times asked late sees below inside other unheard =
    subst (λ outs. IsIn (ask_to me log present j) outs) (sym (outs_up s me past tick entry quiet.was_up (stays_up quiet)))
    (in_left (disk_outs (wanted_with_delay s me log))
    (in_right (when (gives_stop s me log) out.Stop ++ when (gives_start s me log) out.Start ++ when (mail_feeds tick past entry) out.Feed ++ replies s me (gives_start s me log || holds log) log entry)
    (subst (λ b. IsIn (ask_to me log present j) (if b then option_map_or (asks_under s me log) (view log) [] else [])) (sym (asking_due last quiet times asked late))
    (subst (λ v. IsIn (ask_to me log present j) (option_map_or (asks_under s me log) v [])) (sym sees)
    (in_map (ask_to me log present) (in_filter (is_asked s me log) (is_asked_now (is_in_view log j) (j == me) (released s log) (is_free log j) inside (ne_eqb j me other) unheard)
    (in_range (length s.nodes) 0 j (omega arith) (omega arith))))))))
  where
    log : List Line
    log = taken_in past tick entry

    is_asked_now : (i m r f : Bool) → i ≡ true → m ≡ false → f ≡ false → (i && not m && (not r || not f)) ≡ true
    is_asked_now true false true false ei em ef = refl
    is_asked_now true false false false ei em ef = refl
    is_asked_now true false r true ei em ef = absurd (true≢false ef)
    is_asked_now true true r f ei em ef = absurd (true≢false em)
    is_asked_now false m r f ei em ef = absurd (false≢true ei)

free_taken : (s : Settings) (me : ℕ) (past : List Line) (tick : ℕ) (entry : What) (j : ℕ) → is_free (with_read s me past tick entry) j ≡ is_free (taken_in past tick entry) j
unfolding told
free_taken s me past tick entry j = refl

-- an entry finds the member heard, or asks it, or is not a loop after the last asking moment
pub asking_step : {s : Settings} {t : Timing} {me : ℕ} {pace : Pace} {past : List Line} {tick : ℕ} {entry : What} (last : ℕ) (present : View) (j : ℕ) → Quietly s t me pace past tick entry
    → timing past ≡ t → moment s past ≡ Some last → view (taken_in past tick entry) ≡ Some present
    → j < length s.nodes → is_in_view (taken_in past tick entry) j ≡ true → ¬ (j ≡ me)
    → (is_free (with_read s me past tick entry) j ≡ true)
    ⊎ (IsIn (ask_to me (taken_in past tick entry) present j) (outs_now s me past tick entry)
    ⊎ ((moment s (with_read s me past tick entry) ≡ Some last) × (tick < last + t.loop_ms)))
unfolding moment
asking_step {s = s} {t = t} {me = me} {past = past} {tick = tick} {entry = entry} last present j quiet times asked sees below inside other =
    by_due (nat_le (last + t.loop_ms) tick) refl
  where
    not_now : (up view' : Bool) (due : Bool) → view' ≡ false → due ≡ false → (up && (view' || due)) ≡ false
    not_now true view' due ev ed = rw ev ed
    not_now false view' due ev ed = refl

    is_due : option_map_or (λ a. nat_le (a + (timing past).loop_ms) tick) (moment s past) false ≡ nat_le (last + t.loop_ms) tick
    is_due = ap (λ (m : Option ℕ). option_map_or (λ a. nat_le (a + (timing past).loop_ms) tick) m false) asked ∙ ap (λ (x : Timing). nat_le (last + x.loop_ms) tick) times

    by_free : (f : Bool) → is_free (taken_in past tick entry) j ≡ f → last + t.loop_ms ≤ tick
        → (is_free (with_read s me past tick entry) j ≡ true)
        ⊎ (IsIn (ask_to me (taken_in past tick entry) present j) (outs_now s me past tick entry)
        ⊎ ((moment s (with_read s me past tick entry) ≡ Some last) × (tick < last + t.loop_ms)))
    by_free true free late = inl (free_taken s me past tick entry j ∙ free)
    by_free false unheard late = inr (inl (member_asked last present j quiet times asked late sees below inside other unheard))

    by_due : (b : Bool) → nat_le (last + t.loop_ms) tick ≡ b
        → (is_free (with_read s me past tick entry) j ≡ true)
        ⊎ (IsIn (ask_to me (taken_in past tick entry) present j) (outs_now s me past tick entry)
        ⊎ ((moment s (with_read s me past tick entry) ≡ Some last) × (tick < last + t.loop_ms)))
    by_due true late = by_free (is_free (taken_in past tick entry) j) refl (leb-true _ _ late)
    by_due false soon =
        inr (inr (
          ap (λ b. if b then Some tick else moment s past)
              (not_now (is_up (phase s (with_read s me past tick entry))) (is_view entry) (option_map_or (λ a. nat_le (a + (timing past).loop_ms) tick) (moment s past) false) quiet.plain.not_view (is_due ∙ soon)) ∙ asked,
          leb-false _ _ soon,
        ))

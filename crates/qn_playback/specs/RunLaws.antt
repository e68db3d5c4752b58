-- Laws of whole runs.
use Rattle.std.proofs.Common.{◌≡◌, ◌≤◌, length, ℕ, List, [], ◌++◌, Option, None, Some, IfSome, refl, sym, ap, subst, ◌∙◌, append_assoc, append-nil}
use Rattle.std.specs.Io.KnownBytes.{IsAtEnd, prepend_known, append_known}
use Rattle.qn_io.specs.declared.buffered.TheConstants.{PIECE}
use Rattle.qn_io.specs.Outside.{append_known-nil, prepend_known-append}
use Rattle.qn_model.specs.Inputs.{BeginsWith, Tells, Anyway, AtEnd, AtFailure}
use Rattle.qn_model.specs.Lines.{Ending, Ended}
use Rattle.qn_sched.specs.declared.replay_end.ReplayEnd.{ReplayEnd}
use Rattle.qn_sched.specs.declared.replay_end.ReplayEnd.TheVariants.{NoMemory}
use Rattle.qn_playback.specs.Played.{Played, ended, standing_at}
use Rattle.qn_playback.specs.Reading.{Anywhere, EndsWith, GoesOn, IsNeeded, LastDecides, Rest, StillOpen, Stops, placed}
use Rattle.qn_playback.specs.Reading as reading
use Rattle.qn_playback.specs.Runs.{AnswersWhole, EndsAs, Runs, Unwritten, Wanted, WroteAll}
use Rattle.qn_playback.specs.Steps.{needed_after, takes_after, tells_after}

-- ---- a count of faults that rose in a part of the run

pub tells_wider : {A : Type 0} {answer_of : Ending → List ℕ → A} {taken : List ℕ} {at_end failed wider : Type 0} (P : A → Type 0) → (failed → wider)
    → Tells answer_of taken at_end failed P → Tells answer_of taken at_end wider P
tells_wider P widen (Anyway always) = Anyway always
tells_wider P widen (AtEnd at_end holds) = AtEnd at_end holds
tells_wider P widen (AtFailure fails holds) = AtFailure (widen fails) holds

ends_wider : {Last : Type 0} {played_of : Rest Last} {standing : Last → Type 0} {wanted : List ℕ → List ℕ → Type 0} {taken : List ℕ} {at_end failed wider write_failed write_wider : Type 0} {old new : Option (List ℕ)} {end : ReplayEnd}
    → (failed → wider) → (write_failed → write_wider)
    → EndsAs played_of standing wanted taken at_end failed old new write_failed end → EndsAs played_of standing wanted taken at_end wider old new write_wider end
ends_wider widen writes (WroteAll played tells is whole stands) = WroteAll played (tells_wider (λ p. p ≡ played) widen tells) is whole stands
ends_wider widen writes (Unwritten trace tells is fails prefix) = Unwritten trace (tells_wider (λ p. BeginsWith p.trace trace) widen tells) is (writes fails) prefix
ends_wider widen writes (Wanted trace tells is whole why) = Wanted trace (tells_wider (λ p. BeginsWith p.trace trace) widen tells) is whole why

pub runs_wider : {Last : Type 0} {played_of : Rest Last} {standing : Last → Type 0} {wanted : List ℕ → List ℕ → Type 0} {left left_new : Option (List ℕ)} {failed wider write_failed write_wider : Type 0} {old new : Option (List ℕ)} {end : ReplayEnd}
    → (failed → wider) → (write_failed → write_wider)
    → Runs played_of standing wanted left left_new failed old new write_failed end → Runs played_of standing wanted left left_new wider old new write_wider end
runs_wider widen writes run = record {
  taken = run.taken;
  waiting = run.waiting;
  takes = run.takes;
  needed = run.needed;
  within = run.within;
  ends = ends_wider (λ fails. (fails.0, widen fails.1)) writes run.ends;
}

-- ---- a run that ends within the head

head_ends : {Last : Type 0} {played_of : Rest Last} {standing : Last → Type 0} {wanted : List ℕ → List ℕ → Type 0} {taken : List ℕ} {at_end failed write_failed : Type 0} (last : Last) (old : Option (List ℕ)) (end : ReplayEnd)
    → standing last → ((taken : List ℕ) → wanted taken [])
    → EndsWith played_of last Anywhere taken at_end failed end → EndsAs played_of standing wanted taken at_end failed old old write_failed end
head_ends last old end stands anywhere (reading.Told tells) = WroteAll (ended last end) tells refl (sym (append_known-nil old)) stands
head_ends {played_of} {taken} last old end stands anywhere (reading.Wanted is why) =
    Wanted [] (Anyway (λ ending more. ((played_of ending (taken ++ more)).trace, refl))) is (sym (append_known-nil old)) (anywhere taken)

-- nothing was written
pub runs_in_head : {Last : Type 0} {played_of : Rest Last} {standing : Last → Type 0} {wanted : List ℕ → List ℕ → Type 0} {failed write_failed : Type 0} (last : Last) (left left_new old : Option (List ℕ)) (waiting : List ℕ) (end : ReplayEnd)
    → standing last → ((taken : List ℕ) → wanted taken []) → length waiting ≤ PIECE
    → Stops played_of last Anywhere left (prepend_known waiting left_new) ((waiting ≡ []) × IsAtEnd left_new) ((waiting ≡ []) × failed) end
    → Runs played_of standing wanted left left_new failed old old write_failed end
runs_in_head last left left_new old waiting end stands anywhere within stop = record {
  taken = stop.taken;
  waiting = waiting;
  takes = stop.takes ∙ sym (prepend_known-append stop.taken waiting left_new);
  needed = stop.needed;
  within = within;
  ends = head_ends last old end stands anywhere stop.stops;
}

-- ---- a head, and then a run

module _ {A B : Type 0} (place : A → B) (after : Rest A) where
  needed_placed : {taken : List ℕ} → IsNeeded after taken → IsNeeded (placed place after) taken
  needed_placed (StillOpen may) = StillOpen may
  needed_placed (LastDecides front byte parts may) = LastDecides front byte parts may

  tells_placed : {taken : List ℕ} {at_end failed : Type 0} (played : Played A) → Tells after taken at_end failed (λ p. p ≡ played)
      → Tells (placed place after) taken at_end failed (λ p. p ≡ standing_at place played)
  tells_placed played (Anyway always) = Anyway (λ ending more. ap (standing_at place) (always ending more))
  tells_placed played (AtEnd at_end holds) = AtEnd at_end (ap (standing_at place) holds)
  tells_placed played (AtFailure fails holds) = AtFailure fails (ap (standing_at place) holds)

  begins_placed : {taken : List ℕ} {at_end failed : Type 0} (trace : List ℕ) → Tells after taken at_end failed (λ p. BeginsWith p.trace trace)
      → Tells (placed place after) taken at_end failed (λ p. BeginsWith p.trace trace)
  begins_placed trace (Anyway always) = Anyway always
  begins_placed trace (AtEnd at_end holds) = AtEnd at_end holds
  begins_placed trace (AtFailure fails holds) = AtFailure fails holds

module _ {A B : Type 0} {before : Rest B} {after : Rest A} (place : A → B) {a b : Option (List ℕ)} (first : GoesOn before (placed place after) a b) where
  ends_after_head : {standing : A → Type 0} {standing_all : B → Type 0} {wanted wanted_all : List ℕ → List ℕ → Type 0} {taken : List ℕ} {at_end failed write_failed : Type 0} {old new : Option (List ℕ)} {end : ReplayEnd}
      → ((last : A) → standing last → standing_all (place last)) → ((taken trace : List ℕ) → wanted taken trace → wanted_all (first.taken ++ taken) trace)
      → EndsAs after standing wanted taken at_end failed old new write_failed end → EndsAs before standing_all wanted_all (first.taken ++ taken) at_end failed old new write_failed end
  ends_after_head stands wants (WroteAll played tells is whole standing) =
      WroteAll (standing_at place played) (tells_after first (λ p. p ≡ standing_at place played) (tells_placed place after played tells)) is whole (stands played.last standing)
  ends_after_head stands wants (Unwritten trace tells is fails prefix) = Unwritten trace (tells_after first (λ p. BeginsWith p.trace trace) (begins_placed place after trace tells)) is fails prefix
  ends_after_head {taken} stands wants (Wanted trace tells is whole why) = Wanted trace (tells_after first (λ p. BeginsWith p.trace trace) (begins_placed place after trace tells)) is whole (wants taken trace why)

  -- the head was good, and the run went on after it
  pub runs_after_head : {standing : A → Type 0} {standing_all : B → Type 0} {wanted wanted_all : List ℕ → List ℕ → Type 0} {left_new : Option (List ℕ)} {failed write_failed : Type 0} {old new : Option (List ℕ)} {end : ReplayEnd}
      → ((last : A) → standing last → standing_all (place last)) → ((taken trace : List ℕ) → wanted taken trace → wanted_all (first.taken ++ taken) trace)
      → Runs after standing wanted b left_new failed old new write_failed end → Runs before standing_all wanted_all a left_new failed old new write_failed end
  runs_after_head {left_new} stands wants run = record {
    taken = first.taken ++ run.taken;
    waiting = run.waiting;
    takes = takes_after first (run.taken ++ run.waiting) left_new run.takes ∙ ap (λ t. prepend_known t left_new) (sym (append_assoc first.taken run.taken run.waiting));
    needed = needed_after first (needed_placed place after run.needed);
    within = run.within;
    ends = ends_after_head stands wants run.ends;
  }

-- ---- what the taken bytes tell, and all that was there

pub tells_all : {A : Type 0} {answer_of : Ending → List ℕ → A} {taken waiting rest bytes : List ℕ} {failed : Type 0} (P : A → Type 0) → bytes ≡ (taken ++ waiting) ++ rest → (failed → ⊥)
    → Tells answer_of taken ((waiting ≡ []) × (rest ≡ [])) ((waiting ≡ []) × failed) P → P (answer_of Ended bytes)
tells_all {answer_of} {taken} {waiting} {rest} P parts no_failure (Anyway always) =
    subst (λ (b : List ℕ). P (answer_of Ended b)) (sym (parts ∙ append_assoc taken waiting rest)) (always Ended (waiting ++ rest))
tells_all {answer_of} {taken} {waiting} {rest} P parts no_failure (AtEnd at_end holds) =
    subst (λ (b : List ℕ). P (answer_of Ended b))
    (sym (parts ∙ ap (λ r. (taken ++ waiting) ++ r) at_end.1 ∙ append-nil (taken ++ waiting) ∙ ap (λ w. taken ++ w) at_end.0 ∙ append-nil taken)) holds
tells_all P parts no_failure (AtFailure fails holds) = absurd (no_failure fails.1)

ends_complete : {Last : Type 0} {played_of : Rest Last} {standing : Last → Type 0} {wanted : List ℕ → List ℕ → Type 0} {taken waiting rest bytes : List ℕ} {failed write_failed : Type 0} {old new : Option (List ℕ)} {end : ReplayEnd}
    → bytes ≡ (taken ++ waiting) ++ rest → (failed → ⊥) → (write_failed → ⊥) → (end ≡ NoMemory → ⊥)
    → EndsAs played_of standing wanted taken ((waiting ≡ []) × (rest ≡ [])) ((waiting ≡ []) × failed) old new write_failed end → AnswersWhole (played_of Ended bytes) old new end
ends_complete {old} parts no_failure no_write_failure memory (WroteAll played tells is whole stands) =
    let same = tells_all (λ p. p ≡ played) parts no_failure tells in
    (is ∙ ap (λ (p : Played _). p.end) (sym same), whole ∙ ap (λ (p : Played _). append_known old p.trace) (sym same))
ends_complete parts no_failure no_write_failure memory (Unwritten trace tells is fails prefix) = absurd (no_write_failure fails)
ends_complete parts no_failure no_write_failure memory (Wanted trace tells is whole why) = absurd (memory is)

-- where nothing failed and it did not run out of memory, the end and the trace are those of all that was there
pub runs_complete : {Last : Type 0} {played_of : Rest Last} {standing : Last → Type 0} {wanted : List ℕ → List ℕ → Type 0} (left left_new : Option (List ℕ)) {failed write_failed : Type 0} {old new : Option (List ℕ)} {end : ReplayEnd}
    → Runs played_of standing wanted left left_new failed old new write_failed end → (failed → ⊥) → (write_failed → ⊥) → (end ≡ NoMemory → ⊥)
    → IfSome left (λ bytes. AnswersWhole (played_of Ended bytes) old new end)
runs_complete None left_new run no_failure no_write_failure memory = tt
runs_complete (Some bytes) None run no_failure no_write_failure memory = let never = run.takes in cc
runs_complete (Some bytes) (Some rest) run no_failure no_write_failure memory =
    let takes = run.takes in
    let parts : bytes ≡ (run.taken ++ run.waiting) ++ rest = cc in
    ends_complete parts no_failure no_write_failure memory run.ends

-- What the end of a run says of its input and of what was written, where each end fits the way in which the input ended.
use Rattle.std.proofs.Common.{◌≡◌, ℕ, List, [], ◌++◌, Option, refl, sym, ap, ◌∙◌, subst, append-nil}
use Rattle.std.specs.Io.KnownBytes.{prepend_known, append_known}
use Rattle.qn_model.specs.Inputs.{Tells, Anyway, AtEnd, AtFailure}
use Rattle.qn_model.specs.Lines.{Ending, Ended, ReadFailed}
use Rattle.qn_sched.specs.declared.replay_end.ReplayEnd.{ReplayEnd}
use Rattle.qn_sched.specs.declared.replay_end.ReplayEnd.TheVariants.{Done, NoMemory, ReadFault, UnsafeLease, WriteFault}
use Rattle.qn_playback.specs.Endings.{FitsWith}
use Rattle.qn_playback.specs.Played.{Played}
use Rattle.qn_playback.specs.Reading.{Rest}
use Rattle.qn_playback.specs.Runs.{EndsAs, IfDone, OutOfMemory, ReadsWhole, Runs, Unwritten, Wanted, WroteAll}

-- the input was read to its end, and the end and the trace are its own
record IsWhole {Last : Type 0} (played_of : Rest Last) (taken : List ℕ) (at_end : Type 0) (old new : Option (List ℕ)) (end : ReplayEnd) : Type 0 where
  ended : at_end
  ends : end ≡ (played_of Ended taken).end
  writes : new ≡ append_known old (played_of Ended taken).trace

if_done : (P : Type 0) (end : ReplayEnd) → ((events : ℕ) → end ≡ Done events → P) → IfDone end P
if_done P (Done events) holds = holds events refl
if_done P _ holds = tt

module _ {Last : Type 0} (leased : Type 0) (played_of : Rest Last) (all_fit : (ending : Ending) (bytes : List ℕ) → FitsWith leased (played_of ending bytes).end ending) where
  -- the end of an answer that is that of some input
  pub fits : (ending : Ending) (bytes : List ℕ) (answer : Played Last) (end : ReplayEnd) → played_of ending bytes ≡ answer → answer.end ≡ end → FitsWith leased end ending
  fits ending bytes answer end same is = subst (λ e. FitsWith leased e ending) (ap (λ (a : Played Last). a.end) same ∙ is) (all_fit ending bytes)

  tells_unread : {taken : List ℕ} {at_end failed : Type 0} (answer : Played Last) → Tells played_of taken at_end failed (λ a. a ≡ answer) → answer.end ≡ ReadFault → failed
  tells_unread {taken} answer (Anyway always) is = absurd (fits Ended (taken ++ []) answer ReadFault (always Ended []) is)
  tells_unread {taken} answer (AtEnd ended same) is = absurd (fits Ended taken answer ReadFault same is)
  tells_unread answer (AtFailure fails same) is = fails

  tells_done : {taken : List ℕ} {at_end failed : Type 0} (answer : Played Last) (events : ℕ) → Tells played_of taken at_end failed (λ a. a ≡ answer)
      → answer.end ≡ Done events → at_end × (played_of Ended taken ≡ answer)
  tells_done {taken} answer events (Anyway always) is = absurd (fits ReadFailed (taken ++ []) answer (Done events) (always ReadFailed []) is)
  tells_done answer events (AtEnd ended same) is = (ended, same)
  tells_done {taken} answer events (AtFailure fails same) is = absurd (fits ReadFailed taken answer (Done events) same is)

  pub tells_unwritten : {taken : List ℕ} {at_end failed : Type 0} (answer : Played Last) → Tells played_of taken at_end failed (λ a. a ≡ answer) → answer.end ≡ WriteFault → ⊥
  tells_unwritten {taken} answer (Anyway always) is = fits Ended (taken ++ []) answer WriteFault (always Ended []) is
  tells_unwritten {taken} answer (AtEnd ended same) is = fits Ended taken answer WriteFault same is
  tells_unwritten {taken} answer (AtFailure fails same) is = fits ReadFailed taken answer WriteFault same is

  pub tells_leased : {taken : List ℕ} {at_end failed : Type 0} (answer : Played Last) (timeout limit lease : ℕ) → Tells played_of taken at_end failed (λ a. a ≡ answer)
      → answer.end ≡ UnsafeLease timeout limit lease → leased
  tells_leased {taken} answer timeout limit lease (Anyway always) is = fits Ended (taken ++ []) answer (UnsafeLease timeout limit lease) (always Ended []) is
  tells_leased {taken} answer timeout limit lease (AtEnd ended same) is = fits Ended taken answer (UnsafeLease timeout limit lease) same is
  tells_leased {taken} answer timeout limit lease (AtFailure fails same) is = fits ReadFailed taken answer (UnsafeLease timeout limit lease) same is

  tells_memory : {taken : List ℕ} {at_end failed : Type 0} (answer : Played Last) → Tells played_of taken at_end failed (λ a. a ≡ answer) → answer.end ≡ NoMemory → ⊥
  tells_memory {taken} answer (Anyway always) is = fits Ended (taken ++ []) answer NoMemory (always Ended []) is
  tells_memory {taken} answer (AtEnd ended same) is = fits Ended taken answer NoMemory same is
  tells_memory {taken} answer (AtFailure fails same) is = fits ReadFailed taken answer NoMemory same is

  module _ {standing : Last → Type 0} {wanted : List ℕ → List ℕ → Type 0} {old new : Option (List ℕ)} {write_failed : Type 0} (end : ReplayEnd) where
    ends_unread : {taken : List ℕ} {at_end failed : Type 0} → EndsAs played_of standing wanted taken at_end failed old new write_failed end → end ≡ ReadFault → failed
    ends_unread (WroteAll answer tells is whole stands) fault = tells_unread answer tells (sym is ∙ fault)
    ends_unread (Unwritten trace tells is fails front) fault = let never : WriteFault ≡ ReadFault = sym is ∙ fault in cc
    ends_unread (Wanted trace tells is whole why) fault = let never : NoMemory ≡ ReadFault = sym is ∙ fault in cc

    ends_unwritten : {taken : List ℕ} {at_end failed : Type 0} → EndsAs played_of standing wanted taken at_end failed old new write_failed end → end ≡ WriteFault → write_failed
    ends_unwritten (WroteAll answer tells is whole stands) fault = absurd (tells_unwritten answer tells (sym is ∙ fault))
    ends_unwritten (Unwritten trace tells is fails front) fault = fails
    ends_unwritten (Wanted trace tells is whole why) fault = let never : NoMemory ≡ WriteFault = sym is ∙ fault in cc

    ends_leased : {taken : List ℕ} {at_end failed : Type 0} (timeout limit lease : ℕ) → EndsAs played_of standing wanted taken at_end failed old new write_failed end
        → end ≡ UnsafeLease timeout limit lease → leased
    ends_leased timeout limit lease (WroteAll answer tells is whole stands) unsafe = tells_leased answer timeout limit lease tells (sym is ∙ unsafe)
    ends_leased timeout limit lease (Unwritten trace tells is fails front) unsafe = let never : WriteFault ≡ UnsafeLease timeout limit lease = sym is ∙ unsafe in cc
    ends_leased timeout limit lease (Wanted trace tells is whole why) unsafe = let never : NoMemory ≡ UnsafeLease timeout limit lease = sym is ∙ unsafe in cc

    ends_done : {taken : List ℕ} {at_end failed : Type 0} (events : ℕ) → EndsAs played_of standing wanted taken at_end failed old new write_failed end → end ≡ Done events
        → IsWhole played_of taken at_end old new end
    ends_done events (WroteAll answer tells is whole stands) done =
        let whole_input = tells_done answer events tells (sym is ∙ done) in
        record {
          ended = whole_input.0;
          ends = is ∙ ap (λ (a : Played Last). a.end) (sym whole_input.1);
          writes = whole ∙ ap (λ (a : Played Last). append_known old a.trace) (sym whole_input.1);
        }
    ends_done events (Unwritten trace tells is fails front) done = let never : WriteFault ≡ Done events = sym is ∙ done in cc
    ends_done events (Wanted trace tells is whole why) done = let never : NoMemory ≡ Done events = sym is ∙ done in cc

    ends_wanted : {taken : List ℕ} {at_end failed : Type 0} → EndsAs played_of standing wanted taken at_end failed old new write_failed end → end ≡ NoMemory
        → (trace : List ℕ) × (new ≡ append_known old trace) × wanted taken trace
    ends_wanted (WroteAll answer tells is whole stands) memory = absurd (tells_memory answer tells (sym is ∙ memory))
    ends_wanted (Unwritten trace tells is fails front) memory = let never : WriteFault ≡ NoMemory = sym is ∙ memory in cc
    ends_wanted (Wanted trace tells is whole why) memory = (trace, whole, why)

    module _ (left_old left_new : Option (List ℕ)) {failed : Type 0} (run : Runs played_of standing wanted left_old left_new failed old new write_failed end) where
      -- ReadFault comes only where a read failed
      pub run_unread : end ≡ ReadFault → failed
      run_unread fault = (ends_unread run.ends fault).1

      -- WriteFault comes only where a write failed
      pub run_unwritten : end ≡ WriteFault → write_failed
      run_unwritten fault = ends_unwritten run.ends fault

      -- a lease is unsafe only where there is one
      pub run_leased : (timeout limit lease : ℕ) → end ≡ UnsafeLease timeout limit lease → leased
      run_leased timeout limit lease unsafe = ends_leased timeout limit lease run.ends unsafe

      -- why it ran out of memory
      pub run_wanted : end ≡ NoMemory → OutOfMemory played_of wanted left_old left_new old new
      run_wanted memory =
          let why = ends_wanted run.ends memory in
          record {
            taken = run.taken;
            waiting = run.waiting;
            trace = why.0;
            takes = run.takes;
            needed = run.needed;
            within = run.within;
            writes = why.1;
            why = why.2;
          }

      whole_read : (events : ℕ) → end ≡ Done events → ReadsWhole played_of left_old left_new old new end
      whole_read events done =
          let whole = ends_done events run.ends done in
          record {
            read = run.taken;
            takes = run.takes ∙ ap (λ w. prepend_known (run.taken ++ w) left_new) whole.ended.0 ∙ ap (λ t. prepend_known t left_new) (append-nil run.taken);
            at_end = whole.ended.1;
            ends = whole.ends;
            writes = whole.writes;
          }

      -- at a good end the whole input was read
      pub run_done : IfDone end (ReadsWhole played_of left_old left_new old new end)
      run_done = if_done _ end whole_read

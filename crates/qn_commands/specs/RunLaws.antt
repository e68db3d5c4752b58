-- What follows from a run of a command that reads lines.
use Rattle.std.proofs.Common.{◌≡◌, ◌≢◌, ◌⊎◌, inl, inr, ℕ, List, [], ◌++◌, Option, None, Some, IfSome, sym, ap, ◌∙◌, subst, refl, append_assoc, append-nil, arith}
use Rattle.std.specs.Io.KnownBytes.{IsAtEnd, append_known, prepend_known}
use Rattle.qn_model.specs.Lines.{Ending, Ended, ReadFailed, Outcome}
use Rattle.qn_commands.specs.declared.status.Status.{Status}
use Rattle.qn_commands.specs.Endings.{AnswersWhole}
use Rattle.qn_commands.specs.Reads.{Anyway, AtEnd, AtFailure, Completes, EndsAs, IsOver, Runs, Tells, WroteAll, WroteFront}
use Rattle.qn_commands.specs.Seen.{Output, ReadFails, Seen, WriteFails}
use Rattle.qn_commands.specs.Statuses.{IsOneOf}

-- What a text says of its status: which there are; that 0 comes only where the input was read to its end, and 6 only where
-- a read failed.
pub record Ends (statuses : List Status) (text_of : Ending → List ℕ → Outcome) : Type 0 where
  pub one_of : (ending : Ending) (bytes : List ℕ) → IsOneOf statuses (text_of ending bytes).status
  pub read : (bytes : List ℕ) → (text_of ReadFailed bytes).status ≢ 0
  pub unread : (bytes : List ℕ) → (text_of Ended bytes).status ≢ 6

-- an answer is that of some input
pub record OfSome {A : Type 0} (answer_of : Ending → List ℕ → A) (P : A → Type 0) : Type 0 where
  pub ending : Ending
  pub bytes : List ℕ
  pub holds : P (answer_of ending bytes)

pub of_some : {A : Type 0} {taken : List ℕ} {at_end failed : Type 0} (answer_of : Ending → List ℕ → A) (P : A → Type 0)
    → Tells answer_of taken at_end failed P → OfSome answer_of P
of_some {A} {taken} answer_of P (Anyway always) = record { ending = Ended; bytes = taken ++ []; holds = always Ended [] }
of_some {A} {taken} answer_of P (AtEnd ended holds) = record { ending = Ended; bytes = taken; holds = holds }
of_some {A} {taken} answer_of P (AtFailure fails holds) = record { ending = ReadFailed; bytes = taken; holds = holds }

-- what the bytes that were taken tell holds of all that was there, where no read failed
pub tells_all : {A : Type 0} (answer_of : Ending → List ℕ → A) (taken rest bytes : List ℕ) {at_end failed : Type 0} (answer : A)
    → bytes ≡ taken ++ rest → (at_end → rest ≡ []) → (failed → ⊥)
    → Tells answer_of taken at_end failed (λ a. a ≡ answer) → answer_of Ended bytes ≡ answer
tells_all answer_of taken rest bytes answer parts nothing_left no_failure (Anyway always) = ap (answer_of Ended) parts ∙ always Ended rest
tells_all answer_of taken rest bytes answer parts nothing_left no_failure (AtEnd ended same) =
    ap (answer_of Ended) (parts ∙ ap (λ r. taken ++ r) (nothing_left ended) ∙ append-nil taken) ∙ same
tells_all answer_of taken rest bytes answer parts nothing_left no_failure (AtFailure fails same) = absurd (no_failure fails)

same_status : (n : ℕ) (o outcome : Outcome) → o ≡ outcome → outcome.status ≡ n → o.status ≡ n
same_status n o outcome same is = ap (λ (a : Outcome). a.status) same ∙ is

module _ {text_of : Ending → List ℕ → Outcome} {taken : List ℕ} {at_end failed : Type 0} where
  tells_zero : ((bytes : List ℕ) → (text_of ReadFailed bytes).status ≢ 0) → (outcome : Outcome) → Tells text_of taken at_end failed (λ o. o ≡ outcome)
      → outcome.status ≡ 0 → at_end × (text_of Ended taken ≡ outcome)
  tells_zero read outcome (Anyway always) zero =
      absurd (read (taken ++ []) (same_status 0 (text_of ReadFailed (taken ++ [])) outcome (always ReadFailed []) zero))
  tells_zero read outcome (AtEnd ended same) zero = (ended, same)
  tells_zero read outcome (AtFailure fails same) zero = absurd (read taken (same_status 0 (text_of ReadFailed taken) outcome same zero))

  tells_six : ((bytes : List ℕ) → (text_of Ended bytes).status ≢ 6) → (outcome : Outcome) → Tells text_of taken at_end failed (λ o. o ≡ outcome)
      → outcome.status ≡ 6 → failed
  tells_six unread outcome (Anyway always) six =
      absurd (unread (taken ++ []) (same_status 6 (text_of Ended (taken ++ [])) outcome (always Ended []) six))
  tells_six unread outcome (AtEnd ended same) six = absurd (unread taken (same_status 6 (text_of Ended taken) outcome same six))
  tells_six unread outcome (AtFailure fails same) six = fails

  module _ {before after : Output} {status : ℕ} {statuses : List Status} where
    ends_one_of : Ends statuses text_of → EndsAs text_of taken [] at_end failed before after status → IsOneOf statuses status ⊎ ((status ≡ 7) × WriteFails before after)
    ends_one_of laws (WroteAll outcome tells is whole) =
        let input = of_some text_of (λ o. o ≡ outcome) tells in
        inl (subst (IsOneOf statuses) (ap (λ (o : Outcome). o.status) input.holds ∙ sym is) (laws.one_of input.ending input.bytes))
    ends_one_of laws (WroteFront text tells is fails front) = inr (is, fails)

    ends_unread : Ends statuses text_of → EndsAs text_of taken [] at_end failed before after status → status ≡ 6 → failed
    ends_unread laws (WroteAll outcome tells is whole) six = tells_six laws.unread outcome tells (sym is ∙ six)
    ends_unread laws (WroteFront text tells is fails front) six = absurd (omega arith)

    ends_done : Ends statuses text_of → EndsAs text_of taken [] at_end failed before after status → status ≡ 0
        → at_end × (after.written ≡ append_known before.written (text_of Ended taken).text)
    ends_done laws (WroteAll outcome tells is whole) zero =
        let told = tells_zero laws.read outcome tells (sym is ∙ zero) in
        (told.0, whole ∙ ap (λ (o : Outcome). append_known before.written o.text) (sym told.1))
    ends_done laws (WroteFront text tells is fails front) zero = absurd (omega arith)

  ends_complete : {before after : Output} {status : ℕ} (waiting rest bytes : List ℕ)
      → bytes ≡ (taken ++ waiting) ++ rest → (at_end → (waiting ++ rest) ≡ []) → (failed → ⊥) → (WriteFails before after → ⊥)
      → EndsAs text_of taken [] at_end failed before after status → AnswersWhole (text_of Ended bytes) before after status
  ends_complete {before} waiting rest bytes parts over no_failure no_write_failure (WroteAll outcome tells is whole) =
      let same : text_of Ended bytes ≡ outcome =
      tells_all text_of taken (waiting ++ rest) bytes outcome (parts ∙ append_assoc taken waiting rest) over no_failure tells in
      (is ∙ ap (λ (o : Outcome). o.status) (sym same), whole ∙ ap (λ (o : Outcome). append_known before.written o.text) (sym same))
  ends_complete waiting rest bytes parts over no_failure no_write_failure (WroteFront text tells is fails front) = absurd (no_write_failure fails)

-- the bytes that were taken and those that wait, of an input that tells them
pub known_whole : (P : List ℕ → Type 0) (before after : Option (List ℕ)) (read : List ℕ) → before ≡ prepend_known read after
    → ((rest bytes : List ℕ) → after ≡ Some rest → bytes ≡ read ++ rest → P bytes) → IfSome before P
known_whole P None after read takes whole = tt
known_whole P (Some bytes) None read takes whole = cc
known_whole P (Some bytes) (Some rest) read takes whole = whole rest bytes refl cc

module _ {text_of : Ending → List ℕ → Outcome} {before after : Seen} {status : ℕ} (run : Runs text_of before after status) where
  -- where nothing failed, the answer is that of all that was there
  pub runs_complete : ¬ ReadFails before.input after.input → ¬ WriteFails before.output after.output
      → IfSome before.input.left (λ bytes. AnswersWhole (text_of Ended bytes) before.output after.output status)
  runs_complete no_read no_write =
      known_whole (λ bytes. AnswersWhole (text_of Ended bytes) before.output after.output status) before.input.left after.input.left
      (run.taken ++ run.waiting) run.takes
      (λ rest bytes left parts. ends_complete run.waiting rest bytes parts (λ over. over_whole run.waiting rest left over) (λ fails. no_read fails.1) no_write run.ends)
    where
      over_whole : (waiting rest : List ℕ) → after.input.left ≡ Some rest → IsOver waiting after.input → (waiting ++ rest) ≡ []
      over_whole waiting rest left over =
          ap (λ w. w ++ rest) over.0 ∙ subst (λ (l : Option (List ℕ)). IsAtEnd l → rest ≡ []) (sym left) (λ ended. ended) over.1

  module _ {statuses : List Status} (laws : Ends statuses text_of) where
    -- at status 0 the whole input was read, and its whole text written
    pub runs_done : status ≡ 0 → Completes text_of before after
    runs_done zero =
        let told = ends_done laws run.ends zero in
        record {
          read = run.taken;
          takes = run.takes ∙ ap (λ w. prepend_known (run.taken ++ w) after.input.left) told.0.0
              ∙ ap (λ t. prepend_known t after.input.left) (append-nil run.taken);
          at_end = told.0.1;
          writes = told.1;
        }

    -- the status is one of the text, or a write failed
    pub runs_one_of : IsOneOf statuses status ⊎ ((status ≡ 7) × WriteFails before.output after.output)
    runs_one_of = ends_one_of laws run.ends

    -- status 6 comes only where a read failed
    pub runs_unread : status ≡ 6 → ReadFails before.input after.input
    runs_unread six = (ends_unread laws run.ends six).1

-- A run of `count`, turn after turn, from its beginning to its end.
use Rattle.std.proofs.Common.{◌≡◌, ◌≤◌, ℕ, List, [], ◌∷◌, ◌++◌, length, Option, sym, ap, ◌∙◌, subst, append_assoc, refl, arith}
use Rattle.std.specs.Io.KnownBytes.{prepend_known, append_known}
use Rattle.qn_base.specs.Rising.{HasRisen-within}
use Rattle.qn_io.specs.declared.buffered.TheConstants.{PIECE}
use Rattle.qn_io.specs.Writes.{AppendsFront}
use Rattle.qn_io.specs.Outside.{append_known-append, prepend_known-append, prepend_known-nil}
use Rattle.qn_model.specs.Lines.{Ended, ReadFailed, Outcome, after}
use Rattle.qn_model.specs.CountText.{count_of, nothing_counted}
use Rattle.qn_commands.specs.CountTurns.{Coming, Counting, Ends, GoesOn, HasCounted, bytes_of, count_rest}
use Rattle.qn_commands.specs.Reads.{Anyway, AtEnd, AtFailure, BeginsWith, EndsAs, IsNeeded, IsOpen, LastDecides, Runs, StillOpen, Tells, WroteAll, WroteFront}
use Rattle.qn_commands.specs.Seen.{Input, Output, Outside, WriteFails, seen}
use Rattle.qn_playback.specs.Writing.{GivesOut, gives_later, gives_then, prefix_then}

-- nothing was read, and nothing was given out
pub counted_none : (next : Coming) (later : Counting) → later.counted ≡ nothing_counted → next.pieces ≡ [] → later.unwritten ≡ []
    → HasCounted next.input.left later.output.written next later
counted_none next later new none empty = record {
  taken = [];
  text = [];
  takes = sym (prepend_known-nil next.input.left) ∙ ap (prepend_known []) (sym (ap (λ p. prepend_known p next.input.left) none ∙ prepend_known-nil next.input.left));
  rest = λ ending further. ap (λ s. after [] (count_rest s ending further)) (sym new);
  gives = subst (λ (w : List ℕ). GivesOut later.output.written later.output.written w []) (sym empty) (gives_later later.output.written []);
}

after_after : (first second : List ℕ) (o : Outcome) → after first (after second o) ≡ after (first ++ second) o
after_after first second o = let with_text : List ℕ → Outcome = λ text. record { text = text; status = o.status } in
    ap with_text (sym (append_assoc first second o.text))

module _ {left written : Option (List ℕ)} {next : Coming} {before : Counting} (run : HasCounted left written next before) where
  -- one more turn
  pub counted_more : (last : Coming) (later : Counting) → GoesOn next last before later → HasCounted left written last later
  counted_more last later turn = record {
    taken = run.taken ++ turn.taken;
    text = run.text ++ turn.text;
    takes = run.takes ∙ ap (prepend_known run.taken) turn.takes ∙ sym (prepend_known-append run.taken turn.taken (bytes_of last));
    rest = λ ending further.
        ap (count_of ending) (append_assoc run.taken turn.taken further) ∙ run.rest ending (turn.taken ++ further)
        ∙ ap (after run.text) (turn.rest ending further) ∙ after_after run.text turn.text (count_rest later.counted ending further);
    gives = gives_then run.gives turn.text turn.gives;
  }

  -- what the last turn tells, told of the whole run
  tells_whole : {taken : List ℕ} {at_end failed wider : Type 0} (P Q : Outcome → Type 0) → ((o : Outcome) → P o → Q (after run.text o)) → (failed → wider)
      → Tells (count_rest before.counted) taken at_end failed P → Tells count_of (run.taken ++ taken) at_end wider Q
  tells_whole {taken} P Q whole widen (Anyway always) =
      Anyway (λ ending further. subst Q (sym (ap (count_of ending) (append_assoc run.taken taken further) ∙ run.rest ending (taken ++ further))) (whole _ (always ending further)))
  tells_whole {taken} P Q whole widen (AtEnd ended holds) = AtEnd ended (subst Q (sym (run.rest Ended taken)) (whole _ holds))
  tells_whole {taken} P Q whole widen (AtFailure fails holds) = AtFailure (widen fails) (subst Q (sym (run.rest ReadFailed taken)) (whole _ holds))

  -- the last turn, as the end of the whole run
  counted_ends : {taken : List ℕ} {at_end failed wider : Type 0} (start output : Output) (status : ℕ) → start.written ≡ written
      → (failed → wider) → (WriteFails before.output output → WriteFails start output)
      → EndsAs (count_rest before.counted) taken before.unwritten at_end failed before.output output status
      → EndsAs count_of (run.taken ++ taken) [] at_end wider start output status
  counted_ends start output status begun widen widen_write (WroteAll outcome tells is whole) =
      WroteAll (after run.text outcome)
      (tells_whole (λ o. o ≡ outcome) (λ o. o ≡ after run.text outcome) (λ o same. ap (after run.text) same) widen tells)
      is
      (whole ∙ ap (λ known. append_known known (before.unwritten ++ outcome.text)) run.gives.adds
      ∙ sym (append_known-append written run.gives.front (before.unwritten ++ outcome.text))
      ∙ ap (append_known written) (sym (append_assoc run.gives.front before.unwritten outcome.text) ∙ ap (λ x. x ++ outcome.text) (sym run.gives.parts))
      ∙ ap (λ known. append_known known (run.text ++ outcome.text)) (sym begun))
  counted_ends start output status begun widen widen_write (WroteFront text tells is fails front) =
      WroteFront (run.text ++ text)
      (tells_whole (λ o. BeginsWith o.text text) (λ o. BeginsWith o.text (run.text ++ text))
      (λ o begins. (begins.0, ap (λ x. run.text ++ x) begins.1 ∙ sym (append_assoc run.text text begins.0))) widen tells)
      is (widen_write fails)
      (subst (λ known. AppendsFront known output.written (run.text ++ text)) (sym begun)
      (prefix_then run.gives text front))

  -- the bytes of the last turn that its end needs, as those of the whole run
  open_whole : (prefix : List ℕ) → IsOpen (count_rest before.counted) prefix → IsOpen count_of (run.taken ++ prefix)
  open_whole prefix open_rest = ap (λ o. o.status) (run.rest ReadFailed prefix) ∙ open_rest

  needed_whole : {taken : List ℕ} → IsNeeded (count_rest before.counted) taken → IsNeeded count_of (run.taken ++ taken)
  needed_whole {taken} (StillOpen still) = StillOpen (open_whole taken still)
  needed_whole (LastDecides prefix byte parts still) =
      LastDecides (run.taken ++ prefix) byte (ap (λ t. run.taken ++ t) parts ∙ sym (append_assoc run.taken prefix (byte ∷ []))) (open_whole prefix still)

-- the whole run, in what was read of the source
pub run_ends : (input : Input) (start output : Output) (env : Outside) (next last : Coming) (before : Counting) (status : ℕ)
    → HasCounted input.left start.written next before
    → input.faults ≤ next.input.faults → next.input.faults ≤ last.input.faults
    → start.faults ≤ before.output.faults → before.output.faults ≤ output.faults
    → length last.pieces ≤ PIECE → Ends next last before output status
    → Runs count_of (seen input start env) (seen last.input output env) status
run_ends input start output env next last before status run began goes began_output goes_output within turn = record {
  taken = run.taken ++ turn.taken;
  waiting = last.pieces;
  takes =
      run.takes ∙ ap (prepend_known run.taken) turn.takes ∙ sym (prepend_known-append run.taken turn.taken (bytes_of last))
      ∙ sym (prepend_known-append (run.taken ++ turn.taken) last.pieces last.input.left);
  needed = needed_whole run turn.needed;
  within = within;
  ends = counted_ends run start output status refl
      (λ fails. (fails.0, HasRisen-within input.faults next.input.faults last.input.faults last.input.faults began goes (omega arith) fails.1))
      (HasRisen-within start.faults before.output.faults output.faults output.faults began_output goes_output (omega arith))
      turn.ends;
}

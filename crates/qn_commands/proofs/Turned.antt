-- One turn of `count`: what was read of a line, and what was done with it.
use Rattle.std.proofs.Common.{◌≡◌, ◌+◌, ◌<◌, ◌≤◌, ◌==◌, ℕ, false, List, [], ◌∷◌, ◌++◌, Option, None, Some, length, take, refl, sym, ap, ◌∙◌, subst, arith, Ok, append_assoc, append-nil, le-ltb}
use Rattle.std.specs.Io.KnownBytes.{prepend_known, append_known}
use Rattle.std.proofs.lemmas.List.{length-append, length-take-le}
use Rattle.std.proofs.lemmas.List.Elements.{All-push}
use Rattle.qn_base.specs.Rising.{HasRisen-within}
use Rattle.qn_io.specs.Lines.{HasNoLineFeed, IsTooLong}
use Rattle.qn_io.specs.Outside.{append_known-append, prepend_known-append, prepend_known-nil}
use Rattle.qn_io.specs.Writes.{AppendsFront}
use Rattle.qn_model.specs.declared.count_line.CountLine.{CountLine}
use Rattle.qn_model.specs.declared.count_line.CountLine.TheVariants.{Node, View}
use Rattle.qn_model.specs.declared.line_fault.LineFault.TheVariants.{TooLong}
use Rattle.qn_model.specs.Inputs.{tells_more}
use Rattle.qn_model.specs.Lines.{Ending, Ended, ReadFailed, Outcome, after, bad_line, read_fault}
use Rattle.qn_model.specs.CountText.{Counted, end_of_input, go_on, last_line, line_of, text_of_line, with_line}
use Rattle.qn_commands.specs.declared.status.Status.{Status}
use Rattle.qn_commands.specs.CountTurns.{Bad, Coming, Counting, Ends, JudgesLine, Turns, Unwritten, bytes_of, coming, count_rest}
use Rattle.qn_commands.specs.Endings.{Answers, Cut, Whole}
use Rattle.qn_commands.specs.Reads.{Anyway, AtEnd, AtFailure, BeginsWith, EndsAs, IsCutOff, IsNeeded, IsOpen, IsOver, LastDecides, StillOpen, Tells, WroteAll, WroteFront}
use Rattle.qn_commands.specs.Seen.{Input, Output, WriteFails}
use Rattle.qn_commands.specs.Statuses.{code_of}
use Rattle.qn_playback.specs.Writing.{GivesOut, gives_then, prefix_of_more, prefix_then}
use Rattle.qn_commands.proofs.CountLines.{count_rest-last, count_rest-line, count_rest-long}

begins_with_all : (outcome o : Outcome) → o ≡ outcome → BeginsWith o.text outcome.text
begins_with_all outcome o same = ([], ap (λ x. x.text) same ∙ sym (append-nil outcome.text))

-- the outcome that the bytes tell of was answered
ends_answered : {text_of : Ending → List ℕ → Outcome} {taken unwritten : List ℕ} {at_end failed : Type 0} {before later : Output} {status : ℕ}
    (outcome : Outcome) → Tells text_of taken at_end failed (λ o. o ≡ outcome)
    → Answers unwritten outcome.text outcome.status before later status → EndsAs text_of taken unwritten at_end failed before later status
ends_answered outcome tells (Whole is whole) = WroteAll outcome tells is whole
ends_answered outcome tells (Cut is fails front) =
    WroteFront outcome.text (tells_more (λ o. o ≡ outcome) (λ o. BeginsWith o.text outcome.text) (begins_with_all outcome) tells) is fails front

module _ (so_far : Counted) (ending : Ending) (line more : List ℕ) (plain : HasNoLineFeed line) where
  -- the text after a line that was taken with its end
  line_taken : count_rest so_far ending ((line ++ 10 ∷ []) ++ more) ≡ go_on so_far (line_of so_far line) (λ good. count_rest (with_line so_far good) ending more)
  line_taken = ap (count_rest so_far ending) (append_assoc line (10 ∷ []) more) ∙ count_rest-line so_far ending line more plain

  -- the text after a good line
  good_line_taken : (good : CountLine) → line_of so_far line ≡ Ok good
      → count_rest so_far ending ((line ++ 10 ∷ []) ++ more) ≡ after (text_of_line so_far good) (count_rest (with_line so_far good) ending more)
  good_line_taken good judged = line_taken ∙ ap (λ r. go_on so_far r (λ g. count_rest (with_line so_far g) ending more)) judged

with_line-lines : (so_far : Counted) (good : CountLine) → (with_line so_far good).lines ≡ so_far.lines + 1
unfolding with_line
with_line-lines so_far (Node entry) = refl
with_line-lines so_far (View view) = refl

last_line-short : (so_far : Counted) (ending : Ending) (rest : List ℕ) → length rest ≤ 4096 → last_line so_far ending rest ≡ end_of_input so_far ending rest
unfolding last_line
last_line-short so_far ending rest short = rw (le-ltb 4096 (length rest) short)

-- the text of an input that ends after the last end of a line
short_rest : (so_far : Counted) (ending : Ending) (line : List ℕ) → HasNoLineFeed line → length line ≤ 4096
    → count_rest so_far ending line ≡ end_of_input so_far ending line
short_rest so_far ending line plain short = count_rest-last so_far ending line plain ∙ last_line-short so_far ending line short

-- what there is of a line leaves the end open
open_rest : (so_far : Counted) (line : List ℕ) → HasNoLineFeed line → length line ≤ 4096 → IsOpen (count_rest so_far) line
unfolding end_of_input
open_rest so_far line plain short = ap (λ o. o.status) (short_rest so_far ReadFailed line plain short)

no_line_feed : HasNoLineFeed []
no_line_feed k d less = absurd (omega arith)

module _ (first next : Coming) (before : Counting) where
  -- a whole line was read and judged
  pub turn_line : (result : Option Status) (later : Counting) (line : List ℕ) → HasNoLineFeed line → length line ≤ 4096
      → bytes_of first ≡ prepend_known (line ++ 10 ∷ []) (bytes_of next) → JudgesLine result line before later → Turns result first next before later
  turn_line None later line plain short takes judges = record {
    taken = line ++ 10 ∷ [];
    text = text_of_line before.counted judges.good;
    takes = takes;
    rest = λ ending further.
        good_line_taken before.counted ending line further plain judges.good judges.judged
        ∙ ap (λ s. after (text_of_line before.counted judges.good) (count_rest s ending further)) (sym judges.counted);
    gives = judges.gives;
    room = judges.room;
    counted = ap (λ s. s.lines) judges.counted ∙ with_line-lines before.counted judges.good;
  }
  turn_line (Some status) later line plain short takes (Bad fault judged answers) = record {
    taken = line ++ 10 ∷ [];
    takes = takes;
    needed = LastDecides line 10 refl (open_rest before.counted line plain short);
    ends = ends_answered (bad_line (before.counted.lines + 1) fault)
        (Anyway (λ ending further. line_taken before.counted ending line further plain
        ∙ ap (λ r. go_on before.counted r (λ g. count_rest (with_line before.counted g) ending further)) judged))
        answers;
  }
  turn_line (Some status) later line plain short takes (Unwritten good judged is fails front) = record {
    taken = line ++ 10 ∷ [];
    takes = takes;
    needed = LastDecides line 10 refl (open_rest before.counted line plain short);
    ends = WroteFront (text_of_line before.counted good)
        (Anyway (λ ending further.
        ((count_rest (with_line before.counted good) ending further).text, ap (λ o. o.text) (good_line_taken before.counted ending line further plain good judged))))
        is fails front;
  }

  -- the input ended
  pub turn_rest : (output : Output) (status : ℕ) (line : List ℕ) → HasNoLineFeed line → length line ≤ 4096
      → bytes_of first ≡ prepend_known line (bytes_of next) → IsOver next.pieces next.input
      → Answers before.unwritten (end_of_input before.counted Ended line).text (end_of_input before.counted Ended line).status before.output output status
      → Ends first next before output status
  turn_rest output status line plain short takes ended answers = record {
    taken = line;
    takes = takes;
    needed = StillOpen (open_rest before.counted line plain short);
    ends = ends_answered (end_of_input before.counted Ended line) (AtEnd ended (short_rest before.counted Ended line plain short)) answers;
  }

  -- a read failed
  pub turn_failed : (output : Output) (status : ℕ) (line : List ℕ) → HasNoLineFeed line → length line ≤ 4096
      → bytes_of first ≡ prepend_known line (bytes_of next) → IsCutOff next.pieces first.input next.input
      → Answers before.unwritten read_fault.text 6 before.output output status → Ends first next before output status
  unfolding end_of_input
  turn_failed output status line plain short takes fails answers = record {
    taken = line;
    takes = takes;
    needed = StillOpen (open_rest before.counted line plain short);
    ends = ends_answered read_fault (AtFailure fails (short_rest before.counted ReadFailed line plain short)) answers;
  }

  -- more of a line was read than there may be
  pub turn_too_long : (output : Output) (status : ℕ) (line : List ℕ) → HasNoLineFeed line → IsTooLong line (bytes_of first) (bytes_of next)
      → Answers before.unwritten (bad_line (before.counted.lines + 1) TooLong).text 4 before.output output status
      → Ends first next before output status
  turn_too_long output status line plain long answers = record {
    taken = line ++ long.byte ∷ [];
    takes = long.takes;
    needed = LastDecides line long.byte refl (open_rest before.counted line plain (let full = long.full in omega arith));
    ends = ends_answered (bad_line (before.counted.lines + 1) TooLong)
        (Anyway (λ ending further. count_rest-long before.counted ending (line ++ long.byte ∷ []) further
        (All-push (λ b. (b == 10) ≡ false) line long.byte plain long.goes_on)
        (omega (arith, length-append line (long.byte ∷ []), long.full))))
        answers;
  }

-- the same end, where what waited was written in part before
ends_before : {text_of : Ending → List ℕ → Outcome} {taken : List ℕ} {at_end failed : Type 0} {status : ℕ}
    (before middle later : Output) (unwritten unwritten_before : List ℕ) → (WriteFails middle later → WriteFails before later)
    → GivesOut before.written middle.written unwritten unwritten_before
    → EndsAs text_of taken unwritten at_end failed middle later status
    → EndsAs text_of taken unwritten_before at_end failed before later status
ends_before before middle later unwritten unwritten_before widen first (WroteAll outcome tells is whole) =
    WroteAll outcome tells is
    (whole ∙ ap (λ known. append_known known (unwritten ++ outcome.text)) first.adds ∙ sym (append_known-append before.written first.front (unwritten ++ outcome.text))
    ∙ ap (append_known before.written) (sym (append_assoc first.front unwritten outcome.text) ∙ ap (λ x. x ++ outcome.text) (sym first.parts)))
ends_before before middle later unwritten unwritten_before widen first (WroteFront text tells is fails front) =
    WroteFront text tells is (widen fails) (prefix_then first text front)

-- what waited was written in part, and then came a turn
pub turn_behind : (result : Option Status) (first next : Coming) (before middle later : Counting) → before.counted ≡ middle.counted
    → GivesOut before.output.written middle.output.written middle.unwritten before.unwritten
    → before.output.faults ≤ middle.output.faults → middle.output.faults ≤ later.output.faults
    → Turns result first next middle later → Turns result first next before later
turn_behind None first next before middle later same gives rises rises_later turn = record {
  taken = turn.taken;
  text = turn.text;
  takes = turn.takes;
  rest = λ ending further. ap (λ s. count_rest s ending (turn.taken ++ further)) same ∙ turn.rest ending further;
  gives = gives_then gives turn.text turn.gives;
  room = let room = turn.room in let lines = ap (λ s. s.lines) same in omega arith;
  counted = let counted = turn.counted in let lines = ap (λ s. s.lines) same in omega arith;
}
turn_behind (Some status) first next before middle later same gives rises rises_later turn = record {
  taken = turn.taken;
  takes = turn.takes;
  needed = subst (λ s. IsNeeded (count_rest s) turn.taken) (sym same) turn.needed;
  ends = subst
      (λ s. EndsAs (count_rest s) turn.taken before.unwritten (IsOver next.pieces next.input) (IsCutOff next.pieces first.input next.input) before.output later.output (code_of status))
      (sym same)
      (ends_before before.output middle.output later.output middle.unwritten before.unwritten
      (HasRisen-within before.output.faults middle.output.faults later.output.faults later.output.faults rises rises_later (omega arith)) gives turn.ends);
}

-- what waited could not be written, and nothing was read
pub turn_unwritten : (first next : Coming) (before : Counting) (output : Output) → bytes_of first ≡ bytes_of next → WriteFails before.output output
    → AppendsFront before.output.written output.written before.unwritten → Ends first next before output 7
turn_unwritten first next before output same fails front = record {
  taken = [];
  takes = same ∙ sym (prepend_known-nil (bytes_of next));
  needed = StillOpen (open_rest before.counted [] no_line_feed (omega arith));
  ends = WroteFront [] (Anyway (λ ending further. ((count_rest before.counted ending further).text, refl))) refl fails
      (prefix_of_more [] front);
}

-- a line that waits whole is short
pub waiting_short : (count : ℕ) (own : List ℕ) → count < length own → length own ≤ 4096 → length (take count own) ≤ 4096
waiting_short count own inside within = let cut = length-take-le count own (omega (arith, inside)) in omega (arith, inside, within, cut)

-- the first line that waits whole was taken with its end
pub waiting_taken : (line rest own left_over : List ℕ) (left : Option (List ℕ)) → own ≡ line ++ 10 ∷ rest → left_over ≡ rest
    → prepend_known own left ≡ prepend_known (line ++ 10 ∷ []) (prepend_known left_over left)
waiting_taken line rest own left_over left cut passed =
    ap (λ p. prepend_known p left) (cut ∙ sym (append_assoc line (10 ∷ []) rest) ∙ ap (λ r. (line ++ 10 ∷ []) ++ r) (sym passed))
    ∙ prepend_known-append (line ++ 10 ∷ []) left_over left

-- the same turn, of the same bytes under another name
pub turn_same : (result : Option Status) (pieces own : List ℕ) (input : Input) (next : Coming) (before later : Counting) → pieces ≡ own
    → Turns result (coming pieces input) next before later → Turns result (coming own input) next before later
turn_same result pieces own input next before later same turn = subst (λ p. Turns result (coming p input) next before later) same turn

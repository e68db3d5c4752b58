-- A run of a world, line after line, up to its end.
use Rattle.std.proofs.Common.{◌≡◌, ◌+◌, ◌<◌, ◌≤◌, arith, ℕ, List, [], ◌∷◌, ◌++◌, Option, length, Ok, refl, sym, ap, ◌∙◌, subst, append_assoc, append-nil}
use Rattle.std.specs.Io.KnownBytes.{IsAtEnd, prepend_known, append_known}
use Rattle.std.specs.Prelude.{drop}
use Rattle.qn_io.specs.Outside.{prepend_known-append}
use Rattle.qn_io.specs.declared.buffered.TheConstants.{PIECE}
use Rattle.qn_io.specs.Writes.{AppendsFront}
use Rattle.qn_model.specs.Inputs.{Anyway}
use Rattle.qn_model.specs.Lines.{Ending, Ended}
use Rattle.qn_sched.specs.declared.replay_end.ReplayEnd.{ReplayEnd}
use Rattle.qn_sched.specs.declared.replay_end.ReplayEnd.TheVariants.{Done, WriteFault}
use Rattle.qn_io.specs.declared.lines.LineRead.{LineRead}
use Rattle.qn_io.specs.declared.next_line.NextLine.{NextLine}
use Rattle.qn_io.specs.declared.next_line.NextLine.TheVariants as next
use Rattle.qn_io.specs.Lines.{IsDrainedLine, OnFailedLine, ReadsLine}
use Rattle.qn_io.specs.NextLines.{own_count, read_of}
use Rattle.qn_model.specs.LineLaws.{IsPartOfLine}
use Rattle.qn_playback.specs.Judging.{RefusesAt, StandsAfter, judged}
use Rattle.qn_playback.specs.Lines.{Play, Taken, Wants, last_line, rest_of}
use Rattle.qn_playback.specs.Played.{Played, ended, traced}
use Rattle.qn_playback.specs.Reading.{EndsWith, GoesOn, IsOpen, Rest, Stops}
use Rattle.qn_playback.specs.Reading as reading
use Rattle.qn_playback.specs.Runs.{Cut, EndsAs, Finishes, Runs, Unwritten, Wanted, WantsAtLine, Written, WroteAll}
use Rattle.qn_playback.specs.Steps.{goes_nowhere, goes_then, goes_traced, needed_after, needed_traced, takes_after, tells_after, tells_traced}
use Rattle.qn_playback.specs.Writing.{GivesOut, gives_later, gives_on, gives_then, prefix_then, written_all, written_prefix}
use Rattle.qn_playback.proofs.LineSteps.{WantsHere, read_goes, read_stops}
use Rattle.std.proofs.lemmas.List.{length-drop}

-- The lines so far were taken, and their trace text was given out: the world stands after them, and what the whole input gives
-- is that text and what the rest of the input gives.
pub record IsRunning (play : Play) (standing : Taken → Type 0) (head count : ℕ) (left to_come old now : Option (List ℕ)) (waiting : List ℕ) : Type 0 where
  pub after : StandsAfter standing count
  pub text : List ℕ
  pub goes : GoesOn (rest_of play head []) (λ ending more. traced text (rest_of play head after.earlier ending more)) left to_come
  pub gives : GivesOut old now waiting text

nothing_taken : (play : Play) (head : ℕ) → IsOpen (rest_of play head []) []
unfolding last_line
nothing_taken play head = refl

-- no line was taken yet
pub begins : (play : Play) (standing : Taken → Type 0) (head : ℕ) (left old : Option (List ℕ)) (waiting : List ℕ) → standing [] → waiting ≡ [] → IsRunning play standing head 0 left left old old waiting
begins play standing head left old waiting stands none =
    let nowhere = goes_nowhere (rest_of play head []) left (nothing_taken play head) in
    record {
      after = record { earlier = []; stands = stands; counted = refl; few = omega arith };
      text = [];
      goes = record { taken = nowhere.taken; takes = nowhere.takes; needed = nowhere.needed; rest = λ ending more. nowhere.rest ending more };
      gives = subst (λ (w : List ℕ). GivesOut old old w []) (sym none) (gives_later old []);
    }

-- a text, and then another
traced-traced : (first second : List ℕ) (played : Played Taken) → traced first (traced second played) ≡ traced (first ++ second) played
traced-traced first second played =
    ap (λ (trace : List ℕ). let whole : Played Taken = record { trace = trace; end = played.end; last = played.last } in whole) (sym (append_assoc first second played.trace))

-- where a run stands that goes on after a text
stood : (play : Play) (head : ℕ) (earlier : Taken) {left between : Option (List ℕ)} (text : List ℕ) (goes : GoesOn (rest_of play head []) (λ ending more. traced text (rest_of play head earlier ending more)) left between)
    → rest_of play head [] Ended goes.taken ≡ record { trace = text; end = Done (length earlier); last = earlier }
unfolding last_line
stood play head earlier text goes =
    ap (rest_of play head [] Ended) (sym (append-nil goes.taken)) ∙ goes.rest Ended []
    ∙ ap (λ (trace : List ℕ). let whole : Played Taken = record { trace = trace; end = Done (length earlier); last = earlier } in whole) (append-nil text)

module _ {play : Play} {standing : Taken → Type 0} {head count : ℕ} {left between old now : Option (List ℕ)} {waiting : List ℕ}
    (run : IsRunning play standing head count left between old now waiting) where
  -- more of what waited was written
  abbrev pub writes_on : {new : Option (List ℕ)} {less : List ℕ} → GivesOut now new less waiting → IsRunning play standing head count left between old new less
  writes_on gives = record { after = run.after; text = run.text; goes = run.goes; gives = gives_on run.gives gives }

  further : {after : Option (List ℕ)} (line text : List ℕ)
      → GoesOn (rest_of play head run.after.earlier) (λ ending more. traced text (rest_of play head (line ∷ run.after.earlier) ending more)) between after
      → GoesOn (rest_of play head []) (λ ending more. traced (run.text ++ text) (rest_of play head (line ∷ run.after.earlier) ending more)) left after
  further line text goes =
      let both = goes_then run.goes (goes_traced run.text goes) in
      record {
        taken = both.taken;
        takes = both.takes;
        needed = both.needed;
        rest = λ ending more. both.rest ending more ∙ traced-traced run.text text (rest_of play head (line ∷ run.after.earlier) ending more);
      }

  -- the world took one more line, and its text was given out
  pub takes_on : {standing_new : Taken → Type 0} {after new : Option (List ℕ)} {longer : List ℕ} (line text : List ℕ) (count_new : ℕ) → standing_new (line ∷ run.after.earlier)
      → count < 200000 → count_new ≡ count + 1
      → GoesOn (rest_of play head run.after.earlier) (λ ending more. traced text (rest_of play head (line ∷ run.after.earlier) ending more)) between after
      → GivesOut now new longer (waiting ++ text) → IsRunning play standing_new head count_new left after old new longer
  takes_on line text count_new stands few counts goes gives =
      let counted = run.after.counted in
      record {
        after = record { earlier = line ∷ run.after.earlier; stands = stands; counted = omega (arith, counted, counts); few = omega (arith, few, counts) };
        text = run.text ++ text;
        goes = further line text goes;
        gives = gives_then run.gives text gives;
      }

  cut : {standing_new : Taken → Type 0} {wanted : List ℕ → List ℕ → Type 0} {at_end failed write_failed : Type 0} {new : Option (List ℕ)} (taken text : List ℕ) (rest : Rest Taken)
      → ((ending : Ending) (more : List ℕ) → rest_of play head [] ending (taken ++ more) ≡ traced text (rest ending more))
      → write_failed → AppendsFront old new text → EndsAs (rest_of play head []) standing_new wanted taken at_end failed old new write_failed WriteFault
  cut taken text rest is fails prefix =
      Unwritten text (Anyway (λ ending more. ((rest ending more).trace, ap (λ (p : Played Taken). p.trace) (is ending more)))) refl fails prefix

  -- what waited was not written whole
  pub unwritten : {standing_new : Taken → Type 0} {wanted : List ℕ → List ℕ → Type 0} {left_new new : Option (List ℕ)} {failed write_failed : Type 0} (pieces : List ℕ) → length pieces ≤ PIECE
      → between ≡ prepend_known pieces left_new → write_failed → AppendsFront now new waiting
      → Runs (rest_of play head []) standing_new wanted left left_new failed old new write_failed WriteFault
  unwritten {left_new} pieces within is fails prefix = record {
    taken = run.goes.taken;
    waiting = pieces;
    takes = run.goes.takes ∙ ap (prepend_known run.goes.taken) is ∙ sym (prepend_known-append run.goes.taken pieces left_new);
    needed = run.goes.needed;
    within = within;
    ends = cut run.goes.taken run.text (λ ending more. rest_of play head run.after.earlier ending more) run.goes.rest fails (written_prefix run.gives prefix);
  }

  -- the world took one more line, whose text was not written whole
  pub unwritten_at : {standing_new : Taken → Type 0} {wanted : List ℕ → List ℕ → Type 0} {left_new new : Option (List ℕ)} {failed write_failed : Type 0} (pieces line text : List ℕ) → length pieces ≤ PIECE
      → GoesOn (rest_of play head run.after.earlier) (λ ending more. traced text (rest_of play head (line ∷ run.after.earlier) ending more)) between (prepend_known pieces left_new)
      → write_failed → AppendsFront now new (waiting ++ text)
      → Runs (rest_of play head []) standing_new wanted left left_new failed old new write_failed WriteFault
  unwritten_at {left_new} pieces line text within goes fails prefix =
      let whole = further line text goes in
      record {
        taken = whole.taken;
        waiting = pieces;
        takes = whole.takes ∙ sym (prepend_known-append whole.taken pieces left_new);
        needed = whole.needed;
        within = within;
        ends = cut whole.taken (run.text ++ text) (λ ending more. rest_of play head (line ∷ run.after.earlier) ending more) whole.rest fails (prefix_then run.gives text prefix);
      }

  all_written : {wants : Wants} {standing_new : Taken → Type 0} {taken : List ℕ} {at_end failed write_failed : Type 0} {new : Option (List ℕ)} (end : ReplayEnd) → standing_new run.after.earlier
      → EndsWith (rest_of play head run.after.earlier) run.after.earlier (WantsHere play wants head run.after.earlier) taken at_end failed end → new ≡ append_known now waiting
      → EndsAs (rest_of play head []) standing_new (WantsAtLine play wants standing_new head) (run.goes.taken ++ taken) at_end failed old new write_failed end
  all_written end stands (reading.Told tells) whole =
      let last = ended run.after.earlier end in
      WroteAll (traced run.text last) (tells_after run.goes (λ p. p ≡ traced run.text last) (tells_traced run.text last tells)) refl
      (written_all run.gives whole ∙ ap (append_known old) (sym (append-nil run.text))) stands
  all_written {taken} end stands (reading.Wanted memory here) whole =
      Wanted run.text
      (Anyway (λ ending more. (
        (rest_of play head run.after.earlier ending (taken ++ more)).trace,
        ap (λ bytes. (rest_of play head [] ending bytes).trace) (append_assoc run.goes.taken taken more) ∙ ap (λ (p : Played Taken). p.trace) (run.goes.rest ending (taken ++ more)),
      )))
      memory (written_all run.gives whole)
      (record {
        earlier = run.after.earlier;
        stands = stands;
        front = run.goes.taken;
        line = here.line;
        text = here.text;
        parts = ap (λ t. run.goes.taken ++ t) here.parts ∙ sym (append_assoc run.goes.taken here.line (10 ∷ []));
        stood = stood play head run.after.earlier run.text run.goes;
        good = here.good;
        wants_more = here.wants_more;
      })

  -- the run ended, and all was written
  pub ends : {wants : Wants} {standing_new : Taken → Type 0} {left_new new : Option (List ℕ)} {failed write_failed : Type 0} (pieces : List ℕ) (end : ReplayEnd) → length pieces ≤ PIECE → standing_new run.after.earlier
      → Stops (rest_of play head run.after.earlier) run.after.earlier (WantsHere play wants head run.after.earlier) between (prepend_known pieces left_new) ((pieces ≡ []) × IsAtEnd left_new) ((pieces ≡ []) × failed) end
      → new ≡ append_known now waiting
      → Runs (rest_of play head []) standing_new (WantsAtLine play wants standing_new head) left left_new failed old new write_failed end
  ends {left_new} pieces end within stands stop whole = record {
    taken = run.goes.taken ++ stop.taken;
    waiting = pieces;
    takes = takes_after run.goes stop.taken (prepend_known pieces left_new) stop.takes ∙ sym (prepend_known-append (run.goes.taken ++ stop.taken) pieces left_new);
    needed = needed_after run.goes (needed_traced run.text stop.needed);
    within = within;
    ends = all_written end stands stop.stops whole;
  }

  -- the run ended, and not all was written
  pub ends_unwritten : {wants : Wants} {standing_new : Taken → Type 0} {wanted : List ℕ → List ℕ → Type 0} {left_new new : Option (List ℕ)} {at_end failed read_failed write_failed : Type 0} (pieces : List ℕ) (end : ReplayEnd) → length pieces ≤ PIECE
      → Stops (rest_of play head run.after.earlier) run.after.earlier (WantsHere play wants head run.after.earlier) between (prepend_known pieces left_new) at_end failed end
      → write_failed → AppendsFront now new waiting
      → Runs (rest_of play head []) standing_new wanted left left_new read_failed old new write_failed WriteFault
  ends_unwritten {left_new} pieces end within stop fails prefix = record {
    taken = run.goes.taken ++ stop.taken;
    waiting = pieces;
    takes = takes_after run.goes stop.taken (prepend_known pieces left_new) stop.takes ∙ sym (prepend_known-append (run.goes.taken ++ stop.taken) pieces left_new);
    needed = needed_after run.goes (needed_traced run.text stop.needed);
    within = within;
    ends =
        Unwritten run.text
        (Anyway (λ ending more. (
          (rest_of play head run.after.earlier ending (stop.taken ++ more)).trace,
          ap (λ bytes. (rest_of play head [] ending bytes).trace) (append_assoc run.goes.taken stop.taken more)
              ∙ ap (λ (p : Played Taken). p.trace) (run.goes.rest ending (stop.taken ++ more)),
        )))
        refl fails (written_prefix run.gives prefix);
  }

-- What was read of the next line, and what came of it. `head_now` is another name for the same number.
module _ {play : Play} {standing : Taken → Type 0} {head head_now count : ℕ} {left between old now : Option (List ℕ)} {waiting : List ℕ}
    (run : IsRunning play standing head count left between old now waiting) (same_head : head_now ≡ head)
    (what : LineRead) {line : List ℕ} (given : List ℕ) (same_line : given ≡ line) (inside : IsPartOfLine line) (short : length given ≤ 4096) where
  part_given : IsPartOfLine given
  part_given = subst IsPartOfLine (sym same_line) inside

  -- the world took it
  pub goes_at : {after : Option (List ℕ)} (text : List ℕ) → ReadsLine what line between after
      → ((earlier : Taken) → standing earlier → length earlier ≡ count → judged play head_now what earlier given ≡ Ok text)
      → GoesOn (rest_of play head run.after.earlier) (λ ending more. traced text (rest_of play head (given ∷ run.after.earlier) ending more)) between after
  goes_at {after} text reads is =
      read_goes play head run.after.earlier what given text part_given short (subst (λ (xs : List ℕ). ReadsLine what xs between after) (sym same_line) reads)
      (ap (λ (h : ℕ). judged play h what run.after.earlier given) (sym same_head)
      ∙ is run.after.earlier run.after.stands run.after.counted)

  -- the run ends there
  pub stops_here : {wants : Wants} {failed : Type 0} (pieces : List ℕ) (left_new : Option (List ℕ)) (end : ReplayEnd)
      → ReadsLine what line between (prepend_known pieces left_new) → IsDrainedLine what pieces → OnFailedLine what failed
      → ((earlier : Taken) → standing earlier → length earlier ≡ count → RefusesAt (judged play head_now what) wants earlier given end)
      → Stops (rest_of play head run.after.earlier) run.after.earlier (WantsHere play wants head run.after.earlier) between (prepend_known pieces left_new) ((pieces ≡ []) × IsAtEnd left_new) ((pieces ≡ []) × failed) end
  stops_here {wants} pieces left_new end reads drained cause refuses =
      read_stops play wants head run.after.earlier what given pieces left_new between end part_given short
      (subst (λ (xs : List ℕ). ReadsLine what xs between (prepend_known pieces left_new)) (sym same_line) reads) drained cause
      (subst (λ (h : ℕ). RefusesAt (judged play h what) wants run.after.earlier given end) same_head
      (refuses run.after.earlier run.after.stands run.after.counted))

-- the run ended, and what waited was written before, or a prefix of it
pub finishes : {play : Play} {wants : Wants} {standing standing_new : Taken → Type 0} {head count : ℕ} {left between old now left_new new : Option (List ℕ)} {waiting : List ℕ} {failed write_failed write_failed_before : Type 0}
    (run : IsRunning play standing head count left between old now waiting) (pieces : List ℕ) (end result : ReplayEnd) → length pieces ≤ PIECE → standing_new run.after.earlier → (write_failed_before → write_failed)
    → Stops (rest_of play head run.after.earlier) run.after.earlier (WantsHere play wants head run.after.earlier) between (prepend_known pieces left_new) ((pieces ≡ []) × IsAtEnd left_new) ((pieces ≡ []) × failed) end
    → Finishes end waiting now new write_failed_before result
    → Runs (rest_of play head []) standing_new (WantsAtLine play wants standing_new head) left left_new failed old new write_failed result
finishes {play} {wants} {standing} {standing_new} {head} {count} {left} {between} {old} {now} {left_new} {new} {waiting} {failed} {write_failed} run pieces end result within stands wider stop (Written is whole) =
    subst (λ (e : ReplayEnd). Runs (rest_of play head []) standing_new (WantsAtLine play wants standing_new head) left left_new failed old new write_failed e) (sym is) (ends run pieces end within stands stop whole)
finishes {play} {wants} {standing} {standing_new} {head} {count} {left} {between} {old} {now} {left_new} {new} {waiting} {failed} {write_failed} run pieces end result within stands wider stop (Cut is fails prefix) =
    subst (λ (e : ReplayEnd). Runs (rest_of play head []) standing_new (WantsAtLine play wants standing_new head) left left_new failed old new write_failed e) (sym is) (ends_unwritten run pieces end within stop (wider fails) prefix)

-- ---- a line that was left where it stands, once its bytes were passed over

module _ (next : NextLine) (what : LineRead) (same : what ≡ read_of next) (before passed : List ℕ) (is : passed ≡ drop (own_count next) before) where
  pub reads_passed : (between left : Option (List ℕ)) (line : List ℕ) → ReadsLine (read_of next) line between (prepend_known (drop (own_count next) before) left) → ReadsLine what line between (prepend_known passed left)
  reads_passed between left line reads =
      subst (λ (w : LineRead). ReadsLine w line between (prepend_known passed left)) (sym same)
      (subst (λ (p : List ℕ). ReadsLine (read_of next) line between (prepend_known p left)) (sym is) reads)

  pub failed_passed : (failed : Type 0) → OnFailedLine (read_of next) failed → OnFailedLine what failed
  failed_passed failed cause = subst (λ (w : LineRead). OnFailedLine w failed) (sym same) cause

drained_after : (next : NextLine) (before : List ℕ) → IsDrainedLine (read_of next) before → IsDrainedLine (read_of next) (drop (own_count next) before)
drained_after (next.Waits count) before drained = tt
drained_after (next.Copied how) before drained = drained

pub drained_passed : (next : NextLine) (what : LineRead) → what ≡ read_of next → (before passed : List ℕ) → passed ≡ drop (own_count next) before → IsDrainedLine (read_of next) before → IsDrainedLine what passed
drained_passed next what same before passed is drained =
    subst (λ (w : LineRead). IsDrainedLine w passed) (sym same) (subst (λ (p : List ℕ). IsDrainedLine (read_of next) p) (sym is) (drained_after next before drained))

-- no more bytes wait than before
pub within_passed : (next : NextLine) (before passed : List ℕ) → passed ≡ drop (own_count next) before → length before ≤ PIECE → length passed ≤ PIECE
within_passed next before passed is within = subst (λ (p : List ℕ). length p ≤ PIECE) (sym is) (let short = length-drop (own_count next) before in omega (arith, short, within))

-- Laws of replays, whatever their head and their world are: how their end fits the end of the input, and the joining of a head and the
-- run after it.
use Rattle.std.proofs.Common.{◌≡◌, ◌≢◌, ◌≤◌, ◌==◌, ℕ, Bool, true, false, cond, List, [], ◌∷◌, ◌++◌, length, None, Option, Some, Result, Ok, Err, IfErr, refl, sym, ap, ◌∙◌, subst, append_assoc, nat_lt, arith}
use Rattle.std.proofs.lemmas.Bool.Decides.{nat_tests}
use Rattle.std.specs.Io.KnownBytes.{IsAtEnd, prepend_known}
use Rattle.qn_base.specs.declared.limits.TheConstants.{MOST_EVENTS, MOST_LINE_BYTES}
use Rattle.qn_io.specs.declared.buffered.TheConstants.{PIECE}
use Rattle.qn_io.specs.Outside.{prepend_known-nil}
use Rattle.qn_model.specs.declared.line_fault.LineFault.TheVariants.{TooLong, TooMany}
use Rattle.qn_model.specs.Lines.{Ending, Ended, lines_of}
use Rattle.qn_playback.specs.Endings.{FitsWith, fits_beside, played_fits}
use Rattle.qn_playback.specs.GoodLines.{good_line, line_of-ok, said_event-is}
use Rattle.qn_playback.specs.Lines.{Taken, bad_line, line_of, rest_of}
use Rattle.qn_playback.specs.Played.{Played, go_on, standing_at}
use Rattle.qn_playback.specs.Reading.{Anywhere, GoesOn, Stops, placed}
use Rattle.qn_playback.specs.RunLaws.{runs_after_head, runs_in_head, runs_wider}
use Rattle.qn_playback.specs.Runs.{Runs, WantsAtLine}
use Rattle.qn_playback.specs.Steps.{stops_wanted}
use Rattle.qn_playback.specs.WorldLaws.{event_play_fits}
use Rattle.qn_playback.specs.Worlds.{Progress, adds}
use Rattle.qn_sched.specs.declared.replay_end.ReplayEnd.{ReplayEnd}
use Rattle.qn_sched.specs.declared.replay_end.ReplayEnd.TheVariants.{Done, NoMemory}
use Rattle.qn_playback.specs.PartLaws.{run_needed, stops_in_part}
use Rattle.qn_playback.specs.Parts.{Given, Gives, Refuses}
use Rattle.qn_playback.specs.Replays.{AtEvent, AtHead, ReplayKind, Replays, WantsAt, WantsMemory, after_head, answer_of, place_after, play_after, start_after, stood_after, wants_after}

-- no line waits before the first one is read
pub unread : (P : Option (List ℕ) → Type 0) (pieces : List ℕ) (left : Option (List ℕ)) → pieces ≡ [] → P (prepend_known pieces left) → P left
unread P pieces left none holds = subst P (ap (λ p. prepend_known p left) none ∙ prepend_known-nil left) holds

-- a line that was taken is within the bounds of every input
record WithinBounds (earlier : Taken) (line : List ℕ) : Type 0 where
  short : nat_lt MOST_LINE_BYTES (length line) ≡ false
  few : (length earlier == MOST_EVENTS) ≡ false

bounds_of : (long many : Bool) (too_long too_many : ReplayEnd) (text : List ℕ) (played : Result (List ℕ) ReplayEnd)
    → cond long (Err too_long) (cond many (Err too_many) played) ≡ Ok text → (long ≡ false) × (many ≡ false)
bounds_of true many too_long too_many text played is = absurd cc
bounds_of false true too_long too_many text played is = absurd cc
bounds_of false false too_long too_many text played is = (refl, refl)

short_enough : (line : List ℕ) → nat_lt MOST_LINE_BYTES (length line) ≡ false → length line ≤ MOST_LINE_BYTES
short_enough line is = grind (arith, nat_tests)

not_many : (count : ℕ) → (count == MOST_EVENTS) ≡ false → count ≢ MOST_EVENTS
not_many count is same = grind (arith, nat_tests)

module _ {Head World Event : Type 0} (kind : ReplayKind Head World Event) where
  -- ---- ends

  given_fits : (leased : Type 0) (ending : Ending) (given : Given Head) → IfErr given (λ end. FitsWith leased end ending)
      → FitsWith leased (go_on None given (λ g. after_head kind g.0 ending g.1)).end ending
  given_fits leased ending (Ok given) fits =
      fits_beside leased _ ending (played_fits (play_after kind given.0) (event_play_fits (kind.rules given.0) (start_after kind given.0)) (kind.lines given.0) [] ending given.1)
  given_fits leased ending (Err end) fits = fits

  -- where the end of each head fits the way in which the input ended, that of each replay does
  pub answer_fits : (leased : Type 0) → ((ending : Ending) (bytes : List ℕ) → IfErr (kind.head_part ending bytes) (λ end. FitsWith leased end ending))
      → (ending : Ending) (bytes : List ℕ) → FitsWith leased (answer_of kind ending bytes).end ending
  answer_fits leased heads ending bytes = given_fits leased ending (kind.head_part ending bytes) (heads ending bytes)

  -- ---- a replay that ended before its first line

  -- what a replay answers after a good head
  answers_on : {a b : Option (List ℕ)} (head : Head) (given : Gives kind.head_part head a b) (ending : Ending) (more : List ℕ)
      → answer_of kind ending (given.taken ++ more) ≡ placed (stood_after kind head) (rest_of (play_after kind head) (kind.lines head) []) ending more
  answers_on head given ending more = ap (λ g. go_on None g (λ v. after_head kind v.0 ending v.1)) (given.rest ending more)

  -- the head was good, and the lines after it are played
  abbrev goes_to_lines : {a b : Option (List ℕ)} (head : Head) → Gives kind.head_part head a b
      → GoesOn (answer_of kind) (placed (stood_after kind head) (rest_of (play_after kind head) (kind.lines head) [])) a b
  goes_to_lines head given = record {
    taken = given.taken;
    takes = given.takes;
    needed = run_needed None kind.head_part (after_head kind) given.needed;
    rest = answers_on head given;
  }

  -- the head was refused
  pub stops_in_head : {a b : Option (List ℕ)} {at_end failed : Type 0} {end : ReplayEnd} → Refuses kind.head_part a b at_end failed end
      → Stops (answer_of kind) None Anywhere a b at_end failed end
  stops_in_head refused = stops_in_part None kind.head_part (after_head kind) refused

  -- there was no memory for the world of a good head
  pub stops_without_world : {a b : Option (List ℕ)} {at_end failed : Type 0} (head : Head) → Gives kind.head_part head a b
      → Stops (answer_of kind) None Anywhere a b at_end failed NoMemory
  stops_without_world head given = stops_wanted NoMemory (goes_to_lines head given) refl tt

  -- nothing was written
  pub ends_in_head : {left left_new old : Option (List ℕ)} {failed write_failed : Type 0} (pieces waiting : List ℕ) → pieces ≡ [] → length waiting ≤ PIECE → (end : ReplayEnd)
      → Stops (answer_of kind) None Anywhere (prepend_known pieces left) (prepend_known waiting left_new) ((waiting ≡ []) × IsAtEnd left_new) ((waiting ≡ []) × failed) end
      → Replays kind left left_new failed old old write_failed end
  ends_in_head {left} {left_new} {old} {failed} pieces waiting none within end stop =
      runs_in_head None left left_new old waiting end tt (λ taken. AtHead refl) within
      (unread (λ (l : Option (List ℕ)). Stops (answer_of kind) None Anywhere l (prepend_known waiting left_new) ((waiting ≡ []) × IsAtEnd left_new) ((waiting ≡ []) × failed) end) pieces left none stop)

  -- ---- out of memory for a line

  module _ {a b : Option (List ℕ)} (head : Head) (given : Gives kind.head_part head a b)
      (standing : Taken → Type 0) (counts : (earlier : Taken) → standing earlier → (place_after kind head earlier).events ≡ length earlier) where
    wants_at : (earlier : Taken) (line text : List ℕ) → standing earlier → line_of (play_after kind head) (kind.lines head) earlier line ≡ Ok text
        → wants_after kind head earlier line ≡ true → WantsAt (kind.rules head) (place_after kind head earlier) (line ++ 10 ∷ [])
    unfolding line_of
    wants_at earlier line text stands is wants =
        let rules = kind.rules head in
        let so_far = place_after kind head earlier in
        let good = good_line rules so_far line text (line_of-ok (play_after kind head) (kind.lines head) earlier line text is) in
        let bounds = bounds_of (nat_lt MOST_LINE_BYTES (length line)) (length earlier == MOST_EVENTS) (bad_line (kind.lines head) earlier TooLong) (bad_line (kind.lines head) earlier TooMany)
        text (play_after kind head earlier line) is in
        record {
          line = line;
          event = good.event;
          parts = refl;
          short = short_enough line bounds.0;
          few = not_many so_far.events (ap (λ (n : ℕ). n == MOST_EVENTS) (counts earlier stands) ∙ bounds.1);
          said = good.said;
          allowed = good.allowed;
          wants = ap (adds rules so_far) (sym (said_event-is rules so_far line good.event good.said)) ∙ wants;
        }

    -- the line after those whose trace was written wants memory
    wants_memory : (taken trace : List ℕ) → WantsAtLine (play_after kind head) (wants_after kind head) standing (kind.lines head) taken trace
        → WantsMemory kind (given.taken ++ taken) trace
    wants_memory taken trace wanted =
        let so_far = place_after kind head wanted.earlier in
        AtEvent head (lines_of wanted.front) so_far (given.taken ++ wanted.front) (wanted.line ++ 10 ∷ [])
        (ap (λ t. given.taken ++ t) (wanted.parts ∙ append_assoc wanted.front wanted.line (10 ∷ [])) ∙ sym (append_assoc given.taken wanted.front (wanted.line ++ 10 ∷ [])))
        (given.rest Ended wanted.front)
        (answers_on head given Ended wanted.front ∙ ap (standing_at (stood_after kind head)) wanted.stood
        ∙ ap (λ (n : ℕ). let whole : Played (Option (Progress World)) = record { trace = trace; end = Done n; last = Some so_far } in whole) (sym (counts wanted.earlier wanted.stands)))
        (wants_at wanted.earlier wanted.line wanted.text wanted.stands wanted.good wanted.wants_more)

  -- ---- a replay that went on after its head

  pub runs_on : {places : Option (Progress World) → Type 0} {left between left_new old new : Option (List ℕ)} {failed wider write_failed : Type 0} {end : ReplayEnd} (head : Head) (pieces : List ℕ) → pieces ≡ []
      → Gives kind.head_part head (prepend_known pieces left) between
      → (standing : Taken → Type 0) → ((earlier : Taken) → standing earlier → (place_after kind head earlier).events ≡ length earlier)
      → ((earlier : Taken) → standing earlier → places (stood_after kind head earlier)) → (failed → wider)
      → Runs (rest_of (play_after kind head) (kind.lines head) []) standing (WantsAtLine (play_after kind head) (wants_after kind head) standing (kind.lines head))
      between left_new failed old new write_failed end
      → Runs (answer_of kind) places (WantsMemory kind) left left_new wider old new write_failed end
  runs_on {left = left} {between = between} head pieces none given standing counts stands widen run =
      let first = unread (λ (l : Option (List ℕ)). Gives kind.head_part head l between) pieces left none given in
      runs_wider widen (λ fails. fails) (runs_after_head (stood_after kind head) (goes_to_lines head first) stands (wants_memory head first standing counts) run)

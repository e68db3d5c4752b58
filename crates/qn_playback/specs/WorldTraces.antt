-- The trace of the lines that a world takes is that of a run of the world, whose events are each allowed in its turn.
use Rattle.std.proofs.Common.{◌≡◌, ◌+◌, ℕ, Bool, true, List, [], ◌∷◌, ◌++◌, None, Result, Ok, Err, length, refl, sym, ap, ◌∙◌, append_assoc, append-nil, arith}
use Rattle.qn_model.specs.declared.configuration.Settings.{Settings}
use Rattle.qn_model.specs.declared.times.Timing.{Timing}
use Rattle.qn_model.specs.Lines.{Ending}
use Rattle.qn_model.specs.Settings.{ids}
use Rattle.qn_sched.specs.declared.replay_end.ReplayEnd.{ReplayEnd}
use Rattle.qn_playback.specs.GoodLines.{good_line, line_of-ok, said_event-is}
use Rattle.qn_playback.specs.Lines.{Taken, line_of, played}
use Rattle.qn_playback.specs.Played.{Played, go_on, traced}
use Rattle.qn_playback.specs.Worlds.{Progress, WorldRules, after_line, after_lines, at_start, event_play, event_text, moved_on, said_event, text_of, with_event}

module _ {World Event : Type 0} (rules : WorldRules World Event) (is_formed : Settings → Event → Bool) where
  -- the world after events, of which the newest stands first
  unfoldable pub world_after : Settings → Timing → List Event → World
  world_after s t [] = rules.first
  world_after s t (event ∷ earlier) = rules.step s t event (world_after s t earlier)

  -- each of the events is well formed and allowed in its turn
  unfoldable pub AllAllowedIn : Settings → Timing → List Event → Type 0
  AllAllowedIn s t [] = Unit {0}
  AllAllowedIn s t (event ∷ earlier) =
      (is_formed s event ≡ true) × (rules.refusal s t event (world_after s t earlier) ≡ None) × AllAllowedIn s t earlier

  -- the trace lines of the events, each with its end
  unfoldable pub lines_after : Settings → Timing → List Event → List ℕ
  lines_after s t [] = []
  lines_after s t (event ∷ earlier) =
      lines_after s t earlier
      ++ (rules.text s (length earlier + 1) event (world_after s t earlier) (world_after s t (event ∷ earlier)) ++ 10 ∷ [])

  -- the trace is that of events that are each allowed
  pub record IsRunOf (s : Settings) (t : Timing) (trace : List ℕ) : Type 0 where
    pub events : List Event
    pub allowed : AllAllowedIn s t events
    pub lines : trace ≡ lines_after s t events

  -- where a run stands after events
  abbrev place_after : Settings → Timing → ℕ → ℕ → List Event → Progress World
  place_after s t lines count events = record { settings = s; timing = t; lines = lines; events = count; world = world_after s t events }

  -- a run stands after these events
  record Reached (s : Settings) (t : Timing) (so_far : Progress World) (events : List Event) : Type 0 where
    lines : ℕ
    count : ℕ
    counted : count ≡ length events
    place : so_far ≡ place_after s t lines count events

  -- a rest of a trace, after events, that goes on to further events
  record GoesOnWith (s : Settings) (t : Timing) (events : List Event) (rest : List ℕ) : Type 0 where
    all : List Event
    allowed : AllAllowedIn s t all
    lines : lines_after s t events ++ rest ≡ lines_after s t all

  nothing_more : (s : Settings) (t : Timing) (events : List Event) → AllAllowedIn s t events → GoesOnWith s t events []
  nothing_more s t events allowed = record { all = events; allowed = allowed; lines = append-nil (lines_after s t events) }

  -- one event more
  module _ (s : Settings) (t : Timing) (lines count : ℕ) (events : List Event) (counted : count ≡ length events) (event : Event) where
    next_place : with_event rules (place_after s t lines count events) event ≡ place_after s t (lines + 1) (count + 1) (event ∷ events)
    unfolding with_event world_after
    next_place = refl

    text_is : event_text rules (place_after s t lines count events) event
        ≡ rules.text s (length events + 1) event (world_after s t events) (world_after s t (event ∷ events)) ++ 10 ∷ []
    unfolding event_text world_after
    text_is = ap (λ (n : ℕ). rules.text s (n + 1) event (world_after s t events) (world_after s t (event ∷ events)) ++ 10 ∷ []) counted

    one_more : (text rest : List ℕ) → text ≡ event_text rules (place_after s t lines count events) event → GoesOnWith s t (event ∷ events) rest → GoesOnWith s t events (text ++ rest)
    unfolding lines_after
    one_more text rest is goes = record {
      all = goes.all;
      allowed = goes.allowed;
      lines = sym (append_assoc (lines_after s t events) text rest) ∙ ap (λ more. (lines_after s t events ++ more) ++ rest) (is ∙ text_is) ∙ goes.lines;
    }

  module _ (s : Settings) (t : Timing) (formed : (line : List ℕ) (event : Event) → rules.event_of (ids s.nodes) line ≡ Ok event → is_formed s event ≡ true)
      (start : Progress World) (head : ℕ) where
    -- a line that was taken is one event more
    line_goes : (earlier : Taken) (events : List Event) → Reached s t (after_lines rules start earlier) events → AllAllowedIn s t events → (line : List ℕ) (judged : Result (List ℕ) ReplayEnd)
        → line_of (event_play rules start) head earlier line ≡ judged → (rest : Played Taken)
        → ((event : Event) → Reached s t (after_lines rules start (line ∷ earlier)) (event ∷ events) → AllAllowedIn s t (event ∷ events) → GoesOnWith s t (event ∷ events) rest.trace)
        → GoesOnWith s t events (go_on earlier judged (λ text. traced text rest)).trace
    unfolding after_lines AllAllowedIn
    line_goes earlier events reached allowed line (Ok text) is rest goes =
        let here = place_after s t reached.lines reached.count events in
        let plays = ap (λ (p : Progress World). text_of rules p (said_event rules p line)) (sym reached.place)
        ∙ line_of-ok (event_play rules start) head earlier line text is in
        let good = good_line rules here line text plays in
        let counted = reached.counted in
        one_more s t reached.lines reached.count events reached.counted good.event text rest.trace good.is_text
        (goes good.event
        (record {
          lines = reached.lines + 1;
          count = reached.count + 1;
          counted = omega (arith, counted);
          place =
              ap (λ (p : Progress World). after_line rules p line) reached.place
              ∙ ap (moved_on rules here) (said_event-is rules here line good.event good.said)
              ∙ next_place s t reached.lines reached.count events reached.counted good.event;
        })
        (formed line good.event good.said, good.allowed, allowed))
    line_goes earlier events reached allowed line (Err end) is rest goes = nothing_more s t events allowed

    lines_go : (ending : Ending) (earlier : Taken) (events : List Event) → Reached s t (after_lines rules start earlier) events → AllAllowedIn s t events → (lines : List (List ℕ))
        → GoesOnWith s t events (played (event_play rules start) head earlier ending lines).trace
    lines_go ending earlier events reached allowed [] = nothing_more s t events allowed
    lines_go ending earlier events reached allowed (rest ∷ []) = nothing_more s t events allowed
    lines_go ending earlier events reached allowed (line ∷ next ∷ lines) =
        line_goes earlier events reached allowed line (line_of (event_play rules start) head earlier line) refl
        (played (event_play rules start) head (line ∷ earlier) ending (next ∷ lines))
        (λ event further may. lines_go ending (line ∷ earlier) (event ∷ events) further may (next ∷ lines))

  -- so it is after a head of so many lines
  pub trace_is_run : (s : Settings) (t : Timing) (head : ℕ) → ((line : List ℕ) (event : Event) → rules.event_of (ids s.nodes) line ≡ Ok event → is_formed s event ≡ true)
      → (ending : Ending) (lines : List (List ℕ)) → IsRunOf s t (played (event_play rules (at_start rules s t head)) head [] ending lines).trace
  unfolding after_lines AllAllowedIn world_after lines_after
  trace_is_run s t head formed ending lines =
      let start : Reached s t (at_start rules s t head) [] = record { lines = head; count = 0; counted = refl; place = refl } in
      let goes = lines_go s t formed (at_start rules s t head) head ending [] [] start tt lines in
      record { events = goes.all; allowed = goes.allowed; lines = goes.lines }

-- Laws of worlds that take the lines of a schedule as events.
use Rattle.std.proofs.Common.{◌≡◌, ◌+◌, ◌++◌, ℕ, true, List, [], ◌∷◌, Option, None, Some, Result, Ok, Err, IfErr, refl, sym, ap, ◌∙◌, arith}
use Rattle.qn_model.specs.declared.configuration.Settings.{Settings}
use Rattle.qn_model.specs.declared.line_fault.LineFault.{LineFault}
use Rattle.qn_model.specs.declared.reports.Refused.{Refused}
use Rattle.qn_model.specs.declared.reports.Refused.TheVariants as refused
use Rattle.qn_model.specs.declared.times.Timing.{Timing}
use Rattle.qn_model.specs.Lines.{Ending}
use Rattle.qn_model.specs.Settings.{ids}
use Rattle.qn_playback.specs.Endings.{EndFits, PlayFits}
use Rattle.qn_playback.specs.Judging as judging
use Rattle.qn_playback.specs.Judging.{RefusesAt}
use Rattle.qn_playback.specs.Lines.{Taken}
use Rattle.qn_sched.specs.declared.replay_end.ReplayEnd.{ReplayEnd}
use Rattle.qn_sched.specs.declared.replay_end.ReplayEnd.TheVariants.{BadSchedule}
use Rattle.qn_playback.specs.Worlds.{AtFault, IsAfter, IsGoing, NotAllowedHere, OutOfMemory, Place, Progress, RefusesLine, TakesLine, WorldRules, adds, after_line, after_lines, allowed_in, event_play, event_text, event_wants, moved_on, or_bad_line, progress_at, refused_end, said_event, start_of, stepped, text_if, text_of, unless_refused, with_event}

abbrev refused_with : {Event : Type 0} → ReplayEnd → Result Event ReplayEnd
refused_with end = Err end

-- what a world of the code refused, by the rule that refuses it
abbrev pub RefusedBy : Option ℕ → Refused → Type 0
RefusedBy rule (refused.NotAllowed number) = rule ≡ Some number.0
RefusedBy rule refused.NoMemory = rule ≡ None

module _ {World Event : Type 0} (rules : WorldRules World Event) where
  -- ---- the ends of lines

  said_fits : (number : ℕ) (said : Result Event LineFault) (ending : Ending) → IfErr (or_bad_line number said) (λ end. EndFits end ending)
  said_fits number (Ok event) ending = tt
  said_fits number (Err fault) ending = tt

  rule_fits : (number : ℕ) (event : Event) (rule : Option ℕ) (ending : Ending) → IfErr (unless_refused number event rule) (λ end. EndFits end ending)
  rule_fits number event None ending = tt
  rule_fits number event (Some rule) ending = tt

  allowed_fits : (so_far : Progress World) (event : Event) (ending : Ending) → IfErr (allowed_in rules so_far event) (λ end. EndFits end ending)
  unfolding allowed_in
  allowed_fits so_far event ending = rule_fits (so_far.lines + 1) event (rules.refusal so_far.settings so_far.timing event so_far.world) ending

  if_fits : (so_far : Progress World) (allowed : Result Event ReplayEnd) (ending : Ending) → IfErr allowed (λ end. EndFits end ending) → IfErr (text_if rules so_far allowed) (λ end. EndFits end ending)
  if_fits so_far (Ok event) ending fits = tt
  if_fits so_far (Err end) ending fits = fits

  text_fits : (so_far : Progress World) (said : Result Event ReplayEnd) (ending : Ending) → IfErr said (λ end. EndFits end ending) → IfErr (text_of rules so_far said) (λ end. EndFits end ending)
  text_fits so_far (Ok event) ending fits = if_fits so_far (allowed_in rules so_far event) ending (allowed_fits so_far event ending)
  text_fits so_far (Err end) ending fits = fits

  -- the end of each line that the world refuses fits
  pub event_play_fits : (start : Progress World) → PlayFits (event_play rules start)
  event_play_fits start earlier line ending =
      let so_far = after_lines rules start earlier in
      text_fits so_far (said_event rules so_far line) ending (said_fits (so_far.lines + 1) (rules.event_of (ids so_far.settings.nodes) line) ending)

  -- ---- the rules

  pub allowed_in-is : (so_far : Progress World) (event : Event) (rule : Option ℕ) → rules.refusal so_far.settings so_far.timing event so_far.world ≡ rule
      → allowed_in rules so_far event ≡ unless_refused (so_far.lines + 1) event rule
  unfolding allowed_in
  allowed_in-is so_far event rule is = ap (unless_refused (so_far.lines + 1) event) is

  -- the event of a line, as it was read with settings that are those of the world
  pub said_as : (old : Place) (world : World) (line : List ℕ) {settings : Settings} (said : Result Event LineFault) → settings ≡ old.settings
      → rules.event_of (ids settings.nodes) line ≡ said → said_event rules (progress_at old world) line ≡ or_bad_line (old.head + old.events + 1) said
  said_as old world line said same is =
      ap (or_bad_line (old.head + old.events + 1)) (ap (λ (s : Settings). rules.event_of (ids s.nodes) line) (sym same) ∙ is)

  -- a line at fault
  pub refuses_fault : (old : Place) (world : World) (line : List ℕ) {settings : Settings} (fault : LineFault) (end : ReplayEnd) → settings ≡ old.settings
      → rules.event_of (ids settings.nodes) line ≡ Err fault → end ≡ BadSchedule (old.head + old.events + 1) fault → RefusesLine rules old line end world
  refuses_fault old world line fault end same is ends = AtFault (said_as old world line (Err fault) same is ∙ ap refused_with (sym ends))

  -- an event that the world refused
  pub refuses_event : (old : Place) (line : List ℕ) (event : Event) (world : World) (why : Refused) (end : ReplayEnd) → said_event rules (progress_at old world) line ≡ Ok event
      → RefusedBy (rules.refusal old.settings old.timing event world) why
      → (why ≡ refused.NoMemory → rules.needs_memory old.settings old.timing event world ≡ true) → end ≡ refused_end (old.head + old.events + 1) why → RefusesLine rules old line end world
  refuses_event old line event world (refused.NotAllowed rule) end is by memory ends =
      NotAllowedHere event is (allowed_in-is (progress_at old world) event (Some rule.0) by ∙ ap refused_with (sym ends))
  refuses_event old line event world refused.NoMemory end is by memory ends =
      OutOfMemory event is (allowed_in-is (progress_at old world) event None by) (memory refl) ends

  -- ---- one line more

  -- a place with one more event is that of one more line
  pub moved_to : (old new : Place) (event : Event) (world : World) → new.settings ≡ old.settings → new.timing ≡ old.timing
      → new.head ≡ old.head → new.events ≡ old.events + 1
      → progress_at new (stepped rules (progress_at old world) event) ≡ with_event rules (progress_at old world) event
  unfolding with_event
  moved_to old new event world settings timing head events =
      let next = stepped rules (progress_at old world) event in
      let made : Settings → Timing → ℕ → ℕ → Progress World = λ s t l n. record { settings = s; timing = t; lines = l; events = n; world = next } in
      let lines : new.head + new.events ≡ old.head + old.events + 1 = omega (arith, head, events) in
      ap (λ s. made s new.timing (new.head + new.events) new.events) settings
      ∙ ap (λ t. made old.settings t (new.head + new.events) new.events) timing
      ∙ ap (λ l. made old.settings old.timing l new.events) lines
      ∙ ap (λ n. made old.settings old.timing (old.head + old.events + 1) n) events

  -- no line was taken
  pub begins_after : (place : Place) (standing : World → Type 0) → standing rules.first → place.events ≡ 0 → IsGoing place → IsAfter rules place place standing []
  unfolding after_lines
  begins_after place standing stands none going =
      let lines : place.head ≡ place.head + place.events = omega (arith, none) in
      let made : ℕ → ℕ → Progress World = λ l n. record { settings = place.settings; timing = place.timing; lines = l; events = n; world = rules.first } in
      record {
        world = rules.first;
        stands = stands;
        going = going;
        counted = sym none;
        place_is = ap (λ (l : ℕ). made l 0) lines ∙ ap (made (place.head + place.events)) (sym none);
      }

  -- an event and its rules give its trace line
  text_of-ok : (so_far : Progress World) (line : List ℕ) (event : Event) → said_event rules so_far line ≡ Ok event → allowed_in rules so_far event ≡ Ok event
      → text_of rules so_far (said_event rules so_far line) ≡ Ok (event_text rules so_far event)
  text_of-ok so_far line event is may = ap (text_of rules so_far) is ∙ ap (text_if rules so_far) may

  -- the trace line of what an event came to
  text_is : (old new : Place) (standing : World → Type 0) (text line : List ℕ) (world : World) (taken : TakesLine rules old new standing text line world)
      → event_text rules (progress_at old world) taken.event ≡ text ++ 10 ∷ []
  unfolding event_text
  text_is old new standing text line world taken =
      ap (λ (n : ℕ). rules.text old.settings n taken.event world (stepped rules (progress_at old world) taken.event) ++ 10 ∷ []) (sym taken.counted)
      ∙ ap (λ (t : List ℕ). t ++ 10 ∷ []) (sym taken.says)

  module _ (start old : Place) (standing : World → Type 0) (line : List ℕ) (earlier : Taken) (after : IsAfter rules start old standing earlier) where
    -- the text of a line that was taken
    pub plays : (new : Place) (standing_new : World → Type 0) (text : List ℕ) → TakesLine rules old new standing_new text line after.world
        → event_play rules (start_of rules start) earlier line ≡ Ok (text ++ 10 ∷ [])
    plays new standing_new text taken =
        ap (λ (so_far : Progress World). text_of rules so_far (said_event rules so_far line)) after.place_is
        ∙ text_of-ok (progress_at old after.world) line taken.event taken.said taken.allowed
        ∙ ap (λ t. Ok t) (text_is old new standing_new text line after.world taken)

    -- the place after it
    pub stands_on : (new : Place) (standing_new : World → Type 0) (text : List ℕ) → TakesLine rules old new standing_new text line after.world → IsAfter rules start new standing_new (line ∷ earlier)
    unfolding after_lines
    stands_on new standing_new text taken =
        let counted = after.counted in
        let one_more = taken.counted in
        record {
          world = stepped rules (progress_at old after.world) taken.event;
          stands = taken.stands;
          going = taken.going;
          counted = omega (arith, counted, one_more);
          place_is =
              ap (λ (so_far : Progress World). after_line rules so_far line) after.place_is
              ∙ ap (moved_on rules (progress_at old after.world)) taken.said
              ∙ sym taken.moved;
        }

    -- a line that was not taken
    pub refuses_line : (end : ReplayEnd) → RefusesLine rules old line end after.world
        → RefusesAt (event_play rules (start_of rules start)) (event_wants rules (start_of rules start)) earlier line end
    refuses_line end (AtFault is) =
        judging.AtFault
        (ap (λ (so_far : Progress World). text_of rules so_far (said_event rules so_far line)) after.place_is
        ∙ ap (text_of rules (progress_at old after.world)) is)
    refuses_line end (NotAllowedHere event is refused) =
        judging.AtFault
        (ap (λ (so_far : Progress World). text_of rules so_far (said_event rules so_far line)) after.place_is
        ∙ ap (text_of rules (progress_at old after.world)) is ∙ ap (text_if rules (progress_at old after.world)) refused)
    refuses_line end (OutOfMemory event is may wants memory) =
        judging.OutOfMemory (event_text rules (progress_at old after.world) event)
        (ap (λ (so_far : Progress World). text_of rules so_far (said_event rules so_far line)) after.place_is
        ∙ text_of-ok (progress_at old after.world) line event is may)
        (ap (λ (so_far : Progress World). adds rules so_far (said_event rules so_far line)) after.place_is
        ∙ ap (adds rules (progress_at old after.world)) is ∙ wants)
        memory

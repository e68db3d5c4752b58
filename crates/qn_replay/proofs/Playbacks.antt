-- A playback, the lines that it takes, and where it stands.
use Rattle.std.specs.Io.KnownBytes.{prepend_known}
use Rattle.std.proofs.Common.{◌≡◌, ◌+◌, ◌++◌, ◌<◌, ◌≤◌, ℕ, Bool, true, false, List, [], ◌∷◌, None, Option, Some, Result, Ok, refl, sym, ap, ◌∙◌, subst, arith}
use Rattle.qn_playback.specs.Parts.{Gives}
use Rattle.qn_playback.specs.ReplayLaws as replays
use Rattle.qn_playback.specs.Replays.{ReplayKind, WantsMemory, answer_of, place_after, start_after}
use Rattle.qn_model.specs.declared.configuration.Settings.{Settings}
use Rattle.qn_model.specs.declared.times.Timing.{Timing}
use Rattle.qn_model.specs.Settings.{ids}
use Rattle.qn_playback.specs.Judging.{RefusesAt}
use Rattle.qn_playback.specs.Lines.{Taken, rest_of}
use Rattle.qn_playback.specs.Runs.{Runs, WantsAtLine}
use Rattle.qn_playback.specs.WorldLaws as laws
use Rattle.qn_playback.specs.Worlds.{AtFault, IsAfter, IsGoing, NotAllowedHere, OutOfMemory, Place, Progress, RefusesLine, TakesLine, WorldRules, after_lines, allowed_in, at_start, event_play, event_wants, progress_at, with_event}
use Rattle.qn_sched.specs.declared.replay_end.ReplayEnd.{ReplayEnd}
use Rattle.qn_replay.specs.declared.playback.Playback.{Playback}
use Rattle.qn_replay.specs.EventWorlds.{EventWorld, after_event, line_if, rule_of, text_of_event, traced_if}
use Rattle.qn_replay.specs.Playing.{HasPlayed, Refuses, Takes, last_line, place_at, play_from, rules_of, start_at, wants_from}

abbrev text_is : List ℕ → Result (List ℕ) ReplayEnd
text_is text = Ok text

-- ---- a trace that is kept or not

module _ {World Event : Type 0} (rules : WorldRules World Event) where
  -- a line that was taken was so whether or not the trace is kept
  pub takes_if : (traced : Bool) (old new : Place) (standing : World → Type 0) (text line : List ℕ) (world : World) → TakesLine rules old new standing text line world
      → TakesLine (traced_if traced rules) old new standing (line_if traced text) line world
  unfolding allowed_in with_event
  takes_if true old new standing text line world taken = taken
  takes_if false old new standing text line world taken = record {
    event = taken.event;
    said = taken.said;
    allowed = taken.allowed;
    stands = taken.stands;
    going = taken.going;
    counted = taken.counted;
    moved = taken.moved;
    says = refl;
  }

  -- and one that was not taken was not
  pub refuses_if : (traced : Bool) (old : Place) (line : List ℕ) (end : ReplayEnd) (world : World) → RefusesLine rules old line end world
      → RefusesLine (traced_if traced rules) old line end world
  unfolding allowed_in
  refuses_if true old line end world refused = refused
  refuses_if false old line end world (AtFault is) = AtFault is
  refuses_if false old line end world (NotAllowedHere event is refused) = NotAllowedHere event is refused
  refuses_if false old line end world (OutOfMemory event is may wants memory) = OutOfMemory event is may wants memory

  -- the line that is shown is the one that is told, where the trace is kept
  told_if : (traced : Bool) (shown told : List ℕ) → (traced ≡ true → shown ≡ told) → line_if traced told ≡ line_if traced shown
  told_if true shown told same = sym (same refl)
  told_if false shown told same = refl

  first_if : (traced : Bool) → (traced_if traced rules).first ≡ rules.first
  first_if true = refl
  first_if false = refl

module _ {Kept World Event Report Head : Type 0} (kind : EventWorld Kept World Event Report) where
  -- ---- an event more

  module _ (old : Playback Kept Event Report Head) (world_new : Kept) (event : Event) (report : Report) where
    -- the playback after an event
    abbrev next : Playback Kept Event Report Head
    next = record old { world = world_new; event = event; report = report; events = old.events + 1 }

    going_on : IsGoing (place_at kind old) → old.events < 200000 → kind.steps world_new + 1 ≡ kind.steps old.world → kind.time world_new ≤ kind.time old.world + 1000000000 → IsGoing (place_at kind next)
    going_on going few steps later =
        let numbered = going.numbered in
        let left = going.steps in
        let early = going.early in
        record {
          few = omega (arith, few);
          numbered = omega (arith, numbered);
          steps = omega (arith, left, steps);
          early = omega (arith, early, later);
        }

    -- the event of a line happened
    pub takes_event : (line : List ℕ) (world : World) → IsGoing (place_at kind old) → old.events < 200000
        → (kind.rules old.world).event_of (ids (kind.settings old.world).nodes) line ≡ Ok event → rule_of kind old.world event world ≡ None
        → kind.StandsFor world_new (after_event kind old.world event world)
        → (old.traced ≡ true → (number : ℕ) → kind.trace_line (kind.settings old.world) number event report ≡ text_of_event kind old.world number event world)
        → kind.steps world_new + 1 ≡ kind.steps old.world → kind.time world_new ≤ kind.time old.world + 1000000000
        → kind.settings world_new ≡ kind.settings old.world → kind.timing world_new ≡ kind.timing old.world
        → TakesLine (rules_of kind old) (place_at kind old) (place_at kind next) (kind.StandsFor world_new) (last_line kind next) line world
    takes_event line world going few said allowed stands says steps later settings timing =
        let rules = kind.rules old.world in
        let told = text_of_event kind old.world (old.events + 1) event world in
        subst (λ (text : List ℕ). TakesLine (rules_of kind old) (place_at kind old) (place_at kind next) (kind.StandsFor world_new) text line world)
        (told_if rules old.traced (kind.trace_line (kind.settings world_new) (old.events + 1) event report) told
        (λ kept. ap (λ (s : Settings). kind.trace_line s (old.events + 1) event report) settings ∙ says kept (old.events + 1)))
        (takes_if rules old.traced (place_at kind old) (place_at kind next) (kind.StandsFor world_new) told line world
        (record {
          event = event;
          said = laws.said_as rules (place_at kind old) world line (Ok event) refl said;
          allowed = laws.allowed_in-is rules (progress_at (place_at kind old) world) event None allowed;
          stands = stands;
          going = going_on going few steps later;
          counted = refl;
          moved = laws.moved_to rules (place_at kind old) (place_at kind next) event world settings timing refl refl;
          says = refl;
        }))

  -- ---- the lines of a run

  -- a playback whose world, head and number of events are as they were stands where it stood
  pub stays : (start old new : Playback Kept Event Report Head) (earlier : Taken) → new.world ≡ old.world → new.head ≡ old.head → new.events ≡ old.events → new.traced ≡ old.traced
      → HasPlayed kind start old earlier → HasPlayed kind start new earlier
  stays start old new earlier same_world same_head same_events same_traced played =
      let At : Kept → ℕ → ℕ → Type 0 = λ world head events.
      IsAfter (rules_of kind start) (place_at kind start)
      (record { settings = kind.settings world; timing = kind.timing world; head = head; events = events; steps = kind.steps world; time = kind.time world })
      (kind.StandsFor world) earlier in
      record {
        rules =
            ap (λ (traced : Bool). traced_if traced (kind.rules new.world)) same_traced
            ∙ ap (λ (world : Kept). traced_if old.traced (kind.rules world)) same_world ∙ played.rules;
        after =
            subst (λ (world : Kept). At world new.head new.events) (sym same_world)
            (subst (λ (head : ℕ). At old.world head new.events) (sym same_head)
            (subst (λ (events : ℕ). At old.world old.head events) (sym same_events) played.after));
      }

  module _ (start old : Playback Kept Event Report Head) (line : List ℕ) (earlier : Taken) (played : HasPlayed kind start old earlier) where
    takes_here : (new : Playback Kept Event Report Head) → Takes kind old new line
        → TakesLine (rules_of kind start) (place_at kind old) (place_at kind new) (kind.StandsFor new.world) (last_line kind new) line played.after.world
    takes_here new takes =
        subst (λ (rules : WorldRules World Event). TakesLine rules (place_at kind old) (place_at kind new) (kind.StandsFor new.world) (last_line kind new) line played.after.world) played.rules
        (takes played.after.world played.after.stands)

    -- the text of a line that was taken
    pub plays_line : (new : Playback Kept Event Report Head) (text : List ℕ) → Takes kind old new line → text ≡ last_line kind new ++ 10 ∷ [] → play_from kind start earlier line ≡ Ok text
    plays_line new text takes is =
        laws.plays (rules_of kind start) (place_at kind start) (place_at kind old) (kind.StandsFor old.world) line earlier played.after (place_at kind new) (kind.StandsFor new.world) (last_line kind new) (takes_here new takes)
        ∙ ap text_is (sym is)

    -- the playback after it
    pub stands_line : (new : Playback Kept Event Report Head) → Takes kind old new line → new.traced ≡ old.traced → kind.rules new.world ≡ kind.rules old.world → HasPlayed kind start new (line ∷ earlier)
    stands_line new takes same_traced same_rules = record {
      rules =
          ap (λ (traced : Bool). traced_if traced (kind.rules new.world)) same_traced
          ∙ ap (traced_if old.traced) same_rules ∙ played.rules;
      after =
          laws.stands_on (rules_of kind start) (place_at kind start) (place_at kind old) (kind.StandsFor old.world) line earlier played.after (place_at kind new) (kind.StandsFor new.world) (last_line kind new)
          (takes_here new takes);
    }

    -- a line that was not taken
    pub refuses_line : (end : ReplayEnd) → Refuses kind old line end → RefusesAt (play_from kind start) (wants_from kind start) earlier line end
    refuses_line end refuses =
        laws.refuses_line (rules_of kind start) (place_at kind start) (place_at kind old) (kind.StandsFor old.world) line earlier played.after end
        (subst (λ (rules : WorldRules World Event). RefusesLine rules (place_at kind old) line end played.after.world) played.rules (refuses played.after.world played.after.stands))

  -- a playback of which no line was taken
  pub begins : (playback : Playback Kept Event Report Head) → kind.StandsFor playback.world (kind.rules playback.world).first → playback.events ≡ 0
      → playback.head ≤ 4294967296 → kind.steps playback.world ≡ 18446744073709551615 → kind.time playback.world ≡ 0 → HasPlayed kind playback playback []
  begins playback stands none few steps time =
      let stood = subst (λ (d : World). kind.StandsFor playback.world d) (sym (first_if (kind.rules playback.world) playback.traced)) stands in
      record {
        rules = refl;
        after =
            laws.begins_after (rules_of kind playback) (place_at kind playback) (kind.StandsFor playback.world) stood none
            (record { few = omega (arith, none); numbered = few; steps = omega (arith, none, steps); early = omega (arith, time) });
      }

  -- ---- a run after its head

  module _ (replay : ReplayKind Head World Event) where
    -- a playback begins after its head
    pub record StartsAfter (playback : Playback Kept Event Report Head) (head : Head) : Type 0 where
      pub rules : rules_of kind playback ≡ replay.rules head
      pub settings : kind.settings playback.world ≡ replay.settings head
      pub timing : kind.timing playback.world ≡ replay.timing head
      pub lines : playback.head ≡ replay.lines head

    start_is : (playback : Playback Kept Event Report Head) (head : Head) → StartsAfter playback head → start_at kind playback ≡ start_after replay head
    start_is playback head starts =
        ap (λ (rules : WorldRules World Event). at_start rules (kind.settings playback.world) (kind.timing playback.world) playback.head) starts.rules
        ∙ ap (λ (s : Settings). at_start (replay.rules head) s (kind.timing playback.world) playback.head) starts.settings
        ∙ ap (λ (t : Timing). at_start (replay.rules head) (replay.settings head) t playback.head) starts.timing
        ∙ ap (λ (n : ℕ). at_start (replay.rules head) (replay.settings head) (replay.timing head) n) starts.lines

    module _ (start now : Playback Kept Event Report Head) (head : Head) (starts : StartsAfter start head) where
      -- a playback stands where the lines after the head lead
      pub place_is : (earlier : Taken) (played : HasPlayed kind start now earlier) → place_after replay head earlier ≡ progress_at (place_at kind now) played.after.world
      place_is earlier played =
          ap (λ (p : Progress World). after_lines (replay.rules head) p earlier) (sym (start_is start head starts))
          ∙ ap (λ (rules : WorldRules World Event). after_lines rules (start_at kind start) earlier) (sym starts.rules)
          ∙ played.after.place_is

      -- a run that it began goes on after the head, and is that of the whole input
      pub runs_on : {places : Option (Progress World) → Type 0} {left between left_new old new : Option (List ℕ)} {failed wider write_failed : Type 0} {end : ReplayEnd} (pieces : List ℕ) (lines : ℕ) → pieces ≡ []
          → lines ≡ replay.lines head → Gives replay.head_part head (prepend_known pieces left) between
          → ((earlier : Taken) (played : HasPlayed kind start now earlier) → places (Some (progress_at (place_at kind now) played.after.world))) → (failed → wider)
          → Runs (rest_of (play_from kind start) lines []) (HasPlayed kind start now) (WantsAtLine (play_from kind start) (wants_from kind start) (HasPlayed kind start now) lines)
          between left_new failed old new write_failed end
          → Runs (answer_of replay) places (WantsMemory replay) left left_new wider old new write_failed end
      runs_on {places} {between = between} {left_new = left_new} {old = old} {new = new} {failed = failed} {write_failed = write_failed} {end = end} pieces lines none same given stands widen run =
          let Run : WorldRules World Event → Progress World → ℕ → Type 0 = λ rules begun n.
          Runs (rest_of (event_play rules begun) n []) (HasPlayed kind start now)
          (WantsAtLine (event_play rules begun) (event_wants rules begun) (HasPlayed kind start now) n) between left_new failed old new write_failed end in
          replays.runs_on replay head pieces none given (HasPlayed kind start now)
          (λ earlier played. ap (λ (p : Progress World). p.events) (place_is earlier played) ∙ sym played.after.counted)
          (λ earlier played. subst (λ (p : Progress World). places (Some p)) (sym (place_is earlier played)) (stands earlier played))
          widen
          (subst (λ (begun : Progress World). Run (replay.rules head) begun (replay.lines head)) (start_is start head starts)
          (subst (λ (rules : WorldRules World Event). Run rules (start_at kind start) (replay.lines head)) starts.rules
          (subst (λ (n : ℕ). Run (rules_of kind start) (start_at kind start) n) same run)))

-- The trace of a replay is that of a run of the world.
use Rattle.std.proofs.Common.{◌≡◌, ◌+◌, ℕ, true, List, [], ◌∷◌, ◌++◌, None, Ok, Err, IfOk, length, refl, ap, ap₂, subst, ◌∙◌}
use Rattle.std.specs.Prelude.{◌↔◌, IsTrue}
use Rattle.qn_base.specs.Members.{is_member}
use Rattle.qn_playback.specs.declared.head.Head.{Head}
use Rattle.qn_playback.specs.Heads.{head_part}
use Rattle.qn_playback.specs.HeadLaws.{IsGood, TreesAreValid, head_good}
use Rattle.qn_playback.specs.Parts.{Given}
use Rattle.qn_playback.specs.Replays.{after_head}
use Rattle.qn_model.specs.declared.configuration.Settings.{Settings}
use Rattle.qn_model.specs.declared.events.Event.{Event}
use Rattle.qn_model.specs.declared.times.Timing.{Timing}
use Rattle.qn_model.specs.Lines.{Ending}
use Rattle.qn_model.specs.Rules.{is_well_formed, refusal}
use Rattle.qn_model.specs.Settings.{IsValid, ids}
use Rattle.qn_model.specs.Steps.{AllAllowed, report, run, step}
use Rattle.qn_model.specs.Timing.{is_safe}
use Rattle.qn_model.specs.World.{World}
use Rattle.qn_playback.specs.Played.{go_on}
use Rattle.qn_playback.specs.WorldTraces.{AllAllowedIn, lines_after, trace_is_run, world_after}
use Rattle.qn_safety.specs.Reported.{OneReported}
use Rattle.qn_sched.specs.EventLines.{event_line}
use Rattle.qn_sched.specs.EventReading.{event_of}
use Rattle.qn_sched.specs.TraceLines.{trace_line}
use Rattle.qn_replay.specs.Replay.{image_replay, image_rules, replay_of}
use Rattle.qn_replay.specs.RunTrace.{Empty, IsRunTrace, Lines, trace_of}

-- what the crates below say of a tree, of the line of an event, and of the holders after events
pub record Laws : Type 0 where
  pub valid : TreesAreValid
  pub spelled : (s : Settings) (line : List ℕ) (event : Event) → IsValid s
      → (event_of (ids s.nodes) line ≡ Ok event) ↔ (IsTrue (is_well_formed s event) × (line ≡ event_line (ids s.nodes) event))
  pub one_holder : OneReported

-- ---- a run of any world, where it is that of one image

module _ (s : Settings) (t : Timing) where
  same_world : (events : List Event) → world_after image_rules is_well_formed s t events ≡ run s t events
  unfolding world_after run
  same_world [] = refl
  same_world (event ∷ earlier) = ap (step s t event) (same_world earlier)

  same_allowed : (events : List Event) → AllAllowedIn image_rules is_well_formed s t events → AllAllowed s t events
  unfolding AllAllowedIn AllAllowed
  same_allowed [] all = tt
  same_allowed (event ∷ earlier) all =
      (all.0, subst (λ (w : World). refusal s t event w ≡ None) (same_world earlier) all.1, same_allowed earlier all.2)

  same_lines : (events : List Event) → lines_after image_rules is_well_formed s t events ≡ trace_of s t events
  unfolding lines_after trace_of
  same_lines [] = refl
  same_lines (event ∷ earlier) =
      ap₂ (λ (text : List ℕ) (w : World). text ++ (trace_line (ids s.nodes) (length earlier + 1) (report s event w) ++ 10 ∷ []))
      (same_lines earlier) (same_world (event ∷ earlier))

-- ---- one holder

-- events that are allowed were so up to each of them
earlier_allowed : (s : Settings) (t : Timing) (later : List Event) (earlier : List Event) → AllAllowed s t (later ++ earlier) → AllAllowed s t earlier
unfolding AllAllowed
earlier_allowed s t [] earlier all = all
earlier_allowed s t (event ∷ later) earlier all = earlier_allowed s t later earlier all.2

reports_one : Laws → (s : Settings) (t : Timing) (events : List Event) → is_safe t ≡ true → AllAllowed s t events
    → (later : List Event) (event : Event) (earlier : List Event) (i j : ℕ) → events ≡ later ++ event ∷ earlier
    → is_member (report s event (run s t (event ∷ earlier))).holders i ≡ true
    → is_member (report s event (run s t (event ∷ earlier))).holders j ≡ true
    → i ≡ j
unfolding report
reports_one laws s t events safe all later event earlier i j is first second =
    laws.one_holder s t (event ∷ earlier) i j safe (earlier_allowed s t later (event ∷ earlier) (subst (AllAllowed s t) is all)) first second

-- ---- the trace of each replay

given_traces : Laws → (ending : Ending) (given : Given Head) → IfOk given (λ g. IsGood g.0) → IsRunTrace (go_on None given (λ g. after_head image_replay g.0 ending g.1)).trace
given_traces laws ending (Ok given) good =
    let s = given.0.settings in
    let t = given.0.timing in
    let run = trace_is_run image_rules is_well_formed s t given.0.lines (λ line event said. ((laws.spelled s line event good.0).0 said).0) ending given.1 in
    let allowed = same_allowed s t run.events run.allowed in
    Lines s t run.events
    (record {
      valid = good.0;
      safe = good.1;
      allowed = allowed;
      lines = run.lines ∙ same_lines s t run.events;
      one_holder = reports_one laws s t run.events good.1 allowed;
    })
given_traces laws ending (Err end) good = Empty refl

pub traces_are_runs : Laws → (ending : Ending) (bytes : List ℕ) → IsRunTrace (replay_of ending bytes).trace
traces_are_runs laws ending bytes = given_traces laws ending (head_part ending bytes) (head_good laws.valid ending bytes)

-- The trace of a replay of three images is that of a run of their world.
use Rattle.std.proofs.Common.{◌≡◌, ◌+◌, ℕ, true, List, [], ◌∷◌, ◌++◌, None, Ok, Err, IfOk, length, refl, ap, ap₂, subst, ◌∙◌}
use Rattle.std.specs.Prelude.{IsTrue}
use Rattle.qn_base.specs.Members.{is_member}
use Rattle.qn_playback.specs.declared.head.Head.{Head}
use Rattle.qn_playback.specs.Heads.{head_part}
use Rattle.qn_playback.specs.HeadLaws.{IsGood, TreesAreValid, head_good}
use Rattle.qn_playback.specs.Parts.{Given}
use Rattle.qn_playback.specs.Replays.{after_head}
use Rattle.qn_model.specs.declared.configuration.Settings.{Settings}
use Rattle.qn_model.specs.declared.times.Timing.{Timing}
use Rattle.qn_model.specs.Lines.{Ending}
use Rattle.qn_model.specs.Settings.{IsValid, ids}
use Rattle.qn_model.specs.Steps.{report}
use Rattle.qn_model.specs.Timing.{is_safe}
use Rattle.qn_playback.specs.Played.{go_on}
use Rattle.qn_playback.specs.WorldTraces.{AllAllowedIn, lines_after, trace_is_run, world_after}
use Rattle.qn_safety.specs.declared.triple_event.TripleEvent.{TripleEvent}
use Rattle.qn_safety.specs.TripleReported.{OneTripleReported}
use Rattle.qn_safety.specs.TripleRules.{is_well_formed_triple, refusal_triple}
use Rattle.qn_safety.specs.TripleSteps.{AllAllowedTriple, report_triple, run_triple, step_triple}
use Rattle.qn_safety.specs.TripleWorld.{TripleWorld}
use Rattle.qn_sched.specs.TraceLines.{trace_line}
use Rattle.qn_triple.specs.TripleReading.{triple_event_of}
use Rattle.qn_replay.specs.TripleReplay.{replay3_of, triple_replay, triple_rules}
use Rattle.qn_replay.specs.TripleTrace.{Empty, IsRunTrace, Lines, trace_of}

-- what the crates below say of a tree, of the event of a line, and of the holders after events
pub record Laws : Type 0 where
  pub valid : TreesAreValid
  pub formed : (s : Settings) (line : List ℕ) (event : TripleEvent) → IsValid s → triple_event_of (ids s.nodes) line ≡ Ok event
      → IsTrue (is_well_formed_triple s event)
  pub one_holder : OneTripleReported

-- ---- a run of any world, where it is that of three images

module _ (s : Settings) (t : Timing) where
  same_world : (events : List TripleEvent) → world_after triple_rules is_well_formed_triple s t events ≡ run_triple s t events
  unfolding world_after run_triple
  same_world [] = refl
  same_world (event ∷ earlier) = ap (step_triple s t event) (same_world earlier)

  same_allowed : (events : List TripleEvent) → AllAllowedIn triple_rules is_well_formed_triple s t events → AllAllowedTriple s t events
  unfolding AllAllowedIn AllAllowedTriple
  same_allowed [] all = tt
  same_allowed (event ∷ earlier) all =
      (all.0, subst (λ (w : TripleWorld). refusal_triple s t event w ≡ None) (same_world earlier) all.1, same_allowed earlier all.2)

  same_lines : (events : List TripleEvent) → lines_after triple_rules is_well_formed_triple s t events ≡ trace_of s t events
  unfolding lines_after trace_of
  same_lines [] = refl
  same_lines (event ∷ earlier) =
      ap₂ (λ (text : List ℕ) (w : TripleWorld). text ++ (trace_line (ids s.nodes) (length earlier + 1) (report_triple s event w) ++ 10 ∷ []))
      (same_lines earlier) (same_world (event ∷ earlier))

-- ---- one holder

-- events that are allowed were so up to each of them
earlier_allowed : (s : Settings) (t : Timing) (later earlier : List TripleEvent) → AllAllowedTriple s t (later ++ earlier) → AllAllowedTriple s t earlier
unfolding AllAllowedTriple
earlier_allowed s t [] earlier all = all
earlier_allowed s t (event ∷ later) earlier all = earlier_allowed s t later earlier all.2

reports_one : Laws → (s : Settings) (t : Timing) (events : List TripleEvent) → is_safe t ≡ true → AllAllowedTriple s t events
    → (later : List TripleEvent) (event : TripleEvent) (earlier : List TripleEvent) (i j : ℕ) → events ≡ later ++ event ∷ earlier
    → is_member (report_triple s event (run_triple s t (event ∷ earlier))).holders i ≡ true
    → is_member (report_triple s event (run_triple s t (event ∷ earlier))).holders j ≡ true
    → i ≡ j
unfolding report_triple report
reports_one laws s t events safe all later event earlier i j is first second =
    laws.one_holder s t (event ∷ earlier) i j safe (earlier_allowed s t later (event ∷ earlier) (subst (AllAllowedTriple s t) is all)) first second

-- ---- the trace of each replay

given_traces : Laws → (ending : Ending) (given : Given Head) → IfOk given (λ g. IsGood g.0) → IsRunTrace (go_on None given (λ g. after_head triple_replay g.0 ending g.1)).trace
given_traces laws ending (Ok given) good =
    let s = given.0.settings in
    let t = given.0.timing in
    let run = trace_is_run triple_rules is_well_formed_triple s t given.0.lines (λ line event said. laws.formed s line event good.0 said) ending given.1 in
    let allowed = same_allowed s t run.events run.allowed in
    Lines s t run.events
    (record {
      valid = good.0;
      safe = good.1;
      allowed = allowed;
      lines = run.lines ∙ same_lines s t run.events;
      one_holder = reports_one laws s t run.events good.1 allowed;
    })
given_traces laws ending (Err end) good = Empty refl

pub traces_are_runs : Laws → (ending : Ending) (bytes : List ℕ) → IsRunTrace (replay3_of ending bytes).trace
traces_are_runs laws ending bytes = given_traces laws ending (head_part ending bytes) (head_good laws.valid ending bytes)

-- The trace of a replay beside an arbiter is that of a run of the world.
use Rattle.std.proofs.Common.{◌≡◌, ◌+◌, ℕ, true, List, [], ◌∷◌, ◌++◌, Option, None, Some, Result, Ok, Err, IfOk, length, refl, sym, ap, ◌∙◌, subst}
use Rattle.std.specs.Prelude.{IsTrue}
use Rattle.std.specs.Option.{option_map_or}
use Rattle.qn_arbiter.specs.EventLines.{arbiter_line}
use Rattle.qn_arbiter.specs.EventReading.{arbiter_event_of}
use Rattle.qn_arbiter.specs.TraceLines.{arbiter_trace_line}
use Rattle.qn_base.specs.declared.ids.Rank.{Rank}
use Rattle.qn_base.specs.Members.{is_member}
use Rattle.qn_playback.specs.declared.head.Head.{Head}
use Rattle.qn_playback.specs.Heads.{head_part, line_lines}
use Rattle.qn_playback.specs.HeadLaws as heads
use Rattle.qn_playback.specs.HeadLaws.{TreesAreValid, head_good}
use Rattle.qn_playback.specs.Parts.{Given, then_given}
use Rattle.qn_playback.specs.Replays.{after_head}
use Rattle.qn_safety.specs.declared.arbiter_event.ArbiterEvent.{ArbiterEvent}
use Rattle.qn_safety.specs.declared.lease.Lease.{Lease}
use Rattle.qn_safety.specs.ArbiterRules.{is_well_formed_beside, refusal_beside}
use Rattle.qn_safety.specs.ArbiterSteps.{AllAllowedBeside, played, polling, quiet_report, report_beside, run_beside, step_beside}
use Rattle.qn_safety.specs.ArbiterWorld.{ArbiterWorld}
use Rattle.qn_safety.specs.ArbiterLaws.{OneHolderBeside}
use Rattle.qn_safety.specs.Lease.{is_safe_lease}
use Rattle.qn_model.specs.declared.configuration.Settings.{Settings}
use Rattle.qn_model.specs.declared.events.Event.{Event}
use Rattle.qn_model.specs.declared.reports.Report.{Report}
use Rattle.qn_model.specs.declared.times.Timing.{Timing}
use Rattle.qn_model.specs.Lines.{Ending}
use Rattle.qn_model.specs.Settings.{IsValid, ids}
use Rattle.qn_model.specs.Steps.{holders, report}
use Rattle.qn_model.specs.Timing.{is_safe}
use Rattle.qn_model.specs.World.{World}
use Rattle.qn_playback.specs.Played.{go_on}
use Rattle.qn_playback.specs.WorldTraces.{AllAllowedIn, lines_after, trace_is_run, world_after}
use Rattle.qn_sched.specs.declared.replay_end.ReplayEnd.{ReplayEnd}
use Rattle.qn_replay.specs.declared.arbiter_head.ArbiterHead.{ArbiterHead}
use Rattle.qn_replay.specs.BesideHeads.{arbiter_head_part, lease_given, lease_in, lease_lines, with_lease}
use Rattle.qn_replay.specs.BesideReplay.{beside_replay, beside_rules, replay_arbiter_of}
use Rattle.qn_replay.specs.BesideTrace.{Empty, IsRunTrace, Lines, reported, trace_of}
use Rattle.qn_replay.proofs.HeadSteps.{lease_is_safe}

-- what the crates below say of a tree, of the line of an event, and of the holders after events
pub record Laws : Type 0 where
  pub valid : TreesAreValid
  pub spelled : (s : Settings) (line : List ℕ) (event : ArbiterEvent) → IsValid s
      → ((arbiter_event_of (ids s.nodes) line ≡ Ok event) → IsTrue (is_well_formed_beside s event) × (arbiter_line (ids s.nodes) event ≡ Some line))
      × (IsTrue (is_well_formed_beside s event) × (arbiter_line (ids s.nodes) event ≡ Some line) → arbiter_event_of (ids s.nodes) line ≡ Ok event)
  pub one_holder : OneHolderBeside

-- ---- a run of the world beside an arbiter, in the words of its definition

module _ (s : Settings) (t : Timing) (times : Lease) where
  same_world : (events : List ArbiterEvent) → world_after (beside_rules times) is_well_formed_beside s t events ≡ run_beside s t times events
  unfolding world_after run_beside
  same_world [] = refl
  same_world (event ∷ earlier) = ap (step_beside s t times event) (same_world earlier)

  all_allowed : (events : List ArbiterEvent) → AllAllowedIn (beside_rules times) is_well_formed_beside s t events → AllAllowedBeside s t times events
  unfolding AllAllowedIn AllAllowedBeside
  all_allowed [] all = tt
  all_allowed (event ∷ earlier) all =
      (all.0, subst (λ (w : ArbiterWorld). refusal_beside s t event w ≡ None) (same_world earlier) all.1, all_allowed earlier all.2)

  same_lines : (events : List ArbiterEvent) → lines_after (beside_rules times) is_well_formed_beside s t events ≡ trace_of s t times events
  unfolding lines_after trace_of
  same_lines [] = refl
  same_lines (event ∷ earlier) =
      ap (λ text. text ++ (arbiter_trace_line (ids s.nodes) (length earlier + 1) event
      (report_beside s event (world_after (beside_rules times) is_well_formed_beside s t earlier) (world_after (beside_rules times) is_well_formed_beside s t (event ∷ earlier))) ++ 10 ∷ [])) (same_lines earlier)
      ∙ ap (λ (w : ArbiterWorld). trace_of s t times earlier ++ (arbiter_trace_line (ids s.nodes) (length earlier + 1) event
      (report_beside s event w (world_after (beside_rules times) is_well_formed_beside s t (event ∷ earlier))) ++ 10 ∷ [])) (same_world earlier)
      ∙ ap (λ (w : ArbiterWorld). trace_of s t times earlier ++ (arbiter_trace_line (ids s.nodes) (length earlier + 1) event
      (report_beside s event (run_beside s t times earlier) w) ++ 10 ∷ [])) (same_world (event ∷ earlier))

-- ---- one holder

-- events that are allowed were so up to each of them
earlier_allowed : (s : Settings) (t : Timing) (times : Lease) (later earlier : List ArbiterEvent) → AllAllowedBeside s t times (later ++ earlier) → AllAllowedBeside s t times earlier
unfolding AllAllowedBeside
earlier_allowed s t times [] earlier all = all
earlier_allowed s t times (event ∷ later) earlier all = earlier_allowed s t times later earlier all.2

holders_are : (s : Settings) (rank : Option Rank) (w : World) (one : Option Event)
    → (let r : Report = option_map_or (λ e. report s e w) one (quiet_report s rank w) in r.holders) ≡ holders s w
unfolding report
holders_are s rank w None = refl
holders_are s rank w (Some one) = refl

reported_holders : (s : Settings) (event : ArbiterEvent) (before after : ArbiterWorld) → (report_beside s event before after).report.holders ≡ holders s after.world
unfolding report_beside
reported_holders s event before after = holders_are s (polling event) after.world (played s event before)

reports_one : Laws → (s : Settings) (t : Timing) (times : Lease) (events : List ArbiterEvent) → is_safe t ≡ true → AllAllowedBeside s t times events
    → (later : List ArbiterEvent) (event : ArbiterEvent) (earlier : List ArbiterEvent) (i j : ℕ) → events ≡ later ++ event ∷ earlier
    → is_member (reported s t times event earlier).report.holders i ≡ true
    → is_member (reported s t times event earlier).report.holders j ≡ true
    → i ≡ j
reports_one laws s t times events safe all later event earlier i j is first second =
    let held = reported_holders s event (run_beside s t times earlier) (run_beside s t times (event ∷ earlier)) in
    laws.one_holder s t times (event ∷ earlier) i j safe (earlier_allowed s t times later (event ∷ earlier) (subst (AllAllowedBeside s t times) is all))
    (sym (ap (λ mask. is_member mask i) held) ∙ first) (sym (ap (λ mask. is_member mask j) held) ∙ second)

-- ---- the head

-- settings that are valid, and times that are safe
record IsGood (head : ArbiterHead) : Type 0 where
  valid : IsValid head.settings
  safe : is_safe head.timing ≡ true
  safe_lease : is_safe_lease head.settings head.lease ≡ true

lease_good : (head : Head) (rest : List (List ℕ)) (judged : Result Lease ReplayEnd) → heads.IsGood head → ((times : Lease) → judged ≡ Ok times → is_safe_lease head.settings times ≡ true)
    → IfOk (with_lease head rest judged) (λ given. IsGood given.0)
lease_good head rest (Ok times) good safe = record { valid = good.0; safe = good.1; safe_lease = safe times refl }
lease_good head rest (Err end) good safe = tt

line_good : (head : Head) (given : Given (List ℕ)) → heads.IsGood head → IfOk (then_given given (lease_given head)) (λ g. IsGood g.0)
line_good head (Ok given) good =
    lease_good head given.1 (lease_in (head.lines + 1) head.settings given.0) good (λ times is. lease_is_safe (head.lines + 1) head.settings given.0 times is)
line_good head (Err end) good = tt

given_good : (ending : Ending) (given : Given Head) → IfOk given (λ g. heads.IsGood g.0) → IfOk (then_given given (λ head rest. lease_lines head ending rest)) (λ g. IsGood g.0)
given_good ending (Ok given) good = line_good given.0 (line_lines given.0.lines ending given.1) good
given_good ending (Err end) good = tt

-- ---- the trace of each replay

given_traces : Laws → (ending : Ending) (given : Given ArbiterHead) → IfOk given (λ g. IsGood g.0) → IsRunTrace (go_on None given (λ g. after_head beside_replay g.0 ending g.1)).trace
given_traces laws ending (Ok given) good =
    let head = given.0 in
    let s = head.settings in
    let t = head.timing in
    let run = trace_is_run (beside_rules head.lease) is_well_formed_beside s t head.lines (λ line event said. ((laws.spelled s line event good.valid).0 said).0) ending given.1 in
    let allowed = all_allowed s t head.lease run.events run.allowed in
    Lines s t head.lease run.events
    (record {
      valid = good.valid;
      safe = good.safe;
      safe_lease = good.safe_lease;
      allowed = allowed;
      lines = run.lines ∙ same_lines s t head.lease run.events;
      one_holder = reports_one laws s t head.lease run.events good.safe allowed;
    })
given_traces laws ending (Err end) good = Empty refl

pub traces_are_runs : Laws → (ending : Ending) (bytes : List ℕ) → IsRunTrace (replay_arbiter_of ending bytes).trace
traces_are_runs laws ending bytes = given_traces laws ending (arbiter_head_part ending bytes) (given_good ending (head_part ending bytes) (head_good laws.valid ending bytes))

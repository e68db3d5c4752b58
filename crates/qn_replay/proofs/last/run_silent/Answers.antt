use Rattle.std.proofs.Common.{◌<◌, arith, Bool, None, ap, refl, subst, sym, IfErr, Result, ◌∙◌}
use Rattle.std.proofs.lemmas.Result.{err_from_is_err_and}
use Rattle.qn_base.specs.Rising.{HasRisen-within}
use Rattle.qn_playback.specs.ReplayLaws.{stops_in_head, stops_without_world}
use Rattle.qn_playback.specs.Replays.{WantsMemory, answer_of}
use Rattle.qn_io.specs.Outside.{HasRisen}
use Rattle.qn_playback.specs.Runs.{Runs}
use Rattle.qn_sched.specs.declared.replay_end.ReplayEnd.{ReplayEnd}
use Rattle.qn_world.specs.Whole.{Whole}
use Rattle.qn_replay.specs.EventWorlds.{traced_if, untraced}
use Rattle.qn_replay.specs.Replay.{image_replay, image_rules, image_world}
use Rattle.qn_replay.specs.Runs.{IsFault, Reaches}
use Rattle.qn_replay.proofs.LastEnds.{IsPlaceOf, head_fault, is_unleased, is_written, out_fault, place_after, reaches_in_head, reaches_out}
use Rattle.qn_replay.proofs.Playbacks.{runs_on}
use Rattle.qn_replay.proofs.last.run_silent.Given.{Over}
use Rattle.qn_replay.proofs.last.run_silent.Goals as goal

-- the count of a sink that keeps nothing does not rise
never_risen : HasRisen 0 0 → ⊥
never_risen rose = let fewer : 0 < 0 = rose (omega arith) in absurd (omega arith)

pub returns-in_err-head-clause-reaches : goal.returns-in_err-head-clause-reaches
returns-in_err-head-clause-reaches g c =
    let exit = err_from_is_err_and c.from_residual.result c.from_residual.ensures.1 in
    rw (exit.1, exit.2)
    (reaches_in_head c.new-pieces.result c.read_head.new.pieces c.in_err-head.field-0.0 c.new-pieces.ensures (head_fault c.in_err-head.field-0.0 c.in_err-head.ensures.head_end)
    c.read_head.ensures.within (stops_in_head image_replay c.in_err-head.ensures.end))

pub returns-in_err-head-clause-fault : goal.returns-in_err-head-clause-fault
returns-in_err-head-clause-fault g c =
    let exit = err_from_is_err_and c.from_residual.result c.from_residual.ensures.1 in
    rw (exit.1, exit.2) (head_fault c.in_err-head.field-0.0 c.in_err-head.ensures.head_end)

pub begin-requires : goal.begin-requires
begin-requires g c = record { valid = c.in_ok-head.ensures.valid; safe = c.in_ok-head.ensures.safe; few_lines = let few = c.in_ok-head.ensures.few_lines in omega (arith, few) }

pub returns-in_default-clause-reaches : goal.returns-in_default-clause-reaches
returns-in_default-clause-reaches g c =
    reaches_in_head c.new-pieces.result c.read_head.new.pieces _ c.new-pieces.ensures tt c.read_head.ensures.within
    (stops_without_world image_replay c.in_ok-head.head c.in_ok-head.ensures.head)

pub play-end-requires-clause-stands : goal.play-end-requires-clause-stands
play-end-requires-clause-stands g c = c.new-playback.ensures.begins

run_of : (g : Over) (c : goal.After-last g)
    → Runs (answer_of (untraced image_replay)) (IsPlaceOf c.play-end.new.world) (WantsMemory (untraced image_replay)) (g.I.Source.left c.args.input.now) (g.I.Source.left c.play-end.new.input)
    (HasRisen (g.I.Source.faults c.args.input.now) (g.I.Source.faults c.play-end.new.input)) None None (HasRisen 0 0) c.play-end.result
run_of g c =
    let made = c.new-playback.ensures in
    let begun = c.in-Ok.ensures in
    runs_on image_world (untraced image_replay) c.new-playback.result c.play-end.new.world c.in_ok-head.head
    (record {
      rules = ap (λ (traced : Bool). traced_if traced image_rules) made.traced;
      settings = ap (λ (w : Whole). w.settings) made.world ∙ begun.settings;
      timing = ap (λ (w : Whole). w.timing) made.world ∙ begun.timing;
      lines = made.head;
    })
    c.new-pieces.result c.in_ok-head.head.lines c.new-pieces.ensures refl c.in_ok-head.ensures.head
    (place_after c.new-playback.result c.play-end.new.world)
    (λ rose. HasRisen-within _ _ _ _ c.read_head.ensures.never_falls c.play-end.ensures.source_faults (omega arith) rose) c.play-end.ensures.runs

pub returns-clause-reaches : goal.returns-clause-reaches
returns-clause-reaches g c =
    subst (λ (r : Result Whole ReplayEnd). Reaches (g.I.Source.left c.args.input.now) (g.I.Source.left c.play-end.new.input) (HasRisen (g.I.Source.faults c.args.input.now) (g.I.Source.faults c.play-end.new.input)) r)
    (sym c.last.ensures) (reaches_out c.play-end.new.world c.play-end.result never_risen (run_of g c))

pub returns-clause-fault : goal.returns-clause-fault
returns-clause-fault g c =
    subst (λ (r : Result Whole ReplayEnd). IfErr r IsFault) (sym c.last.ensures)
    (out_fault c.play-end.new.world.world c.play-end.result (is_written c.play-end.new.world never_risen (run_of g c)) (is_unleased c.play-end.new.world (run_of g c)))

use Rattle.std.proofs.Common.{arith, sym}
use Rattle.std.proofs.lemmas.Result.{err_from_is_err_and}
use Rattle.qn_base.specs.Rising.{HasRisen-within}
use Rattle.qn_playback.specs.Heads.{settings_part, timing_given}
use Rattle.qn_playback.specs.FurtherLines.{refuses_before, refuses_line}
use Rattle.qn_playback.specs.PartLaws.{refuses_wider}
use Rattle.qn_playback.proofs.HeadSteps.{gives_head, refuses_timing}
use Rattle.qn_playback.proofs.head.read_head.Goals as goal

pub returns-in_err-text-clause-end : goal.returns-in_err-text-clause-end
returns-in_err-text-clause-end g c =
    let exit = err_from_is_err_and c.from_residual.result c.from_residual.ensures.1 in
    rw (exit.1, exit.2) (refuses_before settings_part (λ t. t.lines) timing_given c.in_err-text.ensures.fault)

pub returns-in_err-read_head_line-clause-end : goal.returns-in_err-read_head_line-clause-end
returns-in_err-read_head_line-clause-end g c =
    let exit = err_from_is_err_and c.from_residual-in_err-read_head_line.result c.from_residual-in_err-read_head_line.ensures.1 in
    rw (exit.1, exit.2)
    (refuses_line settings_part (λ t. t.lines) timing_given c.in_ok-text.text c.in_ok-text.ensures.settings
    (refuses_wider
    (λ fails. (fails.0, HasRisen-within _ _ _ _ (omega (arith, c.in_ok-text.ensures.never_falls)) (omega (arith, c.in_err-read_head_line.ensures.never_falls)) (omega arith) fails.1))
    c.in_err-read_head_line.ensures.end))

pub returns-in_err-timing-clause-end : goal.returns-in_err-timing-clause-end
returns-in_err-timing-clause-end g c =
    let exit = err_from_is_err_and c.from_residual-in_err-timing.result c.from_residual-in_err-timing.ensures.1 in
    rw (exit.1, exit.2)
    (refuses_timing c.in_ok-text.text c.in_ok-text.ensures.settings c.read_head_line.new.line.items c.in_ok-read_head_line.ensures.line c.as_slice.result.now c.as_slice.ensures.value _ (sym c.in_err-timing.ensures.timing))

pub returns-clause-head : goal.returns-clause-head
returns-clause-head g c =
    gives_head c.in_ok-text.text c.in_ok-text.ensures.settings c.read_head_line.new.line.items c.in_ok-read_head_line.ensures.line c.as_slice.result.now c.as_slice.ensures.value c.in_ok-timing.timing (sym c.in_ok-timing.ensures.timing)

use Rattle.std.proofs.Common.{refl, sym, ◌∙◌, arith}
use Rattle.qn_commands.specs.Seen.{source}
use Rattle.qn_commands.proofs.Creating.{creates_image, creates_refused, creates_unsafe}
use Rattle.qn_commands.proofs.commands.create.create.Goals as goal

pub returns-then-not-timing_safe-clause-creates : goal.returns-then-not-timing_safe-clause-creates
returns-then-not-timing_safe-clause-creates g c =
    creates_unsafe c.args.image.now c.args.timing _ _ _
    (record { source = omega arith; sink = c.refuse.ensures.sink_faults; env = omega arith })
    c.refuse.ensures.write_fault (sym c.timing_safe.ensures ∙ c.if-not-timing_safe.true) refl c.refuse.ensures.refuses c.refuse.ensures.own

pub returns-in-Ok-clause-creates : goal.returns-in-Ok-clause-creates
returns-in-Ok-clause-creates g c =
    let works = c.make_image.ensures.works (source g.I.Source.left g.I.Source.faults c.args.input.now) in
    creates_image c.args.image.now c.args.timing _ _ _
    (record { source = c.in-Ok.ensures.source_faults; sink = c.make_image.ensures.sink_faults; env = c.make_image.ensures.env_faults })
    c.make_image.ensures.write_fault (sym c.timing_safe.ensures ∙ c.if-not-timing_safe.false) c.in-Ok.settings c.in-Ok.ensures.judges
    (record { calls = works.calls; made = works.made; performs = works.performs })
    c.make_image.ensures.outcomes c.make_image.ensures.env_fault

pub returns-in-Err-clause-creates : goal.returns-in-Err-clause-creates
returns-in-Err-clause-creates g c =
    creates_refused c.args.image.now c.args.timing _ _ _
    (record { source = c.in-Err.ensures.source_faults; sink = c.refuse-in-Err.ensures.sink_faults; env = omega arith })
    c.refuse-in-Err.ensures.write_fault (sym c.timing_safe.ensures ∙ c.if-not-timing_safe.false) c.in-Err.fault c.in-Err.ensures.judges refl
    c.refuse-in-Err.ensures.refuses c.refuse-in-Err.ensures.own c.in-Err.ensures.status c.in-Err.ensures.read_fault

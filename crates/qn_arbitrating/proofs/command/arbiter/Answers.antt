use Rattle.std.proofs.Common.{refl, arith}
use Rattle.qn_commands.specs.Seen.{source}
use Rattle.qn_arbitrating.proofs.ArbiterRuns.{refuses_settings, runs_arbiter}
use Rattle.qn_arbitrating.proofs.command.arbiter.Goals as goal

pub returns-in-Ok : goal.returns-in-Ok
returns-in-Ok g c =
    let works = c.open_and_serve.ensures.works (source g.I.Source.left g.I.Source.faults c.args.input.now) in
    runs_arbiter c.args.words _ _ _
    (record { source = c.in-Ok.ensures.source_faults; sink = c.open_and_serve.ensures.sink_faults; env = c.open_and_serve.ensures.env_faults })
    c.open_and_serve.ensures.write_fault c.in-Ok.settings c.in-Ok.ensures.judges
    (record { calls = works.calls; made = works.made; performs = works.performs })
    c.open_and_serve.ensures.outcomes c.open_and_serve.ensures.unopened

pub returns-in-Err : goal.returns-in-Err
returns-in-Err g c =
    refuses_settings c.args.words _ _ _
    (record { source = c.in-Err.ensures.source_faults; sink = c.refuse.ensures.sink_faults; env = omega arith })
    c.refuse.ensures.write_fault c.in-Err.fault c.in-Err.ensures.judges refl
    c.refuse.ensures.refuses c.refuse.ensures.own c.in-Err.ensures.status c.in-Err.ensures.read_fault

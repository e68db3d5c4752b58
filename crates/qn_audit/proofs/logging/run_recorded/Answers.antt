use Rattle.qn_audit.proofs.LogTexts.{logs_all}
use Rattle.qn_audit.proofs.logging.run_recorded.Goals as goal

pub returns : goal.returns
returns g c =
    let ran = c.run_on.ensures in
    let kept = logs_all g.O.Sink.written g.O.Sink.faults _ _ ran.calls ran.shown.0 in
    record {
      did = (ran.log, record { calls = ran.calls; made = ran.made; recorded = ran.recorded; logs = kept.0; follows = ran.follows });
      same_env = kept.1;
      same_out = kept.2;
      env_faults = ran.made.never_falls;
      sink_faults = kept.3;
    }

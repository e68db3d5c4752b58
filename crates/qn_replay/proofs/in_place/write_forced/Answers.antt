use Rattle.std.proofs.Common.{◌∙◌}
use Rattle.qn_replay.proofs.Forced.{crash_forced, moment_forced}
use Rattle.qn_replay.proofs.in_place.write_forced.Goals as goal

pub returns-in-Some-clause-drawn : goal.returns-in-Some-clause-drawn
returns-in-Some-clause-drawn c = λ d stands. c.set_other.ensures ∙ crash_forced d c.in-Some.rank (c.in-Some.ensures.least d stands)

pub returns-in-None-clause-drawn : goal.returns-in-None-clause-drawn
returns-in-None-clause-drawn c = λ d stands. moment_forced d c.write_moment.new.into c.write_moment.ensures.event (c.in-None.ensures.least d stands)

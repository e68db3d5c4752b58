use Rattle.std.proofs.Common.{refl}
use Rattle.qn_replay.proofs.Playbacks.{begins}
use Rattle.qn_replay.proofs.playback.Playback.new.Goals as goal

pub returns-clause-begins : goal.returns-clause-begins
returns-clause-begins g c = begins g.W.TakesEvents.world _ c.requires.first refl c.requires.few_lines c.requires.steps c.requires.time

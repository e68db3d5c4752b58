use Rattle.qn_live.specs.EndLaws.{no_end_by_call, no_end_by_clock, sound_end}
use Rattle.qn_live.proofs.laws.law_sound_end.Goals as goal

pub returns : goal.returns
returns c = λ s me clean leave polls turns calls ran follows whole rises.
    sound_end ran.end (no_end_by_call s me clean leave polls turns calls ran follows whole) (no_end_by_clock s me clean leave polls turns calls ran follows rises)

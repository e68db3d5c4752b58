use Rattle.qn_playback.proofs.Taken.{took_inside}
use Rattle.qn_playback.proofs.part_text.PartText.take_inside.Goals as goal

pub returns : goal.returns
returns c = took_inside c.progress.result c.args.byte _ c.push.new.self c.requires.may_go_on c.requires.inside c.in-Ok.ensures c.progress.ensures

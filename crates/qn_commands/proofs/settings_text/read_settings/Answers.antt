use Rattle.std.proofs.Common.{inr, Ok}
use Rattle.qn_commands.specs.SettingsLaws.{judged_whole}
use Rattle.qn_commands.proofs.settings_text.read_settings.Goals as goal

pub returns-in-Ok-clause-judges : goal.returns-in-Ok-clause-judges
returns-in-Ok-clause-judges g c = judged_whole (Ok c.in-Ok.good.settings) c.in-Ok.ensures.good.whole (inr c.in-Ok.ensures.good.good)

use Rattle.std.proofs.Common.{Err}
use Rattle.qn_commands.specs.SettingsLaws.{judged_whole}
use Rattle.qn_commands.proofs.ReadTexts.{judged_err}
use Rattle.qn_commands.proofs.settings_text.read_good_text.Goals as goal

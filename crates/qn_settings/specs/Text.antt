-- The settings of a whole text: corosync.conf(5), votequorum(5).
use Rattle.std.specs.Prelude.{ℕ, List, Result, Ok, Err}
use Rattle.qn_conf.specs.declared.faults.ConfFault.{ConfFault}
use Rattle.qn_conf.specs.declared.tree.Item.{Item}
use Rattle.qn_conf.specs.Conf.{conf_of}
use Rattle.qn_model.specs.declared.configuration.Settings.{Settings}
use Rattle.qn_settings.specs.declared.faults.SettingsFault.{SettingsFault}
use Rattle.qn_settings.specs.declared.faults.TextFault.{TextFault}
use Rattle.qn_settings.specs.declared.faults.TextFault.TheVariants as text
use Rattle.qn_settings.specs.Answer.{answer_of}

abbrev pub of_answer : Result Settings SettingsFault → Result Settings TextFault
of_answer (Ok settings) = Ok settings
of_answer (Err fault) = Err (text.Settings fault)

abbrev pub of_tree : Result (List Item) ConfFault → Result Settings TextFault
of_tree (Ok tree) = of_answer (answer_of tree)
of_tree (Err fault) = Err (text.Conf fault)

-- the settings of a whole text, or its first fault
unfoldable pub settings_of_text : List ℕ → Result Settings TextFault
settings_of_text bytes = of_tree (conf_of bytes)

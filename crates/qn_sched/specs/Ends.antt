-- How a replay ends at a fault of its settings text: this project's profile.
use Rattle.qn_settings.specs.declared.faults.TextFault.{TextFault}
use Rattle.qn_settings.specs.declared.faults.TextFault.TheVariants as text
use Rattle.qn_sched.specs.declared.replay_end.ReplayEnd.{ReplayEnd}
use Rattle.qn_sched.specs.declared.replay_end.ReplayEnd.TheVariants.{BadConf, BadSettings}

-- the fault of the text
abbrev pub bad_text : TextFault → ReplayEnd
bad_text (text.Conf fault) = BadConf fault
bad_text (text.Settings fault) = BadSettings fault

-- How a replay ends at a fault of its settings text: this project's profile.
use Rattle.qn_conf.specs.declared.faults.ConfFault.TheVariants as conf
use Rattle.qn_settings.specs.declared.faults.TextFault.{TextFault}
use Rattle.qn_settings.specs.declared.faults.TextFault.TheVariants as text
use Rattle.qn_sched.specs.declared.replay_end.ReplayEnd.{ReplayEnd}
use Rattle.qn_sched.specs.declared.replay_end.ReplayEnd.TheVariants as end
use Rattle.qn_playback.specs.declared.head_fault.HeadFault.{HeadFault}
use Rattle.qn_playback.specs.declared.head_fault.HeadFault.TheVariants.{BadConf, BadSettings, BadSchedule, ReadFault, NoMemory}

-- the fault of a text; out of memory is no fault of the text
abbrev pub fault_of_text : TextFault → HeadFault
fault_of_text (text.Conf conf.NoMemory) = NoMemory
fault_of_text (text.Conf fault) = BadConf fault
fault_of_text (text.Settings fault) = BadSettings fault

-- the end of a replay of that name
abbrev pub end_of : HeadFault → ReplayEnd
end_of (BadConf fault) = end.BadConf fault
end_of (BadSettings fault) = end.BadSettings fault
end_of (BadSchedule line fault) = end.BadSchedule line fault
end_of ReadFault = end.ReadFault
end_of NoMemory = end.NoMemory

-- an end within the head of a schedule
abbrev pub IsHeadEnd : ReplayEnd → Type 0
IsHeadEnd (end.Done events) = ⊥
IsHeadEnd (end.BadConf fault) = Unit {0}
IsHeadEnd (end.BadSettings fault) = Unit {0}
IsHeadEnd (end.BadSchedule line fault) = Unit {0}
IsHeadEnd (end.NotAllowed line rule) = ⊥
IsHeadEnd end.ReadFault = Unit {0}
IsHeadEnd end.WriteFault = ⊥
IsHeadEnd (end.UnsafeTiming timing) = Unit {0}
IsHeadEnd (end.UnsafeLease timeout limit lease) = ⊥
IsHeadEnd end.NoMemory = Unit {0}

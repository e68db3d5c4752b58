-- The last line of a replay, and its status: this project's profile.
use Rattle.std.specs.Prelude.{[], ◌++◌, codes, decimal}
use Rattle.qn_model.specs.Lines.{Outcome}
use Rattle.qn_sched.specs.declared.replay_end.ReplayEnd.{ReplayEnd}
use Rattle.qn_sched.specs.declared.replay_end.ReplayEnd.TheVariants as end
use Rattle.qn_commands.specs.declared.fault.Fault.TheVariants as fault
use Rattle.qn_commands.specs.Endings.{refused}

abbrev pub end_outcome : ReplayEnd → Outcome
end_outcome (end.Done events) = record { text = codes "end " ++ decimal events ++ codes "\n"; status = 0 }
end_outcome (end.BadConf why) = refused (fault.BadConf why)
end_outcome (end.BadSettings why) = refused (fault.BadSettings why)
end_outcome (end.BadSchedule line why) = refused (fault.BadSchedule line why)
end_outcome (end.NotAllowed line rule) = refused (fault.NotAllowed line rule)
end_outcome end.ReadFault = refused fault.ReadFault
end_outcome end.WriteFault = record { text = []; status = 7 }
end_outcome (end.UnsafeTiming timing) = refused (fault.UnsafeTiming timing)
end_outcome (end.UnsafeLease timeout limit lease) = refused (fault.UnsafeLease (record { timeout = timeout; limit = limit; lease = lease }))
end_outcome end.NoMemory = refused fault.NoMemory

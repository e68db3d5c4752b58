-- How long the device's standing yes counts: corosync-qdevice(8), "timeout".
use Rattle.std.specs.Prelude.{ℕ, Option, None, Some, ◌+◌}
use Rattle.std.specs.Option.{option_map}
use Rattle.qn_model.specs.declared.configuration.Device.{Device}
use Rattle.qn_quorum.specs.declared.deadlines.Deadline.{Deadline}
use Rattle.qn_quorum.specs.Deadline.{deadline_at}

-- until when a yes counts, by its tick
abbrev pub agreed_until : Option Device → Option ℕ → Option Deadline
agreed_until None since = None
agreed_until (Some device) since = option_map (λ tick. deadline_at (tick + device.timeout)) since

-- The two times of a leased vote at a device: corosync-qdevice(8), `timeout`, told by a lease. This project's profile.
use Rattle.std.specs.Prelude.{ℕ, ◌+◌, ◌*◌, ◌/◌, max}
use Rattle.std.specs.Int.{div_ceil}
use Rattle.qn_model.specs.declared.configuration.Device.{Device}
use Rattle.qn_safety.specs.declared.lease.Lease.{Lease}

-- a fifth of the timeout, and 1 at least
abbrev pub limit_of : ℕ → ℕ
limit_of timeout = max (timeout / 5) 1

-- for so many milliseconds of a node a yes may count: with clocks one per cent off, the arbiter's lease is longer
abbrev pub lease_of : ℕ → ℕ
lease_of counted = div_ceil (101 * counted) 99 + 1

abbrev pub times_of : Device → Lease
times_of device =
    record { limit = limit_of device.timeout; lease = lease_of (limit_of device.timeout + device.timeout) }

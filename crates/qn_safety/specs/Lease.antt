-- The times of a leased vote: corosync-qdevice(8), `timeout` and `sync_timeout`, told by leases. This project's profile.
use Rattle.std.specs.Prelude.{Bool, false, ◌+◌, ◌-◌, ◌*◌, ◌&&◌, nat_le}
use Rattle.std.specs.Option.{option_map_or}
use Rattle.qn_base.specs.declared.limits.TheConstants.{LONGEST_PERIOD}
use Rattle.qn_model.specs.declared.configuration.Device.{Device}
use Rattle.qn_model.specs.declared.configuration.Settings.{Settings}
use Rattle.qn_model.specs.Rules.{is_between}
use Rattle.qn_safety.specs.declared.lease.Lease.{Lease}
use Rattle.qn_safety.specs.declared.lease.TheConstants.{LONGEST_LEASE}

-- both times are in range
abbrev pub is_in_range : Lease → Bool
is_in_range times = is_between 1 LONGEST_PERIOD times.limit && is_between 1 LONGEST_LEASE times.lease

-- with clocks one per cent off, a yes that was taken within the limit and counts below the device's timeout ends within
-- the lease
abbrev pub outlasts_yes : Lease → Device → Bool
outlasts_yes times device = nat_le (101 * (times.limit + device.timeout)) (99 * (times.lease - 1))

-- a safe lease
abbrev pub is_safe_lease : Settings → Lease → Bool
is_safe_lease s times = is_in_range times && option_map_or (outlasts_yes times) s.device false

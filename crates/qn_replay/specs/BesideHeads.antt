-- The head of a schedule beside an arbiter: that of a schedule, and then the line of the two times of a lease. This project's
-- profile.
use Rattle.std.specs.Prelude.{◌≡◌, ◌≤◌, ℕ, ◌+◌, true, List, Result, Ok, Err, if◌then◌else◌}
use Rattle.std.specs.Option.{option_map_or}
use Rattle.qn_playback.specs.declared.head.Head.{Head}
use Rattle.qn_playback.specs.Heads.{head_part, line_lines}
use Rattle.qn_playback.specs.Parts.{Given, Part, then_given}
use Rattle.qn_safety.specs.declared.lease.Lease.{Lease}
use Rattle.qn_safety.specs.Lease.{is_safe_lease}
use Rattle.qn_model.specs.declared.configuration.Settings.{Settings}
use Rattle.qn_model.specs.declared.line_fault.LineFault.{LineFault}
use Rattle.qn_model.specs.Lines.{Ending}
use Rattle.qn_model.specs.Settings.{IsValid}
use Rattle.qn_model.specs.Timing.{is_safe}
use Rattle.qn_sched.specs.declared.replay_end.ReplayEnd.{ReplayEnd}
use Rattle.qn_sched.specs.declared.replay_end.ReplayEnd.TheVariants.{BadSchedule, UnsafeLease}
use Rattle.qn_arbiter.specs.LeaseLine.{lease_of}
use Rattle.qn_replay.specs.declared.arbiter_head.ArbiterHead.{ArbiterHead}

-- the end at two times that are not safe: with the timeout of the device, or 0 without one
abbrev pub unsafe_end : Settings → Lease → ReplayEnd
unsafe_end s times = UnsafeLease (option_map_or (λ device. device.timeout) s.device 0) times.limit times.lease

abbrev pub safe_or_not : ℕ → Settings → Result Lease LineFault → Result Lease ReplayEnd
safe_or_not number s (Ok times) = if is_safe_lease s times then Ok times else Err (unsafe_end s times)
safe_or_not number s (Err fault) = Err (BadSchedule number fault)

-- the two safe times that the line of this number gives, or its first fault
abbrev pub lease_in : ℕ → Settings → List ℕ → Result Lease ReplayEnd
lease_in number s line = safe_or_not number s (lease_of line)

-- a head with these times, which is one line longer
abbrev pub head_with : Head → Lease → ArbiterHead
head_with head lease = record { settings = head.settings; timing = head.timing; lease = lease; lines = head.lines + 1 }

abbrev pub with_lease : Head → List (List ℕ) → Result Lease ReplayEnd → Given ArbiterHead
with_lease head rest (Ok lease) = Ok (head_with head lease, rest)
with_lease head rest (Err end) = Err end

abbrev pub lease_given : Head → List ℕ → List (List ℕ) → Given ArbiterHead
lease_given head line rest = with_lease head rest (lease_in (head.lines + 1) head.settings line)

-- the lease line after the head of a schedule
abbrev pub lease_lines : Head → Ending → List (List ℕ) → Given ArbiterHead
lease_lines head ending lines = then_given (line_lines head.lines ending lines) (lease_given head)

-- the head of a schedule beside an arbiter
abbrev pub arbiter_head_part : Part ArbiterHead
arbiter_head_part ending bytes = then_given (head_part ending bytes) (λ head rest. lease_lines head ending rest)

-- its settings are valid, its times and its lease are safe, and it has no more lines than its bytes may have
pub record IsGoodArbiterHead (head : ArbiterHead) : Type 0 where
  pub valid : IsValid head.settings
  pub safe : is_safe head.timing ≡ true
  pub safe_lease : is_safe_lease head.settings head.lease ≡ true
  pub few_lines : head.lines ≤ 4294967296

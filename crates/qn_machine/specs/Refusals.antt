-- When a line says how many datagrams were not handed on (this project's profile).
use Rattle.std.specs.Prelude.{ℕ, ◌+◌, ◌&&◌, Bool, true, nat_le, nat_lt, Option, Some, None, if◌then◌else◌}
use Rattle.qn_seal.specs.declared.receiver.Refused.TheVariants.{Unsealed, Astray, Old}
use Rattle.qn_peers.specs.declared.admission.Reason.{Reason}
use Rattle.qn_peers.specs.declared.admission.Reason.TheVariants.{Elsewhere, Sealed}
use Rattle.qn_machine.specs.declared.refusals.Refusals.{Refusals}
use Rattle.qn_io.specs.Counts.{one_more}

-- one more that was not handed on for that reason
abbrev pub counted : Refusals → Reason → Refusals
counted old Elsewhere = record old { elsewhere = one_more old.elsewhere }
counted old (Sealed Unsealed) = record old { unsealed = one_more old.unsealed }
counted old (Sealed Astray) = record old { astray = one_more old.astray }
counted old (Sealed Old) = record old { stale = one_more old.stale }

-- the last line is a minute ago, or there was none
abbrev pub is_minute_ago : Option ℕ → ℕ → Bool
is_minute_ago None tick = true
is_minute_ago (Some said) tick = nat_le (said + 60000) tick

-- a line is due: there is something to say, and the last one is a minute ago
abbrev pub is_due : Refusals → ℕ → Bool
is_due refusals tick =
    nat_lt 0 (refusals.unsealed + refusals.astray + refusals.stale + refusals.elsewhere) && is_minute_ago refusals.said tick

-- after a line at that tick
abbrev pub none_since : ℕ → Refusals
none_since tick = record { unsealed = 0; astray = 0; stale = 0; elsewhere = 0; said = Some tick }

-- after a moment at which a line is said where one is due
abbrev pub refusals_after : Refusals → ℕ → Refusals
refusals_after old tick = if is_due old tick then none_since tick else old

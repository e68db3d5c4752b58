-- Ends of spans of time against ticks.
use Rattle.std.proofs.Common.{◌≡◌, ℕ, ◌+◌, ◌^◌, ◌<◌, Bool, true, false, Option, None, Some, refl, ap, arith}
use Rattle.std.specs.Prelude.{nat_le, nat_lt, if◌then◌else◌}
use Rattle.std.proofs.lemmas.Bool.Decides.{nat_tests}
use Rattle.qn_model.specs.declared.configuration.Device.{Device}
use Rattle.qn_model.specs.Votes.{votes_of_device}
use Rattle.qn_quorum.specs.declared.deadlines.Deadline.TheVariants as deadline
use Rattle.std.specs.Option.{option_map_or}
use Rattle.qn_quorum.specs.Agreed.{agreed_until}
use Rattle.qn_quorum.specs.Deadline.{deadline_at, is_reached}

reached_by : (end now : ℕ) (fits : Bool) → now < 2 ^ 64 → nat_lt end (2 ^ 64) ≡ fits
    → is_reached (if fits then deadline.At end else deadline.Never) now ≡ nat_le end now
reached_by end now true small fits = refl
reached_by end now false small fits = grind (arith, nat_tests)

-- the end of a span is reached where the tick is not below it
pub reached : (end now : ℕ) → now < 2 ^ 64 → is_reached (deadline_at end) now ≡ nat_le end now
reached end now small = reached_by end now (nat_lt end (2 ^ 64)) small refl

until_tests : (end now votes : ℕ) (over : Bool) → over ≡ nat_le end now
    → (if over then 0 else votes) ≡ (if nat_lt now end then votes else 0)
until_tests end now votes over is = grind (arith, nat_tests)

-- the device's votes beside those of a view
beside : (end now votes own : ℕ) (over : Bool) → over ≡ nat_le end now
    → (if over then own else own + votes) ≡ own + (if nat_lt now end then votes else 0)
beside end now votes own true is = omega (arith, ap (λ n. own + n) (until_tests end now votes true is))
beside end now votes own false is = ap (λ n. own + n) (until_tests end now votes false is)

nothing_beside : (own : ℕ) (over : Bool) → (if over then own else own + 0) ≡ own + 0
nothing_beside own true = omega arith
nothing_beside own false = refl

-- the votes of a view with those of the device, under its standing yes
pub with_agreed_votes : (last_man_standing : Bool) (device : Option Device) (since : Option ℕ) (own now : ℕ) → now < 2 ^ 64
    → (if option_map_or (λ end. is_reached end now) (agreed_until device since) true then own
    else own + (if last_man_standing then 0 else option_map_or (λ d. d.votes) device 0))
    ≡ own + (if last_man_standing then 0 else option_map_or (λ d. votes_of_device d since now) device 0)
with_agreed_votes true device since own now small =
    nothing_beside own (option_map_or (λ end. is_reached end now) (agreed_until device since) true)
with_agreed_votes false None since own now small = omega arith
with_agreed_votes false (Some device) None own now small = omega arith
with_agreed_votes false (Some device) (Some since) own now small =
    beside (since + device.timeout) now device.votes own (is_reached (deadline_at (since + device.timeout)) now) (reached (since + device.timeout) now small)

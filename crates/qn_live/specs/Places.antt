-- How much a running node still has to do at each place: this project's profile.
use Rattle.std.specs.Prelude.{ℕ, ◌+◌, ◌-◌, ◌*◌}
use Rattle.qn_live.specs.declared.place.Place.{Place}
use Rattle.qn_live.specs.declared.place.Place.TheVariants as place
use Rattle.qn_live.specs.declared.place.Greeting.{Greeting}
use Rattle.qn_live.specs.declared.place.Greeting.TheVariants as greeting

-- how many entries of the present turn are still to be taken
abbrev pub pending : Place → ℕ
pending place.Receive = 1
pending (place.Now choice) = 1
pending (place.Act at) = 0
pending (place.Greet said to) = 0
pending (place.Poll poll greets) = 0
pending (place.Part view to) = 0
pending (place.Over end) = 0

-- at most so many calls a turn makes from here on
abbrev pub calls_of_greeting : Greeting → ℕ → ℕ
calls_of_greeting (greeting.Hello said standing) to = 40 + (33 - to)
calls_of_greeting (greeting.Announce view) to = 33 - to

-- at most so many calls a run makes from here on, where so many turns follow the present one
abbrev pub calls_left : Place → ℕ → ℕ
calls_left place.Receive after = 192 * after + 191
calls_left (place.Now choice) after = 192 * after + 190
calls_left (place.Act at) after = 192 * after + 120 + (41 - at)
calls_left (place.Poll poll greets) after = 192 * after + 115
calls_left (place.Greet said to) after = 192 * after + calls_of_greeting said to
calls_left (place.Part view to) after = 33 - to
calls_left (place.Over end) after = 0

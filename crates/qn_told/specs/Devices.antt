-- What a node tells of the arbiter that it polls (this project's profile, LIVE.md "The journal", VOTES.md "A node that polls").
use Rattle.std.specs.Prelude.{ℕ, ◌+◌, ◌-◌, ◌^◌, ◌==◌, ◌&&◌, ◌||◌, Bool, true, false, not, Option, Some, None, min, nat_le, nat_lt, if◌then◌else◌}
use Rattle.qn_told.specs.Losses.{differ}
use Rattle.qn_told.specs.declared.device.DeviceNews.{DeviceNews}
use Rattle.qn_told.specs.declared.entered.Entered.{Entered}
use Rattle.qn_told.specs.declared.entered.Entered.TheVariants.{Header, Mail, View, Device, Stopped, Nothing}
use Rattle.qn_shown.specs.declared.words.DeviceAnswer.{DeviceAnswer}
use Rattle.qn_shown.specs.declared.words.DeviceAnswer.TheVariants.{Yes, No, Silent}

-- of a node that polled none
abbrev pub unpolled : DeviceNews
unpolled = record { first = None; answer = None; heard = None; told = None; missed = None; polls = 0; yes = 0; no = 0 }

-- one more, a count that stays at its greatest number
abbrev pub more : ℕ → ℕ
more count = min (2 ^ 64 - 1) (count + 1)

abbrev pub first_of : Option ℕ → ℕ → ℕ
first_of (Some first) tick = first
first_of None tick = tick

abbrev pub polled : DeviceNews → ℕ → DeviceNews
polled news tick = record news { first = Some (first_of news.first tick); polls = more news.polls }

-- this answer was told last, in this view
abbrev pub is_told : Option (Bool × ℕ) → Bool → ℕ → Bool
is_told None agrees view = false
is_told (Some told) agrees view = not (differ told.0 agrees) && (told.1 == view)

-- an answer that is told: of a node that polled, where another one was told last
abbrev pub told_where : Option ℕ → Bool → Bool → Option Bool
told_where None is_same agrees = None
told_where (Some first) is_same agrees = if is_same then None else Some agrees

abbrev pub answer_told : DeviceNews → Bool → ℕ → Option Bool
answer_told news agrees view = told_where news.first (is_told news.told agrees view) agrees

abbrev pub counted : DeviceNews → Bool → DeviceNews
counted news agrees =
    record news { yes = if agrees then more news.yes else news.yes; no = if agrees then news.no else more news.no }

abbrev pub heard_where : Option ℕ → DeviceNews → Bool → ℕ → ℕ → DeviceNews
heard_where None news agrees tick view = news
heard_where (Some first) news agrees tick view =
    record (counted news agrees) { answer = Some agrees; heard = Some tick; missed = None; told = Some (agrees, view) }

abbrev pub after_hearing : DeviceNews → Bool → ℕ → ℕ → DeviceNews
after_hearing news agrees tick view = heard_where news.first news agrees tick view

abbrev pub answer_taken : DeviceNews → Entered → ℕ → Option Bool
answer_taken news (Header msgwait) view = None
answer_taken news (Mail seen) view = None
answer_taken news View view = None
answer_taken news (Device agrees) view = answer_told news agrees view
answer_taken news (Stopped ok) view = None
answer_taken news Nothing view = None

-- another view has no answer yet
abbrev pub after_taking : DeviceNews → Entered → ℕ → ℕ → DeviceNews
after_taking news (Header msgwait) tick view = news
after_taking news (Mail seen) tick view = news
after_taking news View tick view = record news { answer = None }
after_taking news (Device agrees) tick view = after_hearing news agrees tick view
after_taking news (Stopped ok) tick view = news
after_taking news Nothing tick view = news

-- for how long no answer came, since the first poll where none did
abbrev pub age_from : Option ℕ → Option ℕ → ℕ → Option ℕ
age_from None None tick = None
age_from None (Some first) tick = Some (tick - first)
age_from (Some heard) first tick = Some (tick - heard)

abbrev pub age_of : DeviceNews → ℕ → Option ℕ
age_of news tick = age_from news.heard news.first tick

-- the silence was told less than a minute ago
abbrev pub is_early : Option ℕ → ℕ → Bool
is_early None tick = false
is_early (Some missed) tick = nat_lt tick (min (2 ^ 64 - 1) (missed + 60000))

-- a silence that is told: of the device's timeout or more
abbrev pub silence_where : Option ℕ → Bool → ℕ → Option ℕ
silence_where None early timeout = None
silence_where (Some age) early timeout = if nat_lt age timeout || early then None else Some age

abbrev pub silence_told : DeviceNews → ℕ → ℕ → Option ℕ
silence_told news tick timeout = silence_where (age_of news tick) (is_early news.missed tick) timeout

abbrev pub missed_where : Option ℕ → Option ℕ → ℕ → Option ℕ
missed_where None before tick = before
missed_where (Some silent) before tick = Some tick

abbrev pub after_miss : DeviceNews → ℕ → ℕ → DeviceNews
after_miss news tick timeout = record news { missed = missed_where (silence_told news tick timeout) news.missed tick }

-- no answer came for the timeout
abbrev pub is_silent : Option ℕ → ℕ → Bool
is_silent None timeout = true
is_silent (Some age) timeout = nat_le timeout age

abbrev pub answer_where : Bool → Option Bool → DeviceAnswer
answer_where silent None = Silent
answer_where silent (Some true) = if silent then Silent else Yes
answer_where silent (Some false) = if silent then Silent else No

abbrev pub answer_at : DeviceNews → ℕ → ℕ → DeviceAnswer
answer_at news tick timeout = answer_where (is_silent (age_of news tick) timeout) news.answer

-- Which poller of the definition a poller in fixed memory is.
use Rattle.std.specs.Prelude.{ℕ, Option}
use Rattle.std.specs.Option.{option_map, option_map_or}
use Rattle.qn_safety.specs.Poller as lease
use Rattle.qn_polls.specs.declared.poller.Poller.{Poller}
use Rattle.qn_polls.specs.declared.poller.SentPoll.{SentPoll}
use Rattle.qn_polls.specs.declared.poller.Standing.{Standing}

-- a poll that was sent
abbrev pub sent_of : SentPoll → lease.SentPoll
sent_of sent = record { tick = sent.tick; poll = sent.poll }

-- the poller of the definition
abbrev pub poller_of : Poller → lease.Poller
poller_of poller = record { limit = poller.limit; count = poller.count; last = option_map sent_of poller.last }

-- how many polls a poller sent, where there is one
abbrev pub polls_of : Option Poller → ℕ
polls_of poller = option_map_or (λ one. one.count) poller 0

-- what a node shows in a poll
abbrev pub standing_of : Standing → lease.Standing
standing_of at = record { tick = at.tick; incarnation = at.incarnation; install = at.install; view = at.view }

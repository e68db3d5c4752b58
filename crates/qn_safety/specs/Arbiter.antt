-- What an arbiter answers, by the polls that it heard since its boot: this project's profile, for the part that
-- corosync-qnetd(8) has for a quorum device.
use Rattle.std.specs.Prelude.{ℕ, Bool, true, List, [], ◌∷◌, Option, ◌+◌, ◌==◌, ◌&&◌, ◌||◌, find, nat_le, nat_lt, not}
use Rattle.std.specs.List.{list_all, list_any, range_with_len}
use Rattle.std.specs.Option.{option_map_or}
use Rattle.qn_base.specs.declared.ids.Mask.{Mask}
use Rattle.qn_base.specs.Members.{is_member}
use Rattle.qn_safety.specs.declared.polls.Poll.{Poll}

-- a poll that was heard: the tick of the arbiter's clock then, and whether it gave its yes
pub record HeardPoll : Type 0 where
  pub tick : ℕ
  pub poll : Poll
  pub agrees : Bool

-- what an arbiter remembers in one boot of its own: the length of its lease, the tick of its boot, and the polls that it
-- heard since, newest first
pub record Memory : Type 0 where
  pub lease : ℕ
  pub began : ℕ
  pub heard : List HeardPoll

-- an arbiter that boots at a tick
abbrev pub fresh_memory : ℕ → ℕ → Memory
fresh_memory lease tick = record { lease = lease; began = tick; heard = [] }

-- a poll is of an earlier incarnation than another one, or of an earlier view in the same incarnation
abbrev pub is_older : Poll → Poll → Bool
is_older one other =
    nat_lt one.incarnation other.incarnation || (one.incarnation == other.incarnation && nat_lt one.install other.install)

-- two polls are of one rank
abbrev pub is_of_same_rank : Poll → Poll → Bool
is_of_same_rank one other = one.from.0 == other.from.0

-- no poll that was heard of the same rank, whatever its answer, has a greater pair of incarnation and install number
abbrev pub is_newest : List HeardPoll → Poll → Bool
is_newest heard poll = list_all (λ before. not (is_of_same_rank before.poll poll && is_older poll before.poll)) heard

-- the last poll of a rank that got a yes
abbrev pub last_yes : ℕ → List HeardPoll → Option HeardPoll
last_yes rank heard = find (λ before. before.agrees && before.poll.from.0 == rank) heard

-- two sets of nodes have a node in common
abbrev pub do_meet : Mask → Mask → Bool
do_meet one other = list_any (λ rank. is_member one rank && is_member other rank) (range_with_len 0 32)

-- a yes at an earlier tick still binds the arbiter at a tick: it is younger than the lease
abbrev pub is_live_yes : ℕ → ℕ → HeardPoll → Bool
is_live_yes lease tick before = nat_lt tick (before.tick + lease)

-- an earlier yes leaves the vote to a poll: it binds no longer, or its nodes meet those of the poll
abbrev pub leaves_vote : ℕ → ℕ → Poll → HeardPoll → Bool
leaves_vote lease tick poll before = not (is_live_yes lease tick before) || do_meet before.poll.view.members poll.view.members

-- the last yes of each other rank leaves the vote to a poll
abbrev pub is_vote_left : Memory → ℕ → Poll → Bool
is_vote_left memory tick poll =
    list_all (λ rank. rank == poll.from.0 || option_map_or (leaves_vote memory.lease tick poll) (last_yes rank memory.heard) true) (range_with_len 0 32)

-- whether the arbiter gives its yes to a poll that it hears at a tick: a lease has passed since its boot, no later poll of
-- that rank was heard, and no other rank's yes is in the way
abbrev pub gives_yes : Memory → ℕ → Poll → Bool
gives_yes memory tick poll =
    nat_le (memory.began + memory.lease) tick && is_newest memory.heard poll && is_vote_left memory tick poll

-- what the arbiter remembers after a poll
abbrev pub with_poll : ℕ → Poll → Memory → Memory
with_poll tick poll memory =
    record memory { heard = record { tick = tick; poll = poll; agrees = gives_yes memory tick poll } ∷ memory.heard }

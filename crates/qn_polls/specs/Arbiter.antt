-- What an arbiter in fixed memory stands for: what it remembers of the polls that it heard. Those of an arbiter stand newest
-- first.
use Rattle.std.specs.Prelude.{◌≡◌, ◌<◌, ℕ, Bool, true, List, [], ◌∷◌, Option, None, Some, ◌+◌, ◌==◌, ◌&&◌, ◌||◌, length, nat_lt, not, slice_get, slice_set, if◌then◌else◌}
use Rattle.std.specs.Option.{option_map, option_map_or}
use Rattle.qn_safety.specs.declared.polls.Poll.{Poll}
use Rattle.qn_safety.specs.Arbiter.{HeardPoll, Memory, do_meet, last_yes}
use Rattle.qn_polls.specs.declared.arbiter.Arbiter.{Arbiter}
use Rattle.qn_polls.specs.declared.arbiter.Installed.{Installed}
use Rattle.qn_polls.specs.declared.arbiter.Remembered.{Remembered}
use Rattle.qn_polls.specs.declared.arbiter.Yes.{Yes}

-- the incarnation and the install number of a poll
abbrev pub installed_in : Poll → Installed
installed_in poll = record { incarnation = poll.incarnation; install = poll.install }

-- a pair is of an earlier incarnation, or of an earlier view in the same incarnation
abbrev pub is_before : Installed → Installed → Bool
is_before one other =
    nat_lt one.incarnation other.incarnation || (one.incarnation == other.incarnation && nat_lt one.install other.install)

-- the later one of a pair and of another one, where there is another
abbrev pub later_of : Installed → Option Installed → Installed
later_of polled None = polled
later_of polled (Some newest) = if is_before polled newest then newest else polled

-- the greatest pair that a rank polled
unfoldable pub newest_of : ℕ → List HeardPoll → Option Installed
newest_of rank [] = None
newest_of rank (heard ∷ past) =
    if heard.poll.from.0 == rank then Some (later_of (installed_in heard.poll) (newest_of rank past)) else newest_of rank past

-- a yes that was given
abbrev pub yes_in : HeardPoll → Yes
yes_in heard = record { tick = heard.tick; members = heard.poll.view.members }

-- what is remembered of a rank
abbrev pub remembered_of : ℕ → List HeardPoll → Remembered
remembered_of rank heard = record { newest = newest_of rank heard; yes = option_map yes_in (last_yes rank heard) }

-- no later poll of the rank is remembered
abbrev pub is_allowed_by : Remembered → Poll → Bool
is_allowed_by kept poll = option_map_or (λ newest. not (is_before (installed_in poll) newest)) kept.newest true

-- a yes leaves the vote to a poll: it is no longer younger than the lease, or its members meet the polled view
abbrev pub yes_leaves : ℕ → ℕ → Poll → Yes → Bool
yes_leaves lease tick poll given = not (nat_lt tick (given.tick + lease)) || do_meet given.members poll.view.members

-- the last yes that is remembered leaves the vote to a poll
abbrev pub leaves_vote : Remembered → ℕ → ℕ → Poll → Bool
leaves_vote kept lease tick poll = option_map_or (yes_leaves lease tick poll) kept.yes true

-- so does that of a rank, unless the poll is its own
abbrev pub leaves_vote_at : Arbiter → ℕ → Poll → ℕ → Bool
leaves_vote_at arbiter tick poll rank =
    rank == poll.from.0 || option_map_or (λ kept. leaves_vote kept arbiter.lease tick poll) (slice_get arbiter.ranks rank) true

-- what is remembered after a poll of the rank that was answered at a tick
abbrev pub with_heard : Remembered → ℕ → Poll → Bool → Remembered
with_heard kept tick poll agrees =
    record {
      newest = Some (later_of (installed_in poll) kept.newest);
      yes = (if agrees then Some (record { tick = tick; members = poll.view.members }) else kept.yes);
    }

-- the arbiter after a poll that was answered at a tick
abbrev pub with_answer : ℕ → Poll → Bool → Arbiter → Arbiter
with_answer tick poll agrees arbiter =
    record arbiter {
      ranks = option_map_or (λ kept. slice_set arbiter.ranks poll.from.0 (with_heard kept tick poll agrees)) (slice_get arbiter.ranks poll.from.0) arbiter.ranks;
    }

-- an arbiter stands for what the definition remembers
pub record ArbiterFor (arbiter : Arbiter) (memory : Memory) : Type 0 where
  pub leases : arbiter.lease ≡ memory.lease
  pub boots : arbiter.began ≡ memory.began
  pub count : length arbiter.ranks ≡ 32
  pub ranks : (rank : ℕ) → rank < 32 → slice_get arbiter.ranks rank ≡ Some (remembered_of rank memory.heard)

-- What a node polls with, and which replies it takes: this project's profile, for the part that corosync-qdevice(8) has at
-- a node.
use Rattle.std.specs.Prelude.{ℕ, suc, Bool, false, Option, None, Some, ◌+◌, ◌==◌, ◌&&◌, nat_le, if◌then◌else◌}
use Rattle.std.specs.Option.{option_map_or}
use Rattle.qn_base.specs.declared.ids.Rank.{Rank}
use Rattle.qn_base.specs.declared.ids.View.{View}
use Rattle.qn_safety.specs.declared.polls.Poll.{Poll}
use Rattle.qn_safety.specs.declared.polls.Reply.{Reply}

-- what a node that may poll shows of itself: its tick, its incarnation, its install number and its view
pub record Standing : Type 0 where
  pub tick : ℕ
  pub incarnation : ℕ
  pub install : ℕ
  pub view : View

-- a poll that was sent, with the tick of its node then
pub record SentPoll : Type 0 where
  pub tick : ℕ
  pub poll : Poll

-- The poller of a node in one boot: its limit, the count of its polls, and its last poll, None where there is none since
-- the last view.
pub record Poller : Type 0 where
  pub limit : ℕ
  pub count : ℕ
  pub last : Option SentPoll

-- the poller of a node that boots
abbrev pub fresh_poller : ℕ → Poller
fresh_poller limit = record { limit = limit; count = 0; last = None }

-- the next poll of a node
abbrev pub next_poll : Rank → Standing → Poller → Poll
next_poll rank at poller =
    record { from = rank; number = poller.count; incarnation = at.incarnation; install = at.install; view = at.view }

-- the poller after its next poll
abbrev pub with_sent : Rank → Standing → Poller → Poller
with_sent rank at poller =
    record poller { count = suc poller.count; last = Some (record { tick = at.tick; poll = next_poll rank at poller }) }

-- the poller after a view, be it one that fits the node or not: it forgets its last poll
abbrev pub without_last : Poller → Poller
without_last poller = record poller { last = None }

-- a reply answers a poll: it has its number, incarnation and install number
abbrev pub is_reply_to : Poll → Reply → Bool
is_reply_to poll reply =
    poll.number == reply.number && poll.incarnation == reply.incarnation && poll.install == reply.install

-- a reply is taken at a tick: it answers the poll, which is at most the limit old
abbrev pub is_taken : ℕ → ℕ → Reply → SentPoll → Bool
is_taken limit tick reply sent = is_reply_to sent.poll reply && nat_le tick (sent.tick + limit)

-- what a node takes from a reply at a tick: its answer, or nothing
abbrev pub answer_taken : ℕ → Reply → Poller → Option Bool
answer_taken tick reply poller =
    if option_map_or (is_taken poller.limit tick reply) poller.last false then Some reply.agrees else None

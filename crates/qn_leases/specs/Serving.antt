-- The run of an arbiter as a plan: it receives, then looks at the clock, then answers. This project's profile.
use Rattle.std.specs.Prelude.{ℕ, zero, suc, true, Option, None, Some, nat_lt, if◌then◌else◌}
use Rattle.qn_base.specs.declared.calls.Call.TheVariants as call
use Rattle.qn_base.specs.declared.calls.Received.{Received}
use Rattle.qn_base.specs.declared.calls.Received.TheVariants as received
use Rattle.qn_base.specs.Plans.{Plan, Ends, Asks, ◌>>=◌}
use Rattle.qn_io.specs.Answered.{received_in, time_of}
use Rattle.qn_safety.specs.declared.polls.Poll.{Poll}
use Rattle.qn_safety.specs.declared.polls.Reply.{Reply}
use Rattle.qn_safety.specs.Arbiter.{Memory, fresh_memory, gives_yes, with_poll}
use Rattle.qn_polls.specs.Polls.{reply_bytes}
use Rattle.qn_polls.specs.Reading.{poll_of}
use Rattle.qn_leases.specs.declared.arbiter_end.ArbiterEnd.{ArbiterEnd}
use Rattle.qn_leases.specs.declared.arbiter_end.ArbiterEnd.TheVariants as end

-- what an arbiter knows between two turns: what it remembers, and the tick of its last look at the clock
pub record Serving : Type 0 where
  pub memory : Memory
  pub tick : ℕ

-- how a run ended, and what was remembered then
pub record Served : Type 0 where
  pub end : ArbiterEnd
  pub memory : Memory

-- how a turn ends: with the run, or with what the next turn begins from
pub data Turned : Type 0 where
  Over : ArbiterEnd → Turned
  Next : Serving → Turned

-- the poll that came, where it is one
abbrev pub poll_in : Received → Option Poll
poll_in (received.Packet bytes) = poll_of bytes
poll_in received.Nothing = None
poll_in received.Failed = None

-- the reply to a poll that is heard at a tick
abbrev pub reply_at : ℕ → Poll → Memory → Reply
reply_at tick poll memory =
    record {
      to = poll.from;
      number = poll.number;
      incarnation = poll.incarnation;
      install = poll.install;
      agrees = gives_yes memory tick poll;
    }

-- a packet is received
abbrev pub receive_plan : Plan (Option Poll)
receive_plan = Asks (call.Receive received.Nothing) (λ call. Ends (poll_in (received_in call)))

-- The poll is heard at a tick that was looked at after it came, and its answer is sent; that the send failed is passed over. What is
-- remembered does not hang on it.
unfoldable pub answer_plan : ℕ → Poll → Memory → Plan Memory
answer_plan tick poll memory =
    Asks (call.Send poll.from (reply_bytes (reply_at tick poll memory)) true) (λ call. Ends (with_poll tick poll memory))

-- the answer was sent
abbrev pub answered : ℕ → Memory → Plan Turned
answered tick memory = Ends (Next (record { memory = memory; tick = tick }))

-- the clock was looked at: a clock that goes back ends the run
unfoldable pub looked : Poll → Serving → ℕ → Plan Turned
looked poll st tick =
    if nat_lt tick st.tick then Ends (Over (end.ClockBack st.tick tick))
    else answer_plan tick poll st.memory >>= answered tick

abbrev pub look_plan : Plan ℕ
look_plan = Asks (call.Now 0) (λ call. Ends (time_of call))

-- no poll came: the clock is not looked at; or one came, and the clock is looked at now, and not before
abbrev pub heard : Serving → Option Poll → Plan Turned
heard st None = Ends (Next st)
heard st (Some poll) = look_plan >>= looked poll st

unfoldable pub turn_plan : Serving → Plan Turned
turn_plan st = receive_plan >>= heard st

-- after a turn the run is over, or it goes on
abbrev pub later : Memory → (Serving → Plan Served) → Turned → Plan Served
later before next (Over end) = Ends (record { end = end; memory = before })
later before next (Next st) = next st

-- so many turns
unfoldable pub turns_plan : ℕ → Serving → Plan Served
turns_plan zero st = Ends (record { end = end.Turns; memory = st.memory })
turns_plan (suc more) st = turn_plan st >>= later st.memory (turns_plan more)

-- The run of an arbiter of that lease of so many turns, once its port is open: it looks at the clock, and then it is one that boots at
-- that tick, and remembers nothing.
unfoldable pub arbiter_plan : ℕ → ℕ → Plan Served
arbiter_plan lease turns = look_plan >>= (λ tick. turns_plan turns (record { memory = fresh_memory lease tick; tick = tick }))

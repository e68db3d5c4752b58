-- Where a running arbiter stands between two calls, as a value, and where after a call: this project's profile.
use Rattle.std.specs.Prelude.{◌≡◌, ℕ, List, [], ◌∷◌, true, Option, None, Some, nat_lt, if◌then◌else◌}
use Rattle.qn_base.specs.declared.calls.Call.{Call}
use Rattle.qn_base.specs.declared.calls.Call.TheVariants as call
use Rattle.qn_base.specs.declared.calls.Received.TheVariants as received
use Rattle.qn_base.specs.Plans.{Plan, Ends, Asks, ◌>>=◌}
use Rattle.qn_io.specs.Answered.{received_in, time_of}
use Rattle.qn_safety.specs.declared.polls.Poll.{Poll}
use Rattle.qn_safety.specs.declared.polls.Reply.{Reply}
use Rattle.qn_safety.specs.Arbiter.{fresh_memory, with_poll}
use Rattle.qn_polls.specs.Polls.{reply_bytes}
use Rattle.qn_leases.specs.Serving.{Served, Serving, arbiter_plan, later, look_plan, looked, poll_in, reply_at, turns_plan}

-- the call that comes next
pub data Point : Type 0 where
  -- its port is open, and its clock is looked at for the first time
  Starting : Point
  -- a packet is received
  Waiting : Serving → Point
  -- a poll came: the clock is looked at
  Asked : Poll → Serving → Point
  -- the poll was heard, and its reply is sent
  Answering : Reply → Serving → Point
  -- none: the clock went back
  Stopped : Point

-- the call that is asked for, with no answer
abbrev pub asked_at : Point → Option Call
asked_at Starting = Some (call.Now 0)
asked_at (Waiting st) = Some (call.Receive received.Nothing)
asked_at (Asked poll st) = Some (call.Now 0)
asked_at (Answering reply st) = Some (call.Send reply.to (reply_bytes reply) true)
asked_at Stopped = None

abbrev pub waiting_with : Serving → Option Poll → Point
waiting_with st None = Waiting st
waiting_with st (Some poll) = Asked poll st

abbrev pub heard_at : Poll → Serving → ℕ → Point
heard_at poll st tick =
    if nat_lt tick st.tick then Stopped
    else Answering (reply_at tick poll st.memory) (record { memory = with_poll tick poll st.memory; tick = tick })

-- where an arbiter of that lease stands after a call with its answer
abbrev pub after_made : ℕ → Point → Call → Point
after_made lease Starting made = Waiting (record { memory = fresh_memory lease (time_of made); tick = time_of made })
after_made lease (Waiting st) made = waiting_with st (poll_in (received_in made))
after_made lease (Asked poll st) made = heard_at poll st (time_of made)
after_made lease (Answering reply st) made = Waiting st
after_made lease Stopped made = Stopped

-- what is left of the run of an arbiter of that lease that stands there, where so many turns are to come after the present one
abbrev pub StandsAt : ℕ → Point → ℕ → Plan Served → Type 0
StandsAt lease Starting more plan = plan ≡ arbiter_plan lease more
StandsAt lease (Waiting st) more plan = plan ≡ turns_plan more st
StandsAt lease (Asked poll st) more plan = plan ≡ (look_plan >>= looked poll st) >>= later st.memory (turns_plan more)
StandsAt lease (Answering reply st) more plan = plan ≡ Asks (call.Send reply.to (reply_bytes reply) true) (λ call. turns_plan more st)
StandsAt lease Stopped more plan = (served : Served) × (plan ≡ Ends served)

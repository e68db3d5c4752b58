-- The points of a running arbiter are those of its plan.
use Rattle.std.proofs.Common.{◌≡◌, ℕ, zero, suc, Bool, true, false, Option, None, Some, nat_lt, if◌then◌else◌, refl, sym, ap, ◌∙◌}
use Rattle.qn_base.specs.declared.calls.Call.{Call}
use Rattle.qn_base.specs.declared.calls.Call.TheVariants as call
use Rattle.qn_base.specs.Calls.{blank}
use Rattle.qn_base.specs.Plans.{Plan, Ends, Asks, ◌>>=◌, left, question}
use Rattle.qn_io.specs.Answered.{received_in, time_of}
use Rattle.qn_safety.specs.declared.polls.Poll.{Poll}
use Rattle.qn_safety.specs.Arbiter.{fresh_memory, with_poll}
use Rattle.qn_leases.specs.declared.arbiter_end.ArbiterEnd.TheVariants as end
use Rattle.qn_leases.specs.Points.{Answering, Asked, Point, StandsAt, Starting, Stopped, Waiting, after_made, asked_at, heard_at, waiting_with}
use Rattle.qn_leases.specs.Serving.{Next, Over, Served, Serving, Turned, answer_plan, answered, arbiter_plan, heard, later, look_plan, looked, poll_in, receive_plan, reply_at, turn_plan, turns_plan}

-- a plan that is over asks for nothing
over_asks_none : {P : Type 0} (plan : Plan Served) (served : Served) (asked : Call) → plan ≡ Ends served → question plan ≡ Some asked → P
over_asks_none plan served asked is next = absurd (let none : None ≡ Some asked = sym (ap question is) ∙ next in cc)

-- a plan that asks for one call asks for no other
asks_one : (plan : Plan Served) (wanted asked : Call) (rest : Call → Plan Served) → plan ≡ Asks wanted rest → question plan ≡ Some asked → Some wanted ≡ Some asked
asks_one plan wanted asked rest is next = sym (ap question is) ∙ next

pub asks_there : (lease : ℕ) (point : Point) (more : ℕ) (plan : Plan Served) (asked : Call) → StandsAt lease point more plan → question plan ≡ Some asked
    → asked_at point ≡ Some asked
unfolding arbiter_plan turns_plan turn_plan
asks_there lease Starting more plan asked is next = sym (ap question is) ∙ next
asks_there lease (Waiting st) zero plan asked is next = over_asks_none plan _ asked is next
asks_there lease (Waiting st) (suc more) plan asked is next = sym (ap question is) ∙ next
asks_there lease (Asked poll st) more plan asked is next = sym (ap question is) ∙ next
asks_there lease (Answering reply st) more plan asked is next = sym (ap question is) ∙ next
asks_there lease Stopped more plan asked is next = over_asks_none plan is.0 asked is.1 next

abbrev GoesOn : ℕ → Point → Plan Served → Type 0
GoesOn lease point plan = (more : ℕ) × StandsAt lease point more plan

after_receive : (lease : ℕ) (st : Serving) (more : ℕ) (plan : Plan Served) (came : Option Poll) → plan ≡ heard st came >>= later st.memory (turns_plan more)
    → GoesOn lease (waiting_with st came) plan
after_receive lease st more plan None is = (more, is)
after_receive lease st more plan (Some poll) is = (more, is)

after_look : (lease : ℕ) (poll : Poll) (st : Serving) (more tick : ℕ) (plan : Plan Served) (back : Bool)
    → plan ≡ (if back then Ends (Over (end.ClockBack st.tick tick)) else answer_plan tick poll st.memory >>= answered tick) >>= later st.memory (turns_plan more)
    → GoesOn lease (if back then Stopped else Answering (reply_at tick poll st.memory) (record { memory = with_poll tick poll st.memory; tick = tick })) plan
unfolding answer_plan
after_look lease poll st more tick plan true is = (more, (record { end = end.ClockBack st.tick tick; memory = st.memory }, is))
after_look lease poll st more tick plan false is = (more, is)

pub goes_on_there : (lease : ℕ) (point : Point) (more : ℕ) (plan : Plan Served) (made : Call) → StandsAt lease point more plan → question plan ≡ Some (blank made)
    → GoesOn lease (after_made lease point made) (left plan made)
unfolding arbiter_plan turns_plan turn_plan looked
goes_on_there lease Starting more plan made is next = (more, ap (λ (p : Plan Served). left p made) is)
goes_on_there lease (Waiting st) zero plan made is next = over_asks_none plan _ (blank made) is next
goes_on_there lease (Waiting st) (suc more) plan made is next =
    after_receive lease st more (left plan made) (poll_in (received_in made)) (ap (λ (p : Plan Served). left p made) is)
goes_on_there lease (Asked poll st) more plan made is next =
    after_look lease poll st more (time_of made) (left plan made) (nat_lt (time_of made) st.tick) (ap (λ (p : Plan Served). left p made) is)
goes_on_there lease (Answering reply st) more plan made is next = (more, ap (λ (p : Plan Served). left p made) is)
goes_on_there lease Stopped more plan made is next = over_asks_none plan is.0 (blank made) is.1 next

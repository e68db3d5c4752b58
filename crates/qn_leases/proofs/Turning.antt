-- How the calls of an arbiter's turns join.
use Rattle.std.proofs.Common.{◌≡◌, ℕ, zero, suc, true, false, List, Option, None, Some, nat_lt, refl}
use Rattle.qn_base.specs.declared.calls.Call.{Call}
use Rattle.qn_base.specs.Plans.{Plan, Did, At}
use Rattle.qn_base.specs.PlanSteps.{at_start, at_then, at_end, did_none, did_map, did_then}
use Rattle.qn_safety.specs.declared.polls.Poll.{Poll}
use Rattle.qn_safety.specs.Arbiter.{fresh_memory, with_poll}
use Rattle.qn_leases.specs.declared.arbiter_end.ArbiterEnd.{ArbiterEnd}
use Rattle.qn_leases.specs.declared.arbiter_end.ArbiterEnd.TheVariants as end
use Rattle.qn_leases.specs.Serving.{Serving, Served, Over, Next, answer_plan, answered, arbiter_plan, heard, later, look_plan, looked, receive_plan, turn_plan, turns_plan}

-- the first look is behind
pub began : {f g : ℕ} {a b : Option (List Call)} (lease turns tick : ℕ) → Did f g a b look_plan tick
    → At f g a b (arbiter_plan lease turns) (turns_plan turns (record { memory = fresh_memory lease tick; tick = tick }))
unfolding arbiter_plan
began lease turns tick did =
    at_then (λ tick. turns_plan turns (record { memory = fresh_memory lease tick; tick = tick })) (at_start _ _ _) did

-- a turn was taken, and the next one is to come
pub went_on : {f g h : ℕ} {a b c : Option (List Call)} {whole : Plan Served} (left more : ℕ) (st st' : Serving) → left ≡ suc more
    → At f g a b whole (turns_plan left st) → Did g h b c (turn_plan st) (Next st') → At f h a c whole (turns_plan more st')
unfolding turns_plan
went_on left more st st' is before did = at_then (later st.memory (turns_plan more)) (rw is at before) did

-- a turn ended the run
pub stopped : {f g h : ℕ} {a b c : Option (List Call)} {whole : Plan Served} (left more : ℕ) (st : Serving) (end : ArbiterEnd) → left ≡ suc more
    → At f g a b whole (turns_plan left st) → Did g h b c (turn_plan st) (Over end) → Did f h a c whole (record { end = end; memory = st.memory })
unfolding turns_plan
stopped left more st end is before did = at_end (at_then (later st.memory (turns_plan more)) (rw is at before) did) (did_none _ _ _)

-- no turn is left
pub ran_out : {f g : ℕ} {a b : Option (List Call)} {whole : Plan Served} (left : ℕ) (st : Serving) → left ≡ zero
    → At f g a b whole (turns_plan left st) → Did f g a b whole (record { end = end.Turns; memory = st.memory })
unfolding turns_plan
ran_out left st is before = at_end (rw is at before) (did_none _ _ _)

-- no poll came
pub heard_none : {f g : ℕ} {a b : Option (List Call)} (st : Serving) → Did f g a b receive_plan None → Did f g a b (turn_plan st) (Next st)
unfolding turn_plan
heard_none st did = did_map (heard st) (Next st) did (refl, refl)

-- a poll came, and the clock had gone back
pub went_back : {f g h : ℕ} {a b c : Option (List Call)} (st : Serving) (poll : Poll) (tick : ℕ) → nat_lt tick st.tick ≡ true
    → Did f g a b receive_plan (Some poll) → Did g h b c look_plan tick → Did f h a c (turn_plan st) (Over (end.ClockBack st.tick tick))
unfolding turn_plan looked
went_back st poll tick back came saw =
    did_then (heard st) (Over (end.ClockBack st.tick tick)) came (did_map (looked poll st) (Over (end.ClockBack st.tick tick)) saw (rw back (refl, refl)))

-- a poll came, the clock was looked at, and the answer was sent
pub answered_poll : {f g h i : ℕ} {a b c d : Option (List Call)} (st : Serving) (poll : Poll) (tick : ℕ) → nat_lt tick st.tick ≡ false
    → Did f g a b receive_plan (Some poll) → Did g h b c look_plan tick → Did h i c d (answer_plan tick poll st.memory) (with_poll tick poll st.memory)
    → Did f i a d (turn_plan st) (Next (record { memory = with_poll tick poll st.memory; tick = tick }))
unfolding turn_plan looked
answered_poll st poll tick on came saw sent =
    let next = Next (record { memory = with_poll tick poll st.memory; tick = tick }) in
    did_then (heard st) next came (did_then (looked poll st) next saw (rw on (did_map (answered tick) next sent (refl, refl))))

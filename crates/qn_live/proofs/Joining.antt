-- How a running node goes from one call to the next: what is left of its plan, moment by moment.
use Rattle.std.proofs.Common.{◌≡◌, ◌≤◌, ◌<◌, ℕ, suc, Bool, true, false, not, ◌+◌, ◌-◌, ◌==◌, List, [], ◌∷◌, length, drop, filter, Option, None, Some, option_map, refl, sym, ap, ◌∙◌, arith}
use Rattle.std.specs.Prelude.{slice_get, nat_lt}
use Rattle.std.specs.List.{range_with_len}
use Rattle.std.specs.Option.{option_map_or}
use Rattle.std.proofs.lemmas.Bool.Decides.{nat_tests}
use Rattle.std.proofs.lemmas.List.{drop_all, drop_more}
use Rattle.std.proofs.lemmas.Option.{get_or_from_slice_get, slice_get_within}
use Rattle.qn_base.specs.declared.calls.Call.{Call}
use Rattle.qn_base.specs.declared.ids.View.{View}
use Rattle.qn_base.specs.Plans.{Plan, Ends, Asks, ◌>>=◌, question, left}
use Rattle.qn_model.specs.declared.configuration.Settings.{Settings}
use Rattle.qn_model.specs.declared.entries.What.{What}
use Rattle.qn_model.specs.declared.outputs.Out.{Out}
use Rattle.qn_model.specs.Holding.{holds}
use Rattle.qn_model.specs.Log.{Line, now}
use Rattle.qn_model.specs.Moments.{begin_of}
use Rattle.qn_model.specs.NodeOutputs.{newest_outs, with_entry}
use Rattle.qn_model.specs.Wanted.{rank_of}
use Rattle.qn_member.specs.Naming.{NamingMaker}
use Rattle.qn_member.specs.NamingViews.{after_naming_hello_due}
use Rattle.qn_live.specs.declared.live_end.LiveEnd.{LiveEnd}
use Rattle.qn_live.specs.declared.live_end.LiveEnd.TheVariants as end
use Rattle.qn_live.specs.declared.place.Choice.{Choice}
use Rattle.qn_live.specs.declared.place.Choice.TheVariants as choice
use Rattle.qn_live.specs.declared.place.Greeting.{Greeting}
use Rattle.qn_live.specs.declared.place.Greeting.TheVariants as greeting
use Rattle.qn_live.specs.declared.place.Waits.{Waits}
use Rattle.qn_live.specs.declared.words.Words.{Words}
use Rattle.qn_live.specs.declared.run.NodeRun.{NodeRun}
use Rattle.qn_safety.specs.Poller.{Poller}
use Rattle.qn_live.specs.Polling.{answered_at, answered, poll_due, poll_plan, polled, poller_after, polls_after}
use Rattle.std.specs.Prelude.{is_some}
use Rattle.qn_base.specs.declared.calls.Received.{Received}
use Rattle.qn_polls.specs.declared.poller.Poller.{Poller as CodePoller}
use Rattle.qn_polls.specs.Poller.{poller_of}
use Rattle.qn_live.specs.Choosing.{choice_in, choice_plan, choice_where, failed_answer, heard_request, is_late, is_to_leave, look_after, looked, looking, open_plan, ready, receive_plan}
use Rattle.qn_live.specs.Greetings.{farewell_after, farewells, greeting_call, greeting_packet, hellos_where, is_due, maker_of, others_from, sends_plan, to_each, to_send}
use Rattle.qn_safety.specs.declared.polls.Poll.{Poll}
use Rattle.qn_live.specs.Machine.{SameBeside, Stands, polling, RunFor, acting, next_of, parting, saying, state_of}
use Rattle.qn_live.specs.Performing.{end_in, noted, out_call, outs_plan, own_number}
use Rattle.qn_live.specs.Running.{RunState, Turned, Over, Next, Ran, first_state, later}
use Rattle.qn_live.specs.Runs.{clocked, greeted, handled, live_plan, looked_at, loop_after, parted, run_plan, settled, timed, turn_plan, turns_end}
use Rattle.qn_live.specs.Words.{own_by, words_at}

-- the call that was made is the one that the plan asks for
pub asked_call : {A : Type 0} {plan : Plan A} {wanted : Call} {rest : Call → Plan A} {made : Call} → plan ≡ Asks wanted rest → question plan ≡ Some made → made ≡ wanted
asked_call {plan} {wanted} {rest} {made} is asked =
    let same : Some made ≡ Some wanted = sym asked ∙ ap question is in cc

-- what is left after it
pub left_call : {A : Type 0} {plan : Plan A} {wanted : Call} {rest : Call → Plan A} (made : Call) → plan ≡ Asks wanted rest → left plan made ≡ rest made
left_call made is = ap (λ plan. left plan made) is

-- a machine that stands for a plan stands for an equal one
pub stands_too : {run : NodeRun} {plan other : Plan Ran} → other ≡ plan → RunFor run plan → RunFor run other
stands_too same h = record { log = h.log; stands = h.stands; more = h.more; is_left = same ∙ h.is_left }

-- whether there is a poller is known of that in memory
pub choice_by_poller : (poller : Option CodePoller) (me : ℕ) (got : Received) → choice_where (is_some poller) me got ≡ choice_in me (option_map poller_of poller) got
choice_by_poller None me got = refl
choice_by_poller (Some poller) me got = refl

module _ (s : Settings) (me : ℕ) where
  -- the first turn takes the entry that begins the boot
  pub live_left : (clean : Bool) (leave polls : Option ℕ) (turns : ℕ) (entry : What) → entry ≡ begin_of clean → live_plan s me clean leave polls turns ≡ timed s me (choice.Whole entry, first_state polls) >>= later (run_plan s me leave 2 (turns - 1))
  unfolding live_plan
  live_left clean leave polls turns entry is = rw is refl

  module _ (leave : Option ℕ) (turn : ℕ) (st : RunState) (next : RunState → Plan Ran) (leaves : Bool) (to_leave : leaves ≡ is_to_leave s leave turn st) where
    -- the test of the turn's number is known
    by_test : turn_plan s me leave turn st >>= later next ≡ (choice_plan me leaves st >>= timed s me) >>= later next
    by_test = ap (λ l. (choice_plan me l st >>= timed s me) >>= later next) (sym to_leave)

    -- a turn that needs no packet
    pub turn_ready : (entry : What) (waits : Waits) → ready leaves st.rests st.waits ≡ Some (entry, waits) → turn_plan s me leave turn st >>= later next ≡ timed s me (choice.Whole entry, record st { waits = waits }) >>= later next
    unfolding choice_plan
    turn_ready entry waits found =
        by_test
        ∙ ap
        (λ found. (option_map_or (λ taken. Ends (choice.Whole taken.0, record st { waits = taken.1 })) found (open_plan me st (is_late st)) >>= timed s me) >>= later next)
        found

    -- a turn that needs a packet, by whether the last look is late
    of_late : (late : Bool) → ready leaves st.rests st.waits ≡ None → is_late st ≡ late → turn_plan s me leave turn st >>= later next ≡ (open_plan me st late >>= timed s me) >>= later next
    unfolding choice_plan
    of_late late found is =
        by_test
        ∙ ap
        (λ found. (option_map_or (λ taken. Ends (choice.Whole taken.0, record st { waits = taken.1 })) found (open_plan me st (is_late st)) >>= timed s me) >>= later next)
        found
        ∙ ap (λ late. (open_plan me st late >>= timed s me) >>= later next) is

    -- a turn that takes nothing, and looks
    pub turn_late : ready leaves st.rests st.waits ≡ None → is_late st ≡ true → turn_plan s me leave turn st >>= later next ≡ timed s me (choice.Open None, st) >>= later next
    turn_late found late = of_late true found late

    -- a turn that receives
    pub turn_open : ready leaves st.rests st.waits ≡ None → is_late st ≡ false → turn_plan s me leave turn st >>= later next ≡ ((receive_plan >>= (λ got. Ends (choice_in me st.poller got, heard_request got st))) >>= timed s me) >>= later next
    turn_open found in_time = of_late false found in_time

  -- no turn follows
  pub run_over : (leave : Option ℕ) (turn after : ℕ) (st : RunState) → after ≡ 0 → run_plan s me leave turn after st ≡ Ends (record { end = turns_end s me st.log; log = st.log })
  unfolding run_plan
  run_over leave turn after st none = ap (λ n. run_plan s me leave turn n st) none

  -- a turn follows
  pub run_more : (leave : Option ℕ) (turn after : ℕ) (st : RunState) → 0 < after → run_plan s me leave turn after st ≡ turn_plan s me leave turn st >>= later (run_plan s me leave (turn + 1) (after - 1))
  unfolding run_plan
  run_more leave turn after st some =
      let one : after ≡ suc (after - 1) = omega arith in ap (λ n. run_plan s me leave turn n st) one

  -- the clock went back
  pub clocked_back : (choice : Choice) (st : RunState) (before tick : ℕ) → before ≡ now st.log → tick < before → clocked s me (choice, st) tick ≡ Ends (Over (end.ClockBack before tick) st.log)
  unfolding clocked
  clocked_back choice st before tick at less =
      let back : nat_lt tick (now st.log) ≡ true = grind (arith, nat_tests) in rw at (rw back refl)

  -- the entry at its tick, and its outputs
  pub clocked_on : (choice : Choice) (st : RunState) (tick : ℕ) (maker : Option NamingMaker) (entry : What) (loop : ℕ) (rests : Bool) (last : ℕ) (words : Words) (poller : Option Poller) (from : ℕ) (outs : List Out) → now st.log ≤ tick → looked tick (own_by words (holds st.log)) (answered_at tick st.poller choice) st.maker ≡ (maker, entry) → loop ≡ loop_after entry st.loop_ms → rests ≡ failed_answer entry → last ≡ look_after tick (answered_at tick st.poller choice) st.maker st.last_look → words ≡ words_at tick st.loop_ms (holds st.log) st.words → poller ≡ poller_after entry st.poller → from ≡ polls_after tick loop st.log entry st.polls_from → outs ≡ newest_outs (with_entry s me st.log (record { tick = tick; what = entry })) → clocked s me (choice, st) tick ≡ outs_plan s me (record { log = with_entry s me st.log (record { tick = tick; what = entry }); loop_ms = loop; maker = maker; waits = st.waits; rests = rests; last_look = last; asked = st.asked; words = words; poller = poller; polls_from = from }) outs >>= settled s me entry outs
  unfolding clocked handled
  clocked_on choice st tick maker entry loop rests last words poller from outs not_back looks is_loop is_rests is_last is_words is_poller is_from is_outs =
      let on : nat_lt tick (now st.log) ≡ false = grind (arith, nat_tests) in
      let first : clocked s me (choice, st) tick ≡ handled s me (looking tick (answered tick (choice, st))) tick (looked_at tick (answered tick (choice, st))) = rw on refl in
      let found : looked_at tick (answered tick (choice, st)) ≡ (maker, entry) = ap (λ (w : Words). looked tick (own_by w (holds st.log)) (answered_at tick st.poller choice) st.maker) (sym is_words) ∙ looks in
      first ∙ ap (λ found. handled s me (looking tick (answered tick (choice, st))) tick found) found ∙ rw (is_from, is_loop, is_rests, is_last, is_words, is_poller, is_outs) refl

  module _ (entry : What) (outs : List Out) (st : RunState) where
    -- an output ended the run
    pub settled_over : (end : LiveEnd) → end_in entry outs ≡ Some end → settled s me entry outs st ≡ parted s me end st
    unfolding settled
    settled_over end ended = rw ended refl

    -- none did
    pub settled_on : end_in entry outs ≡ None → settled s me entry outs st ≡ greeted s me entry st
    unfolding settled
    settled_on goes_on = rw goes_on refl

  -- a run that is over with no farewell
  pub parted_silent : (how : LiveEnd) (st : RunState) → farewell_after how st.maker ≡ None → parted s me how st ≡ Ends (Over how st.log)
  unfolding parted sends_plan
  parted_silent how st none = rw none refl

  -- a run that is over with one
  pub parted_telling : (how : LiveEnd) (st : RunState) (view : View) → farewell_after how st.maker ≡ Some view → how ≡ end.Left true → parted s me how st ≡ sends_plan (farewells s me view 0) >>= (λ sent. Ends (Over (end.Left true) st.log))
  unfolding parted
  parted_telling how st view some clean = rw some (ap (λ e. sends_plan (farewells s me view 0) >>= (λ sent. Ends (Over e st.log))) clean)

  -- the Hellos of a turn, by whether they are due
  unfoldable pub hellos : RunState → Option NamingMaker → Bool → Plan Turned
  hellos st maker due =
      sends_plan (hellos_where due s me maker) >>= (λ sent. Ends (Next (record st { maker = maker })))

  pub greeted_by : (entry : What) (st : RunState) (tick : ℕ) (present asked : Option NamingMaker) (due : Bool) → tick ≡ now st.log → present ≡ maker_of s me st → asked ≡ option_map (after_naming_hello_due tick) present → due ≡ is_due tick present → greeted s me entry st ≡ poll_plan (poll_due s me due entry (record st { maker = asked })) >>= (λ told. hellos (polled s me due entry (record st { maker = asked })) asked due)
  unfolding greeted hellos
  greeted_by entry st tick present asked due at is_present is_asked when_due = rw (when_due, is_asked, is_present, at) refl

  -- the outputs of an entry are done
  pub outs_over : (st : RunState) (outs : List Out) (at : ℕ) → length outs ≤ at → outs_plan s me st (drop at outs) ≡ Ends st
  unfolding outs_plan
  outs_over st outs at over = rw (drop_all at outs over) refl

  -- the next output of an entry
  pub outs_more : (st : RunState) (outs : List Out) (at : ℕ) (o : Out) → slice_get outs at ≡ Some o → outs_plan s me st (drop at outs) ≡ Asks (out_call s me (own_number st.log) o) (λ call. outs_plan s me (noted s o call st) (drop (at + 1) outs))
  unfolding outs_plan
  outs_more st outs at o found =
      let within = slice_get_within outs at o found in
      let more : drop at outs ≡ o ∷ drop (at + 1) outs =
      drop_more outs at o within ∙ ap (λ x. x ∷ drop (at + 1) outs) (get_or_from_slice_get outs at o o found) in
      rw more refl

  -- the next rank of a greeting
  pub others_more : (to : ℕ) → to < length s.nodes → (to == me) ≡ false → others_from s me to ≡ to ∷ others_from s me (to + 1)
  others_more to within other =
      let count : length s.nodes - to ≡ suc (length s.nodes - (to + 1)) = omega arith in
      ap (λ n. filter (λ rank. not (rank == me)) (range_with_len to n)) count ∙ rw other refl

  pub to_send_more : (maker : Option NamingMaker) (said : Greeting) (to : ℕ) → to < length s.nodes → (to == me) ≡ false → to_send s me maker said to ≡ record { to = rank_of to; packet = greeting_packet me said } ∷ to_send s me maker said (to + 1)
  to_send_more maker said to within other = rw (others_more to within other) refl

module _ (run : NodeRun) (log : List Line) where
  -- no greeting is left
  pub said_all : saying run log [] ≡ next_of run (state_of run log)
  unfolding sends_plan
  said_all = refl

  -- a greeting is next
  pub saying_more : (said : Greeting) (to : ℕ) → to < length run.settings.nodes → (to == run.me.0) ≡ false → saying run log (to_send run.settings run.me.0 run.member said to) ≡ Asks (greeting_call run.me.0 said to) (λ call. saying run log (to_send run.settings run.me.0 run.member said (to + 1)))
  unfolding sends_plan
  saying_more said to within other =
      ap (λ sents. saying run log sents) (to_send_more run.settings run.me.0 run.member said to within other)

  -- no farewell is left
  pub parted_all : parting run log [] ≡ Ends (record { end = end.Left true; log = log })
  unfolding sends_plan
  parted_all = refl

  -- a farewell is next
  pub parting_more : (view : View) (to : ℕ) → to < length run.settings.nodes → (to == run.me.0) ≡ false → parting run log (farewells run.settings run.me.0 view to) ≡ Asks (greeting_call run.me.0 (greeting.Announce view) to) (λ call. parting run log (farewells run.settings run.me.0 view (to + 1)))
  unfolding sends_plan
  parting_more view to within other =
      ap (λ ranks. parting run log (to_each (greeting_packet run.me.0 (greeting.Announce view)) ranks)) (others_more run.settings run.me.0 to within other)

-- an output is next
pub acting_more : (run : NodeRun) (st : RunState) (at : ℕ) (o : Out) → slice_get run.outs at ≡ Some o → acting run st at ≡ Asks (out_call run.settings run.me.0 (own_number st.log) o) (λ call. acting run (noted run.settings o call st) (at + 1))
acting_more run st at o found =
    ap (λ p. (p >>= settled run.settings run.me.0 run.entry run.outs) >>= later (next_of run)) (outs_more run.settings run.me.0 st run.outs at o found)

-- A machine whose poller alone differs says what the other says, and stands for its log.
module _ (one other : NodeRun) (only : SameBeside one other) (log : List Line) where
  pub stands_beside : Stands one log → Stands other log
  stands_beside h =
      record {
        valid = rw only.settings h.valid;
        stands = rw (only.node, only.settings, only.me) h.stands;
        at = only.tick ∙ h.at;
      }

  pub saying_beside : (st : RunState) (due : Bool) → state_of other log ≡ st
      → (sends_plan (hellos_where due one.settings one.me.0 one.member) >>= (λ sent. Ends (Next st))) >>= later (next_of one)
      ≡ saying other log (hellos_where due other.settings other.me.0 other.member)
  saying_beside st due same =
      let f = λ (st : RunState). (sends_plan (hellos_where due other.settings other.me.0 other.member) >>= (λ sent. Ends (Next st))) >>= later (next_of other) in
      rw (sym only.settings, sym only.me, sym only.member, sym only.leave_at, sym only.turn, sym only.after) (ap f (sym same))

  pub polling_beside : (st : RunState) (poll : Poll) (due : Bool) → state_of other log ≡ st
      → (poll_plan (Some poll) >>= (λ told. sends_plan (hellos_where due one.settings one.me.0 one.member) >>= (λ sent. Ends (Next st)))) >>= later (next_of one)
      ≡ polling other log poll due
  polling_beside st poll due same =
      let f = λ (st : RunState). (poll_plan (Some poll) >>= (λ told. sends_plan (hellos_where due other.settings other.me.0 other.member) >>= (λ sent. Ends (Next st)))) >>= later (next_of other) in
      rw (sym only.settings, sym only.me, sym only.member, sym only.leave_at, sym only.turn, sym only.after) (ap f (sym same))

-- From joint to joint: the clock of a node that is up runs beside true time, and each of its calls is one that may return.
use Rattle.std.proofs.Common.{◌≡◌, ◌⊎◌, inl, inr, ℕ, ◌+◌, ◌*◌, ◌<◌, ◌≤◌, true, List, [], ◌∷◌, Some, length, sym, ◌∙◌, ap, subst, arith}
use Rattle.std.proofs.lemmas.Bool.{cases_lt, false≢true}
use Rattle.qn_base.specs.declared.calls.Call.{Call}
use Rattle.qn_base.specs.declared.calls.Call.TheVariants as call
use Rattle.qn_base.specs.Calls.{blank}
use Rattle.qn_base.specs.Plans.{question}
use Rattle.qn_io.specs.Answered.{time_of}
use Rattle.qn_model.specs.declared.configuration.Settings.{Settings}
use Rattle.qn_model.specs.declared.events.Event.{Event}
use Rattle.qn_model.specs.declared.life.Phase.TheVariants.{Up}
use Rattle.qn_model.specs.declared.times.Timing.{Timing}
use Rattle.qn_model.specs.Log.{Line, now}
use Rattle.qn_model.specs.Moments.{Before, Itself, Later, Moment, node, tick_of, time}
use Rattle.qn_model.specs.Phases.{is_live, phase}
use Rattle.qn_model.specs.Steps.{run}
use Rattle.qn_safety.specs.AnyNumbers.{AllMay}
use Rattle.qn_safety.specs.Clocks.{RunsOn, clock}
use Rattle.qn_safety.specs.Earlier.{before_length, before_same, before_tail, before_then}
use Rattle.qn_safety.specs.Timed.{IsTimedRun}
use Rattle.qn_live.specs.declared.place.Choice.{Choice}
use Rattle.qn_live.specs.Running.{RunState}
use Rattle.qn_joined.specs.Joints.{AllMayHappen, Happening, Host, Looks, MayAnswer, MayHappen, Returns, joint_after, returned, waits_for}
use Rattle.qn_joined.specs.Stands.{Looking, Spot, left_plan, log_at}
use Rattle.qn_joined.specs.WorldOf.{IsWorld}
use Rattle.qn_service.specs.KeptViews.{IsUpAt}
use Rattle.qn_service.specs.Looks.{look_at, look_of}
use Rattle.qn_service.specs.Serving.{clock_at}
use Rattle.qn_service.specs.Unheard.{log_after}
use Rattle.qn_service.proofs.GoingOn.{IsOn, asked_up, on_there}
use Rattle.qn_service.proofs.RankSteps.{Anew, CallOf, Calls, NoLookOf, Stands, StepTo, began_down, host_after, step_to}
use Rattle.qn_service.proofs.Steps.{RunsUp, runs_up}
use Rattle.qn_service.proofs.Tracing.{Goes, Starts, Trace, last_world, moments_grow, of_joint}

-- the laws of timed runs, as the lemmas here take them
pub record ClockLaws : Type 0 where
  pub timed : (s : Settings) (t : Timing) (events : List Event) → AllMay s t events → IsTimedRun s t (run s t events).moments
  pub slow : (s : Settings) (t : Timing) (moments old new : List Moment) (rank : ℕ) → IsTimedRun s t moments → RunsOn s rank old new moments
      → 99 * time new + clock s rank old ≤ clock s rank new + 99 * time old
  pub fast : (s : Settings) (t : Timing) (moments old new : List Moment) (rank : ℕ) → IsTimedRun s t moments → RunsOn s rank old new moments
      → clock s rank new + 101 * time old ≤ 101 * time new + clock s rank old

-- ## Parts of a trace

-- the worlds up to a joint between, and from that on
pub record PartsAt (s : Settings) (t : Timing) (image : ℕ → List ℕ) (older at newer : List Happening) (first events : List Event) : Type 0 where
  pub middle : List Event
  pub before : Trace s t image older first at middle
  pub after : Trace s t image at middle newer events

pub parts_at : {s : Settings} {t : Timing} {image : ℕ → List ℕ} {older : List Happening} {first : List Event} {newer : List Happening} {events : List Event} → Trace s t image older first newer events
    → (at : List Happening) → Before older at → Before at newer → PartsAt s t image older at newer first events
parts_at {s = s} {t = t} {image = image} {older = older} {first = first} (Starts may world) at since back =
    subst (λ (h : List Happening). PartsAt s t image older h older first first) (before_same since (before_length back))
    (record { middle = first; before = Starts may world; after = Starts may world })
parts_at (Goes {events' = events} newest trace may world added) at since Itself =
    record { middle = events; before = Goes newest trace may world added; after = Starts may world }
parts_at (Goes newest trace may world added) at since (Later same back) =
    let parts = parts_at trace at since back in
    record { middle = parts.middle; before = parts.before; after = Goes newest parts.after may world added }

-- what happened between may have happened
pub may_there : (s : Settings) (t : Timing) (image : ℕ → List ℕ) (newest : Happening) (at newer : List Happening) → AllMayHappen s t image newer → Before (newest ∷ at) newer
    → MayHappen s t newest (joint_after s image at)
unfolding AllMayHappen
may_there s t image newest at [] may back = absurd (let long = before_length back in omega (arith, long))
may_there s t image newest at (newest' ∷ newer) may Itself = may.0
may_there s t image newest at (other ∷ newer) may (Later same back) = may_there s t image newest at newer may.1 back

-- a clock that is looked at tells its tick
time_told : (rank : ℕ) (host : Host) (sent : List (ℕ × List ℕ)) (made : Call) → Some (call.Now 0) ≡ Some (blank made) → MayAnswer rank host sent made → time_of made ≡ tick_of host.clock
time_told rank host sent (call.Now tick) waits may = may
time_told rank host sent (call.Receive got) waits may = absurd cc
time_told rank host sent (call.Read sector bytes ok) waits may = absurd cc
time_told rank host sent (call.Write sector bytes ok) waits may = absurd cc
time_told rank host sent (call.Feed ok) waits may = absurd cc
time_told rank host sent (call.Start ok) waits may = absurd cc
time_told rank host sent (call.Stop ok) waits may = absurd cc
time_told rank host sent (call.Send to bytes ok) waits may = absurd cc
time_told rank host sent (call.Disarm ok) waits may = absurd cc
time_told rank host sent (call.Halt code) waits may = absurd cc
time_told rank host sent (call.OpenImage path ok) waits may = absurd cc
time_told rank host sent (call.OpenNode images image watchdog resource port owner ok) waits may = absurd cc

looks_at_clock : (s : Settings) (rank : ℕ) (host : Host) (chosen : Choice × RunState) (made : Call) → host.stand.spot ≡ Looking chosen → waits_for s rank host ≡ Some (blank made)
    → Some (call.Now 0) ≡ Some (blank made)
unfolding left_plan
looks_at_clock s rank host chosen made at waits =
    sym (ap (λ (spot : Spot). question (left_plan s rank host.leave host.stand.turn host.stand.more spot)) at) ∙ waits

-- ## A node that is up

-- the clock of a rank of one joint and of a later one, beside true time
pub record ClocksRun (s : Settings) (image : ℕ → List ℕ) (rank : ℕ) (old new : List Happening) : Type 0 where
  pub slow : 99 * (joint_after s image new).time + (host_after s image rank old).clock ≤ (host_after s image rank new).clock + 99 * (joint_after s image old).time
  pub fast : (host_after s image rank new).clock + 101 * (joint_after s image old).time ≤ 101 * (joint_after s image new).time + (host_after s image rank old).clock
  pub grows : (host_after s image rank old).clock ≤ (host_after s image rank new).clock

-- what a happening is to a rank that is up before it and after it: it stands where it stood, or a call of it returned
pub record ReturnOf (s : Settings) (t : Timing) (image : ℕ → List ℕ) (rank : ℕ) (newest : Happening) (at : List Happening) : Type 0 where
  pub made : Call
  pub is : newest ≡ Returns rank made
  pub looks : look_of s image newest at ≡ look_at rank (host_after s image rank at).stand.spot made
  pub told : (chosen : Choice × RunState) → (host_after s image rank at).stand.spot ≡ Looking chosen → time_of made ≡ clock_at s image at rank
  pub stand : (host_after s image rank (newest ∷ at)).stand.spot ≡ (returned s rank made (joint_after s image at).time (host_after s image rank at)).stand.spot

pub data UpStep (s : Settings) (t : Timing) (image : ℕ → List ℕ) (rank : ℕ) (newest : Happening) (at : List Happening) : Type 0 where
  Still : (host_after s image rank (newest ∷ at)).stand ≡ (host_after s image rank at).stand → NoLookOf s image rank newest at → UpStep s t image rank newest at
  Made : ReturnOf s t image rank newest at → UpStep s t image rank newest at

module _ (s : Settings) (t : Timing) (image : ℕ → List ℕ) (rank : ℕ) (older newer : List Happening) (first events : List Event) (laws : ClockLaws)
    (trace : Trace s t image older first newer events) (may : AllMayHappen s t image newer)
    (ups : (at : List Happening) → Before older at → Before at newer → IsUpAt s image rank at) where
  world_at : (at : List Happening) → (since : Before older at) → (back : Before at newer) → IsWorld s t (joint_after s image at) (run s t (parts_at trace at since back).middle)
  world_at at since back = (last_world (parts_at trace at since back).before).1

  on_in : (at : List Happening) (ev : List Event) → Before older at → Before at newer → IsWorld s t (joint_after s image at) (run s t ev)
      → IsOn s rank (host_after s image rank at) (run s t ev).moments
  on_in at ev since back world = let up = ups at since back in on_there s t image rank at ev world up.on up.up

  -- no line of the log is later than the clock
  pub read_at : (at : List Happening) → Before older at → Before at newer → now (log_after s image at rank) ≤ clock_at s image at rank
  read_at at since back =
      let is = on_in at (parts_at trace at since back).middle since back (world_at at since back) in
      subst (λ (l : List Line). now l ≤ clock_at s image at rank) is.log
      (subst (λ c. now (node s rank (run s t (parts_at trace at since back).middle).moments).log ≤ tick_of c) is.clock is.tick)

  -- its process has looked at the clock
  pub asked_at : (at : List Happening) → Before older at → Before at newer → (host_after s image rank at).asked ≡ true
  asked_at at since back = by_rank (cases_lt rank (length s.nodes))
    where
      up : IsUpAt s image rank at
      up = ups at since back

      by_rank : (rank < length s.nodes) ⊎ (length s.nodes ≤ rank) → (host_after s image rank at).asked ≡ true
      by_rank (inl below) = asked_up s rank (host_after s image rank at) ((world_at at since back).nodes rank below) up.on up.up
      by_rank (inr out) = absurd (false≢true (sym ((world_at at since back).off rank out) ∙ up.on))

  pub up_step : (newest : Happening) (at : List Happening) → Before older at → Before (newest ∷ at) newer → UpStep s t image rank newest at
  up_step newest at since back = by_step (step_to s image rank newest at)
    where
      by_may : (c : CallOf s image rank newest at) → (newest ≡ Returns rank c.made) ⊎ ((base : ℕ) × (newest ≡ Looks rank base)) → UpStep s t image rank newest at
      by_may c (inr (base, is)) =
          let looks : MayHappen s t (Looks rank base) (joint_after s image at) =
          subst (λ (h : Happening). MayHappen s t h (joint_after s image at)) is (may_there s t image newest at newer may back) in
          absurd (false≢true (sym looks.1 ∙ asked_at at since (before_tail back)))
      by_may c (inl is) =
          let returns : MayHappen s t (Returns rank c.made) (joint_after s image at) =
          subst (λ (h : Happening). MayHappen s t h (joint_after s image at)) is (may_there s t image newest at newer may back) in
          Made (record {
            made = c.made;
            is = is;
            looks = c.looks;
            told = λ chosen spot. time_told rank (host_after s image rank at) (joint_after s image at).sent c.made
                (looks_at_clock s rank (host_after s image rank at) chosen c.made spot returns.waits) returns.answer;
            stand = c.stand;
          })

      by_step : StepTo s image rank newest at → UpStep s t image rank newest at
      by_step (Stands same none) = Still same none
      by_step (Anew clean polls turns spot none) =
          absurd (false≢true (sym (ap (λ (sp : Spot). is_live (phase s (log_at sp))) spot ∙ began_down s clean polls turns) ∙ ap is_live (ups (newest ∷ at) (Later newest since) back).up))
      by_step (Calls c) = by_may c c.is

  -- ## Clocks

  pub clocks_run : (old new : List Happening) → Before older old → Before old new → Before new newer → ClocksRun s image rank old new
  clocks_run old new since order back =
      record {
        slow = subst (λ k. 99 * k + (host_after s image rank old).clock ≤ (host_after s image rank new).clock + 99 * (joint_after s image old).time) new_world.time
            (subst (λ k. 99 * time m_new + (host_after s image rank old).clock ≤ (host_after s image rank new).clock + 99 * k) old_world.time
            (subst (λ c. 99 * time m_new + c ≤ (host_after s image rank new).clock + 99 * time m_old) old_on.clock
            (subst (λ c. 99 * time m_new + clock s rank m_old ≤ c + 99 * time m_old) new_on.clock (laws.slow s t m_new m_old m_new rank timed goes))));
        fast = subst (λ k. (host_after s image rank new).clock + 101 * (joint_after s image old).time ≤ 101 * k + (host_after s image rank old).clock) new_world.time
            (subst (λ k. (host_after s image rank new).clock + 101 * k ≤ 101 * time m_new + (host_after s image rank old).clock) old_world.time
            (subst (λ c. (host_after s image rank new).clock + 101 * time m_old ≤ 101 * time m_new + c) old_on.clock
            (subst (λ c. c + 101 * time m_old ≤ 101 * time m_new + clock s rank m_old) new_on.clock (laws.fast s t m_new m_old m_new rank timed goes))));
        grows = subst (λ c. c ≤ (host_after s image rank new).clock) old_on.clock (subst (λ c. clock s rank m_old ≤ c) new_on.clock runs.clock);
      }
    where
      to_new : PartsAt s t image older new newer first events
      to_new = parts_at trace new (before_then since order) back

      between : PartsAt s t image older old new first to_new.middle
      between = parts_at to_new.before old since order

      m_old : List Moment
      m_old = (run s t between.middle).moments

      m_new : List Moment
      m_new = (run s t to_new.middle).moments

      old_world : IsWorld s t (joint_after s image old) (run s t between.middle)
      old_world = (last_world between.before).1

      new_world : IsWorld s t (joint_after s image new) (run s t to_new.middle)
      new_world = (last_world to_new.before).1

      old_on : IsOn s rank (host_after s image rank old) m_old
      old_on = on_in old between.middle since (before_then order back) old_world

      new_on : IsOn s rank (host_after s image rank new) m_new
      new_on = on_in new to_new.middle (before_then since order) back new_world

      timed : IsTimedRun s t m_new
      timed = laws.timed s t to_new.middle (last_world to_new.before).0

      up_there : (m : List Moment) → Before m_old m → Before m m_new → phase s (node s rank m).log ≡ Up
      up_there m after before =
          let is = of_joint between.after m after before in
          let there = on_in is.at is.events (before_then since is.after) (before_then is.back back) is.world in
          subst (λ (ms : List Moment). phase s (node s rank ms).log ≡ Up) is.same (ap (phase s) there.log ∙ (ups is.at (before_then since is.after) (before_then is.back back)).up)

      runs : RunsUp s rank m_old m_new
      runs = runs_up s rank m_old m_new (moments_grow between.after) up_there

      goes : RunsOn s rank m_old m_new m_new
      goes = record { order = moments_grow between.after; back = Itself; same = runs.same; on = new_on.on }

-- What is left of a run on three images after a call is what is left where its host stands then.
use Rattle.std.proofs.Common.{◌≡◌, ℕ, Bool, true, List, Option, None, Some, refl, sym, ap, ◌∙◌, is_some}
use Rattle.std.specs.Option.{option_map_or}
use Rattle.qn_base.specs.declared.calls.Call.{Call}
use Rattle.qn_base.specs.declared.calls.Call.TheVariants as call
use Rattle.qn_base.specs.Calls.{blank}
use Rattle.qn_base.specs.Plans as plans
use Rattle.qn_base.specs.Plans.{Plan, ◌>>=◌, question}
use Rattle.qn_model.specs.declared.configuration.Settings.{Settings}
use Rattle.qn_live.specs.Running.{Ran}
use Rattle.qn_live.specs.TripleDisk.{Told, call_plan}
use Rattle.qn_live.specs.TripleMachine.{goes_on}
use Rattle.qn_live.specs.TripleRuns.{all_good, on_three, triple_plan}
use Rattle.qn_joined.specs.Joints.{Host, returned, waits_for}
use Rattle.qn_joined.specs.Stands.{after_call, first_stand, plan_at}
use Rattle.qn_joined.specs.TripleJoints.{TripleHost, began_triple, gives_up, plan_left, returned_by, returned_one, returned_triple}
use Rattle.qn_joined.proofs.Stands.{stand_first, stand_left}

-- the run on three images begins with the call on three
begun_left : (s : Settings) (me : ℕ) (good : List Bool) (one : Plan Ran)
    → on_three s me good one
    ≡ option_map_or (λ asked. option_map_or (call_plan s me good) (question one) (plans.Ends (call.Now 0, good)) >>= goes_on s me one) (question one) (on_three s me good one)
begun_left s me good (plans.Ends value) = refl
begun_left s me good (plans.Asks asked more) = refl

pub triple_begins : (s : Settings) (me : ℕ) (clean : Bool) (leave polls : Option ℕ) (turns time : ℕ) → triple_plan s me clean leave polls turns ≡ plan_left s me (began_triple s me clean leave polls turns time)
unfolding triple_plan
triple_begins s me clean leave polls turns time =
    ap (on_three s me all_good) (stand_first s me clean leave polls turns) ∙ begun_left s me all_good (plan_at s me leave (first_stand clean polls turns))

-- a call that returns leaves when its node is to leave
kept_leave : (s : Settings) (me : ℕ) (made : Call) (time : ℕ) (host : Host) → (returned_one s me made time host).leave ≡ host.leave
unfolding returned
kept_leave s me (call.Read sector bytes ok) time host = refl
kept_leave s me (call.Write sector bytes ok) time host = refl
kept_leave s me (call.Now tick) time host = refl
kept_leave s me (call.Receive got) time host = refl
kept_leave s me (call.Feed ok) time host = refl
kept_leave s me (call.Start ok) time host = refl
kept_leave s me (call.Stop ok) time host = refl
kept_leave s me (call.Send to said ok) time host = refl
kept_leave s me (call.Disarm ok) time host = refl
kept_leave s me (call.Halt code) time host = refl
kept_leave s me (call.OpenImage path ok) time host = refl
kept_leave s me (call.OpenNode images path watchdog resource port owner ok) time host = refl

module _ (s : Settings) (me : ℕ) (host : TripleHost) (made : Call) (time : ℕ) where
  abbrev one_plan : Plan Ran
  one_plan = plan_at s me host.one.leave host.one.stand

  abbrev after_it : Plan Told → TripleHost
  after_it rest = returned_by s me time (record host { left = gives_up s me host }) rest

  -- where the present call on three goes on so
  rest_left : (rest : Plan Told) (waiting : Option Call) → question one_plan ≡ waiting → is_some waiting ≡ true → rest >>= goes_on s me one_plan ≡ plan_left s me (after_it rest)
  unfolding returned
  rest_left rest None e some = absurd cc
  rest_left (plans.Asks asked more) (Some waiting) e some = sym (ap (λ q. option_map_or (λ asked'. plans.Asks asked more >>= goes_on s me one_plan) q (on_three s me host.good one_plan)) e)
  rest_left (plans.Ends told) (Some waiting) e some =
      let stand = after_call s me host.one.leave host.one.stand told.0 in
      ap (on_three s me told.1) (stand_left s me host.one.leave host.one.stand told.0 ∙ ap (λ l. plan_at s me l stand) (sym (kept_leave s me told.0 time host.one)))
      ∙ begun_left s me told.1 (plan_at s me (returned_one s me told.0 time host.one).leave stand)

  call_left : (present : Plan Told) → host.call ≡ present → (waiting : Option Call) → question one_plan ≡ waiting → is_some waiting ≡ true → question present ≡ Some (blank made)
      → plans.left (plan_left s me host) made ≡ plan_left s me (after_it (plans.left present made))
  call_left present same None e some asks = absurd cc
  call_left (plans.Ends told) same (Some waiting) e some asks = absurd cc
  call_left (plans.Asks asked more) same (Some waiting) e some asks =
      ap (λ q. plans.left (option_map_or (λ asked'. host.call >>= goes_on s me one_plan) q (on_three s me host.good one_plan)) made) e
      ∙ ap (λ p. plans.left (p >>= goes_on s me one_plan) made) same
      ∙ rest_left (more made) (Some waiting) e refl

pub triple_goes_on : (s : Settings) (me : ℕ) (host : TripleHost) (made : Call) (time : ℕ) → is_some (waits_for s me host.one) ≡ true → question host.call ≡ Some (blank made)
    → plans.left (plan_left s me host) made ≡ plan_left s me (returned_triple s me made time host)
unfolding returned_triple
triple_goes_on s me host made time some asks = call_left s me host made time host.call refl (waits_for s me host.one) refl some asks

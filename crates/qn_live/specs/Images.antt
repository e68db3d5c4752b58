-- The run of a node on one image or on three: this project's profile.
use Rattle.std.specs.Prelude.{◌≡◌, ℕ, Bool, Option, Some, List}
use Rattle.qn_base.specs.declared.calls.Call.{Call}
use Rattle.qn_base.specs.Calls.{blank}
use Rattle.qn_base.specs.Plans.{Follows, Made, Plan, question}
use Rattle.qn_model.specs.declared.configuration.Settings.{Settings}
use Rattle.qn_model.specs.Log.{Line}
use Rattle.qn_live.specs.declared.asked.Asked.{Asked}
use Rattle.qn_live.specs.declared.asked.Given.{Given}
use Rattle.qn_live.specs.declared.asked.Room.{Room}
use Rattle.qn_live.specs.declared.live_end.LiveEnd.{LiveEnd}
use Rattle.qn_live.specs.declared.run.NodeRun.{NodeRun}
use Rattle.qn_live.specs.Asking.{Tells, told}
use Rattle.qn_live.specs.Machine.{RunFor, work}
use Rattle.qn_live.specs.Running.{Ran}
use Rattle.qn_live.specs.Runs.{live_plan}
use Rattle.qn_live.specs.Sound.{AreRecorded, Shows}
use Rattle.qn_live.specs.declared.images_run.ImagesRun.{ImagesRun}
use Rattle.qn_live.specs.declared.images_run.ImagesRun.TheVariants as run
use Rattle.qn_live.specs.declared.node_images.NodeImages.{NodeImages}
use Rattle.qn_live.specs.declared.node_images.NodeImages.TheVariants as images
use Rattle.qn_live.specs.TripleMachine.{TripleRunFor, triple_work}
use Rattle.qn_live.specs.TripleRuns.{triple_plan}

-- the run of a node on these images
abbrev pub plan_on : NodeImages → Settings → ℕ → Bool → Option ℕ → Option ℕ → ℕ → Plan Ran
plan_on images.One s me clean leave polls turns = live_plan s me clean leave polls turns
plan_on images.Three s me clean leave polls turns = triple_plan s me clean leave polls turns

-- the run as that of a node on one image
abbrev pub node_run : ImagesRun → NodeRun
node_run (run.One single) = single
node_run (run.Three triple) = triple.run

-- the machine stands for the plan: this is left of its run
abbrev pub RunsAs : ImagesRun → Plan Ran → Type 0
RunsAs (run.One single) plan = RunFor single plan
RunsAs (run.Three triple) plan = TripleRunFor triple plan

abbrev pub HasRun : ImagesRun → Type 0
HasRun of = (plan : Plan Ran) × RunsAs of plan

-- the call that was asked for gave this answer
abbrev pub WasAnswered : ImagesRun → Given → Room → Type 0
WasAnswered of given room =
    (plan : Plan Ran) × RunsAs of plan × (call : Call) × Tells call given room × (question plan ≡ Some (blank call))

-- the calls that are to come of the node, and at most so many that the machine still makes
abbrev pub has_work : ImagesRun → ℕ
has_work of = work (node_run of)

abbrev pub images_work : ImagesRun → ℕ
images_work (run.One single) = work single
images_work (run.Three triple) = triple_work triple

-- somebody was told of this call with its answer
abbrev pub IsHeard : {N : Type 0} → (N → N → Asked → Given → Type 0) → N → N → Call → Type 0
IsHeard hears before after call =
    (asked : Asked) × (given : Given) × (asking : Room) × (answered : Room)
    × (call ≡ told asked asking given answered) × hears before after asked given

-- somebody was told of each of these calls, in their order, and then of the end of the run
abbrev pub HasHeard : {N : Type 0} → (N → N → Asked → Given → Type 0) → (N → N → LiveEnd → Type 0) → N → N → List Call → LiveEnd → Type 0
HasHeard {N} hears hears_end before after calls end =
    (last : N) × Shows (IsHeard hears) before last calls × hears_end last after end

-- a run over an outside: the calls of the plan were made, with these answers and no others, each of them is one that an outside
-- can have made, this is so of them, and the run ended so
pub record RanOn {E : Type 0} (faults : E → ℕ) (told : E → Option (List Call)) (before after : E) (is_so : List Call → Type 0) (plan : Plan Ran) (end : LiveEnd) : Type 0 where
  pub calls : List Call
  pub log : List Line
  pub made : Made (faults before) (faults after) (told before) (told after) calls
  pub recorded : AreRecorded calls
  pub shown : is_so calls
  pub follows : Follows plan calls (record { end = end; log = log })

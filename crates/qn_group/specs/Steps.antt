-- A step of a group, and a run of steps: this project's profile.
use Rattle.std.specs.Prelude.{◌≡◌, ℕ, Bool, true, false, ◌||◌, List, [], ◌∷◌, None, slice_index_or, take}
use Rattle.std.specs.List.{list_all}
use Rattle.qn_group.specs.declared.group.Event.{Event}
use Rattle.qn_group.specs.declared.group.Event.TheVariants as event
use Rattle.qn_group.specs.declared.group.Given.{Given}
use Rattle.qn_group.specs.declared.group.Group.{Group}
use Rattle.qn_group.specs.declared.phase.Phase.{Phase}
use Rattle.qn_group.specs.Phases.{Stage, is_down, stage_of}
use Rattle.qn_group.specs.Acts.{is_start, is_started_by, is_stop_event, is_stopped}
use Rattle.qn_group.specs.Places.{Moved, phase_of, stage_after}

-- the node holds, as the group was told; the stage of the resource at a place; nothing of the group runs
abbrev pub holds : Group → Bool
holds group = group.held

abbrev pub stage_at : Group → ℕ → Stage
stage_at group at = stage_of (phase_of group.phases at)

-- the phases of its resources; places behind them are not used, and down
abbrev pub used : Group → List Phase
used group = take group.count group.phases

abbrev pub are_all_down : Group → Bool
are_all_down group = list_all is_down group.phases

-- what one step keeps: from that group an event leads to that group, and that is given
pub record Step (old : Group) (happened : Event) (given : Given) (new : Group) : Type 0 where
  -- a stop alone is answered as done, where all are down, and the node holds no more
  pub asked : is_stopped given ≡ true → is_stop_event happened ≡ true
  pub stopped : is_stopped given ≡ true → are_all_down new ≡ true
  pub released : is_stopped given ≡ true → holds new ≡ false
  -- what is started is started where the node holds, and it holds by a start alone
  pub started : is_start given.act ≡ true → holds new ≡ true
  pub held : holds new ≡ true → (is_started_by happened || holds old) ≡ true
  -- what is under way on each resource is what was, the event, and what is given
  pub moved : (at : ℕ) → Moved given.act at (stage_after happened at (stage_at old at)) (stage_at new at)

-- from that group these events lead to that group, one after the other, and these are given
abbrev pub Run : Group → List Event → List Given → Group → Type 0
Run old [] [] new = new ≡ old
Run old (happened ∷ events) (given ∷ all) new = (mid : Group) × (Step old happened given mid × Run mid events all new)
Run old [] (given ∷ all) new = ⊥
Run old (happened ∷ events) [] new = ⊥

-- the event and what is given at a place of a run
abbrev pub event_at : List Event → ℕ → Event
event_at events at = slice_index_or events at (event.Tick 0)

abbrev pub nothing_given : Given
nothing_given = record { answer = None; act = None; is_counted = false }

abbrev pub given_at : List Given → ℕ → Given
given_at all at = slice_index_or all at nothing_given

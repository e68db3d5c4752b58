-- The step of a group, put together from what each part of it ensures.
use Rattle.std.proofs.Common.{◌≡◌, ◌≢◌, ℕ, Bool, true, false, ◌||◌, List, Option, sym, subst, ◌∙◌, inl, inr}
use Rattle.std.proofs.lemmas.Bool.{false≢true}
use Rattle.std.proofs.lemmas.Bool.Decides.{eqb_tells}
use Rattle.qn_group.specs.declared.phase.Outcome.{Outcome}
use Rattle.qn_group.specs.declared.phase.Verb.{Verb}
use Rattle.qn_group.specs.declared.phase.Phase.{Phase}
use Rattle.qn_group.specs.declared.group.Act.{Act}
use Rattle.qn_group.specs.declared.group.Event.{Event}
use Rattle.qn_group.specs.declared.group.Event.TheVariants as event
use Rattle.qn_group.specs.declared.group.Given.{Given}
use Rattle.qn_group.specs.declared.group.Group.{Group}
use Rattle.qn_group.specs.Phases.{Stage, stage_after_end, stage_of}
use Rattle.qn_group.specs.Acts.{is_start, is_started_by, is_stopped}
use Rattle.qn_group.specs.Places.{Acted, Moved, phase_of, stage_after}
use Rattle.qn_group.specs.Steps.{Step, holds, stage_at}
use Rattle.qn_group.proofs.Stages.{Moved-from_Acted}

-- a step that answers no stop as done
pub Step-unstopped : (old : Group) (happened : Event) (given : Given) (new : Group)
    → is_stopped given ≡ false
    → (is_start given.act ≡ true → holds new ≡ true)
    → (holds new ≡ true → (is_started_by happened || holds old) ≡ true)
    → ((at : ℕ) → Moved given.act at (stage_after happened at (stage_at old at)) (stage_at new at))
    → Step old happened given new
Step-unstopped old happened given new unstopped started held moved = record {
  asked = λ yes. absurd (false≢true (sym unstopped ∙ yes));
  stopped = λ yes. absurd (false≢true (sym unstopped ∙ yes));
  released = λ yes. absurd (false≢true (sym unstopped ∙ yes));
  started = started;
  held = held;
  moved = moved;
}

-- what the end of an action leaves at each place
stage-ended : (old mid : Group) (place : ℕ) (done : Verb) (how : Outcome)
    → stage_at mid place ≡ stage_after_end done how (stage_at old place)
    → ((other : ℕ) → other ≢ place → stage_at mid other ≡ stage_at old other)
    → (at : ℕ) → stage_at mid at ≡ stage_after (event.Ended place done how) at (stage_at old at)
stage-ended old mid place done how here others at =
    elim (eqb_tells place at) [
      | inl h ↦ rw h.0 (subst (λ (k : ℕ). stage_at mid k ≡ stage_after_end done how (stage_at old k)) h.1 here)
      | inr h ↦ rw h.0 (others at (λ e. h.1 (sym e)))
    ]

pub Moved-ended : (old mid : Group) (new : List Phase) (place : ℕ) (done : Verb) (how : Outcome) (begun : Option Act)
    → stage_at mid place ≡ stage_after_end done how (stage_at old place)
    → ((other : ℕ) → other ≢ place → stage_at mid other ≡ stage_at old other)
    → Acted begun mid.phases new
    → (at : ℕ) → Moved begun at (stage_after (event.Ended place done how) at (stage_at old at)) (stage_of (phase_of new at))
Moved-ended old mid new place done how begun here others acted at =
    subst (λ (before : Stage). Moved begun at before (stage_of (phase_of new at))) (stage-ended old mid place done how here others at) (Moved-from_Acted begun mid.phases new at acted)

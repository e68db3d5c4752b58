-- What an action changes, place by place: the lists of phases before and after it give the stages before and after it.
use Rattle.std.proofs.Common.{◌≡◌, ◌≢◌, ℕ, ◌<◌, true, false, List, length, set, Option, None, Some, refl, ap, sym, subst, ◌∙◌, inl, inr, ◌⊎◌, arith}
use Rattle.std.proofs.lemmas.Bool.{cases_order}
use Rattle.std.proofs.lemmas.Grind.{get_or-set_at}
use Rattle.std.proofs.lemmas.List.{get_or-set_other}
use Rattle.qn_group.specs.declared.phase.Verb.{Verb}
use Rattle.qn_group.specs.declared.phase.Verb.TheVariants as verb
use Rattle.qn_group.specs.declared.phase.Phase.{Phase}
use Rattle.qn_group.specs.declared.phase.Phase.TheVariants as phase
use Rattle.qn_group.specs.declared.group.Act.{Act}
use Rattle.qn_group.specs.declared.group.Act.TheVariants as act
use Rattle.qn_group.specs.Phases.{stage_of}
use Rattle.qn_group.specs.Places.{Acted, Began, Moved, after_kill, after_run, may_begin, phase_of}

-- a kill leaves what is under way
stage-after_kill : (p : Phase) → stage_of (after_kill p) ≡ stage_of p
stage-after_kill phase.New = refl
stage-after_kill phase.Probing = refl
stage-after_kill phase.Down = refl
stage-after_kill (phase.Starting killed) = refl
stage-after_kill (phase.Checking since stopped asked killed) = refl
stage-after_kill (phase.Up since unsure) = refl
stage-after_kill (phase.Looking unsure killed) = refl
stage-after_kill phase.Failed = refl
stage-after_kill phase.Stopping = refl
stage-after_kill (phase.Verifying since asked) = refl
stage-after_kill phase.Stuck = refl

-- what is begun is begun in its stage, and is under way then
Began-from_may_begin : (done : Verb) (p : Phase) → may_begin done p ≡ true → Began done (stage_of p) (stage_of (after_run done p))
Began-from_may_begin verb.Start phase.Down h = (refl, refl)
Began-from_may_begin verb.Stop (phase.Up since unsure) h = (refl, refl)
Began-from_may_begin verb.Stop (phase.Checking since stopped false killed) h = (refl, refl)
Began-from_may_begin verb.Stop phase.Failed h = (refl, refl)
Began-from_may_begin verb.Monitor phase.New h = (refl, inr refl)
Began-from_may_begin verb.Monitor (phase.Checking since stopped false killed) h = (refl, inl refl)
Began-from_may_begin verb.Monitor (phase.Up since unsure) h = (refl, inl refl)
Began-from_may_begin verb.Monitor (phase.Verifying since false) h = (refl, inr refl)
Began-from_may_begin _ _ h = cc

phase_of-set_here : (old : List Phase) (place at : ℕ) (p : Phase) → place ≡ at → place < length old → phase_of (set old place p) at ≡ p
phase_of-set_here old place at p same within = get_or-set_at old place at p phase.Down (sym same) within

phase_of-set_other : (old : List Phase) (place at : ℕ) (p : Phase) → place ≢ at → phase_of (set old place p) at ≡ phase_of old at
phase_of-set_other old place at p other = get_or-set_other old place at p phase.Down (λ e. other (sym e))

pub apart-differ : (a b : ℕ) → (a < b) ⊎ (b < a) → a ≢ b
apart-differ a b (inl h) = λ e. omega arith
apart-differ a b (inr h) = λ e. omega arith

stage-kill : (old : List Phase) (place at : ℕ) → place < length old → stage_of (phase_of (set old place (after_kill (phase_of old place))) at) ≡ stage_of (phase_of old at)
stage-kill old place at within =
    elim (cases_order place at) [
      | inl same ↦
          ap stage_of (phase_of-set_here old place at _ same within) ∙ stage-after_kill (phase_of old place) ∙ ap (λ (k : ℕ). stage_of (phase_of old k)) same
      | inr apart ↦ ap stage_of (phase_of-set_other old place at _ (apart-differ place at apart))
    ]

pub Moved-from_Acted : (done : Option Act) (old new : List Phase) (at : ℕ) → Acted done old new → Moved done at (stage_of (phase_of old at)) (stage_of (phase_of new at))
Moved-from_Acted None old new at h = ap (λ (ps : List Phase). stage_of (phase_of ps at)) h
Moved-from_Acted (Some (act.Run place done)) old new at h = (
  λ same. (
      let e : phase_of new at ≡ after_run done (phase_of old place) = ap (λ (ps : List Phase). phase_of ps at) h.2 ∙ phase_of-set_here old place at _ same h.0 in
      let b = Began-from_may_begin done (phase_of old place) h.1 in
      rw e (subst (λ (k : ℕ). Began done (stage_of (phase_of old k)) (stage_of (after_run done (phase_of old place)))) same b)
      ),
  λ other. ap stage_of (ap (λ (ps : List Phase). phase_of ps at) h.2 ∙ phase_of-set_other old place at _ other),
)
Moved-from_Acted (Some (act.Kill place)) old new at h =
    let by_set : phase_of new at ≡ phase_of (set old place (after_kill (phase_of old place))) at = ap (λ (ps : List Phase). phase_of ps at) h.1 in
    ap stage_of by_set ∙ stage-kill old place at h.0
Moved-from_Acted (Some act.Leave) old new at h = ap (λ (ps : List Phase). stage_of (phase_of ps at)) h

-- What holds from a place of a run on, as long as nothing happens that ends it.
use Rattle.std.proofs.Common.{ℕ, zero, suc, ◌<◌, ◌≤◌, List, [], ◌∷◌, ◌++◌, refl, arith, subst}
use Rattle.qn_group.specs.declared.group.Event.{Event}
use Rattle.qn_group.specs.declared.group.Given.{Given}
use Rattle.qn_group.specs.declared.group.Group.{Group}
use Rattle.qn_group.specs.Steps.{Run, Step, event_at, given_at, nothing_given}

-- P: what holds of the group; Begin: what is given at the step that brings it about; Quiet: what each step is that keeps it; Said: what is said of what a step gives
module _ (P : Group → Type 0) (Begin : Given → Type 0) (Quiet : Event → Given → Type 0) (Said : Given → Type 0)
    (keep : (old : Group) (happened : Event) (given : Given) (new : Group) → Step old happened given new → Quiet happened given → P old → P new)
    (said : (old : Group) (happened : Event) (given : Given) (new : Group) → Step old happened given new → Quiet happened given → P old → Said given)
    (enter : (old : Group) (happened : Event) (given : Given) (new : Group) → Step old happened given new → Begin given → P new)
    (begun : Begin nothing_given → ⊥)
    (none : Said nothing_given)
  where
    -- it holds at the first
    pub Said-from : (old new : Group) (events : List Event) (all : List Given) → Run old events all new → (j : ℕ) → P old
        → ((k : ℕ) → k ≤ j → Quiet (event_at events k) (given_at all k)) → Said (given_at all j)
    Said-from old new [] [] run j p quiet = none
    Said-from old new [] (given ∷ all) run j p quiet = absurd run
    Said-from old new (happened ∷ events) [] run j p quiet = none
    Said-from old new (happened ∷ events) (given ∷ all) run zero p quiet = said old happened given run.0 run.1.0 (quiet zero (omega arith)) p
    Said-from old new (happened ∷ events) (given ∷ all) run (suc j) p quiet =
        Said-from run.0 new events all run.1.1 j (keep old happened given run.0 run.1.0 (quiet zero (omega arith)) p) (λ k within. quiet (suc k) (omega arith))

    -- it holds from the end of a step on
    pub Said-between : (old new : Group) (events : List Event) (all : List Given) → Run old events all new → (i j : ℕ) → i < j → Begin (given_at all i)
        → ((k : ℕ) → i < k → k ≤ j → Quiet (event_at events k) (given_at all k)) → Said (given_at all j)
    Said-between old new [] [] run i j later begin quiet = none
    Said-between old new [] (given ∷ all) run i j later begin quiet = absurd run
    Said-between old new (happened ∷ events) [] run i j later begin quiet = none
    Said-between old new (happened ∷ events) (given ∷ all) run i zero later begin quiet = absurd (omega arith)
    Said-between old new (happened ∷ events) (given ∷ all) run zero (suc j) later begin quiet =
        Said-from run.0 new events all run.1.1 j (enter old happened given run.0 run.1.0 begin) (λ k within. quiet (suc k) (omega arith) (omega arith))
    Said-between old new (happened ∷ events) (given ∷ all) run (suc i) (suc j) later begin quiet =
        Said-between run.0 new events all run.1.1 i j (omega arith) begin (λ k after within. quiet (suc k) (omega arith) (omega arith))

-- what is said of the step itself
pub Said-at : (Begin Said : Given → Type 0) → ((old : Group) (happened : Event) (given : Given) (new : Group) → Step old happened given new → Begin given → Said given)
    → Said nothing_given → (old new : Group) (events : List Event) (all : List Given) → Run old events all new → (i : ℕ) → Begin (given_at all i) → Said (given_at all i)
Said-at Begin Said said none old new [] [] run i begin = none
Said-at Begin Said said none old new [] (given ∷ all) run i begin = absurd run
Said-at Begin Said said none old new (happened ∷ events) [] run i begin = none
Said-at Begin Said said none old new (happened ∷ events) (given ∷ all) run zero begin = said old happened given run.0 run.1.0 begin
Said-at Begin Said said none old new (happened ∷ events) (given ∷ all) run (suc i) begin = Said-at Begin Said said none run.0 new events all run.1.1 i begin

-- a step more
pub Run-more : (old mid new : Group) (events : List Event) (all : List Given) (happened : Event) (given : Given) → Run old events all mid → Step mid happened given new
    → Run old (events ++ happened ∷ []) (all ++ given ∷ []) new
Run-more old mid new [] [] happened given run step = (new, (subst (λ (from : Group). Step from happened given new) run step, refl))
Run-more old mid new [] (first ∷ all) happened given run step = absurd run
Run-more old mid new (first ∷ events) [] happened given run step = absurd run
Run-more old mid new (first ∷ events) (said ∷ all) happened given run step = (run.0, (run.1.0, Run-more run.0 mid new events all happened given run.1.1 step))

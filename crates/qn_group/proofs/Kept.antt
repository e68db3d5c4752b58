-- The laws of a group over a run: what each of them keeps.
use Rattle.std.proofs.Common.{◌≡◌, ◌≢◌, ℕ, zero, suc, ◌<◌, ◌≤◌, Bool, true, false, ◌||◌, List, [], ◌∷◌, Option, None, Some, refl, sym, subst, ◌∙◌, inl, inr, arith}
use Rattle.std.specs.List.{list_all}
use Rattle.std.proofs.lemmas.Bool.{false≢true}
use Rattle.std.proofs.lemmas.Bool.Decides.{eqb_tells}
use Rattle.std.proofs.Math.Nat.{eq-or-lt_of_le}
use Rattle.qn_group.specs.declared.phase.Outcome.{Outcome}
use Rattle.qn_group.specs.declared.phase.Outcome.TheVariants as outcome
use Rattle.qn_group.specs.declared.phase.Verb.{Verb}
use Rattle.qn_group.specs.declared.phase.Verb.TheVariants as verb
use Rattle.qn_group.specs.declared.phase.Phase.{Phase}
use Rattle.qn_group.specs.declared.phase.Phase.TheVariants as phase
use Rattle.qn_group.specs.declared.group.Act.{Act}
use Rattle.qn_group.specs.declared.group.Act.TheVariants as act
use Rattle.qn_group.specs.declared.group.Event.{Event}
use Rattle.qn_group.specs.declared.group.Event.TheVariants as event
use Rattle.qn_group.specs.declared.group.Given.{Given}
use Rattle.qn_group.specs.declared.group.Group.{Group}
use Rattle.qn_group.specs.Phases.{Stage, Idle, Down, Starting, Stopping, Watched, Asked, is_down, stage_after_end, stage_by_word, stage_of}
use Rattle.qn_group.specs.Acts.{begins, ends, is_start, is_started_by, is_stopped, is_verb, is_word, runs_at, says_down}
use Rattle.qn_group.specs.Places.{Began, Moved, phase_of, stage_after}
use Rattle.qn_group.specs.Steps.{Run, Step, event_at, given_at, holds, stage_at}
use Rattle.qn_group.proofs.Runs.{Said-at, Said-between, Said-from}

-- a test that cannot be passed is failed
false-from : (b : Bool) → (b ≡ true → ⊥) → b ≡ false
false-from true refuted = absurd (refuted refl)
false-from false refuted = refl

no-start : (starts held : Bool) → starts ≡ false → held ≡ false → (starts || held) ≡ false
no-start starts held quiet unheld = rw (quiet, unheld) refl

-- the node holds no more, and no start comes
unheld-kept : (old : Group) (happened : Event) (given : Given) (new : Group) → Step old happened given new → is_started_by happened ≡ false → holds old ≡ false → holds new ≡ false
unheld-kept old happened given new step quiet unheld =
    false-from (holds new) (λ yes. false≢true (sym (no-start (is_started_by happened) (holds old) quiet unheld) ∙ step.held yes))

unheld-said : (old : Group) (happened : Event) (given : Given) (new : Group) → Step old happened given new → is_started_by happened ≡ false → holds old ≡ false → is_start given.act ≡ false
unheld-said old happened given new step quiet unheld =
    false-from (is_start given.act) (λ yes. false≢true (sym (unheld-kept old happened given new step quiet unheld) ∙ step.started yes))

pub quiet-before_start : (old new : Group) (events : List Event) (all : List Given) → Run old events all new → holds old ≡ false → (j : ℕ)
    → ((k : ℕ) → k ≤ j → is_started_by (event_at events k) ≡ false) → is_start (given_at all j).act ≡ false
quiet-before_start old new events all run unheld j quiet =
    Said-from (λ group. holds group ≡ false) (λ given. is_stopped given ≡ true) (λ happened given. is_started_by happened ≡ false) (λ given. is_start given.act ≡ false)
    unheld-kept unheld-said (λ from happened given to step begin. step.released begin) (λ begin. false≢true begin) refl old new events all run j unheld quiet

pub quiet-after_stop : (old new : Group) (events : List Event) (all : List Given) → Run old events all new → (i j : ℕ) → i ≤ j → is_stopped (given_at all i) ≡ true
    → ((k : ℕ) → i < k → k ≤ j → is_started_by (event_at events k) ≡ false) → is_start (given_at all j).act ≡ false
quiet-after_stop old new events all run i j within begin quiet =
    elim (eq-or-lt_of_le within) [
      | inl same ↦ subst (λ (k : ℕ). is_start (given_at all k).act ≡ false) same (
          Said-at (λ given. is_stopped given ≡ true) (λ given. is_start given.act ≡ false) (
          λ from happened given to step stopped. false-from (is_start given.act) (λ yes. false≢true (sym (step.released stopped) ∙ step.started yes))
          ) refl old new events all run i begin
          )
      | inr later ↦
          Said-between (λ group. holds group ≡ false) (λ given. is_stopped given ≡ true) (λ happened given. is_started_by happened ≡ false) (λ given. is_start given.act ≡ false)
          unheld-kept unheld-said (λ from happened given to step stopped. step.released stopped) (λ stopped. false≢true stopped) refl old new events all run i j later begin quiet
    ]

-- An action of that verb is under way in that stage.
abbrev pub is_out : Verb → Stage → Bool
is_out verb.Start Starting = true
is_out verb.Stop Stopping = true
is_out verb.Monitor Watched = true
is_out verb.Monitor Asked = true
is_out some_verb some_stage = false

out-after_end : (done ended : Verb) (how : Outcome) (s : Stage) → is_out done s ≡ true → is_verb done ended ≡ false → is_out done (stage_after_end ended how s) ≡ true
out-after_end verb.Start verb.Stop how Starting out other = refl
out-after_end verb.Start verb.Monitor how Starting out other = refl
out-after_end verb.Stop verb.Start how Stopping out other = refl
out-after_end verb.Stop verb.Monitor how Stopping out other = refl
out-after_end verb.Monitor verb.Start how Watched out other = refl
out-after_end verb.Monitor verb.Stop how Watched out other = refl
out-after_end verb.Monitor verb.Start how Asked out other = refl
out-after_end verb.Monitor verb.Stop how Asked out other = refl
out-after_end _ _ _ _ out other = cc

out-after : (done : Verb) (happened : Event) (at : ℕ) (s : Stage) → is_out done s ≡ true → ends done at happened ≡ false → is_out done (stage_after happened at s) ≡ true
out-after done (event.Ended place ended how) at s out quiet =
    elim (eqb_tells place at) [
      | inl h ↦ rw h.0 (out-after_end done ended how s out (rw h.0 at quiet))
      | inr h ↦ rw h.0 out
    ]
out-after done (event.Tick tick) at s out quiet = out
out-after done event.Start at s out quiet = out
out-after done event.Stop at s out quiet = out
out-after done event.Move at s out quiet = out
out-after done (event.Maintenance on) at s out quiet = out

out-not_down : (done : Verb) → is_out done Down ≡ true → ⊥
out-not_down verb.Start out = false≢true out
out-not_down verb.Stop out = false≢true out
out-not_down verb.Monitor out = false≢true out

out-not_idle : (done : Verb) → is_out done Idle ≡ true → ⊥
out-not_idle verb.Start out = false≢true out
out-not_idle verb.Stop out = false≢true out
out-not_idle verb.Monitor out = false≢true out

out-began : (done begun : Verb) (before after : Stage) → is_verb done begun ≡ true → Began begun before after → is_out done after ≡ true
out-began verb.Start verb.Start before after same b = rw b.1 refl
out-began verb.Stop verb.Stop before after same b = rw b.1 refl
out-began verb.Monitor verb.Monitor before after same (from, inl watched) = rw watched refl
out-began verb.Monitor verb.Monitor before after same (from, inr asked) = rw asked refl
out-began _ _ before after same b = absurd (false≢true same)

-- nothing is begun where something is under way
out-not_began : (done begun : Verb) (before after : Stage) → Began begun before after → is_out done before ≡ true → ⊥
out-not_began done verb.Start before after b out = out-not_down done (subst (λ (s : Stage). is_out done s ≡ true) b.0 out)
out-not_began done verb.Stop before after b out = out-not_idle done (subst (λ (s : Stage). is_out done s ≡ true) b.0 out)
out-not_began done verb.Monitor before after b out = out-not_idle done (subst (λ (s : Stage). is_out done s ≡ true) b.0 out)

out-moved : (done : Verb) (begun : Option Act) (at : ℕ) (before after : Stage) → Moved begun at before after → is_out done before ≡ true
    → (is_out done after ≡ true) × (runs_at at begun ≡ false)
out-moved done None at before after moved out = (rw moved out, refl)
out-moved done (Some (act.Run place begun)) at before after moved out =
    elim (eqb_tells place at) [
      | inl h ↦ absurd (out-not_began done begun before after (moved.0 h.1) out)
      | inr h ↦ (rw (moved.1 h.1) out, h.0)
    ]
out-moved done (Some (act.Kill place)) at before after moved out = (rw moved out, refl)
out-moved done (Some act.Leave) at before after moved out = (rw moved out, refl)

-- what is begun is under way then
out-begun : (done : Verb) (begun : Option Act) (at : ℕ) (before after : Stage) → Moved begun at before after → begins done at begun ≡ true → is_out done after ≡ true
out-begun done (Some (act.Run place begun)) at before after moved begin =
    elim (eqb_tells place at) [
      | inl h ↦ out-began done begun before after (rw h.0 at begin) (moved.0 h.1)
      | inr h ↦ absurd (false≢true (rw h.0 at begin))
    ]
out-begun done _ at before after moved begin = absurd (false≢true begin)

-- where all are down, each is
all_down-at : (phases : List Phase) (at : ℕ) → list_all is_down phases ≡ true → stage_of (phase_of phases at) ≡ Down
all_down-at [] at all = refl
all_down-at (phase.Down ∷ phases) zero all = refl
all_down-at (phase.Down ∷ phases) (suc at) all = all_down-at phases at all
all_down-at (_ ∷ phases) at all = absurd (false≢true all)

out-kept : (at : ℕ) (done : Verb) (old : Group) (happened : Event) (given : Given) (new : Group) → Step old happened given new → ends done at happened ≡ false
    → is_out done (stage_at old at) ≡ true → is_out done (stage_at new at) ≡ true
out-kept at done old happened given new step quiet out =
    (out-moved done given.act at (stage_after happened at (stage_at old at)) (stage_at new at) (step.moved at) (out-after done happened at (stage_at old at) out quiet)).0

-- no stop is answered as done by a step after which that resource is not down
unstopped : (at : ℕ) (old : Group) (happened : Event) (given : Given) (new : Group) → Step old happened given new → stage_at new at ≢ Down → is_stopped given ≡ false
unstopped at old happened given new step up = false-from (is_stopped given) (λ stopped. up (all_down-at new.phases at (step.stopped stopped)))

out-up : (done : Verb) (s : Stage) → is_out done s ≡ true → s ≢ Down
out-up done s out = λ down. out-not_down done (subst (λ (k : Stage). is_out done k ≡ true) down out)

out-said : (at : ℕ) (done : Verb) (old : Group) (happened : Event) (given : Given) (new : Group) → Step old happened given new → ends done at happened ≡ false
    → is_out done (stage_at old at) ≡ true → (runs_at at given.act ≡ false) × (is_stopped given ≡ false)
out-said at done old happened given new step quiet out = (
  (out-moved done given.act at (stage_after happened at (stage_at old at)) (stage_at new at) (step.moved at) (out-after done happened at (stage_at old at) out quiet)).1,
  unstopped at old happened given new step (out-up done (stage_at new at) (out-kept at done old happened given new step quiet out)),
)

out-entered : (at : ℕ) (done : Verb) (old : Group) (happened : Event) (given : Given) (new : Group) → Step old happened given new → begins done at given.act ≡ true
    → is_out done (stage_at new at) ≡ true
out-entered at done old happened given new step begin = out-begun done given.act at (stage_after happened at (stage_at old at)) (stage_at new at) (step.moved at) begin

pub one_action : (old new : Group) (events : List Event) (all : List Given) → Run old events all new → (at i j : ℕ) (done : Verb) → i < j
    → begins done at (given_at all i).act ≡ true → ((k : ℕ) → i < k → k ≤ j → ends done at (event_at events k) ≡ false)
    → (runs_at at (given_at all j).act ≡ false) × (is_stopped (given_at all j) ≡ false)
one_action old new events all run at i j done later begin quiet =
    Said-between (λ group. is_out done (stage_at group at) ≡ true) (λ given. begins done at given.act ≡ true) (λ happened given. ends done at happened ≡ false) (
    λ given. (runs_at at given.act ≡ false) × (is_stopped given ≡ false)
    ) (out-kept at done) (out-said at done) (out-entered at done) (λ begin. false≢true begin) (refl, refl) old new events all run i j later begin quiet

pub unstopped-begun : (old new : Group) (events : List Event) (all : List Given) → Run old events all new → (at i : ℕ) (done : Verb)
    → begins done at (given_at all i).act ≡ true → is_stopped (given_at all i) ≡ false
unstopped-begun old new events all run at i done begin =
    Said-at (λ given. begins done at given.act ≡ true) (λ given. is_stopped given ≡ false) (
    λ from happened given to step begin. unstopped at from happened given to step (out-up done (stage_at to at) (out-entered at done from happened given to step begin))
    ) refl old new events all run i begin

-- what is not down stays so until a monitor says "not running"
by_word-up : (how : Outcome) → is_word verb.Monitor how ≡ false → stage_by_word how ≢ Down
by_word-up outcome.NotRunning quiet = absurd (false≢true (sym quiet))
by_word-up outcome.Done quiet = λ e. cc
by_word-up outcome.Broken quiet = λ e. cc
by_word-up outcome.Hard quiet = λ e. cc
by_word-up outcome.Unknown quiet = λ e. cc

up-after_end : (done : Verb) (how : Outcome) (s : Stage) → s ≢ Down → is_word done how ≡ false → stage_after_end done how s ≢ Down
up-after_end verb.Start how Starting up quiet = λ e. cc
up-after_end verb.Stop how Stopping up quiet = λ e. cc
up-after_end verb.Monitor how Watched up quiet = λ e. cc
up-after_end verb.Monitor how Asked up quiet = by_word-up how quiet
up-after_end _ _ _ up quiet = up

up-after : (happened : Event) (at : ℕ) (s : Stage) → s ≢ Down → says_down at happened ≡ false → stage_after happened at s ≢ Down
up-after (event.Ended place done how) at s up quiet =
    elim (eqb_tells place at) [
      | inl h ↦ rw h.0 (up-after_end done how s up (rw h.0 at quiet))
      | inr h ↦ rw h.0 up
    ]
up-after (event.Tick tick) at s up quiet = up
up-after event.Start at s up quiet = up
up-after event.Stop at s up quiet = up
up-after event.Move at s up quiet = up
up-after (event.Maintenance on) at s up quiet = up

up-began : (begun : Verb) (before after : Stage) → Began begun before after → after ≢ Down
up-began verb.Start before after b = λ e. cc
up-began verb.Stop before after b = λ e. cc
up-began verb.Monitor before after (from, inl watched) = λ e. cc
up-began verb.Monitor before after (from, inr asked) = λ e. cc

up-moved : (begun : Option Act) (at : ℕ) (before after : Stage) → Moved begun at before after → before ≢ Down → after ≢ Down
up-moved None at before after moved up = λ e. up (sym moved ∙ e)
up-moved (Some (act.Run place begun)) at before after moved up =
    elim (eqb_tells place at) [
      | inl h ↦ up-began begun before after (moved.0 h.1)
      | inr h ↦ λ e. up (sym (moved.1 h.1) ∙ e)
    ]
up-moved (Some (act.Kill place)) at before after moved up = λ e. up (sym moved ∙ e)
up-moved (Some act.Leave) at before after moved up = λ e. up (sym moved ∙ e)

-- what is not down is not started
not_started : (begun : Option Act) (at : ℕ) (before after : Stage) → Moved begun at before after → before ≢ Down → begins verb.Start at begun ≡ false
not_started None at before after moved up = refl
not_started (Some (act.Run place verb.Start)) at before after moved up =
    elim (eqb_tells place at) [
      | inl h ↦ absurd (up (moved.0 h.1).0)
      | inr h ↦ rw h.0 refl
    ]
not_started (Some (act.Run place verb.Stop)) at before after moved up = elim (eqb_tells place at) [ inl h ↦ rw h.0 refl | inr h ↦ rw h.0 refl ]
not_started (Some (act.Run place verb.Monitor)) at before after moved up = elim (eqb_tells place at) [ inl h ↦ rw h.0 refl | inr h ↦ rw h.0 refl ]
not_started (Some (act.Kill place)) at before after moved up = refl
not_started (Some act.Leave) at before after moved up = refl

-- the same of a step: where the event leaves it other than down
step-up : (at : ℕ) (old : Group) (happened : Event) (given : Given) (new : Group) → Step old happened given new → stage_after happened at (stage_at old at) ≢ Down
    → stage_at new at ≢ Down
step-up at old happened given new step up = up-moved given.act at (stage_after happened at (stage_at old at)) (stage_at new at) (step.moved at) up

step-said : (at : ℕ) (old : Group) (happened : Event) (given : Given) (new : Group) → Step old happened given new → stage_after happened at (stage_at old at) ≢ Down
    → (begins verb.Start at given.act ≡ false) × (is_stopped given ≡ false)
step-said at old happened given new step up = (
  not_started given.act at (stage_after happened at (stage_at old at)) (stage_at new at) (step.moved at) up,
  unstopped at old happened given new step (step-up at old happened given new step up),
)

step-runs : (at : ℕ) (begun : Option Act) (before after : Stage) → Moved begun at before after → runs_at at begun ≡ true → after ≢ Down
step-runs at (Some (act.Run place begun)) before after moved begin =
    elim (eqb_tells place at) [
      | inl h ↦ up-began begun before after (moved.0 h.1)
      | inr h ↦ absurd (false≢true (sym h.0 ∙ begin))
    ]
step-runs at _ before after moved begin = absurd (false≢true begin)

pub down-from_word : (old new : Group) (events : List Event) (all : List Given) → Run old events all new → (at j : ℕ) → stage_at old at ≢ Down
    → ((k : ℕ) → k ≤ j → says_down at (event_at events k) ≡ false) → (begins verb.Start at (given_at all j).act ≡ false) × (is_stopped (given_at all j) ≡ false)
down-from_word old new events all run at j up quiet =
    Said-from (λ group. stage_at group at ≢ Down) (λ given. runs_at at given.act ≡ true) (λ happened given. says_down at happened ≡ false) (
    λ given. (begins verb.Start at given.act ≡ false) × (is_stopped given ≡ false)
    ) (λ from happened given to step quiet up. step-up at from happened given to step (up-after happened at (stage_at from at) up quiet)) (
    λ from happened given to step quiet up. step-said at from happened given to step (up-after happened at (stage_at from at) up quiet)
    ) (λ from happened given to step begin. step-runs at given.act (stage_after happened at (stage_at from at)) (stage_at to at) (step.moved at) begin) (
    λ begin. false≢true begin
    ) (refl, refl) old new events all run j up quiet

pub down-between_word : (old new : Group) (events : List Event) (all : List Given) → Run old events all new → (at i j : ℕ) → i < j
    → runs_at at (given_at all i).act ≡ true → ((k : ℕ) → i < k → k ≤ j → says_down at (event_at events k) ≡ false)
    → (begins verb.Start at (given_at all j).act ≡ false) × (is_stopped (given_at all j) ≡ false)
down-between_word old new events all run at i j later begin quiet =
    Said-between (λ group. stage_at group at ≢ Down) (λ given. runs_at at given.act ≡ true) (λ happened given. says_down at happened ≡ false) (
    λ given. (begins verb.Start at given.act ≡ false) × (is_stopped given ≡ false)
    ) (λ from happened given to step quiet up. step-up at from happened given to step (up-after happened at (stage_at from at) up quiet)) (
    λ from happened given to step quiet up. step-said at from happened given to step (up-after happened at (stage_at from at) up quiet)
    ) (λ from happened given to step begin. step-runs at given.act (stage_after happened at (stage_at from at)) (stage_at to at) (step.moved at) begin) (
    λ begin. false≢true begin
    ) (refl, refl) old new events all run i j later begin quiet

-- no monitor is out whose word counts, and it is not down
abbrev pub is_unasked : Stage → Bool
is_unasked Idle = true
is_unasked Starting = true
is_unasked Stopping = true
is_unasked other = false

unasked-after_end : (done : Verb) (how : Outcome) (s : Stage) → is_unasked s ≡ true → is_unasked (stage_after_end done how s) ≡ true
unasked-after_end verb.Start how Idle unasked = refl
unasked-after_end verb.Start how Starting unasked = refl
unasked-after_end verb.Start how Stopping unasked = refl
unasked-after_end verb.Stop how Idle unasked = refl
unasked-after_end verb.Stop how Starting unasked = refl
unasked-after_end verb.Stop how Stopping unasked = refl
unasked-after_end verb.Monitor how Idle unasked = refl
unasked-after_end verb.Monitor how Starting unasked = refl
unasked-after_end verb.Monitor how Stopping unasked = refl
unasked-after_end _ _ _ unasked = absurd (false≢true unasked)

unasked-after : (happened : Event) (at : ℕ) (s : Stage) → is_unasked s ≡ true → is_unasked (stage_after happened at s) ≡ true
unasked-after (event.Ended place done how) at s unasked =
    elim (eqb_tells place at) [
      | inl h ↦ rw h.0 (unasked-after_end done how s unasked)
      | inr h ↦ rw h.0 unasked
    ]
unasked-after (event.Tick tick) at s unasked = unasked
unasked-after event.Start at s unasked = unasked
unasked-after event.Stop at s unasked = unasked
unasked-after event.Move at s unasked = unasked
unasked-after (event.Maintenance on) at s unasked = unasked

unasked-began : (begun : Verb) (before after : Stage) → Began begun before after → is_verb verb.Monitor begun ≡ false → is_unasked after ≡ true
unasked-began verb.Start before after b quiet = rw b.1 refl
unasked-began verb.Stop before after b quiet = rw b.1 refl
unasked-began verb.Monitor before after b quiet = absurd (false≢true (sym quiet))

unasked-moved : (begun : Option Act) (at : ℕ) (before after : Stage) → Moved begun at before after → is_unasked before ≡ true → begins verb.Monitor at begun ≡ false
    → is_unasked after ≡ true
unasked-moved None at before after moved unasked quiet = rw moved unasked
unasked-moved (Some (act.Run place begun)) at before after moved unasked quiet =
    elim (eqb_tells place at) [
      | inl h ↦ unasked-began begun before after (moved.0 h.1) (rw h.0 at quiet)
      | inr h ↦ rw (moved.1 h.1) unasked
    ]
unasked-moved (Some (act.Kill place)) at before after moved unasked quiet = rw moved unasked
unasked-moved (Some act.Leave) at before after moved unasked quiet = rw moved unasked

unasked-up : (s : Stage) → is_unasked s ≡ true → s ≢ Down
unasked-up s unasked = λ down. false≢true (subst (λ (k : Stage). is_unasked k ≡ true) down unasked)

other-verb : (done begun : Verb) → is_verb done begun ≡ true → is_verb verb.Monitor done ≡ false → is_verb verb.Monitor begun ≡ false
other-verb verb.Start verb.Start same other = refl
other-verb verb.Stop verb.Stop same other = refl
other-verb verb.Monitor verb.Monitor same other = other
other-verb _ _ same other = absurd (false≢true same)

-- what is begun and is no monitor
unasked-begun : (done : Verb) (begun : Option Act) (at : ℕ) (before after : Stage) → Moved begun at before after → begins done at begun ≡ true
    → is_verb verb.Monitor done ≡ false → is_unasked after ≡ true
unasked-begun done (Some (act.Run place begun)) at before after moved begin other =
    elim (eqb_tells place at) [
      | inl h ↦ unasked-began begun before after (moved.0 h.1) (other-verb done begun (rw h.0 at begin) other)
      | inr h ↦ absurd (false≢true (rw h.0 at begin))
    ]
unasked-begun done _ at before after moved begin other = absurd (false≢true begin)

asked-from : (old new : Group) (events : List Event) (all : List Given) → Run old events all new → (at n j : ℕ) → n ≤ j → is_unasked (stage_at old at) ≡ true
    → ((k : ℕ) → k < n → begins verb.Monitor at (given_at all k).act ≡ false) → ((k : ℕ) → n < k → k ≤ j → says_down at (event_at events k) ≡ false)
    → (begins verb.Start at (given_at all j).act ≡ false) × (is_stopped (given_at all j) ≡ false)
asked-from old new [] [] run at n j within unasked unbegun quiet = (refl, refl)
asked-from old new [] (given ∷ all) run at n j within unasked unbegun quiet = absurd run
asked-from old new (happened ∷ events) [] run at n j within unasked unbegun quiet = (refl, refl)
asked-from old new (happened ∷ events) (given ∷ all) run at zero zero within unasked unbegun quiet =
    step-said at old happened given run.0 run.1.0 (unasked-up _ (unasked-after happened at (stage_at old at) unasked))
asked-from old new (happened ∷ events) (given ∷ all) run at zero (suc j) within unasked unbegun quiet =
    down-from_word run.0 new events all run.1.1 at j (step-up at old happened given run.0 run.1.0 (unasked-up _ (unasked-after happened at (stage_at old at) unasked))) (
    λ k below. quiet (suc k) (omega arith) (omega arith)
    )
asked-from old new (happened ∷ events) (given ∷ all) run at (suc n) zero within unasked unbegun quiet = absurd (omega arith)
asked-from old new (happened ∷ events) (given ∷ all) run at (suc n) (suc j) within unasked unbegun quiet =
    asked-from run.0 new events all run.1.1 at n j (omega arith) (
    unasked-moved given.act at _ (stage_at run.0 at) (run.1.0.moved at) (unasked-after happened at (stage_at old at) unasked) (unbegun zero (omega arith))
    ) (λ k below. unbegun (suc k) (omega arith)) (λ k after below. quiet (suc k) (omega arith) (omega arith))

pub asked-between : (old new : Group) (events : List Event) (all : List Given) → Run old events all new → (at i n j : ℕ) (done : Verb) → i < n → n ≤ j
    → is_verb verb.Monitor done ≡ false → begins done at (given_at all i).act ≡ true
    → ((k : ℕ) → i < k → k < n → begins verb.Monitor at (given_at all k).act ≡ false) → ((k : ℕ) → n < k → k ≤ j → says_down at (event_at events k) ≡ false)
    → (begins verb.Start at (given_at all j).act ≡ false) × (is_stopped (given_at all j) ≡ false)
asked-between old new [] [] run at i n j done later within other begin unbegun quiet = (refl, refl)
asked-between old new [] (given ∷ all) run at i n j done later within other begin unbegun quiet = absurd run
asked-between old new (happened ∷ events) [] run at i n j done later within other begin unbegun quiet = (refl, refl)
asked-between old new (happened ∷ events) (given ∷ all) run at i zero j done later within other begin unbegun quiet = absurd (omega arith)
asked-between old new (happened ∷ events) (given ∷ all) run at i (suc n) zero done later within other begin unbegun quiet = absurd (omega arith)
asked-between old new (happened ∷ events) (given ∷ all) run at zero (suc n) (suc j) done later within other begin unbegun quiet =
    asked-from run.0 new events all run.1.1 at n j (omega arith) (unasked-begun done given.act at _ (stage_at run.0 at) (run.1.0.moved at) begin other) (
    λ k below. unbegun (suc k) (omega arith) (omega arith)
    ) (λ k after below. quiet (suc k) (omega arith) (omega arith))
asked-between old new (happened ∷ events) (given ∷ all) run at (suc i) (suc n) (suc j) done later within other begin unbegun quiet =
    asked-between run.0 new events all run.1.1 at i n j done (omega arith) (omega arith) other begin (λ k after below. unbegun (suc k) (omega arith) (omega arith)) (
    λ k after below. quiet (suc k) (omega arith) (omega arith)
    )

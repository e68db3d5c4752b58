-- A node holds after an event from which no Start came only where it held before it.
use Rattle.std.proofs.Common.{◌≡◌, ◌==◌, ◌+◌, ◌≤◌, ◌&&◌, ◌||◌, ℕ, Bool, true, false, List, [], ◌∷◌, Option, None, Some, refl, sym, ap, ◌∙◌, subst, arith, eq-eqb, eqb-true}
use lib.Count.{ones}
use Rattle.std.specs.Prelude.{count_ones, filter, if◌then◌else◌, slice_get}
use Rattle.std.specs.List.{range_with_len}
use Rattle.std.specs.Option.{option_map_or, option_or}
use Rattle.std.proofs.lemmas.Bool.{and_parts}
use Rattle.qn_model.specs.declared.configuration.Settings.{Settings}
use Rattle.qn_model.specs.declared.entries.Entry.{Entry}
use Rattle.qn_model.specs.declared.entries.What.{What}
use Rattle.qn_model.specs.declared.events.Event.{Event}
use Rattle.qn_model.specs.declared.events.Event.TheVariants as event
use Rattle.qn_model.specs.declared.packets.Sent.{Sent}
use Rattle.qn_model.specs.declared.times.Timing.{Timing}
use Rattle.qn_model.specs.declared.entries.What.TheVariants as what
use Rattle.qn_model.specs.lemmas.Rules.{running_allowed}
use Rattle.qn_model.specs.Holding.{holds}
use Rattle.qn_model.specs.Lines.{mask_of}
use Rattle.qn_model.specs.Log.{Line, has_start}
use Rattle.qn_model.specs.Moments.{Adds, Boots, Ends, Feeds, Moment, Running, booted, handed, is_holder, logged, node, packets, tick_of, time}
use Rattle.qn_model.specs.NodeOutputs.{newest_outs, with_entry}
use Rattle.qn_model.specs.Rules.{is_on, refusal, unless}
use Rattle.qn_model.specs.Steps.{answered, entry_of, fails, happens, holders, landed, lands_late, outs_after, step}
use Rattle.qn_model.specs.World.{World, first_world, node_at, numbered, op_at}
use Rattle.qn_replay.specs.Generator.{soak_settings}
use Rattle.qn_replay.specs.Soak.{one_if}
use Rattle.qn_replay.proofs.SoakSteps.{filter_three, passing}

-- ---- truths

of_both : (a b c : Bool) → a ≡ false → (a || (b && c)) ≡ true → b ≡ true
of_both true b c none holds = absurd (cc)
of_both false true c none holds = refl
of_both false false c none holds = holds

both : (a b : Bool) → a ≡ true → b ≡ true → (a && b) ≡ true
both true b first second = second
both false b first second = first

-- a truth, or not
pub either : (b : Bool) (P : Type 0) → (b ≡ true → P) → (b ≡ false → P) → P
either true P so other = so refl
either false P so other = other refl

-- ---- one node

-- a node runs and holds
abbrev is_held : Running → Bool
is_held n = n.on && holds n.log

-- no Start came out of the newest entry of a node
abbrev IsQuiet : Running → Type 0
IsQuiet n = has_start (newest_outs n.log) ≡ false

entry_held : (s : Settings) (me : ℕ) (past : List Line) (entry : Entry) → has_start (newest_outs (with_entry s me past entry)) ≡ false → holds (with_entry s me past entry) ≡ true
    → holds past ≡ true
unfolding with_entry holds
entry_held s me past entry none held = of_both _ (holds past) _ none held

handed_held : (s : Settings) (me at : ℕ) (entry : What) (n : Running) → IsQuiet (handed s me at entry n) → is_held (handed s me at entry n) ≡ true → holds n.log ≡ true
unfolding handed logged
handed_held s me at entry n none held = entry_held s me n.log (record { tick = tick_of n.clock; what = entry }) none (and_parts _ _ held).1

no_log : holds [] ≡ true → ⊥
unfolding holds
no_log held = absurd (cc)

booted_held : (s : Settings) (me at base : ℕ) (clean : Bool) (n : Running) → IsQuiet (booted s me at base clean n) → is_held (booted s me at base clean n) ≡ true → ⊥
unfolding booted
booted_held s me at base clean n none held = no_log (handed_held s me at _ _ none held)

-- ---- one of the nodes is changed

changed_held : (same : Bool) (x y : Running) → (same ≡ true → is_held x ≡ true → is_held y ≡ true) → is_held (if same then x else y) ≡ true → is_held y ≡ true
changed_held true x y here held = here refl held
changed_held false x y here held = held

module _ (s : Settings) (earlier : List Moment) where
  adds_is : (me : ℕ) (entry : What) → node s me (Adds me entry ∷ earlier) ≡ handed s me (time earlier) entry (node s me earlier)
  unfolding node
  adds_is me entry = rw (eq-eqb me me refl) refl

  boots_is : (me base : ℕ) (clean : Bool) → node s me (Boots me base clean ∷ earlier) ≡ booted s me (time earlier) base clean (node s me earlier)
  unfolding node
  boots_is me base clean = rw (eq-eqb me me refl) refl

  adds_held : (rank i : ℕ) (entry : What) → (node s rank earlier).on ≡ true → IsQuiet (node s rank (Adds rank entry ∷ earlier)) → is_holder s (Adds rank entry ∷ earlier) i ≡ true
      → is_holder s earlier i ≡ true
  unfolding node
  adds_held rank i entry on none held =
      changed_held (rank == i) (handed s i (time earlier) entry (node s i earlier)) (node s i earlier)
      (λ same now. let is = eqb-true rank i same in
      both _ _ (subst (λ k. (node s k earlier).on ≡ true) is on)
      (handed_held s i (time earlier) entry (node s i earlier)
      (subst IsQuiet (adds_is i entry) (subst (λ k. IsQuiet (node s k (Adds k entry ∷ earlier))) is none)) now))
      held

  boots_held : (rank i base : ℕ) (clean : Bool) → IsQuiet (node s rank (Boots rank base clean ∷ earlier)) → is_holder s (Boots rank base clean ∷ earlier) i ≡ true
      → is_holder s earlier i ≡ true
  unfolding node
  boots_held rank i base clean none held =
      changed_held (rank == i) (booted s i (time earlier) base clean (node s i earlier)) (node s i earlier)
      (λ same now. let is = eqb-true rank i same in
      absurd (booted_held s i (time earlier) base clean (node s i earlier)
      (subst IsQuiet (boots_is i base clean) (subst (λ k. IsQuiet (node s k (Boots k base clean ∷ earlier))) is none)) now))
      held

  ends_held : (rank i : ℕ) → is_holder s (Ends rank ∷ earlier) i ≡ true → is_holder s earlier i ≡ true
  unfolding node
  ends_held rank i held = changed_held (rank == i) (record (node s i earlier) { on = false }) (node s i earlier) (λ same now. absurd (cc)) held

  feeds_held : (rank i : ℕ) → is_holder s (Feeds rank ∷ earlier) i ≡ true → is_holder s earlier i ≡ true
  unfolding node
  feeds_held rank i held = changed_held (rank == i) (record (node s i earlier) { fed = time earlier }) (node s i earlier) (λ same now. now) held

-- ---- an event

module _ (s : Settings) (w : World) (i : ℕ) where
  -- the node of the rank holds in the world after it only where it does in this one
  abbrev Kept : World → Type 0
  Kept after = is_holder s after.moments i ≡ true → is_holder s w.moments i ≡ true

  optional : {A : Type 0} (rank : ℕ) (o : Option A) (f : A → World) → ((a : A) → IsQuiet (node_at s rank (f a)) → Kept (f a)) → IsQuiet (node_at s rank (option_map_or f o w)) → Kept (option_map_or f o w)
  optional rank None f some none held = held
  optional rank (Some a) f some none held = some a none held

  same_moments : {A : Type 0} (o : Option A) (f : A → World) → ((a : A) → Kept (f a)) → Kept (option_map_or f o w)
  same_moments None f same held = held
  same_moments (Some a) f same held = same a held

  handed_on : (rank : ℕ) (other : Option ℕ) (entry : What) → option_or (unless (is_on s rank w) 3) other ≡ None → IsQuiet (node s rank (Adds rank entry ∷ w.moments))
      → is_holder s (Adds rank entry ∷ w.moments) i ≡ true → is_holder s w.moments i ≡ true
  handed_on rank other entry may none held = adds_held s w.moments rank i entry (running_allowed _ other may) none held

  pub held_before : (t : Timing) (e : Event) → refusal s t e w ≡ None → has_start (outs_after s e (step s t e w)) ≡ false → Kept (step s t e w)
  unfolding step refusal node
  held_before t (event.Pass dt clocks) may none held = held
  held_before t (event.Boot rank base) may none held = boots_held s w.moments rank.0 i base false none held
  held_before t (event.BootClean rank base) may none held = boots_held s w.moments rank.0 i base true none held
  held_before t (event.Crash rank) may none held = ends_held s w.moments rank.0 i held
  held_before t (event.Land rank) may none held = same_moments (op_at s rank.0 w) (λ op. landed s t rank.0 op w) (λ op now. now) held
  held_before t (event.Done rank) may none held =
      optional rank.0 (w.took rank.0) (λ entry. answered rank.0 entry w) (λ entry. handed_on rank.0 _ entry may) none held
  held_before t (event.Fail rank) may none held =
      optional rank.0 (op_at s rank.0 w) (λ op. fails s rank.0 op w) (λ op. handed_on rank.0 _ _ may) none held
  held_before t (event.Late rank number) may none held = same_moments (numbered (w.left rank.0) number) (λ op. lands_late rank.0 number op w) (λ op now. now) held
  held_before t (event.View rank view) may none held = handed_on rank.0 _ (what.View view) may none held
  held_before t (event.Deliver rank number) may none held =
      optional rank.0 (slice_get (packets s w.moments) number) (λ (sent : Sent). happens (Adds rank.0 (entry_of sent.packet)) w) (λ sent. handed_on rank.0 _ _ may) none held
  held_before t (event.Device rank agrees) may none held = handed_on rank.0 _ (what.Device agrees) may none held
  held_before t (event.Tick rank) may none held = handed_on rank.0 _ what.Tick may none held
  held_before t (event.Stopped rank) may none held = handed_on rank.0 _ (what.Stopped true) may none held
  held_before t (event.Unstopped rank) may none held = handed_on rank.0 _ (what.Stopped false) may none held
  held_before t (event.Leave rank) may none held = handed_on rank.0 _ what.Leave may none held
  held_before t (event.Feed rank) may none held = feeds_held s w.moments rank.0 i held
  held_before t (event.Operator rank message) may none held = held

-- ---- the three nodes of a soak

ones_of : (first second third : Bool) → count_ones (mask_of (passing first second third)).0 ≡ one_if first + one_if second + one_if third
unfolding ones
ones_of true true true = refl
ones_of true true false = refl
ones_of true false true = refl
ones_of true false false = refl
ones_of false true true = refl
ones_of false true false = refl
ones_of false false true = refl
ones_of false false false = refl

count_three : (p : ℕ → Bool) → count_ones (mask_of (filter p (range_with_len 0 3))).0 ≡ one_if (p 0) + one_if (p 1) + one_if (p 2)
count_three p = ap (λ ranks. count_ones (mask_of ranks).0) (filter_three p (p 0) (p 1) (p 2) refl refl refl) ∙ ones_of (p 0) (p 1) (p 2)

fewer : (after before : Bool) → (after ≡ true → before ≡ true) → one_if after ≤ one_if before
fewer true true kept = omega arith
fewer true false kept = absurd (let false_is = kept refl in cc)
fewer false true kept = omega arith
fewer false false kept = omega arith

few_here : (t : Timing) (e : Event) (d : World) (most : ℕ) → refusal soak_settings t e d ≡ None → has_start (outs_after soak_settings e (step soak_settings t e d)) ≡ false
    → count_ones (holders soak_settings d).0 ≤ most → count_ones (holders soak_settings (step soak_settings t e d)).0 ≤ most
few_here t e d most may none few =
    let p = is_holder soak_settings (step soak_settings t e d).moments in
    let q = is_holder soak_settings d.moments in
    let first = fewer (p 0) (q 0) (held_before soak_settings d 0 t e may none) in
    let second = fewer (p 1) (q 1) (held_before soak_settings d 1 t e may none) in
    let third = fewer (p 2) (q 2) (held_before soak_settings d 2 t e may none) in
    omega (arith, count_three p, count_three q, first, second, third, few)

-- an event from which no Start came leaves at most as many holders as there were
pub few_more : {s : Settings} (t : Timing) (e : Event) (d : World) (most : ℕ) → s ≡ soak_settings → refusal s t e d ≡ None → has_start (outs_after s e (step s t e d)) ≡ false
    → count_ones (holders soak_settings d).0 ≤ most → count_ones (holders s (step s t e d)).0 ≤ most
few_more {s} t e d most settings may none few =
    subst (λ (x : Settings). refusal x t e d ≡ None → has_start (outs_after x e (step x t e d)) ≡ false → count_ones (holders x (step x t e d)).0 ≤ most) (sym settings)
    (λ may none. few_here t e d most may none few) may none

-- nobody holds in the first world
pub none_first : (most : ℕ) → count_ones (holders soak_settings first_world).0 ≤ most
unfolding node
none_first most = omega (arith, count_three (is_holder soak_settings first_world.moments))

-- What a moment is to one node, what stays true of a node over the moments, and how its clock runs.
use Rattle.std.proofs.Common.{◌≡◌, ℕ, suc, ◌+◌, ◌-◌, ◌*◌, ◌<◌, ◌≤◌, Bool, true, false, List, [], ◌∷◌, length, Some, None, refl, sym, ap, ◌∙◌, subst, arith, ◌&&◌, ◌==◌, if◌then◌else◌, nat_le}
use Rattle.std.proofs.lemmas.Bool.{false≢true, eqb-true, leb-true, not-true}
use Rattle.qn_base.specs.declared.ids.Rank.{Rank}
use Rattle.qn_base.specs.lemmas.Options.{found_within, none_is_not_some}
use Rattle.qn_base.specs.lemmas.Bools.{first_of_both, second_of_both}
use Rattle.qn_model.specs.declared.configuration.Settings.{Settings}
use Rattle.qn_model.specs.declared.times.Timing.{Timing}
use Rattle.qn_model.specs.declared.entries.What.{What}
use Rattle.qn_model.specs.declared.entries.What.TheVariants as what
use Rattle.qn_model.specs.lemmas.Entries.{read_fits}
use Rattle.qn_model.specs.lemmas.Moments.{node_adds, node_boots, node_feeds, node_ends, clock_handed}
use Rattle.qn_model.specs.Log.{Line, op_out, ask_place, ask_tick, claimed, claim_of, incarnation, timing, times_of, no_times, disk_of, has_start, has_stop, is_answer, is_view, view_of}
use Rattle.qn_model.specs.Phases.{phase}
use Rattle.qn_model.specs.NodeOutputs.{with_entry, newest_outs}
use Rattle.qn_model.specs.Moments.{Before, Itself, Later}
use Rattle.qn_safety.specs.Earlier.{before_then}
use Rattle.qn_model.specs.Log as LogSpec
use Rattle.qn_model.specs.Moments.{Moment, Passes, Boots, Adds, Feeds, Ends, Running, tick_of, is_gone, has_feed, advance_of, advanced, logged, handed, begin_of, booted, time, node}
use Rattle.qn_model.specs.Rules.{passes, is_within_bounds, outlives}
use Rattle.qn_safety.specs.Timed.{IsSameBoot, IsRuled, AllRuled, NoMoment, OneRuled}
use Rattle.qn_safety.proofs.Logs.{Made, NoLine, OneMore}

-- what a moment is to the node of a rank, with its state afterwards
pub data Turn (s : Settings) (i : ℕ) (earlier : List Moment) : Moment → Type 0 where
  IsApart : (moment : Moment) → node s i (moment ∷ earlier) ≡ node s i earlier → time (moment ∷ earlier) ≡ time earlier → Turn s i earlier moment
  IsPass : (dt : ℕ) (clocks : List (Rank × ℕ)) → node s i (Passes dt clocks ∷ earlier) ≡ advanced (advance_of dt clocks i) (node s i earlier)
      → time (Passes dt clocks ∷ earlier) ≡ time earlier + dt → Turn s i earlier (Passes dt clocks)
  IsBoot : (base : ℕ) (clean : Bool) → node s i (Boots i base clean ∷ earlier) ≡ booted s i (time earlier) base clean (node s i earlier)
      → time (Boots i base clean ∷ earlier) ≡ time earlier → Turn s i earlier (Boots i base clean)
  IsAdd : (entry : What) → node s i (Adds i entry ∷ earlier) ≡ handed s i (time earlier) entry (node s i earlier)
      → time (Adds i entry ∷ earlier) ≡ time earlier → Turn s i earlier (Adds i entry)
  IsFeed : node s i (Feeds i ∷ earlier) ≡ record (node s i earlier) { fed = time earlier }
      → time (Feeds i ∷ earlier) ≡ time earlier → Turn s i earlier (Feeds i)
  IsEnd : node s i (Ends i ∷ earlier) ≡ record (node s i earlier) { on = false }
      → time (Ends i ∷ earlier) ≡ time earlier → Turn s i earlier (Ends i)

pub boots_apart : (s : Settings) (i other base : ℕ) (clean : Bool) (earlier : List Moment) → (other == i) ≡ false → node s i (Boots other base clean ∷ earlier) ≡ node s i earlier
unfolding node
boots_apart s i other base clean earlier e = ap (λ b. if b then booted s i (time earlier) base clean (node s i earlier) else node s i earlier) e

adds_apart : (s : Settings) (i other : ℕ) (entry : What) (earlier : List Moment) → (other == i) ≡ false → node s i (Adds other entry ∷ earlier) ≡ node s i earlier
unfolding node
adds_apart s i other entry earlier e = ap (λ b. if b then handed s i (time earlier) entry (node s i earlier) else node s i earlier) e

feeds_apart : (s : Settings) (i other : ℕ) (earlier : List Moment) → (other == i) ≡ false → node s i (Feeds other ∷ earlier) ≡ node s i earlier
unfolding node
feeds_apart s i other earlier e = ap (λ b. if b then record (node s i earlier) { fed = time earlier } else node s i earlier) e

ends_apart : (s : Settings) (i other : ℕ) (earlier : List Moment) → (other == i) ≡ false → node s i (Ends other ∷ earlier) ≡ node s i earlier
unfolding node
ends_apart s i other earlier e = ap (λ b. if b then record (node s i earlier) { on = false } else node s i earlier) e

pub turn : (s : Settings) (i : ℕ) (earlier : List Moment) (moment : Moment) → Turn s i earlier moment
unfolding time
turn s i earlier (Passes dt clocks) = IsPass dt clocks (unfold node in refl) refl
turn s i earlier (Boots other base clean) = by_owner (other == i) refl
  where
    by_owner : (b : Bool) → (other == i) ≡ b → Turn s i earlier (Boots other base clean)
    by_owner true e = subst (λ k. Turn s i earlier (Boots k base clean)) (sym (eqb-true other i e)) (IsBoot base clean (node_boots s i base clean earlier) refl)
    by_owner false e = IsApart (Boots other base clean) (boots_apart s i other base clean earlier e) refl
turn s i earlier (Adds other entry) = by_owner (other == i) refl
  where
    by_owner : (b : Bool) → (other == i) ≡ b → Turn s i earlier (Adds other entry)
    by_owner true e = subst (λ k. Turn s i earlier (Adds k entry)) (sym (eqb-true other i e)) (IsAdd entry (node_adds s i entry earlier) refl)
    by_owner false e = IsApart (Adds other entry) (adds_apart s i other entry earlier e) refl
turn s i earlier (Feeds other) = by_owner (other == i) refl
  where
    by_owner : (b : Bool) → (other == i) ≡ b → Turn s i earlier (Feeds other)
    by_owner true e = subst (λ k. Turn s i earlier (Feeds k)) (sym (eqb-true other i e)) (IsFeed (node_feeds s i earlier) refl)
    by_owner false e = IsApart (Feeds other) (feeds_apart s i other earlier e) refl
turn s i earlier (Ends other) = by_owner (other == i) refl
  where
    by_owner : (b : Bool) → (other == i) ≡ b → Turn s i earlier (Ends other)
    by_owner true e = subst (λ k. Turn s i earlier (Ends k)) (sym (eqb-true other i e)) (IsEnd (node_ends s i earlier) refl)
    by_owner false e = IsApart (Ends other) (ends_apart s i other earlier e) refl

pub made_entry : (s : Settings) (me : ℕ) (past : List Line) (tick : ℕ) (entry : What) → Made s me past → LogSpec.now past ≤ tick
    → Made s me (with_entry s me past (record { tick = tick; what = entry }))
unfolding with_entry
made_entry s me past tick entry made order = OneMore (record { fitting = read_fits s me past entry; place = refl; gave = refl; order = order }) made

-- the log before its newest line
abbrev pub older : List Line → List Line
older [] = []
older (line ∷ past) = past

-- what is always true of a node, at the present true time
pub record IsSound (s : Settings) (t : Timing) (i now : ℕ) (n : Running) : Type 0 where
  pub made : Made s i n.log
  pub order : LogSpec.now n.log ≤ tick_of n.clock
  pub known : n.on ≡ true → i < length s.nodes
  pub living : n.on ≡ true → is_gone (phase s n.log) ≡ false
  pub going : is_gone (phase s (older n.log)) ≡ false
  pub fed_before : n.fed ≤ now
  pub decided_before : (at : ℕ) → n.decided ≡ Some at → at ≤ now
  pub alive : n.on ≡ true → 99 * now ≤ 99 * n.fed + 100 * t.watchdog

pub sound_handed : (s : Settings) (t : Timing) (i now : ℕ) (entry : What) (n : Running) → IsSound s t i now n → n.on ≡ true → IsSound s t i now (handed s i now entry n)
unfolding handed logged
sound_handed s t i now entry n was on =
    let log : List Line = with_entry s i n.log (record { tick = tick_of n.clock; what = entry }) in
    record {
      made = made_entry s i n.log (tick_of n.clock) entry was.made was.order;
      order = tick_order;
      known = λ e. was.known on;
      living = λ e. not-true (is_gone (phase s log)) e;
      going = went_on;
      fed_before = was.fed_before;
      decided_before = λ at e. found_within (has_feed (newest_outs log)) now at n.decided (was.decided_before at) e;
      alive = λ e. was.alive on;
    }
  where
    tick_order : LogSpec.now (with_entry s i n.log (record { tick = tick_of n.clock; what = entry })) ≤ tick_of n.clock
    tick_order = unfold with_entry in (omega arith)

    went_on : is_gone (phase s (older (with_entry s i n.log (record { tick = tick_of n.clock; what = entry })))) ≡ false
    went_on = unfold with_entry in was.living on

fresh_sound : (s : Settings) (t : Timing) (i now base boots : ℕ) → i < length s.nodes → IsSound s t i now (record { on = true; boots = boots; log = []; clock = base; fed = now; decided = None })
unfolding phase
fresh_sound s t i now base boots known = record {
  made = NoLine;
  order = omega arith;
  known = λ e. known;
  living = λ e. refl;
  going = refl;
  fed_before = omega arith;
  decided_before = λ at e. none_is_not_some at e;
  alive = λ e. omega arith;
}

pass_parts : (t : Timing) (dt advance now : ℕ) (n : Running) → n.on ≡ true → passes t dt advance now n ≡ true
    → (99 * dt ≤ advance) × (advance ≤ 101 * dt) × (99 * (now + dt) ≤ 99 * n.fed + 100 * t.watchdog)
pass_parts t dt advance now n on e =
    let both : (is_within_bounds dt advance && outlives t (now + dt) n.fed) ≡ true = sym (ap (λ b. if b then is_within_bounds dt advance && outlives t (now + dt) n.fed else true) on) ∙ e in
    let bounds = first_of_both (is_within_bounds dt advance) (outlives t (now + dt) n.fed) both in
    let low = leb-true (99 * dt) advance (first_of_both (nat_le (99 * dt) advance) (nat_le advance (101 * dt)) bounds) in
    let high = leb-true advance (101 * dt) (second_of_both (nat_le (99 * dt) advance) (nat_le advance (101 * dt)) bounds) in
    let lives = leb-true (99 * (now + dt - n.fed)) (100 * t.watchdog) (second_of_both (is_within_bounds dt advance) (outlives t (now + dt) n.fed) both) in
    (low, high, omega arith)

sound_advanced : (s : Settings) (t : Timing) (i now dt advance : ℕ) (n : Running) → IsSound s t i now n → (n.on ≡ true → passes t dt advance now n ≡ true)
    → IsSound s t i (now + dt) (advanced advance n)
sound_advanced s t i now dt advance n was rule = record {
  made = was.made;
  order = by_on n.on refl;
  known = was.known;
  living = was.living;
  going = was.going;
  fed_before = let p = was.fed_before in omega arith;
  decided_before = λ at e. let p = was.decided_before at e in omega arith;
  alive = λ e. (pass_parts t dt advance now n e (rule e)).2;
}
  where
    by_on : (b : Bool) → n.on ≡ b → LogSpec.now n.log ≤ tick_of (if b then n.clock + advance else n.clock)
    by_on true e = let p = was.order in omega arith
    by_on false e = was.order

sound_fed : (s : Settings) (t : Timing) (i now : ℕ) (n : Running) → IsSound s t i now n → IsSound s t i now (record n { fed = now })
sound_fed s t i now n was = record {
  made = was.made;
  order = was.order;
  known = was.known;
  living = was.living;
  going = was.going;
  fed_before = omega arith;
  decided_before = was.decided_before;
  alive = λ e. omega arith;
}

sound_ended : (s : Settings) (t : Timing) (i now : ℕ) (n : Running) → IsSound s t i now n → IsSound s t i now (record n { on = false })
sound_ended s t i now n was = record {
  made = was.made;
  order = was.order;
  known = λ e. absurd (false≢true e);
  living = λ e. absurd (false≢true e);
  going = was.going;
  fed_before = was.fed_before;
  decided_before = was.decided_before;
  alive = λ e. absurd (false≢true e);
}

sound_turn : (s : Settings) (t : Timing) (i : ℕ) (earlier : List Moment) (moment : Moment) → Turn s i earlier moment → IsRuled s t moment earlier
    → IsSound s t i (time earlier) (node s i earlier) → IsSound s t i (time (moment ∷ earlier)) (node s i (moment ∷ earlier))
sound_turn s t i earlier moment (IsApart m e at) rule was = subst (λ n. IsSound s t i (time (moment ∷ earlier)) n) (sym e) (subst (λ now. IsSound s t i now (node s i earlier)) (sym at) was)
sound_turn s t i earlier moment (IsPass dt clocks e at) rule was =
    subst (λ n. IsSound s t i (time (moment ∷ earlier)) n) (sym e) (subst (λ now. IsSound s t i now (advanced (advance_of dt clocks i) (node s i earlier))) (sym at)
    (sound_advanced s t i (time earlier) dt (advance_of dt clocks i) (node s i earlier) was (λ on. rule i (was.known on))))
sound_turn s t i earlier moment (IsBoot base clean e at) rule was =
    subst (λ n. IsSound s t i (time (moment ∷ earlier)) n) (sym e) (subst (λ now. IsSound s t i now (booted s i (time earlier) base clean (node s i earlier))) (sym at)
    (sound_booted (node s i earlier)))
  where
    sound_booted : (n : Running) → IsSound s t i (time earlier) (booted s i (time earlier) base clean n)
    sound_booted n = unfold booted in sound_handed s t i (time earlier) (begin_of clean) _ (fresh_sound s t i (time earlier) base (suc n.boots) rule.1) refl
sound_turn s t i earlier moment (IsAdd entry e at) rule was =
    subst (λ n. IsSound s t i (time (moment ∷ earlier)) n) (sym e) (subst (λ now. IsSound s t i now (handed s i (time earlier) entry (node s i earlier))) (sym at)
    (sound_handed s t i (time earlier) entry (node s i earlier) was rule.0))
sound_turn s t i earlier moment (IsFeed e at) rule was =
    subst (λ n. IsSound s t i (time (moment ∷ earlier)) n) (sym e) (subst (λ now. IsSound s t i now (record (node s i earlier) { fed = time earlier })) (sym at)
    (sound_fed s t i (time earlier) (node s i earlier) was))
sound_turn s t i earlier moment (IsEnd e at) rule was =
    subst (λ n. IsSound s t i (time (moment ∷ earlier)) n) (sym e) (subst (λ now. IsSound s t i now (record (node s i earlier) { on = false })) (sym at)
    (sound_ended s t i (time earlier) (node s i earlier) was))

never_sound : (s : Settings) (t : Timing) (i : ℕ) → IsSound s t i (time []) (node s i [])
unfolding time node phase
never_sound s t i = record {
  made = NoLine;
  order = omega arith;
  known = λ e. absurd (false≢true e);
  living = λ e. absurd (false≢true e);
  going = refl;
  fed_before = omega arith;
  decided_before = λ at e. none_is_not_some at e;
  alive = λ e. absurd (false≢true e);
}

-- a node is sound after every moment
pub sound : {s : Settings} {t : Timing} {moments : List Moment} → AllRuled s t moments → (i : ℕ) → IsSound s t i (time moments) (node s i moments)
sound {s = s} {t = t} NoMoment i = never_sound s t i
sound {s = s} {t = t} (OneRuled {moment = moment} {earlier = earlier} rule ruled) i =
    sound_turn s t i earlier moment (turn s i earlier moment) rule (sound ruled i)

pub ruled_before : {s : Settings} {t : Timing} {old new : List Moment} → Before old new → AllRuled s t new → AllRuled s t old
ruled_before Itself ruled = ruled
ruled_before (Later newest more) (OneRuled rule ruled) = ruled_before more ruled

pub newest_rule : {s : Settings} {t : Timing} {moment : Moment} {earlier : List Moment} → AllRuled s t (moment ∷ earlier) → IsRuled s t moment earlier
newest_rule (OneRuled rule ruled) = rule

pub earlier_ruled : {s : Settings} {t : Timing} {moment : Moment} {earlier : List Moment} → AllRuled s t (moment ∷ earlier) → AllRuled s t earlier
earlier_ruled (OneRuled rule ruled) = ruled

pub booted_boots : (s : Settings) (i now base : ℕ) (clean : Bool) (n : Running) → (booted s i now base clean n).boots ≡ suc n.boots
unfolding booted handed logged
booted_boots s i now base clean n = refl

pub handed_boots : (s : Settings) (i now : ℕ) (entry : What) (n : Running) → (handed s i now entry n).boots ≡ n.boots
unfolding handed logged
handed_boots s i now entry n = refl

-- the count of boots never falls
boots_turn : (s : Settings) (i : ℕ) (earlier : List Moment) (moment : Moment) → Turn s i earlier moment → (node s i earlier).boots ≤ (node s i (moment ∷ earlier)).boots
boots_turn s i earlier moment (IsApart m e at) = let p = ap (λ n. n.boots) e in omega arith
boots_turn s i earlier moment (IsPass dt clocks e at) = let p = ap (λ n. n.boots) e in omega arith
boots_turn s i earlier moment (IsBoot base clean e at) = let p = ap (λ n. n.boots) e ∙ booted_boots s i (time earlier) base clean (node s i earlier) in omega arith
boots_turn s i earlier moment (IsAdd entry e at) = let p = ap (λ n. n.boots) e ∙ handed_boots s i (time earlier) entry (node s i earlier) in omega arith
boots_turn s i earlier moment (IsFeed e at) = let p = ap (λ n. n.boots) e in omega arith
boots_turn s i earlier moment (IsEnd e at) = let p = ap (λ n. n.boots) e in omega arith

pub boots_le : (s : Settings) (i : ℕ) {old new : List Moment} → Before old new → (node s i old).boots ≤ (node s i new).boots
boots_le s i Itself = omega arith
boots_le s i (Later newest {new = new} more) = let p = boots_le s i more in let q = boots_turn s i new newest (turn s i new newest) in omega arith

-- a moment between two moments of one incarnation is of that incarnation too
pub same_mid : (s : Settings) (i : ℕ) {first mid last : List Moment} → Before first mid → Before mid last → IsSameBoot s i first last
    → IsSameBoot s i first mid × IsSameBoot s i mid last
same_mid s i first_mid mid_last same =
    let p = boots_le s i first_mid in let q = boots_le s i mid_last in (omega arith, omega arith)

-- one step of a running node in one boot
record OneStep (s : Settings) (i : ℕ) (earlier : List Moment) (moment : Moment) : Type 0 where
  on : (node s i earlier).on ≡ true
  grows : Before (node s i earlier).log (node s i (moment ∷ earlier)).log
  slow : 99 * time (moment ∷ earlier) + (node s i earlier).clock ≤ (node s i (moment ∷ earlier)).clock + 99 * time earlier
  fast : (node s i (moment ∷ earlier)).clock + 101 * time earlier ≤ 101 * time (moment ∷ earlier) + (node s i earlier).clock
  forward : time earlier ≤ time (moment ∷ earlier)

handed_grows : (s : Settings) (i now : ℕ) (entry : What) (n : Running) → Before n.log (handed s i now entry n).log
unfolding handed logged with_entry
handed_grows s i now entry n = Later _ Itself

still : (s : Settings) (i : ℕ) (earlier : List Moment) (moment : Moment) → (node s i earlier).on ≡ true → Before (node s i earlier).log (node s i (moment ∷ earlier)).log
    → (node s i (moment ∷ earlier)).clock ≡ (node s i earlier).clock → time (moment ∷ earlier) ≡ time earlier → OneStep s i earlier moment
still s i earlier moment on grows clock at = record { on = on; grows = grows; slow = omega arith; fast = omega arith; forward = omega arith }

one_step : (s : Settings) (t : Timing) (i : ℕ) (earlier : List Moment) (moment : Moment) → Turn s i earlier moment → IsRuled s t moment earlier
    → IsSound s t i (time earlier) (node s i earlier)
    → (node s i (moment ∷ earlier)).boots ≤ (node s i earlier).boots → (node s i (moment ∷ earlier)).on ≡ true → OneStep s i earlier moment
one_step s t i earlier moment (IsApart m e at) rule sound_now same on =
    still s i earlier moment (sym (ap (λ n. n.on) e) ∙ on) (subst (λ n. Before (node s i earlier).log n.log) (sym e) Itself) (ap (λ n. n.clock) e) at
one_step s t i earlier moment (IsPass dt clocks e at) rule sound_now same on =
    let was : (node s i earlier).on ≡ true = sym (ap (λ n. n.on) e) ∙ on in
    let parts = pass_parts t dt (advance_of dt clocks i) (time earlier) (node s i earlier) was (rule i (sound_now.known was)) in
    let low = parts.0 in
    let high = parts.1 in
    let clock : (node s i (moment ∷ earlier)).clock ≡ (node s i earlier).clock + advance_of dt clocks i =
    ap (λ n. n.clock) e ∙ ap (λ b. if b then (node s i earlier).clock + advance_of dt clocks i else (node s i earlier).clock) was in
    record {
      on = was;
      grows = subst (λ n. Before (node s i earlier).log n.log) (sym e) Itself;
      slow = omega arith;
      fast = omega arith;
      forward = omega arith;
    }
one_step s t i earlier moment (IsBoot base clean e at) rule sound_now same on =
    absurd (let p = ap (λ n. n.boots) e ∙ booted_boots s i (time earlier) base clean (node s i earlier) in omega arith)
one_step s t i earlier moment (IsAdd entry e at) rule sound_now same on =
    still s i earlier moment rule.0 (subst (λ n. Before (node s i earlier).log n.log) (sym e) (handed_grows s i (time earlier) entry (node s i earlier)))
    (ap (λ n. n.clock) e ∙ clock_handed s i (time earlier) entry (node s i earlier)) at
one_step s t i earlier moment (IsFeed e at) rule sound_now same on =
    still s i earlier moment rule.on (subst (λ n. Before (node s i earlier).log n.log) (sym e) Itself) (ap (λ n. n.clock) e) at
one_step s t i earlier moment (IsEnd e at) rule sound_now same on = absurd (false≢true (sym (ap (λ n. n.on) e) ∙ on))

-- between two moments of one incarnation: it was running, its log grew, and its clock kept the bounds
pub record Span (s : Settings) (i : ℕ) (old new : List Moment) : Type 0 where
  pub on : (node s i old).on ≡ true
  pub grows : Before (node s i old).log (node s i new).log
  pub slow : 99 * time new + (node s i old).clock ≤ (node s i new).clock + 99 * time old
  pub fast : (node s i new).clock + 101 * time old ≤ 101 * time new + (node s i old).clock
  pub forward : time old ≤ time new

pub span : {s : Settings} {t : Timing} (i : ℕ) {old new : List Moment} → AllRuled s t new → Before old new → IsSameBoot s i old new → (node s i new).on ≡ true → Span s i old new
span i ruled Itself same on = record { on = on; grows = Itself; slow = omega arith; fast = omega arith; forward = omega arith }
span {s = s} {t = t} i {old = old} (OneRuled {moment = moment} {earlier = earlier} rule ruled) (Later newest more) same on =
    let low = boots_le s i more in
    let high = boots_turn s i earlier moment (turn s i earlier moment) in
    let step = one_step s t i earlier moment (turn s i earlier moment) rule (sound ruled i) (omega arith) on in
    let same_earlier : (node s i old).boots ≡ (node s i earlier).boots = omega arith in
    let rest = span i ruled more same_earlier step.on in
    let rest_slow = rest.slow in
    let rest_fast = rest.fast in
    let rest_forward = rest.forward in
    let step_slow = step.slow in
    let step_fast = step.fast in
    let step_forward = step.forward in
    record {
      on = rest.on;
      grows = before_then rest.grows step.grows;
      slow = omega arith;
      fast = omega arith;
      forward = omega arith;
    }

-- Over the moments of a quiet world each other member is asked within a loop and a turn.
use Rattle.std.proofs.Common.{◌≡◌, ℕ, ◌+◌, ◌≤◌, ◌<◌, Bool, true, false, List, ◌∷◌, Contains, length, Some, if◌then◌else◌, ◌==◌, refl, sym, ap, ◌∙◌, subst, arith, ◌⊎◌, inl, inr}
use Rattle.std.specs.Option.{option_map_or}
use Rattle.std.proofs.lemmas.Bool.{eqb-true}
use Rattle.qn_base.specs.declared.ids.View.{View}
use Rattle.qn_base.specs.Members.{is_member}
use Rattle.qn_base.specs.lemmas.Numbers.{equal_to_itself}
use Rattle.qn_base.specs.lemmas.Elements.{IsIn, contains}
use Rattle.qn_model.specs.declared.configuration.Settings.{Settings}
use Rattle.qn_model.specs.declared.times.Timing.{Timing}
use Rattle.qn_model.specs.declared.entries.What.{What}
use Rattle.qn_model.specs.declared.life.Phase.TheVariants.{Booting}
use Rattle.qn_model.specs.lemmas.Entries.{read_fits}
use Rattle.qn_model.specs.Log.{Line, now, timing}
use Rattle.qn_model.specs.Phases.{phase}
use Rattle.qn_model.specs.Fitting.{read_as}
use Rattle.qn_model.specs.Hearing.{is_free}
use Rattle.qn_model.specs.NodeVotes.{install, is_in_view, view}
use Rattle.qn_model.specs.NodeOutputs.{ask_to, moment, newest_outs, taken_in, with_read, with_entry}
use Rattle.qn_model.specs.Moments.{Before, Itself, Later, Moment, Passes, Boots, Adds, Feeds, Ends, Running, tick_of, logged, handed, booted, node, time}
use Rattle.qn_safety.specs.Timed.{IsTimedRun}
use Rattle.qn_safety.specs.Earlier.{before_tail}
use Rattle.qn_progress.specs.Pace.{Pace}
use Rattle.qn_progress.specs.Quiet.{IsQuiet, QuietSince, FromHere, AndThen, DelaysOver}
use Rattle.qn_progress.proofs.Entries.{view_same}
use Rattle.qn_progress.proofs.Busy.{Quietly, line_with}
use Rattle.qn_progress.proofs.Steps.{outs_now}
use Rattle.qn_progress.proofs.Starts.{free_stays}
use Rattle.qn_progress.proofs.Over.{asked_by, Stands, stands, Known, known, QuietLog, quiet_log, quiet_last, entry_quietly, since_before, now_by, read_by_clock, not_booting}
use Rattle.qn_progress.proofs.Below.{Below}
use Rattle.qn_progress.proofs.Asking.{asking_step}

-- The node asked another rank under a view by a tick: at an entry between the two moments the Ask is among its outputs.
pub record HasAsked (s : Settings) (rank : ℕ) (present : View) (other limit : ℕ) (old new : List Moment) : Type 0 where
  pub entry : What
  pub before : List Moment
  pub after : Before old before
  pub back : Before (Adds rank entry ∷ before) new
  pub asks : Contains (newest_outs (node s rank (Adds rank entry ∷ before)).log)
      (ask_to rank (taken_in (node s rank before).log (tick_of (node s rank before).clock) (read_as s rank (node s rank before).log entry)) present other)
  pub soon : tick_of (node s rank before).clock ≤ limit

-- The world is quiet from an old moment to a new one, more than a loop and a turn later; the node has asked under its view before, which the
-- other rank is a member of.
pub record AsksQuietly (s : Settings) (t : Timing) (rank : ℕ) (pace : Pace) (present : View) (other : ℕ) (old new : List Moment) : Type 0 where
  pub last : ℕ
  pub fast : pace.disk < t.loop_ms
  pub since : QuietSince s rank pace (install (node s rank old).log) old new
  pub over : DelaysOver s (tick_of (node s rank old).clock) (node s rank old).log
  pub asked : moment s (node s rank old).log ≡ Some last
  pub sees : view (node s rank old).log ≡ Some present
  pub below : other < length s.nodes
  pub member : is_in_view (node s rank old).log other ≡ true
  pub apart : ¬ (other ≡ rank)
  pub late : tick_of (node s rank old).clock + t.loop_ms + pace.turn < tick_of (node s rank new).clock

-- until then the last asking moment stays
data Asking (s : Settings) (me : ℕ) (present : View) (j limit last latest : ℕ) (old new : List Moment) : Type 0 where
  Asked : HasAsked s me present j limit old new → Asking s me present j limit last latest old new
  Free : is_free (node s me new).log j ≡ true → Asking s me present j limit last latest old new
  Waits : moment s (node s me new).log ≡ Some last → now (node s me new).log ≤ latest → Asking s me present j limit last latest old new

lift : {s : Settings} {me : ℕ} {present : View} {j limit last latest : ℕ} {old earlier : List Moment} (m : Moment) → (node s me (m ∷ earlier)).log ≡ (node s me earlier).log
    → Asking s me present j limit last latest old earlier → Asking s me present j limit last latest old (m ∷ earlier)
lift m same (Asked a) = Asked (record { entry = a.entry; before = a.before; after = a.after; back = Later m a.back; asks = a.asks; soon = a.soon })
lift {j = j} m same (Free f) = Free (ap (λ l. is_free l j) same ∙ f)
lift {s = s} m same (Waits w le) = Waits (ap (λ l. moment s l) same ∙ w) (rw same le)

handed_is : (s : Settings) (me now' : ℕ) (entry : What) (n : Running) → (handed s me now' entry n).log ≡ with_read s me n.log (tick_of n.clock) (read_as s me n.log entry)
unfolding handed logged with_entry
handed_is s me now' entry n = refl

booting_is : (s : Settings) (me now' base : ℕ) (clean : Bool) (n : Running) → phase s (booted s me now' base clean n).log ≡ Booting
unfolding booted handed logged with_entry phase
booting_is s me now' base true n = refl
booting_is s me now' base false n = refl

-- what a moment is to the log of a node
pub data Step (s : Settings) (me : ℕ) (earlier : List Moment) : Moment → Type 0 where
  Rests : {m : Moment} → (node s me (m ∷ earlier)).log ≡ (node s me earlier).log → Step s me earlier m
  Enters : (entry : What) → (node s me (Adds me entry ∷ earlier)).log
      ≡ with_read s me (node s me earlier).log (tick_of (node s me earlier).clock) (read_as s me (node s me earlier).log entry) → Step s me earlier (Adds me entry)
  Restarts : {m : Moment} → phase s (node s me (m ∷ earlier)).log ≡ Booting → Step s me earlier m

-- the log of a node that was handed an entry
pub added_log : (s : Settings) (me : ℕ) (entry : What) (earlier : List Moment) → (node s me (Adds me entry ∷ earlier)).log
    ≡ with_read s me (node s me earlier).log (tick_of (node s me earlier).clock) (read_as s me (node s me earlier).log entry)
unfolding node
added_log s me entry earlier =
    ap (λ b. (if b then handed s me (time earlier) entry (node s me earlier) else node s me earlier).log) (equal_to_itself me)
    ∙ handed_is s me (time earlier) entry (node s me earlier)

added : (s : Settings) (me : ℕ) (entry : What) (earlier : List Moment) → Step s me earlier (Adds me entry)
added s me entry earlier = Enters entry (added_log s me entry earlier)

restarted : (s : Settings) (me base : ℕ) (clean : Bool) (earlier : List Moment) → Step s me earlier (Boots me base clean)
unfolding node
restarted s me base clean earlier =
    Restarts (ap (λ b. phase s (if b then booted s me (time earlier) base clean (node s me earlier) else node s me earlier).log) (equal_to_itself me)
    ∙ booting_is s me (time earlier) base clean (node s me earlier))

pub step : (s : Settings) (me : ℕ) (m : Moment) (earlier : List Moment) → Step s me earlier m
unfolding node
step s me (Passes dt clocks) earlier = Rests refl
step s me (Boots other base clean) earlier = by_owner (other == me) refl
  where
    by_owner : (b : Bool) → (other == me) ≡ b → Step s me earlier (Boots other base clean)
    by_owner true e = subst (λ rank. Step s me earlier (Boots rank base clean)) (sym (eqb-true other me e)) (restarted s me base clean earlier)
    by_owner false e = Rests (ap (λ b. (if b then booted s me (time earlier) base clean (node s me earlier) else node s me earlier).log) e)
step s me (Adds other entry) earlier = by_owner (other == me) refl
  where
    by_owner : (b : Bool) → (other == me) ≡ b → Step s me earlier (Adds other entry)
    by_owner true e = subst (λ rank. Step s me earlier (Adds rank entry)) (sym (eqb-true other me e)) (added s me entry earlier)
    by_owner false e = Rests (ap (λ b. (if b then handed s me (time earlier) entry (node s me earlier) else node s me earlier).log) e)
step s me (Feeds other) earlier = by_owner (other == me) refl
  where
    by_owner : (b : Bool) → (other == me) ≡ b → Step s me earlier (Feeds other)
    by_owner true e = Rests (ap (λ b. (if b then record (node s me earlier) { fed = time earlier } else node s me earlier).log) e)
    by_owner false e = Rests (ap (λ b. (if b then record (node s me earlier) { fed = time earlier } else node s me earlier).log) e)
step s me (Ends other) earlier = by_owner (other == me) refl
  where
    by_owner : (b : Bool) → (other == me) ≡ b → Step s me earlier (Ends other)
    by_owner true e = Rests (ap (λ b. (if b then record (node s me earlier) { on = false } else node s me earlier).log) e)
    by_owner false e = Rests (ap (λ b. (if b then record (node s me earlier) { on = false } else node s me earlier).log) e)

-- one more moment
asking_turn : {s : Settings} {t : Timing} {me : ℕ} {pace : Pace} {views end : ℕ} {first : Running} (present : View) (j base last : ℕ) (old earlier : List Moment) (m : Moment)
    → DelaysOver s (tick_of first.clock) first.log → Before old earlier → Known s t me (node s me earlier).log → Known s t me (node s me (m ∷ earlier)).log
    → IsQuiet s me pace views earlier → IsQuiet s me pace views (m ∷ earlier) → Stands s t me pace end first (node s me earlier)
    → last ≤ base → view (node s me earlier).log ≡ Some present → j < length s.nodes → is_in_view (node s me earlier).log j ≡ true → ¬ (j ≡ me)
    → Step s me earlier m
    → Asking s me present j (base + t.loop_ms + pace.turn) last (base + t.loop_ms) old earlier
    → Asking s me present j (base + t.loop_ms + pace.turn) last (base + t.loop_ms) old (m ∷ earlier)
asking_turn present j base last old earlier m over after was is before quiet stood above sees below inside other (Rests same) asking = lift m same asking
asking_turn present j base last old earlier m over after was is before quiet stood above sees below inside other (Restarts begins) asking =
    not_booting _ begins quiet.up
asking_turn {s = s} {t = t} {me = me} {pace = pace} {views = views} present j base last old earlier m over after was is before quiet stood above sees below inside other (Enters entry is_log) asking =
    by_asking asking
  where
    past : List Line
    past = (node s me earlier).log

    read : What
    read = read_as s me (node s me earlier).log entry

    tick : ℕ
    tick = tick_of (node s me earlier).clock

    quietly : Quietly s t me pace (node s me earlier).log (tick_of (node s me earlier).clock) (read_as s me (node s me earlier).log entry)
    quietly = entry_quietly was (subst (λ l. timing l ≡ t) is_log is.times) over (quiet_log before) (subst (λ l. QuietLog s me views l) is_log (quiet_log quiet))
        before.answers before.turns (read_fits s me (node s me earlier).log entry) stood

    seen : view (taken_in (node s me earlier).log (tick_of (node s me earlier).clock) (read_as s me (node s me earlier).log entry)) ≡ Some present
    seen = view_same (node s me earlier).log quietly.plain ∙ sees

    inside_now : is_in_view (taken_in (node s me earlier).log (tick_of (node s me earlier).clock) (read_as s me (node s me earlier).log entry)) j ≡ true
    inside_now = ap (λ v. option_map_or (λ installed. is_member installed.members j) v false) (view_same (node s me earlier).log quietly.plain) ∙ inside

    by_asking : Asking s me present j (base + t.loop_ms + pace.turn) last (base + t.loop_ms) old earlier
        → Asking s me present j (base + t.loop_ms + pace.turn) last (base + t.loop_ms) old (Adds me entry ∷ earlier)
    by_asking (Asked a) = Asked (record { entry = a.entry; before = a.before; after = a.after; back = Later _ a.back; asks = a.asks; soon = a.soon })
    by_asking (Free f) = Free (ap (λ l. is_free l j) is_log ∙ free_stays (line_with (node s me earlier).log (tick_of (node s me earlier).clock) (read_as s me (node s me earlier).log entry) (outs_now s me (node s me earlier).log (tick_of (node s me earlier).clock) (read_as s me (node s me earlier).log entry))) (node s me earlier).log quietly.plain.not_view j f)
    by_asking (Waits waits le) = by_step (asking_step last present j quietly was.times waits seen below inside_now other)
      where
        by_step : (is_free (with_read s me (node s me earlier).log (tick_of (node s me earlier).clock) (read_as s me (node s me earlier).log entry)) j ≡ true)
            ⊎ (IsIn (ask_to me (taken_in (node s me earlier).log (tick_of (node s me earlier).clock) (read_as s me (node s me earlier).log entry)) present j) (outs_now s me (node s me earlier).log (tick_of (node s me earlier).clock) (read_as s me (node s me earlier).log entry))
            ⊎ ((moment s (with_read s me (node s me earlier).log (tick_of (node s me earlier).clock) (read_as s me (node s me earlier).log entry)) ≡ Some last) × (tick_of (node s me earlier).clock < last + t.loop_ms)))
            → Asking s me present j (base + t.loop_ms + pace.turn) last (base + t.loop_ms) old (Adds me entry ∷ earlier)
        by_step (inl free) = Free (ap (λ l. is_free l j) is_log ∙ free)
        by_step (inr (inl asks)) = Asked (record {
          entry = entry;
          before = earlier;
          after = after;
          back = Itself;
          asks = contains (subst (λ l. IsIn (ask_to me (taken_in (node s me earlier).log (tick_of (node s me earlier).clock) (read_as s me (node s me earlier).log entry)) present j) (newest_outs l)) (sym is_log) asks);
          soon = let turns = before.turns in omega arith;
        })
        by_step (inr (inr (waits', soon))) = Waits (ap (λ l. moment s l) is_log ∙ waits') (rw is_log (omega arith))

asking : {s : Settings} {t : Timing} {me : ℕ} {pace : Pace} {views : ℕ} {old new all : List Moment} (present : View) (j last : ℕ)
    → Below → IsTimedRun s t all → Before new all → pace.disk < t.loop_ms → QuietSince s me pace views old new
    → DelaysOver s (tick_of (node s me old).clock) (node s me old).log
    → moment s (node s me old).log ≡ Some last → last ≤ tick_of (node s me old).clock
    → view (node s me old).log ≡ Some present → j < length s.nodes → is_in_view (node s me old).log j ≡ true → ¬ (j ≡ me)
    → Asking s me present j (tick_of (node s me old).clock + t.loop_ms + pace.turn) last (tick_of (node s me old).clock + t.loop_ms) old new
asking {s = s} {me = me} {old = old} present j last law timed back fast (FromHere quiet) over waits above sees below inside other =
    let by' = now_by (tick_of (node s me old).clock) (node s me old).log (read_by_clock s me old) in Waits waits (omega arith)
asking {s = s} {t = t} {me = me} {pace = pace} {old = old} present j last law timed back fast (AndThen {moment = m} {earlier = earlier} since quiet) over waits above sees below inside other =
    let before = quiet_last since in
    let stood = stands law timed (before_tail back) fast since over in
    asking_turn present j (tick_of (node s me old).clock) last old earlier m over (since_before since) (known law timed (before_tail back) before) (known law timed back quiet)
    before quiet stood above (stood.sees ∙ sees) below (ap (λ v. option_map_or (λ installed. is_member installed.members j) v false) stood.sees ∙ inside) other
    (step s me m earlier) (asking present j last law timed (before_tail back) fast since over waits above sees below inside other)

-- a loop and a turn later each other member was heard or asked
pub is_asked_within : {s : Settings} {t : Timing} {me : ℕ} {pace : Pace} {old new all : List Moment} (present : View) (j : ℕ)
    → Below → IsTimedRun s t all → Before new all → AsksQuietly s t me pace present j old new
    → (is_free (node s me new).log j ≡ true) ⊎ HasAsked s me present j (tick_of (node s me old).clock + t.loop_ms + pace.turn) old new
is_asked_within {s = s} {t = t} {me = me} {pace = pace} {old = old} {new = new} present j law timed whole quiet =
    by_asking (asking present j quiet.last law timed whole quiet.fast quiet.since quiet.over quiet.asked
    (asked_by s (tick_of (node s me old).clock) (node s me old).log (read_by_clock s me old) quiet.last quiet.asked)
    quiet.sees quiet.below quiet.member quiet.apart)
  where
    by_asking : Asking s me present j (tick_of (node s me old).clock + t.loop_ms + pace.turn) quiet.last (tick_of (node s me old).clock + t.loop_ms) old new
        → (is_free (node s me new).log j ≡ true) ⊎ HasAsked s me present j (tick_of (node s me old).clock + t.loop_ms + pace.turn) old new
    by_asking (Asked a) = inr a
    by_asking (Free f) = inl f
    by_asking (Waits w le) = let turns = (quiet_last quiet.since).turns in let late = quiet.late in absurd (omega arith)

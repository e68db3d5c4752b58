-- One moment, as a node that is up sees it: its clock, its boot, and an entry that it was handed.
use Rattle.std.proofs.Common.{◌≡◌, ℕ, ◌+◌, ◌<◌, ◌≤◌, Bool, true, false, ◌==◌, List, ◌∷◌, length, if◌then◌else◌, refl, sym, ◌∙◌, ap, subst, arith}
use Rattle.std.proofs.lemmas.Bool.{eqb-true, false≢true}
use Rattle.qn_model.specs.declared.configuration.Settings.{Settings}
use Rattle.qn_model.specs.declared.entries.What.{What}
use Rattle.qn_model.specs.declared.life.Phase.TheVariants.{Up}
use Rattle.qn_model.specs.Fitting.{read_as}
use Rattle.qn_model.specs.Log.{Line}
use Rattle.qn_model.specs.Moments.{Adds, Before, Boots, Ends, Feeds, Itself, Later, Moment, Passes, Running, advance_of, booted, handed, logged, node, tick_of, time}
use Rattle.qn_model.specs.NodeOutputs.{with_entry, with_read}
use Rattle.qn_model.specs.Phases.{is_up, phase}
use Rattle.qn_service.proofs.Between.{Added, NoneMore, OneMore}

-- a node that boots is not up
boots_down : (s : Settings) (rank now base : ℕ) (clean : Bool) (n : Running) → phase s (booted s rank now base clean n).log ≡ Up → ⊥
unfolding booted handed logged with_entry phase
boots_down s rank now base true n up = false≢true (ap is_up up)
boots_down s rank now base false n up = false≢true (ap is_up up)

-- what one moment is to a node that is up after it: its log stays, or has one entry more; its boot stays, and its clock does not fall
pub data UpMove (s : Settings) (rank : ℕ) (moment : Moment) (old new : Running) : Type 0 where
  Stays : new.log ≡ old.log → new.boots ≡ old.boots → old.clock ≤ new.clock → UpMove s rank moment old new
  Takes : (entry : What) → moment ≡ Adds rank entry → new.log ≡ with_read s rank old.log (tick_of old.clock) (read_as s rank old.log entry)
      → new.boots ≡ old.boots → new.clock ≡ old.clock → UpMove s rank moment old new

handed_takes : (s : Settings) (rank now : ℕ) (entry : What) (moment : Moment) (old : Running) → moment ≡ Adds rank entry → UpMove s rank moment old (handed s rank now entry old)
unfolding handed logged with_entry
handed_takes s rank now entry moment old is = Takes entry is refl refl refl

pub up_move : (s : Settings) (rank : ℕ) (moment : Moment) (earlier : List Moment) → phase s (node s rank (moment ∷ earlier)).log ≡ Up
    → UpMove s rank moment (node s rank earlier) (node s rank (moment ∷ earlier))
unfolding node
up_move s rank (Passes dt clocks) earlier up = by_on (node s rank earlier).on
  where
    by_on : (b : Bool) → UpMove s rank (Passes dt clocks) (node s rank earlier)
        (record (node s rank earlier) { clock = (if b then (node s rank earlier).clock + advance_of dt clocks rank else (node s rank earlier).clock) })
    by_on true = Stays refl refl (omega arith)
    by_on false = Stays refl refl (omega arith)
up_move s rank (Boots other base clean) earlier up = by_owner (other == rank) up
  where
    by_owner : (b : Bool) → phase s (if b then booted s rank (time earlier) base clean (node s rank earlier) else node s rank earlier).log ≡ Up
        → UpMove s rank (Boots other base clean) (node s rank earlier) (if b then booted s rank (time earlier) base clean (node s rank earlier) else node s rank earlier)
    by_owner true here = absurd (boots_down s rank (time earlier) base clean (node s rank earlier) here)
    by_owner false here = Stays refl refl (omega arith)
up_move s rank (Adds other entry) earlier up = by_owner (other == rank) refl
  where
    by_owner : (b : Bool) → (other == rank) ≡ b
        → UpMove s rank (Adds other entry) (node s rank earlier) (if b then handed s rank (time earlier) entry (node s rank earlier) else node s rank earlier)
    by_owner true is = handed_takes s rank (time earlier) entry (Adds other entry) (node s rank earlier) (ap (λ r. Adds r entry) (eqb-true other rank is))
    by_owner false is = Stays refl refl (omega arith)
up_move s rank (Feeds other) earlier up = by_owner (other == rank)
  where
    by_owner : (b : Bool) → UpMove s rank (Feeds other) (node s rank earlier) (if b then record (node s rank earlier) { fed = time earlier } else node s rank earlier)
    by_owner true = Stays refl refl (omega arith)
    by_owner false = Stays refl refl (omega arith)
up_move s rank (Ends other) earlier up = by_owner (other == rank)
  where
    by_owner : (b : Bool) → UpMove s rank (Ends other) (node s rank earlier) (if b then record (node s rank earlier) { on = false } else node s rank earlier)
    by_owner true = Stays refl refl (omega arith)
    by_owner false = Stays refl refl (omega arith)

-- a rank is up at each moment from one to another
abbrev pub IsUpSince : Settings → ℕ → List Moment → List Moment → Type 0
IsUpSince s rank old new = (moments : List Moment) → Before old moments → Before moments new → phase s (node s rank moments).log ≡ Up

-- so it is in one boot, and its clock does not fall
pub record RunsUp (s : Settings) (rank : ℕ) (old new : List Moment) : Type 0 where
  pub same : (node s rank old).boots ≡ (node s rank new).boots
  pub clock : (node s rank old).clock ≤ (node s rank new).clock

after_move : {s : Settings} {rank : ℕ} {moment : Moment} {old : List Moment} {earlier : List Moment} → UpMove s rank moment (node s rank earlier) (node s rank (moment ∷ earlier))
    → RunsUp s rank old earlier → RunsUp s rank old (moment ∷ earlier)
after_move (Stays log boots clock) before = record { same = before.same ∙ sym boots; clock = let was = before.clock in omega (arith, was, clock) }
after_move (Takes entry is log boots clock) before = record { same = before.same ∙ sym boots; clock = let was = before.clock in omega (arith, was, clock) }

pub runs_up : (s : Settings) (rank : ℕ) (old new : List Moment) → Before old new → IsUpSince s rank old new → RunsUp s rank old new
runs_up s rank old new Itself up = record { same = refl; clock = omega arith }
runs_up s rank old (moment ∷ earlier) (Later newest back) up =
    after_move (up_move s rank moment earlier (up (moment ∷ earlier) (Later moment back) Itself))
    (runs_up s rank old earlier back (λ moments since before. up moments since (Later moment before)))

-- what was added is an entry of a rank whose log grew
pub record AddedEntry (s : Settings) (rank : ℕ) (old new : List Moment) : Type 0 where
  pub entry : What
  pub is : new ≡ Adds rank entry ∷ old
  pub log : (node s rank new).log ≡ with_read s rank (node s rank old).log (tick_of (node s rank old).clock) (read_as s rank (node s rank old).log entry)

pub entry_added : (s : Settings) (rank : ℕ) {old new : List Moment} → Added old new → phase s (node s rank new).log ≡ Up
    → length (node s rank old).log < length (node s rank new).log → AddedEntry s rank old new
entry_added s rank NoneMore up more = absurd (omega (arith, more))
entry_added s rank {old = old} (OneMore newest) up more = by_move (up_move s rank newest old up)
  where
    by_move : UpMove s rank newest (node s rank old) (node s rank (newest ∷ old)) → AddedEntry s rank old (newest ∷ old)
    by_move (Stays log boots clock) =
        absurd (let longer : length (node s rank old).log < length (node s rank old).log = subst (λ (l : List Line). length (node s rank old).log < length l) log more in omega (arith, longer))
    by_move (Takes entry is log boots clock) = record { entry = entry; is = ap (λ m. m ∷ old) is; log = log }

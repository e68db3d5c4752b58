-- The node of a rank after a moment of it, and after one of another rank; and a value that is kept for each rank.
use Rattle.std.proofs.Common.{◌≡◌, ℕ, Bool, true, false, List, [], ◌∷◌, if◌then◌else◌, ◌==◌, refl, ap}
use Rattle.qn_base.specs.lemmas.Numbers.{equal_to_itself}
use Rattle.qn_model.specs.declared.configuration.Settings.{Settings}
use Rattle.qn_model.specs.declared.entries.What.{What}
use Rattle.qn_model.specs.Moments.{Adds, Boots, Ends, Feeds, Moment, Running, booted, handed, logged, node, time}
use Rattle.qn_model.specs.World.{put}

pub put_same : {A : Type 0} (f : ℕ → A) (rank : ℕ) (value : A) → put f rank value rank ≡ value
put_same f rank value = ap (λ b. if b then value else f rank) (equal_to_itself rank)

pub put_other : {A : Type 0} (f : ℕ → A) (rank other : ℕ) (value : A) → (rank == other) ≡ false
    → put f rank value other ≡ f other
put_other f rank other value apart = ap (λ b. if b then value else f other) apart

pub never_logged : (s : Settings) (rank : ℕ) → (node s rank []).log ≡ []
unfolding node
never_logged s rank = refl

-- an entry passes no time of its node
pub clock_handed : (s : Settings) (rank now : ℕ) (entry : What) (n : Running)
    → (handed s rank now entry n).clock ≡ n.clock
unfolding handed logged
clock_handed s rank now entry n = refl

-- a moment of the node itself
pub node_adds : (s : Settings) (rank : ℕ) (entry : What) (earlier : List Moment)
    → node s rank (Adds rank entry ∷ earlier) ≡ handed s rank (time earlier) entry (node s rank earlier)
unfolding node
node_adds s rank entry earlier =
    ap (λ b. if b then handed s rank (time earlier) entry (node s rank earlier) else node s rank earlier) (equal_to_itself rank)

pub node_boots : (s : Settings) (rank base : ℕ) (clean : Bool) (earlier : List Moment)
    → node s rank (Boots rank base clean ∷ earlier) ≡ booted s rank (time earlier) base clean (node s rank earlier)
unfolding node
node_boots s rank base clean earlier =
    ap (λ b. if b then booted s rank (time earlier) base clean (node s rank earlier) else node s rank earlier) (equal_to_itself rank)

pub node_feeds : (s : Settings) (rank : ℕ) (earlier : List Moment)
    → node s rank (Feeds rank ∷ earlier) ≡ record (node s rank earlier) { fed = time earlier }
unfolding node
node_feeds s rank earlier =
    ap (λ b. if b then record (node s rank earlier) { fed = time earlier } else node s rank earlier) (equal_to_itself rank)

pub node_ends : (s : Settings) (rank : ℕ) (earlier : List Moment)
    → node s rank (Ends rank ∷ earlier) ≡ record (node s rank earlier) { on = false }
unfolding node
node_ends s rank earlier =
    ap (λ b. if b then record (node s rank earlier) { on = false } else node s rank earlier) (equal_to_itself rank)

-- a moment of another node
pub adds_apart : (s : Settings) (other rank : ℕ) (entry : What) (earlier : List Moment) → (other == rank) ≡ false
    → node s rank (Adds other entry ∷ earlier) ≡ node s rank earlier
unfolding node
adds_apart s other rank entry earlier apart =
    ap (λ b. if b then handed s rank (time earlier) entry (node s rank earlier) else node s rank earlier) apart

pub boots_apart : (s : Settings) (other rank base : ℕ) (clean : Bool) (earlier : List Moment) → (other == rank) ≡ false
    → node s rank (Boots other base clean ∷ earlier) ≡ node s rank earlier
unfolding node
boots_apart s other rank base clean earlier apart =
    ap (λ b. if b then booted s rank (time earlier) base clean (node s rank earlier) else node s rank earlier) apart

pub ends_apart : (s : Settings) (other rank : ℕ) (earlier : List Moment) → (other == rank) ≡ false
    → node s rank (Ends other ∷ earlier) ≡ node s rank earlier
unfolding node
ends_apart s other rank earlier apart =
    ap (λ b. if b then record (node s rank earlier) { on = false } else node s rank earlier) apart

-- At most one resource runs where every joint has a world.
use Rattle.std.proofs.Common.{◌≡◌, ◌<◌, ◌≤◌, ℕ, Bool, true, false, List, Option, refl, ap, ◌∙◌, inl, inr}
use Rattle.std.specs.Prelude.{◌&&◌, ◌⊎◌, length}
use Rattle.std.proofs.lemmas.Bool.{cases_lt, and_parts, and_from}
use Rattle.qn_model.specs.declared.configuration.Settings.{Settings}
use Rattle.qn_model.specs.declared.times.Timing.{Timing}
use Rattle.qn_model.specs.declared.entries.What.{What}
use Rattle.qn_model.specs.declared.outputs.DiskOp.{DiskOp}
use Rattle.qn_model.specs.declared.packets.Sent.{Sent}
use Rattle.qn_model.specs.Holding.{holds}
use Rattle.qn_model.specs.Moments.{Running, is_gone, is_holder}
use Rattle.qn_model.specs.Phases.{phase}
use Rattle.qn_model.specs.Steps.{run}
use Rattle.qn_joined.specs.Joints.{Host, Joint}
use Rattle.qn_safety.specs.AnyNumbers.{OneMayHold}
use Rattle.qn_joined.proofs.Calls.{timed_on}
use Rattle.qn_joined.specs.Owning.{Owns}
use Rattle.qn_joined.specs.Stands.{log_at}
use Rattle.qn_joined.specs.Theorem.{AtMostOneRuns, HostOwns}
use Rattle.qn_joined.specs.WorldOf.{EveryJointHasAWorld, HasWorld, IsNode}
use Rattle.qn_joined.proofs.Owned.{always_owns}

-- a host that is on is configured
pub configured : {s : Settings} {t : Timing} {j : Joint} (has : HasWorld s t j) (rank : ℕ) → (j.hosts rank).on ≡ true → rank < length s.nodes
configured {s} {t} {j} has rank on = by_order (cases_lt rank (length s.nodes))
  where
    by_order : (rank < length s.nodes) ⊎ (length s.nodes ≤ rank) → rank < length s.nodes
    by_order (inl within) = within
    by_order (inr out) = absurd (let off = has.world.off rank out in cc)

-- a process that has not looked at the clock runs no resource
pub asked_runs : {s : Settings} {rank : ℕ} {host : Host} {n : Running} {took : Option What} {left : List DiskOp} {all : List Sent}
    → IsNode s rank host n took left all → host.on ≡ true → host.runs ≡ true → host.asked ≡ true
asked_runs {host = host} is on runs = by_asked host.asked refl
  where
    by_asked : (b : Bool) → host.asked ≡ b → host.asked ≡ true
    by_asked true e = e
    by_asked false e = absurd (let fresh = is.fresh on e in let quiet = fresh.runs in cc)

-- nor does a node that is gone
pub living_runs : {s : Settings} {rank : ℕ} {host : Host} {n : Running} {took : Option What} {left : List DiskOp} {all : List Sent}
    → IsNode s rank host n took left all → host.on ≡ true → Owns host.stand.spot host.runs → host.runs ≡ true
    → is_gone (phase s (log_at host.stand.spot)) ≡ false
living_runs {s = s} {host = host} is on owns runs = by_gone (is_gone (phase s (log_at host.stand.spot))) refl
  where
    by_gone : (b : Bool) → is_gone (phase s (log_at host.stand.spot)) ≡ b → is_gone (phase s (log_at host.stand.spot)) ≡ false
    by_gone false e = e
    by_gone true e = absurd (let none = is.rests on e in let held = (owns.held runs).0 in cc)

-- a resource that runs is held by its node
pub node_holds : {s : Settings} {rank : ℕ} {host : Host} {n : Running} {took : Option What} {left : List DiskOp} {all : List Sent}
    → IsNode s rank host n took left all → HostOwns host → (on : host.on ≡ true) → host.runs ≡ true → (n.on && holds n.log) ≡ true
node_holds {s} {host = host} {n = n} is owned on runs =
    let owns = owned on in
    let lives = is.on ∙ timed_on host.on host.asked (is_gone (phase s (log_at host.stand.spot))) on (asked_runs is on runs) (living_runs is on owns runs) in
    and_from n.on (holds n.log) lives (ap holds (is.log lives) ∙ (owns.held runs).0)

pub runner_holds : {s : Settings} {t : Timing} {j : Joint} (has : HasWorld s t j) (rank : ℕ) → HostOwns (j.hosts rank)
    → ((j.hosts rank).on && (j.hosts rank).runs) ≡ true → is_holder s (run s t has.events).moments rank ≡ true
runner_holds {j = j} has rank owned runs =
    let two = and_parts (j.hosts rank).on (j.hosts rank).runs runs in
    node_holds (has.world.nodes rank (configured has rank two.0)) owned two.0 two.1

pub one_owner : (s : Settings) (t : Timing) → OneMayHold s t → EveryJointHasAWorld s t → AtMostOneRuns s t
one_owner s t one every image happenings i j joined first second =
    let has = every image happenings joined in
    one has.events i j has.may
    (runner_holds has i (always_owns s t image happenings i joined.may) first)
    (runner_holds has j (always_owns s t image happenings j joined.may) second)

-- An owner that is well goes on running its resource.
use Rattle.std.proofs.Common.{◌≡◌, ◌⊎◌, inl, inr, ℕ, ◌<◌, ◌≤◌, Bool, true, false, not, ◌&&◌, List, [], ◌∷◌, ◌++◌, Option, refl, sym, ◌∙◌, ap, subst}
use Rattle.std.specs.Prelude.{IsTrue, length}
use Rattle.std.proofs.lemmas.Bool.{and_from, and_parts, cases_lt, false≢true}
use Rattle.qn_model.specs.declared.configuration.Settings.{Settings}
use Rattle.qn_model.specs.declared.events.Event.{Event}
use Rattle.qn_model.specs.declared.life.Phase.TheVariants.{Booting, Up}
use Rattle.qn_model.specs.declared.entries.What.{What}
use Rattle.qn_model.specs.declared.outputs.DiskOp.{DiskOp}
use Rattle.qn_model.specs.declared.packets.Sent.{Sent}
use Rattle.qn_model.specs.declared.times.Timing.{Timing}
use Rattle.qn_model.specs.Holding.{holds, stop_due}
use Rattle.qn_model.specs.Log.{now}
use Rattle.qn_model.specs.Moments.{Before, Itself, Later, Moment, Running, is_gone, is_holder, node, tick_of}
use Rattle.qn_model.specs.NodeVotes.{quorate_with_tie}
use Rattle.qn_model.specs.Phases.{is_up, phase}
use Rattle.qn_model.specs.Steps.{run}
use Rattle.qn_model.specs.Unmet.{is_given_away}
use Rattle.qn_safety.specs.Earlier.{before_joined}
use Rattle.qn_joined.specs.Joints.{AllMayHappen, Happening, Host, is_timed, joint_after, runs_at}
use Rattle.qn_joined.specs.Stands.{Stand, log_at}
use Rattle.qn_joined.specs.Theorem.{AlwaysOwns}
use Rattle.qn_joined.specs.WorldOf.{EveryJointHasAWorld, HasWorld, IsNode, IsWorld}
use Rattle.qn_progress.specs.Hearing.{HasHeld}
use Rattle.qn_progress.specs.Keeping.{AndThen, FromHere, KeepsOn, MayKeep, MayKeepSince}
use Rattle.qn_service.specs.Between.{HasMoments, MayOwn, MomentsAreOfJoints, OwnersGoOn}
use Rattle.qn_service.specs.Holders.{HoldersRun}
use Rattle.qn_service.specs.Unheard.{log_after}

-- a member that holds at some moment goes on holding while it may keep
abbrev pub HoldersHold : Type 0
HoldersHold = (s : Settings) (rank : ℕ) (old new : List Moment) → KeepsOn s rank old new → HasHeld s rank old new → IsTrue (is_holder s new rank)

-- and no Stop of it is unanswered then
abbrev pub KeepersAreCalm : Type 0
KeepersAreCalm = (s : Settings) (rank : ℕ) (old new : List Moment) → KeepsOn s rank old new → stop_due (node s rank new).log ≡ false

-- where the log of a machine that is on holds, and no Stop is unanswered, its resource runs
pub runs_calmly : (s : Settings) (t : Timing) → HoldersRun s t → (image : ℕ → List ℕ) (h : List Happening) (rank : ℕ) → AllMayHappen s t image h
    → ((joint_after s image h).hosts rank).on ≡ true → holds (log_after s image h rank) ≡ true → stop_due (log_after s image h rank) ≡ false → runs_at s image h rank ≡ true
runs_calmly s t runs image h rank may on held calm = by_either (runs image h rank may on held)
  where
    by_either : (runs_at s image h rank ≡ true) ⊎ (stop_due (log_after s image h rank) ≡ true) → runs_at s image h rank ≡ true
    by_either (inl is) = is
    by_either (inr due) = absurd (false≢true (sym calm ∙ due))

-- a host that is on, has looked at the clock and is not gone takes part in time
takes_part : (s : Settings) (host : Host) → host.on ≡ true → host.asked ≡ true → is_gone (phase s (log_at host.stand.spot)) ≡ false → is_timed s host ≡ true
takes_part s host on asked here =
    and_from (host.on && host.asked) (not (is_gone (phase s (log_at host.stand.spot)))) (and_from host.on host.asked on asked) (ap not here)

-- a process that has not looked at the clock is not up
pub asked_up : (s : Settings) (rank : ℕ) (host : Host) {n : Running} {took : Option What} {left : List DiskOp} {all : List Sent} → IsNode s rank host n took left all
    → host.on ≡ true → phase s (log_at host.stand.spot) ≡ Up → host.asked ≡ true
unfolding phase
asked_up s rank host is on up = by_asked host.asked refl
  where
    by_asked : (b : Bool) → host.asked ≡ b → host.asked ≡ true
    by_asked true e = e
    by_asked false e = absurd (booting_up (sym (ap (λ (stand : Stand). phase s (log_at stand.spot)) (is.fresh on e).stand) ∙ up))
      where
        booting_up : Booting ≡ Up → ⊥
        booting_up same = false≢true (ap is_up same)

-- a host of a joint whose node is up is on in the world, with that log and that clock
pub record IsOn (s : Settings) (rank : ℕ) (host : Host) (moments : List Moment) : Type 0 where
  pub on : (node s rank moments).on ≡ true
  pub log : (node s rank moments).log ≡ log_at host.stand.spot
  pub clock : (node s rank moments).clock ≡ host.clock
  pub tick : now (node s rank moments).log ≤ tick_of (node s rank moments).clock

module _ (s : Settings) (t : Timing) (image : ℕ → List ℕ) (rank : ℕ) where
  pub on_there : (h : List Happening) (events : List Event) → IsWorld s t (joint_after s image h) (run s t events)
      → ((joint_after s image h).hosts rank).on ≡ true
      → phase s (log_at ((joint_after s image h).hosts rank).stand.spot) ≡ Up → IsOn s rank ((joint_after s image h).hosts rank) (run s t events).moments
  on_there h events world on up = by_rank (cases_lt rank (length s.nodes))
    where
      by_rank : (rank < length s.nodes) ⊎ (length s.nodes ≤ rank) → IsOn s rank ((joint_after s image h).hosts rank) (run s t events).moments
      by_rank (inl below) =
          let node_of = world.nodes rank below in
          let lives = node_of.on ∙ takes_part s ((joint_after s image h).hosts rank) on (asked_up s rank ((joint_after s image h).hosts rank) node_of on up) (ap is_gone up) in
          record { on = lives; log = node_of.log lives; clock = node_of.clock lives; tick = node_of.tick lives }
      by_rank (inr out) = absurd (false≢true (sym (world.off rank out) ∙ on))

  -- what a joint says of its node, the moments say
  may_keep : (h : List Happening) (events : List Event) → IsWorld s t (joint_after s image h) (run s t events) → MayOwn s image rank h
      → MayKeep s rank (run s t events).moments
  may_keep h events world may =
      record {
        on = there.on;
        up = ap (phase s) there.log ∙ may.up;
        quorate = ap (λ log. quorate_with_tie s log (now log)) there.log ∙ may.quorate;
        kept = ap (is_given_away s rank) there.log ∙ may.kept;
      }
    where
      there : IsOn s rank ((joint_after s image h).hosts rank) (run s t events).moments
      there = on_there h events world may.on may.up

  -- and so do all moments between
  pub keeps_since : (old new : List Moment) → ((moments : List Moment) → Before old moments → Before moments new → MayKeep s rank moments)
      → Before old new → MayKeepSince s rank old new
  keeps_since old new each Itself = FromHere (each old Itself Itself)
  keeps_since old (moment ∷ new) each (Later newest back) =
      AndThen (keeps_since old new (λ moments since before. each moments since (Later moment before)) back) (each (moment ∷ new) (Later moment back) Itself)

-- what may happen may happen up to any joint
pub may_before : (s : Settings) (t : Timing) (image : ℕ → List ℕ) (newer older : List Happening) → AllMayHappen s t image (newer ++ older) → AllMayHappen s t image older
unfolding AllMayHappen
may_before s t image [] older may = may
may_before s t image (newest ∷ newer) older may = may_before s t image newer older may.1

pub owners_go_on : (s : Settings) (t : Timing) → EveryJointHasAWorld s t → MomentsAreOfJoints s t → AlwaysOwns s t → HoldersHold → KeepersAreCalm → HoldersRun s t → OwnersGoOn s t
owners_go_on s t worlds moments owns hold stays_calm runs_held image newer older rank joined runs calm well =
    runs_calmly s t runs_held image (newer ++ older) rank joined.may last.on
    (sym (ap holds lives.log) ∙ (and_parts (node s rank new).on (holds (node s rank new).log) holds_new).1)
    (sym (ap stop_due lives.log) ∙ stays_calm s rank old new keeps)
  where
    host : Host
    host = (joint_after s image older).hosts rank

    may_older : AllMayHappen s t image older
    may_older = may_before s t image newer older joined.may

    has : HasWorld s t (joint_after s image older)
    has = worlds image older (record { fits = joined.fits; created = joined.created; may = may_older })

    grown : HasMoments s t image older (newer ++ older) has.events
    grown = moments image newer older joined has

    old : List Moment
    old = (run s t has.events).moments

    new : List Moment
    new = (run s t grown.events').moments

    first : MayOwn s image rank older
    first = well older Itself (before_joined newer older)

    last : MayOwn s image rank (newer ++ older)
    last = well (newer ++ older) (before_joined newer older) Itself

    there : IsOn s rank host old
    there = on_there s t image rank older has.events has.world first.on first.up

    lives : IsOn s rank ((joint_after s image (newer ++ older)).hosts rank) new
    lives = on_there s t image rank (newer ++ older) grown.events' grown.world last.on last.up

    held : holds (log_at host.stand.spot) ≡ true
    held = ((owns image older rank may_older first.on).held (and_parts host.on host.runs runs).1).0

    each : (between : List Moment) → Before old between → Before between new → MayKeep s rank between
    each between since back =
        let is = grown.each between since back in
        subst (λ ms. MayKeep s rank ms) is.same (may_keep s t image rank is.at is.events is.world (well is.at is.after is.back))

    keeps : KeepsOn s rank old new
    keeps = record { calm = ap stop_due there.log ∙ calm; since = keeps_since s t image rank old new each grown.grew }

    holds_new : is_holder s new rank ≡ true
    holds_new =
        hold s rank old new keeps
        (record {
          at = old;
          after = Itself;
          back = grown.grew;
          holds = and_from (node s rank old).on (holds (node s rank old).log) there.on (ap holds there.log ∙ held);
        })

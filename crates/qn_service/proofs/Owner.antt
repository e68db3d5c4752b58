-- A member of a majority whose nodes have one view runs the resource.
use Rattle.std.proofs.Common.{◌≡◌, true, ◌++◌, sym, ◌∙◌, ap}
use Rattle.std.proofs.lemmas.Bool.{and_parts}
use Rattle.qn_model.specs.declared.configuration.Settings.{Settings}
use Rattle.qn_model.specs.declared.times.Timing.{Timing}
use Rattle.qn_model.specs.Holding.{holds, stop_due}
use Rattle.qn_model.specs.Moments.{Itself, node}
use Rattle.qn_model.specs.Steps.{run}
use Rattle.qn_safety.specs.Earlier.{before_joined}
use Rattle.qn_joined.specs.Joints.{joint_after, runs_at}
use Rattle.qn_joined.specs.Moves.{EachIsOneEvent}
use Rattle.qn_joined.specs.WorldOf.{EveryJointHasAWorld, HasWorld}
use Rattle.qn_service.specs.Holders.{HoldersRun}
use Rattle.qn_service.specs.Serving.{HasView, MembersServe}
use Rattle.qn_service.proofs.GoingOn.{IsOn, KeepersAreCalm, may_before, on_there, runs_calmly}
use Rattle.qn_service.proofs.ServedBy.{Holder, Laws, in_time}
use Rattle.qn_service.proofs.Tracing.{Traced, last_world, traced}

pub members_serve : (s : Settings) (t : Timing) → EveryJointHasAWorld s t → EachIsOneEvent s t → Laws → KeepersAreCalm → HoldersRun s t → MembersServe s t
members_serve s t worlds one laws stays_calm runs image pace post rank present newer older joined have late = (holder.owner, holder.member, runs_there)
  where
    has : HasWorld s t (joint_after s image older)
    has = worlds image older (record { fits = joined.fits; created = joined.created; may = may_before s t image newer older joined.may })

    it : Traced s t image older has.events (newer ++ older)
    it = traced s t one joined.fits image newer older joined.may has

    holder : Holder s t image pace post rank present older (newer ++ older) has.events it.events laws it.trace have
    holder = in_time s t image pace post rank present older (newer ++ older) has.events it.events laws it.trace have late

    last : HasView s image present holder.owner (newer ++ older)
    last = have.members holder.owner holder.member (newer ++ older) (before_joined newer older) Itself

    there : IsOn s holder.owner ((joint_after s image (newer ++ older)).hosts holder.owner) (run s t it.events).moments
    there = on_there s t image holder.owner (newer ++ older) it.events (last_world it.trace).1 last.on last.up

    runs_there : runs_at s image (newer ++ older) holder.owner ≡ true
    runs_there =
        runs_calmly s t runs image (newer ++ older) holder.owner joined.may last.on
        (sym (ap holds there.log) ∙ (and_parts (node s holder.owner (run s t it.events).moments).on (holds (node s holder.owner (run s t it.events).moments).log) holder.holds).1)
        (sym (ap stop_due there.log) ∙ stays_calm s holder.owner (run s t has.events).moments (run s t it.events).moments holder.keeps)

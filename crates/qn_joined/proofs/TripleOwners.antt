-- In every joint of running nodes on three images a resource that runs is held by the log of its node, and at most one runs.
use Rattle.std.proofs.Common.{◌≡◌, ℕ, Bool, true, false, [], ◌∷◌, Option, None, Some, refl}
use Rattle.std.specs.Prelude.{◌&&◌}
use Rattle.std.specs.Option.{option_map_or}
use Rattle.std.proofs.lemmas.Bool.{and_parts}
use Rattle.qn_base.specs.declared.calls.Call.{Call}
use Rattle.qn_base.specs.declared.calls.Call.TheVariants as call
use Rattle.qn_model.specs.declared.configuration.Settings.{Settings}
use Rattle.qn_model.specs.declared.times.Timing.{Timing}
use Rattle.qn_model.specs.Moments.{is_holder, tick_of}
use Rattle.qn_model.specs.World.{numbered, put, without}
use Rattle.qn_safety.specs.TripleNumbers.{OneMayHoldTriple, TripleNodesHold}
use Rattle.qn_safety.specs.TripleSteps.{run_triple}
use Rattle.qn_joined.specs.Joints.{FitsImage, is_disk, landed_image, looked_first, returned, takes, waits_for}
use Rattle.qn_joined.specs.Theorem.{HostOwns, PacketsReadBack}
use Rattle.qn_joined.specs.TripleJoints.{AllMayHappenTriple, IsTripleJoined, Passes, Begins, Looks, Lands, Returns, Feeds, LandsLate, Ends, Operates, TripleHappening, TripleHost, TripleJoint, happens_triple, image_waited, MayHappenTriple, returned_triple, triple_joint_after, with_triple}
use Rattle.qn_joined.specs.TripleNodes.{HasTripleWorld}
use Rattle.qn_joined.specs.TripleTheorem.{AlwaysOwnsOnThree, AtMostOneRunsOnThree, EveryTripleJointHasAWorld}
use Rattle.qn_joined.specs.TripleWorldOf.{CallsAnswer}
use Rattle.qn_joined.proofs.Owned.{put_owns}
use Rattle.qn_joined.proofs.Owners.{node_holds}
use Rattle.qn_joined.proofs.Returning.{returns_own}
use Rattle.qn_joined.proofs.TriplePlain.{plain_owns}
use Rattle.qn_joined.proofs.TripleSteps.{configured_triple}
use Rattle.qn_joined.proofs.TripleTold.{tells_own}

abbrev Owns3 : TripleHost → Type 0
Owns3 host = HostOwns host.one

module _ (s : Settings) (t : Timing) (nodes : TripleNodesHold s t) (calls : CallsAnswer s t) (back : PacketsReadBack) (fits : FitsImage s t) (j : TripleJoint) (has : HasTripleWorld s t j)
    (owns : (rank : ℕ) → Owns3 (j.hosts rank)) where
  replaced : (rank other : ℕ) (after : TripleHost) → (Owns3 (j.hosts other) → Owns3 after) → Owns3 (put j.hosts other after rank)
  replaced rank other after step = put_owns Owns3 rank other j.hosts after step (owns other) (owns rank)

  still_owns : (happening : TripleHappening) → MayHappenTriple s t happening j → (rank : ℕ) → Owns3 ((happens_triple s happening j).hosts rank)
  unfolding happens_triple returned looked_first
  still_owns (Passes dt clocks) may rank = owns rank
  still_owns (Begins other clean leave polls turns) may rank = replaced rank other _ (λ was on. record { held = λ r. absurd cc; free = refl; calm = refl })
  still_owns (Looks other base) may rank =
      replaced rank other _ (λ was on. returns_own s other j.time (j.hosts other).one (call.Now (tick_of base)) may.2 (was may.0))
  still_owns (Lands other) may rank = by_call (waits_for s other (j.hosts other).one)
    where
      image : ℕ
      image = image_waited (j.hosts other)

      by_call : (waiting : Option Call)
          → Owns3 ((option_map_or (λ w. record (with_triple other (record (j.hosts other) { took = Some (takes w (j.images image)) }) j) { images = put j.images image (landed_image w (j.images image)) }) waiting j).hosts rank)
      by_call None = owns rank
      by_call (Some waiting) = replaced rank other (record (j.hosts other) { took = Some (takes waiting (j.images image)) }) (λ was. was)
  still_owns (Returns other made) may rank = replaced rank other _ (by_disk (is_disk made) refl)
    where
      by_disk : (b : Bool) → is_disk made ≡ b → Owns3 (j.hosts other) → Owns3 (returned_triple s other made j.time (j.hosts other))
      by_disk true disk = tells_own s t other made j nodes calls fits has may disk
      by_disk false plain = plain_owns s t other made j nodes calls back fits has may plain
  still_owns (Feeds other) may rank = replaced rank other _ (λ was. was)
  still_owns (LandsLate other image number) may rank = by_call (numbered ((j.hosts other).left image) number)
    where
      by_call : (write : Option Call)
          → Owns3 ((option_map_or (λ w. record (with_triple other (record (j.hosts other) { left = put (j.hosts other).left image (without ((j.hosts other).left image) number) }) j) { images = put j.images image (landed_image w (j.images image)) }) write j).hosts rank)
      by_call None = owns rank
      by_call (Some write) = replaced rank other (record (j.hosts other) { left = put (j.hosts other).left image (without ((j.hosts other).left image) number) }) (λ was. was)
  still_owns (Ends other) may rank = replaced rank other _ (λ was on. absurd cc)
  still_owns (Operates other image sent) may rank = owns rank

pub always_owns_on_three : (s : Settings) (t : Timing) → TripleNodesHold s t → CallsAnswer s t → PacketsReadBack → EveryTripleJointHasAWorld s t → AlwaysOwnsOnThree s t
unfolding triple_joint_after AllMayHappenTriple
always_owns_on_three s t nodes calls back every images [] rank joined = λ on. absurd cc
always_owns_on_three s t nodes calls back every images (newest ∷ earlier) rank joined =
    let before : IsTripleJoined s t images earlier = record { fits = joined.fits; created = joined.created; may = joined.may.1 } in
    still_owns s t nodes calls back joined.fits (triple_joint_after s images earlier) (every images earlier before)
    (λ r. always_owns_on_three s t nodes calls back every images earlier r before) newest joined.may.0 rank

-- a resource that runs is held in the world
runner_holds : {s : Settings} {t : Timing} {j : TripleJoint} (has : HasTripleWorld s t j) (rank : ℕ) → Owns3 (j.hosts rank)
    → ((j.hosts rank).one.on && (j.hosts rank).one.runs) ≡ true → is_holder s (run_triple s t has.events).moments rank ≡ true
runner_holds {j = j} has rank owned runs =
    let two = and_parts (j.hosts rank).one.on (j.hosts rank).one.runs runs in
    node_holds (has.world.nodes rank (configured_triple has rank two.0)).one owned two.0 two.1

pub one_owner_on_three : (s : Settings) (t : Timing) → OneMayHoldTriple s t → EveryTripleJointHasAWorld s t → AlwaysOwnsOnThree s t → AtMostOneRunsOnThree s t
one_owner_on_three s t one every owned images happenings i j joined first second =
    let has = every images happenings joined in
    one has.events i j has.may (runner_holds has i (owned images happenings i joined) first) (runner_holds has j (owned images happenings j joined) second)

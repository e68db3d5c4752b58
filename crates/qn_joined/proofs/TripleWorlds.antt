-- Every joint of running nodes on three images has a world of three images.
use Rattle.std.proofs.Common.{◌≡◌, ℕ, Bool, true, List, [], ◌∷◌, Option, None, refl, sym, ◌∙◌, arith}
use Rattle.qn_base.specs.declared.calls.Call.{Call}
use Rattle.qn_base.specs.declared.ids.Rank.{Rank}
use Rattle.qn_model.specs.declared.configuration.Settings.{Settings}
use Rattle.qn_model.specs.declared.disk.Message.{Message}
use Rattle.qn_model.specs.declared.times.Timing.{Timing}
use Rattle.qn_model.specs.Moments.{packets, time}
use Rattle.qn_safety.specs.TripleNumbers.{AllMayTriple}
use Rattle.qn_safety.specs.TripleRules.{is_image}
use Rattle.qn_safety.specs.TripleSteps.{run_triple}
use Rattle.qn_joined.specs.Joints.{FitsImage, IsNewImage}
use Rattle.qn_joined.specs.TripleJoints as joints
use Rattle.qn_joined.specs.TripleJoints.{AllMayHappenTriple, TripleHappening, first_triple_joint, triple_joint_after}
use Rattle.qn_joined.specs.TripleNodes.{HasTripleWorld, IsTripleWorld, KeepsAWorld}
use Rattle.qn_joined.specs.TripleTheorem.{EveryTripleJointHasAWorld}
use Rattle.qn_joined.specs.WorldOf.{NoCall}
use Rattle.qn_joined.proofs.Worlds.{never_on_node, new_is_image}

-- before anything happened
first_is_triple_world : (s : Settings) (t : Timing) (images : ℕ → ℕ → List ℕ) → ((image : ℕ) → is_image image ≡ true → IsNewImage s t (images image))
    → IsTripleWorld s t (first_triple_joint images) (run_triple s t [])
unfolding run_triple time packets
first_is_triple_world s t images created =
    record {
      time = refl;
      nodes = λ r below. record {
        took = None;
        one = never_on_node s r;
        told = λ answer e. absurd cc;
        plain = (refl, refl);
        three = refl;
        goods = λ on. absurd (let off = (never_on_node s r).on in let both = sym off ∙ on in cc);
        silent = λ on. absurd (let off = (never_on_node s r).on in let both = sym off ∙ on in cc);
        ahead = λ on. absurd (let off = (never_on_node s r).on in let both = sym off ∙ on in cc);
        idle = λ on. absurd cc;
        among = λ image. NoCall;
        fresh = λ on. absurd cc;
      };
      off = λ r out. refl;
      fed = λ r. omega arith;
      bare = λ r out image. refl;
      images = λ image in_range. new_is_image s t (images image) (created image in_range);
      sent = λ to bytes p there spelled c. absurd (omega (arith, there.1));
    }

-- what may happen keeps a joint a world, kind by kind
pub each_keeps : {s : Settings} {t : Timing}
    → ((dt : ℕ) (clocks : List (Rank × ℕ)) → KeepsAWorld s t (joints.Passes dt clocks))
    → ((rank : ℕ) (clean : Bool) (leave polls : Option ℕ) (turns : ℕ) → KeepsAWorld s t (joints.Begins rank clean leave polls turns))
    → ((rank base : ℕ) → KeepsAWorld s t (joints.Looks rank base))
    → ((rank : ℕ) → KeepsAWorld s t (joints.Lands rank))
    → ((rank : ℕ) (made : Call) → KeepsAWorld s t (joints.Returns rank made))
    → ((rank : ℕ) → KeepsAWorld s t (joints.Feeds rank))
    → ((rank image number : ℕ) → KeepsAWorld s t (joints.LandsLate rank image number))
    → ((rank : ℕ) → KeepsAWorld s t (joints.Ends rank))
    → ((rank image : ℕ) (sent : Message) → KeepsAWorld s t (joints.Operates rank image sent))
    → (happening : TripleHappening) → KeepsAWorld s t happening
each_keeps passes begins looks lands returns feeds late ends operates (joints.Passes dt clocks) = passes dt clocks
each_keeps passes begins looks lands returns feeds late ends operates (joints.Begins rank clean leave polls turns) = begins rank clean leave polls turns
each_keeps passes begins looks lands returns feeds late ends operates (joints.Looks rank base) = looks rank base
each_keeps passes begins looks lands returns feeds late ends operates (joints.Lands rank) = lands rank
each_keeps passes begins looks lands returns feeds late ends operates (joints.Returns rank made) = returns rank made
each_keeps passes begins looks lands returns feeds late ends operates (joints.Feeds rank) = feeds rank
each_keeps passes begins looks lands returns feeds late ends operates (joints.LandsLate rank image number) = late rank image number
each_keeps passes begins looks lands returns feeds late ends operates (joints.Ends rank) = ends rank
each_keeps passes begins looks lands returns feeds late ends operates (joints.Operates rank image sent) = operates rank image sent

module _ (s : Settings) (t : Timing) (images : ℕ → ℕ → List ℕ) (keeps : (happening : TripleHappening) → KeepsAWorld s t happening) (fits : FitsImage s t)
    (created : (image : ℕ) → is_image image ≡ true → IsNewImage s t (images image)) where
  has_world : (happenings : List TripleHappening) → AllMayHappenTriple s t images happenings → HasTripleWorld s t (triple_joint_after s images happenings)
  unfolding triple_joint_after AllMayHappenTriple AllMayTriple
  has_world [] may = record { events = []; may = tt; world = first_is_triple_world s t images created }
  has_world (newest ∷ earlier) may = keeps newest (triple_joint_after s images earlier) fits (has_world earlier may.1) may.0

pub every_triple_joint_has_a_world : (s : Settings) (t : Timing) → ((happening : TripleHappening) → KeepsAWorld s t happening) → EveryTripleJointHasAWorld s t
every_triple_joint_has_a_world s t keeps images happenings joined = has_world s t images keeps joined.fits joined.created happenings joined.may

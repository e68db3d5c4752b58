-- Every joint has a world, whatever nodes and operators left in the image that it began on.
use Rattle.std.proofs.Common.{◌≡◌, ◌<◌, ℕ, true, false, List, [], ◌∷◌, Option, refl, sym, ap, subst, ◌∙◌, arith}
use Rattle.std.specs.Prelude.{length, ◌^◌}
use Rattle.qn_model.specs.declared.configuration.Settings.{Settings}
use Rattle.qn_model.specs.declared.times.Timing.{Timing}
use Rattle.qn_model.specs.declared.disk.Slot.{Slot}
use Rattle.qn_model.specs.declared.entries.What.{What}
use Rattle.qn_model.specs.declared.outputs.DiskOp.{DiskOp}
use Rattle.qn_model.specs.declared.packets.Sent.{Sent}
use Rattle.qn_model.specs.declared.disk.Message.TheVariants as message
use Rattle.qn_model.specs.Moments.{Running}
use Rattle.qn_model.specs.Sectors.{anonymous, mail_bytes, slot_bytes}
use Rattle.qn_model.specs.Steps.{run}
use Rattle.qn_model.specs.Timing.{is_safe}
use Rattle.qn_model.specs.Unmet.{id_of}
use Rattle.qn_model.specs.World.{node_at}
use Rattle.qn_safety.specs.AnyNumbers.{OneMayHold}
use Rattle.qn_safety.specs.NodeLogs.{LogsHold}
use Rattle.qn_joined.specs.AnyImage.{AtMostOneRunsAgain, EveryJointHasAWorldAgain, IsLeftImage, NewImagesAreLeft}
use Rattle.qn_joined.specs.Joints.{AllMayHappen, FitsImage, Happening, first_joint, joint_after, never_on}
use Rattle.qn_joined.specs.Theorem.{MailsReadBack, PacketsReadBack, TakesAlike}
use Rattle.qn_joined.specs.WorldOf.{NoCall, HasWorld, IsNode}
use Rattle.qn_joined.proofs.Owned.{always_owns}
use Rattle.qn_joined.proofs.Owners.{runner_holds}
use Rattle.qn_joined.proofs.Reaching.{IsLeft, new_slots, reached}
use Rattle.qn_joined.proofs.Worlds.{one_happens, world_of}

pub new_images_are_left : (s : Settings) (t : Timing) → NewImagesAreLeft s t
new_images_are_left s t image created =
    record {
      slots = new_slots;
      mails = λ rank. anonymous message.Empty;
      header = created.header;
      spells = created.slots;
      fits = λ rank below. omega arith;
      clean = λ rank below none. refl;
      holds = created.mails;
      senders = λ rank below. tt;
    }

-- a host that was never on, whatever its node did before
off_node : (s : Settings) (rank : ℕ) (n : Running) (took : Option What) (left : List DiskOp) (all : List Sent) → n.on ≡ false → IsNode s rank never_on n took left all
off_node s rank n took left all off =
    record {
      on = off;
      log = λ on. absurd (lives on);
      clock = λ on. absurd (lives on);
      tick = λ on. absurd (lives on);
      fed = λ on. absurd (lives on);
      decided = λ on. absurd (lives on);
      silent = λ on. absurd (lives on);
      backed = λ on. absurd (lives on);
      idle = λ on. absurd cc;
      among = NoCall;
      fresh = λ on. absurd cc;
      ending = λ on. absurd cc;
      greets = refl;
      rests = λ on. absurd cc;
    }
  where
    lives : n.on ≡ true → ⊥
    lives on = let both = sym off ∙ on in cc

first_has : (s : Settings) (t : Timing) (image : ℕ → List ℕ) → is_safe t ≡ true → IsLeftImage s t image → HasWorld s t (first_joint image)
first_has s t image safe left = from (reached s t safe left.slots (λ rank. (left.mails rank).message) left.fits left.clean)
  where
    from : IsLeft s t left.slots (λ rank. (left.mails rank).message) (length s.nodes) → HasWorld s t (first_joint image)
    from had =
        record {
          events = had.events;
          may = had.may;
          world = record {
            time = had.time;
            nodes = λ r below. off_node s r (node_at s r (run s t had.events)) _ _ _ (had.off r);
            off = λ r out. refl;
            fed = λ r. omega arith;
            bare = λ r out. refl;
            image = record {
              header = left.header;
              slots = λ r below. left.spells r below ∙ ap (λ (x : Slot). slot_bytes (id_of s r).0 x) (sym (had.slots_are r below));
              fit = λ r below. subst (λ (x : Slot). x.incarnation < 2 ^ 64) (sym (had.slots_are r below)) (left.fits r below);
              mails = λ r below. ((left.mails r).by, left.senders r below, left.holds r below ∙ ap (λ m. mail_bytes (record { message = m; by = (left.mails r).by })) (sym (had.mails_are r below)));
            };
            sent = λ to bytes p there spelled c. absurd (omega (arith, there.1));
          };
        }

module _ (s : Settings) (t : Timing) (safe : is_safe t ≡ true) (alike : TakesAlike s t) (logs : LogsHold s t) (packets_back : PacketsReadBack) (mails_back : MailsReadBack) (fits : FitsImage s t) where
  each_has_again : (image : ℕ → List ℕ) (happenings : List Happening) → IsLeftImage s t image → AllMayHappen s t image happenings → HasWorld s t (joint_after s image happenings)
  unfolding joint_after AllMayHappen
  each_has_again image [] left may = first_has s t image safe left
  each_has_again image (newest ∷ earlier) left may =
      world_of (one_happens s t alike logs packets_back mails_back fits (joint_after s image earlier) newest (each_has_again image earlier left may.1) may.0)

pub every_joint_again : (s : Settings) (t : Timing) → is_safe t ≡ true → TakesAlike s t → LogsHold s t → PacketsReadBack → MailsReadBack → EveryJointHasAWorldAgain s t
every_joint_again s t safe alike logs packets_back mails_back image happenings joined =
    each_has_again s t safe alike logs packets_back mails_back joined.fits image happenings joined.left joined.may

pub one_owner_again : (s : Settings) (t : Timing) → OneMayHold s t → EveryJointHasAWorldAgain s t → AtMostOneRunsAgain s t
one_owner_again s t one every image happenings i j joined first second =
    let has = every image happenings joined in
    one has.events i j has.may
    (runner_holds has i (always_owns s t image happenings i joined.may) first)
    (runner_holds has j (always_owns s t image happenings j joined.may) second)

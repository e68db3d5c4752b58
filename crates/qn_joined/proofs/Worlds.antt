-- Every joint has a world.
use Rattle.std.proofs.Common.{◌≡◌, ◌<◌, ◌≤◌, ◌+◌, ℕ, true, false, List, [], ◌∷◌, ◌++◌, Option, None, refl, sym, subst, arith}
use Rattle.std.specs.Prelude.{length, nat_le}
use Rattle.std.specs.Option.{option_map_or}
use Rattle.qn_model.specs.declared.configuration.Settings.{Settings}
use Rattle.qn_model.specs.declared.times.Timing.{Timing}
use Rattle.qn_model.specs.declared.events.Event.{Event}
use Rattle.qn_model.specs.Moments.{Itself, node, packets, time}
use Rattle.qn_safety.specs.Earlier.{before_then}
use Rattle.qn_model.specs.Steps.{run}
use Rattle.qn_model.specs.World.{first_world}
use Rattle.qn_safety.specs.NodeLogs.{LogsHold}
use Rattle.qn_joined.specs.Joints as joints
use Rattle.qn_joined.specs.Joints.{AllMayHappen, FitsImage, Happening, Host, IsJoined, IsNewImage, Joint, MayHappen, began, ended, first_joint, happens, joint_after, looked_first, never_on, with_host}
use Rattle.qn_joined.specs.Moves.{EachIsOneEvent, HasStepped, IsEventOf, Moved}
use Rattle.qn_safety.specs.AnyNumbers.{AllMay}
use Rattle.qn_joined.specs.Theorem.{MailsReadBack, PacketsReadBack, TakesAlike}
use Rattle.qn_joined.specs.WorldOf.{NoCall, EveryJointHasAWorld, HasGrown, HasWorld, WorldsGrow, IsImage, IsNode, IsWorld}
use Rattle.qn_joined.proofs.Boots.{begins_untimed, boots_in_world, feeds_in_world, may_begin_untimed, no_event}
use Rattle.qn_joined.proofs.Endings.{ends_in_world}
use Rattle.qn_joined.proofs.Frames.{knows_grows, one_moves}
use Rattle.qn_joined.proofs.Images.{same_image}
use Rattle.qn_joined.proofs.Landing.{lands_in_world, operates_in_world}
use Rattle.qn_joined.proofs.Late.{late_in_world}
use Rattle.qn_joined.proofs.Owners.{configured}
use Rattle.qn_joined.proofs.Passing.{passes_in_world}
use Rattle.qn_joined.proofs.Returns.{first_fed, returns_in_world}

-- before anything happened
pub never_on_node : (s : Settings) (rank : ℕ) → IsNode s rank never_on (node s rank []) None [] []
unfolding node
never_on_node s rank =
    record {
      on = refl;
      log = λ on. absurd cc;
      clock = λ on. absurd cc;
      tick = λ on. absurd cc;
      fed = λ on. absurd cc;
      decided = λ on. absurd cc;
      silent = λ on. absurd cc;
      backed = λ on. absurd cc;
      idle = λ on. absurd cc;
      among = NoCall;
      fresh = λ on. absurd cc;
      ending = λ on. absurd cc;
      greets = refl;
      rests = λ on. absurd cc;
    }

pub new_is_image : (s : Settings) (t : Timing) (image : ℕ → List ℕ) → IsNewImage s t image → IsImage s t image first_world
new_is_image s t image created =
    record {
      header = created.header;
      slots = created.slots;
      fit = λ r below. omega arith;
      mails = λ r below. (None, tt, created.mails r below);
    }

pub first_is_world : (s : Settings) (t : Timing) (image : ℕ → List ℕ) → IsNewImage s t image → IsWorld s t (first_joint image) (run s t [])
unfolding run time packets
first_is_world s t image created =
    record {
      time = refl;
      nodes = λ r below. never_on_node s r;
      off = λ r out. refl;
      fed = λ r. omega arith;
      bare = λ r out. refl;
      image = new_is_image s t image created;
      sent = λ to bytes p there spelled c. absurd (omega (arith, there.1));
    }

-- one host moved on
moved_world : {s : Settings} {t : Timing} {P : Option Event → Type 0} {j : Joint} {events : List Event} (rank : ℕ) (host : Host) → IsWorld s t j (run s t events) → FitsImage s t → rank < length s.nodes
    → Moved s t P rank events host → host.fed ≤ j.time → HasStepped s t P events (with_host rank host j)
moved_world {s} {t} {P} {j} {events} rank host is fits below m fed =
    record {
      events' = m.events';
      grew = m.grew;
      one = m.one;
      may = m.may;
      world =
          one_moves rank (run s t m.events') host j.image j.sent is below m.changes m.node fed (same_image is.image fits (run s t m.events') m.slots m.mailboxes)
          (knows_grows j.sent (packets s (run s t events).moments) (packets s (run s t m.events').moments) m.changes.grows is.sent);
    }

pub world_of : {s : Settings} {t : Timing} {P : Option Event → Type 0} {events : List Event} {j : Joint} → HasStepped s t P events j → HasWorld s t j
world_of stepped = record { events = stepped.events'; may = stepped.may; world = stepped.world }

grown_world : {s : Settings} {t : Timing} {events : List Event} {j : Joint} → HasGrown s t events j → HasWorld s t j
grown_world grown = record { events = grown.events'; may = grown.may; world = grown.world }

module _ (s : Settings) (t : Timing) (alike : TakesAlike s t) (logs : LogsHold s t) (packets_back : PacketsReadBack) (mails_back : MailsReadBack) (fits : FitsImage s t) where
  pub one_happens : (j : Joint) (happening : Happening) → (has : HasWorld s t j) → MayHappen s t happening j → HasStepped s t (IsEventOf happening j) has.events (happens s happening j)
  unfolding happens
  one_happens j (joints.Passes dt clocks) has may = passes_in_world s t has.events j dt clocks has.may has.world fits may
  one_happens j (joints.Begins rank clean leave polls turns) has may =
      moved_world rank (began clean leave polls turns j.time) has.world fits may.0
      (no_event has.may (begins_untimed s rank (j.hosts rank) _ _ _ _ clean leave polls turns j.time (has.world.nodes rank may.0) (may_begin_untimed s (j.hosts rank) may.2))) (omega arith)
  one_happens j (joints.Looks rank base) has may =
      let w = run s t has.events in
      let below = configured has rank may.0 in
      subst (λ k. HasStepped s t (IsEventOf (joints.Looks rank base) j) has.events (with_host rank (looked_first s rank base k (j.hosts rank)) j)) has.world.time
      (moved_world rank (looked_first s rank base (time w.moments) (j.hosts rank)) has.world fits below
      (boots_in_world s t logs rank has.events (j.hosts rank) base below has.may (has.world.nodes rank below) may.0 may.1 (subst (λ k. (j.hosts rank).fed ≤ k) (sym has.world.time) (has.world.fed rank)))
      (subst (λ f. f ≤ j.time) (sym (first_fed s rank base (time w.moments) (j.hosts rank))) (has.world.fed rank)))
  one_happens j (joints.Lands rank) has may =
      lands_in_world s t has.events j rank alike logs (configured has rank may.0) has.may has.world fits may
  one_happens j (joints.Returns rank made) has may =
      returns_in_world s t has.events j rank made packets_back logs (configured has rank may.on) has.may has.world fits may
  one_happens j (joints.Feeds rank) has may =
      let w = run s t has.events in
      let below = configured has rank may.0 in
      subst (λ k. HasStepped s t (IsEventOf (joints.Feeds rank) j) has.events (with_host rank (record (j.hosts rank) { fed = k }) j)) has.world.time
      (moved_world rank (record (j.hosts rank) { fed = time w.moments }) has.world fits below
      (feeds_in_world s t rank has.events (j.hosts rank) has.may (has.world.nodes rank below)
      (subst (λ k. option_map_or (λ decided. nat_le k (decided + t.feed_delay)) (j.hosts rank).decided false ≡ true) (sym has.world.time) may.1))
      (subst (λ k. time w.moments ≤ k) has.world.time (omega arith)))
  one_happens j (joints.LandsLate rank number) has may = late_in_world s t has.events j rank number has.may has.world fits may
  one_happens j (joints.Ends rank) has may =
      let below = configured has rank may in
      moved_world rank (ended s rank (j.hosts rank)) has.world fits below
      (ends_in_world s t logs rank has.events (j.hosts rank) below has.may (has.world.nodes rank below) may) (has.world.fed rank)
  one_happens j (joints.Operates rank sent) has may = operates_in_world s t has.events j rank sent mails_back has.may has.world fits may

  each_has : (image : ℕ → List ℕ) (happenings : List Happening) → IsNewImage s t image → AllMayHappen s t image happenings → HasWorld s t (joint_after s image happenings)
  unfolding joint_after AllMayHappen AllMay
  each_has image [] created may = record { events = []; may = tt; world = first_is_world s t image created }
  each_has image (newest ∷ earlier) created may = world_of (one_happens (joint_after s image earlier) newest (each_has image earlier created may.1) may.0)

  grows_on : (image : ℕ → List ℕ) (newer older : List Happening) → AllMayHappen s t image (newer ++ older) → (has : HasWorld s t (joint_after s image older))
      → HasGrown s t has.events (joint_after s image (newer ++ older))
  unfolding joint_after AllMayHappen grown_world world_of one_happens
  grows_on image [] older may has = record { events' = has.events; grew = Itself; may = has.may; world = has.world }
  grows_on image (newest ∷ newer) older may has =
      let before = grows_on image newer older may.1 has in
      let after = one_happens (joint_after s image (newer ++ older)) newest (grown_world before) may.0 in
      record { events' = after.events'; grew = before_then before.grew after.grew; may = after.may; world = after.world }

pub every_joint_has_a_world : (s : Settings) (t : Timing) → TakesAlike s t → LogsHold s t → PacketsReadBack → MailsReadBack → EveryJointHasAWorld s t
every_joint_has_a_world s t alike logs packets_back mails_back image happenings joined =
    each_has s t alike logs packets_back mails_back joined.fits image happenings joined.created joined.may

pub worlds_grow : (s : Settings) (t : Timing) → TakesAlike s t → LogsHold s t → PacketsReadBack → MailsReadBack → WorldsGrow s t
worlds_grow s t alike logs packets_back mails_back image newer older joined has =
    grows_on s t alike logs packets_back mails_back joined.fits image newer older joined.may has

pub each_is_one_event : (s : Settings) (t : Timing) → TakesAlike s t → LogsHold s t → PacketsReadBack → MailsReadBack → EachIsOneEvent s t
each_is_one_event s t alike logs packets_back mails_back j happening fits has may =
    one_happens s t alike logs packets_back mails_back fits j happening has may

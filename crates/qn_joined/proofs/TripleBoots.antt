-- The first look of a process at its clock, as the boot of its node in the world of three images.
use Rattle.std.proofs.Common.{◌≡◌, ◌<◌, ◌≤◌, ℕ, Bool, true, false, List, [], ◌∷◌, None, refl, sym, ap, subst, ◌∙◌, inl, ◌⊎◌, inr}
use Rattle.std.specs.Prelude.{length}
use Rattle.qn_base.specs.declared.calls.Call.TheVariants as call
use Rattle.qn_model.specs.declared.configuration.Settings.{Settings}
use Rattle.qn_model.specs.declared.times.Timing.{Timing}
use Rattle.qn_model.specs.lemmas.Moments.{boots_apart, put_other, put_same}
use Rattle.qn_model.specs.Log.{op_out}
use Rattle.qn_model.specs.Moments.{Boots, Moment, node, packets, tick_of, time}
use Rattle.qn_model.specs.World.{put}
use Rattle.qn_parts.specs.Parts.{is_good_on}
use Rattle.qn_safety.specs.declared.triple_event.TripleEvent.{TripleEvent}
use Rattle.qn_safety.specs.declared.triple_event.TripleEvent.TheVariants as triple
use Rattle.qn_safety.specs.NodeLogs.{IsNodeLog}
use Rattle.qn_safety.specs.TripleNumbers.{AllMayTriple, TripleNodesHold}
use Rattle.qn_safety.specs.TripleRules.{is_image, refusal_triple}
use Rattle.qn_safety.specs.TripleSteps.{boots_triple, run_triple, step_triple}
use Rattle.qn_safety.specs.TripleWorld as world
use Rattle.qn_safety.specs.TripleWorld.{TripleWorld, all_pending, nodes_of, none_left}
use Rattle.qn_live.specs.TripleRuns.{all_good}
use Rattle.qn_joined.specs.Joints.{Host, looked_first}
use Rattle.qn_joined.specs.TripleJoints as joints
use Rattle.qn_joined.specs.TripleJoints.{TripleHost, happens_triple, looked_first_triple, with_triple}
use Rattle.qn_joined.specs.TripleNodes.{HasTripleWorld, IsNodeOnThree, KeepsAWorld}
use Rattle.qn_joined.specs.WorldOf.{AreAmong, NoCall, IsFresh}
use Rattle.qn_joined.specs.Moves.{boot_event}
use Rattle.qn_joined.proofs.Boots.{boot_allowed, boot_ranked, boots_as_node, unasked_idle, unasked_off}
use Rattle.qn_joined.proofs.Frames.{grows_more}
use Rattle.qn_joined.proofs.Returns.{first_fed}
use Rattle.qn_joined.proofs.TripleFrames.{ChangesOnThree, IsNodeIn3, MovedOnThree, moved_triple, one_of_three}
use Rattle.qn_joined.proofs.TriplePlain.{plain_host}
use Rattle.qn_joined.proofs.TripleSteps.{configured_triple, told_none}

good_at_first : (image : ℕ) → (image ≡ 1) ⊎ ((image ≡ 2) ⊎ (image ≡ 3)) → is_good_on all_good image ≡ true
good_at_first image (inl first) = ap (is_good_on all_good) first
good_at_first image (inr (inl second)) = ap (is_good_on all_good) second
good_at_first image (inr (inr third)) = ap (is_good_on all_good) third

-- the event of a boot in the world of three images
boot_may : (s : Settings) (t : Timing) (rank base : ℕ) (clean : Bool) (events : List TripleEvent) → rank < length s.nodes → (node s rank (run_triple s t events).moments).on ≡ false → AllMayTriple s t events
    → AllMayTriple s t (triple.One (boot_event rank base clean) ∷ events)
unfolding AllMayTriple refusal_triple
boot_may s t rank base true events below off may = (boot_ranked s rank base true below, boot_allowed s t rank base true (nodes_of (run_triple s t events)) off, may)
boot_may s t rank base false events below off may = (boot_ranked s rank base false below, boot_allowed s t rank base false (nodes_of (run_triple s t events)) off, may)

boot_run : (s : Settings) (t : Timing) (rank base : ℕ) (clean : Bool) (events : List TripleEvent) → run_triple s t (triple.One (boot_event rank base clean) ∷ events) ≡ boots_triple rank base clean (run_triple s t events)
unfolding run_triple step_triple
boot_run s t rank base true events = refl
boot_run s t rank base false events = refl

boots_change : (s : Settings) (rank base : ℕ) (clean : Bool) (w : TripleWorld) → ChangesOnThree s rank w (boots_triple rank base clean w)
unfolding time packets
boots_change s rank base clean w =
    record {
      time = refl;
      grows = grows_more (packets s w.moments) _;
      node = λ r apart. boots_apart s rank r base clean w.moments apart;
      parts = λ r apart. put_other w.parts rank r all_pending apart;
      left = λ r apart. put_other w.left rank r none_left apart;
      good = λ r apart. put_other w.good rank r world.all_good apart;
    }

-- the first look leaves what a host took and left over
first_plain : (s : Settings) (rank base now : ℕ) (host : Host) → host.took ≡ None → host.left ≡ [] → ((looked_first s rank base now host).took ≡ None) × ((looked_first s rank base now host).left ≡ [])
unfolding looked_first
first_plain s rank base now host took left =
    let kept = plain_host s rank (call.Now (tick_of base)) now host refl in
    (kept.0 ∙ took, kept.1 ∙ left)

first_asked : (s : Settings) (rank base now : ℕ) (host : Host) → (looked_first s rank base now host).asked ≡ true
unfolding looked_first
first_asked s rank base now host = refl

module _ (s : Settings) (t : Timing) (rank : ℕ) (events : List TripleEvent) (host : TripleHost) (base : ℕ) (nodes : TripleNodesHold s t) (below : rank < length s.nodes) (may : AllMayTriple s t events)
    (is : IsNodeIn3 s t rank host (run_triple s t events)) (on : host.one.on ≡ true) (unasked : host.one.asked ≡ false) (fed : host.one.fed ≤ time (run_triple s t events).moments) where
  abbrev w : TripleWorld
  w = run_triple s t events

  fresh : IsFresh host.one
  fresh = is.one.fresh on unasked

  abbrev events_then : List TripleEvent
  events_then = triple.One (boot_event rank base fresh.clean) ∷ events

  abbrev moments : List Moment
  moments = Boots rank base fresh.clean ∷ w.moments

  abbrev looked : TripleHost
  looked = looked_first_triple s rank base (time w.moments) host

  may_then : AllMayTriple s t events_then
  may_then = boot_may s t rank base fresh.clean events below (unasked_off is.one on unasked) may

  run_is : run_triple s t events_then ≡ boots_triple rank base fresh.clean w
  run_is = boot_run s t rank base fresh.clean events

  logged : IsNodeLog s (node s rank moments).log
  logged = subst (λ x. IsNodeLog s (node s rank x.moments).log) run_is (nodes events_then rank may_then below).log

  -- all images are good ones
  all_are_good : (image : ℕ) → is_image image ≡ true → is_good_on host.good image ≡ true
  all_are_good image in_range =
      ap (λ l. is_good_on l image) (is.fresh on unasked).0 ∙ good_at_first image (one_of_three image in_range)

  booted_node : IsNodeOnThree s t rank looked (node s rank moments) all_pending none_left world.all_good (packets s moments)
  booted_node = record {
    took = None;
    one = boots_as_node s rank w.moments host.one base fresh (unasked_idle is.one on unasked) on fed logged;
    told = λ answer e. absurd cc;
    plain = first_plain s rank base (time w.moments) host.one is.plain.0 is.plain.1;
    three = is.three;
    goods = λ lives clear image in_range. all_are_good image in_range ∙ sym (told_none (op_out (node s rank moments).log) all_pending world.all_good image);
    silent = λ lives none. (refl, refl, refl);
    ahead = λ lives op e. inl ((refl, refl, refl), refl, refl);
    idle = λ lives none. (refl, refl);
    among = λ image. subst (λ l. AreAmong s rank l []) (sym ((is.fresh on unasked).1 image)) NoCall;
    fresh = λ on' no. absurd (let yes = first_asked s rank base (time w.moments) host.one in let both = sym yes ∙ no in cc);
  }

  boots_here : MovedOnThree s t rank events looked
  boots_here = record {
    events' = events_then;
    may = may_then;
    changes = subst (λ x. ChangesOnThree s rank w x) (sym run_is) (boots_change s rank base fresh.clean w);
    slots = ap (λ x. x.slots) run_is;
    mailboxes = ap (λ x. x.mailboxes) run_is;
    node =
        subst (λ x. IsNodeIn3 s t rank looked x) (sym run_is)
        (subst (λ p. IsNodeOnThree s t rank looked (node s rank moments) p (put w.left rank none_left rank) (put w.good rank world.all_good rank) (packets s moments)) (sym (put_same w.parts rank all_pending))
        (subst (λ l. IsNodeOnThree s t rank looked (node s rank moments) all_pending l (put w.good rank world.all_good rank) (packets s moments)) (sym (put_same w.left rank none_left))
        (subst (λ g. IsNodeOnThree s t rank looked (node s rank moments) all_pending none_left g (packets s moments)) (sym (put_same w.good rank world.all_good)) booted_node)));
  }

pub looks_on_three : (s : Settings) (t : Timing) → TripleNodesHold s t → (rank base : ℕ) → KeepsAWorld s t (joints.Looks rank base)
unfolding happens_triple
looks_on_three s t nodes rank base j fits has may =
    subst (λ k. HasTripleWorld s t (with_triple rank (looked_first_triple s rank base k (j.hosts rank)) j)) has.world.time
    (moved_triple rank (looked_first_triple s rank base (time w.moments) (j.hosts rank)) has.world fits below
    (boots_here s t rank has.events (j.hosts rank) base nodes below has.may (has.world.nodes rank below) may.0 may.1 (subst (λ k. (j.hosts rank).one.fed ≤ k) (sym has.world.time) (has.world.fed rank)))
    (subst (λ f. f ≤ j.time) (sym (first_fed s rank base (time w.moments) (j.hosts rank).one)) (has.world.fed rank)))
  where
    w : TripleWorld
    w = run_triple s t has.events

    below : rank < length s.nodes
    below = configured_triple has rank may.0

-- Time that passes, a process that begins, a feed, an operator's write, and a write that was given up and lands after all, as events
-- of the world of three images.
use Rattle.std.proofs.Common.{◌≡◌, ◌<◌, ◌≤◌, ◌+◌, ℕ, zero, suc, Bool, true, false, not, ◌&&◌, List, [], ◌∷◌, Option, None, Some, ◌==◌, if◌then◌else◌, refl, sym, ap, subst, ◌∙◌, arith, is_some, ◌⊎◌, inl, inr}
use Rattle.std.specs.Prelude.{length, nat_le, slice_get}
use Rattle.std.specs.List.{list_all, range_with_len}
use Rattle.std.specs.Option.{option_or, option_map_or}
use Rattle.std.proofs.lemmas.Bool.{cases_lt, eqb-true}
use Rattle.qn_base.specs.declared.calls.Call.{Call}
use Rattle.qn_base.specs.declared.ids.Rank.{Rank}
use Rattle.qn_base.specs.lemmas.Bools.{first_of_three}
use Rattle.qn_model.specs.declared.configuration.Settings.{Settings}
use Rattle.qn_model.specs.declared.disk.Message.{Message}
use Rattle.qn_model.specs.declared.mailbox.Mail.{Mail}
use Rattle.qn_model.specs.declared.times.Timing.{Timing}
use Rattle.qn_model.specs.declared.events.Event.TheVariants as event
use Rattle.qn_model.specs.declared.outputs.DiskOp.{DiskOp}
use Rattle.qn_model.specs.declared.packets.Sent.{Sent}
use Rattle.qn_model.specs.lemmas.Moments.{node_feeds, put_other, put_same}
use Rattle.qn_model.specs.Moments.{Feeds, Running, advance_of, advanced, is_gone, node, packets, time}
use Rattle.qn_model.specs.Phases.{phase}
use Rattle.qn_model.specs.Rules.{is_on, is_within_bounds, may_feed, may_operate, may_pass, outlives, passes, refusal, unless}
use Rattle.qn_model.specs.Sectors.{anonymous, is_deadly, mail_bytes, mail_place}
use Rattle.qn_model.specs.Steps.{step}
use Rattle.qn_model.specs.Wanted.{rank_of}
use Rattle.qn_model.specs.World.{World, numbered, put, without}
use Rattle.qn_sector.specs.Reading.{mail_of}
use Rattle.qn_safety.specs.declared.part.Part.{Part}
use Rattle.qn_safety.specs.declared.triple_event.TripleEvent.{TripleEvent}
use Rattle.qn_safety.specs.declared.triple_event.TripleEvent.TheVariants as triple
use Rattle.qn_safety.specs.TripleNumbers.{AllMayTriple}
use Rattle.qn_safety.specs.TripleRules.{is_image, refusal_triple}
use Rattle.qn_safety.specs.TripleSteps.{lands_late_on, run_triple, step_triple}
use Rattle.qn_safety.specs.TripleWorld.{TripleWorld, image_of, nodes_of, put_on}
use Rattle.qn_live.specs.Performing.{disk_call}
use Rattle.qn_joined.specs.Joints.{FitsImage, is_deadly_mail, is_timed, landed_image}
use Rattle.qn_joined.specs.Moves.{Grows}
use Rattle.qn_joined.specs.Stands.{log_at}
use Rattle.qn_joined.specs.Theorem.{MailsReadBack}
use Rattle.qn_joined.specs.TripleJoints as joints
use Rattle.qn_joined.specs.TripleJoints.{TripleHost, TripleJoint, began_triple, happens_triple, host_after, with_triple}
use Rattle.qn_joined.specs.TripleNodes.{HasTripleWorld, IsNodeOnThree, IsTripleWorld, KeepsAWorld}
use Rattle.qn_joined.specs.WorldOf.{AreAmong, NoCall, IsImage}
use Rattle.qn_joined.proofs.Boots.{begins_as_node, fed_node, unfed_node}
use Rattle.qn_joined.proofs.Frames.{grows_more, knows_grows}
use Rattle.qn_joined.proofs.Images.{mail_put}
use Rattle.qn_joined.proofs.Landing.{may_by}
use Rattle.qn_joined.proofs.Late.{LateOp, late_op}
use Rattle.qn_joined.proofs.Passing.{all_of, in_all, passes_by, passes_node}
use Rattle.qn_joined.proofs.TripleFrames.{ChangesOnThree, IsNodeIn3, MovedOnThree, image_alike, images_land, moved_triple, no_triple_event, put_apart, put_here, same_images, triple_grows, triple_moves}
use Rattle.qn_joined.proofs.TripleSteps.{configured_triple}

-- ## Time

passes_triple : {s : Settings} {t : Timing} {rank : ℕ} {host : TripleHost} {n : Running} {parts : ℕ → Part} {left : ℕ → List DiskOp} {good : ℕ → Bool} {all : List Sent} (all' : List Sent) (advance : ℕ)
    → Grows all all'
    → IsNodeOnThree s t rank host n parts left good all
    → IsNodeOnThree s t rank (record host { one = host_after advance host.one }) (advanced advance n) parts left good all'
passes_triple all' advance grows is =
    record {
      took = is.took;
      one = passes_node all' advance grows is.one;
      told = λ answer e. let w = is.told answer e in record { op = w.op; out = w.out; over = w.over; same = w.same };
      plain = is.plain;
      three = is.three;
      goods = is.goods;
      silent = is.silent;
      ahead = is.ahead;
      idle = is.idle;
      among = is.among;
      fresh = is.fresh;
    }

pub passes_on_three : (s : Settings) (t : Timing) (dt : ℕ) (clocks : List (Rank × ℕ)) → KeepsAWorld s t (joints.Passes dt clocks)
unfolding AllMayTriple run_triple step_triple refusal_triple refusal step happens_triple node time packets
passes_on_three s t dt clocks j fits has happen =
    record {
      events = triple.One (event.Pass dt clocks) ∷ has.events;
      may = (refl, ap (λ b. unless b 1) allowed, has.may);
      world = record {
        time = ap (λ k. k + dt) is.time;
        nodes = λ r below. passes_triple _ (advance_of dt clocks r) (grows_more (packets s w.moments) _) (is.nodes r below);
        off = is.off;
        fed = λ r. let was = is.fed r in omega (arith, was);
        bare = is.bare;
        images = same_images w is.images fits (run_triple s t (triple.One (event.Pass dt clocks) ∷ has.events)) refl refl;
        sent = knows_grows j.sent (packets s w.moments) _ (grows_more (packets s w.moments) _) is.sent;
      };
    }
  where
    w : TripleWorld
    w = run_triple s t has.events

    is : IsTripleWorld s t j w
    is = has.world

    on_of : (r : ℕ) → is_timed s (j.hosts r).one ≡ true → is_on s r (nodes_of w) ≡ true
    on_of r timed = by_order (cases_lt r (length s.nodes))
      where
        by_order : (r < length s.nodes) ⊎ (length s.nodes ≤ r) → is_on s r (nodes_of w) ≡ true
        by_order (inl below) = (is.nodes r below).one.on ∙ timed
        by_order (inr out) =
            let off = is.off r out in
            let on = first_of_three (j.hosts r).one.on (j.hosts r).one.asked (not (is_gone (phase s (log_at (j.hosts r).one.stand.spot)))) timed in
            absurd (let both = sym off ∙ on in cc)

    each : (r : ℕ) → r < length s.nodes → passes t dt (advance_of dt clocks r) (time w.moments) (node s r w.moments) ≡ true
    each r below =
        passes_by t dt (advance_of dt clocks r) (time w.moments) (node s r w.moments) (j.hosts r).one.fed (node s r w.moments).on refl (λ on. (is.nodes r below).one.fed on)
        (ap (λ b. if b then is_within_bounds dt (advance_of dt clocks r) && outlives t (time w.moments + dt) (j.hosts r).one.fed else true) (is.nodes r below).one.on
        ∙ ap (λ k. if is_timed s (j.hosts r).one then is_within_bounds dt (advance_of dt clocks r) && outlives t (k + dt) (j.hosts r).one.fed else true) is.time
        ∙ happen.0 r below)

    allowed : may_pass s t dt clocks (nodes_of w) ≡ true
    allowed =
        ap (λ b. b && list_all (λ r. passes t dt (advance_of dt clocks r) (time w.moments) (node s r w.moments)) (range_with_len 0 (length s.nodes)))
        (all_of (λ (clock : Rank × ℕ). is_timed s (j.hosts clock.0.0).one) (λ (clock : Rank × ℕ). is_on s clock.0.0 (nodes_of w)) clocks (λ clock timed. on_of clock.0.0 timed) happen.1)
        ∙ in_all (λ r. passes t dt (advance_of dt clocks r) (time w.moments) (node s r w.moments)) (length s.nodes) 0 (λ k above below. each k (omega (arith, below)))

-- ## A process begins

begins_node : {s : Settings} {t : Timing} {rank : ℕ} {host : TripleHost} {n : Running} {parts : ℕ → Part} {left : ℕ → List DiskOp} {good : ℕ → Bool} {all : List Sent} (clean : Bool) (leave polls : Option ℕ) (turns now : ℕ)
    → IsNodeOnThree s t rank host n parts left good all → host.one.on ≡ false → IsNodeOnThree s t rank (began_triple s rank clean leave polls turns now) n parts left good all
begins_node {s} {t} {rank} {host} {n} {parts} {left} {good} {all} clean leave polls turns now is off =
    record {
      took = is.took;
      one = begins_as_node s rank host.one n is.took [] all clean leave polls turns now is.one off;
      told = is.told;
      plain = (refl, refl);
      three = refl;
      goods = λ on made image in_range. absurd (lives on);
      silent = is.silent;
      ahead = λ on op e. absurd (lives on);
      idle = λ on none. (refl, refl);
      among = λ image. NoCall;
      fresh = λ on unasked. (refl, λ image. refl);
    }
  where
    lives : n.on ≡ true → ⊥
    lives on =
        let off_now = is.one.on ∙ ap (λ b. b && host.one.asked && not (is_gone (phase s (log_at host.one.stand.spot)))) off in
        let both = sym off_now ∙ on in cc

pub begins_on_three : (s : Settings) (t : Timing) (rank : ℕ) (clean : Bool) (leave polls : Option ℕ) (turns : ℕ) → KeepsAWorld s t (joints.Begins rank clean leave polls turns)
unfolding happens_triple
begins_on_three s t rank clean leave polls turns j fits has may =
    moved_triple rank (began_triple s rank clean leave polls turns j.time) has.world fits may.0
    (no_triple_event has.may (begins_node clean leave polls turns j.time (has.world.nodes rank may.0) may.2)) (omega arith)

-- ## A feed

node_apart_fed : (s : Settings) (rank r : ℕ) (w : TripleWorld) → (rank == r) ≡ false → node s r (Feeds rank ∷ w.moments) ≡ node s r w.moments
unfolding node
node_apart_fed s rank r w e = ap (λ b. if b then record (node s r w.moments) { fed = time w.moments } else node s r w.moments) e

feeds_change : (s : Settings) (rank : ℕ) (w : TripleWorld) → ChangesOnThree s rank w (record w { moments = Feeds rank ∷ w.moments })
unfolding time packets
feeds_change s rank w =
    record {
      time = refl;
      grows = grows_more (packets s w.moments) _;
      node = λ r apart. node_apart_fed s rank r w apart;
      parts = λ r apart. refl;
      left = λ r apart. refl;
      good = λ r apart. refl;
    }

module _ (s : Settings) (t : Timing) (rank : ℕ) (events : List TripleEvent) (host : TripleHost) (may : AllMayTriple s t events) (is : IsNodeIn3 s t rank host (run_triple s t events))
    (decided : option_map_or (λ decided. nat_le (time (run_triple s t events).moments) (decided + t.feed_delay)) host.one.decided false ≡ true) where
  abbrev w : TripleWorld
  w = run_triple s t events

  abbrev fed_host : TripleHost
  fed_host = record host { one = record host.one { fed = time w.moments } }

  unfed : (node s rank w.moments).on ≡ false → IsNodeIn3 s t rank fed_host w
  unfed off = record {
    took = is.took;
    one = unfed_node (time w.moments) off is.one;
    told = is.told;
    plain = is.plain;
    three = is.three;
    goods = is.goods;
    silent = is.silent;
    ahead = is.ahead;
    idle = is.idle;
    among = is.among;
    fresh = is.fresh;
  }

  fed : IsNodeOnThree s t rank fed_host (record (node s rank w.moments) { fed = time w.moments }) (w.parts rank) (w.left rank) (w.good rank) (packets s w.moments)
  fed = record {
    took = is.took;
    one = fed_node (time w.moments) is.one;
    told = λ answer e. let told = is.told answer e in record { op = told.op; out = told.out; over = told.over; same = told.same };
    plain = is.plain;
    three = is.three;
    goods = is.goods;
    silent = is.silent;
    ahead = is.ahead;
    idle = is.idle;
    among = is.among;
    fresh = is.fresh;
  }

  feeds_by : (b : Bool) → (node s rank w.moments).on ≡ b → MovedOnThree s t rank events fed_host
  unfolding AllMayTriple run_triple step_triple refusal_triple refusal step packets
  feeds_by false off = no_triple_event may (unfed off)
  feeds_by true on =
      record {
        events' = triple.One (event.Feed (rank_of rank)) ∷ events;
        may = (
          refl,
          ap (λ b. option_or (unless b 3) (unless (may_feed s t rank (nodes_of w)) 9)) on
              ∙ ap (λ b. unless b 9) (ap (λ d. option_map_or (λ x. nat_le (time w.moments) (x + t.feed_delay)) d false) (is.one.decided on) ∙ decided),
          may,
        );
        changes = feeds_change s rank w;
        slots = refl;
        mailboxes = refl;
        node =
            subst (λ x. IsNodeOnThree s t rank fed_host x (w.parts rank) (w.left rank) (w.good rank) (packets s (Feeds rank ∷ w.moments))) (sym (node_feeds s rank w.moments))
            (triple_grows (packets s (Feeds rank ∷ w.moments)) (grows_more (packets s w.moments) _) fed);
      }

pub feeds_on_three : (s : Settings) (t : Timing) (rank : ℕ) → KeepsAWorld s t (joints.Feeds rank)
unfolding happens_triple
feeds_on_three s t rank j fits has may =
    subst (λ k. HasTripleWorld s t (with_triple rank (record (j.hosts rank) { one = record (j.hosts rank).one { fed = k } }) j)) has.world.time
    (moved_triple rank (record (j.hosts rank) { one = record (j.hosts rank).one { fed = time w.moments } }) has.world fits below
    (feeds_by s t rank has.events (j.hosts rank) has.may (has.world.nodes rank below)
    (subst (λ k. option_map_or (λ decided. nat_le k (decided + t.feed_delay)) (j.hosts rank).one.decided false ≡ true) (sym has.world.time) may.1) (node s rank w.moments).on refl)
    (subst (λ k. time w.moments ≤ k) has.world.time (omega arith)))
  where
    w : TripleWorld
    w = run_triple s t has.events

    below : rank < length s.nodes
    below = configured_triple has rank may.0

-- ## A write of an operator

pub operates_on_three : (s : Settings) (t : Timing) → MailsReadBack → (rank image : ℕ) (sent : Message) → KeepsAWorld s t (joints.Operates rank image sent)
unfolding AllMayTriple run_triple step_triple refusal_triple happens_triple
operates_on_three s t back rank image sent j fits has may =
    record {
      events = triple.OperatorOn (rank_of rank) image sent ∷ has.events;
      may = (refl, ap (λ b. unless b 10) allowed, has.may);
      world = record {
        time = is.time;
        nodes = is.nodes;
        off = is.off;
        fed = is.fed;
        bare = is.bare;
        images = λ k in_range. by_image k in_range (image == k) refl;
        sent = is.sent;
      };
    }
  where
    w : TripleWorld
    w = run_triple s t has.events

    is : IsTripleWorld s t j w
    is = has.world

    after : TripleWorld
    after = record w { mailboxes = put_on w.mailboxes rank image sent }

    written : (k : ℕ) → World
    written k = record (image_of k w) { mailboxes = put (λ r. w.mailboxes r k) rank sent }

    by_image : (k : ℕ) → is_image k ≡ true → (b : Bool) → (image == k) ≡ b
        → IsImage s t (if b then put (j.images image) (mail_place rank) (mail_bytes (anonymous sent)) else j.images k) (image_of k after)
    by_image k in_range true e =
        let same = eqb-true image k e in
        image_alike (image_of k after)
        (subst (λ i. IsImage s t (put (j.images i) (mail_place rank) (mail_bytes (anonymous sent))) (written k)) (sym same)
        (mail_put (is.images k in_range) fits (written k) rank (anonymous sent) may.0 tt refl refl))
        (λ r. refl)
        (λ r. subst (λ i. put_on w.mailboxes rank i sent r k ≡ put (λ x. w.mailboxes x k) rank sent r) (sym same) (put_here w.mailboxes rank k r sent))
    by_image k in_range false e =
        image_alike (image_of k after) (is.images k in_range) (λ r. refl) (λ r. put_apart w.mailboxes rank image r k sent e)

    deadly_same : is_deadly_mail (j.images image (mail_place rank)) ≡ is_deadly (w.mailboxes rank image)
    deadly_same =
        let found = (is.images image may.1).mails rank may.0 in
        ap (λ x. option_map_or (λ (m : Mail). is_deadly m.message) x false)
        (ap mail_of found.2 ∙ back (record { message = w.mailboxes rank image; by = found.0 }) found.1)

    off_same : (j.hosts rank).one.on ≡ false → is_on s rank (image_of image w) ≡ false
    off_same off =
        (is.nodes rank may.0).one.on
        ∙ ap (λ b. b && (j.hosts rank).one.asked && not (is_gone (phase s (log_at (j.hosts rank).one.stand.spot)))) off

    allowed : may_operate s rank sent (image_of image w) ≡ true
    allowed =
        may_by (is_deadly sent) (is_deadly_mail (j.images image (mail_place rank))) (is_deadly (w.mailboxes rank image)) (j.hosts rank).one.on (is_on s rank (image_of image w)) deadly_same off_same may.2

-- ## A write that was given up

module _ (s : Settings) (t : Timing) (rank image : ℕ) (j : TripleJoint) (fits : FitsImage s t) (has : HasTripleWorld s t j) (in_range : is_image image ≡ true) (below : rank < length s.nodes) where
  abbrev late_world : TripleWorld
  late_world = run_triple s t has.events

  abbrev late_host : TripleHost
  late_host = j.hosts rank

  abbrev late_after : ℕ → Call → TripleJoint
  late_after number write =
      record (with_triple rank (record late_host { left = put late_host.left image (without (late_host.left image) number) }) j) { images = put j.images image (landed_image write (j.images image)) }

  late_node : (calls : List Call) (ops : List DiskOp) → AreAmong s rank calls ops → (late_host.one.on ≡ true → late_host.one.asked ≡ false → ⊥)
      → IsNodeOnThree s t rank (record late_host { left = put late_host.left image calls }) (node s rank late_world.moments) (late_world.parts rank) (put (late_world.left rank) image ops) (late_world.good rank) (packets s late_world.moments)
  late_node calls ops among asked =
      let is = has.world.nodes rank below in
      record {
        took = is.took;
        one = is.one;
        told = is.told;
        plain = is.plain;
        three = is.three;
        goods = is.goods;
        silent = is.silent;
        ahead = is.ahead;
        idle = is.idle;
        among = λ k. by_image k (image == k);
        fresh = λ on unasked. absurd (asked on unasked);
      }
    where
      by_image : (k : ℕ) (b : Bool) → AreAmong s rank (if b then calls else late_host.left k) (if b then ops else late_world.left rank k)
      by_image k true = among
      by_image k false = (has.world.nodes rank below).among k

  late_here : (place : ℕ) (write : Call) → slice_get (late_host.left image) place ≡ Some write → HasTripleWorld s t (late_after (suc place) write)
  unfolding AllMayTriple run_triple step_triple refusal_triple
  late_here place write there =
      record {
        events = triple.LateOn (rank_of rank) image (suc late.at) ∷ has.events;
        may = (refl, ap (λ o. unless (is_some o) 6) late.there, has.may);
        world =
            subst (λ x. IsTripleWorld s t (late_after (suc place) write) x) (sym (ap (λ o. option_map_or (λ op. lands_late_on rank image (suc late.at) op late_world) o late_world) late.there))
            (subst (λ c. IsTripleWorld s t (late_after (suc place) c) (lands_late_on rank image (suc late.at) late.op late_world)) (sym late.call)
            (triple_moves rank (lands_late_on rank image (suc late.at) late.op late_world) (record late_host { left = put late_host.left image (without (late_host.left image) (suc place)) })
            (put j.images image (landed_image (disk_call s rank late.number late.op) (j.images image))) j.sent has.world below
            (record {
              time = refl;
              grows = λ r p h. h;
              node = λ r apart. refl;
              parts = λ r apart. refl;
              left = λ r apart. put_other late_world.left rank r (put (late_world.left rank) image (without (late_world.left rank image) (suc late.at))) apart;
              good = λ r apart. refl;
            })
            (subst (λ l. IsNodeOnThree s t rank (record late_host { left = put late_host.left image (without (late_host.left image) (suc place)) }) (node s rank late_world.moments) (late_world.parts rank) l (late_world.good rank) (packets s late_world.moments))
            (sym (put_same late_world.left rank (put (late_world.left rank) image (without (late_world.left rank image) (suc late.at)))))
            (late_node (without (late_host.left image) (suc place)) (without (late_world.left rank image) (suc late.at)) late.among bare))
            (has.world.fed rank)
            (images_land late_world has.world.images fits (lands_late_on rank image (suc late.at) late.op late_world) image rank late.number late.op below late.small late.fits refl refl)
            has.world.sent));
      }
    where
      late : LateOp s rank (late_host.left image) (late_world.left rank image) place write
      late = late_op place write ((has.world.nodes rank below).among image) there

      -- a process that has not looked at the clock has left nothing over
      bare : late_host.one.on ≡ true → late_host.one.asked ≡ false → ⊥
      bare on unasked = let none = ap (λ l. slice_get l place) (((has.world.nodes rank below).fresh on unasked).1 image) in let both = sym there ∙ none in cc

  late_by : (number : ℕ) → is_some (numbered (late_host.left image) number) ≡ true
      → HasTripleWorld s t (option_map_or (λ write. late_after number write) (numbered (late_host.left image) number) j)
  late_by zero some = absurd cc
  late_by (suc place) some = by_found (slice_get (late_host.left image) place) refl some
    where
      by_found : (found : Option Call) → slice_get (late_host.left image) place ≡ found → is_some found ≡ true
          → HasTripleWorld s t (option_map_or (λ write. late_after (suc place) write) found j)
      by_found None e some = absurd cc
      by_found (Some write) e some = late_here place write e

pub late_on_three : (s : Settings) (t : Timing) (rank image number : ℕ) → KeepsAWorld s t (joints.LandsLate rank image number)
unfolding happens_triple
late_on_three s t rank image number j fits has may = by_order (cases_lt rank (length s.nodes))
  where
    none_numbered : (k : ℕ) → is_some (numbered {A = Call} [] k) ≡ true → ⊥
    none_numbered zero e = cc
    none_numbered (suc k) e = cc

    by_order : (rank < length s.nodes) ⊎ (length s.nodes ≤ rank) → HasTripleWorld s t (happens_triple s (joints.LandsLate rank image number) j)
    by_order (inl below) = late_by s t rank image j fits has may.0 below number may.1
    by_order (inr out) = absurd (none_numbered number (subst (λ l. is_some (numbered l number) ≡ true) (has.world.bare rank out image) may.1))

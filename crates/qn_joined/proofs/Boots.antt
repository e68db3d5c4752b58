-- The boot of a running node, its feeds and its end, as events of its world.
use Rattle.std.proofs.Common.{Some, ◌≡◌, ◌<◌, ◌≤◌, ℕ, suc, Bool, true, false, not, ◌&&◌, ◌||◌, ◌+◌, List, [], ◌∷◌, Option, None, if◌then◌else◌, refl, sym, ap, subst, ◌∙◌, arith}
use Rattle.std.specs.Prelude.{◌==◌, length, nat_le}
use Rattle.std.specs.Option.{option_or, option_map_or}
use Rattle.std.proofs.lemmas.Bool.{lt-ltb}
use Rattle.std.proofs.lemmas.List.Elements.{Contains-append_right}
use Rattle.qn_base.specs.declared.calls.Call.TheVariants as call
use Rattle.qn_model.specs.declared.configuration.Settings.{Settings}
use Rattle.qn_model.specs.declared.times.Timing.{Timing}
use Rattle.qn_model.specs.declared.entries.What.{What}
use Rattle.qn_model.specs.declared.events.Event.{Event}
use Rattle.qn_model.specs.declared.events.Event.TheVariants as event
use Rattle.qn_model.specs.declared.outputs.DiskOp.{DiskOp}
use Rattle.qn_model.specs.declared.packets.Sent.{Sent}
use Rattle.qn_model.specs.lemmas.Entries.{begin_answers_none}
use Rattle.qn_model.specs.lemmas.Moments.{node_boots, boots_apart, node_feeds, put_same, put_other}
use Rattle.qn_model.specs.Holding.{holds}
use Rattle.qn_model.specs.Log.{now, op_out}
use Rattle.qn_model.specs.Moments.{Itself, Later, Boots, Feeds, Moment, Running, begin_of, booted, given_out, handed, is_gone, node, packets, tick_of, time}
use Rattle.qn_model.specs.NodeOutputs.{newest_outs}
use Rattle.qn_model.specs.Phases.{phase}
use Rattle.qn_model.specs.Rules.{may_feed, refusal, unless}
use Rattle.qn_model.specs.Steps.{boots, happens, run, step}
use Rattle.qn_model.specs.Wanted.{rank_of}
use Rattle.qn_model.specs.World.{World, node_at}
use Rattle.qn_live.specs.declared.place.Choice.{Choice}
use Rattle.qn_live.specs.declared.place.Choice.TheVariants as choice
use Rattle.qn_live.specs.Running.{RunState, first_state}
use Rattle.qn_joined.specs.Joints.{Host, looked_first, returned, began, is_none_left, is_over, is_timed, may_begin}
use Rattle.qn_joined.specs.Moves as moves
use Rattle.qn_joined.specs.Moves.{BeginsAsNode, BootsInWorld, Changes, FeedsInWorld, Hands, IsBoot, IsNodeIn, Moved, boot_event}
use Rattle.qn_safety.specs.NodeLogs.{IsNodeLog, LogsHold}
use Rattle.qn_joined.specs.Nodes.{AllSaid, IsReady, Spends}
use Rattle.qn_safety.specs.AnyNumbers.{AllMay, is_ranked}
use Rattle.qn_joined.specs.Stands.{Stand, first_stand, log_at}
use Rattle.qn_joined.specs.WorldOf.{AreAmong, NoCall, IsFresh, IsNode, disk_ahead}
use Rattle.qn_joined.proofs.Frames.{grows_more, node_grows}
use Rattle.qn_joined.proofs.Handing.{handed_at}
use Rattle.qn_joined.proofs.Looks.{all_said}

-- a process that begins where the node takes no part in time is a node that is off
pub begins_untimed : (s : Settings) (rank : ℕ) (host : Host) (n : Running) (took : Option What) (left : List DiskOp) (all : List Sent)
    (clean : Bool) (leave polls : Option ℕ) (turns begun : ℕ) → IsNode s rank host n took left all → is_timed s host ≡ false
    → IsNode s rank (began clean leave polls turns begun) n took left all
unfolding phase holds
begins_untimed s rank host n took left all clean leave polls turns begun is untimed =
    record {
      on = off_now;
      log = λ on. absurd (lives on);
      clock = λ on. absurd (lives on);
      tick = λ on. absurd (lives on);
      fed = λ on. absurd (lives on);
      decided = λ on. absurd (lives on);
      silent = is.silent;
      backed = λ on. absurd (lives on);
      idle = λ on none. refl;
      among = NoCall;
      fresh = λ on unasked. record { clean = clean; polls = polls; turns = turns; stand = refl; decided = refl; runs = refl; left = refl };
      greets = refl;
      ending = λ on gone. absurd cc;
      rests = λ on gone. refl;
    }
  where
    off_now : n.on ≡ false
    off_now = is.on ∙ untimed

    lives : n.on ≡ true → ⊥
    lives on = let both = sym off_now ∙ on in cc

-- a process that begins is a node that is off
pub begins_as_node : (s : Settings) (rank : ℕ) → BeginsAsNode s rank
begins_as_node s rank host n took left all clean leave polls turns begun is off =
    begins_untimed s rank host n took left all clean leave polls turns begun is
    (ap (λ b. b && host.asked && not (is_gone (phase s (log_at host.stand.spot)))) off)

-- where a process may begin, the node before takes no part in time
pub may_begin_untimed : (s : Settings) (host : Host) → may_begin s host ≡ true → is_timed s host ≡ false
may_begin_untimed s host may = by_on host.on host.asked (is_gone (phase s (log_at host.stand.spot))) may
  where
    by_on : (on asked gone : Bool) → (not on || (gone && is_over host.stand.spot && not host.runs && is_none_left host.left)) ≡ true
        → (on && asked && not gone) ≡ false
    by_on false asked gone may = refl
    by_on true true true may = refl
    by_on true false true may = refl
    by_on true asked false may = absurd cc

said_at_boot : (s : Settings) (rank base : ℕ) (clean : Bool) (ms : List Moment)
    → AllSaid (packets s (Boots rank base clean ∷ ms)) (newest_outs (node s rank (Boots rank base clean ∷ ms)).log)
unfolding packets given_out
said_at_boot s rank base clean ms =
    all_said _ (newest_outs (node s rank (Boots rank base clean ∷ ms)).log) (λ sent is. Contains-append_right (packets s ms) _ sent is)

-- the event of a boot
pub boot_ranked : (s : Settings) (rank base : ℕ) (clean : Bool) → rank < length s.nodes → is_ranked s (boot_event rank base clean) ≡ true
boot_ranked s rank base false below = lt-ltb rank (length s.nodes) below
boot_ranked s rank base true below = lt-ltb rank (length s.nodes) below

pub boot_allowed : (s : Settings) (t : Timing) (rank base : ℕ) (clean : Bool) (w : World) → (node_at s rank w).on ≡ false → refusal s t (boot_event rank base clean) w ≡ None
unfolding refusal
boot_allowed s t rank base false w off = ap (λ b. unless (not b) 2) off
boot_allowed s t rank base true w off = ap (λ b. unless (not b) 2) off

boot_steps : (s : Settings) (t : Timing) (rank base : ℕ) (clean : Bool) (w : World) → step s t (boot_event rank base clean) w ≡ boots rank base clean w
unfolding step
boot_steps s t rank base false w = refl
boot_steps s t rank base true w = refl

boots_changes : (s : Settings) (rank base : ℕ) (clean : Bool) (w : World) → Changes s rank w (boots rank base clean w)
unfolding time packets
boots_changes s rank base clean w =
    record {
      time = refl;
      grows = grows_more (packets s w.moments) _;
      node = λ r apart. boots_apart s rank r base clean w.moments apart;
      took = λ r apart. put_other w.took rank r None apart;
      left = λ r apart. put_other w.left rank r [] apart;
    }

first_is : (s : Settings) (rank base now : ℕ) (host : Host) (stand : Stand)
    → looked_first s rank base now (record host { stand = stand }) ≡ returned s rank (call.Now (tick_of base)) now (record host { asked = true; clock = base; stand = stand })
unfolding looked_first returned
first_is s rank base now host stand = refl

-- the first look at the clock of a process, and the node of its boot
module _ (s : Settings) (rank : ℕ) (ms : List Moment) (host : Host) (base : ℕ) (fresh : IsFresh host) (idle : host.took ≡ None) (on : host.on ≡ true) (fed : host.fed ≤ time ms) where
  abbrev before : Running
  before = record { on = true; boots = suc (node s rank ms).boots; log = []; clock = base; fed = time ms; decided = None }

  abbrev first : Host
  first = record host { asked = true; clock = base; stand = first_stand fresh.clean fresh.polls fresh.turns }

  abbrev chosen : Choice × RunState
  chosen = (choice.Whole (begin_of fresh.clean), first_state fresh.polls)

  abbrev moments : List Moment
  moments = Boots rank base fresh.clean ∷ ms

  ready : IsReady s rank first chosen before None []
  unfolding op_out
  ready = record {
    log = refl;
    clock = refl;
    tick = omega arith;
    fed = fed;
    decided = sym fresh.decided;
    silent = λ none. refl;
    waiting = record { stopped = λ ok e. absurd cc; disk = λ answer e. absurd cc };
    calm = refl;
    free = λ answers. refl;
    idle = idle;
    among = subst (λ l. AreAmong s rank l []) (sym fresh.left) NoCall;
  }

  spends : Spends s rank (begin_of fresh.clean) first None None [] []
  spends = record { plain = λ e. (refl, refl); answer = λ e. absurd (let both = sym (begin_answers_none fresh.clean) ∙ e in cc) }

  node_is : node s rank moments ≡ handed s rank (time ms) (begin_of fresh.clean) before
  unfolding booted
  node_is = node_boots s rank base fresh.clean ms

  looked_is : looked_first s rank base (time ms) host ≡ returned s rank (call.Now (tick_of base)) (time ms) first
  looked_is = ap (λ x. looked_first s rank base (time ms) (record host { stand = x })) fresh.stand ∙ first_is s rank base (time ms) host (first_stand fresh.clean fresh.polls fresh.turns)

  pub boots_as_node : IsNodeLog s (node s rank moments).log → IsNode s rank (looked_first s rank base (time ms) host) (node s rank moments) None [] (packets s moments)
  boots_as_node known =
      subst (λ h. IsNode s rank h (node s rank moments) None [] (packets s moments)) (sym looked_is)
      (subst (λ x. IsNode s rank (returned s rank (call.Now (tick_of base)) (time ms) first) x None [] (packets s moments)) (sym node_is)
      (handed_at s rank before None None [] [] (packets s moments) first chosen (time ms) (tick_of base) ready on refl refl
      (subst (λ x. IsNodeLog s x.log) node_is known) spends (λ e. e) (λ e. e)
      (subst (λ x. AllSaid (packets s moments) (newest_outs x.log)) node_is (said_at_boot s rank base fresh.clean ms))))

-- a process that has not looked at the clock is a node that is off
pub unasked_off : {s : Settings} {rank : ℕ} {host : Host} {n : Running} {took : Option What} {left : List DiskOp} {all : List Sent}
    → IsNode s rank host n took left all → host.on ≡ true → host.asked ≡ false → n.on ≡ false
unasked_off {s} {rank} {host} is on unasked =
    is.on ∙ ap (λ b. host.on && b && not (is_gone (phase s (log_at host.stand.spot)))) unasked ∙ ap (λ b. b && false && not (is_gone (phase s (log_at host.stand.spot)))) on

pub unasked_idle : {s : Settings} {rank : ℕ} {host : Host} {n : Running} {took : Option What} {left : List DiskOp} {all : List Sent}
    → IsNode s rank host n took left all → host.on ≡ true → host.asked ≡ false → host.took ≡ None
unasked_idle is on unasked = is.idle on (ap (λ x. disk_ahead x.spot) (is.fresh on unasked).stand)

module _ (s : Settings) (t : Timing) (rank : ℕ) (events : List Event) (host : Host) (base : ℕ) (logs : LogsHold s t) (below : rank < length s.nodes) (may : AllMay s t events)
    (is : IsNodeIn s rank host (run s t events)) (on : host.on ≡ true) (unasked : host.asked ≡ false) (fed : host.fed ≤ time (run s t events).moments) where
  abbrev w : World
  w = run s t events

  fresh : IsFresh host
  fresh = is.fresh on unasked

  abbrev after : World
  after = boots rank base fresh.clean w

  may_boot : AllMay s t (boot_event rank base fresh.clean ∷ events)
  unfolding AllMay
  may_boot = (boot_ranked s rank base fresh.clean below, boot_allowed s t rank base fresh.clean w (unasked_off is on unasked), may)

  run_is : run s t (boot_event rank base fresh.clean ∷ events) ≡ after
  unfolding run
  run_is = boot_steps s t rank base fresh.clean w

  booted_node : IsNodeIn s rank (looked_first s rank base (time w.moments) host) after
  booted_node =
      subst (λ k. IsNode s rank (looked_first s rank base (time w.moments) host) (node_at s rank after) k (after.left rank) (packets s after.moments)) (sym (put_same w.took rank None))
      (subst (λ l. IsNode s rank (looked_first s rank base (time w.moments) host) (node_at s rank after) None l (packets s after.moments)) (sym (put_same w.left rank []))
      (boots_as_node s rank w.moments host base fresh (unasked_idle is on unasked) on fed
      (subst (λ x. IsNodeLog s (node_at s rank x).log) run_is (logs (boot_event rank base fresh.clean ∷ events) rank may_boot below))))

  boots_here : Moved s t (IsBoot rank base) rank events (looked_first s rank base (time w.moments) host)
  boots_here = record {
    events' = boot_event rank base fresh.clean ∷ events;
    grew = Later _ Itself;
    one = record { event = Some (boot_event rank base fresh.clean); is = (fresh.clean, refl); grew = refl };
    may = may_boot;
    changes = subst (λ x. Changes s rank w x) (sym run_is) (boots_changes s rank base fresh.clean w);
    slots = ap (λ x. x.slots) run_is;
    mailboxes = ap (λ x. x.mailboxes) run_is;
    node = subst (λ x. IsNodeIn s rank (looked_first s rank base (time w.moments) host) x) (sym run_is) booted_node;
  }

pub boots_in_world : (s : Settings) (t : Timing) → LogsHold s t → BootsInWorld s t
boots_in_world s t logs rank events host base below may is on unasked fed = boots_here s t rank events host base logs below may is on unasked fed

-- a node that is off: nothing happens in its world
pub no_event : {s : Settings} {t : Timing} {entry : Option What} {rank : ℕ} {events : List Event} {host : Host} → AllMay s t events → IsNodeIn s rank host (run s t events)
    → Moved s t (Hands rank entry) rank events host
no_event {s} {t} {entry} {rank} {events} {host} may is =
    record {
      events' = events;
      grew = Itself;
      one = record { event = None; is = moves.Nothing; grew = refl };
      may = may;
      changes = record { time = refl; grows = λ r p h. h; node = λ r apart. refl; took = λ r apart. refl; left = λ r apart. refl };
      slots = refl;
      mailboxes = refl;
      node = is;
    }

node_apart_feeds : (s : Settings) (rank r : ℕ) (ms : List Moment) → (rank == r) ≡ false → node s r (Feeds rank ∷ ms) ≡ node s r ms
unfolding node
node_apart_feeds s rank r ms e = ap (λ b. if b then record (node s r ms) { fed = time ms } else node s r ms) e

feeds_changes : (s : Settings) (rank : ℕ) (w : World) → Changes s rank w (happens (Feeds rank) w)
unfolding time packets
feeds_changes s rank w =
    record {
      time = refl;
      grows = grows_more (packets s w.moments) _;
      node = λ r apart. node_apart_feeds s rank r w.moments apart;
      took = λ r apart. refl;
      left = λ r apart. refl;
    }

pub fed_node : {s : Settings} {rank : ℕ} {host : Host} {n : Running} {took : Option What} {left : List DiskOp} {all : List Sent} (now : ℕ)
    → IsNode s rank host n took left all → IsNode s rank (record host { fed = now }) (record n { fed = now }) took left all
fed_node now is =
    record {
      on = is.on;
      log = is.log;
      clock = is.clock;
      tick = is.tick;
      fed = λ on. omega arith;
      decided = is.decided;
      silent = is.silent;
      backed = is.backed;
      idle = is.idle;
      among = is.among;
      fresh = λ on unasked. let f = is.fresh on unasked in record { clean = f.clean; polls = f.polls; turns = f.turns; stand = f.stand; decided = f.decided; runs = f.runs; left = f.left };
      ending = is.ending;
      greets = is.greets;
      rests = is.rests;
    }

pub unfed_node : {s : Settings} {rank : ℕ} {host : Host} {n : Running} {took : Option What} {left : List DiskOp} {all : List Sent} (now : ℕ)
    → n.on ≡ false → IsNode s rank host n took left all → IsNode s rank (record host { fed = now }) n took left all
unfed_node now off is =
    record {
      on = is.on;
      log = is.log;
      clock = is.clock;
      tick = is.tick;
      fed = λ on. absurd (let both = sym off ∙ on in cc);
      decided = is.decided;
      silent = is.silent;
      backed = is.backed;
      idle = is.idle;
      among = is.among;
      fresh = λ on unasked. let f = is.fresh on unasked in record { clean = f.clean; polls = f.polls; turns = f.turns; stand = f.stand; decided = f.decided; runs = f.runs; left = f.left };
      ending = is.ending;
      greets = is.greets;
      rests = is.rests;
    }

module _ (s : Settings) (t : Timing) (rank : ℕ) (events : List Event) (host : Host) (may : AllMay s t events) (is : IsNodeIn s rank host (run s t events))
    (decided : option_map_or (λ decided. nat_le (time (run s t events).moments) (decided + t.feed_delay)) host.decided false ≡ true) where
  abbrev fed_world : World
  fed_world = run s t events

  may_feed_now : (node_at s rank fed_world).on ≡ true → AllMay s t (event.Feed (rank_of rank) ∷ events)
  unfolding AllMay refusal
  may_feed_now on = (
    refl,
    ap (λ b. option_or (unless b 3) (unless (may_feed s t rank fed_world) 9)) on
        ∙ ap (λ b. unless b 9) (ap (λ d. option_map_or (λ x. nat_le (time fed_world.moments) (x + t.feed_delay)) d false) (is.decided on) ∙ decided),
    may,
  )

  feeds_here : (b : Bool) → (node_at s rank fed_world).on ≡ b → Moved s t (Hands rank None) rank events (record host { fed = time fed_world.moments })
  unfolding run step packets
  feeds_here false off = no_event may (unfed_node (time fed_world.moments) off is)
  feeds_here true on =
      record {
        events' = event.Feed (rank_of rank) ∷ events;
        grew = Later _ Itself;
        one = record { event = Some (event.Feed (rank_of rank)); is = moves.Plainly refl; grew = refl };
        may = may_feed_now on;
        changes = feeds_changes s rank fed_world;
        slots = refl;
        mailboxes = refl;
        node =
            subst (λ x. IsNode s rank (record host { fed = time fed_world.moments }) x (fed_world.took rank) (fed_world.left rank) (packets s (Feeds rank ∷ fed_world.moments))) (sym (node_feeds s rank fed_world.moments))
            (node_grows (packets s (Feeds rank ∷ fed_world.moments)) (grows_more (packets s fed_world.moments) _) (fed_node (time fed_world.moments) is));
      }

pub feeds_in_world : (s : Settings) (t : Timing) → FeedsInWorld s t
feeds_in_world s t rank events host may is decided = feeds_here s t rank events host may is decided (node_at s rank (run s t events)).on refl

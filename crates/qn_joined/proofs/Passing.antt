-- Time that passes, as an event of the world of a joint.
use Rattle.std.proofs.Common.{Some, ◌≡◌, ◌<◌, ◌≤◌, ◌+◌, ◌-◌, ◌*◌, ℕ, zero, suc, Bool, true, false, not, ◌&&◌, List, [], ◌∷◌, Option, if◌then◌else◌, refl, sym, ap, subst, ◌∙◌, arith, ◌⊎◌, inl, inr}
use Rattle.std.specs.Prelude.{length}
use Rattle.std.specs.List.{list_all, range_with_len}
use Rattle.std.proofs.lemmas.Bool.{cases_lt, le-leb, leb-true}
use Rattle.qn_base.specs.declared.ids.Rank.{Rank}
use Rattle.qn_base.specs.lemmas.Bools.{second_of_three, first_of_three}
use Rattle.qn_model.specs.declared.configuration.Settings.{Settings}
use Rattle.qn_model.specs.declared.times.Timing.{Timing}
use Rattle.qn_model.specs.declared.entries.What.{What}
use Rattle.qn_model.specs.declared.events.Event.{Event}
use Rattle.qn_model.specs.declared.events.Event.TheVariants as event
use Rattle.qn_model.specs.declared.outputs.DiskOp.{DiskOp}
use Rattle.qn_model.specs.declared.packets.Sent.{Sent}
use Rattle.qn_model.specs.Log.{now}
use Rattle.qn_model.specs.Moments.{Itself, Later, Running, advance_of, advanced, is_gone, node, packets, tick_of, time}
use Rattle.qn_model.specs.Phases.{phase}
use Rattle.qn_model.specs.Rules.{is_on, is_within_bounds, may_pass, outlives, passes, refusal, unless}
use Rattle.qn_model.specs.Steps.{run, step}
use Rattle.qn_model.specs.World.{World, node_at}
use Rattle.qn_joined.specs.Joints as joints
use Rattle.qn_joined.specs.Joints.{Host, Joint, MayHappen, happens, host_passes, is_timed}
use Rattle.qn_joined.specs.Moves.{Grows}
use Rattle.qn_safety.specs.AnyNumbers.{AllMay}
use Rattle.qn_joined.specs.Stands.{log_at}
use Rattle.qn_joined.specs.Moves.{HasStepped, IsEventOf}
use Rattle.qn_joined.specs.WorldOf.{IsNode, IsWorld}
use Rattle.qn_joined.proofs.Frames.{backed_grows, grows_more, knows_grows}
use Rattle.qn_joined.proofs.Images.{same_image}

tick_grows : (clock advance : ℕ) → tick_of clock ≤ tick_of (clock + advance)
tick_grows clock advance = omega arith

pub asked_of : {s : Settings} {rank : ℕ} {host : Host} {n : Running} {took : Option What} {left : List DiskOp} {all : List Sent}
    → IsNode s rank host n took left all → n.on ≡ true → host.asked ≡ true
asked_of {s} {rank} {host} is on = second_of_three host.on host.asked (not (is_gone (phase s (log_at host.stand.spot)))) (sym is.on ∙ on)

pub passes_node : {s : Settings} {rank : ℕ} {host : Host} {n : Running} {took : Option What} {left : List DiskOp} {all : List Sent} (all' : List Sent) (advance : ℕ)
    → Grows all all'
    → IsNode s rank host n took left all
    → IsNode s rank (record host { clock = (if host.asked then host.clock + advance else host.clock) }) (advanced advance n) took left all'
passes_node {s} {rank} {host} {n} {took} {left} {all} all' advance grows is =
    record {
      on = is.on;
      log = is.log;
      clock = λ on.
          ap (λ b. if b then n.clock + advance else n.clock) on ∙ ap (λ c. c + advance) (is.clock on)
          ∙ sym (ap (λ b. if b then host.clock + advance else host.clock) (asked_of is on));
      tick = λ on.
          subst (λ c. now n.log ≤ tick_of c) (sym (ap (λ b. if b then n.clock + advance else n.clock) on))
          (let before = is.tick on in let more = tick_grows n.clock advance in omega (arith, before, more));
      fed = is.fed;
      decided = is.decided;
      silent = is.silent;
      backed = λ on. backed_grows s rank host.took took all all' grows host.stand.spot (is.backed on);
      idle = is.idle;
      among = is.among;
      fresh = λ on unasked. let f = is.fresh on unasked in record { clean = f.clean; polls = f.polls; turns = f.turns; stand = f.stand; decided = f.decided; runs = f.runs; left = f.left };
      ending = is.ending;
      greets = is.greets;
      rests = is.rests;
    }

pub both_of : (a b c d : Bool) → (a ≡ true → b ≡ true) → (c ≡ true → d ≡ true) → (a && c) ≡ true → (b && d) ≡ true
both_of true b c d g h is = ap (λ x. x && d) (g refl) ∙ h is
both_of false b c d g h is = absurd cc

pub all_of : {A : Type 0} (p q : A → Bool) (items : List A) → ((x : A) → p x ≡ true → q x ≡ true) → list_all p items ≡ true → list_all q items ≡ true
all_of p q [] h is = refl
all_of p q (x ∷ items) h is = both_of (p x) (q x) (list_all p items) (list_all q items) (h x) (λ rest. all_of p q items h rest) is

pub in_all : (test : ℕ → Bool) (count from : ℕ) → ((k : ℕ) → from ≤ k → k < from + count → test k ≡ true) → list_all test (range_with_len from count) ≡ true
in_all test zero from h = refl
in_all test (suc count) from h =
    ap (λ b. b && list_all test (range_with_len (from + 1) count)) (h from (omega arith) (omega arith))
    ∙ in_all test count (from + 1) (λ k above below. h k (omega arith) (omega arith))

outlives_more : (t : Timing) (now old new : ℕ) → old ≤ new → outlives t now old ≡ true → outlives t now new ≡ true
outlives_more t now old new le is = le-leb (99 * (now - new)) (100 * t.watchdog) (let was = leb-true (99 * (now - old)) (100 * t.watchdog) is in omega (arith, was, le))

pub passes_by : (t : Timing) (dt advance now : ℕ) (n : Running) (fed : ℕ) (b : Bool) → n.on ≡ b → (b ≡ true → fed ≤ n.fed)
    → (if b then is_within_bounds dt advance && outlives t (now + dt) fed else true) ≡ true → passes t dt advance now n ≡ true
passes_by t dt advance now n fed false e le is = ap (λ b. if b then is_within_bounds dt advance && outlives t (now + dt) n.fed else true) e
passes_by t dt advance now n fed true e le is =
    ap (λ b. if b then is_within_bounds dt advance && outlives t (now + dt) n.fed else true) e
    ∙ both (is_within_bounds dt advance) (outlives t (now + dt) fed) (outlives t (now + dt) n.fed) (outlives_more t (now + dt) fed n.fed (le refl)) is
  where
    both : (a b c : Bool) → (b ≡ true → c ≡ true) → (a && b) ≡ true → (a && c) ≡ true
    both true b c h is = h is
    both false b c h is = is

pub passes_in_world : (s : Settings) (t : Timing) (events : List Event) (j : Joint) (dt : ℕ) (clocks : List (Rank × ℕ))
    → AllMay s t events → IsWorld s t j (run s t events) → joints.FitsImage s t → MayHappen s t (joints.Passes dt clocks) j → HasStepped s t (IsEventOf (joints.Passes dt clocks) j) events (happens s (joints.Passes dt clocks) j)
unfolding AllMay run step refusal happens node time packets
passes_in_world s t events j dt clocks may is fits happen =
    record {
      events' = event.Pass dt clocks ∷ events;
      grew = Later _ Itself;
      one = record { event = Some (event.Pass dt clocks); is = refl; grew = refl };
      may = (refl, ap (λ b. unless b 1) allowed, may);
      world = record {
        time = ap (λ k. k + dt) is.time;
        nodes = λ r below. passes_node _ (advance_of dt clocks r) (grows_more (packets s w.moments) _) (is.nodes r below);
        off = is.off;
        fed = λ r. let was = is.fed r in omega (arith, was);
        bare = is.bare;
        image = same_image is.image fits _ refl refl;
        sent = knows_grows j.sent (packets s w.moments) _ (grows_more (packets s w.moments) _) is.sent;
      };
    }
  where
    w : World
    w = run s t events

    on_of : (r : ℕ) → is_timed s (j.hosts r) ≡ true → is_on s r w ≡ true
    on_of r timed = by_order (cases_lt r (length s.nodes))
      where
        by_order : (r < length s.nodes) ⊎ (length s.nodes ≤ r) → is_on s r w ≡ true
        by_order (inl below) = (is.nodes r below).on ∙ timed
        by_order (inr out) =
            let off = is.off r out in
            let on = first_of_three (j.hosts r).on (j.hosts r).asked (not (is_gone (phase s (log_at (j.hosts r).stand.spot)))) timed in
            absurd (let both = sym off ∙ on in cc)

    each : (r : ℕ) → r < length s.nodes → passes t dt (advance_of dt clocks r) (time w.moments) (node_at s r w) ≡ true
    each r below =
        passes_by t dt (advance_of dt clocks r) (time w.moments) (node_at s r w) (j.hosts r).fed (node_at s r w).on refl (λ on. (is.nodes r below).fed on)
        (ap (λ b. if b then is_within_bounds dt (advance_of dt clocks r) && outlives t (time w.moments + dt) (j.hosts r).fed else true) (is.nodes r below).on
        ∙ ap (λ k. if is_timed s (j.hosts r) then is_within_bounds dt (advance_of dt clocks r) && outlives t (k + dt) (j.hosts r).fed else true) is.time
        ∙ happen.0 r below)

    allowed : may_pass s t dt clocks w ≡ true
    allowed =
        ap (λ b. b && list_all (λ r. passes t dt (advance_of dt clocks r) (time w.moments) (node_at s r w)) (range_with_len 0 (length s.nodes)))
        (all_of (λ (clock : Rank × ℕ). is_timed s (j.hosts clock.0.0)) (λ (clock : Rank × ℕ). is_on s clock.0.0 w) clocks (λ clock timed. on_of clock.0.0 timed) happen.1)
        ∙ in_all (λ r. passes t dt (advance_of dt clocks r) (time w.moments) (node_at s r w)) (length s.nodes) 0 (λ k above below. each k (omega (arith, below)))

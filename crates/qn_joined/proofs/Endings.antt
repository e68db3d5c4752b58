-- The end of a machine as an event of its world.
use Rattle.std.proofs.Common.{◌≡◌, ◌<◌, ℕ, Bool, true, false, ◌&&◌, List, [], ◌∷◌, ◌++◌, Option, None, Some, if◌then◌else◌, refl, sym, ap, subst, ◌∙◌}
use Rattle.std.specs.Prelude.{is_none, length}
use Rattle.std.specs.Option.{option_or}
use Rattle.std.proofs.lemmas.List.{append-nil}
use Rattle.qn_model.specs.declared.configuration.Settings.{Settings}
use Rattle.qn_model.specs.declared.times.Timing.{Timing}
use Rattle.qn_model.specs.declared.entries.What.{What}
use Rattle.qn_model.specs.declared.events.Event.{Event}
use Rattle.qn_model.specs.declared.events.Event.TheVariants as event
use Rattle.qn_model.specs.declared.outputs.DiskOp.{DiskOp}
use Rattle.qn_model.specs.declared.outputs.Out.TheVariants as out
use Rattle.qn_model.specs.declared.packets.Sent.{Sent}
use Rattle.qn_model.specs.lemmas.Moments.{node_ends, ends_apart, put_same, put_other}
use Rattle.qn_model.specs.Log.{disk_of, op_out}
use Rattle.qn_model.specs.Moments.{Itself, Later, Ends, Running, is_gone, packets, time}
use Rattle.qn_model.specs.Phases.{phase}
use Rattle.qn_model.specs.Rules.{refusal, unless}
use Rattle.qn_model.specs.Steps.{gives_up, happens, run, step}
use Rattle.qn_model.specs.Wanted.{rank_of}
use Rattle.qn_model.specs.World.{World, given_up, leftover_at, node_at}
use Rattle.qn_live.specs.Greetings.{sends_plan}
use Rattle.qn_live.specs.Performing.{disk_call, out_call, outs_plan, own_number}
use Rattle.qn_joined.specs.Joints.{Host, ended, given_up_by, left_over, waits_for}
use Rattle.qn_joined.specs.Moves as moves
use Rattle.qn_joined.specs.Moves.{Changes, EndsInWorld, Hands, IsNodeIn, Moved}
use Rattle.qn_safety.specs.NodeLogs.{IsNodeLog, LogsHold}
use Rattle.qn_joined.specs.Nodes.{at}
use Rattle.qn_safety.specs.AnyNumbers.{AllMay}
use Rattle.qn_joined.specs.Stands.{Spot, Receiving, Looking, Acting, Polling, Saying, Parting, Ended, first_stand, left_plan, log_at}
use Rattle.qn_joined.specs.WorldOf.{AreAmong, NoCall, IsEnding, IsFresh, IsNode, greets_at, still_out}
use Rattle.qn_joined.proofs.Boots.{no_event}
use Rattle.qn_joined.proofs.Calls.{timed_on}
use Rattle.qn_joined.proofs.Frames.{grows_more}
use Rattle.qn_joined.proofs.Moving.{among_more, disk_given_up}

module _ {s : Settings} {rank : ℕ} (host : Host) (n : Running) (took : Option What) (left : List DiskOp) (all : List Sent) where
  -- what was left over before is among what is left over then
  more_left : (ahead : Option DiskOp) → n.on ≡ true
      → AreAmong s rank host.left (left ++ (if n.on && is_none ahead then given_up (op_out n.log) took else []))
      → AreAmong s rank (host.left ++ []) (left ++ given_up (op_out n.log) took)
  more_left None lives among =
      subst (λ c. AreAmong s rank c (left ++ given_up (op_out n.log) took)) (sym (append-nil host.left))
      (subst (λ l. AreAmong s rank host.left (left ++ l)) (ap (λ b. if b && true then given_up (op_out n.log) took else []) lives) among)
  more_left (Some op) lives among =
      subst (λ c. AreAmong s rank c (left ++ given_up (op_out n.log) took)) (sym (append-nil host.left))
      (among_more (given_up (op_out n.log) took)
      (subst (λ l. AreAmong s rank host.left l) (append-nil left)
      (subst (λ l. AreAmong s rank host.left (left ++ l)) (ap (λ b. if b && false then given_up (op_out n.log) took else []) lives) among)))

  -- nor does what was left over before
  nothing_left : (ahead : Option DiskOp) → n.on ≡ false
      → AreAmong s rank host.left (left ++ (if n.on && is_none ahead then given_up (op_out n.log) took else []))
      → AreAmong s rank (host.left ++ []) left
  nothing_left ahead off among =
      subst (λ c. AreAmong s rank c left) (sym (append-nil host.left))
      (subst (λ l. AreAmong s rank host.left l) (append-nil left)
      (subst (λ l. AreAmong s rank host.left (left ++ l)) (ap (λ b. if b && is_none ahead then given_up (op_out n.log) took else []) off) among))

  -- what a host that ends leaves over
  ends_among : (spot : Spot) → IsNode s rank (at host spot) n took left all → n.on ≡ true → IsNodeLog s n.log
      → AreAmong s rank (host.left ++ given_up_by (waits_for s rank (at host spot)) host.took) (left ++ given_up (op_out n.log) took)
  unfolding left_plan outs_plan sends_plan out_call
  ends_among (Receiving st) is lives logs = more_left None lives is.among
  ends_among (Looking chosen) is lives logs = more_left None lives is.among
  ends_among (Polling poll sents st) is lives logs = more_left None lives is.among
  ends_among (Saying said rest st) is lives logs = more_left None lives is.among
  ends_among (Parting end said rest st) is lives logs = more_left None lives is.among
  ends_among (Ended ran) is lives logs = more_left None lives is.among
  ends_among (Acting entry outs out.Stop rest st) is lives logs = more_left (disk_of rest) lives is.among
  ends_among (Acting entry outs out.Start rest st) is lives logs = more_left (disk_of rest) lives is.among
  ends_among (Acting entry outs out.Feed rest st) is lives logs = more_left (disk_of rest) lives is.among
  ends_among (Acting entry outs (out.Send to p) rest st) is lives logs = more_left (disk_of rest) lives is.among
  ends_among (Acting entry outs out.Disarm rest st) is lives logs = more_left (disk_of rest) lives is.among
  ends_among (Acting entry outs (out.Halt kind) rest st) is lives logs = more_left (disk_of rest) lives is.among
  ends_among (Acting entry outs (out.Disk op) rest st) is lives logs =
      let known = subst (λ l. IsNodeLog s l) (is.log lives) logs in
      let performs = (is.backed lives).1 in
      let before = subst (λ l. AreAmong s rank host.left l) (append-nil left)
      (subst (λ l. AreAmong s rank host.left (left ++ l)) (ap (λ b. if b && false then given_up (op_out n.log) took else []) lives) is.among) in
      subst (λ o. AreAmong s rank (host.left ++ left_over (disk_call s rank (own_number st.log) op) host.took) (left ++ given_up o took)) (sym (ap op_out (is.log lives) ∙ performs.come.0))
      (disk_given_up s rank (own_number st.log) op host.took took known.number (known.fits op performs.come.0) (performs.disk op refl).1 before)

  -- a host that is gone leaves nothing over
  gone_among : (spot : Spot) → IsNode s rank (at host spot) n took left all → n.on ≡ false → IsEnding spot
      → AreAmong s rank (host.left ++ given_up_by (waits_for s rank (at host spot)) host.took) left
  unfolding left_plan outs_plan sends_plan out_call
  gone_among (Receiving st) is off ending = absurd ending
  gone_among (Looking chosen) is off ending = absurd ending
  gone_among (Polling poll sents st) is off ending = absurd ending
  gone_among (Saying said rest st) is off ending = absurd ending
  gone_among (Parting end said rest st) is off ending = nothing_left None off is.among
  gone_among (Ended ran) is off ending = nothing_left None off is.among
  gone_among (Acting entry outs out.Stop rest st) is off ending = nothing_left (disk_of rest) off is.among
  gone_among (Acting entry outs out.Start rest st) is off ending = nothing_left (disk_of rest) off is.among
  gone_among (Acting entry outs out.Feed rest st) is off ending = nothing_left (disk_of rest) off is.among
  gone_among (Acting entry outs (out.Send to p) rest st) is off ending = nothing_left (disk_of rest) off is.among
  gone_among (Acting entry outs out.Disarm rest st) is off ending = nothing_left (disk_of rest) off is.among
  gone_among (Acting entry outs (out.Halt kind) rest st) is off ending = nothing_left (disk_of rest) off is.among
  gone_among (Acting entry outs (out.Disk op) rest st) is off ending = absurd (let none = ending.2 in cc)

-- a machine that is off is a node that is off
off_node : {s : Settings} {rank : ℕ} (host : Host) (n' : Running) (took' : Option What) (left' : List DiskOp) (all' : List Sent) → n'.on ≡ false → greets_at host.stand.spot ≡ true
    → AreAmong s rank (host.left ++ given_up_by (waits_for s rank host) host.took) left'
    → IsNode s rank (ended s rank host) n' took' left' all'
off_node {s} {rank} host n' took' left' all' off greets among = record {
  on = off;
  log = λ on. absurd (lives on);
  clock = λ on. absurd (lives on);
  tick = λ on. absurd (lives on);
  fed = λ on. absurd (lives on);
  decided = λ on. absurd (lives on);
  silent = λ on. absurd (lives on);
  backed = λ on. absurd (lives on);
  idle = λ on. absurd cc;
  among = among_more (still_out n' host.stand.spot took') among;
  fresh = λ on. absurd cc;
  greets = greets;
  ending = λ on. absurd cc;
  rests = λ on. absurd cc;
}
  where
    lives : n'.on ≡ true → ⊥
    lives on = let both = sym off ∙ on in cc

ends_changes : (s : Settings) (rank : ℕ) (w : World) → Changes s rank w (happens (Ends rank) (gives_up s rank w))
unfolding time packets
ends_changes s rank w =
    record {
      time = refl;
      grows = grows_more (packets s w.moments) _;
      node = λ r apart. ends_apart s rank r w.moments apart;
      took = λ r apart. put_other w.took rank r None apart;
      left = λ r apart. put_other w.left rank r (w.left rank ++ leftover_at s rank w) apart;
    }

module _ (s : Settings) (t : Timing) (rank : ℕ) (events : List Event) (host : Host) (logs : LogsHold s t) (below : rank < length s.nodes) (may : AllMay s t events)
    (is : IsNodeIn s rank host (run s t events)) (on : host.on ≡ true) where
  abbrev w : World
  w = run s t events

  abbrev after : World
  after = happens (Ends rank) (gives_up s rank w)

  may_crash : (node_at s rank w).on ≡ true → AllMay s t (event.Crash (rank_of rank) ∷ events)
  unfolding AllMay refusal
  may_crash lives = (refl, ap (λ b. option_or (unless b 3) None) lives, may)

  run_is : run s t (event.Crash (rank_of rank) ∷ events) ≡ after
  unfolding run step
  run_is = refl

  crashed : (node_at s rank w).on ≡ true → IsNodeIn s rank (ended s rank host) after
  crashed lives =
      off_node host (node_at s rank after) (after.took rank) (after.left rank) (packets s after.moments) (ap (λ x. x.on) (node_ends s rank w.moments)) is.greets
      (subst (λ l. AreAmong s rank (host.left ++ given_up_by (waits_for s rank host) host.took) l) (sym (put_same w.left rank (w.left rank ++ leftover_at s rank w)))
      (ends_among host (node_at s rank w) (w.took rank) (w.left rank) (packets s w.moments) host.stand.spot is lives (logs events rank may below)))

  -- a node that was off already
  was_off : (node_at s rank w).on ≡ false → AreAmong s rank (host.left ++ given_up_by (waits_for s rank host) host.took) (w.left rank)
  unfolding left_plan
  was_off off = by_gone host.asked refl (is_gone (phase s (log_at host.stand.spot))) refl
    where
      fresh_among : (fresh : IsFresh host) → AreAmong s rank (host.left ++ given_up_by (waits_for s rank (record host { stand = first_stand fresh.clean fresh.polls fresh.turns })) host.took) (w.left rank)
      fresh_among fresh = subst (λ l. AreAmong s rank (l ++ []) (w.left rank)) (sym fresh.left) NoCall

      by_gone : (asked : Bool) → host.asked ≡ asked → (gone : Bool) → is_gone (phase s (log_at host.stand.spot)) ≡ gone
          → AreAmong s rank (host.left ++ given_up_by (waits_for s rank host) host.took) (w.left rank)
      by_gone asked a true e = gone_among host (node_at s rank w) (w.took rank) (w.left rank) (packets s w.moments) host.stand.spot is off (is.ending on e)
      by_gone true a false e =
          absurd (let lives = is.on ∙ timed_on host.on host.asked (is_gone (phase s (log_at host.stand.spot))) on a e in let both = sym off ∙ lives in cc)
      by_gone false a false e =
          let fresh = is.fresh on a in
          subst (λ x. AreAmong s rank (host.left ++ given_up_by (waits_for s rank (record host { stand = x })) host.took) (w.left rank)) (sym fresh.stand)
          (fresh_among fresh)

  ends_here : (b : Bool) → (node_at s rank w).on ≡ b → Moved s t (Hands rank None) rank events (ended s rank host)
  ends_here true lives = record {
    events' = event.Crash (rank_of rank) ∷ events;
    grew = Later _ Itself;
    one = record { event = Some (event.Crash (rank_of rank)); is = moves.Plainly refl; grew = refl };
    may = may_crash lives;
    changes = subst (λ x. Changes s rank w x) (sym run_is) (ends_changes s rank w);
    slots = ap (λ x. x.slots) run_is;
    mailboxes = ap (λ x. x.mailboxes) run_is;
    node = subst (λ x. IsNodeIn s rank (ended s rank host) x) (sym run_is) (crashed lives);
  }
  ends_here false off = no_event may (off_node host (node_at s rank w) (w.took rank) (w.left rank) (packets s w.moments) off is.greets (was_off off))

pub ends_in_world : (s : Settings) (t : Timing) → LogsHold s t → EndsInWorld s t
ends_in_world s t logs rank events host below may is on = ends_here s t rank events host logs below may is on (node_at s rank (run s t events)).on refl

-- A look at the clock of a running node is one event of its world.
use Rattle.std.proofs.Common.{◌≡◌, ℕ, Bool, true, false, ◌&&◌, List, [], ◌∷◌, ◌++◌, Option, None, Some, if◌then◌else◌, refl, sym, ap, subst, ◌∙◌, arith}
use Rattle.std.specs.Prelude.{Contains}
use Rattle.std.proofs.lemmas.List.Elements.{Contains-append_left, Contains-append_right}
use Rattle.qn_base.specs.declared.calls.Call.TheVariants as call
use Rattle.qn_base.specs.declared.ids.View.{View}
use Rattle.qn_model.specs.declared.configuration.Settings.{Settings}
use Rattle.qn_model.specs.declared.times.Timing.{Timing}
use Rattle.qn_model.specs.declared.entries.What.{What}
use Rattle.qn_model.specs.declared.outputs.DiskOp.{DiskOp}
use Rattle.qn_model.specs.declared.outputs.Out.{Out}
use Rattle.qn_model.specs.declared.outputs.Out.TheVariants as out
use Rattle.qn_model.specs.declared.packets.Sent.{Sent}
use Rattle.qn_model.specs.lemmas.Moments.{node_adds}
use Rattle.qn_model.specs.Log.{Line, op_out}
use Rattle.qn_model.specs.Moments.{Itself, Later, Adds, Moment, Running, given_out, handed, is_gone, node, packets, packets_of, time}
use Rattle.qn_model.specs.NodeOutputs.{newest_outs}
use Rattle.qn_model.specs.Phases.{phase}
use Rattle.qn_model.specs.Steps.{run, step}
use Rattle.qn_model.specs.World.{World, given_up, node_at}
use Rattle.qn_member.specs.Naming.{NamingMaker}
use Rattle.qn_member.specs.NamingViews.{answer_at}
use Rattle.qn_live.specs.declared.place.Choice.{Choice}
use Rattle.qn_live.specs.declared.place.Choice.TheVariants as choice
use Rattle.qn_live.specs.Choosing.{looked, looking, own_of, told, view_or_tick}
use Rattle.qn_live.specs.Running.{RunState}
use Rattle.qn_live.specs.Runs.{looked_at}
use Rattle.qn_live.specs.declared.words.Own.{Own}
use Rattle.qn_joined.specs.Joints.{Host, returned}
use Rattle.qn_joined.specs.Moves.{LooksInWorld}
use Rattle.qn_safety.specs.NodeLogs.{IsNodeLog, LogsHold}
use Rattle.qn_joined.specs.Nodes.{AllSaid, IsReady, at}
use Rattle.qn_safety.specs.AnyNumbers.{AllMay}
use Rattle.qn_joined.specs.Stands.{Looking}
use Rattle.qn_joined.specs.WorldOf.{AreAmong, ComesAs, ComesIn, IsNode}
use Rattle.qn_joined.proofs.Calls.{timed_on}
use Rattle.qn_joined.proofs.Events.{Hands, hands}
use Rattle.qn_joined.proofs.Frames.{adds_changes}
use Rattle.qn_joined.proofs.Handing.{answer_looked, handed_at, plain_looked}
use Rattle.qn_safety.specs.Poller.{Poller, answer_taken}
use Rattle.qn_live.specs.Polling.{answered, answered_at}
use Rattle.std.specs.Option.{option_map_or}
use Rattle.std.specs.Prelude.{option_and_then}
use Rattle.qn_model.specs.declared.entries.What.TheVariants as what

-- the packets among the outputs are among those that were sent
pub all_said : (all : List Sent) (outs : List Out) → ((sent : Sent) → Contains (packets_of outs) sent → Contains all sent) → AllSaid all outs
all_said all [] there = tt
all_said all (out.Send to p ∷ outs) there = (
  record { to = record { to = to; packet = p }; there = there _ (Contains-append_left (record { to = to; packet = p } ∷ []) (packets_of outs) _ (0, omega arith, refl)); receiver = refl; content = refl },
  all_said all outs (λ sent is. there sent (Contains-append_right (record { to = to; packet = p } ∷ []) (packets_of outs) sent is)),
)
all_said all (out.Stop ∷ outs) there = all_said all outs there
all_said all (out.Start ∷ outs) there = all_said all outs there
all_said all (out.Feed ∷ outs) there = all_said all outs there
all_said all (out.Disk op ∷ outs) there = all_said all outs there
all_said all (out.Disarm ∷ outs) there = all_said all outs there
all_said all (out.Halt kind ∷ outs) there = all_said all outs there

-- what came out of an entry was sent with it
pub said_newest : (s : Settings) (rank : ℕ) (entry : What) (ms : List Moment)
    → AllSaid (packets s (Adds rank entry ∷ ms)) (newest_outs (node s rank (Adds rank entry ∷ ms)).log)
unfolding packets given_out
said_newest s rank entry ms =
    all_said _ (newest_outs (node s rank (Adds rank entry ∷ ms)).log) (λ sent is. Contains-append_right (packets s ms) _ sent is)

view_comes : (rank : ℕ) (log : List Line) (took : Option What) (all : List Sent) (found : Option View) → ComesIn rank log took all (view_or_tick found)
view_comes rank log took all None = tt
view_comes rank log took all (Some view) = tt

choice_comes : (rank : ℕ) (log : List Line) (took : Option What) (all : List Sent) (tick : ℕ) (own : Own) (chosen : Choice) (maker : Option NamingMaker)
    → ComesAs rank log took all chosen → ComesIn rank log took all (looked tick own chosen maker).1
choice_comes rank log took all tick own (choice.Whole entry) maker is = is
choice_comes rank log took all tick own (choice.Answer reply) maker is = tt
choice_comes rank log took all tick own (choice.Open p) None is = tt
choice_comes rank log took all tick own (choice.Open p) (Some m) is = view_comes rank log took all (answer_at tick (told tick own p m))

pub looked_comes : (rank : ℕ) (log : List Line) (took : Option What) (all : List Sent) (tick : ℕ) (chosen : Choice × RunState)
    → ComesAs rank log took all chosen.0 → ComesIn rank log took all (looked_at tick chosen).1
looked_comes rank log took all tick chosen is = choice_comes rank log took all tick (own_of (looking tick chosen)) chosen.0 chosen.1.maker is

device_comes : (rank : ℕ) (log : List Line) (took : Option What) (all : List Sent) (answer : Option Bool)
    → ComesAs rank log took all (option_map_or (λ agrees. choice.Whole (what.Device agrees)) answer (choice.Open None))
device_comes rank log took all None = tt
device_comes rank log took all (Some agrees) = tt

pub answered_comes : (rank : ℕ) (log : List Line) (took : Option What) (all : List Sent) (tick : ℕ) (poller : Option Poller) (chosen : Choice)
    → ComesAs rank log took all chosen → ComesAs rank log took all (answered_at tick poller chosen)
answered_comes rank log took all tick poller (choice.Whole entry) is = is
answered_comes rank log took all tick poller (choice.Open p) is = tt
answered_comes rank log took all tick poller (choice.Answer reply) is = device_comes rank log took all (option_and_then (answer_taken tick reply) poller)

module _ {s : Settings} {rank : ℕ} (host : Host) (chosen : Choice × RunState) {n : Running} {took : Option What} {left : List DiskOp} {all : List Sent} where
  -- a node whose host is to look at the clock runs
  pub lives_of : IsNode s rank (at host (Looking chosen)) n took left all → host.on ≡ true → host.asked ≡ true → n.on ≡ true
  lives_of is on asked = by_gone (is_gone (phase s chosen.1.log)) refl
    where
      by_gone : (b : Bool) → is_gone (phase s chosen.1.log) ≡ b → n.on ≡ true
      by_gone true e = absurd (is.ending on e)
      by_gone false e = is.on ∙ timed_on host.on host.asked (is_gone (phase s chosen.1.log)) on asked e

  among_of : IsNode s rank (at host (Looking chosen)) n took left all → n.on ≡ true → AreAmong s rank host.left (left ++ given_up (op_out n.log) took)
  among_of is lives = subst (λ l. AreAmong s rank host.left (left ++ l)) (ap (λ b. if b && true then given_up (op_out n.log) took else []) lives) is.among

  pub ready_of : IsNode s rank (at host (Looking chosen)) n took left all → host.on ≡ true → n.on ≡ true → IsReady s rank host chosen n took left
  ready_of is on lives = record {
    log = is.log lives;
    clock = is.clock lives;
    tick = is.tick lives;
    fed = is.fed lives;
    decided = is.decided lives;
    silent = is.silent lives;
    waiting = (is.backed lives).0;
    calm = (is.backed lives).1;
    free = (is.backed lives).3;
    idle = is.idle on refl;
    among = subst (λ l. AreAmong s rank host.left (left ++ given_up (op_out l) took)) (is.log lives) (among_of is lives);
  }

pub looks_in_world : (s : Settings) (t : Timing) → LogsHold s t → LooksInWorld s t
unfolding run AllMay
looks_in_world s t logs rank events host chosen tick below may is on asked clock =
    record {
      events' = h.of ∷ events;
      grew = Later _ Itself;
      one = record { event = Some h.of; is = h.one; grew = refl };
      may = (h.ranked, h.allowed, may);
      changes = adds_changes s rank h.given w w' h.moments h.took h.left;
      slots = h.slots;
      mailboxes = h.mailboxes;
      node =
          subst (λ x. IsNode s rank (returned s rank (call.Now tick) (time w.moments) (at host (Looking chosen))) x (w'.took rank) (w'.left rank) (packets s w'.moments)) (sym node_is)
          (handed_at s rank n (w.took rank) (w'.took rank) (w.left rank) (w'.left rank) (packets s w'.moments) host chosen (time w.moments) tick (ready_of host chosen is on lives) on asked clock
          (subst (λ x. IsNodeLog s x.log) node_is (logs (h.of ∷ events) rank (h.ranked, h.allowed, may) below))
          h.spends (plain_looked tick chosen) (answer_looked tick chosen)
          (subst (λ x. AllSaid (packets s w'.moments) (newest_outs x.log)) (node_adds s rank h.given w.moments ∙ h.same)
          (subst (λ m. AllSaid (packets s m) (newest_outs (node s rank (Adds rank h.given ∷ w.moments)).log)) (sym h.moments) (said_newest s rank h.given w.moments))));
    }
  where
    w : World
    w = run s t events

    n : Running
    n = node_at s rank w

    lives : n.on ≡ true
    lives = lives_of host chosen is on asked

    entry : What
    entry = (looked_at tick (answered tick chosen)).1

    comes : ComesIn rank n.log (w.took rank) (packets s w.moments) entry
    comes =
        subst (λ l. ComesIn rank l (w.took rank) (packets s w.moments) entry) (sym (is.log lives))
        (looked_comes rank chosen.1.log (w.took rank) (packets s w.moments) tick (answered tick chosen)
        (answered_comes rank chosen.1.log (w.took rank) (packets s w.moments) tick chosen.1.poller chosen.0 (is.backed lives).2))

    h : Hands s t rank entry host w
    h = hands s t rank host w lives entry comes (among_of host chosen is lives)

    w' : World
    w' = step s t h.of w

    node_is : node_at s rank w' ≡ handed s rank (time w.moments) entry n
    node_is = ap (node s rank) h.moments ∙ node_adds s rank h.given w.moments ∙ h.same

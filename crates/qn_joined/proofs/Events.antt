-- The event of the world for each entry that a running node is handed: on one image, and on three where it answers nothing.
use Rattle.std.proofs.Common.{◌≡◌, ℕ, Bool, true, false, ◌&&◌, List, [], ◌∷◌, ◌++◌, Option, None, Some, ◌==◌, if◌then◌else◌, refl, sym, ap, subst, ◌∙◌, is_some, ◌⊎◌, inl, inr}
use Rattle.std.specs.Prelude.{nat_lt, slice_get, length, ◌^◌}
use Rattle.std.specs.Option.{option_or, option_map_or}
use Rattle.std.proofs.lemmas.Bool.{eq-eqb}
use Rattle.std.proofs.lemmas.Option.{slice_get-get_or}
use Rattle.std.proofs.lemmas.List.{append-nil}
use Rattle.qn_base.specs.declared.ids.View.{View}
use Rattle.qn_base.specs.Members.{is_member}
use Rattle.qn_model.specs.declared.configuration.Settings.{Settings}
use Rattle.qn_model.specs.declared.times.Timing.{Timing}
use Rattle.qn_model.specs.declared.entries.What.{What}
use Rattle.qn_model.specs.declared.entries.What.TheVariants as what
use Rattle.qn_model.specs.declared.events.Event.{Event}
use Rattle.qn_model.specs.declared.events.Event.TheVariants as event
use Rattle.qn_model.specs.declared.outputs.DiskOp.{DiskOp}
use Rattle.qn_model.specs.declared.packets.Packet.{Packet}
use Rattle.qn_model.specs.declared.packets.Packet.TheVariants as packet
use Rattle.qn_model.specs.declared.packets.Sent.{Sent}
use Rattle.qn_model.specs.lemmas.Moments.{put_same, put_other}
use Rattle.qn_model.specs.Holding.{stop_due}
use Rattle.qn_model.specs.Log.{Line, is_answer}
use Rattle.qn_model.specs.Moments.{Adds, handed, logged, packets, tick_of, time}
use Rattle.qn_model.specs.NodeOutputs.{with_entry, with_read}
use Rattle.qn_model.specs.Phases.{is_live, phase}
use Rattle.qn_model.specs.Rules.{may_be_done, may_be_stopped, may_deliver, may_fail, refusal, unless, unless_running}
use Rattle.qn_model.specs.Steps.{answered, entry_of, fails, happens, step}
use Rattle.qn_model.specs.Wanted.{rank_of}
use Rattle.qn_model.specs.World.{World, failed, given_up, leftover_at, node_at, op_at}
use Rattle.qn_joined.specs.Joints.{Host}
use Rattle.qn_joined.specs.Moves as moves
use Rattle.qn_joined.specs.Nodes.{Spends}
use Rattle.qn_safety.specs.AnyNumbers.{is_ranked}
use Rattle.qn_safety.specs.declared.triple_event.TripleEvent.TheVariants as triple
use Rattle.qn_safety.specs.TripleRules.{refusal_triple}
use Rattle.qn_safety.specs.TripleSteps.{moves_nodes, step_triple}
use Rattle.qn_safety.specs.TripleWorld.{TripleWorld, nodes_of}
use Rattle.qn_joined.specs.WorldOf.{AreAmong, ComesIn, IsAnswer, WasSentTo}

-- an event that touches no image: what it is to the nodes of three images
pub record IsOfNodes (s : Settings) (t : Timing) (of : Event) : Type 0 where
  pub refused : (u : TripleWorld) → refusal_triple s t (triple.One of) u ≡ refusal s t of (nodes_of u)
  pub steps : (u : TripleWorld) → step_triple s t (triple.One of) u ≡ moves_nodes s t of u

-- an event that hands a node an entry which answers nothing
pub record HandsPlainly (s : Settings) (t : Timing) (rank : ℕ) (entry : What) (w : World) : Type 0 where
  pub of : Event
  pub nodes : IsOfNodes s t of
  pub ranked : is_ranked s of ≡ true
  pub allowed : refusal s t of w ≡ None
  pub one : moves.Hands rank (Some entry) (Some of)
  pub given : What
  pub same : handed s rank (time w.moments) given (node_at s rank w) ≡ handed s rank (time w.moments) entry (node_at s rank w)
  pub is : step s t of w ≡ happens (Adds rank given) w

-- a view that is none of its node is read as a tick
no_view_fits : (rank : ℕ) (v : View) (live low : Bool) → is_member v.members rank ≡ false → (live && (low && is_member v.members rank)) ≡ false
no_view_fits rank v true true out = out
no_view_fits rank v true false out = refl
no_view_fits rank v false low out = refl

module _ (s : Settings) (t : Timing) (rank : ℕ) (w : World) (lives : (node_at s rank w).on ≡ true) where
  on_allows : (other : Option ℕ) → other ≡ None → unless_running s rank w other ≡ None
  on_allows other none = ap (λ b. option_or (unless b 3) other) lives ∙ none

  tick_hands : (entry : What) → handed s rank (time w.moments) what.Tick (node_at s rank w) ≡ handed s rank (time w.moments) entry (node_at s rank w)
      → HandsPlainly s t rank entry w
  unfolding refusal step refusal_triple step_triple
  tick_hands entry same = record {
    of = event.Tick (rank_of rank);
    nodes = record { refused = λ u. refl; steps = λ u. refl };
    ranked = refl;
    allowed = on_allows None refl;
    one = moves.Plainly refl;
    given = what.Tick;
    same = same;
    is = refl;
  }

  view_as_tick : (v : View) → is_member v.members rank ≡ false
      → handed s rank (time w.moments) what.Tick (node_at s rank w) ≡ handed s rank (time w.moments) (what.View v) (node_at s rank w)
  unfolding handed with_entry
  view_as_tick v out =
      ap (λ b. logged s (time w.moments) (with_read s rank (node_at s rank w).log (tick_of (node_at s rank w).clock) (if b then what.View v else what.Tick)) (node_at s rank w))
      (sym (no_view_fits rank v (is_live (phase s (node_at s rank w).log)) (nat_lt v.members.0 (2 ^ length s.nodes)) out))

  view_hands : (v : View) → HandsPlainly s t rank (what.View v) w
  unfolding refusal step refusal_triple step_triple
  view_hands v = by_member (is_member v.members rank) refl
    where
      by_member : (b : Bool) → is_member v.members rank ≡ b → HandsPlainly s t rank (what.View v) w
      by_member true e = record {
        of = event.View (rank_of rank) v;
        nodes = record { refused = λ u. refl; steps = λ u. refl };
        ranked = refl;
        allowed = on_allows (unless (is_member v.members rank) 7) (ap (λ b. unless b 7) e);
        one = moves.AView v refl;
        given = what.View v;
        same = refl;
        is = refl;
      }
      by_member false e = tick_hands (what.View v) (view_as_tick v e)

  -- a packet that was sent is delivered
  packet_hands : (p : Packet) → WasSentTo rank (packets s w.moments) p → HandsPlainly s t rank (entry_of p) w
  unfolding refusal step refusal_triple step_triple
  packet_hands p is = record {
    of = event.Deliver (rank_of rank) is.there.0;
    nodes = record { refused = λ u. refl; steps = λ u. refl };
    ranked = refl;
    allowed = on_allows (unless (may_deliver s rank is.there.0 w) 8)
        (ap (λ b. unless b 8) (ap (λ o. option_map_or (λ (sent : Sent). sent.to.0 == rank) o false) found ∙ eq-eqb is.to.to.0 rank is.receiver));
    one = moves.Plainly refl;
    given = entry_of p;
    same = refl;
    is = ap (λ o. option_map_or (λ (sent : Sent). happens (Adds rank (entry_of sent.packet)) w) o w) found ∙ ap (λ q. happens (Adds rank (entry_of q)) w) is.content;
  }
    where
      found : slice_get (packets s w.moments) is.there.0 ≡ Some is.to
      found = slice_get-get_or (packets s w.moments) is.there.0 is.to is.there.1 ∙ ap Some is.there.2

  -- a stop that is due is answered
  due_allows : stop_due (node_at s rank w).log ≡ true → unless_running s rank w (unless (may_be_stopped s rank w) 5) ≡ None
  due_allows due = on_allows (unless (may_be_stopped s rank w) 5) (ap (λ b. unless b 5) due)

  stopped_hands : (ok : Bool) → stop_due (node_at s rank w).log ≡ true → HandsPlainly s t rank (what.Stopped ok) w
  unfolding refusal step refusal_triple step_triple
  stopped_hands true due = record {
    of = event.Stopped (rank_of rank);
    nodes = record { refused = λ u. refl; steps = λ u. refl };
    ranked = refl;
    allowed = due_allows due;
    one = moves.Plainly refl;
    given = what.Stopped true;
    same = refl;
    is = refl;
  }
  stopped_hands false due = record {
    of = event.Unstopped (rank_of rank);
    nodes = record { refused = λ u. refl; steps = λ u. refl };
    ranked = refl;
    allowed = due_allows due;
    one = moves.Plainly refl;
    given = what.Stopped false;
    same = refl;
    is = refl;
  }

  device_hands : (agrees : Bool) → HandsPlainly s t rank (what.Device agrees) w
  unfolding refusal step refusal_triple step_triple
  device_hands agrees = record {
    of = event.Device (rank_of rank) agrees;
    nodes = record { refused = λ u. refl; steps = λ u. refl };
    ranked = refl;
    allowed = on_allows None refl;
    one = moves.AnAnswer agrees refl;
    given = what.Device agrees;
    same = refl;
    is = refl;
  }

  leave_hands : HandsPlainly s t rank what.Leave w
  unfolding refusal step refusal_triple step_triple
  leave_hands = record {
    of = event.Leave (rank_of rank);
    nodes = record { refused = λ u. refl; steps = λ u. refl };
    ranked = refl;
    allowed = on_allows None refl;
    one = moves.Plainly refl;
    given = what.Leave;
    same = refl;
    is = refl;
  }

  -- each entry that comes in and answers nothing has its event
  pub hands_plainly : (took : Option What) (entry : What) → is_answer entry ≡ false → ComesIn rank (node_at s rank w).log took (packets s w.moments) entry → HandsPlainly s t rank entry w
  hands_plainly took what.Begin plain is = absurd is
  hands_plainly took what.BeginClean plain is = absurd is
  hands_plainly took (what.Header seen) plain is = absurd cc
  hands_plainly took (what.SlotRead other seen) plain is = absurd cc
  hands_plainly took (what.MailChecked seen) plain is = absurd cc
  hands_plainly took (what.Claimed ok) plain is = absurd cc
  hands_plainly took (what.Cleared ok) plain is = absurd cc
  hands_plainly took (what.MailRead seen) plain is = absurd cc
  hands_plainly took (what.MailWritten other ok) plain is = absurd cc
  hands_plainly took (what.Closed ok) plain is = absurd cc
  hands_plainly took (what.Ask ask) plain is = packet_hands (packet.Ask ask) is
  hands_plainly took (what.Tell tell) plain is = packet_hands (packet.Tell tell) is
  hands_plainly took (what.Stopped ok) plain is = stopped_hands ok is
  hands_plainly took (what.View view) plain is = view_hands view
  hands_plainly took (what.Device agrees) plain is = device_hands agrees
  hands_plainly took what.Tick plain is = tick_hands what.Tick refl
  hands_plainly took what.Leave plain is = leave_hands

-- an answer that comes in answers the operation that is out
pub answers_out : (rank : ℕ) (log : List Line) (took : Option What) (all : List Sent) (entry : What) → is_answer entry ≡ true → ComesIn rank log took all entry → IsAnswer log took entry
answers_out rank log took all what.Begin answers is = absurd is
answers_out rank log took all what.BeginClean answers is = absurd is
answers_out rank log took all (what.Header seen) answers is = is
answers_out rank log took all (what.SlotRead other seen) answers is = is
answers_out rank log took all (what.MailChecked seen) answers is = is
answers_out rank log took all (what.Claimed ok) answers is = is
answers_out rank log took all (what.Cleared ok) answers is = is
answers_out rank log took all (what.MailRead seen) answers is = is
answers_out rank log took all (what.MailWritten other ok) answers is = is
answers_out rank log took all (what.Closed ok) answers is = is
answers_out rank log took all (what.Ask ask) answers is = absurd cc
answers_out rank log took all (what.Tell tell) answers is = absurd cc
answers_out rank log took all (what.Stopped ok) answers is = absurd cc
answers_out rank log took all (what.View view) answers is = absurd cc
answers_out rank log took all (what.Device agrees) answers is = absurd cc
answers_out rank log took all what.Tick answers is = absurd cc
answers_out rank log took all what.Leave answers is = absurd cc

-- ## One image

-- an event that hands a node an entry: what it is to the world
pub record Hands (s : Settings) (t : Timing) (rank : ℕ) (entry : What) (host : Host) (w : World) : Type 0 where
  pub of : Event
  pub ranked : is_ranked s of ≡ true
  pub allowed : refusal s t of w ≡ None
  pub one : moves.Hands rank (Some entry) (Some of)
  pub given : What
  pub same : handed s rank (time w.moments) given (node_at s rank w) ≡ handed s rank (time w.moments) entry (node_at s rank w)
  pub moments : (step s t of w).moments ≡ Adds rank given ∷ w.moments
  pub slots : (step s t of w).slots ≡ w.slots
  pub mailboxes : (step s t of w).mailboxes ≡ w.mailboxes
  pub took : (r : ℕ) → (rank == r) ≡ false → (step s t of w).took r ≡ w.took r
  pub left : (r : ℕ) → (rank == r) ≡ false → (step s t of w).left r ≡ w.left r
  pub spends : Spends s rank entry host (w.took rank) ((step s t of w).took rank) (w.left rank) ((step s t of w).left rank)

module _ (s : Settings) (t : Timing) (rank : ℕ) (host : Host) (w : World) (lives : (node_at s rank w).on ≡ true) where
  -- an event that adds an entry which answers nothing
  plain_hands : (entry : What) → is_answer entry ≡ false → HandsPlainly s t rank entry w → Hands s t rank entry host w
  plain_hands entry plain h =
      record {
        of = h.of;
        ranked = h.ranked;
        allowed = h.allowed;
        one = h.one;
        given = h.given;
        same = h.same;
        moments = ap (λ x. x.moments) h.is;
        slots = ap (λ x. x.slots) h.is;
        mailboxes = ap (λ x. x.mailboxes) h.is;
        took = λ r apart. ap (λ x. x.took r) h.is;
        left = λ r apart. ap (λ x. x.left r) h.is;
        spends = record { plain = λ e. (ap (λ x. x.took rank) h.is, ap (λ x. x.left rank) h.is); answer = λ e. absurd (let both = sym plain ∙ e in cc) };
      }

  -- an operation that failed
  fail_hands : (op : DiskOp) → op_at s rank w ≡ Some op → is_answer (failed op) ≡ true → AreAmong s rank host.left (w.left rank ++ leftover_at s rank w)
      → Hands s t rank (failed op) host w
  unfolding refusal step
  fail_hands op out is among =
      record {
        of = event.Fail (rank_of rank);
        ranked = refl;
        allowed = on_allows s t rank w lives (unless (may_fail s rank w) 5) (ap (λ o. unless (is_some o) 5) out);
        one = moves.Plainly refl;
        given = failed op;
        same = refl;
        moments = ap (λ x. x.moments) steps;
        slots = ap (λ x. x.slots) steps;
        mailboxes = ap (λ x. x.mailboxes) steps;
        took = λ r apart. ap (λ x. x.took r) steps ∙ put_other w.took rank r None apart;
        left = λ r apart. ap (λ x. x.left r) steps ∙ put_other w.left rank r (w.left rank ++ leftover_at s rank w) apart;
        spends = record {
          plain = λ e. absurd (let both = sym is ∙ e in cc);
          answer = λ e. (
            ap (λ x. x.took rank) steps ∙ put_same w.took rank None,
            subst (λ l. AreAmong s rank host.left l) (sym (ap (λ x. x.left rank) steps ∙ put_same w.left rank (w.left rank ++ leftover_at s rank w))) among,
          );
        };
      }
    where
      steps : option_map_or (λ o. fails s rank o w) (op_at s rank w) w ≡ fails s rank op w
      steps = ap (λ o. option_map_or (λ q. fails s rank q w) o w) out

  given_up_taken : (o : Option DiskOp) (entry : What) → given_up o (Some entry) ≡ []
  given_up_taken None entry = refl
  given_up_taken (Some op) entry = refl

  -- an operation that landed
  done_hands : (op : DiskOp) (entry : What) → op_at s rank w ≡ Some op → w.took rank ≡ Some entry → is_answer entry ≡ true
      → AreAmong s rank host.left (w.left rank ++ leftover_at s rank w) → Hands s t rank entry host w
  unfolding refusal step
  done_hands op entry out took is among =
      record {
        of = event.Done (rank_of rank);
        ranked = refl;
        allowed = on_allows s t rank w lives (unless (may_be_done s rank w) 5) (ap (λ o. unless (is_some o && is_some (w.took rank)) 5) out ∙ ap (λ k. unless (true && is_some k) 5) took);
        one = moves.Plainly refl;
        given = entry;
        same = refl;
        moments = ap (λ x. x.moments) steps;
        slots = ap (λ x. x.slots) steps;
        mailboxes = ap (λ x. x.mailboxes) steps;
        took = λ r apart. ap (λ x. x.took r) steps ∙ put_other w.took rank r None apart;
        left = λ r apart. ap (λ x. x.left r) steps;
        spends = record {
          plain = λ e. absurd (let both = sym is ∙ e in cc);
          answer = λ e. (
            ap (λ x. x.took rank) steps ∙ put_same w.took rank None,
            subst (λ l. AreAmong s rank host.left l) (sym (ap (λ x. x.left rank) steps))
                (subst (λ l. AreAmong s rank host.left l) (append-nil (w.left rank))
                (subst (λ g. AreAmong s rank host.left (w.left rank ++ g)) (ap (λ k. given_up (op_at s rank w) k) took ∙ given_up_taken (op_at s rank w) entry) among)),
          );
        };
      }
    where
      steps : option_map_or (λ e. answered rank e w) (w.took rank) w ≡ answered rank entry w
      steps = ap (λ k. option_map_or (λ e. answered rank e w) k w) took

  answer_hands : (entry : What) → IsAnswer (node_at s rank w).log (w.took rank) entry → AreAmong s rank host.left (w.left rank ++ leftover_at s rank w)
      → Hands s t rank entry host w
  answer_hands entry is among = by_source is.source
    where
      by_source : (entry ≡ failed is.op) ⊎ (w.took rank ≡ Some entry) → Hands s t rank entry host w
      by_source (inl same) =
          subst (λ e. Hands s t rank e host w) (sym same) (fail_hands is.op is.out (ap is_answer (sym same) ∙ is.answers) among)
      by_source (inr took) = done_hands is.op entry is.out took is.answers among

  -- each entry that comes in has its event
  pub hands : (entry : What) → ComesIn rank (node_at s rank w).log (w.took rank) (packets s w.moments) entry
      → AreAmong s rank host.left (w.left rank ++ leftover_at s rank w) → Hands s t rank entry host w
  hands entry is among = by_answer (is_answer entry) refl
    where
      by_answer : (b : Bool) → is_answer entry ≡ b → Hands s t rank entry host w
      by_answer true e = answer_hands entry (answers_out rank (node_at s rank w).log (w.took rank) (packets s w.moments) entry e is) among
      by_answer false e = plain_hands entry e (hands_plainly s t rank w lives (w.took rank) entry e is)

-- What a cluster stands for after one of its nodes changed.
use Rattle.std.proofs.Common.{◌≡◌, ℕ, suc, zero, ◌+◌, ◌<◌, ◌≤◌, true, false, List, [], ◌∷◌, ◌++◌, length, Some, ◌⊎◌, inl, inr, sym, ◌∙◌, ap, subst, arith, length-append}
use Rattle.std.specs.Prelude.{All, slice_get, slice_set, ◌==◌}
use Rattle.std.proofs.lemmas.List.{append-nil, length-set}
use Rattle.std.proofs.lemmas.List.Elements.{All-append, All-nil}
use Rattle.std.proofs.lemmas.Option.{slice_get_within}
use Rattle.qn_base.specs.lemmas.Numbers.{same_or_not}
use Rattle.qn_model.specs.declared.configuration.Settings.{Settings}
use Rattle.qn_model.specs.declared.packets.Sent.{Sent}
use Rattle.qn_model.specs.Settings.{IsValid}
use Rattle.qn_model.specs.Moments.{Moment, node, packets, time}
use Rattle.qn_node.specs.Node.{steps_of}
use Rattle.qn_cluster.specs.declared.seat.Seat.{Seat}
use Rattle.qn_cluster.specs.Nodes.{Nodes}
use Rattle.qn_cluster.specs.Seats.{IsFresh, SeatFor}
use Rattle.qn_cluster.specs.Standing.{ClusterFor, IsOpWithin, latest_clock}
use Rattle.qn_cluster.proofs.Lists.{found}

-- a seat is that of a configured rank
pub seat_configured : (w : Nodes) (d : List Moment) (i : ℕ) (seat : Seat) → ClusterFor w d → slice_get w.seats i ≡ Some seat → i < length w.settings.nodes
seat_configured w d i seat is here = subst (λ count. i < count) is.count (slice_get_within w.seats i seat here)

-- one node of the definitions changed, and what it sent
pub record OneNode (s : Settings) (d e : List Moment) (i : ℕ) (more : List Sent) : Type 0 where
  pub same_time : time e ≡ time d
  pub others : (j : ℕ) → (i == j) ≡ false → node s j e ≡ node s j d
  pub sends : packets s e ≡ packets s d ++ more

-- the seat of that node stands for it
pub record OneSeat (w : Nodes) (e : List Moment) (i : ℕ) (new : Seat) (more : List Sent) : Type 0 where
  pub own : SeatFor new w.settings i (node w.settings i e)
  pub clock : (node w.settings i e).on ≡ true → (node w.settings i e).clock ≤ latest_clock (time e)
  pub receive : All (λ sent. sent.to.0 < length w.settings.nodes) more
  pub target : IsOpWithin (length w.settings.nodes) new.op
  pub room : w.steps ≤ steps_of new.node

-- the cluster with one seat replaced
abbrev pub seated : Nodes → ℕ → Seat → List Sent → Nodes
seated w i new more = record w { seats = slice_set w.seats i new; packets = w.packets ++ more }

node_of : (d e : List Moment) (w : Nodes) (i j : ℕ) (new seat : Seat) (more : List Sent)
    → ClusterFor w d → OneNode w.settings d e i more → OneSeat w e i new more
    → ((i ≡ j) × (seat ≡ new)) ⊎ (((i == j) ≡ false) × (slice_get w.seats j ≡ Some seat))
    → SeatFor seat w.settings j (node w.settings j e)
node_of d e w i j new seat more is one own (inl here) =
    subst (λ n. SeatFor n w.settings j (node w.settings j e)) (sym here.1)
    (subst (λ k. SeatFor new w.settings k (node w.settings k e)) here.0 own.own)
node_of d e w i j new seat more is one own (inr there) =
    subst (λ node. SeatFor seat w.settings j node) (sym (one.others j there.0)) (is.nodes j seat there.1)

target_of : (w : Nodes) (d : List Moment) (i j : ℕ) (new seat : Seat) → ClusterFor w d → IsOpWithin (length w.settings.nodes) new.op
    → ((i ≡ j) × (seat ≡ new)) ⊎ (((i == j) ≡ false) × (slice_get w.seats j ≡ Some seat))
    → IsOpWithin (length w.settings.nodes) seat.op
target_of w d i j new seat is own (inl here) = subst (λ n. IsOpWithin (length w.settings.nodes) n.op) (sym here.1) own
target_of w d i j new seat is own (inr there) = is.targets j seat there.1

room_of : (w : Nodes) (d : List Moment) (i j : ℕ) (new seat : Seat) → ClusterFor w d → w.steps ≤ steps_of new.node
    → ((i ≡ j) × (seat ≡ new)) ⊎ (((i == j) ≡ false) × (slice_get w.seats j ≡ Some seat))
    → w.steps ≤ steps_of seat.node
room_of w d i j new seat is own (inl here) = subst (λ n. w.steps ≤ steps_of n.node) (sym here.1) own
room_of w d i j new seat is own (inr there) = is.rooms j seat there.1

clock_of : (w : Nodes) (d e : List Moment) (i j : ℕ) (new : Seat) (more : List Sent) → ClusterFor w d → OneNode w.settings d e i more → OneSeat w e i new more
    → j < length w.settings.nodes → (i ≡ j) ⊎ ((i == j) ≡ false) → (node w.settings j e).on ≡ true → (node w.settings j e).clock ≤ latest_clock (time e)
clock_of w d e i j new more is one own below (inl here) on =
    subst (λ k. (node w.settings k e).on ≡ true → (node w.settings k e).clock ≤ latest_clock (time e)) here own.clock on
clock_of w d e i j new more is one own below (inr there) on =
    let kept = one.others j there in
    let before = is.clocks j below (ap (λ node. node.on) (sym kept) ∙ on) in
    subst (λ t. (node w.settings j e).clock ≤ latest_clock t) (sym one.same_time)
    (subst (λ node. node.clock ≤ latest_clock (time d)) (sym kept) before)

pub with_seat : (w : Nodes) (d e : List Moment) (i : ℕ) (new : Seat) (more : List Sent)
    → ClusterFor w d → i < length w.seats → OneNode w.settings d e i more → OneSeat w e i new more
    → ClusterFor (seated w i new more) e
with_seat w d e i new more is within one own =
    record {
      valid = is.valid;
      count = length-set w.seats i new ∙ is.count;
      times = is.times ∙ sym one.same_time;
      nodes = λ j seat here. node_of d e w i j new seat more is one own (found w.seats i j new seat within here);
      sent = ap (λ sent. sent ++ more) is.sent ∙ sym one.sends;
      clocks = λ j below on. clock_of w d e i j new more is one own below (same_or_not i j) on;
      receivers = All-append (λ sent. sent.to.0 < length w.settings.nodes) w.packets more is.receivers own.receive;
      targets = λ j seat here. target_of w d i j new seat is own.target (found w.seats i j new seat within here);
      rooms = λ j seat here. room_of w d i j new seat is own.room (found w.seats i j new seat within here);
    }

pub seated_nothing : (w : Nodes) (i : ℕ) (new : Seat) → seated w i new [] ≡ record w { seats = slice_set w.seats i new }
seated_nothing w i new = ap (λ sent. record w { seats = slice_set w.seats i new; packets = sent }) (append-nil w.packets)

-- the cluster with one seat replaced, and nothing sent
pub with_quiet_seat : (w new : Nodes) (d e : List Moment) (i : ℕ) (seat : Seat)
    → ClusterFor w d → i < length w.seats → OneNode w.settings d e i [] → OneSeat w e i seat []
    → new ≡ record w { seats = slice_set w.seats i seat } → ClusterFor new e
with_quiet_seat w new d e i seat is within one own same =
    subst (λ n. ClusterFor n e) (seated_nothing w i seat ∙ sym same) (with_seat w d e i seat [] is within one own)

-- ---- the first cluster

pub first_stands : (w : Nodes) → IsValid w.settings → length w.seats ≡ length w.settings.nodes
    → ((rank : ℕ) (seat : Seat) → slice_get w.seats rank ≡ Some seat → IsFresh seat)
    → w.time ≡ 0 → w.packets ≡ [] → w.steps ≡ 18446744073709551615
    → ClusterFor w []
unfolding node time packets
first_stands w valid count fresh zero_time no_packets all_steps =
    record {
      valid = valid;
      count = count;
      times = zero_time;
      nodes = λ rank seat here. record {
        runs = (fresh rank seat here).off;
        running = λ on. absurd (cc);
      };
      sent = no_packets;
      clocks = λ rank below on. absurd (cc);
      receivers = subst (All (λ sent. sent.to.0 < length w.settings.nodes)) (sym no_packets) (All-nil (λ sent. sent.to.0 < length w.settings.nodes));
      targets = λ rank seat here. subst (IsOpWithin (length w.settings.nodes)) (sym (fresh rank seat here).no_op) tt;
      rooms = λ rank seat here. let f = (fresh rank seat here).room in omega arith;
    }

-- one seat more
fresh_by : (seats : List Seat) (new seat : Seat) (rank : ℕ) → ((rank : ℕ) (seat : Seat) → slice_get seats rank ≡ Some seat → IsFresh seat) → IsFresh new
    → slice_get (seats ++ new ∷ []) rank ≡ Some seat → IsFresh seat
fresh_by [] new seat zero fresh own here = let z : new ≡ seat = cc in subst IsFresh z own
fresh_by [] new seat (suc rank) fresh own here = absurd (cc)
fresh_by (first ∷ seats) new seat zero fresh own here = fresh zero seat here
fresh_by (first ∷ seats) new seat (suc rank) fresh own here = fresh_by seats new seat rank (λ rank seat here. fresh (suc rank) seat here) own here

pub fresh_more : (seats more : List Seat) (new : Seat) → ((rank : ℕ) (seat : Seat) → slice_get seats rank ≡ Some seat → IsFresh seat) → IsFresh new → more ≡ seats ++ new ∷ []
    → (rank : ℕ) (seat : Seat) → slice_get more rank ≡ Some seat → IsFresh seat
fresh_more seats more new fresh own e rank seat here = fresh_by seats new seat rank fresh own (sym (ap (λ items. slice_get items rank) e) ∙ here)

pub counts_more : (seats more : List Seat) (new : Seat) (count : ℕ) → length seats ≡ count → more ≡ seats ++ new ∷ [] → length more ≡ count + 1
counts_more seats more new count e f = let a = ap length f in let b = length-append seats (new ∷ []) in omega arith

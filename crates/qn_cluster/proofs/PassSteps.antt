-- What a cluster stands for after a boot, an end or a feed of a node, and after time passed.
use Rattle.std.proofs.Common.{◌≡◌, ℕ, suc, zero, ◌+◌, ◌*◌, ◌^◌, ◌<◌, ◌≤◌, Bool, true, false, List, [], ◌∷◌, ◌++◌, length, Some, None, refl, if◌then◌else◌, ◌&&◌, ◌⊎◌, inl, inr, sym, ◌∙◌, ap, subst, arith}
use Rattle.std.proofs.lemmas.Bool.{leb-true}
use Rattle.std.specs.Prelude.{Option, slice_get, slice_set, ◌==◌, nat_le}
use Rattle.std.specs.List.{list_all, range_with_len}
use Rattle.std.specs.Option.{option_map}
use Rattle.std.proofs.lemmas.Bool.Decides.{nat_tests}
use Rattle.std.proofs.lemmas.List.{append-nil, length-set}
use Rattle.std.proofs.lemmas.List.Elements.{All-nil}
use Rattle.std.proofs.lemmas.Option.{slice_get_within}
use Rattle.qn_base.specs.declared.ids.Rank.{Rank}
use Rattle.qn_base.specs.declared.limits.TheConstants.{LATEST_TIME}
use Rattle.qn_base.specs.lemmas.Bools.{first_of_both, second_of_both}
use Rattle.qn_base.specs.lemmas.Numbers.{equal_to_itself, same_or_not}
use Rattle.qn_model.specs.declared.configuration.Settings.{Settings}
use Rattle.qn_model.specs.declared.times.Timing.{Timing}
use Rattle.qn_model.specs.declared.outputs.Out.{Out}
use Rattle.qn_model.specs.Log.{now}
use Rattle.qn_model.specs.Phases.{phase}
use Rattle.qn_model.specs.NodeOutputs.{newest_outs, outs_at, with_entry}
use Rattle.qn_model.specs.Moments.{Boots, Ends, Feeds, Moment, Passes, Running, advance_of, advanced, begin_of, booted, given_out, handed, logged, node, packets, packets_of, tick_of, time}
use Rattle.qn_model.specs.Rules.{is_within_bounds, may_pass, outlives, passes}
use Rattle.qn_model.specs.World.{World}
use Rattle.qn_node.specs.Node.{steps_of}
use Rattle.qn_cluster.specs.declared.seat.Seat.{Seat}
use Rattle.qn_cluster.specs.Nodes.{Nodes}
use Rattle.qn_cluster.specs.Seats.{BootedSeat, SeatFor, advanced_seat}
use Rattle.qn_cluster.specs.Standing.{ClusterFor, IsOpWithin, latest_clock}
use Rattle.qn_cluster.specs.Stepping.{Booted, Ended, Fed, IsPassable, Passed, SameFrame}
use Rattle.qn_cluster.proofs.ClusterSteps.{OneNode, seat_configured, with_quiet_seat}
use Rattle.qn_cluster.proofs.HandSteps.{op_within}

-- one seat is replaced
seat_frame : (w new : Nodes) (i : ℕ) (seat : Seat) → new ≡ record w { seats = slice_set w.seats i seat } → SameFrame w new
seat_frame w new i seat e =
    record {
      settings = ap (λ w. w.settings) e;
      steps = ap (λ w. w.steps) e;
      count = ap (λ w. length w.seats) e ∙ length-set w.seats i seat;
    }

-- ---- boot

boots_node : (s : Settings) (d : List Moment) (i base : ℕ) (clean : Bool) → node s i (Boots i base clean ∷ d) ≡ booted s i (time d) base clean (node s i d)
unfolding node
boots_node s d i base clean = ap (λ b. if b then booted s i (time d) base clean (node s i d) else node s i d) (equal_to_itself i)

-- the begin of a boot sends nothing
begin_sends_nothing : (s : Settings) (i t base : ℕ) (clean : Bool) (n : Running) → packets_of (newest_outs (booted s i t base clean n).log) ≡ []
unfolding booted handed logged with_entry outs_at phase
begin_sends_nothing s i t base false n = refl
begin_sends_nothing s i t base true n = refl

boot_sends : (s : Settings) (d : List Moment) (i base : ℕ) (clean : Bool) → packets s (Boots i base clean ∷ d) ≡ packets s d ++ []
unfolding packets given_out
boot_sends s d i base clean =
    ap (λ sent. packets s d ++ sent) (ap (λ n. packets_of (newest_outs n.log)) (boots_node s d i base clean) ∙ begin_sends_nothing s i (time d) base clean (node s i d))

booted-clock : (s : Settings) (i t base : ℕ) (clean : Bool) (n : Running) → (booted s i t base clean n).clock ≡ base
unfolding booted handed logged
booted-clock s i t base clean n = refl

one_boots : (s : Settings) (d : List Moment) (i base : ℕ) (clean : Bool) → OneNode s d (Boots i base clean ∷ d) i []
unfolding node time
one_boots s d i base clean =
    record {
      same_time = refl;
      others = λ j apart. ap (λ b. if b then booted s j (time d) base clean (node s j d) else node s j d) apart;
      sends = boot_sends s d i base clean;
    }

pub boot_stepped : (w new : Nodes) (i base : ℕ) (clean : Bool) (seat : Seat) (outs : List Out) → i < length w.seats
    → w.steps < 18446744073709551615 → base ≤ 1000000000000000
    → new ≡ record w { seats = slice_set w.seats i seat } → BootedSeat seat w.settings i w.time base clean outs
    → Booted w new i base clean outs
boot_stepped w new i base clean seat outs within few early f boot =
    let op_ok : IsOpWithin (length w.settings.nodes) seat.op =
    subst (λ op. IsOpWithin (length w.settings.nodes) op) (sym boot.op) (op_within w.settings (begin_of clean) outs None boot.ranks tt) in
    let room_ok : w.steps ≤ steps_of seat.node = (let a = boot.room in omega arith) in
    record {
      frame = seat_frame w new i seat f;
      stands = λ d is.
          let after = boots_node w.settings d i base clean in
          with_quiet_seat w new d (Boots i base clean ∷ d) i seat is within (one_boots w.settings d i base clean)
          (record {
            own = subst (λ n. SeatFor seat w.settings i n) (sym after)
                (subst (λ t. SeatFor seat w.settings i (booted w.settings i t base clean (node w.settings i d))) is.times (boot.stands (node w.settings i d)));
            clock = λ on. subst (λ n. n.clock ≤ latest_clock (time (Boots i base clean ∷ d))) (sym after)
                (subst (λ c. c ≤ latest_clock (time (Boots i base clean ∷ d))) (sym (booted-clock w.settings i (time d) base clean (node w.settings i d))) (omega arith));
            receive = All-nil (λ sent. sent.to.0 < length w.settings.nodes);
            target = op_ok;
            room = room_ok;
          }) f;
      gives = λ d is.
          boot.gives (node w.settings i d)
          ∙ (ap (λ t. newest_outs (booted w.settings i t base clean (node w.settings i d)).log) is.times
          ∙ ap (λ n. newest_outs n.log) (sym (boots_node w.settings d i base clean)));
      ranks = boot.ranks;
    }

-- ---- end

ends_node : (s : Settings) (d : List Moment) (i : ℕ) → node s i (Ends i ∷ d) ≡ record (node s i d) { on = false }
unfolding node
ends_node s d i = ap (λ b. if b then record (node s i d) { on = false } else node s i d) (equal_to_itself i)

one_ends : (s : Settings) (d : List Moment) (i : ℕ) → OneNode s d (Ends i ∷ d) i []
unfolding node time packets given_out
one_ends s d i =
    record {
      same_time = refl;
      others = λ j apart. ap (λ b. if b then record (node s j d) { on = false } else node s j d) apart;
      sends = refl;
    }

pub end_stepped : (w new : Nodes) (i : ℕ) (seat : Seat) → slice_get w.seats i ≡ Some seat
    → new ≡ record w { seats = slice_set w.seats i (record seat { on = false }) } → Ended w new i
end_stepped w new i seat here e =
    record {
      frame = seat_frame w new i (record seat { on = false }) e;
      stands = λ d is.
          let off : (node w.settings i (Ends i ∷ d)).on ≡ false = ap (λ n. n.on) (ends_node w.settings d i) in
          with_quiet_seat w new d (Ends i ∷ d) i (record seat { on = false }) is (slice_get_within w.seats i seat here) (one_ends w.settings d i)
          (record {
            own = record {
              runs = sym off;
              running = λ on. absurd (let z : false ≡ true = sym off ∙ on in cc);
            };
            clock = λ on. absurd (let z : false ≡ true = sym off ∙ on in cc);
            receive = All-nil (λ sent. sent.to.0 < length w.settings.nodes);
            target = is.targets i seat here;
            room = is.rooms i seat here;
          }) e;
    }

-- ---- feed

feeds_node : (s : Settings) (d : List Moment) (i : ℕ) → node s i (Feeds i ∷ d) ≡ record (node s i d) { fed = time d }
unfolding node
feeds_node s d i = ap (λ b. if b then record (node s i d) { fed = time d } else node s i d) (equal_to_itself i)

one_feeds : (s : Settings) (d : List Moment) (i : ℕ) → OneNode s d (Feeds i ∷ d) i []
unfolding node time packets given_out
one_feeds s d i =
    record {
      same_time = refl;
      others = λ j apart. ap (λ b. if b then record (node s j d) { fed = time d } else node s j d) apart;
      sends = refl;
    }

fed_seat : (w : Nodes) (d : List Moment) (i : ℕ) (seat : Seat) → ClusterFor w d → slice_get w.seats i ≡ Some seat
    → SeatFor (record seat { fed = w.time }) w.settings i (record (node w.settings i d) { fed = time d })
fed_seat w d i seat is here =
    let own = is.nodes i seat here in
    record {
      runs = own.runs;
      running = λ on. let r = own.running on in
          record { stands = r.stands; clocks = r.clocks; feeds = is.times; decisions = r.decisions; ops = r.ops; stops = r.stops; ticks = r.ticks; holds = r.holds };
    }

pub feed_stepped : (w new : Nodes) (i : ℕ) (seat : Seat) → slice_get w.seats i ≡ Some seat
    → new ≡ record w { seats = slice_set w.seats i (record seat { fed = w.time }) } → Fed w new i
feed_stepped w new i seat here e =
    record {
      frame = seat_frame w new i (record seat { fed = w.time }) e;
      stands = λ d is.
          let after = feeds_node w.settings d i in
          with_quiet_seat w new d (Feeds i ∷ d) i (record seat { fed = w.time }) is (slice_get_within w.seats i seat here) (one_feeds w.settings d i)
          (record {
            own = subst (λ n. SeatFor (record seat { fed = w.time }) w.settings i n) (sym after) (fed_seat w d i seat is here);
            clock = λ on. subst (λ n. n.on ≡ true → n.clock ≤ latest_clock (time (Feeds i ∷ d))) (sym after)
                (λ on. subst (λ t. (node w.settings i d).clock ≤ latest_clock t) (sym (one_feeds w.settings d i).same_time) (is.clocks i (seat_configured w d i seat is here) on)) on;
            receive = All-nil (λ sent. sent.to.0 < length w.settings.nodes);
            target = is.targets i seat here;
            room = is.rooms i seat here;
          }) e;
    }

-- ---- pass

range_step : (p : ℕ → Bool) (from count rank : ℕ) → (from ≡ rank) ⊎ ((from == rank) ≡ false) → (p from && list_all p (range_with_len (from + 1) count)) ≡ true
    → from ≤ rank → rank < from + suc count → (list_all p (range_with_len (from + 1) count) ≡ true → from + 1 ≤ rank → rank < (from + 1) + count → p rank ≡ true)
    → p rank ≡ true
range_step p from count rank (inl same) e low high later = subst (λ r. p r ≡ true) same (first_of_both (p from) _ e)
range_step p from count rank (inr apart) e low high later =
    let above : from + 1 ≤ rank = grind (arith, nat_tests) in
    later (second_of_both (p from) _ e) above (omega arith)

range_at : (p : ℕ → Bool) (from count rank : ℕ) → list_all p (range_with_len from count) ≡ true → from ≤ rank → rank < from + count → p rank ≡ true
range_at p from zero rank e low high = absurd (omega arith)
range_at p from (suc count) rank e low high =
    range_step p from count rank (same_or_not from rank) e low high (λ e low high. range_at p (from + 1) count rank e low high)

lives_on : (t : Timing) (dt advance now : ℕ) (n : Running) → passes t dt advance now n ≡ true → n.on ≡ true → advance ≤ 101 * dt
lives_on t dt advance now n e on =
    let z : (is_within_bounds dt advance && outlives t (now + dt) n.fed) ≡ true =
    sym (ap (λ b. if b then is_within_bounds dt advance && outlives t (now + dt) n.fed else true) on) ∙ e in
    leb-true advance (101 * dt) (second_of_both (nat_le (99 * dt) advance) _ (first_of_both _ _ z))

advances_little : (s : Settings) (t : Timing) (w : World) (dt : ℕ) (clocks : List (Rank × ℕ)) (rank : ℕ) → may_pass s t dt clocks w ≡ true
    → rank < length s.nodes → (node s rank w.moments).on ≡ true → advance_of dt clocks rank ≤ 101 * dt
advances_little s t w dt clocks rank allowed below on =
    lives_on t dt (advance_of dt clocks rank) (time w.moments) (node s rank w.moments)
    (range_at (λ rank. passes t dt (advance_of dt clocks rank) (time w.moments) (node s rank w.moments)) 0 (length s.nodes) rank
    (second_of_both _ _ allowed) (omega arith) (omega arith)) on

map_some : {A B : Type 0} (f : A → B) (o : Option A) (y : B) → option_map f o ≡ Some y → (x : A) × (o ≡ Some x) × (y ≡ f x)
map_some f None y e = absurd (cc)
map_some f (Some x) y e = (x, refl, cc)

passed_seat : (seat : Seat) (s : Settings) (me : ℕ) (n : Running) (advance : ℕ) → SeatFor seat s me n
    → SeatFor (advanced_seat advance seat) s me (advanced advance n)
passed_seat seat s me n advance own =
    record {
      runs = own.runs;
      running = λ on. let r = own.running on in
          let ahead : (if n.on then n.clock + advance else n.clock) ≡ n.clock + advance = ap (λ b. if b then n.clock + advance else n.clock) on in
          let ticks = r.ticks in
          record {
            stands = r.stands;
            clocks = ap (λ b. if b then seat.clock + advance else seat.clock) own.runs ∙ ap (λ c. if n.on then c + advance else c) r.clocks;
            feeds = r.feeds;
            decisions = r.decisions;
            ops = r.ops;
            stops = r.stops;
            ticks = subst (λ c. now n.log ≤ tick_of c) (sym ahead) (omega arith);
            holds = r.holds;
          };
    }

-- the clock of a running node fits, after a pass too
pub fits_pass : (w : Nodes) (dt : ℕ) (clocks : List (Rank × ℕ)) → dt ≤ 1000000000 → w.time ≤ LATEST_TIME → IsPassable w dt clocks
    → (rank : ℕ) (seat : Seat) → slice_get w.seats rank ≡ Some seat
    → seat.on ≡ true → seat.clock + advance_of dt clocks rank < 2 ^ 64
fits_pass w dt clocks short early ready rank seat here on =
    let d = ready.world.moments in
    let is = ready.stands in
    let own = is.nodes rank seat here in
    let node_on : (node w.settings rank d).on ≡ true = sym own.runs ∙ on in
    let below : rank < length w.settings.nodes = seat_configured w d rank seat is here in
    let little = advances_little w.settings ready.timing ready.world dt clocks rank ready.allowed below node_on in
    let clock = is.clocks rank below node_on in
    let same = (own.running node_on).clocks in
    let times = is.times in
    omega arith

passed_clock : (w : Nodes) (d : List Moment) (dt : ℕ) (clocks : List (Rank × ℕ)) (rank : ℕ) → ClusterFor w d
    → ((node w.settings rank d).on ≡ true → advance_of dt clocks rank ≤ 101 * dt)
    → rank < length w.settings.nodes → (node w.settings rank (Passes dt clocks ∷ d)).on ≡ true
    → (node w.settings rank (Passes dt clocks ∷ d)).clock ≤ latest_clock (time (Passes dt clocks ∷ d))
unfolding node time
passed_clock w d dt clocks rank is few below on =
    let n = node w.settings rank d in
    let advance = advance_of dt clocks rank in
    let ahead : (if n.on then n.clock + advance else n.clock) ≡ n.clock + advance = ap (λ b. if b then n.clock + advance else n.clock) on in
    let little = few on in
    let before = is.clocks rank below on in
    subst (λ c. c ≤ latest_clock (time d + dt)) (sym ahead) (omega arith)

passed_node : (s : Settings) (d : List Moment) (dt : ℕ) (clocks : List (Rank × ℕ)) (rank : ℕ)
    → node s rank (Passes dt clocks ∷ d) ≡ advanced (advance_of dt clocks rank) (node s rank d)
unfolding node
passed_node s d dt clocks rank = refl

passed_packets : (s : Settings) (d : List Moment) (dt : ℕ) (clocks : List (Rank × ℕ)) → packets s (Passes dt clocks ∷ d) ≡ packets s d
unfolding packets given_out
passed_packets s d dt clocks = append-nil (packets s d)

passed_time : (d : List Moment) (dt : ℕ) (clocks : List (Rank × ℕ)) → time (Passes dt clocks ∷ d) ≡ time d + dt
unfolding time
passed_time d dt clocks = refl

passed_world : (w : Nodes) (d : List Moment) (dt : ℕ) (clocks : List (Rank × ℕ)) (seats : List Seat) → ClusterFor w d
    → ((rank : ℕ) → rank < length w.settings.nodes → (node w.settings rank d).on ≡ true → advance_of dt clocks rank ≤ 101 * dt) → length seats ≡ length w.seats
    → ((rank : ℕ) → slice_get seats rank ≡ option_map (advanced_seat (advance_of dt clocks rank)) (slice_get w.seats rank))
    → ClusterFor (record w { seats = seats; time = w.time + dt }) (Passes dt clocks ∷ d)
passed_world w d dt clocks seats is few count same =
    let before : (j : ℕ) (seat : Seat) → slice_get seats j ≡ Some seat
    → (old : Seat) × (slice_get w.seats j ≡ Some old) × (seat ≡ advanced_seat (advance_of dt clocks j) old) =
    λ j seat here. map_some (advanced_seat (advance_of dt clocks j)) (slice_get w.seats j) seat (sym (same j) ∙ here) in
    record {
      valid = is.valid;
      count = count ∙ is.count;
      times = ap (λ t. t + dt) is.times ∙ sym (passed_time d dt clocks);
      nodes = λ j seat here. let b = before j seat here in
          subst (λ n. SeatFor seat w.settings j n) (sym (passed_node w.settings d dt clocks j))
          (subst (λ seat. SeatFor seat w.settings j (advanced (advance_of dt clocks j) (node w.settings j d))) (sym b.2)
          (passed_seat b.0 w.settings j (node w.settings j d) (advance_of dt clocks j) (is.nodes j b.0 b.1)));
      sent = is.sent ∙ sym (passed_packets w.settings d dt clocks);
      clocks = λ j below on. passed_clock w d dt clocks j is (few j below) below on;
      receivers = is.receivers;
      targets = λ j seat here. let b = before j seat here in
          subst (λ seat. IsOpWithin (length w.settings.nodes) seat.op) (sym b.2) (is.targets j b.0 b.1);
      rooms = λ j seat here. let b = before j seat here in
          subst (λ seat. w.steps ≤ steps_of seat.node) (sym b.2) (is.rooms j b.0 b.1);
    }

pub pass_stepped : (w mid new : Nodes) (dt : ℕ) (clocks : List (Rank × ℕ)) → mid ≡ record w { seats = mid.seats } → length mid.seats ≡ length w.seats
    → ((rank : ℕ) → slice_get mid.seats rank ≡ option_map (advanced_seat (advance_of dt clocks rank)) (slice_get w.seats rank))
    → new ≡ record mid { time = mid.time + dt }
    → Passed w new dt clocks
pass_stepped w mid new dt clocks e count same f =
    let all : new ≡ record w { seats = mid.seats; time = w.time + dt } = f ∙ ap (λ (m : Nodes). record m { time = m.time + dt }) e in
    record {
      frame = record { settings = ap (λ w. w.settings) all; steps = ap (λ w. w.steps) all; count = ap (λ w. length w.seats) all ∙ count };
      stands = λ t d is allowed. subst (λ n. ClusterFor n (Passes dt clocks ∷ d.moments)) (sym all)
          (passed_world w d.moments dt clocks mid.seats is (λ rank below on. advances_little w.settings t d dt clocks rank allowed below on) count same);
    }

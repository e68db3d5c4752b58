-- What the seat of a node stands for, entry by entry.
use Rattle.std.proofs.Common.{◌≡◌, ℕ, suc, ◌≤◌, Bool, true, false, List, [], Some, None, refl, ◌&&◌, ◌||◌, not, if◌then◌else◌, sym, ◌∙◌, ap, subst, arith}
use Rattle.std.specs.Prelude.{All}
use Rattle.std.specs.Option.{option_or}
use Rattle.qn_model.specs.declared.configuration.Settings.{Settings}
use Rattle.qn_model.specs.declared.entries.Entry.{Entry}
use Rattle.qn_model.specs.declared.entries.What.{What}
use Rattle.qn_model.specs.declared.entries.What.TheVariants as what
use Rattle.qn_model.specs.declared.outputs.Out.{Out}
use Rattle.qn_model.specs.Log.{Line, disk_of, has_stop, is_answer, now, op_out}
use Rattle.qn_model.specs.Phases.{phase}
use Rattle.qn_model.specs.Holding.{answers_stop, holds, stop_due}
use Rattle.qn_model.specs.Fitting.{answers_op, fits, read_as}
use Rattle.qn_model.specs.NodeOutputs.{newest_outs, with_entry}
use Rattle.qn_model.specs.Moments.{Running, begin_of, booted, handed, has_feed, is_gone, logged, never_booted, tick_of}
use Rattle.qn_model.specs.declared.life.Phase.{Phase}
use Rattle.qn_node.specs.declared.node.Node.{Node}
use Rattle.qn_node.specs.Node.{NodeFor}
use Rattle.qn_node.specs.Outputs.{IsNodeOutput}
use Rattle.qn_cluster.specs.declared.seat.Seat.{Seat}
use Rattle.qn_cluster.specs.Outputs.{op_with, stop_with}
use Rattle.qn_cluster.specs.Seats.{IsDue, SeatFor}

keeps_no_answer : (b : Bool) (w : What) → is_answer w ≡ false → is_answer (if b then w else what.Tick) ≡ false
keeps_no_answer true w e = e
keeps_no_answer false w e = refl

keeps_answer : (b : Bool) (w : What) → b ≡ true → is_answer (if b then w else what.Tick) ≡ is_answer w
keeps_answer b w e = ap (λ b. is_answer (if b then w else what.Tick)) e

-- an answer that is due is read as it is
pub answer_read : (s : Settings) (me : ℕ) (past : List Line) (w : What) → (is_answer w ≡ true → answers_op (op_out past) w ≡ true)
    → is_answer (read_as s me past w) ≡ is_answer w
answer_read s me past what.Begin due = keeps_no_answer (fits s me past what.Begin) what.Begin refl
answer_read s me past what.BeginClean due = keeps_no_answer (fits s me past what.BeginClean) what.BeginClean refl
answer_read s me past (what.Header seen) due = keeps_answer (answers_op (op_out past) (what.Header seen)) (what.Header seen) (due refl)
answer_read s me past (what.SlotRead rank seen) due = keeps_answer (answers_op (op_out past) (what.SlotRead rank seen)) (what.SlotRead rank seen) (due refl)
answer_read s me past (what.MailChecked seen) due = keeps_answer (answers_op (op_out past) (what.MailChecked seen)) (what.MailChecked seen) (due refl)
answer_read s me past (what.Claimed ok) due = keeps_answer (answers_op (op_out past) (what.Claimed ok)) (what.Claimed ok) (due refl)
answer_read s me past (what.Cleared ok) due = keeps_answer (answers_op (op_out past) (what.Cleared ok)) (what.Cleared ok) (due refl)
answer_read s me past (what.MailRead seen) due = keeps_answer (answers_op (op_out past) (what.MailRead seen)) (what.MailRead seen) (due refl)
answer_read s me past (what.MailWritten rank ok) due = keeps_answer (answers_op (op_out past) (what.MailWritten rank ok)) (what.MailWritten rank ok) (due refl)
answer_read s me past (what.View view) due = keeps_no_answer (fits s me past (what.View view)) (what.View view) refl
answer_read s me past (what.Ask ask) due = keeps_no_answer (fits s me past (what.Ask ask)) (what.Ask ask) refl
answer_read s me past (what.Tell tell) due = keeps_no_answer (fits s me past (what.Tell tell)) (what.Tell tell) refl
answer_read s me past (what.Device agrees) due = keeps_no_answer (fits s me past (what.Device agrees)) (what.Device agrees) refl
answer_read s me past what.Tick due = refl
answer_read s me past (what.Stopped ok) due = keeps_no_answer (fits s me past (what.Stopped ok)) (what.Stopped ok) refl
answer_read s me past what.Leave due = keeps_no_answer (fits s me past what.Leave) what.Leave refl
answer_read s me past (what.Closed ok) due = keeps_answer (answers_op (op_out past) (what.Closed ok)) (what.Closed ok) (due refl)

keeps_no_stop : (b : Bool) (w : What) → answers_stop w ≡ false → answers_stop (if b then w else what.Tick) ≡ answers_stop w
keeps_no_stop true w e = refl
keeps_no_stop false w e = sym e

stop_if_due : (due ok : Bool) → (due && not (answers_stop (if due then what.Stopped ok else what.Tick))) ≡ (due && not (answers_stop (what.Stopped ok)))
stop_if_due true ok = refl
stop_if_due false ok = refl

same_unless : (due a b : Bool) → a ≡ b → (due && not a) ≡ (due && not b)
same_unless due a b e = ap (λ x. due && not x) e

-- the answer of a Stop is read as it is exactly where one is due
stop_read : (s : Settings) (me : ℕ) (past : List Line) (w : What)
    → (stop_due past && not (answers_stop (read_as s me past w))) ≡ (stop_due past && not (answers_stop w))
stop_read s me past (what.Stopped ok) = stop_if_due (stop_due past) ok
stop_read s me past what.Begin = same_unless (stop_due past) _ _ (keeps_no_stop (fits s me past what.Begin) what.Begin refl)
stop_read s me past what.BeginClean = same_unless (stop_due past) _ _ (keeps_no_stop (fits s me past what.BeginClean) what.BeginClean refl)
stop_read s me past (what.Header seen) = same_unless (stop_due past) _ _ (keeps_no_stop (fits s me past (what.Header seen)) (what.Header seen) refl)
stop_read s me past (what.SlotRead rank seen) = same_unless (stop_due past) _ _ (keeps_no_stop (fits s me past (what.SlotRead rank seen)) (what.SlotRead rank seen) refl)
stop_read s me past (what.MailChecked seen) = same_unless (stop_due past) _ _ (keeps_no_stop (fits s me past (what.MailChecked seen)) (what.MailChecked seen) refl)
stop_read s me past (what.Claimed ok) = same_unless (stop_due past) _ _ (keeps_no_stop (fits s me past (what.Claimed ok)) (what.Claimed ok) refl)
stop_read s me past (what.Cleared ok) = same_unless (stop_due past) _ _ (keeps_no_stop (fits s me past (what.Cleared ok)) (what.Cleared ok) refl)
stop_read s me past (what.MailRead seen) = same_unless (stop_due past) _ _ (keeps_no_stop (fits s me past (what.MailRead seen)) (what.MailRead seen) refl)
stop_read s me past (what.MailWritten rank ok) = same_unless (stop_due past) _ _ (keeps_no_stop (fits s me past (what.MailWritten rank ok)) (what.MailWritten rank ok) refl)
stop_read s me past (what.View view) = same_unless (stop_due past) _ _ (keeps_no_stop (fits s me past (what.View view)) (what.View view) refl)
stop_read s me past (what.Ask ask) = same_unless (stop_due past) _ _ (keeps_no_stop (fits s me past (what.Ask ask)) (what.Ask ask) refl)
stop_read s me past (what.Tell tell) = same_unless (stop_due past) _ _ (keeps_no_stop (fits s me past (what.Tell tell)) (what.Tell tell) refl)
stop_read s me past (what.Device agrees) = same_unless (stop_due past) _ _ (keeps_no_stop (fits s me past (what.Device agrees)) (what.Device agrees) refl)
stop_read s me past what.Tick = refl
stop_read s me past what.Leave = same_unless (stop_due past) _ _ (keeps_no_stop (fits s me past what.Leave) what.Leave refl)
stop_read s me past (what.Closed ok) = same_unless (stop_due past) _ _ (keeps_no_stop (fits s me past (what.Closed ok)) (what.Closed ok) refl)

-- the operation out, and whether a Stop is due, after an entry
pub op_entry : (s : Settings) (me : ℕ) (past : List Line) (entry : Entry) → (is_answer entry.what ≡ true → answers_op (op_out past) entry.what ≡ true)
    → op_with entry.what (newest_outs (with_entry s me past entry)) (op_out past) ≡ op_out (with_entry s me past entry)
unfolding op_out with_entry
op_entry s me past entry due =
    ap (λ answers. option_or (disk_of (newest_outs (with_entry s me past entry))) (if answers then None else op_out past)) (sym (answer_read s me past entry.what due))

stop_entry : (s : Settings) (me : ℕ) (past : List Line) (entry : Entry)
    → stop_with entry.what (newest_outs (with_entry s me past entry)) (stop_due past) ≡ stop_due (with_entry s me past entry)
unfolding stop_due with_entry
stop_entry s me past entry = ap (λ later. has_stop (newest_outs (with_entry s me past entry)) || later) (sym (stop_read s me past entry.what))

-- the entry at the present tick of a clock
abbrev pub entry_at : ℕ → What → Entry
entry_at clock w = record { tick = tick_of clock; what = w }

-- the seat after an entry
pub seat_handed : (old new : Seat) (s : Settings) (me time : ℕ) (w : What) (held : Bool) (node : Running) (outs : List Out)
    → SeatFor old s me node → node.on ≡ true → IsDue node w
    → NodeFor new.node s me (with_entry s me node.log (entry_at node.clock w))
    → outs ≡ newest_outs (with_entry s me node.log (entry_at node.clock w))
    → new ≡ record old {
      node = new.node;
      on = not (is_gone (phase s (with_entry s me node.log (entry_at node.clock w))));
      decided = (if has_feed outs then Some time else old.decided);
      op = op_with w outs old.op;
      stop_due = stop_with w outs old.stop_due;
      held = held;
    }
    → held ≡ holds (with_entry s me node.log (entry_at node.clock w))
    → SeatFor new s me (handed s me time w node)
unfolding handed logged with_entry
seat_handed old new s me time w held node outs is on due stands same e holding =
    let before = is.running on in
    let clocks : new.clock ≡ node.clock = ap (λ seat. seat.clock) e ∙ before.clocks in
    record {
      runs = ap (λ seat. seat.on) e;
      running = λ still. record {
        stands = stands;
        clocks = clocks;
        feeds = ap (λ seat. seat.fed) e ∙ before.feeds;
        decisions = ap (λ seat. seat.decided) e ∙ (ap (λ outs. if has_feed outs then Some time else old.decided) same ∙ ap (λ decided. if has_feed (newest_outs (with_entry s me node.log (entry_at node.clock w))) then Some time else decided) before.decisions);
        ops = ap (λ seat. seat.op) e ∙ (ap (λ outs. op_with w outs old.op) same ∙ (ap (λ op. op_with w (newest_outs (with_entry s me node.log (entry_at node.clock w))) op) before.ops ∙ op_entry s me node.log (entry_at node.clock w) due));
        stops = ap (λ seat. seat.stop_due) e ∙ (ap (λ outs. stop_with w outs old.stop_due) same ∙ (ap (λ stop. stop_with w (newest_outs (with_entry s me node.log (entry_at node.clock w))) stop) before.stops ∙ stop_entry s me node.log (entry_at node.clock w)));
        ticks = omega arith;
        holds = ap (λ seat. seat.held) e ∙ holding;
      };
    }

-- what a step of a node promises
abbrev pub StepStands : Node → Node → Entry → Type 0
StepStands old new entry = (s : Settings) (me : ℕ) (log : List Line) → NodeFor old s me log → now log ≤ entry.tick → NodeFor new s me (with_entry s me log entry)

abbrev pub StepGives : Node → List Out → Entry → Type 0
StepGives old outs entry = (s : Settings) (me : ℕ) (log : List Line) → NodeFor old s me log → now log ≤ entry.tick → outs ≡ newest_outs (with_entry s me log entry)

same_entry : (w : What) (tick seen clock : ℕ) → tick ≡ tick_of seen → seen ≡ clock → record { tick = tick; what = w } ≡ entry_at clock w
same_entry w tick seen clock e f = cc

in_order : (log : List Line) (tick seen clock : ℕ) → tick ≡ tick_of seen → seen ≡ clock → now log ≤ tick_of clock → now log ≤ tick
in_order log tick seen clock e f h = let z : tick ≡ tick_of clock = cc in rw z h

pub hand_outs : (old : Seat) (s : Settings) (me time tick : ℕ) (w : What) (node : Running) (outs : List Out)
    → SeatFor old s me node → node.on ≡ true → tick ≡ tick_of old.clock
    → StepGives old.node outs (record { tick = tick; what = w })
    → outs ≡ newest_outs (with_entry s me node.log (entry_at node.clock w))
hand_outs old s me time tick w node outs is on ticks gives =
    let before = is.running on in
    gives s me node.log before.stands (in_order node.log tick old.clock node.clock ticks before.clocks before.ticks)
    ∙ ap (λ entry. newest_outs (with_entry s me node.log entry)) (same_entry w tick old.clock node.clock ticks before.clocks)

-- the seat after an entry, by what the calls of the code promise
pub hand_seat : (old : Seat) (stepped : Node) (new : Seat) (s : Settings) (me time tick : ℕ) (w : What) (node : Running) (outs : List Out)
    (p : Phase) (gone held : Bool)
    → SeatFor old s me node → node.on ≡ true → IsDue node w → tick ≡ tick_of old.clock
    → StepStands old.node stepped (record { tick = tick; what = w })
    → StepGives old.node outs (record { tick = tick; what = w })
    → ((s : Settings) (me : ℕ) (log : List Line) → NodeFor stepped s me log → p ≡ phase s log)
    → gone ≡ is_gone p
    → ((s : Settings) (me : ℕ) (log : List Line) → NodeFor stepped s me log → held ≡ holds log)
    → new ≡ record old {
      node = stepped;
      on = not gone;
      decided = (if has_feed outs then Some time else old.decided);
      op = op_with w outs old.op;
      stop_due = stop_with w outs old.stop_due;
      held = held;
    }
    → SeatFor new s me (handed s me time w node)
hand_seat old stepped new s me time tick w node outs p gone held is on due ticks stands gives phases gones holding e =
    let before = is.running on in
    let order = in_order node.log tick old.clock node.clock ticks before.clocks before.ticks in
    let after : NodeFor stepped s me (with_entry s me node.log (entry_at node.clock w)) =
    subst (λ entry. NodeFor stepped s me (with_entry s me node.log entry)) (same_entry w tick old.clock node.clock ticks before.clocks)
    (stands s me node.log before.stands order) in
    let node_is : new.node ≡ stepped = ap (λ seat. seat.node) e in
    let gone_is : gone ≡ is_gone (phase s (with_entry s me node.log (entry_at node.clock w))) = gones ∙ ap is_gone (phases s me _ after) in
    seat_handed old new s me time w held node outs is on due
    (subst (λ n. NodeFor n s me (with_entry s me node.log (entry_at node.clock w))) (sym node_is) after)
    (hand_outs old s me time tick w node outs is on ticks gives)
    (let f : record old {
      node = stepped;
      on = not gone;
      decided = (if has_feed outs then Some time else old.decided);
      op = op_with w outs old.op;
      stop_due = stop_with w outs old.stop_due;
      held = held;
    } ≡ record old {
      node = new.node;
      on = not (is_gone (phase s (with_entry s me node.log (entry_at node.clock w))));
      decided = (if has_feed outs then Some time else old.decided);
      op = op_with w outs old.op;
      stop_due = stop_with w outs old.stop_due;
      held = held;
    } = cc in e ∙ f)
    (holding s me _ after)

-- a node that has just booted, before its first entry
abbrev pub fresh : ℕ → ℕ → Running → Running
fresh time base node = record { on = true; boots = suc node.boots; log = []; clock = base; fed = time; decided = None }

abbrev pub fresh_of : Node → ℕ → ℕ → Seat
fresh_of n time base = record { on = true; node = n; clock = base; fed = time; decided = None; op = None; stop_due = false; held = false }

-- the seat of a node that has just booted
pub fresh_seat : (n : Node) (s : Settings) (me time base : ℕ) (node : Running) → NodeFor n s me []
    → SeatFor (fresh_of n time base) s me (fresh time base node)
unfolding op_out stop_due holds
fresh_seat n s me time base node stands =
    record {
      runs = refl;
      running = λ on. record {
        stands = stands;
        clocks = refl;
        feeds = refl;
        decisions = refl;
        ops = refl;
        stops = refl;
        ticks = omega arith;
        holds = refl;
      };
    }

no_answer_due : (node : Running) (clean : Bool) → IsDue node (begin_of clean)
no_answer_due node false e = absurd (cc)
no_answer_due node true e = absurd (cc)

-- the seat of a node that boots, by what it becomes when it is handed its first entry
pub boot_seat : (n : Node) (new : Seat) (s : Settings) (me time base : ℕ) (clean : Bool) (node : Running) → NodeFor n s me []
    → ((s : Settings) (me : ℕ) (node : Running) → SeatFor (fresh_of n time base) s me node → node.on ≡ true → IsDue node (begin_of clean)
    → SeatFor new s me (handed s me time (begin_of clean) node))
    → SeatFor new s me (booted s me time base clean node)
unfolding booted
boot_seat n new s me time base clean node stands hands =
    hands s me (fresh time base node) (fresh_seat n s me time base node stands) refl (no_answer_due (fresh time base node) clean)

pub boot_outs_are : (n : Node) (outs : List Out) (s : Settings) (me time base : ℕ) (clean : Bool) (node : Running) → NodeFor n s me []
    → ((s : Settings) (me : ℕ) (node : Running) → SeatFor (fresh_of n time base) s me node → node.on ≡ true
    → outs ≡ newest_outs (handed s me time (begin_of clean) node).log)
    → outs ≡ newest_outs (booted s me time base clean node).log
unfolding booted
boot_outs_are n outs s me time base clean node stands gives = gives s me (fresh time base node) (fresh_seat n s me time base node stands) refl

pub boot_ranks : (n : Node) (outs : List Out) (s : Settings) (me time base : ℕ) → NodeFor n s me []
    → ((s : Settings) (me : ℕ) (node : Running) → SeatFor (fresh_of n time base) s me node → node.on ≡ true → All (IsNodeOutput s) outs)
    → All (IsNodeOutput s) outs
boot_ranks n outs s me time base stands ranks =
    ranks s me (fresh time base never_booted) (fresh_seat n s me time base never_booted stands) refl

-- the outputs of an entry name configured ranks
pub hand_ranks : (old : Seat) (s : Settings) (me tick : ℕ) (w : What) (node : Running) (outs : List Out)
    → SeatFor old s me node → node.on ≡ true → tick ≡ tick_of old.clock
    → ((s : Settings) (me : ℕ) (log : List Line) → NodeFor old.node s me log → now log ≤ tick → All (IsNodeOutput s) outs)
    → All (IsNodeOutput s) outs
hand_ranks old s me tick w node outs is on ticks ranks =
    let before = is.running on in
    ranks s me node.log before.stands (in_order node.log tick old.clock node.clock ticks before.clocks before.ticks)

-- a seat whose node stands for the same logs
pub copy_seat : (seat : Seat) (n : Node) → ((s : Settings) (me : ℕ) (log : List Line) → NodeFor seat.node s me log → NodeFor n s me log)
    → (s : Settings) (me : ℕ) (node : Running) → SeatFor seat s me node → SeatFor (record seat { node = n }) s me node
copy_seat seat n stands s me node is =
    record {
      runs = is.runs;
      running = λ on. let before = is.running on in record {
        stands = stands s me node.log before.stands;
        clocks = before.clocks;
        feeds = before.feeds;
        decisions = before.decisions;
        ops = before.ops;
        stops = before.stops;
        ticks = before.ticks;
        holds = before.holds;
      };
    }

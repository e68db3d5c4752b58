-- What a world stands for after one of its nodes was handed an entry.
use Rattle.std.proofs.Common.{◌≡◌, ◌≢◌, ℕ, ◌<◌, ◌≤◌, Bool, true, false, List, [], ◌∷◌, ◌++◌, length, Some, None, refl, if◌then◌else◌, not, sym, ◌∙◌, ap, subst, arith}
use Rattle.std.specs.Prelude.{All, Option, is_some, slice_get, slice_set}
use Rattle.std.specs.Option.{option_or}
use Rattle.std.proofs.lemmas.List.{append-nil, length-set}
use Rattle.std.proofs.lemmas.Option.{slice_get_within}
use Rattle.std.proofs.lemmas.List.Elements.{All-nil, All-cons, All-head, All-tail}
use Rattle.qn_base.specs.lemmas.Lists.{longer_joined}
use Rattle.qn_base.specs.lemmas.Numbers.{equal_to_itself}
use Rattle.qn_model.specs.declared.configuration.Settings.{Settings}
use Rattle.qn_model.specs.declared.entries.Entry.{Entry}
use Rattle.qn_model.specs.declared.entries.What.{What}
use Rattle.qn_model.specs.declared.outputs.BootCause.{BootCause}
use Rattle.qn_model.specs.declared.outputs.DiskOp.{DiskOp}
use Rattle.qn_model.specs.declared.outputs.DiskOp.TheVariants as disk
use Rattle.qn_model.specs.declared.outputs.Out.{Out}
use Rattle.qn_model.specs.declared.outputs.Out.TheVariants as out
use Rattle.qn_model.specs.declared.packets.Packet.TheVariants as packet
use Rattle.qn_model.specs.Log.{Line, disk_of, is_answer, op_out}
use Rattle.qn_model.specs.Phases.{boot_halt, deadly_of, is_booting, is_live, message_of, phase}
use Rattle.qn_model.specs.Fitting.{read_as}
use Rattle.qn_model.specs.Wanted.{boot_op}
use Rattle.qn_model.specs.NodeOutputs.{boot_outs, boot_step_outs, disk_outs, is_begin, is_boot_step, live_outs, mail_feeds, newest_outs, outs_at, taken_in, when, with_entry}
use Rattle.qn_model.specs.Moments.{Adds, Moment, Running, given_out, handed, logged, node, packets, packets_of, tick_of, time}
use Rattle.qn_model.specs.lemmas.Moments.{clock_handed}
use Rattle.qn_node.specs.Node.{steps_of}
use Rattle.qn_node.specs.Outputs.{IsNodeOutput}
use Rattle.qn_cluster.specs.declared.seat.Seat.{Seat}
use Rattle.qn_cluster.specs.Outputs.{op_with}
use Rattle.qn_cluster.specs.Seats.{HandedSeat, IsDue, SeatFor}
use Rattle.qn_cluster.specs.Standing.{HasRoom, IsOpWithin, IsWithin, ClusterFor, latest_clock}
use Rattle.qn_cluster.specs.Stepping.{Handed, Unhanded, outs_of, sends_at}
use Rattle.qn_cluster.specs.Nodes.{Nodes}
use Rattle.qn_cluster.proofs.SeatSteps.{answer_read, op_entry}
use Rattle.qn_cluster.proofs.Silence.{silent_while_out}
use Rattle.qn_cluster.proofs.ClusterSteps.{OneNode, seat_configured, seated, with_seat}

-- ---- what is sent

-- the receivers of what a node sends are configured
receivers_of : (s : Settings) (outs : List Out) → All (IsNodeOutput s) outs → All (λ sent. sent.to.0 < length s.nodes) (packets_of outs)
receivers_of s [] all = All-nil (λ sent. sent.to.0 < length s.nodes)
receivers_of s (out.Send to (packet.Ask ask) ∷ outs) all =
    All-cons (λ sent. sent.to.0 < length s.nodes) (record { to = to; packet = packet.Ask ask }) (packets_of outs) (All-head (IsNodeOutput s) _ outs all) (receivers_of s outs (All-tail (IsNodeOutput s) _ outs all))
receivers_of s (out.Send to (packet.Tell tell) ∷ outs) all =
    All-cons (λ sent. sent.to.0 < length s.nodes) (record { to = to; packet = packet.Tell tell }) (packets_of outs) (All-head (IsNodeOutput s) _ outs all) (receivers_of s outs (All-tail (IsNodeOutput s) _ outs all))
receivers_of s (out.Send to (packet.Hello from) ∷ outs) all = absurd (All-head (IsNodeOutput s) (out.Send to (packet.Hello from)) outs all)
receivers_of s (out.Send to (packet.Heard from said standing) ∷ outs) all = absurd (All-head (IsNodeOutput s) (out.Send to (packet.Heard from said standing)) outs all)
receivers_of s (out.Send to (packet.Announce from view) ∷ outs) all = absurd (All-head (IsNodeOutput s) (out.Send to (packet.Announce from view)) outs all)
receivers_of s (out.Send to (packet.Vote agrees) ∷ outs) all = absurd (All-head (IsNodeOutput s) (out.Send to (packet.Vote agrees)) outs all)
receivers_of s (out.Stop ∷ outs) all = receivers_of s outs (All-tail (IsNodeOutput s) _ outs all)
receivers_of s (out.Start ∷ outs) all = receivers_of s outs (All-tail (IsNodeOutput s) _ outs all)
receivers_of s (out.Feed ∷ outs) all = receivers_of s outs (All-tail (IsNodeOutput s) _ outs all)
receivers_of s (out.Disk op ∷ outs) all = receivers_of s outs (All-tail (IsNodeOutput s) _ outs all)
receivers_of s (out.Disarm ∷ outs) all = receivers_of s outs (All-tail (IsNodeOutput s) _ outs all)
receivers_of s (out.Halt kind ∷ outs) all = receivers_of s outs (All-tail (IsNodeOutput s) _ outs all)

op_of_disk : (s : Settings) (op : DiskOp) → IsNodeOutput s (out.Disk op) → IsWithin (length s.nodes) op
op_of_disk s disk.ReadHeader is = tt
op_of_disk s (disk.ReadSlot rank) is = is
op_of_disk s disk.CheckMail is = tt
op_of_disk s (disk.WriteClaim number) is = tt
op_of_disk s disk.WriteClear is = tt
op_of_disk s disk.ReadMail is = tt
op_of_disk s (disk.WriteReset rank) is = is
op_of_disk s (disk.WriteClose number) is = tt

-- the operation among the outputs of a node is about a configured node
pub disk_within : (s : Settings) (outs : List Out) → All (IsNodeOutput s) outs → IsOpWithin (length s.nodes) (disk_of outs)
disk_within s [] all = tt
disk_within s (out.Disk op ∷ outs) all = op_of_disk s op (All-head (IsNodeOutput s) (out.Disk op) outs all)
disk_within s (out.Send to sent ∷ outs) all = disk_within s outs (All-tail (IsNodeOutput s) _ outs all)
disk_within s (out.Stop ∷ outs) all = disk_within s outs (All-tail (IsNodeOutput s) _ outs all)
disk_within s (out.Start ∷ outs) all = disk_within s outs (All-tail (IsNodeOutput s) _ outs all)
disk_within s (out.Feed ∷ outs) all = disk_within s outs (All-tail (IsNodeOutput s) _ outs all)
disk_within s (out.Disarm ∷ outs) all = disk_within s outs (All-tail (IsNodeOutput s) _ outs all)
disk_within s (out.Halt kind ∷ outs) all = disk_within s outs (All-tail (IsNodeOutput s) _ outs all)

within_or : (count : ℕ) (first second : Option DiskOp) → IsOpWithin count first → IsOpWithin count second → IsOpWithin count (option_or first second)
within_or count None second p q = q
within_or count (Some op) second p q = p

within_unless : (count : ℕ) (b : Bool) (before : Option DiskOp) → IsOpWithin count before → IsOpWithin count (if b then None else before)
within_unless count true before p = tt
within_unless count false before p = p

pub op_within : (s : Settings) (entry : What) (outs : List Out) (before : Option DiskOp) → All (IsNodeOutput s) outs → IsOpWithin (length s.nodes) before
    → IsOpWithin (length s.nodes) (op_with entry outs before)
op_within s entry outs before all p =
    within_or (length s.nodes) (disk_of outs) (if is_answer entry then None else before) (disk_within s outs all) (within_unless (length s.nodes) (is_answer entry) before p)

-- a node that does not take part in the cluster sends nothing
feeds_send_nothing : (b : Bool) (op : Option DiskOp) → packets_of (when b out.Feed ++ disk_outs op) ≡ []
feeds_send_nothing true None = refl
feeds_send_nothing true (Some op) = refl
feeds_send_nothing false None = refl
feeds_send_nothing false (Some op) = refl

step_sends_nothing : (me : ℕ) (clean : Bool) (number : ℕ) (entry : What) (cause : Option BootCause)
    → packets_of (boot_step_outs me clean number entry cause) ≡ []
step_sends_nothing me clean number entry None = feeds_send_nothing (not (is_begin entry)) (boot_op me clean number entry)
step_sends_nothing me clean number entry (Some cause) = refl

boot_sends_nothing : (s : Settings) (me : ℕ) (clean : Bool) (number : ℕ) (entry : What) (b : Bool)
    → packets_of (if b then boot_step_outs me clean number entry (boot_halt s entry) else []) ≡ []
boot_sends_nothing s me clean number entry true = step_sends_nothing me clean number entry (boot_halt s entry)
boot_sends_nothing s me clean number entry false = refl

by_phase : (s : Settings) (me : ℕ) (clean : Bool) (number : ℕ) (entry : What) (booting : Bool) (live : Bool) (lively : List Out) → live ≡ false
    → packets_of (if booting then boot_outs s me clean number entry else (if live then lively else [])) ≡ []
by_phase s me clean number entry true live lively quiet = boot_sends_nothing s me clean number entry (is_boot_step entry)
by_phase s me clean number entry false live lively quiet = ap (λ b. packets_of (if b then lively else [])) quiet

pub quiet_sends_nothing : (s : Settings) (me : ℕ) (log : List Line) (entry : Entry) → is_live (phase s log) ≡ false
    → packets_of (newest_outs (with_entry s me log entry)) ≡ []
unfolding with_entry outs_at
quiet_sends_nothing s me log entry quiet =
    by_phase s me _ _ (read_as s me log entry.what) (is_booting (phase s log)) (is_live (phase s log))
    (live_outs s me (taken_in log entry.tick (read_as s me log entry.what)) (read_as s me log entry.what)
    (mail_feeds entry.tick log (read_as s me log entry.what)) (deadly_of (message_of (read_as s me log entry.what)))) quiet

-- ---- one entry more

pub adds_node : (s : Settings) (d : List Moment) (i : ℕ) (entry : What)
    → node s i (Adds i entry ∷ d) ≡ handed s i (time d) entry (node s i d)
unfolding node
adds_node s d i entry = ap (λ b. if b then handed s i (time d) entry (node s i d) else node s i d) (equal_to_itself i)

pub one_adds : (s : Settings) (d : List Moment) (i : ℕ) (entry : What) → OneNode s d (Adds i entry ∷ d) i (packets_of (outs_of s i (Adds i entry ∷ d)))
unfolding node time packets given_out
one_adds s d i entry =
    record {
      same_time = refl;
      others = λ j apart. ap (λ b. if b then handed s j (time d) entry (node s j d) else node s j d) apart;
      sends = refl;
    }

-- what is sent is appended
pub sends_added : (s : Settings) (d : List Moment) (i : ℕ) (entry : What) → packets_of (outs_of s i (Adds i entry ∷ d)) ≢ []
    → sends_at s (Adds i entry) d ≡ true
unfolding node packets given_out
sends_added s d i entry some = longer_joined (packets s d) (packets_of (outs_of s i (Adds i entry ∷ d))) some

-- a seat that stands for all that another stands for is handed an entry in its place
pub handed_by_copy : (old copy new : Seat) (t : ℕ) (entry : What) (outs : List Out)
    → steps_of copy.node ≡ steps_of old.node → copy.op ≡ old.op
    → ((s : Settings) (me : ℕ) (n : Running) → SeatFor old s me n → SeatFor copy s me n)
    → HandedSeat copy new t entry outs → HandedSeat old new t entry outs
handed_by_copy old copy new t entry outs steps ops stands is =
    record {
      room = is.room ∙ steps;
      op = is.op ∙ ap (λ op. op_with entry outs op) ops;
      stands = λ s me n seat on due. is.stands s me n (stands s me n seat) on due;
      gives = λ s me n seat on. is.gives s me n (stands s me n seat) on;
      ranks = λ s me n seat on. is.ranks s me n (stands s me n seat) on;
    }

gives_added : (w : Nodes) (d : List Moment) (i : ℕ) (old new : Seat) (entry : What) (outs : List Out) → ClusterFor w d → slice_get w.seats i ≡ Some old
    → (node w.settings i d).on ≡ true → HandedSeat old new w.time entry outs
    → outs ≡ outs_of w.settings i (Adds i entry ∷ d)
gives_added w d i old new entry outs is here on hands =
    hands.gives w.settings i (node w.settings i d) (is.nodes i old here) on
    ∙ (ap (λ t. newest_outs (handed w.settings i t entry (node w.settings i d)).log) is.times
    ∙ ap (λ n. newest_outs n.log) (sym (adds_node w.settings d i entry)))

keeps_op : (outs : List Out) (entry : What) (old : Option DiskOp) → is_answer entry ≡ false → disk_of outs ≡ None → op_with entry outs old ≡ old
keeps_op outs entry old plain none =
    ap (λ disk. option_or disk (if is_answer entry then None else old)) none ∙ ap (λ b. if b then None else old) plain

-- an operation that is out stays out, as the entry is no answer
op_kept : (w : Nodes) (d : List Moment) (i : ℕ) (entry : What)
    → is_answer entry ≡ false → is_some (op_out (node w.settings i d).log) ≡ true
    → op_out (node w.settings i (Adds i entry ∷ d)).log ≡ op_out (node w.settings i d).log
unfolding handed logged
op_kept w d i entry kind out_now =
    let at : Entry = record { tick = tick_of (node w.settings i d).clock; what = entry } in
    let due : IsDue (node w.settings i d) entry = λ e. absurd (let z : false ≡ true = sym kind ∙ e in cc) in
    let plain : is_answer (read_as w.settings i (node w.settings i d).log entry) ≡ false = answer_read w.settings i (node w.settings i d).log entry due ∙ kind in
    let none : disk_of (newest_outs (with_entry w.settings i (node w.settings i d).log at)) ≡ None =
    silent_while_out w.settings i (node w.settings i d).log at plain out_now in
    ap (λ n. op_out n.log) (adds_node w.settings d i entry)
    ∙ (sym (op_entry w.settings i (node w.settings i d).log at due) ∙ keeps_op (newest_outs (with_entry w.settings i (node w.settings i d).log at)) entry (op_out (node w.settings i d).log) kind none)

hand_world : (w : Nodes) (d : List Moment) (i : ℕ) (old new : Seat) (entry : What) (outs : List Out)
    → ClusterFor w d → slice_get w.seats i ≡ Some old → HasRoom w → (node w.settings i d).on ≡ true → IsDue (node w.settings i d) entry
    → HandedSeat old new w.time entry outs
    → ClusterFor (seated w i new (packets_of outs)) (Adds i entry ∷ d)
hand_world w d i old new entry outs is here room on due hands =
    let after = adds_node w.settings d i entry in
    let own_seat : SeatFor new w.settings i (node w.settings i (Adds i entry ∷ d)) =
    subst (λ n. SeatFor new w.settings i n) (sym after)
    (subst (λ t. SeatFor new w.settings i (handed w.settings i t entry (node w.settings i d))) is.times
    (hands.stands w.settings i (node w.settings i d) (is.nodes i old here) on due)) in
    let all = hands.ranks w.settings i (node w.settings i d) (is.nodes i old here) on in
    let gives = gives_added w d i old new entry outs is here on hands in
    let clock : (node w.settings i (Adds i entry ∷ d)).clock ≡ (node w.settings i d).clock =
    ap (λ n. n.clock) after ∙ clock_handed w.settings i (time d) entry (node w.settings i d) in
    with_seat w d (Adds i entry ∷ d) i new (packets_of outs) is (slice_get_within w.seats i old here)
    (subst (λ outs. OneNode w.settings d (Adds i entry ∷ d) i (packets_of outs)) (sym gives) (one_adds w.settings d i entry))
    (record {
      own = own_seat;
      clock = λ still. subst (λ c. c ≤ latest_clock (time (Adds i entry ∷ d))) (sym clock)
          (subst (λ t. (node w.settings i d).clock ≤ latest_clock t) (sym (one_adds w.settings d i entry).same_time) (is.clocks i (seat_configured w d i old is here) on));
      receive = receivers_of w.settings outs all;
      target = subst (λ op. IsOpWithin (length w.settings.nodes) op) (sym hands.op) (op_within w.settings entry outs old.op all (is.targets i old here));
      room = (let a = room i old here in let b = hands.room in omega arith);
    })

-- the world after its seat was handed an entry, and the packets sent
pub handed_world : (w new : Nodes) (i : ℕ) (old after : Seat) (entry : What) (outs : List Out)
    → slice_get w.seats i ≡ Some old → HasRoom w → HandedSeat old after w.time entry outs → new ≡ seated w i after (packets_of outs)
    → Handed w new i entry outs
handed_world w new i old after entry outs here room hands e =
    record {
      frame = record { settings = ap (λ w. w.settings) e; steps = ap (λ w. w.steps) e; count = ap (λ w. length w.seats) e ∙ length-set w.seats i after };
      stands = λ d is on due. subst (λ n. ClusterFor n (Adds i entry ∷ d)) (sym e) (hand_world w d i old after entry outs is here room on due hands);
      gives = λ d is on. gives_added w d i old after entry outs is here on hands;
      ranks = λ d is on. hands.ranks w.settings i (node w.settings i d) (is.nodes i old here) on;
      keeps = λ d is on kind out_now. op_kept w d i entry kind out_now;
    }

pub unhanded_world : (w new : Nodes) (i : ℕ) (old after : Seat) (entry : What) (outs : List Out)
    → slice_get w.seats i ≡ Some old → HandedSeat old after w.time entry outs → new ≡ w → packets_of outs ≢ []
    → Unhanded w new i entry
unhanded_world w new i old after entry outs here hands e some =
    record {
      same = e;
      cause = λ d is on. sends_added w.settings d i entry (λ none. some (ap packets_of (gives_added w d i old after entry outs is here on hands) ∙ none));
    }

-- where nothing is sent the packets stay
unsent : (w new : Nodes) (i : ℕ) (after : Seat) (outs : List Out) → packets_of outs ≡ [] → new ≡ record w { seats = slice_set w.seats i after }
    → new ≡ seated w i after (packets_of outs)
unsent w new i after outs none e =
    e ∙ ap (λ packets. record w { seats = slice_set w.seats i after; packets = packets }) (sym (append-nil w.packets) ∙ ap (λ more. w.packets ++ more) (sym none))

-- the world after its seat was handed an entry that sent nothing
pub silent_world : (w new : Nodes) (i : ℕ) (old after : Seat) (entry : What) (outs : List Out)
    → slice_get w.seats i ≡ Some old → HasRoom w → HandedSeat old after w.time entry outs → packets_of outs ≡ []
    → new ≡ record w { seats = slice_set w.seats i after }
    → Handed w new i entry outs
silent_world w new i old after entry outs here room hands none e = handed_world w new i old after entry outs here room hands (unsent w new i after outs none e)

quiet_outs : (w : Nodes) (d : List Moment) (i : ℕ) (old new : Seat) (entry : What) (outs : List Out) → ClusterFor w d → slice_get w.seats i ≡ Some old
    → (node w.settings i d).on ≡ true → is_live (phase w.settings (node w.settings i d).log) ≡ false → HandedSeat old new w.time entry outs
    → packets_of outs ≡ []
unfolding handed logged
quiet_outs w d i old new entry outs is here on quiet hands =
    ap packets_of (hands.gives w.settings i (node w.settings i d) (is.nodes i old here) on)
    ∙ quiet_sends_nothing w.settings i (node w.settings i d).log (record { tick = tick_of (node w.settings i d).clock; what = entry }) quiet

-- the world after the seat of a node that does not take part was handed an entry
pub quiet_world : (w new : Nodes) (i : ℕ) (old after : Seat) (entry : What) (outs : List Out)
    → slice_get w.seats i ≡ Some old → HasRoom w → HandedSeat old after w.time entry outs
    → ((s : Settings) (me : ℕ) (n : Running) → SeatFor old s me n → n.on ≡ true → is_live (phase s n.log) ≡ false)
    → new ≡ record w { seats = slice_set w.seats i after }
    → Handed w new i entry outs
quiet_world w new i old after entry outs here room hands quiet e =
    record {
      frame = record { settings = ap (λ w. w.settings) e; steps = ap (λ w. w.steps) e; count = ap (λ w. length w.seats) e ∙ length-set w.seats i after };
      stands = λ d is on due.
          let none = quiet_outs w d i old after entry outs is here on (quiet w.settings i (node w.settings i d) (is.nodes i old here) on) hands in
          let same = unsent w new i after outs none e in
          subst (λ n. ClusterFor n (Adds i entry ∷ d)) (sym same) (hand_world w d i old after entry outs is here room on due hands);
      gives = λ d is on. gives_added w d i old after entry outs is here on hands;
      ranks = λ d is on. hands.ranks w.settings i (node w.settings i d) (is.nodes i old here) on;
      keeps = λ d is on kind out_now. op_kept w d i entry kind out_now;
    }

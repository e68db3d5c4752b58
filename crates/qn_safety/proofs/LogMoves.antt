-- What an event is to the log of one node, and what stays in one boot.
use Rattle.std.proofs.Common.{◌≡◌, ℕ, ◌≤◌, Bool, true, false, List, [], ◌∷◌, Some, None, Option, refl, sym, ap, ◌∙◌, subst, arith, ◌==◌, if◌then◌else◌}
use Rattle.std.specs.Prelude.{slice_get}
use Rattle.std.specs.Option.{option_map_or}
use Rattle.std.proofs.lemmas.Bool.{eqb-true}
use Rattle.qn_base.specs.lemmas.Options.{value_tested}
use Rattle.qn_base.specs.lemmas.Bools.{never_both}
use Rattle.qn_base.specs.lemmas.Elements.{get_in}
use Rattle.qn_model.specs.declared.configuration.Settings.{Settings}
use Rattle.qn_model.specs.declared.times.Timing.{Timing}
use Rattle.qn_model.specs.declared.packets.Packet.{Packet}
use Rattle.qn_model.specs.declared.packets.Packet.TheVariants as packet
use Rattle.qn_model.specs.declared.packets.Sent.{Sent}
use Rattle.qn_model.specs.declared.entries.What.{What}
use Rattle.qn_model.specs.declared.entries.What.TheVariants as what
use Rattle.qn_model.specs.declared.outputs.DiskOp.{DiskOp}
use Rattle.qn_model.specs.declared.events.Event.{Event}
use Rattle.qn_model.specs.declared.events.Event.TheVariants as event
use Rattle.qn_model.specs.lemmas.Rules.{both_allowed}
use Rattle.qn_model.specs.lemmas.Moments.{node_boots}
use Rattle.qn_model.specs.lemmas.Entries.{failed_answers}
use Rattle.qn_model.specs.Log.{Line, claimed, incarnation}
use Rattle.qn_model.specs.Phases.{phase, is_booting}
use Rattle.qn_model.specs.Fitting.{answers_op, fits, read_as}
use Rattle.qn_model.specs.NodeOutputs.{is_begin}
use Rattle.qn_model.specs.Moments.{Before, Itself, Later, Moment, Passes, Boots, Adds, Feeds, Ends, tick_of, begin_of, booted, time, node, packets}
use Rattle.qn_model.specs.World.{World, op_at, failed, numbered}
use Rattle.qn_model.specs.Rules.{refusal, is_on, may_be_done, may_deliver}
use Rattle.qn_model.specs.Steps.{AllAllowed, answered, entry_of, fails, happens, landed, lands_late, run, step}
use Rattle.qn_safety.specs.Clocks.{RunsOn}
use Rattle.qn_safety.specs.LogMoves.{ComesOf, LogMove, Rests, Enters, Begins, is_boot_of}
use Rattle.qn_safety.specs.Timed.{AllRuled, IsTimedRun, IsUp}
use Rattle.qn_safety.proofs.Logs.{Made, OneMore, before_outs}
use Rattle.qn_safety.proofs.Outs.{plain_no_answer}
use Rattle.qn_safety.proofs.Stays.{boot_past_later}
use Rattle.qn_safety.proofs.Numbers.{claimed_same, up_number}
use Rattle.qn_safety.proofs.Runs.{Turn, IsApart, IsPass, IsBoot, IsAdd, IsFeed, IsEnd, turn, boots_le, ruled_before, sound, span, booted_boots, boots_apart, handed_boots}
use Rattle.qn_safety.proofs.Origins.{booted_log, handed_log, line_of, line_tick, line_what, begin_line, sent_among, Sending}
use Rattle.qn_safety.proofs.Seats.{seat_of}
use Rattle.qn_safety.proofs.Held.{Held}
use Rattle.qn_safety.proofs.Events.{IsAllowed, allowed_of, earlier_allowed, newest_allowed, run_step, stage}
use Rattle.qn_safety.proofs.Says.{PacketReason}

-- true time never falls
time_step : (moment : Moment) (earlier : List Moment) → time earlier ≤ time (moment ∷ earlier)
unfolding time
time_step (Passes dt clocks) earlier = omega arith
time_step (Boots rank base clean) earlier = omega arith
time_step (Adds rank entry) earlier = omega arith
time_step (Feeds rank) earlier = omega arith
time_step (Ends rank) earlier = omega arith

pub time_le : (old new : List Moment) → Before old new → time old ≤ time new
time_le old new Itself = omega arith
time_le old new (Later newest {new = rest} more) = let p = time_le old rest more in let q = time_step newest rest in omega arith

pub boots_never_fall : (s : Settings) (rank : ℕ) (old new : List Moment) → Before old new → (node s rank old).boots ≤ (node s rank new).boots
boots_never_fall s rank old new back = boots_le s rank back

pub log_grows : (s : Settings) (t : Timing) (rank : ℕ) (old new moments : List Moment) → IsTimedRun s t moments → RunsOn s rank old new moments
    → Before (node s rank old).log (node s rank new).log
log_grows s t rank old new moments timed runs = (span rank (ruled_before runs.back timed.ruled) runs.order runs.same runs.on).grows

-- the claim stays along a log once its boot has ended
claim_stays : {s : Settings} {me : ℕ} {old new : List Line} → Made s me new → Before old new → is_booting (phase s old) ≡ false → claimed new ≡ claimed old
claim_stays made Itself booted = refl
claim_stays (OneMore it made) (Later newest {new = rest} more) booted =
    claimed_same it (boot_past_later (OneMore it made) (Later newest more) booted) ∙ claim_stays made more booted

pub incarnation_stays : (s : Settings) (t : Timing) (rank : ℕ) (old new moments : List Moment) → IsTimedRun s t moments → RunsOn s rank old new moments → IsUp s rank old
    → incarnation (node s rank new).log ≡ incarnation (node s rank old).log
incarnation_stays s t rank old new moments timed runs up =
    let ruled = ruled_before runs.back timed.ruled in
    let now = sound ruled rank in
    let was = sound (ruled_before runs.order ruled) rank in
    let grows = (span rank ruled runs.order runs.same runs.on).grows in
    let named = up_number now.made (boot_past_later now.made grows up.booted) (now.living runs.on) in
    let named_then = up_number was.made up.booted (was.living up.on) in
    named.has ∙ sym named.claims ∙ claim_stays now.made grows up.booted ∙ named_then.claims ∙ sym named_then.has

-- an entry that is read is itself or a tick
comes_if : (of : Event) (rank : ℕ) (entry : What) (b : Bool) → ComesOf of rank entry → ComesOf of rank (if b then entry else what.Tick)
comes_if of rank entry true comes = comes
comes_if of rank entry false comes = tt

-- a moment of an event that boots nothing: an entry that it adds to a rank comes of the event
abbrev Tells : Event → ℕ → Moment → Type 0
Tells of rank (Adds other entry) = other ≡ rank → ComesOf of rank entry
Tells of rank (Boots other base clean) = ⊥
Tells of rank (Passes dt clocks) = Unit {0}
Tells of rank (Feeds other) = Unit {0}
Tells of rank (Ends other) = Unit {0}

by_turn : (s : Settings) (of : Event) (rank : ℕ) (moment : Moment) (earlier : List Moment) → Turn s rank earlier moment → is_boot_of rank of ≡ false → Tells of rank moment
    → LogMove s rank of earlier (moment ∷ earlier)
by_turn s of rank moment earlier (IsApart m e at) none tells = Rests none (sym (ap (λ n. n.boots) e)) (ap (λ n. n.log) e)
by_turn s of rank moment earlier (IsPass dt clocks e at) none tells = Rests none (sym (ap (λ n. n.boots) e)) (ap (λ n. n.log) e)
by_turn s of rank moment earlier (IsFeed e at) none tells = Rests none (sym (ap (λ n. n.boots) e)) (ap (λ n. n.log) e)
by_turn s of rank moment earlier (IsEnd e at) none tells = Rests none (sym (ap (λ n. n.boots) e)) (ap (λ n. n.log) e)
by_turn s of rank moment earlier (IsBoot base clean e at) none tells = absurd tells
by_turn s of rank moment earlier (IsAdd entry e at) none tells =
    let line = line_of s rank (tick_of (node s rank earlier).clock) entry (node s rank earlier).log in
    let reads : ComesOf of rank (read_as s rank (node s rank earlier).log entry) = comes_if of rank entry (fits s rank (node s rank earlier).log entry) (tells refl) in
    Enters line none (sym (ap (λ n. n.boots) e ∙ handed_boots s rank (time earlier) entry (node s rank earlier)))
    (ap (λ n. n.log) e ∙ handed_log s rank (time earlier) entry (node s rank earlier))
    (subst (λ w. ComesOf of rank w) (sym (line_what s rank (tick_of (node s rank earlier).clock) entry (node s rank earlier).log)) reads)
    (line_tick s rank (tick_of (node s rank earlier).clock) entry (node s rank earlier).log)

moves : (s : Settings) (of : Event) (rank : ℕ) (moment : Moment) (earlier : List Moment) → is_boot_of rank of ≡ false → Tells of rank moment
    → LogMove s rank of earlier (moment ∷ earlier)
moves s of rank moment earlier none tells = by_turn s of rank moment earlier (turn s rank earlier moment) none tells

stays : (s : Settings) (of : Event) (rank : ℕ) (moments : List Moment) → is_boot_of rank of ≡ false → LogMove s rank of moments moments
stays s of rank moments none = Rests none refl refl

-- a rank boots
begins_with : (clean : Bool) → is_begin (begin_of clean) ≡ true
begins_with false = refl
begins_with true = refl

boot_move : (s : Settings) (of : Event) (rank other base : ℕ) (clean : Bool) (earlier : List Moment) (b : Bool) → (other == rank) ≡ b → is_boot_of rank of ≡ b
    → LogMove s rank of earlier (Boots other base clean ∷ earlier)
boot_move s of rank other base clean earlier false apart none =
    let e = boots_apart s rank other base clean earlier apart in
    Rests none (sym (ap (λ n. n.boots) e)) (ap (λ n. n.log) e)
boot_move s of rank other base clean earlier true own some =
    subst (λ r. LogMove s rank of earlier (Boots r base clean ∷ earlier)) (sym (eqb-true other rank own)) own_boot
  where
    own_boot : LogMove s rank of earlier (Boots rank base clean ∷ earlier)
    own_boot =
        let e = node_boots s rank base clean earlier in
        Begins (line_of s rank (tick_of base) (begin_of clean) []) some
        (ap (λ n. n.boots) e ∙ booted_boots s rank (time earlier) base clean (node s rank earlier))
        (ap (λ n. n.log) e ∙ booted_log s rank (time earlier) base clean (node s rank earlier))
        (ap is_begin (begin_line s rank (tick_of base) clean) ∙ begins_with clean)

-- an answer of the disk is neither a view nor an answer of the device
answer_comes : (of : Event) (rank : ℕ) (op : Option DiskOp) (entry : What) → answers_op op entry ≡ true → ComesOf of rank entry
answer_comes of rank op (what.View installed) e = never_both (answers_op op (what.View installed)) e (plain_no_answer op (what.View installed) refl)
answer_comes of rank op (what.Device agrees) e = never_both (answers_op op (what.Device agrees)) e (plain_no_answer op (what.Device agrees) refl)
answer_comes of rank op what.Begin e = tt
answer_comes of rank op what.BeginClean e = tt
answer_comes of rank op (what.Header seen) e = tt
answer_comes of rank op (what.SlotRead other seen) e = tt
answer_comes of rank op (what.MailChecked seen) e = tt
answer_comes of rank op (what.Claimed ok) e = tt
answer_comes of rank op (what.Cleared ok) e = tt
answer_comes of rank op (what.MailRead seen) e = tt
answer_comes of rank op (what.MailWritten other ok) e = tt
answer_comes of rank op (what.Ask ask) e = tt
answer_comes of rank op (what.Tell tell) e = tt
answer_comes of rank op what.Tick e = tt
answer_comes of rank op (what.Stopped ok) e = tt
answer_comes of rank op what.Leave e = tt
answer_comes of rank op (what.Closed ok) e = tt

-- a packet that was sent is an Ask or a Tell
packet_comes : {s : Settings} {t : Timing} (of : Event) (rank number : ℕ) (sent : Sent) (moments : List Moment) → AllRuled s t moments
    → slice_get (packets s moments) number ≡ Some sent → ComesOf of rank (entry_of sent.packet)
packet_comes {s = s} {t = t} of rank number sent moments ruled there = by_content sent.packet refl
  where
    reason : (k : ℕ) × Sending s k sent moments
    reason = sent_among {t = t} sent moments ruled (get_in (packets s moments) number sent there)

    by_content : (content : Packet) → sent.packet ≡ content → ComesOf of rank (entry_of content)
    by_content (packet.Ask ask) e = tt
    by_content (packet.Tell tell) e = tt
    by_content (packet.Hello from) e = tt
    by_content (packet.Heard from said standing) e = tt
    by_content (packet.Announce from seen) e = tt
    by_content (packet.Vote agrees) e =
        absurd (subst (λ content. PacketReason s (reason.0) (reason.1.past) (before_outs reason.1.line reason.1.past) reason.1.line.what sent.to content) e reason.1.reason)

-- what each event that is allowed is to a log
move_step : (s : Settings) (t : Timing) (rank : ℕ) (e : Event) (w : World) → refusal s t e w ≡ None → ((j : ℕ) → Held s (seat_of s j w)) → AllRuled s t w.moments
    → LogMove s rank e w.moments (step s t e w).moments
unfolding refusal step
move_step s t rank (event.Pass dt clocks) w ok held ruled = moves s (event.Pass dt clocks) rank (Passes dt clocks) w.moments refl tt
move_step s t rank (event.Boot other base) w ok held ruled = boot_move s (event.Boot other base) rank other.0 base false w.moments (other.0 == rank) refl refl
move_step s t rank (event.BootClean other base) w ok held ruled = boot_move s (event.BootClean other base) rank other.0 base true w.moments (other.0 == rank) refl refl
move_step s t rank (event.Crash other) w ok held ruled = moves s (event.Crash other) rank (Ends other.0) w.moments refl tt
move_step s t rank (event.Feed other) w ok held ruled = moves s (event.Feed other) rank (Feeds other.0) w.moments refl tt
move_step s t rank (event.Operator other message) w ok held ruled = stays s (event.Operator other message) rank w.moments refl
move_step s t rank (event.Land other) w ok held ruled = by_op (op_at s other.0 w)
  where
    by_op : (o : Option DiskOp) → LogMove s rank (event.Land other) w.moments (option_map_or (λ op. landed s t other.0 op w) o w).moments
    by_op None = stays s (event.Land other) rank w.moments refl
    by_op (Some op) = stays s (event.Land other) rank w.moments refl
move_step s t rank (event.Late other number) w ok held ruled = by_op (numbered (w.left other.0) number)
  where
    by_op : (o : Option DiskOp) → LogMove s rank (event.Late other number) w.moments (option_map_or (λ op. lands_late other.0 number op w) o w).moments
    by_op None = stays s (event.Late other number) rank w.moments refl
    by_op (Some op) = stays s (event.Late other number) rank w.moments refl
move_step s t rank (event.Done other) w ok held ruled = by_took (w.took other.0) refl
  where
    on : is_on s other.0 w ≡ true
    on = (both_allowed (is_on s other.0 w) (may_be_done s other.0 w) 3 5 ok).0

    by_took : (o : Option What) → w.took other.0 ≡ o → LogMove s rank (event.Done other) w.moments (option_map_or (λ entry. answered other.0 entry w) o w).moments
    by_took None e = stays s (event.Done other) rank w.moments refl
    by_took (Some entry) e = moves s (event.Done other) rank (Adds other.0 entry) w.moments refl
        (λ own. answer_comes (event.Done other) rank (op_at s other.0 w) entry ((held other.0).answers on entry e))
move_step s t rank (event.Fail other) w ok held ruled = by_op (op_at s other.0 w)
  where
    by_op : (o : Option DiskOp) → LogMove s rank (event.Fail other) w.moments (option_map_or (λ op. fails s other.0 op w) o w).moments
    by_op None = stays s (event.Fail other) rank w.moments refl
    by_op (Some op) = moves s (event.Fail other) rank (Adds other.0 (failed op)) w.moments refl
        (λ own. answer_comes (event.Fail other) rank (Some op) (failed op) (failed_answers op))
move_step s t rank (event.View other installed) w ok held ruled =
    moves s (event.View other installed) rank (Adds other.0 (what.View installed)) w.moments refl
    (λ own. subst (λ k. event.View other installed ≡ event.View (record { 0 = k }) installed) own refl)
move_step s t rank (event.Device other agrees) w ok held ruled =
    moves s (event.Device other agrees) rank (Adds other.0 (what.Device agrees)) w.moments refl
    (λ own. subst (λ k. event.Device other agrees ≡ event.Device (record { 0 = k }) agrees) own refl)
move_step s t rank (event.Deliver other number) w ok held ruled =
    let rules = both_allowed (is_on s other.0 w) (may_deliver s other.0 number w) 3 8 ok in
    let sent = value_tested (λ (x : Sent). x.to.0 == other.0) (slice_get (packets s w.moments) number) rules.1 in
    subst (λ o. LogMove s rank (event.Deliver other number) w.moments (option_map_or (λ x. happens (Adds other.0 (entry_of x.packet)) w) o w).moments) (sym sent.1)
    (moves s (event.Deliver other number) rank (Adds other.0 (entry_of sent.0.packet)) w.moments refl
    (λ own. packet_comes {t = t} (event.Deliver other number) rank number sent.0 w.moments ruled sent.1))
move_step s t rank (event.Tick other) w ok held ruled = moves s (event.Tick other) rank (Adds other.0 what.Tick) w.moments refl (λ own. tt)
move_step s t rank (event.Stopped other) w ok held ruled = moves s (event.Stopped other) rank (Adds other.0 (what.Stopped true)) w.moments refl (λ own. tt)
move_step s t rank (event.Unstopped other) w ok held ruled = moves s (event.Unstopped other) rank (Adds other.0 (what.Stopped false)) w.moments refl (λ own. tt)
move_step s t rank (event.Leave other) w ok held ruled = moves s (event.Leave other) rank (Adds other.0 what.Leave) w.moments refl (λ own. tt)

pub move_of : (s : Settings) (t : Timing) (e : Event) (earlier : List Event) (rank : ℕ) → IsAllowed s t (e ∷ earlier)
    → LogMove s rank e (run s t earlier).moments (run s t (e ∷ earlier)).moments
move_of s t e earlier rank allowed =
    let here = stage (earlier_allowed allowed) in
    subst (λ w. LogMove s rank e (run s t earlier).moments w.moments) (sym (run_step s t e earlier))
    (move_step s t rank e (run s t earlier) (newest_allowed allowed) here.held here.ruled)

pub log_move : (s : Settings) (t : Timing) (e : Event) (earlier : List Event) (rank : ℕ) → AllAllowed s t (e ∷ earlier)
    → LogMove s rank e (run s t earlier).moments (run s t (e ∷ earlier)).moments
log_move s t e earlier rank all = move_of s t e earlier rank (allowed_of s t (e ∷ earlier) all)

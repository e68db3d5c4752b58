-- With wait_for_all on nothing is released before some node saw a view of all nodes.
use Rattle.std.proofs.Common.{◌≡◌, ℕ, suc, zero, ◌≤◌, Bool, true, false, List, [], ◌∷◌, length, Some, None, Option, refl, sym, ap, ◌∙◌, subst, arith, ◌&&◌, ◌||◌, not, if◌then◌else◌, is_some, nat_le}
use Rattle.std.specs.Option.{option_map_or}
use Rattle.std.proofs.lemmas.Bool.{false≢true, not-true}
use Rattle.qn_base.specs.declared.ids.Rank.{Rank}
use Rattle.qn_base.specs.declared.ids.View.{View}
use Rattle.qn_model.specs.declared.configuration.Settings.{Settings}
use Rattle.qn_model.specs.declared.times.Timing.{Timing}
use Rattle.qn_model.specs.declared.packets.Tell.{Tell}
use Rattle.qn_model.specs.declared.packets.Packet.{Packet}
use Rattle.qn_model.specs.declared.packets.Packet.TheVariants as packet
use Rattle.qn_model.specs.declared.entries.What.{What}
use Rattle.qn_model.specs.declared.entries.What.TheVariants as what
use Rattle.qn_model.specs.declared.outputs.DiskOp.{DiskOp}
use Rattle.qn_model.specs.Log.{Line}
use Rattle.qn_model.specs.NodeVotes.{view, answers, released, quorate, quorate_with_tie}
use Rattle.qn_model.specs.Fitting.{fits, read_as, answers_op}
use Rattle.qn_model.specs.Moments.{Before, Itself, Later}
use Rattle.qn_safety.specs.Earlier.{before_length, before_then, before_tail}
use Rattle.qn_model.specs.declared.packets.Sent.{Sent}
use Rattle.qn_model.specs.Moments.{Moment, begin_of, Adds, node, packets}
use Rattle.qn_safety.specs.Timed.{IsSentTo, WasSent, AllRuled, IsAdded}
use Rattle.qn_model.specs.declared.events.Event.{Event}
use Rattle.qn_model.specs.declared.events.Event.TheVariants as event
use Rattle.qn_model.specs.World.{World, op_at, failed, numbered}
use Rattle.qn_model.specs.Rules.{refusal, is_on, may_be_done}
use Rattle.qn_model.specs.Steps.{happens, landed, answered, fails, lands_late, entry_of, step, run}
use Rattle.std.specs.Prelude.{slice_get}
use Rattle.qn_base.specs.lemmas.Bools.{never_both, first_of_both, second_of_both}
use Rattle.qn_model.specs.declared.votes.VoteWhat.TheVariants as vote
use Rattle.qn_model.specs.lemmas.Rules.{both_allowed}
use Rattle.qn_model.specs.lemmas.Entries.{failed_answers}
use Rattle.qn_model.specs.Tie.{breaks_tie}
use Rattle.qn_model.specs.Votes.{is_released, releases, are_all_in, quorum_of, expected_votes, counted_votes, present_view}
use Rattle.qn_model.specs.NodeVotes.{votes, vote_of}
use Rattle.qn_model.specs.Steps.{AllAllowed}
use Rattle.qn_safety.specs.Releases.{AllInView}
use Rattle.qn_safety.proofs.Says.{PacketReason, TellReason}
use Rattle.qn_safety.proofs.Logs.{Made, before_outs, made_line}
use Rattle.qn_safety.proofs.Runs.{sound, ruled_before, newest_rule, earlier_ruled}
use Rattle.qn_safety.proofs.Origins.{Origin, ByEntry, ByBoot, origin, AddedLine, added_line, Sending, sent_at}
use Rattle.qn_safety.proofs.Outs.{plain_no_answer}
use Rattle.qn_safety.proofs.Fence.{added_then}
use Rattle.qn_safety.proofs.Tells.{read_tell}
use Rattle.qn_safety.proofs.Landings.{AddedBy, added_by}
use Rattle.qn_safety.proofs.Events.{IsAllowed, OneEvent, allowed_of, allowed_before, stage, run_step}

-- what released a node: a view of all nodes, or a Tell that says released
pub data Release (s : Settings) (log : List Line) : Type 0 where
  ByView : (line : Line) (past : List Line) (seen : View) → Before (line ∷ past) log → line.what ≡ what.View seen → are_all_in s.nodes seen.members ≡ true → Release s log
  ByTell : (line : Line) (past : List Line) (tell : Tell) → Before (line ∷ past) log → line.what ≡ what.Tell tell → tell.released ≡ true → Release s log

release_later : {s : Settings} {log : List Line} (line : Line) → Release s log → Release s (line ∷ log)
release_later newest (ByView line past seen back reads all) = ByView line past seen (Later newest back) reads all
release_later newest (ByTell line past tell back reads released') = ByTell line past tell (Later newest back) reads released'

-- what a line that releases is
release_here : (s : Settings) (line : Line) (past : List Line) (entry : What) → line.what ≡ entry → releases s (vote_of past entry) ≡ true → Release s (line ∷ past)
release_here s line past (what.View seen) reads e = ByView line past seen Itself reads e
release_here s line past (what.Tell tell) reads e = by_test (answers past tell && tell.released) refl e
  where
    by_test : (b : Bool) → (answers past tell && tell.released) ≡ b → releases s (if b then vote.Released else vote.Tick) ≡ true → Release s (line ∷ past)
    by_test true both r = ByTell line past tell Itself reads (second_of_both (answers past tell) tell.released both)
    by_test false both r = absurd (false≢true r)
release_here s line past what.Begin reads e = absurd (false≢true e)
release_here s line past what.BeginClean reads e = absurd (false≢true e)
release_here s line past (what.Header seen) reads e = absurd (false≢true e)
release_here s line past (what.SlotRead other seen) reads e = absurd (false≢true e)
release_here s line past (what.MailChecked seen) reads e = absurd (false≢true e)
release_here s line past (what.Claimed ok) reads e = absurd (false≢true e)
release_here s line past (what.Cleared ok) reads e = absurd (false≢true e)
release_here s line past (what.MailRead seen) reads e = absurd (false≢true e)
release_here s line past (what.MailWritten other ok) reads e = absurd (false≢true e)
release_here s line past (what.Ask ask) reads e = absurd (false≢true e)
release_here s line past (what.Device agrees) reads e = absurd (false≢true e)
release_here s line past what.Tick reads e = absurd (false≢true e)
release_here s line past (what.Stopped ok) reads e = absurd (false≢true e)
release_here s line past what.Leave reads e = absurd (false≢true e)
release_here s line past (what.Closed ok) reads e = absurd (false≢true e)

pub release_of : (s : Settings) (log : List Line) → s.wait_for_all ≡ true → released s log ≡ true → Release s log
unfolding is_released votes
release_of s [] waits e = never_both s.wait_for_all waits (not-true s.wait_for_all e)
release_of s (line ∷ past) waits e = by_here (releases s (vote_of past line.what)) refl e (λ was. release_of s past waits was)
  where
    by_here : (b : Bool) → releases s (vote_of past line.what) ≡ b → (b || is_released s (votes past)) ≡ true → (is_released s (votes past) ≡ true → Release s past) → Release s (line ∷ past)
    by_here true here or rest = release_here s line past line.what refl here
    by_here false here or rest = release_later line (rest or)

same_release : (s : Settings) (line : Line) (past : List Line) → released s (before_outs line past) ≡ released s (line ∷ past)
unfolding votes
same_release s line past = refl

-- some node was handed a view of all nodes, and took it
pub record SawAll (s : Settings) (moments : List Moment) : Type 0 where
  pub rank : ℕ
  pub seen : View
  pub line : Line
  pub past : List Line
  pub before : List Moment
  pub added : IsAdded s rank line past before moments
  pub reads : line.what ≡ what.View seen
  pub all : are_all_in s.nodes seen.members ≡ true

saw_later : {s : Settings} {old new : List Moment} → Before old new → SawAll s old → SawAll s new
saw_later back it = record { rank = it.rank; seen = it.seen; line = it.line; past = it.past; before = it.before; added = added_then it.added back; reads = it.reads; all = it.all }

no_begin_view : (clean : Bool) (entry : What) (seen : View) → entry ≡ begin_of clean → entry ≡ what.View seen → ⊥
no_begin_view clean entry seen begins reads = begin_view clean (sym begins ∙ reads)
  where
    begin_view : (clean : Bool) → begin_of clean ≡ what.View seen → ⊥
    begin_view false e = cc
    begin_view true e = cc

no_begin_tell : (clean : Bool) (entry : What) (tell : Tell) → entry ≡ begin_of clean → entry ≡ what.Tell tell → ⊥
no_begin_tell clean entry tell begins reads = begin_tell clean (sym begins ∙ reads)
  where
    begin_tell : (clean : Bool) → begin_of clean ≡ what.Tell tell → ⊥
    begin_tell false e = cc
    begin_tell true e = cc

never_released : (s : Settings) (i : ℕ) → s.wait_for_all ≡ true → released s (node s i []).log ≡ true → ⊥
unfolding node is_released votes
never_released s i waits e = false≢true (sym (ap not waits) ∙ e)

-- a node that is released goes back, by Tells, to one that saw a view of all nodes
saw_all : (s : Settings) (t : Timing) (fuel i : ℕ) (moments : List Moment) → length moments ≤ fuel → AllRuled s t moments → s.wait_for_all ≡ true
    → released s (node s i moments).log ≡ true → SawAll s moments
saw_all s t fuel i [] long ruled waits e = absurd (never_released s i waits e)
saw_all s t zero i (m ∷ moments) long ruled waits e = absurd (omega arith)
saw_all s t (suc fuel) i (m ∷ moments) long ruled waits e =
    by_release (λ k ms shorter r e'. saw_all s t fuel k ms shorter r waits e') (release_of s (node s i (m ∷ moments)).log waits e)
  where
    by_sending : ((k : ℕ) (ms : List Moment) → length ms ≤ fuel → AllRuled s t ms → released s (node s k ms).log ≡ true → SawAll s ms)
        → (tell : Tell) (before : List Moment) → tell.released ≡ true → Before before moments → (sent : IsSentTo s i (packet.Tell tell) before)
        → (k : ℕ) (sending : Sending s k sent.sent before) → SawAll s (m ∷ moments)
    by_sending rest tell before says back sent k sending =
        let why : TellReason s k sending.past (before_outs sending.line sending.past) sending.line.what sent.sent.to tell =
        subst (λ c. PacketReason s k sending.past (before_outs sending.line sending.past) sending.line.what sent.sent.to c) sent.content sending.reason in
        let then' : released s (sending.line ∷ sending.past) ≡ true = sym (same_release s sending.line sending.past) ∙ sym why.release ∙ says in
        let at : List Moment = Adds k sending.added.entry ∷ sending.before in
        let at_back : Before at (m ∷ moments) = Later m (before_then sending.added.back back) in
        let short = before_length (before_then sending.added.back back) in
        let shorter : length at ≤ fuel = omega arith in
        saw_later at_back (rest k at shorter (ruled_before at_back ruled) (subst (λ log. released s log ≡ true) (sym sending.added.gave) then'))

    by_origin : ((k : ℕ) (ms : List Moment) → length ms ≤ fuel → AllRuled s t ms → released s (node s k ms).log ≡ true → SawAll s ms)
        → (line : Line) (past : List Line) (tell : Tell) → line.what ≡ what.Tell tell → tell.released ≡ true → Origin s i line past (m ∷ moments) → SawAll s (m ∷ moments)
    by_origin rest line past tell reads says (ByBoot clean begins first) = absurd (no_begin_tell clean line.what tell begins reads)
    by_origin rest line past tell reads says (ByEntry before added same) =
        let ruled_add = ruled_before added.back ruled in
        let parts = added_line s i added.entry line past before added.gave in
        let entry : added.entry ≡ what.Tell tell = read_tell s i past added.entry tell (sym parts.reads ∙ reads) in
        let sent : IsSentTo s i (packet.Tell tell) before = subst (λ w. WasSent s i w before) entry (newest_rule ruled_add).1 in
        let found = sent_at (earlier_ruled ruled_add) sent in
        by_sending rest tell before says (inner added.back) sent found.0 found.1
      where
        inner : {x : Moment} {xs : List Moment} → Before (x ∷ xs) (m ∷ moments) → Before xs moments
        inner Itself = Itself
        inner (Later newest more) = before_tail more

    by_release : ((k : ℕ) (ms : List Moment) → length ms ≤ fuel → AllRuled s t ms → released s (node s k ms).log ≡ true → SawAll s ms)
        → Release s (node s i (m ∷ moments)).log → SawAll s (m ∷ moments)
    by_release rest (ByTell line past tell back reads says) = by_origin rest line past tell reads says (origin s i line past (m ∷ moments) back)
    by_release rest (ByView line past seen back reads all) = by_view (origin s i line past (m ∷ moments) back)
      where
        by_view : Origin s i line past (m ∷ moments) → SawAll s (m ∷ moments)
        by_view (ByBoot clean begins first) = absurd (no_begin_view clean line.what seen begins reads)
        by_view (ByEntry before added same) = record { rank = i; seen = seen; line = line; past = past; before = before; added = added; reads = reads; all = all }

pub released_saw_all : {s : Settings} {t : Timing} {moments : List Moment} → AllRuled s t moments → (i : ℕ) → s.wait_for_all ≡ true → released s (node s i moments).log ≡ true → SawAll s moments
released_saw_all {s = s} {t = t} {moments = moments} ruled i waits e = saw_all s t (length moments) i moments (omega arith) ruled waits e

-- what is quorate by the votes is released, and so is what the breaker lets be quorate
counted_released : (s : Settings) (log : List Line) (tick : ℕ) → quorate s log tick ≡ true → released s log ≡ true
counted_released s log tick e =
    second_of_both (is_some (present_view (votes log))) (is_released s (votes log))
    (first_of_both (is_some (present_view (votes log)) && is_released s (votes log)) (nat_le (quorum_of s (expected_votes s (votes log))) (counted_votes s (votes log) tick)) e)

either_released : (counted free breaks : Bool) → (counted ≡ true → free ≡ true) → (counted || (free && breaks)) ≡ true → free ≡ true
either_released true free breaks by_votes e = by_votes refl
either_released false true breaks by_votes e = refl
either_released false false breaks by_votes e = absurd (false≢true e)

pub quorate_released : (s : Settings) (log : List Line) (tick : ℕ) → quorate_with_tie s log tick ≡ true → released s log ≡ true
quorate_released s log tick e =
    either_released (quorate s log tick) (released s log) (breaks_tie s (votes log)) (counted_released s log tick) e

same_entry : {i k : ℕ} {first second : What} {xs ys : List Moment} → Adds i first ∷ xs ≡ Adds k second ∷ ys → first ≡ second
same_entry e = cc

same_rank : {i k : ℕ} {first second : What} {xs ys : List Moment} → Adds i first ∷ xs ≡ Adds k second ∷ ys → i ≡ k
same_rank e = cc

same_view_of : {first second : View} → what.View first ≡ what.View second → first ≡ second
same_view_of e = cc

not_grown : {P : Type 0} (k : ℕ) (entry : What) (ms : List Moment) → ms ≡ Adds k entry ∷ ms → P
not_grown k entry ms e = absurd (let q : length ms ≡ suc (length ms) = ap length e in omega arith)

no_view_answer : (op : Option DiskOp) (entry : What) (seen : View) → answers_op op entry ≡ true → entry ≡ what.View seen → ⊥
no_view_answer op entry seen answers e = never_both (answers_op op (what.View seen)) (subst (λ w. answers_op op w ≡ true) e answers) (plain_no_answer op (what.View seen) refl)

no_view_packet : (content : Packet) (seen : View) → entry_of content ≡ what.View seen → ⊥
no_view_packet (packet.Ask ask) seen e = cc
no_view_packet (packet.Tell tell) seen e = cc
no_view_packet (packet.Hello from) seen e = cc
no_view_packet (packet.Heard from said standing) seen e = cc
no_view_packet (packet.Announce from other) seen e = cc
no_view_packet (packet.Vote agrees) seen e = cc

module _ (s : Settings) (t : Timing) (w : World) (k : ℕ) (seen : View) (answers : (r : ℕ) (entry : What) → is_on s r w ≡ true → w.took r ≡ Some entry → answers_op (op_at s r w) entry ≡ true) where
  ViewStep : Event → Type 0
  ViewStep e = (rank : Rank) × (e ≡ event.View rank seen) × (rank.0 ≡ k)

  -- only the event of a view adds a view
  view_step : (e : Event) → refusal s t e w ≡ None → (step s t e w).moments ≡ Adds k (what.View seen) ∷ w.moments → ViewStep e
  unfolding step refusal ViewStep
  view_step (event.Pass dt clocks) ok e = absurd (cc)
  view_step (event.Boot rank base) ok e = absurd (cc)
  view_step (event.BootClean rank base) ok e = absurd (cc)
  view_step (event.Crash rank) ok e = absurd (cc)
  view_step (event.Land rank) ok e = by_op (op_at s rank.0 w) e
    where
      by_op : (o : Option DiskOp) → (option_map_or (λ op. landed s t rank.0 op w) o w).moments ≡ Adds k (what.View seen) ∷ w.moments → ViewStep (event.Land rank)
      by_op None e = not_grown k (what.View seen) w.moments e
      by_op (Some op) e = not_grown k (what.View seen) w.moments e
  view_step (event.Done rank) ok e = by_took (w.took rank.0) refl e
    where
      by_took : (o : Option What) → w.took rank.0 ≡ o → (option_map_or (λ entry. answered rank.0 entry w) o w).moments ≡ Adds k (what.View seen) ∷ w.moments → ViewStep (event.Done rank)
      by_took None took e = not_grown k (what.View seen) w.moments e
      by_took (Some entry) took e =
          absurd (no_view_answer (op_at s rank.0 w) entry seen (answers rank.0 entry ((both_allowed (is_on s rank.0 w) (may_be_done s rank.0 w) 3 5 ok).0) took) (same_entry e))
  view_step (event.Fail rank) ok e = by_op (op_at s rank.0 w) e
    where
      by_op : (o : Option DiskOp) → (option_map_or (λ op. fails s rank.0 op w) o w).moments ≡ Adds k (what.View seen) ∷ w.moments → ViewStep (event.Fail rank)
      by_op None e = not_grown k (what.View seen) w.moments e
      by_op (Some op) e = absurd (no_view_answer (Some op) (failed op) seen (failed_answers op) (same_entry e))
  view_step (event.Late rank number) ok e = by_op (numbered (w.left rank.0) number) e
    where
      by_op : (o : Option DiskOp) → (option_map_or (λ op. lands_late rank.0 number op w) o w).moments ≡ Adds k (what.View seen) ∷ w.moments → ViewStep (event.Late rank number)
      by_op None e = not_grown k (what.View seen) w.moments e
      by_op (Some op) e = not_grown k (what.View seen) w.moments e
  view_step (event.View rank view) ok e = (rank, ap (λ v. event.View rank v) (same_view_of (same_entry e)), same_rank e)
  view_step (event.Deliver rank number) ok e = by_sent (slice_get (packets s w.moments) number) e
    where
      by_sent : (o : Option Sent) → (option_map_or (λ x. happens (Adds rank.0 (entry_of x.packet)) w) o w).moments ≡ Adds k (what.View seen) ∷ w.moments → ViewStep (event.Deliver rank number)
      by_sent None e = not_grown k (what.View seen) w.moments e
      by_sent (Some sent) e = absurd (no_view_packet sent.packet seen (same_entry e))
  view_step (event.Device rank agrees) ok e = absurd (no_view (what.Device agrees) (λ q. cc) (same_entry e))
    where
      no_view : (entry : What) → (entry ≡ what.View seen → ⊥) → entry ≡ what.View seen → ⊥
      no_view entry f q = f q
  view_step (event.Tick rank) ok e = absurd (cc)
  view_step (event.Stopped rank) ok e = absurd (cc)
  view_step (event.Unstopped rank) ok e = absurd (cc)
  view_step (event.Leave rank) ok e = absurd (cc)
  view_step (event.Feed rank) ok e = absurd (cc)
  view_step (event.Operator rank message) ok e = not_grown k (what.View seen) w.moments e

view_of_event : {s : Settings} {t : Timing} {e : Event} {earlier : List Event} (k : ℕ) (seen : View) → IsAllowed s t (e ∷ earlier)
    → (run s t (e ∷ earlier)).moments ≡ Adds k (what.View seen) ∷ (run s t earlier).moments → (rank : Rank) × (e ≡ event.View rank seen) × (rank.0 ≡ k)
unfolding ViewStep
view_of_event {s = s} {t = t} {e = e} {earlier = earlier} k seen (OneEvent form ok allowed) adds =
    view_step s t (run s t earlier) k seen (λ r entry on took. (((stage allowed).held r).answers) on entry took) e ok (ap (λ w. w.moments) (sym (run_step s t e earlier)) ∙ adds)

read_view : (s : Settings) (me : ℕ) (past : List Line) (entry : What) (seen : View) → read_as s me past entry ≡ what.View seen → entry ≡ what.View seen
read_view s me past entry seen e = by_test (fits s me past entry) e
  where
    by_test : (b : Bool) → (if b then entry else what.Tick) ≡ what.View seen → entry ≡ what.View seen
    by_test true q = q
    by_test false q = absurd (cc)

-- in the events of the world: some node was handed a view of all nodes, and took it
pub view_event : {s : Settings} {t : Timing} {events : List Event} → IsAllowed s t events → SawAll s (run s t events).moments → AllInView s t events
view_event {s = s} {t = t} {events = events} allowed saw = by_event (view_of_event saw.rank saw.seen (allowed_before it.back allowed) adds)
  where
    it : AddedBy s t saw.rank saw.line saw.before events
    it = added_by saw.rank saw.line saw.past saw.before allowed saw.added

    log : List Line
    log = (node s saw.rank (run s t it.earlier).moments).log

    parts : AddedLine s saw.rank saw.added.entry saw.line saw.past saw.before
    parts = added_line s saw.rank saw.added.entry saw.line saw.past saw.before saw.added.gave

    is_view_entry : it.entry ≡ what.View saw.seen
    is_view_entry = read_view s saw.rank (node s saw.rank saw.before).log it.entry saw.seen (sym it.reads ∙ saw.reads)

    adds : (run s t (it.e ∷ it.earlier)).moments ≡ Adds saw.rank (what.View saw.seen) ∷ (run s t it.earlier).moments
    adds = it.adds ∙ ap (λ w. Adds saw.rank w ∷ saw.before) is_view_entry ∙ ap (λ ms. Adds saw.rank (what.View saw.seen) ∷ ms) (sym it.same)

    behind : saw.past ≡ log
    behind = parts.behind ∙ ap (λ ms. (node s saw.rank ms).log) (sym it.same)

    fitting : fits s saw.rank log (what.View saw.seen) ≡ true
    fitting =
        let ruled = ruled_before saw.added.back ((stage allowed).ruled) in
        let line_is = made_line (subst (λ l. Made s saw.rank l) saw.added.gave ((sound ruled saw.rank).made)) in
        subst (λ l. fits s saw.rank l (what.View saw.seen) ≡ true) behind (subst (λ w. fits s saw.rank saw.past w ≡ true) saw.reads line_is.fitting)

    by_event : (rank : Rank) × (it.e ≡ event.View rank saw.seen) × (rank.0 ≡ saw.rank) → AllInView s t events
    by_event found = record {
      rank = found.0;
      seen = saw.seen;
      earlier = it.earlier;
      back = subst (λ e. Before (e ∷ it.earlier) events) found.1 it.back;
      fit = subst (λ r. fits s r (node s r (run s t it.earlier).moments).log (what.View saw.seen) ≡ true) (sym found.2) fitting;
      all = saw.all;
    }

-- with wait_for_all on, a quorate node goes back to such an event
pub quorate_saw_all : (s : Settings) (t : Timing) (events : List Event) (rank tick : ℕ) → s.wait_for_all ≡ true → AllAllowed s t events
    → quorate_with_tie s (node s rank (run s t events).moments).log tick ≡ true → AllInView s t events
quorate_saw_all s t events rank tick waits all e =
    let allowed = allowed_of s t events all in
    view_event allowed (released_saw_all ((stage allowed).ruled) rank waits (quorate_released s (node s rank (run s t events).moments).log tick e))

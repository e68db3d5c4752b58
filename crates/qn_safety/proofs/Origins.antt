-- Where a line of a log was added, and where a packet was sent.
use Rattle.std.proofs.Common.{◌≡◌, ℕ, Bool, true, false, List, [], ◌∷◌, ◌++◌, refl, sym, ap, ◌∙◌, subst, arith, if◌then◌else◌, ◌⊎◌, inl, inr, All}
use Rattle.std.proofs.lemmas.Bool.{false≢true}
use Rattle.qn_base.specs.declared.ids.Rank.{Rank}
use Rattle.qn_model.specs.declared.configuration.Settings.{Settings}
use Rattle.qn_model.specs.declared.times.Timing.{Timing}
use Rattle.qn_model.specs.declared.packets.Packet.{Packet}
use Rattle.qn_model.specs.declared.packets.Packet.TheVariants as packet
use Rattle.qn_model.specs.declared.entries.What.{What}
use Rattle.qn_model.specs.declared.outputs.Out.{Out}
use Rattle.qn_model.specs.declared.outputs.Out.TheVariants as out
use Rattle.qn_model.specs.Log.{Line, ask_place, is_answer}
use Rattle.qn_model.specs.Phases.{phase, is_live}
use Rattle.qn_model.specs.Fitting.{read_as}
use Rattle.qn_model.specs.NodeOutputs.{outs_at, taken_in, with_entry, newest_outs}
use Rattle.qn_model.specs.Moments.{Before, Itself, Later}
use Rattle.qn_safety.specs.Earlier.{before_length}
use Rattle.qn_model.specs.declared.packets.Sent.{Sent}
use Rattle.qn_model.specs.Moments.{Moment, Passes, Boots, Adds, Feeds, Ends, Running, tick_of, logged, handed, begin_of, booted, time, node, given_out, packets, packets_of}
use Rattle.qn_safety.specs.Timed.{IsUp, IsSameBoot, IsSentTo, AllRuled, IsAdded}
use Rattle.std.proofs.lemmas.List.Elements.{All-head, All-tail}
use Rattle.qn_base.specs.lemmas.Elements.{IsIn, First, Behind, get_in, none_in}
use Rattle.qn_model.specs.lemmas.Moments.{never_logged, node_adds, node_boots}
use Rattle.qn_model.specs.lemmas.Phases.{live_booted}
use Rattle.qn_safety.proofs.Says.{Says, PacketReason}
use Rattle.qn_safety.proofs.Logs.{Made, before_outs, made_line, line_says}
use Rattle.qn_safety.proofs.Runs.{Turn, IsApart, IsPass, IsBoot, IsAdd, IsFeed, IsEnd, turn, sound, newest_rule, earlier_ruled, handed_boots}

-- where a line of a log comes from: it was added at a moment of the same boot, or began the boot
pub data Origin (s : Settings) (i : ℕ) (line : Line) (past : List Line) (moments : List Moment) : Type 0 where
  ByEntry : (before : List Moment) → (added : IsAdded s i line past before moments) → IsSameBoot s i (Adds i added.entry ∷ before) moments → Origin s i line past moments
  ByBoot : (clean : Bool) → line.what ≡ begin_of clean → past ≡ [] → Origin s i line past moments

newest_or : {x y : Line} {xs ys : List Line} → Before (x ∷ xs) (y ∷ ys) → (x ∷ xs ≡ y ∷ ys) ⊎ Before (x ∷ xs) ys
newest_or Itself = inl refl
newest_or (Later newest more) = inr more

none_before : {A : Type 0} {x : A} {xs : List A} {P : Type 0} → Before (x ∷ xs) [] → P
none_before back = absurd (let long = before_length back in omega arith)

-- the line that an entry adds
unfoldable pub line_of : Settings → ℕ → ℕ → What → List Line → Line
line_of s i tick entry past = record {
  tick = tick;
  what = read_as s i past entry;
  asked = (if is_answer (read_as s i past entry) then ask_place past else 0);
  outs = outs_at s i past tick (read_as s i past entry) (taken_in past tick (read_as s i past entry));
}

pub handed_log : (s : Settings) (i now : ℕ) (entry : What) (n : Running) → (handed s i now entry n).log ≡ line_of s i (tick_of n.clock) entry n.log ∷ n.log
unfolding handed logged with_entry line_of
handed_log s i now entry n = refl

pub booted_log : (s : Settings) (i now base : ℕ) (clean : Bool) (n : Running) → (booted s i now base clean n).log ≡ line_of s i (tick_of base) (begin_of clean) [] ∷ []
unfolding booted handed logged with_entry line_of
booted_log s i now base clean n = refl

pub begin_line : (s : Settings) (i tick : ℕ) (clean : Bool) → (line_of s i tick (begin_of clean) []).what ≡ begin_of clean
unfolding line_of
begin_line s i tick false = refl
begin_line s i tick true = refl

pub line_what : (s : Settings) (i tick : ℕ) (entry : What) (past : List Line) → (line_of s i tick entry past).what ≡ read_as s i past entry
unfolding line_of
line_what s i tick entry past = refl

pub line_tick : (s : Settings) (i tick : ℕ) (entry : What) (past : List Line) → (line_of s i tick entry past).tick ≡ tick
unfolding line_of
line_tick s i tick entry past = refl

origin_later : (s : Settings) (i : ℕ) (line : Line) (past : List Line) (moment : Moment) (earlier : List Moment)
    → (node s i (moment ∷ earlier)).boots ≡ (node s i earlier).boots → Origin s i line past earlier → Origin s i line past (moment ∷ earlier)
origin_later s i line past moment earlier same (ByEntry before added boot) =
    ByEntry before (record { entry = added.entry; back = Later moment added.back; gave = added.gave }) (boot ∙ sym same)
origin_later s i line past moment earlier same (ByBoot clean begins first) = ByBoot clean begins first

pub head_same : {x y : Line} {xs ys : List Line} → x ∷ xs ≡ y ∷ ys → x ≡ y
head_same e = cc

pub tail_same : {x y : Line} {xs ys : List Line} → x ∷ xs ≡ y ∷ ys → xs ≡ ys
tail_same e = cc

origin_turn : (s : Settings) (i : ℕ) (line : Line) (past : List Line) (earlier : List Moment) (moment : Moment) → Turn s i earlier moment
    → (Before (line ∷ past) (node s i earlier).log → Origin s i line past earlier)
    → Before (line ∷ past) (node s i (moment ∷ earlier)).log → Origin s i line past (moment ∷ earlier)
origin_turn s i line past earlier moment (IsApart m e at) rest back =
    origin_later s i line past moment earlier (ap (λ n. n.boots) e) (rest (subst (λ n. Before (line ∷ past) n.log) e back))
origin_turn s i line past earlier moment (IsPass dt clocks e at) rest back =
    origin_later s i line past moment earlier (ap (λ n. n.boots) e) (rest (subst (λ n. Before (line ∷ past) n.log) e back))
origin_turn s i line past earlier moment (IsFeed e at) rest back =
    origin_later s i line past moment earlier (ap (λ n. n.boots) e) (rest (subst (λ n. Before (line ∷ past) n.log) e back))
origin_turn s i line past earlier moment (IsEnd e at) rest back =
    origin_later s i line past moment earlier (ap (λ n. n.boots) e) (rest (subst (λ n. Before (line ∷ past) n.log) e back))
origin_turn s i line past earlier moment (IsBoot base clean e at) rest back =
    at_begin (newest_or (subst (λ log. Before (line ∷ past) log) (ap (λ n. n.log) e ∙ booted_log s i (time earlier) base clean (node s i earlier)) back))
  where
    at_begin : (line ∷ past ≡ line_of s i (tick_of base) (begin_of clean) [] ∷ []) ⊎ Before (line ∷ past) [] → Origin s i line past (moment ∷ earlier)
    at_begin (inl same) = ByBoot clean (ap (λ l. l.what) (head_same same) ∙ begin_line s i (tick_of base) clean) (tail_same same)
    at_begin (inr none) = none_before none
origin_turn s i line past earlier moment (IsAdd entry e at) rest back =
    at_entry (newest_or (subst (λ log. Before (line ∷ past) log) log_now back))
  where
    log_now : (node s i (moment ∷ earlier)).log ≡ line_of s i (tick_of (node s i earlier).clock) entry (node s i earlier).log ∷ (node s i earlier).log
    log_now = ap (λ n. n.log) e ∙ handed_log s i (time earlier) entry (node s i earlier)

    at_entry : (line ∷ past ≡ line_of s i (tick_of (node s i earlier).clock) entry (node s i earlier).log ∷ (node s i earlier).log) ⊎ Before (line ∷ past) (node s i earlier).log → Origin s i line past (moment ∷ earlier)
    at_entry (inl same) = ByEntry earlier (record { entry = entry; back = Itself; gave = log_now ∙ sym same }) refl
    at_entry (inr more) = origin_later s i line past moment earlier (ap (λ n. n.boots) e ∙ handed_boots s i (time earlier) entry (node s i earlier)) (rest more)

-- each line of a log has an origin
pub origin : (s : Settings) (i : ℕ) (line : Line) (past : List Line) (moments : List Moment) → Before (line ∷ past) (node s i moments).log → Origin s i line past moments
origin s i line past [] back = none_before (subst (λ log. Before (line ∷ past) log) (never_logged s i) back)
origin s i line past (moment ∷ earlier) back = origin_turn s i line past earlier moment (turn s i earlier moment) (λ more. origin s i line past earlier more) back

-- what is known of the line that an entry added, by the node before it
pub record AddedLine (s : Settings) (i : ℕ) (entry : What) (line : Line) (past : List Line) (before : List Moment) : Type 0 where
  pub reads : line.what ≡ read_as s i past entry
  pub behind : past ≡ (node s i before).log
  pub at : line.tick ≡ tick_of (node s i before).clock

pub added_line : (s : Settings) (i : ℕ) (entry : What) (line : Line) (past : List Line) (before : List Moment)
    → (node s i (Adds i entry ∷ before)).log ≡ line ∷ past → AddedLine s i entry line past before
added_line s i entry line past before gave =
    let same : line ∷ past ≡ line_of s i (tick_of (node s i before).clock) entry (node s i before).log ∷ (node s i before).log =
    sym gave ∙ ap (λ n. n.log) (node_adds s i entry before) ∙ handed_log s i (time before) entry (node s i before) in
    record {
      reads = ap (λ l. l.what) (head_same same) ∙ line_what s i (tick_of (node s i before).clock) entry (node s i before).log
          ∙ ap (λ p. read_as s i p entry) (sym (tail_same same));
      behind = tail_same same;
      at = ap (λ l. l.tick) (head_same same) ∙ line_tick s i (tick_of (node s i before).clock) entry (node s i before).log;
    }

in_either : {A : Type 0} (x : A) (xs ys : List A) → IsIn x (xs ++ ys) → IsIn x xs ⊎ IsIn x ys
in_either x [] ys there = inr there
in_either x (y ∷ xs) ys First = inl First
in_either x (z ∷ xs) ys (Behind y there) = more (in_either x xs ys there)
  where
    more : IsIn x xs ⊎ IsIn x ys → IsIn x (z ∷ xs) ⊎ IsIn x ys
    more (inl it) = inl (Behind z it)
    more (inr it) = inr it

pub all_in : {A : Type 0} (P : A → Type 0) (x : A) (xs : List A) → All P xs → IsIn x xs → P x
all_in P x (y ∷ xs) all First = All-head P x xs all
all_in P x [] all there = elim there [ ]
all_in P x (z ∷ xs) all (Behind y there) = all_in P x xs (All-tail P z xs all) there

sent_in : (sent : Sent) (outs : List Out) → IsIn sent (packets_of outs) → IsIn (out.Send sent.to sent.packet) outs
sent_in sent [] there = none_in there
sent_in sent (out.Send to content ∷ outs) there = newest (first_or there) (λ more. sent_in sent outs more)
  where
    first_or : {y : Sent} {ys : List Sent} → IsIn sent (y ∷ ys) → (sent ≡ y) ⊎ IsIn sent ys
    first_or First = inl refl
    first_or (Behind y more) = inr more

    newest : (sent ≡ record { to = to; packet = content }) ⊎ IsIn sent (packets_of outs) → (IsIn sent (packets_of outs) → IsIn (out.Send sent.to sent.packet) outs)
        → IsIn (out.Send sent.to sent.packet) (out.Send to content ∷ outs)
    newest (inl same) rest = subst (λ p. IsIn (out.Send p.to p.packet) (out.Send to content ∷ outs)) (sym same) First
    newest (inr more) rest = Behind (out.Send to content) (rest more)
sent_in sent (out.Stop ∷ outs) there = Behind out.Stop (sent_in sent outs there)
sent_in sent (out.Start ∷ outs) there = Behind out.Start (sent_in sent outs there)
sent_in sent (out.Feed ∷ outs) there = Behind out.Feed (sent_in sent outs there)
sent_in sent (out.Disk op ∷ outs) there = Behind (out.Disk op) (sent_in sent outs there)
sent_in sent (out.Disarm ∷ outs) there = Behind out.Disarm (sent_in sent outs there)
sent_in sent (out.Halt kind ∷ outs) there = Behind (out.Halt kind) (sent_in sent outs there)

-- where a packet was sent: a node that was up added an entry, and the packet came out of it
pub record Sending (s : Settings) (k : ℕ) (sent : Sent) (moments : List Moment) : Type 0 where
  pub line : Line
  pub past : List Line
  pub before : List Moment
  pub added : IsAdded s k line past before moments
  pub up : IsUp s k before
  pub behind : past ≡ (node s k before).log
  pub sends : IsIn (out.Send sent.to sent.packet) line.outs
  pub reason : PacketReason s k past (before_outs line past) line.what sent.to sent.packet

packet_live : (s : Settings) (k : ℕ) (past log : List Line) (entry : What) (to : Rank) (content : Packet) → PacketReason s k past log entry to content → is_live (phase s past) ≡ true
packet_live s k past log entry to (packet.Tell tell) why = why.live
packet_live s k past log entry to (packet.Ask ask) why = why.live
packet_live s k past log entry to (packet.Hello from) why = absurd why
packet_live s k past log entry to (packet.Heard from said standing) why = absurd why
packet_live s k past log entry to (packet.Announce from seen) why = absurd why
packet_live s k past log entry to (packet.Vote agrees) why = absurd why

first_not_live : (s : Settings) → is_live (phase s []) ≡ false
unfolding phase
first_not_live s = refl

not_live_first : (s : Settings) (past : List Line) → past ≡ [] → is_live (phase s past) ≡ true → ⊥
not_live_first s past e live = false≢true (sym (first_not_live s) ∙ subst (λ p. is_live (phase s p) ≡ true) e live)

sent_later : {s : Settings} {k : ℕ} {sent : Sent} {moments : List Moment} (moment : Moment) → Sending s k sent moments → Sending s k sent (moment ∷ moments)
sent_later moment it = record {
  line = it.line;
  past = it.past;
  before = it.before;
  added = record { entry = it.added.entry; back = Later moment it.added.back; gave = it.added.gave };
  up = it.up;
  behind = it.behind;
  sends = it.sends;
  reason = it.reason;
}

-- the newest line of a node gave a packet
sent_now : {s : Settings} {t : Timing} {moment : Moment} {earlier : List Moment} (k : ℕ) (sent : Sent) → AllRuled s t (moment ∷ earlier)
    → (log : List Line) → (node s k (moment ∷ earlier)).log ≡ log → IsIn (out.Send sent.to sent.packet) (newest_outs log)
    → (line : Line) × (past : List Line) × (log ≡ line ∷ past) × PacketReason s k past (before_outs line past) line.what sent.to sent.packet
    × IsIn (out.Send sent.to sent.packet) line.outs
sent_now k sent ruled [] e there = none_in there
sent_now {s = s} k sent ruled (line ∷ past) e there = (
  line,
  past,
  refl,
  all_in (Says s k past line.tick line.what (before_outs line past)) (out.Send sent.to sent.packet) line.outs
      (line_says (made_line (subst (λ l. Made s k l) e ((sound ruled k).made)))) there,
  there,
)

sent_by_entry : {s : Settings} {t : Timing} {k : ℕ} {earlier : List Moment} (sent : Sent) (entry : What) → AllRuled s t (Adds k entry ∷ earlier)
    → (line : Line) (past : List Line) → (node s k (Adds k entry ∷ earlier)).log ≡ line ∷ past → PacketReason s k past (before_outs line past) line.what sent.to sent.packet
    → IsIn (out.Send sent.to sent.packet) line.outs → Sending s k sent (Adds k entry ∷ earlier)
sent_by_entry {s = s} {k = k} {earlier = earlier} sent entry ruled line past gave why sends =
    let parts = added_line s k entry line past earlier gave in
    record {
      line = line;
      past = past;
      before = earlier;
      added = record { entry = entry; back = Itself; gave = gave };
      up = record {
        on = (newest_rule ruled).0;
        booted = live_booted (phase s (node s k earlier).log) (subst (λ p. is_live (phase s p) ≡ true) parts.behind (packet_live s k past (before_outs line past) line.what sent.to sent.packet why));
      };
      behind = parts.behind;
      sends = sends;
      reason = why;
    }

boot_sends_none : {P : Type 0} (s : Settings) (k base : ℕ) (clean : Bool) (sent : Sent) (earlier : List Moment) (line : Line) (past : List Line)
    → (node s k (Boots k base clean ∷ earlier)).log ≡ line ∷ past → PacketReason s k past (before_outs line past) line.what sent.to sent.packet → P
boot_sends_none s k base clean sent earlier line past gave why =
    let same : line ∷ past ≡ line_of s k (tick_of base) (begin_of clean) [] ∷ [] =
    sym gave ∙ ap (λ n. n.log) (node_boots s k base clean earlier) ∙ booted_log s k (time earlier) base clean (node s k earlier) in
    absurd (not_live_first s past (tail_same same) (packet_live s k past (before_outs line past) line.what sent.to sent.packet why))

sent_given : {s : Settings} {t : Timing} (sent : Sent) (moment : Moment) (earlier : List Moment) → AllRuled s t (moment ∷ earlier)
    → IsIn sent (packets_of (given_out s (moment ∷ earlier))) → (k : ℕ) × Sending s k sent (moment ∷ earlier)
unfolding given_out
sent_given sent (Passes dt clocks) earlier ruled there = none_in there
sent_given sent (Feeds rank) earlier ruled there = none_in there
sent_given sent (Ends rank) earlier ruled there = none_in there
sent_given {s = s} sent (Boots rank base clean) earlier ruled there =
    let now = sent_now rank sent ruled (node s rank (Boots rank base clean ∷ earlier)).log refl (sent_in sent _ there) in
    boot_sends_none s rank base clean sent earlier now.0 now.1 now.2 now.3
sent_given {s = s} sent (Adds rank entry) earlier ruled there =
    let now = sent_now rank sent ruled (node s rank (Adds rank entry ∷ earlier)).log refl (sent_in sent _ there) in
    (rank, sent_by_entry sent entry ruled now.0 now.1 now.2 now.3 now.4)

pub sent_among : {s : Settings} {t : Timing} (sent : Sent) (moments : List Moment) → AllRuled s t moments → IsIn sent (packets s moments) → (k : ℕ) × Sending s k sent moments
unfolding packets
sent_among sent [] ruled there = none_in there
sent_among {s = s} {t = t} sent (moment ∷ earlier) ruled there =
    either (in_either sent (packets s earlier) (packets_of (given_out s (moment ∷ earlier))) there) (λ was. sent_among {t = t} sent earlier (earlier_ruled ruled) was)
  where
    either : IsIn sent (packets s earlier) ⊎ IsIn sent (packets_of (given_out s (moment ∷ earlier))) → (IsIn sent (packets s earlier) → (k : ℕ) × Sending s k sent earlier)
        → (k : ℕ) × Sending s k sent (moment ∷ earlier)
    either (inl was) rest = let it = rest was in (it.0, sent_later moment it.1)
    either (inr now) rest = sent_given sent moment earlier ruled now

-- every packet that was sent came out of an entry of a node that was up
pub sent_at : {s : Settings} {t : Timing} {rank : ℕ} {content : Packet} {moments : List Moment} → AllRuled s t moments → (it : IsSentTo s rank content moments)
    → (k : ℕ) × Sending s k it.sent moments
sent_at {s = s} {moments = moments} ruled it = sent_among it.sent moments ruled (get_in (packets s moments) it.number it.sent it.there)

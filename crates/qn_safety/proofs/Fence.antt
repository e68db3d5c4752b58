-- The fence lemma: a node whose reset was written is not running once msgwait has passed.
use Rattle.std.proofs.Common.{◌≡◌, ℕ, suc, ◌+◌, ◌-◌, ◌*◌, ◌<◌, ◌≤◌, Bool, true, false, List, [], ◌∷◌, length, Some, refl, sym, ap, ◌∙◌, subst, arith, if◌then◌else◌, ◌⊎◌, inl, inr, All}
use Rattle.std.proofs.lemmas.Bool.{false≢true, cases_lt, leb-true}
use Rattle.qn_model.specs.declared.configuration.Settings.{Settings}
use Rattle.qn_model.specs.declared.times.Timing.{Timing}
use Rattle.qn_model.specs.declared.entries.What.{What}
use Rattle.qn_model.specs.declared.entries.What.TheVariants as what
use Rattle.qn_model.specs.declared.outputs.Out.{Out}
use Rattle.qn_model.specs.declared.outputs.Out.TheVariants as out
use Rattle.qn_model.specs.Log.{Line, op_out, ask_place, ask_tick, claimed, claim_of, incarnation, timing, times_of, no_times, disk_of, has_start, has_stop, is_answer, is_view, view_of}
use Rattle.qn_model.specs.Phases.{phase, message_of, in_time, is_booting}
use Rattle.qn_model.specs.NodeOutputs.{mail_feeds, feeds_on, newest_outs}
use Rattle.qn_model.specs.Moments.{Before, Itself, Later}
use Rattle.qn_safety.specs.Earlier.{before_then, before_shorter}
use Rattle.qn_model.specs.Log as LogSpec
use Rattle.qn_model.specs.Moments.{Moment, Adds, Running, tick_of, has_feed, logged, handed, begin_of, booted, time, node}
use Rattle.qn_safety.specs.Timed.{IsUp, IsSameBoot, IsRuled, AllRuled, GetsBadMail, IsAdded, IsTimedRun}
use Rattle.std.proofs.lemmas.List.Elements.{All-head, All-tail}
use Rattle.std.proofs.lemmas.Option.{same_Some}
use Rattle.qn_base.specs.lemmas.Options.{none_is_not_some}
use Rattle.qn_base.specs.lemmas.Bools.{never_both, first_of_both, second_of_both}
use Rattle.qn_model.specs.Timing.{is_safe, has_periods, outlasts_feeds}
use Rattle.qn_safety.proofs.Says.{Says}
use Rattle.qn_safety.proofs.Logs.{Made, OneMore, IsLine, before_outs, made_line, line_says, AnswerOf, answer_of}
use Rattle.qn_safety.proofs.Stays.{boot_past_later}
use Rattle.qn_safety.proofs.Times.{headers_give, timing_known}
use Rattle.qn_safety.proofs.Runs.{Turn, IsApart, IsPass, IsBoot, IsAdd, IsFeed, IsEnd, turn, sound, ruled_before, newest_rule, earlier_ruled, Span, span, same_mid}
use Rattle.qn_safety.proofs.Origins.{Origin, ByEntry, ByBoot, origin, AddedLine, added_line, handed_log, line_of}

-- no tick of a log is above its newest
pub ticks_sorted : {s : Settings} {me : ℕ} {line : Line} {past log : List Line} → Made s me log → Before (line ∷ past) log → line.tick ≤ LogSpec.now log
ticks_sorted made Itself = omega arith
ticks_sorted (OneMore it made) (Later newest more) = let rest = ticks_sorted made more in let order = it.order in omega arith

pub added_then : {s : Settings} {i : ℕ} {line : Line} {past : List Line} {before mid all : List Moment} → IsAdded s i line past before mid → Before mid all → IsAdded s i line past before all
added_then added back = record { entry = added.entry; back = before_then added.back back; gave = added.gave }

no_begin_times : (clean : Bool) (entry : What) (times : Timing) → entry ≡ begin_of clean → times_of entry ≡ Some times → ⊥
no_begin_times false entry times begins gives = none_is_not_some {P = ⊥} times (sym (ap times_of begins) ∙ gives)
no_begin_times true entry times begins gives = none_is_not_some {P = ⊥} times (sym (ap times_of begins) ∙ gives)

-- a node that is up works with the timing of the run
pub timing_up : {s : Settings} {t : Timing} {all : List Moment} (run : IsTimedRun s t all) (i : ℕ) (p : List Moment) → Before p all → IsUp s i p → timing (node s i p).log ≡ t
timing_up {s = s} {t = t} {all = all} run i p back up =
    let state = sound (ruled_before back run.ruled) i in
    timing_known state.made (headers_give heads) up.booted (state.living up.on)
  where
    heads : (line : Line) (past : List Line) (times : Timing) → Before (line ∷ past) (node s i p).log → times_of line.what ≡ Some times → times ≡ t
    heads line past times there gives = by_origin (origin s i line past p there)
      where
        by_origin : Origin s i line past p → times ≡ t
        by_origin (ByEntry before added same) = run.headers i line past before times (added_then added back) gives
        by_origin (ByBoot clean begins first) = absurd (no_begin_times clean line.what times begins gives)

pub feed_is : (P : Out → Type 0) (outs : List Out) → All P outs → has_feed outs ≡ true → P out.Feed
feed_is P [] p e = absurd (false≢true e)
feed_is P (out.Feed ∷ outs) p e = All-head P out.Feed outs p
feed_is P (out.Disk op ∷ outs) p e = feed_is P outs (All-tail P (out.Disk op) outs p) e
feed_is P (out.Stop ∷ outs) p e = feed_is P outs (All-tail P out.Stop outs p) e
feed_is P (out.Start ∷ outs) p e = feed_is P outs (All-tail P out.Start outs p) e
feed_is P (out.Send to content ∷ outs) p e = feed_is P outs (All-tail P (out.Send to content) outs p) e
feed_is P (out.Disarm ∷ outs) p e = feed_is P outs (All-tail P out.Disarm outs p) e
feed_is P (out.Halt kind ∷ outs) p e = feed_is P outs (All-tail P (out.Halt kind) outs p) e

pub mail_is_answer : (entry : What) → feeds_on (message_of entry) ≡ true → is_answer entry ≡ true
mail_is_answer (what.MailRead seen) e = refl
mail_is_answer (what.Header seen) e = refl
mail_is_answer (what.SlotRead other seen) e = refl
mail_is_answer (what.MailChecked seen) e = refl
mail_is_answer (what.Claimed ok) e = refl
mail_is_answer (what.Cleared ok) e = refl
mail_is_answer (what.MailWritten other ok) e = refl
mail_is_answer (what.Closed ok) e = refl
mail_is_answer what.Begin e = absurd (false≢true e)
mail_is_answer what.BeginClean e = absurd (false≢true e)
mail_is_answer (what.View installed) e = absurd (false≢true e)
mail_is_answer (what.Ask ask) e = absurd (false≢true e)
mail_is_answer (what.Tell tell) e = absurd (false≢true e)
mail_is_answer (what.Device agrees) e = absurd (false≢true e)
mail_is_answer what.Tick e = absurd (false≢true e)
mail_is_answer (what.Stopped ok) e = absurd (false≢true e)
mail_is_answer what.Leave e = absurd (false≢true e)

-- feeds of an incarnation after a moment from which it gets bad mail: none was decided later than the read limit allows,
-- and none takes effect later than the feed delay after that
pub record HasLastFeeds (s : Settings) (t : Timing) (j : ℕ) (p now : List Moment) : Type 0 where
  pub decided : (at : ℕ) → (node s j now).decided ≡ Some at → 99 * at ≤ 99 * time p + 100 * t.read_limit + 99
  pub fed : 99 * (node s j now).fed ≤ 99 * time p + 100 * t.read_limit + 99 + 99 * t.feed_delay

pub up_later : {s : Settings} {t : Timing} (j : ℕ) {p now : List Moment} → AllRuled s t now → Before p now → IsUp s j p → IsSameBoot s j p now → (node s j now).on ≡ true → IsUp s j now
up_later {s = s} j ruled back up same on =
    record { on = on; booted = boot_past_later ((sound ruled j).made) ((span j ruled back same on).grows) up.booted }

module _ {s : Settings} {t : Timing} {all : List Moment} (run : IsTimedRun s t all) (j : ℕ) (p : List Moment) (up : IsUp s j p) (bad_mail : GetsBadMail s j p all) where
  -- a feed that an incarnation that gets bad mail decides comes of a read that it had asked for before
  feed_asked_before : (entry : What) (new : List Moment) (line : Line) (past : List Line) → Before (Adds j entry ∷ new) all → Before p new → IsSameBoot s j p new
      → (node s j (Adds j entry ∷ new)).log ≡ line ∷ past → feeds_on (message_of line.what) ≡ true → line.asked ≤ length (node s j p).log
  feed_asked_before entry new line past back since same gave feeds = by_order (cases_lt (length (node s j p).log) line.asked)
    where
      by_order : (length (node s j p).log < line.asked) ⊎ (line.asked ≤ length (node s j p).log) → line.asked ≤ length (node s j p).log
      by_order (inl after) = never_both (feeds_on (message_of line.what)) feeds (bad_mail up line past new (record { entry = entry; back = back; gave = gave }) since same after)
      by_order (inr before) = before

  feed_bound : (entry : What) (new : List Moment) (line : Line) (past : List Line) → Before (Adds j entry ∷ new) all → Before p new → IsSameBoot s j p new
      → (node s j (Adds j entry ∷ new)).log ≡ line ∷ past → has_feed line.outs ≡ true → 99 * time new ≤ 99 * time p + 100 * t.read_limit + 99
  feed_bound entry new line past back since same gave feed =
      by_reason (feed_is (Says s j past line.tick line.what (before_outs line past)) line.outs (line_says it) feed)
    where
      ruled_now : AllRuled s t (Adds j entry ∷ new)
      ruled_now = ruled_before back run.ruled

      ruled_new : AllRuled s t new
      ruled_new = earlier_ruled ruled_now

      on_new : (node s j new).on ≡ true
      on_new = (newest_rule ruled_now).0

      made_now : Made s j (line ∷ past)
      made_now = subst (λ log. Made s j log) gave ((sound ruled_now j).made)

      it : IsLine s j line past
      it = made_line made_now

      parts : AddedLine s j entry line past new
      parts = added_line s j entry line past new gave

      up_new : IsUp s j new
      up_new = up_later j ruled_new since up same on_new

      spans : Span s j p new
      spans = span j ruled_new since same on_new

      asking_tick : (answer : AnswerOf line past) → line.asked ≤ length (node s j p).log → answer.asked.line.tick ≤ tick_of (node s j p).clock
      asking_tick answer early =
          let inside = subst (λ log. Before (answer.asked.line ∷ answer.asked.past) log) parts.behind answer.asked.back in
          let place = answer.place in
          let old = before_shorter inside spans.grows (omega arith) in
          let state = sound (ruled_before since ruled_new) j in
          let newest = ticks_sorted state.made old in
          let order = state.order in
          omega arith

      by_reason : (is_booting (phase s past) ≡ true) ⊎ (mail_feeds line.tick past line.what ≡ true) → 99 * time new ≤ 99 * time p + 100 * t.read_limit + 99
      by_reason (inl boots) = never_both (is_booting (phase s (node s j new).log)) (subst (λ log. is_booting (phase s log) ≡ true) parts.behind boots) up_new.booted
      by_reason (inr mail) =
          let feeds = first_of_both (feeds_on (message_of line.what)) (in_time line.tick past) mail in
          let timely = leb-true line.tick (ask_tick past + (timing past).read_limit) (second_of_both (feeds_on (message_of line.what)) (in_time line.tick past) mail) in
          let answer = answer_of it (mail_is_answer line.what feeds) in
          let asked = asking_tick answer (feed_asked_before entry new line past back since same gave feeds) in
          let tick = answer.asked.tick in
          let times : (timing past).read_limit ≡ t.read_limit = ap (λ u. u.read_limit) (ap timing parts.behind ∙ timing_up run j new (before_then (Later (Adds j entry) Itself) back) up_new) in
          let at = parts.at in
          let slow = spans.slow in
          omega arith

  last_feeds_turn : (new : List Moment) (moment : Moment) → Turn s j new moment → IsRuled s t moment new → Before (moment ∷ new) all → Before p new → IsSameBoot s j p new
      → (node s j (moment ∷ new)).boots ≡ (node s j new).boots → (node s j (moment ∷ new)).on ≡ true → HasLastFeeds s t j p new → HasLastFeeds s t j p (moment ∷ new)
  last_feeds_turn new moment (IsApart m e at) rule back since same boots on was =
      record { decided = λ d is. was.decided d (sym (ap (λ n. n.decided) e) ∙ is); fed = let q = ap (λ n. n.fed) e in let f = was.fed in omega arith }
  last_feeds_turn new moment (IsPass dt clocks e at) rule back since same boots on was =
      record { decided = λ d is. was.decided d (sym (ap (λ n. n.decided) e) ∙ is); fed = let q = ap (λ n. n.fed) e in let f = was.fed in omega arith }
  last_feeds_turn new moment (IsBoot base clean e at) rule back since same boots on was =
      absurd (let q = ap (λ n. n.boots) e ∙ booted_once (node s j new) in omega arith)
    where
      booted_once : (n : Running) → (booted s j (time new) base clean n).boots ≡ suc n.boots
      booted_once n = unfold booted handed logged in refl
  last_feeds_turn new moment (IsFeed e at) rule back since same boots on was =
      record {
        decided = λ d is. was.decided d (sym (ap (λ n. n.decided) e) ∙ is);
        fed = let q = ap (λ n. n.fed) e in let d = was.decided rule.at rule.decided in let soon = rule.in_time in omega arith;
      }
  last_feeds_turn new moment (IsEnd e at) rule back since same boots on was = absurd (false≢true (sym (ap (λ n. n.on) e) ∙ on))
  last_feeds_turn new moment (IsAdd entry e at) rule back since same boots on was =
      record {
        decided = λ d is. by_feed (has_feed (newest_outs (node s j (Adds j entry ∷ new)).log)) refl d (sym (decided_now (node s j new)) ∙ sym (ap (λ n. n.decided) e) ∙ is);
        fed = let q = ap (λ n. n.fed) e ∙ fed_same (node s j new) in let f = was.fed in omega arith;
      }
    where
      log_now : (node s j (Adds j entry ∷ new)).log ≡ line_of s j (tick_of (node s j new).clock) entry (node s j new).log ∷ (node s j new).log
      log_now = ap (λ n. n.log) e ∙ handed_log s j (time new) entry (node s j new)

      fed_same : (n : Running) → (handed s j (time new) entry n).fed ≡ n.fed
      fed_same n = unfold handed logged in refl

      decided_of : (n : Running) → (handed s j (time new) entry n).decided ≡ (if has_feed (newest_outs (handed s j (time new) entry n).log) then Some (time new) else n.decided)
      decided_of n = unfold handed logged in refl

      decided_now : (n : Running) → (handed s j (time new) entry (node s j new)).decided ≡ (if has_feed (newest_outs (node s j (Adds j entry ∷ new)).log) then Some (time new) else (node s j new).decided)
      decided_now n = decided_of (node s j new) ∙ ap (λ m. if has_feed (newest_outs m.log) then Some (time new) else (node s j new).decided) (sym e)

      by_feed : (b : Bool) → has_feed (newest_outs (node s j (Adds j entry ∷ new)).log) ≡ b → (d : ℕ)
          → (if has_feed (newest_outs (node s j (Adds j entry ∷ new)).log) then Some (time new) else (node s j new).decided) ≡ Some d
          → 99 * d ≤ 99 * time p + 100 * t.read_limit + 99
      by_feed true feed d is =
          let bound = feed_bound entry new _ _ back since same log_now (sym (ap (λ log. has_feed (newest_outs log)) log_now) ∙ feed) in
          let now : time new ≡ d = same_Some _ _ (sym (ap (λ b. if b then Some (time new) else (node s j new).decided) feed) ∙ is) in
          omega arith
      by_feed false none d is = was.decided d (sym (ap (λ b. if b then Some (time new) else (node s j new).decided) none) ∙ is)

  last_feeds : (now : List Moment) → Before p now → Before now all → IsSameBoot s j p now → (node s j now).on ≡ true → HasLastFeeds s t j p now
  last_feeds now Itself back same on =
      let state = sound (ruled_before back run.ruled) j in
      record {
        decided = λ d is. let q = state.decided_before d is in omega arith;
        fed = let q = state.fed_before in omega arith;
      }
  last_feeds now (Later newest {new = new} more) back same on =
      let ruled_now = ruled_before back run.ruled in
      let mids = same_mid s j more (Later newest Itself) same in
      let step = span j ruled_now (Later newest {new = new} Itself) mids.1 on in
      last_feeds_turn new newest (turn s j new newest) (newest_rule ruled_now) back more mids.0 (sym mids.1) on
      (last_feeds new more (before_then (Later newest Itself) back) mids.0 step.on)

  -- the fence lemma: of a node that wrote the reset, and for which msgwait passed since a tick that was not before p
  pub fence : is_safe t ≡ true → (i : ℕ) (now : List Moment) → Before p now → Before now all → IsSameBoot s j p now → (node s j now).on ≡ true
      → IsSameBoot s i p now → (node s i now).on ≡ true → tick_of (node s i p).clock + t.msgwait ≤ tick_of (node s i now).clock → ⊥
  fence safe i now since back same on same_i on_i waited =
      let ruled_now = ruled_before back run.ruled in
      let feeds = last_feeds now since back same on in
      let fed = feeds.fed in
      let alive = (sound ruled_now j).alive on in
      let spans = span i ruled_now since same_i on_i in
      let fast = spans.fast in
      let forward = spans.forward in
      let margin = leb-true (101 * (t.read_limit + 1 + t.watchdog + t.feed_delay)) (99 * (t.msgwait - 1)) (second_of_both (has_periods t) (outlasts_feeds t) safe) in
      omega arith

pub plain_no_mail : (entry : What) → is_answer entry ≡ false → feeds_on (message_of entry) ≡ false
plain_no_mail entry plain = by_test (feeds_on (message_of entry)) refl
  where
    by_test : (b : Bool) → feeds_on (message_of entry) ≡ b → feeds_on (message_of entry) ≡ false
    by_test false e = e
    by_test true e = never_both (is_answer entry) (mail_is_answer entry e) plain

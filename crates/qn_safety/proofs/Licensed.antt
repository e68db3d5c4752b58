-- What a licence of a start means for the node that was licensed: the incarnation that was up at some moment holds no more.
use Rattle.std.proofs.Common.{◌≡◌, ℕ, ◌+◌, ◌<◌, ◌≤◌, Bool, true, false, List, ◌∷◌, length, sym, ap, ◌∙◌, subst, arith}
use Rattle.std.proofs.lemmas.Bool.{false≢true, and_parts}
use Rattle.qn_base.specs.lemmas.Bools.{never_both}
use Rattle.qn_model.specs.declared.configuration.Settings.{Settings}
use Rattle.qn_model.specs.declared.times.Timing.{Timing}
use Rattle.qn_model.specs.declared.seen.SlotSeen.{SlotSeen}
use Rattle.qn_model.specs.declared.entries.What.{What}
use Rattle.qn_model.specs.lemmas.Phases.{up_booted}
use Rattle.qn_model.specs.lemmas.Moments.{node_adds}
use Rattle.qn_model.specs.Log.{Line, op_out, ask_place, ask_tick, claimed, claim_of, incarnation, timing, times_of, no_times, disk_of, has_start, has_stop, is_answer, is_view, view_of}
use Rattle.qn_model.specs.Phases.{phase}
use Rattle.qn_model.specs.Holding.{holds}
use Rattle.qn_model.specs.NodeVotes.{is_in_view}
use Rattle.qn_model.specs.Licences.{out_time, reads_slot, writes_reset, is_clean_slot}
use Rattle.qn_model.specs.Moments.{Before}
use Rattle.qn_safety.specs.Earlier.{before_then, before_tail, before_shorter}
use Rattle.qn_model.specs.Log as LogSpec
use Rattle.qn_model.specs.Moments.{Moment, begin_of, Adds, tick_of, time, node, is_holder}
use Rattle.qn_safety.specs.Timed.{IsUp, IsSameBoot, IsBetween, HasClosed, GetsBadMail, IsAdded, IsTimedRun}
use Rattle.qn_model.specs.Timing.{is_safe}
use Rattle.qn_safety.proofs.Logs.{Made, made_before}
use Rattle.qn_safety.proofs.Stays.{boot_past_later, closed_never, close_stays}
use Rattle.qn_safety.proofs.Rests.{Licence, ByClean, ByReset, FencingAsk, slot_ask, written_ask}
use Rattle.qn_safety.proofs.Runs.{sound, ruled_before, newest_rule, earlier_ruled, span, handed_boots}
use Rattle.qn_safety.proofs.Origins.{Origin, ByEntry, ByBoot, origin, added_line}
use Rattle.qn_safety.proofs.Fence.{added_then, timing_up, fence}

-- the incarnation of j that was up at p, if one was, holds at no later moment at which i runs on
abbrev pub HoldsNoMore : Settings → ℕ → ℕ → List Moment → List Moment → List Moment → Type 0
HoldsNoMore s i j p m all =
    (now : List Moment) → Before m now → Before now all → IsSameBoot s i m now → (node s i now).on ≡ true → IsUp s j p → IsSameBoot s j p now → is_holder s now j ≡ true → ⊥

-- node i at m licensed node j: at a moment p of the same boot, between the asking for the read or the reset and its answer
pub record Licensed (s : Settings) (i j : ℕ) (m all : List Moment) : Type 0 where
  pub p : List Moment
  pub back : Before p m
  pub same : IsSameBoot s i p m
  pub asking : Line
  pub older : List Line
  pub asked : Before (asking ∷ older) (node s i p).log
  pub up : IsUp s i p
  pub outside : is_in_view (asking ∷ older) j ≡ false
  pub since : out_time j (node s i m).log ≤ length (asking ∷ older)
  pub no_more : HoldsNoMore s i j p m all

no_begin_read : (test : SlotSeen → Bool) (rank : ℕ) (clean : Bool) (entry : What) → entry ≡ begin_of clean → reads_slot test rank entry ≡ true → ⊥
no_begin_read test rank false entry begins reads = false≢true (sym (ap (reads_slot test rank) begins) ∙ reads)
no_begin_read test rank true entry begins reads = false≢true (sym (ap (reads_slot test rank) begins) ∙ reads)

no_begin_write : (rank : ℕ) (clean : Bool) (entry : What) → entry ≡ begin_of clean → writes_reset rank entry ≡ true → ⊥
no_begin_write rank false entry begins writes = false≢true (sym (ap (writes_reset rank) begins) ∙ writes)
no_begin_write rank true entry begins writes = false≢true (sym (ap (writes_reset rank) begins) ∙ writes)

pub added_boots : (s : Settings) (i : ℕ) (entry : What) (before : List Moment) → (node s i (Adds i entry ∷ before)).boots ≡ (node s i before).boots
added_boots s i entry before = ap (λ n. n.boots) (node_adds s i entry before) ∙ handed_boots s i (time before) entry (node s i before)

pub holder_on : (s : Settings) (moments : List Moment) (i : ℕ) → is_holder s moments i ≡ true → (node s i moments).on ≡ true
holder_on s moments i e = (and_parts (node s i moments).on (holds (node s i moments).log) e).0

pub holder_holds : (s : Settings) (moments : List Moment) (i : ℕ) → is_holder s moments i ≡ true → holds (node s i moments).log ≡ true
holder_holds s moments i e = (and_parts (node s i moments).on (holds (node s i moments).log) e).1

module _ {s : Settings} {t : Timing} {all : List Moment} (run : IsTimedRun s t all) (safe : is_safe t ≡ true) (i j : ℕ) (m : List Moment) (back : Before m all)
    (on : (node s i m).on ≡ true) where
  -- what an answer of the disk and a moment of it give
  licensed_by : (line : Line) (past : List Line) (before p : List Moment) (added : IsAdded s i line past before m) → IsSameBoot s i (Adds i added.entry ∷ before) m
      → IsBetween s i line before p → FencingAsk s j line past → out_time j (node s i m).log < line.asked → HoldsNoMore s i j p m all → Licensed s i j m all
  licensed_by line past before p added same between ask behind no_more =
      let ruled_add = ruled_before (before_then added.back back) run.ruled in
      let ruled_b = earlier_ruled ruled_add in
      let parts = added_line s i added.entry line past before added.gave in
      let spans = span i ruled_b between.back between.same (newest_rule ruled_add).0 in
      let place = ask.place in
      let since = between.since in
      let asked : Before (ask.asking ∷ ask.older) (node s i p).log =
      before_shorter (subst (λ log. Before (ask.asking ∷ ask.older) log) parts.behind ask.back) spans.grows (omega arith) in
      let ruled_p = ruled_before between.back ruled_b in
      record {
        p = p;
        back = before_then between.back (before_tail added.back);
        same = between.same ∙ sym (added_boots s i added.entry before) ∙ same;
        asking = ask.asking;
        older = ask.older;
        asked = asked;
        up = record { on = between.on; booted = boot_past_later ((sound ruled_p i).made) asked (up_booted (phase s (ask.asking ∷ ask.older)) ask.up) };
        outside = ask.outside;
        since = omega arith;
        no_more = no_more;
      }

  -- an incarnation that asked for its close holds no more
  closed_no_more : (p : List Moment) → Before p m → HasClosed s j p → HoldsNoMore s i j p m all
  closed_no_more p p_m closed now since until same_i on_i up same_j holder =
      let ruled_now = ruled_before until run.ruled in
      let spans = span j ruled_now (before_then p_m since) same_j (holder_on s now j holder) in
      let idle = (closed_never ((sound ruled_now j).made) (close_stays spans.grows (closed up))).idle in
      never_both (holds (node s j now).log) (holder_holds s now j holder) idle

  -- an incarnation that gets bad mail does not run any more once msgwait has passed
  bad_mail_no_more : (p : List Moment) → Before p m → IsSameBoot s i p m → GetsBadMail s j p all → tick_of (node s i p).clock + t.msgwait ≤ tick_of (node s i m).clock
      → HoldsNoMore s i j p m all
  bad_mail_no_more p p_m same_p bad_mail waited now since until same_i on_i up same_j holder =
      let ruled_now = ruled_before until run.ruled in
      let spans = span i ruled_now since same_i on_i in
      let slow = spans.slow in
      let forward = spans.forward in
      fence run j p up bad_mail safe i now (before_then p_m since) until same_j (holder_on s now j holder) (same_p ∙ same_i) on_i (omega arith)

  -- a licence of the newest line at m
  pub licensed : (line : Line) (past : List Line) → (node s i m).log ≡ line ∷ past → IsUp s i m → ¬ (j ≡ i) → Licence j line.tick (line ∷ past) → Licensed s i j m all
  licensed line past gave up_m differs (ByClean read) = by_origin (origin s i read.line read.past m here)
    where
      here : Before (read.line ∷ read.past) (node s i m).log
      here = subst (λ log. Before (read.line ∷ read.past) log) (sym gave) read.back

      made_read : Made s i (read.line ∷ read.past)
      made_read = made_before here ((sound (ruled_before back run.ruled) i).made)

      by_origin : Origin s i read.line read.past m → Licensed s i j m all
      by_origin (ByBoot clean begins first) = absurd (no_begin_read is_clean_slot j clean read.line.what begins read.reads)
      by_origin (ByEntry before added same) =
          let fact = run.clean i j read.line read.past before (added_then added back) read.reads in
          licensed_by read.line read.past before fact.0 added same fact.1 (slot_ask made_read is_clean_slot j differs read.reads)
          (subst (λ log. out_time j log < read.line.asked) (sym gave) read.behind)
          (closed_no_more fact.0 (before_then fact.1.back (before_tail added.back)) fact.2)
  licensed line past gave up_m differs (ByReset written reset waited) = by_origin (origin s i reset.line reset.past m here)
    where
      here : Before (reset.line ∷ reset.past) (node s i m).log
      here = subst (λ log. Before (reset.line ∷ reset.past) log) (sym gave) reset.back

      made_reset : Made s i (reset.line ∷ reset.past)
      made_reset = made_before here ((sound (ruled_before back run.ruled) i).made)

      long_ago : (before p : List Moment) (added : IsAdded s i reset.line reset.past before m) → IsBetween s i reset.line before p
          → tick_of (node s i p).clock + t.msgwait ≤ tick_of (node s i m).clock
      long_ago before p added between =
          let ruled_add = ruled_before (before_then added.back back) run.ruled in
          let spans = span i (earlier_ruled ruled_add) between.back between.same (newest_rule ruled_add).0 in
          let slow = spans.slow in
          let forward = spans.forward in
          let parts = added_line s i added.entry reset.line reset.past before added.gave in
          let at = parts.at in
          let written_at = reset.at in
          let order : line.tick ≤ tick_of (node s i m).clock = subst (λ log. LogSpec.now log ≤ tick_of (node s i m).clock) gave ((sound (ruled_before back run.ruled) i).order) in
          let wait : (timing (line ∷ past)).msgwait ≡ t.msgwait = ap (λ u. u.msgwait) (sym (ap timing gave) ∙ timing_up run i m back up_m) in
          omega arith

      by_origin : Origin s i reset.line reset.past m → Licensed s i j m all
      by_origin (ByBoot clean begins first) = absurd (no_begin_write j clean reset.line.what begins reset.writes)
      by_origin (ByEntry before added same) =
          let fact = run.written i j reset.line reset.past before (added_then added back) reset.writes in
          let p_m = before_then fact.1.back (before_tail added.back) in
          licensed_by reset.line reset.past before fact.0 added same fact.1 (written_ask made_reset j reset.writes)
          (subst (λ log. out_time j log < reset.line.asked) (sym gave) reset.behind)
          (bad_mail_no_more fact.0 p_m (fact.1.same ∙ sym (added_boots s i added.entry before) ∙ same) fact.2 (long_ago before fact.0 added fact.1))

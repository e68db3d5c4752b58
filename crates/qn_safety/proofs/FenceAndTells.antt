-- The fence lemma and the Tell lemma, as the laws state them.
use Rattle.std.proofs.Common.{◌≡◌, ℕ, Bool, true, false, List, ◌∷◌, refl, sym, ap, ◌∙◌, subst, arith, ◌&&◌, ◌==◌, ◌⊎◌, inl, inr}
use Rattle.std.specs.Option.{option_map_or}
use Rattle.std.proofs.lemmas.Bool.{eqb-true}
use Rattle.qn_base.specs.lemmas.Bools.{never_both, first_of_both, second_of_both}
use Rattle.qn_base.specs.lemmas.Elements.{contains}
use Rattle.qn_model.specs.declared.configuration.Settings.{Settings}
use Rattle.qn_model.specs.declared.times.Timing.{Timing}
use Rattle.qn_model.specs.declared.packets.Tell.{Tell}
use Rattle.qn_model.specs.declared.entries.What.TheVariants as what
use Rattle.qn_model.specs.Log.{Line, claimed}
use Rattle.qn_model.specs.Holding.{holds}
use Rattle.qn_model.specs.NodeVotes.{is_present, answers, install}
use Rattle.qn_model.specs.Licences.{writes_reset}
use Rattle.qn_model.specs.Moments.{Before, Itself, Later}
use Rattle.qn_safety.specs.Earlier.{before_then, before_total}
use Rattle.qn_model.specs.Moments.{Moment, Adds, node, is_holder}
use Rattle.qn_safety.specs.Timed.{AllRuled, IsBetween, GetsBadMail, IsAdded, IsTimedRun}
use Rattle.qn_model.specs.Timing.{is_safe}
use Rattle.qn_safety.specs.Lemmas.{HasEnded, HasWaited, HasStartedAfter, TellSays}
use Rattle.qn_safety.proofs.Runs.{ruled_before, newest_rule, earlier_ruled, span}
use Rattle.qn_safety.proofs.Origins.{added_line}
use Rattle.qn_safety.proofs.Fence.{fence}
use Rattle.qn_safety.proofs.Licensed.{added_boots, holder_holds}
use Rattle.qn_safety.proofs.Tells.{TellTrace, tell_trace}
use Rattle.qn_safety.proofs.Pairs.{Started, started}

-- a node whose reset was written has ended once msgwait has passed
pub written_ends : (s : Settings) (t : Timing) (moments : List Moment) (rank other : ℕ) (line : Line) (past : List Line) (before : List Moment)
    → is_safe t ≡ true → IsTimedRun s t moments → IsAdded s rank line past before moments → writes_reset other line.what ≡ true
    → (between : List Moment) × IsBetween s rank line before between × ((now : List Moment) → Before now moments → HasWaited s t rank line before now → HasEnded s other between now)
written_ends s t moments rank other line past before safe run added writes =
    let fact = run.written rank other line past before added writes in
    (fact.0, fact.1, λ now until waited. ended fact.0 fact.1 fact.2 now until waited)
  where
    ended : (p : List Moment) → IsBetween s rank line before p → GetsBadMail s other p moments → (now : List Moment) → Before now moments → HasWaited s t rank line before now → HasEnded s other p now
    ended p between bad_mail now until waited up same = by_on (node s other now).on refl
      where
        ruled_now : AllRuled s t now
        ruled_now = ruled_before until run.ruled

        stopped : (node s other now).on ≡ true → ⊥
        stopped on =
            let ruled_add = ruled_before added.back run.ruled in
            let parts = added_line s rank added.entry line past before added.gave in
            let at = parts.at in
            let spans = span rank (earlier_ruled ruled_add) between.back between.same (newest_rule ruled_add).0 in
            let slow = spans.slow in
            let forward = spans.forward in
            let wait = waited.waited in
            fence run other p up bad_mail safe rank now (before_then between.back waited.since) until same on (between.same ∙ waited.same) waited.on (omega arith)

        by_on : (b : Bool) → (node s other now).on ≡ b → (node s other now).on ≡ false
        by_on false off = off
        by_on true on = absurd (stopped on)

-- a Tell that answers shows its sender's view, is later than the reader's last View, and rules out an earlier start
pub tell_says : (s : Settings) (t : Timing) (moments : List Moment) (reader : ℕ) (line : Line) (past : List Line) (before : List Moment) (tell : Tell)
    → IsTimedRun s t moments → IsAdded s reader line past before moments → line.what ≡ what.Tell tell → answers past tell ≡ true → TellSays s reader tell before moments
tell_says s t moments reader line past before tell run added reads answered = record {
  sent = sent;
  back = trace.added.back;
  comes_out = record {
    line = trace.line;
    past = trace.past;
    newest = trace.added.gave;
    to = trace.to;
    receives = trace.receives;
    sends = contains trace.sends;
  };
  shows = subst (λ log. is_present log tell.view ≡ true) (sym trace.added.gave) trace.shows;
  installed = asked;
  earlier = before_then trace.ask_added.back (Later (Adds j trace.added.entry) Itself);
  same = added_boots s reader trace.ask_added.entry trace.asked ∙ trace.same;
  no_view = ap install trace.ask_added.gave ∙ trace.installed ∙ sym (install_of (node s reader before).log behind answered);
  starts_later = starts_later;
}
  where
    j : ℕ
    j = tell.from.0

    trace : TellTrace s reader j tell before
    trace = tell_trace run reader line past before tell added reads answered

    sent : List Moment
    sent = Adds j trace.added.entry ∷ trace.before

    asked : List Moment
    asked = Adds reader trace.ask_added.entry ∷ trace.asked

    behind : past ≡ (node s reader before).log
    behind = (added_line s reader added.entry line past before added.gave).behind

    install_of : (log : List Line) → past ≡ log → answers past tell ≡ true → install log ≡ tell.install
    install_of log same e =
        ap install (sym same)
        ∙ eqb-true (install past) tell.install
        (second_of_both (option_map_or (λ number. number == tell.incarnation) (claimed past) false) (install past == tell.install)
        (first_of_both (option_map_or (λ number. number == tell.incarnation) (claimed past) false && install past == tell.install) (is_present past tell.view) e))

    starts_later : tell.holds ≡ false → (now : List Moment) → Before sent now → Before now moments → is_holder s now j ≡ true → HasStartedAfter s j sent now
    starts_later free now since until holder = by_order (before_total since start.back)
      where
        start : Started s j now
        start = started run j now until holder

        idle : holds (node s j sent).log ≡ false
        idle = subst (λ log. holds log ≡ false) (sym trace.added.gave) (trace.idle free)

        never_before : Before start.at sent → ⊥
        never_before early = never_both (holds (node s j sent).log) (holder_holds s sent j (start.held sent early since)) idle

        strictly : Before sent start.at → Before sent (Adds j start.added.entry ∷ start.before)
        strictly order = subst (λ ms. Before sent ms) start.is order

        inner : Before sent (Adds j start.added.entry ∷ start.before) → Before sent start.before
        inner order = by_newest (newest_cases order)
          where
            newest_cases : {p ms : List Moment} {m : Moment} → Before p (m ∷ ms) → (p ≡ m ∷ ms) ⊎ Before p ms
            newest_cases Itself = inl refl
            newest_cases (Later newest more) = inr more

            by_newest : (sent ≡ Adds j start.added.entry ∷ start.before) ⊎ Before sent start.before → Before sent start.before
            by_newest (inl same) = absurd (never_before (subst (λ ms. Before ms sent) (sym start.is) (subst (λ ms. Before ms sent) same Itself)))
            by_newest (inr more) = more

        by_order : Before sent start.at ⊎ Before start.at sent → HasStartedAfter s j sent now
        by_order (inr early) = absurd (never_before early)
        by_order (inl order) = record {
          line = start.line;
          past = start.past;
          before = start.before;
          added = start.added;
          after = inner (strictly order);
          starts = start.starts;
          held = λ mid from_start to_now. start.held mid (subst (λ ms. Before ms mid) (sym start.is) from_start) to_now;
        }

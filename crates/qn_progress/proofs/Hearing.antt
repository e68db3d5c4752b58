-- A quiet node hears each other member.
use Rattle.std.proofs.Common.{◌≡◌, ℕ, suc, zero, ◌+◌, ◌≤◌, ◌<◌, Bool, true, false, List, ◌∷◌, length, Some, refl, sym, ap, ◌∙◌, subst, arith, ◌||◌, ◌&&◌, ◌==◌, not, nat_lt, if◌then◌else◌, ◌⊎◌, inl, inr, unwrap_or}
use Rattle.std.specs.Option.{option_map_or}
use Rattle.std.specs.Prelude.{Contains}
use Rattle.std.proofs.lemmas.Bool.{cases_lt, eq-eqb, eqb-true, false≢true}
use Rattle.qn_base.specs.declared.ids.View.{View}
use Rattle.qn_base.specs.Members.{is_member}
use Rattle.qn_base.specs.lemmas.Elements.{contains}
use Rattle.qn_model.specs.declared.configuration.Settings.{Settings}
use Rattle.qn_model.specs.declared.times.Timing.{Timing}
use Rattle.qn_model.specs.declared.packets.Ask.{Ask}
use Rattle.qn_model.specs.declared.packets.Tell.{Tell}
use Rattle.qn_model.specs.declared.packets.Packet.TheVariants as packet
use Rattle.qn_model.specs.declared.outputs.Out.TheVariants as out
use Rattle.qn_model.specs.declared.entries.What.{What}
use Rattle.qn_model.specs.declared.entries.What.TheVariants as what
use Rattle.qn_model.specs.declared.life.Phase.TheVariants.{Up}
use Rattle.qn_model.specs.Fitting.{fits, read_as}
use Rattle.qn_model.specs.Hearing.{is_free}
use Rattle.qn_model.specs.Holding.{holds}
use Rattle.qn_model.specs.Log.{Line, claimed, incarnation}
use Rattle.qn_model.specs.Moments.{Adds, Before, Itself, Later, Moment, is_holder, node, tick_of}
use Rattle.qn_model.specs.NodeOutputs.{gives_start, newest_outs, taken_in, with_read}
use Rattle.qn_model.specs.NodeVotes.{answers, install, is_in_view, is_present, is_same_view, released, view}
use Rattle.qn_model.specs.Phases.{is_booting, is_live, phase}
use Rattle.qn_model.specs.Wanted.{rank_of}
use Rattle.qn_safety.specs.Earlier.{before_length, before_same, before_tail, before_then}
use Rattle.qn_safety.specs.Timed.{IsTimedRun}
use Rattle.qn_progress.specs.Hearing.{HasHeld, HearsQuietly, IsDelivered, IsUnder, StaysHeard}
use Rattle.qn_progress.specs.Pace.{Pace}
use Rattle.qn_progress.specs.Quiet.{AndThen, DelaysOver, FromHere, HasTakenTicks, IsQuiet, QuietSince}
use Rattle.qn_progress.proofs.Asked.{AsksQuietly, Enters, HasAsked, Rests, Restarts, Step, added_log, is_asked_within, step}
use Rattle.qn_progress.proofs.Below.{Below, Boots}
use Rattle.qn_progress.proofs.Busy.{line_with}
use Rattle.qn_progress.proofs.Entries.{no_view}
use Rattle.qn_progress.proofs.Over.{least_member, not_booting, quiet_last, since_before, stands, start_of, view_alike}
use Rattle.qn_progress.proofs.Starts.{free_stays}
use Rattle.qn_progress.proofs.Steps.{outs_now}
use Rattle.qn_progress.proofs.Telling.{answer_counts, member_free, member_tells, packet_fits, tell_to, teller_holds}

ends_meet : {old mid : List Moment} → Before old mid → Before mid old → mid ≡ old
ends_meet after back = sym (before_same after (before_length back))

-- the world was quiet up to each moment between
quiet_at : {s : Settings} {me : ℕ} {pace : Pace} {views : ℕ} {old new mid : List Moment} → QuietSince s me pace views old new → Before old mid → Before mid new
    → QuietSince s me pace views old mid
quiet_at {s = s} {me = me} {pace = pace} {views = views} {old = old} (FromHere quiet) after back =
    subst (λ m. QuietSince s me pace views old m) (sym (ends_meet after back)) (FromHere quiet)
quiet_at (AndThen since quiet) after Itself = AndThen since quiet
quiet_at (AndThen since quiet) after (Later m back) = quiet_at since after back

free_step : {s : Settings} {me : ℕ} {pace : Pace} {views : ℕ} (j : ℕ) {earlier : List Moment} {m : Moment} → IsQuiet s me pace views earlier → IsQuiet s me pace views (m ∷ earlier)
    → Step s me earlier m → is_free (node s me earlier).log j ≡ true → is_free (node s me (m ∷ earlier)).log j ≡ true
free_step j before quiet (Rests same) free = ap (λ l. is_free l j) same ∙ free
free_step {s = s} {me = me} j {earlier = earlier} before quiet (Enters entry is_log) free =
    let past : List Line = (node s me earlier).log in
    let tick : ℕ = tick_of (node s me earlier).clock in
    let read : What = read_as s me (node s me earlier).log entry in
    let line : Line = line_with past tick read (outs_now s me past tick read) in
    ap (λ l. is_free l j) is_log ∙ free_stays line past (no_view line past (sym (ap install is_log) ∙ quiet.view ∙ sym before.view)) j free
free_step j before quiet (Restarts begins) free = not_booting _ begins quiet.up

-- who was heard stays so while the world is quiet
free_after : {s : Settings} {me : ℕ} {pace : Pace} {views : ℕ} (j : ℕ) {old new mid : List Moment} → QuietSince s me pace views old new → Before old mid → Before mid new
    → is_free (node s me mid).log j ≡ true → is_free (node s me new).log j ≡ true
free_after {s = s} {me = me} j (FromHere quiet) after back free = subst (λ m. is_free (node s me m).log j ≡ true) (ends_meet after back) free
free_after j (AndThen since quiet) after Itself free = free
free_after {s = s} {me = me} j (AndThen {moment = m} {earlier = earlier} since quiet) after (Later n back) free =
    free_step j (quiet_last since) quiet (step s me m earlier) (free_after j since after back free)

-- a member that is asked holds, or answers that it does not
teller : {s : Settings} {j : ℕ} {present : View} (at : List Moment) (ask : Ask) → IsUnder s j present at → IsUnder s j present (Adds j (what.Ask ask) ∷ at)
    → fits s j (node s j at).log (what.Ask ask) ≡ true → ask.view ≡ present → is_member ask.view.members ask.from.0 ≡ true
    → (is_holder s (Adds j (what.Ask ask) ∷ at) j ≡ true)
    ⊎ (((gives_start s j (taken_in (node s j at).log (tick_of (node s j at).clock) (what.Ask ask)) || holds (taken_in (node s j at).log (tick_of (node s j at).clock) (what.Ask ask))) ≡ false)
    × Contains (newest_outs (node s j (Adds j (what.Ask ask) ∷ at)).log) (tell_to s j (taken_in (node s j at).log (tick_of (node s j at).clock) (what.Ask ask)) ask))
teller {s = s} {j = j} {present = present} at ask here there fit under member = by_held (gives_start s j log || holds log) refl
  where
    past : List Line
    past = (node s j at).log

    tick : ℕ
    tick = tick_of (node s j at).clock

    log : List Line
    log = taken_in past tick (what.Ask ask)

    is_log : (node s j (Adds j (what.Ask ask) ∷ at)).log ≡ with_read s j (node s j at).log (tick_of (node s j at).clock) (what.Ask ask)
    is_log = added_log s j (what.Ask ask) at ∙ ap (λ b. with_read s j (node s j at).log (tick_of (node s j at).clock) (if b then what.Ask ask else what.Tick)) fit

    stays : phase s (with_read s j (node s j at).log (tick_of (node s j at).clock) (what.Ask ask)) ≡ Up
    stays = sym (ap (λ l. phase s l) is_log) ∙ there.up

    sees : view (taken_in (node s j at).log (tick_of (node s j at).clock) (what.Ask ask)) ≡ Some present
    sees = view_alike s j (node s j at).log (tick_of (node s j at).clock) (what.Ask ask) ∙ sym (ap view is_log) ∙ there.sees

    alike : is_same_view present present ≡ true
    alike = rw (eq-eqb present.id present.id refl) (eq-eqb present.members.0 present.members.0 refl)

    shown : is_present (taken_in (node s j at).log (tick_of (node s j at).clock) (what.Ask ask)) ask.view ≡ true
    shown = ap (λ v. is_present log v) under ∙ ap (λ v. option_map_or (λ own. is_same_view own present) v false) sees ∙ alike

    by_held : (b : Bool) → (gives_start s j (taken_in (node s j at).log (tick_of (node s j at).clock) (what.Ask ask)) || holds (taken_in (node s j at).log (tick_of (node s j at).clock) (what.Ask ask))) ≡ b
        → (is_holder s (Adds j (what.Ask ask) ∷ at) j ≡ true)
        ⊎ (((gives_start s j (taken_in (node s j at).log (tick_of (node s j at).clock) (what.Ask ask)) || holds (taken_in (node s j at).log (tick_of (node s j at).clock) (what.Ask ask))) ≡ false)
        × Contains (newest_outs (node s j (Adds j (what.Ask ask) ∷ at)).log) (tell_to s j (taken_in (node s j at).log (tick_of (node s j at).clock) (what.Ask ask)) ask))
    by_held true held =
        inl (ap (λ b. b && holds (node s j (Adds j (what.Ask ask) ∷ at)).log) there.on ∙ ap holds is_log
        ∙ teller_holds s j (node s j at).log (tick_of (node s j at).clock) ask here.up stays held)
    by_held false held =
        inr (
          held,
          subst (λ l. Contains (newest_outs l) (tell_to s j (taken_in (node s j at).log (tick_of (node s j at).clock) (what.Ask ask)) ask)) (sym is_log)
              (contains (member_tells s j (node s j at).log (tick_of (node s j at).clock) ask here.up stays shown member)),
        )

install_alike : (s : Settings) (me : ℕ) (past : List Line) (tick : ℕ) (entry : What) → install (taken_in past tick entry) ≡ install (with_read s me past tick entry)
unfolding install
install_alike s me past tick entry = refl

-- what the node had claimed at an entry between
claimed_at : {s : Settings} {t : Timing} {me : ℕ} {pace : Pace} {views number : ℕ} {old new all : List Moment} (entry : What) (mid : List Moment) → Below → Boots → IsTimedRun s t all → Before new all
    → pace.disk < t.loop_ms → QuietSince s me pace views old new → DelaysOver s (tick_of (node s me old).clock) (node s me old).log
    → incarnation (node s me old).log ≡ Some number → Before old mid → Before (Adds me entry ∷ mid) new → claimed (node s me mid).log ≡ Some number
claimed_at {s = s} {t = t} {me = me} {old = old} {all = all} entry mid law boots timed whole fast since over named after back =
    sym (ap incarnation (added_log s me entry mid))
    ∙ boots.named s t me old (Adds me entry ∷ mid) all timed (record {
      order = Later _ after;
      back = before_then back whole;
      same = sym (stands law timed (before_then back whole) fast (quiet_at since (Later _ after) back) over).boots;
      on = (quiet_last (quiet_at since (Later _ after) back)).on;
    }) (record { on = (start_of since).on; booted = ap is_booting (start_of since).up })
    ∙ named

-- after a loop, a turn and two ways of a packet each other member was heard, or held
pub is_heard : {s : Settings} {t : Timing} {me : ℕ} {pace : Pace} {post : ℕ} {old new all : List Moment} (present : View) (j : ℕ) → Below → Boots → IsTimedRun s t all → Before new all
    → HearsQuietly s t me pace post present j old new
    → (is_free (node s me new).log j ≡ true) ⊎ HasHeld s j old new
is_heard {s = s} {t = t} {me = me} {pace = pace} {post = post} {old = old} {new = new} present j law boots timed whole quiet =
    by_asking (is_asked_within present j law timed whole asks)
  where
    asks : AsksQuietly s t me pace present j old new
    asks = record {
      last = quiet.asked.0;
      fast = quiet.fast;
      since = quiet.since;
      over = quiet.over;
      asked = quiet.asked.1;
      sees = quiet.sees;
      below = quiet.configured.1;
      member = ap (λ v. option_map_or (λ installed. is_member installed.members j) v false) quiet.sees ∙ quiet.has_both.1;
      apart = quiet.apart;
      late = let late = quiet.late in omega arith;
    }

    views : ℕ
    views = install (node s me old).log

    limit : ℕ
    limit = tick_of (node s me old).clock + t.loop_ms + pace.turn

    installed_at : (mid : List Moment) → Before old mid → Before mid new → install (node s me mid).log ≡ install (node s me old).log
    installed_at mid after back = (quiet_last (quiet_at quiet.since after back)).view

    names : (entry : What) (mid : List Moment) → Before old mid → Before (Adds me entry ∷ mid) new → claimed (node s me mid).log ≡ Some quiet.claims.0
    names entry mid after back = claimed_at entry mid law boots timed whole quiet.fast quiet.since quiet.over quiet.claims.1 after back

    -- the answer is heard
    hears : (entry : What) (before at2 : List Moment) (tell : Tell) → Before old before → Before (Adds me entry ∷ before) new
        → Before old at2 → Before (Adds me (what.Tell tell) ∷ at2) new
        → tell.from.0 ≡ j → tell.to.0 ≡ me
        → tell.incarnation ≡ unwrap_or (claimed (node s me before).log) 0
        → tell.install ≡ install (with_read s me (node s me before).log (tick_of (node s me before).clock) (read_as s me (node s me before).log entry))
        → tell.view ≡ present → tell.holds ≡ false → is_free (node s me new).log j ≡ true
    hears entry before at2 tell asked_after asked_back after back from to same_number same_install under none =
        free_after j quiet.since (Later _ after) back
        (ap (λ l. is_free l j) is_log
        ∙ member_free (line_with (node s me at2).log (tick_of (node s me at2).clock) (what.Tell tell) (outs_now s me (node s me at2).log (tick_of (node s me at2).clock) (what.Tell tell)))
        (node s me at2).log tell j refl from counts none)
      where
        up2 : phase s (node s me at2).log ≡ Up
        up2 = (quiet_last (quiet_at quiet.since after (before_tail back))).up

        fit : fits s me (node s me at2).log (what.Tell tell) ≡ true
        fit = subst (λ r. (is_live (phase s (node s me at2).log) && ((r == me) && nat_lt tell.from.0 (length s.nodes) && not (tell.from.0 == me))) ≡ true) (sym to)
            (subst (λ f. (is_live (phase s (node s me at2).log) && ((me == me) && nat_lt f (length s.nodes) && not (f == me))) ≡ true) (sym from)
            (packet_fits s me j (is_live (phase s (node s me at2).log)) (ap is_live up2) quiet.configured.1 quiet.apart))

        is_log : (node s me (Adds me (what.Tell tell) ∷ at2)).log ≡ with_read s me (node s me at2).log (tick_of (node s me at2).clock) (what.Tell tell)
        is_log = added_log s me (what.Tell tell) at2 ∙ ap (λ b. with_read s me (node s me at2).log (tick_of (node s me at2).clock) (if b then what.Tell tell else what.Tick)) fit

        counts : answers (node s me at2).log tell ≡ true
        counts = answer_counts (node s me at2).log tell quiet.claims.0 present (names (what.Tell tell) at2 after back)
            (sym (same_number ∙ ap (λ c. unwrap_or c 0) (names entry before asked_after asked_back)))
            (installed_at at2 after (before_tail back) ∙ sym (installed_at (Adds me entry ∷ before) (Later _ asked_after) asked_back)
            ∙ ap install (added_log s me entry before) ∙ sym same_install)
            ((stands law timed (before_then (before_tail back) whole) quiet.fast (quiet_at quiet.since after (before_tail back)) quiet.over).sees ∙ quiet.sees)
            under

    -- the Ask is answered
    answered : (entry : What) (before : List Moment) (ask : Ask) → Before old before → Before (Adds me entry ∷ before) new → tick_of (node s me before).clock ≤ limit
        → ask.from ≡ rank_of me → ask.to ≡ rank_of j → ask.incarnation ≡ unwrap_or (claimed (node s me before).log) 0
        → ask.install ≡ install (with_read s me (node s me before).log (tick_of (node s me before).clock) (read_as s me (node s me before).log entry))
        → ask.view ≡ present
        → IsDelivered s me j (packet.Ask ask) (tick_of (node s me before).clock + post) (Adds me entry ∷ before) new
        → (is_free (node s me new).log j ≡ true) ⊎ HasHeld s j old new
    answered entry before ask after back soon from to same_number same_install under came =
        by_teller (teller came.at ask (quiet.under came.at at_after (before_tail came.back)) (quiet.under (Adds j (what.Ask ask) ∷ came.at) (Later _ at_after) came.back) fit under member)
      where
        at_after : Before old came.at
        at_after = before_then after (before_tail came.after)

        fit : fits s j (node s j came.at).log (what.Ask ask) ≡ true
        fit = subst (λ r. (is_live (phase s (node s j came.at).log) && ((r.0 == j) && nat_lt ask.from.0 (length s.nodes) && not (ask.from.0 == j))) ≡ true) (sym to)
            (subst (λ f. (is_live (phase s (node s j came.at).log) && ((j == j) && nat_lt f.0 (length s.nodes) && not (f.0 == j))) ≡ true) (sym from)
            (packet_fits s j me (is_live (phase s (node s j came.at).log)) (ap is_live (quiet.under came.at at_after (before_tail came.back)).up) quiet.configured.0 (λ e. quiet.apart (sym e))))

        member : is_member ask.view.members ask.from.0 ≡ true
        member = ap (λ v. is_member v.members ask.from.0) under ∙ ap (λ f. is_member present.members f.0) from ∙ quiet.has_both.0

        by_teller : (is_holder s (Adds j (what.Ask ask) ∷ came.at) j ≡ true)
            ⊎ (((gives_start s j (taken_in (node s j came.at).log (tick_of (node s j came.at).clock) (what.Ask ask)) || holds (taken_in (node s j came.at).log (tick_of (node s j came.at).clock) (what.Ask ask))) ≡ false)
            × Contains (newest_outs (node s j (Adds j (what.Ask ask) ∷ came.at)).log) (tell_to s j (taken_in (node s j came.at).log (tick_of (node s j came.at).clock) (what.Ask ask)) ask))
            → (is_free (node s me new).log j ≡ true) ⊎ HasHeld s j old new
        by_teller (inl held) = inr (record { at = Adds j (what.Ask ask) ∷ came.at; after = Later _ at_after; back = came.back; holds = held })
        by_teller (inr tells) = inl (hears entry before told.at tell after back (before_then at_after (before_tail told.after)) told.back refl (ap (λ r. r.0) from) same_number same_install under tells.0)
          where
            tell : Tell
            tell = record {
              from = rank_of j;
              to = ask.from;
              incarnation = ask.incarnation;
              install = ask.install;
              view = ask.view;
              holds = (gives_start s j (taken_in (node s j came.at).log (tick_of (node s j came.at).clock) (what.Ask ask)) || holds (taken_in (node s j came.at).log (tick_of (node s j came.at).clock) (what.Ask ask)));
              released = released s (taken_in (node s j came.at).log (tick_of (node s j came.at).clock) (what.Ask ask));
            }

            sent : Contains (newest_outs (node s j (Adds j (what.Ask ask) ∷ came.at)).log) (out.Send (rank_of me) (packet.Tell tell))
            sent = subst (λ r. Contains (newest_outs (node s j (Adds j (what.Ask ask) ∷ came.at)).log) (out.Send r (packet.Tell tell))) from tells.1

            told : IsDelivered s me me (packet.Tell tell) (tick_of (node s me came.at).clock + post) (Adds j (what.Ask ask) ∷ came.at) new
            told = quiet.tells_come (what.Ask ask) came.at (packet.Tell tell) at_after came.back sent (let near = came.soon in let late = quiet.late in let first = soon in omega arith)

    by_asking : (is_free (node s me new).log j ≡ true) ⊎ HasAsked s me present j limit old new → (is_free (node s me new).log j ≡ true) ⊎ HasHeld s j old new
    by_asking (inl free) = inl free
    by_asking (inr asked) =
        answered asked.entry asked.before
        (record {
          from = rank_of me;
          to = rank_of j;
          incarnation = unwrap_or (incarnation (taken_in (node s me asked.before).log (tick_of (node s me asked.before).clock) (read_as s me (node s me asked.before).log asked.entry))) 0;
          install = install (taken_in (node s me asked.before).log (tick_of (node s me asked.before).clock) (read_as s me (node s me asked.before).log asked.entry));
          view = present;
        })
        asked.after asked.back asked.soon refl refl refl
        (install_alike s me (node s me asked.before).log (tick_of (node s me asked.before).clock) (read_as s me (node s me asked.before).log asked.entry)) refl
        (quiet.asks_come asked.entry asked.before _ asked.after asked.back asked.asks (let near = asked.soon in let late = quiet.late in omega arith))

-- of the first ranks each other member was heard, or one of them held
heard_or_held : {s : Settings} {t : Timing} {me : ℕ} {pace : Pace} {post : ℕ} {old mid new : List Moment} (present : View) (count : ℕ) → Below → Boots → IsTimedRun s t new
    → StaysHeard s t me pace post present old mid new → count ≤ length s.nodes
    → ((j : ℕ) → j < count → is_in_view (node s me old).log j ≡ true → ¬ (j ≡ me) → is_free (node s me mid).log j ≡ true) ⊎ ((other : ℕ) × HasHeld s other old mid)
heard_or_held present zero law boots timed quiet fits = inl (λ j below inside other. absurd (omega arith))
heard_or_held {s = s} {t = t} {me = me} {pace = pace} {post = post} {old = old} {mid = mid} {new = new} present (suc count) law boots timed quiet fits =
    by_rest (heard_or_held present count law boots timed quiet (omega arith))
  where
    here : (inside mine : Bool) → is_in_view (node s me old).log count ≡ inside → (count == me) ≡ mine
        → (is_in_view (node s me old).log count ≡ true → ¬ (count ≡ me) → is_free (node s me mid).log count ≡ true) ⊎ HasHeld s count old mid
    here false mine away same = inl (λ inside other. absurd (false≢true (sym away ∙ inside)))
    here true true inside same = inl (λ _ other. absurd (other (eqb-true count me same)))
    here true false inside apart =
        by_heard (is_heard present count law boots timed (since_before quiet.since)
        (quiet.hears count (omega arith) inside (λ same. absurd (false≢true (sym apart ∙ eq-eqb count me same)))))
      where
        by_heard : (is_free (node s me mid).log count ≡ true) ⊎ HasHeld s count old mid
            → (is_in_view (node s me old).log count ≡ true → ¬ (count ≡ me) → is_free (node s me mid).log count ≡ true) ⊎ HasHeld s count old mid
        by_heard (inl free) = inl (λ _ other. free)
        by_heard (inr held) = inr held

    more : ((j : ℕ) → j < count → is_in_view (node s me old).log j ≡ true → ¬ (j ≡ me) → is_free (node s me mid).log j ≡ true)
        → (is_in_view (node s me old).log count ≡ true → ¬ (count ≡ me) → is_free (node s me mid).log count ≡ true)
        → (j : ℕ) → j < suc count → is_in_view (node s me old).log j ≡ true → ¬ (j ≡ me) → is_free (node s me mid).log j ≡ true
    more rest last j below = by_place (cases_lt j count)
      where
        by_place : (j < count) ⊎ (count ≤ j) → is_in_view (node s me old).log j ≡ true → ¬ (j ≡ me) → is_free (node s me mid).log j ≡ true
        by_place (inl low) = rest j low
        by_place (inr high) =
            let same : count ≡ j = omega arith in
            subst (λ k. is_in_view (node s me old).log k ≡ true → ¬ (k ≡ me) → is_free (node s me mid).log k ≡ true) same last

    by_rest : ((j : ℕ) → j < count → is_in_view (node s me old).log j ≡ true → ¬ (j ≡ me) → is_free (node s me mid).log j ≡ true) ⊎ ((other : ℕ) × HasHeld s other old mid)
        → ((j : ℕ) → j < suc count → is_in_view (node s me old).log j ≡ true → ¬ (j ≡ me) → is_free (node s me mid).log j ≡ true) ⊎ ((other : ℕ) × HasHeld s other old mid)
    by_rest (inr held) = inr held
    by_rest (inl rest) = by_here (here (is_in_view (node s me old).log count) (count == me) refl refl)
      where
        by_here : (is_in_view (node s me old).log count ≡ true → ¬ (count ≡ me) → is_free (node s me mid).log count ≡ true) ⊎ HasHeld s count old mid
            → ((j : ℕ) → j < suc count → is_in_view (node s me old).log j ≡ true → ¬ (j ≡ me) → is_free (node s me mid).log j ≡ true) ⊎ ((other : ℕ) × HasHeld s other old mid)
        by_here (inl last) = inl (more rest last)
        by_here (inr held) = inr (count, held)

-- some member holds
pub some_member : {s : Settings} {t : Timing} {me : ℕ} {pace : Pace} {post : ℕ} {old mid new : List Moment} (present : View) → Below → Boots → IsTimedRun s t new
    → StaysHeard s t me pace post present old mid new → HasTakenTicks s t me pace old mid new
    → (is_holder s new me ≡ true) ⊎ ((other : ℕ) × HasHeld s other old mid)
some_member {s = s} {t = t} {me = me} {pace = pace} {post = post} {old = old} {mid = mid} {new = new} present law boots timed quiet taken =
    by_all (heard_or_held present (length s.nodes) law boots timed quiet (omega arith))
  where
    same_view : view (node s me mid).log ≡ view (node s me old).log
    same_view = (stands law timed (since_before quiet.since) quiet.fast quiet.first quiet.over).sees

    by_all : ((j : ℕ) → j < length s.nodes → is_in_view (node s me old).log j ≡ true → ¬ (j ≡ me) → is_free (node s me mid).log j ≡ true) ⊎ ((other : ℕ) × HasHeld s other old mid)
        → (is_holder s new me ≡ true) ⊎ ((other : ℕ) × HasHeld s other old mid)
    by_all (inr held) = inr held
    by_all (inl all) =
        inl (least_member law timed quiet.fast quiet.first quiet.since quiet.over
        (λ j below inside other. all j below (sym (ap (λ v. option_map_or (λ installed. is_member installed.members j) v false) same_view) ∙ inside) other)
        taken.late taken.behind)

-- A majority whose nodes have one view has an owner.
use Rattle.std.proofs.Common.{◌≡◌, ◌⊎◌, inl, inr, ℕ, suc, zero, ◌+◌, ◌*◌, ◌<◌, ◌≤◌, Bool, true, false, not, ◌&&◌, ◌||◌, ◌==◌, List, [], ◌∷◌, Option, None, Some, length, if◌then◌else◌, refl, sym, ◌∙◌, ap, subst, arith}
use Rattle.std.specs.Prelude.{IsTrue}
use Rattle.std.specs.Option.{option_map_or, option_or}
use Rattle.std.proofs.Math.Nat.{le-max_left, le-max_right}
use Rattle.std.proofs.lemmas.Bool.{and_parts, cases_Bool, cases_eq, cases_lt, cases_order, eqb-true, false≢true, or_right}
use Rattle.qn_base.specs.Candidates.{is_barred, is_named}
use Rattle.qn_base.specs.declared.ids.Mask.{Mask}
use Rattle.qn_base.specs.declared.ids.View.{View}
use Rattle.qn_base.specs.Members.{is_member}
use Rattle.qn_model.specs.declared.configuration.Settings.{Settings}
use Rattle.qn_model.specs.declared.events.Event.{Event}
use Rattle.qn_model.specs.declared.life.Phase.TheVariants.{Up}
use Rattle.qn_model.specs.declared.times.Timing.{Timing}
use Rattle.qn_model.specs.declared.votes.VoteEntry.{VoteEntry}
use Rattle.qn_model.specs.Hearing.{is_free}
use Rattle.qn_model.specs.Holding.{holds, stop_due}
use Rattle.qn_model.specs.lemmas.ChosenRanks.{same_chosen}
use Rattle.qn_model.specs.Log.{Line, ask_tick, incarnation, now, op_out}
use Rattle.qn_model.specs.Moments.{Before, Itself, Later, Moment, is_holder, node, tick_of, time}
use Rattle.qn_model.specs.NodeOutputs.{moment}
use Rattle.qn_model.specs.NodeVotes.{install, is_in_view, quorate_with_tie, view, votes}
use Rattle.qn_model.specs.Phases.{phase}
use Rattle.qn_model.specs.Steps.{run}
use Rattle.qn_model.specs.Unmet.{chosen, is_chosen, is_given_away, is_none_chosen, least_rank, named}
use Rattle.qn_model.specs.Votes.{is_released, releases}
use Rattle.qn_safety.specs.AnyNumbers.{AllMay}
use Rattle.qn_safety.specs.Clocks.{RunsOn, clock}
use Rattle.qn_safety.specs.Earlier.{before_tail, before_then}
use Rattle.qn_safety.specs.Timed.{IsTimedRun}
use Rattle.qn_progress.specs.Hearing.{HasHeld, HearsQuietly, IsUnder}
use Rattle.qn_progress.specs.Keeping.{KeepsOn, MayKeep}
use Rattle.qn_progress.specs.Majority.{IsMajority}
use Rattle.qn_progress.specs.Pace.{Pace, outside, take_over_ticks}
use Rattle.qn_progress.specs.Quiet.{AndThen, DelaysOver, FromHere, HasHeardAll, HasTakenTicks, IsQuiet, QuietSince, StaysQuiet, is_gentle, newest}
use Rattle.qn_joined.specs.Joints.{Happening, joint_after}
use Rattle.qn_joined.specs.WorldOf.{IsWorld}
use Rattle.qn_service.specs.Between.{IsOfJoint}
use Rattle.qn_service.specs.Serving.{HasView, HaveOneView, serving_ticks}
use Rattle.qn_service.specs.Unheard.{log_after}
use Rattle.qn_service.proofs.GoingOn.{IsOn, keeps_since, on_there}
use Rattle.qn_service.proofs.Handing.{LivesOn, delivers, first_world}
use Rattle.qn_service.proofs.Steps.{IsUpSince, Stays, Takes, UpMove, runs_up, up_move}
use Rattle.qn_service.proofs.Tracing.{Trace, joints_grow, last_world, moments_grow, of_joint}

-- the laws of timed runs, as the lemmas here take them
pub record Laws : Type 0 where
  pub timed : (s : Settings) (t : Timing) (events : List Event) → AllMay s t events → IsTimedRun s t (run s t events).moments
  pub slow : (s : Settings) (t : Timing) (moments old new : List Moment) (rank : ℕ) → IsTimedRun s t moments → RunsOn s rank old new moments
      → 99 * time new + clock s rank old ≤ clock s rank new + 99 * time old
  pub majority : (s : Settings) (set : Mask) (log : List Line) (given : View) (tick : ℕ) → IsMajority s set → view log ≡ Some given → given.members ≡ set
      → quorate_with_tie s log tick ≡ true
  pub heard : (s : Settings) (t : Timing) (pace : Pace) (rank post : ℕ) (present : View) (other : ℕ) (old new : List Moment) → IsTimedRun s t new
      → HearsQuietly s t rank pace post present other old new → (is_free (node s rank new).log other ≡ true) ⊎ HasHeld s other old new
  pub takes : (s : Settings) (t : Timing) (pace : Pace) (rank : ℕ) (old mid new : List Moment) → IsTimedRun s t new → StaysQuiet s t rank pace old mid new
      → HasTakenTicks s t rank pace old mid new → IsTrue (is_holder s new rank)
  pub keeps : (s : Settings) (rank : ℕ) (old new : List Moment) → KeepsOn s rank old new → HasHeld s rank old new → IsTrue (is_holder s new rank)

-- without wait_for_all a node is released
released_at : (s : Settings) → s.wait_for_all ≡ false → (past : List VoteEntry) → is_released s past ≡ true
unfolding is_released
released_at s off [] = ap not off
released_at s off (entry ∷ past) = or_right (releases s entry.what) (is_released s past) (released_at s off past)

-- the chosen one, by the view alone
chosen_alike : (s : Settings) (rank : ℕ) (one other : List Line) → view one ≡ view other → is_chosen s rank one ≡ is_chosen s rank other
chosen_alike s rank one other same = ap (λ (o : Option ℕ). option_map_or (λ r. r == rank) o false) (same_chosen s one other same)

given_alike : (s : Settings) (rank : ℕ) (one other : List Line) → view one ≡ view other → is_given_away s rank one ≡ is_given_away s rank other
given_alike s rank one other same =
    ap (λ (seen : Option View).
    option_map_or (λ v. is_barred v) seen false
    || option_map_or (λ r. not (r == rank)) (least_rank s (λ r. option_map_or (λ v. is_member v.members r) seen false && option_map_or (λ v. is_named v r) seen false)) false)
    same

-- it is somebody
chosen_is : (s : Settings) (rank : ℕ) (log : List Line) → is_chosen s rank log ≡ true → chosen s log ≡ Some rank
chosen_is s rank log is = by_found (chosen s log) is
  where
    by_found : (o : Option ℕ) → option_map_or (λ r. r == rank) o false ≡ true → o ≡ Some rank
    by_found None here = absurd (false≢true here)
    by_found (Some found) here = ap Some (eqb-true found rank here)

-- and its view gives nothing of it away
chosen_keeps : (s : Settings) (rank : ℕ) (log : List Line) → is_chosen s rank log ≡ true → is_given_away s rank log ≡ false
chosen_keeps s rank log is = by_either (is_none_chosen log) (named s log) (least_rank s (λ r. is_in_view log r)) is
  where
    by_either : (none : Bool) (name least : Option ℕ) → option_map_or (λ r. r == rank) (if none then None else option_or name least) false ≡ true
        → (none || option_map_or (λ r. not (r == rank)) name false) ≡ false
    by_either true name least here = absurd (false≢true here)
    by_either false None least here = refl
    by_either false (Some found) least here = ap not here

-- ## One view, from one joint to another

module _ (s : Settings) (t : Timing) (image : ℕ → List ℕ) (pace : Pace) (post rank : ℕ) (present : View) (older newer : List Happening) (first events : List Event)
    (laws : Laws) (trace : Trace s t image older first newer events) (have : HaveOneView s t image pace post rank present older newer) where
  abbrev old : List Moment
  old = (run s t first).moments

  abbrev new : List Moment
  new = (run s t events).moments

  since_old : Before old new
  since_old = moments_grow trace

  abbrev start : List Line
  start = log_after s image older rank

  member_at : (other : ℕ) → is_member present.members other ≡ true → (at : List Happening) → Before older at → Before at newer → HasView s image present other at
  member_at other member at since back = have.members other member at since back

  on_at : (other : ℕ) → is_member present.members other ≡ true → (at : List Happening) → Before older at → Before at newer → (ev : List Event)
      → IsWorld s t (joint_after s image at) (run s t ev) → IsOn s other ((joint_after s image at).hosts other) (run s t ev).moments
  on_at other member at since back ev world = on_there s t image other at ev world (member_at other member at since back).on (member_at other member at since back).up

  lives : (other : ℕ) → is_member present.members other ≡ true → LivesOn s t image other older newer
  lives other member at since back ev world =
      let on = on_at other member at since back ev world in
      (on, ap (λ (l : List Line). phase s l) on.log ∙ (member_at other member at since back).up)

  -- what holds of the log and the clock of a member at each joint holds at each moment between
  each_moment : (other : ℕ) → is_member present.members other ≡ true → (P : List Line → ℕ → Type 0)
      → ((at : List Happening) → Before older at → Before at newer → P (log_after s image at other) ((joint_after s image at).hosts other).clock)
      → (m : List Moment) → Before old m → Before m new → ((node s other m).on ≡ true) × P (node s other m).log (node s other m).clock
  each_moment other member P each m since back =
      subst (λ (ms : List Moment). ((node s other ms).on ≡ true) × P (node s other ms).log (node s other ms).clock) is.same (
        on.on,
        subst (λ (l : List Line). P l (node s other (run s t is.events).moments).clock) (sym on.log)
            (subst (λ c. P (log_after s image is.at other) c) (sym on.clock) (each is.at is.after is.back)),
      )
    where
      is : IsOfJoint s t image older newer m
      is = of_joint trace m since back

      on : IsOn s other ((joint_after s image is.at).hosts other) (run s t is.events).moments
      on = on_at other member is.at is.after is.back is.events is.world

  sees_at : (other : ℕ) → is_member present.members other ≡ true → (m : List Moment) → Before old m → Before m new → IsUnder s other present m
  sees_at other member m since back = record { on = is.0; up = is.1.0; sees = is.1.1 }
    where
      is : ((node s other m).on ≡ true) × ((phase s (node s other m).log ≡ Up) × (view (node s other m).log ≡ Some present))
      is = each_moment other member (λ l c. (phase s l ≡ Up) × (view l ≡ Some present))
          (λ at a b. ((member_at other member at a b).up, (member_at other member at a b).sees)) m since back

  ups : (other : ℕ) → is_member present.members other ≡ true → IsUpSince s other old new
  ups other member m since back = (sees_at other member m since back).up

  quorate_at : (other : ℕ) → is_member present.members other ≡ true → (m : List Moment) → Before old m → Before m new
      → quorate_with_tie s (node s other m).log (now (node s other m).log) ≡ true
  quorate_at other member m since back = laws.majority s present.members (node s other m).log present (now (node s other m).log) have.serves.majority (sees_at other member m since back).sees refl

  -- ## The chosen one

  rank_at : (at : List Happening) → Before older at → Before at newer → HasView s image present rank at
  rank_at at since back = member_at rank have.serves.member at since back

  start_sees : view start ≡ Some present
  start_sees = (rank_at older Itself (joints_grow trace)).sees

  rank_old : IsOn s rank ((joint_after s image older).hosts rank) old
  rank_old = on_at rank have.serves.member older Itself (joints_grow trace) first (first_world trace)

  abbrev IsPacedLog : List Line → ℕ → Type 0
  IsPacedLog l c =
      (install l ≡ install start)
      × (is_gentle (newest l) ≡ true)
      × (tick_of c ≤ now l + pace.turn)
      × (¬ (op_out l ≡ None) → tick_of c ≤ ask_tick l + pace.disk)

  paced_at : (m : List Moment) → Before old m → Before m new → ((node s rank m).on ≡ true) × IsPacedLog (node s rank m).log (node s rank m).clock
  paced_at m since back =
      each_moment rank have.serves.member IsPacedLog
      (λ at a b. let paced = have.serves.paced at a b in (paced.installs, paced.gentle, paced.turns, paced.answers)) m since back

  quiet_at : (m : List Moment) → Before old m → Before m new → IsQuiet s rank pace (install (node s rank old).log) m
  quiet_at m since back =
      let paced = paced_at m since back in
      let under = sees_at rank have.serves.member m since back in
      record {
        on = under.on;
        up = under.up;
        view = paced.1.0 ∙ sym (ap install rank_old.log);
        free = released_at s have.serves.majority.wait_for_all (votes (node s rank m).log);
        quorate = quorate_at rank have.serves.member m since back;
        chosen = chosen_alike s rank (node s rank m).log start (under.sees ∙ sym start_sees) ∙ have.serves.chosen;
        gentle = paced.1.1;
        turns = paced.1.2;
        answers = paced.1.3;
      }

  quiet_between : (a b : List Moment) → Before old a → Before a b → Before b new → QuietSince s rank pace (install (node s rank old).log) a b
  quiet_between a b since Itself back = FromHere (quiet_at a since back)
  quiet_between a (newest ∷ b) since (Later same up_to) back =
      AndThen (quiet_between a b since up_to (before_tail back)) (quiet_at (newest ∷ b) (before_then since (Later newest up_to)) back)

  -- what a node read it read by its clock
  read_by : (m : List Moment) → Before old m → Before m new → now (node s rank m).log ≤ tick_of (node s rank m).clock
  read_by m since back =
      let is = of_joint trace m since back in
      subst (λ (ms : List Moment). now (node s rank ms).log ≤ tick_of (node s rank ms).clock) is.same (on_at rank have.serves.member is.at is.after is.back is.events is.world).tick

  now_after : (newest : Moment) (m : List Moment) → UpMove s rank newest (node s rank m) (node s rank (newest ∷ m)) → now (node s rank m).log ≤ tick_of (node s rank m).clock
      → now (node s rank (newest ∷ m)).log ≤ tick_of (node s rank m).clock
  now_after newest m (Stays log boots clock) by = subst (λ (l : List Line). now l ≤ tick_of (node s rank m).clock) (sym log) by
  now_after newest m (Takes entry is log boots clock) by = subst (λ (l : List Line). now l ≤ tick_of (node s rank m).clock) (sym log) (omega arith)

  -- the first moment after a tick is at most a turn later
  record FirstAfter (limit : ℕ) : Type 0 where
    mid : List Moment
    since : Before old mid
    back : Before mid new
    late : limit < tick_of (node s rank mid).clock
    soon : tick_of (node s rank mid).clock ≤ limit + pace.turn

  first_after : (limit : ℕ) (m : List Moment) → Before old m → Before m new → tick_of (node s rank old).clock ≤ limit → limit < tick_of (node s rank m).clock → FirstAfter limit
  first_after limit m Itself back early late = absurd (omega (arith, early, late))
  first_after limit (last ∷ m) (Later same since) back early late =
      by_order (cases_lt limit (tick_of (node s rank m).clock)) (λ before. first_after limit m since (before_tail back) early before)
    where
      by_order : (limit < tick_of (node s rank m).clock) ⊎ (tick_of (node s rank m).clock ≤ limit) → (limit < tick_of (node s rank m).clock → FirstAfter limit) → FirstAfter limit
      by_order (inl before) rest = rest before
      by_order (inr before) rest =
          let read = now_after last m (up_move s rank last m (ups rank have.serves.member (last ∷ m) (Later last since) back)) (read_by m since (before_tail back)) in
          let paced = (paced_at (last ∷ m) (Later last since) back).1.2 in
          record { mid = last ∷ m; since = Later last since; back = back; late = late; soon = omega (arith, before, read, paced) }

  timed_at : (m : List Moment) → Before old m → Before m new → IsTimedRun s t m
  timed_at m since back =
      let is = of_joint trace m since back in
      subst (λ (ms : List Moment). IsTimedRun s t ms) is.same (laws.timed s t is.events is.may)

  timed_new : IsTimedRun s t new
  timed_new = laws.timed s t events (last_world trace).0

  overs : DelaysOver s (tick_of (node s rank old).clock) (node s rank old).log
  overs = subst (λ (l : List Line). DelaysOver s (tick_of (node s rank old).clock) l) (sym rank_old.log)
      (subst (λ c. DelaysOver s (tick_of c) start) (sym rank_old.clock) have.serves.over)

  -- ## The others

  -- the view gives away at each moment what it gives away at one
  given_there : (other : ℕ) → is_member present.members other ≡ true → (a b : List Moment) → Before old a → Before a new → Before old b → Before b new
      → is_given_away s other (node s other a).log ≡ false → is_given_away s other (node s other b).log ≡ false
  given_there other member a b a_since a_back b_since b_back kept =
      given_alike s other (node s other b).log (node s other a).log ((sees_at other member b b_since b_back).sees ∙ sym (sees_at other member a a_since a_back).sees) ∙ kept

  keeps_on : (other : ℕ) → is_member present.members other ≡ true → (a : List Moment) → Before old a → Before a new → is_given_away s other (node s other a).log ≡ false
      → KeepsOn s other old new
  keeps_on other member a a_since a_back kept =
      record {
        calm = ap stop_due (on_at other member older Itself (joints_grow trace) first (first_world trace)).log ∙ have.serves.calm other member;
        since = keeps_since s t image other old new each since_old;
      }
    where
      each : (m : List Moment) → Before old m → Before m new → MayKeep s other m
      each m since back =
          let under = sees_at other member m since back in
          record { on = under.on; up = under.up; quorate = quorate_at other member m since back; kept = given_there other member a m a_since a_back since back kept }

  rank_keeps : KeepsOn s rank old new
  rank_keeps = keeps_on rank have.serves.member old Itself since_old (ap (λ (l : List Line). is_given_away s rank l) rank_old.log ∙ chosen_keeps s rank start have.serves.chosen)

  -- another member that held at some moment keeps on
  held_keeps : (other : ℕ) → is_member present.members other ≡ true → ¬ (other ≡ rank) → (mid : List Moment) → Before mid new → HasHeld s other old mid → KeepsOn s other old new
  held_keeps other member apart mid mid_back held = keeps_on other member held.at held.after at_back away
    where
      at_back : Before held.at new
      at_back = before_then held.back mid_back

      is : IsOfJoint s t image older newer held.at
      is = of_joint trace held.at held.after at_back

      log_is : (node s other held.at).log ≡ log_after s image is.at other
      log_is = ap (λ (ms : List Moment). (node s other ms).log) (sym is.same) ∙ (on_at other member is.at is.after is.back is.events is.world).log

      holds_there : holds (log_after s image is.at other) ≡ true
      holds_there = sym (ap holds log_is) ∙ (and_parts (node s other held.at).on (holds (node s other held.at).log) held.holds).1

      away : is_given_away s other (node s other held.at).log ≡ false
      away = ap (λ (l : List Line). is_given_away s other l) log_is ∙ have.serves.kept other member apart is.at is.after is.back holds_there

  hears_of : (other : ℕ) → is_member present.members other ≡ true → ¬ (other ≡ rank) → (mid : List Moment) → Before old mid → Before mid new
      → tick_of (node s rank old).clock + t.loop_ms + pace.turn + post + post < tick_of (node s rank mid).clock
      → HearsQuietly s t rank pace post present other old mid
  hears_of other member apart mid since back late =
      record {
        fast = have.serves.fast;
        since = quiet_between old mid Itself since back;
        over = overs;
        late = late;
        sees = ap view rank_old.log ∙ start_sees;
        has_both = (have.serves.member, member);
        configured = (have.serves.majority.configured rank have.serves.member, have.serves.majority.configured other member);
        apart = apart;
        asked = (have.serves.asked.0, ap (λ (l : List Line). moment s l) rank_old.log ∙ have.serves.asked.1);
        claims = (have.serves.claims.0, ap incarnation rank_old.log ∙ have.serves.claims.1);
        under = λ m a b. sees_at other member m a (before_then b back);
        asks_come = delivers s t image rank post rank other older newer first events trace (lives rank have.serves.member) (lives rank have.serves.member) (lives other member) (ups rank have.serves.member)
            (have.serves.asks_come other member apart) mid since back;
        tells_come = delivers s t image rank post other rank older newer first events trace (lives rank have.serves.member) (lives other member) (lives rank have.serves.member) (ups rank have.serves.member)
            (have.serves.tells_come other member apart) mid since back;
      }

  -- ## Each other member was heard, or one of them held

  record HeldOther (mid : List Moment) : Type 0 where
    other : ℕ
    member : is_member present.members other ≡ true
    apart : ¬ (other ≡ rank)
    held : HasHeld s other old mid

  abbrev IsHeard : List Moment → ℕ → Type 0
  IsHeard mid other = is_member present.members other ≡ true → ¬ (other ≡ rank) → is_free (node s rank mid).log other ≡ true

  abbrev HeardBelow : List Moment → ℕ → Type 0
  HeardBelow mid count = (other : ℕ) → other < count → IsHeard mid other

  one_more : (mid : List Moment) (count : ℕ) → HeardBelow mid count → IsHeard mid count → HeardBelow mid (suc count)
  one_more mid count rest here other below member apart = by_order (cases_order other count)
    where
      by_order : (other ≡ count) ⊎ ((other < count) ⊎ (count < other)) → is_free (node s rank mid).log other ≡ true
      by_order (inl same) =
          subst (λ r. is_free (node s rank mid).log r ≡ true) (sym same)
          (here (subst (λ r. is_member present.members r ≡ true) same member) (subst (λ r. ¬ (r ≡ rank)) same apart))
      by_order (inr (inl less)) = rest other less member apart
      by_order (inr (inr more)) = absurd (omega (arith, below, more))

  abbrev IsLate : List Moment → Type 0
  IsLate mid = tick_of (node s rank old).clock + t.loop_ms + pace.turn + post + post < tick_of (node s rank mid).clock

  heard_or_held : (mid : List Moment) → Before old mid → Before mid new → IsLate mid → (other : ℕ) → is_member present.members other ≡ true → ¬ (other ≡ rank)
      → (is_free (node s rank mid).log other ≡ true) ⊎ HasHeld s other old mid
  heard_or_held mid since back late other member apart =
      laws.heard s t pace rank post present other old mid (timed_at mid since back) (hears_of other member apart mid since back late)

  all_or_one : (mid : List Moment) → Before old mid → Before mid new → IsLate mid → (count : ℕ) → HeardBelow mid count ⊎ HeldOther mid
  all_or_one mid since back late zero = inl (λ other below member apart. absurd (omega (arith, below)))
  all_or_one mid since back late (suc count) = by_rest (all_or_one mid since back late count)
    where
      by_heard : HeardBelow mid count → is_member present.members count ≡ true → ¬ (count ≡ rank)
          → (is_free (node s rank mid).log count ≡ true) ⊎ HasHeld s count old mid → HeardBelow mid (suc count) ⊎ HeldOther mid
      by_heard rest member apart (inl free) = inl (one_more mid count rest (λ m a. free))
      by_heard rest member apart (inr held) = inr (record { other = count; member = member; apart = apart; held = held })

      by_apart : HeardBelow mid count → is_member present.members count ≡ true → (count ≡ rank) ⊎ (count ≡ rank → ⊥) → HeardBelow mid (suc count) ⊎ HeldOther mid
      by_apart rest member (inl same) = inl (one_more mid count rest (λ m a. absurd (a same)))
      by_apart rest member (inr apart) = by_heard rest member apart (heard_or_held mid since back late count member apart)

      by_member : HeardBelow mid count → (is_member present.members count ≡ true) ⊎ (is_member present.members count ≡ false) → HeardBelow mid (suc count) ⊎ HeldOther mid
      by_member rest (inl member) = by_apart rest member (cases_eq count rank)
      by_member rest (inr none) = inl (one_more mid count rest (λ m a. absurd (false≢true (sym none ∙ m))))

      by_rest : HeardBelow mid count ⊎ HeldOther mid → HeardBelow mid (suc count) ⊎ HeldOther mid
      by_rest (inl rest) = by_member rest (cases_Bool (is_member present.members count))
      by_rest (inr held) = inr held

  -- a member that holds at last, and keeps on
  pub record Holder : Type 0 where
    pub owner : ℕ
    pub member : is_member present.members owner ≡ true
    pub holds : is_holder s new owner ≡ true
    pub keeps : KeepsOn s owner old new

  pub holder_there : tick_of (node s rank old).clock + serving_ticks t pace post (outside s start) ≤ tick_of (node s rank new).clock → Holder
  holder_there passed = by_middle (first_after limit new since_old Itself (omega arith) (omega (arith, passed, longer)))
    where
      limit : ℕ
      limit = tick_of (node s rank old).clock + t.loop_ms + pace.turn + post + post

      longer : t.loop_ms + pace.turn + post + post + pace.turn + pace.turn + 1 ≤ serving_ticks t pace post (outside s start)
      longer = le-max_right (take_over_ticks t pace (outside s start)) (t.loop_ms + pace.turn + post + post + pace.turn + pace.turn + 1)

      taking : take_over_ticks t pace (outside s start) ≤ serving_ticks t pace post (outside s start)
      taking = le-max_left (take_over_ticks t pace (outside s start)) (t.loop_ms + pace.turn + post + post + pace.turn + pace.turn + 1)

      by_heard : (middle : FirstAfter limit) → HeardBelow middle.mid (length s.nodes) ⊎ HeldOther middle.mid → Holder
      by_heard middle (inl free) =
          record {
            owner = rank;
            member = have.serves.member;
            holds = laws.takes s t pace rank old middle.mid new timed_new
                (record {
                  fast = have.serves.fast;
                  first = quiet_between old middle.mid Itself middle.since middle.back;
                  since = quiet_between middle.mid new middle.since middle.back Itself;
                  over = overs;
                  heard = all_heard;
                })
                (record { late = late_enough; behind = let soon = middle.soon in omega (arith, soon, passed, longer) });
            keeps = rank_keeps;
          }
        where
          all_heard : HasHeardAll s rank (node s rank middle.mid).log
          all_heard other below inside apart =
              free other below (sym (ap (λ (o : Option View). option_map_or (λ v. is_member v.members other) o false) (sees_at rank have.serves.member middle.mid middle.since middle.back).sees) ∙ inside) apart

          late_enough : tick_of (node s rank old).clock + take_over_ticks t pace (outside s (node s rank old).log) ≤ tick_of (node s rank new).clock
          late_enough = subst (λ (l : List Line). tick_of (node s rank old).clock + take_over_ticks t pace (outside s l) ≤ tick_of (node s rank new).clock) (sym rank_old.log)
              (omega (arith, passed, taking))
      by_heard middle (inr held) =
          let keeps = held_keeps held.other held.member held.apart middle.mid middle.back held.held in
          record {
            owner = held.other;
            member = held.member;
            holds = laws.keeps s held.other old new keeps
                (record { at = held.held.at; after = held.held.after; back = before_then held.held.back middle.back; holds = held.held.holds });
            keeps = keeps;
          }

      by_middle : FirstAfter limit → Holder
      by_middle middle = by_heard middle (all_or_one middle.mid middle.since middle.back middle.late (length s.nodes))

  -- so it is once that much true time has passed
  pub in_time : 100 * serving_ticks t pace post (outside s start) + 99 * (joint_after s image older).time ≤ 99 * (joint_after s image newer).time → Holder
  in_time late =
      holder_there (ticks_passed (time old) (time new) (clock s rank old) (clock s rank new) (serving_ticks t pace post (outside s start))
      (laws.slow s t new old new rank timed_new (record {
        order = since_old;
        back = Itself;
        same = (runs_up s rank old new since_old (ups rank have.serves.member)).same;
        on = (sees_at rank have.serves.member new since_old Itself).on;
      }))
      (subst (λ k. 100 * serving_ticks t pace post (outside s start) + 99 * k ≤ 99 * time new) (sym (first_world trace).time)
      (subst (λ k. 100 * serving_ticks t pace post (outside s start) + 99 * (joint_after s image older).time ≤ 99 * k) (sym (last_world trace).1.time) late)))
    where
      ticks_passed : (first second old new ticks : ℕ) → 99 * second + old ≤ new + 99 * first → 100 * ticks + 99 * first ≤ 99 * second → tick_of old + ticks ≤ tick_of new
      ticks_passed first second old new ticks clocks late = omega (arith, clocks, late)

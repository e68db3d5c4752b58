-- Of two nodes with disjoint present views that both count the device, the later grant was made while the earlier one was live.
use Rattle.std.proofs.Common.{◌≡◌, ℕ, ◌+◌, ◌-◌, ◌*◌, ◌/◌, ◌<◌, ◌≤◌, Bool, true, false, List, ◌∷◌, length, Some, refl, sym, ap, ◌∙◌, subst, arith, ◌&&◌, ◌||◌, ◌==◌, ◌⊎◌, inl, inr, if◌then◌else◌, nat_le, nat_lt}
use Rattle.std.specs.Option.{option_map, option_map_or}
use Rattle.std.proofs.lemmas.Bool.{cases_order, eq-eqb, lt-ltb, leb-true, ltb-true, true≢false}
use Rattle.std.proofs.lemmas.Option.{same_Some}
use Rattle.qn_base.specs.declared.ids.View.{View}
use Rattle.qn_base.specs.lemmas.Bools.{first_of_both, second_of_both}
use Rattle.qn_model.specs.declared.configuration.Device.{Device}
use Rattle.qn_model.specs.declared.configuration.Settings.{Settings}
use Rattle.qn_model.specs.declared.nodelist.NodeEntry.{NodeEntry}
use Rattle.qn_model.specs.declared.times.Timing.{Timing}
use Rattle.qn_model.specs.declared.votes.VoteEntry.{VoteEntry}
use Rattle.qn_model.specs.Laws.{AreDisjoint}
use Rattle.qn_model.specs.Log.{Line}
use Rattle.qn_model.specs.Moments.{Before, Itself, Later, Moment, node, tick_of, time}
use Rattle.qn_model.specs.NodeVotes.{answer_with_tie, install, quorate_with_tie, view, votes}
use Rattle.qn_model.specs.Rules.{is_between}
use Rattle.qn_model.specs.Settings.{all_votes}
use Rattle.qn_model.specs.Steps.{answer_off}
use Rattle.qn_model.specs.Votes.{expected_votes, present_view, votes_among}
use Rattle.qn_safety.specs.Clocks.{RunsOn}
use Rattle.qn_safety.specs.Timed.{IsSameBoot, IsTimedRun}
use Rattle.qn_safety.specs.declared.arbiter_event.ArbiterEvent.{ArbiterEvent}
use Rattle.qn_safety.specs.declared.arbiter_event.ArbiterEvent.TheVariants as beside
use Rattle.qn_safety.specs.declared.lease.Lease.{Lease}
use Rattle.qn_safety.specs.declared.polls.Poll.{Poll}
use Rattle.qn_safety.specs.Arbiter.{HeardPoll, gives_yes, is_older, last_yes}
use Rattle.qn_safety.specs.ArbiterWorld.{Arbiter, arbiter_tick, poll_at}
use Rattle.qn_safety.specs.ArbiterSteps.{arbiter_after, hearing, run_beside}
use Rattle.qn_safety.specs.ArbiterLaws.{LeasesVote, IsQuorateIn}
use Rattle.qn_safety.specs.Lease.{is_in_range, is_safe_lease, outlasts_yes}
use Rattle.qn_safety.proofs.ArbiterBelow.{Below}
use Rattle.qn_safety.proofs.ArbiterCounting.{leased_of, must_count}
use Rattle.qn_safety.proofs.ArbiterTools.{before_then, before_tail, before_total, newest_state}
use Rattle.qn_safety.proofs.ArbiterMemories.{last_after, yes_after_lease, yes_in_the_way}
use Rattle.qn_safety.proofs.ArbiterPlaying.{IsRun, moments_at, moments_grow, arbiter_now, plays_of, run_before, timed_of}
use Rattle.qn_safety.proofs.ArbiterStandings.{SentFrom}
use Rattle.qn_safety.proofs.ArbiterRemembering.{Remembers, remembers, Lived, Booted, Remained, lived}
use Rattle.qn_safety.proofs.ArbiterGranting.{Granted, Voted, voted}
use Rattle.qn_safety.proofs.Installs.{install_le, view_stays}

-- a lease is longer than a yes counts, with clocks one per cent off: from the sending at `sent` to now, by the clock of the node
-- and by that of the arbiter
lease_outlasts : (sent anchor granted now clock_sent clock_now clock base lease limit timeout since : ℕ) → sent ≤ anchor → granted ≤ now → 99 * now + clock_sent ≤ clock_now + 99 * sent
    → since ≤ clock_sent / 100 + limit → clock_now / 100 < since + timeout → 101 * (limit + timeout) ≤ 99 * (lease - 1)
    → clock + 101 * anchor ≤ 101 * granted + (100 * base + 99) → 1 ≤ lease → clock / 100 < base + lease
lease_outlasts sent anchor granted now clock_sent clock_now clock base lease limit timeout since a b c d e f g h = omega arith

-- a yes that a node counts at its present tick
record Counts (s : Settings) (t : Timing) (times : Lease) (device : Device) (rank : ℕ) (events : List ArbiterEvent) : Type 0 where
  on : (node s rank (moments_at s t times events)).on ≡ true
  since : ℕ
  votes_it : Voted s t times rank since events
  counts : tick_of (node s rank (moments_at s t times events)).clock < since + device.timeout

runs_on : {s : Settings} {t : Timing} {times : Lease} {device : Device} {rank : ℕ} {events : List ArbiterEvent} → (it : Counts s t times device rank events)
    → RunsOn s rank it.votes_it.sent (moments_at s t times events) (moments_at s t times events)
runs_on it = record { order = it.votes_it.back; back = Itself; same = it.votes_it.same; on = it.on }

-- while a node counts a yes, no lease passes by the arbiter's clock since any moment behind the sending of its poll
still_live : {s : Settings} {t : Timing} {times : Lease} {device : Device} {rank : ℕ} {events : List ArbiterEvent} → Below → IsRun s t times events → (it : Counts s t times device rank events)
    → 101 * (times.limit + device.timeout) ≤ 99 * (times.lease - 1) → 1 ≤ times.lease → (anchor granted clock base : ℕ) → time it.votes_it.sent ≤ anchor
    → granted ≤ time (moments_at s t times events) → clock + 101 * anchor ≤ 101 * granted + (100 * base + 99) → clock / 100 < base + times.lease
still_live {s = s} {t = t} {times = times} {device = device} {rank = rank} {events = events} law run it safe some anchor granted clock base after until bound =
    lease_outlasts (time it.votes_it.sent) anchor granted (time (moments_at s t times events)) (node s rank it.votes_it.sent).clock (node s rank (moments_at s t times events)).clock clock base
    times.lease times.limit device.timeout it.since after until
    (law.slow s t (moments_at s t times events) it.votes_it.sent (moments_at s t times events) rank (timed_of law run) (runs_on it))
    it.votes_it.in_time it.counts safe bound some

older_cases : (one other : Poll) → is_older one other ≡ false → ((one.incarnation < other.incarnation) → ⊥) × ((one.incarnation ≡ other.incarnation) → (one.install < other.install) → ⊥)
older_cases one other e = (
  λ less. true≢false (sym (ap (λ b. b || (one.incarnation == other.incarnation && nat_lt one.install other.install)) (lt-ltb one.incarnation other.incarnation less)) ∙ e),
  λ same less. true≢false (sym (both (nat_lt one.incarnation other.incarnation) (one.incarnation == other.incarnation) (nat_lt one.install other.install) (eq-eqb one.incarnation other.incarnation same) (lt-ltb one.install other.install less)) ∙ e),
)
  where
    both : (a b c : Bool) → b ≡ true → c ≡ true → (a || (b && c)) ≡ true
    both true b c p q = refl
    both false true c p q = q
    both false false c p q = absurd (true≢false (sym p))

-- a later poll of a rank that is not older than the one of its present view has that view
same_view_of : {s : Settings} {t : Timing} {times : Lease} {device : Device} {rank : ℕ} {events : List ArbiterEvent} → Below → IsRun s t times events → (it : Counts s t times device rank events)
    → (poll : Poll) (at : List Moment) → Before at (moments_at s t times events) → SentFrom s rank poll at → is_older poll it.votes_it.poll ≡ false → poll.view ≡ it.votes_it.poll.view
same_view_of {s = s} {t = t} {times = times} {device = device} {rank = rank} {events = events} law run it poll at back from order =
    by_boots (cases_order (node s rank at).boots (node s rank now).boots)
  where
    now : List Moment
    now = moments_at s t times events

    timed : IsTimedRun s t now
    timed = timed_of law run

    not_later : (node s rank at).boots ≤ (node s rank now).boots
    not_later = law.count s rank at now back

    by_installs : IsSameBoot s rank at now → poll.view ≡ it.votes_it.poll.view
    by_installs same =
        let runs : RunsOn s rank at now now = record { order = back; back = Itself; same = same; on = it.on } in
        let grows = law.log s t rank at now now timed runs in
        let own = law.stays s t rank it.votes_it.sent now now timed (runs_on it) it.votes_it.from.up in
        let other = law.stays s t rank at now now timed runs from.up in
        let one_number : poll.incarnation ≡ it.votes_it.poll.incarnation =
        same_Some poll.incarnation it.votes_it.poll.incarnation (sym (other ∙ from.number) ∙ own ∙ it.votes_it.from.number) in
        let most = install_le grows in
        let installed = it.votes_it.installed in
        let sent = from.installed in
        let no_less = (older_cases poll it.votes_it.poll order).1 one_number in
        let same_install : install (node s rank at).log ≡ install (node s rank now).log = by_least most installed sent no_less in
        same_Some poll.view it.votes_it.poll.view (sym from.seen ∙ sym (view_stays grows same_install) ∙ it.votes_it.seen)
      where
        by_least : install (node s rank at).log ≤ install (node s rank now).log → install (node s rank now).log ≡ it.votes_it.poll.install → install (node s rank at).log ≡ poll.install
            → ((poll.install < it.votes_it.poll.install) → ⊥) → install (node s rank at).log ≡ install (node s rank now).log
        by_least most installed sent no_less = by_order (cases_order poll.install it.votes_it.poll.install)
          where
            by_order : (poll.install ≡ it.votes_it.poll.install) ⊎ ((poll.install < it.votes_it.poll.install) ⊎ (it.votes_it.poll.install < poll.install))
                → install (node s rank at).log ≡ install (node s rank now).log
            by_order (inl same) = sent ∙ same ∙ sym installed
            by_order (inr (inl less)) = absurd (no_less less)
            by_order (inr (inr more)) = absurd (omega arith)

    by_boots : ((node s rank at).boots ≡ (node s rank now).boots) ⊎ (((node s rank at).boots < (node s rank now).boots) ⊎ ((node s rank now).boots < (node s rank at).boots))
        → poll.view ≡ it.votes_it.poll.view
    by_boots (inl same) = by_installs same
    by_boots (inr (inr more)) = absurd (let p = not_later in omega arith)
    by_boots (inr (inl less)) =
        let same : (node s rank it.votes_it.sent).boots ≡ (node s rank now).boots = it.votes_it.same in
        absurd ((older_cases poll it.votes_it.poll order).0
        (timed.rise rank poll.incarnation it.votes_it.poll.incarnation at it.votes_it.sent back it.votes_it.back from.up it.votes_it.from.up (omega arith) from.number it.votes_it.from.number))

hear_same : (a b : ℕ) (xs ys : List ArbiterEvent) → beside.Hear a ∷ xs ≡ beside.Hear b ∷ ys → (a ≡ b) × (xs ≡ ys)
hear_same a b xs ys e = (cc, cc)

-- the arbiter right behind a grant
behind_grant : {s : Settings} {t : Timing} {times : Lease} {poll : Poll} {sent : List Moment} {events : List ArbiterEvent} → (it : Granted s t times poll sent events)
    → (run_beside s t times (beside.Hear it.number ∷ it.earlier)).arbiter ≡ Some (hearing poll it.arbiter)
unfolding arbiter_after
behind_grant {s = s} {t = t} {times = times} {poll = poll} it =
    arbiter_now s t times (beside.Hear it.number) it.earlier
    ∙ ap (λ o. option_map_or (λ p. option_map (hearing p) (run_beside s t times it.earlier).arbiter) o (run_beside s t times it.earlier).arbiter) it.there
    ∙ ap (λ a. option_map (hearing poll) a) it.runs

module _ {s : Settings} {t : Timing} {times : Lease} {device : Device} {i j : ℕ} {events : List ArbiterEvent} (law : Below) (run : IsRun s t times events)
    (one : Counts s t times device i events) (other : Counts s t times device j events) (differ : (i ≡ j) → ⊥) (below : i < 32)
    (safe : 101 * (times.limit + device.timeout) ≤ 99 * (times.lease - 1)) (some : 1 ≤ times.lease) (apart : AreDisjoint one.votes_it.poll.view other.votes_it.poll.view) where
  -- the later grant came while the earlier one was live: it was none
  while_live : (earlier_grant : Granted s t times one.votes_it.poll one.votes_it.sent events) → (later_grant : Granted s t times other.votes_it.poll other.votes_it.sent events)
      → Before (beside.Hear earlier_grant.number ∷ earlier_grant.earlier) later_grant.earlier → ⊥
  while_live earlier_grant later_grant back = by_lived (lived law later_run back later_grant.arbiter later_grant.runs)
    where
      later_back : Before later_grant.earlier events
      later_back = before_tail later_grant.back

      later_run : IsRun s t times later_grant.earlier
      later_run = run_before later_back run

      first : List ArbiterEvent
      first = beside.Hear earlier_grant.number ∷ earlier_grant.earlier

      arbiter : Arbiter
      arbiter = later_grant.arbiter

      memory : Remembers s times (moments_at s t times later_grant.earlier) arbiter
      memory = remembers law later_run arbiter later_grant.runs

      sent_then : time one.votes_it.sent ≤ time (moments_at s t times first)
      sent_then =
          law.time one.votes_it.sent (moments_at s t times first)
          (before_then earlier_grant.sent_back (moments_grow law (run_before back later_run) (Later (beside.Hear earlier_grant.number) Itself)))

      until_now : time (moments_at s t times later_grant.earlier) ≤ time (moments_at s t times events)
      until_now = law.time (moments_at s t times later_grant.earlier) (moments_at s t times events) (moments_grow law run later_back)

      live_since : (base : ℕ) → arbiter.clock + 101 * time (moments_at s t times first) ≤ 101 * time (moments_at s t times later_grant.earlier) + (100 * base + 99)
          → arbiter_tick arbiter < base + times.lease
      live_since base bound =
          still_live law run one safe some (time (moments_at s t times first)) (time (moments_at s t times later_grant.earlier)) arbiter.clock base sent_then until_now bound

      heard_one : HeardPoll
      heard_one = record {
        tick = arbiter_tick earlier_grant.arbiter;
        poll = one.votes_it.poll;
        agrees = gives_yes earlier_grant.arbiter.memory (arbiter_tick earlier_grant.arbiter) one.votes_it.poll;
      }

      remembered : Before (heard_one ∷ earlier_grant.arbiter.memory.heard) arbiter.memory.heard
          → arbiter.clock + 101 * time (moments_at s t times first) ≤ 101 * time (moments_at s t times later_grant.earlier) + earlier_grant.arbiter.clock → ⊥
      remembered kept clock =
          let last = last_after memory.was kept earlier_grant.gave in
          let was = memory.sent last.last last.rest last.back in
          let from_is : last.last.poll.from.0 ≡ i = last.from ∙ one.votes_it.from.from in
          let view_is = same_view_of law run one last.last.poll was.0 (before_then was.1.0 (moments_grow law run later_back)) (subst (λ k. SentFrom s k last.last.poll was.0) from_is was.1.1) last.order in
          let live = live_since (arbiter_tick earlier_grant.arbiter) (omega arith) in
          let after : arbiter_tick earlier_grant.arbiter ≤ last.last.tick = last.after in
          let lease = memory.lease in
          yes_in_the_way arbiter.memory (arbiter_tick arbiter) i other.votes_it.poll last.last later_grant.gave below (λ e. differ (e ∙ other.votes_it.from.from))
          (subst (λ k. last_yes k arbiter.memory.heard ≡ Some last.last) one.votes_it.from.from last.found) (omega arith)
          (subst (λ v. AreDisjoint v other.votes_it.poll.view) (sym view_is) apart)

      by_lived : Lived (time (moments_at s t times first)) (run_beside s t times first).arbiter (time (moments_at s t times later_grant.earlier)) arbiter → ⊥
      by_lived (Booted clock) =
          let live = live_since arbiter.memory.began clock in
          let waited = yes_after_lease arbiter.memory (arbiter_tick arbiter) other.votes_it.poll later_grant.gave in
          let lease = memory.lease in
          absurd (omega arith)
      by_lived (Remained was runs kept clock) =
          let is : hearing one.votes_it.poll earlier_grant.arbiter ≡ was = same_Some _ was (sym (behind_grant earlier_grant) ∙ runs) in
          remembered (subst (λ (a : Arbiter). Before a.memory.heard arbiter.memory.heard) (sym is) kept)
          (subst (λ (a : Arbiter). arbiter.clock + 101 * time (moments_at s t times first) ≤ 101 * time (moments_at s t times later_grant.earlier) + a.clock) (sym is) clock)

  -- the grants come one after the other, to two polls
  one_first : Before (beside.Hear one.votes_it.granted.number ∷ one.votes_it.granted.earlier) (beside.Hear other.votes_it.granted.number ∷ other.votes_it.granted.earlier) → ⊥
  one_first back = by_state (newest_state back)
    where
      by_state : (beside.Hear one.votes_it.granted.number ∷ one.votes_it.granted.earlier ≡ beside.Hear other.votes_it.granted.number ∷ other.votes_it.granted.earlier)
          ⊎ Before (beside.Hear one.votes_it.granted.number ∷ one.votes_it.granted.earlier) other.votes_it.granted.earlier → ⊥
      by_state (inr more) = while_live one.votes_it.granted other.votes_it.granted more
      by_state (inl same) =
          let parts = hear_same _ _ _ _ same in
          let polls = same_Some one.votes_it.poll other.votes_it.poll
          (sym one.votes_it.granted.there
          ∙ ap (λ n. poll_at n (run_beside s t times one.votes_it.granted.earlier)) parts.0
          ∙ ap (λ es. poll_at other.votes_it.granted.number (run_beside s t times es)) parts.1
          ∙ other.votes_it.granted.there) in
          differ (sym one.votes_it.from.from ∙ ap (λ (p : Poll). p.from.0) polls ∙ other.votes_it.from.from)

-- what is printed of a node that runs
printed : (s : Settings) (on : Bool) (log : List Line) (tick : ℕ) → on ≡ true → (if on then answer_with_tie s log tick else answer_off s).quorate ≡ true → quorate_with_tie s log tick ≡ true
printed s on log tick is e = sym (ap (λ b. (if b then answer_with_tie s log tick else answer_off s).quorate) is) ∙ e

-- the rank of a grant is one of at most 32
granted_below : {s : Settings} {t : Timing} {times : Lease} {poll : Poll} {sent : List Moment} {events : List ArbiterEvent} → IsRun s t times events → length s.nodes ≤ 32
    → Granted s t times poll sent events → poll.from.0 < 32
granted_below {s = s} {t = t} {times = times} {poll = poll} run few it =
    let known = (plays_of s t times it.earlier (run_before (before_tail it.back) run)).known.polls it.number poll it.there in
    let below = ltb-true poll.from.0 (length s.nodes) known in
    omega arith

-- the lease is long enough for the device
safe_for : (s : Settings) (times : Lease) (device : Device) → is_safe_lease s times ≡ true → s.device ≡ Some device
    → (101 * (times.limit + device.timeout) ≤ 99 * (times.lease - 1)) × (1 ≤ times.lease)
safe_for s times device e has =
    let outlasts : outlasts_yes times device ≡ true = sym (ap (λ o. option_map_or (outlasts_yes times) o false) has) ∙ second_of_both (is_in_range times) (option_map_or (outlasts_yes times) s.device false) e in
    let range = second_of_both (is_between 1 3600000 times.limit) (is_between 1 36000000 times.lease) (first_of_both (is_in_range times) (option_map_or (outlasts_yes times) s.device false) e) in
    (leb-true (101 * (times.limit + device.timeout)) (99 * (times.lease - 1)) outlasts, leb-true 1 times.lease (first_of_both (nat_le 1 times.lease) (nat_le times.lease 36000000) range))

module _ (law : Below)
    (together : (nodes : List NodeEntry) (left right : View) → AreDisjoint left right → votes_among nodes left.members + votes_among nodes right.members ≤ all_votes nodes)
    (expected : (s : Settings) (votes : List VoteEntry) → s.last_man_standing ≡ false → s.expected ≤ expected_votes s votes)
    (present : (log : List Line) → present_view (votes log) ≡ view log) where
  -- a node that is quorate beside another one with a disjoint view counts a yes
  counts_yes : {s : Settings} {t : Timing} {times : Lease} {events : List ArbiterEvent} {i j : ℕ} {left right : View} → IsRun s t times events → (leased : LeasesVote s times)
      → AreDisjoint left right → IsQuorateIn s i left (run_beside s t times events) → IsQuorateIn s j right (run_beside s t times events) → Counts s t times leased.device i events
  counts_yes {s = s} {t = t} {times = times} {events = events} {i = i} {j = j} {left = left} {right = right} run leased apart one other =
      let first = node s i (moments_at s t times events) in
      let second = node s j (moments_at s t times events) in
      let it = must_count s leased.device (votes first.log) (votes second.log) (tick_of first.clock) (tick_of second.clock) left right
      (leased_of s leased.device leased.valid leased.has_device leased.no_last_man leased.whole)
      (present first.log ∙ one.sees) (present second.log ∙ other.sees) (together s.nodes left right apart)
      (expected s (votes first.log) leased.no_last_man) (expected s (votes second.log) leased.no_last_man)
      (printed s first.on first.log (tick_of first.clock) one.on one.quorate) (printed s second.on second.log (tick_of second.clock) other.on other.quorate) in
      record { on = one.on; since = it.since; votes_it = voted law run i it.since it.agreed; counts = it.counts }

  -- two nodes with disjoint present views are never both quorate
  pub one_lease : (s : Settings) (t : Timing) (times : Lease) (events : List ArbiterEvent) (i j : ℕ) (left right : View) → LeasesVote s times → IsRun s t times events
      → ((i ≡ j) → ⊥) → AreDisjoint left right → IsQuorateIn s i left (run_beside s t times events) → IsQuorateIn s j right (run_beside s t times events) → ⊥
  one_lease s t times events i j left right leased run differ apart one other =
      by_order (before_total first.votes_it.granted.back second.votes_it.granted.back)
    where
      swapped : AreDisjoint right left
      swapped = λ rank in_right in_left. apart rank in_left in_right

      first : Counts s t times leased.device i events
      first = counts_yes run leased apart one other

      second : Counts s t times leased.device j events
      second = counts_yes run leased swapped other one

      first_view : left ≡ first.votes_it.poll.view
      first_view = same_Some left first.votes_it.poll.view (sym one.sees ∙ first.votes_it.seen)

      second_view : right ≡ second.votes_it.poll.view
      second_view = same_Some right second.votes_it.poll.view (sym other.sees ∙ second.votes_it.seen)

      polls_apart : AreDisjoint first.votes_it.poll.view second.votes_it.poll.view
      polls_apart = subst (λ v. AreDisjoint v second.votes_it.poll.view) first_view (subst (λ v. AreDisjoint left v) second_view apart)

      safe : (101 * (times.limit + leased.device.timeout) ≤ 99 * (times.lease - 1)) × (1 ≤ times.lease)
      safe = safe_for s times leased.device leased.safe leased.has_device

      below : (k : ℕ) → (it : Counts s t times leased.device k events) → k < 32
      below k it = subst (λ n. n < 32) it.votes_it.from.from (granted_below run leased.valid.few_nodes it.votes_it.granted)

      by_order : Before (beside.Hear first.votes_it.granted.number ∷ first.votes_it.granted.earlier) (beside.Hear second.votes_it.granted.number ∷ second.votes_it.granted.earlier)
          ⊎ Before (beside.Hear second.votes_it.granted.number ∷ second.votes_it.granted.earlier) (beside.Hear first.votes_it.granted.number ∷ first.votes_it.granted.earlier) → ⊥
      by_order (inl back) = one_first law run first second differ (below i first) safe.0 safe.1 polls_apart back
      by_order (inr back) = one_first law run second first (λ e. differ (sym e)) (below j second) safe.0 safe.1 (λ rank in_second in_first. polls_apart rank in_first in_second) back

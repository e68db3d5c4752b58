-- A yes of the device that a node counts was given by the arbiter to a poll that the node sent in its present boot and view.
use Rattle.std.proofs.Common.{◌≡◌, ℕ, suc, ◌+◌, ◌≤◌, Bool, true, false, List, [], ◌∷◌, Some, None, Option, refl, sym, ap, ◌∙◌, subst, arith, ◌&&◌, ◌==◌, not, ◌⊎◌, inl, inr, if◌then◌else◌, nat_le}
use Rattle.std.specs.Prelude.{slice_get, is_some}
use Rattle.std.specs.Option.{option_map, option_map_or}
use Rattle.std.proofs.lemmas.Bool.{eqb-true, leb-true, false≢true, true≢false, not-true}
use Rattle.std.proofs.lemmas.Option.{same_Some}
use Rattle.qn_safety.specs.Boots.{one_boot}
use Rattle.qn_base.specs.declared.ids.Rank.{Rank}
use Rattle.qn_base.specs.declared.ids.View.{View}
use Rattle.qn_base.specs.lemmas.Options.{none_is_not_some, value_tested}
use Rattle.qn_base.specs.lemmas.Bools.{first_of_both, second_of_both}
use Rattle.qn_model.specs.declared.configuration.Settings.{Settings}
use Rattle.qn_model.specs.declared.entries.What.{What}
use Rattle.qn_model.specs.declared.entries.What.TheVariants as what
use Rattle.qn_model.specs.declared.events.Event.{Event}
use Rattle.qn_model.specs.declared.events.Event.TheVariants as met
use Rattle.qn_model.specs.declared.times.Timing.{Timing}
use Rattle.qn_model.specs.Log.{Line, incarnation, is_view, view_of}
use Rattle.qn_model.specs.Moments.{Before, Itself, Later, Moment, node, tick_of}
use Rattle.qn_model.specs.NodeOutputs.{is_begin}
use Rattle.qn_model.specs.NodeVotes.{answers, install, view, vote_of, votes}
use Rattle.qn_model.specs.Rules.{is_on, refusal}
use Rattle.qn_model.specs.Votes.{device_yes, newer_yes}
use Rattle.qn_model.specs.World.{node_at}
use Rattle.qn_safety.specs.Clocks.{RunsOn}
use Rattle.qn_safety.specs.LogMoves.{ComesOf, LogMove, Rests, Enters, Begins}
use Rattle.qn_safety.specs.Timed.{IsSameBoot}
use Rattle.qn_safety.specs.declared.arbiter_event.ArbiterEvent.{ArbiterEvent}
use Rattle.qn_safety.specs.declared.arbiter_event.ArbiterEvent.TheVariants as beside
use Rattle.qn_safety.specs.declared.lease.Lease.{Lease}
use Rattle.qn_safety.specs.declared.polls.Poll.{Poll}
use Rattle.qn_safety.specs.declared.polls.Reply.{Reply}
use Rattle.qn_safety.specs.Arbiter.{gives_yes}
use Rattle.qn_safety.specs.Poller.{Poller, SentPoll, answer_taken, is_reply_to, is_taken}
use Rattle.qn_safety.specs.ArbiterWorld.{Arbiter, ArbiterWorld, arbiter_tick, poll_at, reply_at}
use Rattle.qn_safety.specs.ArbiterRules.{is_yes_of_device, pass_of, refusal_beside}
use Rattle.qn_safety.specs.ArbiterSteps.{device_event, played, reply_event, reply_sent, reply_to, run_beside}
use Rattle.qn_safety.proofs.ArbiterBelow.{Below}
use Rattle.qn_safety.proofs.ArbiterTools.{before_then, first_allows, added_item}
use Rattle.qn_safety.proofs.ArbiterPlaying.{IsRun, NoEvent, OneEvent, Hears, hear_there, moments_at, moments_grow, newest_allowed, replies_now, reply_there, timed_of}
use Rattle.qn_safety.proofs.ArbiterSendings.{PollerMove, Keeps, Forgets, Fresh, RankStep, Idle, Sends, Acts, pass_is, rank_step}
use Rattle.qn_safety.proofs.ArbiterStandings.{SentFrom, Numbered, last_stands, numbered_step, was_sent}
use Rattle.qn_safety.proofs.Installs.{install_le, same_install, same_view, view_stays}
use Rattle.qn_model.specs.declared.votes.VoteWhat.TheVariants.{Released, Tick}
use Rattle.qn_model.specs.lemmas.Moments.{never_logged}

-- the arbiter gave its yes to a poll that was sent at some moments
pub record Granted (s : Settings) (t : Timing) (times : Lease) (poll : Poll) (sent : List Moment) (events : List ArbiterEvent) : Type 0 where
  pub number : ℕ
  pub earlier : List ArbiterEvent
  pub back : Before (beside.Hear number ∷ earlier) events
  pub arbiter : Arbiter
  pub runs : (run_beside s t times earlier).arbiter ≡ Some arbiter
  pub there : poll_at number (run_beside s t times earlier) ≡ Some poll
  pub gave : gives_yes arbiter.memory (arbiter_tick arbiter) poll ≡ true
  pub sent_back : Before sent (moments_at s t times earlier)

granted_later : {s : Settings} {t : Timing} {times : Lease} {poll : Poll} {sent : List Moment} {events : List ArbiterEvent} (event : ArbiterEvent)
    → Granted s t times poll sent events → Granted s t times poll sent (event ∷ events)
granted_later event it = record {
  number = it.number;
  earlier = it.earlier;
  back = Later event it.back;
  arbiter = it.arbiter;
  runs = it.runs;
  there = it.there;
  gave = it.gave;
  sent_back = it.sent_back;
}

-- a reply with a yes answers a poll of its node, to which the arbiter gave its yes
pub record Replied (s : Settings) (t : Timing) (times : Lease) (reply : Reply) (events : List ArbiterEvent) : Type 0 where
  pub poll : Poll
  pub sent : List Moment
  pub from : SentFrom s reply.to.0 poll sent
  pub number : poll.number ≡ reply.number
  pub incarnation : poll.incarnation ≡ reply.incarnation
  pub install : poll.install ≡ reply.install
  pub numbered : Numbered s reply.to.0 poll sent (moments_at s t times events) ((run_beside s t times events).pollers reply.to.0)
  pub granted : Granted s t times poll sent events

-- the reply that is sent is that of the arbiter to the poll that it hears
record Answers (s : Settings) (event : ArbiterEvent) (w : ArbiterWorld) (reply : Reply) : Type 0 where
  number : ℕ
  is_hear : event ≡ beside.Hear number
  hears : Hears number w
  same : reply_to hears.arbiter hears.poll ≡ reply

answers_of : (s : Settings) (t : Timing) (event : ArbiterEvent) (w : ArbiterWorld) (reply : Reply) → refusal_beside s t event w ≡ None → reply_sent event w ≡ Some reply → Answers s event w reply
unfolding reply_sent
answers_of s t (beside.One one) w reply ok e = none_is_not_some reply e
answers_of s t (beside.PassWith advance one) w reply ok e = none_is_not_some reply e
answers_of s t (beside.ArbiterBoot base) w reply ok e = none_is_not_some reply e
answers_of s t beside.ArbiterCrash w reply ok e = none_is_not_some reply e
answers_of s t (beside.Poll rank) w reply ok e = none_is_not_some reply e
answers_of s t (beside.Reply number) w reply ok e = none_is_not_some reply e
answers_of s t (beside.Hear number) w reply ok e =
    let it = hear_there s t number w ok in
    record {
      number = number;
      is_hear = refl;
      hears = it;
      same = same_Some (reply_to it.arbiter it.poll) reply
          (sym (ap (λ a. option_map_or (λ arbiter. option_map (reply_to arbiter) (poll_at number w)) a None) it.runs ∙ ap (λ p. option_map (reply_to it.arbiter) p) it.there) ∙ e);
    }

pub replied : {s : Settings} {t : Timing} {times : Lease} {events : List ArbiterEvent} → Below → IsRun s t times events → (number : ℕ) (reply : Reply)
    → reply_at number (run_beside s t times events) ≡ Some reply → reply.agrees ≡ true → Replied s t times reply events
unfolding run_beside
replied law NoEvent number reply is agrees = none_is_not_some reply is
replied {s = s} {t = t} {times = times} law (OneEvent {event = event} {earlier = earlier} form ok run) number reply is agrees =
    by_item (added_item (run_beside s t times earlier).replies (reply_sent event (run_beside s t times earlier)) number reply
    (sym (ap (λ rs. slice_get rs number) (replies_now s t times event earlier)) ∙ is)) (λ was. replied law run number reply was agrees)
  where
    whole : IsRun s t times (event ∷ earlier)
    whole = OneEvent form ok run

    by_answer : Answers s event (run_beside s t times earlier) reply → Replied s t times reply (event ∷ earlier)
    by_answer it =
        let hears = it.hears in
        let arbiter = hears.arbiter in
        let poll = hears.poll in
        let there = was_sent law run it.number poll hears.there in
        let to_is : poll.from.0 ≡ reply.to.0 = ap (λ (r : Reply). r.to.0) it.same in
        let from = subst (λ k. SentFrom s k poll there.sent) to_is there.from in
        let numbered = subst (λ k. Numbered s k poll there.sent (moments_at s t times (event ∷ earlier)) ((run_beside s t times (event ∷ earlier)).pollers k)) to_is
        (numbered_step law whole poll.from.0 poll there.sent there.numbered) in
        record {
          poll = poll;
          sent = there.sent;
          from = from;
          number = ap (λ (r : Reply). r.number) it.same;
          incarnation = ap (λ (r : Reply). r.incarnation) it.same;
          install = ap (λ (r : Reply). r.install) it.same;
          numbered = numbered;
          granted = record {
            number = it.number;
            earlier = earlier;
            back = subst (λ e. Before (beside.Hear it.number ∷ earlier) (e ∷ earlier)) (sym it.is_hear) Itself;
            arbiter = arbiter;
            runs = hears.runs;
            there = hears.there;
            gave = ap (λ (r : Reply). r.agrees) it.same ∙ agrees;
            sent_back = there.numbered.back;
          };
        }

    by_item : (reply_at number (run_beside s t times earlier) ≡ Some reply) ⊎ (reply_sent event (run_beside s t times earlier) ≡ Some reply)
        → (reply_at number (run_beside s t times earlier) ≡ Some reply → Replied s t times reply earlier) → Replied s t times reply (event ∷ earlier)
    by_item (inl was) rest =
        let it = rest was in
        record {
          poll = it.poll;
          sent = it.sent;
          from = it.from;
          number = it.number;
          incarnation = it.incarnation;
          install = it.install;
          numbered = numbered_step law whole reply.to.0 it.poll it.sent it.numbered;
          granted = granted_later event it.granted;
        }
    by_item (inr gives) rest = by_answer (answers_of s t event (run_beside s t times earlier) reply ok gives)

-- the limit of a poller is that of the run
limit_kept : (times : Lease) (rank : ℕ) (one : Event) (before after : Poller) → PollerMove times rank one before after → before.limit ≡ times.limit → after.limit ≡ times.limit
limit_kept times rank one before after (Keeps e unseen none) was = ap (λ (p : Poller). p.limit) e ∙ was
limit_kept times rank one before after (Forgets e none) was = ap (λ (p : Poller). p.limit) e ∙ was
limit_kept times rank one before after (Fresh e boot) was = ap (λ (p : Poller). p.limit) e

pub limit_is : {s : Settings} {t : Timing} {times : Lease} {events : List ArbiterEvent} → Below → IsRun s t times events → (rank : ℕ) → ((run_beside s t times events).pollers rank).limit ≡ times.limit
unfolding run_beside
limit_is law NoEvent rank = refl
limit_is {s = s} {t = t} {times = times} law (OneEvent {event = event} {earlier = earlier} form ok run) rank =
    by_step (rank_step law (OneEvent form ok run) rank) (limit_is law run rank)
  where
    by_step : RankStep s times event (run_beside s t times earlier) rank (moments_at s t times earlier) (moments_at s t times (event ∷ earlier))
        ((run_beside s t times earlier).pollers rank) ((run_beside s t times (event ∷ earlier)).pollers rank)
        → ((run_beside s t times earlier).pollers rank).limit ≡ times.limit → ((run_beside s t times (event ∷ earlier)).pollers rank).limit ≡ times.limit
    by_step (Idle same kept silent) was = ap (λ (p : Poller). p.limit) kept ∙ was
    by_step (Sends own at is same stands kept gave) was = ap (λ (p : Poller). p.limit) kept ∙ was
    by_step (Acts one plays' moved poller silent) was = limit_kept times rank one _ _ poller was

-- the device's yes that a rank counts: the poll that got it was sent in the present boot and view, and the reply was taken within
-- the limit
pub record Voted (s : Settings) (t : Timing) (times : Lease) (rank since : ℕ) (events : List ArbiterEvent) : Type 0 where
  pub poll : Poll
  pub sent : List Moment
  pub from : SentFrom s rank poll sent
  pub granted : Granted s t times poll sent events
  pub back : Before sent (moments_at s t times events)
  pub same : IsSameBoot s rank sent (moments_at s t times events)
  pub installed : install (node s rank (moments_at s t times events)).log ≡ poll.install
  pub seen : view (node s rank (moments_at s t times events)).log ≡ Some poll.view
  pub in_time : since ≤ tick_of (node s rank sent).clock + times.limit

-- what a line is to the device's yes
data VoteStep (past : List Line) (tick : ℕ) (w : What) : Type 0 where
  EndsYes : ((before : Option ℕ) → newer_yes tick (vote_of past w) before ≡ None) → VoteStep past tick w
  KeepsYes : view_of w ≡ None → ((before : Option ℕ) → newer_yes tick (vote_of past w) before ≡ before) → VoteStep past tick w
  GivesYes : w ≡ what.Device true → VoteStep past tick w

told : (past : List Line) (tick : ℕ) (b : Bool) (before : Option ℕ)
    → newer_yes tick (if b then Released else Tick) before ≡ before
told past tick true before = refl
told past tick false before = refl

vote_step : (past : List Line) (tick : ℕ) (w : What) → VoteStep past tick w
vote_step past tick (what.View seen) = EndsYes (λ before. refl)
vote_step past tick (what.Device true) = GivesYes refl
vote_step past tick (what.Device false) = EndsYes (λ before. refl)
vote_step past tick (what.Tell tell) = KeepsYes refl (λ before. told past tick (answers past tell && tell.released) before)
vote_step past tick what.Begin = KeepsYes refl (λ before. refl)
vote_step past tick what.BeginClean = KeepsYes refl (λ before. refl)
vote_step past tick (what.Header seen) = KeepsYes refl (λ before. refl)
vote_step past tick (what.SlotRead other seen) = KeepsYes refl (λ before. refl)
vote_step past tick (what.MailChecked seen) = KeepsYes refl (λ before. refl)
vote_step past tick (what.Claimed ok) = KeepsYes refl (λ before. refl)
vote_step past tick (what.Cleared ok) = KeepsYes refl (λ before. refl)
vote_step past tick (what.MailRead seen) = KeepsYes refl (λ before. refl)
vote_step past tick (what.MailWritten other ok) = KeepsYes refl (λ before. refl)
vote_step past tick (what.Ask ask) = KeepsYes refl (λ before. refl)
vote_step past tick what.Tick = KeepsYes refl (λ before. refl)
vote_step past tick (what.Stopped ok) = KeepsYes refl (λ before. refl)
vote_step past tick what.Leave = KeepsYes refl (λ before. refl)
vote_step past tick (what.Closed ok) = KeepsYes refl (λ before. refl)

yes_with : (line : Line) (past : List Line) → device_yes (votes (line ∷ past)) ≡ newer_yes line.tick (vote_of past line.what) (device_yes (votes past))
unfolding device_yes votes
yes_with line past = refl

no_yes : device_yes (votes []) ≡ None
unfolding device_yes votes
no_yes = refl

begin_no_yes : (line : Line) → is_begin line.what ≡ true → device_yes (votes (line ∷ [])) ≡ None
begin_no_yes line begins = yes_with line [] ∙ by_what line.what begins
  where
    by_what : (w : What) → is_begin w ≡ true → newer_yes line.tick (vote_of [] w) (device_yes (votes [])) ≡ None
    by_what what.Begin e = no_yes
    by_what what.BeginClean e = no_yes
    by_what (what.Header seen) e = absurd (false≢true e)
    by_what (what.SlotRead rank seen) e = absurd (false≢true e)
    by_what (what.MailChecked seen) e = absurd (false≢true e)
    by_what (what.Claimed ok) e = absurd (false≢true e)
    by_what (what.Cleared ok) e = absurd (false≢true e)
    by_what (what.MailRead seen) e = absurd (false≢true e)
    by_what (what.MailWritten rank ok) e = absurd (false≢true e)
    by_what (what.View seen) e = absurd (false≢true e)
    by_what (what.Ask ask) e = absurd (false≢true e)
    by_what (what.Tell tell) e = absurd (false≢true e)
    by_what (what.Device agrees) e = absurd (false≢true e)
    by_what what.Tick e = absurd (false≢true e)
    by_what (what.Stopped ok) e = absurd (false≢true e)
    by_what what.Leave e = absurd (false≢true e)
    by_what (what.Closed ok) e = absurd (false≢true e)

-- a yes of the device comes of a reply that is taken
record Takes (s : Settings) (rank : ℕ) (event : ArbiterEvent) (w : ArbiterWorld) : Type 0 where
  number : ℕ
  reply : Reply
  there : reply_at number w ≡ Some reply
  to : reply.to.0 ≡ rank
  on : is_on s rank w.world ≡ true
  last : SentPoll
  kept : (w.pollers rank).last ≡ Some last
  answers_it : is_taken (w.pollers rank).limit (tick_of (node_at s rank w.world).clock) reply last ≡ true
  agrees : reply.agrees ≡ true

device_same : (a b : Rank) (x y : Bool) → met.Device a x ≡ met.Device b y → (a ≡ b) × (x ≡ y)
device_same a b x y e = (cc, cc)

tick_no_device : (a b : Rank) (y : Bool) → met.Tick a ≡ met.Device b y → ⊥
tick_no_device a b y e = cc

taken_yes : (o : Option SentPoll) (limit tick : ℕ) (reply : Reply) → (if option_map_or (is_taken limit tick reply) o false then Some reply.agrees else None) ≡ Some true
    → (last : SentPoll) × ((o ≡ Some last) × ((is_taken limit tick reply last ≡ true) × (reply.agrees ≡ true)))
taken_yes o limit tick reply e = by_test (option_map_or (is_taken limit tick reply) o false) refl e
  where
    by_test : (b : Bool) → option_map_or (is_taken limit tick reply) o false ≡ b → (if b then Some reply.agrees else None) ≡ Some true
        → (last : SentPoll) × ((o ≡ Some last) × ((is_taken limit tick reply last ≡ true) × (reply.agrees ≡ true)))
    by_test true is e' = let it = value_tested (is_taken limit tick reply) o is in (it.0, (it.1, (it.2, same_Some reply.agrees true e')))
    by_test false is e' = none_is_not_some true e'

takes : (s : Settings) (t : Timing) (rank : ℕ) (event : ArbiterEvent) (w : ArbiterWorld) → refusal_beside s t event w ≡ None
    → played s event w ≡ Some (met.Device (record { 0 = rank }) true) → Takes s rank event w
unfolding played refusal_beside
takes s t rank (beside.ArbiterBoot base) w ok e = none_is_not_some _ e
takes s t rank beside.ArbiterCrash w ok e = none_is_not_some _ e
takes s t rank (beside.Poll own) w ok e = none_is_not_some _ e
takes s t rank (beside.Hear number) w ok e = none_is_not_some _ e
takes s t rank (beside.One one) w ok e =
    let refused = not-true (is_yes_of_device one) (first_allows (not (is_yes_of_device one)) 11 (refusal s t one w.world) ok).0 in
    absurd (true≢false (sym (ap is_yes_of_device (same_Some one (met.Device (record { 0 = rank }) true) e)) ∙ refused))
takes s t rank (beside.PassWith advance one) w ok e =
    let is = pass_is s t advance one w ok in
    none_is_not_some is.0 (sym (ap pass_of (same_Some one (met.Device (record { 0 = rank }) true) e)) ∙ is.1.0)
takes s t rank (beside.Reply number) w ok e = by_reply (reply_there s t number w ok)
  where
    by_answer : (reply : Reply) → reply_at number w ≡ Some reply → is_on s reply.to.0 w.world ≡ true → (o : Option Bool)
        → answer_taken (tick_of (node_at s reply.to.0 w.world).clock) reply (w.pollers reply.to.0) ≡ o → device_event reply.to o ≡ met.Device (record { 0 = rank }) true
        → Takes s rank (beside.Reply number) w
    by_answer reply there on None answer is = absurd (tick_no_device reply.to (record { 0 = rank }) true is)
    by_answer reply there on (Some agrees) answer is =
        let same = device_same reply.to (record { 0 = rank }) agrees true is in
        let it = taken_yes (w.pollers reply.to.0).last (w.pollers reply.to.0).limit (tick_of (node_at s reply.to.0 w.world).clock) reply (answer ∙ ap Some same.1) in
        let own : reply.to.0 ≡ rank = ap (λ (k : Rank). k.0) same.0 in
        record {
          number = number;
          reply = reply;
          there = there;
          to = own;
          on = subst (λ k. is_on s k w.world ≡ true) own on;
          last = it.0;
          kept = subst (λ k. (w.pollers k).last ≡ Some it.0) own it.1.0;
          answers_it = subst (λ k. is_taken (w.pollers k).limit (tick_of (node_at s k w.world).clock) reply it.0 ≡ true) own it.1.1.0;
          agrees = it.1.1.1;
        }

    by_reply : ((reply : Reply) × (reply_at number w ≡ Some reply) × (is_on s reply.to.0 w.world ≡ true)) → Takes s rank (beside.Reply number) w
    by_reply it =
        by_answer it.0 it.1 it.2 (answer_taken (tick_of (node_at s it.0.to.0 w.world).clock) it.0 (w.pollers it.0.to.0)) refl
        (same_Some _ _ (sym (ap (λ o. option_map (reply_event s w) o) it.1) ∙ e))

-- the reply that is taken answers the last poll of the rank, and gives its yes the time of that poll
voted_of : {s : Settings} {t : Timing} {times : Lease} {event : ArbiterEvent} {earlier : List ArbiterEvent} → Below → IsRun s t times (event ∷ earlier) → (rank : ℕ) (line : Line)
    → Takes s rank event (run_beside s t times earlier)
    → IsSameBoot s rank (moments_at s t times earlier) (moments_at s t times (event ∷ earlier))
    → (node s rank (moments_at s t times (event ∷ earlier))).log ≡ line ∷ (node s rank (moments_at s t times earlier)).log
    → view_of line.what ≡ None → line.tick ≡ tick_of (node s rank (moments_at s t times earlier)).clock → Voted s t times rank line.tick (event ∷ earlier)
voted_of {s = s} {t = t} {times = times} {event = event} {earlier = earlier} law whole rank line it same log unseen at =
    let run = (newest_allowed whole).rest in
    let w = run_beside s t times earlier in
    let old = moments_at s t times earlier in
    let reply = it.reply in
    let sought = replied law run it.number reply it.there it.agrees in
    let from = subst (λ k. SentFrom s k sought.poll sought.sent) it.to sought.from in
    let numbered = subst (λ k. Numbered s k sought.poll sought.sent old (w.pollers k)) it.to sought.numbered in
    let last = last_stands law run rank it.last it.kept in
    let is_reply = first_of_both (is_reply_to it.last.poll reply) (nat_le (tick_of (node_at s rank w.world).clock) (it.last.tick + (w.pollers rank).limit)) it.answers_it in
    let timely = leb-true (tick_of (node_at s rank w.world).clock) (it.last.tick + (w.pollers rank).limit)
    (second_of_both (is_reply_to it.last.poll reply) (nat_le (tick_of (node_at s rank w.world).clock) (it.last.tick + (w.pollers rank).limit)) it.answers_it) in
    let first_two = first_of_both (it.last.poll.number == reply.number && it.last.poll.incarnation == reply.incarnation) (it.last.poll.install == reply.install) is_reply in
    let number_is : it.last.poll.number ≡ reply.number =
    eqb-true it.last.poll.number reply.number (first_of_both (it.last.poll.number == reply.number) (it.last.poll.incarnation == reply.incarnation) first_two) in
    let incarnation_is : it.last.poll.incarnation ≡ reply.incarnation =
    eqb-true it.last.poll.incarnation reply.incarnation (second_of_both (it.last.poll.number == reply.number) (it.last.poll.incarnation == reply.incarnation) first_two) in
    let install_is : it.last.poll.install ≡ reply.install =
    eqb-true it.last.poll.install reply.install (second_of_both (it.last.poll.number == reply.number && it.last.poll.incarnation == reply.incarnation) (it.last.poll.install == reply.install) is_reply) in
    let limit = limit_is law run rank in
    let timed = timed_of law run in
    let same_sent = one_boot timed rank reply.incarnation sought.sent last.sent numbered.back last.back from.up last.from.up
    (from.number ∙ ap Some sought.incarnation) (last.from.number ∙ ap Some incarnation_is) in
    let same_old : IsSameBoot s rank sought.sent old = same_sent ∙ last.same in
    let ticks = numbered.ticks same_old it.last it.kept (number_is ∙ sym sought.number) in
    let runs : RunsOn s rank sought.sent old old = record { order = numbered.back; back = Itself; same = same_old; on = it.on } in
    let grows = law.log s t rank sought.sent old old timed runs in
    let installed_old : install (node s rank old).log ≡ sought.poll.install = last.installed ∙ install_is ∙ sym sought.install in
    let seen_old : view (node s rank old).log ≡ Some sought.poll.view = view_stays grows (from.installed ∙ sym installed_old) ∙ from.seen in
    record {
      poll = sought.poll;
      sent = sought.sent;
      from = from;
      granted = granted_later event sought.granted;
      back = before_then numbered.back (moments_grow law whole (Later event Itself));
      same = same_old ∙ same;
      installed = ap install log ∙ same_install line (node s rank old).log unseen ∙ installed_old;
      seen = ap view log ∙ same_view line (node s rank old).log unseen ∙ seen_old;
      in_time = omega arith;
    }

first_moments : (s : Settings) (t : Timing) (times : Lease) → moments_at s t times [] ≡ []
unfolding run_beside
first_moments s t times = refl

-- a device's yes that a rank counts was given to a poll of its present boot and view
pub voted : {s : Settings} {t : Timing} {times : Lease} {events : List ArbiterEvent} → Below → IsRun s t times events → (rank since : ℕ)
    → device_yes (votes (node s rank (moments_at s t times events)).log) ≡ Some since → Voted s t times rank since events
voted {s = s} {t = t} {times = times} law NoEvent rank since is =
    none_is_not_some since (sym (ap (λ ms. device_yes (votes (node s rank ms).log)) (first_moments s t times) ∙ ap (λ log. device_yes (votes log)) (never_logged s rank) ∙ no_yes) ∙ is)
voted {s = s} {t = t} {times = times} law (OneEvent {event = event} {earlier = earlier} form ok run) rank since is =
    by_step (rank_step law (OneEvent form ok run) rank) (λ e. voted law run rank since e)
  where
    w : ArbiterWorld
    w = run_beside s t times earlier

    whole : IsRun s t times (event ∷ earlier)
    whole = OneEvent form ok run

    old : List Moment
    old = moments_at s t times earlier

    new : List Moment
    new = moments_at s t times (event ∷ earlier)

    moved_on : Voted s t times rank since earlier → IsSameBoot s rank old new → install (node s rank new).log ≡ install (node s rank old).log
        → view (node s rank new).log ≡ view (node s rank old).log → Voted s t times rank since (event ∷ earlier)
    moved_on was same installed seen = record {
      poll = was.poll;
      sent = was.sent;
      from = was.from;
      granted = granted_later event was.granted;
      back = before_then was.back (moments_grow law whole (Later event Itself));
      same = was.same ∙ same;
      installed = installed ∙ was.installed;
      seen = seen ∙ was.seen;
      in_time = was.in_time;
    }

    still : new ≡ old → (device_yes (votes (node s rank old).log) ≡ Some since → Voted s t times rank since earlier) → Voted s t times rank since (event ∷ earlier)
    still same rest =
        moved_on (rest (sym (ap (λ ms. device_yes (votes (node s rank ms).log)) same) ∙ is)) (sym (ap (λ ms. (node s rank ms).boots) same))
        (ap (λ ms. install (node s rank ms).log) same) (ap (λ ms. view (node s rank ms).log) same)

    by_line : (one : Event) (line : Line) → played s event w ≡ Some one → IsSameBoot s rank old new → (node s rank new).log ≡ line ∷ (node s rank old).log
        → ComesOf one rank line.what → line.tick ≡ tick_of (node s rank old).clock → VoteStep (node s rank old).log line.tick line.what
        → (device_yes (votes (node s rank old).log) ≡ Some since → Voted s t times rank since earlier) → Voted s t times rank since (event ∷ earlier)
    by_line one line plays' same log comes at (EndsYes ends) rest =
        none_is_not_some since (sym (ap (λ l. device_yes (votes l)) log ∙ yes_with line (node s rank old).log ∙ ends (device_yes (votes (node s rank old).log))) ∙ is)
    by_line one line plays' same log comes at (KeepsYes unseen keeps) rest =
        moved_on (rest (sym (ap (λ l. device_yes (votes l)) log ∙ yes_with line (node s rank old).log ∙ keeps (device_yes (votes (node s rank old).log))) ∙ is)) same
        (ap install log ∙ same_install line (node s rank old).log unseen) (ap view log ∙ same_view line (node s rank old).log unseen)
    by_line one line plays' same log comes at (GivesYes says) rest =
        let handed : one ≡ met.Device (record { 0 = rank }) true = subst (λ x. ComesOf one rank x) says comes in
        let since_is : line.tick ≡ since =
        same_Some line.tick since (sym (ap (λ l. device_yes (votes l)) log ∙ yes_with line (node s rank old).log
        ∙ ap (λ x. newer_yes line.tick (vote_of (node s rank old).log x) (device_yes (votes (node s rank old).log))) says) ∙ is) in
        subst (λ n. Voted s t times rank n (event ∷ earlier)) since_is
        (voted_of law whole rank line (takes s t rank event w ok (plays' ∙ ap Some handed)) same log (ap view_of says) at)

    by_move : (one : Event) → played s event w ≡ Some one → LogMove s rank one old new
        → (device_yes (votes (node s rank old).log) ≡ Some since → Voted s t times rank since earlier) → Voted s t times rank since (event ∷ earlier)
    by_move one plays' (Rests none same log) rest =
        moved_on (rest (sym (ap (λ l. device_yes (votes l)) log) ∙ is)) same (ap install log) (ap view log)
    by_move one plays' (Enters line none same log comes at) rest = by_line one line plays' same log comes at (vote_step (node s rank old).log line.tick line.what) rest
    by_move one plays' (Begins line boot count log begins) rest = none_is_not_some since (sym (ap (λ l. device_yes (votes l)) log ∙ begin_no_yes line begins) ∙ is)

    by_step : RankStep s times event w rank old new (w.pollers rank) ((run_beside s t times (event ∷ earlier)).pollers rank)
        → (device_yes (votes (node s rank old).log) ≡ Some since → Voted s t times rank since earlier) → Voted s t times rank since (event ∷ earlier)
    by_step (Idle same kept silent) rest = still same rest
    by_step (Sends own at own_rank same stands kept gave) rest = still same rest
    by_step (Acts one plays' moved poller silent) rest = by_move one plays' moved rest

-- The events that change nodes alone.
use Rattle.std.proofs.Common.{◌≡◌, ℕ, ◌<◌, Bool, true, false, List, [], ◌∷◌, Some, None, length, refl, if◌then◌else◌, ◌⊎◌, inl, inr, sym, ◌∙◌, ap, subst}
use Rattle.std.specs.Prelude.{Option, is_some, slice_get, ◌==◌}
use Rattle.std.specs.Option.{option_map_or, option_or}
use Rattle.qn_base.specs.declared.ids.Rank.{Rank}
use Rattle.qn_base.specs.declared.ids.View.{View}
use Rattle.qn_base.specs.lemmas.Numbers.{same_or_not}
use Rattle.qn_cluster.specs.EventRanks.{rank_configured}
use Rattle.qn_cluster.specs.Events.{CanStep, KeepsOut, Starved, Stepped}
use Rattle.qn_cluster.specs.Nodes.{Nodes}
use Rattle.qn_cluster.specs.Seats.{IsDue}
use Rattle.qn_cluster.specs.Standing.{ClusterFor, IsStanding}
use Rattle.qn_cluster.specs.Stepping.{Fed, Handed, IsPassable, Passed, Unhanded, grows}
use Rattle.qn_cluster.proofs.HandSteps.{one_adds}
use Rattle.qn_model.specs.declared.configuration.Settings.{Settings}
use Rattle.qn_model.specs.declared.entries.What.{What}
use Rattle.qn_model.specs.declared.entries.What.TheVariants as what
use Rattle.qn_model.specs.declared.events.Event.{Event}
use Rattle.qn_model.specs.declared.events.Event.TheVariants as event
use Rattle.qn_model.specs.declared.outputs.Out.{Out}
use Rattle.qn_model.specs.declared.packets.Sent.{Sent}
use Rattle.qn_model.specs.declared.times.Timing.{Timing}
use Rattle.qn_model.specs.Log.{is_answer, op_out}
use Rattle.qn_model.specs.Moments.{Adds, Feeds, Moment, Passes, Running, node, packets, time}
use Rattle.qn_model.specs.NodeOutputs.{newest_outs}
use Rattle.qn_model.specs.Rules.{is_on, is_well_formed, may_deliver, may_pass, refusal, unless}
use Rattle.qn_model.specs.Steps.{entry_of, happens, outs_after, step, touched}
use Rattle.qn_model.specs.World.{World, node_at, op_at}
use Rattle.qn_model.specs.lemmas.Entries.{packet_answers_none}
use Rattle.qn_model.specs.lemmas.Rules.{allowed as passed, running_allowed}
use Rattle.qn_cluster.specs.EventLaws.{no_outputs}

-- the rank of a well formed event has a seat
pub rank_within : (w : Nodes) (event : Event) (rank : Rank) → IsStanding w → is_well_formed w.settings event ≡ true → touched event ≡ Some rank
    → rank.0 < length w.seats
rank_within w event rank standing formed e = subst (λ count. rank.0 < count) (sym standing.1.count) (rank_configured w.settings event rank formed e)

pub rank_ready : (w : Nodes) (event : Event) (rank : Rank) → CanStep w event → touched event ≡ Some rank → rank.0 < length w.seats
rank_ready w event rank ready e = rank_within w event rank (ready.world.moments, ready.stands) ready.formed e

-- ---- what the rules leave

passed_second : (on test : Bool) (rule : ℕ) → option_or (unless on 3) (unless test rule) ≡ None → test ≡ true
passed_second true test rule e = passed test rule e
passed_second false test rule e = absurd (cc)

-- ---- a result on one side

-- ---- operations that are out

-- an entry of a running node that leaves its own operation out leaves those of the others
entry_keeps : (s : Settings) (d : World) (i : ℕ) (entry : What) → is_on s i d ≡ true
    → (is_some (op_at s i d) ≡ true → op_at s i (happens (Adds i entry) d) ≡ op_at s i d)
    → KeepsOut s d (happens (Adds i entry) d)
entry_keeps s d i entry on own =
    record { ran = λ j after. ran_by j after (same_or_not i j); same = λ j before some. same_by j some (same_or_not i j) }
  where
    ran_by : (j : ℕ) → is_on s j (happens (Adds i entry) d) ≡ true → (i ≡ j) ⊎ ((i == j) ≡ false) → is_on s j d ≡ true
    ran_by j after (inl same) = subst (λ k. is_on s k d ≡ true) same on
    ran_by j after (inr apart) = sym (ap (λ n. n.on) ((one_adds s d.moments i entry).others j apart)) ∙ after

    same_by : (j : ℕ) → is_some (op_at s j d) ≡ true → (i ≡ j) ⊎ ((i == j) ≡ false) → op_at s j (happens (Adds i entry) d) ≡ op_at s j d
    same_by j some (inl same) =
        subst (λ k. is_some (op_at s k d) ≡ true → op_at s k (happens (Adds i entry) d) ≡ op_at s k d) same own some
    same_by j some (inr apart) = ap (λ n. op_out n.log) ((one_adds s d.moments i entry).others j apart)

-- a feed and a pass change no log
fed_same : (s : Settings) (moments : List Moment) (i j : ℕ)
    → ((node s j (Feeds i ∷ moments)).log ≡ (node s j moments).log) × ((node s j (Feeds i ∷ moments)).on ≡ (node s j moments).on)
unfolding node
fed_same s moments i j = fed_by (i == j)
  where
    fed_by : (b : Bool) → ((if b then record (node s j moments) { fed = time moments } else node s j moments).log ≡ (node s j moments).log)
        × ((if b then record (node s j moments) { fed = time moments } else node s j moments).on ≡ (node s j moments).on)
    fed_by true = (refl, refl)
    fed_by false = (refl, refl)

feed_keeps : (s : Settings) (d : World) (i : ℕ) → KeepsOut s d (happens (Feeds i) d)
feed_keeps s d i =
    record { ran = λ j after. sym (fed_same s d.moments i j).1 ∙ after; same = λ j before some. ap op_out (fed_same s d.moments i j).0 }

pass_keeps : (s : Settings) (d : World) (dt : ℕ) (clocks : List (Rank × ℕ)) → KeepsOut s d (happens (Passes dt clocks) d)
unfolding node
pass_keeps s d dt clocks = record { ran = λ j after. after; same = λ j before some. refl }

-- ---- entries that answer nothing

plain_due : (n : Running) (entry : What) → is_answer entry ≡ false → IsDue n entry
plain_due n entry plain kind = absurd (let z : false ≡ true = sym plain ∙ kind in cc)

-- an event that hands a node an entry and nothing else
pub record Plain (s : Settings) (event : Event) (rank : Rank) (entry : What) : Type 0 where
  pub steps : (t : Timing) (d : World) → step s t event d ≡ happens (Adds rank.0 entry) d
  pub on : (t : Timing) (d : World) → refusal s t event d ≡ None → is_on s rank.0 d ≡ true
  pub plain : is_answer entry ≡ false
  pub outs : (after : World) → outs_after s event after ≡ newest_outs (node_at s rank.0 after).log

pub view_plain : (s : Settings) (rank : Rank) (view : View) → Plain s (event.View rank view) rank (what.View view)
unfolding step refusal
view_plain s rank view = record { steps = λ t d. refl; on = λ t d e. running_allowed (is_on s rank.0 d) _ e; plain = refl; outs = λ after. refl }

pub device_plain : (s : Settings) (rank : Rank) (agrees : Bool) → Plain s (event.Device rank agrees) rank (what.Device agrees)
unfolding step refusal
device_plain s rank agrees = record { steps = λ t d. refl; on = λ t d e. running_allowed (is_on s rank.0 d) _ e; plain = refl; outs = λ after. refl }

pub tick_plain : (s : Settings) (rank : Rank) → Plain s (event.Tick rank) rank what.Tick
unfolding step refusal
tick_plain s rank = record { steps = λ t d. refl; on = λ t d e. running_allowed (is_on s rank.0 d) _ e; plain = refl; outs = λ after. refl }

pub stopped_plain : (s : Settings) (rank : Rank) → Plain s (event.Stopped rank) rank (what.Stopped true)
unfolding step refusal
stopped_plain s rank = record { steps = λ t d. refl; on = λ t d e. running_allowed (is_on s rank.0 d) _ e; plain = refl; outs = λ after. refl }

pub unstopped_plain : (s : Settings) (rank : Rank) → Plain s (event.Unstopped rank) rank (what.Stopped false)
unfolding step refusal
unstopped_plain s rank = record { steps = λ t d. refl; on = λ t d e. running_allowed (is_on s rank.0 d) _ e; plain = refl; outs = λ after. refl }

pub leave_plain : (s : Settings) (rank : Rank) → Plain s (event.Leave rank) rank what.Leave
unfolding step refusal
leave_plain s rank = record { steps = λ t d. refl; on = λ t d e. running_allowed (is_on s rank.0 d) _ e; plain = refl; outs = λ after. refl }

pub entry_stepped : (w new : Nodes) (event : Event) (rank : Rank) (entry : What) (outs : List Out) → Plain w.settings event rank entry
    → Handed w new rank.0 entry outs → Stepped w new event outs
entry_stepped w new event rank entry outs p made =
    record {
      frame = made.frame;
      stands = λ t d is allowed.
          subst (λ e. ClusterFor new e.moments) (sym (p.steps t d))
          (made.stands d.moments is (p.on t d allowed) (plain_due (node_at w.settings rank.0 d) entry p.plain));
      gives = λ t d is allowed.
          made.gives d.moments is (p.on t d allowed)
          ∙ (ap (λ after. newest_outs (node_at w.settings rank.0 after).log) (sym (p.steps t d)) ∙ sym (p.outs (step w.settings t event d)));
      ranks = λ t d is allowed. made.ranks d.moments is (p.on t d allowed);
      keeps = λ t d is allowed.
          subst (KeepsOut w.settings d) (sym (p.steps t d))
          (entry_keeps w.settings d rank.0 entry (p.on t d allowed) (made.keeps d.moments is (p.on t d allowed) p.plain));
    }

pub entry_starved : (w new : Nodes) (event : Event) (rank : Rank) (entry : What) → Plain w.settings event rank entry
    → Unhanded w new rank.0 entry → Starved w new event
entry_starved w new event rank entry p starved =
    record {
      same = starved.same;
      cause = λ t d is allowed. ap (λ after. grows w.settings d.moments after.moments) (p.steps t d) ∙ starved.cause d.moments is (p.on t d allowed);
    }

-- ---- pass and feed

pass_ready : (s : Settings) (t : Timing) (d : World) (dt : ℕ) (clocks : List (Rank × ℕ)) → refusal s t (event.Pass dt clocks) d ≡ None → may_pass s t dt clocks d ≡ true
unfolding refusal
pass_ready s t d dt clocks e = passed (may_pass s t dt clocks d) 1 e

pub passable : (w : Nodes) (dt : ℕ) (clocks : List (Rank × ℕ)) → CanStep w (event.Pass dt clocks) → IsPassable w dt clocks
passable w dt clocks ready =
    record { timing = ready.timing; world = ready.world; stands = ready.stands; allowed = pass_ready w.settings ready.timing ready.world dt clocks ready.allowed }

pub pass_made : (w new : Nodes) (dt : ℕ) (clocks : List (Rank × ℕ)) → Passed w new dt clocks → Stepped w new (event.Pass dt clocks) []
unfolding step
pass_made w new dt clocks passes =
    record {
      frame = passes.frame;
      stands = λ t d is allowed. passes.stands t d is (pass_ready w.settings t d dt clocks allowed);
      gives = λ t d is allowed. refl;
      ranks = λ t d is allowed. no_outputs w.settings;
      keeps = λ t d is allowed. pass_keeps w.settings d dt clocks;
    }

pub feed_made : (w new : Nodes) (rank : Rank) → Fed w new rank.0 → Stepped w new (event.Feed rank) []
unfolding step
feed_made w new rank feeds =
    record {
      frame = feeds.frame;
      stands = λ t d is allowed. feeds.stands d.moments is;
      gives = λ t d is allowed. refl;
      ranks = λ t d is allowed. no_outputs w.settings;
      keeps = λ t d is allowed. feed_keeps w.settings d rank.0;
    }

-- ---- deliver

deliver_on : (s : Settings) (t : Timing) (d : World) (rank : Rank) (number : ℕ) → refusal s t (event.Deliver rank number) d ≡ None → is_on s rank.0 d ≡ true
unfolding refusal
deliver_on s t d rank number e = running_allowed (is_on s rank.0 d) _ e

deliver_may : (s : Settings) (t : Timing) (d : World) (rank : Rank) (number : ℕ) → refusal s t (event.Deliver rank number) d ≡ None → may_deliver s rank.0 number d ≡ true
unfolding refusal
deliver_may s t d rank number e = passed_second (is_on s rank.0 d) (may_deliver s rank.0 number d) 8 e

deliver_steps : (s : Settings) (t : Timing) (rank : Rank) (number : ℕ) (sent : Sent) (entry : What) (d : World)
    → Some sent ≡ slice_get (packets s d.moments) number → entry ≡ entry_of sent.packet
    → step s t (event.Deliver rank number) d ≡ happens (Adds rank.0 entry) d
unfolding step
deliver_steps s t rank number sent entry d found entry_is =
    ap (λ o. option_map_or (λ sent. happens (Adds rank.0 (entry_of sent.packet)) d) o d) (sym found) ∙ ap (λ entry. happens (Adds rank.0 entry) d) (sym entry_is)

pub deliver_made : (w new : Nodes) (rank : Rank) (number : ℕ) (sent : Sent) (entry : What) (outs : List Out)
    → ((d : World) → ClusterFor w d.moments → Some sent ≡ slice_get (packets w.settings d.moments) number)
    → entry ≡ entry_of sent.packet → Handed w new rank.0 entry outs → Stepped w new (event.Deliver rank number) outs
deliver_made w new rank number sent entry outs found entry_is made =
    let plain : is_answer entry ≡ false = ap is_answer entry_is ∙ packet_answers_none sent.packet in
    record {
      frame = made.frame;
      stands = λ t d is allowed.
          subst (λ e. ClusterFor new e.moments) (sym (deliver_steps w.settings t rank number sent entry d (found d is) entry_is))
          (made.stands d.moments is (deliver_on w.settings t d rank number allowed) (plain_due (node_at w.settings rank.0 d) entry plain));
      gives = λ t d is allowed.
          made.gives d.moments is (deliver_on w.settings t d rank number allowed)
          ∙ ap (λ after. newest_outs (node_at w.settings rank.0 after).log) (sym (deliver_steps w.settings t rank number sent entry d (found d is) entry_is));
      ranks = λ t d is allowed. made.ranks d.moments is (deliver_on w.settings t d rank number allowed);
      keeps = λ t d is allowed.
          let on = deliver_on w.settings t d rank number allowed in
          subst (KeepsOut w.settings d) (sym (deliver_steps w.settings t rank number sent entry d (found d is) entry_is))
          (entry_keeps w.settings d rank.0 entry on (made.keeps d.moments is on plain));
    }

pub deliver_starved : (w new : Nodes) (rank : Rank) (number : ℕ) (sent : Sent) (entry : What)
    → ((d : World) → ClusterFor w d.moments → Some sent ≡ slice_get (packets w.settings d.moments) number)
    → entry ≡ entry_of sent.packet → Unhanded w new rank.0 entry → Starved w new (event.Deliver rank number)
deliver_starved w new rank number sent entry found entry_is starved =
    record {
      same = starved.same;
      cause = λ t d is allowed.
          ap (λ after. grows w.settings d.moments after.moments) (deliver_steps w.settings t rank number sent entry d (found d is) entry_is)
          ∙ starved.cause d.moments is (deliver_on w.settings t d rank number allowed);
    }

delivers_none : (o : Option Sent) (rank : ℕ) → ((sent : Sent) → o ≡ Some sent → ⊥) → option_map_or (λ sent. sent.to.0 == rank) o false ≡ true → ⊥
delivers_none None rank none e = absurd (cc)
delivers_none (Some sent) rank none e = none sent refl

pub not_delivered : (w : Nodes) (rank : Rank) (number : ℕ) (found : Option Sent) (outs : List Out)
    → ((d : World) → ClusterFor w d.moments → found ≡ slice_get (packets w.settings d.moments) number) → ((sent : Sent) → found ≡ Some sent → ⊥)
    → Stepped w w (event.Deliver rank number) outs
not_delivered w rank number found outs same none =
    let never : (t : Timing) (d : World) → ClusterFor w d.moments → refusal w.settings t (event.Deliver rank number) d ≡ None → ⊥ =
    λ t d is allowed. delivers_none (slice_get (packets w.settings d.moments) number) rank.0 (λ sent e. none sent (same d is ∙ e))
    (deliver_may w.settings t d rank number allowed) in
    record {
      frame = record { settings = refl; steps = refl; count = refl };
      stands = λ t d is allowed. absurd (never t d is allowed);
      gives = λ t d is allowed. absurd (never t d is allowed);
      ranks = λ t d is allowed. absurd (never t d is allowed);
      keeps = λ t d is allowed. absurd (never t d is allowed);
    }

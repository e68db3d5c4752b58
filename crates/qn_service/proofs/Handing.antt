-- Packets that come between joints come between the moments of their worlds.
use Rattle.std.proofs.Common.{◌≡◌, ◌⊎◌, inl, inr, ℕ, ◌+◌, ◌<◌, ◌≤◌, Bool, true, false, List, ◌∷◌, Some, length, if◌then◌else◌, refl, sym, ◌∙◌, ap, subst, arith}
use Rattle.std.specs.Prelude.{Contains}
use Rattle.std.proofs.lemmas.Bool.{false≢true}
use Rattle.qn_model.specs.declared.configuration.Settings.{Settings}
use Rattle.qn_model.specs.declared.entries.What.{What}
use Rattle.qn_model.specs.declared.entries.What.TheVariants as what
use Rattle.qn_model.specs.declared.events.Event.{Event}
use Rattle.qn_model.specs.declared.life.Phase.TheVariants.{Up}
use Rattle.qn_model.specs.declared.outputs.Out.TheVariants as out
use Rattle.qn_model.specs.declared.packets.Packet.{Packet}
use Rattle.qn_model.specs.declared.packets.Packet.TheVariants as packet
use Rattle.qn_model.specs.declared.times.Timing.{Timing}
use Rattle.qn_model.specs.Fitting.{fits, read_as}
use Rattle.qn_model.specs.lemmas.Moments.{node_adds}
use Rattle.qn_model.specs.Log.{Line}
use Rattle.qn_model.specs.Moments.{Adds, Before, Itself, Later, Moment, handed, logged, node, tick_of}
use Rattle.qn_model.specs.NodeOutputs.{newest_outs, with_entry, with_read}
use Rattle.qn_model.specs.Phases.{phase}
use Rattle.qn_model.specs.Steps.{entry_of, run}
use Rattle.qn_model.specs.Wanted.{rank_of}
use Rattle.qn_safety.specs.Earlier.{before_tail, before_then, before_total}
use Rattle.qn_progress.specs.Hearing.{Delivers}
use Rattle.qn_progress.specs.Quiet.{newest}
use Rattle.qn_joined.specs.Joints.{Happening, counts, joint_after}
use Rattle.qn_joined.specs.WorldOf.{IsWorld}
use Rattle.qn_service.specs.Serving.{HandsEntry, IsHanded, PacketsCome, clock_at}
use Rattle.qn_service.specs.Unheard.{log_after}
use Rattle.qn_service.proofs.Counting.{sends_count}
use Rattle.qn_service.proofs.GoingOn.{IsOn}
use Rattle.qn_service.proofs.Steps.{AddedEntry, IsUpSince, entry_added, runs_up}
use Rattle.qn_service.proofs.Tracing.{Goes, Starts, StepAt, StepOf, Trace, joints_grow, last_world, moments_grow, step_at, step_of}

pub first_world : {s : Settings} {t : Timing} {image : ℕ → List ℕ} {older : List Happening} {first : List Event} {newer : List Happening} {events : List Event} → Trace s t image older first newer events
    → IsWorld s t (joint_after s image older) (run s t first)
first_world (Starts may world) = world
first_world (Goes happening trace may world added) = first_world trace

-- the log after the moment of an entry has that as it is read
abbrev AddedAlike : Settings → ℕ → What → List Moment → Type 0
AddedAlike s rank entry earlier =
    (node s rank (Adds rank entry ∷ earlier)).log ≡ with_read s rank (node s rank earlier).log (tick_of (node s rank earlier).clock) (read_as s rank (node s rank earlier).log entry)

added_alike : (s : Settings) (rank : ℕ) (entry : What) (earlier : List Moment) → AddedAlike s rank entry earlier
unfolding handed logged with_entry
added_alike s rank entry earlier = ap (λ n. n.log) (node_adds s rank entry earlier)

-- an entry that is read as a packet that counts is that packet
read_counts : (fit : Bool) (entry : What) (p : Packet) → counts (Some p) ≡ true → (if fit then entry else what.Tick) ≡ entry_of p → entry ≡ entry_of p
read_counts true entry p counted is = is
read_counts false entry (packet.Ask ask) counted is = absurd (let same = is in cc)
read_counts false entry (packet.Tell tell) counted is = absurd (let same = is in cc)
read_counts false entry (packet.Hello from) counted is = absurd (false≢true counted)
read_counts false entry (packet.Heard from said standing) counted is = absurd (false≢true counted)
read_counts false entry (packet.Announce from view) counted is = absurd (false≢true counted)
read_counts false entry (packet.Vote agrees) counted is = absurd (false≢true counted)

-- a rank is up in the worlds of the joints of a trace
abbrev pub LivesOn : Settings → Timing → (ℕ → List ℕ) → ℕ → List Happening → List Happening → Type 0
LivesOn s t image rank older newer =
    (at : List Happening) → Before older at → Before at newer → (events : List Event) → IsWorld s t (joint_after s image at) (run s t events)
    → IsOn s rank ((joint_after s image at).hosts rank) (run s t events).moments × (phase s (node s rank (run s t events).moments).log ≡ Up)

module _ (s : Settings) (t : Timing) (image : ℕ → List ℕ) (rank post from to : ℕ) (older newer : List Happening) (first events : List Event)
    (trace : Trace s t image older first newer events) (lives : LivesOn s t image rank older newer) (sends : LivesOn s t image from older newer) (takes : LivesOn s t image to older newer)
    (ups : IsUpSince s rank (run s t first).moments (run s t events).moments) (come : PacketsCome s image rank post from to older newer) where
  abbrev new : List Moment
  new = (run s t events).moments

  -- the tick of a joint is that of its world
  tick_there : (at : List Happening) → Before older at → Before at newer → (ev : List Event) → IsWorld s t (joint_after s image at) (run s t ev)
      → tick_of (node s rank (run s t ev).moments).clock ≡ clock_at s image at rank
  tick_there at since back ev world = ap tick_of (lives at since back ev world).0.clock

  -- a packet that is handed to the other one between joints is so between the moments
  record Came (p : Packet) (limit : ℕ) (since : List Moment) : Type 0 where
    at : List Moment
    after : Before since at
    back : Before (Adds to (entry_of p) ∷ at) new
    soon : tick_of (node s rank at).clock ≤ limit

  came_by : (p : Packet) → counts (Some p) ≡ true → (limit : ℕ) (since : List Happening) (led : List Event) → Before older since → Before since newer
      → Trace s t image since led newer events → IsHanded s image rank to p limit since newer → Came p limit (run s t led).moments
  came_by p counted limit since led from_older to_newer rest handed =
      record {
        at = (run s t step.old).moments;
        after = moments_grow step.before;
        back = subst (λ (m : List Moment). Before m new) (added.is ∙ ap (λ e. Adds to e ∷ (run s t step.old).moments) entry_is) (moments_grow step.after);
        soon = subst (λ k. k ≤ limit) (sym (tick_there handed.at at_since at_back step.old before_world)) handed.soon;
      }
    where
      step : StepOf s t image since newer handed.at handed.happening led events
      step = step_of rest handed.at handed.happening handed.after handed.back

      at_since : Before older handed.at
      at_since = before_then from_older handed.after

      at_back : Before handed.at newer
      at_back = before_tail handed.back

      before_world : IsWorld s t (joint_after s image handed.at) (run s t step.old)
      before_world = (last_world step.before).1

      before_on : IsOn s to ((joint_after s image handed.at).hosts to) (run s t step.old).moments
      before_on = (takes handed.at at_since at_back step.old before_world).0

      after_on : IsOn s to ((joint_after s image (handed.happening ∷ handed.at)).hosts to) (run s t step.new).moments × (phase s (node s to (run s t step.new).moments).log ≡ Up)
      after_on = takes (handed.happening ∷ handed.at) (Later handed.happening at_since) handed.back step.new (first_world step.after)

      grew : length (node s to (run s t step.old).moments).log < length (node s to (run s t step.new).moments).log
      grew = subst (λ (l : List Line). length (node s to (run s t step.old).moments).log < length l) (sym after_on.0.log)
          (subst (λ (l : List Line). length l < length (log_after s image (handed.happening ∷ handed.at) to)) (sym before_on.log) handed.hands)

      added : AddedEntry s to (run s t step.old).moments (run s t step.new).moments
      added = entry_added s to step.added after_on.1 grew

      read_is : read_as s to (node s to (run s t step.old).moments).log added.entry ≡ entry_of p
      read_is = sym (ap newest added.log) ∙ ap newest after_on.0.log ∙ handed.is

      entry_is : added.entry ≡ entry_of p
      entry_is = read_counts (fits s to (node s to (run s t step.old).moments).log added.entry) added.entry p counted read_is

  -- the packet that an entry sends comes
  came : (entry : What) (before : List Moment) (p : Packet) → Before (run s t first).moments before → Before (Adds from entry ∷ before) new
      → Contains (newest_outs (node s from (Adds from entry ∷ before)).log) (out.Send (rank_of to) p)
      → tick_of (node s rank before).clock + post < tick_of (node s rank new).clock
      → Came p (tick_of (node s rank before).clock + post) (Adds from entry ∷ before)
  came entry before p since back sent late =
      subst (λ (m : List Moment). Came p (tick_of (node s rank before).clock + post) m) found.is
      (subst (λ k. Came p (k + post) (run s t found.step.new).moments) (sym tick_before)
      (came_by p counted (clock_at s image found.at rank + post) (found.happening ∷ found.at) found.step.new (Later found.happening found.since) found.back found.step.after
      (come found.at found.happening p found.since found.back hands sends_it late_there)))
    where
      found : StepAt s t image older newer first events (Adds from entry) before
      found = step_at trace (Adds from entry) before since back

      before_world : IsWorld s t (joint_after s image found.at) (run s t found.step.old)
      before_world = (last_world found.step.before).1

      before_on : IsOn s from ((joint_after s image found.at).hosts from) (run s t found.step.old).moments
      before_on = (sends found.at found.since (before_tail found.back) found.step.old before_world).0

      after_on : IsOn s from ((joint_after s image (found.happening ∷ found.at)).hosts from) (run s t found.step.new).moments
      after_on = (sends (found.happening ∷ found.at) (Later found.happening found.since) found.back found.step.new (first_world found.step.after)).0

      old_log : log_after s image found.at from ≡ (node s from before).log
      old_log = sym before_on.log ∙ ap (λ (m : List Moment). (node s from m).log) found.was

      new_log : log_after s image (found.happening ∷ found.at) from ≡ (node s from (Adds from entry ∷ before)).log
      new_log = sym after_on.log ∙ ap (λ (m : List Moment). (node s from m).log) found.is

      counted : counts (Some p) ≡ true
      counted = sends_count s from (node s from before).log (tick_of (node s from before).clock) (read_as s from (node s from before).log entry) (rank_of to) p
          (subst (λ (l : List Line). Contains (newest_outs l) (out.Send (rank_of to) p)) (added_alike s from entry before) sent)

      longer : length (node s from before).log < length (node s from (Adds from entry ∷ before)).log
      longer = subst (λ (l : List Line). length (node s from before).log < length l) (sym (added_alike s from entry before)) (omega arith)

      hands : HandsEntry s image from found.happening found.at
      hands = subst (λ (l : List Line). length (log_after s image found.at from) < length l) (sym new_log)
          (subst (λ (l : List Line). length l < length (node s from (Adds from entry ∷ before)).log) (sym old_log) longer)

      sends_it : Contains (newest_outs (log_after s image (found.happening ∷ found.at) from)) (out.Send (rank_of to) p)
      sends_it = subst (λ (l : List Line). Contains (newest_outs l) (out.Send (rank_of to) p)) (sym new_log) sent

      tick_before : tick_of (node s rank before).clock ≡ clock_at s image found.at rank
      tick_before = ap (λ (m : List Moment). tick_of (node s rank m).clock) (sym found.was)
          ∙ tick_there found.at found.since (before_tail found.back) found.step.old before_world

      late_there : clock_at s image found.at rank + post < clock_at s image newer rank
      late_there = subst (λ k. clock_at s image found.at rank + post < k) (tick_there newer (joints_grow trace) Itself events (last_world trace).1)
          (subst (λ k. k + post < tick_of (node s rank new).clock) tick_before late)

  -- also before an earlier moment, where the ticks pass before that
  pub delivers : (mid : List Moment) → Before (run s t first).moments mid → Before mid new → Delivers s rank post from to (run s t first).moments mid
  delivers mid since mid_back entry before p after back sent late =
      record { at = it.at; after = it.after; back = by_place (before_total it.back mid_back); soon = it.soon }
    where
      no_fall : (a b : List Moment) → Before (run s t first).moments a → Before a b → Before b new → tick_of (node s rank a).clock ≤ tick_of (node s rank b).clock
      no_fall a b a_since up_to b_back =
          ticks_grow (node s rank a).clock (node s rank b).clock (runs_up s rank a b up_to (λ m a_m m_b. ups m (before_then a_since a_m) (before_then m_b b_back))).clock
        where
          ticks_grow : (m n : ℕ) → m ≤ n → tick_of m ≤ tick_of n
          ticks_grow m n le = omega (arith, le)

      it : Came p (tick_of (node s rank before).clock + post) (Adds from entry ∷ before)
      it = came entry before p after (before_then back mid_back) sent (let grows = no_fall mid new since mid_back Itself in omega (arith, late, grows))

      at_since : Before (run s t first).moments it.at
      at_since = before_then (Later (Adds from entry) after) it.after

      never : Before mid it.at → ⊥
      never earlier = let grows = no_fall mid it.at since earlier (before_tail it.back) in let soon = it.soon in omega (arith, late, grows, soon)

      by_newest : {m : List Moment} → Before mid m → m ≡ Adds to (entry_of p) ∷ it.at → Before (Adds to (entry_of p) ∷ it.at) mid
      by_newest Itself is = subst (λ (m : List Moment). Before m mid) is Itself
      by_newest (Later more {new = earlier} up_to) is = absurd (never (subst (λ (m : List Moment). Before mid m) (tail_of is) up_to))
        where
          tail_of : {a b : Moment} {one other : List Moment} → a ∷ one ≡ b ∷ other → one ≡ other
          tail_of e = cc

      by_place : Before (Adds to (entry_of p) ∷ it.at) mid ⊎ Before mid (Adds to (entry_of p) ∷ it.at) → Before (Adds to (entry_of p) ∷ it.at) mid
      by_place (inl earlier) = earlier
      by_place (inr later) = by_newest later refl

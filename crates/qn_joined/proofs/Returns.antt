-- A call that returns, in the world of a joint.
use Rattle.std.proofs.Common.{◌≡◌, ◌<◌, ◌≤◌, ℕ, Bool, true, false, ◌&&◌, List, [], ◌∷◌, ◌++◌, Option, None, Some, ◌==◌, if◌then◌else◌, refl, sym, ap, subst, ◌∙◌, ◌⊎◌, inl, inr, arith}
use Rattle.std.specs.Prelude.{Contains, length}
use Rattle.std.specs.Option.{option_map_or}
use Rattle.std.specs.Prelude.{option_and_then}
use Rattle.std.proofs.lemmas.List.Elements.{Contains-append_cases, Contains-push_cases}
use Rattle.std.proofs.lemmas.Option.{same_Some}
use Rattle.qn_base.specs.declared.ids.Rank.{Rank}
use Rattle.qn_base.specs.declared.ids.View.{View}
use Rattle.qn_base.specs.declared.calls.Call.{Call}
use Rattle.qn_base.specs.declared.calls.Call.TheVariants as call
use Rattle.qn_base.specs.Calls.{blank}
use Rattle.qn_model.specs.declared.configuration.Settings.{Settings}
use Rattle.qn_model.specs.declared.times.Timing.{Timing}
use Rattle.qn_model.specs.declared.entries.What.{What}
use Rattle.qn_model.specs.declared.events.Event.{Event}
use Rattle.qn_model.specs.declared.outputs.DiskOp.{DiskOp}
use Rattle.qn_model.specs.declared.outputs.DiskOp.TheVariants as disk
use Rattle.qn_model.specs.declared.outputs.Out.{Out}
use Rattle.qn_model.specs.declared.outputs.Out.TheVariants as out
use Rattle.qn_model.specs.declared.packets.Packet.{Packet}
use Rattle.qn_model.specs.declared.packets.Packet.TheVariants as packet
use Rattle.qn_model.specs.declared.packets.Sent.{Sent}
use Rattle.qn_model.specs.Moments.{Running, is_gone, packets, tick_of, time}
use Rattle.qn_model.specs.Phases.{phase}
use Rattle.qn_model.specs.Steps.{run}
use Rattle.qn_model.specs.World.{World, node_at}
use Rattle.qn_wire.specs.Packets.{announce_bytes, has_name, is_well_formed, packet_bytes}
use Rattle.qn_wire.specs.Reading.{fields_of, is_spelling, packet_of, rank_at, said_at, view_at, standing_at}
use Rattle.qn_live.specs.Greetings.{sends_plan}
use Rattle.qn_live.specs.Performing.{disk_call, out_call, outs_plan, own_number}
use Rattle.qn_safety.specs.NodeLogs.{LogsHold}
use Rattle.qn_joined.specs.Joints as joints
use Rattle.qn_joined.specs.Joints.{FitsImage, Host, Joint, MayAnswer, MayHappen, MayReturn, after_effect, counts, happens, is_timed, looked_first, packet_said, returned, sent_by, waits_for, with_host}
use Rattle.qn_joined.specs.Moves.{Hands, HasStepped, IsEventOf, IsNodeIn, Moved, entry_handed}
use Rattle.qn_joined.specs.Nodes.{at, is_looking}
use Rattle.qn_safety.specs.AnyNumbers.{AllMay}
use Rattle.qn_joined.specs.Theorem.{PacketsReadBack}
use Rattle.qn_joined.specs.Stands.{Spot, Receiving, Looking, Acting, Polling, Saying, Parting, Ended, left_plan}
use Rattle.qn_joined.specs.WorldOf.{IsNode, IsWorld, WasSentTo, is_greeting}
use Rattle.qn_joined.proofs.Boots.{no_event}
use Rattle.qn_joined.proofs.Calls.{returns_at, timed_on}
use Rattle.qn_joined.proofs.Frames.{Knows, one_moves}
use Rattle.qn_joined.proofs.Images.{same_image}
use Rattle.qn_joined.proofs.Looks.{looks_in_world}
use Rattle.qn_joined.proofs.Standing.{first_greets}
use Rattle.qn_safety.specs.declared.polls.Poll.{Poll}
use Rattle.qn_polls.specs.Polls.{poll_bytes}

-- a greeting is read as no packet that counts
found_one : (test : Packet → Bool) (found : Option Packet) (q : Packet) → option_and_then (λ p. if test p then Some p else None) found ≡ Some q → found ≡ Some q
found_one test None q e = absurd cc
found_one test (Some p) q e = by_test (test p) e
  where
    by_test : (b : Bool) → (if b then Some p else None) ≡ Some q → Some p ≡ Some q
    by_test true e = e
    by_test false e = absurd cc

one_kind : (test : Bool) (p q : Packet) → counts (Some p) ≡ false → (if test then Some p else None) ≡ Some q → counts (Some q) ≡ true → ⊥
one_kind true p q plain e c = let same = ap counts e in let both = sym plain ∙ same ∙ c in cc
one_kind false p q plain e c = cc

-- nor is an announcement, in either of its kinds
announced_counts : (from : Rank) (view : View) (named : Bool) (q : Packet)
    → packet_of (announce_bytes (if named then 11 else 4) from view) ≡ Some q → counts (Some q) ≡ true → ⊥
unfolding packet_of
announced_counts from view true q e c =
    let bytes = announce_bytes 11 from view in
    one_kind (length bytes == 16) (packet.Announce (rank_at 3 bytes) (view_at 4 bytes)) q refl
    (found_one (λ p. is_well_formed p && is_spelling p bytes) (fields_of 11 bytes) q e) c
announced_counts from view false q e c =
    let bytes = announce_bytes 4 from view in
    one_kind (length bytes == 16) (packet.Announce (rank_at 3 bytes) (view_at 4 bytes)) q refl
    (found_one (λ p. is_well_formed p && is_spelling p bytes) (fields_of 4 bytes) q e) c

greeting_counts : (p q : Packet) → is_greeting p ≡ true → packet_of (packet_bytes p) ≡ Some q → counts (Some q) ≡ true → ⊥
unfolding packet_of packet_bytes
greeting_counts (packet.Hello from) q is e c =
    let bytes = packet_bytes (packet.Hello from) in
    one_kind (length bytes == 4) (packet.Hello (rank_at 3 bytes)) q refl
    (found_one (λ p. is_well_formed p && is_spelling p bytes) (fields_of 3 bytes) q e) c
greeting_counts (packet.Announce from view) q is e c = announced_counts from view (has_name view) q e c
greeting_counts (packet.Heard from said standing) q is e c =
    let bytes = packet_bytes (packet.Heard from said standing) in
    one_kind (length bytes == 12) (packet.Heard (rank_at 3 bytes) (said_at bytes) (standing_at bytes)) q refl
    (found_one (λ p. is_well_formed p && is_spelling p bytes) (fields_of 8 bytes) q e) c
greeting_counts (packet.Ask ask) q is e c = cc
greeting_counts (packet.Tell tell) q is e c = cc
greeting_counts (packet.Vote agrees) q is e c = cc

-- a poll is no packet
poll_counts : (poll : Poll) (q : Packet) → packet_of (poll_bytes poll) ≡ Some q → ⊥
unfolding packet_of poll_bytes
poll_counts poll q e =
    let none = found_one (λ p. is_well_formed p && is_spelling p (poll_bytes poll)) (fields_of 6 (poll_bytes poll)) q e in cc

pub sent_blank : (made : Call) → sent_by made ≡ sent_by (blank made)
sent_blank (call.Now tick) = refl
sent_blank (call.Receive got) = refl
sent_blank (call.Read sector read ok) = refl
sent_blank (call.Write sector written ok) = refl
sent_blank (call.Feed ok) = refl
sent_blank (call.Start ok) = refl
sent_blank (call.Stop ok) = refl
sent_blank (call.Send to said ok) = refl
sent_blank (call.Disarm ok) = refl
sent_blank (call.Halt code) = refl
sent_blank (call.OpenImage path ok) = refl
sent_blank (call.OpenNode images image watchdog resource port rank ok) = refl

disk_sends : (s : Settings) (rank number : ℕ) (op : DiskOp) → sent_by (disk_call s rank number op) ≡ []
unfolding disk_call
disk_sends s rank number disk.ReadHeader = refl
disk_sends s rank number (disk.ReadSlot other) = refl
disk_sends s rank number disk.CheckMail = refl
disk_sends s rank number disk.ReadMail = refl
disk_sends s rank number (disk.WriteClaim next) = refl
disk_sends s rank number (disk.WriteClose last) = refl
disk_sends s rank number disk.WriteClear = refl
disk_sends s rank number (disk.WriteReset other) = refl

nothing_sent : (all : List Sent) → Knows [] all
nothing_sent all to bytes p there spelled c = absurd (omega (arith, there.1))

one_sent : {to : ℕ} {bytes : List ℕ} {x : ℕ × List ℕ} → Contains ((to, bytes) ∷ []) x → (to, bytes) ≡ x
one_sent {to} {bytes} {x} there = by_case (Contains-push_cases [] (to, bytes) x there)
  where
    by_case : Contains [] x ⊎ ((to, bytes) ≡ x) → (to, bytes) ≡ x
    by_case (inl none) = absurd (omega (arith, none.1))
    by_case (inr same) = same

greeting_sent : (all : List Sent) (to : ℕ) (p : Packet) → is_greeting p ≡ true → Knows ((to, packet_bytes p) ∷ []) all
greeting_sent all to p is receiver bytes q there spelled c =
    absurd (greeting_counts p q is (ap packet_of (ap (λ x. x.1) (one_sent there)) ∙ spelled) c)

poll_sent : (all : List Sent) (to : ℕ) (poll : Poll) → Knows ((to, poll_bytes poll) ∷ []) all
poll_sent all to poll receiver bytes q there spelled c =
    absurd (poll_counts poll q (ap packet_of (ap (λ x. x.1) (one_sent there)) ∙ spelled))

output_sent : (all : List Sent) (to : ℕ) (p : Packet) → packet_of (packet_bytes p) ≡ Some p → WasSentTo to all p → Knows ((to, packet_bytes p) ∷ []) all
output_sent all to p back sent receiver bytes q there spelled c =
    let same = one_sent there in
    subst (λ r. WasSentTo r all q) (ap (λ x. x.0) same)
    (subst (λ x. WasSentTo to all x) (same_Some _ _ (sym back ∙ ap packet_of (ap (λ x. x.1) same) ∙ spelled)) sent)

module _ (s : Settings) (rank : ℕ) (host : Host) (n : Running) (took : Option What) (left : List DiskOp) (all : List Sent) where
  -- what a call that waits sends is known
  pub sends_known : (spot : Spot) (asked_call : Call) → PacketsReadBack → IsNode s rank (at host spot) n took left all → host.on ≡ true → host.asked ≡ true
      → option_map_or is_well_formed (packet_said spot) true ≡ true
      → waits_for s rank (at host spot) ≡ Some asked_call
      → Knows (sent_by asked_call) all
  unfolding left_plan outs_plan sends_plan out_call
  sends_known (Receiving st) c back is on asked spells waits = subst (λ x. Knows (sent_by x) all) (same_Some _ _ waits) (nothing_sent all)
  sends_known (Looking chosen) c back is on asked spells waits = subst (λ x. Knows (sent_by x) all) (same_Some _ _ waits) (nothing_sent all)
  sends_known (Polling poll sents st) c back is on asked spells waits =
      subst (λ x. Knows (sent_by x) all) (same_Some _ _ waits) (poll_sent all 32 poll)
  sends_known (Saying said rest st) c back is on asked spells waits =
      subst (λ x. Knows (sent_by x) all) (same_Some _ _ waits) (greeting_sent all said.to.0 said.packet (first_greets said rest is.greets))
  sends_known (Parting end said rest st) c back is on asked spells waits =
      subst (λ x. Knows (sent_by x) all) (same_Some _ _ waits) (greeting_sent all said.to.0 said.packet (first_greets said rest is.greets))
  sends_known (Ended ran) c back is on asked spells waits = absurd cc
  sends_known (Acting entry outs out.Stop rest st) c back is on asked spells waits = subst (λ x. Knows (sent_by x) all) (same_Some _ _ waits) (nothing_sent all)
  sends_known (Acting entry outs out.Start rest st) c back is on asked spells waits = subst (λ x. Knows (sent_by x) all) (same_Some _ _ waits) (nothing_sent all)
  sends_known (Acting entry outs out.Feed rest st) c back is on asked spells waits = subst (λ x. Knows (sent_by x) all) (same_Some _ _ waits) (nothing_sent all)
  sends_known (Acting entry outs out.Disarm rest st) c back is on asked spells waits = subst (λ x. Knows (sent_by x) all) (same_Some _ _ waits) (nothing_sent all)
  sends_known (Acting entry outs (out.Halt kind) rest st) c back is on asked spells waits = subst (λ x. Knows (sent_by x) all) (same_Some _ _ waits) (nothing_sent all)
  sends_known (Acting entry outs (out.Disk op) rest st) c back is on asked spells waits =
      subst (λ x. Knows (sent_by x) all) (same_Some _ _ waits) (subst (λ l. Knows l all) (sym (disk_sends s rank (own_number st.log) op)) (nothing_sent all))
  sends_known (Acting entry outs (out.Send to p) rest st) c back is on asked spells waits =
      subst (λ x. Knows (sent_by x) all) (same_Some _ _ waits) (output_sent all to.0 p (back p spells) (is.backed lives).1.come.0)
    where
      by_gone : (b : Bool) → is_gone (phase s st.log) ≡ b → n.on ≡ true
      by_gone true e = absurd (let none = (is.ending on e).2 in cc)
      by_gone false e = is.on ∙ timed_on host.on host.asked (is_gone (phase s st.log)) on asked e

      lives : n.on ≡ true
      lives = by_gone (is_gone (phase s st.log)) refl

-- a look at the clock
pub now_made : (made : Call) → Some (call.Now 0) ≡ Some (blank made) → (tick : ℕ) × (made ≡ call.Now tick)
now_made (call.Now tick) e = (tick, refl)
now_made (call.Receive got) e = absurd cc
now_made (call.Read sector read ok) e = absurd cc
now_made (call.Write sector written ok) e = absurd cc
now_made (call.Feed ok) e = absurd cc
now_made (call.Start ok) e = absurd cc
now_made (call.Stop ok) e = absurd cc
now_made (call.Send to said ok) e = absurd cc
now_made (call.Disarm ok) e = absurd cc
now_made (call.Halt code) e = absurd cc
now_made (call.OpenImage path ok) e = absurd cc
now_made (call.OpenNode images image watchdog resource port rank ok) e = absurd cc

module _ (s : Settings) (t : Timing) (rank : ℕ) (events : List Event) (host : Host) (made : Call) (sent : List (ℕ × List ℕ)) (logs : LogsHold s t) (below : rank < length s.nodes)
    (may : AllMay s t events) (knows : Knows sent (packets s (run s t events).moments)) where
  abbrev w : World
  w = run s t events

  stays : (spot : Spot) → IsNodeIn s rank (at host spot) w → host.on ≡ true → host.asked ≡ true → waits_for s rank (at host spot) ≡ Some (blank made) → MayAnswer rank (at host spot) sent made
      → is_looking spot ≡ false
      → Moved s t (Hands rank (entry_handed spot made)) rank events (returned s rank made (time w.moments) (at host spot))
  stays spot is on asked waits answer apart =
      no_event may
      (returns_at host made (time w.moments) spot sent (λ lives. logs events rank may below) is on asked waits answer (λ bytes p there spelled c. knows rank bytes p there spelled c) apart)

  moved : (spot : Spot) → IsNodeIn s rank (at host spot) w → host.on ≡ true → host.asked ≡ true → waits_for s rank (at host spot) ≡ Some (blank made) → MayAnswer rank (at host spot) sent made
      → Moved s t (Hands rank (entry_handed spot made)) rank events (returned s rank made (time w.moments) (at host spot))
  unfolding left_plan
  moved (Looking chosen) is on asked waits answer =
      let now = now_made made waits in
      subst (λ c. Moved s t (Hands rank (entry_handed (Looking chosen) c)) rank events (returned s rank c (time w.moments) (at host (Looking chosen)))) (sym now.1)
      (looks_in_world s t logs rank events host chosen now.0 below may is on asked (subst (λ c. MayAnswer rank (at host (Looking chosen)) sent c) now.1 answer))
  moved (Receiving st) is on asked waits answer = stays (Receiving st) is on asked waits answer refl
  moved (Acting entry outs o rest st) is on asked waits answer = stays (Acting entry outs o rest st) is on asked waits answer refl
  moved (Polling poll sents st) is on asked waits answer = stays (Polling poll sents st) is on asked waits answer refl
  moved (Saying said rest st) is on asked waits answer = stays (Saying said rest st) is on asked waits answer refl
  moved (Parting end said rest st) is on asked waits answer = stays (Parting end said rest st) is on asked waits answer refl
  moved (Ended ran) is on asked waits answer = stays (Ended ran) is on asked waits answer refl

effect_fed : (made : Call) (outs : List Out) (now : ℕ) (host : Host) → (after_effect made outs now host).fed ≡ host.fed
effect_fed (call.Now tick) outs now host = refl
effect_fed (call.Receive got) outs now host = refl
effect_fed (call.Read sector read ok) outs now host = refl
effect_fed (call.Write sector written ok) outs now host = refl
effect_fed (call.Feed ok) outs now host = refl
effect_fed (call.Start ok) outs now host = refl
effect_fed (call.Stop ok) outs now host = refl
effect_fed (call.Send to said ok) outs now host = refl
effect_fed (call.Disarm ok) outs now host = refl
effect_fed (call.Halt code) outs now host = refl
effect_fed (call.OpenImage path ok) outs now host = refl
effect_fed (call.OpenNode images image watchdog resource port rank ok) outs now host = refl

pub returned_fed : (s : Settings) (rank : ℕ) (made : Call) (now : ℕ) (host : Host) → (returned s rank made now host).fed ≡ host.fed
unfolding returned
returned_fed s rank made now host = effect_fed made _ now host

pub first_fed : (s : Settings) (rank base now : ℕ) (host : Host) → (looked_first s rank base now host).fed ≡ host.fed
unfolding looked_first
first_fed s rank base now host = returned_fed s rank (call.Now (tick_of base)) now host

pub returns_in_world : (s : Settings) (t : Timing) (events : List Event) (j : Joint) (rank : ℕ) (made : Call)
    → PacketsReadBack → LogsHold s t → rank < length s.nodes
    → AllMay s t events → IsWorld s t j (run s t events) → FitsImage s t → MayHappen s t (joints.Returns rank made) j → HasStepped s t (IsEventOf (joints.Returns rank made) j) events (happens s (joints.Returns rank made) j)
unfolding happens
returns_in_world s t events j rank made back logs below may is fits happen =
    subst (λ k. HasStepped s t (IsEventOf (joints.Returns rank made) j) events (record (with_host rank (returned s rank made k (j.hosts rank)) j) { sent = j.sent ++ sent_by made })) is.time
    (record {
      events' = m.events';
      grew = m.grew;
      one = m.one;
      may = m.may;
      world =
          one_moves rank (run s t m.events') (returned s rank made (time w.moments) (j.hosts rank)) j.image (j.sent ++ sent_by made) is below m.changes m.node
          (subst (λ f. f ≤ j.time) (sym (fed_same made)) (is.fed rank))
          (same_image is.image fits (run s t m.events') m.slots m.mailboxes)
          knows_all;
    })
  where
    w : World
    w = run s t events

    m : Moved s t (IsEventOf (joints.Returns rank made) j) rank events (returned s rank made (time w.moments) (j.hosts rank))
    m = moved s t rank events (j.hosts rank) made j.sent logs below may is.sent (j.hosts rank).stand.spot (is.nodes rank below) happen.on happen.asked happen.waits happen.answer

    fed_same : (c : Call) → (returned s rank c (time w.moments) (j.hosts rank)).fed ≡ (j.hosts rank).fed
    fed_same c = returned_fed s rank c (time w.moments) (j.hosts rank)

    new : Knows (sent_by made) (packets s w.moments)
    new =
        subst (λ l. Knows l (packets s w.moments)) (sym (sent_blank made))
        (sends_known s rank (j.hosts rank) (node_at s rank w) (w.took rank) (w.left rank) (packets s w.moments) (j.hosts rank).stand.spot (blank made) back (is.nodes rank below)
        happen.on happen.asked happen.spells happen.waits)

    knows_all : Knows (j.sent ++ sent_by made) (packets s (run s t m.events').moments)
    knows_all to bytes p there spelled c = m.changes.grows to p (by_case (Contains-append_cases j.sent (sent_by made) (to, bytes) there))
      where
        by_case : Contains j.sent (to, bytes) ⊎ Contains (sent_by made) (to, bytes) → WasSentTo to (packets s w.moments) p
        by_case (inl old) = is.sent to bytes p old spelled c
        by_case (inr fresh) = new to bytes p fresh spelled c

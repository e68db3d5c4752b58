-- A disk call on an image that returns keeps a joint of running nodes on three images a world of three images.
use Rattle.std.proofs.Common.{◌≡◌, ◌<◌, ◌≤◌, ℕ, Bool, true, false, List, [], ◌∷◌, ◌++◌, Option, None, Some, if◌then◌else◌, refl, sym, ap, subst, ◌∙◌, arith, is_some, inr, ◌⊎◌, inl}
use Rattle.std.specs.Prelude.{Contains, length}
use Rattle.std.specs.Option.{option_map_or}
use Rattle.std.proofs.lemmas.Option.{same_Some}
use Rattle.std.proofs.lemmas.List.{append-nil}
use Rattle.qn_base.specs.declared.calls.Call.{Call}
use Rattle.qn_base.specs.declared.calls.Call.TheVariants as call
use Rattle.qn_base.specs.Calls.{blank, is_failed}
use Rattle.qn_base.specs.Plans as plans
use Rattle.qn_base.specs.Plans.{Plan, question}
use Rattle.qn_io.specs.Answered.{bytes_read}
use Rattle.qn_model.specs.declared.configuration.Settings.{Settings}
use Rattle.qn_model.specs.declared.times.Timing.{Timing}
use Rattle.qn_model.specs.declared.entries.What.{What}
use Rattle.qn_model.specs.declared.outputs.DiskOp.{DiskOp}
use Rattle.qn_model.specs.declared.outputs.DiskOp.TheVariants as disk
use Rattle.qn_model.specs.declared.outputs.Out.TheVariants as out
use Rattle.qn_model.specs.declared.packets.Packet.{Packet}
use Rattle.qn_model.specs.declared.packets.Sent.{Sent}
use Rattle.qn_model.specs.Log.{op_out}
use Rattle.qn_model.specs.Moments.{Running, node, packets}
use Rattle.qn_model.specs.NodeOutputs.{newest_outs}
use Rattle.qn_model.specs.World.{failed}
use Rattle.qn_live.specs.Greetings.{sends_plan}
use Rattle.qn_live.specs.Performing.{disk_answer, disk_call, done, noted, out_call, outs_plan}
use Rattle.qn_live.specs.TripleDisk.{Told, part_of}
use Rattle.qn_parts.specs.Parts.{is_good_on, part_on}
use Rattle.qn_safety.specs.declared.part.Part.{Part}
use Rattle.qn_safety.specs.declared.triple_event.TripleEvent.{TripleEvent}
use Rattle.qn_safety.specs.NodeLogs.{IsNodeLog}
use Rattle.qn_safety.specs.TripleNumbers.{AllMayTriple, IsTripleNode, TripleNodesHold}
use Rattle.qn_safety.specs.TripleRules.{is_image, none_pending}
use Rattle.qn_safety.specs.TripleSteps.{run_triple}
use Rattle.qn_safety.specs.TripleWorld.{TripleWorld, answer_of, good_after, has_landed, is_pending}
use Rattle.qn_wire.specs.Reading.{packet_of}
use Rattle.qn_joined.specs.Joints.{FitsImage, Host, MayAnswer, after_effect, counts, is_disk, returned, sent_by, waits_for}
use Rattle.qn_joined.specs.Nodes.{KnowsPackets, at, is_looking}
use Rattle.qn_joined.specs.Stands.{Spot, Receiving, Looking, Acting, Polling, Saying, Parting, Ended, Stand, after_call, after_spot, left_plan, log_at}
use Rattle.qn_joined.specs.Theorem.{HostOwns}
use Rattle.qn_joined.specs.TripleJoints as joints
use Rattle.qn_joined.specs.TripleJoints.{TripleHost, TripleJoint, gives_up, happens_triple, returned_by, returned_one, returned_triple, stands_at, with_triple}
use Rattle.qn_joined.specs.TripleNodes.{AllAre, HasTripleWorld, IsAsking, IsNodeOnThree, KeepsAWorld, good_told}
use Rattle.qn_joined.specs.TripleWorldOf.{CallsAnswer, IsAnswered, ToldBy, all_told, image_before, on_image, told_also}
use Rattle.qn_joined.specs.WorldOf.{NoCall, IsBacked, IsNode, TookAlike, WasSentTo, disk_ahead}
use Rattle.qn_joined.proofs.Calls.{disk_is, returns_at}
use Rattle.qn_joined.proofs.Frames.{knows_grows}
use Rattle.qn_joined.proofs.Moving.{EndsDisk, disk_blank, disk_effect, node_moves}
use Rattle.qn_joined.proofs.Standing.{acts_ahead}
use Rattle.qn_joined.proofs.Returning.{returns_own}
use Rattle.qn_joined.proofs.Returns.{returned_fed}
use Rattle.qn_joined.proofs.TripleAsking.{AllTold, AsksDisk, AsksOne, Comes, asks_disk, comes_next, told_silent}
use Rattle.qn_joined.proofs.TripleClosing.{Closing, Settled, closed_answer, closes, pending_is, settled_landed}
use Rattle.qn_joined.proofs.TripleFrames.{ChangesOnThree, IsNodeIn3, one_of_three, same_images, then_changes, triple_moves}
use Rattle.qn_joined.proofs.TripleReturns.{HasHeard, hears, honest}
use Rattle.qn_joined.proofs.TripleSteps.{configured_triple, good_same, starts_of, told_none}

-- what landed on an image is what the image told
clear_closed : (by : ToldBy) (parts parts' : ℕ → Part) → AllAre by parts → ((image : ℕ) → Settled is_pending (parts image) (parts' image)) → (image : ℕ) → is_image image ≡ true → has_landed (part_on (all_told by) image) ≡ has_landed (parts' image)
clear_closed by parts parts' are settled image in_range = on_each (one_of_three image in_range)
  where
    told_alike : (k : ℕ) → image ≡ k → has_landed (part_on (all_told by) k) ≡ has_landed (parts' k) → has_landed (part_on (all_told by) image) ≡ has_landed (parts' image)
    told_alike k is = subst (λ i. has_landed (part_on (all_told by) i) ≡ has_landed (parts' i)) (sym is)

    on_each : (image ≡ 1) ⊎ ((image ≡ 2) ⊎ (image ≡ 3)) → has_landed (part_on (all_told by) image) ≡ has_landed (parts' image)
    on_each (inl first) = told_alike 1 first (ap has_landed (sym are.0) ∙ settled_landed (parts 1) (parts' 1) (settled 1))
    on_each (inr (inl second)) = told_alike 2 second (ap has_landed (sym are.1) ∙ settled_landed (parts 2) (parts' 2) (settled 2))
    on_each (inr (inr third)) = told_alike 3 third (ap has_landed (sym are.2) ∙ settled_landed (parts 3) (parts' 3) (settled 3))

closed_good : (op : DiskOp) (by : ToldBy) (good good' : ℕ → Bool) (parts parts' : ℕ → Part) → AllAre by parts → ((image : ℕ) → Settled is_pending (parts image) (parts' image)) → ((image : ℕ) → is_image image ≡ true → good image ≡ good' image)
    → (image : ℕ) → is_image image ≡ true → good_after op (part_on (all_told by)) good image ≡ good_after op parts' good' image
closed_good disk.WriteClear by good good' parts parts' are settled same image in_range = clear_closed by parts parts' are settled image in_range
closed_good disk.ReadHeader by good good' parts parts' are settled same image in_range = same image in_range
closed_good (disk.ReadSlot other) by good good' parts parts' are settled same image in_range = same image in_range
closed_good disk.CheckMail by good good' parts parts' are settled same image in_range = same image in_range
closed_good disk.ReadMail by good good' parts parts' are settled same image in_range = same image in_range
closed_good (disk.WriteClaim next) by good good' parts parts' are settled same image in_range = same image in_range
closed_good (disk.WriteClose last) by good good' parts parts' are settled same image in_range = same image in_range
closed_good (disk.WriteReset other) by good good' parts parts' are settled same image in_range = same image in_range

-- no operation but a clear changes the good images
pub kept_good : (op : DiskOp) (parts : ℕ → Part) (good good' : ℕ → Bool) (image : ℕ) → (op ≡ disk.WriteClear → ⊥) → good image ≡ good' image → good_after op parts good image ≡ good' image
kept_good disk.WriteClear parts good good' image never same = absurd (never refl)
kept_good disk.ReadHeader parts good good' image never same = same
kept_good (disk.ReadSlot other) parts good good' image never same = same
kept_good disk.CheckMail parts good good' image never same = same
kept_good disk.ReadMail parts good good' image never same = same
kept_good (disk.WriteClaim next) parts good good' image never same = same
kept_good (disk.WriteClose last) parts good good' image never same = same
kept_good (disk.WriteReset other) parts good good' image never same = same

-- ## The host on one image

-- a failed call may be answered anything, one that was done gives what was taken
failed_may : (rank : ℕ) (host : Host) (sent : List (ℕ × List ℕ)) (made : Call) → is_disk made ≡ true → is_failed made ≡ true → MayAnswer rank host sent made
failed_may rank host sent (call.Read sector bytes true) is f = absurd cc
failed_may rank host sent (call.Read sector bytes false) is f = λ ok. absurd cc
failed_may rank host sent (call.Write sector bytes true) is f = absurd cc
failed_may rank host sent (call.Write sector bytes false) is f = λ ok. absurd cc
failed_may rank host sent (call.Now tick) is f = absurd cc
failed_may rank host sent (call.Receive got) is f = absurd cc
failed_may rank host sent (call.Feed ok) is f = absurd cc
failed_may rank host sent (call.Start ok) is f = absurd cc
failed_may rank host sent (call.Stop ok) is f = absurd cc
failed_may rank host sent (call.Send to said ok) is f = absurd cc
failed_may rank host sent (call.Disarm ok) is f = absurd cc
failed_may rank host sent (call.Halt code) is f = absurd cc
failed_may rank host sent (call.OpenImage path ok) is f = absurd cc
failed_may rank host sent (call.OpenNode images path watchdog resource port owner ok) is f = absurd cc

done_may : (rank : ℕ) (host : Host) (sent : List (ℕ × List ℕ)) (made : Call) → is_disk made ≡ true → MayAnswer rank (record host { took = Some (bytes_read made) }) sent made
done_may rank host sent (call.Read sector bytes ok) is = λ fine. refl
done_may rank host sent (call.Write sector bytes ok) is = λ fine. refl
done_may rank host sent (call.Now tick) is = absurd cc
done_may rank host sent (call.Receive got) is = absurd cc
done_may rank host sent (call.Feed ok) is = absurd cc
done_may rank host sent (call.Start ok) is = absurd cc
done_may rank host sent (call.Stop ok) is = absurd cc
done_may rank host sent (call.Send to said ok) is = absurd cc
done_may rank host sent (call.Disarm ok) is = absurd cc
done_may rank host sent (call.Halt code) is = absurd cc
done_may rank host sent (call.OpenImage path ok) is = absurd cc
done_may rank host sent (call.OpenNode images path watchdog resource port owner ok) is = absurd cc

disk_sent : (made : Call) → is_disk made ≡ true → sent_by made ≡ []
disk_sent (call.Read sector bytes ok) is = refl
disk_sent (call.Write sector bytes ok) is = refl
disk_sent (call.Now tick) is = absurd cc
disk_sent (call.Receive got) is = absurd cc
disk_sent (call.Feed ok) is = absurd cc
disk_sent (call.Start ok) is = absurd cc
disk_sent (call.Stop ok) is = absurd cc
disk_sent (call.Send to said ok) is = absurd cc
disk_sent (call.Disarm ok) is = absurd cc
disk_sent (call.Halt code) is = absurd cc
disk_sent (call.OpenImage path ok) is = absurd cc
disk_sent (call.OpenNode images path watchdog resource port owner ok) is = absurd cc

-- a host of which nothing stands but what three images left over
relaid : {s : Settings} {rank : ℕ} {n : Running} {took : Option What} {all : List Sent} (host : Host) (before : Option (List ℕ)) (made : Call) (now : ℕ) → is_disk made ≡ true → host.asked ≡ true
    → IsNode s rank (returned s rank made now (record host { took = before })) n took [] all → IsNode s rank (returned_one s rank made now host) n took [] all
unfolding returned
relaid {s} {rank} {n} {took} {all} host before made now disk asked is =
    node_moves is (returned_one s rank made now host)
    (record {
      on = two.keeps.on ∙ sym one.keeps.on;
      asked = two.keeps.asked ∙ sym one.keeps.asked;
      clock = two.keeps.clock ∙ sym one.keeps.clock;
      fed = two.keeps.fed ∙ sym one.keeps.fed;
      decided = two.keeps.decided ∙ sym one.keeps.decided;
    })
    (one.keeps.asked ∙ asked) refl
    (λ on. subst (λ k. IsBacked s rank k took all stand.spot) one.took (is.backed on))
    (λ on none. refl) NoCall (λ on gone. is.ending on gone) is.greets
  where
    stand : Stand
    stand = after_call s rank host.leave host.stand made

    one : EndsDisk (record host { took = before }) (after_effect made (newest_outs (log_at stand.spot)) now (record host { took = before })) made
    one = disk_effect made (newest_outs (log_at stand.spot)) now (record host { took = before }) disk

    two : EndsDisk host (after_effect made (newest_outs (log_at stand.spot)) now host) made
    two = disk_effect made (newest_outs (log_at stand.spot)) now host disk

module _ {s : Settings} {rank : ℕ} (host : Host) {n : Running} {took : Option What} {left : List DiskOp} {all : List Sent} (made : Call) where
  -- once the operation was made none is ahead
  performed : (spot : Spot) → IsNode s rank (at host spot) n took left all → n.on ≡ true → option_map_or is_disk (waits_for s rank (at host spot)) false ≡ true
      → (disk_ahead (after_spot s rank host.leave host.stand.turn host.stand.more spot made).spot ≡ None) × (is_looking spot ≡ false)
  unfolding left_plan outs_plan sends_plan out_call after_spot
  performed (Receiving st) is lives disk = absurd cc
  performed (Looking chosen) is lives disk = absurd cc
  performed (Polling poll sents st) is lives disk = absurd cc
  performed (Saying said rest st) is lives disk = absurd cc
  performed (Parting end said rest st) is lives disk = absurd cc
  performed (Ended ran) is lives disk = absurd cc
  performed (Acting entry outs out.Stop rest st) is lives disk = absurd cc
  performed (Acting entry outs out.Start rest st) is lives disk = absurd cc
  performed (Acting entry outs out.Feed rest st) is lives disk = absurd cc
  performed (Acting entry outs (out.Send to p) rest st) is lives disk = absurd cc
  performed (Acting entry outs out.Disarm rest st) is lives disk = absurd cc
  performed (Acting entry outs (out.Halt kind) rest st) is lives disk = absurd cc
  performed (Acting entry outs (out.Disk op) [] st) is lives disk = (acts_ahead s rank host.leave host.stand.turn host.stand.more entry outs [] (noted s (out.Disk op) made st), refl)
  performed (Acting entry outs (out.Disk op) (more ∷ rest) st) is lives disk = absurd (let last = (is.backed lives).1.last in cc)

-- the node on one image returned with the answer, or its call failed
pub record AnsweredOne (s : Settings) (rank : ℕ) (host : Host) (n : Running) (made : Call) (now : ℕ) (answer : What) (all : List Sent) : Type 0 where
  pub took : Option What
  pub node : IsNode s rank (returned_one s rank made now host) n took [] all
  pub sure : (a : What) → took ≡ Some a → a ≡ answer

module _ {s : Settings} {t : Timing} {rank : ℕ} {host : TripleHost} {n : Running} {parts : ℕ → Part} {left : ℕ → List DiskOp} {good : ℕ → Bool} {all : List Sent}
    (is : IsNodeOnThree s t rank host n parts left good all) (on : host.one.on ≡ true) (asked : host.one.asked ≡ true) (logs : n.on ≡ true → IsNodeLog s n.log)
    (d : AsksDisk s t rank host n is.took parts all) (made : Call) (same : blank made ≡ disk_call s rank d.asking.number d.waits.op) (now : ℕ) where
  waits_made : waits_for s rank host.one ≡ Some (blank made)
  waits_made = d.call ∙ ap Some (sym same)

  made_disk : is_disk made ≡ true
  made_disk = sym (disk_blank made) ∙ ap is_disk same ∙ disk_is s rank d.asking.number d.waits.op

  asks_one : option_map_or is_disk (waits_for s rank host.one) false ≡ true
  asks_one = ap (λ w. option_map_or is_disk w false) waits_made ∙ disk_blank made ∙ made_disk

  done_here : (disk_ahead (after_spot s rank host.one.leave host.one.stand.turn host.one.stand.more host.one.stand.spot made).spot ≡ None) × (is_looking host.one.stand.spot ≡ false)
  done_here = performed host.one made host.one.stand.spot is.one d.waits.lives asks_one

  nothing_known : KnowsPackets rank [] all
  nothing_known bytes p there spelled c = absurd (omega (arith, there.1))

  took_nothing : is.took ≡ None
  took_nothing = subst (λ k. TookAlike s d.waits.op k is.took) is.plain.0 d.waits.alike

  answered_one : (answer : What) → disk_answer s d.waits.op made ≡ answer → AnsweredOne s rank host.one n made now answer all
  answered_one answer told = by_failed (is_failed made) refl
    where
      by_failed : (b : Bool) → is_failed made ≡ b → AnsweredOne s rank host.one n made now answer all
      by_failed true f = record {
        took = is.took;
        node = relaid host.one host.one.took made now made_disk asked
            (returns_at host.one made now host.one.stand.spot [] logs is.one on asked waits_made (failed_may rank host.one [] made made_disk f) nothing_known done_here.1);
        sure = λ a e. absurd (let both = sym took_nothing ∙ e in cc);
      }
      by_failed false f = record {
        took = Some answer;
        node = relaid host.one (Some (bytes_read made)) made now made_disk asked
            (returns_at (record host.one { took = Some (bytes_read made) }) made now host.one.stand.spot [] logs
            (d.waits.lands (bytes_read made) answer (sym told ∙ ap (λ b. if b then failed d.waits.op else done s d.waits.op (bytes_read made)) f)) on asked waits_made (done_may rank host.one [] made made_disk) nothing_known done_here.1);
        sure = λ a e. same_Some _ _ (sym e);
      }

-- ## The joint

module _ (s : Settings) (t : Timing) (rank : ℕ) (made : Call) (j : TripleJoint) (nodes : TripleNodesHold s t) (calls : CallsAnswer s t) (fits : FitsImage s t) (has : HasTripleWorld s t j)
    (may : joints.MayReturnTriple s rank made j) (on_disk : is_disk made ≡ true) where
  abbrev tells_world : TripleWorld
  tells_world = run_triple s t has.events

  abbrev tells_host : TripleHost
  tells_host = j.hosts rank

  below : rank < length s.nodes
  below = configured_triple has rank may.on

  known : IsTripleNode s rank tells_world
  known = nodes has.events rank has.may below

  is : IsNodeIn3 s t rank tells_host tells_world
  is = has.world.nodes rank below

  asks : option_map_or is_disk (question tells_host.call) false ≡ true
  asks = ap (λ q. option_map_or is_disk q false) may.waits ∙ disk_blank made ∙ on_disk

  d : AsksDisk s t rank tells_host (node s rank tells_world.moments) is.took (tells_world.parts rank) (packets s tells_world.moments)
  d = asks_disk is may.on (starts_of calls fits below known is) asks

  abbrev by : ToldBy
  by = told_also d.asking.images (part_of s d.waits.op made) d.asking.by

  h : HasHeard s t rank has.events tells_host by
  h = hears s t rank has.events tells_host has.may fits below known is d made j.sent may.waits may.answer

  comes : Comes s t rank d.asking.number d.waits.op tells_host.good ((run_triple s t h.events').parts rank) (d.asking.more made)
  comes =
      comes_next d.asking.images by (d.asking.more made)
      (d.asking.next made (same_Some _ _ (sym may.waits ∙ ap question d.asking.asks)) (honest s t rank has.events tells_host has.may fits below known is d made j.sent may.waits may.answer))
      (let few = d.asking.few in omega (arith, few)) h.are (told_silent d.asking.images (part_of s d.waits.op made) d.asking.by d.asking.silent d.asking.few)

  -- a resource that runs is still held
  pub tells_own : HostOwns tells_host.one → HostOwns (returned_triple s rank made j.time tells_host).one
  unfolding returned_triple
  tells_own was = subst (λ p. HostOwns (told_by p).one) (sym (ap (λ p. plans.left p made) d.asking.asks)) (by_comes comes)
    where
      told_by : Plan Told → TripleHost
      told_by rest = returned_by s rank j.time (record tells_host { left = gives_up s rank tells_host }) rest

      by_comes : Comes s t rank d.asking.number d.waits.op tells_host.good ((run_triple s t h.events').parts rank) (d.asking.more made) → HostOwns (told_by (d.asking.more made)).one
      by_comes (AsksOne a number) = subst (λ p. HostOwns (told_by p).one) (sym a.asks) was
      by_comes (AllTold told by' ends answered are) =
          subst (λ p. HostOwns (told_by p).one) (sym ends) (λ on. returns_own s rank j.time tells_host.one told.0 (d.call ∙ ap Some (sym answered.call)) (was may.on))

  took_here : is.took ≡ None
  took_here = subst (λ k. TookAlike s d.waits.op k is.took) is.plain.0 d.waits.alike

  -- another image is asked
  abbrev mid_host : Plan Told → TripleHost
  mid_host rest = record tells_host { call = rest; took = None; left = gives_up s rank tells_host }

  mid_node : (rest : Plan Told) (a : IsAsking s t rank d.waits.op tells_host.good None ((run_triple s t h.events').parts rank) rest) → a.number ≡ d.asking.number
      → IsNodeOnThree s t rank (mid_host rest) (node s rank tells_world.moments) ((run_triple s t h.events').parts rank) ((run_triple s t h.events').left rank) ((run_triple s t h.events').good rank) (packets s tells_world.moments)
  mid_node rest a number = record {
    took = is.took;
    one = is.one;
    told = λ answer e. absurd (let both = sym took_here ∙ e in cc);
    plain = is.plain;
    three = is.three;
    goods = λ lives made' image in_range.
        is.goods lives made' image in_range
        ∙ ap (λ k. good_told (op_out (node s rank tells_world.moments).log) k (tells_world.parts rank) (tells_world.good rank) image) took_here
        ∙ told_none (op_out (node s rank tells_world.moments).log) (tells_world.parts rank) (tells_world.good rank) image
        ∙ sym (ap (λ g. g rank image) h.good)
        ∙ sym (ap (λ k. good_told (op_out (node s rank tells_world.moments).log) k ((run_triple s t h.events').parts rank) ((run_triple s t h.events').good rank) image) took_here
        ∙ told_none (op_out (node s rank tells_world.moments).log) ((run_triple s t h.events').parts rank) ((run_triple s t h.events').good rank) image);
    silent = λ lives none. absurd (let both = sym d.waits.out ∙ none in cc);
    ahead = λ lives op e.
        inr (subst (λ o. (asking : IsAsking s t rank o tells_host.good None ((run_triple s t h.events').parts rank) rest) × (waits_for s rank tells_host.one ≡ Some (disk_call s rank asking.number o))) (same_Some _ _ (sym d.waits.ahead ∙ e))
        (a, d.call ∙ ap (λ k. Some (disk_call s rank k d.waits.op)) (sym number)));
    idle = λ on none. absurd (let both = sym d.waits.ahead ∙ none in cc);
    among = h.among;
    fresh = λ on unasked. absurd (let asked = may.asked in let both = sym asked ∙ unasked in cc);
  }

  -- all images told
  abbrev end_host : Told → TripleHost
  end_host told = stands_at s rank told.1 (returned_one s rank told.0 j.time tells_host.one) (record tells_host { left = gives_up s rank tells_host })

  module _ (told : Told) (by' : ToldBy) (answered : IsAnswered s rank d.asking.number d.waits.op tells_host.good by' told) (are : AllAre by' ((run_triple s t h.events').parts rank)) (c : Closing s t rank is_pending h.events')
      (over : none_pending (λ image. is_pending ((run_triple s t c.events').parts rank image)) ≡ true) where
    abbrev end_world : TripleWorld
    end_world = run_triple s t c.events'

    goods_same : (image : ℕ) → is_image image ≡ true → is_good_on tells_host.good image ≡ end_world.good rank image
    goods_same image in_range = good_same is d.waits.lives d.waits.op d.waits.ahead took_here image in_range ∙ sym (ap (λ g. g rank image) (c.good ∙ h.good))

    abbrev answer : What
    answer = answer_of d.waits.op (end_world.parts rank) (end_world.good rank)

    answer_is : disk_answer s d.waits.op told.0 ≡ answer
    answer_is =
        answered.answer
        ∙ closed_answer d.waits.op by' (is_good_on tells_host.good) (end_world.good rank) ((run_triple s t h.events').parts rank) (end_world.parts rank) are c.settled goods_same

    one : AnsweredOne s rank tells_host.one (node s rank tells_world.moments) told.0 j.time answer (packets s tells_world.moments)
    one = answered_one is may.on may.asked (λ lives. known.log) d told.0 answered.call j.time answer answer_is

    none_ahead : disk_ahead (returned_one s rank told.0 j.time tells_host.one).stand.spot ≡ None
    unfolding returned
    none_ahead = (done_here is may.on may.asked (λ lives. known.log) d told.0 answered.call j.time).0

    still_asked : (returned_one s rank told.0 j.time tells_host.one).asked ≡ true
    unfolding returned
    still_asked =
        (disk_effect told.0 (newest_outs (log_at (after_call s rank tells_host.one.leave tells_host.one.stand told.0).spot)) j.time tells_host.one
        (made_disk is may.on may.asked (λ lives. known.log) d told.0 answered.call j.time)).keeps.asked ∙ may.asked

    good_by : (k : Option What) → one.took ≡ k → (op_out (node s rank tells_world.moments).log ≡ Some disk.WriteClear → is_some one.took ≡ true) → (image : ℕ) → is_image image ≡ true
        → is_good_on told.1 image ≡ good_told (op_out (node s rank tells_world.moments).log) k (end_world.parts rank) (end_world.good rank) image
    good_by (Some a) e clear image in_range =
        answered.goods image in_range ∙ closed_good d.waits.op by' (is_good_on tells_host.good) (end_world.good rank) ((run_triple s t h.events').parts rank) (end_world.parts rank) are c.settled goods_same image in_range
        ∙ sym (ap (λ o. good_told o (Some a) (end_world.parts rank) (end_world.good rank) image) d.waits.out)
    good_by None e clear image in_range =
        answered.goods image in_range
        ∙ kept_good d.waits.op (part_on (all_told by')) (is_good_on tells_host.good) (end_world.good rank) image
        (λ same. let some = clear (d.waits.out ∙ ap Some same) in let both = sym (ap is_some e) ∙ some in cc)
        (goods_same image in_range)
        ∙ sym (ap (λ o. good_told o None (end_world.parts rank) (end_world.good rank) image) d.waits.out)

    end_node : IsNodeOnThree s t rank (end_host told) (node s rank tells_world.moments) (end_world.parts rank) (end_world.left rank) (end_world.good rank) (packets s tells_world.moments)
    end_node = record {
      took = one.took;
      one = one.node;
      told = λ a e. record { op = d.waits.op; out = d.waits.out; over = over; same = one.sure a e };
      plain = (refl, refl);
      three = answered.three;
      goods = λ lives clear image in_range. good_by one.took refl (λ out. clear out none_ahead) image in_range;
      silent = λ lives none. absurd (let both = sym d.waits.out ∙ none in cc);
      ahead = λ lives op e. absurd (let both = sym none_ahead ∙ e in cc);
      idle = λ on none. (refl, refl);
      among = λ image. c.left image (gives_up s rank tells_host image) (h.among image);
      fresh = λ on unasked. absurd (let both = sym still_asked ∙ unasked in cc);
    }

  -- the world of the joint after the call
  world_of : (host : TripleHost) (events' : List TripleEvent) → AllMayTriple s t events' → ChangesOnThree s rank tells_world (run_triple s t events')
      → (run_triple s t events').slots ≡ tells_world.slots → (run_triple s t events').mailboxes ≡ tells_world.mailboxes → (run_triple s t events').moments ≡ tells_world.moments
      → IsNodeOnThree s t rank host (node s rank tells_world.moments) ((run_triple s t events').parts rank) ((run_triple s t events').left rank) ((run_triple s t events').good rank) (packets s tells_world.moments)
      → host.one.fed ≤ j.time → HasTripleWorld s t (record (with_triple rank host j) { sent = j.sent ++ sent_by made })
  world_of host events' all changes slots mails moments here fed =
      record {
        events = events';
        may = all;
        world =
            triple_moves rank (run_triple s t events') host j.images (j.sent ++ sent_by made) has.world below changes
            (subst (λ ms. IsNodeOnThree s t rank host (node s rank ms) ((run_triple s t events').parts rank) ((run_triple s t events').left rank) ((run_triple s t events').good rank) (packets s ms)) (sym moments) here)
            fed (same_images tells_world has.world.images fits (run_triple s t events') slots mails)
            (subst (λ l. (to : ℕ) (bytes : List ℕ) (p : Packet) → Contains l (to, bytes) → packet_of bytes ≡ Some p → counts (Some p) ≡ true → WasSentTo to (packets s (run_triple s t events').moments) p)
            (sym (ap (λ l. j.sent ++ l) (disk_sent made on_disk) ∙ append-nil j.sent))
            (knows_grows j.sent (packets s tells_world.moments) (packets s (run_triple s t events').moments) changes.grows has.world.sent));
      }

  ends_with : (told : Told) (by' : ToldBy) → IsAnswered s rank d.asking.number d.waits.op tells_host.good by' told → AllAre by' ((run_triple s t h.events').parts rank)
      → HasTripleWorld s t (record (with_triple rank (end_host told) j) { sent = j.sent ++ sent_by made })
  ends_with told by' answered are =
      let c = closes s t rank is_pending (λ part e. (pending_is part e).1) h.events' d.waits.op (ap (λ ms. (node s rank ms).on) h.moments ∙ d.waits.lives) (ap (λ ms. op_out (node s rank ms).log) h.moments ∙ d.waits.out) h.may in
      world_of (end_host told) c.0.events' c.0.may (then_changes h.changes c.0.changes) (c.0.slots ∙ h.slots) (c.0.mailboxes ∙ h.mailboxes) (c.0.moments ∙ h.moments)
      (end_node told by' answered are c.0 c.1)
      (subst (λ f. f ≤ j.time) (sym (returned_fed s rank told.0 j.time tells_host.one)) (has.world.fed rank))

  by_rest : Comes s t rank d.asking.number d.waits.op tells_host.good ((run_triple s t h.events').parts rank) (d.asking.more made)
      → HasTripleWorld s t (record (with_triple rank (returned_by s rank j.time (record tells_host { left = gives_up s rank tells_host }) (d.asking.more made)) j) { sent = j.sent ++ sent_by made })
  by_rest (AsksOne a number) =
      subst (λ p. HasTripleWorld s t (record (with_triple rank (returned_by s rank j.time (record tells_host { left = gives_up s rank tells_host }) p) j) { sent = j.sent ++ sent_by made })) (sym a.asks)
      (world_of (mid_host (plans.Asks (on_image (image_before a.images) (disk_call s rank a.number d.waits.op)) a.more)) h.events' h.may h.changes h.slots h.mailboxes h.moments
      (subst (λ p. IsNodeOnThree s t rank (mid_host p) (node s rank tells_world.moments) ((run_triple s t h.events').parts rank) ((run_triple s t h.events').left rank) ((run_triple s t h.events').good rank) (packets s tells_world.moments)) a.asks (mid_node (d.asking.more made) a number))
      (has.world.fed rank))
  by_rest (AllTold told by' ends answered are) =
      subst (λ p. HasTripleWorld s t (record (with_triple rank (returned_by s rank j.time (record tells_host { left = gives_up s rank tells_host }) p) j) { sent = j.sent ++ sent_by made })) (sym ends)
      (ends_with told by' answered are)

  tells_here : HasTripleWorld s t (record (with_triple rank (returned_triple s rank made j.time tells_host) j) { sent = j.sent ++ sent_by made })
  unfolding returned_triple
  tells_here =
      subst (λ p. HasTripleWorld s t (record (with_triple rank (returned_by s rank j.time (record tells_host { left = gives_up s rank tells_host }) p) j) { sent = j.sent ++ sent_by made }))
      (sym (ap (λ p. plans.left p made) d.asking.asks)) (by_rest comes)

pub tells_on_three : (s : Settings) (t : Timing) → TripleNodesHold s t → CallsAnswer s t → (rank : ℕ) (made : Call) → is_disk made ≡ true → KeepsAWorld s t (joints.Returns rank made)
unfolding happens_triple
tells_on_three s t nodes calls rank made disk j fits has may = tells_here s t rank made j nodes calls fits has may disk

-- A call that is none of the disk and no look at the clock leaves a host on three images the node that it was.
use Rattle.std.proofs.Common.{◌≡◌, ◌<◌, ◌≤◌, ℕ, Bool, true, false, List, [], ◌++◌, Option, None, Some, refl, sym, ap, subst, ◌∙◌, arith, ◌⊎◌, inl, inr}
use Rattle.std.specs.Prelude.{Contains, length}
use Rattle.std.specs.Option.{option_map_or}
use Rattle.std.proofs.lemmas.List.Elements.{Contains-append_cases}
use Rattle.qn_base.specs.declared.calls.Call.{Call}
use Rattle.qn_base.specs.declared.calls.Call.TheVariants as call
use Rattle.qn_base.specs.Calls.{blank}
use Rattle.qn_base.specs.Plans as plans
use Rattle.qn_base.specs.Plans.{question}
use Rattle.qn_model.specs.declared.configuration.Settings.{Settings}
use Rattle.qn_model.specs.declared.times.Timing.{Timing}
use Rattle.qn_model.specs.declared.outputs.DiskOp.{DiskOp}
use Rattle.qn_model.specs.declared.outputs.Out.TheVariants as out
use Rattle.qn_model.specs.Moments.{node, packets}
use Rattle.qn_live.specs.Greetings.{sends_plan}
use Rattle.qn_live.specs.Performing.{disk_call, noted, out_call, outs_plan}
use Rattle.qn_live.specs.TripleDisk.{call_plan}
use Rattle.qn_safety.specs.TripleNumbers.{IsTripleNode, TripleNodesHold}
use Rattle.qn_safety.specs.TripleSteps.{run_triple}
use Rattle.qn_safety.specs.TripleWorld.{TripleWorld}
use Rattle.qn_joined.specs.Joints.{FitsImage, Host, MayAnswer, is_disk, returned, sent_by, waits_for}
use Rattle.qn_joined.specs.Nodes.{is_looking}
use Rattle.qn_joined.specs.Stands.{Spot, Receiving, Looking, Acting, Polling, Saying, Parting, Ended, after_spot, left_plan}
use Rattle.qn_joined.specs.Theorem.{HostOwns, PacketsReadBack}
use Rattle.qn_joined.specs.TripleJoints as joints
use Rattle.qn_joined.specs.TripleJoints.{TripleHost, TripleJoint, call_on_three, gives_up, happens_triple, returned_by, returned_one, returned_triple, stands_at, with_triple}
use Rattle.qn_joined.specs.TripleNodes.{HasTripleWorld, IsAhead}
use Rattle.qn_joined.specs.TripleWorldOf.{CallsAnswer, none_told}
use Rattle.qn_joined.specs.WorldOf.{IsNode, TookAlike, WasSentTo, disk_ahead}
use Rattle.qn_joined.proofs.Calls.{disk_is, returns_at}
use Rattle.qn_joined.proofs.Frames.{Knows}
use Rattle.qn_joined.proofs.Landing.{DiskWaits, disk_waits}
use Rattle.qn_joined.proofs.Moving.{disk_blank}
use Rattle.qn_joined.proofs.Returning.{returns_own}
use Rattle.qn_joined.proofs.Returns.{returned_fed, sends_known, sent_blank}
use Rattle.qn_joined.proofs.Standing.{acts_ahead, parts_ahead, said_ahead}
use Rattle.qn_joined.proofs.TripleAsking.{AllTold, AsksOne, Comes, ahead_on, comes_next, disk_on, once_made}
use Rattle.qn_joined.proofs.TripleEnds.{gives_nothing}
use Rattle.qn_joined.proofs.TripleFrames.{IsNodeIn3, no_change_on_three, same_images, triple_moves}
use Rattle.qn_joined.proofs.TripleSteps.{configured_triple, starts_of}

-- a call that is none of the disk leaves what a host took, what it left over, and that its process has looked at the clock
pub plain_host : (s : Settings) (rank : ℕ) (made : Call) (now : ℕ) (host : Host) → is_disk made ≡ false
    → ((returned s rank made now host).took ≡ host.took) × ((returned s rank made now host).left ≡ host.left) × ((returned s rank made now host).asked ≡ host.asked)
unfolding returned
plain_host s rank (call.Read sector bytes ok) now host plain = absurd cc
plain_host s rank (call.Write sector bytes ok) now host plain = absurd cc
plain_host s rank (call.Now tick) now host plain = (refl, refl, refl)
plain_host s rank (call.Receive got) now host plain = (refl, refl, refl)
plain_host s rank (call.Feed ok) now host plain = (refl, refl, refl)
plain_host s rank (call.Start ok) now host plain = (refl, refl, refl)
plain_host s rank (call.Stop ok) now host plain = (refl, refl, refl)
plain_host s rank (call.Send to said ok) now host plain = (refl, refl, refl)
plain_host s rank (call.Disarm ok) now host plain = (refl, refl, refl)
plain_host s rank (call.Halt code) now host plain = (refl, refl, refl)
plain_host s rank (call.OpenImage path ok) now host plain = (refl, refl, refl)
plain_host s rank (call.OpenNode images path watchdog resource port owner ok) now host plain = (refl, refl, refl)

may_plain : (rank : ℕ) (host : Host) (took : Option (List ℕ)) (sent : List (ℕ × List ℕ)) (made : Call) → is_disk made ≡ false → MayAnswer rank (record host { took = took }) sent made → MayAnswer rank host sent made
may_plain rank host took sent (call.Read sector bytes ok) plain may = absurd cc
may_plain rank host took sent (call.Write sector bytes ok) plain may = absurd cc
may_plain rank host took sent (call.Now tick) plain may = may
may_plain rank host took sent (call.Receive got) plain may = may
may_plain rank host took sent (call.Feed ok) plain may = may
may_plain rank host took sent (call.Start ok) plain may = may
may_plain rank host took sent (call.Stop ok) plain may = may
may_plain rank host took sent (call.Send to said ok) plain may = may
may_plain rank host took sent (call.Disarm ok) plain may = may
may_plain rank host took sent (call.Halt code) plain may = may
may_plain rank host took sent (call.OpenImage path ok) plain may = may
may_plain rank host took sent (call.OpenNode images path watchdog resource port owner ok) plain may = may

same_host : (h : Host) → h.took ≡ None → h.left ≡ [] → h ≡ record h { took = None; left = [] }
same_host h took left = ap (λ k. record h { took = k }) took ∙ ap (λ l. record h { took = None; left = l }) left

pub returned_plain : (s : Settings) (rank : ℕ) (made : Call) (now : ℕ) (host : Host) → is_disk made ≡ false → host.took ≡ None → host.left ≡ [] → returned s rank made now host ≡ returned_one s rank made now host
returned_plain s rank made now host plain took left =
    same_host (returned s rank made now host) ((plain_host s rank made now host plain).0 ∙ took) ((plain_host s rank made now host plain).1 ∙ left)

still_ahead : (s : Settings) (rank : ℕ) (host : Host) (made : Call) (spot : Spot) → option_map_or is_disk (question (left_plan s rank host.leave host.stand.turn host.stand.more spot)) false ≡ false → is_looking spot ≡ false
    → disk_ahead (after_spot s rank host.leave host.stand.turn host.stand.more spot made).spot ≡ disk_ahead spot
unfolding left_plan outs_plan sends_plan out_call after_spot
still_ahead s rank host made (Receiving st) plain apart = refl
still_ahead s rank host made (Looking chosen) plain apart = absurd cc
still_ahead s rank host made (Polling poll sents st) plain apart = said_ahead s rank host.leave host.stand.turn host.stand.more st sents
still_ahead s rank host made (Saying said rest st) plain apart = said_ahead s rank host.leave host.stand.turn host.stand.more st rest
still_ahead s rank host made (Parting end said rest st) plain apart = parts_ahead host.stand.turn host.stand.more end st rest
still_ahead s rank host made (Ended ran) plain apart = refl
still_ahead s rank host made (Acting entry outs (out.Disk op) rest st) plain apart = absurd (let is = disk_is s rank _ op in let both = sym is ∙ plain in cc)
still_ahead s rank host made (Acting entry outs out.Stop rest st) plain apart = acts_ahead s rank host.leave host.stand.turn host.stand.more entry outs rest (noted s out.Stop made st)
still_ahead s rank host made (Acting entry outs out.Start rest st) plain apart = acts_ahead s rank host.leave host.stand.turn host.stand.more entry outs rest (noted s out.Start made st)
still_ahead s rank host made (Acting entry outs out.Feed rest st) plain apart = acts_ahead s rank host.leave host.stand.turn host.stand.more entry outs rest (noted s out.Feed made st)
still_ahead s rank host made (Acting entry outs (out.Send to p) rest st) plain apart = acts_ahead s rank host.leave host.stand.turn host.stand.more entry outs rest (noted s (out.Send to p) made st)
still_ahead s rank host made (Acting entry outs out.Disarm rest st) plain apart = acts_ahead s rank host.leave host.stand.turn host.stand.more entry outs rest (noted s out.Disarm made st)
still_ahead s rank host made (Acting entry outs (out.Halt kind) rest st) plain apart = acts_ahead s rank host.leave host.stand.turn host.stand.more entry outs rest (noted s (out.Halt kind) made st)

module _ (s : Settings) (t : Timing) (rank : ℕ) (made : Call) (j : TripleJoint) (nodes : TripleNodesHold s t) (calls : CallsAnswer s t) (back : PacketsReadBack) (fits : FitsImage s t) (has : HasTripleWorld s t j)
    (may : joints.MayReturnTriple s rank made j) (plain : is_disk made ≡ false) where
  abbrev w : TripleWorld
  w = run_triple s t has.events

  abbrev host : TripleHost
  host = j.hosts rank

  below : rank < length s.nodes
  below = configured_triple has rank may.on

  known : IsTripleNode s rank w
  known = nodes has.events rank has.may below

  is : IsNodeIn3 s t rank host w
  is = has.world.nodes rank below

  asks_plain : option_map_or is_disk (question host.call) false ≡ false
  asks_plain = ap (λ q. option_map_or is_disk q false) may.waits ∙ disk_blank made ∙ plain

  -- the call on three is that on one
  pub call_is : host.call ≡ call_on_three s rank host.good host.one
  call_is = by_ahead (disk_ahead host.one.stand.spot) refl
    where
      by_how : (op : DiskOp) → IsAhead s t rank host op (w.parts rank) → host.call ≡ call_on_three s rank host.good host.one
      by_how op (inl fresh) = fresh.2
      by_how op (inr asking) = absurd (let asks = ap (λ p. option_map_or is_disk (question p) false) asking.0.asks ∙ disk_on s rank asking.0.number _ op in let both = sym asks_plain ∙ asks in cc)

      by_ahead : (o : Option DiskOp) → disk_ahead host.one.stand.spot ≡ o → host.call ≡ call_on_three s rank host.good host.one
      by_ahead None e = (is.idle may.on e).1
      by_ahead (Some op) e = by_how op (is.ahead (ahead_on is.one may.on e) op e)

  waits_plain : option_map_or is_disk (waits_for s rank host.one) false ≡ false
  waits_plain = by_disk (option_map_or is_disk (waits_for s rank host.one) false) refl
    where
      by_comes : (number : ℕ) (op : DiskOp) → host.call ≡ call_plan s rank host.good (disk_call s rank number op) → Comes s t rank number op host.good (w.parts rank) (call_plan s rank host.good (disk_call s rank number op)) → ⊥
      by_comes number op same (AsksOne asking e) =
          let asks = ap (λ p. option_map_or is_disk (question p) false) (same ∙ asking.asks) ∙ disk_on s rank asking.number _ op in let both = sym asks_plain ∙ asks in cc
      by_comes number op same (AllTold told by ends answered are) = let none = sym may.waits ∙ ap question (same ∙ ends) in cc

      by_ahead : (d : DiskWaits s rank host.one (node s rank w.moments) is.took [] (packets s w.moments)) → IsAhead s t rank host d.op (w.parts rank) → ⊥
      by_ahead d (inr asking) = let asks = ap (λ p. option_map_or is_disk (question p) false) asking.0.asks ∙ disk_on s rank asking.0.number _ d.op in let both = sym asks_plain ∙ asks in cc
      by_ahead d (inl fresh) =
          by_comes d.number d.op (fresh.2 ∙ ap (λ q. option_map_or (call_plan s rank host.good) q (plans.Ends (call.Now 0, host.good))) d.waits)
          (comes_next 3 none_told (call_plan s rank host.good (disk_call s rank d.number d.op))
          (starts_of calls fits below known is d.number d.op d.lives d.out d.ahead (subst (λ k. TookAlike s d.op k is.took) is.plain.0 d.alike)) (omega arith) fresh.0 (refl, refl, refl))

      by_disk : (b : Bool) → option_map_or is_disk (waits_for s rank host.one) false ≡ b → option_map_or is_disk (waits_for s rank host.one) false ≡ false
      by_disk false e = e
      by_disk true e = absurd (let d = disk_waits host.one (node s rank w.moments) is.took [] (packets s w.moments) host.one.stand.spot is.one may.on e in by_ahead d (is.ahead d.lives d.op d.ahead))

  -- and so is the call that waits
  pub waits_one : waits_for s rank host.one ≡ Some (blank made)
  waits_one = by_waits (waits_for s rank host.one) refl
    where
      by_waits : (o : Option Call) → waits_for s rank host.one ≡ o → waits_for s rank host.one ≡ Some (blank made)
      by_waits None e = absurd (let none = sym may.waits ∙ ap question (call_is ∙ ap (λ q. option_map_or (call_plan s rank host.good) q (plans.Ends (call.Now 0, host.good))) e) in cc)
      by_waits (Some asked) e =
          let once = once_made s rank host.good asked (sym (ap (λ q. option_map_or is_disk q false) e) ∙ waits_plain) in
          e ∙ sym (ap question (call_is ∙ ap (λ q. option_map_or (call_plan s rank host.good) q (plans.Ends (call.Now 0, host.good))) e ∙ once)) ∙ may.waits

  abbrev after : TripleHost
  after = stands_at s rank host.good (returned_one s rank made j.time host.one) (record host { left = gives_up s rank host })

  pub returned_is : returned_triple s rank made j.time host ≡ after
  unfolding returned_triple
  returned_is =
      ap (λ p. returned_by s rank j.time (record host { left = gives_up s rank host }) (plans.left p made))
      (call_is ∙ ap (λ q. option_map_or (call_plan s rank host.good) q (plans.Ends (call.Now 0, host.good))) waits_one ∙ once_made s rank host.good (blank made) (disk_blank made ∙ plain))

  -- a resource that runs is still held
  pub plain_owns : HostOwns host.one → HostOwns (returned_triple s rank made j.time host).one
  plain_owns was = subst (λ h. HostOwns h.one) (sym returned_is) (λ on. returns_own s rank j.time host.one made waits_one (was may.on))

  one_is : returned s rank made j.time host.one ≡ returned_one s rank made j.time host.one
  one_is = returned_plain s rank made j.time host.one plain is.plain.0 is.plain.1

  module _ (apart : is_looking host.one.stand.spot ≡ false) where
    ahead_same : disk_ahead (returned_one s rank made j.time host.one).stand.spot ≡ disk_ahead host.one.stand.spot
    unfolding returned
    ahead_same = still_ahead s rank host.one made host.one.stand.spot waits_plain apart

    no_longer : (op : DiskOp) → IsAhead s t rank host op (w.parts rank) → IsAhead s t rank after op (w.parts rank)
    no_longer op (inl fresh) = inl (fresh.0, refl, refl)
    no_longer op (inr asking) = absurd (let is_one = ap (λ q. option_map_or is_disk q false) asking.1 ∙ disk_is s rank asking.0.number op in let both = sym waits_plain ∙ is_one in cc)

    after_node : IsNodeIn3 s t rank after w
    after_node = record {
      took = is.took;
      one = subst (λ h. IsNode s rank h (node s rank w.moments) is.took [] (packets s w.moments)) one_is
          (returns_at host.one made j.time host.one.stand.spot j.sent (λ lives. known.log) is.one may.on may.asked waits_one (may_plain rank host.one host.took j.sent made plain may.answer)
          (λ bytes p there spelled c. has.world.sent rank bytes p there spelled c) apart);
      told = is.told;
      plain = (refl, refl);
      three = is.three;
      goods = λ lives clear image in_range. is.goods lives (λ o none. clear o (ahead_same ∙ none)) image in_range;
      silent = is.silent;
      ahead = λ lives op e. no_longer op (is.ahead lives op (sym ahead_same ∙ e));
      idle = λ on none. (refl, refl);
      among = gives_nothing is may.on calls fits below known asks_plain;
      fresh = λ on unasked. absurd (let asked = sym (ap (λ h. h.asked) one_is) ∙ (plain_host s rank made j.time host.one plain).2 ∙ may.asked in let both = sym asked ∙ unasked in cc);
    }

    new : Knows (sent_by made) (packets s w.moments)
    new =
        subst (λ l. Knows l (packets s w.moments)) (sym (sent_blank made))
        (sends_known s rank host.one (node s rank w.moments) is.took [] (packets s w.moments) host.one.stand.spot (blank made) back is.one may.on may.asked may.spells waits_one)

    knows_all : Knows (j.sent ++ sent_by made) (packets s w.moments)
    knows_all to bytes p there spelled c = by_case (Contains-append_cases j.sent (sent_by made) (to, bytes) there)
      where
        by_case : Contains j.sent (to, bytes) ⊎ Contains (sent_by made) (to, bytes) → WasSentTo to (packets s w.moments) p
        by_case (inl old) = has.world.sent to bytes p old spelled c
        by_case (inr fresh) = new to bytes p fresh spelled c

    returns_here : HasTripleWorld s t (record (with_triple rank (returned_triple s rank made j.time host) j) { sent = j.sent ++ sent_by made })
    returns_here =
        subst (λ h. HasTripleWorld s t (record (with_triple rank h j) { sent = j.sent ++ sent_by made })) (sym returned_is)
        (record {
          events = has.events;
          may = has.may;
          world =
              triple_moves rank w after j.images (j.sent ++ sent_by made) has.world below (no_change_on_three s rank w) after_node
              (subst (λ h. h.fed ≤ j.time) one_is (subst (λ f. f ≤ j.time) (sym (returned_fed s rank made j.time host.one)) (has.world.fed rank)))
              (same_images w has.world.images fits w refl refl) knows_all;
        })

pub returns_on_three : (s : Settings) (t : Timing) → TripleNodesHold s t → CallsAnswer s t → PacketsReadBack → (rank : ℕ) (made : Call) (j : TripleJoint) → FitsImage s t → HasTripleWorld s t j
    → joints.MayHappenTriple s t (joints.Returns rank made) j → is_disk made ≡ false → is_looking (j.hosts rank).one.stand.spot ≡ false → HasTripleWorld s t (happens_triple s (joints.Returns rank made) j)
unfolding happens_triple
returns_on_three s t nodes calls back rank made j fits has may plain apart = returns_here s t rank made j nodes calls back fits has may plain apart

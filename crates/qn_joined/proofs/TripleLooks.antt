-- A look at the clock of a running node on three images is its entry in the world of three images.
use Rattle.std.proofs.Common.{◌≡◌, ◌<◌, ◌≤◌, ℕ, Bool, true, false, List, [], ◌∷◌, ◌++◌, Option, None, Some, if◌then◌else◌, refl, sym, ap, subst, ◌∙◌, is_some, inl}
use Rattle.std.specs.Prelude.{length}
use Rattle.std.specs.Option.{option_map_or}
use Rattle.std.proofs.lemmas.List.{append-nil}
use Rattle.qn_base.specs.declared.calls.Call.{Call}
use Rattle.qn_base.specs.declared.calls.Call.TheVariants as call
use Rattle.qn_base.specs.Plans as plans
use Rattle.qn_base.specs.Plans.{question}
use Rattle.qn_model.specs.declared.configuration.Settings.{Settings}
use Rattle.qn_model.specs.declared.times.Timing.{Timing}
use Rattle.qn_model.specs.declared.entries.What.{What}
use Rattle.qn_model.specs.declared.outputs.DiskOp.{DiskOp}
use Rattle.qn_model.specs.declared.outputs.DiskOp.TheVariants as disk
use Rattle.qn_model.specs.declared.packets.Sent.{Sent}
use Rattle.qn_model.specs.lemmas.Entries.{read_answers_none}
use Rattle.qn_model.specs.lemmas.Moments.{node_adds}
use Rattle.qn_model.specs.Log.{disk_of, is_answer, op_out}
use Rattle.qn_model.specs.Moments.{Adds, Running, handed, logged, node, packets, time}
use Rattle.qn_model.specs.NodeOutputs.{newest_outs, with_entry}
use Rattle.qn_parts.specs.Parts.{is_good_on}
use Rattle.qn_live.specs.declared.place.Choice.{Choice}
use Rattle.qn_live.specs.Runs.{looked_at}
use Rattle.qn_live.specs.Running.{RunState}
use Rattle.qn_live.specs.TripleDisk.{call_plan}
use Rattle.qn_safety.specs.NodeLogs.{IsNodeLog}
use Rattle.qn_safety.specs.TripleNumbers.{IsTripleNode, TripleNodesHold}
use Rattle.qn_safety.specs.TripleRules.{is_image}
use Rattle.qn_safety.specs.TripleSteps.{run_triple}
use Rattle.qn_safety.specs.TripleWorld.{TripleWorld}
use Rattle.qn_joined.specs.Joints.{FitsImage, is_disk, returned, waits_for}
use Rattle.qn_joined.specs.Nodes.{AllSaid, IsReady, Spends, at, is_looking}
use Rattle.qn_joined.specs.Stands.{Spot, Receiving, Looking, Acting, Polling, Saying, Parting, Ended, left_plan}
use Rattle.qn_joined.specs.TripleJoints as joints
use Rattle.qn_joined.specs.TripleJoints.{TripleHost, TripleJoint, gives_up, happens_triple, returned_by, returned_one, returned_triple, stands_at, with_triple}
use Rattle.qn_joined.specs.TripleNodes.{AllAre, HasTripleWorld, IsNodeOnThree, KeepsAWorld, ReturnsALook, ReturnsPlainly, WasTold, good_told}
use Rattle.qn_joined.specs.TripleWorldOf.{CallsAnswer, none_told}
use Rattle.qn_joined.specs.WorldOf.{AreAmong, ComesIn, IsNode, NoCall, disk_ahead}
use Rattle.qn_joined.proofs.Handing.{answer_looked, handed_ahead, handed_at, plain_looked}
use Rattle.qn_joined.proofs.Looks.{answered_comes, lives_of, looked_comes, ready_of, said_newest}
use Rattle.qn_joined.proofs.Returns.{now_made, returned_fed}
use Rattle.qn_joined.proofs.TripleAsking.{once_made}
use Rattle.qn_joined.proofs.TripleEnds.{gives_nothing}
use Rattle.qn_joined.proofs.TripleEvents.{HandsOnThree, hands_on_three}
use Rattle.qn_joined.proofs.TripleFrames.{IsNodeIn3, MovedOnThree, moved_triple}
use Rattle.qn_joined.proofs.TriplePlain.{returned_plain}
use Rattle.qn_joined.proofs.TripleSteps.{configured_triple, told_none}
use Rattle.qn_live.specs.Polling.{answered}

module _ (s : Settings) (t : Timing) (rank : ℕ) (j : TripleJoint) (nodes : TripleNodesHold s t) (calls : CallsAnswer s t) (fits : FitsImage s t) (has : HasTripleWorld s t j)
    (chosen : Choice × RunState) (looking : (j.hosts rank).one.stand.spot ≡ Looking chosen) (running : (j.hosts rank).one.on ≡ true) where
  abbrev w : TripleWorld
  w = run_triple s t has.events

  abbrev host : TripleHost
  host = j.hosts rank

  abbrev n : Running
  n = node s rank w.moments

  abbrev now : ℕ
  now = time w.moments

  below : rank < length s.nodes
  below = configured_triple has rank running

  is : IsNodeIn3 s t rank host w
  is = has.world.nodes rank below

  waits_now : waits_for s rank host.one ≡ Some (call.Now 0)
  unfolding left_plan
  waits_now = ap (λ spot. question (left_plan s rank host.one.leave host.one.stand.turn host.one.stand.more spot)) looking

  -- the look is made once
  call_once : host.call ≡ plans.Asks (call.Now 0) (λ made. plans.Ends (made, host.good))
  call_once =
      (is.idle running (ap disk_ahead looking)).1 ∙ ap (λ q. option_map_or (call_plan s rank host.good) q (plans.Ends (call.Now 0, host.good))) waits_now
      ∙ once_made s rank host.good (call.Now 0) refl

  module _ (tick : ℕ) (may : joints.MayReturnTriple s rank (call.Now tick) j) where
    abbrev entry : What
    entry = (looked_at tick (answered tick chosen)).1

    one : IsNode s rank (at host.one (Looking chosen)) n is.took [] (packets s w.moments)
    one = subst (λ spot. IsNode s rank (at host.one spot) n is.took [] (packets s w.moments)) looking is.one

    lives : n.on ≡ true
    lives = lives_of host.one chosen one may.on may.asked

    comes : ComesIn rank n.log is.took (packets s w.moments) entry
    comes =
        subst (λ l. ComesIn rank l is.took (packets s w.moments) entry) (sym (one.log lives))
        (looked_comes rank chosen.1.log is.took (packets s w.moments) tick (answered tick chosen)
        (answered_comes rank chosen.1.log is.took (packets s w.moments) tick chosen.1.poller chosen.0 (one.backed lives).2))

    h : HandsOnThree s t rank entry host.good has.events
    h = hands_on_three s t rank has.events host has.may nodes below is lives entry comes

    abbrev w' : TripleWorld
    w' = run_triple s t h.events'

    abbrev all' : List Sent
    all' = packets s w'.moments

    abbrev n' : Running
    n' = handed s rank now entry n

    node_is : node s rank w'.moments ≡ n'
    node_is = ap (node s rank) h.moments ∙ node_adds s rank h.given w.moments ∙ h.same

    logs : IsNodeLog s n'.log
    logs = subst (λ x. IsNodeLog s x.log) node_is (nodes h.events' rank h.may below).log

    -- an answer spends what was told
    abbrev took' : Option What
    took' = if is_answer entry then None else is.took

    took_by : (b : Bool) → is_answer entry ≡ b → took' ≡ (if b then None else is.took)
    took_by b e = ap (λ x. if x then None else is.took) e

    spends : Spends s rank entry host.one is.took took' [] []
    spends = record {
      plain = λ e. (took_by false e, refl);
      answer = λ e. (took_by true e, subst (λ l. AreAmong s rank l []) (sym is.plain.1) NoCall);
    }

    said : AllSaid all' (newest_outs n'.log)
    said =
        subst (λ x. AllSaid all' (newest_outs x.log)) (node_adds s rank h.given w.moments ∙ h.same)
        (subst (λ m. AllSaid (packets s m) (newest_outs (node s rank (Adds rank h.given ∷ w.moments)).log)) (sym h.moments) (said_newest s rank h.given w.moments))

    ready : IsReady s rank host.one chosen n is.took []
    ready = ready_of host.one chosen one may.on lives

    -- ## The host on one image

    one_after : IsNode s rank (returned_one s rank (call.Now tick) now host.one) n' took' [] all'
    one_after =
        subst (λ x. IsNode s rank x n' took' [] all') (returned_plain s rank (call.Now tick) now host.one refl is.plain.0 is.plain.1)
        (subst (λ spot. IsNode s rank (returned s rank (call.Now tick) now (at host.one spot)) n' took' [] all') (sym looking)
        (handed_at s rank n is.took took' [] [] all' host.one chosen now tick ready may.on may.asked may.answer logs spends (plain_looked tick chosen)
        (answer_looked tick chosen) said))

    ahead_is : disk_ahead (returned_one s rank (call.Now tick) now host.one).stand.spot ≡ disk_of (newest_outs n'.log)
    ahead_is =
        ap (λ spot. disk_ahead (returned s rank (call.Now tick) now (at host.one spot)).stand.spot) looking
        ∙ handed_ahead s rank n is.took took' [] [] all' host.one chosen now tick ready may.on may.asked may.answer logs spends (plain_looked tick chosen)
        (answer_looked tick chosen) said

    -- ## The operation

    -- an operation that is out stays out, and no other one comes, where the entry answers nothing
    stays_out : is_answer entry ≡ false → (op : DiskOp) → op_out n.log ≡ Some op → (op_out n'.log ≡ Some op) × (disk_of (newest_outs n'.log) ≡ None)
    unfolding handed logged with_entry
    stays_out plain op out = logs.kept _ n.log op refl (read_answers_none s rank n.log entry plain) out

    none_before : is_answer entry ≡ false → op_out n'.log ≡ None → op_out n.log ≡ None
    none_before plain none = by_out (op_out n.log) refl
      where
        by_out : (o : Option DiskOp) → op_out n.log ≡ o → op_out n.log ≡ None
        by_out None e = e
        by_out (Some op) e = absurd (let out = (stays_out plain op e).0 in let both = sym out ∙ none in cc)

    none_ahead : is_answer entry ≡ false → (op : DiskOp) → disk_of (newest_outs n'.log) ≡ Some op → op_out n.log ≡ None
    none_ahead plain op ahead = by_out (op_out n.log) refl
      where
        by_out : (o : Option DiskOp) → op_out n.log ≡ o → op_out n.log ≡ None
        by_out None e = e
        by_out (Some other) e = absurd (let none = (stays_out plain other e).1 in let both = sym none ∙ ahead in cc)

    -- an operation that is not out has no parts
    no_parts : (is_answer entry ≡ false → op_out n.log ≡ None) → AllAre none_told (w'.parts rank)
    no_parts none = by_answer (is_answer entry) refl
      where
        by_answer : (b : Bool) → is_answer entry ≡ b → AllAre none_told (w'.parts rank)
        by_answer true e = subst (λ p. AllAre none_told p) (sym (h.answer e).0) (refl, refl, refl)
        by_answer false e = subst (λ p. AllAre none_told p) (sym (h.plain e).0) (is.silent lives (none e))

    told' : (answer : What) → took' ≡ Some answer → WasTold n' (w'.parts rank) (w'.good rank) answer
    told' answer same = by_answer (is_answer entry) refl
      where
        by_answer : (b : Bool) → is_answer entry ≡ b → WasTold n' (w'.parts rank) (w'.good rank) answer
        by_answer true e = absurd (let none = took_by true e in let both = sym none ∙ same in cc)
        by_answer false e =
            let was = is.told answer (sym (took_by false e) ∙ same) in
            subst (λ p. WasTold n' p (w'.good rank) answer) (sym (h.plain e).0)
            (subst (λ g. WasTold n' (w.parts rank) g answer) (sym (h.plain e).1) (record { op = was.op; out = (stays_out e was.op was.out).0; over = was.over; same = was.same }))

    -- ## The good images

    -- what was told counts as before
    told_same : is_answer entry ≡ false → (k : Option What) → is.took ≡ k → (image : ℕ) → good_told (op_out n.log) k (w.parts rank) (w.good rank) image ≡ good_told (op_out n'.log) k (w.parts rank) (w.good rank) image
    told_same plain None e image = told_none (op_out n.log) (w.parts rank) (w.good rank) image ∙ sym (told_none (op_out n'.log) (w.parts rank) (w.good rank) image)
    told_same plain (Some a) e image =
        let was = is.told a e in ap (λ o. good_told o (Some a) (w.parts rank) (w.good rank) image) (was.out ∙ sym (stays_out plain was.op was.out).0)

    goods_plain : is_answer entry ≡ false → (op_out n'.log ≡ Some disk.WriteClear → disk_of (newest_outs n'.log) ≡ None → is_some took' ≡ true) → (image : ℕ) → is_image image ≡ true
        → is_good_on host.good image ≡ good_told (op_out n'.log) took' (w'.parts rank) (w'.good rank) image
    goods_plain e clear image in_range =
        is.goods lives (λ out none. let kept = stays_out e disk.WriteClear out in ap is_some (sym (took_by false e)) ∙ clear kept.0 kept.1) image in_range
        ∙ told_same e is.took refl image
        ∙ ap (λ k. good_told (op_out n'.log) k (w.parts rank) (w.good rank) image) (sym (took_by false e))
        ∙ ap (λ p. good_told (op_out n'.log) took' p (w.good rank) image) (sym (h.plain e).0)
        ∙ ap (λ g. good_told (op_out n'.log) took' (w'.parts rank) g image) (sym (h.plain e).1)

    goods' : n'.on ≡ true → (op_out n'.log ≡ Some disk.WriteClear → disk_of (newest_outs n'.log) ≡ None → is_some took' ≡ true) → (image : ℕ) → is_image image ≡ true
        → is_good_on host.good image ≡ good_told (op_out n'.log) took' (w'.parts rank) (w'.good rank) image
    goods' on clear image in_range = by_answer (is_answer entry) refl
      where
        by_answer : (b : Bool) → is_answer entry ≡ b → is_good_on host.good image ≡ good_told (op_out n'.log) took' (w'.parts rank) (w'.good rank) image
        by_answer false e = goods_plain e clear image in_range
        by_answer true e =
            (h.answer e).1 (ap (λ x. x.on) node_is ∙ on) image in_range
            ∙ sym (ap (λ k. good_told (op_out n'.log) k (w'.parts rank) (w'.good rank) image) (took_by true e) ∙ told_none (op_out n'.log) (w'.parts rank) (w'.good rank) image)

    -- ## The host on three

    abbrev after : TripleHost
    after = stands_at s rank host.good (returned_one s rank (call.Now tick) now host.one) (record host { left = gives_up s rank host })

    known : IsTripleNode s rank w
    known = nodes has.events rank has.may below

    still_asked : (returned_one s rank (call.Now tick) now host.one).asked ≡ true
    unfolding returned
    still_asked = may.asked

    after_node : IsNodeOnThree s t rank after n' (w'.parts rank) (w'.left rank) (w'.good rank) all'
    after_node = record {
      took = took';
      one = one_after;
      told = told';
      plain = (refl, refl);
      three = is.three;
      goods = λ on clear image in_range. goods' on (λ out none. clear out (ahead_is ∙ none)) image in_range;
      silent = λ on none. no_parts (λ plain. none_before plain none);
      ahead = λ on op e. inl (no_parts (λ plain. none_ahead plain op (sym ahead_is ∙ e)), refl, refl);
      idle = λ on none. (refl, refl);
      among = λ image. h.left image (gives_up s rank host image) (gives_nothing is may.on calls fits below known (ap (λ q. option_map_or is_disk q false) may.waits) image);
      fresh = λ on unasked. absurd (let asked = still_asked in let both = sym asked ∙ unasked in cc);
    }

    moved : MovedOnThree s t rank has.events after
    moved = record {
      events' = h.events';
      may = h.may;
      changes = h.changes;
      slots = h.slots;
      mailboxes = h.mailboxes;
      node = subst (λ x. IsNodeOnThree s t rank after x (w'.parts rank) (w'.left rank) (w'.good rank) all') (sym node_is) after_node;
    }

    returned_is : returned_triple s rank (call.Now tick) now host ≡ after
    unfolding returned_triple
    returned_is = ap (λ p. returned_by s rank now (record host { left = gives_up s rank host }) (plans.left p (call.Now tick))) call_once

    looks_here : HasTripleWorld s t (record (with_triple rank (returned_triple s rank (call.Now tick) j.time host) j) { sent = j.sent ++ [] })
    looks_here =
        subst (λ k. HasTripleWorld s t (record (with_triple rank (returned_triple s rank (call.Now tick) k host) j) { sent = j.sent ++ [] })) has.world.time
        (subst (λ x. HasTripleWorld s t (record (with_triple rank x j) { sent = j.sent ++ [] })) (sym returned_is)
        (subst (λ l. HasTripleWorld s t (record (with_triple rank after j) { sent = l })) (sym (append-nil j.sent))
        (moved_triple rank after has.world fits below moved (subst (λ f. f ≤ j.time) (sym (returned_fed s rank (call.Now tick) now host.one)) (has.world.fed rank)))))

pub looks_again_on_three : (s : Settings) (t : Timing) → TripleNodesHold s t → CallsAnswer s t → (rank : ℕ) (made : Call) → ReturnsALook s t rank made
unfolding happens_triple
looks_again_on_three s t nodes calls rank made j fits has may looking = by_spot (j.hosts rank).one.stand.spot refl looking
  where
    by_spot : (spot : Spot) → (j.hosts rank).one.stand.spot ≡ spot → is_looking spot ≡ true → HasTripleWorld s t (happens_triple s (joints.Returns rank made) j)
    by_spot (Looking chosen) e is =
        let now = now_made made (sym (ap question (call_once s t rank j nodes calls fits has chosen e may.on)) ∙ may.waits) in
        subst (λ c. HasTripleWorld s t (happens_triple s (joints.Returns rank c) j)) (sym now.1)
        (looks_here s t rank j nodes calls fits has chosen e may.on now.0 (subst (λ c. joints.MayReturnTriple s rank c j) now.1 may))
    by_spot (Receiving st) e is = absurd cc
    by_spot (Acting performed outs o rest st) e is = absurd cc
    by_spot (Polling poll sents st) e is = absurd cc
    by_spot (Saying said rest st) e is = absurd cc
    by_spot (Parting end said rest st) e is = absurd cc
    by_spot (Ended ran) e is = absurd cc

-- each call that returns
pub any_returns : (s : Settings) (t : Timing) (rank : ℕ) (made : Call) → (is_disk made ≡ true → KeepsAWorld s t (joints.Returns rank made)) → ReturnsPlainly s t rank made → ReturnsALook s t rank made
    → KeepsAWorld s t (joints.Returns rank made)
any_returns s t rank made tells plain looks j fits has may = by_kind (is_disk made) refl (is_looking (j.hosts rank).one.stand.spot) refl
  where
    by_kind : (d : Bool) → is_disk made ≡ d → (l : Bool) → is_looking (j.hosts rank).one.stand.spot ≡ l → HasTripleWorld s t (happens_triple s (joints.Returns rank made) j)
    by_kind true disk l e = tells disk j fits has may
    by_kind false disk true e = looks j fits has may e
    by_kind false disk false e = plain j fits has may disk e

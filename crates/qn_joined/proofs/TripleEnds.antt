-- What a host leaves over where its call is given up, and the end of its machine as an event of the world of three images.
use Rattle.std.proofs.Common.{◌≡◌, ◌<◌, ℕ, zero, suc, Bool, true, false, List, [], ◌∷◌, ◌++◌, Option, None, Some, ◌==◌, if◌then◌else◌, refl, sym, ap, subst, ◌∙◌}
use Rattle.std.specs.Prelude.{◌^◌, length}
use Rattle.std.specs.Option.{option_or, option_map_or}
use Rattle.std.proofs.lemmas.Bool.{eqb-true}
use Rattle.std.proofs.lemmas.List.{append-nil}
use Rattle.qn_base.specs.declared.calls.Call.{Call}
use Rattle.qn_base.specs.Plans.{question}
use Rattle.qn_model.specs.declared.configuration.Settings.{Settings}
use Rattle.qn_model.specs.declared.times.Timing.{Timing}
use Rattle.qn_model.specs.declared.events.Event.TheVariants as event
use Rattle.qn_model.specs.declared.outputs.DiskOp.{DiskOp}
use Rattle.qn_model.specs.declared.packets.Sent.{Sent}
use Rattle.qn_model.specs.lemmas.Moments.{ends_apart, node_ends, put_same, put_other}
use Rattle.qn_model.specs.Moments.{Running, node, packets, time}
use Rattle.qn_model.specs.Rules.{refusal, unless}
use Rattle.qn_model.specs.Wanted.{rank_of}
use Rattle.qn_safety.specs.declared.part.Part.{Part}
use Rattle.qn_safety.specs.declared.triple_event.TripleEvent.{TripleEvent}
use Rattle.qn_safety.specs.declared.triple_event.TripleEvent.TheVariants as triple
use Rattle.qn_safety.specs.NodeLogs.{IsOperation}
use Rattle.qn_safety.specs.TripleNumbers.{AllMayTriple, IsTripleNode, TripleNodesHold}
use Rattle.qn_safety.specs.TripleRules.{refusal_triple}
use Rattle.qn_safety.specs.TripleSteps.{ends_triple, run_triple, step_triple}
use Rattle.qn_safety.specs.TripleWorld.{TripleWorld, leaves_over, op_of}
use Rattle.qn_live.specs.Performing.{disk_call, done}
use Rattle.qn_joined.specs.Joints.{FitsImage, Host, given_up_by, is_disk, left_over, waits_for}
use Rattle.qn_joined.specs.TripleJoints as joints
use Rattle.qn_joined.specs.TripleJoints.{TripleHost, ended_triple, given_up_now, gives_up, happens_triple, image_named, image_waited}
use Rattle.qn_joined.specs.TripleNodes.{IsNodeOnThree, KeepsAWorld, PartHere, PartsAre}
use Rattle.qn_joined.specs.TripleWorldOf.{CallsAnswer, ToldBy, image_before}
use Rattle.qn_joined.specs.WorldOf.{AreAmong, NoCall, IsNode, greets_at, still_out}
use Rattle.qn_joined.proofs.Frames.{grows_more}
use Rattle.qn_joined.proofs.Moving.{among_more, disk_given_up}
use Rattle.qn_joined.proofs.TripleAsking.{AsksDisk, asks_disk, named_on}
use Rattle.qn_joined.proofs.TripleFrames.{ChangesOnThree, IsNodeIn3, MovedOnThree, moved_triple, no_triple_event}
use Rattle.qn_joined.proofs.TripleSteps.{configured_triple, starts_of}

pub part_here : (s : Settings) (t : Timing) (op : DiskOp) (took : Option (List ℕ)) (images : ℕ) (by : ToldBy) (parts : ℕ → Part) → PartsAre s t op images took by parts → PartHere s t op took (parts (image_before images))
part_here s t op took zero by parts are = are.0
part_here s t op took (suc zero) by parts are = are.0
part_here s t op took (suc (suc more)) by parts are = are.0

-- what a call gives up is among what its part leaves over
pub part_left : (s : Settings) (t : Timing) (rank number : ℕ) (op : DiskOp) (took : Option (List ℕ)) (part : Part) {calls : List Call} {ops : List DiskOp} → number < 2 ^ 64 → IsOperation s op
    → PartHere s t op took part → AreAmong s rank calls ops
    → AreAmong s rank (calls ++ left_over (disk_call s rank number op) took) (ops ++ leaves_over (Some op) part)
part_left s t rank number op None part {calls} {ops} small fits here among =
    subst (λ p. AreAmong s rank (calls ++ left_over (disk_call s rank number op) None) (ops ++ leaves_over (Some op) p)) (sym here)
    (disk_given_up s rank number op None None small fits refl among)
part_left s t rank number op (Some bytes) part {calls} {ops} small fits here among =
    subst (λ p. AreAmong s rank (calls ++ left_over (disk_call s rank number op) (Some bytes)) (ops ++ leaves_over (Some op) p)) (sym here.0)
    (disk_given_up s rank number op (Some bytes) (Some (done s op bytes)) small fits refl among)

module _ {s : Settings} {t : Timing} {rank : ℕ} {host : TripleHost} {w : TripleWorld} (is : IsNodeIn3 s t rank host w) (on : host.one.on ≡ true) (calls : CallsAnswer s t) (fits : FitsImage s t) (below : rank < length s.nodes)
    (known : IsTripleNode s rank w) where
  -- a host that asks for no operation gives nothing up
  pub gives_nothing : option_map_or is_disk (question host.call) false ≡ false → (image : ℕ) → AreAmong s rank (gives_up s rank host image) (w.left rank image)
  gives_nothing plain image = by_image (image_waited host == image) refl
    where
      by_image : (b : Bool) → (image_waited host == image) ≡ b → AreAmong s rank (if b then host.left (image_waited host) ++ given_up_now s rank host else host.left image) (w.left rank image)
      by_image false e = is.among image
      by_image true e =
          subst (λ l. AreAmong s rank (host.left (image_waited host) ++ l) (w.left rank image)) (sym (ap (λ b. if b then given_up_by (waits_for s rank host.one) host.took else []) plain))
          (subst (λ l. AreAmong s rank l (w.left rank image)) (sym (append-nil (host.left (image_waited host))))
          (subst (λ k. AreAmong s rank (host.left k) (w.left rank image)) (sym (eqb-true (image_waited host) image e)) (is.among image)))

  -- what a host gives up is left over in the world where the parts of the operation are
  pub gives_up_among : (parts : ℕ → Part) → ((image : ℕ) → parts image ≡ w.parts rank image) → (node s rank w.moments).on ≡ true
      → (image : ℕ) → AreAmong s rank (gives_up s rank host image) (w.left rank image ++ leaves_over (op_of s rank w) (parts image))
  gives_up_among parts same lives image = by_disk (option_map_or is_disk (question host.call) false) refl
    where
      by_disk : (b : Bool) → option_map_or is_disk (question host.call) false ≡ b → AreAmong s rank (gives_up s rank host image) (w.left rank image ++ leaves_over (op_of s rank w) (parts image))
      by_disk false e = among_more (leaves_over (op_of s rank w) (parts image)) (gives_nothing e image)
      by_disk true e = by_image (image_waited host == image) refl
        where
          d : AsksDisk s t rank host (node s rank w.moments) is.took (w.parts rank) (packets s w.moments)
          d = asks_disk is on (starts_of calls fits below known is) e

          image_is : image_waited host ≡ image_before d.asking.images
          image_is = ap (λ p. option_map_or image_named (question p) 0) d.asking.asks ∙ named_on s t rank d.asking.number d.asking.images d.waits.op fits below (known.log.fits d.waits.op d.waits.out)

          given : given_up_now s rank host ≡ left_over (disk_call s rank d.waits.number d.waits.op) host.took
          given = ap (λ b. if b then given_up_by (waits_for s rank host.one) host.took else []) e ∙ ap (λ o. given_up_by o host.took) d.waits.waits

          here : PartHere s t d.waits.op host.took (parts image) → AreAmong s rank (host.left image ++ given_up_now s rank host) (w.left rank image ++ leaves_over (op_of s rank w) (parts image))
          here part =
              subst (λ l. AreAmong s rank (host.left image ++ l) (w.left rank image ++ leaves_over (op_of s rank w) (parts image))) (sym given)
              (subst (λ o. AreAmong s rank (host.left image ++ left_over (disk_call s rank d.waits.number d.waits.op) host.took) (w.left rank image ++ leaves_over o (parts image))) (sym d.waits.out)
              (part_left s t rank d.waits.number d.waits.op host.took (parts image) (d.waits.small d.waits.lives known.log) (known.log.fits d.waits.op d.waits.out) part (is.among image)))

          by_image : (b : Bool) → (image_waited host == image) ≡ b
              → AreAmong s rank (if b then host.left (image_waited host) ++ given_up_now s rank host else host.left image) (w.left rank image ++ leaves_over (op_of s rank w) (parts image))
          by_image false e' = among_more (leaves_over (op_of s rank w) (parts image)) (is.among image)
          by_image true e' =
              let at = eqb-true (image_waited host) image e' in
              subst (λ k. AreAmong s rank (host.left k ++ given_up_now s rank host) (w.left rank image ++ leaves_over (op_of s rank w) (parts image))) (sym at)
              (here (subst (λ p. PartHere s t d.waits.op host.took p) (ap (w.parts rank) (sym image_is ∙ at) ∙ sym (same image)) (part_here s t d.waits.op host.took d.asking.images d.asking.by (w.parts rank) d.asking.are)))

-- ## The end of a machine

off_one : {s : Settings} {rank : ℕ} (host : Host) (n' : Running) (all' : List Sent) → n'.on ≡ false → greets_at host.stand.spot ≡ true → host.left ≡ []
    → IsNode s rank (record host { on = false; runs = false }) n' None [] all'
off_one {s} {rank} host n' all' off greets bare = record {
  on = off;
  log = λ on. absurd (lives on);
  clock = λ on. absurd (lives on);
  tick = λ on. absurd (lives on);
  fed = λ on. absurd (lives on);
  decided = λ on. absurd (lives on);
  silent = λ on. absurd (lives on);
  backed = λ on. absurd (lives on);
  idle = λ on. absurd cc;
  among = subst (λ l. AreAmong s rank l (still_out n' host.stand.spot None)) (sym bare) NoCall;
  fresh = λ on. absurd cc;
  greets = greets;
  ending = λ on. absurd cc;
  rests = λ on. absurd cc;
}
  where
    lives : n'.on ≡ true → ⊥
    lives on = let both = sym off ∙ on in cc

off_triple : {s : Settings} {t : Timing} {rank : ℕ} {host : TripleHost} {n : Running} {parts : ℕ → Part} {left : ℕ → List DiskOp} {good : ℕ → Bool} {all : List Sent}
    → IsNodeOnThree s t rank host n parts left good all → (n' : Running) (parts' : ℕ → Part) (left' : ℕ → List DiskOp) (good' : ℕ → Bool) (all' : List Sent) → n'.on ≡ false
    → ((image : ℕ) → AreAmong s rank (gives_up s rank host image) (left' image))
    → IsNodeOnThree s t rank (ended_triple s rank host) n' parts' left' good' all'
off_triple {s} {t} {rank} {host} is n' parts' left' good' all' off among = record {
  took = None;
  one = off_one host.one n' all' off is.one.greets is.plain.1;
  told = λ answer e. absurd cc;
  plain = is.plain;
  three = is.three;
  goods = λ on made image in_range. absurd (lives on);
  silent = λ on none. absurd (lives on);
  ahead = λ on op e. absurd (lives on);
  idle = λ on. absurd cc;
  among = among;
  fresh = λ on unasked. absurd cc;
}
  where
    lives : n'.on ≡ true → ⊥
    lives on = let both = sym off ∙ on in cc

ends_change : (s : Settings) (rank : ℕ) (w : TripleWorld) → ChangesOnThree s rank w (ends_triple s rank w)
unfolding time packets
ends_change s rank w =
    record {
      time = refl;
      grows = grows_more (packets s w.moments) _;
      node = λ r apart. ends_apart s rank r w.moments apart;
      parts = λ r apart. put_other w.parts rank r _ apart;
      left = λ r apart. put_other w.left rank r _ apart;
      good = λ r apart. refl;
    }

module _ (s : Settings) (t : Timing) (rank : ℕ) (events : List TripleEvent) (host : TripleHost) (may : AllMayTriple s t events) (calls : CallsAnswer s t) (fits : FitsImage s t) (below : rank < length s.nodes)
    (known : IsTripleNode s rank (run_triple s t events)) (is : IsNodeIn3 s t rank host (run_triple s t events)) (on : host.one.on ≡ true) where
  abbrev end_world : TripleWorld
  end_world = run_triple s t events

  ends_by : (b : Bool) → (node s rank end_world.moments).on ≡ b → MovedOnThree s t rank events (ended_triple s rank host)
  unfolding AllMayTriple run_triple step_triple refusal_triple refusal
  ends_by true lives =
      record {
        events' = triple.One (event.Crash (rank_of rank)) ∷ events;
        may = (refl, ap (λ b. option_or (unless b 3) None) lives, may);
        changes = ends_change s rank end_world;
        slots = refl;
        mailboxes = refl;
        node =
            off_triple is (node s rank (ends_triple s rank end_world).moments) ((ends_triple s rank end_world).parts rank) ((ends_triple s rank end_world).left rank) (end_world.good rank) (packets s (ends_triple s rank end_world).moments)
            (ap (λ x. x.on) (node_ends s rank end_world.moments))
            (λ image. subst (λ l. AreAmong s rank (gives_up s rank host image) (l image)) (sym (put_same end_world.left rank (λ k. end_world.left rank k ++ leaves_over (op_of s rank end_world) (end_world.parts rank k))))
            (gives_up_among is on calls fits below known (end_world.parts rank) (λ k. refl) lives image));
      }
  ends_by false off =
      no_triple_event may (off_triple is (node s rank end_world.moments) (end_world.parts rank) (end_world.left rank) (end_world.good rank) (packets s end_world.moments) off (gives_nothing is on calls fits below known no_disk))
    where
      no_disk : option_map_or is_disk (question host.call) false ≡ false
      no_disk = by_disk (option_map_or is_disk (question host.call) false) refl
        where
          by_disk : (b : Bool) → option_map_or is_disk (question host.call) false ≡ b → option_map_or is_disk (question host.call) false ≡ false
          by_disk false e = e
          by_disk true e = absurd (let d = asks_disk is on (starts_of calls fits below known is) e in let lives = d.waits.lives in let both = sym off ∙ lives in cc)

pub ends_on_three : (s : Settings) (t : Timing) → TripleNodesHold s t → CallsAnswer s t → (rank : ℕ) → KeepsAWorld s t (joints.Ends rank)
unfolding happens_triple
ends_on_three s t nodes calls rank j fits has on =
    let below = configured_triple has rank on in
    let known = nodes has.events rank has.may below in
    let is = has.world.nodes rank below in
    moved_triple rank (ended_triple s rank (j.hosts rank)) has.world fits below
    (ends_by s t rank has.events (j.hosts rank) has.may calls fits below known is on (node s rank (run_triple s t has.events).moments).on refl) (has.world.fed rank)

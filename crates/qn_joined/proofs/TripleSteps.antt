-- A disk call that lands on an image, time that passes, a process that begins, a feed and an operator's write, as events of the
-- world of three images.
use Rattle.std.proofs.Common.{◌≡◌, ◌<◌, ◌≤◌, ℕ, zero, suc, Bool, true, false, ◌&&◌, ◌||◌, List, [], ◌∷◌, Option, None, Some, ◌==◌, refl, sym, ap, subst, ◌∙◌, is_some, ◌⊎◌, inl, inr}
use Rattle.std.specs.Prelude.{length}
use Rattle.std.specs.Option.{option_or, option_map_or}
use Rattle.std.proofs.lemmas.Bool.{cases_lt}
use Rattle.qn_base.specs.declared.calls.Call.{Call}
use Rattle.qn_base.specs.declared.ids.Rank.{Rank}
use Rattle.qn_base.specs.Plans.{question}
use Rattle.qn_model.specs.declared.configuration.Settings.{Settings}
use Rattle.qn_model.specs.declared.times.Timing.{Timing}
use Rattle.qn_model.specs.declared.entries.What.{What}
use Rattle.qn_model.specs.declared.outputs.DiskOp.{DiskOp}
use Rattle.qn_model.specs.declared.outputs.DiskOp.TheVariants as disk
use Rattle.qn_model.specs.declared.packets.Sent.{Sent}
use Rattle.qn_model.specs.lemmas.Moments.{put_same, put_other}
use Rattle.qn_model.specs.Log.{op_out}
use Rattle.qn_model.specs.Moments.{Running, node, packets}
use Rattle.qn_model.specs.Rules.{unless}
use Rattle.qn_model.specs.Wanted.{rank_of}
use Rattle.qn_model.specs.World.{World, put, taken}
use Rattle.qn_parts.specs.Parts.{is_good_on}
use Rattle.qn_safety.specs.declared.part.Part.{Part}
use Rattle.qn_safety.specs.declared.part.Part.TheVariants.{Landed, Pending}
use Rattle.qn_safety.specs.declared.triple_event.TripleEvent.TheVariants as triple
use Rattle.qn_safety.specs.TripleNumbers.{AllMayTriple, IsTripleNode, TripleNodesHold, is_two}
use Rattle.qn_safety.specs.TripleRules.{is_image, may_land_on, refusal_triple}
use Rattle.qn_safety.specs.TripleSteps.{landed_on, run_triple, step_triple}
use Rattle.qn_safety.specs.TripleWorld.{TripleWorld, image_of, is_pending, op_of}
use Rattle.qn_live.specs.Performing.{disk_call, done}
use Rattle.qn_live.specs.TripleDisk.{call_plan}
use Rattle.qn_joined.specs.Joints.{FitsImage, landed_image, takes, waits_for}
use Rattle.qn_joined.specs.Theorem.{TakesAlike}
use Rattle.qn_joined.specs.TripleJoints as joints
use Rattle.qn_joined.specs.TripleJoints.{TripleHost, TripleJoint, happens_triple, image_named, image_waited, with_triple}
use Rattle.qn_joined.specs.TripleNodes.{HasTripleWorld, IsAsking, IsNodeOnThree, IsTripleWorld, KeepsAWorld, PartsAre, good_told}
use Rattle.qn_joined.specs.TripleWorldOf.{CallsAnswer, IsEnough, IsHeld, IsLeft, image_before, none_told}
use Rattle.qn_joined.specs.WorldOf.{TookAlike, disk_ahead}
use Rattle.qn_joined.proofs.Images.{takes_done}
use Rattle.qn_joined.proofs.TripleAsking.{AsksDisk, asks_disk, named_on, part_lands, part_pending}
use Rattle.qn_joined.proofs.TripleFrames.{IsNodeIn3, images_land, triple_moves}

pub configured_triple : {s : Settings} {t : Timing} {j : TripleJoint} (has : HasTripleWorld s t j) (rank : ℕ) → (j.hosts rank).one.on ≡ true → rank < length s.nodes
configured_triple {s} {t} {j} has rank on = by_order (cases_lt rank (length s.nodes))
  where
    by_order : (rank < length s.nodes) ⊎ (length s.nodes ≤ rank) → rank < length s.nodes
    by_order (inl within) = within
    by_order (inr out) = absurd (let off = has.world.off rank out in cc)

-- ## The good images

pub told_none : (o : Option DiskOp) (parts : ℕ → Part) (good : ℕ → Bool) (image : ℕ) → good_told o None parts good image ≡ good image
told_none None parts good image = refl
told_none (Some op) parts good image = refl

module _ {s : Settings} {t : Timing} {rank : ℕ} {host : TripleHost} {n : Running} {parts : ℕ → Part} {left : ℕ → List DiskOp} {good : ℕ → Bool} {all : List Sent}
    (is : IsNodeOnThree s t rank host n parts left good all) (lives : n.on ≡ true) (op : DiskOp) (ahead : disk_ahead host.one.stand.spot ≡ Some op) (took_none : is.took ≡ None) where
  pub good_same : (image : ℕ) → is_image image ≡ true → is_good_on host.good image ≡ good image
  good_same image in_range =
      is.goods lives (λ clear none. absurd (let both = sym ahead ∙ none in cc)) image in_range
      ∙ ap (λ k. good_told (op_out n.log) k parts good image) took_none ∙ told_none (op_out n.log) parts good image

  enough_of : (o : DiskOp) → is_two good ≡ true → (o ≡ disk.CheckMail → (image : ℕ) → good image ≡ true) → ((other : Rank) → o ≡ disk.WriteReset other → (other.0 == rank) ≡ false) → IsEnough rank o host.good
  enough_of disk.ReadMail two checks others =
      ap (λ x. x && is_good_on host.good 2 || x && is_good_on host.good 3 || is_good_on host.good 2 && is_good_on host.good 3) (good_same 1 refl)
      ∙ ap (λ y. good 1 && y || good 1 && is_good_on host.good 3 || y && is_good_on host.good 3) (good_same 2 refl)
      ∙ ap (λ z. good 1 && good 2 || good 1 && z || good 2 && z) (good_same 3 refl) ∙ two
  enough_of disk.CheckMail two checks others =
      is.three
      ∙ ap (λ x. x ∷ is_good_on host.good 2 ∷ is_good_on host.good 3 ∷ []) (good_same 1 refl ∙ checks refl 1)
      ∙ ap (λ y. true ∷ y ∷ is_good_on host.good 3 ∷ []) (good_same 2 refl ∙ checks refl 2)
      ∙ ap (λ z. true ∷ true ∷ z ∷ []) (good_same 3 refl ∙ checks refl 3)
  enough_of (disk.WriteReset other) two checks others = others other refl
  enough_of disk.ReadHeader two checks others = tt
  enough_of (disk.ReadSlot other) two checks others = tt
  enough_of (disk.WriteClaim number) two checks others = tt
  enough_of (disk.WriteClose number) two checks others = tt
  enough_of disk.WriteClear two checks others = tt

pub starts_of : {s : Settings} {t : Timing} {rank : ℕ} {host : TripleHost} {w : TripleWorld} → CallsAnswer s t → FitsImage s t → rank < length s.nodes → IsTripleNode s rank w
    → (is : IsNodeIn3 s t rank host w) → (number : ℕ) (op : DiskOp) → (node s rank w.moments).on ≡ true → op_of s rank w ≡ Some op → disk_ahead host.one.stand.spot ≡ Some op → is.took ≡ None
    → IsLeft s t rank number op host.good 3 none_told (call_plan s rank host.good (disk_call s rank number op))
starts_of {s} {t} {rank} {host} {w} calls fits below known is number op lives out ahead took_none =
    calls rank number op host.good (is_good_on host.good 1) (is_good_on host.good 2) (is_good_on host.good 3) fits below (known.log.fits op out) is.three
    (enough_of is lives op ahead took_none op (known.good lives) (λ same. known.checks lives (out ∙ ap Some same)) (λ other same. known.others other (out ∙ ap Some same)))

-- what a sector holds in a world
taken_held : (s : Settings) (t : Timing) (rank : ℕ) (op : DiskOp) (w : World) → IsHeld s t op (taken s t rank op w)
unfolding taken
taken_held s t rank disk.ReadHeader w = refl
taken_held s t rank (disk.ReadSlot other) w = (w.slots other.0, refl)
taken_held s t rank disk.CheckMail w = (w.mailboxes rank, refl)
taken_held s t rank disk.ReadMail w = (w.mailboxes rank, refl)
taken_held s t rank (disk.WriteClaim number) w = tt
taken_held s t rank (disk.WriteClose number) w = tt
taken_held s t rank disk.WriteClear w = tt
taken_held s t rank (disk.WriteReset other) w = tt

before_image : (images : ℕ) → is_image (image_before images) ≡ true
before_image zero = refl
before_image (suc zero) = refl
before_image (suc (suc more)) = refl

some_op : {A : Type 0} {a b : A} → Some a ≡ Some b → a ≡ b
some_op e = cc

-- ## Landing

module _ {s : Settings} {t : Timing} {rank : ℕ} {host : TripleHost} {n : Running} {parts : ℕ → Part} {left : ℕ → List DiskOp} {good : ℕ → Bool} {all : List Sent}
    (is : IsNodeOnThree s t rank host n parts left good all) (d : AsksDisk s t rank host n is.took parts all) (not_landed : host.took ≡ None)
    (bytes : List ℕ) (value : What) (same : value ≡ done s d.waits.op bytes) (held : IsHeld s t d.waits.op value) where
  took_none : is.took ≡ None
  took_none = subst (λ k. TookAlike s d.waits.op k is.took) is.plain.0 d.waits.alike

  landed_asking : IsAsking s t rank d.waits.op host.good (Some bytes) (put parts (image_before d.asking.images) (Landed value)) host.call
  landed_asking =
      let a = d.asking in
      record {
        number = a.number;
        images = a.images;
        few = a.few;
        by = a.by;
        more = a.more;
        asks = a.asks;
        next = a.next;
        are = part_lands s t d.waits.op a.images a.by parts bytes value same held (subst (λ k. PartsAre s t d.waits.op a.images k a.by parts) not_landed a.are);
        silent = a.silent;
      }

  landed_node : IsNodeOnThree s t rank (record host { took = Some bytes }) n (put parts (image_before d.asking.images) (Landed value)) left good all
  unfolding landed_asking
  landed_node = record {
    took = is.took;
    one = is.one;
    told = λ answer e. absurd (let both = sym took_none ∙ e in cc);
    plain = is.plain;
    three = is.three;
    goods = λ lives made image in_range.
        is.goods lives made image in_range
        ∙ ap (λ k. good_told (op_out n.log) k parts good image) took_none ∙ told_none (op_out n.log) parts good image
        ∙ sym (ap (λ k. good_told (op_out n.log) k (put parts (image_before d.asking.images) (Landed value)) good image) took_none ∙ told_none (op_out n.log) (put parts (image_before d.asking.images) (Landed value)) good image);
    silent = λ lives none. absurd (let both = sym d.waits.out ∙ none in cc);
    ahead = λ lives op e.
        let op_is = some_op (sym d.waits.ahead ∙ e) in
        inr (subst (λ o. (asking : IsAsking s t rank o host.good (Some bytes) (put parts (image_before d.asking.images) (Landed value)) host.call) × (waits_for s rank host.one ≡ Some (disk_call s rank asking.number o))) op_is
        (landed_asking, d.call));
    idle = λ on none. absurd (let both = sym d.waits.ahead ∙ none in cc);
    among = is.among;
    fresh = is.fresh;
  }

pub lands_on_three : (s : Settings) (t : Timing) → TakesAlike s t → TripleNodesHold s t → CallsAnswer s t → (rank : ℕ) → KeepsAWorld s t (joints.Lands rank)
unfolding AllMayTriple run_triple step_triple refusal_triple happens_triple
lands_on_three s t alike nodes calls rank j fits has may =
    subst (λ o. HasTripleWorld s t (after o (image_waited host))) (sym d.waits.waits)
    (subst (λ k. HasTripleWorld s t (after (Some call_is) k)) (sym image_is)
    (record {
      events = triple.LandOn (rank_of rank) image ∷ has.events;
      may = (
        refl,
        ap (λ b. option_or (unless b 3) (unless (may_land_on s rank image w) 4)) d.waits.lives
            ∙ ap (λ o. unless (is_some o && is_pending (w.parts rank image)) 4) d.waits.out
            ∙ ap (λ p. unless (true && is_pending p) 4) pending,
        has.may,
      );
      world = subst (λ x. IsTripleWorld s t (after (Some call_is) image) x) (sym steps)
          (triple_moves rank (landed_on s t rank image op w) (record host { took = Some bytes }) (put j.images image (landed_image call_is (j.images image))) j.sent has.world below
          (record {
            time = refl;
            grows = λ r p h. h;
            node = λ r apart. refl;
            parts = λ r apart. put_other w.parts rank r (put (w.parts rank) image (Landed value)) apart;
            left = λ r apart. refl;
            good = λ r apart. refl;
          })
          (subst (λ x. IsNodeOnThree s t rank (record host { took = Some bytes }) (node s rank w.moments) x (w.left rank) (w.good rank) (packets s w.moments))
          (sym (put_same w.parts rank (put (w.parts rank) image (Landed value))))
          (landed_node is d may.2 bytes value same (taken_held s t rank op (image_of image w))))
          (has.world.fed rank)
          (images_land w has.world.images fits (landed_on s t rank image op w) image rank d.waits.number op below (d.waits.small d.waits.lives known.log) (known.log.fits op d.waits.out) refl refl)
          has.world.sent);
    }))
  where
    w : TripleWorld
    w = run_triple s t has.events

    host : TripleHost
    host = j.hosts rank

    below : rank < length s.nodes
    below = configured_triple has rank may.0

    known : IsTripleNode s rank w
    known = nodes has.events rank has.may below

    is : IsNodeIn3 s t rank host w
    is = has.world.nodes rank below

    d : AsksDisk s t rank host (node s rank w.moments) is.took (w.parts rank) (packets s w.moments)
    d = asks_disk is may.0 (starts_of calls fits below known is) may.1

    op : DiskOp
    op = d.waits.op

    image : ℕ
    image = image_before d.asking.images

    call_is : Call
    call_is = disk_call s rank d.waits.number op

    bytes : List ℕ
    bytes = takes call_is (j.images image)

    value : What
    value = taken s t rank op (image_of image w)

    after : Option Call → ℕ → TripleJoint
    after o k = option_map_or (λ waiting. record (with_triple rank (record host { took = Some (takes waiting (j.images k)) }) j) { images = put j.images k (landed_image waiting (j.images k)) }) o j

    image_is : image_waited host ≡ image
    image_is = ap (λ p. option_map_or image_named (question p) 0) d.asking.asks ∙ named_on s t rank d.asking.number d.asking.images op fits below (known.log.fits op d.waits.out)

    pending : w.parts rank image ≡ Pending
    pending = part_pending s t op d.asking.images d.asking.by (w.parts rank) (subst (λ k. PartsAre s t op d.asking.images k d.asking.by (w.parts rank)) may.2 d.asking.are)

    same : value ≡ done s op bytes
    same = sym (takes_done s rank d.waits.number op (j.images image)
        ∙ alike (j.images image) (image_of image w) rank op fits (has.world.images image (before_image d.asking.images)) below (known.log.fits op d.waits.out))

    steps : option_map_or (λ o. landed_on s t rank image o w) (op_of s rank w) w ≡ landed_on s t rank image op w
    steps = ap (λ o. option_map_or (λ x. landed_on s t rank image x w) o w) d.waits.out

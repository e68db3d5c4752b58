-- A disk call on an image that returns, as events of the world of three images: where it failed its part fails, and once all images
-- told, those that were not asked fail too.
use Rattle.std.proofs.Common.{◌≡◌, ◌<◌, ℕ, Bool, true, false, not, ◌&&◌, List, [], ◌∷◌, ◌++◌, Option, None, Some, ◌==◌, if◌then◌else◌, refl, sym, ap, subst, ◌∙◌, is_some, inl, inr}
use Rattle.std.specs.Prelude.{length}
use Rattle.std.specs.Option.{option_or, option_map_or}
use Rattle.std.proofs.lemmas.Bool.{eqb-true}
use Rattle.std.proofs.lemmas.Option.{same_Some}
use Rattle.std.proofs.lemmas.List.{append-nil}
use Rattle.qn_base.specs.declared.calls.Call.{Call}
use Rattle.qn_base.specs.declared.calls.Call.TheVariants as call
use Rattle.qn_base.specs.Calls.{blank, is_failed}
use Rattle.qn_base.specs.Plans.{question}
use Rattle.qn_io.specs.Answered.{bytes_read}
use Rattle.qn_model.specs.declared.configuration.Settings.{Settings}
use Rattle.qn_model.specs.declared.times.Timing.{Timing}
use Rattle.qn_model.specs.declared.outputs.DiskOp.{DiskOp}
use Rattle.qn_model.specs.declared.outputs.DiskOp.TheVariants as disk
use Rattle.qn_model.specs.lemmas.Moments.{put_same, put_other}
use Rattle.qn_model.specs.Moments.{node, packets}
use Rattle.qn_model.specs.Rules.{unless}
use Rattle.qn_model.specs.Wanted.{rank_of}
use Rattle.qn_model.specs.World.{put}
use Rattle.qn_safety.specs.declared.part.Part.{Part}
use Rattle.qn_safety.specs.declared.part.Part.TheVariants.{Failed, Landed, Pending}
use Rattle.qn_safety.specs.declared.triple_event.TripleEvent.{TripleEvent}
use Rattle.qn_safety.specs.declared.triple_event.TripleEvent.TheVariants as triple
use Rattle.qn_safety.specs.TripleNumbers.{AllMayTriple, IsTripleNode}
use Rattle.qn_safety.specs.TripleRules.{may_fail_on, refusal_triple}
use Rattle.qn_safety.specs.TripleSteps.{failed_on, run_triple, step_triple}
use Rattle.qn_safety.specs.TripleWorld.{TripleWorld, has_failed, leaves_over, op_of}
use Rattle.qn_live.specs.Performing.{disk_call, done}
use Rattle.qn_live.specs.TripleDisk.{is_strange, part_of}
use Rattle.qn_joined.specs.Joints.{FitsImage, Host, MayAnswer, given_up_by, is_disk, left_over, waits_for}
use Rattle.qn_joined.specs.TripleJoints.{TripleHost, given_up_now, gives_up, image_named, image_waited}
use Rattle.qn_joined.specs.TripleNodes.{AllAre, PartHere, PartsAre}
use Rattle.qn_joined.specs.TripleWorldOf.{IsHeld, IsHonest, ToldBy, image_before, on_image, told_also}
use Rattle.qn_joined.specs.WorldOf.{AreAmong}
use Rattle.qn_joined.proofs.Moving.{disk_blank}
use Rattle.qn_joined.proofs.TripleAsking.{AsksDisk, disk_on, named_on, told_failed, told_landed}
use Rattle.qn_joined.proofs.TripleEnds.{part_here, part_left}
use Rattle.qn_joined.proofs.TripleFrames.{ChangesOnThree, IsNodeIn3, no_change_on_three}
use Rattle.qn_joined.proofs.TripleTells.{plain_held}

not_disk : (s : Settings) (rank number image : ℕ) (op : DiskOp) (made : Call) → is_disk made ≡ false → blank made ≡ on_image image (disk_call s rank number op) → ⊥
not_disk s rank number image op made plain asked =
    let is = sym (disk_blank made) ∙ ap is_disk asked ∙ disk_on s rank number image op in let both = sym plain ∙ is in cc

held_plain : (s : Settings) (t : Timing) (op : DiskOp) (bytes : List ℕ) → IsHeld s t op (done s op bytes) → is_strange (done s op bytes) ≡ false
unfolding done
held_plain s t disk.ReadHeader bytes held = plain_held s t disk.ReadHeader _ refl held
held_plain s t (disk.ReadSlot other) bytes held = plain_held s t (disk.ReadSlot other) _ refl held
held_plain s t disk.CheckMail bytes held = plain_held s t disk.CheckMail _ refl held
held_plain s t disk.ReadMail bytes held = plain_held s t disk.ReadMail _ refl held
held_plain s t (disk.WriteClaim next) bytes held = refl
held_plain s t (disk.WriteClose last) bytes held = refl
held_plain s t disk.WriteClear bytes held = refl
held_plain s t (disk.WriteReset other) bytes held = refl

-- ## A part that fails

pub record FailsOn (s : Settings) (t : Timing) (rank : ℕ) (events : List TripleEvent) (op : DiskOp) (image : ℕ) : Type 0 where
  pub events' : List TripleEvent
  pub may : AllMayTriple s t events'
  pub moments : (run_triple s t events').moments ≡ (run_triple s t events).moments
  pub changes : ChangesOnThree s rank (run_triple s t events) (run_triple s t events')
  pub slots : (run_triple s t events').slots ≡ (run_triple s t events).slots
  pub mailboxes : (run_triple s t events').mailboxes ≡ (run_triple s t events).mailboxes
  pub good : (run_triple s t events').good ≡ (run_triple s t events).good
  pub parts : (run_triple s t events').parts rank ≡ put ((run_triple s t events).parts rank) image Failed
  pub left : (run_triple s t events').left rank
      ≡ put ((run_triple s t events).left rank) image ((run_triple s t events).left rank image ++ leaves_over (Some op) ((run_triple s t events).parts rank image))

pub fails_on : (s : Settings) (t : Timing) (rank : ℕ) (events : List TripleEvent) (op : DiskOp) (image : ℕ) → AllMayTriple s t events → (node s rank (run_triple s t events).moments).on ≡ true
    → op_of s rank (run_triple s t events) ≡ Some op → has_failed ((run_triple s t events).parts rank image) ≡ false → FailsOn s t rank events op image
unfolding AllMayTriple run_triple step_triple refusal_triple
fails_on s t rank events op image may lives out not_failed =
    record {
      events' = triple.FailOn (rank_of rank) image ∷ events;
      may = (
        refl,
        ap (λ b. option_or (unless b 3) (unless (may_fail_on s rank image w) 5)) lives
            ∙ ap (λ o. unless (is_some o && not (has_failed (w.parts rank image))) 5) out
            ∙ ap (λ f. unless (true && not f) 5) not_failed,
        may,
      );
      moments = ap (λ x. x.moments) steps;
      changes = subst (λ x. ChangesOnThree s rank w x) (sym steps)
          (record {
            time = refl;
            grows = λ r p h. h;
            node = λ r apart. refl;
            parts = λ r apart. put_other w.parts rank r (put (w.parts rank) image Failed) apart;
            left = λ r apart. put_other w.left rank r (put (w.left rank) image (w.left rank image ++ leaves_over (Some op) (w.parts rank image))) apart;
            good = λ r apart. refl;
          });
      slots = ap (λ x. x.slots) steps;
      mailboxes = ap (λ x. x.mailboxes) steps;
      good = ap (λ x. x.good) steps;
      parts = ap (λ x. x.parts rank) steps ∙ put_same w.parts rank (put (w.parts rank) image Failed);
      left = ap (λ x. x.left rank) steps ∙ put_same w.left rank (put (w.left rank) image (w.left rank image ++ leaves_over (Some op) (w.parts rank image)));
    }
  where
    w : TripleWorld
    w = run_triple s t events

    steps : option_map_or (λ o. failed_on rank image o w) (op_of s rank w) w ≡ failed_on rank image op w
    steps = ap (λ o. option_map_or (λ x. failed_on rank image x w) o w) out

-- ## What a call told

-- the bytes that a call took where it did not fail
tells_bytes : (s : Settings) (rank number image : ℕ) (op : DiskOp) (host : Host) (took : Option (List ℕ)) (sent : List (ℕ × List ℕ)) (made : Call)
    → blank made ≡ on_image image (disk_call s rank number op) → MayAnswer rank (record host { took = took }) sent made → is_failed made ≡ false
    → (bytes : List ℕ) × (took ≡ Some bytes) × (done s op bytes ≡ done s op (bytes_read made))
unfolding disk_call done
tells_bytes s rank number image op host took sent (call.Read sector bytes true) asked may fine = (bytes, may refl, refl)
tells_bytes s rank number image op host took sent (call.Read sector bytes false) asked may fine = absurd cc
tells_bytes s rank number image op host took sent (call.Write sector bytes false) asked may fine = absurd cc
tells_bytes s rank number image op host (Some read) sent (call.Write sector bytes true) asked may fine = (read, refl, by_op op asked)
  where
    by_op : (o : DiskOp) → call.Write sector bytes true ≡ on_image image (disk_call s rank number o) → done s o read ≡ done s o (bytes_read (call.Write sector bytes true))
    by_op disk.ReadHeader e = absurd cc
    by_op (disk.ReadSlot other) e = absurd cc
    by_op disk.CheckMail e = absurd cc
    by_op disk.ReadMail e = absurd cc
    by_op (disk.WriteClaim next) e = refl
    by_op (disk.WriteClose last) e = refl
    by_op disk.WriteClear e = refl
    by_op (disk.WriteReset other) e = refl
tells_bytes s rank number image op host None sent (call.Write sector bytes true) asked may fine = absurd (let none = may refl in cc)
tells_bytes s rank number image op host took sent (call.Now tick) asked may fine = absurd (not_disk s rank number image op (call.Now tick) refl asked)
tells_bytes s rank number image op host took sent (call.Receive got) asked may fine = absurd (not_disk s rank number image op (call.Receive got) refl asked)
tells_bytes s rank number image op host took sent (call.Feed ok) asked may fine = absurd (not_disk s rank number image op (call.Feed ok) refl asked)
tells_bytes s rank number image op host took sent (call.Start ok) asked may fine = absurd (not_disk s rank number image op (call.Start ok) refl asked)
tells_bytes s rank number image op host took sent (call.Stop ok) asked may fine = absurd (not_disk s rank number image op (call.Stop ok) refl asked)
tells_bytes s rank number image op host took sent (call.Send to said ok) asked may fine = absurd (not_disk s rank number image op (call.Send to said ok) refl asked)
tells_bytes s rank number image op host took sent (call.Disarm ok) asked may fine = absurd (not_disk s rank number image op (call.Disarm ok) refl asked)
tells_bytes s rank number image op host took sent (call.Halt code) asked may fine = absurd (not_disk s rank number image op (call.Halt code) refl asked)
tells_bytes s rank number image op host took sent (call.OpenImage path ok) asked may fine = absurd (not_disk s rank number image op (call.OpenImage path ok) refl asked)
tells_bytes s rank number image op host took sent (call.OpenNode images path watchdog resource port owner ok) asked may fine =
    absurd (not_disk s rank number image op (call.OpenNode images path watchdog resource port owner ok) refl asked)

-- what is known once one image told: the parts of the world are what each told
pub record HasHeard (s : Settings) (t : Timing) (rank : ℕ) (events : List TripleEvent) (host : TripleHost) (by : ToldBy) : Type 0 where
  pub events' : List TripleEvent
  pub may : AllMayTriple s t events'
  pub moments : (run_triple s t events').moments ≡ (run_triple s t events).moments
  pub changes : ChangesOnThree s rank (run_triple s t events) (run_triple s t events')
  pub slots : (run_triple s t events').slots ≡ (run_triple s t events).slots
  pub mailboxes : (run_triple s t events').mailboxes ≡ (run_triple s t events).mailboxes
  pub good : (run_triple s t events').good ≡ (run_triple s t events).good
  pub are : AllAre by ((run_triple s t events').parts rank)
  pub among : (image : ℕ) → AreAmong s rank (gives_up s rank host image) ((run_triple s t events').left rank image)

not_failed_yet : (s : Settings) (t : Timing) (op : DiskOp) (took : Option (List ℕ)) (part : Part) → PartHere s t op took part → has_failed part ≡ false
not_failed_yet s t op None part here = ap has_failed here
not_failed_yet s t op (Some bytes) part here = ap has_failed here.0

module _ (s : Settings) (t : Timing) (rank : ℕ) (events : List TripleEvent) (host : TripleHost) (may : AllMayTriple s t events) (fits : FitsImage s t) (below : rank < length s.nodes)
    (known : IsTripleNode s rank (run_triple s t events)) (is : IsNodeIn3 s t rank host (run_triple s t events))
    (d : AsksDisk s t rank host (node s rank (run_triple s t events).moments) is.took ((run_triple s t events).parts rank) (packets s (run_triple s t events).moments)) where
  abbrev hear_world : TripleWorld
  hear_world = run_triple s t events

  abbrev at : ℕ
  at = image_before d.asking.images

  at_is : image_waited host ≡ at
  at_is = ap (λ p. option_map_or image_named (question p) 0) d.asking.asks ∙ named_on s t rank d.asking.number d.asking.images d.waits.op fits below (known.log.fits d.waits.op d.waits.out)

  asked_disk : option_map_or is_disk (question host.call) false ≡ true
  asked_disk = ap (λ p. option_map_or is_disk (question p) false) d.asking.asks ∙ disk_on s rank d.asking.number at d.waits.op

  given : given_up_now s rank host ≡ left_over (disk_call s rank d.waits.number d.waits.op) host.took
  given = ap (λ b. if b then given_up_by (waits_for s rank host.one) host.took else []) asked_disk ∙ ap (λ o. given_up_by o host.took) d.waits.waits

  -- what is given up on the image that was asked
  given_among : AreAmong s rank (host.left at ++ given_up_now s rank host) (hear_world.left rank at ++ leaves_over (Some d.waits.op) (hear_world.parts rank at))
  given_among =
      subst (λ l. AreAmong s rank (host.left at ++ l) (hear_world.left rank at ++ leaves_over (Some d.waits.op) (hear_world.parts rank at))) (sym given)
      (part_left s t rank d.waits.number d.waits.op host.took (hear_world.parts rank at) (d.waits.small d.waits.lives known.log) (known.log.fits d.waits.op d.waits.out)
      (part_here s t d.waits.op host.took d.asking.images d.asking.by (hear_world.parts rank) d.asking.are) (is.among at))

  all_among : (ops : List DiskOp) → AreAmong s rank (host.left at ++ given_up_now s rank host) ops → (image : ℕ) → AreAmong s rank (gives_up s rank host image) (put (hear_world.left rank) at ops image)
  all_among ops here image =
      subst (λ i. AreAmong s rank (put host.left i (host.left i ++ given_up_now s rank host) image) (put (hear_world.left rank) at ops image)) (sym at_is) (by_image (at == image))
    where
      by_image : (b : Bool) → AreAmong s rank (if b then host.left at ++ given_up_now s rank host else host.left image) (if b then ops else hear_world.left rank image)
      by_image true = here
      by_image false = is.among image

  heard_failed : (part : Part) → part ≡ Failed → HasHeard s t rank events host (told_also d.asking.images part d.asking.by)
  heard_failed part failed =
      let f = fails_on s t rank events d.waits.op at may d.waits.lives d.waits.out (not_failed_yet s t d.waits.op host.took (hear_world.parts rank at) (part_here s t d.waits.op host.took d.asking.images d.asking.by (hear_world.parts rank) d.asking.are)) in
      record {
        events' = f.events';
        may = f.may;
        moments = f.moments;
        changes = f.changes;
        slots = f.slots;
        mailboxes = f.mailboxes;
        good = f.good;
        are = subst (λ p. AllAre (told_also d.asking.images part d.asking.by) p) (sym f.parts) (told_failed s t d.waits.op host.took d.asking.images d.asking.by (hear_world.parts rank) part failed d.asking.are);
        among = λ image. subst (λ l. AreAmong s rank (gives_up s rank host image) (l image)) (sym f.left) (all_among _ given_among image);
      }

  heard_landed : (bytes : List ℕ) → host.took ≡ Some bytes → (part : Part) → part ≡ Landed (done s d.waits.op bytes) → HasHeard s t rank events host (told_also d.asking.images part d.asking.by)
  heard_landed bytes took part landed =
      record {
        events' = events;
        may = may;
        moments = refl;
        changes = no_change_on_three s rank hear_world;
        slots = refl;
        mailboxes = refl;
        good = refl;
        are = told_landed s t d.waits.op bytes d.asking.images d.asking.by (hear_world.parts rank) part landed are;
        among = λ image. kept_among image;
      }
    where
      are : PartsAre s t d.waits.op d.asking.images (Some bytes) d.asking.by (hear_world.parts rank)
      are = subst (λ k. PartsAre s t d.waits.op d.asking.images k d.asking.by (hear_world.parts rank)) took d.asking.are

      nothing : leaves_over (Some d.waits.op) (hear_world.parts rank at) ≡ []
      nothing = ap (leaves_over (Some d.waits.op)) (part_here s t d.waits.op (Some bytes) d.asking.images d.asking.by (hear_world.parts rank) are).0

      here : AreAmong s rank (host.left at ++ given_up_now s rank host) (hear_world.left rank at)
      here = subst (λ l. AreAmong s rank (host.left at ++ given_up_now s rank host) l) (ap (λ l. hear_world.left rank at ++ l) nothing ∙ append-nil (hear_world.left rank at)) given_among

      kept_among : (image : ℕ) → AreAmong s rank (gives_up s rank host image) (hear_world.left rank image)
      kept_among image = by_same (at == image) refl (all_among (hear_world.left rank at) here image)
        where
          by_same : (b : Bool) → (at == image) ≡ b → AreAmong s rank (gives_up s rank host image) (if b then hear_world.left rank at else hear_world.left rank image) → AreAmong s rank (gives_up s rank host image) (hear_world.left rank image)
          by_same true e among = subst (λ k. AreAmong s rank (gives_up s rank host image) (hear_world.left rank k)) (eqb-true at image e) among
          by_same false e among = among

  -- the call that was asked for
  asked_same : (made : Call) → question host.call ≡ Some (blank made) → blank made ≡ on_image at (disk_call s rank d.asking.number d.waits.op)
  asked_same made waits = same_Some _ _ (sym waits ∙ ap question d.asking.asks)

  pub honest : (made : Call) (sent : List (ℕ × List ℕ)) → question host.call ≡ Some (blank made) → MayAnswer rank (record host.one { took = host.took }) sent made → IsHonest s t d.waits.op made
  honest made sent waits answer = by_failed (is_failed made) refl
    where
      by_failed : (b : Bool) → is_failed made ≡ b → IsHonest s t d.waits.op made
      by_failed true e = inl e
      by_failed false e =
          let told = tells_bytes s rank d.asking.number at d.waits.op host.one host.took sent made (asked_same made waits) answer e in
          let are = subst (λ k. PartsAre s t d.waits.op d.asking.images k d.asking.by (hear_world.parts rank)) told.1 d.asking.are in
          inr (e, subst (λ v. IsHeld s t d.waits.op v) told.2 (part_here s t d.waits.op (Some told.0) d.asking.images d.asking.by (hear_world.parts rank) are).1)

  pub hears : (made : Call) (sent : List (ℕ × List ℕ)) → question host.call ≡ Some (blank made) → MayAnswer rank (record host.one { took = host.took }) sent made
      → HasHeard s t rank events host (told_also d.asking.images (part_of s d.waits.op made) d.asking.by)
  hears made sent waits answer = by_failed (is_failed made) refl
    where
      by_failed : (b : Bool) → is_failed made ≡ b → HasHeard s t rank events host (told_also d.asking.images (part_of s d.waits.op made) d.asking.by)
      by_failed true e =
          heard_failed (part_of s d.waits.op made)
          (ap (λ b. if b then Failed else (if is_strange (done s d.waits.op (bytes_read made)) then Pending else Landed (done s d.waits.op (bytes_read made)))) e)
      by_failed false e =
          let told = tells_bytes s rank d.asking.number at d.waits.op host.one host.took sent made (asked_same made waits) answer e in
          let are = subst (λ k. PartsAre s t d.waits.op d.asking.images k d.asking.by (hear_world.parts rank)) told.1 d.asking.are in
          let held = subst (λ v. IsHeld s t d.waits.op v) told.2 (part_here s t d.waits.op (Some told.0) d.asking.images d.asking.by (hear_world.parts rank) are).1 in
          heard_landed told.0 told.1 (part_of s d.waits.op made)
          (ap (λ b. if b then Failed else (if is_strange (done s d.waits.op (bytes_read made)) then Pending else Landed (done s d.waits.op (bytes_read made)))) e
          ∙ ap (λ b. if b then Pending else Landed (done s d.waits.op (bytes_read made))) (held_plain s t d.waits.op (bytes_read made) held)
          ∙ ap Landed (sym told.2))

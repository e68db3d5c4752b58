-- What changes one node of a world of three images leaves the others as they were, and what a write does to the images.
use Rattle.std.proofs.Common.{◌≡◌, ◌<◌, ◌≤◌, ◌⊎◌, inl, inr, ℕ, zero, suc, Bool, true, false, List, [], Option, ◌==◌, if◌then◌else◌, refl, sym, ap, subst, ◌∙◌, arith}
use Rattle.std.specs.Prelude.{◌^◌, IfSome, length, nat_le}
use Rattle.std.proofs.lemmas.Bool.{eqb-true, leb-true}
use Rattle.qn_base.specs.lemmas.Bools.{first_of_both, second_of_both}
use Rattle.qn_model.specs.declared.configuration.Settings.{Settings}
use Rattle.qn_model.specs.declared.disk.Message.{Message}
use Rattle.qn_model.specs.declared.disk.Message.TheVariants as message
use Rattle.qn_model.specs.declared.disk.Slot.{Slot}
use Rattle.qn_model.specs.declared.mailbox.Sender.{Sender}
use Rattle.qn_model.specs.declared.times.Timing.{Timing}
use Rattle.qn_model.specs.declared.outputs.DiskOp.{DiskOp}
use Rattle.qn_model.specs.declared.outputs.DiskOp.TheVariants as disk
use Rattle.qn_model.specs.declared.packets.Sent.{Sent}
use Rattle.qn_model.specs.lemmas.Moments.{put_same, put_other}
use Rattle.qn_model.specs.Moments.{Running, node, packets, time}
use Rattle.qn_model.specs.Sectors.{IsSender, mail_bytes, mail_place, slot_bytes}
use Rattle.qn_model.specs.Unmet.{id_of}
use Rattle.qn_model.specs.World.{World, mailboxes_with, put, slots_with}
use Rattle.qn_safety.specs.declared.part.Part.{Part}
use Rattle.qn_safety.specs.declared.triple_event.TripleEvent.{TripleEvent}
use Rattle.qn_safety.specs.ImagesApart.{mailboxes_other, slots_other}
use Rattle.qn_safety.specs.NodeLogs.{IsOperation}
use Rattle.qn_safety.specs.TripleNumbers.{AllMayTriple}
use Rattle.qn_safety.specs.TripleRules.{is_image}
use Rattle.qn_safety.specs.TripleSteps.{run_triple}
use Rattle.qn_safety.specs.TripleWorld.{TripleWorld, image_of, mailboxes_on, put_on, slots_on}
use Rattle.qn_live.specs.Performing.{disk_call}
use Rattle.qn_joined.specs.Joints.{FitsImage, landed_image}
use Rattle.qn_joined.specs.Moves.{Grows}
use Rattle.qn_joined.specs.TripleJoints.{TripleHost, TripleJoint, with_triple}
use Rattle.qn_joined.specs.TripleNodes.{HasTripleWorld, IsNodeOnThree, IsTripleWorld}
use Rattle.qn_joined.specs.WorldOf.{IsImage}
use Rattle.qn_joined.proofs.Frames.{Knows, knows_grows, node_grows}
use Rattle.qn_joined.proofs.Images.{image_lands, same_image}

-- an image is the first, the second or the third
pub one_of_three : (image : ℕ) → is_image image ≡ true → (image ≡ 1) ⊎ ((image ≡ 2) ⊎ (image ≡ 3))
one_of_three zero is = absurd (let under = leb-true 1 0 (first_of_both (nat_le 1 0) (nat_le 0 3) is) in omega (arith, under))
one_of_three (suc zero) is = inl refl
one_of_three (suc (suc zero)) is = inr (inl refl)
one_of_three (suc (suc (suc zero))) is = inr (inr refl)
one_of_three (suc (suc (suc (suc more)))) is =
    absurd (let under = leb-true (suc (suc (suc (suc more)))) 3 (second_of_both (nat_le 1 (suc (suc (suc (suc more))))) (nat_le (suc (suc (suc (suc more)))) 3) is) in omega (arith, under))

-- a world that changed at one rank alone, at one moment
pub record ChangesOnThree (s : Settings) (rank : ℕ) (w w' : TripleWorld) : Type 0 where
  pub time : time w'.moments ≡ time w.moments
  pub grows : Grows (packets s w.moments) (packets s w'.moments)
  pub node : (r : ℕ) → (rank == r) ≡ false → node s r w'.moments ≡ node s r w.moments
  pub parts : (r : ℕ) → (rank == r) ≡ false → w'.parts r ≡ w.parts r
  pub left : (r : ℕ) → (rank == r) ≡ false → w'.left r ≡ w.left r
  pub good : (r : ℕ) → (rank == r) ≡ false → w'.good r ≡ w.good r

abbrev pub IsNodeIn3 : Settings → Timing → ℕ → TripleHost → TripleWorld → Type 0
IsNodeIn3 s t rank host w =
    IsNodeOnThree s t rank host (node s rank w.moments) (w.parts rank) (w.left rank) (w.good rank) (packets s w.moments)

-- further events, of that rank alone and of no image, after which a host is the node of the rank
pub record MovedOnThree (s : Settings) (t : Timing) (rank : ℕ) (events : List TripleEvent) (host : TripleHost) : Type 0 where
  pub events' : List TripleEvent
  pub may : AllMayTriple s t events'
  pub changes : ChangesOnThree s rank (run_triple s t events) (run_triple s t events')
  pub slots : (run_triple s t events').slots ≡ (run_triple s t events).slots
  pub mailboxes : (run_triple s t events').mailboxes ≡ (run_triple s t events).mailboxes
  pub node : IsNodeIn3 s t rank host (run_triple s t events')

pub no_change_on_three : (s : Settings) (rank : ℕ) (w : TripleWorld) → ChangesOnThree s rank w w
no_change_on_three s rank w =
    record { time = refl; grows = λ r p is. is; node = λ r apart. refl; parts = λ r apart. refl; left = λ r apart. refl; good = λ r apart. refl }

pub then_changes : {s : Settings} {rank : ℕ} {w w' w'' : TripleWorld} → ChangesOnThree s rank w w' → ChangesOnThree s rank w' w'' → ChangesOnThree s rank w w''
then_changes one two =
    record {
      time = two.time ∙ one.time;
      grows = λ r p is. two.grows r p (one.grows r p is);
      node = λ r apart. two.node r apart ∙ one.node r apart;
      parts = λ r apart. two.parts r apart ∙ one.parts r apart;
      left = λ r apart. two.left r apart ∙ one.left r apart;
      good = λ r apart. two.good r apart ∙ one.good r apart;
    }

-- nothing happened in the world
pub no_triple_event : {s : Settings} {t : Timing} {rank : ℕ} {events : List TripleEvent} {host : TripleHost} → AllMayTriple s t events → IsNodeIn3 s t rank host (run_triple s t events)
    → MovedOnThree s t rank events host
no_triple_event {s} {t} {rank} {events} may is =
    record { events' = events; may = may; changes = no_change_on_three s rank (run_triple s t events); slots = refl; mailboxes = refl; node = is }

-- a host moved on from where others moved it
pub then_moved : {s : Settings} {t : Timing} {rank : ℕ} {events : List TripleEvent} {one two : TripleHost} (m : MovedOnThree s t rank events one) → MovedOnThree s t rank m.events' two
    → MovedOnThree s t rank events two
then_moved m n =
    record { events' = n.events'; may = n.may; changes = then_changes m.changes n.changes; slots = n.slots ∙ m.slots; mailboxes = n.mailboxes ∙ m.mailboxes; node = n.node }

pub triple_grows : {s : Settings} {t : Timing} {rank : ℕ} {host : TripleHost} {n : Running} {parts : ℕ → Part} {left : ℕ → List DiskOp} {good : ℕ → Bool} {all : List Sent} (all' : List Sent) → Grows all all'
    → IsNodeOnThree s t rank host n parts left good all → IsNodeOnThree s t rank host n parts left good all'
triple_grows all' grows is =
    record {
      took = is.took;
      one = node_grows all' grows is.one;
      told = is.told;
      plain = is.plain;
      three = is.three;
      goods = is.goods;
      silent = is.silent;
      ahead = is.ahead;
      idle = is.idle;
      among = is.among;
      fresh = is.fresh;
    }

triples_after : {s : Settings} {t : Timing} {j : TripleJoint} {w : TripleWorld} (rank : ℕ) (w' : TripleWorld) (host : TripleHost) → IsTripleWorld s t j w → ChangesOnThree s rank w w'
    → IsNodeIn3 s t rank host w' → (r : ℕ) → r < length s.nodes → IsNodeIn3 s t r (put j.hosts rank host r) w'
triples_after {s} {t} {j} {w} rank w' host is changes here r below = by_owner (rank == r) refl
  where
    by_owner : (b : Bool) → (rank == r) ≡ b → IsNodeIn3 s t r (if b then host else j.hosts r) w'
    by_owner true e = subst (λ k. IsNodeIn3 s t k host w') (eqb-true rank r e) here
    by_owner false e =
        subst (λ n. IsNodeOnThree s t r (j.hosts r) n (w'.parts r) (w'.left r) (w'.good r) (packets s w'.moments)) (sym (changes.node r e))
        (subst (λ x. IsNodeOnThree s t r (j.hosts r) (node s r w.moments) x (w'.left r) (w'.good r) (packets s w'.moments)) (sym (changes.parts r e))
        (subst (λ l. IsNodeOnThree s t r (j.hosts r) (node s r w.moments) (w.parts r) l (w'.good r) (packets s w'.moments)) (sym (changes.left r e))
        (subst (λ g. IsNodeOnThree s t r (j.hosts r) (node s r w.moments) (w.parts r) (w.left r) g (packets s w'.moments)) (sym (changes.good r e))
        (triple_grows (packets s w'.moments) changes.grows (is.nodes r below)))))

abbrev pub AreImages : Settings → Timing → (ℕ → ℕ → List ℕ) → TripleWorld → Type 0
AreImages s t images w = (image : ℕ) → is_image image ≡ true → IsImage s t (images image) (image_of image w)

-- one host of a joint, and its node, moved on
pub triple_moves : {s : Settings} {t : Timing} {j : TripleJoint} {w : TripleWorld} (rank : ℕ) (w' : TripleWorld) (host : TripleHost) (images : ℕ → ℕ → List ℕ) (sent : List (ℕ × List ℕ))
    → IsTripleWorld s t j w
    → rank < length s.nodes
    → ChangesOnThree s rank w w'
    → IsNodeIn3 s t rank host w'
    → host.one.fed ≤ j.time
    → AreImages s t images w'
    → Knows sent (packets s w'.moments)
    → IsTripleWorld s t (record j { hosts = put j.hosts rank host; images = images; sent = sent }) w'
triple_moves {s} {t} {j} {w} rank w' host images sent is below changes here fed spells knows =
    record {
      time = changes.time ∙ is.time;
      nodes = triples_after rank w' host is changes here;
      off = λ r out. by_off r out (rank == r) refl;
      fed = λ r. by_fed r (rank == r);
      bare = λ r out image. by_bare r out image (rank == r) refl;
      images = spells;
      sent = knows;
    }
  where
    by_off : (r : ℕ) → length s.nodes ≤ r → (b : Bool) → (rank == r) ≡ b → (if b then host else j.hosts r).one.on ≡ false
    by_off r out true e = absurd (let same = eqb-true rank r e in omega arith)
    by_off r out false e = is.off r out

    by_bare : (r : ℕ) → length s.nodes ≤ r → (image : ℕ) → (b : Bool) → (rank == r) ≡ b → (if b then host else j.hosts r).left image ≡ []
    by_bare r out image true e = absurd (let same = eqb-true rank r e in omega arith)
    by_bare r out image false e = is.bare r out image

    by_fed : (r : ℕ) → (b : Bool) → (if b then host else j.hosts r).one.fed ≤ j.time
    by_fed r true = fed
    by_fed r false = is.fed r

-- nothing was written
pub same_images : {s : Settings} {t : Timing} {images : ℕ → ℕ → List ℕ} (w : TripleWorld) → AreImages s t images w → FitsImage s t → (w' : TripleWorld) → w'.slots ≡ w.slots → w'.mailboxes ≡ w.mailboxes
    → AreImages s t images w'
same_images w is fits w' slots mails image in_range =
    same_image (is image in_range) fits (image_of image w') (ap (λ f. λ (r : ℕ). f r image) slots) (ap (λ f. λ (r : ℕ). f r image) mails)

-- one host moved on, and nothing was written or sent
pub moved_triple : {s : Settings} {t : Timing} {j : TripleJoint} {events : List TripleEvent} (rank : ℕ) (host : TripleHost) → IsTripleWorld s t j (run_triple s t events) → FitsImage s t → rank < length s.nodes
    → MovedOnThree s t rank events host → host.one.fed ≤ j.time → HasTripleWorld s t (with_triple rank host j)
moved_triple {s} {t} {j} {events} rank host is fits below m fed =
    record {
      events = m.events';
      may = m.may;
      world =
          triple_moves rank (run_triple s t m.events') host j.images j.sent is below m.changes m.node fed (same_images (run_triple s t events) is.images fits (run_triple s t m.events') m.slots m.mailboxes)
          (knows_grows j.sent (packets s (run_triple s t events).moments) (packets s (run_triple s t m.events').moments) m.changes.grows is.sent);
    }

-- ## Writes

pub image_alike : {s : Settings} {t : Timing} {image : ℕ → List ℕ} {w : World} (w' : World) → IsImage s t image w → ((r : ℕ) → w'.slots r ≡ w.slots r) → ((r : ℕ) → w'.mailboxes r ≡ w.mailboxes r) → IsImage s t image w'
image_alike {s} {t} {image} {w} w' is slots mails =
    record {
      header = is.header;
      slots = λ r below. is.slots r below ∙ ap (slot_bytes (id_of s r).0) (sym (slots r));
      fit = λ r below. subst (λ x. x.incarnation < 2 ^ 64) (sym (slots r)) (is.fit r below);
      mails = λ r below.
          subst (λ m. (by : Option Sender) × IfSome by IsSender × (image (mail_place r) ≡ mail_bytes (record { message = m; by = by }))) (sym (mails r)) (is.mails r below);
    }

pub put_here : {A : Type 0} (f : ℕ → ℕ → A) (rank image r : ℕ) (v : A) → put_on f rank image v r image ≡ put (λ k. f k image) rank v r
put_here f rank image r v = by_owner (rank == r)
  where
    by_owner : (b : Bool) → (if b then put (f rank) image v else f r) image ≡ (if b then v else f r image)
    by_owner true = put_same (f rank) image v
    by_owner false = refl

pub put_apart : {A : Type 0} (f : ℕ → ℕ → A) (rank image r k : ℕ) (v : A) → (image == k) ≡ false → put_on f rank image v r k ≡ f r k
put_apart f rank image r k v apart = by_owner (rank == r) refl
  where
    by_owner : (b : Bool) → (rank == r) ≡ b → (if b then put (f rank) image v else f r) k ≡ f r k
    by_owner true e = put_other (f rank) image k v apart ∙ ap (λ x. f x k) (eqb-true rank r e)
    by_owner false e = refl

slots_here : (rank image : ℕ) (op : DiskOp) (slots : ℕ → ℕ → Slot) (r : ℕ) → slots_on rank image op slots r image ≡ slots_with rank op (λ k. slots k image) r
slots_here rank image (disk.WriteClaim number) slots r = put_here slots rank image r (record { incarnation = number; clean = false })
slots_here rank image (disk.WriteClose number) slots r = put_here slots rank image r (record { incarnation = number; clean = true })
slots_here rank image disk.ReadHeader slots r = refl
slots_here rank image (disk.ReadSlot other) slots r = refl
slots_here rank image disk.CheckMail slots r = refl
slots_here rank image disk.WriteClear slots r = refl
slots_here rank image disk.ReadMail slots r = refl
slots_here rank image (disk.WriteReset other) slots r = refl

mails_here : (rank image : ℕ) (op : DiskOp) (mails : ℕ → ℕ → Message) (r : ℕ) → mailboxes_on rank image op mails r image ≡ mailboxes_with rank op (λ k. mails k image) r
mails_here rank image disk.WriteClear mails r = put_here mails rank image r message.Empty
mails_here rank image (disk.WriteReset other) mails r = put_here mails other.0 image r message.Reset
mails_here rank image disk.ReadHeader mails r = refl
mails_here rank image (disk.ReadSlot other) mails r = refl
mails_here rank image disk.CheckMail mails r = refl
mails_here rank image (disk.WriteClaim number) mails r = refl
mails_here rank image disk.ReadMail mails r = refl
mails_here rank image (disk.WriteClose number) mails r = refl

-- the call of an operation landed on an image
pub images_land : {s : Settings} {t : Timing} {images : ℕ → ℕ → List ℕ} (w : TripleWorld) → AreImages s t images w → FitsImage s t → (w' : TripleWorld) (image rank number : ℕ) (op : DiskOp)
    → rank < length s.nodes → number < 2 ^ 64 → IsOperation s op
    → w'.slots ≡ slots_on rank image op w.slots → w'.mailboxes ≡ mailboxes_on rank image op w.mailboxes
    → AreImages s t (put images image (landed_image (disk_call s rank number op) (images image))) w'
images_land {s} {t} {images} w is fits w' image rank number op below small is_op slots mails k in_range = by_image (image == k) refl
  where
    landed : World
    landed = record (image_of k w) { slots = slots_with rank op (λ r. w.slots r k); mailboxes = mailboxes_with rank op (λ r. w.mailboxes r k) }

    by_image : (b : Bool) → (image == k) ≡ b → IsImage s t (if b then landed_image (disk_call s rank number op) (images image) else images k) (image_of k w')
    by_image true e =
        let same = eqb-true image k e in
        image_alike (image_of k w')
        (subst (λ i. IsImage s t (landed_image (disk_call s rank number op) (images i)) landed) (sym same)
        (image_lands (is k in_range) fits landed rank number op below small is_op refl refl))
        (λ r. ap (λ f. f r k) slots ∙ subst (λ i. slots_on rank i op w.slots r k ≡ slots_with rank op (λ x. w.slots x k) r) (sym same) (slots_here rank k op w.slots r))
        (λ r. ap (λ f. f r k) mails ∙ subst (λ i. mailboxes_on rank i op w.mailboxes r k ≡ mailboxes_with rank op (λ x. w.mailboxes x k) r) (sym same) (mails_here rank k op w.mailboxes r))
    by_image false e =
        image_alike (image_of k w') (is k in_range)
        (λ r. ap (λ f. f r k) slots ∙ slots_other rank image op w.slots r k e)
        (λ r. ap (λ f. f r k) mails ∙ mailboxes_other rank image op w.mailboxes r k e)

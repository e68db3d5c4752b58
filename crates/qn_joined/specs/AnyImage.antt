-- Running nodes over an image that was used before, with every machine off: its slots and mailboxes hold what nodes and
-- operators left in them, under these settings or others. This project's profile.
use Rattle.std.specs.Prelude.{◌≡◌, ◌<◌, ◌^◌, ℕ, true, List, IfSome, IsTrue, length}
use Rattle.qn_model.specs.declared.configuration.Settings.{Settings}
use Rattle.qn_model.specs.declared.times.Timing.{Timing}
use Rattle.qn_model.specs.declared.disk.Slot.{Slot}
use Rattle.qn_model.specs.declared.mailbox.Mail.{Mail}
use Rattle.qn_model.specs.Sectors.{IsSender, header_bytes, mail_bytes, mail_place, slot_bytes, slot_place}
use Rattle.qn_model.specs.Unmet.{id_of}
use Rattle.qn_joined.specs.Joints.{AllMayHappen, FitsImage, Happening, IsNewImage, joint_after, runs_at}
use Rattle.qn_joined.specs.WorldOf.{HasWorld}

-- An image that nodes and operators may have left: a header of these times; each slot spells an incarnation, clean where no
-- node ever claimed it; each mailbox spells a message. Other sectors hold anything.
pub record IsLeftImage (s : Settings) (t : Timing) (image : ℕ → List ℕ) : Type 0 where
  pub slots : ℕ → Slot
  pub mails : ℕ → Mail
  pub header : image 0 ≡ header_bytes (length s.nodes) t
  pub spells : (rank : ℕ) → rank < length s.nodes → image (slot_place rank) ≡ slot_bytes (id_of s rank).0 (slots rank)
  pub fits : (rank : ℕ) → rank < length s.nodes → (slots rank).incarnation < 2 ^ 64
  pub clean : (rank : ℕ) → rank < length s.nodes → (slots rank).incarnation ≡ 0 → (slots rank).clean ≡ true
  pub holds : (rank : ℕ) → rank < length s.nodes → image (mail_place rank) ≡ mail_bytes (mails rank)
  pub senders : (rank : ℕ) → rank < length s.nodes → IfSome (mails rank).by IsSender

-- Running nodes over one outside that began, every machine off, on an image that was left. Of the packets of before no Ask and
-- no Tell counts: `MayReceive` of the first joint, in which none was sent.
pub record IsRejoined (s : Settings) (t : Timing) (image : ℕ → List ℕ) (happenings : List Happening) : Type 0 where
  pub fits : FitsImage s t
  pub left : IsLeftImage s t image
  pub may : AllMayHappen s t image happenings

-- a new image is one that was left
abbrev pub NewImagesAreLeft : Settings → Timing → Type 0
NewImagesAreLeft s t = (image : ℕ → List ℕ) → IsNewImage s t image → IsLeftImage s t image

-- at most one resource runs at any moment
abbrev pub AtMostOneRunsAgain : Settings → Timing → Type 0
AtMostOneRunsAgain s t =
    (image : ℕ → List ℕ) (happenings : List Happening) (i j : ℕ)
    → IsRejoined s t image happenings
    → IsTrue (runs_at s image happenings i)
    → IsTrue (runs_at s image happenings j)
    → i ≡ j

-- every such joint has a world
abbrev pub EveryJointHasAWorldAgain : Settings → Timing → Type 0
EveryJointHasAWorldAgain s t =
    (image : ℕ → List ℕ) (happenings : List Happening) → IsRejoined s t image happenings → HasWorld s t (joint_after s image happenings)

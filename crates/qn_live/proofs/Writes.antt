-- What a write on three images tells is the answer that its parts give.
use Rattle.std.proofs.Common.{◌≡◌, ℕ, Bool, true, false, not, List, [], ◌∷◌, ◌++◌, if◌then◌else◌, refl, sym, ap, ◌∙◌}
use Rattle.qn_base.specs.declared.calls.Call.{Call}
use Rattle.qn_base.specs.declared.calls.Call.TheVariants as call
use Rattle.qn_base.specs.Calls.{is_failed}
use Rattle.qn_base.specs.Plans.{Follows}
use Rattle.qn_io.specs.Answered.{bytes_read}
use Rattle.qn_model.specs.declared.configuration.Settings.{Settings}
use Rattle.qn_model.specs.declared.entries.What.{What}
use Rattle.qn_model.specs.declared.outputs.DiskOp.{DiskOp}
use Rattle.qn_model.specs.declared.outputs.DiskOp.TheVariants as disk
use Rattle.qn_model.specs.World.{is_write}
use Rattle.qn_safety.specs.declared.part.Part.TheVariants.{Failed}
use Rattle.qn_safety.specs.TripleWorld.{answer_among, answer_of, counted, together}
use Rattle.qn_parts.specs.Parts.{is_good_on, part_on}
use Rattle.qn_live.specs.Performing.{disk_answer, disk_call, done}
use Rattle.qn_live.specs.TripleDisk.{Told, call_plan, image_plan, images_plan, is_majority, part_of, part_of_entry, write_plan}
use Rattle.qn_live.specs.TripleLaws.{parts_told}

module _ (s : Settings) where
  -- the value of a write on an image, where it was done
  abbrev value_of : DiskOp → Bool → List What
  value_of op failing = if failing then [] else done s op [] ∷ []

  value_counts : (op : DiskOp) (good failing : Bool) (bytes : List ℕ) → is_write op ≡ true
      → counted op good (if failing then Failed else part_of_entry (done s op bytes)) ≡ value_of op failing
  unfolding done
  value_counts (disk.WriteClaim next) true false bytes is = refl
  value_counts (disk.WriteClaim next) false false bytes is = refl
  value_counts (disk.WriteClose own) true false bytes is = refl
  value_counts (disk.WriteClose own) false false bytes is = refl
  value_counts disk.WriteClear true false bytes is = refl
  value_counts disk.WriteClear false false bytes is = refl
  value_counts (disk.WriteReset rank) true false bytes is = refl
  value_counts (disk.WriteReset rank) false false bytes is = refl
  value_counts disk.ReadHeader good false bytes is = cc
  value_counts (disk.ReadSlot rank) good false bytes is = cc
  value_counts disk.CheckMail good false bytes is = cc
  value_counts disk.ReadMail good false bytes is = cc
  value_counts op good true bytes is = refl

  together_done : (op : DiskOp) (first : What) (values : List What) → is_write op ≡ true → together op first values ≡ done s op []
  unfolding done
  together_done (disk.WriteClaim next) first values is = refl
  together_done (disk.WriteClose own) first values is = refl
  together_done disk.WriteClear first values is = refl
  together_done (disk.WriteReset rank) first values is = refl
  together_done disk.ReadHeader first values is = cc
  together_done (disk.ReadSlot rank) first values is = cc
  together_done disk.CheckMail first values is = cc
  together_done disk.ReadMail first values is = cc

  -- a write is done where it was on two images at least
  majority_done : (op : DiskOp) (sector : ℕ) (bytes : List ℕ) (one two three : Bool) → is_write op ≡ true
      → disk_answer s op (call.Write sector bytes (is_majority (not one ∷ not two ∷ not three ∷ [])))
      ≡ answer_among op (value_of op one ++ (value_of op two ++ value_of op three))
  majority_done op sector bytes true true true is = refl
  majority_done op sector bytes true true false is = refl
  majority_done op sector bytes true false true is = refl
  majority_done op sector bytes false true true is = refl
  majority_done op sector bytes true false false is = sym (together_done op _ _ is)
  majority_done op sector bytes false true false is = sym (together_done op _ _ is)
  majority_done op sector bytes false false true is = sym (together_done op _ _ is)
  majority_done op sector bytes false false false is = sym (together_done op _ _ is)

  part_counts : (op : DiskOp) (good : Bool) (c : Call) → is_write op ≡ true → counted op good (part_of s op c) ≡ value_of op (is_failed c)
  part_counts op good c is = value_counts op good (is_failed c) (bytes_read c) is

  wrote : (me : ℕ) (op : DiskOp) (good : List Bool) (sector : ℕ) (bytes : List ℕ) (calls : List Call) (told : Told) → is_write op ≡ true
      → Follows (write_plan me good sector bytes) calls told
      → disk_answer s op told.0 ≡ answer_of op (part_on (parts_told s op calls)) (is_good_on good)
  unfolding write_plan images_plan image_plan answer_of
  wrote me op good sector bytes [] told is follows = absurd follows
  wrote me op good sector bytes (one ∷ []) told is follows = absurd follows.1
  wrote me op good sector bytes (one ∷ two ∷ []) told is follows = absurd follows.1.1
  wrote me op good sector bytes (one ∷ two ∷ three ∷ more) told is follows =
      ap (λ (t : Told). disk_answer s op t.0) follows.1.1.1.1
      ∙ majority_done op sector bytes (is_failed one) (is_failed two) (is_failed three) is
      ∙ sym (ap (answer_among op)
      (rw (part_counts op (is_good_on good 1) one is, part_counts op (is_good_on good 2) two is, part_counts op (is_good_on good 3) three is) refl))

  pub write_told : (me number : ℕ) (op : DiskOp) (good : List Bool) (calls : List Call) (told : Told) → is_write op ≡ true
      → Follows (call_plan s me good (disk_call s me number op)) calls told
      → disk_answer s op told.0 ≡ answer_of op (part_on (parts_told s op calls)) (is_good_on good)
  unfolding disk_call
  write_told me number (disk.WriteClaim next) good calls told is follows = wrote me (disk.WriteClaim next) good _ _ calls told is follows
  write_told me number (disk.WriteClose own) good calls told is follows = wrote me (disk.WriteClose own) good _ _ calls told is follows
  write_told me number disk.WriteClear good calls told is follows = wrote me disk.WriteClear good _ _ calls told is follows
  write_told me number (disk.WriteReset rank) good calls told is follows = wrote me (disk.WriteReset rank) good _ _ calls told is follows
  write_told me number disk.ReadHeader good calls told is follows = cc
  write_told me number (disk.ReadSlot rank) good calls told is follows = cc
  write_told me number disk.CheckMail good calls told is follows = cc
  write_told me number disk.ReadMail good calls told is follows = cc

-- How a running node on three images goes from one call to the next: what is left of its plan.
use Rattle.std.proofs.Common.{◌≡◌, ℕ, Bool, true, false, not, List, [], None, Some, refl, sym, ap, subst, ◌∙◌}
use Rattle.qn_base.specs.declared.calls.Call.{Call}
use Rattle.qn_base.specs.declared.calls.Call.TheVariants as call
use Rattle.qn_base.specs.Calls.{is_failed}
use Rattle.qn_base.specs.Plans.{Plan, Ends, Asks, ◌>>=◌, question, left}
use Rattle.qn_model.specs.declared.configuration.Settings.{Settings}
use Rattle.qn_model.specs.declared.outputs.DiskOp.{DiskOp}
use Rattle.qn_model.specs.World.{is_write}
use Rattle.qn_safety.specs.declared.part.Part.TheVariants.{Pending}
use Rattle.qn_parts.specs.Parts.{is_good_on}
use Rattle.qn_live.specs.declared.live_end.LiveEnd.{LiveEnd}
use Rattle.qn_live.specs.declared.run.NodeRun.{NodeRun}
use Rattle.qn_live.specs.Halts.{is_on_disk}
use Rattle.qn_live.specs.Machine.{EndsWith, RunFor, operation_of}
use Rattle.qn_live.specs.Running.{Ran}
use Rattle.qn_live.specs.declared.told.Reads.{Reads}
use Rattle.qn_live.specs.declared.told.Reads.TheVariants as reads
use Rattle.qn_live.specs.declared.told.Writes.{Writes}
use Rattle.qn_live.specs.declared.told.Writes.TheVariants as writes
use Rattle.qn_live.specs.declared.triple_run.TripleRun.{TripleRun}
use Rattle.qn_live.specs.TripleDisk.{image_plan, images_plan, is_asked, part_of, part_plan, parts_plan, read_plan, reading, sector_on, write_plan}
use Rattle.qn_live.specs.TripleMachine.{AreTold, Stands, goes_on, image_of_read, image_of_write, images_left, left_on_three, parts_left, read_on, read_told, write_told, written_on}
use Rattle.qn_live.specs.TripleOperations.{place_of, read_as}
use Rattle.qn_live.specs.TripleRuns.{on_three}

module _ (s : Settings) (me : ℕ) (good : List Bool) where
  -- what is left while images are read, and while they are written
  abbrev pub reading_on : Reads → Plan Ran → DiskOp → ℕ → Plan Ran
  reading_on reads one op sector = (parts_left s op good sector reads >>= read_told s op good sector) >>= goes_on s me one

  abbrev pub writing_on : Writes → Plan Ran → ℕ → List ℕ → Plan Ran
  writing_on writes one sector bytes = (images_left sector bytes writes >>= write_told me good sector bytes) >>= goes_on s me one

  -- no image told anything
  pub left_fresh : (one : Plan Ran) → left_on_three s me good reads.Nothing writes.Nothing one ≡ on_three s me good one
  unfolding read_plan write_plan
  left_fresh (Ends value) = refl
  left_fresh (Asks (call.Read sector bytes ok) rest) = refl
  left_fresh (Asks (call.Write sector bytes ok) rest) = refl
  left_fresh (Asks (call.Now tick) rest) = refl
  left_fresh (Asks (call.Receive got) rest) = refl
  left_fresh (Asks (call.Feed ok) rest) = refl
  left_fresh (Asks (call.Start ok) rest) = refl
  left_fresh (Asks (call.Stop ok) rest) = refl
  left_fresh (Asks (call.Send to bytes ok) rest) = refl
  left_fresh (Asks (call.Disarm ok) rest) = refl
  left_fresh (Asks (call.Halt code) rest) = refl
  left_fresh (Asks (call.OpenImage path ok) rest) = refl
  left_fresh (Asks (call.OpenNode images image watchdog resource port rank ok) rest) = refl

  pub read_left : (told : Reads) (written : Writes) (one : Plan Ran) (op : DiskOp) (sector : ℕ) → question one ≡ Some (call.Read sector [] true) → reading sector ≡ op
      → left_on_three s me good told written one ≡ reading_on told one op sector
  read_left told written one op sector asked is = rw asked (ap (λ o. reading_on told one o sector) is)

  pub write_left : (told : Reads) (written : Writes) (one : Plan Ran) (sector : ℕ) (bytes : List ℕ) → question one ≡ Some (call.Write sector bytes true)
      → left_on_three s me good told written one ≡ writing_on written one sector bytes
  write_left told written one sector bytes asked = rw asked refl

  -- the next image of a read is asked
  pub read_next : (told : Reads) (one : Plan Ran) (op : DiskOp) (sector : ℕ) → is_asked op (is_good_on good (image_of_read told)) ≡ true
      → question (reading_on told one op sector) ≡ Some (call.Read (sector_on (image_of_read told) sector) [] true)
  unfolding parts_plan part_plan
  read_next reads.Nothing one op sector is = rw is refl
  read_next (reads.One first) one op sector is = rw is refl
  read_next (reads.Two first second) one op sector is = rw is refl

  pub read_further : (told : Reads) (one : Plan Ran) (op : DiskOp) (sector : ℕ) (made : Call) → is_asked op (is_good_on good (image_of_read told)) ≡ true
      → left (reading_on told one op sector) made ≡ read_on s me good told one op sector (part_of s op made)
  unfolding parts_plan part_plan
  read_further reads.Nothing one op sector made is = rw is refl
  read_further (reads.One first) one op sector made is = rw is refl
  read_further (reads.Two first second) one op sector made is = rw is refl

  -- it is not
  pub read_passed : (told : Reads) (one : Plan Ran) (op : DiskOp) (sector : ℕ) → is_asked op (is_good_on good (image_of_read told)) ≡ false
      → reading_on told one op sector ≡ read_on s me good told one op sector Pending
  unfolding parts_plan part_plan
  read_passed reads.Nothing one op sector is = rw is refl
  read_passed (reads.One first) one op sector is = rw is refl
  read_passed (reads.Two first second) one op sector is = rw is refl

  -- the next image is written
  pub write_next : (told : Writes) (one : Plan Ran) (sector : ℕ) (bytes : List ℕ)
      → question (writing_on told one sector bytes) ≡ Some (call.Write (sector_on (image_of_write told) sector) bytes true)
  unfolding images_plan image_plan
  write_next writes.Nothing one sector bytes = refl
  write_next (writes.One first) one sector bytes = refl
  write_next (writes.Two first second) one sector bytes = refl

  pub write_further : (told : Writes) (one : Plan Ran) (sector : ℕ) (bytes : List ℕ) (made : Call)
      → left (writing_on told one sector bytes) made ≡ written_on s me good told one sector bytes (not (is_failed made))
  unfolding images_plan image_plan
  write_further writes.Nothing one sector bytes made = refl
  write_further (writes.One first) one sector bytes made = refl
  write_further (writes.Two first second) one sector bytes made = refl

  -- ## Calls that are none of an image

  module _ (told : Reads) (written : Writes) where
    -- the next call is that of the run on one image, and so is what is left after it
    abbrev Alike : Plan Ran → Call → Type 0
    Alike one asked =
        (question (left_on_three s me good told written one) ≡ Some asked)
        × ((made : Call) → left (left_on_three s me good told written one) made ≡ on_three s me good (left one made))

    other_asks : (asked : Call) (rest : Call → Plan Ran) → is_on_disk asked ≡ false → Alike (Asks asked rest) asked
    other_asks (call.Now tick) rest off = (refl, λ made. refl)
    other_asks (call.Receive got) rest off = (refl, λ made. refl)
    other_asks (call.Feed ok) rest off = (refl, λ made. refl)
    other_asks (call.Start ok) rest off = (refl, λ made. refl)
    other_asks (call.Stop ok) rest off = (refl, λ made. refl)
    other_asks (call.Send to bytes ok) rest off = (refl, λ made. refl)
    other_asks (call.Disarm ok) rest off = (refl, λ made. refl)
    other_asks (call.Halt code) rest off = (refl, λ made. refl)
    other_asks (call.OpenImage path ok) rest off = (refl, λ made. refl)
    other_asks (call.OpenNode images image watchdog resource port rank ok) rest off = (refl, λ made. refl)
    other_asks (call.Read sector bytes ok) rest off = absurd (cc)
    other_asks (call.Write sector bytes ok) rest off = absurd (cc)

    pub other_next : (one : Plan Ran) (asked : Call) → ((found : Call) → question one ≡ Some found → is_on_disk found ≡ false)
        → question (left_on_three s me good told written one) ≡ Some asked
        → (question one ≡ Some asked) × ((made : Call) → left (left_on_three s me good told written one) made ≡ on_three s me good (left one made))
    other_next (Ends value) asked off is = absurd (let none : None ≡ Some asked = is in cc)
    other_next (Asks first rest) asked off is =
        let alike = other_asks first rest (off first refl) in
        let same : first ≡ asked = (let both : Some first ≡ Some asked = sym alike.0 ∙ is in cc) in
        (ap Some same, alike.1)

    pub other_asked : (one : Plan Ran) (asked : Call) → question one ≡ Some asked → is_on_disk asked ≡ false → question (left_on_three s me good told written one) ≡ Some asked
    other_asked (Ends value) asked is off = cc
    other_asked (Asks first rest) asked is off =
        let same : first ≡ asked = cc in
        (other_asks first rest (ap is_on_disk same ∙ off)).0 ∙ ap Some same

    pub over_left : (one : Plan Ran) (end : LiveEnd) → EndsWith one end → EndsWith (left_on_three s me good told written one) end
    over_left one end over = (over.0, ap (left_on_three s me good told written) over.1)

-- ## The machine

-- a machine that stands for a plan stands for an equal one
pub stands_too : {run : TripleRun} {plan other : Plan Ran} → other ≡ plan → Stands run plan → Stands run other
stands_too same h = record { one = h.one; runs = h.runs; told = h.told; is_left = same ∙ h.is_left }

-- an operation was answered, or another call was made: no image told anything of the next one
pub fresh_stands : (run : TripleRun) (s : Settings) (me : ℕ) (good : List Bool) (plan one : Plan Ran)
    → run.run.settings ≡ s → run.run.me.0 ≡ me → run.good ≡ good → run.reads ≡ reads.Nothing → run.writes ≡ writes.Nothing
    → RunFor run.run one → plan ≡ on_three s me good one → Stands run plan
fresh_stands run s me good plan one is_s is_me is_good is_read is_written runs is = record {
  one = one;
  runs = runs;
  told = λ op found write. subst (λ (told : Reads). AreTold run.run.settings (read_as op) told) (sym is_read) tt;
  is_left = rw (is_s, is_me, is_good, is_read, is_written) (is ∙ sym (left_fresh s me good one));
}

-- an image told something of a read
pub read_stands : (run : TripleRun) (of : NodeRun) (good : List Bool) (told : Reads) (one : Plan Ran) (op : DiskOp)
    → run.run ≡ of → run.good ≡ good → run.reads ≡ told
    → RunFor of one → operation_of of ≡ Some op → question one ≡ Some (call.Read (place_of of.me.0 op) [] true)
    → reading (place_of of.me.0 op) ≡ read_as op → AreTold of.settings (read_as op) told
    → Stands run (reading_on of.settings of.me.0 good told one (read_as op) (place_of of.me.0 op))
read_stands run of good told one op is_run is_good is_told runs found asked reads are_told = record {
  one = one;
  runs = subst (λ (r : NodeRun). RunFor r one) (sym is_run) runs;
  told = λ other here write.
      let same : other ≡ op = (let both : Some other ≡ Some op = sym here ∙ ap operation_of is_run ∙ found in cc) in
      rw (is_run, is_told, same) are_told;
  is_left = rw (is_run, is_good, is_told) (sym (read_left of.settings of.me.0 good told run.writes one (read_as op) (place_of of.me.0 op) asked reads));
}

-- an image was written, or was not
pub write_stands : (run : TripleRun) (of : NodeRun) (good : List Bool) (told : Writes) (one : Plan Ran) (op : DiskOp) (sector : ℕ) (bytes : List ℕ)
    → run.run ≡ of → run.good ≡ good → run.writes ≡ told
    → RunFor of one → operation_of of ≡ Some op → is_write op ≡ true → question one ≡ Some (call.Write sector bytes true)
    → Stands run (writing_on of.settings of.me.0 good told one sector bytes)
write_stands run of good told one op sector bytes is_run is_good is_told runs found writes asked = record {
  one = one;
  runs = subst (λ (r : NodeRun). RunFor r one) (sym is_run) runs;
  told = λ other here reads.
      let same : other ≡ op = (let both : Some other ≡ Some op = sym here ∙ ap operation_of is_run ∙ found in cc) in
      absurd (let no : true ≡ false = sym writes ∙ ap is_write (sym same) ∙ reads in cc);
  is_left = rw (is_run, is_good, is_told) (sym (write_left of.settings of.me.0 good run.reads told one sector bytes asked));
}

-- a machine that is another one stands for the same
pub runs_too : {run of : NodeRun} {one : Plan Ran} → run ≡ of → RunFor of one → RunFor run one
runs_too {run} {of} {one} is runs = subst (λ (r : NodeRun). RunFor r one) (sym is) runs

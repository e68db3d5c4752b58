-- What each step of a running node on three images leaves of its run.
use Rattle.std.proofs.Common.{◌≡◌, ℕ, Bool, true, false, not, List, [], Option, None, Some, refl, sym, ap, ◌∙◌}
use Rattle.qn_base.specs.declared.calls.Call.{Call}
use Rattle.qn_base.specs.declared.calls.Call.TheVariants as call
use Rattle.qn_base.specs.Calls.{blank, is_failed}
use Rattle.qn_base.specs.Plans.{Plan, question, left}
use Rattle.qn_io.specs.Answered.{is_read}
use Rattle.qn_model.specs.declared.outputs.DiskOp.{DiskOp}
use Rattle.qn_model.specs.declared.outputs.Out.TheVariants as out
use Rattle.qn_model.specs.Settings.{IsValid}
use Rattle.qn_model.specs.World.{is_write}
use Rattle.qn_node.specs.Outputs.{IsNodeOutput}
use Rattle.qn_safety.specs.declared.part.Part.TheVariants.{Pending}
use Rattle.qn_live.specs.declared.asked.Asked.{Asked}
use Rattle.qn_live.specs.declared.asked.Asked.TheVariants as asked
use Rattle.qn_live.specs.declared.asked.Room.{Room}
use Rattle.qn_live.specs.declared.run.NodeRun.{NodeRun}
use Rattle.qn_live.specs.Asking.{question_of}
use Rattle.qn_live.specs.Halts.{is_on_disk}
use Rattle.qn_live.specs.Machine.{RunFor, operation_of}
use Rattle.qn_live.specs.Performing.{disk_call, own_number}
use Rattle.qn_live.specs.Running.{Ran}
use Rattle.qn_live.specs.declared.told.Reads.{Reads}
use Rattle.qn_live.specs.declared.told.Writes.{Writes}
use Rattle.qn_live.specs.declared.triple_run.TripleRun.{TripleRun}
use Rattle.qn_live.specs.TripleDisk.{part_of, reading, sector_on}
use Rattle.qn_live.specs.TripleMachine.{Stands, TripleRunFor, image_of_read, image_of_write, is_next_asked, on_image, read_on, written_on}
use Rattle.qn_live.specs.TripleOperations.{place_of, read_as}
use Rattle.qn_live.proofs.Operated.{place_is_read, read_call, read_made, write_call}
use Rattle.qn_live.proofs.Turning.{other_asked, read_further, read_left, read_next, read_passed, reading_on, write_further, write_left, write_next}

-- the law of the operation that comes next
pub record OperationLaw : Type 0 where
  pub asked : (run : NodeRun) (plan : Plan Ran) (runs : RunFor run plan) (op : DiskOp) → operation_of run ≡ Some op
      → question plan ≡ Some (disk_call run.settings run.me.0 (own_number runs.log) op)
  pub fits : (run : NodeRun) (plan : Plan Ran) (op : DiskOp) → RunFor run plan → operation_of run ≡ Some op → IsNodeOutput run.settings (out.Disk op)
  pub none : (run : NodeRun) (plan : Plan Ran) (asked : Call) → RunFor run plan → operation_of run ≡ None → question plan ≡ Some asked → is_on_disk asked ≡ false
  pub valid : (run : NodeRun) (plan : Plan Ran) → RunFor run plan → IsValid run.settings

-- ## The call on an image

module _ (told : Reads) (written : Writes) where
  abbrev here : Asked → Asked
  here asked = on_image told written asked

  pub on_image_read : (asked : Asked) (room : Room) (place : ℕ) → question_of asked room ≡ call.Read place [] true
      → question_of (here asked) room ≡ call.Read (sector_on (image_of_read told) place) [] true
  on_image_read asked.Receive room place is = cc
  on_image_read asked.Now room place is = cc
  on_image_read (asked.Read sector) room place is = (let same : sector ≡ place = cc in rw same refl)
  on_image_read (asked.Write sector) room place is = cc
  on_image_read asked.Feed room place is = cc
  on_image_read asked.Start room place is = cc
  on_image_read asked.Stop room place is = cc
  on_image_read (asked.Send to) room place is = cc
  on_image_read asked.Disarm room place is = cc
  on_image_read (asked.Halt code) room place is = cc

  pub on_image_write : (asked : Asked) (room : Room) (place : ℕ) (bytes : List ℕ) → question_of asked room ≡ call.Write place bytes true
      → question_of (here asked) room ≡ call.Write (sector_on (image_of_write written) place) bytes true
  on_image_write asked.Receive room place bytes is = cc
  on_image_write asked.Now room place bytes is = cc
  on_image_write (asked.Read sector) room place bytes is = cc
  on_image_write (asked.Write sector) room place bytes is = (let same : sector ≡ place = cc in let held : room.sector ≡ bytes = cc in rw (same, held) refl)
  on_image_write asked.Feed room place bytes is = cc
  on_image_write asked.Start room place bytes is = cc
  on_image_write asked.Stop room place bytes is = cc
  on_image_write (asked.Send to) room place bytes is = cc
  on_image_write asked.Disarm room place bytes is = cc
  on_image_write (asked.Halt code) room place bytes is = cc

  pub on_image_other : (asked : Asked) (room : Room) → is_on_disk (question_of asked room) ≡ false → question_of (here asked) room ≡ question_of asked room
  on_image_other asked.Receive room off = refl
  on_image_other asked.Now room off = refl
  on_image_other (asked.Read sector) room off = cc
  on_image_other (asked.Write sector) room off = cc
  on_image_other asked.Feed room off = refl
  on_image_other asked.Start room off = refl
  on_image_other asked.Stop room off = refl
  on_image_other (asked.Send to) room off = refl
  on_image_other asked.Disarm room off = refl
  on_image_other (asked.Halt code) room off = refl

module _ (law : OperationLaw) where
  -- ## What a run on one image asks for next

  pub reads_place : (run : NodeRun) (one : Plan Ran) (runs : RunFor run one) (op : DiskOp) → operation_of run ≡ Some op → is_write op ≡ false
      → question one ≡ Some (call.Read (place_of run.me.0 op) [] true)
  reads_place run one runs op found reads =
      law.asked run one runs op found ∙ ap Some (read_call run.settings run.me.0 (own_number runs.log) op reads)

  pub reads_as : (run : NodeRun) (one : Plan Ran) (runs : RunFor run one) (op : DiskOp) → operation_of run ≡ Some op → is_write op ≡ false
      → reading (place_of run.me.0 op) ≡ read_as op
  reads_as run one runs op found reads =
      place_is_read run.settings run.me.0 op (law.valid run one runs).few_nodes (law.fits run one op runs found) reads

  pub record WritesNext (run : NodeRun) (one : Plan Ran) (op : DiskOp) : Type 0 where
    pub bytes : List ℕ
    pub asked : question one ≡ Some (call.Write (place_of run.me.0 op) bytes true)

  pub writes_place : (run : NodeRun) (one : Plan Ran) (runs : RunFor run one) (op : DiskOp) → operation_of run ≡ Some op → is_write op ≡ true → WritesNext run one op
  writes_place run one runs op found writes =
      let w = write_call run.settings run.me.0 (own_number runs.log) op writes in
      record { bytes = w.bytes; asked = law.asked run one runs op found ∙ ap Some w.is }

  -- ## What a run on three images asks for next

  pub asks_on_image : (run : TripleRun) (plan : Plan Ran) (h : TripleRunFor run plan) (asked : Asked) (room : Room)
      → question h.stands.one ≡ Some (question_of asked room)
      → question plan ≡ Some (question_of (on_image run.reads run.writes asked) room)
  asks_on_image run plan h asked room is = of_operation (operation_of run.run) refl
    where
      one : Plan Ran
      one = h.stands.one

      of_write : (op : DiskOp) (write : Bool) → operation_of run.run ≡ Some op → is_write op ≡ write → question plan ≡ Some (question_of (on_image run.reads run.writes asked) room)
      of_write op true found writes =
          let w = writes_place run.run one h.stands.runs op found writes in
          let place = place_of run.run.me.0 op in
          let same : question_of asked room ≡ call.Write place w.bytes true = (let both : Some (question_of asked room) ≡ Some (call.Write place w.bytes true) = sym is ∙ w.asked in cc) in
          ap question (h.stands.is_left ∙ write_left run.run.settings run.run.me.0 run.good run.reads run.writes one place w.bytes w.asked)
          ∙ write_next run.run.settings run.run.me.0 run.good run.writes one place w.bytes
          ∙ ap Some (sym (on_image_write run.reads run.writes asked room place w.bytes same))
      of_write op false found reads =
          let place = place_of run.run.me.0 op in
          let asks = reads_place run.run one h.stands.runs op found reads in
          let same : question_of asked room ≡ call.Read place [] true = (let both : Some (question_of asked room) ≡ Some (call.Read place [] true) = sym is ∙ asks in cc) in
          ap question (h.stands.is_left ∙ read_left run.run.settings run.run.me.0 run.good run.reads run.writes one (read_as op) place asks (reads_as run.run one h.stands.runs op found reads))
          ∙ read_next run.run.settings run.run.me.0 run.good run.reads one (read_as op) place (h.settled op found reads)
          ∙ ap Some (sym (on_image_read run.reads run.writes asked room place same))

      of_operation : (op : Option DiskOp) → operation_of run.run ≡ op → question plan ≡ Some (question_of (on_image run.reads run.writes asked) room)
      of_operation None found =
          let off = law.none run.run one (question_of asked room) h.stands.runs found is in
          ap question h.stands.is_left
          ∙ other_asked run.run.settings run.run.me.0 run.good run.reads run.writes one (question_of asked room) is off
          ∙ ap Some (sym (on_image_other run.reads run.writes asked room off))
      of_operation (Some op) found = of_write op (is_write op) found refl

  -- ## What a call leaves

  pub record ReadMade (run : TripleRun) (plan one : Plan Ran) (op : DiskOp) (made : Call) : Type 0 where
    pub reads : is_read made ≡ true
    pub is_left : left plan made ≡ read_on run.run.settings run.run.me.0 run.good run.reads one (read_as op) (place_of run.run.me.0 op) (part_of run.run.settings (read_as op) made)

  pub read_call_made : (run : TripleRun) (plan : Plan Ran) (h : TripleRunFor run plan) (op : DiskOp) (made : Call) → operation_of run.run ≡ Some op → is_write op ≡ false
      → question plan ≡ Some (blank made) → ReadMade run plan h.stands.one op made
  read_call_made run plan h op made found reads asked =
      let one = h.stands.one in
      let place = place_of run.run.me.0 op in
      let is : plan ≡ reading_on run.run.settings run.run.me.0 run.good run.reads one (read_as op) place =
      h.stands.is_left
      ∙ read_left run.run.settings run.run.me.0 run.good run.reads run.writes one (read_as op) place
      (reads_place run.run one h.stands.runs op found reads) (reads_as run.run one h.stands.runs op found reads) in
      let next = ap question is ∙ read_next run.run.settings run.run.me.0 run.good run.reads one (read_as op) place (h.settled op found reads) in
      let sector = sector_on (image_of_read run.reads) place in
      let same : blank made ≡ call.Read sector [] true = (let both : Some (blank made) ≡ Some (call.Read sector [] true) = sym asked ∙ next in cc) in
      record {
        reads = read_made made sector same;
        is_left =
            ap (λ p. left p made) is
            ∙ read_further run.run.settings run.run.me.0 run.good run.reads one (read_as op) place made (h.settled op found reads);
      }

  pub write_call_made : (run : TripleRun) (plan : Plan Ran) (h : TripleRunFor run plan) (op : DiskOp) (made : Call) (found : operation_of run.run ≡ Some op) (writes : is_write op ≡ true)
      → left plan made
      ≡ written_on run.run.settings run.run.me.0 run.good run.writes h.stands.one (place_of run.run.me.0 op)
      (writes_place run.run h.stands.one h.stands.runs op found writes).bytes (not (is_failed made))
  write_call_made run plan h op made found writes =
      let one = h.stands.one in
      let w = writes_place run.run one h.stands.runs op found writes in
      let place = place_of run.run.me.0 op in
      ap (λ p. left p made) (h.stands.is_left ∙ write_left run.run.settings run.run.me.0 run.good run.reads run.writes one place w.bytes w.asked)
      ∙ write_further run.run.settings run.run.me.0 run.good run.writes one place w.bytes made

  pub passed_over : (run : TripleRun) (plan : Plan Ran) (h : Stands run plan) (op : DiskOp) → operation_of run.run ≡ Some op → is_write op ≡ false
      → is_next_asked op run.good run.reads ≡ false
      → plan ≡ read_on run.run.settings run.run.me.0 run.good run.reads h.one (read_as op) (place_of run.run.me.0 op) Pending
  passed_over run plan h op found reads passed =
      let place = place_of run.run.me.0 op in
      h.is_left
      ∙ read_left run.run.settings run.run.me.0 run.good run.reads run.writes h.one (read_as op) place
      (reads_place run.run h.one h.runs op found reads) (reads_as run.run h.one h.runs op found reads)
      ∙ read_passed run.run.settings run.run.me.0 run.good run.reads h.one (read_as op) place passed

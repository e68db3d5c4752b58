-- `message`: a message to the node of an id, sbd(8); this project's profile for its words.
use Rattle.std.specs.Prelude.{ℕ, List, [], ◌∷◌, Result, Ok, Err}
use Rattle.qn_base.specs.declared.ids.NodeId.{NodeId}
use Rattle.qn_image.specs.declared.fault.ImageFault.{ImageFault}
use Rattle.qn_image.specs.declared.fault.ImageFault.TheVariants as image
use Rattle.qn_image.specs.Plans.{message_plan}
use Rattle.qn_model.specs.declared.disk.Message.{Message}
use Rattle.qn_commands.specs.declared.fault.Fault.{Fault}
use Rattle.qn_commands.specs.declared.fault.Fault.TheVariants.{DeadlyThere, UnknownNode}
use Rattle.qn_commands.specs.declared.status.Status.TheVariants as status
use Rattle.qn_commands.specs.Faults.{disk_fault}
use Rattle.qn_commands.specs.Images.{opened_plan}
use Rattle.qn_commands.specs.ImageTexts.{sent_text}
use Rattle.qn_commands.specs.Seen.{CallFails, Seen, WriteFails}
use Rattle.qn_commands.specs.Statuses.{HasCauses, IsOneOf}
use Rattle.qn_commands.specs.Works.{Last, Work, Works, after_plan, refusal}

-- what a message met
abbrev pub message_fault : NodeId → ImageFault → Fault
message_fault id image.Disk = disk_fault image.Disk
message_fault id image.NotImage = disk_fault image.NotImage
message_fault id image.UnsafeTiming = disk_fault image.UnsafeTiming
message_fault id (image.DeadlyThere held) = DeadlyThere held
message_fault id (image.DamagedSector sector) = disk_fault (image.DamagedSector sector)
message_fault id image.UnknownNode = UnknownNode id

abbrev pub message_end : NodeId → Message → Result (Unit {0}) ImageFault → Work
message_end id kind (Ok done) = Last (sent_text kind id) 0
message_end id kind (Err fault) = refusal (message_fault id fault)

unfoldable pub message_work : List ℕ → NodeId → Message → Work
message_work path id kind =
    after_plan (opened_plan path (message_plan id kind)) (message_end id kind)

-- Exactly the calls, the text and the status of this work. Where nothing failed the command did its whole work, or it ended
-- at a sector that is no spelling, at a deadly message, or without a node of that id. No memory is taken.
pub record Sends (image : List ℕ) (id : NodeId) (kind : Message) (before after : Seen) (code : ℕ)
    : Type 0 where
  pub works : Works (message_work image id kind) before after code
  pub complete : ¬ WriteFails before.output after.output → ¬ CallFails before.env after.env
      → IsOneOf (status.Done ∷ status.BadImage ∷ status.DeadlyThere ∷ status.UnknownNode ∷ []) code
  pub statuses : IsOneOf (status.Done ∷ status.BadImage ∷ status.DeadlyThere ∷ status.UnknownNode
      ∷ status.WriteFault ∷ status.EnvFault ∷ []) code
  pub causes : HasCauses before after code

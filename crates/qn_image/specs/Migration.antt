-- How an image of version 1 becomes one of version 2, and is one of the two at every moment: this project's profile.
use Rattle.std.specs.Prelude.{◌≡◌, ℕ, zero, suc, ◌+◌, ◌==◌, List, [], ◌∷◌, ◌++◌, length, slice_get, Some, Result, Ok, if◌then◌else◌}
use Rattle.qn_base.specs.Plans.{Plan, Ends, ◌>>=◌}
use Rattle.qn_model.specs.declared.disk.Message.{Message}
use Rattle.qn_model.specs.declared.times.Timing.{Timing}
use Rattle.qn_model.specs.Sectors.{anonymous}
use Rattle.qn_image.specs.declared.fault.ImageFault.{ImageFault}
use Rattle.qn_image.specs.Plans.{header_plan, mail_plan, or_fault}
use Rattle.qn_image.specs.Versions.{any_header_of, mailbox_of, mailbox_place}
use Rattle.qn_image.specs.Writes.{SectorWrite, header_write, mail_write, writes_plan}

-- so many mailboxes of version 1 are read, after those that gave these messages
unfoldable pub mailboxes_plan : List Message → ℕ → Plan (Result (List Message) ImageFault)
mailboxes_plan found zero = Ends (Ok found)
mailboxes_plan found (suc left) =
    mail_plan 1 (length found) >>= or_fault (λ mail. mailboxes_plan (found ++ mail.message ∷ []) left)

-- the mailboxes of version 2, from this rank on
unfoldable pub mail_writes : ℕ → List Message → List SectorWrite
mail_writes rank [] = []
mail_writes rank (message ∷ messages) = mail_write rank message ∷ mail_writes (rank + 1) messages

-- each message is written beside the old mailboxes, and the header comes last
unfoldable pub migrate_writes : ℕ → Timing → List Message → List SectorWrite
migrate_writes nodes timing messages = mail_writes 0 messages ++ header_write nodes timing ∷ []

-- every mailbox of version 1 is read, and then the writes are made
abbrev pub convert_plan : ℕ → Timing → Plan (Result (Unit {0}) ImageFault)
convert_plan nodes timing =
    mailboxes_plan [] nodes >>= or_fault (λ messages. writes_plan (migrate_writes nodes timing messages))

-- an image of version 2 stays as it is
unfoldable pub migrate_plan : Plan (Result ℕ ImageFault)
migrate_plan =
    header_plan
    >>= or_fault (λ header.
    if header.0 == 2 then Ends (Ok header.1)
    else convert_plan header.1 header.2 >>= or_fault (λ done. Ends (Ok header.1)))

-- the sectors are an image of that version, with so many nodes, these times, and these messages of nobody
pub record IsImage (version nodes : ℕ) (timing : Timing) (messages : List Message) (image : ℕ → List ℕ) : Type 0 where
  pub header : any_header_of (image 0) ≡ Some (version, nodes, timing)
  pub counted : length messages ≡ nodes
  pub mailboxes : (rank : ℕ) (message : Message) → slice_get messages rank ≡ Some message
      → mailbox_of version (image (mailbox_place version rank)) ≡ Some (anonymous message)

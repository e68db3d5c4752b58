-- How a command of an image ends, and why.
use Rattle.std.proofs.Common.{◌≡◌, ◌≢◌, ◌≤◌, ◌⊎◌, inl, inr, ℕ, [], ◌∷◌, refl, ap, ◌∙◌, arith}
use Rattle.qn_image.specs.Causes.{IsHeaderFault, IsMessageFault, IsMigrateFault}
use Rattle.qn_image.specs.declared.fault.ImageFault.{ImageFault}
use Rattle.qn_image.specs.declared.fault.ImageFault.TheVariants.{Disk, NotImage, UnsafeTiming, DeadlyThere, DamagedSector, UnknownNode}
use Rattle.qn_base.specs.declared.ids.NodeId.{NodeId}
use Rattle.qn_commands.specs.declared.fault.Fault.{Fault}
use Rattle.qn_commands.specs.declared.status.Status.TheVariants as status
use Rattle.qn_commands.specs.Commands.Message.{message_fault}
use Rattle.qn_commands.specs.Faults.{disk_fault, status_of}
use Rattle.qn_commands.specs.Seen.{CallFails, Input, Output, Outside, Seen, WriteFails, seen}
use Rattle.qn_commands.specs.Statuses.{HasCauses, IsOneOf}

-- a command that reads an image
abbrev ReadsImage : ℕ → Type 0
ReadsImage code = IsOneOf (status.Done ∷ status.BadImage ∷ status.WriteFault ∷ status.EnvFault ∷ []) code

-- a message
abbrev WritesMessage : ℕ → Type 0
WritesMessage code =
    IsOneOf (status.Done ∷ status.BadImage ∷ status.DeadlyThere ∷ status.UnknownNode ∷ status.WriteFault ∷ status.EnvFault ∷ []) code

-- no read, and the causes of a failed write and of a failed call
causes : (input : Input) (before after : Output) (env_before env_after : Outside) (code : ℕ) → code ≢ 6
    → before.faults ≤ after.faults → env_before.faults ≤ env_after.faults
    → (code ≡ 7 → WriteFails before after) → (code ≡ 8 → CallFails env_before env_after)
    → HasCauses (seen input before env_before) (seen input after env_after) code
causes input before after env_before env_after code no_read rises env_rises write call = record {
  never_fall = record { source = omega arith; sink = rises; env = env_rises };
  read_fault = λ six. absurd (no_read six);
  write_fault = write;
  env_fault = call;
}

-- how a command that reads an image ended
pub record ImageEnds (before after : Seen) (code : ℕ) : Type 0 where
  pub complete : ¬ WriteFails before.output after.output → ¬ CallFails before.env after.env → IsOneOf (status.Done ∷ status.BadImage ∷ []) code
  pub statuses : ReadsImage code
  pub causes : HasCauses before after code

no_read : (code : ℕ) → ReadsImage code → code ≢ 6
no_read code (inl zero) six = omega arith
no_read code (inr (inl nine)) six = omega arith
no_read code (inr (inr (inl seven))) six = omega arith
no_read code (inr (inr (inr eight))) six = omega arith

complete : {write call : Type 0} (code : ℕ) → ReadsImage code → (code ≡ 7 → write) → (code ≡ 8 → call) → ¬ write → ¬ call
    → IsOneOf (status.Done ∷ status.BadImage ∷ []) code
complete code (inl zero) write call no_write no_call = inl zero
complete code (inr (inl nine)) write call no_write no_call = inr nine
complete code (inr (inr (inl seven))) write call no_write no_call = absurd (no_write (write seven))
complete code (inr (inr (inr eight))) write call no_write no_call = absurd (no_call (call eight))

module _ (input : Input) (before after : Output) (env_before env_after : Outside) (code : ℕ)
    (rises : before.faults ≤ after.faults) (env_rises : env_before.faults ≤ env_after.faults) (write : code ≡ 7 → WriteFails before after) where
  pub image_ends : ReadsImage code → (code ≡ 8 → CallFails env_before env_after) → ImageEnds (seen input before env_before) (seen input after env_after) code
  image_ends one_of call = record {
    complete = complete code one_of write call;
    statuses = one_of;
    causes = causes input before after env_before env_after code (no_read code one_of) rises env_rises write call;
  }

  -- the whole work was done
  pub image_said : (code ≡ 0) ⊎ (code ≡ 7) → ImageEnds (seen input before env_before) (seen input after env_after) code
  image_said (inl zero) = image_ends (inl zero) (λ eight. absurd (omega arith))
  image_said (inr seven) = image_ends (inr (inr (inl seven))) (λ eight. absurd (omega arith))

  -- the header could not be read
  pub image_refused : (fault : ImageFault) (refused : Fault) → refused ≡ disk_fault fault → IsHeaderFault fault → (fault ≡ Disk → CallFails env_before env_after)
      → (code ≡ status_of refused) ⊎ (code ≡ 7) → ImageEnds (seen input before env_before) (seen input after env_after) code
  image_refused fault refused is (inl disk) cause (inl same) =
      let eight : code ≡ 8 = same ∙ ap status_of is ∙ ap (λ f. status_of (disk_fault f)) disk in
      image_ends (inr (inr (inr eight))) (λ again. cause disk)
  image_refused fault refused is (inr not_image) cause (inl same) =
      let nine : code ≡ 9 = same ∙ ap status_of is ∙ ap (λ f. status_of (disk_fault f)) not_image in
      image_ends (inr (inl nine)) (λ eight. absurd (omega arith))
  image_refused fault refused is header cause (inr seven) = image_ends (inr (inr (inl seven))) (λ eight. absurd (omega arith))

  -- the migration could not be made
  of_migrate_fault : (fault : ImageFault) (refused : Fault) → refused ≡ disk_fault fault → IsMigrateFault fault → (fault ≡ Disk → CallFails env_before env_after)
      → code ≡ status_of refused → ImageEnds (seen input before env_before) (seen input after env_after) code
  of_migrate_fault fault refused is (inl disk) cause same = image_refused fault refused is (inl disk) cause (inl same)
  of_migrate_fault fault refused is (inr (inl not_image)) cause same = image_refused fault refused is (inr not_image) cause (inl same)
  of_migrate_fault fault refused is (inr (inr damaged)) cause same =
      let nine : code ≡ 9 = same ∙ ap status_of is ∙ ap (λ f. status_of (disk_fault f)) damaged.1 in
      image_ends (inr (inl nine)) (λ eight. absurd (omega arith))

  pub migrate_refused : (fault : ImageFault) (refused : Fault) → refused ≡ disk_fault fault → IsMigrateFault fault → (fault ≡ Disk → CallFails env_before env_after)
      → (code ≡ status_of refused) ⊎ (code ≡ 7) → ImageEnds (seen input before env_before) (seen input after env_after) code
  migrate_refused fault refused is migrate cause (inl same) = of_migrate_fault fault refused is migrate cause same
  migrate_refused fault refused is migrate cause (inr seven) = image_ends (inr (inr (inl seven))) (λ eight. absurd (omega arith))

-- how a message ended
pub record MessageEnds (before after : Seen) (code : ℕ) : Type 0 where
  pub complete : ¬ WriteFails before.output after.output → ¬ CallFails before.env after.env
      → IsOneOf (status.Done ∷ status.BadImage ∷ status.DeadlyThere ∷ status.UnknownNode ∷ []) code
  pub statuses : WritesMessage code
  pub causes : HasCauses before after code

no_read_of_message : (code : ℕ) → WritesMessage code → code ≢ 6
no_read_of_message code (inl zero) six = omega arith
no_read_of_message code (inr (inl nine)) six = omega arith
no_read_of_message code (inr (inr (inl deadly))) six = omega arith
no_read_of_message code (inr (inr (inr (inl unknown)))) six = omega arith
no_read_of_message code (inr (inr (inr (inr (inl seven))))) six = omega arith
no_read_of_message code (inr (inr (inr (inr (inr eight))))) six = omega arith

complete_message : {write call : Type 0} (code : ℕ) → WritesMessage code → (code ≡ 7 → write) → (code ≡ 8 → call) → ¬ write → ¬ call
    → IsOneOf (status.Done ∷ status.BadImage ∷ status.DeadlyThere ∷ status.UnknownNode ∷ []) code
complete_message code (inl zero) write call no_write no_call = inl zero
complete_message code (inr (inl nine)) write call no_write no_call = inr (inl nine)
complete_message code (inr (inr (inl deadly))) write call no_write no_call = inr (inr (inl deadly))
complete_message code (inr (inr (inr (inl unknown)))) write call no_write no_call = inr (inr (inr unknown))
complete_message code (inr (inr (inr (inr (inl seven))))) write call no_write no_call = absurd (no_write (write seven))
complete_message code (inr (inr (inr (inr (inr eight))))) write call no_write no_call = absurd (no_call (call eight))

module _ (input : Input) (before after : Output) (env_before env_after : Outside) (code : ℕ)
    (rises : before.faults ≤ after.faults) (env_rises : env_before.faults ≤ env_after.faults) (write : code ≡ 7 → WriteFails before after) where
  message_ends : WritesMessage code → (code ≡ 8 → CallFails env_before env_after) → MessageEnds (seen input before env_before) (seen input after env_after) code
  message_ends one_of call = record {
    complete = complete_message code one_of write call;
    statuses = one_of;
    causes = causes input before after env_before env_after code (no_read_of_message code one_of) rises env_rises write call;
  }

  pub message_said : (code ≡ 0) ⊎ (code ≡ 7) → MessageEnds (seen input before env_before) (seen input after env_after) code
  message_said (inl zero) = message_ends (inl zero) (λ eight. absurd (omega arith))
  message_said (inr seven) = message_ends (inr (inr (inr (inr (inl seven))))) (λ eight. absurd (omega arith))

  of_fault : (id : NodeId) (fault : ImageFault) → IsMessageFault fault → (fault ≡ Disk → CallFails env_before env_after)
      → code ≡ status_of (message_fault id fault) → MessageEnds (seen input before env_before) (seen input after env_after) code
  of_fault id Disk other cause is = message_ends (inr (inr (inr (inr (inr is))))) (λ eight. cause refl)
  of_fault id NotImage other cause is = message_ends (inr (inl is)) (λ eight. absurd (omega arith))
  of_fault id UnsafeTiming other cause is = absurd (other refl)
  of_fault id (DeadlyThere held) other cause is = message_ends (inr (inr (inl is))) (λ eight. absurd (omega arith))
  of_fault id (DamagedSector sector) other cause is = message_ends (inr (inl is)) (λ eight. absurd (omega arith))
  of_fault id UnknownNode other cause is = message_ends (inr (inr (inr (inl is)))) (λ eight. absurd (omega arith))

  pub message_refused : (id : NodeId) (fault : ImageFault) (refused : Fault) → refused ≡ message_fault id fault → IsMessageFault fault
      → (fault ≡ Disk → CallFails env_before env_after)
      → (code ≡ status_of refused) ⊎ (code ≡ 7) → MessageEnds (seen input before env_before) (seen input after env_after) code
  message_refused id fault refused is other cause (inl same) = of_fault id fault other cause (same ∙ ap status_of is)
  message_refused id fault refused is other cause (inr seven) = message_ends (inr (inr (inr (inr (inl seven))))) (λ eight. absurd (omega arith))

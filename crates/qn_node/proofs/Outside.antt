-- The operations of a node that takes part are about nodes that are outside its view.
use Rattle.std.proofs.Common.{ℕ, Bool, true, false, List, Some, None, ◌&&◌, not}
use Rattle.std.specs.Prelude.{Option, is_some, option_and_then, if◌then◌else◌}
use Rattle.std.specs.Option.{option_map, option_or}
use Rattle.qn_model.specs.declared.configuration.Settings.{Settings}
use Rattle.qn_model.specs.declared.outputs.DiskOp.{DiskOp}
use Rattle.qn_model.specs.declared.outputs.DiskOp.TheVariants as disk
use Rattle.qn_model.specs.Log.{Line, incarnation, op_out}
use Rattle.qn_model.specs.Phases.{is_leaving, phase}
use Rattle.qn_model.specs.Holding.{holds}
use Rattle.qn_model.specs.Wanted.{close_op, fencing_op, fencing_op_with_delay, is_delay_over, is_mail_due, may_fence, rank_of, to_read, to_reset, wanted_with_delay}
use Rattle.qn_fence.specs.Fence.{IsOutside}

module _ (s : Settings) (log : List Line) where
  if_outside : (b : Bool) (first second : Option DiskOp) → IsOutside log first → IsOutside log second → IsOutside log (if b then first else second)
  if_outside true first second p q = p
  if_outside false first second p q = q

  close_outside : (number : Option ℕ) → IsOutside log (option_map (λ n. disk.WriteClose n) number)
  close_outside None = λ rank about. absurd (cc)
  close_outside (Some n) = λ rank about. absurd (cc)

  -- an operation of the fencing that waits is none
  fencing_if : (read reset : Option ℕ) (is_over : ℕ → Bool)
      → IsOutside log (option_or (option_map (λ rank. disk.ReadSlot (rank_of rank)) read) (option_map (λ rank. disk.WriteReset (rank_of rank)) reset))
      → IsOutside log (option_or (option_map (λ rank. disk.ReadSlot (rank_of rank)) read)
      (option_map (λ rank. disk.WriteReset (rank_of rank)) (option_and_then (λ rank. if is_over rank then Some rank else None) reset)))
  fencing_if (Some rank) reset is_over outside = outside
  fencing_if None None is_over outside = outside
  fencing_if None (Some rank) is_over outside = reset_if (is_over rank)
    where
      reset_if : (b : Bool) → IsOutside log (option_map (λ rank. disk.WriteReset (rank_of rank)) (if b then Some rank else None))
      reset_if true = outside
      reset_if false = λ other about. absurd (cc)

  pub wanted_outside : (me : ℕ) → IsOutside log (fencing_op s log) → IsOutside log (wanted_with_delay s me log)
  unfolding wanted_with_delay
  wanted_outside me fencing_outside =
      if_outside (is_some (op_out log)) None _ (λ rank about. absurd (cc))
      (if_outside (is_mail_due log) (Some disk.ReadMail) _ (λ rank about. absurd (cc))
      (if_outside (is_leaving (phase s log) && not (holds log)) (close_op log) _ (close_outside (incarnation log))
      (if_outside (may_fence s me log) (fencing_op_with_delay s log) None (fencing_if (to_read s log) (to_reset s log) (is_delay_over s log) fencing_outside) (λ rank about. absurd (cc)))))

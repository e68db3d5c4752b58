-- The operations of the fencing are about nodes that are outside the view.
use Rattle.std.proofs.Common.{◌≡◌, ℕ, false, List, Some, None, refl, not, subst}
use Rattle.std.specs.Prelude.{Option}
use Rattle.std.specs.Option.{option_or, option_map}
use Rattle.std.proofs.lemmas.Bool.Decides.{Decides-eqb}
use Rattle.qn_base.specs.lemmas.Bools.{first_fails, first_of_three_fails}
use Rattle.qn_model.specs.declared.configuration.Settings.{Settings}
use Rattle.qn_model.specs.declared.outputs.DiskOp.TheVariants as disk
use Rattle.qn_model.specs.lemmas.LeastRanks.{least_passes}
use Rattle.qn_model.specs.Log.{Line}
use Rattle.qn_model.specs.NodeVotes.{is_in_view}
use Rattle.qn_model.specs.Licences.{is_clean, is_slot_seen, is_written}
use Rattle.qn_model.specs.Wanted.{fencing_op, rank_of, to_read, to_reset}
use Rattle.qn_fence.specs.Fence.{IsOutside}

module _ (s : Settings) (log : List Line) where
  named : (read reset : Option ℕ) → ((rank : ℕ) → read ≡ Some rank → is_in_view log rank ≡ false) → ((rank : ℕ) → reset ≡ Some rank → is_in_view log rank ≡ false)
      → IsOutside log (option_or (option_map (λ rank. disk.ReadSlot (rank_of rank)) read) (option_map (λ rank. disk.WriteReset (rank_of rank)) reset))
  named (Some found) reset p q = λ rank about. subst (λ r. is_in_view log r ≡ false) ((Decides-eqb found rank).0 about) (p found refl)
  named None (Some found) p q = λ rank about. subst (λ r. is_in_view log r ≡ false) ((Decides-eqb found rank).0 about) (q found refl)
  named None None p q = λ rank about. absurd (cc)

  pub fencing_outside : IsOutside log (fencing_op s log)
  fencing_outside =
      named (to_read s log) (to_reset s log)
      (λ rank e. first_fails (is_in_view log rank) (not (is_slot_seen log rank)) (least_passes _ 0 _ rank e))
      (λ rank e. first_of_three_fails (is_in_view log rank) (not (is_clean log rank)) (not (is_written log rank)) (least_passes _ 0 _ rank e))

-- The operation that a chosen, quorate node asks for next.
use Rattle.qn_model.specs.Licences.{is_clean, is_written}
use Rattle.std.proofs.Common.{◌≡◌, ℕ, ◌+◌, ◌≤◌, ◌<◌, Bool, true, false, List, length, Some, None, Option, refl, sym, ap, ◌∙◌, subst, arith, ◌&&◌, not, if◌then◌else◌, is_some, option_and_then}
use Rattle.std.specs.Option.{option_or, option_map}
use Rattle.std.proofs.lemmas.Bool.{false≢true, true≢false, le-leb}
use Rattle.qn_model.specs.declared.configuration.Settings.{Settings}
use Rattle.qn_model.specs.declared.outputs.DiskOp.{DiskOp}
use Rattle.qn_model.specs.declared.outputs.DiskOp.TheVariants as disk
use Rattle.qn_model.specs.declared.life.Phase.{Phase}
use Rattle.qn_model.specs.declared.life.Phase.TheVariants.{Up}
use Rattle.qn_model.specs.Log.{Line, op_out, now}
use Rattle.qn_model.specs.NodeVotes.{is_in_view, quorate_with_tie, votes}
use Rattle.qn_model.specs.Votes.{view_tick}
use Rattle.qn_model.specs.Holding.{holds}
use Rattle.qn_model.specs.Phases.{phase, is_up, is_leaving}
use Rattle.qn_model.specs.Unmet.{is_chosen}
use Rattle.qn_model.specs.Wanted.{rank_of, is_mail_due, to_read, to_reset, to_reset_now, is_delay_over, fence_delay, fencing_op_with_delay, close_op, may_fence, wanted_with_delay}
use Rattle.std.proofs.lemmas.Option.{none-some}
use Rattle.qn_model.specs.lemmas.LeastRanks.{least_none, least_passes, least_bound}
use Rattle.qn_progress.proofs.Totals.{zero_total}
use Rattle.qn_progress.proofs.Entries.{read_due, reset_due, one, owed, pending}

-- an operation of the fencing that is still owed
pub data Fences (s : Settings) (log : List Line) : Option DiskOp → Type 0 where
  ReadsSlot : (j : ℕ) → j < length s.nodes → read_due log j ≡ true → Fences s log (Some (disk.ReadSlot (rank_of j)))
  Resets : (j : ℕ) → j < length s.nodes → reset_due log j ≡ true → Fences s log (Some (disk.WriteReset (rank_of j)))
  Nothing : pending s log ≡ 0 → Fences s log None

one_zero : (a b : Bool) → a ≡ false → b ≡ false → one a + one b ≡ 0
one_zero true b ea eb = absurd (true≢false ea)
one_zero false true ea eb = absurd (true≢false eb)
one_zero false false ea eb = refl

is_outside : (inside clean written : Bool) → (not inside && not clean && not written) ≡ true → inside ≡ false
is_outside false clean written e = refl
is_outside true clean written e = absurd (false≢true e)

pub fences : (s : Settings) (log : List Line) → ((j : ℕ) → j < length s.nodes → is_in_view log j ≡ false → view_tick (votes log) + fence_delay s j ≤ now log)
    → Fences s log (fencing_op_with_delay s log)
fences s log over = by_read (to_read s log) refl
  where
    resets : (r : Option ℕ) → to_read s log ≡ None → to_reset s log ≡ r
        → Fences s log (option_map (λ rank. disk.WriteReset (rank_of rank)) (option_and_then (λ rank. if is_delay_over s log rank then Some rank else None) r))
    resets (Some j) read e =
        let below : j < 0 + length s.nodes = least_bound (length s.nodes) 0 _ j e in
        subst (λ b. Fences s log (option_map (λ rank. disk.WriteReset (rank_of rank)) (if b then Some j else None))) (sym (le-leb _ _ (over j (omega arith) (is_outside (is_in_view log j) (is_clean log j) (is_written log j) (least_passes (length s.nodes) 0 _ j e)))))
        (Resets j (omega arith) (least_passes (length s.nodes) 0 _ j e))
    resets None read e = Nothing (zero_total (length s.nodes) (owed log) (λ j below.
        one_zero (read_due log j) (reset_due log j)
        (least_none (length s.nodes) 0 _ read j (omega arith) (omega arith))
        (least_none (length s.nodes) 0 _ e j (omega arith) (omega arith))))

    by_read : (r : Option ℕ) → to_read s log ≡ r
        → Fences s log (option_or (option_map (λ rank. disk.ReadSlot (rank_of rank)) r) (option_map (λ rank. disk.WriteReset (rank_of rank)) (to_reset_now s log)))
    by_read (Some j) e =
        let below : j < 0 + length s.nodes = least_bound (length s.nodes) 0 _ j e in
        ReadsSlot j (omega arith) (least_passes (length s.nodes) 0 _ j e)
    by_read None e = resets (to_reset s log) e refl

given : (out : Option DiskOp) (due leaving fence : Bool) (close fencing : Option DiskOp) → out ≡ None → leaving ≡ false → fence ≡ true
    → (if is_some out then None else (if due then Some disk.ReadMail else (if leaving then close else (if fence then fencing else None))))
    ≡ (if due then Some disk.ReadMail else fencing)
given (Some op) due leaving fence close fencing eo el ef = absurd (none-some op (sym eo))
given None true leaving fence close fencing eo el ef = refl
given None false true fence close fencing eo el ef = absurd (true≢false el)
given None false false true close fencing eo el ef = refl
given None false false false close fencing eo el ef = absurd (false≢true ef)

not_leaving : (p : Phase) (b : Bool) → p ≡ Up → (is_leaving p && b) ≡ false
not_leaving p b e = ap (λ q. is_leaving q && b) e

fence_on : (p : Phase) (q c : Bool) → p ≡ Up → q ≡ true → c ≡ true → (is_up p && q && c) ≡ true
fence_on p q c ep eq ec = ap (λ x. is_up x && q && c) ep ∙ ap (λ x. x && c) eq ∙ ec

-- where no operation is out the mailbox comes first, and else the fencing
pub wants : (s : Settings) (me : ℕ) (log : List Line) → op_out log ≡ None → phase s log ≡ Up → quorate_with_tie s log (now log) ≡ true → is_chosen s me log ≡ true
    → wanted_with_delay s me log ≡ (if is_mail_due log then Some disk.ReadMail else fencing_op_with_delay s log)
unfolding wanted_with_delay
wants s me log out up quorate chosen =
    given (op_out log) (is_mail_due log) (is_leaving (phase s log) && not (holds log)) (may_fence s me log) (close_op log) (fencing_op_with_delay s log) out
    (not_leaving (phase s log) (not (holds log)) up) (fence_on (phase s log) (quorate_with_tie s log (now log)) (is_chosen s me log) up quorate chosen)

-- where one is out none is asked for
pub wants_none : (s : Settings) (me : ℕ) (log : List Line) (op : DiskOp) → op_out log ≡ Some op → wanted_with_delay s me log ≡ None
unfolding wanted_with_delay
wants_none s me log op out = ap (λ o. if is_some o then None else (if is_mail_due log then Some disk.ReadMail
    else (if is_leaving (phase s log) && not (holds log) then close_op log
    else (if may_fence s me log then fencing_op_with_delay s log else None)))) out

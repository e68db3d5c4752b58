-- A node that has not read its header boots, or its boot was halted.
use Rattle.std.proofs.Common.{◌≡◌, ◌⊎◌, inl, inr, ℕ, Bool, true, false, ◌&&◌, List, [], Option, None, Some, if◌then◌else◌, refl, sym, ◌∙◌, ap, subst}
use Rattle.std.specs.Option.{option_or}
use Rattle.std.proofs.lemmas.Bool.{false≢true}
use Rattle.std.proofs.lemmas.Option.{none-some}
use Rattle.qn_model.specs.declared.configuration.Settings.{Settings}
use Rattle.qn_model.specs.declared.entries.What.{What}
use Rattle.qn_model.specs.declared.entries.What.TheVariants as what
use Rattle.qn_model.specs.declared.life.Phase.{Phase}
use Rattle.qn_model.specs.declared.life.Phase.TheVariants.{Booting, Gone}
use Rattle.qn_model.specs.declared.outputs.DiskOp.{DiskOp}
use Rattle.qn_model.specs.declared.outputs.DiskOp.TheVariants as disk
use Rattle.qn_model.specs.declared.seen.HeaderSeen.TheVariants as header
use Rattle.qn_model.specs.Fitting.{answers_op, fits}
use Rattle.qn_model.specs.Log.{Line, begins_clean, disk_of, is_answer, op_out, slot_number, times_of}
use Rattle.qn_model.specs.NodeOutputs.{boot_outs, boot_step_outs, is_boot_step, live_outs, mail_feeds, outs_at, taken_in, with_entry, with_read}
use Rattle.qn_model.specs.Phases.{boot_halt, deadly_of, in_time, is_booting, is_live, is_up, message_of, next_phase, phase}

-- before the header was read no other operation comes out
abbrev pub IsUnread : Option DiskOp → Type 0
IsUnread out = (out ≡ None) ⊎ (out ≡ Some disk.ReadHeader)

-- the header was not read, or the boot was halted
abbrev pub IsEarly : Settings → List Line → Type 0
IsEarly s log = (phase s log ≡ Gone) ⊎ ((phase s log ≡ Booting) × IsUnread (op_out log))

pub nothing_early : (s : Settings) → IsEarly s []
unfolding phase op_out
nothing_early s = inr (refl, inl refl)

pub early_rests : (s : Settings) (log : List Line) → IsEarly s log → is_live (phase s log) ≡ false
early_rests s log (inl gone) = ap is_live gone
early_rests s log (inr boots) = ap is_live boots.0

-- an answer of another operation does not fit
unread_fits_none : (out : Option DiskOp) (entry : What) → answers_op None entry ≡ false → answers_op (Some disk.ReadHeader) entry ≡ false
    → IsUnread out → answers_op out entry ≡ true → ⊥
unread_fits_none out entry none header (inl is) fit = false≢true (sym none ∙ ap (λ o. answers_op o entry) (sym is) ∙ fit)
unread_fits_none out entry none header (inr is) fit = false≢true (sym header ∙ ap (λ o. answers_op o entry) (sym is) ∙ fit)

live_first : (p : Phase) (rest : Bool) → p ≡ Booting → (is_live p && rest) ≡ true → ⊥
live_first p rest boots fit = false≢true (ap (λ q. is_live q && rest) (sym boots) ∙ fit)

module _ (s : Settings) (me : ℕ) (past : List Line) (tick : ℕ) (boots : phase s past ≡ Booting) (unread : IsUnread (op_out past)) where
  -- what comes out while the node boots
  boot_gives : (entry : What) → outs_at s me past tick entry (taken_in past tick entry)
      ≡ boot_outs s me (begins_clean (taken_in past tick entry)) (slot_number (taken_in past tick entry)) entry
  unfolding outs_at
  boot_gives entry =
      ap (λ p. if is_booting p then boot_outs s me (begins_clean (taken_in past tick entry)) (slot_number (taken_in past tick entry)) entry
      else (if is_live p then live_outs s me (taken_in past tick entry) entry (mail_feeds tick past entry) (deadly_of (message_of entry)) else [])) boots

  -- an entry that is no step of the boot changes nothing
  calm_early : (entry : What) → is_boot_step entry ≡ false → is_answer entry ≡ false → ((timely : Bool) → next_phase s entry timely Booting ≡ Booting)
      → IsEarly s (with_read s me past tick entry)
  unfolding phase op_out
  calm_early entry calm plain stays =
      inr (
        ap (λ p. next_phase s entry (in_time tick past) p) boots ∙ stays (in_time tick past),
        subst IsUnread (sym same) unread,
      )
    where
      quiet : outs_at s me past tick entry (taken_in past tick entry) ≡ []
      quiet = boot_gives entry ∙ by_step (is_boot_step entry) calm
        where
          by_step : (b : Bool) → b ≡ false
              → (if b then boot_step_outs me (begins_clean (taken_in past tick entry)) (slot_number (taken_in past tick entry)) entry (boot_halt s entry) else []) ≡ []
          by_step false e = refl
          by_step true e = absurd (false≢true (sym e))

      same : op_out (with_read s me past tick entry) ≡ op_out past
      same =
          ap (λ outs. option_or (disk_of outs) (if is_answer entry then None else op_out past)) quiet
          ∙ ap (λ b. if b then None else op_out past) plain

  begin_early : (entry : What) → disk_of (boot_outs s me (begins_clean (taken_in past tick entry)) (slot_number (taken_in past tick entry)) entry) ≡ Some disk.ReadHeader
      → ((timely : Bool) (p : Phase) → next_phase s entry timely p ≡ Booting) → IsEarly s (with_read s me past tick entry)
  unfolding phase op_out
  begin_early entry reads begins =
      inr (
        begins (in_time tick past) (phase s past),
        inr (ap (λ outs. option_or (disk_of outs) (if is_answer entry then None else op_out past)) (boot_gives entry)
            ∙ ap (λ o. option_or o (if is_answer entry then None else op_out past)) reads),
      )

  fit_early : (entry : What) → times_of entry ≡ None → fits s me past entry ≡ true → IsEarly s (with_read s me past tick entry)
  unfolding phase
  fit_early what.Begin none fit = begin_early what.Begin refl (λ timely p. refl)
  fit_early what.BeginClean none fit = begin_early what.BeginClean refl (λ timely p. refl)
  fit_early (what.Header header.Failed) none fit = inl refl
  fit_early (what.Header header.NotImage) none fit = inl refl
  fit_early (what.Header (header.Read nodes times)) none fit = absurd (none-some times (sym none))
  fit_early (what.SlotRead rank seen) none fit = absurd (unread_fits_none (op_out past) (what.SlotRead rank seen) refl refl unread fit)
  fit_early (what.MailChecked seen) none fit = absurd (unread_fits_none (op_out past) (what.MailChecked seen) refl refl unread fit)
  fit_early (what.Claimed ok) none fit = absurd (unread_fits_none (op_out past) (what.Claimed ok) refl refl unread fit)
  fit_early (what.Cleared ok) none fit = absurd (unread_fits_none (op_out past) (what.Cleared ok) refl refl unread fit)
  fit_early (what.MailRead seen) none fit = absurd (unread_fits_none (op_out past) (what.MailRead seen) refl refl unread fit)
  fit_early (what.MailWritten rank ok) none fit = absurd (unread_fits_none (op_out past) (what.MailWritten rank ok) refl refl unread fit)
  fit_early (what.Closed ok) none fit = absurd (unread_fits_none (op_out past) (what.Closed ok) refl refl unread fit)
  fit_early (what.View view) none fit = absurd (live_first (phase s past) _ boots fit)
  fit_early (what.Ask ask) none fit = absurd (live_first (phase s past) _ boots fit)
  fit_early (what.Tell tell) none fit = absurd (live_first (phase s past) _ boots fit)
  fit_early (what.Device agrees) none fit = absurd (false≢true (sym (ap is_live boots) ∙ fit))
  fit_early what.Leave none fit = absurd (false≢true (sym (ap is_up boots) ∙ fit))
  fit_early what.Tick none fit = calm_early what.Tick refl refl (λ timely. refl)
  fit_early (what.Stopped ok) none fit = calm_early (what.Stopped ok) refl refl (λ timely. refl)

  -- an entry that gives no times
  pub entry_early : (entry : What) → times_of entry ≡ None → IsEarly s (with_entry s me past (record { tick = tick; what = entry }))
  unfolding with_entry
  entry_early entry none = by_fit (fits s me past entry) refl
    where
      by_fit : (b : Bool) → fits s me past entry ≡ b → IsEarly s (with_read s me past tick (if b then entry else what.Tick))
      by_fit true fit = fit_early entry none fit
      by_fit false misfit = calm_early what.Tick refl refl (λ timely. refl)

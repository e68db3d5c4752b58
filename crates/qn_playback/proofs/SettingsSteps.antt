-- The settings of a whole text: they are good, or the text is at fault.
use Rattle.std.proofs.Common.{◌≡◌, ◌⊎◌, ◌+◌, ℕ, List, Option, Result, Ok, Err, refl, sym, ap, ◌∙◌, subst, inl, inr}
use Rattle.qn_conf.specs.declared.faults.ConfFault.TheVariants as conf
use Rattle.qn_model.specs.declared.configuration.Settings.{Settings}
use Rattle.qn_model.specs.Lines.{lines_of}
use Rattle.qn_settings.specs.declared.faults.TextFault.{TextFault}
use Rattle.qn_settings.specs.declared.faults.TextFault.TheVariants as text
use Rattle.qn_settings.specs.Text.{settings_of_text}
use Rattle.qn_sched.specs.declared.replay_end.ReplayEnd.{ReplayEnd}
use Rattle.qn_sched.specs.declared.replay_end.ReplayEnd.TheVariants.{NoMemory}
use Rattle.qn_sched.specs.Ends.{bad_text}
use Rattle.qn_sched.specs.Head.{or_bad_text, settings_in}
use Rattle.qn_playback.specs.declared.head_fault.HeadFault.TheVariants as head
use Rattle.qn_playback.specs.declared.settings_head.SettingsHead.{SettingsHead}
use Rattle.qn_playback.specs.Faults.{end_of, fault_of_text}
use Rattle.qn_playback.specs.Heads.{settings_part, with_settings}
use Rattle.qn_playback.specs.Parts.{Gives, Leads, Refuses, whole}
use Rattle.qn_playback.specs.PartLaws.{leads_judged, refuses_judged, refuses_wanted}
use Rattle.qn_playback.specs.Texts.{whole_text}

-- the defined answer, or out of memory
abbrev pub IsJudged : Result Settings TextFault → List ℕ → Type 0
IsJudged result bytes = (result ≡ settings_of_text bytes) ⊎ (result ≡ Err (text.Conf conf.NoMemory))

judged_so : (bytes : List ℕ) (result : Result Settings TextFault) → result ≡ settings_of_text bytes → settings_in bytes ≡ or_bad_text result
unfolding settings_in
judged_so bytes result is = ap or_bad_text (sym is)

-- a fault of the text is the end of the replay, but for out of memory
same_end : (fault : TextFault) → (end_of (fault_of_text fault) ≡ NoMemory) ⊎ (bad_text fault ≡ end_of (fault_of_text fault))
same_end (text.Conf conf.NoMemory) = inl refl
same_end (text.Conf _) = inr refl
same_end (text.Settings fault) = inr refl

-- a fault of the text is no read that failed
pub never_a_read : (fault : TextFault) → fault_of_text fault ≡ head.ReadFault → ⊥
never_a_read (text.Conf conf.NoMemory) is = absurd cc
never_a_read (text.Conf _) is = absurd cc
never_a_read (text.Settings fault) is = absurd cc

module _ {a b : Option (List ℕ)} (bytes : List ℕ) (lines : ℕ) (read : List ℕ) (same_text : read ≡ bytes) (first : Leads settings_part (whole_text bytes lines) a b) where
  -- the text is at fault
  pub refuses_settings : {at_end failed : Type 0} (fault : TextFault) → IsJudged (Err fault) read → Refuses settings_part a b at_end failed (end_of (fault_of_text fault))
  refuses_settings {at_end} {failed} fault (inl same) = told (same_end fault)
    where
      told : (end_of (fault_of_text fault) ≡ NoMemory) ⊎ (bad_text fault ≡ end_of (fault_of_text fault)) → Refuses settings_part a b at_end failed (end_of (fault_of_text fault))
      told (inl memory) = refuses_wanted first (end_of (fault_of_text fault)) memory
      told (inr end) =
          refuses_judged first (end_of (fault_of_text fault))
          (λ ending more.
          ap (with_settings (lines + 1) (lines_of more)) (judged_so bytes (Err fault) (same ∙ ap settings_of_text same_text) ∙ ap (λ (e : ReplayEnd). let r : Result Settings ReplayEnd = Err e in r) end))
  refuses_settings fault (inr memory) =
      let wanted : fault ≡ text.Conf conf.NoMemory = cc in
      refuses_wanted first (end_of (fault_of_text fault)) (ap (λ (f : TextFault). end_of (fault_of_text f)) wanted)

  good : (settings : Settings) → IsJudged (Ok settings) read → settings_in bytes ≡ Ok settings
  good settings (inl same) = judged_so bytes (Ok settings) (same ∙ ap settings_of_text same_text)
  good settings (inr memory) = absurd cc

  -- the settings are good
  pub gives_settings : (settings : Settings) (number : ℕ) → number ≡ lines + 1 → IsJudged (Ok settings) read
      → Gives settings_part (let head : SettingsHead = record { settings = settings; lines = number } in head) a b
  gives_settings settings number is judged =
      let head : ℕ → SettingsHead = λ n. record { settings = settings; lines = n } in
      subst (λ (n : ℕ). Gives settings_part (head n) a b) (sym is)
      (leads_judged first (whole (head (lines + 1))) (λ ending more. ap (with_settings (lines + 1) (lines_of more)) (good settings judged)))

  pub gives_good : (settings : Settings) → IsJudged (Ok settings) read → settings_in bytes ≡ Ok settings
  gives_good = good

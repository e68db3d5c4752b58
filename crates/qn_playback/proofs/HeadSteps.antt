-- The timing line after a settings text.
use Rattle.std.proofs.Common.{◌≡◌, ◌+◌, ℕ, List, Option, Ok, Err, sym, ap, ◌∙◌}
use Rattle.qn_model.specs.declared.times.Timing.{Timing}
use Rattle.qn_sched.specs.declared.replay_end.ReplayEnd.{ReplayEnd}
use Rattle.qn_sched.specs.Head.{safe_timing_in}
use Rattle.qn_playback.specs.declared.head.Head.{Head}
use Rattle.qn_playback.specs.declared.settings_head.SettingsHead.{SettingsHead}
use Rattle.qn_playback.specs.FurtherLines.{gives_judged, refuses_at_fault}
use Rattle.qn_playback.specs.Heads.{head_part, line_part, settings_part, timing_given, with_timing}
use Rattle.qn_playback.specs.Parts.{Gives, Refuses}

module _ {a b c : Option (List ℕ)} (text : SettingsHead) (first : Gives settings_part text a b) (line : List ℕ) (second : Gives (line_part text.lines) line b c) (read : List ℕ) (same : read ≡ line) where
  -- the times are good
  pub gives_head : (timing : Timing) → safe_timing_in (text.lines + 1) read ≡ Ok timing
      → Gives head_part (let head : Head = record { settings = text.settings; timing = timing; lines = text.lines + 1 } in head) a c
  gives_head timing is =
      gives_judged settings_part (λ t. t.lines) timing_given text first line second (record { settings = text.settings; timing = timing; lines = text.lines + 1 })
      (λ rest. ap (with_timing text rest) (ap (safe_timing_in (text.lines + 1)) (sym same) ∙ is))

  -- the times are at fault
  pub refuses_timing : {at_end failed : Type 0} (end : ReplayEnd) → safe_timing_in (text.lines + 1) read ≡ Err end → Refuses head_part a c at_end failed end
  refuses_timing end is =
      refuses_at_fault settings_part (λ t. t.lines) timing_given text first line second end
      (λ rest. ap (with_timing text rest) (ap (safe_timing_in (text.lines + 1)) (sym same) ∙ is))

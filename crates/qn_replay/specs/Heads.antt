-- What is known of the head of a schedule that was read.
use Rattle.std.specs.Prelude.{◌≡◌, ◌≤◌, true}
use Rattle.qn_playback.specs.declared.head.Head.{Head}
use Rattle.qn_model.specs.Settings.{IsValid}
use Rattle.qn_model.specs.Timing.{is_safe}

-- its settings are valid, its times are safe, and it has no more lines than its bytes may have
pub record IsGoodHead (head : Head) : Type 0 where
  pub valid : IsValid head.settings
  pub safe : is_safe head.timing ≡ true
  pub few_lines : head.lines ≤ 4294967295

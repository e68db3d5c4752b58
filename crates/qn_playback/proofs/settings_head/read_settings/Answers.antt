use Rattle.std.proofs.lemmas.Result.{err_from_is_err_and}
use Rattle.qn_playback.proofs.SettingsSteps.{gives_good, gives_settings, never_a_read, refuses_settings}
use Rattle.qn_playback.proofs.settings_head.read_settings.Goals as goal

pub returns-in_err-settings-clause-fault : goal.returns-in_err-settings-clause-fault
returns-in_err-settings-clause-fault g c =
    let exit = err_from_is_err_and c.from_residual-in_err-settings.result c.from_residual-in_err-settings.ensures.1 in
    rw (exit.1, exit.2)
    (refuses_settings c.in_ok-text.text.whole c.in_ok-text.text.lines c.whole.result.now c.whole.ensures c.in_ok-text.ensures.text c.in_err-settings.field-0.0 c.in_err-settings.ensures.answer)

pub returns-in_err-settings-clause-cause : goal.returns-in_err-settings-clause-cause
returns-in_err-settings-clause-cause g c =
    let exit = err_from_is_err_and c.from_residual-in_err-settings.result c.from_residual-in_err-settings.ensures.1 in
    rw (exit.1, exit.2) (λ is. absurd (never_a_read c.in_err-settings.field-0.0 is))

pub returns-clause-settings : goal.returns-clause-settings
returns-clause-settings g c =
    gives_settings c.in_ok-text.text.whole c.in_ok-text.text.lines c.whole.result.now c.whole.ensures c.in_ok-text.ensures.text c.in_ok-settings.settings c.next_line.result c.next_line.ensures
    c.in_ok-settings.ensures.answer

pub returns-clause-text : goal.returns-clause-text
returns-clause-text g c = record {
  text = c.in_ok-text.text.whole;
  takes = c.in_ok-text.ensures.taken;
  gives = gives_good c.in_ok-text.text.whole c.in_ok-text.text.lines c.whole.result.now c.whole.ensures c.in_ok-text.ensures.text c.in_ok-settings.settings c.in_ok-settings.ensures.answer;
}

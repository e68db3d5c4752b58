-- Heads compute.
use Rattle.std.proofs.Common.{refl}
use Rattle.std.specs.Str.{chars, is_utf8}
use Rattle.qn_conf.specs.Conf.{conf_of}
use Rattle.qn_conf.specs.Line.{is_name, meaning_of, pair_of, section_of, trim}
use Rattle.qn_model.specs.Lines.{number_between}
use Rattle.qn_settings.specs.Answer.{fault_of, settings_of}
use Rattle.qn_settings.specs.Entries.{entries_of}
use Rattle.qn_settings.specs.Keys.{number_in}
use Rattle.qn_settings.specs.Sections.{key_in}
use Rattle.qn_settings.specs.Text.{settings_of_text}
use Rattle.qn_sched.specs.Head.{safe_timing_in, settings_in}
use Rattle.qn_sched.specs.TimingLine.{time_of, times_of, times_of_words, timing_of, timing_of_words}
use Rattle.qn_sched.specs.EventNames.{event_name}
use Rattle.qn_sched.specs.EventReading.{event_of, event_of_words}
use Rattle.qn_playback.specs.Heads.{last_line, last_of_text, within_bound}
use Rattle.qn_playback.specs.Lines.{last_line as last_event, line_of}
use Rattle.qn_playback.specs.Worlds.{after_lines}
use Rattle.qn_replay.proofs.rows.law_heads.Goals as goal

pub returns-clause-good : goal.returns-clause-good
unfolding lib.Utf8.encode chars is_utf8 settings_in settings_of_text conf_of meaning_of trim is_name section_of pair_of fault_of settings_of entries_of key_in number_in last_of_text last_line within_bound last_event safe_timing_in timing_of timing_of_words times_of_words times_of time_of number_between
returns-clause-good c = refl

pub returns-clause-event : goal.returns-clause-event
unfolding line_of after_lines event_of event_of_words event_name lib.Utf8.encode chars is_utf8 settings_in settings_of_text conf_of meaning_of trim is_name section_of pair_of fault_of settings_of entries_of key_in number_in last_of_text last_line within_bound last_event safe_timing_in timing_of timing_of_words times_of_words times_of time_of number_between
returns-clause-event c = refl

pub returns-clause-no_timing : goal.returns-clause-no_timing
unfolding lib.Utf8.encode chars is_utf8 settings_in settings_of_text conf_of meaning_of trim is_name section_of pair_of fault_of settings_of entries_of key_in number_in last_of_text last_line within_bound last_event safe_timing_in timing_of timing_of_words times_of_words times_of time_of number_between
returns-clause-no_timing c = refl

pub returns-clause-failed : goal.returns-clause-failed
unfolding lib.Utf8.encode chars is_utf8 settings_in settings_of_text conf_of meaning_of trim is_name section_of pair_of fault_of settings_of entries_of key_in number_in last_of_text last_line within_bound last_event safe_timing_in timing_of timing_of_words times_of_words times_of time_of number_between
returns-clause-failed c = refl

pub returns-clause-unsafe_times : goal.returns-clause-unsafe_times
unfolding lib.Utf8.encode chars is_utf8 settings_in settings_of_text conf_of meaning_of trim is_name section_of pair_of fault_of settings_of entries_of key_in number_in last_of_text last_line within_bound last_event safe_timing_in timing_of timing_of_words times_of_words times_of time_of number_between
returns-clause-unsafe_times c = refl

-- What a watcher of the own mailbox stands for, and what it says of a read: this project's profile, after
-- sbd(8), `watch`.
use Rattle.std.specs.Prelude.{◌≡◌, ℕ, Bool, true, false, List, Option, None, Some, ◌-◌, not, if◌then◌else◌}
use Rattle.qn_model.specs.declared.disk.Message.{Message}
use Rattle.qn_model.specs.declared.seen.MailSeen.{MailSeen}
use Rattle.qn_model.specs.declared.seen.MailSeen.TheVariants as mail
use Rattle.qn_model.specs.Sectors.{is_deadly}
use Rattle.qn_model.specs.Log.{Line, ask_tick, timing}
use Rattle.qn_model.specs.Phases.{in_time, is_exit}
use Rattle.qn_model.specs.Wanted.{mail_tick}
use Rattle.qn_watch.specs.declared.mailbox.Watch.{Watch}
use Rattle.qn_watch.specs.declared.mailbox.Verdict.{Verdict}
use Rattle.qn_watch.specs.declared.mailbox.Verdict.TheVariants as verdict

-- a watcher stands for a log: it has its times, and the tick at which it last asked for the own mailbox
pub record WatchFor (watch : Watch) (log : List Line) : Type 0 where
  pub has_times : watch.times ≡ timing log
  pub last_asked : watch.asked ≡ mail_tick log

-- the verdict on a message, by how long the read took and whether it is in time
abbrev pub verdict_of_message : ℕ → Bool → Message → Verdict
verdict_of_message took timely message =
    if is_deadly message then verdict.Deadly message
    else (if not timely then verdict.Late took
    else (if is_exit message then verdict.Leave else verdict.Feed))

-- the verdict on the answer of the read that is out after these entries, at a tick
abbrev pub verdict_on : ℕ → List Line → MailSeen → Verdict
verdict_on tick log (mail.Read message) = verdict_of_message (tick - ask_tick log) (in_time tick log) message
verdict_on tick log mail.Damaged = verdict.NotRead
verdict_on tick log mail.Failed = verdict.NotRead

-- whether a verdict feeds the watchdog
abbrev pub feeds_by : Verdict → Bool
feeds_by verdict.Feed = true
feeds_by (verdict.Late took) = false
feeds_by verdict.NotRead = false
feeds_by (verdict.Deadly message) = false
feeds_by verdict.Leave = true

-- the message by which a verdict halts the node
abbrev pub deadly_by : Verdict → Option Message
deadly_by verdict.Feed = None
deadly_by (verdict.Late took) = None
deadly_by verdict.NotRead = None
deadly_by (verdict.Deadly message) = Some message
deadly_by verdict.Leave = None

-- whether a verdict makes the node leave
abbrev pub leaves_by : Verdict → Bool
leaves_by verdict.Feed = false
leaves_by (verdict.Late took) = false
leaves_by verdict.NotRead = false
leaves_by (verdict.Deadly message) = false
leaves_by verdict.Leave = true

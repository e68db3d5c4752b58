-- What a read of the own mailbox comes to, by the watcher and by the definitions.
use Rattle.std.proofs.Common.{◌≡◌, ℕ, Bool, true, false, List, [], ◌∷◌, Option, None, Some, ◌+◌, ◌-◌, refl, sym, ap}
use Rattle.std.specs.Prelude.{◌&&◌, not, nat_le, is_some, if◌then◌else◌}
use Rattle.std.specs.Option.{option_or}
use Rattle.qn_model.specs.declared.disk.Message.{Message}
use Rattle.qn_model.specs.declared.disk.Message.TheVariants as message
use Rattle.qn_model.specs.declared.seen.MailSeen.{MailSeen}
use Rattle.qn_model.specs.declared.seen.MailSeen.TheVariants as mail
use Rattle.qn_model.specs.declared.entries.What.TheVariants as what
use Rattle.qn_model.specs.declared.outputs.DiskOp.{DiskOp}
use Rattle.qn_model.specs.declared.outputs.DiskOp.TheVariants as disk
use Rattle.qn_model.specs.Sectors.{is_deadly}
use Rattle.qn_model.specs.Log.{Line, disk_of, is_answer, op_out, ask_tick, timing}
use Rattle.qn_model.specs.Phases.{in_time, is_exit, message_of, gives_exit}
use Rattle.qn_model.specs.NodeOutputs.{mail_feeds}
use Rattle.qn_model.specs.Wanted.{asks_mail, mail_tick}
use Rattle.qn_watch.specs.declared.mailbox.Verdict.{Verdict}
use Rattle.qn_watch.specs.declared.mailbox.Watch.{Watch}
use Rattle.qn_watch.specs.Watch.{WatchFor, verdict_of_message, verdict_on, feeds_by, leaves_by}

-- an operation that is a read of the own mailbox was asked for at that tick
asked_now : (op : DiskOp) (tick before : ℕ) → Some op ≡ Some disk.ReadMail → tick ≡ (if asks_mail (Some op) then tick else before)
asked_now op tick before is = sym (ap (λ found. if asks_mail found then tick else before) is)

-- the tick of the last operation is that of the last read, where a read is out: one entry more
asked_more : (asked : Option DiskOp) (answer : Bool) (out : Option DiskOp) (tick last mail : ℕ)
    → (out ≡ Some disk.ReadMail → last ≡ mail)
    → option_or asked (if answer then None else out) ≡ Some disk.ReadMail
    → (if is_some asked then tick else last) ≡ (if asks_mail asked then tick else mail)
asked_more (Some op) answer out tick last mail before is = asked_now op tick mail is
asked_more None true out tick last mail before is = cc
asked_more None false out tick last mail before is = before is

-- where a read of the own mailbox is out, the last operation was asked for when the mailbox was
pub ask_tick-mail : (log : List Line) → op_out log ≡ Some disk.ReadMail → ask_tick log ≡ mail_tick log
unfolding op_out ask_tick mail_tick
ask_tick-mail [] is = refl
ask_tick-mail (line ∷ past) is =
    asked_more (disk_of line.outs) (is_answer line.what) (op_out past) line.tick (ask_tick past) (mail_tick past) (ask_tick-mail past) is

-- a message is judged as the definitions judge it
pub judged : (watch : Watch) (tick : ℕ) (seen : MailSeen) (message : Message) (verdict : Verdict)
    → seen ≡ mail.Read message
    → verdict ≡ verdict_of_message (tick - watch.asked) (nat_le tick (watch.asked + watch.times.read_limit)) message
    → (log : List Line) → WatchFor watch log → op_out log ≡ Some disk.ReadMail → verdict ≡ verdict_on tick log seen
judged watch tick seen message verdict read is log stands out =
    let asked : ask_tick log ≡ mail_tick log = ask_tick-mail log out in
    let within : watch.times.read_limit ≡ (timing log).read_limit = ap (λ t. t.read_limit) stands.has_times in
    cc

-- what a judged message feeds
feeds_message : (took : ℕ) (timely : Bool) (message : Message) → feeds_by (verdict_of_message took timely message) ≡ not (is_deadly message) && timely
feeds_message took true message.Empty = refl
feeds_message took true message.Test = refl
feeds_message took true message.Reset = refl
feeds_message took true message.Off = refl
feeds_message took true message.Exit = refl
feeds_message took true message.Crashdump = refl
feeds_message took false message.Empty = refl
feeds_message took false message.Test = refl
feeds_message took false message.Reset = refl
feeds_message took false message.Off = refl
feeds_message took false message.Exit = refl
feeds_message took false message.Crashdump = refl

pub verdict_on-feeds : (tick : ℕ) (log : List Line) (seen : MailSeen) → feeds_by (verdict_on tick log seen) ≡ mail_feeds tick log (what.MailRead seen)
verdict_on-feeds tick log (mail.Read message) = feeds_message (tick - ask_tick log) (in_time tick log) message
verdict_on-feeds tick log mail.Damaged = refl
verdict_on-feeds tick log mail.Failed = refl

leaves_message : (took : ℕ) (timely : Bool) (message : Message) → leaves_by (verdict_of_message took timely message) ≡ is_exit message && timely
leaves_message took true message.Empty = refl
leaves_message took true message.Test = refl
leaves_message took true message.Reset = refl
leaves_message took true message.Off = refl
leaves_message took true message.Exit = refl
leaves_message took true message.Crashdump = refl
leaves_message took false message.Empty = refl
leaves_message took false message.Test = refl
leaves_message took false message.Reset = refl
leaves_message took false message.Off = refl
leaves_message took false message.Exit = refl
leaves_message took false message.Crashdump = refl

pub verdict_on-leaves : (tick : ℕ) (log : List Line) (seen : MailSeen)
    → leaves_by (verdict_on tick log seen) ≡ gives_exit (message_of (what.MailRead seen)) && in_time tick log
verdict_on-leaves tick log (mail.Read message) = leaves_message (tick - ask_tick log) (in_time tick log) message
verdict_on-leaves tick log mail.Damaged = refl
verdict_on-leaves tick log mail.Failed = refl

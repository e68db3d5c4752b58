-- What is told of the node's own mailbox (this project's profile, LIVE.md "The journal").
use Rattle.std.specs.Prelude.{ℕ, ◌==◌, ◌&&◌, Bool, true, false, not, List, [], ◌∷◌, Option, Some, None, nat_lt, replicate, slice_set, if◌then◌else◌}
use Rattle.std.specs.Bool.{then_some}
use Rattle.qn_model.specs.Sectors.{anonymous, message_code}
use Rattle.qn_model.specs.declared.disk.Message.{Message}
use Rattle.qn_model.specs.declared.disk.Message.TheVariants.{Empty}
use Rattle.qn_model.specs.declared.mailbox.Mail.{Mail}
use Rattle.qn_model.specs.declared.mailbox.Sender.{Sender}
use Rattle.qn_model.specs.declared.seen.MailSeen.{MailSeen}
use Rattle.qn_model.specs.declared.seen.MailSeen.TheVariants as seen
use Rattle.qn_told.specs.declared.mail.Mailbox.{Mailbox}
use Rattle.qn_told.specs.declared.mail.MailNews.{MailNews}
use Rattle.qn_told.specs.declared.mail.MailNews.TheVariants as news
use Rattle.qn_told.specs.declared.mail.MailState.{MailState}
use Rattle.qn_told.specs.declared.mail.MailState.TheVariants.{Unread, Held, Damaged, Failed}

abbrev pub unread : Mailbox
unread = record { state = Unread; tick = None; came = replicate 3 None; held = anonymous Empty }

-- what a sector held, on the image of that number
abbrev pub after_reading : Mailbox → ℕ → Option Mail → Mailbox
after_reading mailbox image mail =
    if nat_lt image 3 then record mailbox { came = slice_set mailbox.came image mail } else mailbox

abbrev pub is_message : Mail → Message → Bool
is_message mail message = message_code mail.message == message_code message

-- a message with its sender, where a sector names one
abbrev pub named_in : List (Option Mail) → Message → Mail
named_in [] message = anonymous message
named_in (None ∷ came) message = named_in came message
named_in (Some mail ∷ came) message = if is_message mail message then mail else named_in came message

abbrev pub is_same_sender : Option Sender → Option Sender → Bool
is_same_sender None None = true
is_same_sender None (Some other) = false
is_same_sender (Some one) None = false
is_same_sender (Some one) (Some other) = one.id.0 == other.id.0 && one.incarnation == other.incarnation

abbrev pub is_same_mail : Mail → Mail → Bool
is_same_mail one other = is_message one other.message && is_same_sender one.by other.by

abbrev pub is_damaged : MailState → Bool
is_damaged Damaged = true
is_damaged Failed = false
is_damaged Unread = false
is_damaged (Held mail) = false

abbrev pub is_failed : MailState → Bool
is_failed Failed = true
is_failed Damaged = false
is_failed Unread = false
is_failed (Held mail) = false

-- what is told of a read: another message than that of the last good one, and that there is none where there was one
abbrev pub mail_news : Mailbox → MailSeen → Option MailNews
mail_news mailbox (seen.Read message) =
    then_some (not (is_same_mail (named_in mailbox.came message) mailbox.held)) (news.Message (named_in mailbox.came message))
mail_news mailbox seen.Damaged = then_some (not (is_damaged mailbox.state)) news.Damaged
mail_news mailbox seen.Failed = then_some (not (is_failed mailbox.state)) news.Failed

abbrev pub after_mail : Mailbox → MailSeen → ℕ → Mailbox
after_mail mailbox (seen.Read message) tick = record {
  state = Held (named_in mailbox.came message);
  tick = Some tick;
  came = replicate 3 None;
  held = named_in mailbox.came message;
}
after_mail mailbox seen.Damaged tick = record mailbox { state = Damaged; tick = Some tick; came = replicate 3 None }
after_mail mailbox seen.Failed tick = record mailbox { state = Failed; tick = Some tick; came = replicate 3 None }

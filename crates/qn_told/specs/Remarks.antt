-- What a line of the journal says of bytes, of the clock and of the watchdog (this project's profile, LIVE.md "The journal").
use Rattle.std.specs.Prelude.{ℕ, Bool, List, [], ◌∷◌, Option, None, Some, false, codes, length, if◌then◌else◌}
use Rattle.qn_base.specs.declared.ids.NodeId.{NodeId}
use Rattle.qn_event.specs.declared.event_name.EventName.TheVariants as name
use Rattle.qn_event.specs.EventLines.{head_of}
use Rattle.qn_event.specs.EventNames.{event_word}
use Rattle.qn_event.specs.EventTexts.{EventText}
use Rattle.qn_event.specs.EventWords.{with_quoted, with_text}
use Rattle.qn_event.specs.declared.level.Level.TheVariants.{Error, Warning, Notice, Information}
use Rattle.qn_event.specs.declared.moment.Moment.{Moment}
use Rattle.qn_model.specs.declared.mailbox.Mail.{Mail}
use Rattle.qn_model.specs.declared.mailbox.Sender.{Sender}
use Rattle.qn_model.specs.Messages.{message_name}
use Rattle.qn_model.specs.Sectors.{is_deadly}
use Rattle.qn_event.specs.WholeLines.{Word, line, number, text, truth}

-- a node is heard that was not
abbrev pub peer_seen : Moment → NodeId → EventText
peer_seen at id = line at Information name.PeerSeen (number (codes "id") id.0 ∷ [])

-- a node is not heard for so many milliseconds
abbrev pub peer_lost : Moment → NodeId → ℕ → EventText
peer_lost at id silent = line at Warning name.PeerLost (number (codes "id") id.0 ∷ number (codes "silent") silent ∷ [])

-- for three loops nothing came of a node over the network of that number, while something came over the other one
abbrev pub network_lost : Moment → ℕ → NodeId → EventText
network_lost at network id =
    line at Warning name.NetworkLost (number (codes "network") network ∷ number (codes "id") id.0 ∷ [])

-- something came of a node over a network that was lost to it
abbrev pub network_back : Moment → ℕ → NodeId → EventText
network_back at network id =
    line at Notice name.NetworkBack (number (codes "network") network ∷ number (codes "id") id.0 ∷ [])

-- the arbiter answered, in the view of that number
abbrev pub device_answered : Moment → Bool → ℕ → EventText
device_answered at agrees view =
    line at Notice name.Device (truth (codes "answer") agrees ∷ number (codes "view") view ∷ [])

-- the arbiter answered nothing for so many milliseconds
abbrev pub device_silent : Moment → ℕ → EventText
device_silent at age = line at Warning name.DeviceSilent (number (codes "age") age ∷ [])

-- the last call on an image failed, and one was done again
abbrev pub image_lost : Moment → ℕ → EventText
image_lost at image = line at Warning name.ImageLost (number (codes "image") image ∷ [])

abbrev pub image_back : Moment → ℕ → EventText
image_back at image = line at Notice name.ImageBack (number (codes "image") image ∷ [])

-- who wrote a message: a node, or an operator
abbrev pub sender_words : Option Sender → List Word
sender_words None = text (codes "by") (codes "operator") ∷ []
sender_words (Some sender) = number (codes "by") sender.id.0 ∷ number (codes "by-incarnation") sender.incarnation ∷ []

-- the mailbox holds another message
abbrev pub mail_told : Moment → Mail → EventText
mail_told at mail =
    line at (if is_deadly mail.message then Error else Notice) name.Mail (text (codes "message") (message_name mail.message) ∷ sender_words mail.by)

-- the mailbox cannot be read: its sector is none, or the read failed
abbrev pub mail_damaged : Moment → EventText
mail_damaged at = line at Error name.MailDamaged []

abbrev pub mail_failed : Moment → EventText
mail_failed at = line at Error name.MailFailed []

-- so many feeds failed or came too late
abbrev pub feeds_failed : Moment → ℕ → EventText
feeds_failed at count = line at Error name.Feed (truth (codes "ok") false ∷ number (codes "count") count ∷ [])

-- so many packets were none
abbrev pub packets_refused : Moment → ℕ → EventText
packets_refused at count = line at Warning name.PacketsRefused (number (codes "count") count ∷ [])

-- the run ended so, by a fault or not
abbrev pub ended : Moment → List ℕ → Bool → EventText
ended at end fault = record {
  level = if fault then Error else Notice;
  head = head_of at (if fault then Error else Notice);
  words = with_quoted (with_text [] (length (event_word name.End)) (event_word name.End)) (codes "end") end;
}

-- What is known of a node after a call that it made (this project's profile, LIVE.md "The journal").
use Rattle.std.specs.Prelude.{ℕ, ◌*◌, ◌/◌, ◌==◌, ◌&&◌, ◌||◌, Bool, true, false, Option, Some, None, is_some, if◌then◌else◌}
use Rattle.qn_base.specs.declared.ids.Rank.{Rank}
use Rattle.qn_io.specs.declared.calls.Got.{Got}
use Rattle.qn_io.specs.declared.calls.Got.TheVariants as got
use Rattle.qn_live.specs.declared.asked.Asked.{Asked}
use Rattle.qn_live.specs.declared.asked.Asked.TheVariants as asked
use Rattle.qn_live.specs.declared.asked.Given.{Given}
use Rattle.qn_live.specs.declared.decoded.Came.{Came}
use Rattle.qn_live.specs.declared.decoded.Decoded.{Decoded}
use Rattle.qn_live.specs.declared.decoded.Decoded.TheVariants as decoded
use Rattle.qn_model.specs.declared.packets.Packet.{Packet}
use Rattle.qn_model.specs.declared.packets.Packet.TheVariants as packet
use Rattle.qn_told.specs.Devices.{polled}
use Rattle.qn_told.specs.Losses.{called, headed, mailboxed}
use Rattle.qn_told.specs.Mails.{after_reading}
use Rattle.qn_told.specs.Seldoms.{counted}
use Rattle.qn_told.specs.declared.news.News.{News}

-- whose Hello a packet is
abbrev pub hello_of : Packet → Option Rank
hello_of (packet.Hello from) = Some from
hello_of (packet.Heard from said standing) = Some from
hello_of (packet.Ask ask) = None
hello_of (packet.Tell tell) = None
hello_of (packet.Announce from view) = None
hello_of (packet.Vote agrees) = None

-- a reply of an arbiter, or something of the node's host
abbrev pub is_known : Came → Bool
is_known came = is_some came.reply || came.is_request || is_some came.word

abbrev pub greeted_by : Option Rank → News → News
greeted_by None news = news
greeted_by (Some from) news = record news { greeted = Some from }

-- a packet that is nothing of these is refused
abbrev pub heard_where : Option Packet → Bool → News → News
heard_where None known news = if known then news else record news { refused = counted news.refused }
heard_where (Some packet) known news = greeted_by (hello_of packet) news

abbrev pub after_hearing : Came → News → News
after_hearing came news = heard_where came.packet (is_known came) news

abbrev pub after_decoded : Decoded → News → News
after_decoded decoded.Nothing news = news
after_decoded (decoded.Came came) news = after_hearing came news
after_decoded (decoded.Header is_one) news = news
after_decoded (decoded.Mailbox mail) news = news

abbrev pub is_packet : Got → Bool
is_packet (got.Packet size) = true
is_packet got.Nothing = false
is_packet got.Failed = false

-- what the bytes of an image say of it
abbrev pub after_bytes : ℕ → Decoded → News → News
after_bytes image decoded.Nothing news = news
after_bytes image (decoded.Came came) news = news
after_bytes image (decoded.Header is_one) news = record news { images = headed news.images image is_one }
after_bytes image (decoded.Mailbox mail) news = record news {
  images = mailboxed news.images image (is_some mail);
  mailbox = after_reading news.mailbox image mail;
}

abbrev pub after_look : ℕ → Bool → Decoded → News → News
after_look sector ok bytes news =
    after_bytes (sector / 1024) bytes (record news { images = called news.images sector ok })

-- after a call with its answer, whose bytes are that, at that tick of the node
abbrev pub after_call : Asked → Given → Decoded → ℕ → News → News
after_call asked.Receive given bytes tick news = if is_packet given.got then after_decoded bytes news else news
after_call (asked.Read sector) given bytes tick news = after_look sector given.ok bytes news
after_call (asked.Write sector) given bytes tick news = after_look sector given.ok bytes news
after_call asked.Feed given bytes tick news = if given.ok then news else record news { late = counted news.late }
after_call (asked.Send to) given bytes tick news =
    if (to.0 == 32) && given.ok then record news { device = polled news.device tick } else news
after_call asked.Now given bytes tick news = news
after_call asked.Start given bytes tick news = news
after_call asked.Stop given bytes tick news = news
after_call asked.Disarm given bytes tick news = news
after_call (asked.Halt code) given bytes tick news = news

-- an image that was opened late counts from then on: its header was read
abbrev pub after_opening : Option ℕ → News → News
after_opening None news = news
after_opening (Some place) news =
    record news { images = headed (called news.images (place * 1024) true) place true }

-- The lines that are told of a running node, by what is known of it (this project's profile, LIVE.md "The journal").
use Rattle.std.specs.Prelude.{◌≡◌, ℕ, ◌+◌, ◌==◌, ◌&&◌, Bool, true, false, not, List, [], ◌∷◌, Option, Some, None, length, nat_lt, option_map, option_to_list, slice_set, if◌then◌else◌}
use Rattle.std.specs.Bool.{then_some}
use Rattle.qn_base.specs.declared.ids.NodeId.{NodeId}
use Rattle.qn_base.specs.declared.ids.Rank.{Rank}
use Rattle.qn_event.specs.EventTexts.{EventText}
use Rattle.qn_event.specs.WholeLines.{with_words}
use Rattle.qn_event.specs.declared.moment.Moment.{Moment}
use Rattle.qn_live.specs.declared.asked.Asked.{Asked}
use Rattle.qn_live.specs.declared.asked.Given.{Given}
use Rattle.qn_live.specs.declared.decoded.Decoded.{Decoded}
use Rattle.qn_live.specs.declared.run.NodeRun.{NodeRun}
use Rattle.qn_live.specs.Machine.{TookIn, last_entry}
use Rattle.qn_model.specs.Log.{Line}
use Rattle.qn_model.specs.NodeOutputs.{with_entry}
use Rattle.qn_model.specs.declared.entries.What.{What}
use Rattle.qn_model.specs.declared.nodelist.NodeEntry.{NodeEntry}
use Rattle.qn_model.specs.Unmet.{id_from}
use Rattle.qn_notice.specs.Answers.{answered}
use Rattle.qn_notice.specs.Journal.{told as told_of_entry}
use Rattle.qn_notice.specs.Observing.{IsUpTo, takes}
use Rattle.qn_notice.specs.declared.observer.Observer.{Observer}
use Rattle.qn_notice.specs.declared.kinds.Event.{Event}
use Rattle.qn_notice.specs.declared.kinds.Event.TheVariants as event
use Rattle.qn_told.specs.Calls.{after_call, after_opening}
use Rattle.qn_told.specs.Devices.{after_miss, after_taking, answer_taken, more, silence_told as silence_of_device}
use Rattle.qn_told.specs.Entries.{entered}
use Rattle.qn_told.specs.Events.{event_line, failed_words}
use Rattle.qn_told.specs.Hearing.{after_losing, heard_at, lost_after, of_rank}
use Rattle.qn_told.specs.Losses.{after_news, image_news, place_of_news}
use Rattle.qn_told.specs.Mails.{after_mail, mail_news}
use Rattle.qn_told.specs.Names.{name_at, named_line, said_more}
use Rattle.qn_told.specs.Remarks.{device_answered, device_silent, feeds_failed, image_back, image_lost, mail_damaged, mail_failed, mail_told, network_back, network_lost, packets_refused, peer_lost, peer_seen}
use Rattle.qn_told.specs.Seldoms.{after_due, due_count}
use Rattle.qn_told.specs.Stops.{after_asking, count_told}
use Rattle.qn_told.specs.Stops.{after_taking as after_stop}
use Rattle.qn_told.specs.declared.around.Around.{Around}
use Rattle.qn_told.specs.declared.entered.Entered.{Entered}
use Rattle.qn_told.specs.declared.entered.Entered.TheVariants.{Header, Mail, View, Device, Stopped, Nothing}
use Rattle.qn_told.specs.declared.images.ImageNews.{ImageNews}
use Rattle.qn_told.specs.declared.mail.MailNews.{MailNews}
use Rattle.qn_told.specs.declared.mail.MailNews.TheVariants as mail
use Rattle.qn_told.specs.declared.news.News.{News}
use Rattle.qn_told.specs.declared.peers.Peer.{Peer}
use Rattle.qn_told.specs.declared.stops.Stops.{Stops}

-- what is known of a node, and the lines that were said, where they are told
pub record Told : Type 0 where
  pub news : News
  pub said : Option (List EventText)

-- one line more
abbrev pub with_line : EventText → Told → Told
with_line line told = record { news = record told.news { lines = more told.news.lines }; said = said_more told.said line }

-- one more about the node at the place of a rank
abbrev pub with_named : Around → ℕ → EventText → Told → Told
with_named around rank line told = with_line (named_line (name_at around.names rank) line) told

-- what is known by a call with its answer, whose bytes are that, at that tick of the node
abbrev pub taken : Asked → Given → Decoded → ℕ → Told → Told
taken asked given bytes tick told = record told { news = after_call asked given bytes tick told.news }

-- the mailbox
abbrev pub mail_line : Moment → MailNews → EventText
mail_line at (mail.Message message) = mail_told at message
mail_line at mail.Damaged = mail_damaged at
mail_line at mail.Failed = mail_failed at

abbrev pub mail_where : Around → Option MailNews → Told → Told
mail_where around None told = told
mail_where around (Some news) told = with_line (mail_line around.at news) told

-- what the node was handed
abbrev pub entered_told : Around → Entered → Told → Told
entered_told around (Header msgwait) told = record told { news = record told.news { msgwait = msgwait } }
entered_told around (Mail seen) told =
    mail_where around (mail_news told.news.mailbox seen)
    (record told { news = record told.news { mailbox = after_mail told.news.mailbox seen around.tick } })
entered_told around (Stopped ok) told =
    record told { news = record told.news { stops = after_stop told.news.stops ok around.tick } }
entered_told around View told = told
entered_told around (Device agrees) told = told
entered_told around Nothing told = told

-- what is known of the nodes by rank
abbrev pub with_peers : List Peer → Told → Told
with_peers peers told = record told { news = record told.news { peers = record { peers = peers } } }

abbrev pub with_peer : ℕ → Peer → Told → Told
with_peer rank peer told =
    if nat_lt rank 32 then with_peers (slice_set told.news.peers.peers rank peer) told else told

abbrev pub peer_of : Told → ℕ → Peer
peer_of told rank = of_rank told.news.peers.peers rank

-- a network that was lost to a node and is back, and one that is lost
abbrev pub is_same : Option ℕ → Option ℕ → Bool
is_same None None = true
is_same None (Some other) = false
is_same (Some one) None = false
is_same (Some one) (Some other) = one == other

abbrev pub back_where : Around → ℕ → NodeId → Option ℕ → Told → Told
back_where around rank id None told = told
back_where around rank id (Some network) told = with_named around rank (network_back around.at network id) told

abbrev pub lost_where : Around → ℕ → NodeId → Option ℕ → Told → Told
lost_where around rank id None told = told
lost_where around rank id (Some network) told = with_named around rank (network_lost around.at network id) told

abbrev pub network_before : ℕ → Told → Option ℕ
network_before rank told = if nat_lt rank 32 then (peer_of told rank).lost_network else None

abbrev pub network_where : Around → ℕ → NodeId → Option ℕ → Option ℕ → Told → Told
network_where around rank id before lost told =
    if is_same before lost then told else lost_where around rank id lost (back_where around rank id before told)

abbrev pub network_told : Around → ℕ → NodeId → Told → Told
network_told around rank id told =
    network_where around rank id (network_before rank told) around.lost
    (with_peer rank (record (peer_of told rank) { lost_network = around.lost }) told)

-- a node that was not heard is heard
abbrev pub seen_where : Around → Rank → Bool → Told → Told
seen_where around rank is_new told =
    if is_new then with_named around rank.0 (peer_seen around.at (id_from around.nodes.now rank.0)) told else told

abbrev pub peer_heard : Around → Rank → Told → Told
peer_heard around rank told =
    network_told around rank.0 (id_from around.nodes.now rank.0)
    (seen_where around rank (nat_lt rank.0 32 && not (peer_of told rank.0).is_seen)
    (with_peer rank.0 (heard_at around.tick (peer_of told rank.0)) told))

-- another node of the cluster
abbrev pub is_other : Around → Rank → Bool
is_other around rank = nat_lt rank.0 (length around.nodes.now) && not (rank.0 == around.me.0)

abbrev pub greeted_by : Around → Option Rank → Told → Told
greeted_by around None told = told
greeted_by around (Some rank) told =
    if is_other around rank then peer_heard around rank (record told { news = record told.news { greeted = None } })
    else record told { news = record told.news { greeted = None } }

abbrev pub greeted : Around → Told → Told
greeted around told = greeted_by around told.news.greeted told

-- a node that is heard no more
abbrev pub missed_where : Around → ℕ → NodeId → Option ℕ → Told → Told
missed_where around rank id None told = told
missed_where around rank id (Some silent) told = with_named around rank (peer_lost around.at id silent) told

abbrev pub peer_missed : Around → ℕ → NodeId → Told → Told
peer_missed around rank id told =
    missed_where around rank id (if nat_lt rank 32 then lost_after (peer_of told rank) around.tick around.loop_ms else None)
    (with_peer rank (after_losing (peer_of told rank) around.tick around.loop_ms) told)

unfoldable pub missed_from : Around → ℕ → List NodeEntry → Told → Told
missed_from around rank [] told = told
missed_from around rank (node ∷ nodes) told = missed_from around (rank + 1) nodes (peer_missed around rank node.id told)

abbrev pub missed : Around → Told → Told
missed around told = missed_from around 0 around.nodes.now told

-- the arbiter's answer, and that it is silent
abbrev pub answer_where : Around → Option Bool → Told → Told
answer_where around None told = told
answer_where around (Some agrees) told = with_line (device_answered around.at agrees around.view) told

abbrev pub silence_where : Around → Option ℕ → Told → Told
silence_where around None told = told
silence_where around (Some age) told = with_line (device_silent around.at age) told

abbrev pub silence_told : Around → Told → Told
silence_told around told =
    silence_where around (silence_of_device told.news.device around.tick around.timeout)
    (record told { news = record told.news { device = after_miss told.news.device around.tick around.timeout } })

abbrev pub device_told : Around → Entered → Told → Told
device_told around entered told =
    silence_told around
    (answer_where around (answer_taken told.news.device entered around.view)
    (record told { news = record told.news { device = after_taking told.news.device entered around.tick around.view } }))

-- an image that is lost, or is back
abbrev pub image_line : Moment → ImageNews → EventText
image_line at news = if news.is_lost then image_lost at news.image else image_back at news.image

abbrev pub image_where : Around → Option ImageNews → Told → Told
image_where around None told = told
image_where around (Some news) told = with_line (image_line around.at news) told

abbrev pub image_known : Around → Told → Told
image_known around told =
    image_where around (option_map (image_news told.news.images) (place_of_news told.news.images))
    (record told { news = record told.news { images = after_news told.news.images (place_of_news told.news.images) } })

abbrev pub image_told : Around → Told → Told
image_told around told = image_known around (record told { news = after_opening around.opened told.news })

-- of which node an event of the node of a rank tells
abbrev pub subject_of : Event → Rank → Option Rank
subject_of (event.Claimed incarnation) me = Some me
subject_of (event.FenceAsked of) me = Some of
subject_of (event.FenceWritten of ok) me = Some of
subject_of (event.Licence of) me = Some of
subject_of other me = None

abbrev pub named_where : Around → Option Rank → EventText → EventText
named_where around None line = line
named_where around (Some rank) line = named_line (name_at around.names rank.0) line

-- the line of an event before which so many stops failed
abbrev pub event_text : Around → ℕ → ℕ → Event → EventText
event_text around msgwait failed event =
    named_where around (subject_of event around.me)
    (record (event_line around.at around.nodes.now msgwait event) {
      words = with_words (event_line around.at around.nodes.now msgwait event).words (failed_words failed);
    })

-- how many stops failed before what an event tells, where it is told
abbrev pub failed_before : Around → Event → Stops → Option ℕ
failed_before around event.StopAsked stops =
    then_some ((after_asking stops around.tick around.loop_ms).failed == 0) 0
failed_before around (event.StopAnswered ok) stops = count_told stops ok
failed_before around other stops = Some 0

abbrev pub stops_after : Around → Event → Stops → Stops
stops_after around event.StopAsked stops = after_asking stops around.tick around.loop_ms
stops_after around other stops = stops

abbrev pub event_where : Around → Event → Option ℕ → Told → Told
event_where around event None told = told
event_where around event (Some failed) told = with_line (event_text around told.news.msgwait failed event) told

abbrev pub event_told : Around → Event → Told → Told
event_told around event told =
    event_where around event (failed_before around event told.news.stops)
    (record told { news = record told.news { stops = stops_after around event told.news.stops } })

unfoldable pub events_told : Around → List Event → Told → Told
events_told around [] told = told
events_told around (event ∷ events) told = events_told around events (event_told around event told)

-- what is said seldom
abbrev pub late_where : Around → Option ℕ → Told → Told
late_where around None told = told
late_where around (Some count) told = with_line (feeds_failed around.at count) told

abbrev pub late_told : Around → Told → Told
late_told around told =
    late_where around (due_count told.news.late around.tick)
    (record told { news = record told.news { late = after_due told.news.late around.tick } })

abbrev pub refused_where : Around → Option ℕ → Told → Told
refused_where around None told = told
refused_where around (Some count) told = with_line (packets_refused around.at count) told

abbrev pub refused_told : Around → Told → Told
refused_told around told =
    refused_where around (due_count told.news.refused around.tick)
    (record told { news = record told.news { refused = after_due told.news.refused around.tick } })

abbrev pub seldom_told : Around → Told → Told
seldom_told around told = refused_told around (late_told around told)

-- a turn in which the node was handed that entry, of which these events are told
abbrev pub turned : Around → What → List Event → Told → Told
turned around entry events told =
    seldom_told around
    (events_told around events
    (image_told around
    (device_told around (entered entry)
    (missed around (greeted around (entered_told around (entered entry) told))))))

-- The events of a call, of a run whose observer was handed the calls before it: those of the entry that was taken in, or that of the answer.
pub record AreEvents (asked : Asked) (given : Given) (run : NodeRun) (before after : Observer) (events : List Event) : Type 0 where
  pub told : (log : List Line) → takes asked given run ≡ true → IsUpTo before run.settings run.me.0 log → TookIn run log given.tick
      → events ≡ told_of_entry run.settings run.me.0 log (last_entry run)
  pub goes_on : (log : List Line) → takes asked given run ≡ true → TookIn run log given.tick
      → IsUpTo after run.settings run.me.0 (with_entry run.settings run.me.0 log (last_entry run))
  pub answered : takes asked given run ≡ false → events ≡ option_to_list (answered asked given)
  pub stays : takes asked given run ≡ false → after ≡ before

-- a call of which these events are told: a turn, or another one
abbrev pub call_told : Around → Bool → What → List Event → Told → Told
call_told around is_turn entry events told = if is_turn then turned around entry events told else events_told around events told

-- The lines of a call are told, with what surrounds it.
pub record IsTold (around : Around) (asked : Asked) (given : Given) (run : NodeRun) (before after : Told) : Type 0 where
  pub observer : Observer
  pub events : List Event
  pub are : AreEvents asked given run before.news.observer observer events
  pub is : after
      ≡ call_told around (takes asked given run) run.entry events (record before { news = record before.news { observer = observer } })

-- What a node was handed, of which more is told than its events (this project's profile).
use Rattle.qn_model.specs.declared.entries.What.{What}
use Rattle.qn_model.specs.declared.entries.What.TheVariants as what
use Rattle.qn_model.specs.declared.seen.HeaderSeen.TheVariants as header
use Rattle.qn_told.specs.declared.entered.Entered.{Entered}
use Rattle.qn_told.specs.declared.entered.Entered.TheVariants.{Header, Mail, View, Device, Stopped, Nothing}

abbrev pub entered : What → Entered
entered what.Begin = Nothing
entered what.BeginClean = Nothing
entered (what.Header (header.Read nodes timing)) = Header timing.msgwait
entered (what.Header header.NotImage) = Nothing
entered (what.Header header.Failed) = Nothing
entered (what.SlotRead rank seen) = Nothing
entered (what.MailChecked seen) = Mail seen
entered (what.Claimed ok) = Nothing
entered (what.Cleared ok) = Nothing
entered (what.MailRead seen) = Mail seen
entered (what.MailWritten rank ok) = Nothing
entered (what.View view) = View
entered (what.Ask ask) = Nothing
entered (what.Tell tell) = Nothing
entered (what.Device agrees) = Device agrees
entered what.Tick = Nothing
entered (what.Stopped ok) = Stopped ok
entered what.Leave = Nothing
entered (what.Closed ok) = Nothing

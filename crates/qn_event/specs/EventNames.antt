-- The names of what happened, one for who writes a line of a journal and for who reads it (this project's profile, LIVE.md "The journal").
use Rattle.std.specs.Prelude.{ℕ, List, [], ◌∷◌, Option, codes, find}
use Rattle.std.specs.Str.{bytes_eq}
use Rattle.qn_event.specs.declared.event_name.EventName.{EventName}
use Rattle.qn_event.specs.declared.event_name.EventName.TheVariants as event

-- the word of a line
abbrev pub event_word : EventName → List ℕ
event_word event.Open = codes "open"
event_word event.Phase = codes "phase"
event_word event.Claimed = codes "claimed"
event_word event.View = codes "view"
event_word event.Released = codes "released"
event_word event.QuorumWon = codes "quorum-won"
event_word event.QuorumLost = codes "quorum-lost"
event_word event.Why = codes "why"
event_word event.FenceAsked = codes "fence-asked"
event_word event.FenceWritten = codes "fence-written"
event_word event.Licence = codes "licence"
event_word event.StartAsked = codes "start-asked"
event_word event.StopAsked = codes "stop-asked"
event_word event.Start = codes "start"
event_word event.Stop = codes "stop"
event_word event.Disarm = codes "disarm"
event_word event.HoldWon = codes "hold-won"
event_word event.HoldLost = codes "hold-lost"
event_word event.Halt = codes "halt"
event_word event.Mail = codes "mail"
event_word event.MailDamaged = codes "mail-damaged"
event_word event.MailFailed = codes "mail-failed"
event_word event.PeerSeen = codes "peer-seen"
event_word event.PeerLost = codes "peer-lost"
event_word event.NetworkLost = codes "network-lost"
event_word event.NetworkBack = codes "network-back"
event_word event.ImageLost = codes "image-lost"
event_word event.ImageBack = codes "image-back"
event_word event.Device = codes "device"
event_word event.DeviceSilent = codes "device-silent"
event_word event.Standing = codes "standing"
event_word event.StandingRefused = codes "standing-refused"
event_word event.Feed = codes "feed"
event_word event.PacketsRefused = codes "packets-refused"
event_word event.LinesDropped = codes "lines-dropped"
event_word event.End = codes "end"
event_word event.ArbiterOpen = codes "arbiter-open"
event_word event.Vote = codes "vote"

abbrev pub event_names : List EventName
event_names =
    event.Open ∷ event.Phase ∷ event.Claimed ∷ event.View ∷ event.Released ∷ event.QuorumWon
    ∷ event.QuorumLost ∷ event.Why ∷ event.FenceAsked ∷ event.FenceWritten ∷ event.Licence
    ∷ event.StartAsked ∷ event.StopAsked ∷ event.Start ∷ event.Stop ∷ event.Disarm
    ∷ event.HoldWon ∷ event.HoldLost ∷ event.Halt ∷ event.Mail ∷ event.MailDamaged
    ∷ event.MailFailed ∷ event.PeerSeen ∷ event.PeerLost ∷ event.NetworkLost ∷ event.NetworkBack
    ∷ event.ImageLost ∷ event.ImageBack ∷ event.Device ∷ event.DeviceSilent ∷ event.Standing
    ∷ event.StandingRefused ∷ event.Feed ∷ event.PacketsRefused ∷ event.LinesDropped ∷ event.End
    ∷ event.ArbiterOpen ∷ event.Vote ∷ []

-- what happened by a word of a line
unfoldable pub event_named : List ℕ → Option EventName
event_named word = find (λ name. bytes_eq (event_word name) word) event_names

use Rattle.std.proofs.Common.{◌≡◌, Some, refl}
use Rattle.qn_event.specs.declared.event_name.EventName.{EventName}
use Rattle.qn_event.specs.declared.event_name.EventName.TheVariants as event
use Rattle.qn_event.specs.EventNames.{event_named, event_word}
use Rattle.qn_event.proofs.laws.law_event_names_read_back.Goals as goal

-- each name, found by its word
name_read : (name : EventName) → event_named (event_word name) ≡ Some name
unfolding event_named
name_read event.Open = refl
name_read event.Phase = refl
name_read event.Claimed = refl
name_read event.View = refl
name_read event.Released = refl
name_read event.QuorumWon = refl
name_read event.QuorumLost = refl
name_read event.Why = refl
name_read event.FenceAsked = refl
name_read event.FenceWritten = refl
name_read event.Licence = refl
name_read event.StartAsked = refl
name_read event.StopAsked = refl
name_read event.Start = refl
name_read event.Stop = refl
name_read event.Disarm = refl
name_read event.HoldWon = refl
name_read event.HoldLost = refl
name_read event.Halt = refl
name_read event.Mail = refl
name_read event.MailDamaged = refl
name_read event.MailFailed = refl
name_read event.PeerSeen = refl
name_read event.PeerLost = refl
name_read event.NetworkLost = refl
name_read event.NetworkBack = refl
name_read event.ImageLost = refl
name_read event.ImageBack = refl
name_read event.Device = refl
name_read event.DeviceSilent = refl
name_read event.Standing = refl
name_read event.StandingRefused = refl
name_read event.Feed = refl
name_read event.PacketsRefused = refl
name_read event.LinesDropped = refl
name_read event.End = refl
name_read event.ArbiterOpen = refl
name_read event.Vote = refl

pub returns : goal.returns
returns c = name_read

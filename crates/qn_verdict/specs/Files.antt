-- What the status file of one node says, and when it says nothing of now. This project's profile.
use Rattle.std.specs.Prelude.{ℕ, Bool, true, false, ◌+◌, ◌-◌, ◌*◌, ◌==◌, ◌||◌, List, [], Option, Some, None, is_some, if◌then◌else◌, nat_le, nat_lt}
use Rattle.std.specs.Option.{option_map_or}
use Rattle.qn_base.specs.declared.ids.NodeId.{NodeId}
use Rattle.qn_model.specs.declared.disk.Message.TheVariants as message
use Rattle.qn_shown.specs.declared.shown.Arbiter.{Arbiter}
use Rattle.qn_shown.specs.declared.shown.Shown.{Shown}
use Rattle.qn_shown.specs.declared.shown.ShownView.{ShownView}
use Rattle.qn_shown.specs.declared.words.DeviceAnswer.{DeviceAnswer}
use Rattle.qn_shown.specs.declared.words.DeviceAnswer.TheVariants.{Yes, No, Silent}
use Rattle.qn_shown.specs.declared.words.MailState.{MailState}
use Rattle.qn_shown.specs.declared.words.MailState.TheVariants.{Holds, Damaged, Failed, Unread}

-- the loop of the node in milliseconds: a second before it knows its image
abbrev pub loop_of : Shown → ℕ
loop_of file = if file.loop_ms == 0 then 1000 else file.loop_ms

-- A file says nothing of now where its node has ended, where its tick is after now, as in another boot of the host, and where it
-- is older than three loops and a second.
abbrev pub is_stale : ℕ → Shown → Bool
is_stale now file = is_some file.end || nat_lt now file.tick || nat_lt (3 * loop_of file + 1000) (now - file.tick)

abbrev pub members_of : Option ShownView → List NodeId
members_of (Some view) = view.members.items
members_of None = []

-- no message but a test waits in the mailbox, as far as it was read
abbrev pub is_quiet : MailState → Bool
is_quiet (Holds message.Empty) = true
is_quiet (Holds message.Test) = true
is_quiet (Holds message.Reset) = false
is_quiet (Holds message.Off) = false
is_quiet (Holds message.Exit) = false
is_quiet (Holds message.Crashdump) = false
is_quiet Damaged = false
is_quiet Failed = false
is_quiet Unread = true

-- an answer of the arbiter counts
abbrev pub is_answer : DeviceAnswer → Bool
is_answer Yes = true
is_answer No = true
is_answer Silent = false

-- an answer of the arbiter counts, or the last one is at most three loops old
abbrev pub is_answered : Shown → Arbiter → Bool
is_answered file arbiter = is_answer arbiter.answer || nat_le arbiter.age_ms (3 * loop_of file)

-- the arbiter of the node, where it polls one, answers
abbrev pub is_arbiter_well : Shown → Bool
is_arbiter_well file = option_map_or (is_answered file) file.arbiter true

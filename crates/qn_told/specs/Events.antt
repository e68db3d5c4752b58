-- What a line of the journal says of an event: its name, its level and its words (this project's profile, LIVE.md "The journal").
use Rattle.std.specs.Prelude.{ℕ, Bool, List, [], ◌∷◌, ◌++◌, ◌-◌, ◌/◌, ◌%◌, ◌^◌, ◌&&◌, nat_le, nat_lt, codes, decimal, length, slice_index, Option, None, Some, if◌then◌else◌}
use Rattle.qn_base.specs.declared.ids.View.{View}
use Rattle.qn_base.specs.Candidates.{is_barred}
use Rattle.qn_base.specs.Members.{is_member}
use Rattle.qn_event.specs.EventTexts.{EventText}
use Rattle.qn_event.specs.declared.event_name.EventName.{EventName}
use Rattle.qn_event.specs.declared.event_name.EventName.TheVariants as name
use Rattle.qn_event.specs.declared.level.Level.{Level}
use Rattle.qn_event.specs.declared.level.Level.TheVariants.{Error, Warning, Notice, Information}
use Rattle.qn_event.specs.declared.moment.Moment.{Moment}
use Rattle.qn_model.specs.declared.nodelist.NodeEntry.{NodeEntry}
use Rattle.qn_model.specs.declared.outputs.HaltKind.{HaltKind}
use Rattle.qn_model.specs.declared.outputs.HaltKind.TheVariants.{Deadly, Boot}
use Rattle.qn_model.specs.declared.votes.Answer.{Answer}
use Rattle.qn_model.specs.Messages.{message_name}
use Rattle.qn_model.specs.Settings.{ids}
use Rattle.qn_notice.specs.declared.kinds.Event.{Event}
use Rattle.qn_notice.specs.declared.kinds.Event.TheVariants as event
use Rattle.qn_names.specs.MemberWords.{member_word}
use Rattle.qn_names.specs.PhaseNames.{phase_name}
use Rattle.qn_names.specs.CauseNumbers.{cause_number}
use Rattle.qn_names.specs.WhyTexts.{why_text}
use Rattle.qn_event.specs.WholeLines.{Word, line, number, text, truth}

-- the name of an event
abbrev pub name_of : Event → EventName
name_of (event.Phase from to) = name.Phase
name_of (event.Claimed incarnation) = name.Claimed
name_of (event.View view answer) = name.View
name_of event.Released = name.Released
name_of (event.QuorumWon answer) = name.QuorumWon
name_of (event.QuorumLost answer) = name.QuorumLost
name_of (event.Why why) = name.Why
name_of (event.FenceAsked of) = name.FenceAsked
name_of (event.FenceWritten of ok) = name.FenceWritten
name_of (event.Licence of) = name.Licence
name_of event.StartAsked = name.StartAsked
name_of event.StopAsked = name.StopAsked
name_of (event.StartAnswered ok) = name.Start
name_of (event.StopAnswered ok) = name.Stop
name_of (event.DisarmAnswered ok) = name.Disarm
name_of event.HoldWon = name.HoldWon
name_of event.HoldLost = name.HoldLost
name_of (event.Halt kind) = name.Halt

-- the level of an event
abbrev pub level_of : Event → Level
level_of (event.Phase from to) = Notice
level_of (event.Claimed incarnation) = Notice
level_of (event.View view answer) = Notice
level_of event.Released = Notice
level_of (event.QuorumWon answer) = Notice
level_of (event.QuorumLost answer) = Warning
level_of (event.Why why) = Information
level_of (event.FenceAsked of) = Warning
level_of (event.FenceWritten of ok) = if ok then Warning else Error
level_of (event.Licence of) = Information
level_of event.StartAsked = Notice
level_of event.StopAsked = Notice
level_of (event.StartAnswered ok) = if ok then Notice else Error
level_of (event.StopAnswered ok) = if ok then Notice else Warning
level_of (event.DisarmAnswered ok) = if ok then Notice else Error
level_of event.HoldWon = Notice
level_of event.HoldLost = Notice
level_of (event.Halt kind) = Error

-- the count of votes
abbrev pub answer_words : Answer → List Word
answer_words answer =
    truth (codes "quorate") answer.quorate
    ∷ number (codes "votes") answer.votes
    ∷ number (codes "quorum") answer.quorum
    ∷ number (codes "expected") answer.expected
    ∷ []

-- what the high byte of a view's number is
abbrev pub name_in : View → ℕ
name_in view = view.id / 2 ^ 56

-- it names a member of these nodes: it is one more than the rank
abbrev pub names_member : List NodeEntry → View → Bool
names_member nodes view =
    nat_lt 0 (name_in view) && nat_le (name_in view) (length nodes) && is_member view.members (name_in view - 1)

-- the id of the node that a view names as the one that may start, 0 where none may; None where it names none
abbrev pub candidate_of : List NodeEntry → View → Option ℕ
candidate_of nodes view =
    if is_barred view then Some 0
    else (if names_member nodes view then Some (slice_index (ids nodes) (name_in view - 1)) else None)

-- whom a view names, where it names anybody, and the count of votes
abbrev pub named_answer_words : Option ℕ → Answer → List Word
named_answer_words None answer = answer_words answer
named_answer_words (Some id) answer = number (codes "candidate") id ∷ answer_words answer

-- why a node halts: a deadly message by its name, or the cause of a boot that failed by its number
abbrev pub cause_text : HaltKind → List ℕ
cause_text (Deadly message) = message_name message
cause_text (Boot cause) = codes "boot-" ++ decimal (cause_number cause)

-- how many stops failed before one, one after the other, where one did
abbrev pub failed_words : ℕ → List Word
failed_words failed = if nat_lt 0 failed then number (codes "count") failed ∷ [] else []

-- the words of an event of one of these nodes, where msgwait is so long in milliseconds
abbrev pub words_of : List NodeEntry → ℕ → Event → List Word
words_of nodes msgwait (event.Phase from to) =
    text (codes "from") (phase_name from) ∷ text (codes "to") (phase_name to) ∷ []
words_of nodes msgwait (event.Claimed incarnation) = number (codes "incarnation") incarnation ∷ []
words_of nodes msgwait (event.View view answer) =
    number (codes "view") (view.id % 2 ^ 56)
    ∷ record { key = codes "members"; value = member_word (ids nodes) view.members; most = 250 }
    ∷ named_answer_words (candidate_of nodes view) answer
words_of nodes msgwait event.Released = []
words_of nodes msgwait (event.QuorumWon answer) = answer_words answer
words_of nodes msgwait (event.QuorumLost answer) = answer_words answer
words_of nodes msgwait (event.Why why) = text (codes "why") (why_text why) ∷ []
words_of nodes msgwait (event.FenceAsked of) = number (codes "of") (slice_index (ids nodes) of.0) ∷ []
words_of nodes msgwait (event.FenceWritten of ok) =
    number (codes "of") (slice_index (ids nodes) of.0) ∷ truth (codes "ok") ok ∷ number (codes "msgwait") msgwait ∷ []
words_of nodes msgwait (event.Licence of) =
    number (codes "of") (slice_index (ids nodes) of.0) ∷ text (codes "by") (codes "clean-slot") ∷ []
words_of nodes msgwait event.StartAsked = []
words_of nodes msgwait event.StopAsked = []
words_of nodes msgwait (event.StartAnswered ok) = truth (codes "ok") ok ∷ []
words_of nodes msgwait (event.StopAnswered ok) = truth (codes "ok") ok ∷ []
words_of nodes msgwait (event.DisarmAnswered ok) = truth (codes "ok") ok ∷ []
words_of nodes msgwait event.HoldWon = []
words_of nodes msgwait event.HoldLost = []
words_of nodes msgwait (event.Halt kind) = text (codes "cause") (cause_text kind) ∷ []

-- the line of an event: at that time, of one of these nodes, where msgwait is so long in milliseconds
abbrev pub event_line : Moment → List NodeEntry → ℕ → Event → EventText
event_line at nodes msgwait event = line at (level_of event) (name_of event) (words_of nodes msgwait event)

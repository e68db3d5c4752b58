-- What a call asks for says which call it is.
use Rattle.std.proofs.Common.{◌≡◌, refl, sym, ap, ◌∙◌}
use Rattle.qn_base.specs.declared.calls.Call.{Call}
use Rattle.qn_base.specs.declared.calls.Call.TheVariants as call
use Rattle.qn_live.specs.declared.asked.Asked.{Asked}
use Rattle.qn_live.specs.declared.asked.Asked.TheVariants as asked
use Rattle.qn_live.specs.declared.asked.Room.{Room}
use Rattle.qn_live.specs.Asking.{question_of}

-- what was asked, where a call is a question of a run
abbrev asked_by : Call → Asked
asked_by (call.OpenImage path ok) = asked.Receive
asked_by (call.OpenNode images image watchdog resource port rank ok) = asked.Receive
asked_by (call.Now tick) = asked.Now
asked_by (call.Receive got) = asked.Receive
asked_by (call.Read sector bytes ok) = asked.Read sector
asked_by (call.Write sector bytes ok) = asked.Write sector
asked_by (call.Feed ok) = asked.Feed
asked_by (call.Start ok) = asked.Start
asked_by (call.Stop ok) = asked.Stop
asked_by (call.Send to bytes ok) = asked.Send to
asked_by (call.Disarm ok) = asked.Disarm
asked_by (call.Halt code) = asked.Halt code

asked_again : (what : Asked) (room : Room) → asked_by (question_of what room) ≡ what
asked_again asked.Receive room = refl
asked_again asked.Now room = refl
asked_again (asked.Read sector) room = refl
asked_again (asked.Write sector) room = refl
asked_again asked.Feed room = refl
asked_again asked.Start room = refl
asked_again asked.Stop room = refl
asked_again (asked.Send to) room = refl
asked_again asked.Disarm room = refl
asked_again (asked.Halt code) room = refl

pub same_asked : (what wanted : Asked) (room wanted_room : Room) → question_of what room ≡ question_of wanted wanted_room → what ≡ wanted
same_asked what wanted room wanted_room same = sym (asked_again what room) ∙ ap asked_by same ∙ asked_again wanted wanted_room

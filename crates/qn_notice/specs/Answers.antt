-- What is told of the answer of a call: this project's profile.
use Rattle.std.specs.Prelude.{Option, None, Some}
use Rattle.qn_live.specs.declared.asked.Asked.{Asked}
use Rattle.qn_live.specs.declared.asked.Asked.TheVariants as asked
use Rattle.qn_live.specs.declared.asked.Given.{Given}
use Rattle.qn_notice.specs.declared.kinds.Event.{Event}
use Rattle.qn_notice.specs.declared.kinds.Event.TheVariants as event

abbrev pub answered : Asked → Given → Option Event
answered asked.Start given = Some (event.StartAnswered given.ok)
answered asked.Stop given = Some (event.StopAnswered given.ok)
answered asked.Disarm given = Some (event.DisarmAnswered given.ok)
answered asked.Receive given = None
answered asked.Now given = None
answered (asked.Read sector) given = None
answered (asked.Write sector) given = None
answered asked.Feed given = None
answered (asked.Send to) given = None
answered (asked.Halt code) given = None

-- The second clause of `law_no_two_holders`, as one word: after any allowed events at most one holder is reported.
--
-- A crate above cites it by a call. The function whose proof needs it, a law too, calls `law_no_two_holders();` in its
-- body; in its `Answers.antt` the clause is then `c.law_no_two_holders.ensures.reported`, a value of `OneReported`. A lemma
-- under that proof takes it as a parameter, `(one_reported : OneReported)`, and applies it as
-- `one_reported settings timing events i j safe allowed first second`.
use Rattle.std.specs.Prelude.{◌≡◌, ℕ, List, IsTrue}
use Rattle.qn_base.specs.Members.{is_member}
use Rattle.qn_model.specs.declared.configuration.Settings.{Settings}
use Rattle.qn_model.specs.declared.events.Event.{Event}
use Rattle.qn_model.specs.declared.times.Timing.{Timing}
use Rattle.qn_model.specs.Steps.{AllAllowed, holders, run}
use Rattle.qn_model.specs.Timing.{is_safe}

-- two ranks that are both reported as holders after allowed events are one
abbrev pub OneReported : Type 0
OneReported =
    (s : Settings) (t : Timing) (events : List Event) (i j : ℕ)
    → IsTrue (is_safe t)
    → AllAllowed s t events
    → IsTrue (is_member (holders s (run s t events)) i)
    → IsTrue (is_member (holders s (run s t events)) j)
    → i ≡ j

-- How far an observer of a run has come: this project's profile.
use Rattle.std.specs.Prelude.{◌≡◌, ℕ, Bool, ◌&&◌, ◌==◌, List, [], unwrap_or}
use Rattle.qn_model.specs.declared.configuration.Settings.{Settings}
use Rattle.qn_model.specs.Log.{Line}
use Rattle.qn_live.specs.declared.asked.Asked.{Asked}
use Rattle.qn_live.specs.declared.asked.Given.{Given}
use Rattle.qn_live.specs.declared.run.NodeRun.{NodeRun}
use Rattle.qn_live.specs.Asking.{is_look}
use Rattle.qn_live.specs.Standings.{standing}
use Rattle.qn_notice.specs.declared.observer.Observer.{Observer}

-- the observer was handed the calls up to the last entry of this log
abbrev pub IsUpTo : Observer → Settings → ℕ → List Line → Type 0
IsUpTo observer s me log = unwrap_or observer.before (standing s me []) ≡ standing s me log

-- the run took an entry in at this call: a look at the clock that did not go back
abbrev pub takes : Asked → Given → NodeRun → Bool
takes asked given run = is_look asked && given.tick == run.tick

-- The journal of a node: what is told of all that it was handed. This project's profile.
use Rattle.std.specs.Prelude.{ℕ, List, [], ◌∷◌, ◌++◌}
use Rattle.qn_model.specs.declared.configuration.Settings.{Settings}
use Rattle.qn_model.specs.declared.entries.Entry.{Entry}
use Rattle.qn_model.specs.Log.{Line}
use Rattle.qn_model.specs.NodeOutputs.{newest_outs, with_entry}
use Rattle.qn_live.specs.Standings.{standing}
use Rattle.qn_notice.specs.declared.kinds.Event.{Event}
use Rattle.qn_notice.specs.Events.{events}

-- what is told of an entry that is handed to a node after this log
abbrev pub told : Settings → ℕ → List Line → Entry → List Event
told s me past entry =
    events
    (standing s me past)
    (standing s me (with_entry s me past entry))
    entry.what
    (newest_outs (with_entry s me past entry))

-- what is told of the entries that follow a log
unfoldable pub journal_from : Settings → ℕ → List Line → List Entry → List Event
journal_from s me past [] = []
journal_from s me past (entry ∷ history) =
    told s me past entry ++ journal_from s me (with_entry s me past entry) history

-- what is told of a history, from the boot on
abbrev pub journal_of : Settings → ℕ → List Entry → List Event
journal_of s me history = journal_from s me [] history

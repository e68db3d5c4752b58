-- What a line of the journal says of the opening, of datagrams, of lines and of what the host says of its node (this project's profile, LIVE.md "The journal").
use Rattle.std.specs.Prelude.{ℕ, Bool, List, [], ◌∷◌, ◌+◌, ◌-◌, ◌%◌, ◌^◌, codes, min, if◌then◌else◌}
use Rattle.qn_event.specs.EventTexts.{EventText}
use Rattle.qn_event.specs.WholeLines.{Word, line, number, truth}
use Rattle.qn_event.specs.declared.event_name.EventName.TheVariants as name
use Rattle.qn_event.specs.declared.level.Level.TheVariants.{Error, Warning, Notice}
use Rattle.qn_event.specs.declared.moment.Moment.{Moment}
use Rattle.qn_io.specs.declared.calls.Opening.{Opening}
use Rattle.qn_machine.specs.declared.refusals.Refusals.{Refusals}
use Rattle.qn_machine.specs.declared.standing_text.StandingFault.{StandingFault}
use Rattle.qn_machine.specs.declared.standing_text.StandingFault.TheVariants as fault
use Rattle.qn_shown.specs.declared.shown.HostStanding.{HostStanding}

-- a path, of which a line has at most 100 bytes
abbrev pub path : List ℕ → List ℕ → Word
path key value = record { key = key; value = value; most = 100 }

-- what a node opens, and whether all of it was opened. It listens at the first port of the cluster and its rank together
abbrev pub opening_line : Moment → Opening → Bool → EventText
opening_line at opening ok =
    line at (if ok then Notice else Error) name.Open
    (number (codes "port") ((opening.port + opening.rank.0) % 2 ^ 16)
    ∷ path (codes "image") opening.image.now
    ∷ path (codes "resource") opening.resource.now
    ∷ path (codes "watchdog") opening.watchdog.now
    ∷ truth (codes "ok") ok
    ∷ [])

-- how many datagrams were not handed on, at most the greatest u64
abbrev pub all_refused : Refusals → ℕ
all_refused refusals = min (2 ^ 64 - 1) (refusals.unsealed + refusals.astray + refusals.stale + refusals.elsewhere)

-- how many datagrams were not handed on, and why
abbrev pub refusals_line : Moment → Refusals → EventText
refusals_line at refusals =
    line at Warning name.PacketsRefused
    (number (codes "count") (all_refused refusals)
    ∷ number (codes "unsealed") refusals.unsealed
    ∷ number (codes "astray") refusals.astray
    ∷ number (codes "old") refusals.stale
    ∷ number (codes "elsewhere") refusals.elsewhere
    ∷ [])

-- so many lines had no room
abbrev pub dropped_line : Moment → ℕ → EventText
dropped_line at count = line at Warning name.LinesDropped (number (codes "count") count ∷ [])

abbrev pub switch_word : Bool → List ℕ
switch_word is_on = if is_on then codes "on" else codes "off"

abbrev pub switch : List ℕ → Bool → Word
switch key is_on = record { key = key; value = switch_word is_on; most = 3 }

-- what the host says of its node now
abbrev pub standing_line : Moment → HostStanding → EventText
standing_line at said =
    line at Notice name.Standing
    (switch (codes "standby") said.standby
    ∷ truth (codes "fit") said.fit
    ∷ switch (codes "pull") said.pull
    ∷ number (codes "weight") said.weight
    ∷ [])

-- why the file in which the host says it is none: the number of its first line that is none, or what else is wrong
abbrev pub refusal_words : StandingFault → List Word
refusal_words (fault.Line place) = number (codes "line") place ∷ []
refusal_words fault.Length = record { key = codes "why"; value = codes "length"; most = 6 } ∷ []
refusal_words fault.File = record { key = codes "why"; value = codes "file"; most = 6 } ∷ []

abbrev pub refused_standing_line : Moment → StandingFault → EventText
refused_standing_line at why = line at Warning name.StandingRefused (refusal_words why)

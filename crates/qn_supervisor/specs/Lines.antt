-- The lines that a supervisor writes, word by word: this project's profile.
use Rattle.std.specs.Prelude.{ℕ, ◌^◌, ◌<◌, ◌≤◌, Bool, true, false, List, [], ◌∷◌, codes, decimal}
use Rattle.qn_group.specs.declared.group.Event.{Event}
use Rattle.qn_group.specs.declared.group.Event.TheVariants as event
use Rattle.qn_supervisor.specs.declared.line.Line.{Line}
use Rattle.qn_supervisor.specs.declared.line.Line.TheVariants as line
use Rattle.qn_supervisor.specs.Words.{outcome_word, verb_word}

-- whether the node holds; whether maintenance is on
abbrev pub held_word : Bool → List ℕ
held_word true = codes "held"
held_word false = codes "released"

abbrev pub switch_word : Bool → List ℕ
switch_word true = codes "on"
switch_word false = codes "off"

abbrev pub event_words : Event → List (List ℕ)
event_words (event.Tick tick) = codes "tick" ∷ decimal tick ∷ []
event_words event.Start = codes "start" ∷ []
event_words event.Stop = codes "stop" ∷ []
event_words event.Move = codes "move" ∷ []
event_words (event.Maintenance on) = codes "maintenance" ∷ switch_word on ∷ []
event_words (event.Ended at verb outcome) = codes "ended" ∷ decimal at ∷ verb_word verb ∷ outcome_word outcome ∷ []

-- the words of a line, with one space between two of them
abbrev pub line_words : Line → List (List ℕ)
line_words (line.Resource rule) =
    codes "resource" ∷ decimal rule.interval ∷ decimal rule.patience ∷ decimal rule.check ∷ decimal rule.stop ∷ decimal rule.limit ∷ decimal rule.window ∷ []
line_words (line.Loop turn) = codes "loop" ∷ decimal turn ∷ []
line_words (line.Begin held) = codes "begin" ∷ held_word held ∷ []
line_words (line.Failed at tick) = codes "failed" ∷ decimal at ∷ decimal tick ∷ []
line_words (line.Happens happened) = event_words happened

-- times are numbers of 64 bits, a place is that of one of 16 resources, a loop is at most an hour
abbrev pub IsTime : ℕ → Type 0
IsTime time = time < 2 ^ 64

abbrev pub FitsEvent : Event → Type 0
FitsEvent (event.Tick tick) = IsTime tick
FitsEvent event.Start = Unit {0}
FitsEvent event.Stop = Unit {0}
FitsEvent event.Move = Unit {0}
FitsEvent (event.Maintenance on) = Unit {0}
FitsEvent (event.Ended at verb outcome) = at < 16

abbrev pub Fits : Line → Type 0
Fits (line.Resource rule) =
    IsTime rule.interval × IsTime rule.patience × IsTime rule.check × IsTime rule.stop × (rule.limit < 2 ^ 32) × IsTime rule.window
Fits (line.Loop turn) = turn ≤ 3600000
Fits (line.Begin held) = Unit {0}
Fits (line.Failed at tick) = (at < 16) × IsTime tick
Fits (line.Happens happened) = FitsEvent happened

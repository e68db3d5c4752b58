-- Events that the rules allow, whatever their numbers: this project's profile.
use Rattle.std.specs.Prelude.{◌≡◌, ℕ, Bool, true, List, [], ◌∷◌, None}
use Rattle.qn_model.specs.declared.configuration.Settings.{Settings}
use Rattle.qn_model.specs.declared.times.Timing.{Timing}
use Rattle.qn_model.specs.declared.events.Event.{Event}
use Rattle.qn_model.specs.declared.events.Event.TheVariants as event
use Rattle.qn_model.specs.Moments.{is_holder}
use Rattle.qn_model.specs.Rules.{is_configured, refusal}
use Rattle.qn_model.specs.Steps.{run}

-- a node that boots is configured
abbrev pub is_ranked : Settings → Event → Bool
is_ranked s (event.Boot rank base) = is_configured s rank.0
is_ranked s (event.BootClean rank base) = is_configured s rank.0
is_ranked s (event.Pass dt clocks) = true
is_ranked s (event.Crash rank) = true
is_ranked s (event.Land rank) = true
is_ranked s (event.Done rank) = true
is_ranked s (event.Fail rank) = true
is_ranked s (event.Late rank number) = true
is_ranked s (event.View rank view) = true
is_ranked s (event.Deliver rank number) = true
is_ranked s (event.Device rank agrees) = true
is_ranked s (event.Tick rank) = true
is_ranked s (event.Stopped rank) = true
is_ranked s (event.Unstopped rank) = true
is_ranked s (event.Leave rank) = true
is_ranked s (event.Feed rank) = true
is_ranked s (event.Operator rank message) = true

-- each of the events, of which the newest stands first, is allowed by the rules in its turn
unfoldable pub AllMay : Settings → Timing → List Event → Type 0
AllMay s t [] = Unit {0}
AllMay s t (event ∷ earlier) =
    (is_ranked s event ≡ true) × (refusal s t event (run s t earlier) ≡ None) × AllMay s t earlier

-- at most one node holds after events that the rules allow, whatever their numbers
abbrev pub OneMayHold : Settings → Timing → Type 0
OneMayHold s t =
    (events : List Event) (i j : ℕ)
    → AllMay s t events
    → is_holder s (run s t events).moments i ≡ true
    → is_holder s (run s t events).moments j ≡ true
    → i ≡ j

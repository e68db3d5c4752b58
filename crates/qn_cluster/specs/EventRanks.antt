-- The ranks of well formed events: a law of the definitions, for the crates above.
use Rattle.std.proofs.Common.{◌≡◌, ◌<◌, true, length, Some, subst}
use Rattle.std.proofs.lemmas.Bool.{ltb-true}
use Rattle.qn_base.specs.declared.ids.Rank.{Rank}
use Rattle.qn_base.specs.lemmas.Bools.{first_of_both}
use Rattle.qn_model.specs.declared.configuration.Settings.{Settings}
use Rattle.qn_model.specs.declared.events.Event.{Event}
use Rattle.qn_model.specs.declared.events.Event.TheVariants as event
use Rattle.qn_model.specs.Rules.{is_configured, is_well_formed}
use Rattle.qn_model.specs.Steps.{touched}

-- the rank that a well formed event touches is configured
configured : (s : Settings) (event : Event) (rank : Rank) → is_well_formed s event ≡ true → touched event ≡ Some rank → is_configured s rank.0 ≡ true
unfolding is_well_formed
configured s (event.Pass dt clocks) rank formed e = absurd (cc)
configured s (event.Boot own base) rank formed e = let z : own ≡ rank = cc in subst (λ r. is_configured s r.0 ≡ true) z (first_of_both _ _ formed)
configured s (event.BootClean own base) rank formed e = let z : own ≡ rank = cc in subst (λ r. is_configured s r.0 ≡ true) z (first_of_both _ _ formed)
configured s (event.Crash own) rank formed e = let z : own ≡ rank = cc in subst (λ r. is_configured s r.0 ≡ true) z formed
configured s (event.Land own) rank formed e = let z : own ≡ rank = cc in subst (λ r. is_configured s r.0 ≡ true) z formed
configured s (event.Done own) rank formed e = let z : own ≡ rank = cc in subst (λ r. is_configured s r.0 ≡ true) z formed
configured s (event.Fail own) rank formed e = let z : own ≡ rank = cc in subst (λ r. is_configured s r.0 ≡ true) z formed
configured s (event.Late own number) rank formed e = let z : own ≡ rank = cc in subst (λ r. is_configured s r.0 ≡ true) z (first_of_both _ _ formed)
configured s (event.View own view) rank formed e = let z : own ≡ rank = cc in subst (λ r. is_configured s r.0 ≡ true) z (first_of_both _ _ (first_of_both _ _ formed))
configured s (event.Deliver own number) rank formed e = let z : own ≡ rank = cc in subst (λ r. is_configured s r.0 ≡ true) z (first_of_both _ _ formed)
configured s (event.Device own agrees) rank formed e = let z : own ≡ rank = cc in subst (λ r. is_configured s r.0 ≡ true) z formed
configured s (event.Tick own) rank formed e = let z : own ≡ rank = cc in subst (λ r. is_configured s r.0 ≡ true) z formed
configured s (event.Stopped own) rank formed e = let z : own ≡ rank = cc in subst (λ r. is_configured s r.0 ≡ true) z formed
configured s (event.Unstopped own) rank formed e = let z : own ≡ rank = cc in subst (λ r. is_configured s r.0 ≡ true) z formed
configured s (event.Leave own) rank formed e = let z : own ≡ rank = cc in subst (λ r. is_configured s r.0 ≡ true) z formed
configured s (event.Feed own) rank formed e = let z : own ≡ rank = cc in subst (λ r. is_configured s r.0 ≡ true) z formed
configured s (event.Operator own message) rank formed e = let z : own ≡ rank = cc in subst (λ r. is_configured s r.0 ≡ true) z formed

pub rank_configured : (s : Settings) (event : Event) (rank : Rank) → is_well_formed s event ≡ true → touched event ≡ Some rank → rank.0 < length s.nodes
rank_configured s event rank formed e = ltb-true rank.0 (length s.nodes) (configured s event rank formed e)

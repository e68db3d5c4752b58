-- What is reported of an event.
use Rattle.std.proofs.Common.{◌≡◌, ℕ, true, List, Some, None, sym, ◌∙◌, ap, if◌then◌else◌, ◌&&◌}
use Rattle.std.specs.Prelude.{Option, unwrap_or}
use Rattle.std.specs.Option.{option_map}
use Rattle.qn_base.specs.declared.ids.View.{View}
use Rattle.qn_base.specs.declared.ids.Mask.{Mask}
use Rattle.qn_base.specs.declared.ids.Rank.{Rank}
use Rattle.qn_model.specs.declared.configuration.Settings.{Settings}
use Rattle.qn_model.specs.declared.events.Event.{Event}
use Rattle.qn_model.specs.declared.life.Why.{Why}
use Rattle.qn_model.specs.declared.outputs.Out.{Out}
use Rattle.qn_model.specs.declared.votes.Answer.{Answer}
use Rattle.qn_model.specs.Log.{incarnation}
use Rattle.qn_model.specs.Moments.{Running, tick_of, time}
use Rattle.qn_model.specs.Phases.{is_up, phase}
use Rattle.qn_node.specs.Node.{present}
use Rattle.qn_model.specs.Rules.{is_well_formed}
use Rattle.qn_model.specs.Steps.{holders, outs_after, report, touched}
use Rattle.qn_model.specs.World.{World}
use Rattle.qn_cluster.specs.EventRanks.{rank_configured}
use Rattle.qn_cluster.specs.Seen.{IsConfigured, answer_shown, polling, polls_now, report_at, why_shown}

-- the node of a well formed event is configured
pub touched_configured : (s : Settings) (event : Event) (node : Option Rank) → is_well_formed s event ≡ true → node ≡ touched event → IsConfigured s node
touched_configured s event None formed is = tt
touched_configured s event (Some rank) formed is = rank_configured s event rank formed (sym is)

-- what a node that is up and has a view polls with
pub polls_shown : (s : Settings) (node : Running) (tick number : ℕ) (shown : ℕ × View) → (node.on && is_up (phase s node.log)) ≡ true
    → tick ≡ tick_of node.clock → number ≡ unwrap_or (incarnation node.log) 0 → present node.log ≡ Some shown
    → Some (tick, number, shown.0, shown.1) ≡ polls_now s node
polls_shown s node tick number shown up ticks numbers shows =
    let seen : polls_now s node ≡ option_map (polling node) (Some shown) =
    ap (λ b. if b then option_map (polling node) (present node.log) else None) up ∙ ap (option_map (polling node)) shows in
    rw (ticks, numbers) (sym seen)

-- a report is that of the definitions where each part is
pub report_parts : (s : Settings) (d : World) (at : ℕ) (who : Option Rank) (outs : List Out) (held : Mask) (count : Answer) (lacks : Why)
    → at ≡ time d.moments → held ≡ holders s d → count ≡ answer_shown s who d.moments → lacks ≡ why_shown s who d.moments
    → record { time = at; touched = who; outs = outs; holders = held; answer = count; why = lacks } ≡ report_at s who outs d
report_parts s d at who outs held count lacks times holds counts whys = rw (times, holds, counts, whys)

-- the report of an event is that of the node that it touches
pub report_of_event : (s : Settings) (event : Event) (d : World) (who : Option Rank) (outs : List Out)
    → who ≡ touched event → outs ≡ outs_after s event d → report_at s who outs d ≡ report s event d
unfolding report
report_of_event s event d who outs touches gives = rw (touches, gives)

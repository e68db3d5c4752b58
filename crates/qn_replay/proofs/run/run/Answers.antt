use Rattle.std.proofs.Common.{Bool, ap, sym, subst, ◌∙◌, arith}
use Rattle.qn_base.specs.Rising.{HasRisen-within}
use Rattle.qn_playback.specs.ReplayLaws.{ends_in_head, stops_in_head, stops_without_world}
use Rattle.qn_replay.specs.EventWorlds.{traced_if}
use Rattle.qn_replay.proofs.Playbacks.{runs_on}
use Rattle.qn_replay.proofs.run.run.Goals as goal

pub returns-in-Err-clause-replays : goal.returns-in-Err-clause-replays
returns-in-Err-clause-replays g c =
    ends_in_head g.W.TakesEvents.replay c.new-pieces.result c.read_head.new.pieces c.new-pieces.ensures c.read_head.ensures.within c.in-Err.end
    (stops_in_head g.W.TakesEvents.replay c.in-Err.ensures.end)

pub returns-in_default-clause-replays : goal.returns-in_default-clause-replays
returns-in_default-clause-replays g c =
    ends_in_head g.W.TakesEvents.replay c.new-pieces.result c.read_head.new.pieces c.new-pieces.ensures c.read_head.ensures.within _
    (stops_without_world g.W.TakesEvents.replay c.in-Ok.head c.in-Ok.ensures.head)

pub new-playback-requires-clause-first : goal.new-playback-requires-clause-first
new-playback-requires-clause-first g c =
    subst (λ rules. g.W.TakesEvents.world.StandsFor c.in-Ok-begin.world rules.first) (sym c.in-Ok-begin.ensures.rules) c.in-Ok-begin.ensures.first

pub play-requires-clause-stands : goal.play-requires-clause-stands
play-requires-clause-stands g c = c.new-playback.ensures.begins

pub returns-clause-replays : goal.returns-clause-replays
returns-clause-replays g c =
    let kind = g.W.TakesEvents.world in
    let made = c.new-playback.ensures in
    let begun = c.in-Ok-begin.ensures in
    runs_on kind g.W.TakesEvents.replay c.new-playback.result c.play.new.world c.in-Ok.head
    (record {
      rules =
          ap (λ (traced : Bool). traced_if traced (kind.rules c.new-playback.result.world)) made.traced
          ∙ ap kind.rules made.world ∙ begun.rules;
      settings = ap kind.settings made.world ∙ begun.settings;
      timing = ap kind.timing made.world ∙ begun.timing;
      lines = made.head ∙ c.lines-lines.ensures.value;
    })
    c.new-pieces.result c.lines-lines.result c.new-pieces.ensures c.lines-lines.ensures.value c.in-Ok.ensures.head (λ earlier played. tt)
    (λ rose. HasRisen-within _ _ _ _ c.read_head.ensures.never_falls c.play.ensures.source_faults (omega arith) rose) c.play.ensures.runs

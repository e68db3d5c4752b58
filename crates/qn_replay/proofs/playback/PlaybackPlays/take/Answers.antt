use Rattle.std.proofs.Common.{◌∷◌, subst, sym}
use Rattle.std.proofs.lemmas.Result.{err_from_is_err_and}
use Rattle.qn_replay.specs.Playing.{HasPlayed}
use Rattle.qn_replay.proofs.Playbacks.{plays_line, refuses_line, stands_line, stays}
use Rattle.qn_replay.proofs.playback.PlaybackPlays.take.Goals as goal

pub returns-in_err-happen-clause-end : goal.returns-in_err-happen-clause-end
returns-in_err-happen-clause-end g c =
    let exit = err_from_is_err_and c.from_residual.result c.from_residual.ensures.1 in
    rw (exit.1, exit.2) (λ start earlier played. refuses_line g.W.TakesEvents.world start c.args.self.now c.args.line.now earlier played _ c.in_err-happen.ensures.end)

pub returns-clause-text : goal.returns-clause-text
returns-clause-text g c = λ start earlier played.
    plays_line g.W.TakesEvents.world start c.args.self.now c.args.line.now earlier played c.happen.new.self _ c.in_ok-happen.ensures.event c.write.ensures.line

pub returns-clause-stands : goal.returns-clause-stands
returns-clause-stands g c = λ start earlier played.
    let world = g.W.TakesEvents.world in
    let line = c.args.line.now in
    let stands = stands_line world start c.args.self.now line earlier played c.happen.new.self c.in_ok-happen.ensures.event c.happen.ensures.traced c.happen.ensures.rules in
    subst (λ playback. HasPlayed world start playback (line ∷ earlier)) (sym c.write.ensures.kept) (record { rules = stands.rules; after = stands.after })

pub returns-in_err-happen-clause-kept : goal.returns-in_err-happen-clause-kept
returns-in_err-happen-clause-kept g c =
    let exit = err_from_is_err_and c.from_residual.result c.from_residual.ensures.1 in
    rw (exit.1)
    (λ start earlier played. stays g.W.TakesEvents.world start c.args.self.now c.happen.new.self earlier c.in_err-happen.ensures.kept c.happen.ensures.head
    c.in_err-happen.ensures.kept_events c.happen.ensures.traced played)

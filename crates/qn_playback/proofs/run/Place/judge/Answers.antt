use Rattle.std.proofs.Common.{◌≡◌, List, ℕ, Result, IfErr, length, subst, sym}
use Rattle.qn_io.specs.declared.lines.LineRead.{LineRead}
use Rattle.qn_sched.specs.declared.replay_end.ReplayEnd.{ReplayEnd}
use Rattle.qn_playback.specs.Judging.{RefusesAt, judged}
use Rattle.qn_playback.specs.Lines.{Play, Taken, Wants}
use Rattle.qn_playback.proofs.run.Place.judge.Goals as goal

-- how a run ends at what was read of a line, whatever world it began with
abbrev Refuses : {W : Type 0} → (W → Play) → (W → Wants) → (W → Taken → Type 0) → ℕ → List ℕ → Result (Unit {0}) ReplayEnd → Type 0
Refuses {W} play wants standing count line result =
    IfErr result (λ end. (start : W) (earlier : Taken) → standing start earlier → length earlier ≡ count → RefusesAt (play start) (wants start) earlier line end)

pub returns-in-Line-clause-end : goal.returns-in-Line-clause-end
returns-in-Line-clause-end g c =
    subst (λ (what : LineRead). Refuses (λ start. judged (g.W.Plays.play start) c.args.self.now.head what) g.W.Plays.wants (λ start. g.W.Plays.stands start c.args.world.now) c.args.self.now.events c.args.line.now c.take.result)
    (sym c.in-Line.is) c.take.ensures.end

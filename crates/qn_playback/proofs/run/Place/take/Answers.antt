use Rattle.std.proofs.Common.{◌≢◌, length, ap, ◌∙◌, sym, Err, Result, List, ℕ}
use Rattle.std.proofs.lemmas.Result.{err_from_is_err_and}
use Rattle.qn_sched.specs.declared.replay_end.ReplayEnd.{ReplayEnd}
use Rattle.qn_playback.specs.Judging.{AtFault}
use Rattle.qn_playback.proofs.LineLaws.{line_of-many, line_of-within, refuses_within}
use Rattle.qn_playback.proofs.run.Place.take.Goals as goal

abbrev refused : ReplayEnd → Result (List ℕ) ReplayEnd
refused end = Err end

pub returns-then-self-eq-MOST_EVENTS-clause-end : goal.returns-then-self-eq-MOST_EVENTS-clause-end
returns-then-self-eq-MOST_EVENTS-clause-end g c = λ start earlier stands counted.
    AtFault
    (line_of-many (g.W.Plays.play start) c.args.self.now.head earlier c.args.line.now c.requires.short (counted ∙ c.if-self-eq-MOST_EVENTS.true)
    ∙ ap refused (sym (c.bad_line.ensures earlier counted)))

pub returns-in_err-take-clause-end : goal.returns-in_err-take-clause-end
returns-in_err-take-clause-end g c =
    let exit = err_from_is_err_and c.from_residual.result c.from_residual.ensures.1 in
    rw (exit.1, exit.2)
    (λ start earlier stands counted.
    let few : length earlier ≢ 200000 = λ many. c.if-self-eq-MOST_EVENTS.false (sym counted ∙ many) in
    refuses_within (g.W.Plays.play start) c.args.self.now.head earlier c.args.line.now (g.W.Plays.wants start) _ c.requires.short few (c.in_err-take.ensures.end start earlier stands))

pub returns-clause-text : goal.returns-clause-text
returns-clause-text g c = λ start earlier stands counted.
    let few : length earlier ≢ 200000 = λ many. c.if-self-eq-MOST_EVENTS.false (sym counted ∙ many) in
    line_of-within (g.W.Plays.play start) c.args.self.now.head earlier c.args.line.now c.requires.short few ∙ c.in_ok-take.ensures.text start earlier stands

use Rattle.std.proofs.Common.{◌≡◌, [], ◌∷◌, ◌++◌, List, Some, sym, ap, ◌∙◌, refl, subst, append-nil, append_assoc}
use Rattle.qn_base.specs.declared.calls.Call.{Call}
use Rattle.qn_base.specs.Calls.{blank}
use Rattle.qn_base.specs.Plans.{Follows, question, left}
use Rattle.qn_base.specs.PlanSteps.{follows_call, made_none, made_then}
use Rattle.qn_live.specs.Asking.{told, blank-told}
use Rattle.qn_live.specs.Images.{IsHeard, plan_on}
use Rattle.qn_live.specs.Running.{Ran}
use Rattle.qn_live.proofs.Shown.{over_follows, recorded_then, shows_then}
use Rattle.qn_live.proofs.running.run_on.Goals as goal

pub calls-init : goal.calls-init
calls-init g c = (
  [],
  plan_on c.args.images c.copy.result c.args.me.0 c.args.clean c.args.leave_at c.args.polls c.args.turns,
  c.new-run.ensures,
  made_none _ _,
  tt,
  refl,
  refl,
  (λ more value follows. rw (← c.copy.ensures) follows),
)

pub returns-in-Err : goal.returns-in-Err
returns-in-Err g c =
    let i = c.calls.invariant in
    let over = c.in-Err.ensures.over i.1 i.2 in
    let whole = plan_on c.args.images c.args.settings.now c.args.me.0 c.args.clean c.args.leave_at c.args.polls c.args.turns in
    let ran : Ran = record { end = _; log = over.0 } in
    let ended = over_follows i.1 ran over.1 in
    record {
      calls = i.0;
      log = over.0;
      made = i.3;
      recorded = i.4;
      shown = (i.5, (_, i.6, c.ended.ensures));
      follows = subst (λ (x : List Call). Follows whole x ran) (append-nil i.0) (i.7 [] ran ended);
    }

pub answer-decoded-requires-clause-answered : goal.answer-decoded-requires-clause-answered
answer-decoded-requires-clause-answered g c =
    let i = c.calls.invariant in
    let made = told c.in-Ok.asked c.asks.new.room c.call-given.result c.call-given.new.room in (
      i.1,
      i.2,
      made,
      c.call-given.ensures.tells,
      c.in-Ok.ensures.asked i.1 i.2 ∙ ap Some (sym (blank-told c.in-Ok.asked c.asks.new.room c.call-given.result c.call-given.new.room)),
    )

pub calls-preserved : goal.calls-preserved
calls-preserved g c =
    let i = c.calls.invariant in
    let made = told c.in-Ok.asked c.asks.new.room c.call-given.result c.call-given.new.room in
    let asked : question i.1 ≡ Some (blank made) =
    c.in-Ok.ensures.asked i.1 i.2 ∙ ap Some (sym (blank-told c.in-Ok.asked c.asks.new.room c.call-given.result c.call-given.new.room)) in (
      i.0 ++ made ∷ [],
      left i.1 made,
      c.answer-decoded.ensures.runs i.1 made i.2 c.call-given.ensures.tells asked,
      made_then i.3 c.call-given.ensures.made,
      recorded_then i.0 made i.4 c.call-given.ensures.recorded,
      shows_then g.E.Env.shows _ _ _ i.0 made i.5 c.call-given.ensures.shows,
      shows_then (IsHeard g.N.Notices.hears) _ _ _ i.0 made i.6
          (c.in-Ok.asked, c.call-given.result, c.asks.new.room, c.call-given.new.room, refl, c.made.ensures),
      (λ more value follows. rw (append_assoc i.0 (made ∷ []) more) (i.7 (made ∷ more) value (follows_call i.1 made more value asked follows))),
    )

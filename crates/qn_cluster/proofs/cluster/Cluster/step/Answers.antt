use Rattle.std.proofs.Common.{[], ap, subst, sym}
use Rattle.qn_cluster.specs.Events.{CanStep, Starved, Stepped}
use Rattle.qn_cluster.proofs.NodeEvents.{device_plain, entry_starved, entry_stepped, feed_made, leave_plain, pass_made, passable, rank_ready, stopped_plain, tick_plain, unstopped_plain, view_plain}
use Rattle.qn_cluster.proofs.RuleSteps.{short_pass}
use Rattle.qn_cluster.proofs.cluster.Cluster.step.Goals as goal
use Rattle.qn_model.specs.declared.entries.What.TheVariants as what
use Rattle.qn_model.specs.Rules.{is_well_formed}
use Rattle.qn_model.specs.Steps.{touched}
use Rattle.std.proofs.Common.{◌≡◌, true, false}
use Rattle.std.proofs.lemmas.Result.{on_ok_weaker, on_err_weaker}

pub pass-requires-clause-short : goal.pass-requires-clause-short
pass-requires-clause-short c =
    short_pass c.args.self.now.settings c.in-Pass.dt c.in-Pass.clocks (subst (λ e. is_well_formed c.args.self.now.settings e ≡ true) c.in-Pass.is c.requires.ready.formed)

pub pass-requires-clause-allowed : goal.pass-requires-clause-allowed
pass-requires-clause-allowed c = passable c.args.self.now c.in-Pass.dt c.in-Pass.clocks (subst (CanStep c.args.self.now) c.in-Pass.is c.requires.ready)

pub returns-in-Pass-clause-ok : goal.returns-in-Pass-clause-ok
returns-in-Pass-clause-ok c =
    subst (λ outs. Stepped c.args.self.now c.pass.new.self c.args.event.now outs) (sym c.requires.none)
    (subst (λ e. Stepped c.args.self.now c.pass.new.self e []) (sym c.in-Pass.is)
    (pass_made c.args.self.now c.pass.new.self c.in-Pass.dt c.in-Pass.clocks c.pass.ensures))

pub feed-requires : goal.feed-requires
feed-requires c = rank_ready c.args.self.now c.args.event.now c.in-Feed.i c.requires.ready (ap touched c.in-Feed.is)

pub returns-in-Feed-clause-ok : goal.returns-in-Feed-clause-ok
returns-in-Feed-clause-ok c =
    subst (λ outs. Stepped c.args.self.now c.feed.new.self c.args.event.now outs) (sym c.requires.none)
    (subst (λ e. Stepped c.args.self.now c.feed.new.self e []) (sym c.in-Feed.is) (feed_made c.args.self.now c.feed.new.self c.in-Feed.i c.feed.ensures))

pub hand-requires-clause-within : goal.hand-requires-clause-within
hand-requires-clause-within c = rank_ready c.args.self.now c.args.event.now c.in-View.i c.requires.ready (ap touched c.in-View.is)

pub returns-in-View-clause-ok : goal.returns-in-View-clause-ok
returns-in-View-clause-ok c =
    on_ok_weaker c.hand.result (λ made. subst (λ e. Stepped c.args.self.now c.hand.new.self e c.hand.new.outs) (sym c.in-View.is)
    (entry_stepped c.args.self.now c.hand.new.self _ c.in-View.i (what.View c.in-View.view) c.hand.new.outs (view_plain c.args.self.now.settings c.in-View.i c.in-View.view) made)) c.hand.ensures.ok

pub returns-in-View-clause-err : goal.returns-in-View-clause-err
returns-in-View-clause-err c =
    on_err_weaker c.hand.result (λ starved. subst (λ e. Starved c.args.self.now c.hand.new.self e) (sym c.in-View.is)
    (entry_starved c.args.self.now c.hand.new.self _ c.in-View.i (what.View c.in-View.view) (view_plain c.args.self.now.settings c.in-View.i c.in-View.view) starved)) c.hand.ensures.err

pub hand-requires-in-Device-clause-within : goal.hand-requires-in-Device-clause-within
hand-requires-in-Device-clause-within c = rank_ready c.args.self.now c.args.event.now c.in-Device.i c.requires.ready (ap touched c.in-Device.is)

pub returns-in-Device-clause-ok : goal.returns-in-Device-clause-ok
returns-in-Device-clause-ok c =
    on_ok_weaker c.hand-in-Device.result (λ made. subst (λ e. Stepped c.args.self.now c.hand-in-Device.new.self e c.hand-in-Device.new.outs) (sym c.in-Device.is)
    (entry_stepped c.args.self.now c.hand-in-Device.new.self _ c.in-Device.i (what.Device c.in-Device.yes) c.hand-in-Device.new.outs (device_plain c.args.self.now.settings c.in-Device.i c.in-Device.yes) made)) c.hand-in-Device.ensures.ok

pub returns-in-Device-clause-err : goal.returns-in-Device-clause-err
returns-in-Device-clause-err c =
    on_err_weaker c.hand-in-Device.result (λ starved. subst (λ e. Starved c.args.self.now c.hand-in-Device.new.self e) (sym c.in-Device.is)
    (entry_starved c.args.self.now c.hand-in-Device.new.self _ c.in-Device.i (what.Device c.in-Device.yes) (device_plain c.args.self.now.settings c.in-Device.i c.in-Device.yes) starved)) c.hand-in-Device.ensures.err

pub hand-requires-in-Tick-clause-within : goal.hand-requires-in-Tick-clause-within
hand-requires-in-Tick-clause-within c = rank_ready c.args.self.now c.args.event.now c.in-Tick.i c.requires.ready (ap touched c.in-Tick.is)

pub returns-in-Tick-clause-ok : goal.returns-in-Tick-clause-ok
returns-in-Tick-clause-ok c =
    on_ok_weaker c.hand-in-Tick.result (λ made. subst (λ e. Stepped c.args.self.now c.hand-in-Tick.new.self e c.hand-in-Tick.new.outs) (sym c.in-Tick.is)
    (entry_stepped c.args.self.now c.hand-in-Tick.new.self _ c.in-Tick.i what.Tick c.hand-in-Tick.new.outs (tick_plain c.args.self.now.settings c.in-Tick.i) made)) c.hand-in-Tick.ensures.ok

pub returns-in-Tick-clause-err : goal.returns-in-Tick-clause-err
returns-in-Tick-clause-err c =
    on_err_weaker c.hand-in-Tick.result (λ starved. subst (λ e. Starved c.args.self.now c.hand-in-Tick.new.self e) (sym c.in-Tick.is)
    (entry_starved c.args.self.now c.hand-in-Tick.new.self _ c.in-Tick.i what.Tick (tick_plain c.args.self.now.settings c.in-Tick.i) starved)) c.hand-in-Tick.ensures.err

pub hand-requires-in-Stopped-clause-within : goal.hand-requires-in-Stopped-clause-within
hand-requires-in-Stopped-clause-within c = rank_ready c.args.self.now c.args.event.now c.in-Stopped.i c.requires.ready (ap touched c.in-Stopped.is)

pub returns-in-Stopped-clause-ok : goal.returns-in-Stopped-clause-ok
returns-in-Stopped-clause-ok c =
    on_ok_weaker c.hand-in-Stopped.result (λ made. subst (λ e. Stepped c.args.self.now c.hand-in-Stopped.new.self e c.hand-in-Stopped.new.outs) (sym c.in-Stopped.is)
    (entry_stepped c.args.self.now c.hand-in-Stopped.new.self _ c.in-Stopped.i (what.Stopped true) c.hand-in-Stopped.new.outs (stopped_plain c.args.self.now.settings c.in-Stopped.i) made)) c.hand-in-Stopped.ensures.ok

pub returns-in-Stopped-clause-err : goal.returns-in-Stopped-clause-err
returns-in-Stopped-clause-err c =
    on_err_weaker c.hand-in-Stopped.result (λ starved. subst (λ e. Starved c.args.self.now c.hand-in-Stopped.new.self e) (sym c.in-Stopped.is)
    (entry_starved c.args.self.now c.hand-in-Stopped.new.self _ c.in-Stopped.i (what.Stopped true) (stopped_plain c.args.self.now.settings c.in-Stopped.i) starved)) c.hand-in-Stopped.ensures.err

pub hand-requires-in-Unstopped-clause-within : goal.hand-requires-in-Unstopped-clause-within
hand-requires-in-Unstopped-clause-within c = rank_ready c.args.self.now c.args.event.now c.in-Unstopped.i c.requires.ready (ap touched c.in-Unstopped.is)

pub returns-in-Unstopped-clause-ok : goal.returns-in-Unstopped-clause-ok
returns-in-Unstopped-clause-ok c =
    on_ok_weaker c.hand-in-Unstopped.result (λ made. subst (λ e. Stepped c.args.self.now c.hand-in-Unstopped.new.self e c.hand-in-Unstopped.new.outs) (sym c.in-Unstopped.is)
    (entry_stepped c.args.self.now c.hand-in-Unstopped.new.self _ c.in-Unstopped.i (what.Stopped false) c.hand-in-Unstopped.new.outs (unstopped_plain c.args.self.now.settings c.in-Unstopped.i) made)) c.hand-in-Unstopped.ensures.ok

pub returns-in-Unstopped-clause-err : goal.returns-in-Unstopped-clause-err
returns-in-Unstopped-clause-err c =
    on_err_weaker c.hand-in-Unstopped.result (λ starved. subst (λ e. Starved c.args.self.now c.hand-in-Unstopped.new.self e) (sym c.in-Unstopped.is)
    (entry_starved c.args.self.now c.hand-in-Unstopped.new.self _ c.in-Unstopped.i (what.Stopped false) (unstopped_plain c.args.self.now.settings c.in-Unstopped.i) starved)) c.hand-in-Unstopped.ensures.err

pub hand-requires-in-Leave-clause-within : goal.hand-requires-in-Leave-clause-within
hand-requires-in-Leave-clause-within c = rank_ready c.args.self.now c.args.event.now c.in-Leave.i c.requires.ready (ap touched c.in-Leave.is)

pub returns-in-Leave-clause-ok : goal.returns-in-Leave-clause-ok
returns-in-Leave-clause-ok c =
    on_ok_weaker c.hand-in-Leave.result (λ made. subst (λ e. Stepped c.args.self.now c.hand-in-Leave.new.self e c.hand-in-Leave.new.outs) (sym c.in-Leave.is)
    (entry_stepped c.args.self.now c.hand-in-Leave.new.self _ c.in-Leave.i what.Leave c.hand-in-Leave.new.outs (leave_plain c.args.self.now.settings c.in-Leave.i) made)) c.hand-in-Leave.ensures.ok

pub returns-in-Leave-clause-err : goal.returns-in-Leave-clause-err
returns-in-Leave-clause-err c =
    on_err_weaker c.hand-in-Leave.result (λ starved. subst (λ e. Starved c.args.self.now c.hand-in-Leave.new.self e) (sym c.in-Leave.is)
    (entry_starved c.args.self.now c.hand-in-Leave.new.self _ c.in-Leave.i what.Leave (leave_plain c.args.self.now.settings c.in-Leave.i) starved)) c.hand-in-Leave.ensures.err

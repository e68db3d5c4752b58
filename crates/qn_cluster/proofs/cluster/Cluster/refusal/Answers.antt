use Rattle.std.proofs.Common.{◌∙◌, ap, sym}
use Rattle.qn_cluster.proofs.NodeEvents.{rank_within}
use Rattle.qn_cluster.proofs.cluster.Cluster.refusal.Goals as goal
use Rattle.qn_model.specs.Rules.{refusal}
use Rattle.qn_model.specs.Steps.{touched}

pub refuses_boot-requires : goal.refuses_boot-requires
refuses_boot-requires c = rank_within c.args.self.now c.args.event.now c.in-Boot.i c.requires.standing c.requires.formed (ap touched c.in-Boot.is)

pub returns-in-Boot : goal.returns-in-Boot
unfolding refusal
returns-in-Boot c d is = c.refuses_boot.ensures d is ∙ ap (λ e. refusal c.args.self.now.settings c.args.timing.now e d) (sym c.in-Boot.is)

pub refuses_boot-requires-in-BootClean : goal.refuses_boot-requires-in-BootClean
refuses_boot-requires-in-BootClean c = rank_within c.args.self.now c.args.event.now c.in-BootClean.i c.requires.standing c.requires.formed (ap touched c.in-BootClean.is)

pub returns-in-BootClean : goal.returns-in-BootClean
unfolding refusal
returns-in-BootClean c d is = c.refuses_boot-in-BootClean.ensures d is ∙ ap (λ e. refusal c.args.self.now.settings c.args.timing.now e d) (sym c.in-BootClean.is)

pub refuses_off-requires : goal.refuses_off-requires
refuses_off-requires c = rank_within c.args.self.now c.args.event.now c.in-Crash.i c.requires.standing c.requires.formed (ap touched c.in-Crash.is)

pub returns-in-Crash : goal.returns-in-Crash
unfolding refusal
returns-in-Crash c d is = c.refuses_off.ensures d is ∙ ap (λ e. refusal c.args.self.now.settings c.args.timing.now e d) (sym c.in-Crash.is)

pub refuses_off-requires-in-Device : goal.refuses_off-requires-in-Device
refuses_off-requires-in-Device c = rank_within c.args.self.now c.args.event.now c.in-Device.i c.requires.standing c.requires.formed (ap touched c.in-Device.is)

pub returns-in-Device : goal.returns-in-Device
unfolding refusal
returns-in-Device c d is = c.refuses_off-in-Device.ensures d is ∙ ap (λ e. refusal c.args.self.now.settings c.args.timing.now e d) (sym c.in-Device.is)

pub refuses_off-requires-in-Tick : goal.refuses_off-requires-in-Tick
refuses_off-requires-in-Tick c = rank_within c.args.self.now c.args.event.now c.in-Tick.i c.requires.standing c.requires.formed (ap touched c.in-Tick.is)

pub returns-in-Tick : goal.returns-in-Tick
unfolding refusal
returns-in-Tick c d is = c.refuses_off-in-Tick.ensures d is ∙ ap (λ e. refusal c.args.self.now.settings c.args.timing.now e d) (sym c.in-Tick.is)

pub refuses_off-requires-in-Leave : goal.refuses_off-requires-in-Leave
refuses_off-requires-in-Leave c = rank_within c.args.self.now c.args.event.now c.in-Leave.i c.requires.standing c.requires.formed (ap touched c.in-Leave.is)

pub returns-in-Leave : goal.returns-in-Leave
unfolding refusal
returns-in-Leave c d is = c.refuses_off-in-Leave.ensures d is ∙ ap (λ e. refusal c.args.self.now.settings c.args.timing.now e d) (sym c.in-Leave.is)

pub refuses_stopped-requires : goal.refuses_stopped-requires
refuses_stopped-requires c = rank_within c.args.self.now c.args.event.now c.in-Stopped.i c.requires.standing c.requires.formed (ap touched c.in-Stopped.is)

pub returns-in-Stopped : goal.returns-in-Stopped
unfolding refusal
returns-in-Stopped c d is = c.refuses_stopped.ensures d is ∙ ap (λ e. refusal c.args.self.now.settings c.args.timing.now e d) (sym c.in-Stopped.is)

pub refuses_stopped-requires-in-Unstopped : goal.refuses_stopped-requires-in-Unstopped
refuses_stopped-requires-in-Unstopped c = rank_within c.args.self.now c.args.event.now c.in-Unstopped.i c.requires.standing c.requires.formed (ap touched c.in-Unstopped.is)

pub returns-in-Unstopped : goal.returns-in-Unstopped
unfolding refusal
returns-in-Unstopped c d is = c.refuses_stopped-in-Unstopped.ensures d is ∙ ap (λ e. refusal c.args.self.now.settings c.args.timing.now e d) (sym c.in-Unstopped.is)

pub refuses_view-requires : goal.refuses_view-requires
refuses_view-requires c = rank_within c.args.self.now c.args.event.now c.in-View.i c.requires.standing c.requires.formed (ap touched c.in-View.is)

pub returns-in-View : goal.returns-in-View
unfolding refusal
returns-in-View c d is = c.refuses_view.ensures d is ∙ ap (λ e. refusal c.args.self.now.settings c.args.timing.now e d) (sym c.in-View.is)

pub refuses_deliver-requires : goal.refuses_deliver-requires
refuses_deliver-requires c = rank_within c.args.self.now c.args.event.now c.in-Deliver.i c.requires.standing c.requires.formed (ap touched c.in-Deliver.is)

pub returns-in-Deliver : goal.returns-in-Deliver
unfolding refusal
returns-in-Deliver c d is = c.refuses_deliver.ensures d is ∙ ap (λ e. refusal c.args.self.now.settings c.args.timing.now e d) (sym c.in-Deliver.is)

pub refuses_feed-requires : goal.refuses_feed-requires
refuses_feed-requires c = rank_within c.args.self.now c.args.event.now c.in-Feed.i c.requires.standing c.requires.formed (ap touched c.in-Feed.is)

pub returns-in-Feed : goal.returns-in-Feed
unfolding refusal
returns-in-Feed c d is = c.refuses_feed.ensures d is ∙ ap (λ e. refusal c.args.self.now.settings c.args.timing.now e d) (sym c.in-Feed.is)

pub returns-in-Pass : goal.returns-in-Pass
unfolding refusal
returns-in-Pass c d is = c.refuses_pass.ensures d is ∙ ap (λ e. refusal c.args.self.now.settings c.args.timing.now e d) (sym c.in-Pass.is)

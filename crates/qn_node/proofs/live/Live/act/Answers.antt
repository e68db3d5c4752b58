use Rattle.std.proofs.Common.{◌≡◌, List, ◌++◌, refl, ap, sym, subst, ◌∙◌}
use Rattle.std.specs.Option.{option_or}
use Rattle.qn_model.specs.Log.{Line, disk_of}
use Rattle.qn_model.specs.NodeVotes.{votes}
use Rattle.qn_model.specs.NodeOutputs.{acts, replies, taken_in, when}
use Rattle.qn_model.specs.declared.outputs.Out.TheVariants as out
use Rattle.qn_fence.specs.Fence.{FenceFor, IsOutside}
use Rattle.qn_heard.specs.Heard.{HeardFor}
use Rattle.qn_watch.specs.Watch.{WatchFor}
use Rattle.qn_node.specs.Live.{LiveFor, LiveTook, with_outs}
use Rattle.qn_node.specs.Resource.{after_outs, is_held}
use Rattle.qn_node.proofs.Acting.{acted_stands, acts_chain, acts_claim, no_boot_end, no_times_of, phase_same, took_stands}
use Rattle.qn_node.proofs.ActsLaws.{acts_has}
use Rattle.qn_node.proofs.Conditions.{quorate_of, released_of}
use Rattle.qn_node.proofs.live.Live.act.Goals as goal

-- the node, once it was asked whom to ask, stands for the log before its outputs
hears : (c : goal.After-give) (past : List Line) → LiveTook c.args.self.now c.args.own.now.settings c.args.own.now.me.0 past c.args.tick c.args.what
    → HeardFor c.asks-asked.new.self.heard c.args.own.now.settings c.args.own.now.me.0 (taken_in past c.args.tick c.args.what)
hears c past took =
    c.asks-asked.ensures.stands c.args.own.now.settings c.args.own.now.me.0 (taken_in past c.args.tick c.args.what) (took.hears _ refl refl refl) refl took.phases

asked : (c : goal.After-give) (past : List Line) → LiveTook c.args.self.now c.args.own.now.settings c.args.own.now.me.0 past c.args.tick c.args.what
    → LiveFor c.asks-asked.new.self c.args.own.now.settings c.args.own.now.me.0 (taken_in past c.args.tick c.args.what)
asked c past took =
    let s = c.args.own.now.settings in
    let me = c.args.own.now.me.0 in
    let log = taken_in past c.args.tick c.args.what in
    let watches = c.law_other_lines.ensures c.args.self.now.watch past _ took.watches (no_times_of c.args.what took.plain) refl in
    subst (λ live. LiveFor live s me log) (sym c.asks-asked.ensures.rest)
    (took_stands c.args.self.now s me past c.args.tick c.args.what c.asks-asked.new.self.heard took (hears c past took) watches)

pub returns-clause-stands : goal.returns-clause-stands
returns-clause-stands c = λ past took counts.
    let s = c.args.own.now.settings in
    let me = c.args.own.now.me.0 in
    let tick = c.args.tick in
    let w = c.args.what in
    let fed = c.args.feeds in
    let log = taken_in past tick w in
    let outs = acts s me log w fed in
    let live = asked c past took in
    let is = c.answer-answer.ensures (votes log) counts in
    let enough = quorate_of s log tick c.answer-answer.result is in
    let stops = c.gives_stop-stops.ensures log live refl enough in
    let starts = c.gives_start-starts.ensures log live refl is in
    let op = c.wanted-op.ensures log live refl enough (c.view_tick.ensures s (votes log) counts) in
    let given : disk_of outs ≡ c.wanted-op.result = (acts_has s me log w fed).of_op ∙ sym op in
    let heard = c.asks-asked.ensures.stands s me (with_outs past tick w outs) (took.hears _ refl refl (acts_claim s me log w fed)) refl (phase_same s past tick w outs ∙ took.phases) in
    let watches = c.give.ensures.watches past _ (subst (λ x. WatchFor x.watch past) (sym c.asks-asked.ensures.rest) took.watches) (no_times_of w took.plain) refl given in
    let fences = c.give.ensures.fences s past _ outs (subst (λ x. FenceFor x.fence s log) (sym c.asks-asked.ensures.rest) took.fences) (no_boot_end w took.plain) refl given
    (subst (IsOutside log) (sym op) (c.law_outside.ensures s me log)) in
    subst (λ x. LiveFor x s me (with_outs past tick w outs)) (sym c.give.ensures.rest)
    (subst (λ x. LiveFor (record x {
      op = option_or c.wanted-op.result x.op;
      resource = after_outs c.gives_stop-stops.result c.gives_start-starts.result x.resource;
      watch = c.give.new.self.watch;
      fence = c.give.new.self.fence;
    }) s me (with_outs past tick w outs)) (sym c.asks-asked.ensures.rest)
    (acted_stands c.args.self.now s me past tick w fed c.asks-asked.new.self.heard c.give.new.self.watch c.give.new.self.fence
    c.gives_stop-stops.result c.gives_start-starts.result c.wanted-op.result took stops starts op heard watches fences))

pub returns-clause-outs : goal.returns-clause-outs
returns-clause-outs c = λ past took counts.
    let s = c.args.own.now.settings in
    let me = c.args.own.now.me.0 in
    let tick = c.args.tick in
    let w = c.args.what in
    let log = taken_in past tick w in
    let live = asked c past took in
    let is = c.answer-answer.ensures (votes log) counts in
    let enough = quorate_of s log tick c.answer-answer.result is in
    let free = released_of s log tick c.answer-answer.result is in
    let stops = c.gives_stop-stops.ensures log live refl enough in
    let starts = c.gives_start-starts.ensures log live refl is in
    let op = c.wanted-op.ensures log live refl enough (c.view_tick.ensures s (votes log) counts) in
    let held = is_held c.asks-asked.new.self.resource in
    acts_chain s me log w c.args.feeds c.gives_stop-stops.result c.gives_start-starts.result held c.wanted-op.result
    c.push_if.new.outs c.push_if-2.new.outs c.push_if-3.new.outs c.reply.new.outs c.ask.new.outs c.push_op.new.outs
    (c.push_if.ensures.value ∙ ap (λ o. o ++ when c.gives_stop-stops.result out.Stop) c.requires)
    c.push_if-2.ensures.value
    c.push_if-3.ensures.value
    (c.reply.ensures.value s me log (hears c past took) free ∙ ap (λ h. c.push_if-3.new.outs ++ replies s me h log w) c.will_hold-holds.ensures)
    (c.ask.ensures.value me past _ (hears c past took) refl (c.asks-asked.ensures.whom s me log (took.hears _ refl refl refl) refl took.phases free))
    c.push_op.ensures.value
    stops starts (sym live.has_resource.has) op

use Rattle.std.proofs.Common.{◌≡◌, true, false, not, sym, ap, ◌∙◌}
use Rattle.std.specs.Prelude.{is_none}
use Rattle.qn_model.specs.Holding.{holds}
use Rattle.qn_model.specs.NodeVotes.{view}
use Rattle.qn_node.specs.Live.{live_phase}
use Rattle.qn_node.proofs.Conditions.{unmet_down, unmet_up}
use Rattle.qn_node.proofs.live.Live.why.Goals as goal

pub returns-then-self : goal.returns-then-self
returns-then-self c = λ log h before is.
    sym (unmet_down c.args.own.now.settings c.args.own.now.me.0 log c.args.tick (h.phases ∙ ap live_phase c.if-self.true))

pub returns-then-is_held : goal.returns-then-is_held
returns-then-is_held c = λ log h before is.
    let up = h.phases ∙ ap live_phase c.if-self.false in
    let held : holds log ≡ true = h.has_resource.has ∙ (sym c.is_held.ensures ∙ c.if-is_held.true) in
    rw (unmet_up c.args.own.now.settings c.args.own.now.me.0 log c.args.tick c.args.answer up is, held)

pub returns-then-is_none : goal.returns-then-is_none
returns-then-is_none c = λ log h before is.
    let up = h.phases ∙ ap live_phase c.if-self.false in
    let held : holds log ≡ false = h.has_resource.has ∙ (sym c.is_held.ensures ∙ c.if-is_held.false) in
    let none : is_none (view log) ≡ true = ap is_none (sym (c.view.ensures c.args.own.now.settings c.args.own.now.me.0 log h.hears)) ∙ (ap not c.is_none.ensures ∙ ap (λ b. not (not b)) c.if-is_none.true) in
    rw (unmet_up c.args.own.now.settings c.args.own.now.me.0 log c.args.tick c.args.answer up is, held, none)

pub returns-then-not-answer : goal.returns-then-not-answer
returns-then-not-answer c = λ log h before is.
    let up = h.phases ∙ ap live_phase c.if-self.false in
    let held : holds log ≡ false = h.has_resource.has ∙ (sym c.is_held.ensures ∙ c.if-is_held.false) in
    let none : is_none (view log) ≡ false = ap is_none (sym (c.view.ensures c.args.own.now.settings c.args.own.now.me.0 log h.hears)) ∙ (ap not c.is_none.ensures ∙ ap (λ b. not (not b)) c.if-is_none.false) in
    rw (unmet_up c.args.own.now.settings c.args.own.now.me.0 log c.args.tick c.args.answer up is, held, none, c.if-not-answer.true)

pub returns-then-not-answer-2 : goal.returns-then-not-answer-2
returns-then-not-answer-2 c = λ log h before is.
    let up = h.phases ∙ ap live_phase c.if-self.false in
    let held : holds log ≡ false = h.has_resource.has ∙ (sym c.is_held.ensures ∙ c.if-is_held.false) in
    let none : is_none (view log) ≡ false = ap is_none (sym (c.view.ensures c.args.own.now.settings c.args.own.now.me.0 log h.hears)) ∙ (ap not c.is_none.ensures ∙ ap (λ b. not (not b)) c.if-is_none.false) in
    rw (unmet_up c.args.own.now.settings c.args.own.now.me.0 log c.args.tick c.args.answer up is, held, none, c.if-not-answer.false, c.if-not-answer-2.true)

pub returns-else-not-answer-2 : goal.returns-else-not-answer-2
returns-else-not-answer-2 c = λ log h before is.
    let up = h.phases ∙ ap live_phase c.if-self.false in
    let held : holds log ≡ false = h.has_resource.has ∙ (sym c.is_held.ensures ∙ c.if-is_held.false) in
    let none : is_none (view log) ≡ false = ap is_none (sym (c.view.ensures c.args.own.now.settings c.args.own.now.me.0 log h.hears)) ∙ (ap not c.is_none.ensures ∙ ap (λ b. not (not b)) c.if-is_none.false) in
    rw (unmet_up c.args.own.now.settings c.args.own.now.me.0 log c.args.tick c.args.answer up is, held, none, c.if-not-answer.false, c.if-not-answer-2.false) (c.lacks.ensures log h before)

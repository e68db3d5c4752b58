use Rattle.std.proofs.Common.{◌≡◌, true, false, not, sym, ap, ◌∙◌, ◌&&◌}
use Rattle.std.specs.Prelude.{is_some}
use Rattle.qn_model.specs.Wanted.{is_mail_due, may_fence}
use Rattle.qn_model.specs.NodeVotes.{quorate_with_tie}
use Rattle.qn_node.specs.Resource.{is_held}
use Rattle.qn_node.proofs.Conditions.{wanted_is}
use Rattle.qn_node.proofs.live.Live.wanted.Goals as goal

pub returns-then-is_some : goal.returns-then-is_some
returns-then-is_some c = λ log h at enough from.
    let some : is_some c.args.self.now.op ≡ true = sym c.is_some.ensures ∙ c.if-is_some.true in
    rw (wanted_is c.args.self.now c.args.own.now.settings c.args.own.now.me.0 log h, some)

pub returns-then-due : goal.returns-then-due
returns-then-due c = λ log h at enough from.
    let none : is_some c.args.self.now.op ≡ false = sym c.is_some.ensures ∙ c.if-is_some.false in
    let due : is_mail_due log ≡ true = sym (c.due.ensures.defined log h.watches at) ∙ c.if-due.true in
    rw (wanted_is c.args.self.now c.args.own.now.settings c.args.own.now.me.0 log h, none, due)

pub returns-then-may_close : goal.returns-then-may_close
returns-then-may_close c = λ log h at enough from.
    let none : is_some c.args.self.now.op ≡ false = sym c.is_some.ensures ∙ c.if-is_some.false in
    let due : is_mail_due log ≡ false = sym (c.due.ensures.defined log h.watches at) ∙ c.if-due.false in
    let close : (c.args.self.now.leaving && not (is_held c.args.self.now.resource)) ≡ true = sym c.may_close.ensures ∙ c.if-may_close.true in
    rw (wanted_is c.args.self.now c.args.own.now.settings c.args.own.now.me.0 log h, none, due, close)

pub returns-then-may_fence : goal.returns-then-may_fence
returns-then-may_fence c = λ log h at enough from.
    let none : is_some c.args.self.now.op ≡ false = sym c.is_some.ensures ∙ c.if-is_some.false in
    let due : is_mail_due log ≡ false = sym (c.due.ensures.defined log h.watches at) ∙ c.if-due.false in
    let close : (c.args.self.now.leaving && not (is_held c.args.self.now.resource)) ≡ false = sym c.may_close.ensures ∙ c.if-may_close.false in
    let count = enough ∙ ap (quorate_with_tie c.args.own.now.settings log) (sym at) in
    let fence : may_fence c.args.own.now.settings c.args.own.now.me.0 log ≡ true = sym (c.may_fence.ensures log h count) ∙ c.if-may_fence.true in
    rw (wanted_is c.args.self.now c.args.own.now.settings c.args.own.now.me.0 log h, none, due, close, fence)
    (c.fencing.ensures log h at from)

pub returns-else-may_fence : goal.returns-else-may_fence
returns-else-may_fence c = λ log h at enough from.
    let none : is_some c.args.self.now.op ≡ false = sym c.is_some.ensures ∙ c.if-is_some.false in
    let due : is_mail_due log ≡ false = sym (c.due.ensures.defined log h.watches at) ∙ c.if-due.false in
    let close : (c.args.self.now.leaving && not (is_held c.args.self.now.resource)) ≡ false = sym c.may_close.ensures ∙ c.if-may_close.false in
    let count = enough ∙ ap (quorate_with_tie c.args.own.now.settings log) (sym at) in
    let fence : may_fence c.args.own.now.settings c.args.own.now.me.0 log ≡ false = sym (c.may_fence.ensures log h count) ∙ c.if-may_fence.false in
    rw (wanted_is c.args.self.now c.args.own.now.settings c.args.own.now.me.0 log h, none, due, close, fence)

use Rattle.std.proofs.Common.{None, sym, ap, ◌∙◌}
use Rattle.std.specs.Prelude.{if◌then◌else◌}
use Rattle.qn_fence.specs.Fence.{op_of}
use Rattle.qn_node.proofs.Conditions.{fencing_waits}
use Rattle.qn_node.proofs.live.Live.fencing.Goals as goal

pub returns-then-waits : goal.returns-then-waits
returns-then-waits c = λ log h at from.
    let waits = sym c.must_wait-waits.ensures ∙ c.if-waits.true in
    sym (fencing_waits c.args.own.now.settings log c.next-want.result c.args.tick c.args.since (c.next-want.ensures c.args.own.now.settings log h.fences) at from
    ∙ ap (λ b. if b then None else op_of c.next-want.result) waits)

pub returns-else-waits : goal.returns-else-waits
returns-else-waits c = λ log h at from.
    let waits = sym c.must_wait-waits.ensures ∙ c.if-waits.false in
    c.op.ensures
    ∙ sym (fencing_waits c.args.own.now.settings log c.next-want.result c.args.tick c.args.since (c.next-want.ensures c.args.own.now.settings log h.fences) at from
    ∙ ap (λ b. if b then None else op_of c.next-want.result) waits)

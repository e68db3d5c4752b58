use Rattle.std.proofs.Common.{◌≡◌, ◌-◌, [], length}
use Rattle.qn_base.specs.Plans.{At}
use Rattle.qn_image.specs.Migration.{mailboxes_plan}
use Rattle.qn_image.proofs.migrating.read_messages.Given as goal

abbrev pub invariant-ranks : goal.invariant-ranks
invariant-ranks g l =
    (length l.messages.items ≡ l.rank)
    × At (g.E.Env.faults l.fn.env) (g.E.Env.faults l.env) (g.E.Env.calls l.fn.env) (g.E.Env.calls l.env) (mailboxes_plan [] l.nodes) (mailboxes_plan l.messages.items (l.nodes - l.rank))

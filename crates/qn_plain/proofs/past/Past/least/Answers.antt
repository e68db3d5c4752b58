use Rattle.std.proofs.Common.{ap, sym, ◌∙◌, length, arith}
use Rattle.std.specs.Option.{option_map}
use Rattle.qn_model.specs.Wanted.{rank_of}
use Rattle.qn_model.specs.LeastMembers.{least_from-none, least_from-some}
use Rattle.qn_plain.specs.Sought.{is_sought}
use Rattle.qn_plain.proofs.past.Past.least.Goals as goal

pub returns-then-is_sought-clause-value : goal.returns-then-is_sought-clause-value
returns-then-is_sought-clause-value c =
    sym (ap (option_map rank_of) (least_from-some (length c.args.settings.now.nodes) 0 c.loop-rank.rank
    (is_sought c.args.sought c.args.me.0 c.args.tick c.args.self.now) (omega arith) (omega arith)
    (sym c.is_sought.ensures ∙ c.if-is_sought.true) (λ j above below. c.loop-rank.invariant j below)))

pub returns-clause-value : goal.returns-clause-value
returns-clause-value c =
    sym (ap (option_map rank_of) (least_from-none (length c.args.settings.now.nodes) 0
    (is_sought c.args.sought c.args.me.0 c.args.tick c.args.self.now) (λ j above below. c.loop-rank.invariant j (omega arith))))

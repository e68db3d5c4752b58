use Rattle.std.proofs.Common.{◌≤◌, ℕ, subst, sym}
use Rattle.qn_replay.proofs.Clocks.{bit_is, bit_small}
use Rattle.qn_replay.proofs.drawn_events.bit_of.Goals as goal

pub returns-clause-value : goal.returns-clause-value
returns-clause-value c = bit_is c.args.rank.0 c.requires

pub returns-clause-small : goal.returns-clause-small
returns-clause-small c = subst (λ (n : ℕ). n ≤ 4) (sym (bit_is c.args.rank.0 c.requires)) (bit_small c.args.rank.0 c.requires)

use Rattle.std.specs.Prelude.{codes, decimal}
use Rattle.qn_names.proofs.Added.{added_both}
use Rattle.qn_names.proofs.why.add_not_quorate.Goals as goal

pub returns-clause-text : goal.returns-clause-text
returns-clause-text g c =
    added_both c.args.into.now.items (codes "not-quorate:") (decimal c.args.votes) (codes "/") (decimal c.args.quorum)
    c.add_numbered.new.into.items c.add_numbered-2.new.into.items c.add_numbered.ensures.text c.add_numbered-2.ensures.text

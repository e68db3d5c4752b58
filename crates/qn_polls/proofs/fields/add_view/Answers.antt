use Rattle.std.proofs.Common.{◌++◌, ap, ◌∙◌, append_assoc}
use Rattle.std.specs.Int.{bytes_high_first}
use Rattle.qn_polls.proofs.fields.add_view.Goals as goal

pub returns : goal.returns
returns c =
    c.add_u32.ensures ∙ ap (λ x. x ++ bytes_high_first 4 c.args.view.members.0) c.add_u64.ensures
    ∙ append_assoc c.args.spelling.now.items (bytes_high_first 8 c.args.view.id) (bytes_high_first 4 c.args.view.members.0)

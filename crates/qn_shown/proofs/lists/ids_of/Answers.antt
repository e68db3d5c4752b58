use Rattle.std.proofs.Common.{option_and_then, sym, ap, ◌∙◌}
use Rattle.std.proofs.lemmas.List.{drop_all}
use Rattle.qn_shown.specs.Kinds.{id_in}
use Rattle.qn_shown.specs.Reading.{few}
use Rattle.qn_shown.proofs.ListsRead.{ended, rest_in}
use Rattle.qn_shown.proofs.lists.ids_of.Goals as goal

pub returns : goal.returns
returns c =
    let l = c.items in
    let nothing = drop_all l.item-index c.args.items.now c.items-test.false in
    sym (ended l.ids.items l.invariant.1) ∙ ap (λ left. option_and_then few (rest_in id_in l.ids.items left)) (sym nothing)
    ∙ ap (option_and_then few) l.invariant.0

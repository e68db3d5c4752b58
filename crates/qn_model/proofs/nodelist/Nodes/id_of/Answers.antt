use Rattle.std.proofs.Common.{◌≡◌, ◌≤◌, length, Some, ap, ◌∙◌, arith, sym}
use Rattle.std.specs.Prelude.{slice_get}
use Rattle.qn_model.specs.lemmas.Ids.{id_from-configured, id_from-number, id_from-past}
use Rattle.qn_model.proofs.nodelist.Nodes.id_of.Goals as goal

pub returns-then-place-len-clause-id : goal.returns-then-place-len-clause-id
returns-then-place-len-clause-id c =
    let at : slice_get c.args.self.now c.args.rank.0 ≡ Some c.get.result = cc (c.get.ensures, c.from-place.ensures) in
    id_from-configured c.args.self.now c.args.rank.0 c.get.result at

pub returns-then-place-len-clause-number : goal.returns-then-place-len-clause-number
returns-then-place-len-clause-number c =
    ap (λ id. id.0) (returns-then-place-len-clause-id c) ∙ id_from-number c.args.self.now c.args.rank.0

pub returns-else-place-len-clause-id : goal.returns-else-place-len-clause-id
returns-else-place-len-clause-id c =
    let past : length c.args.self.now ≤ c.args.rank.0 = omega (arith, c.if-place-len.false, c.from-place.ensures, c.len.ensures.value) in
    sym (id_from-past c.args.self.now c.args.rank.0 past)

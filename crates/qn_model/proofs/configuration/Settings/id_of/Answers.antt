use Rattle.std.proofs.Common.{◌≤◌, subst, sym}
use Rattle.qn_model.specs.lemmas.Ids.{id_from-one}
use Rattle.qn_model.proofs.configuration.Settings.id_of.Goals as goal

pub returns-clause-from_one : goal.returns-clause-from_one
returns-clause-from_one c = λ valid within.
    subst (λ id. 1 ≤ id.0) (sym c.id_of.ensures.id) (id_from-one c.args.self.now.nodes c.args.rank.0 valid.ids_from_one within)

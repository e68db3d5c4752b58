use Rattle.std.proofs.Common.{◌≡◌, ◌∙◌, Some, ap, sym}
use Rattle.std.proofs.lemmas.Option.{slice_get_within}
use Rattle.qn_cluster.specs.Places.{place_in}
use Rattle.qn_cluster.specs.DiskStanding.{is_of}
use Rattle.qn_cluster.proofs.LeftoverSteps.{found_left, none_left}
use Rattle.qn_cluster.proofs.Marks.{left_taken}
use Rattle.qn_cluster.proofs.leftovers.Leftovers.take.Goals as goal
use Rattle.qn_model.specs.World.{numbered}

pub take_at-leftover-requires : goal.take_at-leftover-requires
take_at-leftover-requires c =
    let mine = is_of c.args.i.0 c.args.image in
    let at : place_in mine c.args.number c.args.self.now ≡ Some c.in-Some.place =
    sym (c.place_of.ensures ∙ ap (place_in mine c.args.number) (c.as_slice.ensures.value ∙ c.self.view_is)) ∙ c.in-Some.is in
    let found = found_left mine c.args.number c.args.self.now c.in-Some.place c.requires.number at in
    slice_get_within c.args.self.now c.in-Some.place found.item found.there

pub returns-in-Some-clause-op : goal.returns-in-Some-clause-op
returns-in-Some-clause-op c = λ count left is.
    let mine = is_of c.args.i.0 c.args.image in
    let at : place_in mine c.args.number c.args.self.now ≡ Some c.in-Some.place =
    sym (c.place_of.ensures ∙ ap (place_in mine c.args.number) (c.as_slice.ensures.value ∙ c.self.view_is)) ∙ c.in-Some.is in
    let found = found_left mine c.args.number c.args.self.now c.in-Some.place c.requires.number at in
    let same : c.take_at-leftover.result ≡ found.item = (let z : Some c.take_at-leftover.result ≡ Some found.item = sym c.take_at-leftover.ensures.item ∙ found.there in cc) in
    ap (λ item. Some item.op) same ∙ (sym found.op_is ∙ ap (λ ops. numbered ops c.args.number) (is.lefts c.args.i.0 c.args.image c.requires.image))

pub returns-in-Some-clause-rest : goal.returns-in-Some-clause-rest
returns-in-Some-clause-rest c = λ count left is.
    let mine = is_of c.args.i.0 c.args.image in
    let at : place_in mine c.args.number c.args.self.now ≡ Some c.in-Some.place =
    sym (c.place_of.ensures ∙ ap (place_in mine c.args.number) (c.as_slice.ensures.value ∙ c.self.view_is)) ∙ c.in-Some.is in
    let found = found_left mine c.args.number c.args.self.now c.in-Some.place c.requires.number at in
    left_taken c.args.self.now c.take_at-leftover.new.self c.args.i.0 c.args.image c.args.number c.in-Some.place count left c.requires.image is found c.take_at-leftover.ensures.others

pub returns-in-None-clause-op : goal.returns-in-None-clause-op
returns-in-None-clause-op c = λ count left is.
    let mine = is_of c.args.i.0 c.args.image in
    let at = sym (c.place_of.ensures ∙ ap (place_in mine c.args.number) (c.as_slice.ensures.value ∙ c.self.view_is)) ∙ c.in-None.is in
    sym (none_left mine c.args.number c.args.self.now c.requires.number at) ∙ ap (λ ops. numbered ops c.args.number) (is.lefts c.args.i.0 c.args.image c.requires.image)

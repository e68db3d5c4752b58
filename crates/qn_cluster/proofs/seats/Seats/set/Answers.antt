use Rattle.std.proofs.Common.{◌≡◌, ◌∙◌, ◌<◌, ◌&&◌, length, refl, sym, ap, subst}
use Rattle.qn_base.specs.lemmas.Lists.{read_at}
use Rattle.qn_cluster.specs.declared.seat.Seat.{Seat}
use Rattle.qn_cluster.specs.Holders.{holds_at}
use Rattle.qn_cluster.proofs.Holders.{holds_there, still_held}
use Rattle.qn_cluster.proofs.Lists.{item_there}
use Rattle.qn_cluster.proofs.seats.Seats.set.Goals as goal

pub holders_after-self-inside-requires-clause-before : goal.holders_after-self-inside-requires-clause-before
holders_after-self-inside-requires-clause-before c = λ now.
    let seats = c.self.inside.places.items in
    let i = c.args.i.0 in
    let within : i < length seats = subst (λ s. i < length s) (sym c.self.view_is) c.requires in
    let there = item_there seats i within in
    let read : c.index_mut-place.result.now ≡ there.0 = c.index_mut-place.ensures.value ∙ read_at seats seats c.from.result i there.0 _ refl c.from.ensures there.1 in
    let was : c.holds-held.result ≡ holds_at seats i = c.holds-held.ensures.value ∙ (ap (λ (s : Seat). s.on && s.held) read ∙ sym (holds_there seats i there.0 there.1)) in
    still_held seats c.as_slice.result.now i c.from.result c.args.seat c.holds-held.result c.self.inside.holders c.from.ensures c.as_slice.ensures.value was c.self.invariant.1 now

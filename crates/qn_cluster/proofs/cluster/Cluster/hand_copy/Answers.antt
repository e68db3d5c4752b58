use Rattle.std.proofs.Common.{◌∙◌, refl, sym, ap, subst}
use Rattle.qn_model.specs.Moments.{packets_of}
use Rattle.qn_cluster.specs.Seats.{HandedSeat}
use Rattle.qn_cluster.proofs.HandSteps.{handed_by_copy, silent_world, unhanded_world}
use Rattle.qn_cluster.proofs.cluster.Cluster.hand_copy.Goals as goal

pub returns-then-sends-clause-err : goal.returns-then-sends-clause-err
returns-then-sends-clause-err c =
    let hands = handed_by_copy c.seat.result.now c.copy-seat.result c.hand.new.self c.args.self.now.time c.args.what c.hand.new.outs
    c.copy-seat.ensures.room c.copy-seat.ensures.op c.copy-seat.ensures.stands
    (subst (λ t. HandedSeat c.copy-seat.result c.hand.new.self t c.args.what c.hand.new.outs) (ap (λ w. w.time) c.self.view_is) c.hand.ensures) in
    unhanded_world c.args.self.now c.args.self.now c.args.i.0 c.seat.result.now c.hand.new.self c.args.what c.hand.new.outs c.seat.ensures hands refl
    (λ none. let quiet = c.sends.ensures.1 (ap packets_of c.as_slice.ensures.value ∙ none) in let yes = c.if-sends.true in cc)

pub returns-clause-ok : goal.returns-clause-ok
returns-clause-ok c =
    let hands = handed_by_copy c.seat.result.now c.copy-seat.result c.hand.new.self c.args.self.now.time c.args.what c.hand.new.outs
    c.copy-seat.ensures.room c.copy-seat.ensures.op c.copy-seat.ensures.stands
    (subst (λ t. HandedSeat c.copy-seat.result c.hand.new.self t c.args.what c.hand.new.outs) (ap (λ w. w.time) c.self.view_is) c.hand.ensures) in
    silent_world c.args.self.now c.reseat.new.self c.args.i.0 c.seat.result.now c.hand.new.self c.args.what c.hand.new.outs c.seat.ensures c.requires.room hands
    (ap packets_of (sym c.as_slice.ensures.value) ∙ c.sends.ensures.0 c.if-sends.false) c.reseat.ensures

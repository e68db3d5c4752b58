use Rattle.std.proofs.Common.{ℕ, ◌≤◌, List, length, take, subst, sym, ◌∙◌}
use Rattle.qn_io.specs.Lines.{HasNoLineFeed}
use Rattle.qn_io.proofs.FrontLemmas.{short_moves, short_unended}
use Rattle.qn_io.proofs.buffered.Pieces.move_line.Goals as goal

pub returns-then-room-count-clause-moves : goal.returns-then-room-count-clause-moves
returns-then-room-count-clause-moves c =
    let waiting = c.args.self.now in
    let count = c.length_before_end-count.result in
    short_moves c.args.line.now.items waiting c.move_front.new.line.items c.remaining_capacity-room.result count
    (subst (λ (xs : List ℕ). HasNoLineFeed (take count xs)) c.waiting-waiting.ensures.value c.length_before_end-count.ensures.before)
    (subst (λ (xs : List ℕ). count ≤ length xs) c.waiting-waiting.ensures.value c.length_before_end-count.ensures.within)
    c.if-room-count.true c.move_front.ensures.line c.take_first.result c.take_first.new.self c.remaining_capacity-room.ensures
    (sym c.move_front.ensures.left ∙ c.take_first.ensures.takes)

pub returns-then-room-count-clause-unended : goal.returns-then-room-count-clause-unended
returns-then-room-count-clause-unended c =
    let waiting = c.args.self.now in
    let count = c.length_before_end-count.result in
    short_unended c.args.line.now.items waiting c.move_front.new.line.items c.remaining_capacity-room.result count
    (subst (λ (xs : List ℕ). HasNoLineFeed (take count xs)) c.waiting-waiting.ensures.value c.length_before_end-count.ensures.before)
    (subst (λ (xs : List ℕ). count ≤ length xs) c.waiting-waiting.ensures.value c.length_before_end-count.ensures.within)
    c.if-room-count.true c.move_front.ensures.line

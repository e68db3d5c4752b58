use Rattle.std.proofs.Common.{◌≡◌, ◌<◌, Some, length, sym, ◌∙◌, ap, arith}
use Rattle.std.specs.Prelude.{slice_get}
use Rattle.std.proofs.lemmas.Option.{slice_get-get_or}
use Rattle.qn_cluster.specs.Holders.{holds_at}
use Rattle.qn_cluster.proofs.Holders.{holds_there, one_held, one_free}
use Rattle.qn_cluster.proofs.seats.holders_of.Goals as goal
use Rattle.qn_cluster.proofs.seats.holders_of.Goals.{then-holds, else-holds}

pub loop-rank-preserved : goal.loop-rank-preserved
loop-rank-preserved c =
    let rank = c.loop-rank.rank in
    let seats = c.args.seats.now in
    let seat = c.index-seats-rank.result in
    let below : rank < length seats = c.loop-rank-test.true in
    let few = c.requires in
    let fits : rank < 32 = omega arith in
    let here : slice_get seats rank ≡ Some seat = slice_get-get_or seats rank seat below ∙ ap Some (sym c.index-seats-rank.is) in
    let held : c.holds.result ≡ holds_at seats rank = c.holds.ensures.value ∙ sym (holds_there seats rank seat here) in
    elim c.if-holds.branch [
      | then-holds b ↦ one_held c.loop-rank.holders c.if-holds.holders rank (length seats) (holds_at seats) c.holds.result below fits b.if-holds.true held b.holders-is ∙ c.loop-rank.invariant
      | else-holds b ↦ one_free c.loop-rank.holders c.if-holds.holders rank (length seats) (holds_at seats) c.holds.result below b.if-holds.false held b.holders-is ∙ c.loop-rank.invariant
    ]

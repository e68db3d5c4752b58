use Rattle.std.proofs.Common.{◌++◌, take}
use Rattle.std.proofs.KnownBytes.{Appends-trans}
use Rattle.qn_io.specs.Splitting.{split_rest}
use Rattle.qn_exchange.proofs.again.write_whole.Goals as goal

pub writes-preserved : goal.writes-preserved
writes-preserved g c =
    let front = c.writes.invariant.0 in
    let part = take c.in_ok-count.count c.writes.rest.now in (
      front ++ part,
      split_rest _ _ _ _ _ c.writes.invariant.1 c.split_at.ensures.back,
      Appends-trans _ _ _ front part c.writes.invariant.2 c.in_ok-count.ensures.appends,
    )

use Rattle.std.proofs.Common.{◌++◌, take, sym, ap, ◌∙◌, arith}
use Rattle.std.specs.Io.KnownBytes.{append_known}
use Rattle.qn_io.specs.Outside.{append_known-append}
use Rattle.qn_io.specs.Splitting.{split_rest}
use Rattle.qn_io.proofs.whole.put_all.Goals as goal

pub writes-preserved : goal.writes-preserved
writes-preserved g c =
    let rest = c.writes.rest.now in
    let front = c.writes.invariant.0 in
    let count = c.in_ok-count.count in (
      front ++ take count rest,
      split_rest _ _ _ _ _ c.writes.invariant.1 c.split_at.ensures.back,
      c.in_ok-count.ensures.gives ∙ ap (λ known. append_known known (take count rest)) c.writes.invariant.2 ∙ sym (append_known-append (g.O.Sink.written c.args.out.now) front (take count rest)),
      omega (arith, c.writes.invariant.3, c.in_ok-count.ensures.never_falls),
    )

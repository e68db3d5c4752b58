use Rattle.std.proofs.Common.{replicate, sym, ap}
use Rattle.qn_exchange.specs.Clients.{unused_bytes}
use Rattle.qn_exchange.proofs.nbd_client.Stride.unused.Goals as goal

pub returns-in-Long : goal.returns-in-Long
returns-in-Long c = ap (λ s. replicate (unused_bytes s) 0) (sym c.in-Long.is)

-- What is left as it was.
use Rattle.std.proofs.Common.{ℕ, List, Option}
use Rattle.std.specs.Io.KnownBytes.{Keeps}
use Rattle.std.proofs.KnownBytes.{Keeps-refl}

pub kept : (a : Option (List ℕ)) → Keeps a a
kept a = Keeps-refl a

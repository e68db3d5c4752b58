use Rattle.std.proofs.Common.{ℕ, ◌≤◌, arith}
use Rattle.qn_base.specs.Faults.{HasRisen}

-- a count that rose in a part of the time rose over the whole of it
pub HasRisen-within : (first second third last : ℕ) → first ≤ second → second ≤ third → third ≤ last → HasRisen second third → HasRisen first last
HasRisen-within first second third last before within after rose = grind (arith, rose)

-- How a resource is told to start or to stop (this project's profile).
use Rattle.std.specs.Prelude.{◌≡◌, ℕ, ◌≤◌, List, Option, codes, length}
use Rattle.std.specs.Io.KnownBytes.{Consumes}
use Rattle.qn_exchange.specs.declared.order.Order.{Order}
use Rattle.qn_exchange.specs.declared.order.Order.TheVariants.{Start, Stop}

-- what its file begins with
abbrev pub file_word : Order → List ℕ
file_word Start = codes "held"
file_word Stop = codes "free"

-- the line that its agent is sent
abbrev pub agent_line : Order → List ℕ
agent_line Start = codes "start\n"
agent_line Stop = codes "stop\n"

-- what was read of an agent's answer is at most its first line's length, and not `ok` and its end
pub record Declines (old new : Option (List ℕ)) : Type 0 where
  pub answer : List ℕ
  pub short : length answer ≤ 3
  pub other : answer ≡ codes "ok\n" → ⊥
  pub takes : Consumes old new answer

-- A real reader or writer: what it tells of its bytes, by the kit's `Read` and `Write`, and the failures so far.
use Rattle.std.specs.Prelude.{ℕ, List, Option}

-- the bytes that a reader has left, where it tells them
pub record RealInput : Type 0 where
  pub left : Option (List ℕ)
  pub faults : ℕ

-- the bytes that a writer holds, where it tells them
pub record RealOutput : Type 0 where
  pub contents : Option (List ℕ)
  pub faults : ℕ

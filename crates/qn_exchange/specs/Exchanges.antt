-- What an exchange with a server read of a reader, by what the reader had left before and after it.
use Rattle.std.specs.Prelude.{◌≡◌, ℕ, ◌≤◌, List, length, Option}
use Rattle.std.specs.Io.KnownBytes.{Consumes}
use Rattle.std.specs.Str.{IsUtf8}
use Rattle.qn_etcd.specs.Heads.{IsAnswer}
use Rattle.qn_nbd.specs.Requests.{answer_of}
use Rattle.qn_nbd.specs.declared.requests.Answer.{Answer}

-- it read an answer with this body, and nothing after it
pub record ReadsAnswer (old new : Option (List ℕ)) (body : List ℕ) : Type 0 where
  pub bytes : List ℕ
  pub takes : Consumes old new bytes
  pub answer : IsAnswer bytes body

-- what it read is no answer of up to 8192 bytes with a text as its body
pub record ReadsNoAnswer (old new : Option (List ℕ)) : Type 0 where
  pub bytes : List ℕ
  pub takes : Consumes old new bytes
  pub none : (body : List ℕ) → length bytes ≤ 8192 → IsUtf8 body → ¬ (IsAnswer bytes body)

-- it read the head of a block server's answer, and nothing after it: that is what the head says to the request of that number
pub record ReadsHead (old new : Option (List ℕ)) (number : ℕ) (answer : Answer) : Type 0 where
  pub bytes : List ℕ
  pub whole : length bytes ≡ 16
  pub takes : Consumes old new bytes
  pub says : answer ≡ answer_of number bytes

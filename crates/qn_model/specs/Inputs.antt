-- What the bytes that were taken of an input tell of the answer to it: this project's profile, shared by every command
-- that reads lines.
use Rattle.std.specs.Prelude.{◌≡◌, ℕ, List, ◌++◌}
use Rattle.qn_model.specs.Lines.{Ending, Ended, ReadFailed}

-- a text begins with another
abbrev pub BeginsWith : List ℕ → List ℕ → Type 0
BeginsWith text front = (rest : List ℕ) × (text ≡ front ++ rest)

-- What the bytes that were taken tell of the answer: anyway, whatever follows them and however the input ends; or as the
-- whole input; or as all that came before a read failed.
pub data Tells {A : Type 0} (answer_of : Ending → List ℕ → A) (taken : List ℕ) (at_end failed : Type 0) (Holds : A → Type 0) : Type 0 where
  Anyway : ((ending : Ending) (more : List ℕ) → Holds (answer_of ending (taken ++ more))) → Tells answer_of taken at_end failed Holds
  AtEnd : at_end → Holds (answer_of Ended taken) → Tells answer_of taken at_end failed Holds
  AtFailure : failed → Holds (answer_of ReadFailed taken) → Tells answer_of taken at_end failed Holds

-- what follows from what the bytes tell, they tell too
pub tells_more : {A : Type 0} {answer_of : Ending → List ℕ → A} {taken : List ℕ} {at_end failed : Type 0} (P Q : A → Type 0)
    → ((a : A) → P a → Q a) → Tells answer_of taken at_end failed P → Tells answer_of taken at_end failed Q
tells_more P Q weaker (Anyway always) = Anyway (λ ending more. weaker _ (always ending more))
tells_more P Q weaker (AtEnd ended holds) = AtEnd ended (weaker _ holds)
tells_more P Q weaker (AtFailure fails holds) = AtFailure fails (weaker _ holds)

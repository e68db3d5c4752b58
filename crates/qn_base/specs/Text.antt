-- Words that every text of the program shares: this project's profile.
use Rattle.std.specs.Prelude.{ℕ, Bool, true, false, List, codes}

-- a truth, as a text says it
abbrev pub yes_no : Bool → List ℕ
yes_no true = codes "yes"
yes_no false = codes "no"

-- The first words of the lines that only a schedule beside an arbiter has: this project's profile.
use Rattle.std.specs.Prelude.{ℕ, List, [], ◌∷◌, Option, codes, find}
use Rattle.std.specs.Str.{bytes_eq}
use Rattle.qn_arbiter.specs.declared.event_name.ArbiterName.{ArbiterName}
use Rattle.qn_arbiter.specs.declared.event_name.ArbiterName.TheVariants.{PassWith, ArbiterBoot, ArbiterCrash, Poll, Hear, Reply}

-- the first word
abbrev pub arbiter_word : ArbiterName → List ℕ
arbiter_word PassWith = codes "pass-with"
arbiter_word ArbiterBoot = codes "arbiter-boot"
arbiter_word ArbiterCrash = codes "arbiter-crash"
arbiter_word Poll = codes "poll"
arbiter_word Hear = codes "hear"
arbiter_word Reply = codes "reply"

-- all of them
abbrev pub arbiter_names : List ArbiterName
arbiter_names = PassWith ∷ ArbiterBoot ∷ ArbiterCrash ∷ Poll ∷ Hear ∷ Reply ∷ []

-- the name that a first word is
unfoldable pub arbiter_name : List ℕ → Option ArbiterName
arbiter_name word = find (λ name. bytes_eq (arbiter_word name) word) arbiter_names

use Rattle.std.proofs.Common.{ℕ, ◌≡◌, ◌<◌, List, [], ◌∷◌, arith, refl}
use Rattle.std.proofs.lemmas.Grind.{common_steps}
use Rattle.qn_event.specs.EventWords.{quoted_in}
use Rattle.qn_event.proofs.event_line.EventLine.quoted_text.Goals as goal

-- nothing of a text has less room than five bytes
nothing_in_little : (room : ℕ) → (text : List ℕ) → room < 5 → quoted_in room text ≡ []
nothing_in_little room [] little = refl
nothing_in_little room (byte ∷ rest) little = grind arith

pub returns-then-len-gt-EVENT_WORDS-clause-words :
    goal.returns-then-len-gt-EVENT_WORDS-clause-words
returns-then-len-gt-EVENT_WORDS-clause-words c = grind (arith, common_steps, nothing_in_little)

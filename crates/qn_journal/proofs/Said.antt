-- The text of a value that shows this says this.
use Rattle.std.proofs.Common.{◌≡◌, ℕ, List, Option, Some, None}
use Rattle.std.specs.Prelude.{IfSome}
use Rattle.qn_shown.specs.declared.shown.Shown.{Shown}
use Rattle.qn_journal.specs.StatusTexts.{status_text}
use Rattle.qn_journal.specs.declared.status.Seen.{Seen}
use Rattle.qn_journal.specs.Statuses.{IsStatusOf, Shows}

pub said : (seen : Seen) (shown : Shown) → Shows seen shown → (text : Option (List ℕ)) → IfSome text (λ bytes. bytes ≡ status_text shown)
    → IfSome text (IsStatusOf seen)
said seen shown shows None is = is
said seen shown shows (Some bytes) is = record { shown = shown; shows = shows; is = is }

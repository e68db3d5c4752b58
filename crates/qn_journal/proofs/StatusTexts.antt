-- What is put together of a value is the text of its status file.
use Rattle.std.proofs.Common.{◌≡◌, ◌∷◌, [], ap, sym, ◌∙◌}
use Rattle.json.specs.Tree.{json_tokens}
use Rattle.qn_shown.specs.declared.shown.Shown.{Shown}
use Rattle.qn_shown.specs.Spelling.{shown_json, shown_text}
use Rattle.qn_journal.specs.declared.fixed_text.FixedText.{FixedText}
use Rattle.qn_journal.specs.FixedTexts.{nothing_yet, with_byte, with_text}
use Rattle.qn_journal.specs.JsonTexts.{empty, with_json}
use Rattle.qn_journal.specs.StatusTexts.{status_text}
use Rattle.qn_journal.proofs.Printing.{one_byte, text_then, tokens_are}

pub status_is : (shown : Shown) → with_byte (with_json empty (shown_json shown)).text 10 ≡ with_text nothing_yet (status_text shown)
status_is shown =
    ap (λ (text : FixedText). with_byte text 10) (tokens_are empty (json_tokens (shown_json shown)))
    ∙ one_byte (with_text nothing_yet (shown_text shown)) 10
    ∙ sym (text_then nothing_yet (shown_text shown) (10 ∷ []))

-- A journal over one more entry, and what it says of resets.
use Rattle.std.proofs.Common.{◌≡◌, refl, sym, ap, ◌∙◌, ℕ, List, [], ◌∷◌, ◌++◌, Option, None, Some, append_assoc}
use Rattle.std.specs.Prelude.{option_to_list}
use Rattle.std.specs.List.{cons_option}
use Rattle.std.proofs.lemmas.List.{append-nil}
use Rattle.std.proofs.lemmas.List.Elements.{filter_map-append}
use Rattle.qn_model.specs.declared.configuration.Settings.{Settings}
use Rattle.qn_model.specs.declared.entries.Entry.{Entry}
use Rattle.qn_model.specs.Log.{Line}
use Rattle.qn_model.specs.NodeOutputs.{log_from, newest_outs, with_entry}
use Rattle.qn_live.specs.Standings.{standing}
use Rattle.qn_notice.specs.Journal.{journal_from, told}
use Rattle.qn_notice.specs.Laws.{reset_answer, reset_answers, reset_in, resets_in}
use Rattle.qn_notice.proofs.Words.{reset_once}

pub journal_grows :
    (s : Settings) (me : ℕ) (past : List Line) (history : List Entry) (entry : Entry)
    → journal_from s me past (history ++ entry ∷ []) ≡ journal_from s me past history ++ told s me (log_from s me past history) entry
unfolding journal_from log_from
journal_grows s me past [] entry = append-nil (told s me past entry)
journal_grows s me past (first ∷ history) entry =
    ap (λ later. told s me past first ++ later) (journal_grows s me (with_entry s me past first) history entry)
    ∙ sym (append_assoc (told s me past first) (journal_from s me (with_entry s me past first) history) (told s me (log_from s me (with_entry s me past first) history) entry))

-- what may be there, before others
cons_said : {X : Type 0} (said : Option X) (later : List X) → option_to_list said ++ later ≡ cons_option said later
cons_said None later = refl
cons_said (Some x) later = refl

pub journal_resets : (s : Settings) (me : ℕ) (past : List Line) (history : List Entry) → resets_in (journal_from s me past history) ≡ reset_answers history
unfolding journal_from
journal_resets s me past [] = refl
journal_resets s me past (entry ∷ history) =
    let next = with_entry s me past entry in
    filter_map-append reset_in (told s me past entry) (journal_from s me next history)
    ∙ ap (λ said. said ++ resets_in (journal_from s me next history)) (reset_once (standing s me past) (standing s me next) entry.what (newest_outs next))
    ∙ ap (λ later. option_to_list (reset_answer entry.what) ++ later) (journal_resets s me next history)
    ∙ cons_said (reset_answer entry.what) (reset_answers history)

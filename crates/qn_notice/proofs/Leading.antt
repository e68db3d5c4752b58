-- Words that turn a truth over, each in its turn.
use Rattle.std.proofs.Common.{◌≡◌, refl, sym, ap, ◌∙◌, subst, ℕ, Bool, true, false, List, [], ◌∷◌, ◌++◌, Option}
use Rattle.std.specs.Prelude.{filter_map, option_to_list}
use Rattle.std.proofs.lemmas.List.Elements.{filter_map-append}
use Rattle.qn_model.specs.declared.configuration.Settings.{Settings}
use Rattle.qn_model.specs.declared.entries.Entry.{Entry}
use Rattle.qn_model.specs.declared.entries.What.{What}
use Rattle.qn_model.specs.declared.outputs.Out.{Out}
use Rattle.qn_model.specs.Log.{Line}
use Rattle.qn_model.specs.NodeOutputs.{log_from, newest_outs, with_entry}
use Rattle.qn_live.specs.declared.standing.Standing.{Standing}
use Rattle.qn_live.specs.Standings.{standing}
use Rattle.qn_notice.specs.declared.kinds.Event.{Event}
use Rattle.qn_notice.specs.Events.{change, events}
use Rattle.qn_notice.specs.Journal.{journal_from, told}
use Rattle.qn_notice.specs.Laws.{LeadsTo}

-- one change leads from the truth before to the one after
leads_once : (before after : Bool) → LeadsTo before (option_to_list (change before after)) after
leads_once true true = refl
leads_once true false = (refl, refl)
leads_once false true = (refl, refl)
leads_once false false = refl

leads_on : (before : Bool) (said : List Bool) (between : Bool) (later : List Bool) (after : Bool) → LeadsTo before said between → LeadsTo between later after → LeadsTo before (said ++ later) after
leads_on before [] between later after h k = subst (λ b. LeadsTo b later after) (sym h) k
leads_on before (word ∷ said) between later after h k = (h.0, leads_on word said between later after h.1 k)

-- a truth of the state whose changes alone have a word: the words of a journal lead from the first state to the last
pub journal_leads :
    (truth : Standing → Bool) (word : Event → Option Bool)
    → ((before after : Standing) (entry : What) (outs : List Out)
    → filter_map word (events before after entry outs) ≡ option_to_list (change (truth before) (truth after)))
    → (s : Settings) (me : ℕ) (past : List Line) (history : List Entry)
    → LeadsTo (truth (standing s me past)) (filter_map word (journal_from s me past history)) (truth (standing s me (log_from s me past history)))
unfolding journal_from log_from
journal_leads truth word once s me past [] = refl
journal_leads truth word once s me past (entry ∷ history) =
    let next = with_entry s me past entry in
    let before : Bool = truth (standing s me past) in
    let between : Bool = truth (standing s me next) in
    let after : Bool = truth (standing s me (log_from s me next history)) in
    let rest : List Event = journal_from s me next history in
    let said : filter_map word (told s me past entry) ≡ option_to_list (change before between) =
    once (standing s me past) (standing s me next) entry.what (newest_outs next) in
    subst (λ words. LeadsTo before words after)
    (sym (filter_map-append word (told s me past entry) rest ∙ ap (λ words. words ++ filter_map word rest) said))
    (leads_on before (option_to_list (change before between)) between (filter_map word rest) after
    (leads_once before between)
    (journal_leads truth word once s me next history))

use Rattle.std.proofs.Common.{◌≡◌, ◌≢◌, ℕ, ◌/◌, ◌^◌, Bool, true, false, Some, None, Option, List, length, refl, sym, ap, ◌∙◌}
use Rattle.std.specs.Prelude.{◌==◌, if◌then◌else◌, is_none, not, unwrap_or}
use Rattle.std.specs.Option.{option_map_or}
use Rattle.std.proofs.lemmas.Bool.{eqb-true, false≢true}
use Rattle.std.proofs.lemmas.Option.{none-some, same_Some}
use Rattle.qn_base.specs.declared.ids.NodeId.{NodeId}
use Rattle.qn_model.specs.declared.configuration.Settings.{Settings}
use Rattle.qn_model.specs.declared.life.Why.{Why}
use Rattle.qn_model.specs.declared.life.Why.TheVariants as why
use Rattle.qn_model.specs.Holding.{holds}
use Rattle.qn_model.specs.Log.{Line, now}
use Rattle.qn_model.specs.NodeOutputs.{gives_start}
use Rattle.qn_model.specs.NodeVotes.{answer_with_tie, quorate_with_tie, released, view}
use Rattle.qn_model.specs.Phases.{is_up, phase}
use Rattle.qn_model.specs.Unmet.{chosen, id_of, is_clear, lacks_of_others, or_else, other_chosen, unmet}
use Rattle.qn_candidate.proofs.Choosing.{choose_none, choose_rank, chosen_by}
use Rattle.qn_candidate.proofs.laws.law_only_the_named_start.Goals as goal

-- where nothing blocks a start, nobody else is chosen
clear_by : (down held viewless waits few : Bool) (count quorum : ℕ) (other : Option ℕ) (id : ℕ → NodeId) (rest : Why)
    → is_clear (if down then why.Down
    else (if held then why.Holding
    else (if viewless then why.NoView
    else (if waits then why.WaitForAll
    else (if few then why.NotQuorate count quorum else or_else other (λ rank. why.NotChosen (id rank)) rest))))) ≡ true
    → other ≡ None
clear_by true held viewless waits few count quorum other id rest e = absurd (false≢true e)
clear_by false true viewless waits few count quorum other id rest e = absurd (false≢true e)
clear_by false false true waits few count quorum other id rest e = absurd (false≢true e)
clear_by false false false true few count quorum other id rest e = absurd (false≢true e)
clear_by false false false false true count quorum other id rest e = absurd (false≢true e)
clear_by false false false false false count quorum None id rest e = refl
clear_by false false false false false count quorum (Some rank) id rest e = absurd (false≢true e)

start_chosen : (s : Settings) (me : ℕ) (log : List Line) → gives_start s me log ≡ true → chosen s log ≡ Some me
unfolding unmet
start_chosen s me log e =
    itself (chosen s log)
    (clear_by (not (is_up (phase s log))) (holds log) (is_none (view log)) (not (released s log)) (not (quorate_with_tie s log (now log)))
    (answer_with_tie s log (now log)).votes (answer_with_tie s log (now log)).quorum (other_chosen s me log) (λ rank. id_of s rank)
    (lacks_of_others s me log (now log)) e)
  where
    by_test : (rank : ℕ) (b : Bool) → (rank == me) ≡ b → (if b then None else Some rank) ≡ None → Some rank ≡ Some me
    by_test rank true same o = ap Some (eqb-true rank me same)
    by_test rank false other o = absurd (none-some rank (sym o))

    itself : (found : Option ℕ) → (if option_map_or (λ rank. rank == me) found false then None else Some (unwrap_or found 255)) ≡ None
        → found ≡ Some me
    itself None o = absurd (none-some 255 (sym o))
    itself (Some rank) o = by_test rank (rank == me) refl o

never : (s : Settings) (me : ℕ) (log : List Line) (b : Bool) → gives_start s me log ≡ b → chosen s log ≢ Some me → b ≡ false
never s me log true starts other = absurd (other (start_chosen s me log starts))
never s me log false starts other = refl

pub returns-clause-chosen : goal.returns-clause-chosen
returns-clause-chosen c = λ s me log starts. start_chosen s me log starts

pub returns-clause-barred : goal.returns-clause-barred
returns-clause-barred c = λ s me log seen there barred.
    never s me log (gives_start s me log) refl
    (λ own. none-some me (sym (chosen_by s log seen there ∙ choose_none (length s.nodes) (seen.id / 2 ^ 56) seen.members (eqb-true _ _ barred)) ∙ own))

pub returns-clause-named : goal.returns-clause-named
returns-clause-named c = λ s me log seen rank there named member within few other.
    never s me log (gives_start s me log) refl
    (λ own. other (same_Some _ _ (sym (chosen_by s log seen there
    ∙ choose_rank (length s.nodes) (seen.id / 2 ^ 56) rank seen.members (eqb-true _ _ named) within few member) ∙ own)))

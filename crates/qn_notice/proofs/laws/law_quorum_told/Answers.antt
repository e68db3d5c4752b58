use Rattle.std.proofs.Common.{◌≡◌, refl, subst, ℕ, Bool, false, ◌==◌, ◌*◌, [], Option, None, Some}
use Rattle.std.proofs.lemmas.Bool.{and_right}
use Rattle.std.specs.Option.{option_map_or}
use Rattle.qn_model.specs.declared.configuration.Settings.{Settings}
use Rattle.qn_model.specs.NodeOutputs.{log_of}
use Rattle.qn_model.specs.NodeVotes.{votes}
use Rattle.qn_model.specs.Tie.{tie_node}
use Rattle.qn_model.specs.Votes.{expected_votes, is_released, present_view, view_votes}
use Rattle.qn_live.specs.Standings.{standing}
use Rattle.qn_notice.specs.Laws.{LeadsTo, quorum_in, quorums_in}
use Rattle.qn_notice.specs.Journal.{journal_of}
use Rattle.qn_notice.proofs.Leading.{journal_leads}
use Rattle.qn_notice.proofs.Words.{quorum_once}
use Rattle.qn_notice.proofs.laws.law_quorum_told.Goals as goal

pub returns-clause-once : goal.returns-clause-once
returns-clause-once c = λ before after entry outs. quorum_once before after entry outs

never : {A : Type 0} (o : Option A) → option_map_or (λ (x : A). false) o false ≡ false
never None = refl
never (Some x) = refl

-- no node is quorate before its first entry
first_not_quorate : (s : Settings) (me : ℕ) → (standing s me []).answer.quorate ≡ false
unfolding votes present_view
first_not_quorate s me =
    and_right (is_released s []) _
    (and_right (2 * view_votes s [] == expected_votes s []) _ (never (tie_node s [])))

pub returns-clause-journal : goal.returns-clause-journal
returns-clause-journal c = λ s me history.
    subst
    (λ (first : Bool). LeadsTo first (quorums_in (journal_of s me history)) (standing s me (log_of s me history)).answer.quorate)
    (first_not_quorate s me)
    (journal_leads (λ stood. stood.answer.quorate) quorum_in quorum_once s me [] history)

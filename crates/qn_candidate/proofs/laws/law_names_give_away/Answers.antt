use Rattle.std.proofs.Common.{◌≡◌, ◌≢◌, ℕ, ◌+◌, ◌/◌, ◌^◌, Bool, true, false, Some, None, Option, List, length, refl, ap, ap₂, ◌∙◌, arith}
use Rattle.std.specs.Prelude.{◌&&◌, ◌||◌, ◌==◌, nat_lt, not}
use Rattle.std.specs.Option.{option_map_or}
use Rattle.std.proofs.lemmas.Bool.{eq-eqb, eqb-true, ne_eqb}
use Rattle.qn_base.specs.Candidates.{is_barred, is_named}
use Rattle.qn_base.specs.Members.{is_member}
use Rattle.qn_base.specs.declared.ids.Mask.{Mask}
use Rattle.qn_base.specs.declared.ids.View.{View}
use Rattle.qn_base.specs.lemmas.Bools.{first_of_neither, second_of_both, second_of_neither}
use Rattle.qn_model.specs.declared.configuration.Settings.{Settings}
use Rattle.qn_model.specs.Holding.{holds, may_stop}
use Rattle.qn_model.specs.Log.{Line, now, timing}
use Rattle.qn_model.specs.NodeVotes.{quorate_with_tie, view}
use Rattle.qn_model.specs.Phases.{is_leaving, phase}
use Rattle.qn_model.specs.Unmet.{is_given_away, least_from}
use Rattle.qn_model.specs.lemmas.LeastRanks.{least_passes}
use Rattle.qn_candidate.proofs.Choosing.{named_none, named_rank}
use Rattle.qn_candidate.proofs.laws.law_names_give_away.Goals as goal

-- whether a view of these members whose number has this high byte gives the resource of a rank away
abbrev gives_away : ℕ → ℕ → ℕ → Mask → Bool
gives_away count me high members =
    high == 254 || option_map_or (λ rank. not (rank == me)) (least_from count 0 (λ r. is_member members r && (high == r + 1))) false

given_by : (s : Settings) (me : ℕ) (log : List Line) (seen : View) → view log ≡ Some seen
    → is_given_away s me log ≡ gives_away (length s.nodes) me (seen.id / 2 ^ 56) seen.members
given_by s me log seen there =
    ap (λ (v : Option View).
    option_map_or (λ view. is_barred view) v false
    || option_map_or (λ rank. not (rank == me))
    (least_from (length s.nodes) 0 (λ rank. option_map_or (λ view. is_member view.members rank) v false && option_map_or (λ view. is_named view rank) v false)) false)
    there

second_true : (a b : Bool) → b ≡ true → (a || b) ≡ true
second_true true b e = refl
second_true false b e = e

other_of : (me : ℕ) (found : Option ℕ) (rank : ℕ) → found ≡ Some rank → rank ≢ me → option_map_or (λ rank. not (rank == me)) found false ≡ true
other_of me found rank is other =
    ap (λ o. option_map_or (λ rank. not (rank == me)) o false) is ∙ ap not (ne_eqb rank me other)

-- who is found is the node itself
itself_of : (count me high : ℕ) (members : Mask) (found : Option ℕ) → high ≡ me + 1
    → least_from count 0 (λ r. is_member members r && (high == r + 1)) ≡ found
    → option_map_or (λ rank. not (rank == me)) found false ≡ false
itself_of count me high members None own is = refl
itself_of count me high members (Some rank) own is =
    let same : high ≡ rank + 1 =
    eqb-true high (rank + 1)
    (second_of_both (is_member members rank) (high == rank + 1) (least_passes count 0 (λ r. is_member members r && (high == r + 1)) rank is)) in
    ap not (eq-eqb rank me (omega arith))

all_four : (held gone poor away again : Bool) → held ≡ true → away ≡ true → again ≡ true → (held && (gone || poor || away) && again) ≡ true
all_four held gone poor away again a b c =
    ap₂ (λ x y. x && y) (ap₂ (λ x y. x && y) a (second_true (gone || poor) away b)) c

pub returns-clause-barred : goal.returns-clause-barred
returns-clause-barred c = λ s me log seen there barred.
    given_by s me log seen there
    ∙ ap (λ x. x || option_map_or (λ rank. not (rank == me)) (least_from (length s.nodes) 0 (λ r. is_member seen.members r && (seen.id / 2 ^ 56 == r + 1))) false) barred

pub returns-clause-another : goal.returns-clause-another
returns-clause-another c = λ s me log seen rank there named member within other.
    given_by s me log seen there
    ∙ second_true (seen.id / 2 ^ 56 == 254)
    (option_map_or (λ rank. not (rank == me)) (least_from (length s.nodes) 0 (λ r. is_member seen.members r && (seen.id / 2 ^ 56 == r + 1))) false)
    (other_of me (least_from (length s.nodes) 0 (λ r. is_member seen.members r && (seen.id / 2 ^ 56 == r + 1))) rank
    (named_rank (length s.nodes) (seen.id / 2 ^ 56) rank seen.members (eqb-true _ _ named) within member) other)

pub returns-clause-itself : goal.returns-clause-itself
returns-clause-itself c = λ s me log seen there named few.
    let own : seen.id / 2 ^ 56 ≡ me + 1 = eqb-true _ _ named in
    given_by s me log seen there
    ∙ ap₂ (λ x y. x || y)
    (ne_eqb (seen.id / 2 ^ 56) 254 (λ e. omega arith))
    (itself_of (length s.nodes) me (seen.id / 2 ^ 56) seen.members (least_from (length s.nodes) 0 (λ r. is_member seen.members r && (seen.id / 2 ^ 56 == r + 1))) own refl)

pub returns-clause-plain : goal.returns-clause-plain
returns-clause-plain c = λ s me log seen there none few.
    let high = seen.id / 2 ^ 56 in
    given_by s me log seen there
    ∙ ap₂ (λ x y. x || y)
    (second_of_neither (nat_lt 0 high && nat_lt high 33) (high == 254) none)
    (ap (λ o. option_map_or (λ rank. not (rank == me)) o false)
    (named_none (length s.nodes) high seen.members few (first_of_neither (nat_lt 0 high && nat_lt high 33) (high == 254) none)))

pub returns-clause-stops : goal.returns-clause-stops
returns-clause-stops c = λ s me log held away again.
    all_four (holds log) (is_leaving (phase s log)) (not (quorate_with_tie s log (now log))) (is_given_away s me log) (may_stop (timing log).loop_ms (now log) log) held away again

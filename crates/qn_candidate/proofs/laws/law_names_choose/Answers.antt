use Rattle.std.proofs.Common.{◌≡◌, ℕ, ◌+◌, ◌/◌, ◌^◌, ◌<◌, ◌≤◌, Bool, true, false, List, length, Some, refl, sym, ap, ◌∙◌, arith, subst}
use Rattle.std.specs.Prelude.{nat_lt, if◌then◌else◌}
use Rattle.std.proofs.lemmas.Bool.{lt-ltb, true≢false}
use Rattle.qn_base.specs.declared.ids.View.{View}
use Rattle.qn_model.specs.declared.configuration.Settings.{Settings}
use Rattle.qn_model.specs.Log.{Line}
use Rattle.qn_model.specs.NodeVotes.{view}
use Rattle.qn_candidate.specs.declared.candidate.Name.{Name}
use Rattle.qn_candidate.specs.declared.candidate.Name.TheVariants as name
use Rattle.qn_candidate.specs.Laws.{Chooses}
use Rattle.qn_candidate.specs.Numbers.{is_name, next_plain, number_of, without_name, under_name}
use Rattle.qn_candidate.proofs.Choosing.{choose_least, choose_none, choose_rank, chosen_by, least_of}
use Rattle.qn_candidate.proofs.Numbers.{next_is_none, plain_is_none, under_high}
use Rattle.qn_candidate.proofs.laws.law_names_choose.Goals as goal

-- a rank below 32 is a name
named_high : (rank number : ℕ) (b : Bool) → nat_lt rank 32 ≡ b → rank < 32 → (if b then under_name (rank + 1) number else next_plain number) / 2 ^ 56 ≡ rank + 1
named_high rank number true is below = under_high (rank + 1) number
named_high rank number false is below = absurd (true≢false (sym (lt-ltb rank 32 below) ∙ is))

names : (s : Settings) (log : List Line) (seen : View) (named : Name) (greatest : ℕ) → view log ≡ Some seen → seen.id ≡ number_of named greatest → length s.nodes ≤ 32
    → Chooses s log seen.members named
names s log seen name.Least greatest there id few =
    chosen_by s log seen there
    ∙ (choose_least (length s.nodes) (seen.id / 2 ^ 56) seen.members few
    (subst (λ n. is_name n ≡ false) (sym id) (next_is_none (without_name greatest) (plain_is_none greatest)))
    ∙ least_of s log seen there)
names s log seen (name.One rank) greatest there id few = λ within member.
    chosen_by s log seen there
    ∙ choose_rank (length s.nodes) (seen.id / 2 ^ 56) rank.0 seen.members
    (ap (λ n. n / 2 ^ 56) id ∙ named_high rank.0 (without_name greatest) (nat_lt rank.0 32) refl (omega arith)) within few member
names s log seen name.Nobody greatest there id few =
    chosen_by s log seen there
    ∙ choose_none (length s.nodes) (seen.id / 2 ^ 56) seen.members (ap (λ n. n / 2 ^ 56) id ∙ under_high 254 (without_name greatest))

pub returns : goal.returns
returns c = λ s log seen named greatest there id few. names s log seen named greatest there id few

use Rattle.std.proofs.Common.{◌≡◌, ℕ, ◌+◌, ◌<◌, ◌≤◌, List, [], ◌∷◌, length, take, get_or, refl, ap, sym, ◌∙◌}
use Rattle.std.specs.Prelude.{reverse}
use Rattle.std.proofs.lemmas.List.{take_more, reverse-append, take_all}
use Rattle.qn_plain.specs.declared.tally.Tally.{Tally}
use Rattle.qn_model.specs.declared.votes.Answer.{Answer}
use Rattle.qn_model.specs.declared.configuration.Settings.{Settings}
use Rattle.qn_model.specs.declared.votes.VoteEntry.{VoteEntry}
use Rattle.qn_model.specs.Votes.{present_view, view_tick, is_released, expected_votes, device_yes, answer_at}
use Rattle.qn_model.specs.Tie.{answer_with_tie_at, majority_view}
use Rattle.qn_plain.specs.Tally.{tally_after, tally_of, tally_answer, tally_with_tie}

-- the tally of a list with one more entry
pub tally_of-cons : (s : Settings) (entry : VoteEntry) (past : List VoteEntry)
    → tally_after s entry (tally_of s past) ≡ tally_of s (entry ∷ past)
unfolding present_view view_tick is_released expected_votes device_yes majority_view
tally_of-cons s entry past = refl

-- the count is read off the tally
pub tally_answer-tally_of : (s : Settings) (past : List VoteEntry) (now : ℕ) → tally_answer s (tally_of s past) now ≡ answer_at s past now
unfolding answer_at
tally_answer-tally_of s past now = refl

pub tally_with_tie-tally_of : (s : Settings) (past : List VoteEntry) (now : ℕ) → tally_with_tie s (tally_of s past) now ≡ answer_with_tie_at s past now
unfolding answer_at
tally_with_tie-tally_of s past now = refl

-- the entries up to one, newest first, are it and those before it
reverse-take_more : (votes : List VoteEntry) (i : ℕ) (d : VoteEntry) → i < length votes
    → reverse (take (i + 1) votes) ≡ get_or votes i d ∷ reverse (take i votes)
reverse-take_more votes i d here =
    ap reverse (take_more votes i d here) ∙ reverse-append (take i votes) (get_or votes i d ∷ [])

-- the step of the pass
pub tally_more : (s : Settings) (votes : List VoteEntry) (i : ℕ) (d : VoteEntry) (before after : Tally) → i < length votes
    → before ≡ tally_of s (reverse (take i votes))
    → ((past : List VoteEntry) → before ≡ tally_of s past → after ≡ tally_of s (get_or votes i d ∷ past))
    → after ≡ tally_of s (reverse (take (i + 1) votes))
tally_more s votes i d before after here was step =
    step (reverse (take i votes)) was ∙ ap (tally_of s) (sym (reverse-take_more votes i d here))

-- the end of the pass
pub tally_all : (s : Settings) (votes : List VoteEntry) (i now : ℕ) (tally : Tally) (answer : Answer) → length votes ≤ i
    → tally ≡ tally_of s (reverse (take i votes))
    → answer ≡ tally_answer s tally now
    → answer ≡ answer_at s (reverse votes) now
tally_all s votes i now tally answer all was is =
    is ∙ (ap (λ t. tally_answer s t now) (was ∙ ap (λ es. tally_of s (reverse es)) (take_all i votes all)) ∙ tally_answer-tally_of s (reverse votes) now)

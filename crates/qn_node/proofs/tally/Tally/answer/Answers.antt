use Rattle.std.proofs.Common.{◌≡◌, ℕ, Bool, List, ◌∙◌, ◌&&◌, ◌||◌, ap, refl, sym}
use Rattle.qn_model.specs.declared.configuration.Settings.{Settings}
use Rattle.qn_model.specs.declared.votes.Answer.{Answer}
use Rattle.qn_model.specs.declared.votes.VoteEntry.{VoteEntry}
use Rattle.qn_model.specs.Tie.{answer_with_tie_at, breaks_tie}
use Rattle.qn_model.specs.Votes.{answer_at, expected_votes, is_quorate, is_released}
use Rattle.qn_node.proofs.tally.Tally.answer.Goals as goal

-- the count with another truth of "quorate"
with_breaker : (s : Settings) (past : List VoteEntry) (tick : ℕ) (count : Answer) (decides quorate : Bool) → count ≡ answer_at s past tick
    → decides ≡ breaks_tie s past → quorate ≡ (count.quorate || (count.released && decides)) → record count { quorate = quorate } ≡ answer_with_tie_at s past tick
unfolding answer_at
with_breaker s past tick count decides quorate is breaks value =
    ap (λ b. record count { quorate = b }) value
    ∙ (ap (λ (a : Answer). record a { quorate = a.quorate || (a.released && decides) }) is
    ∙ ap (λ b. record (answer_at s past tick) { quorate = is_quorate s past tick || (is_released s past && b) }) breaks)

expected_of : (s : Settings) (past : List VoteEntry) (tick : ℕ) (count : Answer) → count ≡ answer_at s past tick → count.expected ≡ expected_votes s past
unfolding answer_at
expected_of s past tick count is = ap (λ a. a.expected) is

pub returns-then-count : goal.returns-then-count
returns-then-count c = λ past h.
    let s = c.args.own.now.settings in
    let count = c.answer-count.result in
    let decides = breaks_tie s past in
    let is = c.answer-count.ensures s past h.counts in
    let value = ap (λ b. b || (count.released && decides)) c.if-count.true in
    with_breaker s past c.args.tick count decides _ is refl (c.if-count.true ∙ sym value)

pub returns-then-count-2 : goal.returns-then-count-2
returns-then-count-2 c = λ past h.
    let s = c.args.own.now.settings in
    let count = c.answer-count.result in
    let decides = c.breaks_tie.result in
    let is = c.answer-count.ensures s past h.counts in
    let value = ap (λ b. b || (count.released && decides)) c.if-count.false ∙ ap (λ b. b && decides) c.if-count-2.true in
    with_breaker s past c.args.tick count decides _ is (c.breaks_tie.ensures past h (expected_of s past c.args.tick count is)) (sym value)

pub returns-else-count-2 : goal.returns-else-count-2
returns-else-count-2 c = λ past h.
    let s = c.args.own.now.settings in
    let count = c.answer-count.result in
    let decides = breaks_tie s past in
    let is = c.answer-count.ensures s past h.counts in
    let value = ap (λ b. b || (count.released && decides)) c.if-count.false ∙ ap (λ b. b && decides) c.if-count-2.false in
    with_breaker s past c.args.tick count decides _ is refl (c.if-count-2.false ∙ sym value)

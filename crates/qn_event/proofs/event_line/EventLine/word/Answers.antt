use Rattle.std.proofs.Common.{ℕ, List, ◌∙◌, ap}
use Rattle.qn_event.specs.EventWords.{with_text, with_word}
use Rattle.qn_event.proofs.PlainWords.{plain_word}
use Rattle.qn_event.proofs.event_line.EventLine.word.Goals as goal

pub returns-clause-plain : goal.returns-clause-plain
unfolding with_word
returns-clause-plain c = λ stands.
    c.escape.ensures.words
    ∙ ap (λ (words : List ℕ). with_text words c.args.most c.args.value.now) c.key.ensures.words
    ∙ plain_word c.args.self.now.words c.args.key.now c.args.value.now c.args.most stands

use Rattle.std.proofs.Common.{◌≡◌, sym, ◌∙◌, arith}
use Rattle.std.proofs.lemmas.List.{take_all}
use Rattle.std.proofs.lemmas.Slice.Eq.{bytes_eq-Decides}
use Rattle.qn_audit.proofs.log_word.is_word.Goals as goal

pub returns : goal.returns
returns c =
    let word = c.args.word.now in
    let known = c.args.known.now in
    let same : word ≡ known =
    sym (take_all c.loop-i.i word (omega arith)) ∙ c.loop-i.invariant ∙ take_all c.loop-i.i known (omega arith) in
    sym ((bytes_eq-Decides word known).1 same)

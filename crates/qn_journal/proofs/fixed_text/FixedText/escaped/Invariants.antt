use Rattle.std.proofs.Common.{◌≡◌, drop}
use Rattle.qn_journal.specs.FixedTexts.{with_escaped}
use Rattle.qn_journal.proofs.fixed_text.FixedText.escaped.Given as goal

-- what is there, with the rest added, is the whole
abbrev pub invariant-loop-byte : goal.invariant-loop-byte
invariant-loop-byte l = with_escaped l.self (drop l.byte-index l.text) ≡ with_escaped l.initial.self l.text

use Rattle.std.proofs.Common.{◌≡◌, drop}
use Rattle.qn_journal.specs.FixedTexts.{with_text}
use Rattle.qn_journal.proofs.fixed_text.FixedText.text.Given as goal

-- what is there, with the rest added, is the whole
abbrev pub invariant-loop-byte : goal.invariant-loop-byte
invariant-loop-byte l = with_text l.self (drop l.byte-index l.text) ≡ with_text l.initial.self l.text

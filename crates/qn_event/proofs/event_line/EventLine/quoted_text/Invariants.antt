use Rattle.std.proofs.Common.{◌≡◌, ◌-◌, ◌++◌, drop, length}
use Rattle.qn_event.specs.EventWords.{quoted_in}
use Rattle.qn_event.proofs.event_line.EventLine.quoted_text.Given as goal

-- what is written, and what of the rest has room, is the whole
abbrev pub invariant-loop-byte : goal.invariant-loop-byte
invariant-loop-byte l = record {
  head : l.self.head ≡ l.initial.self.head;
  level : l.self.level ≡ l.initial.self.level;
  words : l.self.words ++ quoted_in (384 - length l.self.words) (drop l.byte-index l.text)
      ≡ l.initial.self.words ++ quoted_in (384 - length l.initial.self.words) l.text;
}

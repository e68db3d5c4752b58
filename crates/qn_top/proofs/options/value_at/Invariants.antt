use Rattle.std.proofs.Common.{◌≡◌, length, map, string_bytes}
use Rattle.qn_top.specs.Options.{value_of}
use Rattle.qn_top.proofs.options.value_at.Given as goal

-- the first of the options that are left is the first of all
abbrev pub invariant-words : goal.invariant-words
invariant-words l = value_of l.option (map string_bytes l.rest) ≡ value_of l.option (map string_bytes l.fn.words)

abbrev pub decreases-words : goal.decreases-words
decreases-words l = length l.rest

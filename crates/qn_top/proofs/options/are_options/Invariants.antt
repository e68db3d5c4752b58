use Rattle.std.proofs.Common.{◌≡◌, length, map, string_bytes}
use Rattle.qn_top.specs.Options.{are_options}
use Rattle.qn_top.proofs.options.are_options.Given as goal

-- what is left decides
abbrev pub invariant-options : goal.invariant-options
invariant-options l = are_options l.known (map string_bytes l.rest) ≡ are_options l.known (map string_bytes l.fn.words)

abbrev pub decreases-options : goal.decreases-options
decreases-options l = length l.rest

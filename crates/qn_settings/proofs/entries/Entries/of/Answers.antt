use Rattle.std.proofs.Common.{arith}
use Rattle.qn_settings.proofs.EntryLemmas.{length-entries_from, length-sections}
use Rattle.qn_settings.specs.Entries.{entries_from}
use Rattle.qn_settings.proofs.entries.Entries.of.Goals as goal

pub returns-clause-bounded : goal.returns-clause-bounded
returns-clause-bounded c = omega (arith, length-entries_from c.new.result c.items.result.now, length-sections (entries_from c.new.result c.items.result.now))

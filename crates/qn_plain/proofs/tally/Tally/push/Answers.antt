use Rattle.std.proofs.Common.{ap, ◌∙◌}
use Rattle.qn_plain.specs.Tally.{with_entry, with_lowered, with_majority}
use Rattle.qn_plain.proofs.EntryByEntry.{tally_of-cons}
use Rattle.qn_plain.proofs.tally.Tally.push.Goals as goal

pub returns-clause-stands : goal.returns-clause-stands
returns-clause-stands c = λ past was.
    let s = c.args.settings.now in
    let entry = c.args.entry.now in
    let lowers = c.lower.ensures ∙ ap (with_lowered s entry.tick) (c.take_in.ensures ∙ ap (with_entry s entry) was) in
    c.note_majority.ensures ∙ (ap (with_majority s entry.what) lowers ∙ tally_of-cons s entry past)

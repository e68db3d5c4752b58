use Rattle.std.proofs.Common.{arith}
use Rattle.qn_plain.proofs.EntryByEntry.{tally_more, tally_all}
use Rattle.qn_plain.proofs.votes.vote_answer.Goals as goal

pub loop-entry-preserved : goal.loop-entry-preserved
loop-entry-preserved c =
    tally_more c.args.settings.now c.args.votes.now c.loop-entry.entry-index _ c.loop-entry.tally c.push.new.self (omega arith) c.loop-entry.invariant c.push.ensures.stands

pub returns : goal.returns
returns c =
    tally_all c.args.settings.now c.args.votes.now c.loop-entry.entry-index c.args.tick c.loop-entry.tally c.answer.result (omega arith) c.loop-entry.invariant c.answer.ensures

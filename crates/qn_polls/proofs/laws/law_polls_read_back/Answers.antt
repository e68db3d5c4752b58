use Rattle.std.proofs.Common.{refl}
use Rattle.qn_polls.proofs.Spelling.{poll_of-spelling, reply_of-spelling}
use Rattle.qn_polls.proofs.laws.law_polls_read_back.Goals as goal

pub returns-clause-polls : goal.returns-clause-polls
returns-clause-polls c = λ poll well_formed. poll_of-spelling _ poll (record { well_formed = well_formed; spelling = refl })

pub returns-clause-replies : goal.returns-clause-replies
returns-clause-replies c = λ reply well_formed. reply_of-spelling _ reply (record { well_formed = well_formed; spelling = refl })

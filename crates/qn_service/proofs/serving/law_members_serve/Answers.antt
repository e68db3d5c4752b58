use Rattle.qn_service.proofs.Owner.{members_serve}
use Rattle.qn_service.proofs.ServedBy.{Laws}
use Rattle.qn_service.proofs.serving.law_members_serve.Goals as goal

pub returns : goal.returns
returns c = λ s t. members_serve s t (c.law_worlds.ensures s t) (c.law_each_is_one_event.ensures.one s t) laws c.law_keeper_is_calm.ensures (c.law_holders_run.ensures s t)
  where
    laws : Laws
    laws =
        record {
          timed = c.law_any_runs_are_timed.ensures;
          slow = c.law_clocks.ensures.slow;
          majority = c.law_majority_is_quorate.ensures;
          heard = c.law_members_are_heard.ensures.each;
          takes = c.law_chosen_member_holds.ensures.heard;
          keeps = c.law_holder_holds.ensures;
        }

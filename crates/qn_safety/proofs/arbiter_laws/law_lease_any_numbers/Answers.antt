use Rattle.qn_safety.proofs.ArbiterBelow.{Below}
use Rattle.qn_safety.proofs.ArbiterLeases.{one_lease}
use Rattle.qn_safety.proofs.ArbiterPlaying.{may_run}
use Rattle.qn_safety.proofs.Holders.{timed}
use Rattle.qn_safety.proofs.Incarnations.{slot_of_up}
use Rattle.qn_safety.proofs.LogMoves.{move_of}
use Rattle.qn_safety.proofs.arbiter_laws.law_lease_any_numbers.Goals as goal

pub returns : goal.returns
returns c = λ s t times leased events i j left right all.
    one_lease below c.law_disjoint_votes.ensures.together c.law_disjoint_votes.ensures.expected c.law_present_view.ensures
    s t times events i j left right leased (may_run s t times events all)
  where
    below : Below
    below = record {
      timed = λ s t events allowed. timed allowed;
      slow = c.law_clocks.ensures.slow;
      number = slot_of_up;
      time = c.law_boots.ensures.time;
      count = c.law_boots.ensures.count;
      log = c.law_boots.ensures.log;
      stays = c.law_boots.ensures.incarnation;
      grow = c.law_log_moves.ensures.moments;
      move = move_of;
    }

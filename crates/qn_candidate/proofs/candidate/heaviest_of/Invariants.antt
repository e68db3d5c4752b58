use Rattle.std.proofs.Common.{◌≡◌, ◌<◌, IfSome, slice_index}
use Rattle.std.specs.Option.{option_map}
use Rattle.qn_base.specs.Members.{is_member}
use Rattle.qn_candidate.specs.Candidate.{heaviest}
use Rattle.qn_candidate.proofs.candidate.heaviest_of.Given as goal

abbrev pub invariant-loop-rank : goal.invariant-loop-rank
invariant-loop-rank l =
    record {
      value : option_map (λ rank. rank.0) l.best ≡ heaviest (λ rank. is_member l.able rank) (λ rank. slice_index l.facts.weights rank) l.rank;
      below : IfSome l.best (λ found. found.0 < 32);
    }

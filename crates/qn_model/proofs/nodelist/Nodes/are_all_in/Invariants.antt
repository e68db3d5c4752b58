use Rattle.std.proofs.Common.{◌≡◌, ◌-◌, length}
use Rattle.std.specs.List.{list_all, range_with_len}
use Rattle.qn_base.specs.Members.{is_member}
use Rattle.qn_model.specs.Votes.{are_all_in}
use Rattle.qn_model.proofs.nodelist.Nodes.are_all_in.Given as goal

abbrev pub invariant-loop-rank : goal.invariant-loop-rank
invariant-loop-rank l =
    list_all (is_member l.members) (range_with_len l.rank (length l.self - l.rank)) ≡ are_all_in l.self l.members

-- How the lines of the ranks go on.
use Rattle.std.proofs.Common.{◌≡◌, ◌≤◌, ◌<◌, ◌+◌, ◌-◌, ℕ, suc, [], ap, sym, refl, subst, arith}
use Rattle.qn_io.specs.Outside.{append_known-nil}
use Rattle.qn_image.specs.Plans.{line_plan}
use Rattle.qn_commands.specs.Commands.List.{ListsRank, StopsAtRank, after_line, ranks_work}
use Rattle.qn_commands.specs.Endings.{Whole}
use Rattle.qn_commands.specs.ImageTexts.{list_line}
use Rattle.qn_commands.specs.Seen.{Input, Output, Outside, seen}
use Rattle.qn_commands.specs.Works.{Last, Work, Works, after_plan}
use Rattle.qn_commands.specs.WorkSteps.{LeadsTo, last_alone, leads_more}

module _ (version rank nodes : ℕ) where
  ranks_work-more : rank < nodes → ranks_work version rank (nodes - rank) ≡ after_plan (line_plan version rank) (after_line (ranks_work version (rank + 1) (nodes - (rank + 1))))
  unfolding ranks_work
  ranks_work-more more = let left : nodes - rank ≡ suc (nodes - (rank + 1)) = omega arith in ap (λ n. ranks_work version rank n) left

  ranks_work-over : nodes ≤ rank → ranks_work version rank (nodes - rank) ≡ Last [] 0
  unfolding ranks_work
  ranks_work-over over = let left : nodes - rank ≡ 0 = omega arith in ap (λ n. ranks_work version rank n) left

  module _ {input : Input} {before middle : Output} {env_before env_middle : Outside} {whole : Work}
      (so_far : LeadsTo input before middle env_before env_middle whole (ranks_work version rank (nodes - rank))) where
    -- the line of this rank is left
    at_rank : rank < nodes → LeadsTo input before middle env_before env_middle whole (after_plan (line_plan version rank) (after_line (ranks_work version (rank + 1) (nodes - (rank + 1)))))
    at_rank more = subst (λ (work : Work). LeadsTo input before middle env_before env_middle whole work) (ranks_work-more more) so_far

    module _ {later : Output} {env_later : Outside} (more : rank < nodes) (rises : middle.faults ≤ later.faults) where
      -- the work ended at this rank
      pub ranks_stop : (status : ℕ) → StopsAtRank version rank (seen input middle env_middle) (seen input later env_later) status
          → Works whole (seen input before env_before) (seen input later env_later) status
      ranks_stop status at_this = (at_rank more).leads env_later later status rises (at_this.stops (ranks_work version (rank + 1) (nodes - (rank + 1))))

      -- the line of this rank was written
      pub ranks_go_on : ListsRank version rank (seen input middle env_middle) (seen input later env_later)
          → LeadsTo input before later env_before env_later whole (ranks_work version (rank + 1) (nodes - (rank + 1)))
      ranks_go_on listed =
          leads_more (after_line (ranks_work version (rank + 1) (nodes - (rank + 1)))) (list_line listed.line) (ranks_work version (rank + 1) (nodes - (rank + 1)))
          (at_rank more) rises listed.carries refl listed.wrote

    -- no rank is left
    pub ranks_over : nodes ≤ rank → Works whole (seen input before env_before) (seen input middle env_middle) 0
    ranks_over over =
        so_far.leads env_middle middle 0 (omega arith)
        (subst (λ (work : Work). Works work (seen input middle env_middle) (seen input middle env_middle) 0) (sym (ranks_work-over over))
        (last_alone (seen input middle env_middle) (seen input middle env_middle) [] 0 0 refl (Whole refl (sym (append_known-nil middle.written)))))

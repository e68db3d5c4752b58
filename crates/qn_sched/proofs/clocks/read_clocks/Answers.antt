use Rattle.std.proofs.Common.{◌≤◌, ◌∙◌, ap, arith, length, option_copied, subst, sym}
use Rattle.qn_model.specs.Settings.{ids}
use Rattle.qn_sched.specs.declared.clocks.ClockList.{ClockList}
use Rattle.qn_sched.specs.ClockList.{with_clocks}
use Rattle.qn_sched.specs.Words.{parts_left}
use Rattle.qn_sched.proofs.ClocksListed.{clocks_of-is}
use Rattle.qn_sched.proofs.clocks.read_clocks.Goals as goal

pub words-init : goal.words-init
words-init c =
    let known = ids c.args.nodes.now in
    let words = parts_left 32 (option_copied c.args.words) in
    record {
      same = ap (λ list. with_clocks known list words) c.requires ∙ clocks_of-is known words;
      few = subst (λ (list : ClockList). length list.clocks ≤ list.next) (sym c.requires) (omega arith);
    }

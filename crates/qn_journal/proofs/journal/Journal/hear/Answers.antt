use Rattle.std.proofs.Common.{ℕ, ap, ◌∙◌}
use Rattle.qn_told.specs.Telling.{taken}
use Rattle.qn_journal.proofs.journal.Journal.hear.Goals as goal

pub returns : goal.returns
returns g c = record {
  between = c.tell.new.self.teller;
  told = c.tell.ensures;
  is = c.take.ensures ∙ ap (λ (tick : ℕ). taken c.args.asked c.args.given c.args.decoded tick c.tell.new.self.teller) c.tick.ensures;
}

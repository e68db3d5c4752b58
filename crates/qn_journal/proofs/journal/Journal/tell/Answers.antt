use Rattle.std.proofs.Common.{Bool, ◌∙◌, refl, subst, sym}
use Rattle.qn_journal.specs.Hearing.{IsToldWhere}
use Rattle.qn_journal.proofs.journal.Journal.tell.Goals as goal

pub returns-then-is_told : goal.returns-then-is_told
returns-then-is_told g c =
    subst (λ (is : Bool). IsToldWhere is c.args.asked c.args.given c.args.run.now c.args.self.now.teller c.tell.new.self) (sym (sym c.is_told.ensures ∙ c.if-is_told.true))
    (c.around-around.result, c.around-around.ensures, c.tell.ensures)

pub returns-else-is_told : goal.returns-else-is_told
returns-else-is_told g c =
    subst (λ (is : Bool). IsToldWhere is c.args.asked c.args.given c.args.run.now c.args.self.now.teller c.args.self.now.teller) (sym (sym c.is_told.ensures ∙ c.if-is_told.false)) refl

use Rattle.std.proofs.Common.{◌≡◌, ◌∙◌, ap, arith, Bool}
use Rattle.qn_base.specs.declared.ids.Rank.{Rank}
use Rattle.qn_base.specs.declared.ids.View.{View}
use Rattle.qn_heard.specs.Heard.{bears_on_hearing}
use Rattle.qn_model.specs.declared.entries.What.TheVariants as what
use Rattle.qn_model.specs.declared.packets.Tell.{Tell}
use Rattle.qn_model.specs.declared.seen.SlotSeen.{SlotSeen}
use Rattle.qn_model.specs.Log.{is_answer, op_out}
use Rattle.qn_model.specs.Fitting.{answers_op}
use Rattle.qn_fence.specs.Fence.{bears_on_fencing}
use Rattle.qn_node.proofs.LiveEntries.{no_fencing, no_hearing}
use Rattle.qn_node.proofs.live.Live.hear.Goals as goal

pub returns-in-View-clause-hears : goal.returns-in-View-clause-hears
returns-in-View-clause-hears c = λ s me log line h plain at is no_claim. c.on_view.ensures.stands s me log line h at (is ∙ c.in-View.is) no_claim

pub returns-then-on_tell-clause-hears : goal.returns-then-on_tell-clause-hears
returns-then-on_tell-clause-hears c = λ s me log line h plain at is no_claim. c.on_tell.ensures.stands s me log line h (is ∙ c.in-Tell.is) no_claim

pub returns-else-on_tell-clause-hears : goal.returns-else-on_tell-clause-hears
returns-else-on_tell-clause-hears c = λ s me log line h plain at is no_claim. c.on_tell.ensures.stands s me log line h (is ∙ c.in-Tell.is) no_claim

pub returns-in-Device-clause-hears : goal.returns-in-Device-clause-hears
returns-in-Device-clause-hears c = λ s me log line h plain at is no_claim.
    c.law_other_lines.ensures c.args.self.now.heard s me log line h (ap bears_on_hearing (is ∙ c.in-Device.is)) no_claim

pub returns-in-SlotRead-clause-hears : goal.returns-in-SlotRead-clause-hears
returns-in-SlotRead-clause-hears c = λ s me log line h plain at is no_claim.
    c.law_other_lines.ensures c.args.self.now.heard s me log line h (ap bears_on_hearing (is ∙ c.in-SlotRead.is)) no_claim

pub returns-in-MailWritten-clause-hears : goal.returns-in-MailWritten-clause-hears
returns-in-MailWritten-clause-hears c = λ s me log line h plain at is no_claim.
    c.law_other_lines.ensures c.args.self.now.heard s me log line h (ap bears_on_hearing (is ∙ c.in-MailWritten.is)) no_claim

-- an entry of the last arm is none of those that bear on hearing or on fencing
not_view : (c : goal.In-Begin) → (view : View) → c.args.what ≡ what.View view → ⊥
not_view c view is = grind (arith, c.in-Begin.is, is)

not_tell : (c : goal.In-Begin) → (tell : Tell) → c.args.what ≡ what.Tell tell → ⊥
not_tell c tell is = grind (arith, c.in-Begin.is, is)

not_slot : (c : goal.In-Begin) → (rank : Rank) (seen : SlotSeen) → c.args.what ≡ what.SlotRead rank seen → ⊥
not_slot c rank seen is = grind (arith, c.in-Begin.is, is)

not_written : (c : goal.In-Begin) → (rank : Rank) (ok : Bool) → c.args.what ≡ what.MailWritten rank ok → ⊥
not_written c rank ok is = grind (arith, c.in-Begin.is, is)

pub returns-in-Begin-clause-hears : goal.returns-in-Begin-clause-hears
returns-in-Begin-clause-hears c = λ s me log line h plain at is no_claim.
    c.law_other_lines.ensures c.args.self.now.heard s me log line h
    (ap bears_on_hearing is ∙ no_hearing c.args.what plain (not_view c) (not_tell c)) no_claim

pub returns-in-View-clause-fences : goal.returns-in-View-clause-fences
returns-in-View-clause-fences c = λ s log line h plain at is asked after none. c.on_view-in-View.ensures s log line h (is ∙ c.in-View.is) after none

pub returns-then-on_tell-clause-fences : goal.returns-then-on_tell-clause-fences
returns-then-on_tell-clause-fences c = λ s log line h plain at is asked after none.
    c.law_other_lines-2.ensures c.args.self.now.fence s log line h (ap bears_on_fencing (is ∙ c.in-Tell.is)) after none

pub returns-else-on_tell-clause-fences : goal.returns-else-on_tell-clause-fences
returns-else-on_tell-clause-fences c = λ s log line h plain at is asked after none.
    c.law_other_lines-2.ensures c.args.self.now.fence s log line h (ap bears_on_fencing (is ∙ c.in-Tell.is)) after none

pub returns-in-Device-clause-fences : goal.returns-in-Device-clause-fences
returns-in-Device-clause-fences c = λ s log line h plain at is asked after none.
    c.law_other_lines-2.ensures c.args.self.now.fence s log line h (ap bears_on_fencing (is ∙ c.in-Device.is)) after none

pub returns-in-SlotRead-clause-fences : goal.returns-in-SlotRead-clause-fences
returns-in-SlotRead-clause-fences c = λ s log line h plain at is asked after none.
    let facts = asked (ap is_answer c.in-SlotRead.is) in
    c.slot.ensures s log line h (is ∙ c.in-SlotRead.is) facts.0 (ap (answers_op (op_out log)) is ∙ facts.1) after none

pub returns-in-MailWritten-clause-fences : goal.returns-in-MailWritten-clause-fences
returns-in-MailWritten-clause-fences c = λ s log line h plain at is asked after none.
    let facts = asked (ap is_answer c.in-MailWritten.is) in
    c.written.ensures s log line h (is ∙ c.in-MailWritten.is) at facts.0 (ap (answers_op (op_out log)) is ∙ facts.1) after none

pub returns-in-Begin-clause-fences : goal.returns-in-Begin-clause-fences
returns-in-Begin-clause-fences c = λ s log line h plain at is asked after none.
    c.law_other_lines-2.ensures c.args.self.now.fence s log line h
    (ap bears_on_fencing is ∙ no_fencing c.args.what plain (not_view c) (not_slot c) (not_written c)) after none

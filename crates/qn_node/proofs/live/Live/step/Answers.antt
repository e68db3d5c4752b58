use Rattle.std.proofs.Common.{◌≡◌, ◌∷◌, [], ◌++◌, None, Some, refl, sym, ap, subst, ◌∙◌}
use Rattle.std.specs.Prelude.{if◌then◌else◌}
use Rattle.qn_model.specs.declared.life.Phase.TheVariants.{Dying, Gone}
use Rattle.qn_model.specs.declared.outputs.HaltKind.TheVariants as halt
use Rattle.qn_model.specs.declared.outputs.Out.TheVariants as out
use Rattle.qn_model.specs.Log.{ask_place, is_answer}
use Rattle.qn_model.specs.NodeVotes.{votes}
use Rattle.qn_model.specs.NodeOutputs.{acts, newest_outs, taken_in, with_entry, with_read}
use Rattle.qn_node.specs.Live.{LiveFor, LiveTook}
use Rattle.qn_node.specs.Resource.{after_entry}
use Rattle.qn_node.specs.Rest.{RestFor}
use Rattle.qn_node.specs.Tally.{TallyFor}
use Rattle.qn_node.proofs.LiveReads.{Reads, reads_live, reads_same}
use Rattle.qn_node.proofs.LiveSteps.{act_log, act_newest, counted, counted_taken, end_newest, end_stands, halt_newest, halt_stands, took}
use Rattle.qn_node.proofs.live.Live.step.Goals as goal

pub returns-in-Halt-clause-counts : goal.returns-in-Halt-clause-counts
unfolding with_entry
returns-in-Halt-clause-counts c = λ log h counts.
    let s = c.args.own.now.settings in
    let me = c.args.own.now.me.0 in
    let tick = c.args.entry.tick in
    let r = c.read-what.result in
    let reading = reads_same c.args.self.now s me log c.args.entry.what h ∙ sym c.read-what.ensures in
    let still = subst (λ x. LiveFor x s me log) (sym c.course-course.ensures.same) h in
    let counted_so = c.count.ensures.stands (votes log) counts in
    let vote = c.hear-vote.ensures.vote s me log still.hears in
    subst (λ v. TallyFor c.count.new.self s (votes (with_read s me log tick v))) (sym reading)
    (counted c.count.new.self s me log tick c.hear-vote.result r counted_so vote)

pub returns-in-End-clause-counts : goal.returns-in-End-clause-counts
unfolding with_entry
returns-in-End-clause-counts c = λ log h counts.
    let s = c.args.own.now.settings in
    let me = c.args.own.now.me.0 in
    let tick = c.args.entry.tick in
    let r = c.read-what.result in
    let reading = reads_same c.args.self.now s me log c.args.entry.what h ∙ sym c.read-what.ensures in
    let still = subst (λ x. LiveFor x s me log) (sym c.course-course.ensures.same) h in
    let counted_so = c.count.ensures.stands (votes log) counts in
    let vote = c.hear-vote.ensures.vote s me log still.hears in
    subst (λ v. TallyFor c.count.new.self s (votes (with_read s me log tick v))) (sym reading)
    (counted c.count.new.self s me log tick c.hear-vote.result r counted_so vote)

pub returns-in-Act-clause-counts : goal.returns-in-Act-clause-counts
unfolding with_entry
returns-in-Act-clause-counts c = λ log h counts.
    let s = c.args.own.now.settings in
    let me = c.args.own.now.me.0 in
    let tick = c.args.entry.tick in
    let r = c.read-what.result in
    let reading = reads_same c.args.self.now s me log c.args.entry.what h ∙ sym c.read-what.ensures in
    let still = subst (λ x. LiveFor x s me log) (sym c.course-course.ensures.same) h in
    let counted_so = c.count.ensures.stands (votes log) counts in
    let vote = c.hear-vote.ensures.vote s me log still.hears in
    subst (λ v. TallyFor c.count.new.self s (votes (with_read s me log tick v))) (sym reading)
    (counted c.count.new.self s me log tick c.hear-vote.result r counted_so vote)

pub returns-in-Halt-clause-stands : goal.returns-in-Halt-clause-stands
unfolding with_entry
returns-in-Halt-clause-stands c = λ log h counts before.
    let s = c.args.own.now.settings in
    let me = c.args.own.now.me.0 in
    let tick = c.args.entry.tick in
    let r = c.read-what.result in
    let reading = reads_same c.args.self.now s me log c.args.entry.what h ∙ sym c.read-what.ensures in
    let reads = subst (Reads log) (sym c.read-what.ensures) (reads_live c.args.self.now s me log c.args.entry.what h) in
    let still = subst (λ x. LiveFor x s me log) (sym c.course-course.ensures.same) h in
    let goes = sym (c.course-course.ensures.exact s log h.watches h.phases reads.plain reads.answers) ∙ c.in-Halt.is in
    let log_after = with_read s me log tick r in
    subst (λ v. RestFor c.rest.result s (with_read s me log tick v)) (sym reading)
    (subst (λ rest. RestFor rest s log_after) (sym c.rest.ensures)
    (subst (λ x. RestFor (record { phase = Dying; claims = Some x.incarnation; resource = x.resource }) s log_after) (sym c.settle.ensures)
    (subst (λ x. RestFor (record { phase = Dying; claims = Some x.incarnation; resource = after_entry tick r x.resource }) s log_after) (sym c.hear-vote.ensures.rest)
    (halt_stands c.course-course.new.self s me log tick r c.in-Halt.message still reads goes))))

pub returns-in-Halt-clause-outs : goal.returns-in-Halt-clause-outs
unfolding with_entry
returns-in-Halt-clause-outs c = λ log h counts before.
    let s = c.args.own.now.settings in
    let me = c.args.own.now.me.0 in
    let tick = c.args.entry.tick in
    let r = c.read-what.result in
    let reading = reads_same c.args.self.now s me log c.args.entry.what h ∙ sym c.read-what.ensures in
    let reads = subst (Reads log) (sym c.read-what.ensures) (reads_live c.args.self.now s me log c.args.entry.what h) in
    let still = subst (λ x. LiveFor x s me log) (sym c.course-course.ensures.same) h in
    let goes = sym (c.course-course.ensures.exact s log h.watches h.phases reads.plain reads.answers) ∙ c.in-Halt.is in
    subst (λ v. c.push.new.self ≡ newest_outs (with_read s me log tick v)) (sym reading)
    (c.push.ensures ∙ (ap (λ o. o ++ out.Halt (halt.Deadly c.in-Halt.message) ∷ []) c.requires.empty ∙ sym (halt_newest c.course-course.new.self s me log tick r c.in-Halt.message still goes)))

pub returns-in-End-clause-stands : goal.returns-in-End-clause-stands
unfolding with_entry
returns-in-End-clause-stands c = λ log h counts before.
    let s = c.args.own.now.settings in
    let me = c.args.own.now.me.0 in
    let tick = c.args.entry.tick in
    let r = c.read-what.result in
    let reading = reads_same c.args.self.now s me log c.args.entry.what h ∙ sym c.read-what.ensures in
    let reads = subst (Reads log) (sym c.read-what.ensures) (reads_live c.args.self.now s me log c.args.entry.what h) in
    let still = subst (λ x. LiveFor x s me log) (sym c.course-course.ensures.same) h in
    let goes = sym (c.course-course.ensures.exact s log h.watches h.phases reads.plain reads.answers) ∙ c.in-End.is in
    let log_after = with_read s me log tick r in
    subst (λ v. RestFor c.rest-in-End.result s (with_read s me log tick v)) (sym reading)
    (subst (λ rest. RestFor rest s log_after) (sym c.rest-in-End.ensures)
    (subst (λ x. RestFor (record { phase = Gone; claims = Some x.incarnation; resource = x.resource }) s log_after) (sym c.settle.ensures)
    (subst (λ x. RestFor (record { phase = Gone; claims = Some x.incarnation; resource = after_entry tick r x.resource }) s log_after) (sym c.hear-vote.ensures.rest)
    (end_stands c.course-course.new.self s me log tick r still reads goes))))

pub returns-in-End-clause-outs : goal.returns-in-End-clause-outs
unfolding with_entry
returns-in-End-clause-outs c = λ log h counts before.
    let s = c.args.own.now.settings in
    let me = c.args.own.now.me.0 in
    let tick = c.args.entry.tick in
    let r = c.read-what.result in
    let reading = reads_same c.args.self.now s me log c.args.entry.what h ∙ sym c.read-what.ensures in
    let reads = subst (Reads log) (sym c.read-what.ensures) (reads_live c.args.self.now s me log c.args.entry.what h) in
    let still = subst (λ x. LiveFor x s me log) (sym c.course-course.ensures.same) h in
    let goes = sym (c.course-course.ensures.exact s log h.watches h.phases reads.plain reads.answers) ∙ c.in-End.is in
    subst (λ v. c.push-in-End.new.self ≡ newest_outs (with_read s me log tick v)) (sym reading)
    (c.push-in-End.ensures ∙ (ap (λ o. o ++ out.Disarm ∷ []) c.requires.empty ∙ sym (end_newest c.course-course.new.self s me log tick r still goes)))

pub returns-in-Act-clause-stands : goal.returns-in-Act-clause-stands
unfolding with_entry
returns-in-Act-clause-stands c = λ log h counts before.
    let s = c.args.own.now.settings in
    let me = c.args.own.now.me.0 in
    let tick = c.args.entry.tick in
    let r = c.read-what.result in
    let reading = reads_same c.args.self.now s me log c.args.entry.what h ∙ sym c.read-what.ensures in
    let reads = subst (Reads log) (sym c.read-what.ensures) (reads_live c.args.self.now s me log c.args.entry.what h) in
    let still = subst (λ x. LiveFor x s me log) (sym c.course-course.ensures.same) h in
    let goes = sym (c.course-course.ensures.exact s log h.watches h.phases reads.plain reads.answers) ∙ c.in-Act.is in
    let counted_so = c.count.ensures.stands (votes log) counts in
    let vote = c.hear-vote.ensures.vote s me log still.hears in
    let fences = c.hear-vote.ensures.fences s log _ still.fences reads.plain refl refl (λ e. (ap (λ b. if b then ask_place log else 0) e, reads.answers e)) before refl in
    let took_in = took c.course-course.new.self s me log tick r c.in-Act.feeds c.in-Act.leaving c.hear-vote.new.self.heard c.hear-vote.new.self.fence still reads goes
    (λ line at is none. c.hear-vote.ensures.hears s me log line still.hears reads.plain at is none) fences in
    let settled = subst (λ x. LiveTook (record x { leaving = c.in-Act.leaving }) s me log tick r) (sym c.settle.ensures)
    (subst (λ x. LiveTook (record x {
      leaving = c.in-Act.leaving;
      op = if is_answer r then None else x.op;
      resource = after_entry tick r x.resource;
    }) s me log tick r) (sym c.hear-vote.ensures.rest) took_in) in
    let answered = counted_taken c.count.new.self s log tick c.hear-vote.result r counted_so vote in
    let newest = act_newest c.course-course.new.self s me log tick r c.in-Act.feeds c.in-Act.leaving still goes reads in
    subst (λ v. LiveFor c.act.new.self s me (with_read s me log tick v)) (sym reading)
    (subst (LiveFor c.act.new.self s me) (sym (act_log s me log tick r (acts s me (taken_in log tick r) r c.in-Act.feeds) newest))
    (c.act.ensures.stands log settled answered))

pub returns-in-Act-clause-outs : goal.returns-in-Act-clause-outs
unfolding with_entry
returns-in-Act-clause-outs c = λ log h counts before.
    let s = c.args.own.now.settings in
    let me = c.args.own.now.me.0 in
    let tick = c.args.entry.tick in
    let r = c.read-what.result in
    let reading = reads_same c.args.self.now s me log c.args.entry.what h ∙ sym c.read-what.ensures in
    let reads = subst (Reads log) (sym c.read-what.ensures) (reads_live c.args.self.now s me log c.args.entry.what h) in
    let still = subst (λ x. LiveFor x s me log) (sym c.course-course.ensures.same) h in
    let goes = sym (c.course-course.ensures.exact s log h.watches h.phases reads.plain reads.answers) ∙ c.in-Act.is in
    let counted_so = c.count.ensures.stands (votes log) counts in
    let vote = c.hear-vote.ensures.vote s me log still.hears in
    let fences = c.hear-vote.ensures.fences s log _ still.fences reads.plain refl refl (λ e. (ap (λ b. if b then ask_place log else 0) e, reads.answers e)) before refl in
    let took_in = took c.course-course.new.self s me log tick r c.in-Act.feeds c.in-Act.leaving c.hear-vote.new.self.heard c.hear-vote.new.self.fence still reads goes
    (λ line at is none. c.hear-vote.ensures.hears s me log line still.hears reads.plain at is none) fences in
    let settled = subst (λ x. LiveTook (record x { leaving = c.in-Act.leaving }) s me log tick r) (sym c.settle.ensures)
    (subst (λ x. LiveTook (record x {
      leaving = c.in-Act.leaving;
      op = if is_answer r then None else x.op;
      resource = after_entry tick r x.resource;
    }) s me log tick r) (sym c.hear-vote.ensures.rest) took_in) in
    let answered = counted_taken c.count.new.self s log tick c.hear-vote.result r counted_so vote in
    let newest = act_newest c.course-course.new.self s me log tick r c.in-Act.feeds c.in-Act.leaving still goes reads in
    subst (λ v. c.act.new.outs ≡ newest_outs (with_read s me log tick v)) (sym reading)
    (c.act.ensures.outs log settled answered ∙ sym newest)

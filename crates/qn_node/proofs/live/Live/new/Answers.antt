use Rattle.std.proofs.Common.{refl, sym, ap}
use Rattle.qn_model.specs.declared.entries.What.TheVariants as what
use Rattle.qn_model.specs.declared.outputs.DiskOp.TheVariants as disk
use Rattle.qn_model.specs.NodeOutputs.{with_read}
use Rattle.qn_model.specs.Wanted.{asks_mail}
use Rattle.qn_node.proofs.LiveEntries.{asked_at_end, claimed_before}
use Rattle.qn_node.proofs.live.Live.new.Goals as goal

pub returns-clause-stands : goal.returns-clause-stands
returns-clause-stands c = λ log ok times unread inside ready.
    let s = c.args.own.now.settings in
    let me = c.args.own.now.me.0 in
    let tick = c.args.ready.tick in
    let asked = asked_at_end s me log tick ok disk.ReadMail ready.is_out in
    record {
      phases = ready.is_up;
      loops = ap (λ t. t.loop_ms) (sym ready.has_times);
      claims = ready.has_claimed;
      knows = claimed_before s me log tick ok c.args.ready.incarnation asked ready.has_claimed;
      is_out = ready.is_out;
      no_boot = refl;
      has_resource = record { has = ready.holds_nothing; waits = ready.stops_nothing; again = λ held. absurd (cc) };
      watches = c.issued.ensures log _ (c.new-watch.ensures log times unread) refl refl (ap asks_mail asked);
      fences = c.new.ensures log _ ok refl inside (ap (λ t. t.msgwait) (sym ready.has_times)) ready.has_no_view ready.is_out;
      hears = c.new-2.ensures.stands s (with_read s me log tick (what.Cleared ok)) ready.has_claimed (ap (λ t. t.loop_ms) (sym ready.has_times)) ready.has_no_view;
    }

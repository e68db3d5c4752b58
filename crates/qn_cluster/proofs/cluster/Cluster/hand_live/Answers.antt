use Rattle.std.proofs.Common.{List, ◌∙◌, ◌++◌, ap, subst}
use Rattle.std.specs.Prelude.{slice_get, slice_set}
use Rattle.qn_model.specs.declared.outputs.Out.{Out}
use Rattle.qn_model.specs.Moments.{packets_of}
use Rattle.qn_cluster.specs.Nodes.{Nodes}
use Rattle.qn_cluster.specs.Packets.{sents}
use Rattle.qn_cluster.specs.Seats.{HandedSeat}
use Rattle.qn_cluster.proofs.ClusterSteps.{seated}
use Rattle.qn_cluster.proofs.HandSteps.{handed_world}
use Rattle.qn_cluster.proofs.Lists.{item_there}
use Rattle.qn_cluster.proofs.cluster.Cluster.hand_live.Goals as goal

pub returns-clause-ok : goal.returns-clause-ok
returns-clause-ok c =
    let there = item_there c.args.self.now.seats c.args.i.0 c.requires.within in
    let outs = c.hand.new.outs in
    let handed = c.hand.ensures there.0 (ap (λ w. slice_get w.seats c.args.i.0) c.self.view_is ∙ there.1) in
    let hands = subst (λ t. HandedSeat there.0 handed.0 t c.args.what outs) (ap (λ w. w.time) c.self.view_is) handed.2 in
    let sent = c.send_all.ensures
    ∙ (ap (λ (items : List Out). sents c.reserve.new.self ++ packets_of items) c.as_slice.ensures.value ∙ ap (λ items. items ++ packets_of outs) c.reserve.ensures.same) in
    handed_world c.args.self.now _ c.args.i.0 there.0 handed.0 c.args.what outs there.1 c.requires.room hands
    (ap (λ seats. record {
      settings = c.self.inside.settings;
      time = c.self.inside.time;
      seats = seats;
      packets = sents c.send_all.new.packets;
      steps = c.self.inside.steps;
    }) handed.1
    ∙ (ap (λ packets. record {
      settings = c.self.inside.settings;
      time = c.self.inside.time;
      seats = slice_set c.self.inside.seats c.args.i.0 handed.0;
      packets = packets;
      steps = c.self.inside.steps;
    }) sent
    ∙ ap (λ (w : Nodes). seated w c.args.i.0 handed.0 (packets_of outs)) c.self.view_is))

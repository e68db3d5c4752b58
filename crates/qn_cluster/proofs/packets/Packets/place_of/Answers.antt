use Rattle.std.proofs.Common.{[], ◌∷◌, ◌∙◌, ap, arith, length, map, vec_len}
use Rattle.qn_cluster.specs.Kept.{sent_of}
use Rattle.qn_cluster.proofs.PacketsKept.{headed_more, same_sents}
use Rattle.qn_cluster.proofs.packets.Packets.place_of.Goals as goal

pub returns-clause-same : goal.returns-clause-same
returns-clause-same c =
    let self = c.args.self.now in
    let known = headed_more (vec_len self.headings) (length self.headings.items) self.kept.items (omega (arith, self.headings.ok.0)) self.headed in
    ap (λ headings. map (sent_of headings) self.kept.items) c.push_reserved.ensures.items
    ∙ same_sents self.headings.items (c.args.heading ∷ []) self.kept.items known

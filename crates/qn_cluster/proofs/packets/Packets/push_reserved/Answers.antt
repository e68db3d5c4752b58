use Rattle.std.proofs.Common.{[], ◌∷◌, ◌++◌, ◌∙◌, Some, ap, map}
use Rattle.qn_cluster.specs.declared.kept.Heading.{Heading}
use Rattle.qn_cluster.specs.Kept.{addressee_of, sent_of}
use Rattle.qn_cluster.proofs.PacketsKept.{kept_with, one_more}
use Rattle.qn_cluster.proofs.packets.Packets.push_reserved.Goals as goal

pub returns-clause-sent : goal.returns-clause-sent
returns-clause-sent c =
    let there = c.place_of-heading.new.self in
    let headings = there.headings.items in
    let place = c.place_of-heading.result in
    let sent = c.args.sent in
    let found = c.place_of-heading.ensures.place ∙ ap (λ (heading : Heading). Some heading) c.of.ensures in
    let one = ap (λ addressee. kept_with place sent.to addressee c.of-2.result) c.addressee_of.ensures
    ∙ ap (kept_with place sent.to (addressee_of sent.packet)) c.of-2.ensures in
    ap (map (sent_of headings)) (c.push_reserved.ensures.items ∙ ap (λ kept. there.kept.items ++ kept ∷ []) one)
    ∙ (one_more headings there.kept.items sent place found ∙ ap (λ front. front ++ sent ∷ []) c.place_of-heading.ensures.same)

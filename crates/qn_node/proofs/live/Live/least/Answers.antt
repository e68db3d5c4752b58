use Rattle.std.proofs.Common.{false, sym, ap, ◌∙◌, length}
use Rattle.std.specs.Option.{option_map_or}
use Rattle.qn_base.specs.Members.{is_member}
use Rattle.qn_model.specs.NodeVotes.{is_in_view}
use Rattle.qn_model.specs.Unmet.{least_from}
use Rattle.qn_model.specs.LeastMembers.{first-least, least_from-none}
use Rattle.qn_node.proofs.live.Live.least.Goals as goal

pub returns-in-Some : goal.returns-in-Some
returns-in-Some c = λ log h.
    let there = sym c.in-Some.is ∙ c.view.ensures c.args.own.now.settings c.args.own.now.me.0 log h.hears in
    first-least c.in-Some.view.members c.count.result (λ rank. is_in_view log rank) c.first.result
    c.first.ensures.within c.first.ensures.member c.first.ensures.least c.first.ensures.none
    (λ j below. ap (λ v. option_map_or (λ view. is_member view.members j) v false) there)
    ∙ ap (λ n. least_from n 0 (λ rank. is_in_view log rank)) c.count.ensures.value

pub returns-in-None : goal.returns-in-None
returns-in-None c = λ log h.
    let there = sym c.in-None.is ∙ c.view.ensures c.args.own.now.settings c.args.own.now.me.0 log h.hears in
    sym (least_from-none (length c.args.own.now.settings.nodes) 0 (λ rank. is_in_view log rank)
    (λ j above below. ap (λ v. option_map_or (λ view. is_member view.members j) v false) (sym there)))

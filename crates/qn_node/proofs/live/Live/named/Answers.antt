use Rattle.std.proofs.Common.{◌≡◌, false, Some, sym, ap, ◌∙◌, ◌&&◌, length}
use Rattle.std.specs.Option.{option_map_or}
use Rattle.qn_base.specs.Candidates.{is_named}
use Rattle.qn_base.specs.Members.{is_member}
use Rattle.qn_model.specs.NodeVotes.{is_in_view, view}
use Rattle.qn_model.specs.Unmet.{is_candidate, least_from}
use Rattle.qn_model.specs.LeastMembers.{found-least, least_from-none}
use Rattle.qn_node.proofs.live.Live.named.Goals as goal

pub returns-in-Some : goal.returns-in-Some
returns-in-Some c = λ log h.
    let s = c.args.own.now.settings in
    let own = c.in-Some.view in
    let there : Some own ≡ view log = sym c.in-Some.is ∙ c.view.ensures s c.args.own.now.me.0 log h.hears in
    found-least c.count.result (λ rank. is_member own.members rank && is_named own rank) c.named.result
    c.named.ensures.within c.named.ensures.member c.named.ensures.least c.named.ensures.none
    ∙ (ap (λ n. least_from n 0 (λ rank. is_member own.members rank && is_named own rank)) c.count.ensures.value
    ∙ ap (λ v. least_from (length s.nodes) 0 (λ rank. option_map_or (λ view. is_member view.members rank) v false && option_map_or (λ view. is_named view rank) v false)) there)

pub returns-in-None : goal.returns-in-None
returns-in-None c = λ log h.
    let s = c.args.own.now.settings in
    let there = sym c.in-None.is ∙ c.view.ensures s c.args.own.now.me.0 log h.hears in
    sym (least_from-none (length s.nodes) 0 (λ rank. is_in_view log rank && is_candidate log rank)
    (λ j above below. ap (λ v. option_map_or (λ view. is_member view.members j) v false && option_map_or (λ view. is_named view j) v false) (sym there)))

use Rattle.std.proofs.Common.{false, sym, ap, ◌∙◌}
use Rattle.std.specs.Option.{option_map_or}
use Rattle.qn_base.specs.Candidates.{is_barred}
use Rattle.qn_node.proofs.live.Live.is_barred.Goals as goal

pub returns-in-Some : goal.returns-in-Some
returns-in-Some c = λ s me log h.
    c.is_barred.ensures ∙ ap (λ v. option_map_or (λ view. is_barred view) v false) (sym c.in-Some.is ∙ c.view.ensures s me log h.hears)

pub returns-in-None : goal.returns-in-None
returns-in-None c = λ s me log h.
    ap (λ v. option_map_or (λ view. is_barred view) v false) (sym c.in-None.is ∙ c.view.ensures s me log h.hears)

use Rattle.std.proofs.Common.{◌≡◌, ℕ, Bool, true, false, Option, None, Some, refl, sym, ap, ap₂, ◌∙◌}
use Rattle.std.specs.Prelude.{if◌then◌else◌}
use Rattle.std.specs.Option.{option_map, option_or}
use Rattle.std.proofs.lemmas.Bool.{false≢true, true≢false}
use Rattle.qn_base.specs.declared.ids.Rank.{Rank}
use Rattle.qn_model.specs.NodeVotes.{is_in_view}
use Rattle.qn_model.specs.Unmet.{is_none_chosen, least_rank, named}
use Rattle.qn_node.proofs.live.Live.chosen.Goals as goal

ranks_of : (named least : Option Rank) → option_map (λ rank. rank.0) (option_or named least) ≡ option_or (option_map (λ rank. rank.0) named) (option_map (λ rank. rank.0) least)
ranks_of None least = refl
ranks_of (Some rank) least = refl

-- where the view bars all, nobody is chosen
when_barred : (b : Bool) (named least : Option ℕ) → b ≡ true → None ≡ (if b then None else option_or named least)
when_barred true named least e = refl
when_barred false named least e = absurd (false≢true e)

-- where it does not, whom it names, else the least
when_clear : (b : Bool) (named least : Option ℕ) → b ≡ false → option_or named least ≡ (if b then None else option_or named least)
when_clear true named least e = absurd (true≢false e)
when_clear false named least e = refl

pub returns-then-is_barred : goal.returns-then-is_barred
returns-then-is_barred c = λ log h.
    let s = c.args.own.now.settings in
    when_barred (is_none_chosen log) (named s log) (least_rank s (λ rank. is_in_view log rank))
    (sym (c.is_barred.ensures s c.args.own.now.me.0 log h) ∙ c.if-is_barred.true)

pub returns-else-is_barred : goal.returns-else-is_barred
returns-else-is_barred c = λ log h.
    let s = c.args.own.now.settings in
    ap (option_map (λ rank. rank.0)) c.or.ensures
    ∙ (ranks_of c.named.result c.least.result
    ∙ (ap₂ option_or (c.named.ensures log h) (c.least.ensures log h)
    ∙ when_clear (is_none_chosen log) (named s log) (least_rank s (λ rank. is_in_view log rank))
    (sym (c.is_barred.ensures s c.args.own.now.me.0 log h) ∙ c.if-is_barred.false)))

use Rattle.std.proofs.Common.{◌≡◌, true, ap, sym, subst, ◌∙◌, ◌++◌, ◌∷◌, [], append-nil}
use Rattle.std.specs.Prelude.{if◌then◌else◌}
use Rattle.std.specs.Option.{option_map_or}
use Rattle.qn_base.specs.Members.{is_member}
use Rattle.qn_base.specs.lemmas.Options.{none_if_no_value}
use Rattle.qn_model.specs.NodeOutputs.{ask_to}
use Rattle.qn_model.specs.NodeVotes.{view}
use Rattle.qn_heard.specs.Heard.{asks_sent}
use Rattle.qn_node.proofs.Asking.{ask_here, ask_nowhere}
use Rattle.qn_node.proofs.live.Live.ask_one.Goals as goal

pub returns-in-Some-clause-value : goal.returns-in-Some-clause-value
returns-in-Some-clause-value c = λ s me log line h none.
    let outs = c.args.outs.now in
    let member : is_member c.args.asked c.args.rank.0 ≡ true = sym c.has.ensures ∙ c.if-not-has.false in
    subst (λ b. c.push.new.self ≡ outs ++ option_map_or (λ present. if b then ask_to me (line ∷ log) present c.args.rank.0 ∷ [] else []) (view (line ∷ log)) []) (sym member)
    (c.push.ensures ∙ ap (λ more. outs ++ more) (sym (ask_here _ _ (view (line ∷ log)) (c.in-Some.ensures s me log line h none))))

pub returns-in_default-clause-value : goal.returns-in_default-clause-value
returns-in_default-clause-value c = λ s me log line h none.
    let outs = c.args.outs.now in
    let member : is_member c.args.asked c.args.rank.0 ≡ true = sym c.has.ensures ∙ c.if-not-has.false in
    let nobody = none_if_no_value c.ask.result c.in_default.not-Some in
    let sent = ap (asks_sent c.args.rank) (sym nobody) ∙ c.ask.ensures s me log line h none in
    subst (λ b. outs ≡ outs ++ option_map_or (λ present. if b then ask_to me (line ∷ log) present c.args.rank.0 ∷ [] else []) (view (line ∷ log)) []) (sym member)
    (sym (ap (λ more. outs ++ more) (ask_nowhere _ (view (line ∷ log)) sent) ∙ append-nil outs))

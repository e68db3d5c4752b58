use Rattle.std.proofs.Common.{ap, ◌∙◌, [], ◌∷◌, ◌++◌}
use lib.Utf8.{encode}
use Rattle.serde_json.specs.Written.{compact_text, has_float}
use Rattle.qn_status.proofs.Objects.{line_text, no_floats}
use Rattle.qn_status.proofs.as_json.states_line.Goals as goal

pub returns : goal.returns
unfolding encode
returns c =
    let value = c.in_ok-states_value.ensures in
    c.in_ok-push.ensures.bytes
    ∙ ap (λ text. text ++ 10 ∷ []) (c.in_ok-line.ensures.text (ap has_float value ∙ no_floats c.args.nodes.now) ∙ ap compact_text value) ∙ line_text c.args.nodes.now

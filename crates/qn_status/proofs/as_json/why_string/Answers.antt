use Rattle.std.proofs.Common.{subst, sym, List, ℕ}
use Rattle.std.specs.Str.{IsUtf8}
use Rattle.std.proofs.lemmas.Str.{IsUtf8-from_ascii}
use Rattle.qn_names.specs.WhyTexts.{why_text}
use Rattle.qn_status.proofs.PlainBytes.{plain_why, ascii_plain}
use Rattle.qn_status.proofs.as_json.why_string.Goals as goal

pub unreachable-requires : goal.unreachable-requires
unreachable-requires c =
    absurd (c.in-Err.ensures.cases.0
    (subst (λ (text : List ℕ). IsUtf8 text) (sym c.requires) (IsUtf8-from_ascii (why_text c.args.why) (ascii_plain (why_text c.args.why) (plain_why c.args.why)))))

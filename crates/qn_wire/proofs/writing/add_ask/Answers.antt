use Rattle.std.proofs.Common.{◌≡◌, ℕ, List, [], ◌∷◌, ◌++◌, ap, ◌∙◌, append_assoc}
use Rattle.std.specs.Int.{bytes_high_first}
use Rattle.qn_wire.specs.Packets.{view_bytes}
use Rattle.qn_wire.proofs.writing.add_ask.Goals as goal

four_parts : (a b c d e : List ℕ) → a ++ b ++ c ++ d ++ e ≡ a ++ (b ++ c ++ d ++ e)
four_parts a b c d e =
    ap (λ x. x ++ d ++ e) (append_assoc a b c) ∙ ap (λ x. x ++ e) (append_assoc a (b ++ c) d) ∙ append_assoc a (b ++ c ++ d) e

pub returns : goal.returns
returns c =
    let ask = c.args.ask.now in
    let ranks : List ℕ = ask.from.0 ∷ ask.to.0 ∷ [] in
    rw (c.add_view.ensures, c.add_u64-2.ensures, c.add_u64.ensures, c.add.ensures.text)
    (four_parts c.args.spelling.now.items ranks (bytes_high_first 8 ask.incarnation) (bytes_high_first 8 ask.install) (view_bytes ask.view))

use Rattle.std.proofs.Common.{◌≡◌, ℕ, List, ◌++◌, ap, ◌∙◌, append_assoc}
use Rattle.std.specs.Int.{bytes_high_first}
use Rattle.qn_polls.proofs.fields.add_numbers.Goals as goal

three_parts : (a b c d : List ℕ) → a ++ b ++ c ++ d ≡ a ++ (b ++ c ++ d)
three_parts a b c d = ap (λ x. x ++ d) (append_assoc a b c) ∙ append_assoc a (b ++ c) d

pub returns : goal.returns
returns c =
    let args = c.args in
    rw (c.add_u64-3.ensures, c.add_u64-2.ensures, c.add_u64.ensures)
    (three_parts args.spelling.now.items (bytes_high_first 8 args.number) (bytes_high_first 8 args.incarnation) (bytes_high_first 8 args.install))

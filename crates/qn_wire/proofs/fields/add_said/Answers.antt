use Rattle.std.proofs.Common.{List, ℕ, [], ◌∷◌, cond, append_assoc}
use Rattle.std.specs.Int.{bytes_high_first}
use Rattle.qn_wire.specs.Packets.{follows_byte}
use Rattle.qn_wire.proofs.fields.add_said.Goals as goal

pub returns : goal.returns
returns c =
    let said = c.args.said in
    let last : List ℕ = follows_byte said.follows ∷ cond said.able 1 0 ∷ [] in
    rw (c.add.ensures.text, c.able_byte.ensures, c.follows_byte.ensures, c.add_u32.ensures)
    (append_assoc c.args.spelling.now.items (bytes_high_first 4 said.hears.0) last)

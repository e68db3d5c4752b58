use Rattle.std.proofs.Common.{◌≡◌, ◌<◌, ◌∙◌, ◌==◌, ◌||◌, List, ℕ, ap, arith, length, map, sym}
use Rattle.std.specs.Int.{bit_at}
use Rattle.std.specs.Prelude.{decimal}
use Rattle.std.proofs.lemmas.List.{length-map}
use Rattle.std.proofs.Math.Bool.{or-false}
use Rattle.qn_base.specs.lemmas.Masks.{empty_has_none}
use Rattle.qn_base.specs.Members.{is_member}
use Rattle.qn_model.specs.declared.nodelist.NodeEntry.{NodeEntry}
use Rattle.qn_model.specs.Settings.{ids}
use Rattle.qn_sched.specs.TraceLines.{joined_or_dash}
use Rattle.qn_sched.proofs.Joining.{ids_from-one}
use Rattle.qn_sched.proofs.holder.node_alone.Goals as goal

pub returns-then-holders-alone : goal.returns-then-holders-alone
returns-then-holders-alone c =
    let nodes = c.args.nodes.now in
    let holders = c.args.holders in
    let rank = c.args.rank.0 in
    let many : length (ids nodes) ≡ length nodes = length-map nodes (λ (n : NodeEntry). n.id.0) in
    let within = c.requires.within in
    let few = c.requires.few in
    let only : (j : ℕ) → j < 32 → is_member holders j ≡ (rank == j) = λ j low.
    ap (λ (bits : ℕ). bit_at bits j == 1) c.if-holders-alone.true
    ∙ c.with-alone.ensures j low
    ∙ ap (λ b. (rank == j) || b) (empty_has_none j)
    ∙ or-false (rank == j) in
    ap (λ (list : List ℕ). joined_or_dash 43 (map decimal list))
    (ids_from-one 0 rank rank (ids nodes) holders (omega arith) (omega arith) (λ j above low. only j (omega arith)))
    ∙ ap decimal (sym c.id_of.ensures.number)

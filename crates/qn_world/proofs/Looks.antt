-- What is shown of a node.
use Rattle.std.proofs.Common.{◌≡◌, ℕ, Bool, true, false, None, length, refl, ◌&&◌, if◌then◌else◌, ◌∙◌, ap}
use Rattle.std.specs.Prelude.{Option, is_some}
use Rattle.qn_cluster.specs.declared.waiting.Waiting.{Waiting}
use Rattle.qn_cluster.specs.Seen.{waiting_of}
use Rattle.qn_model.specs.declared.configuration.Settings.{Settings}
use Rattle.qn_model.specs.declared.entries.What.{What}
use Rattle.qn_model.specs.declared.life.Phase.{Phase}
use Rattle.qn_model.specs.declared.life.Why.{Why}
use Rattle.qn_model.specs.declared.outputs.DiskOp.{DiskOp}
use Rattle.qn_model.specs.declared.votes.Answer.{Answer}
use Rattle.qn_model.specs.Log.{op_out}
use Rattle.qn_model.specs.Moments.{is_holder}
use Rattle.qn_model.specs.Steps.{answer_now, why_now}
use Rattle.qn_model.specs.World.{World, node_at}
use Rattle.qn_world.specs.declared.pending.Pending.{Pending}
use Rattle.qn_world.specs.Pending.{is_op_out, pending_of}
use Rattle.qn_world.specs.Seen.{phase_now, seen_of}

out_if : (on : Bool) (op : Option DiskOp) → is_some (if on then op else None) ≡ (on && is_some op)
out_if true op = refl
out_if false op = refl

-- what is pending at a node is that of the definitions where each part is
pub pending-parts : (s : Settings) (i : ℕ) (d : World) (waiting : Waiting) (took : Option What) (out landed : Bool)
    → waiting ≡ waiting_of (node_at s i d) → took ≡ d.took i → out ≡ is_some waiting.op → landed ≡ (is_some waiting.op && is_some took)
    → record {
      running = waiting.running;
      fed = waiting.fed;
      decided = waiting.decided;
      out = out;
      landed = landed;
      stop_due = waiting.stop_due;
    } ≡ pending_of s i d
pending-parts s i d waiting took out landed waits takes outs lands =
    let op_is : is_some waiting.op ≡ is_op_out (node_at s i d) = ap (λ w. is_some w.op) waits ∙ out_if (node_at s i d).on (op_out (node_at s i d).log) in
    let all_out : out ≡ is_op_out (node_at s i d) = outs ∙ op_is in
    let all_landed : landed ≡ (is_op_out (node_at s i d) && is_some (d.took i)) =
    lands ∙ (ap (λ b. b && is_some took) op_is ∙ ap (λ took. is_op_out (node_at s i d) && is_some took) takes) in
    rw (waits, all_out, all_landed)

-- what is shown of a node is that of the definitions where each part is
pub seen-parts : (s : Settings) (rank : ℕ) (d : World) (pending : Pending) (life : Phase) (left : ℕ) (count : Answer) (lacks : Why) (held : Bool)
    → pending ≡ pending_of s rank d → life ≡ phase_now s (node_at s rank d) → left ≡ length (d.left rank)
    → count ≡ answer_now s (node_at s rank d) → lacks ≡ why_now s rank (node_at s rank d) → held ≡ is_holder s d.moments rank
    → record {
      running = pending.running;
      phase = life;
      fed = pending.fed;
      decided = pending.decided;
      out = pending.out;
      landed = pending.landed;
      stop_due = pending.stop_due;
      leftovers = left;
      answer = count;
      why = lacks;
      holds = held;
    } ≡ seen_of s rank d
seen-parts s rank d pending life left count lacks held pendings lives lefts counts whys holds = rw (pendings, lives, lefts, counts, whys, holds)

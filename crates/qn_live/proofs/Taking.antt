-- An entry that was taken in, after what follows in the turn.
use Rattle.std.proofs.Common.{◌≡◌, sym, ap, ◌∙◌, subst, ℕ, List}
use Rattle.qn_base.specs.declared.ids.Rank.{Rank}
use Rattle.qn_model.specs.declared.configuration.Settings.{Settings}
use Rattle.qn_model.specs.declared.entries.Entry.{Entry}
use Rattle.qn_model.specs.declared.outputs.Out.{Out}
use Rattle.qn_model.specs.Log.{Line}
use Rattle.qn_model.specs.NodeOutputs.{newest_outs, with_entry}
use Rattle.qn_node.specs.declared.node.Node.{Node}
use Rattle.qn_live.specs.declared.run.NodeRun.{NodeRun}
use Rattle.qn_live.specs.Machine.{KeepsEntry, StandsFor, TookIn, last_entry}

-- what keeps the entry of a run keeps that it was taken in
pub took_on :
    (before after : NodeRun) (log : List Line) (tick : ℕ)
    → after.settings ≡ before.settings
    → after.me ≡ before.me
    → KeepsEntry before after
    → TookIn before log tick
    → TookIn after log tick
took_on before after log tick settings rank keeps took =
    let P : Settings → Rank → Node → Entry → Type 0 =
    λ s me node entry. StandsFor s me.0 node entry.tick (with_entry s me.0 log entry) in
    let Q : Settings → Rank → Entry → List Out → Type 0 =
    λ s me entry outs. outs ≡ newest_outs (with_entry s me.0 log entry) in
    record {
      at = ap (λ entry. entry.tick) keeps.entry ∙ took.at;
      stands =
          subst (λ s. P s after.me after.node (last_entry after)) (sym settings)
          (subst (λ me. P before.settings me after.node (last_entry after)) (sym rank)
          (subst (λ node. P before.settings before.me node (last_entry after)) (sym keeps.node)
          (subst (λ entry. P before.settings before.me before.node entry) (sym keeps.entry) took.stands)));
      outs =
          subst (λ s. Q s after.me (last_entry after) after.outs) (sym settings)
          (subst (λ me. Q before.settings me (last_entry after) after.outs) (sym rank)
          (subst (λ entry. Q before.settings before.me entry after.outs) (sym keeps.entry)
          (subst (λ outs. Q before.settings before.me (last_entry before) outs) (sym keeps.outs) took.outs)));
    }

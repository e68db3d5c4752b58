use Rattle.std.proofs.Common.{◌≡◌, sym, subst, ◌∙◌}
use Rattle.std.specs.Prelude.{All}
use Rattle.qn_model.specs.Fitting.{read_as}
use Rattle.qn_model.specs.NodeVotes.{votes}
use Rattle.qn_model.specs.NodeOutputs.{newest_outs, with_entry}
use Rattle.qn_node.specs.Outputs.{IsNodeOutput}
use Rattle.qn_node.specs.Stage.{StageFor}
use Rattle.qn_node.specs.Tally.{TallyFor}
use Rattle.qn_node.proofs.Ranks.{entry_ranks}
use Rattle.qn_node.proofs.Stages.{claims_at}
use Rattle.qn_node.proofs.node.Node.step.Goals as goal

pub returns-clause-stands : goal.returns-clause-stands
unfolding with_entry
returns-clause-stands c = λ s me log h before.
    let old = c.args.self.now in
    let entry = c.args.entry in
    let at = subst (λ m. StageFor old.stage old.own.settings m log) (sym h.has_rank) (subst (λ x. StageFor old.stage x me log) (sym h.has_settings) h.stands) in
    let counts = subst (λ x. TallyFor old.tally x (votes log)) (sym h.has_settings) h.counts in
    record {
      has_settings = h.has_settings;
      has_rank = h.has_rank;
      is_configured = h.is_configured;
      knows = c.claims-self.ensures ∙ claims_at old.stage old.own.settings old.own.me.0 log at;
      is_inside = c.law_asked_inside.ensures.more s me log entry.tick (read_as s me log entry.what) h.is_inside;
      counts =
          subst (λ x. TallyFor c.step.new.tally x (votes (with_entry x me log entry))) h.has_settings
          (subst (λ m. TallyFor c.step.new.tally old.own.settings (votes (with_entry old.own.settings m log entry))) h.has_rank
          (c.step.ensures.counts log at counts));
      stands =
          subst (λ x. StageFor c.step.new.self x me (with_entry x me log entry)) h.has_settings
          (subst (λ m. StageFor c.step.new.self old.own.settings m (with_entry old.own.settings m log entry)) h.has_rank
          (c.step.ensures.stands log at counts h.is_inside before));
    }

pub returns-clause-ranks : goal.returns-clause-ranks
returns-clause-ranks c = λ s me log h before.
    let old = c.args.self.now in
    let entry = c.args.entry in
    let at = subst (λ m. StageFor old.stage old.own.settings m log) (sym h.has_rank) (subst (λ x. StageFor old.stage x me log) (sym h.has_settings) h.stands) in
    let counts = subst (λ x. TallyFor old.tally x (votes log)) (sym h.has_settings) h.counts in
    let outs = subst (λ x. c.step.new.outs ≡ newest_outs (with_entry x me log entry)) h.has_settings
    (subst (λ m. c.step.new.outs ≡ newest_outs (with_entry old.own.settings m log entry)) h.has_rank
    (c.step.ensures.outs log at counts before)) in
    subst (All (IsNodeOutput s)) (sym outs) (entry_ranks s me log entry h.is_configured)

use Rattle.std.proofs.Common.{ℕ, Option}
use Rattle.qn_model.specs.declared.configuration.Settings.{Settings}
use Rattle.qn_running.specs.declared.commands.node.NodeWords.{NodeWords}
use Rattle.qn_live.specs.declared.node_images.NodeImages.{NodeImages}
use Rattle.qn_live.specs.declared.node_images.NodeImages.TheVariants.{One, Three}
use Rattle.qn_running.specs.Commands.Node.{EndsWithCause}
use Rattle.qn_running.proofs.commands.node.law_node_ends.Goals as goal

pub returns : goal.returns
returns c = of_images
  where
    of_images : (images : NodeImages) (words : NodeWords) (polls : Option ℕ) (settings : Settings) (rank : ℕ) → EndsWithCause images words polls settings rank
    of_images One words polls settings rank = record {
      call = c.law_end_causes.ensures.calls settings rank words.clean words.leave polls words.turns;
      clock = c.law_end_causes.ensures.clock settings rank words.clean words.leave polls words.turns;
      halted = λ calls ran cause follows is failure.
          (c.law_boot_halted.ensures settings rank words.clean words.leave polls words.turns calls ran cause follows is failure).0;
    }
    of_images Three words polls settings rank = record {
      call = c.law_triple_end_causes.ensures.calls settings rank words.clean words.leave polls words.turns;
      clock = c.law_triple_end_causes.ensures.clock settings rank words.clean words.leave polls words.turns;
      halted = λ calls ran cause follows is failure.
          (c.law_triple_boot_halted.ensures settings rank words.clean words.leave polls words.turns calls ran cause follows is failure).0;
    }

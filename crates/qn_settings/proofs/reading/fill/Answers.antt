use Rattle.std.proofs.Common.{arith, ◌∙◌, ap}
use Rattle.qn_model.specs.Settings.{all_votes}
use Rattle.qn_settings.proofs.NodeLemmas.{all_votes-bound}
use Rattle.qn_settings.proofs.reading.fill.Goals as goal

pub device-device-requires : goal.device-device-requires
device-device-requires c =
    omega (arith, all_votes-bound c.args.nodes c.requires.few c.requires.votes, c.all_votes-node_votes.ensures ∙ ap all_votes c.as_slice.ensures.value)

pub overflow_add-node_votes : goal.overflow_add-node_votes
overflow_add-node_votes c =
    omega (arith, all_votes-bound c.args.nodes c.requires.few c.requires.votes, c.all_votes-node_votes.ensures ∙ ap all_votes c.as_slice.ensures.value)

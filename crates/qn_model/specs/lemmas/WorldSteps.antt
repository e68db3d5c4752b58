-- What a schedule on values computes with: a row that says `unfolding world_steps` opens every definition that a step of the
-- world stands on.
use Rattle.std.specs.Prelude.{Bool, true}
use Rattle.qn_model.specs.Log.{op_out, ask_place, ask_tick, begins_clean, claimed, slot_number, timing}
use Rattle.qn_model.specs.NodeVotes.{view, install, votes}
use Rattle.qn_model.specs.Votes.{answer_at, present_view, view_tick, is_released, expected_votes, device_yes}
use Rattle.qn_model.specs.Phases.{phase}
use Rattle.qn_model.specs.Holding.{holds, stop_due, may_stop}
use Rattle.qn_model.specs.Hearing.{told}
use Rattle.qn_model.specs.Licences.{out_time, slot_read_since, reset_since}
use Rattle.qn_model.specs.Unmet.{least_from, unmet}
use Rattle.qn_model.specs.Wanted.{mail_tick, wanted_with_delay}
use Rattle.qn_model.specs.NodeOutputs.{moment, acts, outs_at, with_entry}
use Rattle.qn_model.specs.Moments.{logged, handed, booted, time, node, given_out, packets}
use Rattle.qn_model.specs.World.{taken, failed}
use Rattle.qn_model.specs.Rules.{is_well_formed, refusal}
use Rattle.qn_model.specs.Steps.{step}

unfoldable pub log_steps : Bool
unfolding op_out ask_place ask_tick claimed timing begins_clean slot_number
log_steps = true

unfoldable pub vote_steps : Bool
unfolding view install votes answer_at present_view view_tick is_released expected_votes device_yes
vote_steps = true

unfoldable pub start_steps : Bool
unfolding phase holds stop_due may_stop told out_time slot_read_since reset_since least_from unmet mail_tick wanted_with_delay
start_steps = true

unfoldable pub node_steps : Bool
unfolding log_steps vote_steps start_steps moment acts outs_at with_entry
node_steps = true

unfoldable pub world_steps : Bool
unfolding node_steps logged handed booted time node given_out packets taken failed is_well_formed refusal step
world_steps = true

use Rattle.std.proofs.Common.{arith}
use Rattle.qn_sched.proofs.kept_state.KeptState.add_round.Goals as goal

pub add_outs-requires : goal.add_outs-requires
add_outs-requires c =
    let room = c.requires.room in
    let more = c.add.ensures.len in
    let front = c.split_at.ensures.front_len in
    let back = c.split_at.ensures.back_len in
    let short = c.as_slice.ensures.fits in
    omega arith

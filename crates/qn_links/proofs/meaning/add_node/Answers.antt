use Rattle.std.proofs.Common.{◌++◌}
use Rattle.std.specs.Int.{bytes_high_first}
use Rattle.qn_links.specs.Meaning.{address_bytes, node_bytes}
use Rattle.qn_links.proofs.Fields.{adds_two}
use Rattle.qn_links.proofs.meaning.add_node.Goals as goal

pub returns-clause-value : goal.returns-clause-value
unfolding node_bytes
returns-clause-value c =
    let old = c.args.into.now.items in
    let one = c.add_u32.new.into.items in
    let two = c.add_u32-2.new.into.items in
    let three = c.add_u64.new.into.items in
    let all = c.add_address.new.into.items in
    let id = bytes_high_first 4 c.args.node.id.0 in
    let votes = bytes_high_first 4 c.args.node.votes in
    let delay = bytes_high_first 8 c.args.node.fence_delay in
    let address = address_bytes c.args.address in
    adds_two old one all id (votes ++ (delay ++ address)) c.add_u32.ensures
    (adds_two one two all votes (delay ++ address) c.add_u32-2.ensures
    (adds_two two three all delay address c.add_u64.ensures c.add_address.ensures.value))

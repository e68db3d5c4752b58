use Rattle.std.proofs.Common.{[], ◌∷◌, ◌++◌, ap, sym, ◌∙◌}
use Rattle.std.specs.Int.{bytes_high_first}
use Rattle.qn_links.specs.Meaning.{device_bytes, arbiter_bytes}
use Rattle.qn_links.proofs.Fields.{adds_two}
use Rattle.qn_links.proofs.meaning.add_device.Goals as goal

pub returns-in-Some-clause-value : goal.returns-in-Some-clause-value
returns-in-Some-clause-value c =
    let old = c.args.into.now.items in
    let one = c.add-in-Some.new.into.items in
    let two = c.add_u32.new.into.items in
    let three = c.add_u64.new.into.items in
    let all = c.add_arbiter.new.into.items in
    let votes = bytes_high_first 4 c.in-Some.device.votes in
    let timeout = bytes_high_first 8 c.in-Some.device.timeout in
    let arbiter = arbiter_bytes c.args.arbiter in
    adds_two old one all (1 ∷ []) (votes ++ (timeout ++ arbiter)) c.add-in-Some.ensures.text
    (adds_two one two all votes (timeout ++ arbiter) c.add_u32.ensures
    (adds_two two three all timeout arbiter c.add_u64.ensures c.add_arbiter.ensures.value))
    ∙ ap (λ d. old ++ device_bytes d c.args.arbiter) (sym c.in-Some.is)

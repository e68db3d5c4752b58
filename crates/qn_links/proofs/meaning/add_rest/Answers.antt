use Rattle.std.proofs.Common.{◌≡◌, [], ◌∷◌, ◌++◌, ap, ◌∙◌}
use Rattle.std.specs.Int.{bytes_high_first}
use Rattle.qn_links.specs.Meaning.{device_bytes, flag_byte, rest_bytes, tie_bytes}
use Rattle.qn_links.proofs.Fields.{adds_two}
use Rattle.qn_links.proofs.meaning.add_rest.Goals as goal

pub returns : goal.returns
unfolding rest_bytes
returns c =
    let s = c.args.settings.now in
    let old = c.args.into.now.items in
    let one = c.add.new.into.items in
    let two = c.add_u64.new.into.items in
    let three = c.add_u64-2.new.into.items in
    let four = c.add_device.new.into.items in
    let all = c.add_tie.new.into.items in
    let flags = flag_byte s.two_node ∷ flag_byte s.wait_for_all ∷ flag_byte s.last_man_standing ∷ [] in
    let window = bytes_high_first 8 s.window in
    let expected = bytes_high_first 8 s.expected in
    let device = device_bytes s.device c.args.arbiter in
    let tie = tie_bytes s.nodes s.tie in
    let added : one ≡ old ++ flags = c.add.ensures.text
    ∙ ap (λ l. old ++ l) (λ i. c.flag-two_node.ensures i ∷ c.flag-wait_for_all.ensures i ∷ c.flag-last_man_standing.ensures i ∷ []) in
    let its_tie : all ≡ four ++ tie = c.add_tie.ensures ∙ ap (λ t. four ++ tie_bytes s.nodes t) c.as_ref.ensures.value in
    adds_two old one all flags (window ++ (expected ++ (device ++ tie))) added
    (adds_two one two all window (expected ++ (device ++ tie)) c.add_u64.ensures
    (adds_two two three all expected (device ++ tie) c.add_u64-2.ensures
    (adds_two three four all device tie c.add_device.ensures.value its_tie)))

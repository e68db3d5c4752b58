-- The fields of a well formed poll, and of a well formed reply, are read back from its bytes.
use Rattle.std.proofs.Common.{◌≡◌, ◌^◌, ℕ, true, ◌==◌, cond, List, [], ◌∷◌, ◌++◌, length, refl}
use Rattle.std.specs.Int.{bytes_high_first}
use Rattle.std.proofs.lemmas.Bool.{and_parts, ltb-true}
use Rattle.byteorder.specs.Numbers.{big_number-reads_back}
use Rattle.qn_base.specs.declared.ids.View.{View}
use Rattle.qn_base.specs.lemmas.Bools.{cond_is_one}
use Rattle.qn_wire.specs.Packets.{is_view, view_bytes}
use Rattle.qn_wire.specs.Reading.{view_at}
use Rattle.qn_safety.specs.declared.polls.Poll.{Poll}
use Rattle.qn_safety.specs.declared.polls.Reply.{Reply}
use Rattle.qn_polls.specs.Polls.{is_poll, is_reply, poll_bytes, reply_bytes}
use Rattle.qn_polls.specs.Reading.{poll_at, reply_at}

same_view : (first second : View) → first.members.0 ≡ second.members.0 → first.id ≡ second.id → first ≡ second
same_view first second same_members same_id = rw (same_members, same_id) refl

view_back : (view : View) → is_view view ≡ true → view_at 0 (view_bytes view) ≡ view
view_back view is =
    let tests = and_parts _ _ is in
    let id_fits = ltb-true view.id (2 ^ 64) (and_parts _ _ tests.0).0 in
    let members_fit = ltb-true view.members.0 (2 ^ 32) tests.1 in
    same_view (view_at 0 (view_bytes view)) view
    (big_number-reads_back 4 view.members.0 [] members_fit)
    (big_number-reads_back 8 view.id (bytes_high_first 4 view.members.0) id_fits)

same_poll : (first second : Poll) → first.from ≡ second.from → first.number ≡ second.number → first.incarnation ≡ second.incarnation → first.install ≡ second.install → first.view ≡ second.view → first ≡ second
same_poll first second from number incarnation install view = rw (from, number, incarnation, install, view) refl

pub poll_at-poll_bytes : (poll : Poll) → is_poll poll ≡ true → poll_at (poll_bytes poll) ≡ poll
unfolding poll_bytes
poll_at-poll_bytes poll is =
    let four = and_parts _ _ is in
    let three = and_parts _ _ four.0 in
    let two = and_parts _ _ three.0 in
    let one = and_parts _ _ two.0 in
    let view = view_bytes poll.view in
    same_poll (poll_at (poll_bytes poll)) poll refl
    (big_number-reads_back 8 poll.number (bytes_high_first 8 poll.incarnation ++ bytes_high_first 8 poll.install ++ view) (ltb-true poll.number (2 ^ 64) one.1))
    (big_number-reads_back 8 poll.incarnation (bytes_high_first 8 poll.install ++ view) (ltb-true poll.incarnation (2 ^ 64) two.1))
    (big_number-reads_back 8 poll.install view (ltb-true poll.install (2 ^ 64) three.1))
    (view_back poll.view four.1)

pub poll_is_long : (poll : Poll) → (length (poll_bytes poll) == 40) ≡ true
unfolding poll_bytes
poll_is_long poll = refl

same_reply : (first second : Reply) → first.to ≡ second.to → first.number ≡ second.number → first.incarnation ≡ second.incarnation → first.install ≡ second.install → first.agrees ≡ second.agrees → first ≡ second
same_reply first second to number incarnation install agrees = rw (to, number, incarnation, install, agrees) refl

pub reply_at-reply_bytes : (reply : Reply) → is_reply reply ≡ true → reply_at (reply_bytes reply) ≡ reply
unfolding reply_bytes
reply_at-reply_bytes reply is =
    let three = and_parts _ _ is in
    let two = and_parts _ _ three.0 in
    let one = and_parts _ _ two.0 in
    let answer : List ℕ = cond reply.agrees 1 0 ∷ [] in
    same_reply (reply_at (reply_bytes reply)) reply refl
    (big_number-reads_back 8 reply.number (bytes_high_first 8 reply.incarnation ++ bytes_high_first 8 reply.install ++ answer) (ltb-true reply.number (2 ^ 64) one.1))
    (big_number-reads_back 8 reply.incarnation (bytes_high_first 8 reply.install ++ answer) (ltb-true reply.incarnation (2 ^ 64) two.1))
    (big_number-reads_back 8 reply.install answer (ltb-true reply.install (2 ^ 64) three.1))
    (cond_is_one reply.agrees)

pub reply_is_long : (reply : Reply) → (length (reply_bytes reply) == 29) ≡ true
unfolding reply_bytes
reply_is_long reply = refl

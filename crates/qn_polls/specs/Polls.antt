-- The bytes of polls and of their replies: this project's profile. As the packets of the nodes they are `QN`, a byte for their kind,
-- and then their fields; a rank is one byte, and numbers are big-endian.
use Rattle.std.specs.Prelude.{◌≡◌, ℕ, Bool, IsTrue, ◌&&◌, ◌^◌, nat_lt, List, [], ◌∷◌, ◌++◌, cond}
use Rattle.std.specs.Int.{bytes_high_first}
use Rattle.qn_wire.specs.Packets.{head_bytes, is_rank, is_view, view_bytes}
use Rattle.qn_safety.specs.declared.polls.Poll.{Poll}
use Rattle.qn_safety.specs.declared.polls.Reply.{Reply}

-- number, incarnation and install number, in eight bytes each
abbrev pub numbers_bytes : ℕ → ℕ → ℕ → List ℕ
numbers_bytes number incarnation install =
    bytes_high_first 8 number ++ bytes_high_first 8 incarnation ++ bytes_high_first 8 install

-- the bytes of a poll: kind 6, from, number, incarnation, install number, view
unfoldable pub poll_bytes : Poll → List ℕ
poll_bytes poll =
    head_bytes 6 ++ poll.from.0 ∷ [] ++ numbers_bytes poll.number poll.incarnation poll.install ++ view_bytes poll.view

-- the bytes of a reply: kind 7, to, number, incarnation, install number, and 1 for yes or 0 for no
unfoldable pub reply_bytes : Reply → List ℕ
reply_bytes reply =
    head_bytes 7 ++ reply.to.0 ∷ [] ++ numbers_bytes reply.number reply.incarnation reply.install ++ cond reply.agrees 1 0 ∷ []

-- each field of the poll is in its range
abbrev pub is_poll : Poll → Bool
is_poll poll =
    is_rank poll.from && nat_lt poll.number (2 ^ 64) && nat_lt poll.incarnation (2 ^ 64) && nat_lt poll.install (2 ^ 64) && is_view poll.view

-- each field of the reply is in its range
abbrev pub is_reply : Reply → Bool
is_reply reply =
    is_rank reply.to && nat_lt reply.number (2 ^ 64) && nat_lt reply.incarnation (2 ^ 64) && nat_lt reply.install (2 ^ 64)

-- the bytes are the spelling of this poll, which is well formed
pub record SpellsPoll (bytes : List ℕ) (poll : Poll) : Type 0 where
  pub well_formed : IsTrue (is_poll poll)
  pub spelling : bytes ≡ poll_bytes poll

-- the bytes are the spelling of this reply, which is well formed
pub record SpellsReply (bytes : List ℕ) (reply : Reply) : Type 0 where
  pub well_formed : IsTrue (is_reply reply)
  pub spelling : bytes ≡ reply_bytes reply

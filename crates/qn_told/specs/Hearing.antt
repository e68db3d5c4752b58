-- Which of the other nodes are heard (this project's profile, LIVE.md "The journal").
use Rattle.std.specs.Prelude.{ℕ, ◌-◌, ◌*◌, ◌^◌, ◌||◌, Bool, true, false, not, List, Option, Some, None, min, nat_le, slice_index_or, if◌then◌else◌}
use Rattle.qn_told.specs.declared.peers.Peer.{Peer}

-- a node of which nothing came
abbrev pub unheard : Peer
unheard = record { hello = None; is_seen = false; lost_network = None }

abbrev pub of_rank : List Peer → ℕ → Peer
of_rank peers rank = slice_index_or peers rank unheard

-- a Hello of it came
abbrev pub heard_at : ℕ → Peer → Peer
heard_at tick peer = record peer { hello = Some tick; is_seen = true }

-- three loops are over
abbrev pub is_short : ℕ → ℕ → Bool
is_short silent loop_ms = nat_le silent (min (2 ^ 64 - 1) (loop_ms * 3))

-- for how long it is silent, of one that was heard
abbrev pub silence_of : Bool → Option ℕ → ℕ → ℕ → Option ℕ
silence_of is_seen None tick loop_ms = None
silence_of is_seen (Some hello) tick loop_ms = if not is_seen || is_short (tick - hello) loop_ms then None else Some (tick - hello)

abbrev pub lost_after : Peer → ℕ → ℕ → Option ℕ
lost_after peer tick loop_ms = silence_of peer.is_seen peer.hello tick loop_ms

-- it is told once
abbrev pub seen_after : Bool → Option ℕ → Bool
seen_after is_seen None = is_seen
seen_after is_seen (Some silent) = false

abbrev pub after_losing : Peer → ℕ → ℕ → Peer
after_losing peer tick loop_ms = record peer { is_seen = seen_after peer.is_seen (lost_after peer tick loop_ms) }
